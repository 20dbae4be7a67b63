-- What was read of a line of PATTERNS, in the text's own names. Assumes nothing.
use Prim.Native.Nat.{ℕ}
use mathlib.Core.Path.{◌≡◌, ap, ◌∙◌}
use mathlib.Core.List.{List}
use lib.ListN.{take}
use lib.Ieee.{Float}
use Rattle.leaf_fields.specs.Fields.{name_in, Fits}
use Rattle.leaf_fields.specs.declared.Span.{Span}
use Rattle.scope.specs.Values.{Read, good}
use Rattle.scope.specs.Series.{PatternFields}
use Rattle.parse_fields.proofs.TextLaws.{name-text}

abbrev pub pattern_from : List ℕ → Span → List Float → PatternFields
pattern_from l id xs = record { id = name_in l id; values = xs }

pub pattern-text : (text : List ℕ) (end : ℕ) {o : Read PatternFields} {id : Span} {xs : List Float} → o ≡ good (pattern_from (take end text) id xs)
    → Fits (take end text) id → o ≡ good (pattern_from text id xs)
pattern-text text end {o} {id} {xs} e a =
    let q : pattern_from (take end text) id xs ≡ pattern_from text id xs = rw (name-text text end id a) in
    e ∙ ap good q
