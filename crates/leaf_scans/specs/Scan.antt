-- What the scans promise: no rule of document 01 names them. Assumes nothing.
use Rattle.std.specs.Prelude.{ℕ, suc, Bool, cond, not, List, [], ◌∷◌}
use Rattle.leaf_scans.specs.Lines.{is_space}
use Rattle.leaf_scans.specs.declared.Kind.{Kind}
use Rattle.leaf_scans.specs.declared.Kind.TheVariants.{Space, Word}

-- a byte of the kind: whitespace; any other
abbrev pub is_kind : Kind → ℕ → Bool
is_kind Space b = is_space b
is_kind Word b = not (is_space b)

-- how many bytes of the kind stand at the start
unfoldable pub span_len : Kind → List ℕ → ℕ
span_len k [] = 0
span_len k (b ∷ bs) = cond (is_kind k b) (suc (span_len k bs)) 0
