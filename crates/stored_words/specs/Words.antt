-- What the words of a name, a place and an amount stand for. Assumes nothing.
use Rattle.std.specs.Prelude.{ℕ, ◌+◌, ◌-◌, cond, length, eqb, ltb, Some, None, Option}
use Rattle.std.specs.Prelude as code
use Rattle.leaf_fields.specs.Fields.{Name}
use Rattle.leaf_fields.specs.declared.Span.{Span}

-- a span by its place and its length; one that would end beyond every place is empty
abbrev pub span_from : ℕ → ℕ → Span
span_from at long = cond (ltb (18446744073709551615 - at) long) (record { at = at; end = at }) (record { at = at; end = at + long })

abbrev pub field_from : ℕ → ℕ → Option Span
field_from at long = cond (eqb long 0) None (Some (span_from at long))

abbrev pub found_from : ℕ → Option ℕ
found_from n = cond (eqb n 0) None (Some (n - 1))

abbrev pub amount_from : ℕ → ℕ → code.Option ℕ
amount_from n x = cond (eqb n 0) None (Some x)

-- ---- a name, a place and an amount of the network, as the code has it
abbrev pub name_span : Name → Span
name_span n = span_from n.at (length n.letters)

abbrev pub name_field : Option Name → Option Span
name_field None = None
name_field (Some n) = field_from n.at (length n.letters)

abbrev pub place_found : Option ℕ → Option ℕ
place_found None = None
place_found (Some i) = Some i

abbrev pub amount_of : Option ℕ → code.Option ℕ
amount_of None = None
amount_of (Some n) = Some n
