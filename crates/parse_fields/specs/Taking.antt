-- The code's answers as those of scope's Values: what was taken, and the fields that are left. Assumes nothing.
use Rattle.leaf_decimals.specs.declared.NumberError.{NumberError}
use Rattle.std.specs.Prelude.{ℕ, ◌≡◌, List, [], ◌∷◌, Float, Err, None, Ok, Option, Result, Some}
use Rattle.leaf_decimals.specs.Numbers.{number_of}
use Rattle.leaf_fields.specs.Fields.{Name, fields_at}
pub use Rattle.leaf_fields.specs.Fields.{opt_in, MayFit}
use Rattle.scope.specs.declared.Reason.{Reason}
use Rattle.scope.specs.Values.{Read, good, bad, Took, took, refused}

-- what was taken, and the fields of l that are left; or why nothing was
abbrev pub took_in : {A : Type 0} → List ℕ → Result (A × ℕ) Reason → Took A
took_in l (Ok (a, next)) = took a (fields_at l next)
took_in l (Err why) = refused why

-- the next field of l from the place `at` on is that number, and the others stand from the place `end` on; or there is none
abbrev pub Numbered : List ℕ → ℕ → Option (Result Float NumberError × ℕ) → Type 0
Numbered l at (Some (n, end)) = (f : Name) × (fields_at l at ≡ f ∷ fields_at l end) × (n ≡ number_of f.letters)
Numbered l at None = fields_at l at ≡ []

-- the code's answer r is the definition's answer o: what was read, in the definitions' terms, and what is known of its places; or why it is refused
abbrev pub ReadAs : {A B : Type 0} → (B → A) → (B → Type 0) → Read A → Result B Reason → Type 0
ReadAs into Placed o (Ok b) = (o ≡ good (into b)) × Placed b
ReadAs into Placed o (Err why) = o ≡ bad why
