-- Looking a name up, one row at a time. Assumes nothing.
use Rattle.std.specs.Prelude.{None, Option, Some}
use Prim.Native.Nat.{ℕ, suc, ◌+◌, ◌≤◌, ◌<◌}
use native.Mathlib.Omega.{arith}
use mathlib.Core.Path.{◌≡◌, refl, sym, ap, ◌∙◌}
use mathlib.Core.Bool.{Bool, true, false, cond}
use mathlib.Core.List.{List, [], ◌∷◌}
use lib.ListN.{length, drop, get_or, drop_of_length-le}
use lib.Seq.{drop-cons}
use Rattle.leaf_fields.specs.Fields.{Name, part}
use Rattle.leaf_letters.specs.Words.{same}
use Rattle.leaf_letters.proofs.WordLaws.{same-equal, same-iff}
use Rattle.scope.specs.Records.{lookup_from, lookup, no_name}
use Rattle.scope.specs.Tables.{key_of, id_words}
use Rattle.table_rows.specs.Holding.{Row, Below}
use Rattle.table_keys.proofs.KeyLaws.{Bytes, bytes-part, one_key}

-- ---- a row
module _ {text w : List ℕ} {at : ℕ} {n : Name} (r : Row text w at n) where
  -- the bytes that it points at
  pub row-letters : part (get_or w at 0) (get_or w at 0 + get_or w (at + 1) 0) text ≡ n.letters
  row-letters = rw (r.place, r.long) r.sits.there

  -- a name with another key, or of another length, has other letters
  other : (name : List ℕ) → (n.letters ≡ name → ⊥) → false ≡ same n.letters name
  other name h = go (same n.letters name) refl
    where
      go : (t : Bool) → same n.letters name ≡ t → false ≡ t
      go false e = refl
      go true e = absurd (h (same-equal n.letters name e))

  pub other_key : (name : List ℕ) → (get_or w (at + 2) 0 ≡ key_of name → ⊥) → false ≡ same n.letters name
  other_key name h = other name (λ e. h (r.key ∙ ap key_of e))

  pub other_length : (name : List ℕ) → (get_or w (at + 1) 0 ≡ length name → ⊥) → false ≡ same n.letters name
  other_length name h = other name (λ e. h (r.long ∙ ap length e))

  -- a short name with its key and of its length has its letters
  pub key-tells : (name : List ℕ) → Bytes text → Bytes name → get_or w (at + 2) 0 ≡ key_of name → get_or w (at + 1) 0 ≡ length name → get_or w (at + 1) 0 ≤ 8
      → true ≡ same n.letters name
  key-tells name p q k l s =
      let b : Bytes n.letters = rw (← row-letters) (bytes-part (get_or w at 0) (get_or w at 0 + get_or w (at + 1) 0) text p) in
      sym ((same-iff n.letters name).1 (one_key n.letters name b q (sym r.long ∙ l) (omega (arith, s, r.long)) (sym r.key ∙ k)))

-- ---- the rows that are left
module _ (ns : List Name) (i : ℕ) (word : List ℕ) where
  pub look-here : i < length ns → same (get_or ns i no_name).letters word ≡ true → lookup_from i (drop i ns) word ≡ Some i
  unfolding lookup_from
  look-here h e = rw (drop-cons ns i no_name h, e)

  pub look-on : i < length ns → same (get_or ns i no_name).letters word ≡ false → lookup_from i (drop i ns) word ≡ lookup_from (suc i) (drop (suc i) ns) word
  unfolding lookup_from
  look-on h e = rw (drop-cons ns i no_name h, e)

  pub look-end : length ns ≤ i → lookup_from i (drop i ns) word ≡ None
  unfolding lookup_from
  look-end h = rw (drop_of_length-le ns {i = i} h)

-- what is found is one of the names
from-below : (j : ℕ) (ns : List Name) (word : List ℕ) (i : ℕ) → lookup_from j ns word ≡ Some i → i < j + length ns
unfolding lookup_from
from-below j [] word i e = let z : ◌≡◌ {A = ℕ} 0 1 = cc in absurd (omega arith)
from-below j (n ∷ ns) word i e = go (same n.letters word) e (from-below (suc j) ns word i)
  where
    go : (t : Bool) → cond t (Some j) (lookup_from (suc j) ns word) ≡ Some i → (lookup_from (suc j) ns word ≡ Some i → i < suc j + length ns) → i < j + suc (length ns)
    go true e f = let k : j ≡ i = cc in omega arith
    go false e f = omega (arith, f e)

pub found_below : (ns : List Name) (word : List ℕ) {i : ℕ} → lookup ns word ≡ Some i → i < length ns
found_below ns word {i} e = omega (arith, from-below 0 ns word i e)

-- what was found is below any bound of the names
pub below-bound : (ns : List Name) (word : List ℕ) (bound : ℕ) (f : Option ℕ) → f ≡ lookup ns word → length ns ≤ bound → Below bound f
below-bound ns word bound (Some i) e h = omega (arith, found_below ns word (sym e))
below-bound ns word bound None e h = tt

-- the name as its place in the text has it, and the answer as a branch takes it
pub told-found : (ns : List Name) {a b : List ℕ} {r r' : Option ℕ} → a ≡ b → r ≡ lookup ns a → r ≡ r' → lookup ns b ≡ r'
told-found ns e h k = rw (← e) (sym h ∙ k)

-- the key among the words of a name is that of its letters
pub told-key : (n : Name) {who l : List ℕ} → who ≡ id_words n → l ≡ n.letters → get_or who 2 0 ≡ key_of l
told-key n e k = ap (λ (w : List ℕ). get_or w 2 0) e ∙ ap key_of (sym k)
