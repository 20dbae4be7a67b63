-- What an answer says of the tables, and how long they are: for whoever stores, or calls what stores. Assumes nothing.
use Rattle.std.specs.Prelude.{Err, Ok, Result}
use Prim.Native.Nat.{ℕ, ◌+◌, ◌≤◌}
use native.Mathlib.Omega.{arith}
use mathlib.Core.Path.{◌≡◌, refl, ap, subst}
use mathlib.Core.List.{List, ◌++◌}
use lib.ListN.{length, take, drop, length-append, length-take, length-drop}
use lib.Ieee.{Float}
use Rattle.scope.specs.Records.{Network, counts_of}
use Rattle.scope.specs.Values.{Read, good, bad}
use Rattle.scope.specs.Layout.{record_words, room_numbers}
use Rattle.scope.specs.declared.Counts.{Counts}
use Rattle.scope.specs.declared.Reason.{Reason}
use Rattle.table_rows.specs.Table.{splice}
use Rattle.table_rows.specs.Holding.{Holds, Sound, After}
use Rattle.table_rows.proofs.EmptyLaws.{words_long, numbers-long}

-- ---- lengths
pub splice-long : {A : Type 0} (xs : List A) (a : ℕ) (rec : List A) → a + length rec ≤ length xs → length (splice xs a rec) ≡ length xs
splice-long xs a rec h =
    omega (arith, length-append (take a xs ++ rec) (drop (a + length rec) xs), length-append (take a xs) rec, length-take a xs, length-drop (a + length rec) xs)

module _ {text : List ℕ} {s : Counts} {w : List ℕ} {f : List Float} where
  pub holds-words : {m : Network} → Holds text m s w f → length w ≡ record_words
  holds-words h = words_long h.words

  pub holds-numbers : {m : Network} → Holds text m s w f → length f ≡ room_numbers
  holds-numbers h = numbers-long h.words.known h.numbers

  pub sound-words : Sound text s w f → length w ≡ record_words
  sound-words g = holds-words g.holds

  pub sound-numbers : Sound text s w f → length f ≡ room_numbers
  sound-numbers g = holds-numbers g.holds

-- ---- answers
module _ (text w w' : List ℕ) (f f' : List Float) where
  pub after-stored : (o : Read Network) (r : Result Counts Reason) (t : Counts) → After text o r w f w' f' → r ≡ Ok t → (m : Network) × (o ≡ good m) × Holds text m t w' f'
  after-stored (good m) r t a e = let q : counts_of m ≡ t = let p = a.0 in cc in (m, refl, subst (λ (x : Counts). Holds text m x w' f') q a.1)
  after-stored (bad n) r t a e = absurd (let z : ◌≡◌ {A = ℕ} 0 1 = let p = a.0 in cc in omega arith)

  pub after-refused : (o : Read Network) (r : Result Counts Reason) (n : Reason) → After text o r w f w' f' → r ≡ Err n → (o ≡ bad n) × (w' ≡ w) × (f' ≡ f)
  after-refused (good m) r n a e = absurd (let z : ◌≡◌ {A = ℕ} 0 1 = let p = a.0 in cc in omega arith)
  after-refused (bad k) r n a e = let q : k ≡ n = let p = a.0 in cc in (ap bad q, a.1, a.2)
