-- Where a word ends, and that digits are a part of it. Assumes nothing.
use mathlib.Core.Path.{◌≡◌, refl, sym, ap}
use mathlib.Core.Bool.{Bool, true, false, false≢true}
use mathlib.Core.List.{List, [], ◌∷◌}
use Prim.Native.Nat.{ℕ, zero, suc, ◌+◌, ◌≤◌, ◌<◌}
use native.Mathlib.Omega.{arith}
use lib.ListN.{length, drop, get_or, drop_of_length-le}
use lib.Seq.{drop-cons}
use Rattle.leaf_digits.specs.declared.Class.TheVariants.{Space, Digit}
use Rattle.leaf_digits.specs.Bytes.{is}
use Rattle.leaf_digits.specs.Digits.{digits}
use Rattle.leaf_digits.specs.Ends.{word_len, ended}
use Rattle.leaf_digits.proofs.Classes.{class-is}
use Rattle.leaf_digits.proofs.Digits.{digits-yes, digits-no, digits-nil}

pub ended-off : (s : List ℕ) (i : ℕ) → length s ≤ i → true ≡ ended (drop i s)
ended-off s i h = ap ended (sym (drop_of_length-le s h))

pub ended_at : (s : List ℕ) (i : ℕ) → i < length s → is Space (get_or s i 0) ≡ ended (drop i s)
ended_at s i h = ap ended (sym (drop-cons s i 0 h))

pub goes_on-law : (s : List ℕ) (i : ℕ) → ended (drop i s) ≡ false → i < length s
goes_on-law [] zero e = absurd (false≢true (sym e))
goes_on-law [] (suc i) e = absurd (false≢true (sym e))
goes_on-law (b ∷ t) zero e = omega arith
goes_on-law (b ∷ t) (suc i) e = let h = goes_on-law t i e in omega arith

pub word_on : (b : ℕ) (t : List ℕ) → is Space b ≡ false → word_len (b ∷ t) ≡ suc (word_len t)
unfolding word_len
word_on b t e = simp e

pub word-off : (s : List ℕ) → ended s ≡ true → word_len s ≡ 0
unfolding word_len
word-off [] e = refl
word-off (b ∷ t) e = simp e

-- digits are a part of the word
pub word-digits : (s : List ℕ) → word_len s ≡ length (digits s) + word_len (drop (length (digits s)) s)
word-digits [] = rw digits-nil (omega arith)
word-digits (b ∷ t) = go (is Digit b) refl (word-digits t)
  where
    go : (x : Bool) → is Digit b ≡ x → word_len t ≡ length (digits t) + word_len (drop (length (digits t)) t)
        → word_len (b ∷ t) ≡ length (digits (b ∷ t)) + word_len (drop (length (digits (b ∷ t))) (b ∷ t))
    go true e h = rw (digits-yes b t e, word_on b t (class-is Digit b e Space)) (omega (arith, h))
    go false e h = rw (digits-no b t e) (omega arith)
