-- A part of a text, and a scan for two bytes. Assumes nothing.
use Rattle.std.proofs.Common.{◌≡◌, ℕ, zero, suc, ◌+◌, ◌-◌, ◌<◌, ◌≤◌, Bool, true, false, cond, ◌||◌, eqb, List, [], ◌∷◌, length, get_or, take, drop, refl, ap, suc-add, zero-add, arith, length-drop, drop_of_length-le, length-take-le, drop-cons, eq-eqb, ne_eqb}
use native.Mathlib.Nat.{suc-sub-suc, sub-zero, zero-sub}
use lib.Seq.{take-nil}
use Rattle.leaf_words.specs.Scan.{part, either, clear_len}

-- ---- a part of a text
pub length_part : (a e : ℕ) (l : List ℕ) → e ≤ length l → length (part a e l) ≡ e - a
length_part a e l h = length-take-le (e - a) (drop a l) (omega (arith, length-drop a l))

pub drop-take : (a e : ℕ) (l : List ℕ) → drop a (take e l) ≡ part a e l
drop-take zero e l = rw sub-zero
drop-take (suc a) zero l = rw zero-sub
drop-take (suc a) (suc e) [] = rw take-nil
drop-take (suc a) (suc e) (x ∷ l) = rw suc-sub-suc (drop-take a e l)

-- ---- a scan for the bytes a and b
module _ (a b : ℕ) where
  module _ (l : List ℕ) (i : ℕ) where
    pub clear-on : i < length l → (get_or l i 0 ≡ a → ⊥) → (get_or l i 0 ≡ b → ⊥) → clear_len a b (drop i l) ≡ suc (clear_len a b (drop (suc i) l))
    unfolding clear_len
    clear-on h p q = rw (drop-cons l i 0 h, ne_eqb (get_or l i 0) a p, ne_eqb (get_or l i 0) b q)

    pub clear_first : i < length l → get_or l i 0 ≡ a → clear_len a b (drop i l) ≡ 0
    unfolding clear_len
    clear_first h p = rw (drop-cons l i 0 h, eq-eqb (get_or l i 0) a p)

    pub clear_second : i < length l → get_or l i 0 ≡ b → clear_len a b (drop i l) ≡ 0
    unfolding clear_len
    clear_second h q = rw (drop-cons l i 0 h, eq-eqb (get_or l i 0) b q) (go (eqb (get_or l i 0) a))
      where
        go : (t : Bool) → cond (t || true) 0 (suc (clear_len a b (drop (suc i) l))) ≡ 0
        go true = refl
        go false = refl

    pub clear-end : length l ≤ i → clear_len a b (drop i l) ≡ 0
    unfolding clear_len
    clear-end h = rw (drop_of_length-le l h)

  -- the bytes of a block: one of them is found, or none
  pub clear-found : (n : ℕ) (l : List ℕ) → clear_len a b (take n l) < length (take n l) → clear_len a b l ≡ clear_len a b (take n l)
  unfolding clear_len
  clear-found zero l h = absurd (omega arith)
  clear-found (suc n) [] h = absurd (omega arith)
  clear-found (suc n) (x ∷ l) h = go (either a b x) h (clear-found n l)
    where
      go : (t : Bool) → cond t 0 (suc (clear_len a b (take n l))) < suc (length (take n l))
          → (clear_len a b (take n l) < length (take n l) → clear_len a b l ≡ clear_len a b (take n l))
          → cond t 0 (suc (clear_len a b l)) ≡ cond t 0 (suc (clear_len a b (take n l)))
      go true h f = refl
      go false h f = ap suc (f (omega arith))

  pub clear-past : (n : ℕ) (l : List ℕ) → clear_len a b (take n l) ≡ n → clear_len a b l ≡ n + clear_len a b (drop n l)
  unfolding clear_len
  clear-past zero l h = rw zero-add
  clear-past (suc n) [] h = absurd (omega arith)
  clear-past (suc n) (x ∷ l) h = rw suc-add (go (either a b x) h (clear-past n l))
    where
      go : (t : Bool) → cond t 0 (suc (clear_len a b (take n l))) ≡ suc n → (clear_len a b (take n l) ≡ n → clear_len a b l ≡ n + clear_len a b (drop n l))
          → cond t 0 (suc (clear_len a b l)) ≡ suc (n + clear_len a b (drop n l))
      go true h f = absurd (omega arith)
      go false h f = ap suc (f (omega arith))

  -- the byte at which the scan stops
  pub clear-stop : (l : List ℕ) → clear_len a b l < length l → either a b (get_or l (clear_len a b l) 0) ≡ true
  unfolding clear_len
  clear-stop [] h = absurd (omega arith)
  clear-stop (x ∷ l) h = go (either a b x) refl h (clear-stop l)
    where
      go : (t : Bool) → either a b x ≡ t → cond t 0 (suc (clear_len a b l)) < suc (length l) → (clear_len a b l < length l → either a b (get_or l (clear_len a b l) 0) ≡ true)
          → either a b (get_or (x ∷ l) (cond t 0 (suc (clear_len a b l))) 0) ≡ true
      go true e h f = e
      go false e h f = f (omega arith)
