-- Where a line is cut and where it ends, by its first `;` or line feed. Assumes nothing.
use Prim.Native.Nat.{ℕ, zero, suc, ◌+◌, ◌-◌, ◌≤◌, ◌<◌}
use native.Mathlib.Omega.{arith}
use native.Mathlib.Nat.{zero-add, suc-add}
use borrow.Author.Tests.{eqb-true, ne_eqb}
use mathlib.Core.Path.{◌≡◌, refl, sym, ap, ◌∙◌}
use mathlib.Core.Bool.{Bool, true, false, cond, ◌||◌, false≢true}
use mathlib.Core.List.{List, [], ◌∷◌}
use lib.ListN.{length, take, drop, get_or, length-drop, drop_of_length-le}
use lib.Seq.{drop-cons, drop-drop, get_or-drop}
use lib.Dec.{eqb}
use Rattle.leaf_scans.specs.Lines.{line_len, cut_of}
use Rattle.leaf_words.specs.Scan.{either, clear_len}
use Rattle.leaf_words.proofs.ScanLaws.{drop-take, clear-stop}

-- neither the cut nor the end stands before the first of the two bytes
line-pass : (l : List ℕ) → line_len l ≡ clear_len 59 10 l + line_len (drop (clear_len 59 10 l) l)
unfolding line_len clear_len
line-pass [] = refl
line-pass (x ∷ l) = go (eqb x 59) (eqb x 10) refl (line-pass l)
  where
    go : (t u : Bool) → eqb x 10 ≡ u → line_len l ≡ clear_len 59 10 l + line_len (drop (clear_len 59 10 l) l)
        → suc (cond u 0 (line_len l)) ≡ cond (t || u) 0 (suc (clear_len 59 10 l)) + line_len (drop (cond (t || u) 0 (suc (clear_len 59 10 l))) (x ∷ l))
    go true u e f = rw (zero-add, e)
    go false true e f = rw (zero-add, e)
    go false false e f = rw suc-add (ap suc f)

cut-pass : (l : List ℕ) (n : ℕ) → length (cut_of (take (clear_len 59 10 l + n) l)) ≡ clear_len 59 10 l + length (cut_of (take n (drop (clear_len 59 10 l) l)))
unfolding cut_of clear_len
cut-pass [] n = rw (zero-add, zero-add)
cut-pass (x ∷ l) n = go (eqb x 59) (eqb x 10) refl (cut-pass l n)
  where
    go : (t u : Bool) → eqb x 59 ≡ t → length (cut_of (take (clear_len 59 10 l + n) l)) ≡ clear_len 59 10 l + length (cut_of (take n (drop (clear_len 59 10 l) l)))
        → length (cut_of (take (cond (t || u) 0 (suc (clear_len 59 10 l)) + n) (x ∷ l)))
        ≡ cond (t || u) 0 (suc (clear_len 59 10 l)) + length (cut_of (take n (drop (cond (t || u) 0 (suc (clear_len 59 10 l))) (x ∷ l))))
    go true u e f = rw (zero-add, zero-add)
    go false true e f = rw (zero-add, zero-add)
    go false false e f = rw (suc-add, suc-add, e) (ap suc f)

cut-here : (n : ℕ) (l : List ℕ) → length (cut_of (take n (59 ∷ l))) ≡ 0
unfolding cut_of
cut-here zero l = refl
cut-here (suc n) l = refl

abbrev Ended : List ℕ → ℕ → ℕ → ℕ → Type 0
Ended l at cut end = (end ≡ at + line_len (drop at l)) × (cut ≡ at + length (cut_of (drop at (take end l))))

module _ (l : List ℕ) (at i : ℕ) (es : i ≡ at + clear_len 59 10 (drop at l)) where
  here : drop (clear_len 59 10 (drop at l)) (drop at l) ≡ drop i l
  here = drop-drop (clear_len 59 10 (drop at l)) at l ∙ ap (λ j. drop j l) (sym es)

  ended : (cut n : ℕ) → line_len (drop i l) ≡ n → cut ≡ i + length (cut_of (take n (drop i l))) → Ended l at cut (i + n)
  ended cut n p q =
      let z : i + n - at ≡ clear_len 59 10 (drop at l) + n = omega arith in (
        omega (arith, rw here at (line-pass (drop at l))),
        rw (drop-take at (i + n) l, z) (omega (arith, rw here at (cut-pass (drop at l) n))),
      )

  pub ends_last : length l ≤ i → Ended l at i i
  unfolding line_len cut_of
  ends_last h =
      let z : i + 0 ≡ i = omega arith in
      rw z at (ended i 0 (rw (drop_of_length-le l h)) (omega arith))

  module _ (h : i < length l) where
    pub ends-fed : get_or l i 0 ≡ 10 → Ended l at (i + 1) (i + 1)
    unfolding line_len cut_of
    ends-fed b = ended (i + 1) 1 (rw (drop-cons l i 0 h, b)) (rw (drop-cons l i 0 h, b))

    semicolon : (get_or l i 0 ≡ 10 → ⊥) → get_or l i 0 ≡ 59
    semicolon b = go (eqb (get_or l i 0) 59) refl (rw (ne_eqb (get_or l i 0) 10 b) at stop)
      where
        stop : either 59 10 (get_or l i 0) ≡ true
        stop = rw (es, ← get_or-drop at l (clear_len 59 10 (drop at l)) 0) (clear-stop 59 10 (drop at l) (omega (arith, length-drop at l)))

        go : (t : Bool) → eqb (get_or l i 0) 59 ≡ t → (t || false) ≡ true → get_or l i 0 ≡ 59
        go true e k = eqb-true (get_or l i 0) 59 e
        go false e k = absurd (false≢true k)

    pub ends-cut : (get_or l i 0 ≡ 10 → ⊥) → (e : ℕ) → e ≡ i + line_len (drop i l) → Ended l at i e
    ends-cut b e q =
        let d : drop i l ≡ 59 ∷ drop (suc i) l = rw (← semicolon b) (drop-cons l i 0 h) in
        rw q (ended i (line_len (drop i l)) refl (rw d (omega (arith, cut-here (line_len (59 ∷ drop (suc i) l)) (drop (suc i) l)))))
