-- Where lines end, and what is left of them. Assumes nothing.
use Prim.Native.Nat.{ℕ, suc, ◌+◌, ◌-◌, ◌≤◌, ◌<◌}
use native.Mathlib.Omega.{arith}
use mathlib.Core.Path.{◌≡◌, refl, sym, ap, ◌∙◌}
use mathlib.Core.Bool.{Bool, true, false, cond, ◌||◌}
use mathlib.Core.List.{List, [], ◌∷◌, ◌++◌}
use lib.ListN.{length, take, drop, get_or, length-drop, drop_of_length-le}
use lib.Seq.{take-length, drop-cons, drop-drop, length-take-le, take-suc, get_or-drop}
use lib.Dec.{eqb}
use Rattle.leaf_digits.proofs.Lists.{tail_of}
use Rattle.leaf_scans.specs.Lines.{blank, is_space, push, chunks, joined, line_len, start_trimmed, keep_byte, end_trimmed, trimmed, kind_by, line_kind, cut_of}
use Rattle.leaf_scans.specs.Scan.{span_len}
use Rattle.leaf_words.specs.Scan.{clear_len}
use Rattle.leaf_scans.specs.declared.Kind.TheVariants.{Space}
use Rattle.leaf_scans.proofs.ScanLaws.{span-stop}

-- ---- the first line of a text
-- a line with a line feed, and a last line that lacks it
line-fed : (l : List ℕ) → clear_len 10 10 l < length l → line_len l ≡ suc (clear_len 10 10 l)
unfolding line_len clear_len
line-fed [] h = absurd (omega arith)
line-fed (b ∷ bs) h = go (eqb b 10) h (line-fed bs)
  where
    go : (t : Bool) → cond (t || t) 0 (suc (clear_len 10 10 bs)) < suc (length bs) → (clear_len 10 10 bs < length bs → line_len bs ≡ suc (clear_len 10 10 bs))
        → suc (cond t 0 (line_len bs)) ≡ suc (cond (t || t) 0 (suc (clear_len 10 10 bs)))
    go true h f = refl
    go false h f = ap suc (f (omega arith))

line-last : (l : List ℕ) → length l ≤ clear_len 10 10 l → line_len l ≡ clear_len 10 10 l
unfolding line_len clear_len
line-last [] h = refl
line-last (b ∷ bs) h = go (eqb b 10) h (line-last bs)
  where
    go : (t : Bool) → suc (length bs) ≤ cond (t || t) 0 (suc (clear_len 10 10 bs)) → (length bs ≤ clear_len 10 10 bs → line_len bs ≡ clear_len 10 10 bs)
        → suc (cond t 0 (line_len bs)) ≡ cond (t || t) 0 (suc (clear_len 10 10 bs))
    go true h f = absurd (omega arith)
    go false h f = ap suc (f (omega arith))

-- where the line ends, by where its line feed stands
module _ (l : List ℕ) (at e : ℕ) (es : e ≡ at + clear_len 10 10 (drop at l)) where
  pub end-fed : e < length l → e + 1 ≡ at + line_len (drop at l)
  end-fed h = omega (arith, line-fed (drop at l) (omega (arith, length-drop at l)))

  pub end-last : length l ≤ e → e ≡ at + line_len (drop at l)
  end-last h = omega (arith, line-last (drop at l) (omega (arith, length-drop at l)))

pub line_len-le : (l : List ℕ) → line_len l ≤ length l
unfolding line_len
line_len-le [] = omega arith
line_len-le (b ∷ bs) = go (eqb b 10) (line_len-le bs)
  where
    go : (t : Bool) → line_len bs ≤ length bs → suc (cond t 0 (line_len bs)) ≤ suc (length bs)
    go true h = omega arith
    go false h = omega arith

pub line_len-pos : (l : List ℕ) → 0 < length l → 0 < line_len l
unfolding line_len
line_len-pos [] h = absurd (omega arith)
line_len-pos (b ∷ bs) h = omega arith

-- ---- the lines of a text
joined-push : (b : ℕ) (cs : List (List ℕ)) → joined (push b cs) ≡ b ∷ joined cs
unfolding joined push
joined-push b [] = refl
joined-push b (c ∷ cs) = refl

-- a text is its lines, joined
pub joined-chunks : (t : List ℕ) → joined (chunks t) ≡ t
unfolding joined chunks
joined-chunks [] = refl
joined-chunks (b ∷ bs) = go (eqb b 10) (joined-chunks bs)
  where
    go : (q : Bool) → joined (chunks bs) ≡ bs → joined (cond q ((b ∷ []) ∷ chunks bs) (push b (chunks bs))) ≡ b ∷ bs
    go true e = ap (b ∷◌) e
    go false e = joined-push b (chunks bs) ∙ ap (b ∷◌) e

-- a text that is not empty is its first line and the lines after it
pub chunks-cut : (t : List ℕ) → 0 < length t → chunks t ≡ take (line_len t) t ∷ chunks (drop (line_len t) t)
unfolding line_len chunks push
chunks-cut [] h = absurd (omega arith)
chunks-cut (b ∷ []) h = go (eqb b 10)
  where
    go : (t : Bool) → cond t ((b ∷ []) ∷ []) ((b ∷ []) ∷ []) ≡ (b ∷ take (cond t 0 0) []) ∷ chunks (drop (cond t 0 0) [])
    go true = refl
    go false = refl
chunks-cut (b ∷ a ∷ bs) h = go (eqb b 10) (line_len (a ∷ bs)) (chunks-cut (a ∷ bs) (omega arith))
  where
    go : (t : Bool) (n : ℕ) → chunks (a ∷ bs) ≡ take n (a ∷ bs) ∷ chunks (drop n (a ∷ bs))
        → cond t ((b ∷ []) ∷ chunks (a ∷ bs)) (push b (chunks (a ∷ bs)))
        ≡ (b ∷ take (cond t 0 n) (a ∷ bs)) ∷ chunks (drop (cond t 0 n) (a ∷ bs))
    go true n e = refl
    go false n e = ap (push b) e

-- the line at a place of the text, and the lines after it
module _ (text : List ℕ) (at e : ℕ) (h : at < length text) (he : e ≡ at + line_len (drop at text)) where
  pub end-le : e ≤ length text
  end-le = omega (arith, line_len-le (drop at text), length-drop at text)

  pub end_more : at < e
  end_more = omega (arith, line_len-pos (drop at text) (omega (arith, length-drop at text)), length-drop at text)

  pub body_is : take (e - at) (drop at text) ≡ take (line_len (drop at text)) (drop at text)
  body_is = let k : e - at ≡ line_len (drop at text) = omega arith in rw k

  pub body-long : at + length (take (line_len (drop at text)) (drop at text)) ≡ e
  body-long = omega (arith, length-take-le (line_len (drop at text)) (drop at text) (line_len-le (drop at text)))

  pub chunks-at : chunks (drop at text) ≡ take (line_len (drop at text)) (drop at text) ∷ chunks (drop e text)
  chunks-at =
      chunks-cut (drop at text) (omega (arith, length-drop at text))
      ∙ ap (λ x. take (line_len (drop at text)) (drop at text) ∷ chunks x) (drop-drop (line_len (drop at text)) at text ∙ ap (λ i. drop i text) (sym he))

-- ---- trimming
start-span : (l : List ℕ) → drop (span_len Space l) l ≡ start_trimmed l
unfolding span_len start_trimmed
start-span [] = refl
start-span (b ∷ bs) = go (is_space b) (start-span bs)
  where
    go : (t : Bool) → drop (span_len Space bs) bs ≡ start_trimmed bs → drop (cond t (suc (span_len Space bs)) 0) (b ∷ bs) ≡ cond t (start_trimmed bs) (b ∷ bs)
    go true e = e
    go false e = refl

start-again : (l : List ℕ) → start_trimmed (start_trimmed l) ≡ start_trimmed l
unfolding start_trimmed
start-again [] = refl
start-again (b ∷ bs) = go (is_space b) refl (start-again bs)
  where
    go : (t : Bool) → is_space b ≡ t → start_trimmed (start_trimmed bs) ≡ start_trimmed bs → start_trimmed (cond t (start_trimmed bs) (b ∷ bs)) ≡ cond t (start_trimmed bs) (b ∷ bs)
    go true e h = h
    go false e h = rw e

-- a line whose start is trimmed is trimmed to the same
pub trimmed-start : (l : List ℕ) → trimmed (start_trimmed l) ≡ trimmed l
unfolding trimmed
trimmed-start l = ap end_trimmed (start-again l)

trim-space : (l : List ℕ) (b : ℕ) → is_space b ≡ true → end_trimmed (l ++ (b ∷ [])) ≡ end_trimmed l
unfolding end_trimmed
trim-space [] b e = rw e
trim-space (x ∷ l) b e = ap (keep_byte x) (trim-space l b e)

trim-word : (l : List ℕ) (b : ℕ) → is_space b ≡ false → end_trimmed (l ++ (b ∷ [])) ≡ l ++ (b ∷ [])
unfolding end_trimmed
trim-word [] b e = rw e
trim-word (x ∷ []) b e = rw e
trim-word (x ∷ y ∷ l) b e = ap (keep_byte x) (trim-word (y ∷ l) b e)

-- the last byte taken off, or kept
module _ (l : List ℕ) (h : 1 ≤ length l) where
  last_byte : l ≡ take (length l - 1) l ++ (get_or l (length l - 1) 0 ∷ [])
  last_byte = let z : length l ≡ suc (length l - 1) = omega arith in sym (take-length l) ∙ ap (λ i. take i l) z ∙ take-suc l (length l - 1) 0 (omega arith)

  pub trim-more : is_space (get_or l (length l - 1) 0) ≡ true → end_trimmed (take (length l - 1) l) ≡ end_trimmed l
  trim-more s = sym (ap end_trimmed last_byte ∙ trim-space (take (length l - 1) l) (get_or l (length l - 1) 0) s)

  pub trim-stop : is_space (get_or l (length l - 1) 0) ≡ false → l ≡ end_trimmed l
  trim-stop s = last_byte ∙ sym (trim-word (take (length l - 1) l) (get_or l (length l - 1) 0) s) ∙ ap end_trimmed (sym last_byte)

pub trim-nothing : (l : List ℕ) → length l < 1 → l ≡ end_trimmed l
unfolding end_trimmed
trim-nothing [] h = refl
trim-nothing (b ∷ l) h = absurd (omega arith)

pub trim-from : (l : List ℕ) (a : ℕ) → a ≡ 0 + span_len Space l → end_trimmed (take (length l - a) (drop a l)) ≡ trimmed l
unfolding trimmed
trim-from l a e =
    let k : a ≡ span_len Space l = omega arith in
    ap end_trimmed (tail_of l a ∙ ap (λ i. drop i l) k ∙ start-span l)

-- ---- what a line is
kind-kept : (b : ℕ) (xs : List ℕ) → is_space b ≡ false → kind_by (b ∷ []) ≡ kind_by (keep_byte b xs)
kind-kept b [] e = rw e
kind-kept b (x ∷ xs) e = refl

module _ (l : List ℕ) (at i : ℕ) (es : i ≡ at + span_len Space (drop at l)) where
  pub start-at : start_trimmed (drop at l) ≡ drop i l
  start-at = sym (start-span (drop at l)) ∙ drop-drop (span_len Space (drop at l)) at l ∙ ap (λ j. drop j l) (sym es)

  pub kind-some : i < length l → kind_by (get_or l i 0 ∷ []) ≡ line_kind (drop at l)
  unfolding line_kind trimmed end_trimmed
  kind-some h =
      let b : ℕ = get_or l i 0 in
      let n : length (drop at l) ≡ length l - at = length-drop at l in
      let ns : is_space b ≡ false = rw (es, ← get_or-drop at l (span_len Space (drop at l)) 0) (span-stop Space (drop at l) (omega arith)) in
      kind-kept b (end_trimmed (drop (suc i) l)) ns ∙ sym (ap (λ x. kind_by (end_trimmed x)) (start-at ∙ drop-cons l i 0 h))

  pub kind-none : length l ≤ i → blank ≡ line_kind (drop at l)
  unfolding line_kind trimmed end_trimmed
  kind-none h = sym (ap (λ x. kind_by (end_trimmed x)) (start-at ∙ drop_of_length-le l h))

-- ---- the cut
-- what is kept stands at the start
pub cut-prefix : (l : List ℕ) → take (length (cut_of l)) l ≡ cut_of l
unfolding cut_of
cut-prefix [] = refl
cut-prefix (b ∷ bs) = go (eqb b 59) (cut-prefix bs)
  where
    go : (t : Bool) → take (length (cut_of bs)) bs ≡ cut_of bs → take (length (cond t [] (b ∷ cut_of bs))) (b ∷ bs) ≡ cond t [] (b ∷ cut_of bs)
    go true e = refl
    go false e = ap (b ∷◌) e
