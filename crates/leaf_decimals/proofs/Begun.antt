-- A plain number is all that stands before the first whitespace, and what it is. Assumes nothing.
use Rattle.leaf_decimals.specs.declared.NumberError.{NumberError}
use Rattle.std.specs.Prelude.{Result, Float}
use mathlib.Core.Path.{◌≡◌, refl, sym, ap, ◌∙◌, subst}
use mathlib.Core.Bool.{Bool, true, false}
use mathlib.Core.List.{List, [], ◌∷◌}
use Prim.Native.Nat.{ℕ, zero, suc, ◌+◌, ◌-◌, ◌≤◌, ◌<◌, min}
use native.Mathlib.Omega.{arith}
use native.Mathlib.Numerals.{add-one}
use lib.ListN.{length, take, drop, get_or, length-drop}
use lib.Seq.{drop-cons, drop-drop, drop_at, take-add, length-take-le}
use Rattle.leaf_digits.specs.declared.Class.TheVariants.{Space, Digit, Sign, Point}
use Rattle.leaf_digits.specs.Bytes.{is}
use Rattle.leaf_digits.specs.Digits.{digits, value}
use Rattle.leaf_digits.specs.Cap.{cap}
use Rattle.leaf_digits.specs.Ends.{word_len, ended}
use Rattle.leaf_digits.specs.Runs.{Room, Scanned}
use Rattle.leaf_digits.proofs.Lists.{tail_of}
use Rattle.leaf_digits.proofs.Classes.{class-is}
use Rattle.leaf_digits.proofs.Digits.{digits-no, digits-nil, digits-yes, digits-stop, digits_le}
use Rattle.leaf_digits.proofs.Ends.{word_on, word-off, word-digits}
use Rattle.leaf_digits.proofs.Runs.{all-places, all-counted}
use Rattle.leaf_decimals.specs.Reach.{meaning}
use Rattle.leaf_decimals.specs.Numbers.{outcome, point, number_of}
use Rattle.leaf_decimals.proofs.Reading.{ending-nil, point-nil, point-only, digits-law, number-none, unsigned-begun}

-- ---- the digits of a text that is cut behind them
digits-cut : (k : ℕ) (s : List ℕ) → length (digits s) ≤ k → digits (take k s) ≡ digits s
digits-cut zero [] h = refl
digits-cut (suc k) [] h = refl
digits-cut zero (b ∷ t) h = go (is Digit b) refl
  where
    go : (x : Bool) → is Digit b ≡ x → digits [] ≡ digits (b ∷ t)
    go true e = absurd (omega (arith, ap length (digits-yes b t e)))
    go false e = digits-nil ∙ sym (digits-no b t e)
digits-cut (suc k) (b ∷ t) h = go (is Digit b) refl (digits-cut k t)
  where
    go : (x : Bool) → is Digit b ≡ x → (length (digits t) ≤ k → digits (take k t) ≡ digits t) → digits (b ∷ take k t) ≡ digits (b ∷ t)
    go true e f = rw (digits-yes b (take k t) e, digits-yes b t e, f (omega (arith, ap length (digits-yes b t e))))
    go false e f = rw (digits-no b (take k t) e, digits-no b t e)

begun-no-sign : (s : List ℕ) → (length (digits s) ≡ 0 → ⊥) → is Sign (get_or s 0 0) ≡ false
begun-no-sign [] n = absurd (n (ap length digits-nil))
begun-no-sign (b ∷ t) n = go (is Digit b) refl
  where
    go : (x : Bool) → is Digit b ≡ x → is Sign b ≡ false
    go true e = class-is Digit b e Sign
    go false e = absurd (n (ap length (digits-no b t e)))

-- a text that begins with digits
begun : (s : List ℕ) (v n : ℕ) → n ≡ length (digits s) → v ≡ min (value 0 (digits s)) cap → (n ≡ 0 → ⊥)
    → outcome (point false v n (take (length s - n) (drop n s))) ≡ number_of s
begun s v n en ev some =
    let none : length (digits s) ≡ 0 → ⊥ = λ q. some (en ∙ q) in
    digits-law false s v n en ev
    ∙ ap outcome (sym (unsigned-begun false s none))
    ∙ sym (number-none s (omega (arith, digits_le s, none)) (begun-no-sign s none))

-- ---- what the code has read: n digits, which are v
module _ (s : List ℕ) (v n : ℕ) (en : n ≡ length (digits s)) (ev : v ≡ min (value 0 (digits s)) cap) (some : n ≡ 0 → ⊥) where
  -- the same of the text up to k
  module _ (k : ℕ) (h : n ≤ k) where
    cut : digits (take k s) ≡ digits s
    cut = digits-cut k s (omega arith)

    cut-number : outcome (point false v n (take (length (take k s) - n) (drop n (take k s)))) ≡ number_of (take k s)
    cut-number = begun (take k s) v n (en ∙ ap length (sym cut)) (ev ∙ ap (λ (l : List ℕ). min (value 0 l) cap) (sym cut)) some

  fits : n ≤ length s
  fits = omega (arith, digits_le s)

  pub plain-whole : ended (drop n s) ≡ true → (r : Result Float NumberError) → r ≡ meaning false v 0 0 → (n ≡ word_len s) × (r ≡ number_of (take n s))
  plain-whole e r q =
      let l : List ℕ = take (length (take n s) - n) (drop n (take n s)) in
      let z : length l ≡ 0 = omega (arith, ap length (tail_of (take n s) n), length-drop n (take n s), length-take-le n s fits) in (
        sym (word-digits s ∙ rw (← en, word-off (drop n s) e) (omega arith)),
        q ∙ ap outcome (sym (point-nil false v n l z ∙ ending-nil false v n 0 some l z)) ∙ cut-number n (omega arith),
      )

  -- then a point, and m digits
  module _ (t : List ℕ) (et : t ≡ drop (n + 1) s) (p : is Point (get_or s n 0) ≡ true) (g : n < length s) (x m : ℕ) (em : m ≡ length (digits t))
      (ex : x ≡ min (value v (digits t)) cap) (more : m ≡ 0 → ⊥) where
    opened : drop n s ≡ get_or s n 0 ∷ t
    opened = drop-cons s n 0 g ∙ rw (et, add-one)

    many : m ≤ length t
    many = omega (arith, digits_le t)

    behind : drop n (take (n + suc m) s) ≡ get_or s n 0 ∷ take m t
    behind = ap (drop n) (take-add n (suc m) s) ∙ drop_at (take n s) (take (suc m) (drop n s)) n (length-take-le n s fits) ∙ ap (take (suc m)) opened

    pub plain-point : ended (drop m t) ≡ true → (r : Result Float NumberError) → r ≡ meaning false x 0 m → (n + 1 + m ≡ word_len s) × (r ≡ number_of (take (n + 1 + m) s))
    plain-point e r q =
        let k : n + 1 + m ≡ n + suc m = omega arith in
        let l : List ℕ = take (length (take (n + suc m) s) - n) (drop n (take (n + suc m) s)) in
        let el : l ≡ get_or s n 0 ∷ take m t = tail_of (take (n + suc m) s) n ∙ behind in
        let c : digits (take m t) ≡ digits t = digits-cut m t (omega arith) in
        let w : word_len s ≡ n + suc (m + 0) = word-digits s ∙ rw (← en, opened, word_on (get_or s n 0) t (class-is Point _ p Space), word-digits t, ← em, word-off (drop m t) e) in (
          omega (arith, w),
          q
              ∙ point-only false v n l (take m t) x m (ap (drop 1) (sym el)) (em ∙ ap length (sym c)) (ex ∙ ap (λ (d : List ℕ). min (value v d) cap) (sym c))
              (omega (arith, ap length el)) (ap (λ (d : List ℕ). is Point (get_or d 0 0)) el ∙ p) (omega (arith, more)) (sym (length-take-le m t many))
              ∙ cut-number (n + suc m) (omega arith)
              ∙ ap (λ (i : ℕ). number_of (take i s)) (sym k),
        )

-- ---- what the scan has read
ended-none : (d : List ℕ) → ended d ≡ true → digits d ≡ []
ended-none [] e = digits-nil
ended-none (b ∷ t) e = digits-no b t (class-is Space b e Digit)

point-none : (s : List ℕ) (n : ℕ) → n < length s → is Point (get_or s n 0) ≡ true → digits (drop n s) ≡ []
point-none s n g p = digits-stop s n g (class-is Point _ p Digit)

module _ (s : List ℕ) (n v to : ℕ) (k : Scanned s 0 0 n v) (r : Room v n to) (some : n ≡ 0 → ⊥) where
  pub whole-read : ended (drop n s) ≡ true → (a : Result Float NumberError) → a ≡ meaning false v 0 0 → (n ≡ word_len s) × (a ≡ number_of (take n s))
  whole-read e a q =
      let z = ended-none (drop n s) e in
      plain-whole s v n (omega (arith, all-places k to r z)) (all-counted k to r z) some e a q

  pub point-read : (p : is Point (get_or s n 0) ≡ true) (g : n < length s) (end x : ℕ) → Scanned s (n + 1) v end x → Room x end to → (end ≡ n + 1 → ⊥) → ended (drop end s) ≡ true
      → (a : Result Float NumberError) → a ≡ meaning false x 0 (end - (n + 1)) → (end ≡ word_len s) × (a ≡ number_of (take end s))
  point-read p g end x f o more e a q =
      let z = point-none s n g p in
      let y = ended-none (drop end s) e in
      let m : ℕ = end - (n + 1) in
      let c : n + 1 + m ≡ end = omega (arith, f.after) in
      let h : ended (drop m (drop (n + 1) s)) ≡ true = ap ended (drop-drop m (n + 1) s ∙ ap (λ (j : ℕ). drop j s) c) ∙ e in
      let w = plain-point s v n (omega (arith, all-places k to r z)) (all-counted k to r z) some (drop (n + 1) s) refl p g x m
      (omega (arith, all-places f to o y)) (all-counted f to o y) (λ t. more (omega (arith, f.after))) h a q in
      subst (λ (j : ℕ). (j ≡ word_len s) × (a ≡ number_of (take j s))) c w
