-- One region: a record that is put at its first free place makes the region of one record more. Assumes nothing.
use Prim.Native.Nat.{ℕ, zero, suc, ◌+◌, ◌-◌, ◌*◌, ◌≤◌, ◌<◌}
use native.Mathlib.Nat.{sub-zero, zero-sub, suc-sub-suc, suc-mul, zero-mul, mul-le-mul_right}
use native.Mathlib.Omega.{arith}
use mathlib.Core.Path.{◌≡◌, refl, sym, ap, ◌∙◌}
use mathlib.Core.List.{List, [], ◌∷◌, ◌++◌, append_assoc, append-nil}
use lib.ListN.{length, drop, set, get_or, replicate, length-append, length-replicate, get_or-append}
use lib.Seq.{take-append_seam, drop-append-add, get_or-append-add}
use Rattle.scope.specs.Tables.{flat, region}
use Rattle.table_rows.specs.Table.{splice}

pub row_in : (k i n : ℕ) → i < n → i * k + k ≤ n * k
row_in k i n h = let l : suc i ≤ n = omega arith in omega (arith, mul-le-mul_right k l, suc-mul i k)

module _ {A : Type 0} where
  pub drop-replicate : (k n : ℕ) (a : A) → drop k (replicate n a) ≡ replicate (n - k) a
  drop-replicate zero n a = rw sub-zero
  drop-replicate (suc k) zero a = rw zero-sub
  drop-replicate (suc k) (suc n) a = rw suc-sub-suc (drop-replicate k n a)

  module _ {R : Type 0} (enc : R → List A) (z : A) where
    flat-snoc : (rs : List R) (r : R) → flat enc (rs ++ (r ∷ [])) ≡ flat enc rs ++ enc r
    unfolding flat
    flat-snoc [] r = append-nil (enc r)
    flat-snoc (x ∷ rs) r = ap (λ (l : List A). enc x ++ l) (flat-snoc rs r) ∙ sym (append_assoc (enc x) (flat enc rs) (enc r))

    pub flat-length : (k : ℕ) → ((r : R) → length (enc r) ≡ k) → (rs : List R) → length (flat enc rs) ≡ length rs * k
    unfolding flat
    flat-length k h [] = omega arith
    flat-length k h (x ∷ rs) = omega (arith, length-append (enc x) (flat enc rs), h x, flat-length k h rs)

    pub region-put : (n at : ℕ) (rs : List R) (r : R) → at ≡ length (flat enc rs) → at + length (enc r) ≤ n
        → splice (region enc z n rs) at (enc r) ≡ region enc z n (rs ++ (r ∷ []))
    unfolding region
    region-put n at rs r e h =
        let k : n - length (flat enc rs) - length (enc r) ≡ n - length (flat enc rs ++ enc r) = omega (arith, length-append (flat enc rs) (enc r)) in
        rw (e, take-append_seam, drop-append-add, drop-replicate, flat-snoc, k)

    -- a region whose records fit is as long as it is to be
    pub region-length : (k n : ℕ) → ((r : R) → length (enc r) ≡ k) → (rs : List R) → length rs * k ≤ n → length (region enc z n rs) ≡ n
    unfolding region
    region-length k n h rs e =
        omega (arith, length-append (flat enc rs) (replicate (n - length (flat enc rs)) z), length-replicate (n - length (flat enc rs)) z, flat-length k h rs)

    -- what stands in record i
    flat-at : (k : ℕ) → ((r : R) → length (enc r) ≡ k) → (rs : List R) (i j : ℕ) (d : A) (r0 : R) → i < length rs → j < k
        → get_or (flat enc rs) (i * k + j) d ≡ get_or (enc (get_or rs i r0)) j d
    unfolding flat
    flat-at k h [] i j d r0 hi hj = absurd (omega arith)
    flat-at k h (x ∷ rs) zero j d r0 hi hj =
        let e : zero * k + j ≡ j = omega (arith, zero-mul k) in
        rw e (get_or-append (enc x) (flat enc rs) d j (omega (arith, h x)))
    flat-at k h (x ∷ rs) (suc i) j d r0 hi hj =
        let e : suc i * k + j ≡ length (enc x) + (i * k + j) = omega (arith, h x, suc-mul i k) in
        rw e (get_or-append-add (enc x) (flat enc rs) (i * k + j) d ∙ flat-at k h rs i j d r0 (omega arith) hj)

    pub region-at : (k n : ℕ) → ((r : R) → length (enc r) ≡ k) → (rs : List R) (i j : ℕ) (d : A) (r0 : R) → i < length rs → j < k
        → get_or (region enc z n rs) (i * k + j) d ≡ get_or (enc (get_or rs i r0)) j d
    unfolding region
    region-at k n h rs i j d r0 hi hj =
        get_or-append (flat enc rs) (replicate (n - length (flat enc rs)) z) d (i * k + j) (omega (arith, flat-length k h rs, row_in k i (length rs) hi))
        ∙ flat-at k h rs i j d r0 hi hj

    -- a record is changed to one that is encoded alike
    flat-same : (rs : List R) (i : ℕ) (r0 r : R) → enc r ≡ enc (get_or rs i r0) → flat enc (set rs i r) ≡ flat enc rs
    unfolding flat
    flat-same [] i r0 r e = refl
    flat-same (x ∷ rs) zero r0 r e = rw e
    flat-same (x ∷ rs) (suc i) r0 r e = ap (λ (l : List A). enc x ++ l) (flat-same rs i r0 r e)

    pub region-same : (n : ℕ) (rs : List R) (i : ℕ) (r0 r : R) → enc r ≡ enc (get_or rs i r0) → region enc z n rs ≡ region enc z n (set rs i r)
    unfolding region
    region-same n rs i r0 r e = rw (flat-same rs i r0 r e)

    -- several records at once
    flat_append : (rs qs : List R) → flat enc (rs ++ qs) ≡ flat enc rs ++ flat enc qs
    unfolding flat
    flat_append [] qs = refl
    flat_append (x ∷ rs) qs = ap (λ (l : List A). enc x ++ l) (flat_append rs qs) ∙ sym (append_assoc (enc x) (flat enc rs) (flat enc qs))

    pub region-puts : (n at : ℕ) (rs qs : List R) → at ≡ length (flat enc rs) → at + length (flat enc qs) ≤ n
        → splice (region enc z n rs) at (flat enc qs) ≡ region enc z n (rs ++ qs)
    unfolding region
    region-puts n at rs qs e h =
        let k : n - length (flat enc rs) - length (flat enc qs) ≡ n - length (flat enc rs ++ flat enc qs) = omega (arith, length-append (flat enc rs) (flat enc qs)) in
        rw (e, take-append_seam, drop-append-add, drop-replicate, flat_append, k)
