-- Slots: each holds the place plus one of the first record that has it, or 0. Assumes nothing.
use Prim.Native.Nat.{ℕ, zero, suc, ◌+◌, ◌≤◌, ◌<◌}
use native.Mathlib.Omega.{arith}
use native.Mathlib.Nat.{add-zero}
use mathlib.Core.Path.{◌≡◌, refl, sym, ap, ◌∙◌}
use mathlib.Core.List.{List, [], ◌∷◌, ◌++◌}
use lib.ListN.{length, get_or, set, replicate, length-set, length-replicate}
use lib.Seq.{get_or-set_same, get_or-set_other}
use Rattle.scope.specs.Tables.{mark_by, marked, slots_from, slots}

-- ---- one slot marked
mark-long : (x : ℕ) (ss : List ℕ) (at v : ℕ) → length (mark_by x ss at v) ≡ length ss
mark-long zero ss at v = length-set ss at v
mark-long (suc x) ss at v = refl

pub mark-free : (ss : List ℕ) (at v : ℕ) → get_or ss at 0 ≡ 0 → set ss at v ≡ marked ss at v
mark-free ss at v e = rw e

pub mark-taken : (ss : List ℕ) (at v : ℕ) → (get_or ss at 0 ≡ 0 → ⊥) → ss ≡ marked ss at v
mark-taken ss at v n = go (get_or ss at 0) n
  where
    go : (x : ℕ) → (x ≡ 0 → ⊥) → ss ≡ mark_by x ss at v
    go zero f = absurd (f refl)
    go (suc x) f = refl

-- the same slot of the same table
pub mark-alike : {ss ts : List ℕ} {a b : ℕ} (v : ℕ) {r : List ℕ} → r ≡ marked ss a v → ss ≡ ts → a ≡ b → r ≡ marked ts b v
mark-alike v e p q = e ∙ rw (p, q)

-- a slot that is taken stays
pub mark-keeps : (x : ℕ) (ss : List ℕ) (at v h : ℕ) → get_or ss at 0 ≡ x → 0 < get_or ss h 0 → get_or (mark_by x ss at v) h 0 ≡ get_or ss h 0
mark-keeps zero ss at v h e p = get_or-set_other ss at h v 0 (λ q. let z : get_or ss h 0 ≡ 0 = ap (λ (k : ℕ). get_or ss k 0) q ∙ e in omega (arith, z))
mark-keeps (suc x) ss at v h e p = refl

-- another slot stays
pub mark-other : (x : ℕ) (ss : List ℕ) (at v h : ℕ) → (h ≡ at → ⊥) → get_or (mark_by x ss at v) h 0 ≡ get_or ss h 0
mark-other zero ss at v h n = get_or-set_other ss at h v 0 n
mark-other (suc x) ss at v h n = refl

-- the slot that is marked is taken, by this place or by an earlier one
mark-takes : (x : ℕ) (ss : List ℕ) (at i : ℕ) → get_or ss at 0 ≡ x → at < length ss → x ≤ i → (0 < get_or (mark_by x ss at (suc i)) at 0) × (get_or (mark_by x ss at (suc i)) at 0 ≤ suc i)
mark-takes zero ss at i e b h = rw (get_or-set_same ss at (suc i) 0 b) (omega arith, omega arith)
mark-takes (suc x) ss at i e b h = (omega (arith, e), omega (arith, e))

set-upto : (ss : List ℕ) (at h v b : ℕ) → get_or ss h 0 ≤ b → v ≤ b → get_or (set ss at v) h 0 ≤ b
set-upto [] at h v b p q = p
set-upto (s ∷ ss) zero zero v b p q = q
set-upto (s ∷ ss) zero (suc h) v b p q = p
set-upto (s ∷ ss) (suc at) zero v b p q = p
set-upto (s ∷ ss) (suc at) (suc h) v b p q = set-upto ss at h v b p q

-- no slot gets a later place
mark-upto : (x : ℕ) (ss : List ℕ) (at i h : ℕ) → get_or ss h 0 ≤ i → get_or (mark_by x ss at (suc i)) h 0 ≤ suc i
mark-upto zero ss at i h p = set-upto ss at h (suc i) (suc i) (omega (arith, p)) (omega arith)
mark-upto (suc x) ss at i h p = omega (arith, p)

pub zero-at : (n h : ℕ) → get_or {A = ℕ} (replicate n 0) h 0 ≡ 0
zero-at zero h = refl
zero-at (suc n) zero = refl
zero-at (suc n) (suc h) = zero-at n h

-- ---- the slots of a list
module _ {R : Type 0} (slot : R → ℕ) where
  from-long : (i : ℕ) (rs : List R) (ss : List ℕ) → length (slots_from slot i rs ss) ≡ length ss
  unfolding slots_from
  from-long i [] ss = refl
  from-long i (r ∷ rs) ss = from-long (suc i) rs (marked ss (slot r) (suc i)) ∙ mark-long (get_or ss (slot r) 0) ss (slot r) (suc i)

  pub slots-long : (n : ℕ) (rs : List R) → length (slots slot n rs) ≡ n
  slots-long n rs = from-long 0 rs (replicate n 0) ∙ length-replicate n 0

  -- one record more
  from_more : (i : ℕ) (rs : List R) (r : R) (ss : List ℕ) → slots_from slot i (rs ++ (r ∷ [])) ss ≡ marked (slots_from slot i rs ss) (slot r) (suc (i + length rs))
  unfolding slots_from
  from_more i [] r ss = rw add-zero
  from_more i (x ∷ rs) r ss =
      let q : suc i + length rs ≡ i + suc (length rs) = omega arith in
      from_more (suc i) rs r (marked ss (slot x) (suc i)) ∙ ap (λ (k : ℕ). marked (slots_from slot (suc i) rs (marked ss (slot x) (suc i))) (slot r) (suc k)) q

  pub slots-more : (n : ℕ) (rs : List R) (r : R) → marked (slots slot n rs) (slot r) (length rs + 1) ≡ slots slot n (rs ++ (r ∷ []))
  slots-more n rs r =
      let q : length rs + 1 ≡ suc (0 + length rs) = omega arith in
      ap (λ (k : ℕ). marked (slots slot n rs) (slot r) k) q ∙ sym (from_more 0 rs r (replicate n 0))

  -- a record in the place of another that has the same slot
  from-same : (i : ℕ) (rs : List R) (k : ℕ) (r0 r : R) (ss : List ℕ) → slot r ≡ slot (get_or rs k r0) → slots_from slot i (set rs k r) ss ≡ slots_from slot i rs ss
  unfolding slots_from
  from-same i [] k r0 r ss e = refl
  from-same i (x ∷ rs) zero r0 r ss e = ap (λ (h : ℕ). slots_from slot (suc i) rs (marked ss h (suc i))) e
  from-same i (x ∷ rs) (suc k) r0 r ss e = from-same (suc i) rs k r0 r (marked ss (slot x) (suc i)) e

  pub slots_same : (n : ℕ) (rs : List R) (k : ℕ) (r0 r : R) → slot r ≡ slot (get_or rs k r0) → slots slot n rs ≡ slots slot n (set rs k r)
  slots_same n rs k r0 r e = sym (from-same 0 rs k r0 r (replicate n 0) e)

  -- a record's slot is taken, by its place or by an earlier one
  from-keeps : (i : ℕ) (rs : List R) (ss : List ℕ) (h : ℕ) → 0 < get_or ss h 0 → get_or (slots_from slot i rs ss) h 0 ≡ get_or ss h 0
  unfolding slots_from
  from-keeps i [] ss h p = refl
  from-keeps i (r ∷ rs) ss h p =
      let k : get_or (marked ss (slot r) (suc i)) h 0 ≡ get_or ss h 0 = mark-keeps (get_or ss (slot r) 0) ss (slot r) (suc i) h refl p in
      from-keeps (suc i) rs (marked ss (slot r) (suc i)) h (omega (arith, k)) ∙ k

  from_first : (i : ℕ) (rs : List R) (ss : List ℕ) (j : ℕ) (r0 : R) → j < length rs → slot (get_or rs j r0) < length ss → get_or ss (slot (get_or rs j r0)) 0 ≤ i
      → (0 < get_or (slots_from slot i rs ss) (slot (get_or rs j r0)) 0) × (get_or (slots_from slot i rs ss) (slot (get_or rs j r0)) 0 ≤ i + suc j)
  unfolding slots_from
  from_first i [] ss j r0 hj b p = absurd (omega arith)
  from_first i (r ∷ rs) ss zero r0 hj b p =
      let t = mark-takes (get_or ss (slot r) 0) ss (slot r) i refl b p in
      let k = from-keeps (suc i) rs (marked ss (slot r) (suc i)) (slot r) t.0 in
      (omega (arith, k, t.0), omega (arith, k, t.1))
  from_first i (r ∷ rs) ss (suc j) r0 hj b p =
      let l : length (marked ss (slot r) (suc i)) ≡ length ss = mark-long (get_or ss (slot r) 0) ss (slot r) (suc i) in
      let u : get_or (marked ss (slot r) (suc i)) (slot (get_or rs j r0)) 0 ≤ suc i = mark-upto (get_or ss (slot r) 0) ss (slot r) i (slot (get_or rs j r0)) p in
      let f = from_first (suc i) rs (marked ss (slot r) (suc i)) j r0 (omega arith) (omega (arith, l, b)) u in
      (f.0, omega (arith, f.1))

  pub slots-first : (n : ℕ) (rs : List R) (j : ℕ) (r0 : R) → j < length rs → slot (get_or rs j r0) < n
      → (0 < get_or (slots slot n rs) (slot (get_or rs j r0)) 0) × (get_or (slots slot n rs) (slot (get_or rs j r0)) 0 ≤ suc j)
  slots-first n rs j r0 hj b =
      let f = from_first 0 rs (replicate n 0) j r0 hj (omega (arith, b, length-replicate {A = ℕ} n 0)) (omega (arith, zero-at n (slot (get_or rs j r0)))) in
      (f.0, omega (arith, f.1))
