-- Blocks one after another: what is put in one of them. Assumes nothing.
use Prim.Native.Nat.{ℕ, zero, suc, ◌+◌, ◌-◌, ◌*◌, ◌≤◌, ◌<◌}
use native.Mathlib.Omega.{arith}
use native.Mathlib.Numerals.{add-one}
use native.Mathlib.Nat.{add_assoc, zero-add, suc-add, suc-mul, zero-mul}
use mathlib.Core.Path.{◌≡◌, refl, sym, ap, ◌∙◌}
use mathlib.Core.List.{List, [], ◌∷◌, ◌++◌, map, append_assoc, append-nil}
use lib.ListN.{length, take, drop, set, get_or, replicate, length-append, length-set, get_or-append}
use lib.Seq.{set-append_left, set-get_or, map-set_same, drop-length, take-append-add, drop-append-add, take-append-le, drop-append-le, get_or-append-add}
use Rattle.scope.specs.Tables.{flat, region, blocks, mark_by, marked, slots}
use Rattle.table_rows.specs.Table.{splice}
use Rattle.table_rows.proofs.SlotLaws.{slots-long, slots-more}
use Rattle.table_rows.proofs.RegionLaws.{flat-length, row_in, region-length, region-put, region-puts, region-at, region-same}

-- the places of the blocks before one
abbrev pub sum : List ℕ → ℕ
sum [] = 0
sum (n ∷ ns) = n + sum ns

module _ {A : Type 0} where
  -- past the first part
  splice-after : (a b : List A) (off : ℕ) (rec : List A) → splice (a ++ b) (length a + off) rec ≡ a ++ splice b off rec
  splice-after a b off rec =
      rw (take-append-add, add_assoc (length a) off (length rec), drop-append-add)
      (append_assoc (a ++ take off b) rec _ ∙ append_assoc a (take off b) _ ∙ ap (λ (l : List A). a ++ l) (sym (append_assoc (take off b) rec _)))

  -- within the first part
  pub splice-first : (a b : List A) (off : ℕ) (rec : List A) → off + length rec ≤ length a → splice (a ++ b) off rec ≡ splice a off rec ++ b
  splice-first a b off rec h =
      let k : off ≤ length a = omega arith in
      rw (take-append-le off a b k, drop-append-le (off + length rec) a b h)
      (sym (append_assoc (take off a ++ rec) (drop (off + length rec) a) b))

  -- the whole of it
  splice-whole : (a rec : List A) → length a ≡ length rec → rec ≡ splice a 0 rec
  splice-whole a rec e = rw (zero-add, ← e, drop-length) (sym (append-nil rec))

  -- the blocks bs have the sizes ns: what is put at `off` of block k
  pub put_in : (bs : List (List A)) (ns : List ℕ) → map length bs ≡ ns → (k off : ℕ) (rec : List A) → k < length bs → off + length rec ≤ length (get_or bs k [])
      → splice (blocks bs) (sum (take k ns) + off) rec ≡ blocks (set bs k (splice (get_or bs k []) off rec))
  unfolding flat
  put_in [] ns e k off rec hk h = absurd (omega arith)
  put_in (b ∷ bs) [] e k off rec hk h = let z : ◌≡◌ {A = ℕ} 0 1 = cc in absurd (omega arith)
  put_in (b ∷ bs) (n ∷ ns) e zero off rec hk h = rw zero-add (splice-first b (blocks bs) off rec h)
  put_in (b ∷ bs) (n ∷ ns) e (suc k) off rec hk h =
      let e1 : length b ≡ n = cc in
      let e2 : map length bs ≡ ns = cc in
      rw (← e1, add_assoc (length b) (sum (take k ns)) off)
      (splice-after b (blocks bs) (sum (take k ns) + off) rec
      ∙ ap (λ (l : List A). b ++ l) (put_in bs ns e2 k off rec (omega arith) h))

  set_after : (a b : List A) (off : ℕ) (v : A) → set (a ++ b) (length a + off) v ≡ a ++ set b off v
  set_after [] b off v = rw zero-add
  set_after (x ∷ a) b off v = rw (suc-add (length a) off) (ap (λ (l : List A). x ∷ l) (set_after a b off v))

  -- what is set at `off` of block k
  set-in : (bs : List (List A)) (ns : List ℕ) → map length bs ≡ ns → (k off : ℕ) (v : A) → k < length bs → off < length (get_or bs k [])
      → set (blocks bs) (sum (take k ns) + off) v ≡ blocks (set bs k (set (get_or bs k []) off v))
  unfolding flat
  set-in [] ns e k off v hk h = absurd (omega arith)
  set-in (b ∷ bs) [] e k off v hk h = let z : ◌≡◌ {A = ℕ} 0 1 = cc in absurd (omega arith)
  set-in (b ∷ bs) (n ∷ ns) e zero off v hk h = rw zero-add (set-append_left b (blocks bs) off v h)
  set-in (b ∷ bs) (n ∷ ns) e (suc k) off v hk h =
      let e1 : length b ≡ n = cc in
      let e2 : map length bs ≡ ns = cc in
      rw (← e1, add_assoc (length b) (sum (take k ns)) off)
      (set_after b (blocks bs) (sum (take k ns) + off) v
      ∙ ap (λ (l : List A). b ++ l) (set-in bs ns e2 k off v (omega arith) h))

  -- what stands at `off` of block k
  pub get_in : (bs : List (List A)) (ns : List ℕ) → map length bs ≡ ns → (k off : ℕ) (d : A) → k < length bs → off < length (get_or bs k [])
      → get_or (blocks bs) (sum (take k ns) + off) d ≡ get_or (get_or bs k []) off d
  unfolding flat
  get_in [] ns e k off d hk h = absurd (omega arith)
  get_in (b ∷ bs) [] e k off d hk h = let z : ◌≡◌ {A = ℕ} 0 1 = cc in absurd (omega arith)
  get_in (b ∷ bs) (n ∷ ns) e zero off d hk h = rw zero-add (get_or-append b (blocks bs) d off h)
  get_in (b ∷ bs) (n ∷ ns) e (suc k) off d hk h =
      let e1 : length b ≡ n = cc in
      let e2 : map length bs ≡ ns = cc in
      rw (← e1, add_assoc (length b) (sum (take k ns)) off)
      (get_or-append-add b (blocks bs) (sum (take k ns) + off) d ∙ get_in bs ns e2 k off d (omega arith) h)

  -- what is put in record i of a region
  module _ {R : Type 0} (enc : R → List A) (z : A) (k : ℕ) (same_size : (r : R) → length (enc r) ≡ k) where
    flat-change : (rs : List R) (i off : ℕ) (part : List A) (r0 r : R) → i < length rs → off + length part ≤ k → enc r ≡ splice (enc (get_or rs i r0)) off part
        → splice (flat enc rs) (i * k + off) part ≡ flat enc (set rs i r)
    unfolding flat
    flat-change [] i off part r0 r hi h e = absurd (omega arith)
    flat-change (x ∷ rs) zero off part r0 r hi h e =
        let q : zero * k + off ≡ off = omega (arith, zero-mul k) in
        rw (q, e) (splice-first (enc x) (flat enc rs) off part (omega (arith, same_size x)))
    flat-change (x ∷ rs) (suc i) off part r0 r hi h e =
        let q : suc i * k + off ≡ length (enc x) + (i * k + off) = omega (arith, same_size x, suc-mul i k) in
        rw q (splice-after (enc x) (flat enc rs) (i * k + off) part ∙ ap (λ (l : List A). enc x ++ l) (flat-change rs i off part r0 r (omega arith) h e))

    pub region-change : (n : ℕ) (rs : List R) (i off : ℕ) (part : List A) (r0 r : R) → i < length rs → off + length part ≤ k → enc r ≡ splice (enc (get_or rs i r0)) off part
        → splice (region enc z n rs) (i * k + off) part ≡ region enc z n (set rs i r)
    unfolding region
    region-change n rs i off part r0 r hi h e =
        let l1 = flat-length enc z k same_size rs in
        let l2 = flat-length enc z k same_size (set rs i r) in
        let q : length (flat enc rs) ≡ length (flat enc (set rs i r)) = l1 ∙ rw (← length-set rs i r) (sym l2) in
        splice-first (flat enc rs) (replicate (n - length (flat enc rs)) z) (i * k + off) part (omega (arith, l1, row_in k i (length rs) hi))
        ∙ rw (flat-change rs i off part r0 r hi h e, q)

-- block b of bs is the region of rs: it starts at `base`, and a record of it takes k places
pub record Lies {A R : Type 0} (enc : R → List A) (z : A) (bs : List (List A)) (b n base k : ℕ) (rs : List R) : Type 0 where
  pub sizes : List ℕ
  pub sized : map length bs ≡ sizes
  pub start : sum (take b sizes) ≡ base
  pub block : b < length bs
  pub same_size : (r : R) → length (enc r) ≡ k
  pub is : get_or bs b [] ≡ region enc z n rs
  pub fit : length rs * k ≤ n

module _ {A R : Type 0} {enc : R → List A} {z : A} {bs : List (List A)} {b n base k : ℕ} {rs : List R} (g : Lies enc z bs b n base k rs) {w : List A} (exact : w ≡ blocks bs) where
  long : length (get_or bs b []) ≡ n
  long = ap length g.is ∙ region-length enc z k n g.same_size rs g.fit

  put : (off : ℕ) (rec new : List A) {w' : List A} → off + length rec ≤ n → w' ≡ splice w (base + off) rec → splice (region enc z n rs) off rec ≡ new → w' ≡ blocks (set bs b new)
  put off rec new h e q =
      let at : splice (blocks bs) (base + off) rec ≡ blocks (set bs b (splice (get_or bs b []) off rec)) =
      rw (← g.start) (put_in bs g.sizes g.sized b off rec g.block (omega (arith, long))) in
      let made : splice (get_or bs b []) off rec ≡ new = rw g.is q in
      e ∙ ap (λ (l : List A). splice l (base + off) rec) exact ∙ at ∙ ap (λ (l : List A). blocks (set bs b l)) made

  -- other records in their place: no block is longer or shorter
  sizes-kept : (qs : List R) → length qs * k ≤ n → map length (set bs b (region enc z n qs)) ≡ map length bs
  sizes-kept qs h = map-set_same length bs b (region enc z n qs) [] (region-length enc z k n g.same_size qs h ∙ sym long)

  -- several records more
  pub add-records : {c : ℕ} (qs : List R) {w' : List A} → c ≡ length rs → c * k + length qs * k ≤ n → w' ≡ splice w (base + c * k) (flat enc qs) → w' ≡ blocks (set bs b (region enc z n (rs ++ qs)))
  add-records {c} qs ec h e =
      let l = flat-length enc z k g.same_size rs in
      let lq = flat-length enc z k g.same_size qs in
      let at : c * k ≡ length (flat enc rs) = rw ec (sym l) in
      put (c * k) (flat enc qs) (region enc z n (rs ++ qs)) (omega (arith, lq)) e (region-puts enc z n (c * k) rs qs at (omega (arith, lq)))

  -- one record more
  pub add-record : {c : ℕ} (r : R) {w' : List A} → c ≡ length rs → c * k + k ≤ n → w' ≡ splice w (base + c * k) (enc r) → w' ≡ blocks (set bs b (region enc z n (rs ++ (r ∷ []))))
  add-record {c} r ec h e =
      let at : c * k ≡ length (flat enc rs) = rw ec (sym (flat-length enc z k g.same_size rs)) in
      put (c * k) (enc r) (region enc z n (rs ++ (r ∷ []))) (omega (arith, g.same_size r)) e (region-put enc z n (c * k) rs r at (omega (arith, g.same_size r)))

  -- a part of record i, which becomes r
  pub change-part : (i off : ℕ) (part : List A) (r0 r : R) {w' : List A} → i < length rs → off + length part ≤ k → enc r ≡ splice (enc (get_or rs i r0)) off part
      → w' ≡ splice w (base + i * k + off) part → w' ≡ blocks (set bs b (region enc z n (set rs i r)))
  change-part i off part r0 r hi h q e =
      let at : base + i * k + off ≡ base + (i * k + off) = omega arith in
      put (i * k + off) part (region enc z n (set rs i r)) (omega (arith, row_in k i (length rs) hi, g.fit)) (rw (← at) e) (region-change enc z k g.same_size n rs i off part r0 r hi h q)

  -- the whole of record i
  pub change-record : (i : ℕ) (r0 r : R) {w' : List A} → i < length rs → w' ≡ splice w (base + i * k) (enc r) → w' ≡ blocks (set bs b (region enc z n (set rs i r)))
  change-record i r0 r hi e =
      let at : base + i * k ≡ base + i * k + 0 = omega arith in
      change-part i 0 (enc r) r0 r hi (omega (arith, g.same_size r)) (splice-whole (enc (get_or rs i r0)) (enc r) (g.same_size (get_or rs i r0) ∙ sym (g.same_size r))) (rw (← at) e)

  -- a record becomes one that is encoded alike
  pub keep-record : (i : ℕ) (r0 r : R) → enc r ≡ enc (get_or rs i r0) → set bs b (region enc z n rs) ≡ bs → w ≡ blocks (set bs b (region enc z n (set rs i r)))
  keep-record i r0 r q same = exact ∙ ap blocks (sym same) ∙ ap (λ (l : List A). blocks (set bs b l)) (region-same enc z n rs i r0 r q)

  -- element j of record i
  pub get-word : (i j : ℕ) (d : A) (r0 : R) → i < length rs → j < k → get_or w (base + i * k + j) d ≡ get_or (enc (get_or rs i r0)) j d
  get-word i j d r0 hi hj =
      let at : base + i * k + j ≡ sum (take b g.sizes) + (i * k + j) = omega (arith, g.start) in
      rw (at, exact)
      (get_in bs g.sizes g.sized b (i * k + j) d g.block (omega (arith, long, row_in k i (length rs) hi, g.fit))
      ∙ rw g.is (region-at enc z k n g.same_size rs i j d r0 hi hj))

-- ---- slots
module _ (bs : List (List ℕ)) (ns : List ℕ) (e : map length bs ≡ ns) (k off v : ℕ) (hk : k < length bs) (h : off < length (get_or bs k [])) where
  mark-by : (x : ℕ) → mark_by x (blocks bs) (sum (take k ns) + off) v ≡ blocks (set bs k (mark_by x (get_or bs k []) off v))
  mark-by zero = set-in bs ns e k off v hk h
  mark-by (suc x) = ap blocks (sym (set-get_or bs k []))

  mark-in : marked (blocks bs) (sum (take k ns) + off) v ≡ blocks (set bs k (marked (get_or bs k []) off v))
  mark-in = rw (get_in bs ns e k off 0 hk h) (mark-by (get_or (get_or bs k []) off 0))

-- block b of bs is the n slots of rs, from `base` on
pub record Slotted {R : Type 0} (slot : R → ℕ) (bs : List (List ℕ)) (b n base : ℕ) (rs : List R) : Type 0 where
  pub sizes : List ℕ
  pub sized : map length bs ≡ sizes
  pub start : sum (take b sizes) ≡ base
  pub block : b < length bs
  pub is : get_or bs b [] ≡ slots slot n rs

module _ {R : Type 0} {slot : R → ℕ} {bs : List (List ℕ)} {b n base : ℕ} {rs : List R} (g : Slotted slot bs b n base rs) {w : List ℕ} (exact : w ≡ blocks bs) where
  as_many : length (get_or bs b []) ≡ n
  as_many = ap length g.is ∙ slots-long slot n rs

  -- one record more
  add-slot : {c : ℕ} (r : R) {w' : List ℕ} → c ≡ length rs → slot r < n → w' ≡ marked w (base + slot r) (c + 1) → w' ≡ blocks (set bs b (slots slot n (rs ++ (r ∷ []))))
  add-slot {c} r ec h e =
      let at : marked (blocks bs) (base + slot r) (c + 1) ≡ blocks (set bs b (marked (get_or bs b []) (slot r) (c + 1))) =
      rw (← g.start) (mark-in bs g.sizes g.sized b (slot r) (c + 1) g.block (omega (arith, as_many))) in
      let made : marked (get_or bs b []) (slot r) (c + 1) ≡ slots slot n (rs ++ (r ∷ [])) = rw (g.is, ec) (slots-more slot n rs r) in
      e ∙ ap (λ (l : List ℕ). marked l (base + slot r) (c + 1)) exact ∙ at ∙ ap (λ (l : List ℕ). blocks (set bs b l)) made

  -- what a slot holds
  pub slot-word : (h : ℕ) → h < n → get_or w (base + h) 0 ≡ get_or (slots slot n rs) h 0
  slot-word h hh = rw (← g.start, exact) (get_in bs g.sizes g.sized b h 0 g.block (omega (arith, as_many)) ∙ ap (λ (l : List ℕ). get_or l h 0) g.is)

-- one record more of block b, and its slot in block sb: what then stands in both
module _ {R : Type 0} {enc : R → List ℕ} {z : ℕ} {bs : List (List ℕ)} {b n base k : ℕ} {rs : List R} (g : Lies enc z bs b n base k rs) {w : List ℕ} (exact : w ≡ blocks bs)
    (slot : R → ℕ) (sizes : List ℕ) (sized : map length bs ≡ sizes) (sb sn sat : ℕ) (start : sum (take sb sizes) ≡ sat) (block : sb < length bs) where
  pub add-slotted : {c : ℕ} (r : R) {w' : List ℕ} → get_or (set bs b (region enc z n (rs ++ (r ∷ [])))) sb [] ≡ slots slot sn rs → c ≡ length rs → c * k + k ≤ n → slot r < sn
      → w' ≡ marked (splice w (base + c * k) (enc r)) (sat + slot r) (c + 1) → w' ≡ blocks (set (set bs b (region enc z n (rs ++ (r ∷ [])))) sb (slots slot sn (rs ++ (r ∷ []))))
  add-slotted {c} r is ec h hs e =
      let qs : List R = rs ++ (r ∷ []) in
      let fit : length qs * k ≤ n = rw (length-append rs (r ∷ []), add-one, suc-mul, ← ec) h in
      let at : Slotted slot (set bs b (region enc z n qs)) sb sn sat rs =
      record { sizes = sizes; sized = sizes-kept g exact qs fit ∙ sized; start = start; block = rw length-set block; is = is } in
      add-slot at (add-record g exact r ec h refl) r ec hs e
