-- Clauses that are erased leave the tables as they were before them. Assumes nothing.
use Prim.Native.Nat.{ℕ, ◌+◌, ◌-◌, ◌*◌, ◌≤◌, min}
use native.Mathlib.Omega.{arith}
use native.Mathlib.Nat.{add-mul, mul-one}
use mathlib.Core.Path.{◌≡◌, sym, ap, ap₂, ◌∙◌}
use mathlib.Core.List.{List, [], ◌++◌, append_assoc}
use lib.ListN.{length, take, drop, set, get_or, replicate, length-append, length-take, length-replicate, replicate-append-replicate}
use lib.Seq.{length-take-le, take_at, drop_at, take-append_seam, drop-append-add}
use lib.Ieee.{Float}
use borrow.Rule.Slice.PartMut.{mid_of, put_mid, mid_len, Post-is}
use Rattle.scope.specs.declared.Counts.{Counts}
use Rattle.scope.specs.Records.{Network, Clause, zero_f}
use Rattle.scope.specs.Tables.{flat, region, blocks, word_blocks, number_blocks}
use Rattle.table_rows.specs.Table.{splice}
use Rattle.scope.specs.Layout.{clauses_at, clauses_width, clause_numbers_at}
use Rattle.scope.specs.Sections.{room_clauses}
use Rattle.table_rows.specs.Holding.{Holds}
use Rattle.table_rows.proofs.AfterLaws.{holds-words, holds-numbers}
use Rattle.table_rows.proofs.RegionLaws.{drop-replicate, flat-length, region-puts, region-length}
use Rattle.table_rows.proofs.BlockLaws.{Lies, put_in}
use Rattle.table_rows.proofs.SizeLaws.{clause-words-lie, clause-numbers-lie}
use Rattle.rule_store.specs.Group.{HoldsMore, fitting}

-- ---- one region
module _ {A : Type 0} where
  -- a part that is cleared is blank
  part-cleared : (z : A) (xs : List A) (a e : ℕ) (ys : List A) → a ≤ e → e ≤ length xs → ys ≡ replicate (length (mid_of a (e - a) xs)) z → put_mid a (e - a) xs ys ≡ splice xs a (replicate (e - a) z)
  part-cleared z xs a e ys h inside q =
      let blank : ys ≡ replicate (e - a) z = q ∙ ap (λ (k : ℕ). replicate k z) (mid_len a e xs inside) in
      let end : e ≡ a + length (replicate (e - a) z) = omega (arith, length-replicate (e - a) z) in
      ap₂ (λ (l r : List A). take a xs ++ (l ++ r)) blank (Post-is a e xs h ∙ ap (λ (k : ℕ). drop k xs) end)
      ∙ sym (append_assoc (take a xs) (replicate (e - a) z) (drop (a + length (replicate (e - a) z)) xs))

  -- what is put in the place of as many elements that were put there
  splice-over : (xs : List A) (a : ℕ) (old new : List A) → length old ≡ length new → a ≤ length xs → splice (splice xs a old) a new ≡ splice xs a new
  splice-over xs a old new e h =
      let k : length (take a xs) ≡ a = length-take-le a xs h in
      let front : take a (splice xs a old) ≡ take a xs = rw append_assoc (take_at (take a xs) (old ++ drop (a + length old) xs) a k) in
      let back : drop (a + length new) (splice xs a old) ≡ drop (a + length new) xs =
      drop_at (take a xs ++ old) (drop (a + length old) xs) (a + length new) (omega (arith, length-append (take a xs) old)) ∙ rw e in
      rw (front, back)

  module _ {R : Type 0} (enc : R → List A) (z : A) (n : ℕ) where
    -- the free places of a region are blank
    region-blank : (at k : ℕ) (rs : List R) → at ≡ length (flat enc rs) → at + k ≤ n → splice (region enc z n rs) at (replicate k z) ≡ region enc z n rs
    unfolding region
    region-blank at k rs e h =
        let i : k + (n - length (flat enc rs) - k) ≡ n - length (flat enc rs) = omega (arith, e) in
        rw (e, take-append_seam, length-replicate, drop-append-add, drop-replicate, append_assoc, replicate-append-replicate, i)

    region-erased : (at : ℕ) (rs qs : List R) → at ≡ length (flat enc rs) → at + length (flat enc qs) ≤ n → at ≤ length (region enc z n rs)
        → splice (region enc z n (rs ++ qs)) at (replicate (length (flat enc qs)) z) ≡ region enc z n rs
    region-erased at rs qs e h inside =
        let new : List A = replicate (length (flat enc qs)) z in
        ap (λ (l : List A). splice l at new) (sym (region-puts enc z n at rs qs e h))
        ∙ splice-over (region enc z n rs) at (flat enc qs) new (sym (length-replicate (length (flat enc qs)) z)) inside
        ∙ region-blank at (length (flat enc qs)) rs e h

-- the last records of block b
erase-records : {A R : Type 0} {enc : R → List A} {z : A} {bs : List (List A)} {b n base k : ℕ} (rs qs : List R) → Lies enc z bs b n base k (rs ++ qs) → {w w' : List A} → w ≡ blocks bs
    → w' ≡ splice w (base + length rs * k) (replicate (length qs * k) z) → w' ≡ blocks (set bs b (region enc z n rs))
erase-records {A} {R} {enc} {z} {bs} {b} {n} {base} {k} rs qs g {w} {w'} exact e =
    let l : length (flat enc rs) ≡ length rs * k = flat-length enc z k g.same_size rs in
    let lq : length (flat enc qs) ≡ length qs * k = flat-length enc z k g.same_size qs in
    let fit : length rs * k + length qs * k ≤ n = rw (length-append, add-mul) at g.fit in
    let long : length (get_or bs b []) ≡ n = ap length g.is ∙ region-length enc z k n g.same_size (rs ++ qs) g.fit in
    let new : List A = replicate (length qs * k) z in
    let put : splice (blocks bs) (base + length rs * k) new ≡ blocks (set bs b (splice (get_or bs b []) (length rs * k) new)) =
    rw (← g.start) (put_in bs g.sizes g.sized b (length rs * k) new g.block (omega (arith, long, length-replicate (length qs * k) z))) in
    let made : splice (get_or bs b []) (length rs * k) new ≡ region enc z n rs =
    rw (g.is, ← lq) (region-erased enc z n (length rs * k) rs qs (sym l) (omega arith) (omega (arith, region-length enc z k n g.same_size rs (omega arith)))) in
    e ∙ ap (λ (x : List A). splice x (base + length rs * k) new) exact ∙ put ∙ ap (λ (x : List A). blocks (set bs b x)) made

-- ---- both tables
module _ {text : List ℕ} {m : Network} {s : Counts} {w0 : List ℕ} {f0 : List Float} (h : Holds text m s w0 f0) (cs : List Clause) {w : List ℕ} {f : List Float} (more : HoldsMore text m cs w f) where
  erased-words : {w' : List ℕ} → w' ≡ splice w (clauses_at + length m.clauses * clauses_width) (replicate (length cs * clauses_width) 0) → w' ≡ w0
  unfolding word_blocks
  erased-words e = erase-records m.clauses cs (clause-words-lie more.words.known) more.words.exact e ∙ sym h.words.exact

  erased-numbers : {f' : List Float} → f' ≡ splice f (clause_numbers_at + length m.clauses) (replicate (length cs) zero_f) → f' ≡ f0
  unfolding number_blocks
  erased-numbers e = erase-records m.clauses cs (clause-numbers-lie more.words.known) more.numbers.exact (rw (mul-one, mul-one) e) ∙ sym h.numbers.exact

-- the clauses that a group has put, `count` at most
module _ {text : List ℕ} {m : Network} {s : Counts} {w0 : List ℕ} {f0 : List Float} (h : Holds text m s w0 f0) (cs : List Clause) {w : List ℕ} {f : List Float}
    (more : HoldsMore text m (fitting m cs) w f)
    (base count end : ℕ) (eb : base ≡ length m.clauses) (ec : length cs ≡ count) (ee : end ≡ base + min (room_clauses - base) count) where
  ends : end ≡ base + length (fitting m cs)
  ends = ee ∙ ap (λ (k : ℕ). base + k) (rw (eb, ← ec) (sym (length-take (room_clauses - length m.clauses) cs)))

  inside : end ≤ room_clauses
  inside = omega (arith, ends, eb, length-append m.clauses (fitting m cs), more.words.known.clauses.bound)

  pub words_back : (ys : List ℕ) → ys ≡ replicate (length (mid_of (clauses_at + base * clauses_width) (clauses_at + end * clauses_width - (clauses_at + base * clauses_width)) w)) 0
      → put_mid (clauses_at + base * clauses_width) (clauses_at + end * clauses_width - (clauses_at + base * clauses_width)) w ys ≡ w0
  words_back ys e =
      let long : clauses_at + end * clauses_width - (clauses_at + base * clauses_width) ≡ length (fitting m cs) * clauses_width = omega (arith, ends) in
      erased-words h (fitting m cs) more
      (part-cleared 0 w (clauses_at + base * clauses_width) (clauses_at + end * clauses_width) ys (omega (arith, ends)) (omega (arith, inside, holds-words more)) e ∙ rw (long, eb))

  pub numbers-back : (ys : List Float) → ys ≡ replicate (length (mid_of (clause_numbers_at + base) (clause_numbers_at + end - (clause_numbers_at + base)) f)) zero_f
      → put_mid (clause_numbers_at + base) (clause_numbers_at + end - (clause_numbers_at + base)) f ys ≡ f0
  numbers-back ys e =
      let long : clause_numbers_at + end - (clause_numbers_at + base) ≡ length (fitting m cs) = omega (arith, ends) in
      erased-numbers h (fitting m cs) more
      (part-cleared zero_f f (clause_numbers_at + base) (clause_numbers_at + end) ys (omega (arith, ends)) (omega (arith, inside, holds-numbers more)) e ∙ rw (long, eb))
