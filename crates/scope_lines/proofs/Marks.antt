-- Marks in the tables of classes and reasons: one more, and the open group's filled in. Assumes nothing.
use Prim.Native.Nat.{ℕ, suc, ◌+◌, ◌-◌, ◌≤◌, ◌<◌}
use native.Mathlib.Omega.{arith}
use mathlib.Core.Path.{◌≡◌, refl, sym, ap, ap₂, ◌∙◌}
use mathlib.Core.Bool.{Bool, true, false, cond}
use mathlib.Core.List.{List, [], ◌∷◌, ◌++◌, map, append_assoc, append-nil, map-append}
use lib.ListN.{length, take, drop, get_or, set, replicate, length-append, length-map, length-drop, take-append-drop, drop_of_length-le}
use lib.Seq.{set_at, take_at, drop_at, get_or_at, get_or-drop, take-suc, drop-cons, length-take-le, append_snoc}
use lib.Dec.{eqb}
use Rattle.scope_lines.specs.Reader.{marked, Class, blank, header, passed, taken, refused, rule_taken, rule_refused, rule_open, Mark, Fate, code, group_class, reason_of, first_mark, tally, count}
use Rattle.scope_lines.proofs.Forward.{is_open, open_mark, refill}
use Rattle.scope_lines.specs.Tables.{code_of, reason_in, marks_in, swapped, refilled, count_in}

-- ---- one mark more

module _ (g : Mark → ℕ) (n : ℕ) (ms : List Mark) (mk : Mark) (h : length ms < n) where
  tail-is : replicate {A = ℕ} (n - length ms) 0 ≡ 0 ∷ replicate (n - length (ms ++ (mk ∷ []))) 0
  tail-is =
      let k : n - length ms ≡ suc (n - length (ms ++ (mk ∷ []))) = omega (arith, length-append ms (mk ∷ [])) in
      ap (λ i. replicate i 0) k

  more-is : (v : ℕ) → g mk ≡ v → map g ms ++ v ∷ replicate (n - length (ms ++ (mk ∷ []))) 0 ≡ marks_in g n (ms ++ (mk ∷ []))
  unfolding marks_in
  more-is v e =
      rw (map-append g ms (mk ∷ []), e) (sym (append_snoc (map g ms) v (replicate (n - length (ms ++ (mk ∷ []))) 0)))

  pub mark_set : (v : ℕ) → g mk ≡ v → set (marks_in g n ms) (length ms) v ≡ marks_in g n (ms ++ (mk ∷ []))
  unfolding marks_in
  mark_set v e = rw tail-is (set_at (map g ms) 0 (replicate (n - length (ms ++ (mk ∷ []))) 0) v (length ms) (length-map ms g)) ∙ more-is v e

  pub mark-zero : g mk ≡ 0 → marks_in g n ms ≡ marks_in g n (ms ++ (mk ∷ []))
  unfolding marks_in
  mark-zero e = rw tail-is (more-is 0 e)

-- ---- which marks are open

pub data Shut : List Mark → Type 0 where
  shut[] : Shut []
  shut∷ : {m : Mark} {ms : List Mark} → is_open m.class ≡ false → Shut ms → Shut (m ∷ ms)

-- an open mark has no reason
pub data Quiet : List Mark → Type 0 where
  quiet[] : Quiet []
  quiet∷ : {m : Mark} {ms : List Mark} → (is_open m.class ≡ true → m.reason ≡ 0) → Quiet ms → Quiet (m ∷ ms)

open-eight : (c : Class) → eqb (code c) 8 ≡ is_open c
unfolding code is_open
open-eight blank = refl
open-eight header = refl
open-eight passed = refl
open-eight taken = refl
open-eight refused = refl
open-eight rule_taken = refl
open-eight rule_refused = refl
open-eight rule_open = refl

pub open-class : (b : Bool) (f : Fate) → (open_mark b f).class ≡ group_class f
unfolding open_mark first_mark
open-class false f = refl
open-class true f = refl

-- ---- the classes

refill-codes : (b : Bool) (f : Fate) (ms : List Mark) → map code_of (refill b f ms) ≡ map (swapped (code (group_class f))) (map code_of ms)
unfolding refill
refill-codes b f [] = refl
refill-codes b f (m ∷ ms) = rw (open-eight m.class) (go (is_open m.class) (refill-codes true f ms) (refill-codes b f ms))
  where
    go : (t : Bool) → map code_of (refill true f ms) ≡ map (swapped (code (group_class f))) (map code_of ms) → map code_of (refill b f ms) ≡ map (swapped (code (group_class f))) (map code_of ms)
        → map code_of (cond t (open_mark b f ∷ refill true f ms) (m ∷ refill b f ms)) ≡ cond t (code (group_class f)) (code_of m) ∷ map (swapped (code (group_class f))) (map code_of ms)
    go true p q = ap₂ {C = List ℕ} (λ x y. x ∷ y) (ap code (open-class b f)) p
    go false p q = ap (λ (y : List ℕ). code_of m ∷ y) q

shut-codes : (k : ℕ) {ms : List Mark} → Shut ms → map (swapped k) (map code_of ms) ≡ map code_of ms
shut-codes k shut[] = refl
shut-codes k (shut∷ {m} {ms} o s) = ap₂ {C = List ℕ} (λ x y. x ∷ y) (rw (open-eight m.class ∙ o)) (shut-codes k s)

pub refill-length : (b : Bool) (f : Fate) (ms : List Mark) → length (refill b f ms) ≡ length ms
unfolding refill
refill-length b f [] = refl
refill-length b f (m ∷ ms) = go (is_open m.class) (refill-length true f ms) (refill-length b f ms)
  where
    go : (t : Bool) → length (refill true f ms) ≡ length ms → length (refill b f ms) ≡ length ms → length (cond t (open_mark b f ∷ refill true f ms) (m ∷ refill b f ms)) ≡ suc (length ms)
    go true p q = ap suc p
    go false p q = ap suc q

pub classes-refilled : (n : ℕ) (f : Fate) {old : List Mark} (new : List Mark) → Shut old
    → refilled (marks_in code_of n (old ++ new)) (length old) (length (old ++ new)) (code (group_class f)) ≡ marks_in code_of n (refill false f (old ++ new))
unfolding refilled marks_in
classes-refilled n f {old} new s =
    let k = code (group_class f) in
    let a : List ℕ = map code_of old in
    let b : List ℕ = map code_of new in
    let z : List ℕ = replicate (n - length (old ++ new)) 0 in
    let la : length a ≡ length old = length-map old code_of in
    let lb : length b ≡ length new = length-map new code_of in
    let lab : length (a ++ b) ≡ length (old ++ new) = length-append a b ∙ ap₂ (λ x y. x + y) la lb ∙ sym (length-append old new) in
    let d : length (old ++ new) - length old ≡ length new = omega (arith, length-append old new) in
    rw (map-append code_of old new, refill-length false f (old ++ new), d, drop_at (a ++ b) z (length (old ++ new)) lab)
    (rw (append_assoc a b z) (rw (take_at a (b ++ z) (length old) la, drop_at a (b ++ z) (length old) la, take_at b z (length new) lb)
    (ap (λ x. x ++ z) (ap (λ x. x ++ map (swapped k) b) (sym (shut-codes k s)) ∙ sym (map-append (swapped k) a b)
    ∙ ap (map (swapped k)) (sym (map-append code_of old new)) ∙ sym (refill-codes false f (old ++ new))))))

-- ---- the reasons

refill-quiet : (f : Fate) {ms : List Mark} → Quiet ms → map reason_in (refill true f ms) ≡ map reason_in ms
unfolding refill open_mark
refill-quiet f quiet[] = refl
refill-quiet f (quiet∷ {m} {ms} q s) = go (is_open m.class) q (refill-quiet f s)
  where
    go : (t : Bool) → (t ≡ true → m.reason ≡ 0) → map reason_in (refill true f ms) ≡ map reason_in ms
        → map reason_in (cond t (open_mark true f ∷ refill true f ms) (m ∷ refill true f ms)) ≡ m.reason ∷ map reason_in ms
    go true q' e = ap₂ {C = List ℕ} (λ x y. x ∷ y) (sym (q' refl)) e
    go false q' e = ap (λ (y : List ℕ). m.reason ∷ y) e

refill-old : (f : Fate) {old : List Mark} (new : List Mark) → Shut old → refill false f (old ++ new) ≡ old ++ refill false f new
unfolding refill
refill-old f new shut[] = refl
refill-old f new (shut∷ {m} {ms} o s) = rw o (ap (λ (x : List Mark). m ∷ x) (refill-old f new s))

abbrev open_now : Mark
open_now = marked rule_open 0

reasons-are : (f : Fate) {old new : List Mark} → Shut old → Quiet new
    → map reason_in (refill false f (old ++ open_now ∷ new)) ≡ map reason_in old ++ reason_of f ∷ map reason_in new
unfolding refill open_mark first_mark is_open
reasons-are f {old} {new} s q =
    ap (map reason_in) (refill-old f (open_now ∷ new) s) ∙ map-append reason_in old (refill false f (open_now ∷ new))
    ∙ ap (λ (x : List ℕ). map reason_in old ++ reason_of f ∷ x) (refill-quiet f q)

pub reasons-refilled : (n : ℕ) (f : Fate) {old new : List Mark} → Shut old → Quiet new
    → set (marks_in reason_in n (old ++ open_now ∷ new)) (length old) (reason_of f) ≡ marks_in reason_in n (refill false f (old ++ open_now ∷ new))
unfolding marks_in
reasons-refilled n f {old} {new} s q =
    rw (refill-length false f (old ++ open_now ∷ new), reasons-are f s q, map-append reason_in old (open_now ∷ new))
    (let z : List ℕ = replicate (n - length (old ++ open_now ∷ new)) 0 in
    rw (append_assoc (map reason_in old) (0 ∷ map reason_in new) z, append_assoc (map reason_in old) (reason_of f ∷ map reason_in new) z)
    (set_at (map reason_in old) 0 (map reason_in new ++ z) (reason_of f) (length old) (length-map old reason_in)))

pub reasons-kept : (n : ℕ) (f : Fate) {old new : List Mark} → Shut old → Quiet new → reason_of f ≡ 0
    → marks_in reason_in n (old ++ open_now ∷ new) ≡ marks_in reason_in n (refill false f (old ++ open_now ∷ new))
unfolding marks_in
reasons-kept n f {old} {new} s q e =
    rw (refill-length false f (old ++ open_now ∷ new), reasons-are f s q, map-append reason_in old (open_now ∷ new), e)

-- ---- counts

pub count-codes : (k : ℕ) (ms : List Mark) → count_in k (map code_of ms) ≡ count k ms
unfolding count_in count tally
count-codes k [] = refl
count-codes k (m ∷ ms) = go (eqb (code_of m) k) (count-codes k ms)
  where
    go : (t : Bool) → count_in k (map code_of ms) ≡ count k ms → cond t 1 0 + count_in k (map code_of ms) ≡ cond t 1 0 + count k ms
    go true e = ap (λ i. 1 + i) e
    go false e = ap (λ i. 0 + i) e

pub take-codes : (n : ℕ) (ms : List Mark) (k : ℕ) → k ≡ length ms → take k (marks_in code_of n ms) ≡ map code_of ms
unfolding marks_in
take-codes n ms k e = take_at (map code_of ms) (replicate (n - length ms) 0) k (length-map ms code_of ∙ sym e)

-- ---- the loop that fills in

pub refilled-none : (xs : List ℕ) (from k : ℕ) → xs ≡ refilled xs from from k
unfolding refilled
refilled-none xs from k =
    let z : from - from ≡ 0 = omega arith in
    sym (rw (z, append-nil) (take-append-drop from xs))

module _ (xs : List ℕ) (from i k : ℕ) (h : from ≤ i) (f : i < length xs) where
  done : List ℕ
  done = take from xs ++ map (swapped k) (take (i - from) (drop from xs))

  done-long : length done ≡ i
  unfolding done
  done-long =
      length-append (take from xs) (map (swapped k) (take (i - from) (drop from xs)))
      ∙ ap₂ (λ x y. x + y) (length-take-le from xs (omega arith))
      (length-map (take (i - from) (drop from xs)) (swapped k) ∙ length-take-le (i - from) (drop from xs) (omega (arith, length-drop from xs)))
      ∙ omega arith

  split-is : refilled xs from i k ≡ done ++ get_or xs i 0 ∷ drop (suc i) xs
  unfolding refilled done
  split-is = ap (λ x. done ++ x) (drop-cons xs i 0 f)

  pub at-is : get_or (refilled xs from i k) i 0 ≡ get_or xs i 0
  at-is = ap (λ x. get_or x i 0) split-is ∙ get_or_at done (get_or xs i 0) (drop (suc i) xs) 0 i done-long

  next-is : refilled xs from (i + 1) k ≡ done ++ swapped k (get_or xs i 0) ∷ drop (suc i) xs
  unfolding refilled done
  next-is =
      let d : i + 1 - from ≡ suc (i - from) = omega arith in
      let j : i + 1 ≡ suc i = omega arith in
      let n : from + (i - from) ≡ i = omega arith in
      rw (
        d,
        j,
        take-suc (drop from xs) (i - from) 0 (omega (arith, length-drop from xs)),
        get_or-drop from xs (i - from) 0,
        n,
        map-append (swapped k) (take (i - from) (drop from xs)) (get_or xs i 0 ∷ []),
        ← append_assoc (take from xs) (map (swapped k) (take (i - from) (drop from xs))) (swapped k (get_or xs i 0) ∷ []),
      )
      (append_snoc done (swapped k (get_or xs i 0)) (drop (suc i) xs))

  pub refilled-more : (v : ℕ) → v ≡ swapped k (get_or (refilled xs from i k) i 0) → set (refilled xs from i k) i v ≡ refilled xs from (i + 1) k
  refilled-more v e =
      ap₂ (λ x y. set x i y) split-is (e ∙ ap (swapped k) at-is)
      ∙ set_at done (get_or xs i 0) (drop (suc i) xs) (swapped k (get_or xs i 0)) i done-long ∙ sym next-is

-- ---- the loop that counts

module _ (k : ℕ) (xs : List ℕ) (i : ℕ) where
  pub count_at : i < length xs → count_in k (drop i xs) ≡ cond (eqb (get_or xs i 0) k) 1 0 + count_in k (drop (suc i) xs)
  unfolding count_in
  count_at h = ap (count_in k) (drop-cons xs i 0 h)

  pub count-end : length xs ≤ i → count_in k (drop i xs) ≡ 0
  unfolding count_in
  count-end h = ap (count_in k) (drop_of_length-le xs h)

pub count-le : (k : ℕ) (xs : List ℕ) → count_in k xs ≤ length xs
unfolding count_in
count-le k [] = omega arith
count-le k (x ∷ xs) = go (eqb x k) (count-le k xs)
  where
    go : (t : Bool) → count_in k xs ≤ length xs → cond t 1 0 + count_in k xs ≤ suc (length xs)
    go true h = omega arith
    go false h = omega arith
