-- One line more of the same class; lines of one class at once. Assumes nothing.
use Prim.Native.Nat.{ℕ, zero, suc, ◌+◌, ◌-◌, ◌≤◌}
use native.Mathlib.Omega.{arith}
use mathlib.Core.Path.{◌≡◌, refl, sym, ap, ◌∙◌}
use mathlib.Core.List.{List, append-nil}
use lib.ListN.{length, set, take, drop, replicate, take-append-drop, length-take, length-drop}
use lib.Seq.{paste}
use borrow.Rule.Slice.PartMut.{put_mid}
use Rattle.std.proofs.lemmas.List.{length-replicate}
use Rattle.std.proofs.lemmas.List.Edits.{fill_from_more}
use Rattle.std.proofs.lemmas.Slice.{put_mid-paste}
use Rattle.read_marks.specs.Filled.{filled}

pub filled_more : (c : List ℕ) (from i k : ℕ) → from ≤ i → set (filled c from (i - from) k) i k ≡ filled c from (i + 1 - from) k
unfolding filled
filled_more c from i k h =
    let a : from + (i - from) ≡ i = omega arith in
    let b : i + 1 - from ≡ suc (i - from) = omega arith in
    ap (λ x. set (filled c from (i - from) k) x k) (sym a) ∙ ap (λ x. filled c from x k) (sym b)

pub filled_none : (c : List ℕ) (i k : ℕ) → c ≡ filled c i (i - i) k
unfolding filled
filled_none c i k = let a : i - i ≡ 0 = omega arith in ap (λ x. filled c i x k) (sym a)

pasted : (c : List ℕ) (from k n : ℕ) → from + n ≤ length c → paste c from (replicate n k) n ≡ filled c from n k
unfolding filled
pasted c from k zero h =
    let z : from + 0 ≡ from = omega arith in
    rw (z, append-nil (take from c)) (take-append-drop from c)
pasted c from k (suc n) h =
    let e : n + 1 ≡ suc n = omega arith in
    ap (λ i. paste c from (replicate i k) i) (sym e) ∙ sym (fill_from_more c from n k (omega arith)) ∙ ap (λ x. set x (from + n) k) (pasted c from k n (omega arith))

pub filled-part : (c ys : List ℕ) (from to k : ℕ) → from ≤ to → to ≤ length c → ys ≡ replicate (length (take (to - from) (drop from c))) k
    → put_mid from (to - from) c ys ≡ filled c from (to - from) k
filled-part c ys from to k a b e =
    let n : length (take (to - from) (drop from c)) ≡ to - from = omega (arith, length-take (to - from) (drop from c), length-drop from c) in
    put_mid-paste from (to - from) c ys (replicate (to - from) k) (to - from) (e ∙ ap (λ i. replicate i k) n) refl (sym (length-replicate (to - from) k))
    ∙ pasted c from k (to - from) (omega arith)
