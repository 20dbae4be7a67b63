-- The lines of the open group, filled back in their part of the table. Assumes nothing.
use Prim.Native.Nat.{ℕ, ◌+◌, ◌-◌, ◌≤◌}
use native.Mathlib.Omega.{arith}
use mathlib.Core.Path.{◌≡◌, sym, ◌∙◌}
use mathlib.Core.List.{List, ◌++◌, map, append_assoc, append-nil}
use lib.ListN.{length, take, drop, drop_of_length-le}
use lib.Seq.{take_all, drop-drop}
use borrow.Rule.Slice.PartMut.{put_mid}
use Rattle.scope_lines.specs.Tables.{swapped, refilled}

pub refilled-part : (c ys : List ℕ) (from to k i : ℕ) → from ≤ to → to ≤ length c → length (take (to - from) (drop from c)) ≤ i
    → ys ≡ map (swapped k) (take i (take (to - from) (drop from c))) ++ drop i (take (to - from) (drop from c))
    → put_mid from (to - from) c ys ≡ refilled c from to k
unfolding refilled
refilled-part c ys from to k i a b h e =
    let part : List ℕ = take (to - from) (drop from c) in
    let z : from + (to - from) ≡ to = omega arith in
    let done : ys ≡ map (swapped k) part = e ∙ rw (take_all i part h, drop_of_length-le part h, append-nil (map (swapped k) part)) in
    rw (done, drop-drop (to - from) from c, z) (sym (append_assoc (take from c) (map (swapped k) part) (drop to c)))
