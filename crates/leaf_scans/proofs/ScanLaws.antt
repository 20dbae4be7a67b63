-- A scan, one byte further; a scan for two bytes, a block further. Assumes nothing.
use Prim.Native.Nat.{ℕ, suc, ◌≤◌, ◌<◌}
use native.Mathlib.Omega.{arith}
use mathlib.Core.Path.{◌≡◌, refl}
use mathlib.Core.Bool.{Bool, true, false, cond}
use mathlib.Core.List.{List, [], ◌∷◌}
use lib.ListN.{length, drop, get_or, drop_of_length-le}
use lib.Seq.{drop-cons}
use Rattle.leaf_scans.specs.declared.Kind.{Kind}
use Rattle.leaf_scans.specs.Scan.{is_kind, span_len}

module _ (k : Kind) (l : List ℕ) (i : ℕ) where
  pub span-on : i < length l → is_kind k (get_or l i 0) ≡ true → span_len k (drop i l) ≡ suc (span_len k (drop (suc i) l))
  unfolding span_len
  span-on h e = rw (drop-cons l i 0 h, e)

  pub span-off : i < length l → is_kind k (get_or l i 0) ≡ false → span_len k (drop i l) ≡ 0
  unfolding span_len
  span-off h e = rw (drop-cons l i 0 h, e)

  pub span-end : length l ≤ i → span_len k (drop i l) ≡ 0
  unfolding span_len
  span-end h = rw (drop_of_length-le l h)

pub span-le : (k : Kind) (l : List ℕ) → span_len k l ≤ length l
unfolding span_len
span-le k [] = omega arith
span-le k (b ∷ bs) = go (is_kind k b) (span-le k bs)
  where
    go : (t : Bool) → span_len k bs ≤ length bs → cond t (suc (span_len k bs)) 0 ≤ suc (length bs)
    go true h = omega arith
    go false h = omega arith

-- the byte after a span is not of the kind
pub span-stop : (k : Kind) (l : List ℕ) → span_len k l < length l → is_kind k (get_or l (span_len k l) 0) ≡ false
unfolding span_len
span-stop k [] h = absurd (omega arith)
span-stop k (b ∷ bs) h = go (is_kind k b) refl h (span-stop k bs)
  where
    go : (t : Bool) → is_kind k b ≡ t → cond t (suc (span_len k bs)) 0 < suc (length bs)
        → (span_len k bs < length bs → is_kind k (get_or bs (span_len k bs) 0) ≡ false) → is_kind k (get_or (b ∷ bs) (cond t (suc (span_len k bs)) 0) 0) ≡ false
    go true e h f = f (omega arith)
    go false e h f = e
