-- The letters of a name as one number, the first the highest: those of a short name are what is left when eight bytes that begin with them are shifted. Assumes nothing.
use Prim.Native.Nat.{ℕ, suc, ◌+◌, ◌-◌, ◌*◌, ◌/◌, ◌^◌, ◌≤◌, ◌<◌}
use native.Mathlib.Omega.{arith}
use native.Mathlib.Nat.{mul-le-mul_right, pow-le-pow_right}
use mathlib.Core.Path.{◌≡◌, refl, sym, ap, ◌∙◌}
use mathlib.Core.List.{List, [], ◌∷◌, ◌++◌}
use lib.ListN.{length, take, drop, get_or, length-take, length-drop, take-append-drop}
use lib.Seq.{take_all, take-take, take-suc, get_or-drop}
use lib.Pow.{pow-add, high}
use Rattle.leaf_fields.specs.Fields.{part}
use Rattle.leaf_fields.proofs.FieldLaws.{length_part}
use Rattle.scope.specs.Tables.{packed, key_of}
use Rattle.table_keys.proofs.KeyLaws.{Bytes, bytes_take, bytes-part}

pow-byte : (n : ℕ) → 2 ^ (8 * suc n) ≡ 256 * 2 ^ (8 * n)
pow-byte n = let z : 8 * suc n ≡ 8 + 8 * n = omega arith in ap (2 ^◌) z ∙ pow-add 2 8 (8 * n)

-- a letter more
packed-next : (k x : ℕ) (b : List ℕ) → packed k (x ∷ b) ≡ packed (k * 256 + x) b
unfolding packed
packed-next k x b = refl

packed-first : (x : ℕ) (b : List ℕ) → packed 0 (x ∷ b) ≡ packed x b
packed-first x b = let z : 0 * 256 + x ≡ x = omega arith in packed-next 0 x b ∙ ap (λ k. packed k b) z

-- letters before others stand above them
packed-from : (k : ℕ) (b : List ℕ) → packed k b ≡ k * 2 ^ (8 * length b) + packed 0 b
unfolding packed
packed-from k [] = omega arith
packed-from k (x ∷ b) = rw pow-byte (omega (arith, packed-next k x b, packed-first x b, packed-from (k * 256 + x) b, packed-from x b))

packed_lt : (b : List ℕ) → Bytes b → packed 0 b < 2 ^ (8 * length b)
unfolding packed
packed_lt [] h = omega arith
packed_lt (x ∷ b) h =
    let p : ℕ = 2 ^ (8 * length b) in
    let m : suc x * p ≤ 256 * p = mul-le-mul_right p (omega (arith, h 0)) in
    rw pow-byte (omega (arith, m, packed-first x b, packed-from x b, packed_lt b (λ i. h (suc i))))

packed-joined : (k : ℕ) (a b : List ℕ) → packed k (a ++ b) ≡ packed (packed k a) b
unfolding packed
packed-joined k [] b = refl
packed-joined k (x ∷ a) b = packed-joined (k * 256 + x) a b

-- the first n of them, and the rest
packed-split : (n : ℕ) (l : List ℕ) → packed 0 l ≡ packed 0 (take n l) * 2 ^ (8 * length (drop n l)) + packed 0 (drop n l)
packed-split n l = ap (packed 0) (sym (take-append-drop n l)) ∙ packed-joined 0 (take n l) (drop n l) ∙ packed-from (packed 0 (take n l)) (drop n l)

packed-shifted : (n : ℕ) (l : List ℕ) → Bytes l → packed 0 l / 2 ^ (8 * (length l - n)) ≡ packed 0 (take n l)
packed-shifted n l h =
    let b : List ℕ = drop n l in
    rw (packed-split n l, ← length-drop n l) (high (packed 0 (take n l)) (8 * length b) (packed_lt b (λ i. rw (get_or-drop n l i 0) (h (n + i)))))

-- ---- eight bytes of a text
module _ (text : List ℕ) (at : ℕ) (k : at + 8 ≤ length text) where
  long : length (part at (at + 8) text) ≡ 8
  long = omega (arith, length_part at (at + 8) text k)

  pub key-shifted : Bytes text → (end n w : ℕ) → n ≡ length (part at end text) → n < 8 → w ≡ packed 0 (part at (at + 8) text) → w / 2 ^ (64 - 8 * n) ≡ key_of (part at end text)
  key-shifted h end n w en lt ew =
      let d : List ℕ = drop at text in
      let ln : length (take (end - at) d) ≡ n = sym en in
      let z : end - at ≡ n = omega (arith, length-take (end - at) d, length-drop at text) in
      let y : at + 8 - at ≡ 8 = omega arith in
      let u : 64 - 8 * n ≡ 8 * (length (part at (at + 8) text) - n) = omega (arith, long) in
      let s : w / 2 ^ (64 - 8 * n) ≡ packed 0 (take n (part at (at + 8) text)) = rw (ew, u) (packed-shifted n (part at (at + 8) text) (bytes-part at (at + 8) text h)) in
      let t : take n (part at (at + 8) text) ≡ part at end text = rw (y, z) (take-take n 8 d (omega arith)) in
      s ∙ ap (packed 0) (t ∙ sym (take_all 8 (part at end text) (omega (arith, en))))

-- letter by letter: none; one behind the others
pub far_none : (l : List ℕ) (n : ℕ) → n ≡ 0 → 0 ≡ packed 0 (take n l)
unfolding packed
far_none l n e = rw e

pub far-next : (l : List ℕ) (n r : ℕ) → (n ≡ 0 → ⊥) → n ≤ length l → r ≡ packed 0 (take (n - 1) l) → r * 256 + get_or l (n - 1) 0 ≡ packed 0 (take n l)
unfolding packed
far-next l n r h k e =
    let z : n ≡ suc (n - 1) = omega arith in
    let t : take n l ≡ take (n - 1) l ++ (get_or l (n - 1) 0 ∷ []) = ap (λ i. take i l) z ∙ take-suc l (n - 1) 0 (omega arith) in
    rw (t, packed-joined 0 (take (n - 1) l) (get_or l (n - 1) 0 ∷ []), e)

pub far-fits : (l : List ℕ) (m r : ℕ) → Bytes l → m ≤ 7 → r ≡ packed 0 (take m l) → r < 2 ^ 56
far-fits l m r h k e =
    let u : 8 * length (take m l) ≤ 56 = omega (arith, length-take m l) in
    let p : 2 ^ (8 * length (take m l)) ≤ 2 ^ 56 = pow-le-pow_right (omega arith) u in
    omega (arith, p, e, packed_lt (take m l) (bytes_take m l h))

-- all letters of a short name
pub far-all : (l : List ℕ) → length l < 8 → packed 0 (take (length l) l) ≡ key_of l
far-all l h = ap (packed 0) (take_all (length l) l (omega arith) ∙ sym (take_all 8 l (omega arith)))

-- no letters; some, which begin inside the text
pub key-none : (l : List ℕ) → length l ≡ 0 → 0 ≡ key_of l
unfolding packed
key-none [] e = refl
key-none (x ∷ l) e = absurd (omega (arith, e))

pub starts-inside : (text : List ℕ) (at end : ℕ) → (length (part at end text) ≡ 0 → ⊥) → at ≤ length text
starts-inside text at end h = omega (arith, h, length-take (end - at) (drop at text), length-drop at text)

-- four bytes, and eight of two times four
pub four-packed : (l : List ℕ) → length l ≡ 4 → ((get_or l 0 0 * 256 + get_or l 1 0) * 256 + get_or l 2 0) * 256 + get_or l 3 0 ≡ packed 0 l
unfolding packed
four-packed (a ∷ b ∷ c ∷ d ∷ []) e = sym (packed-first a (b ∷ c ∷ d ∷ []))
four-packed [] e = absurd (omega (arith, e))
four-packed (a ∷ []) e = absurd (omega (arith, e))
four-packed (a ∷ b ∷ []) e = absurd (omega (arith, e))
four-packed (a ∷ b ∷ c ∷ []) e = absurd (omega (arith, e))
four-packed (a ∷ b ∷ c ∷ d ∷ x ∷ l) e = absurd (omega (arith, e))

module _ (l : List ℕ) (n : length l ≡ 8) (h : Bytes l) where
  front : length (take 4 l) ≡ 4
  front = omega (arith, length-take 4 l, n)

  back : take (length l - 4) (drop 4 l) ≡ drop 4 l
  back = take_all (length l - 4) (drop 4 l) (omega (arith, length-drop 4 l))

  short : length (drop 4 l) ≡ 4
  short = omega (arith, length-drop 4 l, n)

  pub first_fits : (x : ℕ) → x ≡ packed 0 (take 4 l) → x < 0x1_0000_0000
  first_fits x e = rw e (rw front at (packed_lt (take 4 l) (bytes_take 4 l h)))

  module _ (y : ℕ) (e : y ≡ packed 0 (take (length l - 4) (drop 4 l))) where
    pub last_fits : y < 0x1_0000_0000
    last_fits = rw (e, back) (rw short at (packed_lt (drop 4 l) (λ i. rw (get_or-drop 4 l i 0) (h (4 + i)))))

    pub eight-packed : (x : ℕ) → x ≡ packed 0 (take 4 l) → x * 0x1_0000_0000 + y ≡ packed 0 l
    eight-packed x ex = rw (ex, e, back) (sym (rw short at (packed-split 4 l)))
