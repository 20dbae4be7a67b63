-- The key of a name tells short names of one length apart: it has their letters as digits. Assumes nothing.
use Prim.Native.Nat.{ℕ, zero, suc, ◌+◌, ◌-◌, ◌*◌, ◌≤◌, ◌<◌}
use native.Mathlib.Omega.{arith}
use mathlib.Core.Path.{◌≡◌, refl, sym, ap, ap₂, ◌∙◌}
use mathlib.Core.List.{List, [], ◌∷◌}
use lib.ListN.{length, take, drop, get_or}
use lib.Seq.{take_all, get_or-drop}
use Rattle.leaf_fields.specs.Fields.{part}
use Rattle.scope.specs.Tables.{packed, key_of}

-- ---- bytes, and a part of them
abbrev pub Bytes : List ℕ → Type 0
Bytes l = (i : ℕ) → get_or l i 0 < 256

pub bytes_take : (n : ℕ) (l : List ℕ) → Bytes l → Bytes (take n l)
bytes_take zero l p i = omega arith
bytes_take (suc n) [] p i = omega arith
bytes_take (suc n) (x ∷ l) p zero = p 0
bytes_take (suc n) (x ∷ l) p (suc i) = bytes_take n l (λ j. p (suc j)) i

pub bytes-part : (a e : ℕ) (l : List ℕ) → Bytes l → Bytes (part a e l)
bytes-part a e l p = bytes_take (e - a) (drop a l) (λ i. rw (get_or-drop a l i 0) (p (a + i)))

-- ---- a number has one list of digits of a length
digits : (k j : ℕ) (a b : List ℕ) → Bytes a → Bytes b → length a ≡ length b → packed k a ≡ packed j b → (k ≡ j) × (a ≡ b)
unfolding packed
digits k j [] [] p q l e = (e, refl)
digits k j [] (y ∷ b) p q l e = absurd (omega (arith, l))
digits k j (x ∷ a) [] p q l e = absurd (omega (arith, l))
digits k j (x ∷ a) (y ∷ b) p q l e =
    let (h, t) = digits (k * 256 + x) (j * 256 + y) a b (λ i. p (suc i)) (λ i. q (suc i)) (omega (arith, l)) e in
    (omega (arith, h, p 0, q 0), ap₂ ◌∷◌ (omega (arith, h, p 0, q 0)) t)

pub one_key : (a b : List ℕ) → Bytes a → Bytes b → length a ≡ length b → length a ≤ 8 → key_of a ≡ key_of b → a ≡ b
one_key a b p q l s e = (digits 0 0 a b p q l (ap (packed 0) (sym (take_all 8 a s)) ∙ e ∙ ap (packed 0) (take_all 8 b (omega (arith, l, s))))).1
