-- The first byte of a word that is a or b, told by arithmetic on the word. Assumes nothing.
use Rattle.std.proofs.Common.{◌≡◌, ℕ, zero, suc, ◌+◌, ◌-◌, ◌*◌, ◌/◌, ◌%◌, ◌^◌, ◌<◌, Bool, true, false, cond, ◌||◌, eqb, List, [], ◌∷◌, length, replicate, refl, ap, ◌∙◌, ap₂, suc-add, zero-add, mul-one, arith, eqb-true}
use borrow.Author.Tests.{eqb-false}
use lib.Bits.{bit_and, bit_or, bit_xor, and_le_l, and_le_r, and_comm, and_mask, and_shifted, or_comm, or_lt, or_self, or_add_and, xor_lt, xor_self, xor_add_and}
use lib.Bits.{and_block, or_block, xor_block, shifted_half, shifted_even}
use lib.Count.{count_trailing_zeros}
use Rattle.leaf_words.specs.Scan.{clear_len, word}
use Rattle.leaf_words.proofs.WordLaws.{Bytes}

-- c above n bytes
abbrev above : ℕ → ℕ → ℕ
above c zero = c
above c (suc n) = above c n * 256

-- d is x with one taken from each of its n bytes, c borrowed from above them; m is the other bits than those of x
abbrev Taken : ℕ → ℕ → ℕ → ℕ → Type 0
Taken n x d m = ((c : ℕ) × (d + word (replicate n 1) ≡ x + above c n)) × (m + x ≡ word (replicate n 255))

-- the marks: h has the highest bit of each byte
abbrev marked : ℕ → ℕ → ℕ → ℕ → ℕ → ℕ
marked h d m e k = bit_and (bit_or (bit_and d m) (bit_and e k)) h

-- ---- the lowest byte
-- the two bytes differ
differ-pos : (x a : ℕ) → (x ≡ a → ⊥) → 0 < bit_xor x a
differ-pos x a h = omega (arith, xor_add_and x a, and_le_l x a, and_le_r x a)

module _ (n v x d m : ℕ) (h : x < 256) (t : Taken (suc n) (v * 256 + x) d m) where
  -- a zero is marked
  byte-hit : x ≡ 0 → bit_and (d % 256) (m % 256) ≡ 255
  unfolding word
  byte-hit e =
      let p : d % 256 ≡ 255 = omega (arith, t.0.1) in
      let q : m % 256 ≡ 255 = omega (arith, t.1) in
      ap₂ bit_and p q

  -- any other is not, and borrows nothing
  byte-missed : 0 < x → bit_and (d % 256) (m % 256) < 128
  unfolding word
  byte-missed p =
      let u : d % 256 ≡ x - 1 = omega (arith, t.0.1) in
      let r : m % 256 ≡ 255 - x = omega (arith, t.1) in
      omega (arith, and_le_l (d % 256) (m % 256), and_le_r (d % 256) (m % 256))

  byte-on : 0 < x → Taken n v (d / 256) (m / 256)
  unfolding word
  byte-on p = ((t.0.0, omega (arith, t.0.1)), omega (arith, t.1))

marked-hit : (s t : ℕ) → s ≡ 255 → t < 256 → bit_and (bit_or s t) 128 ≡ 128
marked-hit s t e h =
    let p : bit_or s t ≡ 255 = rw e (omega (arith, or_add_and 255 t, and_comm 255 t, and_mask t 8)) in
    ap (λ z. bit_and z 128) p

marked-none : (s t : ℕ) → s < 128 → t < 128 → bit_and (bit_or s t) 128 ≡ 0
marked-none s t h k = and_comm (bit_or s t) 128 ∙ and_shifted 1 7 (bit_or s t) (or_lt 7 s t h k)

-- ---- a word: a byte, and the bytes above it
marked-block : (h d m e k : ℕ) → marked (h * 256 + 128) d m e k
    ≡ marked h (d / 256) (m / 256) (e / 256) (k / 256) * 256 + marked 128 (d % 256) (m % 256) (e % 256) (k % 256)
marked-block h d m e k =
    ap₂ (λ s t. bit_and (bit_or s t) (h * 256 + 128)) (both d m) (both e k)
    ∙ ap (λ s. bit_and s (h * 256 + 128)) (or_block 8 (bit_and (d / 256) (m / 256)) (bit_and (e / 256) (k / 256)) (bit_and (d % 256) (m % 256)) (bit_and (e % 256) (k % 256)) (low d m) (low e k))
    ∙ and_block 8 (bit_or (bit_and (d / 256) (m / 256)) (bit_and (e / 256) (k / 256))) h (bit_or (bit_and (d % 256) (m % 256)) (bit_and (e % 256) (k % 256))) 128
    (or_lt 8 (bit_and (d % 256) (m % 256)) (bit_and (e % 256) (k % 256)) (low d m) (low e k)) (omega arith)
  where
    low : (s t : ℕ) → bit_and (s % 256) (t % 256) < 256
    low s t = omega (arith, and_le_l (s % 256) (t % 256))

    both : (s t : ℕ) → bit_and s t ≡ bit_and (s / 256) (t / 256) * 256 + bit_and (s % 256) (t % 256)
    both s t =
        let p : s ≡ s / 256 * 256 + s % 256 = omega arith in
        let q : t ≡ t / 256 * 256 + t % 256 = omega arith in
        ap₂ bit_and p q ∙ and_block 8 (s / 256) (t / 256) (s % 256) (t % 256) (omega arith) (omega arith)

-- j zeros below a number of k digits
zeros-below : (j k m : ℕ) → count_trailing_zeros (j + k) (m * 2 ^ j) ≡ j + count_trailing_zeros k m
unfolding count_trailing_zeros
zeros-below zero k m = rw (zero-add, zero-add, mul-one)
zeros-below (suc j) k m = rw (suc-add, suc-add, shifted_even m j, shifted_half m j) (ap suc (zeros-below j k m))

zeros-odd : (k m : ℕ) → m % 2 ≡ 1 → count_trailing_zeros (suc k) m ≡ 0
unfolding count_trailing_zeros
zeros-odd k m h = rw h

-- the zeros of a word: seven where its lowest byte is marked, else eight and those of the bytes above
zeros-hit : (n g : ℕ) → count_trailing_zeros (8 * suc n) (g * 256 + 128) ≡ 7
zeros-hit n g =
    let p : 8 * suc n ≡ 7 + suc (8 * n) = omega arith in
    let q : g * 256 + 128 ≡ (g * 2 + 1) * 2 ^ 7 = omega arith in
    rw (p, q, zeros-below 7 (suc (8 * n)) (g * 2 + 1), zeros-odd (8 * n) (g * 2 + 1) (omega arith))

zeros-on : (n g : ℕ) → count_trailing_zeros (8 * suc n) (g * 256 + 0) ≡ 8 + count_trailing_zeros (8 * n) g
zeros-on n g =
    let p : 8 * suc n ≡ 8 + 8 * n = omega arith in
    let q : g * 256 + 0 ≡ g * 2 ^ 8 = omega arith in
    rw (p, q, zeros-below 8 (8 * n) g)

module _ (a b : ℕ) (ha : a < 256) (hb : b < 256) where
  -- eight zeros for each byte before the first that is a or b, and seven of its own
  word_first : (l : List ℕ) → Bytes l → (d m e k : ℕ)
      → Taken (length l) (bit_xor (word l) (word (replicate (length l) a))) d m
      → Taken (length l) (bit_xor (word l) (word (replicate (length l) b))) e k
      → count_trailing_zeros (8 * length l) (marked (word (replicate (length l) 128)) d m e k) / 8 ≡ clear_len a b l
  unfolding word clear_len count_trailing_zeros
  word_first [] h d m e k s t = refl
  word_first (x ∷ l) h d m e k s t = go (eqb x a) refl (eqb x b) refl (word_first l (λ i. h (suc i)) (d / 256) (m / 256) (e / 256) (k / 256))
    where
      n : ℕ
      n = length l

      v : ℕ
      v = bit_xor (word l) (word (replicate n a))

      w : ℕ
      w = bit_xor (word l) (word (replicate n b))

      g : ℕ
      g = marked (word (replicate n 128)) (d / 256) (m / 256) (e / 256) (k / 256)

      low-a : ℕ
      low-a = bit_and (d % 256) (m % 256)

      low-b : ℕ
      low-b = bit_and (e % 256) (k % 256)

      xa : bit_xor x a < 256
      xa = xor_lt 8 x a (h 0) ha

      xb : bit_xor x b < 256
      xb = xor_lt 8 x b (h 0) hb

      ta : Taken (suc n) (v * 256 + bit_xor x a) d m
      ta = rw (xor_block 8 (word l) (word (replicate n a)) x a (h 0) ha) at s

      tb : Taken (suc n) (w * 256 + bit_xor x b) e k
      tb = rw (xor_block 8 (word l) (word (replicate n b)) x b (h 0) hb) at t

      go : (i : Bool) → eqb x a ≡ i → (j : Bool) → eqb x b ≡ j
          → (Taken n v (d / 256) (m / 256) → Taken n w (e / 256) (k / 256) → count_trailing_zeros (8 * n) g / 8 ≡ clear_len a b l)
          → count_trailing_zeros (8 * suc n) (marked (word (replicate n 128) * 256 + 128) d m e k) / 8 ≡ cond (i || j) 0 (suc (clear_len a b l))
      go true p j q f =
          let z : bit_xor x a ≡ 0 = ap (λ y. bit_xor y a) (eqb-true x a p) ∙ xor_self a in
          rw (marked-block (word (replicate n 128)) d m e k, marked-hit low-a low-b (byte-hit n v (bit_xor x a) d m xa ta z) (omega (arith, and_le_l (e % 256) (k % 256))), zeros-hit n g)
      go false p true q f =
          let z : bit_xor x b ≡ 0 = ap (λ y. bit_xor y b) (eqb-true x b q) ∙ xor_self b in
          rw (
            marked-block (word (replicate n 128)) d m e k,
            or_comm low-a low-b,
            marked-hit low-b low-a (byte-hit n w (bit_xor x b) e k xb tb z) (omega (arith, and_le_l (d % 256) (m % 256))),
            zeros-hit n g,
          )
      go false p false q f =
          let pa : 0 < bit_xor x a = differ-pos x a (eqb-false x a p) in
          let pb : 0 < bit_xor x b = differ-pos x b (eqb-false x b q) in
          rw (marked-block (word (replicate n 128)) d m e k, marked-none low-a low-b (byte-missed n v (bit_xor x a) d m xa ta pa) (byte-missed n w (bit_xor x b) e k xb tb pb), zeros-on n g)
          (omega (arith, f (byte-on n v (bit_xor x a) d m xa ta pa) (byte-on n w (bit_xor x b) e k xb tb pb)))

-- ---- a word of eight bytes
word-eight : (a : ℕ) → word (replicate 8 a) ≡ a * 0x0101_0101_0101_0101
unfolding word
word-eight a = omega arith

taken-eight : (x d : ℕ) → x < 2 ^ 64 → (d + 0x0101_0101_0101_0101) % 2 ^ 64 ≡ x → Taken 8 x d (2 ^ 64 - 1 - x)
unfolding word
taken-eight x d h e = (((d + 0x0101_0101_0101_0101) / 2 ^ 64, omega (arith, e)), omega arith)

module _ (a b : ℕ) (l : List ℕ) (ha : a < 256) (hb : b < 256) (n : length l ≡ 8) (h : Bytes l)
    (w p d : ℕ) (ew : w ≡ word l) (ep : p ≡ a * 0x0101_0101_0101_0101) (hx : bit_xor w p < 2 ^ 64) (ed : (d + 0x0101_0101_0101_0101) % 2 ^ 64 ≡ bit_xor w p) where
  pub hit-either : (q e : ℕ) → q ≡ b * 0x0101_0101_0101_0101 → bit_xor w q < 2 ^ 64 → (e + 0x0101_0101_0101_0101) % 2 ^ 64 ≡ bit_xor w q
      → count_trailing_zeros 64 (marked 0x8080_8080_8080_8080 d (2 ^ 64 - 1 - bit_xor w p) e (2 ^ 64 - 1 - bit_xor w q)) / 8 ≡ clear_len a b l
  unfolding word
  hit-either q e eq hy ee =
      rw (n, word-eight a, word-eight b, ← ew, ← ep, ← eq) at (word_first a b ha hb l h) d (2 ^ 64 - 1 - bit_xor w p) e (2 ^ 64 - 1 - bit_xor w q)
      (taken-eight (bit_xor w p) d hx ed) (taken-eight (bit_xor w q) e hy ee)

  pub hit-one : a ≡ b → count_trailing_zeros 64 (bit_and (bit_and d (2 ^ 64 - 1 - bit_xor w p)) 0x8080_8080_8080_8080) / 8 ≡ clear_len a b l
  hit-one e = rw or_self at (hit-either p d (rw (← e) ep) hx ed)
