-- Bytes joined to one number, the first the lowest. Assumes nothing.
use Rattle.std.proofs.Common.{◌≡◌, ℕ, zero, suc, ◌+◌, ◌*◌, ◌%◌, ◌^◌, ◌<◌, List, [], ◌∷◌, ◌++◌, length, get_or, take, ap, ◌∙◌, arith, length-take-le, take_all, take-suc, pow-add, shl_exact}
use lib.Bits.{bit_or, or_shifted_r}
use Rattle.leaf_words.specs.Scan.{word}

-- every element is a byte
abbrev pub Bytes : List ℕ → Type 0
Bytes l = (i : ℕ) → get_or l i 0 < 256

pow-byte : (n : ℕ) → 2 ^ (8 * suc n) ≡ 256 * 2 ^ (8 * n)
pow-byte n = let z : 8 * suc n ≡ 8 + 8 * n = omega arith in ap (2 ^◌) z ∙ pow-add 2 8 (8 * n)

-- a byte more, above the others
word_end : (l : List ℕ) (x : ℕ) → word (l ++ (x ∷ [])) ≡ x * 2 ^ (8 * length l) + word l
unfolding word
word_end [] x = omega arith
word_end (y ∷ l) x = rw pow-byte (omega (arith, word_end l x))

word_lt : (l : List ℕ) → Bytes l → word l < 2 ^ (8 * length l)
unfolding word
word_lt [] h = omega arith
word_lt (x ∷ l) h = rw pow-byte (omega (arith, h 0, word_lt l (λ i. h (suc i))))

bytes_take : (k : ℕ) (l : List ℕ) → Bytes l → Bytes (take k l)
bytes_take zero l h i = omega arith
bytes_take (suc k) [] h i = omega arith
bytes_take (suc k) (x ∷ l) h zero = h 0
bytes_take (suc k) (x ∷ l) h (suc i) = bytes_take k l (λ j. h (suc j)) i

-- the bytes of l up to place k joined, each shifted above those before it
abbrev join_to : List ℕ → ℕ → ℕ
join_to l zero = get_or l 0 0
join_to l (suc k) = bit_or (join_to l k) ((get_or l (suc k) 0 * 2 ^ (8 * suc k)) % 2 ^ 64)

module _ (l : List ℕ) (n : length l ≡ 8) (h : Bytes l) where
  join-next : (k : ℕ) → k < 8 → bit_or (word (take k l)) ((get_or l k 0 * 2 ^ (8 * k)) % 2 ^ 64) ≡ word (take (suc k) l)
  join-next k lt =
      let e : length (take k l) ≡ k = length-take-le k l (omega arith) in
      let w : word (take k l) < 2 ^ (8 * k) = rw e at (word_lt (take k l) (bytes_take k l h)) in
      rw (shl_exact 8 (8 * k) 64 (h k) (omega arith), or_shifted_r (get_or l k 0) (8 * k) (word (take k l)) w, take-suc l k 0 (omega arith), word_end, e)

  join-to : (k : ℕ) → k < 8 → join_to l k ≡ word (take (suc k) l)
  unfolding word
  join-to zero lt = rw (take-suc l 0 0 (omega arith)) (omega arith)
  join-to (suc k) lt = rw (join-to k (omega arith)) (join-next (suc k) lt)

  pub join-eight : join_to l 7 ≡ word l
  join-eight = join-to 7 (omega arith) ∙ ap word (take_all 8 l (omega arith))
