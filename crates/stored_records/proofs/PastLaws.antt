-- What stands in a region past its last record. Assumes nothing.
use Prim.Native.Nat.{ℕ, ◌+◌, ◌-◌, ◌*◌, ◌≤◌, ◌<◌}
use native.Mathlib.Omega.{arith}
use native.Mathlib.Nat.{mul-le-mul_right, suc-mul}
use mathlib.Core.Path.{◌≡◌, sym, ap, ◌∙◌}
use mathlib.Core.Bool.{false}
use mathlib.Core.Logic.{◌⊎◌, inl, inr}
use mathlib.Core.List.{List, []}
use lib.ListN.{length, get_or, replicate, take, drop, length-take, get_or-eq_default, get_or-replicate}
use lib.Seq.{get_or-append-add, get_or-take, get_or-drop}
use lib.Dec.{ltb}
use lib.Ieee.{Float}
use borrow.Author.Tests.{le-leb, ltb-false}
use Rattle.leaf_decimals.proofs.Whole.{le-or-lt}
use Rattle.scope.specs.Records.{Network}
use Rattle.scope.specs.Tables.{flat, region, blocks}
use Rattle.scope.specs.Layout.{record_words, room_numbers}
use Rattle.table_rows.proofs.RegionLaws.{flat-length, region-length}
use Rattle.table_rows.proofs.BlockLaws.{sum, get_in, Lies, get-word}
use Rattle.table_rows.proofs.EmptyLaws.{words_long, numbers-long}
use Rattle.stored_counts.specs.Room.{has_room, have_room}
use Rattle.stored_records.specs.Back.{Stands}

-- ---- past the last record
region-past : {A R : Type 0} (enc : R → List A) (z : A) (n : ℕ) (rs : List R) (off : ℕ) (d : A) → length (flat enc rs) ≤ off → off < n → get_or (region enc z n rs) off d ≡ z
unfolding region
region-past enc z n rs off d h hn =
    let at : off ≡ length (flat enc rs) + (off - length (flat enc rs)) = omega arith in
    rw at
    (get_or-append-add (flat enc rs) (replicate (n - length (flat enc rs)) z) (off - length (flat enc rs)) d
    ∙ get_or-replicate (n - length (flat enc rs)) (off - length (flat enc rs)) z d (omega arith))

module _ {A R : Type 0} {enc : R → List A} {z : A} {bs : List (List A)} {b n base k : ℕ} {rs : List R} (g : Lies enc z bs b n base k rs) {w : List A} (exact : w ≡ blocks bs) where
  pub past_word : (i j : ℕ) (d : A) → length rs ≤ i → i * k + j < n → get_or w (base + i * k + j) d ≡ z
  past_word i j d past h =
      let at : base + i * k + j ≡ sum (take b g.sizes) + (i * k + j) = omega (arith, g.start) in
      let long : length (get_or bs b []) ≡ n = ap length g.is ∙ region-length enc z k n g.same_size rs g.fit in
      rw (at, exact)
      (get_in bs g.sizes g.sized b (i * k + j) d g.block (omega (arith, long))
      ∙ rw g.is (region-past enc z n rs (i * k + j) d (omega (arith, flat-length enc z k g.same_size rs, mul-le-mul_right k past)) h))

  -- element j of record i, where what stands past the end is zeros
  pub any_word : (i j : ℕ) (d : A) (r0 : R) → enc r0 ≡ replicate k z → i * k + k ≤ n → j < k → get_or w (base + i * k + j) d ≡ get_or (enc (get_or rs i r0)) j d
  any_word i j d r0 zeros h hj =
      elim (le-or-lt (length rs) i) [
        | inl past ↦ past_word i j d past (omega arith) ∙ sym (rw (get_or-eq_default rs r0 past, zeros) (get_or-replicate k j z d hj))
        | inr hi ↦ get-word g exact i j d r0 hi hj
      ]

as_long : {A : Type 0} (n : ℕ) (l : List A) → length (take n l) ≡ n → n ≤ length l
as_long n l e = omega (arith, e, length-take n l)

-- ---- a row of k elements from a place on
pub in_row : {A : Type 0} (l : List A) (base k : ℕ) {row : List A} → row ≡ take k (drop base l) → (j : ℕ) (d : A) → j < k → get_or row j d ≡ get_or l (base + j) d
in_row l base k e j d h = rw e (get_or-take k (drop base l) j d h ∙ get_or-drop base l j d)

-- a row of one element
pub only : {A : Type 0} (l : List A) (at i : ℕ) (d : A) {row : List A} → row ≡ take 1 (drop (at + i * 1) l) → get_or row 0 d ≡ get_or l (at + i) d
only l at i d e =
    let here : at + i * 1 + 0 ≡ at + i = omega arith in
    in_row l (at + i * 1) 1 e 0 d (omega arith) ∙ ap (λ (k : ℕ). get_or l k d) here

row-inside : (i room k : ℕ) → i < room → i * k + k ≤ room * k
row-inside i room k h = omega (arith, mul-le-mul_right k h, suc-mul i k)

-- tables that hold a network are long enough: what does not fit is past the end
module _ {m : Network} {w : List ℕ} {f : List Float} (g : Stands m w f) {R : Type 0} (rs : List R) (r0 : R) {room : ℕ} (i : ℕ) (bound : length rs ≤ room) where
  pub past_words : has_room (length w) room i ≡ false → r0 ≡ get_or rs i r0
  past_words e =
      let past : ltb i room ≡ false = rw (le-leb record_words (length w) (as_long record_words w (words_long g.words))) at e in
      sym (get_or-eq_default rs r0 (omega (arith, ltb-false i room past)))

  pub past-both : have_room (length w) (length f) room i ≡ false → r0 ≡ get_or rs i r0
  past-both e = past_words (rw (le-leb room_numbers (length f) (as_long room_numbers f (numbers-long g.words.known g.numbers))) at e)

  -- ..and so is a row for which the tables are too short
  short : (at k n long : ℕ) → at + room * k ≤ n → n ≤ long → long < at + i * k + k → r0 ≡ get_or rs i r0
  short at k n long fits le less =
      elim (le-or-lt room i) [
        | inl past ↦ sym (get_or-eq_default rs r0 (omega (arith, bound)))
        | inr hi ↦ absurd (omega (arith, row-inside i room k hi))
      ]

  pub past_row : (at k : ℕ) → at + room * k ≤ record_words → (has_room (length w) room i ≡ false ⊎ length w < at + i * k + k) → r0 ≡ get_or rs i r0
  past_row at k fits e =
      elim e [
        | inl h ↦ past_words h
        | inr h ↦ short at k record_words (length w) fits (as_long record_words w (words_long g.words)) h
      ]

  pub past_rows : (at k bt n : ℕ) → at + room * k ≤ record_words → bt + room * n ≤ room_numbers
      → (have_room (length w) (length f) room i ≡ false ⊎ (length w < at + i * k + k ⊎ length f < bt + i * n + n)) → r0 ≡ get_or rs i r0
  past_rows at k bt n fits fit e =
      elim e [
        | inl h ↦ past-both h
        | inr h ↦ elim h [
          | inl h ↦ short at k record_words (length w) fits (as_long record_words w (words_long g.words)) h
          | inr h ↦ short bt n room_numbers (length f) fit (as_long room_numbers f (numbers-long g.words.known g.numbers)) h
        ]
      ]
