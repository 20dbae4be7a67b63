-- Tables that are longer than their room: the counts after the records, and what lies beyond as it was. Assumes nothing.
use Prim.Native.Nat.{ℕ, ◌+◌, ◌≤◌}
use native.Mathlib.Omega.{arith}
use borrow.Author.Tests.{ltb-false}
use mathlib.Core.Path.{◌≡◌, refl, sym, ap, ap₂, ◌∙◌, subst}
use mathlib.Core.Bool.{Bool, true, false, ◌||◌, false≢true}
use mathlib.Core.List.{List, ◌++◌, append_assoc}
use lib.ListN.{length, take, drop, length-append, length-drop}
use lib.Seq.{take_at, drop_at, drop-drop}
use lib.Dec.{ltb}
use lib.Ieee.{Float}
use Rattle.scope.specs.declared.Counts.{Counts}
use Rattle.scope.specs.Records.{Network}
use Rattle.scope.specs.Tables.{tally_words, words_of, numbers_of}
use Rattle.scope.specs.Layout.{record_words, room_words, room_numbers}
use Rattle.scope.specs.Reading.{too_small, words_holding, numbers_holding}
use Rattle.table_rows.specs.Table.{splice}
use Rattle.table_rows.specs.Holding.{Words, Numbers, Holds}
use Rattle.table_rows.proofs.AfterLaws.{holds-words, holds-numbers}
use Rattle.stored_records.specs.Back.{Stands}
use mathlib.Core.Bool.{cond}
use Rattle.std.specs.Prelude.{Option, None, Some}
use Rattle.std.proofs.lemmas.Option.{none-some}
use Rattle.scope.specs.declared.Reason.{Reason}
use Rattle.scope.specs.declared.Reason.TheVariants.{TooLong, HighByte}
use Rattle.scope.specs.Sections.{room_text}
use Rattle.scope.specs.Reading.{all_low, by_text}
use Prim.Native.Nat.{ℕ, ◌≤◌}
use mathlib.Core.Path.{◌≡◌, refl, ap, ◌∙◌}
use mathlib.Core.Bool.{Bool, true, false}
use mathlib.Core.List.{List}
use lib.ListN.{length, drop, replicate}
use Rattle.scope.specs.Records.{no_network, counts_of, zero_f}
use Rattle.scope.specs.Layout.{record_words, room_numbers}
use Rattle.table_rows.specs.Holding.{Holds}
use Rattle.table_rows.proofs.EmptyLaws.{empty}

-- ---- tables that are emptied
pub cleared : (text w : List ℕ) (f : List Float) {w' : List ℕ} {f' : List Float} → length w ≡ record_words → length f ≡ room_numbers → w' ≡ replicate (length w) 0 → f' ≡ replicate (length f) zero_f
    → Holds text no_network (counts_of no_network) w' f'
cleared text w f {w'} {f'} lw lf ew ef = empty text w' f' (ew ∙ ap (λ (n : ℕ). replicate n 0) lw) (ef ∙ ap (λ (n : ℕ). replicate n zero_f) lf)

-- ---- room
pub room : (w f : ℕ) → too_small w f ≡ false → (room_words ≤ w) × (room_numbers ≤ f)
unfolding too_small
room w f z = let p = go (ltb w room_words) (ltb f room_numbers) z in (ltb-false w room_words p.0, ltb-false f room_numbers p.1)
  where
    go : (x y : Bool) → x || y ≡ false → (x ≡ false) × (y ≡ false)
    go true y e = absurd (false≢true (sym e))
    go false y e = (refl, e)

-- a part that comes back leaves the table as long as it was
pub back_long : {A : Type 0} (x w : List A) (n : ℕ) → length x ≡ n → n ≤ length w → length (x ++ drop n w) ≡ length w
back_long x w n e h = omega (arith, length-append x (drop n w), length-drop n w)

-- ---- the counts after the records
paste-at : (w x rec : List ℕ) (n k : ℕ) → length x ≡ n → length rec ≡ k → splice (x ++ drop n w) n rec ≡ (x ++ rec) ++ drop (n + k) w
paste-at w x rec n k ex er =
    let d : drop (n + length rec) (x ++ drop n w) ≡ drop (n + k) w =
    ap (λ i. drop (n + i) (x ++ drop n w)) er ∙ sym (drop-drop k n (x ++ drop n w)) ∙ ap (drop k) (drop_at x (drop n w) n ex) ∙ drop-drop k n w in
    ap₂ (λ (y z : List ℕ). (y ++ rec) ++ z) (take_at x (drop n w) n ex) d

module _ {text : List ℕ} {m : Network} {c : Counts} {x : List ℕ} {y : List Float} (h : Holds text m c x y) where
  pub words_left : (w : List ℕ) {w' : List ℕ} → w' ≡ splice (x ++ drop record_words w) record_words (tally_words c) → w' ≡ words_holding m w
  unfolding words_of
  words_left w e =
      e ∙ paste-at w x (tally_words c) record_words 9 (holds-words h) refl
      ∙ ap₂ (λ (v : List ℕ) (t : Counts). (v ++ tally_words t) ++ drop room_words w) h.words.exact h.counts

  pub numbers-left : (f : List Float) {f' : List Float} → f' ≡ y ++ drop room_numbers f → f' ≡ numbers_holding m f
  unfolding numbers_of
  numbers-left f e = e ∙ ap (λ (v : List Float). v ++ drop room_numbers f) h.numbers.exact

  -- ..and what is left can be read back
  pub stands-left : (w : List ℕ) (f : List Float) {w' : List ℕ} {f' : List Float}
      → w' ≡ splice (x ++ drop record_words w) record_words (tally_words c) → f' ≡ y ++ drop room_numbers f → Stands m w' f'
  stands-left w f ew ef =
      let rest : List ℕ = drop (record_words + 9) w in
      let tw =
      ap (take record_words) (ew ∙ paste-at w x (tally_words c) record_words 9 (holds-words h) refl ∙ append_assoc x (tally_words c) rest)
      ∙ take_at x (tally_words c ++ rest) record_words (holds-words h) in
      let tf = ap (take room_numbers) ef ∙ take_at y (drop room_numbers f) room_numbers (holds-numbers h) in
      record { text = text; words = subst (Words text m) (sym tw) h.words; numbers = subst (Numbers m) (sym tf) h.numbers }

-- ---- a text that is refused whole, or is not
by-reason : {A : Type 0} (text : List ℕ) (f : Option Reason → A) → by_text text (f (Some TooLong)) (f (Some HighByte)) (f None) ≡ f (by_text text (Some TooLong) (Some HighByte) None)
by-reason text f = go (ltb room_text (length text)) (all_low text)
  where
    go : (long low : Bool) → cond long (f (Some TooLong)) (cond low (f None) (f (Some HighByte))) ≡ f (cond long (Some TooLong) (cond low None (Some HighByte)))
    go true low = refl
    go false true = refl
    go false false = refl

-- what is said of the reason why it is; and of none
abbrev said-by : {A : Type 0} → A → (Reason → A) → Option Reason → A
said-by a f None = a
said-by a f (Some x) = f x

module _ {A : Type 0} (text : List ℕ) {r : Option Reason} (e : r ≡ by_text text (Some TooLong) (Some HighByte) None) where
  pub whole-by : (f : Reason → A) (a : A) {x : Reason} → r ≡ Some x → by_text text (f TooLong) (f HighByte) a ≡ f x
  whole-by f a q = by-reason text (said-by a f) ∙ ap (said-by a f) (sym e ∙ q)

  pub read-by : (f : Reason → A) (a : A) → r ≡ None → by_text text (f TooLong) (f HighByte) a ≡ a
  read-by f a q = by-reason text (said-by a f) ∙ ap (said-by a f) (sym e ∙ q)

-- it is not too long
pub short-by : (text : List ℕ) {r : Option Reason} → r ≡ by_text text (Some TooLong) (Some HighByte) None → r ≡ None → length text ≤ room_text
short-by text e q = go (ltb room_text (length text)) refl
  where
    go : (b : Bool) → ltb room_text (length text) ≡ b → length text ≤ room_text
    go false h = ltb-false room_text (length text) h
    go true h = absurd (none-some TooLong (sym q ∙ e ∙ ap (λ (b : Bool). cond b (Some TooLong) (cond (all_low text) None (Some HighByte))) h))
