-- The room of a survey's tables, and the ways through `read_survey`. Assumes nothing.
use Prim.Native.Nat.{ℕ, ◌≤◌}
use native.Mathlib.Omega.{arith}
use borrow.Author.Tests.{ltb-false}
use mathlib.Core.Path.{◌≡◌, refl, sym, ap, ◌∙◌}
use mathlib.Core.Bool.{Bool, true, false, ◌||◌, false≢true}
use mathlib.Core.List.{List, ◌++◌}
use lib.ListN.{length, take, drop}
use lib.Seq.{length-take-le}
use lib.Dec.{ltb}
use lib.Ieee.{Float}
use Rattle.scope_lines.specs.Tables.{code_of, reason_in, marks_in}
use Rattle.scope.specs.declared.Counts.{Counts}
use Rattle.scope.specs.declared.Survey.{Survey}
use Rattle.scope.specs.Sections.{room_lines}
use Rattle.scope.specs.Tables.{tally_words}
use Rattle.scope.specs.Layout.{record_words, room_words, room_numbers}
use Rattle.scope.specs.Reading.{by_text, no_survey, survey_of, survey_network, survey_marked, too_small, survey_small, survey_answer, survey_words, survey_numbers, survey_classes, survey_reasons}
use Rattle.table_rows.specs.Table.{splice}
use Rattle.table_rows.specs.Holding.{Holds}
use Rattle.stored_records.specs.Back.{Stands}
use Rattle.read_text.proofs.RoomLaws.{room, back_long, words_left, numbers-left, stands-left}

-- ---- room
survey-room : (w f c r : ℕ) → survey_small w f c r ≡ false → (room_words ≤ w) × (room_numbers ≤ f) × (room_lines ≤ c) × (room_lines ≤ r)
unfolding survey_small
survey-room w f c r z =
    let p = go (too_small w f) (ltb c room_lines) (ltb r room_lines) z in
    let q = room w f p.0 in (q.0, q.1, ltb-false c room_lines p.1, ltb-false r room_lines p.2)
  where
    go : (x y v : Bool) → x || y || v ≡ false → (x ≡ false) × (y ≡ false) × (v ≡ false)
    go true y v e = absurd (false≢true (sym e))
    go false true v e = absurd (false≢true (sym e))
    go false false v e = (refl, refl, e)

module _ (w : List ℕ) (f : List Float) (c r : List ℕ) (z : survey_small (length w) (length f) (length c) (length r) ≡ false) where
  has_room-law : (room_words ≤ length w) × (room_numbers ≤ length f) × (room_lines ≤ length c) × (room_lines ≤ length r)
  has_room-law = survey-room (length w) (length f) (length c) (length r) z

  -- each table can be cut to its room
  pub reaches : (record_words ≤ length w) × (room_numbers ≤ length f) × (room_lines ≤ length c) × (room_lines ≤ length r)
  reaches = let q = has_room-law in (omega (arith, q.0), q.1, q.2, q.3)

  -- ..and is then just as long. The proof of `read_survey` asks here: a `length-take-le` of its own, at 65,536, costs its check half a gigabyte.
  pub cut-long : (length (take record_words w) ≡ record_words) × (length (take room_numbers f) ≡ room_numbers) × (length (take room_lines c) ≡ room_lines) × (length (take room_lines r) ≡ room_lines)
  cut-long = let q = reaches in (length-take-le record_words w q.0, length-take-le room_numbers f q.1, length-take-le room_lines c q.2, length-take-le room_lines r q.3)

  -- the words, once their part x is back
  pub words_long : (x : List ℕ) → length x ≡ record_words → length (x ++ drop record_words w) ≡ length w
  words_long x e = back_long x w record_words e reaches.0

  pub counts-fit : (x : List ℕ) → length x ≡ record_words → room_words ≤ length (x ++ drop record_words w)
  counts-fit x e = omega (arith, has_room-law.0, words_long x e)

-- ---- the ways through `read_survey`
module _ (text w : List ℕ) (f : List Float) (c r : List ℕ) where
  abbrev pub Seen : Survey → List ℕ → List Float → List ℕ → List ℕ → Type 0
  Seen a w' f' c' r' =
      (a ≡ survey_answer text w f c r) × (w' ≡ survey_words text w f c r) × (f' ≡ survey_numbers text w f c r) × (c' ≡ survey_classes text w f c r) × (r' ≡ survey_reasons text w f c r)
      × (survey_small (length w) (length f) (length c) (length r) ≡ false → Stands (survey_network text) w' f')

  pub survey-small : {a : Survey} → survey_small (length w) (length f) (length c) (length r) ≡ true → a ≡ no_survey 28 → Seen a w f c r
  unfolding survey_answer survey_words survey_numbers survey_classes survey_reasons
  survey-small z e = rw z (e, refl, refl, refl, refl, λ q. absurd (false≢true (sym q)))

  pub survey-read : {a : Survey} {n : Counts} {x w' c' r' cs rs : List ℕ} {y f' : List Float} → survey_small (length w) (length f) (length c) (length r) ≡ false
      → a ≡ by_text text (no_survey 20) (no_survey 21) (survey_of text) → Holds text (survey_network text) n x y
      → cs ≡ marks_in code_of room_lines (survey_marked text) → rs ≡ marks_in reason_in room_lines (survey_marked text)
      → w' ≡ splice (x ++ drop record_words w) record_words (tally_words n) → f' ≡ y ++ drop room_numbers f → c' ≡ cs ++ drop room_lines c → r' ≡ rs ++ drop room_lines r
      → Seen a w' f' c' r'
  unfolding survey_answer survey_words survey_numbers survey_classes survey_reasons
  survey-read z ea hd zc zr ew ef ec er =
      rw z (ea, words_left hd w ew, numbers-left hd f ef, ec ∙ ap (λ (v : List ℕ). v ++ drop room_lines c) zc, er ∙ ap (λ (v : List ℕ). v ++ drop room_lines r) zr, λ _. stands-left hd w f ew ef)
