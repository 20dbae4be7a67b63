-- The ways through `strict_in` and through `read_strict`. Assumes nothing.
use Prim.Native.Nat.{ℕ}
use mathlib.Core.Path.{◌≡◌, refl, sym, ◌∙◌, subst}
use mathlib.Core.Bool.{true, false}
use mathlib.Core.List.{List}
use lib.ListN.{length, drop}
use lib.Ieee.{Float}
use Rattle.scope.specs.declared.Counts.{Counts}
use Rattle.scope.specs.declared.Answer.{Answer}
use Rattle.scope.specs.Records.{no_network, counts_of}
use Rattle.scope.specs.Layout.{record_words, room_numbers}
use Rattle.scope.specs.Reading.{by_text, says, told, strict_of, network_in, strict_network}
use Rattle.table_rows.specs.Holding.{Holds}
use Rattle.std.specs.Prelude.{Option, None, Some}
use Rattle.scope.specs.declared.Reason.{Reason}
use Rattle.scope.specs.declared.Reason.TheVariants.{TooLong, HighByte}
use Rattle.scope.specs.Answers.{reason_no}
use Rattle.scope.specs.Records.{Network}
use Rattle.read_marks.specs.declared.Refusal.{Refusal}
use Rattle.read_loop.specs.Over.{said_of, Done}
use Rattle.read_text.proofs.RoomLaws.{whole-by, read-by}
use Prim.Native.Nat.{ℕ}
use mathlib.Core.Path.{◌≡◌, refl, sym}
use mathlib.Core.Bool.{true, false}
use mathlib.Core.List.{List, ◌++◌}
use lib.ListN.{length, drop}
use Rattle.scope.specs.Tables.{tally_words}
use Rattle.scope.specs.Layout.{record_words, room_numbers}
use Rattle.scope.specs.Reading.{by_text, says, told, strict_of, strict_network, too_small, strict_answer, strict_words, strict_numbers}
use Rattle.table_rows.specs.Table.{splice}
use Rattle.table_rows.specs.Holding.{Holds}
use Rattle.stored_records.specs.Back.{Stands}
use mathlib.Core.Bool.{false≢true}
use Rattle.read_text.proofs.RoomLaws.{words_left, numbers-left, stands-left}

-- ---- the ways through `strict_in`
abbrev pub Entered : List ℕ → List ℕ → List Float → Option Refusal → Counts → Type 0
Entered text w f r c = (said_of r ≡ by_text text (says 20 0) (says 21 0) (told (strict_of text))) × Holds text (strict_network text) c w f

module _ (text : List ℕ) {w : List ℕ} {f : List Float} {c : Counts} {o : Option Reason} (e : o ≡ by_text text (Some TooLong) (Some HighByte) None) where
  pub in-whole : {x : Reason} → o ≡ Some x → c ≡ counts_of no_network → Holds text no_network (counts_of no_network) w f → Entered text w f (Some (record { reason = x; piece = 0 })) c
  unfolding strict_network
  in-whole q ec hd = (
    sym (whole-by text e (λ x. says (reason_no x) 0) (told (strict_of text)) q),
    subst (λ (m : Network). Holds text m c w f) (sym (whole-by text e (λ _. no_network) (network_in (strict_of text)) q)) (rw ec hd),
  )

  pub in_all : (r : Option Refusal) → o ≡ None → Done text w f r c → Entered text w f r c
  unfolding strict_network
  in_all r q d = (
    d.0 ∙ sym (read-by text e (λ x. says (reason_no x) 0) (told (strict_of text)) q),
    subst (λ (m : Network). Holds text m c w f) (sym (read-by text e (λ _. no_network) (network_in (strict_of text)) q)) d.1,
  )

-- ---- the ways through `read_strict`
module _ (text w : List ℕ) (f : List Float) where
  abbrev pub Read : Answer → List ℕ → List Float → Type 0
  Read a w' f' = (a ≡ strict_answer text (length w) (length f)) × (w' ≡ strict_words text w (length f)) × (f' ≡ strict_numbers text (length w) f)
      × (too_small (length w) (length f) ≡ false → Stands (strict_network text) w' f')

  pub strict-small : {a : Answer} → too_small (length w) (length f) ≡ true → a ≡ says 28 0 → Read a w f
  unfolding strict_answer strict_words strict_numbers
  strict-small z e = rw z (e, refl, refl, λ q. absurd (false≢true (sym q)))

  pub strict-read : {a : Answer} {c : Counts} {x w' : List ℕ} {y f' : List Float} → too_small (length w) (length f) ≡ false
      → a ≡ by_text text (says 20 0) (says 21 0) (told (strict_of text)) → Holds text (strict_network text) c x y
      → w' ≡ splice (x ++ drop record_words w) record_words (tally_words c) → f' ≡ y ++ drop room_numbers f → Read a w' f'
  unfolding strict_answer strict_words strict_numbers
  strict-read z ea hd ew ef = rw z (ea, words_left hd w ew, numbers-left hd f ef, λ _. stands-left hd w f ew ef)
