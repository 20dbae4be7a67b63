-- The ways through `survey_in`. Assumes nothing.
use Prim.Native.Nat.{ℕ}
use native.Mathlib.Nat.{sub-zero}
use mathlib.Core.Path.{◌≡◌, sym, ap, ◌∙◌, subst}
use mathlib.Core.List.{List, []}
use lib.ListN.{replicate}
use lib.Ieee.{Float}
use Rattle.scope_lines.specs.Reader.{Mark}
use Rattle.scope_lines.specs.Tables.{code_of, reason_in, marks_in}
use Rattle.scope.specs.declared.Counts.{Counts}
use Rattle.scope.specs.declared.Survey.{Survey}
use Rattle.scope.specs.Sections.{room_lines}
use Rattle.scope.specs.Records.{no_network, counts_of}
use Rattle.scope.specs.Reading.{by_text, marks_of, surveyed, survey_of, no_survey, survey_network, survey_marked}
use Rattle.table_rows.specs.Holding.{Holds}
use Rattle.std.specs.Prelude.{Option, None, Some}
use Rattle.scope.specs.declared.Reason.{Reason}
use Rattle.scope.specs.declared.Reason.TheVariants.{TooLong, HighByte}
use Rattle.scope.specs.Answers.{reason_no}
use Rattle.scope.specs.Records.{Network}
use Rattle.read_text.proofs.RoomLaws.{whole-by, read-by}

-- what going over every line gives: the classes have room nc, and the reasons nr
abbrev pub Overseen : List ℕ → ℕ → ℕ → List ℕ → List Float → List ℕ → List ℕ → Survey → Counts → Type 0
Overseen text nc nr w f c r a n =
    (a ≡ survey_of text) × Holds text (surveyed text) n w f × (c ≡ marks_in code_of nc (marks_of text)) × (r ≡ marks_in reason_in nr (marks_of text))

no-marks : (g : Mark → ℕ) (n : ℕ) → replicate n 0 ≡ marks_in g n []
unfolding marks_in
no-marks g n = ap (λ i. replicate i 0) (sym (sub-zero n))

none_in : (g : Mark → ℕ) {k : ℕ} {x : List ℕ} → k ≡ room_lines → x ≡ replicate k 0 → x ≡ marks_in g room_lines []
none_in g {k} e z = z ∙ no-marks g k ∙ ap (λ i. marks_in g i []) e

abbrev pub Entered : List ℕ → List ℕ → List Float → List ℕ → List ℕ → Survey → Counts → Type 0
Entered text w f c r a n =
    (a ≡ by_text text (no_survey 20) (no_survey 21) (survey_of text)) × Holds text (survey_network text) n w f
    × (c ≡ marks_in code_of room_lines (survey_marked text)) × (r ≡ marks_in reason_in room_lines (survey_marked text))

module _ (text : List ℕ) {w : List ℕ} {f : List Float} {c r : List ℕ} {a : Survey} {n : Counts} {nc nr : ℕ} (lc : nc ≡ room_lines) (lr : nr ≡ room_lines)
    {o : Option Reason} (e : o ≡ by_text text (Some TooLong) (Some HighByte) None) where
  pub in-whole : {x : Reason} → o ≡ Some x → a ≡ no_survey (reason_no x) → n ≡ counts_of no_network → Holds text no_network (counts_of no_network) w f
      → c ≡ replicate nc 0 → r ≡ replicate nr 0 → Entered text w f c r a n
  unfolding survey_network survey_marked
  in-whole q ea en hd zc zr = (
    ea ∙ sym (whole-by text e (λ x. no_survey (reason_no x)) (survey_of text) q),
    subst (λ (m : Network). Holds text m n w f) (sym (whole-by text e (λ _. no_network) (surveyed text) q)) (rw en hd),
    none_in code_of lc zc ∙ ap (marks_in code_of room_lines) (sym (whole-by text e (λ _. []) (marks_of text) q)),
    none_in reason_in lr zr ∙ ap (marks_in reason_in room_lines) (sym (whole-by text e (λ _. []) (marks_of text) q)),
  )

  pub in_all : o ≡ None → Overseen text room_lines room_lines w f c r a n → Entered text w f c r a n
  unfolding survey_network survey_marked
  in_all q d = (
    d.0 ∙ sym (read-by text e (λ x. no_survey (reason_no x)) (survey_of text) q),
    subst (λ (m : Network). Holds text m n w f) (sym (read-by text e (λ _. no_network) (surveyed text) q)) d.1,
    d.2 ∙ ap (marks_in code_of room_lines) (sym (read-by text e (λ _. []) (marks_of text) q)),
    d.3 ∙ ap (marks_in reason_in room_lines) (sym (read-by text e (λ _. []) (marks_of text) q)),
  )
