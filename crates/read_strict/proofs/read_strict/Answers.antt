-- `read_strict::read_strict` meets its contract. Assumes nothing.
use Prim.Native.Nat.{◌≤◌}
use Rattle.scope.specs.Layout.{record_words, room_numbers}
use native.Mathlib.Omega.{arith}
use mathlib.Core.Path.{sym, ◌∙◌, refl}
use lib.ListN.{length}
use lib.Seq.{length-take-le}
use Rattle.table_rows.proofs.AfterLaws.{holds-words, holds-numbers}
use Rattle.read_text.proofs.RoomLaws.{room, back_long}
use Rattle.read_strict.proofs.StrictLaws.{strict-small, strict-read}
use Rattle.read_strict.proofs.read_strict.Goals as goal

pub shape_of-words-then-too_small : goal.shape_of-words-then-too_small
shape_of-words-then-too_small c = refl

pub shape_of-numbers-then-too_small : goal.shape_of-numbers-then-too_small
shape_of-numbers-then-too_small c = refl

pub returns-then-too_small : goal.returns-then-too_small
returns-then-too_small c =
    strict-small c.args.text.now c.args.words.now c.args.numbers.now (sym c.too_small.ensures ∙ c.if-too_small.true) c.said.ensures

pub slice_bounds-strict_in-end : goal.slice_bounds-strict_in-end
slice_bounds-strict_in-end c =
    let r = room (length c.args.words.now) (length c.args.numbers.now) (sym c.too_small.ensures ∙ c.if-too_small.false) in omega (arith, r.0)

pub slice_bounds-strict_in-end-2 : goal.slice_bounds-strict_in-end-2
slice_bounds-strict_in-end-2 c =
    let r = room (length c.args.words.now) (length c.args.numbers.now) (sym c.too_small.ensures ∙ c.if-too_small.false) in
    sym (length-take-le record_words c.args.words.now (omega (arith, r.0)))

pub slice_bounds-strict_in-end-3 : goal.slice_bounds-strict_in-end-3
slice_bounds-strict_in-end-3 c =
    (room (length c.args.words.now) (length c.args.numbers.now) (sym c.too_small.ensures ∙ c.if-too_small.false)).1

pub slice_bounds-strict_in-end-4 : goal.slice_bounds-strict_in-end-4
slice_bounds-strict_in-end-4 c =
    sym (length-take-le room_numbers c.args.numbers.now
    (room (length c.args.words.now) (length c.args.numbers.now) (sym c.too_small.ensures ∙ c.if-too_small.false)).1)

pub strict_in-over-requires : goal.strict_in-over-requires
strict_in-over-requires c =
    let r = room (length c.args.words.now) (length c.args.numbers.now) (sym c.too_small.ensures ∙ c.if-too_small.false) in
    (length-take-le record_words c.args.words.now (omega (arith, r.0)), length-take-le room_numbers c.args.numbers.now r.1)

pub write_counts-requires : goal.write_counts-requires
write_counts-requires c =
    let r = room (length c.args.words.now) (length c.args.numbers.now) (sym c.too_small.ensures ∙ c.if-too_small.false) in
    let h : record_words ≤ length c.args.words.now = omega (arith, r.0) in
    omega (arith, r.0, back_long c.strict_in-over.new.words c.args.words.now record_words (holds-words c.strict_in-over.ensures.1) h)

pub shape_of-words : goal.shape_of-words
shape_of-words c =
    let r = room (length c.args.words.now) (length c.args.numbers.now) (sym c.too_small.ensures ∙ c.if-too_small.false) in
    let h : record_words ≤ length c.args.words.now = omega (arith, r.0) in
    c.write_counts.auto.words ∙ back_long c.strict_in-over.new.words c.args.words.now record_words (holds-words c.strict_in-over.ensures.1) h

pub shape_of-numbers : goal.shape_of-numbers
shape_of-numbers c =
    let r = room (length c.args.words.now) (length c.args.numbers.now) (sym c.too_small.ensures ∙ c.if-too_small.false) in
    back_long c.strict_in-over.new.numbers c.args.numbers.now room_numbers (holds-numbers c.strict_in-over.ensures.1) r.1

pub returns : goal.returns
returns c =
    strict-read c.args.text.now c.args.words.now c.args.numbers.now (sym c.too_small.ensures ∙ c.if-too_small.false)
    (c.said-2.ensures ∙ c.strict_in-over.ensures.0) c.strict_in-over.ensures.1 c.write_counts.ensures refl
