-- `read_loop::go_over` meets its contract. Assumes nothing.
use native.Mathlib.Omega.{arith}
use mathlib.Core.Path.{sym, ◌∙◌}
use Rattle.table_rows.proofs.AfterLaws.{holds-words, holds-numbers}
use Rattle.read_steps.proofs.StepLaws.{sound}
use Rattle.read_runs.proofs.OnwardLaws.{fits, at_after}
use Rattle.read_loop.proofs.AlongLaws.{begin, plain-asks, plain-on, onward, turn-asks, turn_on, turn-stops, ended}
use Rattle.read_loop.proofs.go_over.Goals as goal

pub loop-s-init : goal.loop-s-init
loop-s-init c =
    let a = c.args in
    let n = c.new-s in
    begin a.marking a.text.now a.words.now a.numbers.now a.classes.now a.reasons.now n.result n.ensures c.requires.0 c.requires.1 c.requires.2

pub plain_lines-plain-requires : goal.plain_lines-plain-requires
plain_lines-plain-requires c = c.loop-s.invariant.ready

pub mark_plain-requires : goal.mark_plain-requires
mark_plain-requires c =
    let i = c.loop-s.invariant in
    let o = c.plain_lines-plain.ensures in
    plain-asks i o.0

pub turn_after-t-requires : goal.turn_after-t-requires
turn_after-t-requires c =
    let o = c.plain_lines-plain.ensures in
    let k = c.mark_plain in
    let i = c.loop-s.invariant in
    let g = plain-on i o.0 k.ensures k.auto.classes in
    (fits g.ready c.if-s-text.true, o.1)

pub mark_turn-requires : goal.mark_turn-requires
mark_turn-requires c =
    let o = c.plain_lines-plain.ensures in
    let k = c.mark_plain in
    let i = c.loop-s.invariant in
    let g = plain-on i o.0 k.ensures k.auto.classes in
    turn-asks g c.if-s-text.true c.turn_after-t.ensures

pub shape_of-words-in-Some : goal.shape_of-words-in-Some
shape_of-words-in-Some c =
    let o = c.plain_lines-plain.ensures in
    let k = c.mark_plain in
    let i = c.loop-s.invariant in
    let g = plain-on i o.0 k.ensures k.auto.classes in
    let t = c.turn_after-t in
    t.auto.words ∙ holds-words g.ready.stands.recs ∙ sym (holds-words c.requires.1)

pub shape_of-numbers-in-Some : goal.shape_of-numbers-in-Some
shape_of-numbers-in-Some c =
    let o = c.plain_lines-plain.ensures in
    let k = c.mark_plain in
    let i = c.loop-s.invariant in
    let g = plain-on i o.0 k.ensures k.auto.classes in
    let t = c.turn_after-t in
    t.auto.numbers ∙ holds-numbers g.ready.stands.recs ∙ sym (holds-numbers c.requires.1)

pub shape_of-classes-in-Some : goal.shape_of-classes-in-Some
shape_of-classes-in-Some c =
    let o = c.plain_lines-plain.ensures in
    let k = c.mark_plain in
    let i = c.loop-s.invariant in
    let g = plain-on i o.0 k.ensures k.auto.classes in
    c.mark_turn.auto.classes ∙ g.long_c

pub shape_of-reasons-in-Some : goal.shape_of-reasons-in-Some
shape_of-reasons-in-Some c =
    let o = c.plain_lines-plain.ensures in
    let k = c.mark_plain in
    let i = c.loop-s.invariant in
    let g = plain-on i o.0 k.ensures k.auto.classes in
    c.mark_turn.auto.reasons ∙ g.long_r

pub returns-in-Some : goal.returns-in-Some
returns-in-Some c =
    let o = c.plain_lines-plain.ensures in
    let k = c.mark_plain in
    let i = c.loop-s.invariant in
    let g = plain-on i o.0 k.ensures k.auto.classes in
    let t = c.turn_after-t in
    let h = c.if-s-text.true in
    turn-stops g h t.ensures t.result.state.line (sym c.stops.ensures ∙ c.in-Some.is)

pub loop-s-smaller-in_default : goal.loop-s-smaller-in_default
loop-s-smaller-in_default c =
    let o = c.plain_lines-plain.ensures in
    let k = c.mark_plain in
    let i = c.loop-s.invariant in
    let g = plain-on i o.0 k.ensures k.auto.classes in
    let h = c.if-s-text.true in
    let l = at_after i.ready o.0 in
    omega (arith, h, l, onward g h c.turn_after-t.ensures)

pub loop-s-preserved-in_default : goal.loop-s-preserved-in_default
loop-s-preserved-in_default c =
    let o = c.plain_lines-plain.ensures in
    let k = c.mark_plain in
    let i = c.loop-s.invariant in
    let g = plain-on i o.0 k.ensures k.auto.classes in
    let h = c.if-s-text.true in
    let go = c.turn_after-t.ensures in
    let k = c.mark_turn in
    turn_on g h go (sym c.stops.ensures ∙ c.in_default.is) k.ensures.0 k.auto.classes k.ensures.1 k.auto.reasons

pub loop-s-smaller : goal.loop-s-smaller
loop-s-smaller c = omega (arith, c.loop-s-test.true, c.if-s-text.false)

pub loop-s-preserved : goal.loop-s-preserved
loop-s-preserved c =
    let o = c.plain_lines-plain.ensures in
    let k = c.mark_plain in
    plain-on c.loop-s.invariant o.0 k.ensures k.auto.classes

pub resolve_pattern_indices-requires : goal.resolve_pattern_indices-requires
resolve_pattern_indices-requires c = (_, sound c.loop-s.invariant.ready.stands)

pub shape_of-words : goal.shape_of-words
shape_of-words c =
    c.resolve_pattern_indices.auto.words
    ∙ holds-words c.loop-s.invariant.ready.stands.recs
    ∙ sym (holds-words c.requires.1)

pub shape_of-numbers : goal.shape_of-numbers
shape_of-numbers c =
    holds-numbers c.loop-s.invariant.ready.stands.recs
    ∙ sym (holds-numbers c.requires.1)

pub shape_of-classes : goal.shape_of-classes
shape_of-classes c = c.loop-s.invariant.long_c

pub shape_of-reasons : goal.shape_of-reasons
shape_of-reasons c = c.loop-s.invariant.long_r

pub returns : goal.returns
returns c =
    let i = c.loop-s.invariant in
    ended i c.loop-s-test.false c.resolve_pattern_indices.ensures
