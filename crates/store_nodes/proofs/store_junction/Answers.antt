-- `store_nodes::store_junction` meets its contract. Assumes nothing.
use native.Mathlib.Omega.{arith}
use Rattle.parse_fields.proofs.TakeLaws.{handed-on}
use Rattle.parse_nodes.specs.Lines.{junction_in}
use Rattle.table_rows.proofs.HoldLaws.{count-nodes}
use Rattle.table_rows.proofs.AfterLaws.{sound-words, sound-numbers}
use Rattle.store_nodes.proofs.StoreLaws.{junction-refused, demands-full, junction-stored}
use Rattle.store_nodes.proofs.store_junction.Goals as goal

pub new_id-requires : goal.new_id-requires
new_id-requires c = (c.requires.m, c.requires.holds.words, count-nodes c.requires.holds)

pub returns-in_err-who : goal.returns-in_err-who
returns-in_err-who c =
    λ fit may m h. rw (handed-on c.from_residual.ensures) (junction-refused _ _ _ _ (junction_in c.args.text.now c.args.j) (c.in_err-who.ensures m h.words (count-nodes h)))

pub put_junction-requires : goal.put_junction-requires
put_junction-requires c =
    let held = c.requires.holds in
    let (is, free, n) = c.in_ok-who.ensures c.requires.m held.words (count-nodes held) in
    (omega (arith, n, count-nodes held), c.if-d-lt-DEMANDS_MOST.true, sound-words c.requires, sound-numbers c.requires, is)

pub returns-then-d-lt-DEMANDS_MOST : goal.returns-then-d-lt-DEMANDS_MOST
returns-then-d-lt-DEMANDS_MOST c =
    λ fit may m h. let (is, free, n) = c.in_ok-who.ensures m h.words (count-nodes h) in
    junction-stored h c.args.j free n fit may c.if-d-lt-DEMANDS_MOST.true c.put_junction.ensures.0 c.put_junction.ensures.1

pub returns : goal.returns
returns c =
    λ fit may m h. let (is, free, n) = c.in_ok-who.ensures m h.words (count-nodes h) in
    demands-full h c.args.j free n c.if-d-lt-DEMANDS_MOST.false
