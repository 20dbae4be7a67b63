-- `store_places::store_emitter` meets its contract. Assumes nothing.
use mathlib.Core.Path.{sym, ◌∙◌}
use native.Mathlib.Omega.{arith}
use Rattle.parse_fields.proofs.IdLaws.{handed-none}
use Rattle.table_rows.proofs.HoldLaws.{count-nodes}
use Rattle.table_rows.proofs.AfterLaws.{sound-words, sound-numbers}
use Rattle.store_places.proofs.ChangeLaws.{no-emitter, node-below, found-room, no-junction, emitter-set}
use Rattle.store_places.proofs.store_emitter.Goals as goal

pub node_named-requires : goal.node_named-requires
node_named-requires c = (c.requires.m, c.requires.holds.words, count-nodes c.requires.holds)

pub returns-in_err-i : goal.returns-in_err-i
returns-in_err-i c =
    λ m h. rw (handed-none _ _ c.in_err-i.ensures.value c.from_residual.ensures)
    (no-emitter h c.args.e.id c.args.e.coefficient (sym (c.node_named.ensures m h.words (count-nodes h)) ∙ c.in_err-i.ensures.ok_part))

pub is_junction-requires : goal.is_junction-requires
is_junction-requires c = (found-room c.requires c.args.e.id c.node_named.ensures c.in_ok-i.ensures.ok_part, sound-words c.requires)

pub overflow_mul-i : goal.overflow_mul-i
overflow_mul-i c = omega (arith, found-room c.requires c.args.e.id c.node_named.ensures c.in_ok-i.ensures.ok_part)

pub overflow_add-i : goal.overflow_add-i
overflow_add-i c = omega (arith, found-room c.requires c.args.e.id c.node_named.ensures c.in_ok-i.ensures.ok_part)

pub overflow_add-i-then-is_junction : goal.overflow_add-i-then-is_junction
overflow_add-i-then-is_junction c = omega (arith, found-room c.requires c.args.e.id c.node_named.ensures c.in_ok-i.ensures.ok_part)

pub paste-requires : goal.paste-requires
paste-requires c = omega (arith, found-room c.requires c.args.e.id c.node_named.ensures c.in_ok-i.ensures.ok_part, sound-numbers c.requires)

pub returns-then-is_junction : goal.returns-then-is_junction
returns-then-is_junction c =
    λ m h. let e = sym (c.node_named.ensures m h.words (count-nodes h)) ∙ c.in_ok-i.ensures.ok_part in
    emitter-set h c.args.e.id e c.args.e.coefficient
    (sym (c.is_junction.ensures c.args.text.now m h.words (node-below h c.args.e.id e)) ∙ c.if-is_junction.true) c.paste.ensures

pub returns : goal.returns
returns c =
    λ m h. let e = sym (c.node_named.ensures m h.words (count-nodes h)) ∙ c.in_ok-i.ensures.ok_part in
    no-junction h c.args.e.id e c.args.e.coefficient
    (sym (c.is_junction.ensures c.args.text.now m h.words (node-below h c.args.e.id e)) ∙ c.if-is_junction.false)
