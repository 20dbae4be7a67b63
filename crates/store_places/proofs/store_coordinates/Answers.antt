-- `store_places::store_coordinates` meets its contract. Assumes nothing.
use mathlib.Core.Path.{sym, ◌∙◌}
use native.Mathlib.Omega.{arith}
use Rattle.parse_fields.proofs.IdLaws.{handed-none}
use Rattle.table_rows.proofs.HoldLaws.{count-nodes}
use Rattle.table_rows.proofs.AfterLaws.{sound-words, sound-numbers}
use Rattle.store_places.proofs.ChangeLaws.{no_place, found-room, place_set}
use Rattle.store_places.proofs.store_coordinates.Goals as goal

pub node_named-requires : goal.node_named-requires
node_named-requires c = (c.requires.m, c.requires.holds.words, count-nodes c.requires.holds)

pub returns-in_err-i : goal.returns-in_err-i
returns-in_err-i c =
    λ m h. rw (handed-none _ _ c.in_err-i.ensures.value c.from_residual.ensures)
    (no_place h c.args.p.id (record { x = c.args.p.x; y = c.args.p.y }) (sym (c.node_named.ensures m h.words (count-nodes h)) ∙ c.in_err-i.ensures.ok_part))

pub overflow_mul-i : goal.overflow_mul-i
overflow_mul-i c = omega (arith, found-room c.requires c.args.p.id c.node_named.ensures c.in_ok-i.ensures.ok_part)

pub overflow_add-i : goal.overflow_add-i
overflow_add-i c = omega (arith, found-room c.requires c.args.p.id c.node_named.ensures c.in_ok-i.ensures.ok_part)

pub overflow_add-i-2 : goal.overflow_add-i-2
overflow_add-i-2 c = omega (arith, found-room c.requires c.args.p.id c.node_named.ensures c.in_ok-i.ensures.ok_part)

pub overflow_mul-i-2 : goal.overflow_mul-i-2
overflow_mul-i-2 c = omega (arith, found-room c.requires c.args.p.id c.node_named.ensures c.in_ok-i.ensures.ok_part)

pub overflow_add-i-3 : goal.overflow_add-i-3
overflow_add-i-3 c = omega (arith, found-room c.requires c.args.p.id c.node_named.ensures c.in_ok-i.ensures.ok_part)

pub overflow_add-i-4 : goal.overflow_add-i-4
overflow_add-i-4 c = omega (arith, found-room c.requires c.args.p.id c.node_named.ensures c.in_ok-i.ensures.ok_part)

pub paste-requires : goal.paste-requires
paste-requires c = omega (arith, found-room c.requires c.args.p.id c.node_named.ensures c.in_ok-i.ensures.ok_part, sound-words c.requires)

pub paste-requires-2 : goal.paste-requires-2
paste-requires-2 c = omega (arith, found-room c.requires c.args.p.id c.node_named.ensures c.in_ok-i.ensures.ok_part, sound-numbers c.requires)

pub returns : goal.returns
returns c =
    λ m h. place_set h c.args.p.id (sym (c.node_named.ensures m h.words (count-nodes h)) ∙ c.in_ok-i.ensures.ok_part)
    (record { x = c.args.p.x; y = c.args.p.y }) c.paste.ensures c.paste-2.ensures
