-- `store_demands::store_demand` meets its contract. Assumes nothing.
use native.Mathlib.Omega.{arith}
use mathlib.Core.Path.{sym, ◌∙◌}
use Rattle.parse_fields.proofs.IdLaws.{handed-none}
use Rattle.table_rows.proofs.HoldLaws.{count-nodes}
use Rattle.table_rows.proofs.AfterLaws.{holds-words}
use Rattle.store_demands.proofs.DemandLaws.{no-node, node-below, on-junction, no-junction}
use Rattle.store_demands.proofs.store_demand.Goals as goal

pub node_named-requires : goal.node_named-requires
node_named-requires c = (c.requires.0.m, c.requires.0.holds.words, count-nodes c.requires.0.holds)

pub returns-in_err-i : goal.returns-in_err-i
returns-in_err-i c =
    λ m h. rw (handed-none _ _ c.in_err-i.ensures.value c.from_residual.ensures)
    (no-node h c.args.d.base c.args.d.pattern c.args.d.id (sym (c.node_named.ensures m h.words (count-nodes h)) ∙ c.in_err-i.ensures.ok_part))

pub is_junction-requires : goal.is_junction-requires
is_junction-requires c =
    let h = c.requires.0.holds in (
      omega (
        arith,
        node-below h c.args.d.base c.args.d.pattern c.args.d.id _ (sym (c.node_named.ensures c.requires.0.m h.words (count-nodes h)) ∙ c.in_ok-i.ensures.ok_part),
        h.words.known.nodes.bound,
      ),
      holds-words h,
    )

pub add_demand-requires : goal.add_demand-requires
add_demand-requires c =
    let p = c.requires in
    let a = c.args in
    let h = p.0.holds in
    (p.0, p.2, omega (arith, node-below h a.d.base a.d.pattern a.d.id _ (sym (c.node_named.ensures p.0.m h.words (count-nodes h)) ∙ c.in_ok-i.ensures.ok_part), count-nodes h))

pub returns-then-is_junction : goal.returns-then-is_junction
returns-then-is_junction c =
    λ m h. let e = sym (c.node_named.ensures m h.words (count-nodes h)) ∙ c.in_ok-i.ensures.ok_part in
    on-junction h c.args.d.base c.args.d.pattern c.args.d.id _ e _ _ _
    (sym c.if-is_junction.true ∙ c.is_junction.ensures c.args.text.now m h.words
    (node-below h c.args.d.base c.args.d.pattern c.args.d.id _ e)) (c.add_demand.ensures m h)

pub returns : goal.returns
returns c =
    λ m h. let e = sym (c.node_named.ensures m h.words (count-nodes h)) ∙ c.in_ok-i.ensures.ok_part in
    no-junction h c.args.d.base c.args.d.pattern c.args.d.id _ e
    (sym c.if-is_junction.false ∙ c.is_junction.ensures c.args.text.now m h.words (node-below h c.args.d.base c.args.d.pattern c.args.d.id _ e))
