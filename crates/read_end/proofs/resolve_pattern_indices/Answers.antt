-- `read_end::resolve_pattern_indices` meets its contract. Assumes nothing.
use Rattle.read_end.proofs.ResolveLaws.{start-nodes, next-nodes, all-nodes, start-demands, next-demands, all-demands, both-resolved}
use Rattle.read_end.proofs.resolve_pattern_indices.Goals as goal

pub loop-k-init : goal.loop-k-init
loop-k-init c = start-nodes c.args.text.now c.args.s c.args.words.now

pub resolve_node-requires : goal.resolve_node-requires
resolve_node-requires c =
    (c.requires.0, record { m = _; holds = c.loop-k.invariant.held c.requires.1.m c.requires.0 c.requires.1.holds }, c.loop-k-test.true)

pub loop-k-preserved : goal.loop-k-preserved
loop-k-preserved c =
    next-nodes c.args.text.now c.args.s c.args.words.now c.loop-k.invariant c.loop-k-test.true _ (λ m f h. c.resolve_node.ensures m f h)

pub loop-k-2-init : goal.loop-k-2-init
loop-k-2-init c = start-demands c.args.text.now c.args.s c.loop-k.words

pub resolve_demand-requires : goal.resolve_demand-requires
resolve_demand-requires c =
    let h = all-nodes c.args.text.now c.args.s c.args.words.now c.loop-k.invariant c.loop-k-test.false c.requires.1.m c.requires.0 c.requires.1.holds in
    (c.requires.0, record { m = _; holds = c.loop-k-2.invariant.held _ c.requires.0 h }, c.loop-k-2-test.true)

pub loop-k-2-preserved : goal.loop-k-2-preserved
loop-k-2-preserved c =
    next-demands c.args.text.now c.args.s c.loop-k.words c.loop-k-2.invariant c.loop-k-2-test.true _ (λ m f h. c.resolve_demand.ensures m f h)

pub returns : goal.returns
returns c =
    λ m f h. rw (← both-resolved m) (all-demands c.args.text.now c.args.s c.loop-k.words c.loop-k-2.invariant c.loop-k-2-test.false _ f
    (all-nodes c.args.text.now c.args.s c.args.words.now c.loop-k.invariant c.loop-k-test.false m f h))
