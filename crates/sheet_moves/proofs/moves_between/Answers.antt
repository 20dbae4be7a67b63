-- `sheet_moves::moves_between` meets its contract. Assumes nothing.
use Prim.Native.Nat.{◌-◌, ◌+◌}
use native.Mathlib.Omega.{arith}
use Rattle.sheet_actions.specs.Steps.{Few}
use Rattle.sheet_moves.proofs.MovesLaws.{none_yet, then-one-more, all-of-them, few-none, few-more, few-within}
use Rattle.sheet_moves.proofs.moves_between.Goals as goal

pub loop-k-init : goal.loop-k-init
loop-k-init c = record { within = omega arith; few = few-none _; value = λ m g le. none_yet c.args.which c.args.otherwise m.clauses c.args.first }

pub with_clause-n-requires : goal.with_clause-n-requires
with_clause-n-requires c = few-within (omega arith) c.loop-k.invariant.few

pub loop-k-preserved : goal.loop-k-preserved
loop-k-preserved c =
    let more : Few (c.loop-k.k - c.args.first + 1) c.with_clause-n.result =
    rw c.with_clause-n.ensures (few-more c.args.which c.args.otherwise c.clause_at-clause.result c.loop-k.invariant.few) in
    record {
      within = omega arith;
      few = few-within (omega arith) more;
      value = λ m g le.
          rw (c.with_clause-n.ensures, c.clause_at-clause.ensures m g)
          (then-one-more c.args.which c.args.otherwise m.clauses c.args.first c.loop-k.k c.loop-k.n c.loop-k.auto.k (omega arith) (c.loop-k.invariant.value m g le));
    }

pub returns : goal.returns
returns c =
    record {
      few = few-within (omega arith) c.loop-k.invariant.few;
      value = λ m g le. all-of-them c.args.which c.args.otherwise m.clauses c.args.first c.loop-k.k c.args.end (omega arith) (c.loop-k.invariant.value m g le);
    }
