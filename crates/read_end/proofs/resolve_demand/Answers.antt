-- `read_end::resolve_demand` meets its contract. Assumes nothing.
use native.Mathlib.Omega.{arith}
use lib.ListN.{get_or}
use Rattle.scope.specs.Records.{no_demand}
use Rattle.table_rows.proofs.HoldLaws.{count-patterns, bound-demands}
use Rattle.table_rows.proofs.AfterLaws.{sound-words}
use Rattle.read_end.proofs.ResolveLaws.{demand-name, demand-sits, demand-set}
use Rattle.read_end.proofs.resolve_demand.Goals as goal

pub pattern_index-index-requires : goal.pattern_index-index-requires
pattern_index-index-requires c =
    let h = c.requires.1 in
    (h.m, h.holds.words, count-patterns h.holds, omega (arith, c.requires.2, bound-demands h.holds, sound-words h))

pub bounds-words-row : goal.bounds-words-row
bounds-words-row c = omega (arith, c.requires.2, bound-demands c.requires.1.holds, sound-words c.requires.1)

pub returns : goal.returns
returns c =
    λ m f h. demand-set h c.args.k c.requires.2 _ (omega (arith, c.requires.2, bound-demands c.requires.1.holds, sound-words c.requires.1))
    (c.pattern_index-index.ensures m (get_or m.demands c.args.k no_demand).pattern h.words (count-patterns h) (demand-sits h c.args.k c.requires.2)
    (demand-name h c.args.k c.requires.2))
