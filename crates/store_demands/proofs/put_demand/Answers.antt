-- `store_demands::put_demand` meets its contract. Assumes nothing.
use Prim.Native.Nat.{ℕ, ◌+◌, ◌*◌}
use native.Mathlib.Omega.{arith}
use mathlib.Core.Path.{ap, ◌∙◌}
use mathlib.Core.List.{List}
use Rattle.table_rows.specs.Table.{splice}
use Rattle.scope.specs.Layout.{demands_at, demands_width}
use Rattle.store_demands.proofs.DemandLaws.{demand-words, words-two}
use Rattle.store_demands.proofs.put_demand.Goals as goal

pub bounds-p-0 : goal.bounds-p-0
bounds-p-0 c = omega (arith, words-two c.args.text.now c.args.d.pattern c.name_words-p.ensures)

pub bounds-p-1 : goal.bounds-p-1
bounds-p-1 c = omega (arith, words-two c.args.text.now c.args.d.pattern c.name_words-p.ensures)

pub paste-requires : goal.paste-requires
paste-requires c =
    omega (arith, c.requires.0, c.requires.1, c.requires.2)

pub paste-requires-2 : goal.paste-requires-2
paste-requires-2 c =
    omega (arith, c.requires.0, c.requires.1, c.requires.2)

pub returns : goal.returns
returns c = (
  c.paste.ensures ∙ ap (λ (l : List ℕ). splice c.args.words.now (demands_at + c.args.k * demands_width) l)
      (demand-words c.args.text.now c.args.node c.args.d.base c.args.d.pattern c.name_words-p.result c.name_words-p.ensures),
  c.paste-2.ensures,
)
