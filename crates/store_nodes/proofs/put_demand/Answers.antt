-- `store_nodes::put_demand` meets its contract. Assumes nothing.
use mathlib.Core.Path.{refl, ap, ◌∙◌}
use mathlib.Core.List.{List}
use Prim.Native.Nat.{ℕ, ◌+◌, ◌*◌}
use Rattle.leaf_fields.specs.Fields.{opt_in}
use Rattle.table_rows.specs.Table.{splice}
use Rattle.scope.specs.Layout.{demands_at, demands_width}
use Rattle.table_rows.proofs.SlotLaws.{mark-alike}
use Rattle.store_nodes.proofs.StoreLaws.{own-words}
use Rattle.store_nodes.proofs.put_demand.Goals as goal

pub returns : goal.returns
returns c =
    let a = c.args in
    mark-alike (a.d + 1) c.mark.ensures
    (c.paste.ensures
    ∙ ap (λ (l : List ℕ). splice a.words.now (demands_at + a.d * demands_width) l) (own-words c.name_words-which.result a.n (opt_in a.text.now a.pattern) c.name_words-which.ensures))
    refl
