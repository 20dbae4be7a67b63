-- `table_rows::put_id` meets its contract. Assumes nothing.
use Prim.Native.Nat.{ℕ, ◌+◌, ◌*◌}
use mathlib.Core.Path.{ap, ◌∙◌}
use mathlib.Core.List.{List}
use lib.ListN.{get_or}
use Rattle.scope.specs.Tables.{slot_of}
use Rattle.table_rows.specs.Table.{splice}
use Rattle.scope.specs.Layout.{id_width}
use Rattle.table_rows.proofs.SlotLaws.{mark-alike}
use Rattle.table_rows.proofs.put_id.Goals as goal

pub returns : goal.returns
returns c =
    let a = c.args in
    let id = c.id_words-name.ensures in
    mark-alike (a.n + 1) c.mark.ensures
    (c.paste.ensures ∙ ap (λ (l : List ℕ). splice a.words.now (a.base + a.n * id_width) l) id)
    (ap (λ (k : ℕ). a.slots + k) (c.slot_of-slot.ensures ∙ ap (λ (l : List ℕ). slot_of (get_or l 2 0)) id))
