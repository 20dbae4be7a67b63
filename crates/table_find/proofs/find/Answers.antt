-- `table_find::find` meets its contract. Assumes nothing.
use mathlib.Core.Path.{◌∙◌}
use Rattle.scope.specs.Records.{ids_of}
use Rattle.table_rows.proofs.EmptyLaws.{words_long}
use Rattle.table_find.proofs.FindLaws.{base-small, ids-long, kind-rows}
use Rattle.table_find.proofs.find.Goals as goal

pub start_of-from-requires : goal.start_of-from-requires
start_of-from-requires c = words_long c.requires.0.1

pub walk_rows-requires : goal.walk_rows-requires
walk_rows-requires c =
    let a = c.args in
    let h = c.requires in
    let p = h.0 in
    let at = c.start_of-from.ensures in
    rw (c.base_of.ensures, c.width_of.ensures) (
      record { names = ids_of a.kind p.0; long = p.2 ∙ ids-long a.kind p.0; rows = kind-rows p.1 a.kind },
      base-small a.kind,
      h.1,
      at.0,
      at.1 a.text.now p.0 p.1 p.2 a.name.now h.1,
    )

pub returns : goal.returns
returns c =
    let k = c.args.kind in
    λ m h e. c.walk_rows.ensures (ids_of k m) (e ∙ ids-long k m) (rw (c.base_of.ensures, c.width_of.ensures) (kind-rows h k))
