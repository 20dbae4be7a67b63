-- `store_links::put_link` meets its contract. Assumes nothing.
use mathlib.Core.Path.{ap, ◌∙◌}
use mathlib.Core.List.{List}
use Prim.Native.Nat.{ℕ, ◌+◌, ◌*◌}
use lib.ListN.{get_or}
use lib.Ieee.{Float}
use Rattle.scope.specs.Tables.{slot_of}
use Rattle.table_rows.specs.Table.{splice}
use Rattle.scope.specs.Layout.{id_key, links_at, links_width, link_slots_at, link_numbers_at, link_numbers_width}
use Rattle.table_rows.proofs.SlotLaws.{mark-alike}
use Rattle.store_links.specs.Storing.{link_in}
use Rattle.store_links.proofs.StoreLaws.{link_row}
use Rattle.store_links.proofs.put_link.Goals as goal

pub returns : goal.returns
returns c =
    λ id e.
    let a = c.args in
    let link = link_in a.text.now id a.ends a.kind in (
      mark-alike (a.n + 1) c.mark.ensures
          (c.paste.ensures ∙ ap (λ (r : List ℕ). splice a.words.now (links_at + a.n * links_width) r) (link_row link e c.kind_words-k.ensures))
          (ap (λ (k : ℕ). link_slots_at + k) (c.slot_of-slot.ensures ∙ ap (λ (l : List ℕ). slot_of (get_or l id_key 0)) e)),
      c.paste-2.ensures ∙ ap (λ (r : List Float). splice a.numbers.now (link_numbers_at + a.n * link_numbers_width) r) (c.kind_numbers-x.ensures a.text.now),
    )
