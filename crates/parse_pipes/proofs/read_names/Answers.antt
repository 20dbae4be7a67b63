-- `parse_pipes::read_names` meets its contract. Assumes nothing.
use Rattle.parse_pipes.proofs.read_names.Goals as goal

pub returns : goal.returns
returns c =
    let id = c.next_field.ensures.taken _ c.in_ok-id.ensures.ok_part in
    let start = c.next_field-2.ensures.taken _ c.in_ok-start.ensures.ok_part in
    let end = c.next_field-3.ensures.taken _ c.in_ok-end.ensures.ok_part in
    (rw (id.0, start.0, end.0), record { id = id.1; start = start.1; end = end.1 })
