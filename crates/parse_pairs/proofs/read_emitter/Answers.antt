-- `parse_pairs::read_emitter` meets its contract. Assumes nothing.
use Rattle.parse_fields.proofs.IdLaws.{named, unnamed}
use Rattle.parse_fields.proofs.TakeLaws.{handed-on}
use Rattle.scope.specs.Nodes.{emitter_of}
use Rattle.parse_pairs.proofs.read_emitter.Goals as goal

pub returns-in_err-junction : goal.returns-in_err-junction
unfolding emitter_of
returns-in_err-junction c = rw (handed-on c.from_residual.ensures, unnamed _ c.next_field.ensures c.in_err-junction.ensures.value)

pub returns-in_err-coefficient : goal.returns-in_err-coefficient
unfolding emitter_of
returns-in_err-coefficient c =
    rw (handed-on c.from_residual-in_err-coefficient.ensures, (named _ c.next_field.ensures c.in_ok-junction.ensures.value).0, ← c.in_err-coefficient.ensures)

pub returns : goal.returns
unfolding emitter_of
returns c =
    let id = named _ c.next_field.ensures c.in_ok-junction.ensures.value in
    (rw (id.0, ← c.in_ok-coefficient.ensures), id.1)
