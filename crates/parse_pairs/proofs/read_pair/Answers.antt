-- `parse_pairs::read_pair` meets its contract. Assumes nothing.
use Rattle.parse_fields.proofs.IdLaws.{named, unnamed}
use Rattle.parse_fields.proofs.TakeLaws.{handed-on}
use Rattle.scope.specs.Values.{pair_of}
use Rattle.parse_pairs.proofs.read_pair.Goals as goal

pub returns-in_err-id : goal.returns-in_err-id
unfolding pair_of
returns-in_err-id c = rw (handed-on c.from_residual.ensures, unnamed _ c.next_field.ensures c.in_err-id.ensures.value)

pub returns-in_err-x : goal.returns-in_err-x
unfolding pair_of
returns-in_err-x c =
    rw (handed-on c.from_residual-in_err-x.ensures, (named _ c.next_field.ensures c.in_ok-id.ensures.value).0, ← c.in_err-x.ensures)

pub returns-in_err-y : goal.returns-in_err-y
unfolding pair_of
returns-in_err-y c =
    rw (handed-on c.from_residual-in_err-y.ensures, (named _ c.next_field.ensures c.in_ok-id.ensures.value).0, ← c.in_ok-x.ensures, ← c.in_err-y.ensures)

pub returns : goal.returns
unfolding pair_of
returns c =
    let id = named _ c.next_field.ensures c.in_ok-id.ensures.value in
    (rw (id.0, ← c.in_ok-x.ensures, ← c.in_ok-y.ensures), id.1)
