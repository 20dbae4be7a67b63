-- `parse_series::read_pattern` meets its contract. Assumes nothing.
use Rattle.parse_fields.proofs.IdLaws.{named, unnamed}
use Rattle.parse_fields.proofs.TakeLaws.{handed-on}
use Rattle.scope.specs.Series.{pattern_of}
use Rattle.parse_series.proofs.read_pattern.Goals as goal

pub returns-in_err-id : goal.returns-in_err-id
unfolding pattern_of
returns-in_err-id c = rw (handed-on c.from_residual.ensures, unnamed _ c.next_field.ensures c.in_err-id.ensures.value)

pub returns-in_err-count : goal.returns-in_err-count
unfolding pattern_of
returns-in_err-count c =
    rw (handed-on c.from_residual-in_err-count.ensures, (named _ c.next_field.ensures c.in_ok-id.ensures.value).0, c.in_err-count.ensures)

pub returns : goal.returns
unfolding pattern_of
returns c =
    let id = named _ c.next_field.ensures c.in_ok-id.ensures.value in
    let (xs, is, all) = c.in_ok-count.ensures in
    record { values = xs; whole = rw (id.0, is); read = all; fits = id.1 }
