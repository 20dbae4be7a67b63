-- `read_steps::close` meets its contract. Assumes nothing.
use Rattle.read_steps.proofs.StepLaws.{sound}
use Rattle.read_steps.proofs.WayLaws.{way-closed, way-rejected}
use Rattle.read_steps.proofs.close.Goals as goal

pub close_group-k-requires : goal.close_group-k-requires
close_group-k-requires c = sound c.requires.0.stands

pub returns-in-Ok : goal.returns-in-Ok
returns-in-Ok c =
    let q = c.requires in
    way-closed q.0 q.1 c.args.dropped c.args.group q.2 c.close_group-k.ensures c.in-Ok.is c.shut.ensures c.own_class.ensures

pub returns-in-Err : goal.returns-in-Err
returns-in-Err c =
    let q = c.requires in
    way-rejected q.0 q.1 c.args.dropped c.args.group q.2 c.close_group-k.ensures c.in-Err.is c.shut-in-Err.ensures c.own_class-in-Err.ensures
