-- `inp::inp_read_strict` meets its contract. Assumes nothing.
use mathlib.Core.Path.{ap}
use Rattle.scope.specs.declared.Answer.{Answer}
use Rattle.inp.proofs.inp_read_strict.Goals as goal

pub returns : goal.returns
returns c =
    let e = c.read_strict-answer.ensures in
    (ap (λ (a : Answer). a.number) e.0, ap (λ (a : Answer). a.line) e.0, e.1, e.2)
