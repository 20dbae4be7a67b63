-- What the numbers of the tables stand for. Assumes nothing.
use Rattle.std.specs.Prelude.{ℕ, cond, eqb, ltb, Float}
use Rattle.scope.specs.declared.PipeStatus.{PipeStatus}
use Rattle.scope.specs.declared.PipeStatus.TheVariants as pipeIs
use Rattle.scope.specs.declared.LinkStatus.{LinkStatus}
use Rattle.scope.specs.declared.LinkStatus.TheVariants.{Open, Closed, Active}
use Rattle.scope.specs.declared.ValveType.{ValveType}
use Rattle.scope.specs.declared.ValveType.TheVariants.{Gpv, Tcv, Fcv, Prv, Psv, Pbv, Pcv}
use Rattle.scope.specs.declared.Target.{Target}
use Rattle.scope.specs.declared.Target.TheVariants as target
use Rattle.scope.specs.declared.SystemAttribute.TheVariants as system
use Rattle.scope.specs.declared.NodeAttribute.TheVariants as node
use Rattle.scope.specs.declared.TankAttribute.TheVariants as tankHas
use Rattle.scope.specs.declared.LinkAttribute.TheVariants as link
use Rattle.scope.specs.declared.Comparison.{Comparison}
use Rattle.scope.specs.declared.Comparison.TheVariants.{Equal, NotEqual, Above, Below, AtLeast, AtMost}
use Rattle.scope.specs.declared.Operator.{Operator}
use Rattle.scope.specs.declared.Operator.TheVariants.{And, Or}
use Rattle.scope.specs.declared.Reason.{Reason}
use Rattle.scope.specs.declared.Reason.TheVariants.{Missing, Malformed, Used, NotFound, WrongKind, XFalls, UnknownWord, NoCondition, NoAction, NoId}
use Rattle.scope.specs.declared.Reason.TheVariants.{TooLong, HighByte, BeyondReach, NoRoom, SmallTable}
use Rattle.scope.specs.declared.Value.{Value}
use Rattle.scope.specs.declared.Value.TheVariants.{Number, Status}

-- ---- what the words stand for
abbrev pub pipe_status_from : ℕ → PipeStatus
pipe_status_from n = cond (eqb n 2) pipeIs.Closed (cond (eqb n 3) pipeIs.CheckValve pipeIs.Open)

abbrev pub status_from : ℕ → LinkStatus
status_from n = cond (eqb n 1) Open (cond (eqb n 2) Closed Active)

abbrev pub type_from : ℕ → ValveType
type_from n = cond (eqb n 1) Gpv (cond (eqb n 2) Tcv (cond (eqb n 3) Fcv (cond (eqb n 4) Prv (cond (eqb n 5) Psv (cond (eqb n 6) Pbv Pcv)))))

abbrev pub system_or_node : ℕ → Target
system_or_node n =
    cond (eqb n 1) (target.System system.Demand)
    (cond (eqb n 2) (target.System system.Time)
    (cond (eqb n 3) (target.System system.Clocktime)
    (cond (eqb n 4) (target.Node node.Demand)
    (cond (eqb n 5) (target.Node node.Head) (target.Node node.Pressure)))))

abbrev pub tank_or_link : ℕ → Target
tank_or_link n =
    cond (eqb n 7) (target.Tank tankHas.Level)
    (cond (eqb n 8) (target.Tank tankHas.Filltime)
    (cond (eqb n 9) (target.Tank tankHas.Draintime)
    (cond (eqb n 10) (target.Link link.Flow)
    (cond (eqb n 11) (target.Link link.Status) (target.Link link.Setting)))))

abbrev pub target_from : ℕ → Target
target_from n = cond (ltb n 7) (system_or_node n) (tank_or_link n)

abbrev pub comparison_from : ℕ → Comparison
comparison_from n = cond (eqb n 1) Equal (cond (eqb n 2) NotEqual (cond (eqb n 3) Above (cond (eqb n 4) Below (cond (eqb n 5) AtLeast AtMost))))

abbrev pub operator_from : ℕ → Operator
operator_from n = cond (eqb n 1) And Or

abbrev pub value_from : ℕ → Float → Value
value_from n x = cond (eqb n 0) (Number x) (Status (status_from n))

-- ---- what the numbers of the answers stand for
abbrev pub reason_from : ℕ → Reason
reason_from n =
    cond (eqb n 1) Missing
    (cond (eqb n 2) Malformed
    (cond (eqb n 3) Used
    (cond (eqb n 4) NotFound
    (cond (eqb n 5) WrongKind
    (cond (eqb n 6) XFalls
    (cond (eqb n 7) UnknownWord
    (cond (eqb n 8) NoCondition
    (cond (eqb n 9) NoAction
    (cond (eqb n 10) NoId
    (cond (eqb n 20) TooLong
    (cond (eqb n 21) HighByte
    (cond (eqb n 22) BeyondReach
    (cond (eqb n 23) NoRoom SmallTable)))))))))))))
