-- What stands in a table for a value, read back, is the value: the law of each impl of `Coded`. Assumes nothing.
use Rattle.std.specs.Prelude.{◌≡◌, refl}
use Rattle.scope.specs.Answers.{reason_no}
use Rattle.scope.specs.Tables.{pipe_status_no, status_no, type_no, target_no, comparison_no, operator_no, value_no, value_number}
use Rattle.scope.specs.declared.PipeStatus.{PipeStatus}
use Rattle.scope.specs.declared.PipeStatus.TheVariants as pipeIs
use Rattle.scope.specs.declared.LinkStatus.{LinkStatus}
use Rattle.scope.specs.declared.LinkStatus.TheVariants.{Open, Closed, Active}
use Rattle.scope.specs.declared.ValveType.{ValveType}
use Rattle.scope.specs.declared.ValveType.TheVariants.{Gpv, Tcv, Fcv, Prv, Psv, Pbv, Pcv}
use Rattle.scope.specs.declared.Target.{Target}
use Rattle.scope.specs.declared.Target.TheVariants as target
use Rattle.scope.specs.declared.SystemAttribute.TheVariants as system
use Rattle.scope.specs.declared.NodeAttribute.TheVariants as node
use Rattle.scope.specs.declared.TankAttribute.TheVariants as tankHas
use Rattle.scope.specs.declared.LinkAttribute.TheVariants as link
use Rattle.scope.specs.declared.Comparison.{Comparison}
use Rattle.scope.specs.declared.Comparison.TheVariants.{Equal, NotEqual, Above, Below, AtLeast, AtMost}
use Rattle.scope.specs.declared.Operator.{Operator}
use Rattle.scope.specs.declared.Operator.TheVariants.{And, Or}
use Rattle.scope.specs.declared.Reason.{Reason}
use Rattle.scope.specs.declared.Reason.TheVariants.{Missing, Malformed, Used, NotFound, WrongKind, XFalls, UnknownWord, NoCondition, NoAction, NoId}
use Rattle.scope.specs.declared.Reason.TheVariants.{TooLong, HighByte, BeyondReach, NoRoom, SmallTable}
use Rattle.scope.specs.declared.Value.{Value}
use Rattle.scope.specs.declared.Value.TheVariants.{Number, Status}
use Rattle.table_codes.specs.Codes.{pipe_status_from, status_from, type_from, target_from, comparison_from, operator_from, value_from, reason_from}

pub pipe_status_back : (s : PipeStatus) → pipe_status_from (pipe_status_no s) ≡ s
pipe_status_back pipeIs.Open = refl
pipe_status_back pipeIs.Closed = refl
pipe_status_back pipeIs.CheckValve = refl

pub status_back : (s : LinkStatus) → status_from (status_no s) ≡ s
status_back Open = refl
status_back Closed = refl
status_back Active = refl

pub type_back : (t : ValveType) → type_from (type_no t) ≡ t
type_back Gpv = refl
type_back Tcv = refl
type_back Fcv = refl
type_back Prv = refl
type_back Psv = refl
type_back Pbv = refl
type_back Pcv = refl

pub target_back : (t : Target) → target_from (target_no t) ≡ t
target_back (target.System system.Demand) = refl
target_back (target.System system.Time) = refl
target_back (target.System system.Clocktime) = refl
target_back (target.Node node.Demand) = refl
target_back (target.Node node.Head) = refl
target_back (target.Node node.Pressure) = refl
target_back (target.Tank tankHas.Level) = refl
target_back (target.Tank tankHas.Filltime) = refl
target_back (target.Tank tankHas.Draintime) = refl
target_back (target.Link link.Flow) = refl
target_back (target.Link link.Status) = refl
target_back (target.Link link.Setting) = refl

pub comparison_back : (c : Comparison) → comparison_from (comparison_no c) ≡ c
comparison_back Equal = refl
comparison_back NotEqual = refl
comparison_back Above = refl
comparison_back Below = refl
comparison_back AtLeast = refl
comparison_back AtMost = refl

pub operator_back : (o : Operator) → operator_from (operator_no o) ≡ o
operator_back And = refl
operator_back Or = refl

pub value_back : (v : Value) → value_from (value_no v) (value_number v) ≡ v
value_back (Number x) = refl
value_back (Status Open) = refl
value_back (Status Closed) = refl
value_back (Status Active) = refl

pub reason_back : (r : Reason) → reason_from (reason_no r) ≡ r
reason_back Missing = refl
reason_back Malformed = refl
reason_back Used = refl
reason_back NotFound = refl
reason_back WrongKind = refl
reason_back XFalls = refl
reason_back UnknownWord = refl
reason_back NoCondition = refl
reason_back NoAction = refl
reason_back NoId = refl
reason_back TooLong = refl
reason_back HighByte = refl
reason_back BeyondReach = refl
reason_back NoRoom = refl
reason_back SmallTable = refl
