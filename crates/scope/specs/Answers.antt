-- Document 01, "Numbers of the answers": the number of each reason. 0 is no reason. Assumes nothing.
use Rattle.std.specs.Prelude.{ℕ}
use Rattle.scope.specs.declared.Reason.{Reason}
use Rattle.scope.specs.declared.Reason.TheVariants.{Missing, Malformed, Used, NotFound, WrongKind, XFalls, UnknownWord, NoCondition, NoAction, NoId}
use Rattle.scope.specs.declared.Reason.TheVariants.{TooLong, HighByte, BeyondReach, NoRoom, SmallTable}

abbrev pub reason_no : Reason → ℕ
reason_no Missing = 1  -- a required field is missing
reason_no Malformed = 2  -- a number, count, condition value or true/false is malformed
reason_no Used = 3  -- a node, link or rule id is already used
reason_no NotFound = 4  -- a named node or link is not found
reason_no WrongKind = 5  -- the node is not a junction, or the action's link is not of the kind named
reason_no XFalls = 6  -- a curve's x is less than its last x
reason_no UnknownWord = 7  -- unknown word
reason_no NoCondition = 8  -- a rule group has no condition
reason_no NoAction = 9  -- no action
reason_no NoId = 10  -- no id
reason_no TooLong = 20  -- text over 65,536 bytes
reason_no HighByte = 21  -- a byte above 127 anywhere
reason_no BeyondReach = 22  -- a number is well formed but beyond reach
reason_no NoRoom = 23  -- the record or clauses do not fit
reason_no SmallTable = 28  -- a buffer lent to be written is smaller than its room
