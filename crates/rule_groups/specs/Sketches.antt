-- The sketch of a group, which the code makes of its lines, and the group judged by it. The rules themselves stand in scope's Rules. Assumes nothing.
use Rattle.scope.specs.declared.Reason.{Reason}
use Rattle.std.specs.Prelude.{ℕ, ◌+◌, ◌≤◌, ◌<◌, ◌≡◌, List, length, Err, Ok, Result}
use Rattle.leaf_fields.specs.Fields.{name_in, Fits}
use Rattle.leaf_fields.specs.declared.Span.{Span}
use Rattle.scope.specs.Records.{Network}
use Rattle.scope.specs.Values.{Read, good, bad}
use Rattle.scope.specs.Rules.{Draft, is_condition, is_action, some?, with_rule}
use Rattle.scope.specs.Sections.{room_rules, room_clauses}
use Rattle.rule_clauses.specs.Clauses.{opt_in, MayFit}
use Rattle.rule_groups.specs.declared.Sketch.{Sketch}

-- ---- the sketch of a group
pub record Sketched (text : List ℕ) (d : Draft) (q : Sketch) : Type 0 where
  pub id : d.id ≡ opt_in text q.id
  pub fit : MayFit text q.id
  pub rank : d.priority ≡ q.priority
  pub acting : d.acting ≡ q.acting
  pub otherwise : d.otherwise ≡ q.otherwise
  pub long : length d.clauses ≡ q.clauses
  pub conditions : some? is_condition d.clauses ≡ q.conditions
  pub actions : some? is_action d.clauses ≡ q.actions

abbrev pub SketchAs : List ℕ → Read Draft → Result Sketch Reason → Type 0
SketchAs text o (Ok q) = (d : Draft) × (o ≡ good d) × Sketched text d q
SketchAs text o (Err why) = o ≡ bad why

-- ---- the group judged
pub record Fine (text : List ℕ) (d : Draft) (m : Network) (o : Read Network) (id : Span) : Type 0 where
  pub whole : o ≡ good (with_rule (name_in text id) d m)
  pub fits : Fits text id
  pub rules : length m.rules < room_rules
  pub clauses : length m.clauses + length d.clauses ≤ room_clauses

abbrev pub JudgedAs : List ℕ → Draft → Network → Read Network → Result Span Reason → Type 0
JudgedAs text d m o (Ok id) = Fine text d m o id
JudgedAs text d m o (Err why) = o ≡ bad why
