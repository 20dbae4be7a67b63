-- What is stored of a group: its clauses one after another, and then its rule. The rules themselves stand in scope's Rules. Assumes nothing.
use Rattle.scope.specs.declared.Reason.{Reason}
use Rattle.std.specs.Prelude.{ℕ, ◌+◌, ◌-◌, ◌*◌, ◌≤◌, ◌<◌, ◌≡◌, List, ◌++◌, length, take, Float, Err, Ok, Result}
use Rattle.leaf_fields.specs.Fields.{name_in}
use Rattle.leaf_fields.specs.declared.Span.{Span}
use Rattle.scope.specs.declared.Counts.{Counts}
use Rattle.scope.specs.Records.{Network, Clause, condition, action, Rule, counts_of, with_clauses}
use Rattle.scope.specs.Values.{Read, good, bad}
use Rattle.scope.specs.Tables.{clause_words, clause_numbers}
use Rattle.scope.specs.Rules.{Draft}
use Rattle.table_rows.specs.Table.{splice}
use Rattle.scope.specs.Layout.{clauses_at, clauses_width, clause_numbers_at}
use Rattle.scope.specs.Sections.{room_clauses}
use Rattle.table_rows.specs.Holding.{Holds}
use Rattle.rule_clauses.specs.Clauses.{condition_in}
use Rattle.rule_lines.specs.declared.Saying.{Saying}
use Rattle.rule_lines.specs.declared.Saying.TheVariants as saying
use Rattle.rule_lines.specs.Lines.{action_in}
use Rattle.rule_groups.specs.declared.Sketch.{Sketch}
use Rattle.rule_groups.specs.Sketches.{Sketched}

-- ---- the clauses
-- a clause is put at the place n
abbrev pub PutClause : ℕ → Clause → List ℕ → List Float → List ℕ → List Float → Type 0
PutClause n c w f w' f' = (w' ≡ splice w (clauses_at + n * clauses_width) (clause_words c)) × (f' ≡ splice f (clause_numbers_at + n) (clause_numbers c))

-- the same where there is room; where there is none, nothing is put
abbrev pub PutFitting : ℕ → Clause → List ℕ → List Float → List ℕ → List Float → Type 0
PutFitting n c w f w' f' = (n < room_clauses → PutClause n c w f w' f') × (room_clauses ≤ n → (w' ≡ w) × (f' ≡ f))

abbrev pub Put : List ℕ → ℕ → Result Saying Reason → List ℕ → List Float → List ℕ → List Float → Type 0
Put text n (Ok (saying.Named s)) w f w' f' = (w' ≡ w) × (f' ≡ f)
Put text n (Ok (saying.Ranked k)) w f w' f' = (w' ≡ w) × (f' ≡ f)
Put text n (Ok (saying.Condition c)) w f w' f' = PutFitting n (condition (condition_in text c)) w f w' f'
Put text n (Ok (saying.Action a)) w f w' f' = PutFitting n (action (action_in text a.action)) w f w' f'
Put text n (Err why) w f w' f' = (w' ≡ w) × (f' ≡ f)

-- the tables hold m with these clauses more
abbrev pub HoldsMore : List ℕ → Network → List Clause → List ℕ → List Float → Type 0
HoldsMore text m cs w f = Holds text (with_clauses (m.clauses ++ cs) m) (counts_of (with_clauses (m.clauses ++ cs) m)) w f

-- of these clauses as many as there is room for after those of m
abbrev pub fitting : Network → List Clause → List Clause
fitting m cs = take (room_clauses - length m.clauses) cs

-- the lines of a group make a draft: its sketch, and its clauses in the tables. Where a line is refused the tables are as they were.
abbrev pub Taken : List ℕ → Network → Read Draft → Result Sketch Reason → List ℕ → List Float → List ℕ → List Float → Type 0
Taken text m o (Ok q) w f w' f' = (d : Draft) × (o ≡ good d) × Sketched text d q × HoldsMore text m (fitting m d.clauses) w' f'
Taken text m o (Err why) w f w' f' = (o ≡ bad why) × (w' ≡ w) × (f' ≡ f)

-- ---- the rule
abbrev pub rule_in : List ℕ → Span → Sketch → ℕ → Rule
rule_in text id q first = record { id = name_in text id; priority = q.priority; first = first; count = q.clauses }

-- the tables held m, and hold the clauses of the draft d besides; q is its sketch
pub record ClausesPut (text : List ℕ) (m : Network) (d : Draft) (q : Sketch) (s : Counts) (w : List ℕ) (f : List Float) (w' : List ℕ) (f' : List Float) : Type 0 where
  pub was : Holds text m s w f
  pub sketched : Sketched text d q
  pub more : HoldsMore text m (fitting m d.clauses) w' f'
