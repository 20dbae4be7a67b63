-- How the code's state and the two lent tables hold what a reading keeps, and what one line makes of both. Document 01: "The reading goes forward one line at a time
-- and carries its section, open group and counts by value." Assumes nothing.
use Rattle.std.specs.Prelude.{ℕ, ◌+◌, ◌≤◌, ◌<◌, ◌≡◌, Bool, true, false, cond, List, [], map, length, Float, Option, None, Some, IfSome, unwrap_or}
use Rattle.scope_lines.specs.Reader as L
use Rattle.scope_lines.specs.Reader.{Standing, Outcome, Own, itself, last, is_blank, next}
use Rattle.scope_lines.specs.Text.{Line, line_at}
use Rattle.scope_lines.specs.Stretch.{Stretch}
use Rattle.scope_lines.specs.Turn.{Tells}
use Rattle.scope.specs.declared.Section.{Section}
use Rattle.scope.specs.declared.Section.TheVariants.{Rules, Passed}
use Rattle.scope.specs.declared.Counts.{Counts}
use Rattle.scope.specs.Sections.{is_rules, room_text}
use Rattle.scope.specs.Records.{Network, no_network, counts_of}
use Rattle.scope.specs.Lines.{sort_of, rule_fields}
use Rattle.table_rows.specs.Holding.{Holds}
use Rattle.read_headers.specs.Own.{is_data, group_fields}
use Rattle.read_headers.specs.Sections.{passes_over}
use Rattle.read_marks.specs.Marked.{closed_no, refused_no}
use Rattle.read_steps.specs.declared.OpenGroup.{OpenGroup}
use Rattle.read_steps.specs.declared.State.{State}
use Rattle.read_steps.specs.declared.Turn.{Turn}

-- where a reading of document 01 stands
abbrev pub Model : Type 0
Model = Standing Section Line Network

-- ---- the state
-- the open group, by its first line's place and number, in a text read up to `at`
pub record Group (text : List ℕ) (first no at : ℕ) (s : Section) (g : List Line) : Type 0 where
  pub stretch : Stretch sort_of is_rules Rules text first no at s g
  pub fields : map rule_fields g ≡ group_fields text at first

-- the state and the tables hold where a reading stands
pub record Carries (text : List ℕ) (s : State) (w : List ℕ) (f : List Float) (m : Model) : Type 0 where
  pub sec : m.sec ≡ s.section
  pub none : s.group ≡ None → m.group ≡ []
  pub group : (g : OpenGroup) → s.group ≡ Some g → Group text g.first g.no s.at s.section m.group
  pub recs : Holds text m.recs s.counts w f
  pub line : s.line ≤ s.at
  pub here : s.at ≤ length text

-- what the code needs to read the next line
pub record Fits (text : List ℕ) (s : State) (w : List ℕ) (f : List Float) : Type 0 where
  pub m : Model
  pub stands : Carries text s w f m
  pub short : length text ≤ room_text
  pub more : s.at < length text

-- ---- the state after a line that ends at e: moved on, to a section and counts; joined to the group; the group shut
abbrev pub moved_to : State → Section → Counts → ℕ → State
moved_to s x c e = record { section = x; group = s.group; counts = c; at = e; line = s.line + 1 }

abbrev pub joined_to : State → ℕ → State
joined_to s e =
    record {
      section = s.section;
      group = Some (unwrap_or s.group (record { first = s.at; no = s.line + 1 }));
      counts = s.counts;
      at = e;
      line = s.line + 1;
    }

abbrev pub shut_to : State → Counts → ℕ → State
shut_to s c e = record { section = s.section; group = None; counts = c; at = e; line = s.line + 1 }

abbrev pub new_state : State
new_state = record { section = Passed; group = None; counts = counts_of no_network; at = 0; line = 0 }

-- ---- one line
-- a group closes at a RULE line, which is its last, or at a blank line
abbrev pub own_line : Bool → Section → Own Section
own_line true s = last
own_line false s = itself is_blank s

-- the open group, where a line closes it: a blank one does, and in RULES one that starts with RULE; a header closes nothing
abbrev pub closes_by : L.Sort Section → Section → Option OpenGroup → Option OpenGroup
closes_by L.empty x g = g
closes_by (L.heading y) x g = None
closes_by L.start x g = cond (is_rules x) g None
closes_by L.other x g = None

-- a line that no section stores: blank, a header, of RULES, or of a section that is passed over
abbrev pub Unstored : L.Sort Section → Section → Type 0
Unstored k x = is_data k ≡ true → is_rules x ≡ false → passes_over x ≡ true

-- a line of class k that closes no group and is not refused, and takes the state to s
abbrev pub quiet : State → ℕ → Turn
quiet s k = record { state = s; class = k; closed = None; refused = None }

-- such a line, neither blank nor a header, where no section stores it: it joins its group, or is passed over
abbrev pub plain_turn : State → ℕ → Turn
plain_turn s e = cond (is_rules s.section) (quiet (joined_to s e) 8) (quiet (moved_to s s.section s.counts e) 3)

-- the group that a line closed has a class, and starts with the piece; the refusal stands at the piece
pub record Named (r : Turn) (piece : ℕ) : Type 0 where
  pub closed : IfSome r.closed (λ c. (c.first ≡ piece) × (c.class ≡ 0 → ⊥))
  pub refused : IfSome r.refused (λ x. x.piece ≡ piece)

-- line l, whose outcome is o, takes s and m to r
pub record Stepped (text : List ℕ) (s : State) (l : Line) (m : Model) (o : Outcome Section Network) (r : Turn) (w : List ℕ) (f : List Float) : Type 0 where
  pub stands : Carries text r.state w f (next m l o)
  pub piece : ℕ
  pub tells : Tells m l o r.class (closed_no r.closed) (refused_no r.refused) piece
  pub named : Named r piece
  pub at : r.state.at ≡ s.at + length l.body
  pub line : r.state.line ≡ s.line + 1

-- wherever the reading stands that s and the tables hold, the next line, whose outcome is φ, takes it to r
abbrev pub Goes : List ℕ → State → List ℕ → List Float → (Model → Line → Outcome Section Network) → Turn → List ℕ → List Float → Type 0
Goes text s w f φ r w' f' =
    (m : Model) → Carries text s w f m
    → Stepped text s (line_at text s.at (s.line + 1)) m (φ m (line_at text s.at (s.line + 1))) r w' f'
