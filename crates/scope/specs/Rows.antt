-- Rows that are computed: the sample of document 01 with its whole tally, and small texts that a reader may get wrong, each with what strict reading answers. Assumes nothing.
use Rattle.std.specs.Prelude.{ℕ, suc, ◌+◌, ◌≡◌, refl, Bool, true, false, cond, List, [], ◌∷◌, map, length, replicate, eqb, pos, Float, None, Some}
use Prim.Native.Char.{code as byte_of}
use Prim.Native.String.{String, [] as nothing, ◌∷◌ as ◌then◌}
use Rattle.std.specs.Float.Ieee.{lt, mul, div, of_int, of_bits, neg}
use Rattle.std.specs.Float.{binary64}
use Rattle.leaf_decimals.specs.Numbers.{number_of}
use Rattle.leaf_counts.specs.Counts.{count_of}
use Rattle.leaf_decimals.specs.Reach.{meaning}
use Rattle.leaf_clock.specs.Times.{time_of, colon_form, hour_of, in_unit, colon_at, without_s, unit_of}
use Rattle.leaf_clock.specs.Times as clock
use Rattle.leaf_fields.specs.Fields.{fields_of}
use Rattle.leaf_scans.specs.Lines.{trimmed, line_kind, cut_of, start_trimmed, end_trimmed}
use Rattle.leaf_letters.specs.Words.{same}
use Rattle.scope_lines.specs.Reader.{Mark, survey_marks, survey_recs, strict, code, count}
use Rattle.scope_lines.specs.Text.{lines_of, piece_no}
use Rattle.scope_lines.specs.Tables.{code_of, reason_in}
use Rattle.scope.specs.declared.Answer.{Answer}
use Rattle.scope.specs.declared.Survey.{Survey}
use Rattle.scope.specs.Tables.{pipe_status_no}
use Rattle.scope.specs.Answers.{reason_no}
use Rattle.scope.specs.Sections.{section_of, room_nodes}
use Rattle.scope.specs.Records.{Network, Node, Link, LinkKind, pipe, pump, valve, Clause, condition, action, Demand, lookup_from, no_network, no_node, with_nodes}
use Rattle.scope.specs.Values.{Read, good, bad, pair_of}
use Rattle.scope.specs.Nodes.{junction_of, add_junction, junction_step, add_node, reservoir_of, reservoir_step, levels_of, tank_of, tank_step, emitter_of}
use Rattle.scope.specs.Nodes.{set_emitter, emitter_step, set_place, coordinates_step}
use Rattle.scope.specs.Links.{ends_of, add_link, store_link, pipe_of, pipe_step, with_pair, pump_from, pump_step, type_of, setting_from, valve_of, valve_step, one_f}
use Rattle.scope.specs.Series.{last_x, add_point, curve_step, multipliers_of, pattern_of, add_pattern, pattern_step, own_from, demand_of, add_demand, set_demand, demand_step, resolved}
use Rattle.scope.specs.Times.{option_of, option_of_two, times_of, times_step}
use Rattle.scope.specs.Rules.{aim_from, comparison_of, value_of, condition_of, kind_fits, deed_of, action_of, line_of, add_rule, judged, group_step, is_condition, is_action}
use Rattle.scope.specs.Rules as rules
use Rattle.scope.specs.Lines.{sort_by, sort_of, step_of, inp}
use Rattle.scope.specs.Reading.{strict_of, told, says, network_in, marks_of, surveyed, survey_of}

-- the bytes of a text
bytes : String → List ℕ
bytes nothing = []
bytes (c then s) = byte_of c ∷ bytes s

-- ---- the sample
sample : String
sample =
    "[JUNCTIONS]\nJ1 10.5\nJ1 12\n[TANKS]\nT1 50\n[PIPES]\nP1 J1 T1 100 200 0.1\n[RULES]\nRULE A\nIF TANK T1 LEVEL BELOW 3\nTHEN PIPE P1 STATUS IS CLOSED\nELSE PIPE P1 STATUS IS OPEN\n\nRULE B\nTHEN PIPE P1 STATUS IS OPEN\n;\nRULE C\nIF SYSTEM TIME ABOVE 6\n"

-- nodes, links, curves, patterns, rules
records : Network → List ℕ
records m = length m.nodes ∷ length m.links ∷ length m.curves ∷ length m.patterns ∷ length m.rules ∷ []

how_many : (Clause → Bool) → List Clause → ℕ
how_many is [] = 0
how_many is (c ∷ cs) = cond (is c) 1 0 + how_many is cs

-- conditions and actions
clauses : Network → List ℕ
clauses m = how_many is_condition m.clauses ∷ how_many is_action m.clauses ∷ []

-- the lines of the text, and how many are of each class
counts : Survey → List ℕ
counts s = s.lines ∷ s.blank ∷ s.header ∷ s.passed ∷ s.taken ∷ s.refused ∷ s.ruletaken ∷ s.rulerefused ∷ s.ruleopen ∷ []

-- line and number of each refusal, by rising line
refusals : ℕ → List Mark → List (ℕ × ℕ)
refusals line [] = []
refusals line (m ∷ ms) = cond (eqb (reason_in m) 0) (refusals (suc line) ms) ((line, reason_in m) ∷ refusals (suc line) ms)

-- what `tally` prints
pub record Tally : Type 0 where
  pub records : List ℕ
  pub clauses : List ℕ
  pub lines : List ℕ
  pub refused : List (ℕ × ℕ)

tally : String → Tally
tally s = record { records = records (surveyed (bytes s)); clauses = clauses (surveyed (bytes s)); lines = counts (survey_of (bytes s)); refused = refusals 1 (marks_of (bytes s)) }

sample_tally : Tally
sample_tally =
    record {
      records = 2 ∷ 1 ∷ 0 ∷ 0 ∷ 1 ∷ [];
      clauses = 1 ∷ 2 ∷ [];
      lines = 18 ∷ 2 ∷ 4 ∷ 0 ∷ 3 ∷ 1 ∷ 4 ∷ 2 ∷ 2 ∷ [];
      refused = (3, 3) ∷ (14, 8) ∷ [];
    }

-- ---- what strict reading answers: the number, and the line
rows : List (String × Answer)
rows =
    -- a malformed later SPEED sets 1
    ("[JUNCTIONS]\nJ\n[PUMPS]\nU J J SPEED 2 SPEED x\n", says 0 0)
    -- CV stands in the minor loss's place
    ∷ ("[JUNCTIONS]\nJ\n[PIPES]\nP J J 1 2 3 CV\n", says 0 0)
    -- a malformed minimum volume is refused
    ∷ ("[TANKS]\nT 1 2 3 4 5 x\n", says 2 2)
    -- a malformed demand is 0, one beyond reach is refused even there
    ∷ ("[JUNCTIONS]\nJ 1 x\nK 1 1e23\n", says 22 3)
    -- true or false, exactly
    ∷ ("[JUNCTIONS]\nJ 1 2 P True\n", says 2 2)
    -- nothing is less than NaN
    ∷ ("[CURVES]\nC nan 0\nC -9 0\n", says 0 0)
    -- x equal to the last is taken, smaller is not
    ∷ ("[CURVES]\nC 1 0\nC 1 5\nC 0.5 5\n", says 6 4)
    -- START joins, then the value is missing
    ∷ ("[TIMES]\nPATTERN START\n", says 1 2)
    -- beyond reach is still a number; a dropped option is still read
    ∷ ("[TIMES]\nX 1e23\n", says 22 2)
    -- the number before the unit
    ∷ ("[TIMES]\nDURATION 1e23 XX\n", says 22 2)
    -- pipes look nodes up after all fields
    ∷ ("[JUNCTIONS]\nJ\n[PIPES]\nP XX J 1 2 3 1e23\n", says 22 4)
    -- pumps before the pairs
    ∷ ("[JUNCTIONS]\nJ\n[PUMPS]\nP XX J SPEED 1e23\n", says 4 4)
    -- an emitter of a node that is no junction
    ∷ ("[RESERVOIRS]\nR 1\n[EMITTERS]\nR 1\n", says 5 4)
    -- an id that is used
    ∷ ("[JUNCTIONS]\nJ\n[TANKS]\nJ 1\n", says 3 4)
    -- a rule line is not cut at `;`
    ∷ ("[RULES]\nRULE A\nPRIORITY 5;\n\n", says 2 2)
    -- any line that starts with the four letters closes the group
    ∷ ("[RULES]\nIF SYSTEM TIME = 6\nRULEX\n", says 9 2)
    -- `;` is the unit
    ∷ ("[RULES]\nIF SYSTEM TIME = 6 ; note\n\n", says 7 2)
    -- after a time with a colon it is ignored
    ∷ ("[RULES]\nIF SYSTEM TIME = 6:00 ; note\n\n", says 9 2)
    -- STATUS/SETTING is judged once the value is there
    ∷ ("[JUNCTIONS]\nJ\n[PIPES]\nP J J 1 2 3\n[RULES]\nTHEN PIPE P SPEED IS\n\n", says 1 6)
    -- the link before the kind word
    ∷ ("[RULES]\nTHEN NODE NONE x\n\n", says 4 2)
    -- the link is not of the kind named
    ∷ ("[JUNCTIONS]\nJ\n[PIPES]\nP J J 1 2 3\n[RULES]\nTHEN PUMP P STATUS IS OPEN\n\n", says 5 6)
    -- 10 is for a group without a RULE line
    ∷ ("[JUNCTIONS]\nJ\n[PIPES]\nP J J 1 2 3\n[RULES]\nRULE\nIF SYSTEM TIME = 6\nTHEN PIPE P STATUS IS OPEN\n\n", says 1 6)
    -- ..as this one
    ∷ ("[JUNCTIONS]\nJ\n[PIPES]\nP J J 1 2 3\n[RULES]\nIF SYSTEM TIME = 6\nTHEN PIPE P STATUS IS OPEN\n\n", says 10 6)
    -- AND after ELSE is a condition where no THEN came first
    ∷ ("[JUNCTIONS]\nJ\n[PIPES]\nP J J 1 2 3\n[RULES]\nRULE A\nELSE PIPE P STATUS IS OPEN\nAND SYSTEM TIME = 6\n\n", says 0 0)
    -- links are looked up at the close
    ∷ ("[RULES]\nRULE A\nIF SYSTEM TIME = 6\nTHEN PIPE P STATUS IS OPEN\n[JUNCTIONS]\nJ\n[PIPES]\nP J J 1 2 3\n\n", says 0 0)
    -- a header and the end close nothing
    ∷ ("[RULES]\nRULE\n[TITLE]\n", says 0 0)
    -- the piece that ended first
    ∷ ("[RULES]\nRULE\n[PIPES]\nP\n\n", says 1 4)
    -- headers are not cut
    ∷ ("[JUNCTIONS] ;x\nJ x\n", says 0 0)
    -- headers have capitals
    ∷ ("[pipes]\nP\n", says 0 0)
    -- an unknown valve type
    ∷ ("[JUNCTIONS]\nJ\n[VALVES]\nV J J 1 XXX\n", says 7 4)
    -- a demand of a node that is not there
    ∷ ("[JUNCTIONS]\nJ 1 5\n[DEMANDS]\nJ 7\nK 7\n", says 4 5)
    ∷ []

-- ---- what is stored
stored : String → Network
stored s = network_in (strict_of (bytes s))

link_numbers : LinkKind → List Float
link_numbers (pipe p) = p.minor ∷ []
link_numbers (pump p) = p.speed ∷ p.power ∷ []
link_numbers (valve v) = v.setting ∷ v.minor ∷ []

link_status : LinkKind → ℕ
link_status (pipe p) = pipe_status_no p.status
link_status (pump p) = 0
link_status (valve v) = 0

-- which actions are else actions
elses : List Clause → List Bool
elses [] = []
elses (condition c ∷ cs) = elses cs
elses (action a ∷ cs) = a.otherwise ∷ elses cs

whole : ℕ → Float
whole n = of_int binary64 (pos n)

-- a network whose nodes are full, and a node of one letter, or of none as those have
full : Network
full = with_nodes (replicate room_nodes no_node) no_network

a_node : List ℕ → Node
a_node letters = record { id = record { at = 0; letters = letters }; kind = no_node.kind; place = None }

answer_to : Read Network → ℕ
answer_to (good m) = 0
answer_to (bad r) = reason_no r

-- ---- the rows hold
record Right : Type 0 where
  sampled : tally sample ≡ sample_tally
  -- "A closing RULE line has the class of the group it closed."
  closing : map code_of (marks_of (bytes "[RULES]\nRULE A\nRULE B\nIF\n")) ≡ 2 ∷ 7 ∷ 7 ∷ 8 ∷ []
  answered : map (λ (r : String × Answer). told (strict_of (bytes r.0))) rows ≡ map (λ (r : String × Answer). r.1) rows
  -- a malformed later SPEED sets 1
  speed : map (λ (l : Link). link_numbers l.kind) (stored "[JUNCTIONS]\nJ\n[PUMPS]\nU J J SPEED 2 POWER 3 SPEED x\n").links ≡ (one_f ∷ whole 3 ∷ []) ∷ []
  -- CV in the minor loss's place is a malformed minor loss, and the pipe is open
  check-valve : map (λ (l : Link). link_status l.kind) (stored "[JUNCTIONS]\nJ\n[PIPES]\nP J J 1 2 3 CV\nQ J J 1 2 3 0 cv\n").links ≡ 1 ∷ 3 ∷ []
  -- the final S of AMS and PMS goes too
  afternoon : (stored "[TIMES]\nDURATION 1 PMS\n").times ≡ Some 46800 ∷ None ∷ None ∷ None ∷ None ∷ None ∷ []
  -- THEN, ELSE, THEN, AND: the AND is an else action, since an ELSE is never taken back
  else-stays : elses
      (stored "[JUNCTIONS]\nJ\n[PIPES]\nP J J 1 2 3\n[RULES]\nRULE A\nIF SYSTEM TIME = 6\nTHEN PIPE P STATUS IS OPEN\nELSE PIPE P STATUS IS OPEN\nTHEN PIPE P STATUS IS OPEN\nAND PIPE P STATUS IS OPEN\n\n").clauses
      ≡ false ∷ true ∷ false ∷ true ∷ []
  -- a junction's first demand line replaces its demand, a later one is added
  replaced : map (λ (d : Demand). d.base) (stored "[JUNCTIONS]\nJ 1 5\n[DEMANDS]\nJ 7\nJ 8\n").demands ≡ whole 7 ∷ whole 8 ∷ []
  -- a used id and another where the nodes are full: 23 is tested after 3
  last-tested : map (λ l. answer_to (add_node (a_node l) full)) ([] ∷ (65 ∷ []) ∷ []) ≡ 3 ∷ 23 ∷ []

right : Right
unfolding sample_tally rows stored link_numbers link_status elses whole full a_node answer_to bytes sample records how_many clauses counts refusals tally marks_of
    surveyed survey_of strict_of told network_in survey_marks survey_recs strict code count piece_no lines_of section_of lookup_from junction_of add_junction junction_step
    add_node reservoir_of reservoir_step levels_of tank_of tank_step set_emitter emitter_of emitter_step set_place pair_of coordinates_step ends_of add_link store_link pipe_of
    pipe_step with_pair pump_from pump_step type_of setting_from valve_of valve_step last_x add_point curve_step multipliers_of pattern_of add_pattern pattern_step own_from
    add_demand set_demand demand_of demand_step resolved option_of option_of_two times_of times_step aim_from comparison_of value_of condition_of kind_fits deed_of action_of
    line_of rules.lines_of add_rule judged group_step sort_by sort_of step_of inp trimmed line_kind cut_of start_trimmed end_trimmed fields_of same number_of count_of time_of
    clock.named colon_form hour_of in_unit colon_at without_s unit_of meaning mul div of_int of_bits neg lt
right = record { sampled = refl; closing = refl; answered = refl; speed = refl; check-valve = refl; afternoon = refl; else-stays = refl; replaced = refl; last-tested = refl }
