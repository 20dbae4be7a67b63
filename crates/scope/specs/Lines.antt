-- Document 01, "Lines and groups": what each line of a text does. The crate `scope_lines` says how lines and groups follow one another; this is what a line is and what a
-- section's line or a group stores. Assumes nothing.
use Rattle.std.specs.Prelude.{ℕ, cond, List, map}
use Rattle.leaf_fields.specs.Fields.{Name, fields_of}
use Rattle.leaf_scans.specs.Lines.{trimmed, LineKind, blank, header, other, line_kind, cut_of}
use Rattle.leaf_letters.specs.Words.{begins}
use Rattle.scope_lines.specs.Reader as L
use Rattle.scope_lines.specs.Text.{Line}
use Rattle.scope.specs.declared.Section.{Section}
use Rattle.scope.specs.declared.Section.TheVariants.{Junctions, Reservoirs, Tanks, Pipes, Pumps, Valves, Curves, Patterns, Demands, Emitters, Coordinates, Times, Rules, Passed}
use Rattle.scope.specs.Spelling.{word_rule}
use Rattle.scope.specs.Sections.{section_of, is_rules}
use Rattle.scope.specs.Answers.{reason_no}
use Rattle.scope.specs.Records.{Network}
use Rattle.scope.specs.Values.{Read, good, bad}
use Rattle.scope.specs.Nodes.{junction_step, reservoir_step, tank_step, emitter_step, coordinates_step}
use Rattle.scope.specs.Links.{pipe_step, pump_step, valve_step}
use Rattle.scope.specs.Series.{curve_step, pattern_step, demand_step, resolved}
use Rattle.scope.specs.Times.{times_step}
use Rattle.scope.specs.Rules.{group_step}

-- ---- what a line is: blank; a header of a section; a line that starts with RULE, which matters in RULES alone; any other
unfoldable pub sort_by : LineKind → List ℕ → L.Sort Section
sort_by blank w = L.empty
sort_by header w = L.heading (section_of w)
sort_by other w = cond (begins w word_rule) L.start L.other

unfoldable pub sort_of : List ℕ → L.Sort Section
sort_of l = sort_by (line_kind l) (trimmed l)

-- ---- what a line of a section stores, by its fields: "Outside RULES a line is cut at its first `;`; rule lines are not cut."
abbrev pub section_fields : Line → List Name
section_fields l = fields_of l.start (cut_of l.body)

abbrev pub rule_fields : Line → List Name
rule_fields l = fields_of l.start l.body

abbrev pub verdict : Read Network → L.Verdict Network
verdict (good m) = L.good m
verdict (bad r) = L.bad (reason_no r)

unfoldable pub step_of : Section → List Name → Network → L.Stored Network
step_of Junctions fs m = L.judged (verdict (junction_step fs m))
step_of Reservoirs fs m = L.judged (verdict (reservoir_step fs m))
step_of Tanks fs m = L.judged (verdict (tank_step fs m))
step_of Pipes fs m = L.judged (verdict (pipe_step fs m))
step_of Pumps fs m = L.judged (verdict (pump_step fs m))
step_of Valves fs m = L.judged (verdict (valve_step fs m))
step_of Curves fs m = L.judged (verdict (curve_step fs m))
step_of Patterns fs m = L.judged (verdict (pattern_step fs m))
step_of Demands fs m = L.judged (verdict (demand_step fs m))
step_of Emitters fs m = L.judged (verdict (emitter_step fs m))
step_of Coordinates fs m = L.judged (verdict (coordinates_step fs m))
step_of Times fs m = L.judged (verdict (times_step fs m))
step_of Rules fs m = L.over
step_of Passed fs m = L.over

-- ---- the reader of document 01
unfoldable pub inp : L.Reader Section Line Network
inp = record {
  sort = λ l. sort_of l.body;
  rules = is_rules;
  store = λ s l m. step_of s (section_fields l) m;
  close = λ g m. verdict (group_step (map rule_fields g) m);
  finish = resolved;
}
