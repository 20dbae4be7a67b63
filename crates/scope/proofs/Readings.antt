-- Both readings of a text give a network whose names are written in it. Assumes nothing.
use Prim.Native.Nat.{ℕ}
use mathlib.Core.Path.{◌≡◌, refl}
use mathlib.Core.Bool.{Bool, true, false, cond}
use mathlib.Core.List.{List, map}
use lib.ListN.{length, take, drop}
use lib.Dec.{ltb}
use Rattle.leaf_fields.specs.Fields.{Name}
use Rattle.scope_lines.specs.Reader as L
use Rattle.scope_lines.specs.Text.{Line, Each, nothing, each}
use Rattle.scope_lines.proofs.Text.{lines-placed}
use Rattle.scope.specs.declared.Section.{Section}
use Rattle.scope.specs.declared.Section.TheVariants.{Junctions, Reservoirs, Tanks, Pipes, Pumps, Valves, Curves, Patterns, Demands, Emitters, Coordinates, Times, Rules, Passed}
use Rattle.scope.specs.Sections.{room_text}
use Rattle.scope.specs.Records.{Network, no_network}
use Rattle.scope.specs.Values.{Read}
use Rattle.scope.specs.Lines.{section_fields, rule_fields, verdict, step_of, inp}
use Rattle.scope.specs.Reading.{at_start, strict_of, surveyed, network_in, all_low, strict_network, survey_network}
use Rattle.scope.specs.Written.{Sits, Written}
use Rattle.scope.proofs.WrittenLaws.{Fine, goodly, badly, junction-step, reservoir-step, tank-step, pipe-step, pump-step, valve-step, curve-step}
use Rattle.scope.proofs.WrittenLaws.{pattern-step, demand-step, emitter-step, coordinates-step, times-step, group-written, resolved-written, rule-sit}
use Rattle.scope.proofs.WrittenLaws.{section-sit}
use Rattle.scope.proofs.Kept.{VerdictKeeps, keeps, refuses, StoredKeeps, passes, judges, Keeps, recs_in, survey-keeps, strict-keeps}

module _ (text : List ℕ) where
  -- the line stands in the text
  abbrev Placed : Line → Type 0
  Placed l = take (length l.body) (drop l.start text) ≡ l.body

  verdict-keeps : {r : Read Network} → Fine (Written text) r → VerdictKeeps (Written text) (verdict r)
  verdict-keeps (goodly w) = keeps w
  verdict-keeps badly = refuses

  steps : (s : Section) (fs : List Name) (m : Network) → Each (Sits text) fs → Written text m → StoredKeeps (Written text) (step_of s fs m)
  unfolding step_of
  steps Junctions fs m a w = judges (verdict-keeps (junction-step text fs m a w))
  steps Reservoirs fs m a w = judges (verdict-keeps (reservoir-step text fs m a w))
  steps Tanks fs m a w = judges (verdict-keeps (tank-step text fs m a w))
  steps Pipes fs m a w = judges (verdict-keeps (pipe-step text fs m a w))
  steps Pumps fs m a w = judges (verdict-keeps (pump-step text fs m a w))
  steps Valves fs m a w = judges (verdict-keeps (valve-step text fs m a w))
  steps Curves fs m a w = judges (verdict-keeps (curve-step text fs m a w))
  steps Patterns fs m a w = judges (verdict-keeps (pattern-step text fs m a w))
  steps Demands fs m a w = judges (verdict-keeps (demand-step text fs m a w))
  steps Emitters fs m a w = judges (verdict-keeps (emitter-step text fs m a w))
  steps Coordinates fs m a w = judges (verdict-keeps (coordinates-step text fs m a w))
  steps Times fs m a w = judges (verdict-keeps (times-step text fs m w))
  steps Rules fs m a w = passes
  steps Passed fs m a w = passes

  group-fields : {g : List Line} → Each Placed g → Each (Each (Sits text)) (map rule_fields g)
  group-fields nothing = nothing
  group-fields (each {x} p ps) = each (rule-sit text x p) (group-fields ps)

  stores : (s : Section) (l : Line) (m : Network) → Placed l → Written text m → StoredKeeps (Written text) (inp.store s l m)
  unfolding inp
  stores s l m p w = steps s (section_fields l) m (section-sit text l p) w

  shuts : (g : List Line) (m : Network) → Each Placed g → Written text m → VerdictKeeps (Written text) (inp.close g m)
  unfolding inp
  shuts g m ps w = verdict-keeps (group-written text (map rule_fields g) m (group-fields ps) w)

  ends : (m : Network) → Written text m → Written text (inp.finish m)
  unfolding inp
  ends m w = resolved-written text m w

  empty : Written text no_network
  empty = record { nodes = nothing; links = nothing; curves = nothing; patterns = nothing; demands = nothing; rules = nothing; clauses = nothing; times = refl }

  begins : Keeps inp (Written text) Placed stores shuts ends at_start
  begins = record { lines = nothing; recs = empty }

  pub survey-written : Written text (surveyed text)
  unfolding surveyed
  survey-written = survey-keeps inp (Written text) Placed stores shuts ends at_start begins (lines-placed text)

  network_in-is : (r : L.Reply Line Network) → Written text (recs_in r) → Written text (network_in r)
  unfolding network_in
  network_in-is (L.accepted m) w = w
  network_in-is (L.stopped n p m) w = w

  pub strict-written : Written text (network_in (strict_of text))
  unfolding strict_of
  strict-written = network_in-is _ (strict-keeps inp (Written text) Placed stores shuts ends at_start begins (lines-placed text))

  chosen : (a b : Bool) {m : Network} → Written text m → Written text (cond a no_network (cond b m no_network))
  chosen true b w = empty
  chosen false true w = w
  chosen false false w = empty

  -- what the two public functions store
  pub strict-network : Written text (strict_network text)
  unfolding strict_network
  strict-network = chosen (ltb room_text (length text)) (all_low text) strict-written

  pub survey-network : Written text (survey_network text)
  unfolding survey_network
  survey-network = chosen (ltb room_text (length text)) (all_low text) survey-written
