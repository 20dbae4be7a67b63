-- Reading commutes with forgetting the places of names: what demand 3 for texts asks of a reader. Assumes nothing.
use mathlib.Core.Path.{◌≡◌, refl, ap, ap₂, ◌∙◌}
use mathlib.Core.List.{List, [], ◌∷◌, map}
use Rattle.leaf_fields.specs.Fields.{Name}
use Rattle.leaf_scans.specs.Lines.{cut_of}
use Rattle.scope_lines.specs.Reader as L
use Rattle.scope_lines.specs.Text.{Line, SameBody}
use Rattle.scope_lines.specs.Alike.{map_v, map_s, Erases, Alike}
use Rattle.scope_lines.proofs.Alike.{erases-alike}
use Rattle.scope.specs.declared.Section.{Section}
use Rattle.scope.specs.declared.Section.TheVariants.{Junctions, Reservoirs, Tanks, Pipes, Pumps, Valves, Curves, Patterns, Demands, Emitters, Coordinates, Times, Rules, Passed}
use Rattle.scope.specs.Records.{Network}
use Rattle.scope.specs.Values.{Read}
use Rattle.scope.specs.Rules.{group_step}
use Rattle.scope.specs.Lines.{section_fields, rule_fields, verdict, step_of, inp}
use Rattle.scope.specs.Bare.{forget, bare, section_letters, rule_letters, bare_inp}
use Rattle.scope.proofs.Carry.{ReadLike, goods, bads, fields-moved}
use Rattle.scope.proofs.NodeLaws.{junction-step, reservoir-step, tank-step, emitter-step, coordinates-step}
use Rattle.scope.proofs.LinkLaws.{pipe-step, pump-step, valve-step}
use Rattle.scope.proofs.SeriesLaws.{curve-step, pattern-step, demand-step, bare-resolved}
use Rattle.scope.proofs.TimeLaws.{times-step}
use Rattle.scope.proofs.RuleLaws.{group-step}

verdicts : {r r' : Read Network} → ReadLike bare r r' → map_v bare (verdict r) ≡ verdict r'
unfolding map_v
verdicts (goods e) = ap L.good e
verdicts bads = refl

judgeds : {r r' : Read Network} → ReadLike bare r r' → map_s bare (L.judged (verdict r)) ≡ L.judged (verdict r')
unfolding map_s
judgeds t = ap L.judged (verdicts t)

steps-bare : (s : Section) (fs : List Name) (m : Network) → map_s bare (step_of s fs m) ≡ step_of s (map forget fs) (bare m)
unfolding step_of map_s
steps-bare Junctions fs m = judgeds (junction-step fs m)
steps-bare Reservoirs fs m = judgeds (reservoir-step fs m)
steps-bare Tanks fs m = judgeds (tank-step fs m)
steps-bare Pipes fs m = judgeds (pipe-step fs m)
steps-bare Pumps fs m = judgeds (pump-step fs m)
steps-bare Valves fs m = judgeds (valve-step fs m)
steps-bare Curves fs m = judgeds (curve-step fs m)
steps-bare Patterns fs m = judgeds (pattern-step fs m)
steps-bare Demands fs m = judgeds (demand-step fs m)
steps-bare Emitters fs m = judgeds (emitter-step fs m)
steps-bare Coordinates fs m = judgeds (coordinates-step fs m)
steps-bare Times fs m = judgeds (times-step fs m)
steps-bare Rules fs m = refl
steps-bare Passed fs m = refl

stores-bare : (s : Section) (l : Line) (m : Network) → map_s bare (step_of s (section_fields l) m) ≡ step_of s (section_letters l.body) (bare m)
stores-bare s l m = steps-bare s (section_fields l) m ∙ ap (λ fs. step_of s fs (bare m)) (fields-moved l.start 0 (cut_of l.body))

group-fields : (g : List Line) → map (map forget) (map rule_fields g) ≡ map rule_letters (map (λ (l : Line). l.body) g)
group-fields [] = refl
group-fields (l ∷ g) = ap₂ {B = List (List Name)} ◌∷◌ (fields-moved l.start 0 l.body) (group-fields g)

closes-bare : (g : List Line) (m : Network)
    → map_v bare (verdict (group_step (map rule_fields g) m)) ≡ verdict (group_step (map rule_letters (map (λ (l : Line). l.body) g)) (bare m))
closes-bare g m = verdicts (group-step (map rule_fields g) m) ∙ ap (λ ls. verdict (group_step ls (bare m))) (group-fields g)

pub erases : Erases inp bare_inp (λ l. l.body) bare
unfolding inp bare_inp
erases = record { sorts = λ l. refl; stores = stores-bare; closings = closes-bare; finishes = bare-resolved }

-- records are alike where they are the same but for places
abbrev pub Like : Network → Network → Type 0
Like m q = bare m ≡ bare q

pub alike : Alike inp inp SameBody Like
alike = erases-alike inp bare_inp (λ l. l.body) bare erases
