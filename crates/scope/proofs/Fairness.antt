-- No refusal has the number 0, and a survey without refusals is one that counts none. Assumes nothing.
use Prim.Native.Nat.{ℕ, ◌≤◌}
use native.Mathlib.Omega.{arith}
use mathlib.Core.Path.{◌≡◌, refl, ap, sym, ◌∙◌}
use mathlib.Core.Bool.{false, false≢true}
use mathlib.Core.List.{List, [], ◌∷◌, map}
use Rattle.leaf_fields.specs.Fields.{Name}
use Rattle.scope_lines.specs.Reader as L
use Rattle.scope_lines.specs.Reader.{Mark, Class, blank, header, passed, taken, refused, rule_taken, rule_refused, rule_open, code, tally, count, struck, Piece, stopped}
use Rattle.scope_lines.specs.Text.{Line, Each, nothing, each, lines_of}
use Rattle.scope_lines.specs.Tables.{code_of}
use Rattle.scope_lines.specs.Readings.{NoneStruck, Fair, StoppedAt, stop_line, stop_group, stop_end}
use Rattle.scope_lines.proofs.Readings.{stopped-at}
use Rattle.scope.specs.declared.Section.{Section}
use Rattle.scope.specs.declared.Section.TheVariants.{Junctions, Reservoirs, Tanks, Pipes, Pumps, Valves, Curves, Patterns, Demands, Emitters, Coordinates, Times, Rules, Passed}
use Rattle.scope.specs.declared.Reason.{Reason}
use Rattle.scope.specs.declared.Reason.TheVariants.{Missing, Malformed, Used, NotFound, WrongKind, XFalls, UnknownWord, NoCondition, NoAction, NoId}
use Rattle.scope.specs.declared.Reason.TheVariants.{TooLong, HighByte, BeyondReach, NoRoom, SmallTable}
use Rattle.scope.specs.Answers.{reason_no}
use Rattle.scope.specs.Records.{Network}
use Rattle.scope.specs.Values.{Read, good, bad}
use Rattle.scope.specs.Nodes.{junction_step, reservoir_step, tank_step, emitter_step, coordinates_step}
use Rattle.scope.specs.Links.{pipe_step, pump_step, valve_step}
use Rattle.scope.specs.Series.{curve_step, pattern_step, demand_step}
use Rattle.scope.specs.Times.{times_step}
use Rattle.scope.specs.Rules.{group_step}
use Rattle.scope.specs.Lines.{verdict, step_of, section_fields, rule_fields, inp}
use Rattle.scope.specs.Reading.{strict_of, at_start}

-- ---- reasons
pub reason-some : (r : Reason) → reason_no r ≡ 0 → ⊥
reason-some Missing e = omega arith
reason-some Malformed e = omega arith
reason-some Used e = omega arith
reason-some NotFound e = omega arith
reason-some WrongKind e = omega arith
reason-some XFalls e = omega arith
reason-some UnknownWord e = omega arith
reason-some NoCondition e = omega arith
reason-some NoAction e = omega arith
reason-some NoId e = omega arith
reason-some TooLong e = omega arith
reason-some HighByte e = omega arith
reason-some BeyondReach e = omega arith
reason-some NoRoom e = omega arith
reason-some SmallTable e = omega arith

abbrev number_in : L.Verdict Network → ℕ
number_in (L.good m) = 1
number_in (L.bad n) = n

verdict-fair : (r : Read Network) (n : ℕ) → verdict r ≡ L.bad n → n ≡ 0 → ⊥
verdict-fair (good m) n e z = let k : ◌≡◌ {A = ℕ} 1 n = ap number_in e in omega arith
verdict-fair (bad r) n e z = reason-some r (ap number_in e ∙ z)

abbrev verdict_in : L.Stored Network → L.Verdict Network
verdict_in L.over = L.bad 1
verdict_in (L.judged v) = v

over-fair : (n : ℕ) → ◌≡◌ {A = L.Stored Network} L.over (L.judged (L.bad n)) → n ≡ 0 → ⊥
over-fair n e z = let k : ◌≡◌ {A = ℕ} 1 n = ap (λ s. number_in (verdict_in s)) e in omega arith

step-fair : (s : Section) (fs : List Name) (m : Network) (n : ℕ) → step_of s fs m ≡ L.judged (L.bad n) → n ≡ 0 → ⊥
unfolding step_of
step-fair Junctions fs m n e = verdict-fair (junction_step fs m) n (ap verdict_in e)
step-fair Reservoirs fs m n e = verdict-fair (reservoir_step fs m) n (ap verdict_in e)
step-fair Tanks fs m n e = verdict-fair (tank_step fs m) n (ap verdict_in e)
step-fair Pipes fs m n e = verdict-fair (pipe_step fs m) n (ap verdict_in e)
step-fair Pumps fs m n e = verdict-fair (pump_step fs m) n (ap verdict_in e)
step-fair Valves fs m n e = verdict-fair (valve_step fs m) n (ap verdict_in e)
step-fair Curves fs m n e = verdict-fair (curve_step fs m) n (ap verdict_in e)
step-fair Patterns fs m n e = verdict-fair (pattern_step fs m) n (ap verdict_in e)
step-fair Demands fs m n e = verdict-fair (demand_step fs m) n (ap verdict_in e)
step-fair Emitters fs m n e = verdict-fair (emitter_step fs m) n (ap verdict_in e)
step-fair Coordinates fs m n e = verdict-fair (coordinates_step fs m) n (ap verdict_in e)
step-fair Times fs m n e = verdict-fair (times_step fs m) n (ap verdict_in e)
step-fair Rules fs m n e = over-fair n e
step-fair Passed fs m n e = over-fair n e

pub fair : Fair inp
unfolding inp
fair = record { lines-fair = λ s l m n. step-fair s (section_fields l) m n; groups-fair = λ g m n. verdict-fair (group_step (map rule_fields g) m) n }

-- a strict reading that stops says why
stop-fair : (ls : List Line) (n : ℕ) (p : Piece Line) (m : Network) → StoppedAt inp false at_start ls n p m → n ≡ 0 → ⊥
stop-fair ls n p m (stop_line pre l post e a w d q) = fair.lines-fair _ l _ n q
stop-fair ls n p m (stop_group pre l post e a w d q) = fair.groups-fair _ _ n q
stop-fair ls n p m (stop_end a w d q) = fair.groups-fair _ _ n q

pub stopped-fair : (t : List ℕ) (n : ℕ) (p : Piece Line) (m : Network) → strict_of t ≡ stopped n p m → n ≡ 0 → ⊥
unfolding strict_of
stopped-fair t n p m e = stop-fair (lines_of t) n p m (stopped-at inp false (lines_of t) at_start n p m e)

-- ---- a survey without refusals
kept-none : (c : Class) → struck c ≡ false → (tally 5 c ≡ 0) × (tally 7 c ≡ 0)
unfolding struck tally code
kept-none blank e = (refl, refl)
kept-none header e = (refl, refl)
kept-none passed e = (refl, refl)
kept-none taken e = (refl, refl)
kept-none refused e = absurd (false≢true (sym e))
kept-none rule_taken e = (refl, refl)
kept-none rule_refused e = absurd (false≢true (sym e))
kept-none rule_open e = (refl, refl)

none_kept : (c : Class) → tally 5 c ≡ 0 → tally 7 c ≡ 0 → struck c ≡ false
unfolding struck tally code
none_kept blank e f = refl
none_kept header e f = refl
none_kept passed e f = refl
none_kept taken e f = refl
none_kept refused e f = absurd (omega arith)
none_kept rule_taken e f = refl
none_kept rule_refused e f = absurd (omega arith)
none_kept rule_open e f = refl

pub none-counted : {ms : List Mark} → NoneStruck ms → (count 5 ms ≡ 0) × (count 7 ms ≡ 0)
unfolding count
none-counted nothing = (refl, refl)
none-counted (each {x} {xs} u us) =
    let (a, b) = kept-none x.class u in
    let (c, d) = none-counted us in
    (omega arith, omega arith)

pub counted_none : (ms : List Mark) → count 5 ms ≡ 0 → count 7 ms ≡ 0 → NoneStruck ms
unfolding count
counted_none [] e f = nothing
counted_none (m ∷ ms) e f = each (none_kept m.class (omega arith) (omega arith)) (counted_none ms (omega arith) (omega arith))

-- ---- classes are numbered from 1 to 8
pub numbered : (c : Class) → (1 ≤ code c) × (code c ≤ 8)
unfolding code
numbered blank = (omega arith, omega arith)
numbered header = (omega arith, omega arith)
numbered passed = (omega arith, omega arith)
numbered taken = (omega arith, omega arith)
numbered refused = (omega arith, omega arith)
numbered rule_taken = (omega arith, omega arith)
numbered rule_refused = (omega arith, omega arith)
numbered rule_open = (omega arith, omega arith)

pub all-numbered : (ms : List Mark) → Each (λ k. (1 ≤ k) × (k ≤ 8)) (map code_of ms)
all-numbered [] = nothing
all-numbered (m ∷ ms) = each (numbered m.class) (all-numbered ms)
