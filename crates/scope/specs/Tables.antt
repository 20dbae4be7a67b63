-- Document 01, "Room", and docs/LAYOUT.md: what the two lent tables hold. Each is cut into regions; a region holds the records of one kind, each with the same number of
-- places, and then zeros. The counts stand last. Assumes nothing.
use Rattle.std.specs.Prelude.{ℕ, zero, suc, ◌+◌, ◌-◌, ◌*◌, ◌%◌, Bool, true, false, List, [], ◌∷◌, ◌++◌, length, take, get_or, set, replicate, Float, None, Option, Some}
use Rattle.leaf_fields.specs.Fields.{Name}
use Rattle.scope.specs.declared.PipeStatus.{PipeStatus}
use Rattle.scope.specs.declared.PipeStatus.TheVariants as pipeIs
use Rattle.scope.specs.declared.ValveType.{ValveType}
use Rattle.scope.specs.declared.ValveType.TheVariants.{Gpv, Tcv, Fcv, Prv, Psv, Pbv, Pcv}
use Rattle.scope.specs.declared.LinkStatus.{LinkStatus}
use Rattle.scope.specs.declared.LinkStatus.TheVariants.{Open, Closed, Active}
use Rattle.scope.specs.declared.Target.{Target}
use Rattle.scope.specs.declared.Target.TheVariants as target
use Rattle.scope.specs.declared.SystemAttribute.TheVariants as system
use Rattle.scope.specs.declared.NodeAttribute.TheVariants as node
use Rattle.scope.specs.declared.TankAttribute.TheVariants as tankHas
use Rattle.scope.specs.declared.LinkAttribute.TheVariants as link
use Rattle.scope.specs.declared.Comparison.{Comparison}
use Rattle.scope.specs.declared.Comparison.TheVariants.{Equal, NotEqual, Above, Below, AtLeast, AtMost}
use Rattle.scope.specs.declared.Operator.{Operator}
use Rattle.scope.specs.declared.Operator.TheVariants.{And, Or}
use Rattle.scope.specs.declared.Value.{Value}
use Rattle.scope.specs.declared.Value.TheVariants.{Number, Status}
use Rattle.scope.specs.declared.Counts.{Counts}
use Rattle.scope.specs.Records.{Network, Node, NodeKind, junction, reservoir, tank, Place, Link, LinkKind, pipe, pump, valve, Point, Multiplier, Demand}
use Rattle.scope.specs.Records.{Rule, Clause, condition, action, zero_f, counts_of}
use Rattle.scope.specs.Layout.{room_slots, nodes_long, links_long, curves_long, points_long, patterns_long, multipliers_long, demands_long, times_long, rules_long}
use Rattle.scope.specs.Layout.{clauses_long, node_slots_long, link_slots_long, curve_slots_long, pattern_slots_long, demand_slots_long, node_numbers_long}
use Rattle.scope.specs.Layout.{link_numbers_long, point_numbers_long, multiplier_numbers_long, demand_numbers_long, clause_numbers_long}

-- ---- regions
unfoldable pub flat : {A R : Type 0} → (R → List A) → List R → List A
flat enc [] = []
flat enc (r ∷ rs) = enc r ++ flat enc rs

-- a region of `n` places that holds the records `rs`, and `z` after them
unfoldable pub region : {A R : Type 0} → (R → List A) → A → ℕ → List R → List A
region enc z n rs = flat enc rs ++ replicate (n - length (flat enc rs)) z

-- regions one after another
abbrev pub blocks : {A : Type 0} → List (List A) → List A
blocks bs = flat (λ b. b) bs

-- ---- names: place, length, and a key made of the first eight letters, by which most names are told apart
unfoldable pub packed : ℕ → List ℕ → ℕ
packed k [] = k
packed k (b ∷ bs) = packed (k * 256 + b) bs

abbrev pub key_of : List ℕ → ℕ
key_of l = packed 0 (take 8 l)

abbrev pub id_words : Name → List ℕ
id_words n = n.at ∷ length n.letters ∷ key_of n.letters ∷ []

-- a name that is not looked up by its table, and may be missing: place and length, or 0 and 0 (a field is never empty)
abbrev pub name_words : Option Name → List ℕ
name_words None = 0 ∷ 0 ∷ []
name_words (Some n) = n.at ∷ length n.letters ∷ []

-- ---- small values
abbrev pub flag : Bool → ℕ
flag false = 0
flag true = 1

-- none is 0 and an index is itself plus one
abbrev pub index_no : Option ℕ → ℕ
index_no None = 0
index_no (Some i) = suc i

-- a number that may be any u64 keeps a flag of its own
abbrev pub count_words : Option ℕ → List ℕ
count_words None = 0 ∷ 0 ∷ []
count_words (Some n) = 1 ∷ n ∷ []

abbrev pub pipe_status_no : PipeStatus → ℕ
pipe_status_no pipeIs.Open = 1
pipe_status_no pipeIs.Closed = 2
pipe_status_no pipeIs.CheckValve = 3

abbrev pub status_no : LinkStatus → ℕ
status_no Open = 1
status_no Closed = 2
status_no Active = 3

abbrev pub type_no : ValveType → ℕ
type_no Gpv = 1
type_no Tcv = 2
type_no Fcv = 3
type_no Prv = 4
type_no Psv = 5
type_no Pbv = 6
type_no Pcv = 7

abbrev pub target_no : Target → ℕ
target_no (target.System system.Demand) = 1
target_no (target.System system.Time) = 2
target_no (target.System system.Clocktime) = 3
target_no (target.Node node.Demand) = 4
target_no (target.Node node.Head) = 5
target_no (target.Node node.Pressure) = 6
target_no (target.Tank tankHas.Level) = 7
target_no (target.Tank tankHas.Filltime) = 8
target_no (target.Tank tankHas.Draintime) = 9
target_no (target.Link link.Flow) = 10
target_no (target.Link link.Status) = 11
target_no (target.Link link.Setting) = 12

abbrev pub comparison_no : Comparison → ℕ
comparison_no Equal = 1
comparison_no NotEqual = 2
comparison_no Above = 3
comparison_no Below = 4
comparison_no AtLeast = 5
comparison_no AtMost = 6

abbrev pub operator_no : Operator → ℕ
operator_no And = 1
operator_no Or = 2

-- a value's status word, 0 where it is a number, and its number, 0 where it is a status word
abbrev pub value_no : Value → ℕ
value_no (Number x) = 0
value_no (Status s) = status_no s

abbrev pub value_number : Value → Float
value_number (Number x) = x
value_number (Status s) = zero_f

-- ---- nodes: 8 words and 8 numbers
-- the kind; a reservoir's pattern or a tank's curve; disabled, the pattern's index, or overflow
abbrev pub kind_words : NodeKind → List ℕ
kind_words (junction j) = 1 ∷ 0 ∷ 0 ∷ flag j.disabled ∷ []
kind_words (reservoir r) = 2 ∷ name_words r.pattern ++ (index_no r.index ∷ [])
kind_words (tank t) = 3 ∷ name_words t.curve ++ (flag t.overflow ∷ [])

abbrev pub kind_numbers : NodeKind → List Float
kind_numbers (junction j) = j.elevation ∷ j.emitter ∷ zero_f ∷ zero_f ∷ zero_f ∷ zero_f ∷ []
kind_numbers (reservoir r) = r.elevation ∷ zero_f ∷ zero_f ∷ zero_f ∷ zero_f ∷ zero_f ∷ []
kind_numbers (tank t) = t.elevation ∷ t.initial ∷ t.minimum ∷ t.maximum ∷ t.diameter ∷ t.volume ∷ []

abbrev pub placed : Option Place → ℕ
placed None = 0
placed (Some p) = 1

abbrev pub place_numbers : Option Place → List Float
place_numbers None = zero_f ∷ zero_f ∷ []
place_numbers (Some p) = p.x ∷ p.y ∷ []

abbrev pub node_words : Node → List ℕ
node_words n = id_words n.id ++ kind_words n.kind ++ (placed n.place ∷ [])

abbrev pub node_numbers : Node → List Float
node_numbers n = kind_numbers n.kind ++ place_numbers n.place

-- ---- links: 9 words and 4 numbers
-- the kind; a pipe's status or a valve's type; a pump's or a valve's curve
abbrev pub link_kind_words : LinkKind → List ℕ
link_kind_words (pipe p) = 1 ∷ pipe_status_no p.status ∷ 0 ∷ 0 ∷ []
link_kind_words (pump p) = 2 ∷ 0 ∷ name_words p.head
link_kind_words (valve v) = 3 ∷ type_no v.type ∷ name_words v.curve

abbrev pub link_words : Link → List ℕ
link_words l = id_words l.id ++ (l.start ∷ l.end ∷ link_kind_words l.kind)

abbrev pub link_numbers_of : LinkKind → List Float
link_numbers_of (pipe p) = p.long ∷ p.diameter ∷ p.roughness ∷ p.minor ∷ []
link_numbers_of (pump p) = p.speed ∷ p.power ∷ zero_f ∷ zero_f ∷ []
link_numbers_of (valve v) = v.setting ∷ v.diameter ∷ zero_f ∷ v.minor ∷ []

abbrev pub link_numbers : Link → List Float
link_numbers l = link_numbers_of l.kind

-- ---- curves and patterns: 3 words; points: a word and 2 numbers; multipliers: a word and a number; demands: 5 words and a number
abbrev pub point_words : Point → List ℕ
point_words p = p.curve ∷ []

abbrev pub point_numbers : Point → List Float
point_numbers p = p.x ∷ p.y ∷ []

abbrev pub multiplier_words : Multiplier → List ℕ
multiplier_words p = p.pattern ∷ []

abbrev pub multiplier_numbers : Multiplier → List Float
multiplier_numbers p = p.value ∷ []

abbrev pub demand_words : Demand → List ℕ
demand_words d = d.node ∷ flag d.own ∷ name_words d.pattern ++ (index_no d.index ∷ [])

abbrev pub demand_numbers : Demand → List Float
demand_numbers d = d.base ∷ []

-- ---- rules: 7 words; clauses: 7 words and a number
abbrev pub rule_words : Rule → List ℕ
rule_words r = id_words r.id ++ (r.first ∷ r.count ∷ count_words r.priority)

abbrev pub clause_words : Clause → List ℕ
clause_words (condition c) = 1 ∷ operator_no c.operator ∷ target_no c.target ∷ comparison_no c.comparison ∷ value_no c.value ∷ name_words c.name
clause_words (action a) = 2 ∷ flag a.otherwise ∷ a.link ∷ 0 ∷ value_no a.value ∷ name_words (Some a.name)

abbrev pub clause_numbers : Clause → List Float
clause_numbers (condition c) = value_number c.value ∷ []
clause_numbers (action a) = value_number a.value ∷ []

-- ---- where a lookup starts: each record has a slot, and a slot holds the place plus one of the first record that has it, or 0
abbrev pub mark_by : ℕ → List ℕ → ℕ → ℕ → List ℕ
mark_by zero ss at v = set ss at v
mark_by (suc x) ss at v = ss

-- a slot that is taken stays
abbrev pub marked : List ℕ → ℕ → ℕ → List ℕ
marked ss at v = mark_by (get_or ss at 0) ss at v

unfoldable pub slots_from : {R : Type 0} → (R → ℕ) → ℕ → List R → List ℕ → List ℕ
slots_from slot i [] ss = ss
slots_from slot i (r ∷ rs) ss = slots_from slot (suc i) rs (marked ss (slot r) (suc i))

abbrev pub slots : {R : Type 0} → (R → ℕ) → ℕ → List R → List ℕ
slots slot n rs = slots_from slot 0 rs (replicate n 0)

-- the slot of a node, a link, a curve or a pattern is by the key of its name, a demand's by its junction; rules have none
abbrev pub slot_of : ℕ → ℕ
slot_of key = key % room_slots

abbrev pub id_slot : Name → ℕ
id_slot n = slot_of (key_of n.letters)

abbrev pub node_slot : Node → ℕ
node_slot n = id_slot n.id

abbrev pub link_slot : Link → ℕ
link_slot l = id_slot l.id

abbrev pub demand_slot : Demand → ℕ
demand_slot d = d.node % demand_slots_long

-- ---- the regions, and the two tables
unfoldable pub word_blocks : Network → List (List ℕ)
word_blocks m =
    region node_words 0 nodes_long m.nodes
    ∷ region link_words 0 links_long m.links
    ∷ region id_words 0 curves_long m.curves
    ∷ region point_words 0 points_long m.points
    ∷ region id_words 0 patterns_long m.patterns
    ∷ region multiplier_words 0 multipliers_long m.multipliers
    ∷ region demand_words 0 demands_long m.demands
    ∷ region count_words 0 times_long m.times
    ∷ region rule_words 0 rules_long m.rules
    ∷ region clause_words 0 clauses_long m.clauses
    ∷ slots node_slot node_slots_long m.nodes
    ∷ slots link_slot link_slots_long m.links
    ∷ slots id_slot curve_slots_long m.curves
    ∷ slots id_slot pattern_slots_long m.patterns
    ∷ slots demand_slot demand_slots_long m.demands
    ∷ []

unfoldable pub number_blocks : Network → List (List Float)
number_blocks m =
    region node_numbers zero_f node_numbers_long m.nodes
    ∷ region link_numbers zero_f link_numbers_long m.links
    ∷ region point_numbers zero_f point_numbers_long m.points
    ∷ region multiplier_numbers zero_f multiplier_numbers_long m.multipliers
    ∷ region demand_numbers zero_f demand_numbers_long m.demands
    ∷ region clause_numbers zero_f clause_numbers_long m.clauses
    ∷ []

abbrev pub tally_words : Counts → List ℕ
tally_words c =
    c.nodes ∷ c.links ∷ c.curves ∷ c.points ∷ c.patterns ∷ c.multipliers ∷ c.demands ∷ c.rules ∷ c.clauses ∷ []

unfoldable pub words_of : Network → List ℕ
words_of m = blocks (word_blocks m) ++ tally_words (counts_of m)

unfoldable pub numbers_of : Network → List Float
numbers_of m = blocks (number_blocks m)
