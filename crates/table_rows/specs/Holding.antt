-- The two tables, and the counts, hold a network. Assumes nothing.
use Rattle.scope.specs.declared.Reason.{Reason}
use Rattle.std.specs.Prelude.{ℕ, suc, ◌+◌, ◌*◌, ◌≤◌, ◌<◌, ◌≡◌, List, [], ◌∷◌, Bool, true, false, length, get_or, Float, Err, None, Ok, Option, Result, Some}
use Rattle.leaf_letters.specs.Words.{same}
use Rattle.leaf_fields.specs.Fields.{Name, part}
pub use Rattle.leaf_fields.specs.Fields.{opt_in, MayFit}
use Rattle.scope.specs.Records.{Network, Node, NodeKind, junction, reservoir, tank, Link, LinkKind, pipe, pump, valve, Point, Multiplier, Demand, Rule, Clause, counts_of, no_name, no_demand}
use Rattle.scope.specs.Values.{Read, good, bad}
use Rattle.scope.specs.Sections.{room_nodes, room_links, room_curves, room_points, room_patterns, room_multipliers, room_demands, room_rules, room_clauses}
use Rattle.scope.specs.Layout.{id_length, id_key, room_times, demand_slots_long}
use Rattle.scope.specs.Tables.{key_of, slots, demand_slot, blocks, word_blocks, number_blocks}
use Rattle.scope.specs.declared.Counts.{Counts}

-- ---- names
-- the letters of a name, one at least, stand in the text at its place
pub record Sits (text : List ℕ) (n : Name) : Type 0 where
  pub there : part n.at (n.at + length n.letters) text ≡ n.letters
  pub inside : n.at + length n.letters ≤ length text
  pub filled : 0 < length n.letters

-- a name that may be missing
abbrev pub SitsOr : List ℕ → Option Name → Type 0
SitsOr text None = Unit
SitsOr text (Some n) = Sits text n

-- ---- what is known of the records of a network
abbrev pub Each : {R : Type 0} → (R → Type 0) → List R → Type 0
Each Fine [] = Unit
Each Fine (r ∷ rs) = Fine r × Each Fine rs

-- of the records of one kind: there is room for them, and their names that are looked up, or looked for elsewhere, stand in the text
pub record Part {R : Type 0} (Fine : R → Type 0) (room : ℕ) (rs : List R) : Type 0 where
  pub bound : length rs ≤ room
  pub fine : Each Fine rs

abbrev pub pattern_in : NodeKind → Option Name
pattern_in (junction j) = None
pattern_in (reservoir r) = r.pattern
pattern_in (tank t) = None

abbrev pub NodeFine : List ℕ → Node → Type 0
NodeFine text n = Sits text n.id × SitsOr text (pattern_in n.kind)

abbrev pub LinkFine : List ℕ → Link → Type 0
LinkFine text l = Sits text l.id

abbrev pub PointFine : Point → Type 0
PointFine p = Unit

abbrev pub MultiplierFine : Multiplier → Type 0
MultiplierFine x = Unit

abbrev pub DemandFine : List ℕ → Demand → Type 0
DemandFine text d = SitsOr text d.pattern

abbrev pub RuleFine : List ℕ → Rule → Type 0
RuleFine text r = Sits text r.id

abbrev pub ClauseFine : Clause → Type 0
ClauseFine c = Unit

-- among n nodes and their demands: a demand of a junction's own line is the first in its slot, and no slot is taken for a node that is not there
pub record Owned (n : ℕ) (ds : List Demand) : Type 0 where
  pub first : (k : ℕ) → k < length ds → (get_or ds k no_demand).own ≡ true → get_or (slots demand_slot demand_slots_long ds) (demand_slot (get_or ds k no_demand)) 0 ≡ suc k
  pub beyond : (h : ℕ) → n ≤ h → get_or (slots demand_slot demand_slots_long ds) h 0 ≡ 0

pub record Known (text : List ℕ) (m : Network) : Type 0 where
  pub nodes : Part (NodeFine text) room_nodes m.nodes
  pub links : Part (LinkFine text) room_links m.links
  pub curves : Part (Sits text) room_curves m.curves
  pub points : Part PointFine room_points m.points
  pub patterns : Part (Sits text) room_patterns m.patterns
  pub multipliers : Part MultiplierFine room_multipliers m.multipliers
  pub demands : Part (DemandFine text) room_demands m.demands
  pub times : length m.times ≡ room_times
  pub rules : Part (RuleFine text) room_rules m.rules
  pub clauses : Part ClauseFine room_clauses m.clauses
  pub owned : Owned (length m.nodes) m.demands

-- ---- what the tables hold
pub record Words (text : List ℕ) (m : Network) (w : List ℕ) : Type 0 where
  pub exact : w ≡ blocks (word_blocks m)
  pub known : Known text m

pub record Numbers (m : Network) (f : List Float) : Type 0 where
  pub exact : f ≡ blocks (number_blocks m)

pub record Holds (text : List ℕ) (m : Network) (s : Counts) (w : List ℕ) (f : List Float) : Type 0 where
  pub counts : s ≡ counts_of m
  pub words : Words text m w
  pub numbers : Numbers m f

-- some network is held
pub record Sound (text : List ℕ) (s : Counts) (w : List ℕ) (f : List Float) : Type 0 where
  pub m : Network
  pub holds : Holds text m s w f

-- ---- what a line or a group does: the answer, and what the tables hold after it. Where it is refused they are as they were.
abbrev pub After : List ℕ → Read Network → Result Counts Reason → List ℕ → List Float → List ℕ → List Float → Type 0
After text (good m) r w f w' f' = (r ≡ Ok (counts_of m)) × Holds text m (counts_of m) w' f'
After text (bad n) r w f w' f' = (r ≡ Err n) × (w' ≡ w) × (f' ≡ f)

-- ---- rows of names in the words: row i is at base + i * stride, and starts with the place, the length and the key of the i-th name
pub record Row (text w : List ℕ) (at : ℕ) (n : Name) : Type 0 where
  pub room : at + id_key < length w
  pub place : get_or w at 0 ≡ n.at
  pub long : get_or w (at + id_length) 0 ≡ length n.letters
  pub key : get_or w (at + id_key) 0 ≡ key_of n.letters
  pub sits : Sits text n

abbrev pub Rows : List ℕ → List ℕ → ℕ → ℕ → List Name → Type 0
Rows text w base stride ns = (i : ℕ) → i < length ns → Row text w (base + i * stride) (get_or ns i no_name)

pub record SomeRow (text w : List ℕ) (at : ℕ) : Type 0 where
  pub name : Name
  pub row : Row text w at name

pub record SomeRows (text w : List ℕ) (base stride count : ℕ) : Type 0 where
  pub names : List Name
  pub long : count ≡ length names
  pub rows : Rows text w base stride names

-- ---- where a walk may start
-- the rows before number b have other names
abbrev pub OtherNames : List ℕ → List ℕ → ℕ → ℕ → List ℕ → ℕ → Type 0
OtherNames text w base stride name b = (j : ℕ) → j < b → (n : Name) → Row text w (base + j * stride) n → same n.letters name ≡ false

-- a slot that holds v is no slot of a row before number b: a row's slot holds its place plus one, or an earlier row's
abbrev pub NotInSlot : ℕ → ℕ → Type 0
NotInSlot v b = (j : ℕ) → j < b → 0 < v → v ≤ suc j → ⊥

-- where it is a slot of one of `count` rows, the first of them is number b
abbrev pub FirstInSlot : ℕ → ℕ → ℕ → Type 0
FirstInSlot v count b = 0 < v → v ≤ count → suc b ≡ v

-- ---- small things
-- a place that was found is below n
abbrev pub Below : ℕ → Option ℕ → Type 0
Below n (Some i) = i < n
Below n None = Unit

abbrev pub is_junction : NodeKind → Bool
is_junction (junction j) = true
is_junction (reservoir r) = false
is_junction (tank t) = false

-- the word of a node's and of a link's kind
abbrev pub kind_no : NodeKind → ℕ
kind_no (junction j) = 1
kind_no (reservoir r) = 2
kind_no (tank t) = 3

abbrev pub link_kind_no : LinkKind → ℕ
link_kind_no (pipe p) = 1
link_kind_no (pump p) = 2
link_kind_no (valve v) = 3
