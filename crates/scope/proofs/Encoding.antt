-- The two tables lose nothing of a network whose names are written in the text. Assumes nothing.
use Rattle.std.specs.Prelude.{None, Option, Some}
use Prim.Native.Nat.{ℕ, ◌-◌}
use native.Mathlib.Omega.{arith}
use mathlib.Core.Path.{◌≡◌, refl, ap, ap₂, sym, ◌∙◌}
use mathlib.Core.Bool.{Bool, true, false}
use mathlib.Core.List.{List, [], ◌∷◌, ◌++◌}
use lib.ListN.{length, take, drop, get_or, replicate, length-append, length-replicate}
use lib.Ieee.{Float}
use Rattle.leaf_fields.specs.Fields.{Name}
use Rattle.scope_lines.specs.Text.{Each, nothing, each}
use Rattle.scope.specs.declared.PipeStatus.{PipeStatus}
use Rattle.scope.specs.declared.PipeStatus.TheVariants as pipeIs
use Rattle.scope.specs.declared.ValveType.{ValveType}
use Rattle.scope.specs.declared.ValveType.TheVariants.{Gpv, Tcv, Fcv, Prv, Psv, Pbv, Pcv}
use Rattle.scope.specs.declared.LinkStatus.{LinkStatus}
use Rattle.scope.specs.declared.LinkStatus.TheVariants.{Open, Closed, Active}
use Rattle.scope.specs.declared.Target.{Target}
use Rattle.scope.specs.declared.Target.TheVariants as target
use Rattle.scope.specs.declared.SystemAttribute.TheVariants as system
use Rattle.scope.specs.declared.NodeAttribute.TheVariants as node
use Rattle.scope.specs.declared.TankAttribute.TheVariants as tankHas
use Rattle.scope.specs.declared.LinkAttribute.TheVariants as link
use Rattle.scope.specs.declared.Comparison.{Comparison}
use Rattle.scope.specs.declared.Comparison.TheVariants.{Equal, NotEqual, Above, Below, AtLeast, AtMost}
use Rattle.scope.specs.declared.Operator.{Operator}
use Rattle.scope.specs.declared.Operator.TheVariants.{And, Or}
use Rattle.scope.specs.declared.Value.{Value}
use Rattle.scope.specs.declared.Value.TheVariants.{Number, Status}
use Rattle.scope.specs.Records.{Network, Node, NodeKind, junction, reservoir, tank, Place, Link, LinkKind, pipe, pump, valve, Point, Multiplier, Demand}
use Rattle.scope.specs.Records.{Rule, Clause, condition, action, zero_f, counts_of}
use Rattle.scope.specs.Tables.{flat, region, blocks, id_words, name_words, flag, index_no, count_words, pipe_status_no, status_no, type_no, target_no, comparison_no}
use Rattle.scope.specs.Tables.{operator_no, value_no, value_number, kind_words, kind_numbers, placed, place_numbers, node_words, node_numbers, link_kind_words}
use Rattle.scope.specs.Tables.{link_words, link_numbers_of, link_numbers, point_words, point_numbers, multiplier_words, multiplier_numbers, demand_words}
use Rattle.scope.specs.Tables.{demand_numbers, rule_words, clause_words, clause_numbers, word_blocks, number_blocks, tally_words, words_of, numbers_of}
use Rattle.scope.specs.Layout.{clause_numbers_long, clause_numbers_width, clauses_width, clauses_long, curves_long, demand_numbers_long, demand_numbers_width}
use Rattle.scope.specs.Layout.{demands_width, demands_long, id_width, link_numbers_long, link_numbers_width, links_width, links_long, multiplier_numbers_long}
use Rattle.scope.specs.Layout.{multiplier_numbers_width, multipliers_width, multipliers_long, node_numbers_long, node_numbers_width, nodes_width, nodes_long}
use Rattle.scope.specs.Layout.{patterns_long, point_numbers_long, point_numbers_width, points_width, points_long, rules_width, rules_long, times_width, times_long}
use Rattle.scope.specs.Layout.{curves_width, patterns_width}
use Rattle.scope.proofs.Widths.{name-long, count_long, kind-long, kind-numbers-long, node-long, node-numbers-long, link-long, link-numbers-long}
use Rattle.scope.proofs.Widths.{demand-long, rule-long, clause-long, clause-numbers-long}
use Rattle.scope.specs.Written.{Sits, SitsOr, NodeKindWritten, NodeWritten, LinkKindWritten, LinkWritten, ClauseWritten, Written}

-- ---- lists
-- two numbers of lists that are equal, and two doubles
nth : (i : ℕ) {a b : List ℕ} → a ≡ b → get_or a i 0 ≡ get_or b i 0
nth i e = ap (λ l. get_or l i 0) e

nth_f : (i : ℕ) {a b : List Float} → a ≡ b → get_or a i zero_f ≡ get_or b i zero_f
nth_f i e = ap (λ l. get_or l i zero_f) e

append-split : {A : Type 0} (a c : List A) {b d : List A} → length a ≡ length c → a ++ b ≡ c ++ d → (a ≡ c) × (b ≡ d)
append-split [] [] l e = (refl, e)
append-split [] (y ∷ c) l e = absurd (omega arith)
append-split (x ∷ a) [] l e = absurd (omega arith)
append-split (x ∷ a) (y ∷ c) l e =
    let t = append-split a c (omega arith) (ap (drop 1) e) in
    (ap₂ ◌∷◌ (ap (λ xs. get_or xs 0 x) e) t.0, t.1)

-- ..where what follows is as long
append-last : {A : Type 0} (a c b d : List A) → length b ≡ length d → a ++ b ≡ c ++ d → (a ≡ c) × (b ≡ d)
append-last a c b d l e = append-split a c (omega (arith, length-append a b, length-append c d, ap length e)) e

-- ---- regions
flat-none : {A R : Type 0} (rs qs : List R) → length rs ≡ length qs → flat {A = A} (λ r. []) rs ≡ flat (λ r. []) qs
unfolding flat
flat-none [] [] l = refl
flat-none [] (q ∷ qs) l = absurd (omega arith)
flat-none (r ∷ rs) [] l = absurd (omega arith)
flat-none (r ∷ rs) (q ∷ qs) l = flat-none rs qs (omega arith)

module _ {A R : Type 0} (enc : R → List A) (k : ℕ) (long : (r : R) → length (enc r) ≡ k) where
  flat-long : (rs qs : List R) → length rs ≡ length qs → length (flat enc rs) ≡ length (flat enc qs)
  unfolding flat
  flat-long [] [] l = refl
  flat-long [] (q ∷ qs) l = absurd (omega arith)
  flat-long (r ∷ rs) [] l = absurd (omega arith)
  flat-long (r ∷ rs) (q ∷ qs) l =
      omega (arith, length-append (enc r) (flat enc rs), length-append (enc q) (flat enc qs), long r, long q, flat-long rs qs (omega arith))

  -- regions one after another: the first, and what follows
  region-split : (z : A) (n : ℕ) (rs qs : List R) {b d : List A} → length rs ≡ length qs → region enc z n rs ++ b ≡ region enc z n qs ++ d
      → (flat enc rs ≡ flat enc qs) × (b ≡ d)
  unfolding region
  region-split z n rs qs l e =
      let h = flat-long rs qs l in
      let u : ℕ = n - length (flat enc rs) in
      let v : ℕ = n - length (flat enc qs) in
      let w : length (flat enc rs ++ replicate u z) ≡ length (flat enc qs ++ replicate v z) =
      omega (arith, length-append (flat enc rs) (replicate u z), length-append (flat enc qs) (replicate v z), length-replicate u z, length-replicate v z) in
      let (x, y) = append-split _ _ w e in
      ((append-split (flat enc rs) (flat enc qs) h x).0, y)

-- records that `inj` tells apart by their words and their numbers
module _ {R : Type 0} (P : R → Type 0) (ew : R → List ℕ) (en : R → List Float) (kw kn : ℕ) (lw : (r : R) → length (ew r) ≡ kw) (ln : (r : R) → length (en r) ≡ kn)
    (inj : (r q : R) → P r → P q → ew r ≡ ew q → en r ≡ en q → r ≡ q) where
  records-equal : (rs qs : List R) → Each P rs → Each P qs → length rs ≡ length qs → flat ew rs ≡ flat ew qs → flat en rs ≡ flat en qs → rs ≡ qs
  unfolding flat
  records-equal [] [] ps os l w f = refl
  records-equal [] (q ∷ qs) ps os l w f = absurd (omega arith)
  records-equal (r ∷ rs) [] ps os l w f = absurd (omega arith)
  records-equal (r ∷ rs) (q ∷ qs) (each p ps) (each o os) l w f =
      let (a, b) = append-split (ew r) (ew q) (lw r ∙ sym (lw q)) w in
      let (c, d) = append-split (en r) (en q) (ln r ∙ sym (ln q)) f in
      ap₂ ◌∷◌ (inj r q p o a c) (records-equal rs qs ps os (omega arith) b d)

-- ---- small values: `code` numbers the members of xs by their places
by_place : {X : Type 0} (code : X → ℕ) (xs : List X) (d : X) → ((x : X) → get_or xs (code x) d ≡ x) → (x y : X) → code x ≡ code y → x ≡ y
by_place code xs d h x y e = sym (h x) ∙ ap (λ n. get_or xs n d) e ∙ h y

flag-equal : (a b : Bool) → flag a ≡ flag b → a ≡ b
flag-equal = by_place flag (false ∷ true ∷ []) false at
  where
    at : (b : Bool) → get_or (false ∷ true ∷ []) (flag b) false ≡ b
    at false = refl
    at true = refl

pipe-status-equal : (a b : PipeStatus) → pipe_status_no a ≡ pipe_status_no b → a ≡ b
pipe-status-equal = by_place pipe_status_no xs pipeIs.Open at
  where
    xs : List PipeStatus
    xs = pipeIs.Open ∷ pipeIs.Open ∷ pipeIs.Closed ∷ pipeIs.CheckValve ∷ []

    at : (s : PipeStatus) → get_or xs (pipe_status_no s) pipeIs.Open ≡ s
    at pipeIs.Open = refl
    at pipeIs.Closed = refl
    at pipeIs.CheckValve = refl

status-equal : (a b : LinkStatus) → status_no a ≡ status_no b → a ≡ b
status-equal = by_place status_no xs Open at
  where
    xs : List LinkStatus
    xs = Open ∷ Open ∷ Closed ∷ Active ∷ []

    at : (s : LinkStatus) → get_or xs (status_no s) Open ≡ s
    at Open = refl
    at Closed = refl
    at Active = refl

type-equal : (a b : ValveType) → type_no a ≡ type_no b → a ≡ b
type-equal = by_place type_no xs Gpv at
  where
    xs : List ValveType
    xs = Gpv ∷ Gpv ∷ Tcv ∷ Fcv ∷ Prv ∷ Psv ∷ Pbv ∷ Pcv ∷ []

    at : (t : ValveType) → get_or xs (type_no t) Gpv ≡ t
    at Gpv = refl
    at Tcv = refl
    at Fcv = refl
    at Prv = refl
    at Psv = refl
    at Pbv = refl
    at Pcv = refl

operator-equal : (a b : Operator) → operator_no a ≡ operator_no b → a ≡ b
operator-equal = by_place operator_no xs And at
  where
    xs : List Operator
    xs = And ∷ And ∷ Or ∷ []

    at : (o : Operator) → get_or xs (operator_no o) And ≡ o
    at And = refl
    at Or = refl

comparison-equal : (a b : Comparison) → comparison_no a ≡ comparison_no b → a ≡ b
comparison-equal = by_place comparison_no xs Equal at
  where
    xs : List Comparison
    xs = Equal ∷ Equal ∷ NotEqual ∷ Above ∷ Below ∷ AtLeast ∷ AtMost ∷ []

    at : (c : Comparison) → get_or xs (comparison_no c) Equal ≡ c
    at Equal = refl
    at NotEqual = refl
    at Above = refl
    at Below = refl
    at AtLeast = refl
    at AtMost = refl

target-equal : (a b : Target) → target_no a ≡ target_no b → a ≡ b
target-equal = by_place target_no xs (target.System system.Demand) at
  where
    xs : List Target
    xs =
        target.System system.Demand
        ∷ target.System system.Demand
        ∷ target.System system.Time
        ∷ target.System system.Clocktime
        ∷ target.Node node.Demand
        ∷ target.Node node.Head
        ∷ target.Node node.Pressure
        ∷ target.Tank tankHas.Level
        ∷ target.Tank tankHas.Filltime
        ∷ target.Tank tankHas.Draintime
        ∷ target.Link link.Flow
        ∷ target.Link link.Status
        ∷ target.Link link.Setting
        ∷ []

    at : (t : Target) → get_or xs (target_no t) (target.System system.Demand) ≡ t
    at (target.System system.Demand) = refl
    at (target.System system.Time) = refl
    at (target.System system.Clocktime) = refl
    at (target.Node node.Demand) = refl
    at (target.Node node.Head) = refl
    at (target.Node node.Pressure) = refl
    at (target.Tank tankHas.Level) = refl
    at (target.Tank tankHas.Filltime) = refl
    at (target.Tank tankHas.Draintime) = refl
    at (target.Link link.Flow) = refl
    at (target.Link link.Status) = refl
    at (target.Link link.Setting) = refl

index-equal : (a b : Option ℕ) → index_no a ≡ index_no b → a ≡ b
index-equal None None e = refl
index-equal None (Some j) e = absurd (omega arith)
index-equal (Some i) None e = absurd (omega arith)
index-equal (Some i) (Some j) e = let h : i ≡ j = omega arith in ap Some h

count-equal : (a b : Option ℕ) → count_words a ≡ count_words b → a ≡ b
count-equal None None e = refl
count-equal None (Some n) e = absurd (let z : ◌≡◌ {A = ℕ} 0 1 = nth 0 e in omega arith)
count-equal (Some n) None e = absurd (let z : ◌≡◌ {A = ℕ} 1 0 = nth 0 e in omega arith)
count-equal (Some n) (Some k) e = ap Some (nth 1 e)

status-some : (s : LinkStatus) → status_no s ≡ 0 → ⊥
status-some Open e = omega arith
status-some Closed e = omega arith
status-some Active e = omega arith

value-equal : (a b : Value) → value_no a ≡ value_no b → value_number a ≡ value_number b → a ≡ b
value-equal (Number x) (Number y) e f = ap Number f
value-equal (Number x) (Status s) e f = absurd (status-some s (sym e))
value-equal (Status s) (Number y) e f = absurd (status-some s e)
value-equal (Status s) (Status t) e f = ap Status (status-equal s t e)

-- ---- names
module _ (text : List ℕ) where
  name-equal : (n k : Name) → Sits text n → Sits text k → n.at ≡ k.at → length n.letters ≡ length k.letters → n ≡ k
  name-equal n k s t a l =
      let w : n.letters ≡ k.letters = sym s.there ∙ ap₂ (λ j p. take j (drop p text)) l a ∙ t.there in
      λ i. record { at = a i; letters = w i }

  id-equal : (n k : Name) → Sits text n → Sits text k → id_words n ≡ id_words k → n ≡ k
  id-equal n k s t e = name-equal n k s t (nth 0 e) (nth 1 e)

  maybe-equal : (a b : Option Name) → SitsOr text a → SitsOr text b → name_words a ≡ name_words b → a ≡ b
  maybe-equal None None s t e = refl
  maybe-equal None (Some k) s t e = absurd (let z : 0 ≡ length k.letters = nth 1 e in omega (arith, t.some))
  maybe-equal (Some n) None s t e = absurd (let z : length n.letters ≡ 0 = nth 1 e in omega (arith, s.some))
  maybe-equal (Some n) (Some k) s t e = ap Some (name-equal n k s t (nth 0 e) (nth 1 e))

-- a name that may be missing, before other words
name-split : (a b : Option Name) {x y : List ℕ} → name_words a ++ x ≡ name_words b ++ y → (name_words a ≡ name_words b) × (x ≡ y)
name-split a b e = append-split (name_words a) (name_words b) (name-long a ∙ sym (name-long b)) e

-- ---- nodes
place-equal : (a b : Option Place) → placed a ≡ placed b → place_numbers a ≡ place_numbers b → a ≡ b
place-equal None None e f = refl
place-equal None (Some q) e f = absurd (omega arith)
place-equal (Some p) None e f = absurd (omega arith)
place-equal (Some p) (Some q) e f = λ i. Some (record { x = nth_f 0 f i; y = nth_f 1 f i })

differ : {X : Type 0} (a b : ℕ) {x y : List ℕ} → a ∷ x ≡ b ∷ y → (a ≡ b → ⊥) → X
differ a b e n = absurd (n (nth 0 e))

module _ (text : List ℕ) where
  kind-equal : (k l : NodeKind) → NodeKindWritten text k → NodeKindWritten text l → kind_words k ≡ kind_words l → kind_numbers k ≡ kind_numbers l → k ≡ l
  kind-equal (junction a) (junction b) s t w f =
      let d = flag-equal a.disabled b.disabled (nth 3 w) in
      λ i. junction (record { elevation = nth_f 0 f i; emitter = nth_f 1 f i; disabled = d i })
  kind-equal (reservoir a) (reservoir b) s t w f =
      let (u, v) = name-split a.pattern b.pattern (ap (drop 1) w) in
      let p = maybe-equal text a.pattern b.pattern s t u in
      let x = index-equal a.index b.index (nth 0 v) in
      λ i. reservoir (record { elevation = nth_f 0 f i; pattern = p i; index = x i })
  kind-equal (tank a) (tank b) s t w f =
      let (u, v) = name-split a.curve b.curve (ap (drop 1) w) in
      let c = maybe-equal text a.curve b.curve s t u in
      let o = flag-equal a.overflow b.overflow (nth 0 v) in
      λ i. tank (record {
        elevation = nth_f 0 f i;
        initial = nth_f 1 f i;
        minimum = nth_f 2 f i;
        maximum = nth_f 3 f i;
        diameter = nth_f 4 f i;
        volume = nth_f 5 f i;
        curve = c i;
        overflow = o i;
      })
  kind-equal (junction a) (reservoir b) s t w f = differ 1 2 w (λ e. omega arith)
  kind-equal (junction a) (tank b) s t w f = differ 1 3 w (λ e. omega arith)
  kind-equal (reservoir a) (junction b) s t w f = differ 2 1 w (λ e. omega arith)
  kind-equal (reservoir a) (tank b) s t w f = differ 2 3 w (λ e. omega arith)
  kind-equal (tank a) (junction b) s t w f = differ 3 1 w (λ e. omega arith)
  kind-equal (tank a) (reservoir b) s t w f = differ 3 2 w (λ e. omega arith)

  node-equal : (n k : Node) → NodeWritten text n → NodeWritten text k → node_words n ≡ node_words k → node_numbers n ≡ node_numbers k → n ≡ k
  node-equal n k s t w f =
      let (a, r) = append-split (id_words n.id) (id_words k.id) refl w in
      let (b, c) = append-split (kind_words n.kind) (kind_words k.kind) (kind-long n.kind ∙ sym (kind-long k.kind)) r in
      let (d, g) = append-split (kind_numbers n.kind) (kind_numbers k.kind) (kind-numbers-long n.kind ∙ sym (kind-numbers-long k.kind)) f in
      let x = id-equal text n.id k.id s.id t.id a in
      let y = kind-equal n.kind k.kind s.kind t.kind b d in
      let z = place-equal n.place k.place (nth 0 c) g in
      λ i. record { id = x i; kind = y i; place = z i }

-- ---- links
module _ (text : List ℕ) where
  link-kind-equal : (k l : LinkKind) → LinkKindWritten text k → LinkKindWritten text l → link_kind_words k ≡ link_kind_words l → link_numbers_of k ≡ link_numbers_of l → k ≡ l
  link-kind-equal (pipe a) (pipe b) s t w f =
      let x = pipe-status-equal a.status b.status (nth 1 w) in
      λ i. pipe (record { long = nth_f 0 f i; diameter = nth_f 1 f i; roughness = nth_f 2 f i; minor = nth_f 3 f i; status = x i })
  link-kind-equal (pump a) (pump b) s t w f =
      let h = maybe-equal text a.head b.head s t (ap (drop 2) w) in
      λ i. pump (record { speed = nth_f 0 f i; head = h i; power = nth_f 1 f i })
  link-kind-equal (valve a) (valve b) s t w f =
      let x = type-equal a.type b.type (nth 1 w) in
      let c = maybe-equal text a.curve b.curve s t (ap (drop 2) w) in
      λ i. valve (record { type = x i; diameter = nth_f 1 f i; setting = nth_f 0 f i; minor = nth_f 3 f i; curve = c i })
  link-kind-equal (pipe a) (pump b) s t w f = differ 1 2 w (λ e. omega arith)
  link-kind-equal (pipe a) (valve b) s t w f = differ 1 3 w (λ e. omega arith)
  link-kind-equal (pump a) (pipe b) s t w f = differ 2 1 w (λ e. omega arith)
  link-kind-equal (pump a) (valve b) s t w f = differ 2 3 w (λ e. omega arith)
  link-kind-equal (valve a) (pipe b) s t w f = differ 3 1 w (λ e. omega arith)
  link-kind-equal (valve a) (pump b) s t w f = differ 3 2 w (λ e. omega arith)

  link-equal : (l k : Link) → LinkWritten text l → LinkWritten text k → link_words l ≡ link_words k → link_numbers l ≡ link_numbers k → l ≡ k
  link-equal l k s t w f =
      let x = id-equal text l.id k.id s.id t.id (append-split (id_words l.id) (id_words k.id) refl w).0 in
      let y = link-kind-equal l.kind k.kind s.kind t.kind (ap (drop 5) w) f in
      λ i. record { id = x i; start = nth 3 w i; end = nth 4 w i; kind = y i }

-- ---- series
point-equal : (p q : Point) → Unit {0} → Unit {0} → point_words p ≡ point_words q → point_numbers p ≡ point_numbers q → p ≡ q
point-equal p q s t w f = λ i. record { curve = nth 0 w i; x = nth_f 0 f i; y = nth_f 1 f i }

multiplier-equal : (p q : Multiplier) → Unit {0} → Unit {0} → multiplier_words p ≡ multiplier_words q → multiplier_numbers p ≡ multiplier_numbers q → p ≡ q
multiplier-equal p q s t w f = λ i. record { pattern = nth 0 w i; value = nth_f 0 f i }

demand-equal : (text : List ℕ) (d e : Demand) → SitsOr text d.pattern → SitsOr text e.pattern → demand_words d ≡ demand_words e → demand_numbers d ≡ demand_numbers e → d ≡ e
demand-equal text d e s t w f =
    let (u, v) = name-split d.pattern e.pattern (ap (drop 2) w) in
    let o = flag-equal d.own e.own (nth 1 w) in
    let p = maybe-equal text d.pattern e.pattern s t u in
    let x = index-equal d.index e.index (nth 0 v) in
    λ i. record { node = nth 0 w i; own = o i; base = nth_f 0 f i; pattern = p i; index = x i }

-- ---- rules
rule-equal : (text : List ℕ) (r q : Rule) → Sits text r.id → Sits text q.id → rule_words r ≡ rule_words q → r ≡ q
rule-equal text r q s t w =
    let x = id-equal text r.id q.id s t (append-split (id_words r.id) (id_words q.id) refl w).0 in
    let p = count-equal r.priority q.priority (ap (drop 5) w) in
    λ i. record { id = x i; priority = p i; first = nth 3 w i; count = nth 4 w i }

clause-equal : (text : List ℕ) (c d : Clause) → ClauseWritten text c → ClauseWritten text d → clause_words c ≡ clause_words d → clause_numbers c ≡ clause_numbers d → c ≡ d
clause-equal text (condition a) (condition b) s t w f =
    let o = operator-equal a.operator b.operator (nth 1 w) in
    let x = target-equal a.target b.target (nth 2 w) in
    let c = comparison-equal a.comparison b.comparison (nth 3 w) in
    let v = value-equal a.value b.value (nth 4 w) (nth_f 0 f) in
    let n = maybe-equal text a.name b.name s t (ap (drop 5) w) in
    λ i. condition (record { operator = o i; target = x i; name = n i; comparison = c i; value = v i })
clause-equal text (action a) (action b) s t w f =
    let o = flag-equal a.otherwise b.otherwise (nth 1 w) in
    let v = value-equal a.value b.value (nth 4 w) (nth_f 0 f) in
    let n = name-equal text a.name b.name s t (nth 5 w) (nth 6 w) in
    λ i. action (record { link = nth 2 w i; name = n i; value = v i; otherwise = o i })
clause-equal text (condition a) (action b) s t w f = differ 1 2 w (λ e. omega arith)
clause-equal text (action a) (condition b) s t w f = differ 2 1 w (λ e. omega arith)

-- ---- the two tables
each-any : {R : Type 0} (rs : List R) → Each (λ r. Unit {0}) rs
each-any [] = nothing
each-any (r ∷ rs) = each tt (each-any rs)

abbrev no_numbers : {R : Type 0} → R → List Float
no_numbers r = []

pub encoding : (text : List ℕ) (m q : Network) → Written text m → Written text q → words_of m ≡ words_of q → numbers_of m ≡ numbers_of q → m ≡ q
unfolding words_of numbers_of word_blocks number_blocks flat
encoding text m q s t ew ef =
    let (w, c) = append-last (blocks (word_blocks m)) (blocks (word_blocks q)) (tally_words (counts_of m)) (tally_words (counts_of q)) refl ew in
    let (wNodes, w) = region-split node_words nodes_width node-long 0 nodes_long m.nodes q.nodes (nth 0 c) w in
    let (wLinks, w) = region-split link_words links_width link-long 0 links_long m.links q.links (nth 1 c) w in
    let (wCurves, w) = region-split id_words curves_width (λ n. refl) 0 curves_long m.curves q.curves (nth 2 c) w in
    let (wPoints, w) = region-split point_words points_width (λ p. refl) 0 points_long m.points q.points (nth 3 c) w in
    let (wPatterns, w) = region-split id_words patterns_width (λ n. refl) 0 patterns_long m.patterns q.patterns (nth 4 c) w in
    let (wMultipliers, w) = region-split multiplier_words multipliers_width (λ p. refl) 0 multipliers_long m.multipliers q.multipliers (nth 5 c) w in
    let (wDemands, w) = region-split demand_words demands_width demand-long 0 demands_long m.demands q.demands (nth 6 c) w in
    let (wTimes, w) = region-split count_words times_width count_long 0 times_long m.times q.times (s.times ∙ sym t.times) w in
    let (wRules, w) = region-split rule_words rules_width rule-long 0 rules_long m.rules q.rules (nth 7 c) w in
    let (wClauses, w) = region-split clause_words clauses_width clause-long 0 clauses_long m.clauses q.clauses (nth 8 c) w in
    let (fNodes, f) = region-split node_numbers node_numbers_width node-numbers-long zero_f node_numbers_long m.nodes q.nodes (nth 0 c) ef in
    let (fLinks, f) = region-split link_numbers link_numbers_width link-numbers-long zero_f link_numbers_long m.links q.links (nth 1 c) f in
    let (fPoints, f) = region-split point_numbers point_numbers_width (λ p. refl) zero_f point_numbers_long m.points q.points (nth 3 c) f in
    let (fMultipliers, f) = region-split multiplier_numbers multiplier_numbers_width (λ p. refl) zero_f multiplier_numbers_long m.multipliers q.multipliers (nth 5 c) f in
    let (fDemands, f) = region-split demand_numbers demand_numbers_width (λ d. refl) zero_f demand_numbers_long m.demands q.demands (nth 6 c) f in
    let (fClauses, f) = region-split clause_numbers clause_numbers_width clause-numbers-long zero_f clause_numbers_long m.clauses q.clauses (nth 8 c) f in
    let nodes = records-equal (NodeWritten text) node_words node_numbers nodes_width node_numbers_width node-long node-numbers-long (node-equal text) m.nodes
    q.nodes s.nodes t.nodes (nth 0 c) wNodes fNodes in
    let links = records-equal (LinkWritten text) link_words link_numbers links_width link_numbers_width link-long link-numbers-long (link-equal text) m.links
    q.links s.links t.links (nth 1 c) wLinks fLinks in
    let names = records-equal (Sits text) id_words no_numbers id_width 0 (λ n. refl) (λ n. refl) (λ a b x y e g. id-equal text a b x y e) in
    let curves = names m.curves q.curves s.curves t.curves (nth 2 c) wCurves (flat-none m.curves q.curves (nth 2 c)) in
    let points = records-equal (λ p. Unit {0}) point_words point_numbers points_width point_numbers_width (λ p. refl) (λ p. refl) point-equal m.points q.points
    (each-any m.points) (each-any q.points) (nth 3 c) wPoints fPoints in
    let patterns = names m.patterns q.patterns s.patterns t.patterns (nth 4 c) wPatterns (flat-none m.patterns q.patterns (nth 4 c)) in
    let multipliers = records-equal (λ p. Unit {0}) multiplier_words multiplier_numbers multipliers_width multiplier_numbers_width (λ p. refl) (λ p. refl)
    multiplier-equal m.multipliers q.multipliers (each-any m.multipliers) (each-any q.multipliers) (nth 5 c) wMultipliers fMultipliers in
    let demands = records-equal (λ (d : Demand). SitsOr text d.pattern) demand_words demand_numbers demands_width demand_numbers_width demand-long (λ d. refl)
    (demand-equal text) m.demands q.demands s.demands t.demands (nth 6 c) wDemands fDemands in
    let six = s.times ∙ sym t.times in
    let times = records-equal (λ n. Unit {0}) count_words no_numbers times_width 0 count_long (λ n. refl) (λ a b x y e g. count-equal a b e) m.times q.times
    (each-any m.times) (each-any q.times) six wTimes (flat-none m.times q.times six) in
    let rules = records-equal (λ (r : Rule). Sits text r.id) rule_words no_numbers rules_width 0 rule-long (λ r. refl)
    (λ a b x y e g. rule-equal text a b x y e) m.rules q.rules s.rules t.rules (nth 7 c) wRules (flat-none m.rules q.rules (nth 7 c)) in
    let clauses = records-equal (ClauseWritten text) clause_words clause_numbers clauses_width clause_numbers_width clause-long clause-numbers-long
    (clause-equal text) m.clauses q.clauses s.clauses t.clauses (nth 8 c) wClauses fClauses in
    λ i. record {
      nodes = nodes i;
      links = links i;
      curves = curves i;
      points = points i;
      patterns = patterns i;
      multipliers = multipliers i;
      demands = demands i;
      times = times i;
      rules = rules i;
      clauses = clauses i;
    }
