-- Two readings that go alike: lines that are alike (as by their letters) are read to records that are alike (as by the letters of
-- their names). `Alike` and `Erases` are what a concrete reader proves, once, to have demand 3 for texts. Assumes nothing.
use Rattle.std.specs.Prelude.{◌≡◌, List, [], ◌∷◌, map, ℕ}
use Rattle.scope_lines.specs.Reader.{Verdict, good, bad, Stored, over, judged, Reader, Piece, a_line, a_group, Reply, accepted, stopped}

pub data All2 {A B : Type 0} (◌~◌ : A → B → Type 0) : List A → List B → Type 0 where
  nil : All2 ◌~◌ [] []
  cons : {a : A} {b : B} {g : List A} {k : List B} → ◌~◌ a b → All2 ◌~◌ g k → All2 ◌~◌ (a ∷ g) (b ∷ k)

-- the same verdict, with records that are alike
pub data VerdictLike {R Q : Type 0} (◌≈◌ : R → Q → Type 0) : Verdict R → Verdict Q → Type 0 where
  goods : {r : R} {q : Q} → ◌≈◌ r q → VerdictLike ◌≈◌ (good r) (good q)
  bads : {n : ℕ} → VerdictLike ◌≈◌ (bad n) (bad n)

pub data StoredLike {R Q : Type 0} (◌≈◌ : R → Q → Type 0) : Stored R → Stored Q → Type 0 where
  overs : StoredLike ◌≈◌ over over
  judgeds : {v : Verdict R} {w : Verdict Q} → VerdictLike ◌≈◌ v w → StoredLike ◌≈◌ (judged v) (judged w)

pub data PieceLike {A B : Type 0} (◌~◌ : A → B → Type 0) : Piece A → Piece B → Type 0 where
  lines : {a : A} {b : B} → ◌~◌ a b → PieceLike ◌~◌ (a_line a) (a_line b)
  groups : {g : List A} {k : List B} → All2 ◌~◌ g k → PieceLike ◌~◌ (a_group g) (a_group k)

pub data ReplyLike {A B R Q : Type 0} (◌~◌ : A → B → Type 0) (◌≈◌ : R → Q → Type 0) : Reply A R → Reply B Q → Type 0 where
  accepteds : {r : R} {q : Q} → ◌≈◌ r q → ReplyLike ◌~◌ ◌≈◌ (accepted r) (accepted q)
  stoppeds : {n : ℕ} {p : Piece A} {k : Piece B} {r : R} {q : Q}
      → PieceLike ◌~◌ p k → ◌≈◌ r q → ReplyLike ◌~◌ ◌≈◌ (stopped n p r) (stopped n k q)

-- all that two readers must have in common
pub record Alike {S A B R Q : Type 0} (𝓡 : Reader S A R) (𝓠 : Reader S B Q) (◌~◌ : A → B → Type 0) (◌≈◌ : R → Q → Type 0) : Type 0 where
  pub sorts : (a : A) (b : B) → ◌~◌ a b → 𝓡.sort a ≡ 𝓠.sort b
  pub rules : (s : S) → 𝓡.rules s ≡ 𝓠.rules s
  pub stores : (s : S) (a : A) (b : B) (r : R) (q : Q) → ◌~◌ a b → ◌≈◌ r q → StoredLike ◌≈◌ (𝓡.store s a r) (𝓠.store s b q)
  pub closings : (g : List A) (k : List B) (r : R) (q : Q) → All2 ◌~◌ g k → ◌≈◌ r q → VerdictLike ◌≈◌ (𝓡.close g r) (𝓠.close k q)
  pub finishes : (r : R) (q : Q) → ◌≈◌ r q → ◌≈◌ (𝓡.finish r) (𝓠.finish q)

-- ---- by equations only: the reader commutes with forgetting places, that is, there is a reader of letters, to which lines and
-- records are taken by `key` and `erase`. Where both are one definition over any type of names, and only copy names and compare
-- letters, each equation is by cases, `refl` in each.

unfoldable pub map_v : {R E : Type 0} → (R → E) → Verdict R → Verdict E
map_v f (good r) = good (f r)
map_v f (bad n) = bad n

unfoldable pub map_s : {R E : Type 0} → (R → E) → Stored R → Stored E
unfolding map_v
map_s f over = over
map_s f (judged v) = judged (map_v f v)

pub record Erases {S A K R E : Type 0} (𝓡 : Reader S A R) (𝓔 : Reader S K E) (key : A → K) (erase : R → E) : Type 0 where
  pub sorts : (a : A) → 𝓡.sort a ≡ 𝓔.sort (key a)
  pub stores : (s : S) (a : A) (r : R) → map_s erase (𝓡.store s a r) ≡ 𝓔.store s (key a) (erase r)
  pub closings : (g : List A) (r : R) → map_v erase (𝓡.close g r) ≡ 𝓔.close (map key g) (erase r)
  pub finishes : (r : R) → erase (𝓡.finish r) ≡ 𝓔.finish (erase r)
