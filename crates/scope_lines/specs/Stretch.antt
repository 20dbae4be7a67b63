-- "In the way: the line buffer of a group (its stretch of text read again at the close)." The lines of an open group are those of
-- its stretch, from its first line on, that stand in RULES and are neither blank nor headers; "lines of other sections may stand
-- between". Over any sections S and any type X of lines. Assumes nothing.
use Rattle.std.specs.Prelude.{◌≡◌, Bool, false, cond, List, [], ◌∷◌, ◌++◌, map, ℕ, ◌≤◌, ◌<◌, drop}
use Rattle.leaf_scans.specs.Lines.{chunks}
use Rattle.scope_lines.specs.Reader.{Sort, empty, heading, start, other, a_group}
use Rattle.scope_lines.specs.Text.{Line, piece_no}

-- the section after a line
abbrev pub sec_by : {S : Type 0} → Sort S → S → S
sec_by empty s = s
sec_by (heading x) s = x
sec_by start s = s
sec_by other s = s

-- is the line one of the group's?
abbrev pub own_by : {S : Type 0} → (S → Bool) → Sort S → S → Bool
own_by rules empty s = false
own_by rules (heading x) s = false
own_by rules start s = rules s
own_by rules other s = rules s

abbrev pub bodies : List Line → List (List ℕ)
bodies g = map (λ (l : Line). l.body) g

-- the section after some lines, and those of them that are the group's
unfoldable pub sec_after : {S X : Type 0} → (X → Sort S) → S → List X → S
sec_after sort s [] = s
sec_after sort s (b ∷ bs) = sec_after sort (sec_by (sort b) s) bs

module _ {S X : Type 0} (sort : X → Sort S) (rules : S → Bool) where
  unfoldable pub owned : S → List X → List X
  owned s [] = []
  owned s (b ∷ bs) = cond (own_by rules (sort b) s) (b ∷ []) [] ++ owned (sec_by (sort b) s) bs

  -- the group's lines are seen one by one: in a walk over the stretch, and by themselves
  unfoldable pub walked : {Q : Type 0} → (Q → X → Q) → S → Q → List X → Q
  walked see s q [] = q
  walked see s q (b ∷ bs) = walked see (sec_by (sort b) s) (cond (own_by rules (sort b) s) (see q b) q) bs

unfoldable pub seen_all : {Q X : Type 0} → (Q → X → Q) → Q → List X → Q
seen_all see q [] = q
seen_all see q (b ∷ bs) = seen_all see (see q b) bs

-- the open group g with its first line at `first`, numbered `no`, in a text read up to `at`, where the section is s: of the lines
-- `cs` from its first line on, which stands in section `home`, the group's own
pub record Stretch {S : Type 0} (sort : List ℕ → Sort S) (rules : S → Bool) (home : S) (text : List ℕ) (first no at : ℕ) (s : S) (g : List Line) : Type 0 where
  pub cs : List (List ℕ)
  pub whole : chunks (drop first text) ≡ cs ++ chunks (drop at text)
  pub own : bodies g ≡ owned sort rules home cs
  pub sec : s ≡ sec_after sort home cs
  pub named : piece_no (a_group g) ≡ no
  pub some : 0 < no
  pub from : first ≤ at
