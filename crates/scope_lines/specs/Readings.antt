-- What the readings say, in words that a planner can check: where reasons stand, when nothing is refused, and what a strict reading
-- that stopped holds. Over any reader. The theorems stand in proofs/Readings.antt. Assumes nothing.
use Rattle.std.specs.Prelude.{◌≡◌, Bool, false, List, ◌∷◌, ◌++◌, ◌⊎◌, ℕ}
use Rattle.scope_lines.specs.Reader.{bad, judged, Reader, Standing, refused, rule_refused, Mark, struck, Piece, a_line, a_group, accepted, strict_to, after}
use Rattle.scope_lines.specs.Text.{Each}
use Rattle.scope_lines.specs.Demand3.{Opens}

-- no line is refused
abbrev pub NoneStruck : List Mark → Type 0
NoneStruck ms = Each (λ (m : Mark). struck m.class ≡ false) ms

module _ {S A R : Type 0} (𝓡 : Reader S A R) where
  -- a refusal has a number that is not 0, which is the number of an acceptance
  pub record Fair : Type 0 where
    pub lines-fair : (s : S) (l : A) (r : R) (n : ℕ) → 𝓡.store s l r ≡ judged (bad n) → n ≡ 0 → ⊥
    pub groups-fair : (g : List A) (r : R) (n : ℕ) → 𝓡.close g r ≡ bad n → n ≡ 0 → ⊥

  -- line l, after the lines pre, is refused for n
  abbrev pub LineRefused : Bool → Standing S A R → List A → A → ℕ → Type 0
  LineRefused h st pre l n = 𝓡.store (after 𝓡 h st pre).sec l (after 𝓡 h st pre).recs ≡ judged (bad n)

  -- the group that is open after the lines pre is refused for n, if it closes then
  abbrev pub GroupRefused : Bool → Standing S A R → List A → ℕ → Type 0
  GroupRefused h st pre n = 𝓡.close (after 𝓡 h st pre).group (after 𝓡 h st pre).recs ≡ bad n

  -- the group whose first line is a, which stands between pre and post, is refused for n: where a line closes it, or (in a house
  -- text) at the end
  pub data RefusedFrom (h : Bool) (st : Standing S A R) (pre : List A) (a : A) (post : List A) (n : ℕ) : Type 0 where
    where_closed : (mid : List A) (c : A) (post' g : List A) → post ≡ mid ++ c ∷ post' → (after 𝓡 h st (pre ++ a ∷ mid)).group ≡ a ∷ g
        → GroupRefused h st (pre ++ a ∷ mid) n → RefusedFrom h st pre a post n
    where_ended : (g : List A) → (after 𝓡 h st (pre ++ a ∷ post)).group ≡ a ∷ g → GroupRefused h st (pre ++ a ∷ post) n → RefusedFrom h st pre a post n

  -- "A refused line's reason stands at that line, a refused group's at its first line; other reasons are 0": of the mark m of the
  -- line l, which stands between pre and post
  pub record ReasonStands (h : Bool) (st : Standing S A R) (pre : List A) (l : A) (post : List A) (m : Mark) : Type 0 where
    pub only-there : (m.reason ≡ 0 → ⊥) → (m.class ≡ refused) ⊎ ((m.class ≡ rule_refused) × Opens 𝓡 h (after 𝓡 h st pre) l)
    pub of-line : m.class ≡ refused → LineRefused h st pre l m.reason
    pub of-group : m.class ≡ rule_refused → Opens 𝓡 h (after 𝓡 h st pre) l → RefusedFrom h st pre l post m.reason

  -- Strict reading of ls stops for n at the piece p, and holds r: what was stored by the lines before the one where the piece ended,
  -- none of which is refused. "Of two refusals the earlier is the one whose piece ended first."
  pub data StoppedAt (h : Bool) (st : Standing S A R) (ls : List A) (n : ℕ) (p : Piece A) (r : R) : Type 0 where
    stop_line : (pre : List A) (l : A) (post : List A) → ls ≡ pre ++ l ∷ post → strict_to 𝓡 h st pre ≡ accepted r → (after 𝓡 h st pre).recs ≡ r
        → p ≡ a_line l → LineRefused h st pre l n → StoppedAt h st ls n p r
    stop_group : (pre : List A) (l : A) (post : List A) → ls ≡ pre ++ l ∷ post → strict_to 𝓡 h st pre ≡ accepted r → (after 𝓡 h st pre).recs ≡ r
        → p ≡ a_group (after 𝓡 h st pre).group → GroupRefused h st pre n → StoppedAt h st ls n p r
    stop_end : strict_to 𝓡 h st ls ≡ accepted r → (after 𝓡 h st ls).recs ≡ r
        → p ≡ a_group (after 𝓡 h st ls).group → GroupRefused h st ls n → StoppedAt h st ls n p r
