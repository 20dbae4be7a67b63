-- Where strict reading of a list of lines stops. Assumes nothing.
use mathlib.Core.Path.{◌≡◌}
use mathlib.Core.Bool.{Bool}
use mathlib.Core.List.{List, [], ◌∷◌, ◌++◌}
use Prim.Native.Nat.{ℕ}
use Rattle.scope_lines.specs.Reader.{Reader, Standing, marked, refused, rule_refused, Piece, a_line, a_group, stopped, unclosed, strict, strict_to, after, fate, strike}
use Rattle.scope_lines.specs.Demand3.{mark_of, Opens}

module _ {S A R : Type 0} (𝓡 : Reader S A R) where
  -- Strict reading stops, for n, at the group that `a` opens: at the line c that closes it, or where the text ends.
  pub data GroupStop (h : Bool) (st : Standing S A R) (pre : List A) (a : A) (post : List A) (n : ℕ) : Type 0 where
    at_line : (mid : List A) (c : A) (post' g : List A)
        → post ≡ mid ++ c ∷ post'
        → fate 𝓡 h unclosed (after 𝓡 h (after 𝓡 h st pre) (a ∷ [])) mid ≡ unclosed
        → strict_to 𝓡 h st (strike 𝓡 h unclosed st (pre ++ a ∷ mid) ++ (c ∷ []))
        ≡ stopped n (a_group (a ∷ g)) (after 𝓡 h st (pre ++ a ∷ mid)).recs
        → GroupStop h st pre a post n
    at_end : (g : List A)
        → fate 𝓡 h unclosed (after 𝓡 h (after 𝓡 h st pre) (a ∷ [])) post ≡ unclosed
        → strict 𝓡 h st (strike 𝓡 h unclosed st (pre ++ a ∷ post))
        ≡ stopped n (a_group (a ∷ g)) (after 𝓡 h st (pre ++ a ∷ post)).recs
        → GroupStop h st pre a post n

  -- what strict reading stops at, if it stops at the line c: that line, or the group that it closes
  pub data Stop (h : Bool) (st : Standing S A R) (pre : List A) (c : A) (n : ℕ) : Piece A → Type 0 where
    is_line : ((post : List A) → mark_of 𝓡 h st pre c post ≡ marked refused n) → Stop h st pre c n (a_line c)
    is_group : (pre₁ : List A) (a : A) (mid g : List A) → pre ≡ pre₁ ++ a ∷ mid → Opens 𝓡 h (after 𝓡 h st pre₁) a
        → ((post : List A) → mark_of 𝓡 h st pre₁ a (mid ++ c ∷ post) ≡ marked rule_refused n) → Stop h st pre c n (a_group (a ∷ g))
