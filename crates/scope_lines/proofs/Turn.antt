-- What is said of a line, for each of the things that it can do. Assumes nothing.
use mathlib.Core.Path.{◌≡◌, refl, sym}
use mathlib.Core.List.{List, [], ◌∷◌}
use Prim.Native.Nat.{ℕ}
use Rattle.scope_lines.specs.Reader.{Verdict, good, bad, Standing, Still, still_class, still, filed, joins, closes, Own, itself, last, fresh, unclosed}
use Rattle.scope_lines.specs.Reader.{code, group_class, fate_of, first_mark, group_mark, line_mark, mark, a_group}
use Rattle.scope_lines.specs.Text.{Line, piece_no}
use Rattle.scope_lines.specs.Turn.{refusal_in, fine_in, refusal, fine, closed_by, piece_by, own_class, Tells}

module _ {S R : Type 0} (m : Standing S Line R) (l : Line) where
  pub tells-still : (c : Still) (s : S) → Tells m l (still c s) (code (still_class c)) 0 0 0
  unfolding mark refusal fine closed_by piece_by
  tells-still c s = record { its-class = refl; its-closed = refl; its-reason = refl; its-piece = refl; fair = λ _. refl }

  open_code : (g : List Line) → code (group_mark g unclosed).class ≡ 8
  unfolding group_mark first_mark group_class code
  open_code [] = refl
  open_code (x ∷ g) = refl

  pub tells-joins : Tells m l joins 8 0 0 0
  unfolding mark refusal fine closed_by piece_by
  tells-joins = record { its-class = sym (open_code m.group); its-closed = refl; its-reason = refl; its-piece = refl; fair = λ _. refl }

  pub tells-taken : (r : R) → Tells m l (filed (good r)) 4 0 0 l.no
  unfolding mark line_mark code refusal refusal_in fine fine_in closed_by piece_by
  tells-taken r = record { its-class = refl; its-closed = refl; its-reason = refl; its-piece = refl; fair = λ _. refl }

  pub tells-refused : (n : ℕ) → (n ≡ 0 → ⊥) → Tells m l (filed (bad n)) 5 0 n l.no
  unfolding mark line_mark code refusal refusal_in fine fine_in closed_by piece_by
  tells-refused n nz = record { its-class = refl; its-closed = refl; its-reason = refl; its-piece = refl; fair = λ e. absurd (nz e) }

  own_code : (v : Verdict R) (own : Own S) → own_class own (code (group_class (fate_of v))) ≡ code (mark m (closes v own) unclosed).class
  unfolding own_class mark first_mark group_class code
  own_code v (itself c s) = refl
  own_code v last = refl
  own_code v fresh = refl

  pub tells-group-taken : (r : R) (own : Own S) → Tells m l (closes (good r) own) (own_class own 6) 6 0 (piece_no (a_group m.group))
  unfolding group_class fate_of code refusal refusal_in fine fine_in closed_by piece_by
  tells-group-taken r own = record { its-class = own_code (good r) own; its-closed = refl; its-reason = refl; its-piece = refl; fair = λ _. refl }

  pub tells-group-refused : (n : ℕ) → (n ≡ 0 → ⊥) → (own : Own S) → Tells m l (closes (bad n) own) (own_class own 7) 7 n (piece_no (a_group m.group))
  unfolding group_class fate_of code refusal refusal_in fine fine_in closed_by piece_by
  tells-group-refused n nz own = record { its-class = own_code (bad n) own; its-closed = refl; its-reason = refl; its-piece = refl; fair = λ e. absurd (nz e) }
