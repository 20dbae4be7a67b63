-- A line that is trimmed begins with a word of no whitespace where it did before. Assumes nothing.
use Prim.Native.Nat.{ℕ, suc}
use native.Mathlib.Omega.{arith}
use borrow.Author.Tests.{ne_eqb}
use mathlib.Core.Path.{◌≡◌, refl, sym, ap, ◌∙◌}
use mathlib.Core.Bool.{Bool, true, false, cond, not, ◌&&◌, false≢true}
use mathlib.Core.List.{List, [], ◌∷◌}
use lib.ListN.{length}
use lib.Dec.{eqb}
use Rattle.leaf_letters.specs.Words.{same, begins}
use Rattle.leaf_scans.specs.Lines.{is_space, start_trimmed, keep_byte, end_trimmed, trimmed}
use Rattle.leaf_scans.specs.Scan.{span_len}
use Rattle.leaf_scans.specs.declared.Kind.TheVariants.{Word}

module _ (x y : ℕ) (l v : List ℕ) (h : is_space y ≡ false) where
  begins-byte : (t : Bool) (k : List ℕ) → is_space x ≡ t → begins k v ≡ begins l v → begins (keep_byte x k) (y ∷ v) ≡ begins (x ∷ l) (y ∷ v)
  unfolding same
  begins-byte true [] e q = rw (e, ne_eqb x y (λ k. false≢true (sym h ∙ ap is_space (sym k) ∙ e)))
  begins-byte false [] e q = rw (e, q)
  begins-byte t (z ∷ k) e q = ap (λ (r : Bool). eqb x y && r) q

begins-end : (l v : List ℕ) → span_len Word v ≡ length v → begins (end_trimmed l) v ≡ begins l v
unfolding end_trimmed span_len
begins-end l [] h = refl
begins-end [] (y ∷ v) h = refl
begins-end (x ∷ l) (y ∷ v) h = go (is_space y) refl h (begins-end l v)
  where
    go : (t : Bool) → is_space y ≡ t → cond (not t) (suc (span_len Word v)) 0 ≡ suc (length v)
        → (span_len Word v ≡ length v → begins (end_trimmed l) v ≡ begins l v) → begins (keep_byte x (end_trimmed l)) (y ∷ v) ≡ begins (x ∷ l) (y ∷ v)
    go true e k f = absurd (omega arith)
    go false e k f = begins-byte x y l v e (is_space x) (end_trimmed l) refl (f (omega arith))

pub begins-trimmed : (l v : List ℕ) → span_len Word v ≡ length v → begins (start_trimmed l) v ≡ begins (trimmed l) v
unfolding trimmed
begins-trimmed l v h = sym (begins-end (start_trimmed l) v h)
