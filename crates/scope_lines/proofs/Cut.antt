-- A text cut into its lines, and lines joined to a text. Assumes nothing.
use mathlib.Core.Path.{◌≡◌, refl, ap, sym, ◌∙◌, subst}
use mathlib.Core.Bool.{Bool, true, false, cond}
use mathlib.Core.List.{List, [], ◌∷◌, ◌++◌, append-nil, append_assoc}
use Prim.Native.Nat.{ℕ, zero, suc, ◌+◌, ◌≤◌, ◌<◌}
use native.Mathlib.Omega.{arith}
use lib.ListN.{length, take, drop, length-append, length-drop}
use lib.Seq.{take_at, take-append_seam}
use lib.Dec.{eqb}
use Rattle.leaf_scans.specs.Lines.{push, chunks, joined, line_len}
use Rattle.leaf_scans.proofs.LineLaws.{joined-chunks, body-long, chunks-at}
use Rattle.scope_lines.specs.Text.{number, lines_from, line_at}

-- a line with its line feed, and one without
pub data Full : List ℕ → Type 0 where
  feed : {b : ℕ} → eqb b 10 ≡ true → Full (b ∷ [])
  more : {b : ℕ} {c : List ℕ} → eqb b 10 ≡ false → Full c → Full (b ∷ c)

pub data Partial : List ℕ → Type 0 where
  one : {b : ℕ} → eqb b 10 ≡ false → Partial (b ∷ [])
  also : {b : ℕ} {c : List ℕ} → eqb b 10 ≡ false → Partial c → Partial (b ∷ c)

-- the lines of a text: only the last may lack its line feed
pub data Lines : List (List ℕ) → Type 0 where
  none : Lines []
  unended : {c : List ℕ} → Partial c → Lines (c ∷ [])
  ended : {c : List ℕ} {cs : List (List ℕ)} → Full c → Lines cs → Lines (c ∷ cs)

lines-push : (b : ℕ) {cs : List (List ℕ)} → eqb b 10 ≡ false → Lines cs → Lines (push b cs)
unfolding push
lines-push b e none = unended (one e)
lines-push b e (unended p) = unended (also e p)
lines-push b e (ended f ls) = ended (more e f) ls

pub lines-chunks : (t : List ℕ) → Lines (chunks t)
unfolding chunks
lines-chunks [] = none
lines-chunks (b ∷ bs) = go (eqb b 10) refl (lines-chunks bs)
  where
    go : (q : Bool) → eqb b 10 ≡ q → Lines (chunks bs) → Lines (cond q ((b ∷ []) ∷ chunks bs) (push b (chunks bs)))
    go true e ls = ended (feed e) ls
    go false e ls = lines-push b e ls

chunks-full : {c : List ℕ} (t : List ℕ) → Full c → chunks (c ++ t) ≡ c ∷ chunks t
unfolding chunks push
chunks-full t (feed {b} e) = ap (λ q. cond q ((b ∷ []) ∷ chunks t) (push b (chunks t))) e
chunks-full t (more {b} {c} e f) =
    ap (λ q. cond q ((b ∷ []) ∷ chunks (c ++ t)) (push b (chunks (c ++ t)))) e ∙ ap (push b) (chunks-full t f)

chunks-partial : {c : List ℕ} → Partial c → chunks c ≡ c ∷ []
unfolding chunks push
chunks-partial (one {b} e) = ap (λ q. cond q ((b ∷ []) ∷ []) ((b ∷ []) ∷ [])) e
chunks-partial (also {b} {c} e p) = ap (λ q. cond q ((b ∷ []) ∷ chunks c) (push b (chunks c))) e ∙ ap (push b) (chunks-partial p)

pub chunks-joined : {cs : List (List ℕ)} → Lines cs → chunks (joined cs) ≡ cs
unfolding joined chunks
chunks-joined none = refl
chunks-joined (unended {c} p) = ap chunks (append-nil c) ∙ chunks-partial p
chunks-joined (ended {c} {cs} f ls) = chunks-full (joined cs) f ∙ ap (c ∷◌) (chunks-joined ls)

-- the first lines of a text are the lines of a text
pub lines-take : (k : ℕ) {cs : List (List ℕ)} → Lines cs → Lines (take k cs)
lines-take zero ls = none
lines-take (suc k) none = none
lines-take (suc zero) (unended p) = unended p
lines-take (suc (suc k)) (unended p) = unended p
lines-take (suc k) (ended f ls) = ended f (lines-take k ls)

-- ---- the first line of a text, and the lines after it

-- the line at a place, and the lines after it
module _ (text : List ℕ) (at e : ℕ) (h : at < length text) (he : e ≡ at + line_len (drop at text)) where
  pub lines_at : (n : ℕ) → lines_from text at n ≡ line_at text at n ∷ lines_from text e (suc n)
  unfolding number
  lines_at n =
      ap (number n at) (chunks-at text at e h he)
      ∙ ap (λ p. line_at text at n ∷ number (suc n) p (chunks (drop e text))) (body-long text at e h he)

-- the lines of the beginning of a text that ends where a line does
joined-append : (cs ds : List (List ℕ)) → joined (cs ++ ds) ≡ joined cs ++ joined ds
unfolding joined
joined-append [] ds = refl
joined-append (c ∷ cs) ds = rw (joined-append cs ds, append_assoc)

pub chunks-take : (t : List ℕ) (k : ℕ) (cs : List (List ℕ)) → k ≤ length t → chunks t ≡ cs ++ chunks (drop k t) → chunks (take k t) ≡ cs
chunks-take t k cs h e =
    let j : t ≡ joined cs ++ drop k t = sym (joined-chunks t) ∙ ap joined e ∙ joined-append cs (chunks (drop k t)) ∙ ap (λ x. joined cs ++ x) (joined-chunks (drop k t)) in
    let n : length t ≡ length (joined cs) + length (drop k t) = ap length j ∙ length-append (joined cs) (drop k t) in
    let m : length (joined cs) ≡ k = omega (arith, length-drop k t) in
    let w : take k t ≡ joined cs = ap (take k) j ∙ take_at (joined cs) (drop k t) k m in
    let l : Lines cs = subst Lines (ap (take (length cs)) e ∙ take-append_seam cs (chunks (drop k t))) (lines-take (length cs) (lines-chunks t)) in
    ap chunks w ∙ chunks-joined l
