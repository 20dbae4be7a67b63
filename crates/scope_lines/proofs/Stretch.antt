-- The stretch of a group, one line further; and what a walk over it sees. Assumes nothing.
use Prim.Native.Nat.{ℕ, ◌+◌, ◌-◌, ◌≤◌, ◌<◌}
use native.Mathlib.Omega.{arith}
use mathlib.Core.Path.{◌≡◌, refl, sym, ap, ap₂, ◌∙◌}
use mathlib.Core.Bool.{Bool, true, false, cond}
use mathlib.Core.List.{List, [], ◌∷◌, ◌++◌, append_assoc, append-nil, map-append}
use lib.ListN.{length, take, drop, length-drop}
use lib.Seq.{append_snoc, drop-drop}
use Rattle.leaf_scans.specs.Lines.{chunks, line_len}
use Rattle.leaf_scans.proofs.LineLaws.{chunks-at}
use Rattle.scope_lines.specs.Reader.{Sort, a_group, if_open}
use Rattle.scope_lines.specs.Text.{Line, piece_no, body_at, line_at}
use Rattle.scope_lines.specs.Stretch.{sec_by, own_by, bodies, sec_after, owned, walked, seen_all, Stretch}
use Rattle.scope_lines.proofs.Cut.{chunks-take}

-- ---- one line more

module _ {S X : Type 0} (sort : X → Sort S) where
  pub sec-snoc : (s : S) (bs : List X) (b : X) → sec_after sort s (bs ++ (b ∷ [])) ≡ sec_by (sort b) (sec_after sort s bs)
  unfolding sec_after
  sec-snoc s [] b = refl
  sec-snoc s (x ∷ bs) b = sec-snoc (sec_by (sort x) s) bs b

  module _ (rules : S → Bool) where
    pub owned-snoc : (s : S) (bs : List X) (b : X)
        → owned sort rules s (bs ++ (b ∷ [])) ≡ owned sort rules s bs ++ cond (own_by rules (sort b) (sec_after sort s bs)) (b ∷ []) []
    unfolding owned sec_after
    owned-snoc s [] b = append-nil (cond (own_by rules (sort b) s) (b ∷ []) [])
    owned-snoc s (x ∷ bs) b = rw (owned-snoc (sec_by (sort x) s) bs b, append_assoc)

    -- what a walk sees is what the group's lines show
    pub walked-owned : {Q : Type 0} (see : Q → X → Q) (bs : List X) (s : S) (q : Q)
        → walked sort rules see s q bs ≡ seen_all see q (owned sort rules s bs)
    unfolding walked seen_all owned
    walked-owned see [] s q = refl
    walked-owned see (b ∷ bs) s q =
        walked-owned see bs (sec_by (sort b) s) (cond (own_by rules (sort b) s) (see q b) q)
        ∙ go (own_by rules (sort b) s) (owned sort rules (sec_by (sort b) s) bs)
      where
        go : (t : Bool) (os : List X) → seen_all see (cond t (see q b) q) os ≡ seen_all see q (cond t (b ∷ []) [] ++ os)
        go true os = refl
        go false os = refl

-- ---- a group with a number is not empty

pub is_open-law : {X : Type 0} (g : List Line) {n : ℕ} → piece_no (a_group g) ≡ n → 0 < n → (x y : X) → if_open g x y ≡ x
unfolding piece_no if_open
is_open-law [] e h x y = absurd (omega arith)
is_open-law (l ∷ g) e h x y = refl

named-on : (g g' : List Line) {n : ℕ} → piece_no (a_group g) ≡ n → 0 < n → piece_no (a_group (g ++ g')) ≡ n
unfolding piece_no
named-on [] g' e h = absurd (omega arith)
named-on (l ∷ g) g' e h = e

-- ---- the stretch

module _ {S : Type 0} (sort : List ℕ → Sort S) (rules : S → Bool) (home : S) (text : List ℕ) where
  module _ (at e : ℕ) (h : at < length text) (he : e ≡ at + line_len (drop at text)) where
    abbrev here : Sort S
    here = sort (body_at text at)

    -- one line more: it joins (g' is that line), or not (g' is [])
    pub stretch-on : {f n : ℕ} {s : S} {g : List Line} (g' : List Line) → Stretch sort rules home text f n at s g
        → bodies g' ≡ cond (own_by rules here s) (body_at text at ∷ []) []
        → Stretch sort rules home text f n e (sec_by here s) (g ++ g')
    stretch-on {s = s} {g = g} g' st w = record {
      cs = st.cs ++ (body_at text at ∷ []);
      whole = st.whole ∙ ap (λ x. st.cs ++ x) (chunks-at text at e h he) ∙ sym (append_snoc st.cs (body_at text at) (chunks (drop e text)));
      own = map-append (λ (l : Line). l.body) g g'
          ∙ ap₂ (λ x y. x ++ y) st.own (w ∙ ap (λ x. cond (own_by rules here x) (body_at text at ∷ []) []) st.sec)
          ∙ sym (owned-snoc sort rules home st.cs (body_at text at));
      sec = ap (sec_by here) st.sec ∙ sym (sec-snoc sort home st.cs (body_at text at));
      named = named-on g g' st.named st.some;
      some = st.some;
      from = omega (arith, st.from);
    }

    -- the first line of a group
    pub stretch-new : (n : ℕ) (s : S) → s ≡ home → 0 < n → own_by rules here s ≡ true → sec_by here s ≡ s
        → Stretch sort rules home text at n e s (line_at text at n ∷ [])
    unfolding owned sec_after piece_no
    stretch-new n s r p o z = record {
      cs = body_at text at ∷ [];
      whole = chunks-at text at e h he;
      own = rw (sym (ap (own_by rules here) r) ∙ o);
      sec = sym (sym (ap (sec_by here) r) ∙ z);
      named = refl;
      some = p;
      from = omega arith;
    }

  module _ {f n at : ℕ} {s : S} {g : List Line} (st : Stretch sort rules home text f n at s g) (h : at ≤ length text) where
    -- the lines of the stretch, read as a text of its own
    pub stretch-lines : chunks (take (at - f) (drop f text)) ≡ st.cs
    stretch-lines =
        let k : f + (at - f) ≡ at = omega (arith, st.from) in
        chunks-take (drop f text) (at - f) st.cs (omega (arith, length-drop f text))
        (st.whole ∙ ap (λ x. st.cs ++ chunks x) (sym (drop-drop (at - f) f text ∙ ap (λ i. drop i text) k)))

    -- a walk over it sees the group's lines
    pub stretch-seen : {Q : Type 0} (see : Q → List ℕ → Q) (q : Q)
        → walked sort rules see home q (chunks (take (at - f) (drop f text))) ≡ seen_all see q (bodies g)
    stretch-seen see q =
        ap (walked sort rules see home q) stretch-lines ∙ walked-owned sort rules see st.cs home q
        ∙ ap (seen_all see q) (sym st.own)
