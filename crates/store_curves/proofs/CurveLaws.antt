-- The last x of a curve, looked for from the end on; and what storing a point makes of the network. Assumes nothing.
use Rattle.scope.specs.declared.Reason.{Reason}
use Rattle.std.specs.Prelude.{Err, None, Ok, Result, Some, Option}
use Prim.Native.Nat.{ℕ, suc, ◌+◌, ◌-◌, ◌*◌, ◌≤◌, ◌<◌}
use native.Mathlib.Omega.{arith}
use borrow.Author.Tests.{lt-ltb, le-ltb, eq-eqb, ne_eqb}
use mathlib.Core.Path.{◌≡◌, refl, ap, ◌∙◌}
use mathlib.Core.Bool.{Bool, true, false, cond, ◌&&◌}
use mathlib.Core.List.{List, [], ◌∷◌, ◌++◌}
use lib.ListN.{length, take, get_or, length-append}
use lib.Seq.{take-suc}
use lib.Dec.{ltb, eqb}
use lib.Ieee.{Float, lt}
use Rattle.leaf_fields.specs.Fields.{part, name_in, Fits}
use Rattle.leaf_fields.specs.declared.Span.{Span}
use Rattle.scope.specs.Records.{Network, Point, no_point, lookup}
use Rattle.scope.specs.Sections.{room_curves, room_points}
use Rattle.scope.specs.Series.{or_else, last_x, falls, add_point}
use Rattle.scope.specs.declared.Counts.{Counts}
use Rattle.scope.specs.declared.Reason.TheVariants.{XFalls, NoRoom}
use Rattle.table_rows.specs.Table.{splice}
use Rattle.scope.specs.Layout.{points_at, point_numbers_at, point_numbers_width, point_x}
use Rattle.table_rows.specs.Adding.{curve_added}
use Rattle.table_rows.specs.Holding.{Words, Numbers, Holds, After}
use Rattle.table_rows.proofs.HoldLaws.{sits-span, add-curve, add-point, count-curves, count-points}
use Rattle.table_rows.proofs.ReadLaws.{point-word, point-number}

-- ---- the last point of a list comes first
or-again : (a b c : Option Float) → or_else (or_else a b) c ≡ or_else a (or_else b c)
or-again None b c = refl
or-again (Some x) b c = refl

or-none : (a : Option Float) → a ≡ or_else a None
or-none None = refl
or-none (Some x) = refl

last_of : (i : ℕ) (ps : List Point) (p : Point) → last_x i (ps ++ (p ∷ [])) ≡ or_else (cond (eqb p.curve i) (Some p.x) None) (last_x i ps)
unfolding last_x
last_of i [] p = or-none (cond (eqb p.curve i) (Some p.x) None)
last_of i (q ∷ ps) p = rw (last_of i ps p) (or-again (cond (eqb p.curve i) (Some p.x) None) (last_x i ps) (cond (eqb q.curve i) (Some q.x) None))

-- ---- the scan: the points from number k on are none of the curve's
pub record Sought (w : List ℕ) (f : List Float) (points curve k : ℕ) : Type 0 where
  pub upto : k ≤ points
  pub left : (text : List ℕ) (m : Network) → Words text m w → Numbers m f → points ≡ length m.points → last_x curve m.points ≡ last_x curve (take k m.points)

module _ (w : List ℕ) (f : List Float) (points curve : ℕ) where
  module _ {k : ℕ} (g : Sought w f points curve k) (more : 0 < k) where
    split : {text : List ℕ} {m : Network} → Words text m w → Numbers m f → points ≡ length m.points
        → last_x curve m.points ≡ or_else (cond (eqb (get_or w (points_at + (k - 1)) 0) curve) (Some (get_or m.points (k - 1) no_point).x) None) (last_x curve (take (k - 1) m.points))
    split {text} {m} hw hf e =
        let hi : k - 1 < length m.points = omega (arith, g.upto) in
        let q : k ≡ suc (k - 1) = omega arith in
        let l : take k m.points ≡ take (k - 1) m.points ++ (get_or m.points (k - 1) no_point ∷ []) = ap (λ (n : ℕ). take n m.points) q ∙ take-suc m.points (k - 1) no_point hi in
        g.left text m hw hf e ∙ ap (last_x curve) l ∙ last_of curve (take (k - 1) m.points) (get_or m.points (k - 1) no_point)
        ∙ rw (point-word hw (k - 1) no_point hi)

    pub next-sought : (get_or w (points_at + (k - 1)) 0 ≡ curve → ⊥) → Sought w f points curve (k - 1)
    next-sought n = record {
      upto = omega (arith, g.upto);
      left = λ text m hw hf e. split hw hf e ∙ rw (ne_eqb (get_or w (points_at + (k - 1)) 0) curve n);
    }

    pub found-sought : (d : Float) (x : Float) → get_or w (points_at + (k - 1)) 0 ≡ curve → (text : List ℕ) (m : Network) → Words text m w → Numbers m f → points ≡ length m.points
        → lt x (get_or f (point_numbers_at + (k - 1) * point_numbers_width + point_x) d) ≡ falls x (last_x curve m.points)
    found-sought d x h text m hw hf e =
        let hi : k - 1 < length m.points = omega (arith, g.upto) in
        let v : get_or f (point_numbers_at + (k - 1) * point_numbers_width + point_x) d ≡ (get_or m.points (k - 1) no_point).x = point-number hw.known hf (k - 1) point_x d no_point hi (omega arith) in
        rw (split hw hf e, eq-eqb (get_or w (points_at + (k - 1)) 0) curve h, v)

  pub none-sought : {k : ℕ} → Sought w f points curve k → k ≤ 0 → (x : Float) (text : List ℕ) (m : Network) → Words text m w → Numbers m f
      → points ≡ length m.points → false ≡ falls x (last_x curve m.points)
  unfolding last_x
  none-sought {k} g h x text m hw hf e = let z : k ≡ 0 = omega arith in rw (g.left text m hw hf e, z)

-- ---- a point stored
module _ {text : List ℕ} {m : Network} {s : Counts} {w : List ℕ} {f : List Float} (h : Holds text m s w f) (id : Span) (x y : Float) where
  abbrev letters : List ℕ
  letters = part id.at id.end text

  abbrev Answers : Result Counts Reason → List ℕ → List Float → Type 0
  Answers r w' f' = After text (add_point (name_in text id) x y m) r w f w' f'

  and-false : (t : Bool) → (t && false) ≡ false
  and-false true = refl
  and-false false = refl

  pub curves-full : lookup m.curves letters ≡ None → room_curves ≤ s.curves → Answers (Err NoRoom) w f
  unfolding add_point
  curves-full e k = rw (e, le-ltb (length m.curves) room_curves (omega (arith, k, count-curves h))) (refl, refl, refl)

  pub no_room : lookup m.curves letters ≡ None → room_points ≤ s.points → Answers (Err NoRoom) w f
  unfolding add_point
  no_room e k = rw (e, le-ltb (length m.points) room_points (omega (arith, k, count-points h)), and-false (ltb (length m.curves) room_curves)) (refl, refl, refl)

  pub starts : (w1 w2 : List ℕ) (f1 : List Float) → lookup m.curves letters ≡ None → Fits text id → s.curves < room_curves → s.points < room_points
      → w1 ≡ curve_added w s.curves (name_in text id) → w2 ≡ splice w1 (points_at + s.points) (s.curves ∷ []) → f1 ≡ splice f (point_numbers_at + s.points * point_numbers_width) (x ∷ y ∷ [])
      → Answers
      (Ok (record { nodes = s.nodes; links = s.links; curves = s.curves + 1; points = s.points + 1; patterns = s.patterns; multipliers = s.multipliers; demands = s.demands; rules = s.rules; clauses = s.clauses }))
      w2 f1
  unfolding add_point
  starts w1 w2 f1 e fits kc kp ew1 ew2 ef =
      let h1 = add-curve h (name_in text id) (count-curves h) kc (sits-span text id fits) ew1 in
      let p : Point = record { curve = length m.curves; x = x; y = y } in
      let ew : w2 ≡ splice w1 (points_at + s.points) (length m.curves ∷ []) = rw (← count-curves h) ew2 in
      let h2 = add-point h1 p (count-points h) kp ew ef in
      rw (e, lt-ltb (length m.curves) room_curves (omega (arith, kc, count-curves h)), lt-ltb (length m.points) room_points (omega (arith, kp, count-points h)))
      (rw (h.counts, length-append, length-append), h2)

  module _ (i : ℕ) (e : lookup m.curves letters ≡ Some i) where
    pub falling : falls x (last_x i m.points) ≡ true → Answers (Err XFalls) w f
    unfolding add_point
    falling q = rw (e, q) (refl, refl, refl)

    module _ (q : falls x (last_x i m.points) ≡ false) where
      pub points-full : room_points ≤ s.points → Answers (Err NoRoom) w f
      unfolding add_point
      points-full k = rw (e, q, le-ltb (length m.points) room_points (omega (arith, k, count-points h))) (refl, refl, refl)

      pub goes_on-law : (w1 : List ℕ) (f1 : List Float) → s.points < room_points
          → w1 ≡ splice w (points_at + s.points) (i ∷ []) → f1 ≡ splice f (point_numbers_at + s.points * point_numbers_width) (x ∷ y ∷ [])
          → Answers
          (Ok (record { nodes = s.nodes; links = s.links; curves = s.curves; points = s.points + 1; patterns = s.patterns; multipliers = s.multipliers; demands = s.demands; rules = s.rules; clauses = s.clauses }))
          w1 f1
      unfolding add_point
      goes_on-law w1 f1 k ew ef =
          let p : Point = record { curve = i; x = x; y = y } in
          let h1 = add-point h p (count-points h) k ew ef in
          rw (e, q, lt-ltb (length m.points) room_points (omega (arith, k, count-points h))) (rw (h.counts, length-append), h1)
