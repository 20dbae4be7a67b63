-- What storing a pattern makes of the network. Assumes nothing.
use Rattle.leaf_decimals.specs.declared.NumberError.{NumberError}
use Rattle.std.specs.Prelude.{Err, None, Ok, Option, Result, Some}
use Prim.Native.Nat.{ℕ, suc, ◌+◌, ◌≤◌, ◌<◌}
use native.Mathlib.Omega.{arith}
use borrow.Author.Tests.{lt-ltb, le-ltb, le-leb, lt-leb}
use mathlib.Core.Path.{◌≡◌, refl, sym, ap, ◌∙◌}
use mathlib.Core.Bool.{Bool, true, false, ◌&&◌}
use mathlib.Core.List.{List, [], ◌∷◌}
use lib.ListN.{length, drop, replicate, length-append, length-drop, length-map}
use lib.Dec.{ltb}
use lib.Ieee.{Float}
use Rattle.leaf_decimals.specs.Numbers.{number_of}
use Rattle.leaf_decimals.specs.declared.NumberError.TheVariants.{Malformed, Beyond}
use Rattle.leaf_fields.specs.Fields.{Name, part, name_in, fields_at, Fits}
use Rattle.leaf_fields.specs.declared.Span.{Span}
use Rattle.scope.specs.Records.{Network, lookup}
use Rattle.scope.specs.Sections.{room_patterns, room_multipliers}
use Rattle.scope.specs.Values.{Read, good, bad, on_read, on_took, as_number}
use Rattle.scope.specs.Series.{multipliers_of, add_pattern}
use Rattle.scope.specs.declared.Counts.{Counts}
use Rattle.scope.specs.declared.Reason.TheVariants.{NoRoom}
use Rattle.table_rows.specs.Table.{splice}
use Rattle.scope.specs.Layout.{multipliers_at, multiplier_numbers_at}
use Rattle.table_rows.specs.Adding.{pattern_added}
use Rattle.table_rows.specs.Holding.{Holds, After}
use Rattle.table_rows.proofs.HoldLaws.{sits-span, add-pattern, add-multipliers, count-patterns, count-multipliers}
use Rattle.parse_series.specs.Lines.{Multipliers}
use Rattle.parse_series.proofs.PatternLaws.{line-le}

-- as many multipliers as fields
on-long : (n : Result Float NumberError) (fs : List Name) (o : Read (List Float)) (xs : List Float) → ((ys : List Float) → o ≡ good ys → length ys ≡ length fs)
    → on_took (as_number n fs) (λ x rest. on_read o (λ ys. good (x ∷ ys))) ≡ good xs → length xs ≡ suc (length fs)
on-long (Ok x) fs (good ys) xs f e = let q : x ∷ ys ≡ xs = cc in sym (ap length q) ∙ ap suc (f ys refl)
on-long (Ok x) fs (bad k) xs f e = absurd (let z : ◌≡◌ {A = ℕ} 0 1 = cc in omega arith)
on-long (Err Malformed) fs o xs f e = absurd (let z : ◌≡◌ {A = ℕ} 0 1 = cc in omega arith)
on-long (Err Beyond) fs o xs f e = absurd (let z : ◌≡◌ {A = ℕ} 0 1 = cc in omega arith)

values-long : (fs : List Name) (xs : List Float) → multipliers_of fs ≡ good xs → length xs ≡ length fs
unfolding multipliers_of
values-long [] xs e = let q : [] ≡ xs = cc in sym (ap length q)
values-long (f ∷ fs) xs e = on-long (number_of f.letters) fs (multipliers_of fs) xs (values-long fs) e

-- no more multipliers than bytes of the line and places of the slice
pub count-le : {l : List ℕ} {first : List Float} {count rest : ℕ} {xs : List Float} → Multipliers l first count rest xs → count ≤ length l + length first
count-le {l} {first} {count} {rest} {xs} g =
    omega (arith, g.long, length-drop (length first) xs, values-long (fields_at l rest) (drop (length first) xs) g.left, line-le l rest)

module _ {text : List ℕ} {m : Network} {s : Counts} {w : List ℕ} {f : List Float} (h : Holds text m s w f) (id : Span) (xs : List Float) where
  and-false : (t : Bool) → (t && false) ≡ false
  and-false true = refl
  and-false false = refl

  abbrev letters : List ℕ
  letters = part id.at id.end text

  found-full : (o : Option ℕ) → lookup m.patterns letters ≡ o → room_multipliers < s.multipliers + length xs → After text (add_pattern (name_in text id) xs m) (Err NoRoom) w f w f
  unfolding add_pattern
  found-full (Some i) e k = rw (e, lt-leb (length m.multipliers + length xs) room_multipliers (omega (arith, k, count-multipliers h))) (refl, refl, refl)
  found-full None e k =
      rw (e, lt-leb (length m.multipliers + length xs) room_multipliers (omega (arith, k, count-multipliers h)), and-false (ltb (length m.patterns) room_patterns)) (refl, refl, refl)

  pub values-full : room_multipliers < s.multipliers + length xs → After text (add_pattern (name_in text id) xs m) (Err NoRoom) w f w f
  values-full k = found-full (lookup m.patterns letters) refl k

  pub patterns-full : lookup m.patterns letters ≡ None → room_patterns ≤ s.patterns → After text (add_pattern (name_in text id) xs m) (Err NoRoom) w f w f
  unfolding add_pattern
  patterns-full e k = rw (e, le-ltb (length m.patterns) room_patterns (omega (arith, k, count-patterns h))) (refl, refl, refl)

  module _ (fit : s.multipliers + length xs ≤ room_multipliers) where
    pub goes_on-law : (i : ℕ) (w1 : List ℕ) (f1 : List Float) → lookup m.patterns letters ≡ Some i
        → w1 ≡ splice w (multipliers_at + s.multipliers) (replicate (length xs) i) → f1 ≡ splice f (multiplier_numbers_at + s.multipliers) xs
        → After text (add_pattern (name_in text id) xs m)
        (Ok (record { nodes = s.nodes; links = s.links; curves = s.curves; points = s.points; patterns = s.patterns; multipliers = s.multipliers + length xs; demands = s.demands; rules = s.rules; clauses = s.clauses }))
        w f w1 f1
    unfolding add_pattern
    goes_on-law i w1 f1 e ew ef =
        let h1 = add-multipliers h i xs (count-multipliers h) fit ew ef in
        rw (e, le-leb (length m.multipliers + length xs) room_multipliers (omega (arith, fit, count-multipliers h))) (rw (h.counts, length-append, length-map), h1)

    pub starts : (w1 w2 : List ℕ) (f1 : List Float) → lookup m.patterns letters ≡ None → Fits text id → s.patterns < room_patterns
        → w1 ≡ pattern_added w s.patterns (name_in text id)
        → w2 ≡ splice w1 (multipliers_at + s.multipliers) (replicate (length xs) s.patterns) → f1 ≡ splice f (multiplier_numbers_at + s.multipliers) xs
        → After text (add_pattern (name_in text id) xs m)
        (Ok (record { nodes = s.nodes; links = s.links; curves = s.curves; points = s.points; patterns = s.patterns + 1; multipliers = s.multipliers + length xs; demands = s.demands; rules = s.rules; clauses = s.clauses }))
        w f w2 f1
    unfolding add_pattern
    starts w1 w2 f1 e fits k ew1 ew2 ef =
        let h1 = add-pattern h (name_in text id) (count-patterns h) k (sits-span text id fits) ew1 in
        let ew : w2 ≡ splice w1 (multipliers_at + s.multipliers) (replicate (length xs) (length m.patterns)) = rw (← count-patterns h) ew2 in
        let h2 = add-multipliers h1 (length m.patterns) xs (count-multipliers h) fit ew ef in
        rw (e, lt-ltb (length m.patterns) room_patterns (omega (arith, k, count-patterns h)), le-leb (length m.multipliers + length xs) room_multipliers (omega (arith, fit, count-multipliers h)))
        (rw (h.counts, length-append, length-append, length-map), h2)
