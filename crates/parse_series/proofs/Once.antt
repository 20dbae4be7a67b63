-- No second answer fits. Two answers of `read_demand` that fit one line are the same, the places of the names too. Two of `read_pattern`, with slices of one length, refuse for the same
-- reason or have the same id, the same count and the same first multipliers in the slices; from the places where the others start the same are read. Assumes nothing.
use Rattle.parse_series.specs.declared.DemandLine.{DemandLine}
use Rattle.scope.specs.declared.Reason.{Reason}
use Rattle.std.specs.Prelude.{Err, Ok, Result}
use Prim.Native.Nat.{ℕ}
use native.Mathlib.Omega.{arith}
use mathlib.Core.Path.{◌≡◌, sym, ap, ◌∙◌}
use mathlib.Core.List.{List}
use lib.ListN.{length, take}
use lib.Ieee.{Float}
use Rattle.leaf_fields.specs.Fields.{fields_at, name_in}
use Rattle.leaf_fields.proofs.FieldLaws.{span-once, opt-once}
use Rattle.scope.specs.Values.{Read}
use Rattle.scope.specs.Series.{multipliers_of, PatternFields, DemandFields}
use Rattle.parse_fields.proofs.Once.{read-once}
use Rattle.parse_series.specs.Lines.{PatternAs, DemandAs}
use Rattle.parse_series.specs.declared.PatternLine.{PatternLine}

-- ---- a pattern
pub record Alike (l : List ℕ) (f g : List Float) (p q : PatternLine) : Type 0 where
  pub id : p.id ≡ q.id
  pub count : p.count ≡ q.count
  pub kept : take p.count f ≡ take q.count g
  pub left : multipliers_of (fields_at l p.rest) ≡ multipliers_of (fields_at l q.rest)

abbrev pub AlikeRead : List ℕ → List Float → List Float → Result PatternLine Reason → Result PatternLine Reason → Type 0
AlikeRead l f g (Ok p) (Ok q) = Alike l f g p q
AlikeRead l f g (Ok p) (Err why) = ⊥
AlikeRead l f g (Err why) (Ok q) = ⊥
AlikeRead l f g (Err why) (Err also) = why ≡ also

pub pattern-once : (l : List ℕ) (o : Read PatternFields) (f g : List Float) (r s : Result PatternLine Reason) → length f ≡ length g
    → PatternAs l f o r → PatternAs l g o s → AlikeRead l f g r s
pattern-once l o f g (Ok p) (Ok q) n a b =
    let h : ◌≡◌ {A = PatternFields} (record { id = name_in l p.id; values = a.values }) (record { id = name_in l q.id; values = b.values }) = cc (a.whole, b.whole) in
    let v : a.values ≡ b.values = ap PatternFields.values h in
    record {
      id = span-once l a.fits b.fits (ap PatternFields.id h);
      count = sym a.read.long ∙ ap length v ∙ b.read.long;
      kept = a.read.kept ∙ (cc) ∙ sym b.read.kept;
      left = a.read.left ∙ (cc) ∙ sym b.read.left;
    }
pattern-once l o f g (Ok p) (Err why) n a b = let z : ◌≡◌ {A = ℕ} 0 1 = cc a.whole in absurd (omega arith)
pattern-once l o f g (Err why) (Ok q) n a b = let z : ◌≡◌ {A = ℕ} 0 1 = cc b.whole in absurd (omega arith)
pattern-once l o f g (Err why) (Err also) n a b = cc

-- ---- a demand
pub demand-once : (l : List ℕ) (o : Read DemandFields) (r s : Result DemandLine Reason) → DemandAs l o r → DemandAs l o s → r ≡ s
demand-once l = read-once (λ x y (k, m) (j, n) h. λ i. record {
  id = span-once l k j (ap DemandFields.id h) i;
  base = (h i).base;
  pattern = opt-once l x.pattern y.pattern m n (ap DemandFields.pattern h) i;
})
