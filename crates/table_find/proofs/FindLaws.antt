-- The rows of a kind of record, and where a walk over them may start. Assumes nothing.
use Prim.Native.Nat.{ℕ, ◌+◌, ◌≤◌, ◌<◌}
use native.Mathlib.Omega.{arith}
use mathlib.Core.Path.{◌≡◌, refl, ap, ◌∙◌}
use mathlib.Core.List.{List}
use lib.ListN.{length, get_or}
use Rattle.scope.specs.Records.{Network, counts_of, records_of, ids_of}
use Rattle.scope.specs.Tables.{slot_of}
use Rattle.scope.specs.Layout.{node_slots_at, link_slots_at, curve_slots_at, pattern_slots_at}
use Rattle.scope.specs.declared.Kind.{Kind}
use Rattle.scope.specs.declared.Kind.TheVariants.{Nodes, Links, Curves, Patterns, Rules}
use Rattle.table_rows.specs.Holding.{Words, Rows, NotInSlot}
use Rattle.table_find.specs.Finding.{base_of, width_of, StartsAt}
use Rattle.table_rows.proofs.ReadLaws.{node-rows, link-rows, curve-rows, pattern-rows, rule-rows, node-count, link-count, rule-count}
use Rattle.table_find.proofs.StartLaws.{nodes-before, links-before, curves-before, patterns-before}

pub base-small : (k : Kind) → base_of k < 65536
base-small Nodes = omega arith
base-small Links = omega arith
base-small Curves = omega arith
base-small Patterns = omega arith
base-small Rules = omega arith

pub ids-long : (k : Kind) (m : Network) → records_of k (counts_of m) ≡ length (ids_of k m)
ids-long Nodes m = node-count m
ids-long Links m = link-count m
ids-long Curves m = refl
ids-long Patterns m = refl
ids-long Rules m = rule-count m

pub kind-rows : {text : List ℕ} {m : Network} {w : List ℕ} → Words text m w → (k : Kind) → Rows text w (base_of k) (width_of k) (ids_of k m)
kind-rows h Nodes = node-rows h
kind-rows h Links = link-rows h
kind-rows h Curves = curve-rows h
kind-rows h Patterns = pattern-rows h
kind-rows h Rules = rule-rows h

-- ---- where a walk may start: by the slot, and at the first rule
module _ (w : List ℕ) (key count slot b : ℕ) (e : slot ≡ slot_of key) (l : b ≤ count) where
  pub nodes-start : NotInSlot (get_or w (node_slots_at + slot) 0) b → StartsAt w Nodes key count b
  nodes-start o text m h c name q = nodes-before h name slot b (e ∙ ap slot_of q) (omega (arith, l, c)) o

  pub links-start : NotInSlot (get_or w (link_slots_at + slot) 0) b → StartsAt w Links key count b
  links-start o text m h c name q = links-before h name slot b (e ∙ ap slot_of q) (omega (arith, l, c)) o

  pub curves-start : NotInSlot (get_or w (curve_slots_at + slot) 0) b → StartsAt w Curves key count b
  curves-start o text m h c name q = curves-before h name slot b (e ∙ ap slot_of q) (omega (arith, l, c)) o

  pub patterns-start : NotInSlot (get_or w (pattern_slots_at + slot) 0) b → StartsAt w Patterns key count b
  patterns-start o text m h c name q = patterns-before h name slot b (e ∙ ap slot_of q) (omega (arith, l, c)) o

pub rules-start : (w : List ℕ) (key count : ℕ) → StartsAt w Rules key count 0
rules-start w key count text m h c name q j l = absurd (omega arith)
