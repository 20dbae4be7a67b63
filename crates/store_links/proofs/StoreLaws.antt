-- What storing a link makes of the network. Assumes nothing.
use Rattle.std.specs.Prelude.{Err, None, Ok, Some, Option}
use Prim.Native.Nat.{ℕ, ◌+◌, ◌*◌, ◌≤◌, ◌<◌}
use native.Mathlib.Omega.{arith}
use borrow.Author.Tests.{lt-ltb, le-ltb}
use Rattle.std.specs.Option.{is_some}
use mathlib.Core.Bool.{true, false}
use mathlib.Core.Path.{◌≡◌, refl, ap, ◌∙◌}
use mathlib.Core.List.{List, [], ◌∷◌, ◌++◌}
use lib.ListN.{length, get_or, length-append}
use lib.Ieee.{Float}
use Rattle.leaf_fields.specs.Fields.{Name}
use Rattle.scope.specs.declared.Reason.TheVariants.{Used, NoRoom}
use Rattle.scope.specs.declared.Counts.{Counts}
use Rattle.scope.specs.Sections.{room_links}
use Rattle.scope.specs.Records.{Network, Link, LinkKind, pipe, pump, valve, lookup, link_ids}
use Rattle.scope.specs.Links.{Ends, new_link, add_link}
use Rattle.scope.specs.Tables.{id_words, name_words, type_no, link_kind_words, link_words, link_numbers}
use Rattle.table_rows.specs.Table.{splice}
use Rattle.scope.specs.Layout.{link_numbers_at, link_numbers_width}
use Rattle.table_rows.specs.Adding.{link_added}
use Rattle.table_rows.specs.Holding.{Sits, Holds, After}
use Rattle.table_rows.proofs.HoldLaws.{add-link, count-links}

-- ---- the words of a link, one by one
name-pair : (n : Option Name) → get_or (name_words n) 0 0 ∷ get_or (name_words n) 1 0 ∷ [] ≡ name_words n
name-pair (Some n) = refl
name-pair None = refl

kind_row : (k : LinkKind) → get_or (link_kind_words k) 0 0 ∷ get_or (link_kind_words k) 1 0 ∷ get_or (link_kind_words k) 2 0 ∷ get_or (link_kind_words k) 3 0 ∷ [] ≡ link_kind_words k
kind_row (pipe p) = refl
kind_row (pump p) = ap (λ (x : List ℕ). 2 ∷ 0 ∷ x) (name-pair p.head)
kind_row (valve v) = ap (λ (x : List ℕ). 3 ∷ type_no v.type ∷ x) (name-pair v.curve)

pub link_row : (x : Link) {i k : List ℕ} → i ≡ id_words x.id → k ≡ link_kind_words x.kind
    → get_or i 0 0 ∷ get_or i 1 0 ∷ get_or i 2 0 ∷ x.start ∷ x.end ∷ get_or k 0 0 ∷ get_or k 1 0 ∷ get_or k 2 0 ∷ get_or k 3 0 ∷ [] ≡ link_words x
link_row x ei ek = rw (ei, ek) (ap (λ (r : List ℕ). id_words x.id ++ (x.start ∷ x.end ∷ r)) (kind_row x.kind))

-- ---- adding a link whose ends are known
none-of : {A : Type 0} (o : Option A) → is_some o ≡ false → o ≡ None
none-of None t = refl
none-of (Some x) t = cc

module _ {text : List ℕ} {m : Network} {s : Counts} {w : List ℕ} {f : List Float} (h : Holds text m s w f) (id : Name) (e : Ends) (k : LinkKind) where
  pub link-used : (o : Option ℕ) → lookup (link_ids m) id.letters ≡ o → is_some o ≡ true → After text (add_link id e k m) (Err Used) w f w f
  unfolding add_link
  link-used (Some i) used t = rw used (refl, refl, refl)
  link-used None used t = cc

  module _ (o : Option ℕ) (looked : lookup (link_ids m) id.letters ≡ o) (t : is_some o ≡ false) where
    free : lookup (link_ids m) id.letters ≡ None
    free = looked ∙ none-of o t

    pub links-full : room_links ≤ s.links → After text (add_link id e k m) (Err NoRoom) w f w f
    unfolding add_link
    links-full n = rw (free, le-ltb (length m.links) room_links (omega (arith, n, count-links h))) (refl, refl, refl)

    pub link-stored : {w1 : List ℕ} {f1 : List Float} → Sits text id → s.links < room_links
        → w1 ≡ link_added w s.links (new_link id e k)
        → f1 ≡ splice f (link_numbers_at + s.links * link_numbers_width) (link_numbers (new_link id e k))
        → After text (add_link id e k m)
        (Ok (record { nodes = s.nodes; links = s.links + 1; curves = s.curves; points = s.points; patterns = s.patterns; multipliers = s.multipliers; demands = s.demands; rules = s.rules; clauses = s.clauses }))
        w f w1 f1
    unfolding add_link
    link-stored sits n ew ef =
        let held = add-link h (new_link id e k) (count-links h) n sits ew ef in
        rw (free, lt-ltb (length m.links) room_links (omega (arith, n, count-links h))) (rw (h.counts, length-append), held)
