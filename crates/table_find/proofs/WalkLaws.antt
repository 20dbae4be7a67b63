-- The walk over a table's rows, and what is passed on the way. Assumes nothing.
use Rattle.std.specs.Prelude.{None, Some}
use Prim.Native.Nat.{ℕ, zero, suc, ◌+◌, ◌*◌, ◌≤◌, ◌<◌}
use native.Mathlib.Omega.{arith}
use native.Mathlib.Numerals.{add-one}
use mathlib.Core.Path.{◌≡◌, refl, sym, ◌∙◌}
use mathlib.Core.Bool.{Bool, true, false}
use mathlib.Core.List.{List}
use lib.ListN.{length, drop, get_or}
use Rattle.leaf_fields.specs.Fields.{Name}
use Rattle.leaf_letters.specs.Words.{same}
use Rattle.scope.specs.Records.{lookup, lookup_from, no_name}
use Rattle.table_rows.specs.Holding.{Row, Rows, SomeRow, SomeRows, OtherNames}
use Rattle.table_find.proofs.LookLaws.{look-here, look-on, look-end}

-- ---- the rows that are left
module _ (text w : List ℕ) (base stride count : ℕ) (name : List ℕ) where
  -- the rows before row i have other names
  abbrev pub Searched : ℕ → Type 0
  Searched i = (i ≤ count) × ((ns : List Name) → count ≡ length ns → Rows text w base stride ns → lookup_from i (drop i ns) name ≡ lookup ns name)

  names-past : (ns : List Name) → Rows text w base stride ns → (b : ℕ) → b ≤ length ns → OtherNames text w base stride name b → lookup_from b (drop b ns) name ≡ lookup ns name
  names-past ns rows zero h o = refl
  names-past ns rows (suc i) h o =
      let b : i < length ns = omega arith in
      sym (look-on ns i name b (o i (omega arith) (get_or ns i no_name) (rows i b))) ∙ names-past ns rows i (omega arith) (λ j l. o j (omega arith))

  pub start-search : (b : ℕ) → b ≤ count → OtherNames text w base stride name b → Searched b
  start-search b h o = (h, λ ns k rows. names-past ns rows b (omega (arith, k)) o)

  module _ (i : ℕ) (g : Searched i) where
    module _ (t : Bool) (is : (n : Name) → Row text w (base + i * stride) n → t ≡ same n.letters name) where
      pub next-search : i < count → t ≡ false → Searched (i + 1)
      next-search h f = (
        omega arith,
        λ ns k rows.
            let b : i < length ns = omega (arith, k) in
            rw add-one (sym (look-on ns i name b (sym (is (get_or ns i no_name) (rows i b)) ∙ f)) ∙ g.1 ns k rows),
      )

      pub found-search : i < count → t ≡ true → (ns : List Name) → count ≡ length ns → Rows text w base stride ns → Some i ≡ lookup ns name
      found-search h f ns k rows =
          let b : i < length ns = omega (arith, k) in
          sym (look-here ns i name b (sym (is (get_or ns i no_name) (rows i b)) ∙ f)) ∙ g.1 ns k rows

    pub none-search : count ≤ i → (ns : List Name) → count ≡ length ns → Rows text w base stride ns → None ≡ lookup ns name
    none-search h ns k rows = sym (look-end ns i name (omega (arith, k))) ∙ g.1 ns k rows

-- ---- the rows of a table
module _ {text w : List ℕ} {base stride count : ℕ} (p : SomeRows text w base stride count) where
  pub row_inside : (i : ℕ) → i < count → base + i * stride + 2 < length w
  row_inside i h = omega (arith, (p.rows i (omega (arith, p.long))).room)

  pub some-row : (i : ℕ) → i < count → SomeRow text w (base + i * stride)
  some-row i h = record { name = get_or p.names i no_name; row = p.rows i (omega (arith, p.long)) }
