-- Forgetting places commutes with the ways in which a reader's definition is put together: taking a field, reading on, looking a name up, choosing; and with the lists of a
-- network. Assumes nothing.
use Rattle.leaf_decimals.specs.declared.NumberError.{NumberError}
use Rattle.std.specs.Prelude.{Err, None, Ok, Option, Result, Some}
use Prim.Native.Nat.{ℕ, zero, suc}
use mathlib.Core.Path.{◌≡◌, refl, ap, ap₂, sym, ◌∙◌, subst}
use mathlib.Core.Bool.{Bool, true, false, cond}
use mathlib.Core.List.{List, [], ◌∷◌, map}
use lib.ListN.{set}
use lib.Ieee.{Float}
use Rattle.leaf_decimals.specs.Numbers.{number_of}
use Rattle.leaf_decimals.specs.declared.NumberError.TheVariants as number
use Rattle.leaf_fields.specs.Fields.{Name, fields_of}
use Rattle.leaf_letters.specs.Words.{same}
use Rattle.leaf_fields.proofs.FieldLaws.{letters_in, letters-moved}
use Rattle.scope.specs.declared.Reason.{Reason}
use Rattle.scope.specs.Records.{lookup_from, lookup}
use Rattle.scope.specs.Values.{Read, good, bad, on_read, Took, took, refused, on_took, on_found, name_from, optional_from, as_number, number_from, number_or}
use Rattle.scope.specs.Values.{as_swallowed, swallowed_from, flag_from, PairFields, pair_of}
use Rattle.scope.specs.Spelling.{word_true, word_false}
use Rattle.scope.specs.Bare.{forget, forget_maybe}

-- ---- the same is read, but for the places of names: what `f` makes of it
pub data ReadLike {A B : Type 0} (f : A → B) : Read A → Read B → Type 0 where
  goods : {a : A} {b : B} → f a ≡ b → ReadLike f (good a) (good b)
  bads : {r : Reason} → ReadLike f (bad r) (bad r)

pub data TookLike {A B : Type 0} (f : A → B) : Took A → Took B → Type 0 where
  tooks : {a : A} {fs : List Name} → TookLike f (took a fs) (took (f a) (map forget fs))
  refuseds : {r : Reason} → TookLike f (refused r) (refused r)

-- where there is no name in it
abbrev pub itself : {A : Type 0} → A → A
itself a = a

pub same_read : {A : Type 0} (r : Read A) → ReadLike itself r r
same_read (good a) = goods refl
same_read (bad r) = bads

-- ---- the ways in which definitions are put together
module _ {A B C D : Type 0} {f : A → B} {g : C → D} where
  pub on-took : {t : Took A} {t' : Took B} {k : A → List Name → Read C} (k' : B → List Name → Read D) → TookLike f t t'
      → ((a : A) (fs : List Name) → ReadLike g (k a fs) (k' (f a) (map forget fs))) → ReadLike g (on_took t k) (on_took t' k')
  on-took k' (tooks {a} {fs}) h = h a fs
  on-took k' refuseds h = bads

  pub on_read-law : {t : Read A} {t' : Read B} {k : A → Read C} (k' : B → Read D) → ReadLike f t t'
      → ((a : A) → ReadLike g (k a) (k' (f a))) → ReadLike g (on_read t k) (on_read t' k')
  on_read-law {k = k} k' (goods {a} e) h = subst (λ x. ReadLike g (k a) (k' x)) e (h a)
  on_read-law k' bads h = bads

module _ {C D : Type 0} {g : C → D} where
  pub on-found : (t : Option ℕ) {t' : Option ℕ} {k : ℕ → Read C} {k' : ℕ → Read D} {b : Read C} {b' : Read D} → t ≡ t'
      → ((i : ℕ) → ReadLike g (k i) (k' i)) → ReadLike g b b' → ReadLike g (on_found t k b) (on_found t' k' b')
  on-found (Some i) {k = k} {k' = k'} {b' = b'} e h d = subst (λ x. ReadLike g (k i) (on_found x k' b')) e (h i)
  on-found None {k' = k'} {b = b} {b' = b'} e h d = subst (λ x. ReadLike g b (on_found x k' b')) e d

  pub on-cond : (t : Bool) {t' : Bool} {x y : Read C} {x' y' : Read D} → t ≡ t' → ReadLike g x x' → ReadLike g y y' → ReadLike g (cond t x y) (cond t' x' y')
  on-cond true {x = x} {x' = x'} {y' = y'} e p q = subst (λ b. ReadLike g x (cond b x' y')) e p
  on-cond false {y = y} {x' = x'} {y' = y'} e p q = subst (λ b. ReadLike g y (cond b x' y')) e q

  pub on-if : (t : Bool) {x y : Read C} {x' y' : Read D} → ReadLike g x x' → ReadLike g y y' → ReadLike g (cond t x y) (cond t x' y')
  on-if true p q = p
  on-if false p q = q

  pub took-if : (t : Bool) {x y : Took C} {x' y' : Took D} → TookLike g x x' → TookLike g y y' → TookLike g (cond t x y) (cond t x' y')
  took-if true p q = p
  took-if false p q = q

-- ---- the takers
pub name : (fs : List Name) → TookLike forget (name_from fs) (name_from (map forget fs))
name [] = refuseds
name (f ∷ fs) = tooks

pub optional : (fs : List Name) → TookLike forget_maybe (optional_from fs) (optional_from (map forget fs))
optional [] = tooks
optional (f ∷ fs) = tooks

pub as-number : (n : Result Float NumberError) (fs : List Name) → TookLike itself (as_number n fs) (as_number n (map forget fs))
as-number (Ok x) fs = tooks
as-number (Err e) fs = refuseds

pub as-swallowed : (d : Float) (n : Result Float NumberError) (fs : List Name) → TookLike itself (as_swallowed d n fs) (as_swallowed d n (map forget fs))
as-swallowed d (Ok x) fs = tooks
as-swallowed d (Err number.Malformed) fs = tooks
as-swallowed d (Err number.Beyond) fs = refuseds

pub number-from : (fs : List Name) → TookLike itself (number_from fs) (number_from (map forget fs))
number-from [] = refuseds
number-from (f ∷ fs) = as-number (number_of f.letters) fs

pub number-or : (other : List ℕ) (fs : List Name) → TookLike itself (number_or other fs) (number_or other (map forget fs))
number-or other [] = as-number (number_of other) []
number-or other (f ∷ fs) = as-number (number_of f.letters) fs

pub swallowed : (d : Float) (fs : List Name) → TookLike itself (swallowed_from d fs) (swallowed_from d (map forget fs))
swallowed d [] = tooks
swallowed d (f ∷ fs) = as-swallowed d (number_of f.letters) fs

pub flag-from : (fs : List Name) → TookLike itself (flag_from fs) (flag_from (map forget fs))
flag-from [] = tooks
flag-from (f ∷ fs) = took-if (same f.letters word_true) tooks (took-if (same f.letters word_false) tooks refuseds)

abbrev pub forget_pair : PairFields → PairFields
forget_pair p = record { id = forget p.id; x = p.x; y = p.y }

pub pair-of : (fs : List Name) → ReadLike forget_pair (pair_of fs) (pair_of (map forget fs))
unfolding pair_of
pair-of fs =
    on-took _ (name fs) (λ id fs.
    on-took _ (number-from fs) (λ x fs.
    on-took _ (number-from fs) (λ y fs. goods refl)))

-- ---- looking a name up, by its letters alone
pub lookup-forget : (i : ℕ) (ns : List Name) (w : List ℕ) → lookup_from i ns w ≡ lookup_from i (map forget ns) w
unfolding lookup_from
lookup-forget i [] w = refl
lookup-forget i (n ∷ ns) w = ap (cond (same n.letters w) (Some i)) (lookup-forget (suc i) ns w)

-- ---- lists
module _ {A B C D : Type 0} (f : B → D) (g : A → B) (f' : A → C) (g' : C → D) (h : (a : A) → f (g a) ≡ g' (f' a)) where
  pub map-square : (xs : List A) → map f (map g xs) ≡ map g' (map f' xs)
  map-square [] = refl
  map-square (x ∷ xs) = ap₂ {B = List D} ◌∷◌ (h x) (map-square xs)

pub map-set : {A B : Type 0} (f : A → B) (xs : List A) (i : ℕ) (x : A) → map f (set xs i x) ≡ set (map f xs) i (f x)
map-set f [] i x = refl
map-set f (y ∷ xs) zero x = refl
map-set f (y ∷ xs) (suc i) x = ap {B = List _} (f y ∷◌) (map-set f xs i x)

-- the records `xs` are named by `id`, and `f` forgets the places of their names
pub lookup-ids : {X : Type 0} (id : X → Name) (f : X → X) → ((x : X) → forget (id x) ≡ id (f x)) → (xs : List X) (w : List ℕ)
    → lookup (map id xs) w ≡ lookup (map id (map f xs)) w
lookup-ids id f h xs w = lookup-forget 0 (map id xs) w ∙ ap (λ ns. lookup ns w) (map-square forget id f id h xs)

-- ---- fields: only their places depend on where the line stands
abbrev at_zero : List ℕ → Name
at_zero l = record { at = 0; letters = l }

forget-letters : (fs : List Name) → map forget fs ≡ map at_zero (letters_in fs)
forget-letters [] = refl
forget-letters (f ∷ fs) = ap {B = List Name} (forget f ∷◌) (forget-letters fs)

pub fields-moved : (p q : ℕ) (l : List ℕ) → map forget (fields_of p l) ≡ map forget (fields_of q l)
fields-moved p q l = forget-letters (fields_of p l) ∙ ap (map at_zero) (letters-moved p q l) ∙ sym (forget-letters (fields_of q l))
