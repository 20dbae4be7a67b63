-- What a condition and an action are, from what the code was told. Assumes nothing.
use Rattle.std.specs.Prelude.{None, Some, Option}
use Prim.Native.Nat.{ℕ}
use Rattle.std.specs.Prelude.{Err, IsErr, IsErrAnd, Result}
use Rattle.std.proofs.lemmas.Result.{err_from_is_err_and}
use Rattle.scope.specs.declared.Reason.{Reason}
use mathlib.Core.Path.{◌≡◌, ◌∙◌, ap, refl}
use mathlib.Core.Bool.{Bool, true, false, cond}
use mathlib.Core.List.{List, [], ◌∷◌}
use lib.ListN.{get_or}
use Rattle.leaf_fields.specs.Fields.{Name}
use Rattle.leaf_letters.specs.Words.{same}
use Rattle.scope.specs.declared.Target.{Target}
use Rattle.scope.specs.declared.Value.{Value}
use Rattle.scope.specs.declared.Operator.TheVariants as operator
use Rattle.scope.specs.declared.Reason.TheVariants.{Missing, NotFound, UnknownWord}
use Rattle.scope.specs.Records.{Network, link_ids, lookup, no_link}
use Rattle.scope.specs.Spelling.{word_rule, word_if, word_and, word_or, word_then, word_else, word_priority, word_is}
use Rattle.scope.specs.Values.{Read, good, bad, on_read, on_took, on_found, name_from}
use Rattle.scope.specs.Rules.{system_target, system_from, named_from, kind_fits, action_of, deed_of, Draft, ruled, conditioned, acted, anded, ranked, line_of}
use Rattle.rule_clauses.specs.declared.RuleWord.TheVariants as word
use Rattle.rule_clauses.specs.Clauses.{attribute_from, head_from, deed_from, action_with, action_at, rule_word, line_by}

-- what `?` hands on
pub handed-on : {A : Type 0} {r : Result A Reason} {why : Reason} → IsErr r × IsErrAnd r (λ x. x ≡ why) → r ≡ Err why
handed-on {A} {r} h = let (e, is, q) = err_from_is_err_and r h.1 in is ∙ ap Err q

-- ---- targets
pub system_is : (fs : List Name) → system_from fs ≡ attribute_from system_target None fs
system_is [] = refl
system_is (a ∷ fs) = refl

pub named_is : (target : List ℕ → Option Target) (n : Name) (fs : List Name) → named_from target (n ∷ fs) ≡ attribute_from target (Some n) fs
named_is target n [] = refl
named_is target n (a ∷ fs) = refl

-- ---- an action in its three parts
deed-out : (i : ℕ) (id : Name) (otherwise : Bool) (fs : List Name)
    → on_took (name_from fs) (λ what fs.
    on_took (name_from fs) (λ is fs.
    cond (same is.letters word_is)
    (on_took (name_from fs) (λ v fs.
    on_read (deed_of what.letters v) (λ value.
    good (action_with otherwise i id value))))
    (bad UnknownWord)))
    ≡ on_read (deed_from fs) (λ v. good (action_with otherwise i id v))
unfolding deed_from
deed-out i id otherwise [] = refl
deed-out i id otherwise (a ∷ []) = refl
deed-out i id otherwise (a ∷ b ∷ []) = go (same b.letters word_is)
  where
    go : (t : Bool) → cond t (bad Missing) (bad UnknownWord) ≡ on_read (cond t (bad Missing) (bad UnknownWord)) (λ v. good (action_with otherwise i id v))
    go true = refl
    go false = refl
deed-out i id otherwise (a ∷ b ∷ v ∷ fs) = go (same b.letters word_is) (deed_of a.letters v)
  where
    go : (t : Bool) (r : Read Value) → cond t (on_read r (λ value. good (action_with otherwise i id value))) (bad UnknownWord)
        ≡ on_read (cond t r (bad UnknownWord)) (λ value. good (action_with otherwise i id value))
    go true r = refl
    go false r = refl

pub action-parts : (otherwise : Bool) (m : Network) (fs : List Name)
    → action_of otherwise m fs ≡ on_took (head_from fs) (λ h fs. action_at otherwise m h fs (lookup (link_ids m) h.id.letters))
unfolding action_of
action-parts otherwise m [] = refl
action-parts otherwise m (k ∷ []) = refl
action-parts otherwise m (k ∷ id ∷ fs) = go (lookup (link_ids m) id.letters)
  where
    on : (i : ℕ) (r : Read Unit) → on_read r (λ fits.
        on_took (name_from fs) (λ what fs.
        on_took (name_from fs) (λ is fs.
        cond (same is.letters word_is)
        (on_took (name_from fs) (λ v fs.
        on_read (deed_of what.letters v) (λ value.
        good (action_with otherwise i id value))))
        (bad UnknownWord)))) ≡ on_read r (λ fits. on_read (deed_from fs) (λ v. good (action_with otherwise i id v)))
    on i (good u) = deed-out i id otherwise fs
    on i (bad why) = refl

    go : (f : Option ℕ) → on_found f (λ i.
        on_read (kind_fits k.letters (get_or m.links i no_link).kind) (λ fits.
        on_took (name_from fs) (λ what fs.
        on_took (name_from fs) (λ is fs.
        cond (same is.letters word_is)
        (on_took (name_from fs) (λ v fs.
        on_read (deed_of what.letters v) (λ value.
        good (action_with otherwise i id value))))
        (bad UnknownWord)))))
        (bad NotFound) ≡ action_at otherwise m (record { kind = k; id = id }) fs f
    go (Some i) = on i (kind_fits k.letters (get_or m.links i no_link).kind)
    go None = refl

-- ---- a line, by its first word
pub line-by : (m : Network) (d : Draft) (w : Name) (fs : List Name) → line_of m d (w ∷ fs) ≡ line_by (rule_word w.letters) m d fs
unfolding line_of rule_word
line-by m d w fs =
    go (same w.letters word_rule) (same w.letters word_if) (same w.letters word_or) (same w.letters word_then) (same w.letters word_and)
    (same w.letters word_else) (same w.letters word_priority)
  where
    go : (a b c e f g h : Bool)
        → cond a (ruled fs d) (cond b (conditioned operator.And fs d)
        (cond c (conditioned operator.Or fs d) (cond e (acted true d.otherwise false m fs d)
        (cond f (anded d.acting m fs d) (cond g (acted d.acting true true m fs d) (cond h (ranked fs d) (bad UnknownWord)))))))
        ≡ line_by (cond a (Some word.Rule) (cond b (Some word.If) (cond c (Some word.Or) (cond e (Some word.Then) (cond f (Some word.And) (cond g (Some word.Else) (cond h (Some word.Priority) None))))))) m d fs
    go true b c e f g h = refl
    go false true c e f g h = refl
    go false false true e f g h = refl
    go false false false true f g h = refl
    go false false false false true g h = refl
    go false false false false false true h = refl
    go false false false false false false true = refl
    go false false false false false false false = refl
