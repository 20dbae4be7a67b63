-- What a line of a group says, and what it makes of the draft. Assumes nothing.
use Rattle.std.specs.Prelude.{Err, None, Ok, Option, Result, Some}
use Prim.Native.Nat.{ℕ, ◌+◌, ◌≤◌, ◌<◌}
use native.Mathlib.Omega.{arith}
use mathlib.Core.Path.{◌≡◌, refl, sym, ap, ◌∙◌}
use mathlib.Core.Bool.{Bool, true, false}
use mathlib.Core.List.{List, [], ◌∷◌}
use lib.ListN.{length, take, get_or, length-append, length-take}
use Rattle.leaf_fields.specs.Fields.{Name, name_in, Fits}
use Rattle.leaf_fields.specs.declared.Span.{Span}
use Rattle.leaf_fields.proofs.FieldLaws.{part-take}
use Rattle.scope.specs.declared.Operator.TheVariants as operator
use Rattle.scope.specs.declared.Reason.{Reason}
use Rattle.scope.specs.Records.{Network, Action, Clause, link_ids, lookup, condition, action, with_clauses, no_link}
use Rattle.scope.specs.Values.{Read, good, bad, on_read, count_from}
use Rattle.scope.specs.Rules.{kind_fits, Draft, anded, action_of, condition_of, line_of}
use Rattle.rule_clauses.specs.Clauses.{opt_in, MayFit, Head, deed_from, action_with, action_at, rule_word, line_by}
use Rattle.rule_clauses.specs.declared.RuleWord.{RuleWord}
use Rattle.rule_clauses.specs.declared.RuleWord.TheVariants as word
use Rattle.rule_clauses.proofs.ClauseLaws.{line-by}
use Rattle.scope.specs.Layout.{record_words}
use Rattle.scope.specs.Sections.{room_links}
use Rattle.table_rows.specs.Holding.{Words}
use Rattle.table_find.proofs.LookLaws.{found_below}
use Rattle.table_rows.proofs.ReadLaws.{link-count}
use Rattle.table_rows.proofs.EmptyLaws.{words_long}
use Rattle.rule_lines.specs.declared.Saying.{Saying}
use Rattle.rule_lines.specs.declared.Saying.TheVariants as saying
use Rattle.rule_lines.specs.Lines.{Said, said_id, said_rank, said_condition, said_action, with_said, and_said, said_by, said_of, said_in, SayingFits, LineFits}

-- ---- one thing after another
on_then : {A B C : Type 0} (x : Read A) (f : A → B) (g : B → C) → on_read x (λ a. good (g (f a))) ≡ on_read (on_read x (λ a. good (f a))) (λ b. good (g b))
on_then (good a) f g = refl
on_then (bad why) f g = refl

-- ---- what a line says is what it makes of the draft
and-said : (t : Bool) (m : Network) (d : Draft) (fs : List Name) → anded t m fs d ≡ on_read (and_said t m d.otherwise fs) (λ s. good (with_said s d))
and-said true m d fs = on_then (action_of d.otherwise m fs) (said_action true d.otherwise) (λ s. with_said s d)
and-said false m d fs = on_then (condition_of operator.And fs) said_condition (λ s. with_said s d)

by_said : (w : Option RuleWord) (m : Network) (d : Draft) (fs : List Name) → line_by w m d fs ≡ on_read (said_by w m d.acting d.otherwise fs) (λ s. good (with_said s d))
by_said (Some word.Rule) m d [] = refl
by_said (Some word.Rule) m d (n ∷ fs) = refl
by_said (Some word.If) m d fs = on_then (condition_of operator.And fs) said_condition (λ s. with_said s d)
by_said (Some word.Or) m d fs = on_then (condition_of operator.Or fs) said_condition (λ s. with_said s d)
by_said (Some word.Then) m d fs = on_then (action_of false m fs) (said_action true d.otherwise) (λ s. with_said s d)
by_said (Some word.And) m d fs = and-said d.acting m d fs
by_said (Some word.Else) m d fs = on_then (action_of true m fs) (said_action d.acting true) (λ s. with_said s d)
by_said (Some word.Priority) m d fs = on_then (count_from fs) said_rank (λ s. with_said s d)
by_said None m d fs = refl

pub line-said : (m : Network) (d : Draft) (fs : List Name) → line_of m d fs ≡ on_read (said_of m d.acting d.otherwise fs) (λ s. good (with_said s d))
unfolding line_of said_of
line-said m d [] = refl
line-said m d (w ∷ fs) = line-by m d w fs ∙ by_said (rule_word w.letters) m d fs

-- ---- names of a line are names of the text
module _ (text : List ℕ) (end : ℕ) where
  fits-text : (s : Span) → Fits (take end text) s → Fits text s
  fits-text s h = record { some = h.some; inside = omega (arith, h.inside, length-take end text) }

  name-text : (s : Span) → Fits (take end text) s → name_in (take end text) s ≡ name_in text s
  name-text s h = let k : s.end ≤ end = omega (arith, h.inside, length-take end text) in rw (part-take s.at s.end end text k)

  may-text : (f : Option Span) → MayFit (take end text) f → MayFit text f
  may-text (Some s) h = fits-text s h
  may-text None h = tt

  opt-text : (f : Option Span) → MayFit (take end text) f → opt_in (take end text) f ≡ opt_in text f
  opt-text (Some s) h = rw (name-text s h)
  opt-text None h = refl

  pub saying-fits-text : (s : Saying) → SayingFits (take end text) s → SayingFits text s
  saying-fits-text (saying.Named s) h = fits-text s h
  saying-fits-text (saying.Ranked n) h = tt
  saying-fits-text (saying.Condition c) h = may-text c.name h
  saying-fits-text (saying.Action a) h = fits-text a.action.name h

  pub line-fits-text : (r : Result Saying Reason) → LineFits (take end text) r → LineFits text r
  line-fits-text (Ok s) h = saying-fits-text s h
  line-fits-text (Err why) h = h

  pub said-text : (s : Saying) → SayingFits (take end text) s → said_in (take end text) s ≡ said_in text s
  said-text (saying.Named s) h = rw (name-text s h)
  said-text (saying.Ranked n) h = refl
  said-text (saying.Condition c) h = rw (opt-text c.name h)
  said-text (saying.Action a) h = rw (name-text a.action.name h)

-- ---- a line adds one clause at most
pub clauses-more : (s : Said) (d : Draft) → (length d.clauses ≤ length (with_said s d).clauses) × (length (with_said s d).clauses ≤ length d.clauses + 1)
clauses-more (said_id n) d = (omega arith, omega arith)
clauses-more (said_rank n) d = (omega arith, omega arith)
clauses-more (said_condition c) d = let h = length-append d.clauses (condition c ∷ []) in (omega (arith, h), omega (arith, h))
clauses-more (said_action t u a) d = let h = length-append d.clauses (action a ∷ []) in (omega (arith, h), omega (arith, h))

-- ---- more clauses in the network change nothing of what a line says
action-same : (o : Bool) (m : Network) (cs : List Clause) (fs : List Name) → action_of o (with_clauses cs m) fs ≡ action_of o m fs
unfolding action_of
action-same o m cs fs = refl

by-same : (w : Option RuleWord) (m : Network) (cs : List Clause) (t u : Bool) (fs : List Name) → said_by w (with_clauses cs m) t u fs ≡ said_by w m t u fs
by-same (Some word.Rule) m cs t u fs = refl
by-same (Some word.If) m cs t u fs = refl
by-same (Some word.Or) m cs t u fs = refl
by-same (Some word.Then) m cs t u fs = ap (λ (x : Read Action). on_read x (λ a. good (said_action true u a))) (action-same false m cs fs)
by-same (Some word.And) m cs true u fs = ap (λ (x : Read Action). on_read x (λ a. good (said_action true u a))) (action-same u m cs fs)
by-same (Some word.And) m cs false u fs = refl
by-same (Some word.Else) m cs t u fs = ap (λ (x : Read Action). on_read x (λ a. good (said_action t true a))) (action-same true m cs fs)
by-same (Some word.Priority) m cs t u fs = refl
by-same None m cs t u fs = refl

pub said_same : (m : Network) (cs : List Clause) (t u : Bool) (fs : List Name) → said_of (with_clauses cs m) t u fs ≡ said_of m t u fs
unfolding said_of
said_same m cs t u [] = refl
said_same m cs t u (w ∷ fs) = by-same (rule_word w.letters) m cs t u fs

-- ---- an action whose link was found
module _ {text words : List ℕ} {m : Network} (w : Words text m words) (name : List ℕ) {f : Option ℕ} (e : f ≡ lookup (link_ids m) name) {i : ℕ} (is : f ≡ Some i) where
  pub link_below : i < length m.links
  link_below = omega (arith, found_below (link_ids m) name (sym e ∙ is), link-count m)

  pub link_safe : (i < room_links) × (length words ≡ record_words)
  link_safe = (omega (arith, link_below, w.known.links.bound), words_long w)

pub at-is : (otherwise : Bool) (m : Network) (h : Head) (fs : List Name) (f : Option ℕ) (i : ℕ) (fit : Read Unit) → f ≡ Some i → kind_fits h.kind.letters (get_or m.links i no_link).kind ≡ fit
    → action_at otherwise m h fs f ≡ on_read fit (λ u. on_read (deed_from fs) (λ v. good (action_with otherwise i h.id v)))
at-is otherwise m h fs f i fit e k = rw (e, k)
