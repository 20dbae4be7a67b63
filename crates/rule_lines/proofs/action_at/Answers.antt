-- `rule_lines::action_at` meets its contract. Assumes nothing.
use Rattle.std.specs.Prelude.{Some}
use Prim.Native.Nat.{ℕ, ◌<◌}
use mathlib.Core.Path.{◌≡◌, sym, ap, ◌∙◌}
use mathlib.Core.List.{List}
use lib.ListN.{length, get_or}
use Rattle.leaf_fields.specs.Fields.{fields_at, part}
use Rattle.scope.specs.Records.{link_ids, lookup, no_link}
use Rattle.scope.specs.Rules.{kind_fits}
use Rattle.rule_clauses.specs.Clauses.{head_in}
use Rattle.rule_clauses.proofs.ClauseLaws.{handed-on}
use Rattle.rule_lines.specs.Lines.{action_read}
use Rattle.rule_lines.proofs.LineLaws.{link_below, link_safe, at-is}
use Rattle.rule_lines.proofs.action_at.Goals as goal

pub is_pipe-pipe-requires : goal.is_pipe-pipe-requires
is_pipe-pipe-requires c = link_safe c.requires.1 _ (c.find_named.ensures c.requires.0 c.requires.1 c.requires.2) c.in_ok-link.ensures.ok_part

pub is_pump-pump-requires : goal.is_pump-pump-requires
is_pump-pump-requires c = link_safe c.requires.1 _ (c.find_named.ensures c.requires.0 c.requires.1 c.requires.2) c.in_ok-link.ensures.ok_part

pub is_valve-valve-requires : goal.is_valve-valve-requires
is_valve-valve-requires c = link_safe c.requires.1 _ (c.find_named.ensures c.requires.0 c.requires.1 c.requires.2) c.in_ok-link.ensures.ok_part

pub returns-in_err-kind_fits-clause-result_value : goal.returns-in_err-kind_fits-clause-result_value
returns-in_err-kind_fits-clause-result_value c =
    let a = c.args in
    λ m w e.
    let looked : lookup (link_ids m) (part a.head.id.at a.head.id.end a.l.now) ≡ Some c.in_ok-link.link
    = ap (lookup (link_ids m)) (sym c.letters_of.ensures) ∙ sym (c.find_named.ensures m w e) ∙ c.in_ok-link.ensures.ok_part in
    let below : c.in_ok-link.link < length m.links = link_below w _ (c.find_named.ensures m w e) c.in_ok-link.ensures.ok_part in
    ap (action_read a.l.now) (handed-on c.from_residual-in_err-kind_fits.ensures)
    ∙ sym (at-is a.otherwise m (head_in a.l.now a.head) (fields_at a.l.now a.head.id.end) _ c.in_ok-link.link _ looked
    (ap (λ (x : List ℕ). kind_fits x (get_or m.links c.in_ok-link.link no_link).kind) (sym c.letters_of-2.ensures)
    ∙ sym (c.in_err-kind_fits.ensures (get_or m.links c.in_ok-link.link no_link).kind
    (c.is_pipe-pipe.ensures a.text.now m w below) (c.is_pump-pump.ensures a.text.now m w below) (c.is_valve-valve.ensures a.text.now m w below))))

pub returns-in_err-value-clause-result_value : goal.returns-in_err-value-clause-result_value
returns-in_err-value-clause-result_value c =
    let a = c.args in
    λ m w e.
    let looked : lookup (link_ids m) (part a.head.id.at a.head.id.end a.l.now) ≡ Some c.in_ok-link.link
    = ap (lookup (link_ids m)) (sym c.letters_of.ensures) ∙ sym (c.find_named.ensures m w e) ∙ c.in_ok-link.ensures.ok_part in
    let below : c.in_ok-link.link < length m.links = link_below w _ (c.find_named.ensures m w e) c.in_ok-link.ensures.ok_part in
    ap (action_read a.l.now) (handed-on c.from_residual-in_err-value.ensures)
    ∙ sym (at-is a.otherwise m (head_in a.l.now a.head) (fields_at a.l.now a.head.id.end) _ c.in_ok-link.link _ looked
    (ap (λ (x : List ℕ). kind_fits x (get_or m.links c.in_ok-link.link no_link).kind) (sym c.letters_of-2.ensures)
    ∙ sym (c.in_ok-kind_fits.ensures (get_or m.links c.in_ok-link.link no_link).kind
    (c.is_pipe-pipe.ensures a.text.now m w below) (c.is_pump-pump.ensures a.text.now m w below) (c.is_valve-valve.ensures a.text.now m w below)))
    ∙ rw (sym c.in_err-value.ensures))

pub returns-clause-result_value : goal.returns-clause-result_value
returns-clause-result_value c =
    let a = c.args in
    λ m w e.
    let looked : lookup (link_ids m) (part a.head.id.at a.head.id.end a.l.now) ≡ Some c.in_ok-link.link
    = ap (lookup (link_ids m)) (sym c.letters_of.ensures) ∙ sym (c.find_named.ensures m w e) ∙ c.in_ok-link.ensures.ok_part in
    let below : c.in_ok-link.link < length m.links = link_below w _ (c.find_named.ensures m w e) c.in_ok-link.ensures.ok_part in
    sym (at-is a.otherwise m (head_in a.l.now a.head) (fields_at a.l.now a.head.id.end) _ c.in_ok-link.link _ looked
    (ap (λ (x : List ℕ). kind_fits x (get_or m.links c.in_ok-link.link no_link).kind) (sym c.letters_of-2.ensures)
    ∙ sym (c.in_ok-kind_fits.ensures (get_or m.links c.in_ok-link.link no_link).kind
    (c.is_pipe-pipe.ensures a.text.now m w below) (c.is_pump-pump.ensures a.text.now m w below) (c.is_valve-valve.ensures a.text.now m w below)))
    ∙ rw (sym c.in_ok-value.ensures))
