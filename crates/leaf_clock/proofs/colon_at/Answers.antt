-- `leaf_clock::colon_at` meets its contract. Assumes nothing.
use Rattle.std.proofs.Common.{◌≡◌, sym, ◌∙◌, rules}
use borrow.Author.Tests.{tests}
use Rattle.std.proofs.lemmas.Iterator.{YieldsList-from_slice, IsFirst-from_position, index_from_first}
use Rattle.leaf_clock.specs.Times.{colon_at}
use Rattle.leaf_clock.proofs.Colon.{colon-none, colon-here, colon-later}
use Rattle.leaf_clock.proofs.colon_at.Goals as goal

pub returns : goal.returns
returns c =
    let s = c.args.s.now in
    c.unwrap_or.ensures
    ∙ sym (index_from_first colon_at (λ x. x ≡ 58) (λ x. x ≡ 58 → ⊥) colon-none colon-here colon-later s _
    (IsFirst-from_position c.position.new.self _ _ (λ x. x ≡ 58) (λ x. x ≡ 58 → ⊥) c.position.ensures.ran (YieldsList-from_slice s cc) (λ x q k. search (rules, tests)) (λ x q k. search (rules, tests))))
