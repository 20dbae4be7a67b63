-- `leaf_scans::trim_end` meets its contract. Assumes nothing.
use mathlib.Core.Path.{sym, ◌∙◌}
use Rattle.leaf_scans.proofs.LineLaws.{trim-more, trim-stop, trim-nothing}
use Rattle.leaf_scans.proofs.trim_end.Goals as goal

pub returns-then-not-is_space : goal.returns-then-not-is_space
returns-then-not-is_space c = trim-stop _ c.in-len1-up.len_at_least (sym c.is_space.ensures ∙ c.if-not-is_space.true) ∙ c.loop-rest.invariant

pub loop-rest-preserved : goal.loop-rest-preserved
loop-rest-preserved c = trim-more _ c.in-len1-up.len_at_least (sym c.is_space.ensures ∙ c.if-not-is_space.false) ∙ c.loop-rest.invariant

pub returns : goal.returns
returns c = trim-nothing _ c.in_default.len_below ∙ c.loop-rest.invariant
