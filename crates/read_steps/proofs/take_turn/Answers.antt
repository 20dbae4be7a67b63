-- `read_steps::take_turn` meets its contract. Assumes nothing.
use mathlib.Core.Path.{sym, ap, ◌∙◌}
use Rattle.read_headers.specs.declared.Sort.{Sort}
use Rattle.read_headers.specs.Own.{sort_in, is_data}
use Rattle.read_steps.proofs.WayLaws.{way-closes, way-blank, way-header, way-plain}
use Rattle.read_steps.proofs.take_turn.Goals as goal

pub returns-in-Some : goal.returns-in-Some
returns-in-Some c =
    let q = c.requires in
    way-closes q.0 q.1 c.args.k q.2 (sym c.closes.ensures ∙ c.in-Some.is) c.own_by-own.ensures c.close.ensures

pub returns-in-Empty : goal.returns-in-Empty
returns-in-Empty c =
    let q = c.requires in
    way-blank q.0 q.1 c.args.k q.2 (sym c.closes.ensures ∙ c.in_default.is) c.in-Empty.is c.still.ensures

pub returns-in-Heading : goal.returns-in-Heading
returns-in-Heading c =
    let q = c.requires in
    way-header q.0 q.1 c.args.k q.2 c.in-Heading.is c.still-in-Heading.ensures

pub returns-in-Start : goal.returns-in-Start
returns-in-Start c =
    let q = c.requires in
    way-plain q.0 q.1 c.args.k q.2 (sym c.closes.ensures ∙ c.in_default.is) (ap (λ (k : Sort). is_data (sort_in k)) c.in-Start.is) q.3 c.plain.ensures

pub returns-in-Other : goal.returns-in-Other
returns-in-Other c =
    let q = c.requires in
    way-plain q.0 q.1 c.args.k q.2 (sym c.closes.ensures ∙ c.in_default.is) (ap (λ (k : Sort). is_data (sort_in k)) c.in-Other.is) q.3 c.plain-in-Other.ensures
