-- `store_links::add_link` meets its contract. Assumes nothing.
use mathlib.Core.Path.{refl, sym, ◌∙◌}
use Rattle.leaf_fields.specs.Fields.{name_in}
use Rattle.scope.specs.Records.{link_ids}
use Rattle.table_rows.proofs.HoldLaws.{sits-span, count-links}
use Rattle.table_rows.proofs.AfterLaws.{sound-words, sound-numbers}
use Rattle.table_find.proofs.LookLaws.{told-found}
use Rattle.store_links.proofs.StoreLaws.{link-used, links-full, link-stored}
use Rattle.store_links.proofs.add_link.Goals as goal

pub returns-then-is_some : goal.returns-then-is_some
returns-then-is_some c =
    λ m h. link-used h (name_in c.args.text.now c.args.id) _ _ c.find-found.result
    (told-found (link_ids m) c.letters_of.ensures (c.find-found.ensures m h.words (count-links h)) refl) (sym c.is_some.ensures ∙ c.if-is_some.true)

pub put_link-requires : goal.put_link-requires
put_link-requires c =
    (c.if-n-lt-LINKS_MOST.true, sound-words c.requires.0, sound-numbers c.requires.0)

pub returns-then-n-lt-LINKS_MOST : goal.returns-then-n-lt-LINKS_MOST
returns-then-n-lt-LINKS_MOST c =
    λ m h.
    let put = c.put_link.ensures (name_in c.args.text.now c.args.id) c.id_words-who.ensures in
    link-stored h (name_in c.args.text.now c.args.id) _ _ c.find-found.result
    (told-found (link_ids m) c.letters_of.ensures (c.find-found.ensures m h.words (count-links h)) refl) (sym c.is_some.ensures ∙ c.if-is_some.false)
    (sits-span c.args.text.now c.args.id c.requires.1) c.if-n-lt-LINKS_MOST.true put.0 put.1

pub returns : goal.returns
returns c =
    λ m h. links-full h (name_in c.args.text.now c.args.id) _ _ c.find-found.result
    (told-found (link_ids m) c.letters_of.ensures (c.find-found.ensures m h.words (count-links h)) refl) (sym c.is_some.ensures ∙ c.if-is_some.false)
    c.if-n-lt-LINKS_MOST.false
