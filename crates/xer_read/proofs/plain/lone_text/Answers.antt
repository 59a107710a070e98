use Rattle.std.proofs.Common.{◌≡◌, ℕ, List, [], ◌∷◌, Some, append-nil, sym, ◌∙◌, ap}
use Rattle.base_trees.specs.Rose.{Rose, node, roses_of, label_of}
use Rattle.xml_items.specs.declared.label.ItemLabel.{ItemLabel}
use Rattle.xml_items.specs.declared.label.ItemLabel.TheVariants.{Element, Text}
use Rattle.xml_items.specs.Seen.{item_seen}
use Rattle.validity_rules.specs.Valid.{only_text}
use Rattle.xer_read.proofs.plain.lone_text.Goals as goal

one-text : (t : Rose ItemLabel) (words : List ℕ) (at : ℕ) → Text words at ≡ label_of t → only_text (roses_of (t ∷ [])) ≡ Some words
one-text (node (Text others place) ks) words at e = let same : others ≡ words = cc in ap Some (append-nil others ∙ same)
one-text (node (Element n xs declares place) ks) words at e = absurd (cc)

pub returns-in-Text : goal.returns-in-Text
returns-in-Text c =
    let first = c.in-Some.first in
    let all = sym c.kids-kids.ensures ∙ c.in-Some.ensures.steps ∙ ap (λ ks. first ∷ ks) (c.is_empty.ensures.0 c.if-is_empty.true) in
    ap (λ ks. only_text (roses_of ks)) all ∙ one-text first c.in-Text.text c.in-Text.at (ap item_seen (sym c.in-Text.is) ∙ c.label.ensures)
