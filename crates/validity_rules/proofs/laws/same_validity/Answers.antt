-- The law is proved by induction over both elements and their kids.
use Rattle.std.proofs.Common.{Option, Some, ◌∙◌, ap}
use Rattle.base_texts.specs.declared.texts.Name.{Name}
use Rattle.base_trees.specs.Rose.{Rose, node, label_of}
use Rattle.xml_items.specs.declared.label.ItemLabel.{ItemLabel}
use Rattle.xml_items.specs.declared.label.ItemLabel.TheVariants.{Element, Text}
use Rattle.xml_read.specs.Same.{SameItems}
use Rattle.validity_rules.specs.Asked.{asked_at, name_at}
use Rattle.validity_rules.specs.Valid.{HasName}
use Rattle.validity_rules.proofs.Same.{same_valid}
use Rattle.validity_rules.proofs.laws.same_validity.Goals as goal

named_same : (wanted : Option Name) (t u : Rose ItemLabel) → SameItems t u → HasName wanted (label_of t) → HasName wanted (label_of u)
named_same wanted (node (Text words at) ts) u h k = absurd k
named_same wanted (node (Element n xs declares at) ts) (node (Text words place) us) h k = absurd h
named_same wanted (node (Element n xs declares at) ts) (node (Element m ys binds place) us) h k = k ∙ ap (λ i. Some i) h.0

pub returns : goal.returns
returns c = λ s d t u sound h b k. (named_same (name_at s d) t u h k.0, same_valid (asked_at s) t u sound h d b k.1)
