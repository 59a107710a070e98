-- The law is proved by induction over the element and its kids: what a simple type accepts, it reads again from its spelling.
use Rattle.std.proofs.Common.{◌≡◌, ℕ, Option, Some, sym, ◌∙◌, ap}
use Rattle.base_texts.specs.declared.texts.Name.{Name}
use Rattle.base_trees.specs.Rose.{Rose, node, label_of}
use Rattle.xml_items.specs.declared.label.ItemLabel.{ItemLabel}
use Rattle.xml_items.specs.declared.label.ItemLabel.TheVariants.{Element, Text}
use Rattle.xml_items.specs.Plain.{Plain, plain_of}
use Rattle.schema_components.specs.SetParts.{parts_of}
use Rattle.validity_rules.specs.Asked.{Asked, asked_at, name_at}
use Rattle.validity_rules.specs.Valid.{ValidBy, HasName}
use Rattle.validity_rules.proofs.Again.{again}
use Rattle.validity_rules.proofs.Fair.{fair_at}
use Rattle.validity_rules.proofs.laws.treated_again.Goals as goal

module _ (asks : ℕ → Asked) (wanted : Option Name) (d : ℕ) where
  named_again : (t : Rose ItemLabel) (b : Rose Plain) → ValidBy asks d t b → HasName wanted (label_of t) → (u : Rose ItemLabel) → plain_of u ≡ b → HasName wanted (label_of u)
  named_again (node (Text words at) ts) b h n u q = absurd h
  named_again (node (Element name xs declares at) ts) b h n (node (Text words place) us) q = absurd (let z = q ∙ h.1 in cc)
  named_again (node (Element name xs declares at) ts) b h n (node (Element other ys binds place) us) q =
      let z = q ∙ h.1 in
      let same : other ≡ name = cc in
      n ∙ ap (λ m. Some m) (sym same)

pub returns : goal.returns
returns c = λ s linked d t b h u q. (named_again (asked_at (parts_of s)) (name_at (parts_of s) d) d t b h.1 h.0 u q, again (asked_at (parts_of s)) (fair_at s linked) t d b h.1 u q)
