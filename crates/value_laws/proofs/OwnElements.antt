-- An element that is its own treated form, by what is asked of it.
use Rattle.std.proofs.Common.{◌≡◌, ℕ, None, List, sym, subst}
use Rattle.base_texts.specs.declared.texts.Name.{Name}
use Rattle.base_trees.specs.Rose.{Rose, node, Roses}
use Rattle.xml_items.specs.declared.label.ItemLabel.{ItemLabel}
use Rattle.xml_items.specs.declared.label.ItemLabel.TheVariants.{Element, Text}
use Rattle.xml_items.specs.Plain.{Plain, plain_all}
use Rattle.validity_rules.specs.Asked.{Asked}
use Rattle.validity_rules.specs.Attributes.{nil_of, xsi_type, text_of, left, AllRight, AllStand}
use Rattle.validity_rules.specs.OwnForms.{IsOwnForm}
use Rattle.validity_rules.specs.Valid.{treated_element, ValidBy}
use Rattle.validity_rules.proofs.Unique.{NilValid}
use Rattle.xer_items.specs.Items.{Given, element_of}

module _ (asks : ℕ → Asked) where
  -- ValidBy, with what is asked told
  abbrev pub ValidAs : Asked → Name → List (Name × List ℕ) → Roses ItemLabel → Rose Plain → Type 0
  ValidAs a name xs ts b =
      (vs : Roses Plain) × (b ≡ treated_element a name xs vs) × (text_of xs xsi_type ≡ None)
      × AllRight a.attributes (left xs) × AllStand a.attributes (left xs) × NilValid asks (nil_of a.nillable xs) a.inside ts vs

  pub own-element : (d : ℕ) (a : Asked) → asks d ≡ a → (name : Name) (g : Given) → ((us : Roses ItemLabel) → plain_all us ≡ g.kids → ValidAs a name g.attributes us (element_of name g))
      → IsOwnForm asks d (element_of name g)
  own-element d a e name g f (node (Text words at) us) q = absurd (cc)
  own-element d a e name g f (node (Element other ys binds place) us) q =
      let names : other ≡ name = cc in
      let attributes : ys ≡ g.attributes = cc in
      let kids : plain_all us ≡ g.kids = cc in
      let it : ValidAs (asks d) name g.attributes us (element_of name g) = subst (λ z. ValidAs z name g.attributes us (element_of name g)) (sym e) (f us kids) in
      subst (λ n. ValidBy asks d (node (Element n ys binds place) us) (element_of name g)) (sym names)
      (subst (λ zs. ValidBy asks d (node (Element name zs binds place) us) (element_of name g)) (sym attributes) it)
