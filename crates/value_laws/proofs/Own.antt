-- The child elements of a value that fits are kids of a valid element, with themselves as treated items: the step of the
-- induction that shows that the items of a value are their own treated items.
use Rattle.std.proofs.Common.{◌≡◌, ℕ, suc, true, false, List, [], ◌∷◌, map, refl, sym, subst}
use Rattle.std.specs.Prelude.{All}
use Rattle.std.proofs.lemmas.List.Elements.{All-head, All-tail}
use Rattle.base_texts.specs.declared.texts.Name.{Name}
use Rattle.base_trees.specs.Rose.{Rose, Roses}
use Rattle.simple_types.specs.declared.labels.ValueLabel.{ValueLabel}
use Rattle.content_models.specs.Particle.{Particle}
use Rattle.content_models.specs.Language.{Leaf, Lang}
use Rattle.xml_items.specs.declared.label.ItemLabel.{ItemLabel}
use Rattle.xml_items.specs.Plain.{plain_all}
use Rattle.xml_items.specs.Mixing.{interleaved}
use Rattle.asn_types.specs.declared.modules.Assignment.{Assignment}
use Rattle.asn_types.specs.declared.types.TypeLabel.{TypeLabel}
use Rattle.asn_values.specs.Values.{FitsAt}
use Rattle.map_laws.specs.Children.{Child, Placed, leaf_of, child_at}
use Rattle.map_laws.specs.ValueStatements.{StandAt}
use Rattle.xer_items.specs.Items.{element_of, inside}
use Rattle.validity_rules.specs.Asked.{Asked}
use Rattle.validity_rules.specs.OwnForms.{IsOwnForm, AreOwnForms}
use Rattle.validity_rules.specs.Valid.{KidsValid}
use Rattle.validity_rules.proofs.Mixed.{own_kids}
use Rattle.value_laws.proofs.Groups.{told}

module _ (M : List Assignment) (E : ℕ → Rose TypeLabel → Type 0) (depth : ℕ) (asks : ℕ → Asked)
    (own : (d : ℕ) (a : Name) (t : Rose TypeLabel) (x : Rose ValueLabel) → E d t → FitsAt M (suc depth) t x → IsOwnForm asks d (element_of a (inside M t x))) where
  abbrev HasType : Placed → Type 0
  HasType x = E x.leaf.decl x.type × FitsAt M (suc depth) x.type x.value

  placed-own : (xs : List Placed) → All HasType xs → AreOwnForms asks (map leaf_of xs) (told M (map child_at xs))
  placed-own [] h = tt
  placed-own (x ∷ xs) h =
      let first = All-head HasType x xs h in
      (refl, own x.leaf.decl x.leaf.name x.type x.value first.0 first.1, placed-own xs (All-tail HasType x xs h))

  -- the leaves of the list at which child elements stand
  abbrev pub leaves_at : (B : List Leaf → Type 0) (made : List Child) → StandAt M E depth B made → List Leaf
  leaves_at B made h = map leaf_of h.placed

  pub stand-own : (B : List Leaf → Type 0) (made : List Child) → (h : StandAt M E depth B made) → AreOwnForms asks (leaves_at B made h) (told M made)
  stand-own B made h = subst (λ x. AreOwnForms asks (map leaf_of h.placed) (told M x)) (sym h.are) (placed-own h.placed h.each)

  -- element-only content
  pub elements-own : (p : Particle) (made : List Child) → StandAt M E depth (Lang p 0 []) made → (us : Roses ItemLabel) → plain_all us ≡ told M made
      → (w : List Leaf) × Lang p 0 [] w × KidsValid asks false us w (told M made)
  elements-own p made h us e =
      let w = leaves_at (Lang p 0 []) made h in
      (w, h.leaves, (own_kids asks w (told M made) (stand-own (Lang p 0 []) made h)).0 us e)

  -- mixed content, with any texts
  pub mixed-own : (p : Particle) (made : List Child) → StandAt M E depth (Lang p 0 []) made → (texts : List (List ℕ)) (us : Roses ItemLabel) → plain_all us ≡ interleaved texts (told M made)
      → (w : List Leaf) × Lang p 0 [] w × KidsValid asks true us w (interleaved texts (told M made))
  mixed-own p made h texts us e =
      let w = leaves_at (Lang p 0 []) made h in
      (w, h.leaves, (own_kids asks w (told M made) (stand-own (Lang p 0 []) made h)).1 texts us e)
