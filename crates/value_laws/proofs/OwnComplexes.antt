-- An element of a complex type with element-only content, made of a value, is its own treated form.
use Rattle.std.proofs.Common.{◌≡◌, ℕ, suc, Option, Bool, true, false, None, List, [], map, refl, sym, ap, subst, ◌∙◌}
use Rattle.std.specs.Prelude.{All}
use Rattle.base_texts.specs.declared.texts.Name.{Name}
use Rattle.base_trees.specs.Rose.{Rose, Roses}
use Rattle.base_trees.specs.Rose as rose
use Rattle.simple_types.specs.declared.labels.ValueLabel.{ValueLabel}
use Rattle.content_models.specs.declared.particles.ParticleLabel.{ParticleLabel}
use Rattle.content_models.specs.Seen.{seen}
use Rattle.content_models.specs.Language.{Lang}
use Rattle.xml_items.specs.declared.label.ItemLabel.{ItemLabel}
use Rattle.xml_items.specs.Plain.{Plain, plain_all}
use Rattle.xml_items.specs.Mixing.{interleaved}
use Rattle.asn_types.specs.declared.modules.Assignment.{Assignment}
use Rattle.asn_types.specs.declared.types.TypeLabel.{TypeLabel}
use Rattle.asn_values.specs.Values.{FitsAt}
use Rattle.schema_components.specs.declared.components.AttributeUse.{AttributeUse}
use Rattle.schema_components.specs.Components.{Set}
use Rattle.schema_components.specs.SetParts.{parts_of}
use Rattle.map_laws.specs.Children.{children}
use Rattle.map_laws.specs.ValueStatements.{StandAt}
use Rattle.xer_items.specs.Items.{given, element_of, inside}
use Rattle.validity_rules.specs.Asked.{Asked, asked, space_at, attribute_in}
use Rattle.validity_rules.specs.Asked as ask
use Rattle.validity_rules.specs.Attributes.{Nil, not_nil, is_nil, bad_nil, nil_by, left, treated_attributes, with_nil}
use Rattle.validity_rules.specs.OwnForms.{IsOwnForm}
use Rattle.validity_rules.specs.Valid.{KidsValid}
use Rattle.validity_rules.proofs.Treated as treated
use Rattle.validity_rules.proofs.Treated.{IsPlain}
use Rattle.validity_rules.proofs.Unique.{NilValid}
use Rattle.validity_rules.proofs.Again.{no_kids}
use Rattle.value_laws.proofs.Groups.{told}
use Rattle.value_laws.proofs.Walking.{AllApart}
use Rattle.value_laws.proofs.Spelled.{AreSpelled}
use Rattle.value_laws.proofs.Own.{elements-own, mixed-own}
use Rattle.value_laws.proofs.OwnAttributes.{OwnAttributes, own-attributes}
use Rattle.value_laws.proofs.OwnElements.{own-element}

module _ (M : List Assignment) (E : ℕ → Rose TypeLabel → Type 0) (depth : ℕ) (s : Set) (asks : ℕ → Asked)
    (own : (d : ℕ) (a : Name) (t : Rose TypeLabel) (x : Rose ValueLabel) → E d t → FitsAt M (suc depth) t x → IsOwnForm asks d (element_of a (inside M t x))) where
  -- not nil, from what its parts give
  pub elements-are-own : (d : ℕ) (nillable : Bool) (ds : List AttributeUse) (p : Rose ParticleLabel) → asks d ≡ asked nillable (map (attribute_in (parts_of s)) ds) (ask.children false (seen p))
      → AllApart ds → All IsPlain (map (attribute_in (parts_of s)) ds) → treated.AllApart (map (attribute_in (parts_of s)) ds)
      → (t : Rose TypeLabel) (v : Rose ValueLabel) → AreSpelled (space_at (parts_of s)) ds (inside M t v).attributes → (inside M t v).kids ≡ told M (children M t v)
      → StandAt M E depth (Lang (seen p) 0 []) (children M t v) → (name : Name) → IsOwnForm asks d (element_of name (inside M t v))
  elements-are-own d nillable ds p e apart plain others t v spelled kids stands name =
      let a = asked nillable (map (attribute_in (parts_of s)) ds) (ask.children false (seen p)) in
      let g = inside M t v in
      let have : OwnAttributes nillable (map (attribute_in (parts_of s)) ds) not_nil g.attributes =
      own-attributes (parts_of s) nillable ds g.attributes spelled apart plain others not_nil None refl (λ f. cc) in
      own-element asks d a e name g
      (λ us q.
      let inner = elements-own M E depth asks own (seen p) (children M t v) stands us (q ∙ kids) in
      let there : KidsValid asks false us inner.0 g.kids = subst (λ k. KidsValid asks false us inner.0 k) (sym kids) inner.2 in (
        g.kids,
        ap (λ xs. element_of name (record { attributes = xs; kids = g.kids })) (sym have.same ∙ ap (λ n. with_nil n (treated_attributes (map (attribute_in (parts_of s)) ds) (left g.attributes))) (sym have.nil)),
        have.type,
        have.right,
        have.stand,
        subst (λ n. NilValid asks n a.inside us g.kids) (sym have.nil) (inner.0, inner.1, there),
      ))

  -- an element made of attributes in canonical spelling, with `xsi:nil` or without it, and of kids that are their own
  pub given-is-own : (d : ℕ) (nillable : Bool) (ds : List AttributeUse) (inner : ask.Inside) → asks d ≡ asked nillable (map (attribute_in (parts_of s)) ds) inner
      → AllApart ds → All IsPlain (map (attribute_in (parts_of s)) ds) → treated.AllApart (map (attribute_in (parts_of s)) ds)
      → (n : Nil) (o : Option (List ℕ)) → nil_by nillable o ≡ n → (n ≡ bad_nil → ⊥) → (xs : List (Name × List ℕ)) → AreSpelled (space_at (parts_of s)) ds xs → (ks : Roses Plain)
      → ((us : Roses ItemLabel) → plain_all us ≡ ks → NilValid asks n inner us ks) → (name : Name) → IsOwnForm asks d (element_of name (given (with_nil n xs) ks))
  given-is-own d nillable ds inner e apart plain others n o from not_bad xs spelled ks valid name =
      let a = asked nillable (map (attribute_in (parts_of s)) ds) inner in
      let g = given (with_nil n xs) ks in
      let have = own-attributes (parts_of s) nillable ds xs spelled apart plain others n o from not_bad in
      own-element asks d a e name g
      (λ us q. (
        ks,
        ap (λ ys. element_of name (given ys ks)) (sym have.same ∙ ap (λ m. with_nil m (treated_attributes (map (attribute_in (parts_of s)) ds) (left g.attributes))) (sym have.nil)),
        have.type,
        have.right,
        have.stand,
        subst (λ m. NilValid asks m inner us ks) (sym have.nil) (valid us q),
      ))

  -- its content in each case: nil or empty, and mixed
  pub nothing-valid : (inner : ask.Inside) (us : Roses ItemLabel) → plain_all us ≡ rose.none → NilValid asks is_nil inner us rose.none
  nothing-valid inner us q = (no_kids us q, refl)

  pub empty-valid : (us : Roses ItemLabel) → plain_all us ≡ rose.none → NilValid asks not_nil ask.nothing us rose.none
  empty-valid us q = (no_kids us q, refl)

  pub mixed-valid : (p : Rose ParticleLabel) (t : Rose TypeLabel) (v : Rose ValueLabel) → StandAt M E depth (Lang (seen p) 0 []) (children M t v) → (texts : List (List ℕ)) (us : Roses ItemLabel)
      → plain_all us ≡ interleaved texts (told M (children M t v)) → NilValid asks not_nil (ask.children true (seen p)) us (interleaved texts (told M (children M t v)))
  mixed-valid p t v stands texts us q = mixed-own M E depth asks own (seen p) (children M t v) stands texts us q
