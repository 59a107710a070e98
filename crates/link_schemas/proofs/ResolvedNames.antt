-- Where each reference is resolved, each name names a component of the kind that it needs.
use Rattle.std.proofs.Common.{◌≡◌, ℕ, Bool, true, false, ◌⊎◌, inl, inr, List, [], ◌∷◌, Option, Some, None, refl, sym, ap, ◌∙◌, subst}
use Rattle.std.specs.Prelude.{if◌then◌else◌}
use Rattle.std.specs.List.{filter_map, cons_option}
use Rattle.std.specs.Option.{option_map}
use Rattle.std.proofs.lemmas.Bool.{true≢false}
use Rattle.base_texts.specs.declared.texts.Name.{Name}
use Rattle.base_texts.specs.Lists.{HasItem}
use Rattle.base_texts.specs.Names.{name_eq}
use Rattle.base_texts.proofs.NameLaws.{name_eq-Decides}
use Rattle.simple_types.specs.declared.standards.Standard.TheVariants.{Free}
use Rattle.schema_components.specs.Raw.{Document}
use Rattle.link_names.specs.Parts as what
use Rattle.link_names.specs.Parts.{What, Part, in_document, parts}
use Rattle.link_names.specs.declared.parts.TypeRole.TheVariants as role
use Rattle.link_names.specs.Globals.{GlobalComponent, named_at, type_name, complex_name, is_there, elements, attributes, types, complexes}
use Rattle.link_names.specs.declared.faults.LinkWhy.{LinkWhy}
use Rattle.link_names.specs.declared.faults.LinkWhy.TheVariants.{ComplexBase}
use Rattle.link_names.specs.declared.faults.LinkingFault.{LinkingFault}
use Rattle.link_names.specs.declared.places.Place.{Place}
use Rattle.link_names.specs.Order.{place, fault}
use Rattle.link_names.specs.References.{Mention, mention, need_of, of_what, of_use, of_part, mentions}
use Rattle.link_names.specs.Resolution.{names_in, wrong, unless_there, fault_of, unresolved}
use Rattle.link_names.specs.SimpleTypes as simple
use Rattle.link_names.specs.SimpleTypes.{SimpleDefinition, simple_types}
use Rattle.link_complex.specs.ComplexTypes as complex
use Rattle.link_complex.specs.ComplexTypes.{ComplexDefinition, complex_types}
use Rattle.link_schemas.proofs.GlobalLists.{as_type, as_complex, by_documents}
use Rattle.link_schemas.proofs.Items.{in_flat, of_flat, one_passes, any_passes}

in_filter_map : {A B : Type 0} (f : A → Option B) (xs : List A) (x : A) (y : B) → HasItem xs x → f x ≡ Some y → HasItem (filter_map f xs) y
in_filter_map f [] x y h is = absurd h
in_filter_map f (z ∷ zs) x y h is = step (f z) refl h (λ i. in_filter_map f zs x y i is)
  where
    step : (o : Option _) → f z ≡ o → HasItem (z ∷ zs) x → (HasItem zs x → HasItem (filter_map f zs) y) → HasItem (cons_option o (filter_map f zs)) y
    step None e (inl same) rest = let no : None ≡ Some y = sym e ∙ ap f same ∙ is in absurd cc
    step None e (inr i) rest = rest i
    step (Some w) e (inl same) rest = inl (let both : Some w ≡ Some y = sym e ∙ ap f same ∙ is in cc)
    step (Some w) e (inr i) rest = inr (rest i)

module _ (docs : List Document) (resolved : (f : LinkingFault) → HasItem (unresolved docs) f → ⊥) where
  nothing_wrong : (m : Mention) → HasItem (mentions docs) m → wrong (names_in docs) m.need m.name ≡ None
  nothing_wrong m h = step (wrong (names_in docs) m.need m.name) refl
    where
      step : (o : Option LinkWhy) → wrong (names_in docs) m.need m.name ≡ o → o ≡ None
      step None e = refl
      step (Some w) e =
          absurd (resolved (fault w m.place) (in_filter_map (fault_of (names_in docs)) (mentions docs) m (fault w m.place) h (ap (option_map (λ v. fault v m.place)) e)))

  pub right : (p : Part) → HasItem (parts docs) p → (m : Mention) → HasItem (of_part p) m → wrong (names_in docs) m.need m.name ≡ None
  right p h m i = nothing_wrong m (in_flat of_part (parts docs) p m h i)

abbrev pub first_or : Mention → List Mention → Mention
first_or m [] = m
first_or m (x ∷ xs) = x

-- what a reference to a global element mentions, and one to a global attribute
abbrev pub element_mention : Place → Name → Mention
element_mention p a = first_or (mention (need_of role.Element) p a) (of_what p (what.ElementReference a))

abbrev pub attribute_mention : Place → Name → Mention
attribute_mention p a = first_or (mention (need_of role.Attribute) p a) (of_use p (record { name = a; reference = true; kind = None; standard = Free; required = false; at = p.at }))

is_there_then : (b : Bool) → unless_there b ≡ None → b ≡ true
is_there_then true e = refl
is_there_then false e = absurd cc

no_complex_then : (b c : Bool) (w : LinkWhy) → (if b then Some w else unless_there c) ≡ None → (b ≡ false) × (c ≡ true)
no_complex_then true c w e = absurd cc
no_complex_then false c w e = (refl, is_there_then c e)

-- ---- what names name

abbrev pub IsSimpleNamed : List Document → Name → Type 0
IsSimpleNamed docs a = (d : SimpleDefinition) × HasItem (simple_types docs) d × (d.name ≡ Some a)

abbrev pub IsComplexNamed : List Document → Name → Type 0
IsComplexNamed docs a = (c : ComplexDefinition) × HasItem (complex_types docs) c × (c.name ≡ Some a)

named_type : (file at : ℕ) (w : What) (g : GlobalComponent) → HasItem (named_at (type_name w) (place file at)) g
    → ((d : SimpleDefinition) × HasItem (simple.of_what file at w) d × (d.name ≡ Some g.name))
    ⊎ ((c : ComplexDefinition) × HasItem (complex.of_what file w) c × (c.name ≡ Some g.name) × HasItem (named_at (complex_name w) (place file at)) g)
named_type file at (what.SimpleDefinition (Some a) s) g (inl same) =
    inl (simple.defined (Some a) (place file at) (place file s.body_at) s.how, inl refl, ap (λ (h : GlobalComponent). Some h.name) same)
named_type file at (what.SimpleDefinition (Some a) s) g (inr none) = absurd none
named_type file at (what.SimpleDefinition None s) g h = absurd h
named_type file at (what.ComplexDefinition (Some a) c) g (inl same) =
    inr (complex.defined file (Some a) c, inl refl, ap (λ (h : GlobalComponent). Some h.name) same, inl same)
named_type file at (what.ComplexDefinition (Some a) c) g (inr none) = absurd none
named_type file at (what.ComplexDefinition None c) g h = absurd h
named_type file at (what.GlobalElement e) g h = absurd h
named_type file at (what.LocalElement e) g h = absurd h
named_type file at (what.ElementReference name) g h = absurd h
named_type file at (what.GlobalAttribute a) g h = absurd h
named_type file at (what.AttributeUse u) g h = absurd h
named_type file at (what.Particle l) g h = absurd h
named_type file at (what.MixedGroup l) g h = absurd h
named_type file at (what.TypeReference r name) g h = absurd h

module _ (docs : List Document) where
  abbrev IsComplexThere : Name → Type 0
  IsComplexThere a = is_there (complexes docs) a ≡ true

  there : (a : Name) → is_there (types docs) a ≡ true → IsSimpleNamed docs a ⊎ (IsComplexNamed docs a × IsComplexThere a)
  there a is =
      let one = one_passes (λ (g : GlobalComponent). name_eq a g.name) (types docs) is in
      let g = one.0 in
      let same : g.name ≡ a = sym ((name_eq-Decides a g.name).0 one.2) in
      let p = of_flat (as_type) (parts docs) g one.1 in
      elim (named_type p.0.file p.0.at p.0.what g p.2) [
        | inl d ↦ inl (d.0, in_flat simple.of_part (parts docs) p.0 d.0 p.1 d.1, d.2 ∙ ap (λ (b : Name). Some b) same)
        | inr c ↦ inr (
          (c.0, subst (λ cs. HasItem cs c.0) (by_documents complex.of_part docs) (in_flat complex.of_part (parts docs) p.0 c.0 p.1 c.1), c.2 ∙ ap (λ (b : Name). Some b) same),
          any_passes (λ (h : GlobalComponent). name_eq a h.name) (complexes docs) g
              (in_flat (as_complex) (parts docs) p.0 g p.1 c.3) one.2,
        )
      ]

  pub type_named : (a : Name) → unless_there (is_there (types docs) a) ≡ None → IsSimpleNamed docs a ⊎ IsComplexNamed docs a
  type_named a is = elim (there a (is_there_then (is_there (types docs) a) is)) [ inl d ↦ inl d | inr c ↦ inr c.0 ]

  pub simple_named : (a : Name) → (if is_there (complexes docs) a then Some ComplexBase else unless_there (is_there (types docs) a)) ≡ None → IsSimpleNamed docs a
  simple_named a is =
      let two = no_complex_then (is_there (complexes docs) a) (is_there (types docs) a) ComplexBase is in
      elim (there a two.1) [ inl d ↦ d | inr c ↦ absurd (true≢false (sym c.1 ∙ two.0)) ]

  pub element_named : (a : Name) → unless_there (is_there (elements docs) a) ≡ None → (g : GlobalComponent) × HasItem (elements docs) g × (a ≡ g.name)
  element_named a is =
      let one = one_passes (λ (g : GlobalComponent). name_eq a g.name) (elements docs) (is_there_then (is_there (elements docs) a) is) in
      (one.0, one.1, (name_eq-Decides a one.0.name).0 one.2)

  pub attribute_named : (a : Name) → unless_there (is_there (attributes docs) a) ≡ None → (g : GlobalComponent) × HasItem (attributes docs) g × (a ≡ g.name)
  attribute_named a is =
      let one = one_passes (λ (g : GlobalComponent). name_eq a g.name) (attributes docs) (is_there_then (is_there (attributes docs) a) is) in
      (one.0, one.1, (name_eq-Decides a one.0.name).0 one.2)
