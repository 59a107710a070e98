-- The attribute uses of the set of documents without a fault.
use Rattle.std.proofs.Common.{◌≡◌, ℕ, ◌<◌, ◌≤◌, arith, Bool, true, false, inl, inr, List, [], ◌∷◌, length, map, Option, Some, None, refl, sym, ap, ◌∙◌, subst}
use Rattle.std.specs.Prelude.{if◌then◌else◌}
use Rattle.std.specs.Cmp.{IsStrictWeakOrder}
use Rattle.std.specs.List.{flat_map, count_by, AllByRecursion}
use Rattle.std.specs.List.Sorted.{IsStrictlySortedBy}
use Rattle.std.specs.Option.{is_none}
use Rattle.std.specs.Ordering.{is_lt, ordering_reverse}
use Rattle.std.specs.declared.cmp.Ordering.{Ordering}
use Rattle.std.specs.declared.cmp.Ordering.TheVariants.{Less, Equal, Greater}
use Rattle.std.proofs.lemmas.Bool.{cases_Bool, true≢false}
use Rattle.std.proofs.lemmas.List.{length-map}
use Rattle.std.proofs.lemmas.List.Sorted.{ranks_by}
use Rattle.base_texts.specs.declared.texts.Name.{Name}
use Rattle.base_texts.specs.Lists.{HasItem}
use Rattle.base_texts.specs.Names.{name_eq, name_cmp}
use Rattle.base_texts.proofs.Lists.{has_left, has_right}
use Rattle.base_texts.proofs.NameLaws.{name_eq-Decides, name_cmp_total, exact_names}
use Rattle.schema_components.specs.Declarable.{is_declarable_attribute}
use Rattle.schema_components.specs.DeclaredNames.{use_named, uses_named}
use Rattle.simple_types.specs.declared.standards.Standard.TheVariants.{Free}
use Rattle.schema_components.specs.Linked.{MayBeFor}
use Rattle.schema_components.specs.Raw.{Base, Use, Document}
use Rattle.schema_components.specs.TypedUses.{IsTypedUse, AreTypedUses}
use Rattle.schema_components.specs.declared.components.AttributeUse.{AttributeUse}
use Rattle.schema_components.specs.declared.components.GlobalAttribute.{GlobalAttribute}
use Rattle.schema_components.specs.declared.declarations.RawContent.TheVariants as content
use Rattle.schema_components.specs.declared.simple_definitions.RawRef.{RawRef}
use Rattle.link_names.specs.Parts as what
use Rattle.link_names.specs.Parts.{Part, part, in_content, in_use, parts}
use Rattle.link_names.specs.declared.parts.TypeRole.TheVariants as role
use Rattle.link_names.specs.Globals.{GlobalComponent, attributes}
use Rattle.link_names.specs.References.{of_use}
use Rattle.link_names.specs.Order.{place}
use Rattle.link_complex.specs.ComplexTypes.{ComplexDefinition, complex_types}
use Rattle.link_set.specs.Sets as sets
use Rattle.link_set.specs.Sets.{named_attribute, simple_of_found, standard_of_found, own_or, type_of_use, simple_of_use, attribute_use, use_before, uses, simple_of_reference}
use Rattle.link_set.specs.Written.{lists_of}
use Rattle.link_set.proofs.Sorted.{NoneBefore, Rises, rises_in_order}
use Rattle.link_schemas.proofs.DeclaredParts.{attribute_declarable}
use Rattle.link_schemas.proofs.InOrder.{sum_in_order, length_in_order, item_of_order}
use Rattle.link_schemas.proofs.Items.{as_number, in_flat, in_mapped, of_mapped, by_and, count_more, count_mapped}
use Rattle.link_schemas.proofs.Kept.{AreFaultless}
use Rattle.link_schemas.proofs.KeptComplexes.{of_known, few_uses, use_once}
use Rattle.link_schemas.proofs.Members.{complex_part}
use Rattle.link_schemas.proofs.ResolvedNames.{right, attribute_mention, attribute_named}
use Rattle.link_schemas.proofs.Respelled.{unless}
use Rattle.link_schemas.proofs.SetOfDocuments.{attribute_good, attribute_names}
use Rattle.link_schemas.proofs.TypedNumbers.{numbers, simple_count, simple_base, simple_reference}

-- ---- names that ascend, and of which each stands once, ascend strictly

less_of : (a b : Name) (r : Ordering) → name_cmp a b ≡ r → is_lt (name_cmp b a) ≡ false → name_eq a b ≡ false → name_cmp a b ≡ Less
less_of a b Less e behind apart = e
less_of a b Equal e behind apart = absurd (true≢false (sym ((name_eq-Decides a b).1 (exact_names a b e)) ∙ apart))
less_of a b Greater e behind apart =
    let back : name_cmp b a ≡ Less = name_cmp_total.antisymm b a ∙ ap ordering_reverse e in
    absurd (true≢false (sym (ap is_lt back) ∙ behind))

abbrev use_order : IsStrictWeakOrder use_before
use_order = ranks_by name_cmp_total (λ (u : AttributeUse). u.name)

each_less : (u : AttributeUse) (us : List AttributeUse) → NoneBefore use_before use_order u us → count_by (λ (v : AttributeUse). name_eq u.name v.name) us ≡ 0
    → AllByRecursion (λ b. name_cmp u.name b ≡ Less) (map (λ (v : AttributeUse). v.name) us)
each_less u [] behind none = tt
each_less u (v ∷ vs) behind none =
    let more = count_more (λ (w : AttributeUse). name_eq u.name w.name) v vs in
    elim (cases_Bool (name_eq u.name v.name)) [
      | inl passes ↦ let one : as_number (name_eq u.name v.name) ≡ 1 = ap as_number passes in absurd (omega (arith, more, one, none))
      | inr fails ↦ (less_of u.name v.name (name_cmp u.name v.name) refl behind.0 fails, each_less u vs behind.1 (omega (arith, more, none)))
    ]

strictly : (us : List AttributeUse) → Rises use_before use_order us → ((a : Name) → count_by (λ (u : AttributeUse). name_eq a u.name) us ≤ 1)
    → IsStrictlySortedBy name_cmp (map (λ (u : AttributeUse). u.name) us)
unfolding IsStrictlySortedBy
strictly [] rises once = tt
strictly (u ∷ us) rises once =
    let more = count_more (λ (v : AttributeUse). name_eq u.name v.name) u us in
    let one : as_number (name_eq u.name u.name) ≡ 1 = ap as_number ((name_eq-Decides u.name u.name).1 refl) in
    let most = once u.name in (
      each_less u us rises.0 (omega (arith, more, one, most)),
      strictly us rises.1 (λ a. let next = count_more (λ (v : AttributeUse). name_eq a v.name) u us in let few = once a in omega (arith, next, few)),
    )

-- ---- the first attribute of a name

found_there : (gs : List GlobalAttribute) (a : Name) (g : GlobalAttribute) → HasItem gs g → g.name ≡ a
    → (x : GlobalAttribute) × HasItem gs x × (named_attribute gs a ≡ Some x)
found_there [] a g i e = absurd i
found_there (x ∷ xs) a g i e = step (name_eq x.name a) refl i (λ j. found_there xs a g j e)
  where
    step : (b : Bool) → name_eq x.name a ≡ b → HasItem (x ∷ xs) g → (HasItem xs g → (y : GlobalAttribute) × HasItem xs y × (named_attribute xs a ≡ Some y))
        → (y : GlobalAttribute) × HasItem (x ∷ xs) y × ((if b then Some x else named_attribute xs a) ≡ Some y)
    step true is h rest = (x, inl refl, refl)
    step false is (inl same) rest = absurd (true≢false (sym ((name_eq-Decides x.name a).1 (ap (λ (y : GlobalAttribute). y.name) same ∙ e)) ∙ is))
    step false is (inr h) rest = let r = rest h in (r.0, inr r.1, r.2)

typed_use : (us : List Use) → AreTypedUses us → (u : Use) → HasItem us u → IsTypedUse u
typed_use [] h u i = absurd i
typed_use (x ∷ xs) h u (inl same) = subst IsTypedUse same h.0
typed_use (x ∷ xs) h u (inr i) = typed_use xs h.1 u i

module _ (docs : List Document) (h : AreFaultless docs) where
  abbrev pub globals : Name → Option GlobalAttribute
  globals = named_attribute (sets.attributes (numbers docs) (lists_of docs).attributes)

  referred : (a : Name) → (g : GlobalComponent) × HasItem (attributes docs) g × (a ≡ g.name) → (is_declarable_attribute a ≡ true) × (simple_of_found (globals a) < simple_count docs)
  referred a r =
      let gs = sets.attributes (numbers docs) (lists_of docs).attributes in
      let named = in_mapped (λ (g : GlobalComponent). g.name) (attributes docs) r.0 r.1 in
      let found = of_mapped (λ (g : GlobalAttribute). g.name) gs r.0.name (subst (λ ns. HasItem ns r.0.name) (sym (attribute_names docs h)) named) in
      let first = found_there gs a found.0 found.1 (found.2 ∙ sym r.2) in
      let good = attribute_good docs h first.0 first.1 in
      let lt = good.1 in
      let same : simple_of_found (globals a) ≡ first.0.simple = ap simple_of_found first.2 in
      (ap is_declarable_attribute r.2 ∙ attribute_declarable docs h r.0 r.1, omega (arith, lt, same))

  module _ (c : ComplexDefinition) (known : HasItem (complex_types docs) c) where
    use_part_of : (u : Use) → HasItem c.body.uses u → (q : Part) → HasItem (in_use c.place.file c.body.at u) q → HasItem (parts docs) q
    use_part_of u i q j =
        complex_part docs c known q
        (has_right (in_content c.place.file c.body.at c.body.content) (flat_map (in_use c.place.file c.body.at) c.body.uses) q (in_flat (in_use c.place.file c.body.at) c.body.uses u q i j))

    mentioned : (u : Use) → u.reference ≡ true → HasItem (of_use (place c.place.file u.at) u) (attribute_mention (place c.place.file u.at) u.name)
    mentioned u is = subst (λ b. HasItem (if b then attribute_mention (place c.place.file u.at) u.name ∷ [] else []) (attribute_mention (place c.place.file u.at) u.name)) (sym is) (inl refl)

    of_base : (u : Use) → HasItem c.body.uses u → (o : Option Base) → u.kind ≡ o → false ≡ is_none o → type_of_use (numbers docs) c.place.file o < simple_count docs
    of_base u i None e is = absurd (true≢false (sym is))
    of_base u i (Some b) e is =
        simple_base docs h.resolved c.place.file u.at b
        (λ q j. use_part_of u i q (inr (subst (λ o. HasItem (what.in_use_type c.place.file u.at o) q) (sym e) j)))

    use_good : (u : Use) → HasItem c.body.uses u → (b : Bool) → u.reference ≡ b
        → (is_declarable_attribute u.name ≡ true) × ((if b then simple_of_found (globals u.name) else type_of_use (numbers docs) c.place.file u.kind) < simple_count docs)
    use_good u i true e =
        let p = part c.place.file (Some c.body.at) u.at (what.AttributeUse u) in
        let fine = right docs h.resolved p (use_part_of u i p (inl refl)) (attribute_mention (place c.place.file u.at) u.name) (mentioned u e) in
        referred u.name (attribute_named docs u.name fine)
    use_good u i false e =
        let k = (of_known docs h c known).3 in
        let named = by_and uses_named use_named (λ x xs. refl) c.body.uses k.named u i in
        let typed = typed_use c.body.uses k.typed u i in (
          ap (λ b. if b then true else is_declarable_attribute u.name) (sym e) ∙ named,
          of_base u i u.kind refl (sym e ∙ typed),
        )

    pub each_use_good : (v : AttributeUse) → HasItem (uses (numbers docs) globals c) v → (is_declarable_attribute v.name ≡ true) × (v.simple < simple_count docs)
    each_use_good v i =
        let made = map (attribute_use (numbers docs) globals c.place.file) c.body.uses in
        let r = of_mapped (attribute_use (numbers docs) globals c.place.file) c.body.uses v (item_of_order use_before made v i) in
        subst (λ (x : AttributeUse). (is_declarable_attribute x.name ≡ true) × (x.simple < simple_count docs)) r.2 (use_good r.0 r.1 r.0.reference refl)

    pub use_fits : (v : AttributeUse) → HasItem (uses (numbers docs) globals c) v → MayBeFor v.required v.standard
    use_fits v i =
        let made = map (attribute_use (numbers docs) globals c.place.file) c.body.uses in
        let r = of_mapped (attribute_use (numbers docs) globals c.place.file) c.body.uses v (item_of_order use_before made v i) in
        let u = r.0 in
        subst (λ (x : AttributeUse). MayBeFor x.required x.standard) r.2
        (unless u.required (own_or u.standard (if u.reference then standard_of_found (globals u.name) else Free)))

    pub uses_few : length (uses (numbers docs) globals c) ≤ 10000
    uses_few =
        let a = length_in_order use_before (map (attribute_use (numbers docs) globals c.place.file) c.body.uses) in
        let b = length-map c.body.uses (attribute_use (numbers docs) globals c.place.file) in
        let few = few_uses docs h c known in
        omega (arith, a, b, few)

    pub uses_ascend : IsStrictlySortedBy name_cmp (map (λ (u : AttributeUse). u.name) (uses (numbers docs) globals c))
    uses_ascend =
        let made = map (attribute_use (numbers docs) globals c.place.file) c.body.uses in
        strictly (uses (numbers docs) globals c) (rises_in_order use_before use_order made) (λ a.
        let one = sum_in_order use_before (λ (u : AttributeUse). as_number (name_eq a u.name)) made in
        let two = count_mapped (λ (u : AttributeUse). name_eq a u.name) (attribute_use (numbers docs) globals c.place.file) c.body.uses in
        let once = use_once docs h c known a in
        omega (arith, one, two, once))

    -- the simple type of a text
    pub text_good : (base : RawRef) (at : ℕ) → c.body.content ≡ content.Simple base at → simple_of_reference (numbers docs) base < simple_count docs
    text_good base at e =
        let p = part c.place.file (Some c.body.at) at (what.TypeReference role.Content base) in
        simple_reference docs h.resolved c.place.file at (Some c.body.at) role.Content base refl (λ b. refl)
        (complex_part docs c known p
        (has_left (in_content c.place.file c.body.at c.body.content) (flat_map (in_use c.place.file c.body.at) c.body.uses) p
        (subst (λ k. HasItem (in_content c.place.file c.body.at k) p) (sym e) (inl refl))))
