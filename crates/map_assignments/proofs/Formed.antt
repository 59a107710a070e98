-- The types of a map are types of a module.
use Rattle.std.proofs.Common.{◌≡◌, ℕ, suc, ◌-◌, ◌<◌, ◌^◌, Bool, true, false, ◌||◌, Some, List, [], ◌∷◌, ◌++◌, length, map, true≢false, refl, sym, ap, subst, ◌∙◌, arith}
use Rattle.std.specs.Prelude.{slice_get}
use Rattle.std.proofs.lemmas.List.{length-map}
use Rattle.std.proofs.lemmas.Option.{slice_get_within}
use Rattle.base_trees.specs.Rose.{Rose, node, Roses, label_of}
use Rattle.base_trees.specs.Rose as rose
use Rattle.simple_types.specs.declared.standards.Standard.TheVariants.{Free, Default, Fixed}
use Rattle.simple_types.specs.Space.{Space, Spaces, none, more, Booleans, Wholes, Numbers, Words, Characters, ListOf, UnionOf, count_members}
use Rattle.simple_types.specs.Sound.{Sound, AreSound, IsCounted}
use Rattle.asn_types.specs.declared.marks.Instruction.{Instruction}
use Rattle.asn_types.specs.declared.marks.Instruction.TheVariants as mark
use Rattle.asn_types.specs.declared.types.Component.{Component}
use Rattle.asn_types.specs.declared.types.Form.{Form}
use Rattle.asn_types.specs.declared.types.Form.TheVariants as form
use Rattle.asn_types.specs.declared.types.TypeLabel.{TypeLabel}
use Rattle.asn_types.specs.declared.modules.Assignment.{Assignment}
use Rattle.asn_types.specs.Marks.{has_attribute, has_use_nil, has_embed_values, has_use_order, has_list, has_use_union}
use Rattle.asn_types.specs.Modules.{IsForm, IsAnyText, AreTexts, HasTexts, AttributesAreSimple, IsSpellingOf, IsStandard, AreStandards, HasStandards, IsWellFormed, AreWellFormed, AllWellFormed}
use Rattle.asn_types.specs.Parts.{parts_of}
use Rattle.asn_types.specs.Refs.{target, body_at, resolve, ChainsWithin}
use Rattle.asn_types.specs.Simples.{MapsTo, IsSimple, white_space_marks}
use Rattle.schema_components.specs.Components.{Set}
use Rattle.schema_components.specs.Linked.{IsSpellingAt}
use Rattle.map_subjects.specs.declared.subjects.Subject.{Subject}
use Rattle.map_subjects.specs.declared.subjects.Subject.TheVariants as subject
use Rattle.map_subjects.specs.declared.subjects.NamedSubject.{NamedSubject}
use Rattle.map_subjects.specs.Subjects.{place_in, AreEntries}
use Rattle.map_assignments.specs.Plans.{Label, attribute, element, group, elements, groups, texts, order, item, base, content, TypePlan, simple, sequence, choice, repeated, order_items, reference, Parts, finish, part}
use Rattle.map_assignments.specs.Planning.{body, texts_type}
use Rattle.map_assignments.specs.Naming.{type_label, component_of, list_item, identifier_of, text_marks, part_standard, part_marks, named_part, repeated_part, wanted, sequence_marks, AreTaken, IsSimpleType, AreMembers, IsNamed, AreNamed}
use Rattle.map_assignments.specs.Mapped.{AreMapped}
use Rattle.map_assignments.proofs.Simples.{simple-maps}
use Rattle.map_assignments.proofs.Free.{label-free, members-free, named-free}
use Rattle.map_assignments.proofs.Shapes.{is_attribute_label, count_parts, EndsOptional, BeginsTexts, IsSpelling, IsSimplePlan, IsSpelled, IsAttributePlan, IsPlan, ArePlans, Refers, depth_of, refers-all}
use Rattle.map_assignments.proofs.Ordered.{order-part}
use Rattle.map_assignments.proofs.Marked.{AsksNothing, nothing-asked, number-asks, words-ask, space-asks, part-attribute, sequence-no_attribute, sequence-order, sequence-no_list, sequence-no_union, sequence-nil, sequence-embeds}
use Rattle.map_assignments.proofs.Resolving.{simple-chains, no-target, follow-none, follow-one}
use Rattle.map_assignments.proofs.ModulePlaces.{located, located-within}
use Rattle.map_assignments.proofs.Chains.{chain}

never : (b : Bool) (A : Type 0) → b ≡ false → b ≡ true → A
never b A e f = absurd (true≢false (sym f ∙ e))

taken-length : (before names gs : List (List ℕ)) → AreTaken before names gs → length gs ≡ length names
taken-length before [] [] h = refl
taken-length before [] (g ∷ gs) h = absurd h
taken-length before (name ∷ names) [] h = absurd h
taken-length before (name ∷ names) (g ∷ gs) h = ap suc (taken-length (before ++ g ∷ []) names gs h.1)

-- ---- the last part and the first

abbrev HasLast : List Component → Type 0
HasLast parts = (c : Component) × (slice_get parts (length parts - 1) ≡ Some c) × (c.optional ≡ true)

last-later : (c : Component) (others : List Component) → HasLast others → HasLast (c ∷ others)
last-later c others h =
    let below = slice_get_within others (length others - 1) h.0 h.1 in
    let back : length (c ∷ others) - 1 ≡ suc (length others - 1) = omega (arith, below) in
    (h.0, ap (slice_get (c ∷ others)) back ∙ h.1, h.2)

module _ (place : Subject → ℕ) where
  content-last : (before : List (List ℕ)) (ps : Parts) (parts : List Component) (ts : Roses TypeLabel) → EndsOptional ps → AreNamed place before ps parts ts → HasLast parts
  content-last before finish parts ts e h = absurd e
  content-last before (part l optional p finish) parts ts e h =
      subst HasLast (sym (h.5 ∙ ap (λ cs. named_part l h.0 optional ∷ cs) h.8.0)) (named_part l h.0 optional, refl, e)
  content-last before (part l optional p (part k other q ps)) parts ts e h =
      subst HasLast (sym h.5) (last-later (named_part l h.0 optional) h.1 (content-last (before ++ h.0 ∷ []) (part k other q ps) h.1 h.3 e h.8))

  are-texts : (p : TypePlan) (u : Rose TypeLabel) → p ≡ texts_type → IsNamed place p u → AreTexts u
  are-texts p u is h =
      let named : IsNamed place texts_type u = subst (λ q. IsNamed place q u) is h in
      subst AreTexts (sym named.1) (repeated_part item, refl, subst IsAnyText (sym named.2) refl)

  texts-first : (ps : Parts) (parts : List Component) (ts : Roses TypeLabel) → BeginsTexts ps → AreNamed place [] ps parts ts → HasTexts (form.Sequence parts) ts
  texts-first finish parts ts e h = absurd e
  texts-first (part l optional p ps) parts ts e h = subst (HasTexts (form.Sequence parts)) (sym h.6) (are-texts p h.2 e.1 h.7)

-- ---- types that stand for simple types

module _ (M : List Assignment) where
  plainly : (l : TypeLabel) (ts : Roses TypeLabel) → AsksNothing l.marks → IsForm M l.form → AttributesAreSimple M (parts_of l.form) ts → HasStandards M l.form ts
      → ChainsWithin M 4 (node l ts) → IsWellFormed M l ts
  plainly l ts asks is attributes standards chains = record {
    form = is;
    attribute = asks.attribute;
    embed_values = λ e. never (has_embed_values l.marks) _ asks.embed_values e;
    use_nil = λ e. never (has_use_nil l.marks) _ asks.use_nil e;
    use_order = λ e. never (has_use_order l.marks) _ asks.use_order e;
    list = λ e. never (has_list l.marks) _ asks.list e;
    use_union = λ e. never (has_use_union l.marks) _ asks.use_union e;
    simple = λ e. never (has_list l.marks || has_use_union l.marks) _ (ap (λ b. b || has_use_union l.marks) asks.list ∙ asks.use_union) e;
    attributes = attributes;
    standards = standards;
    chains = chains;
  }

  leaf : (f : Form) (marks : List Instruction) → AsksNothing marks → IsForm M f → parts_of f ≡ [] → HasStandards M f rose.none → ChainsWithin M 4 (node (type_label f marks) rose.none)
      → AreWellFormed M (node (type_label f marks) rose.none)
  leaf f marks asks is lacks standards chains =
      (plainly (type_label f marks) rose.none asks is (subst (λ cs. AttributesAreSimple M cs rose.none) (sym lacks) tt) standards chains, tt)

  mutual
    pub simple-formed : (s : Space) (t : Rose TypeLabel) → Sound s → IsSimpleType s t → AreWellFormed M t
    simple-formed Booleans t sound h = subst (AreWellFormed M) (sym h) (leaf form.Bool [] nothing-asked tt refl tt (simple-chains M 4 Booleans (node (type_label form.Bool []) rose.none) refl))
    simple-formed (Wholes least greatest) t sound h =
        subst (AreWellFormed M) (sym h)
        (leaf (form.Int least greatest) [] nothing-asked sound refl tt (simple-chains M 4 (Wholes least greatest) (node (type_label (form.Int least greatest) []) rose.none) refl))
    simple-formed (Numbers numbers) t sound h =
        subst (AreWellFormed M) (sym h)
        (leaf (form.Numbers numbers) (mark.UseNumber ∷ []) number-asks sound refl tt
        (simple-chains M 4 (Numbers numbers) (node (type_label (form.Numbers numbers) (mark.UseNumber ∷ [])) rose.none) refl))
    simple-formed (Words how words) t sound h =
        let marks = white_space_marks how ++ text_marks 0 h.identifiers words in
        let l = type_label (form.Words h.identifiers words) marks in
        let each : length h.identifiers ≡ length words = taken-length [] (map identifier_of words) h.identifiers h.taken ∙ length-map words identifier_of in
        subst (AreWellFormed M) (sym h.type)
        (leaf (form.Words h.identifiers words) marks (words-ask how h.identifiers words) (sound.0, sound.1, each) refl tt
        (subst (ChainsWithin M 4) h.type (simple-chains M 4 (Words how words) t h)))
    simple-formed (Characters how least most class) t sound h =
        subst (AreWellFormed M) (sym h)
        (leaf (form.Utf8 least most class) (white_space_marks how) (space-asks how) sound refl tt
        (simple-chains M 4 (Characters how least most class) (node (type_label (form.Utf8 least most class) (white_space_marks how)) rose.none) refl))
    simple-formed (ListOf s least most) t sound h =
        let l = type_label (form.SequenceOf list_item least most) (mark.List ∷ []) in
        let ts = rose.more h.0 rose.none in
        subst (AreWellFormed M) (sym h.1) (
          record {
            form = sound.2;
            attribute = refl;
            embed_values = λ e. never _ _ refl e;
            use_nil = λ e. never _ _ refl e;
            use_order = λ e. never _ _ refl e;
            list = λ e. tt;
            use_union = λ e. never _ _ refl e;
            simple = λ e. (ListOf s least most, sound, simple-maps (ListOf s least most) (node l ts) (h.0, refl, h.2));
            attributes = ((λ e. never _ _ refl e), tt);
            standards = refl;
            chains = simple-chains M 4 (ListOf s least most) (node l ts) (h.0, refl, h.2);
          },
          (simple-formed s h.0 sound.0 h.2, tt),
        )
    simple-formed (UnionOf members) t sound h =
        let l = type_label (form.Choice h.0) (mark.UseUnion ∷ []) in
        let all = members-formed [] members h.0 h.1 sound.1 h.3 in
        subst (AreWellFormed M) (sym h.2) (
          record {
            form = subst IsCounted (sym all.0) sound.0;
            attribute = refl;
            embed_values = λ e. never _ _ refl e;
            use_nil = λ e. never _ _ refl e;
            use_order = λ e. never _ _ refl e;
            list = λ e. never _ _ refl e;
            use_union = λ e. tt;
            simple = λ e. (UnionOf members, sound, simple-maps (UnionOf members) (node l h.1) (h.0, h.1, refl, h.3));
            attributes = all.1;
            standards = members-free [] members h.0 h.1 h.3;
            chains = simple-chains M 4 (UnionOf members) (node l h.1) (h.0, h.1, refl, h.3);
          },
          all.2,
        )

    members-formed : (before : List (List ℕ)) (ss : Spaces) (parts : List Component) (ts : Roses TypeLabel) → AreSound ss → AreMembers before ss parts ts
        → (length parts ≡ count_members ss) × AttributesAreSimple M parts ts × AllWellFormed M ts
    members-formed before none parts ts sound h =
        (ap length h.0, subst (λ cs. AttributesAreSimple M cs ts) (sym h.0) tt, subst (AllWellFormed M) (sym h.1) tt)
    members-formed before (more s ss) parts ts sound h =
        let rest = members-formed (before ++ h.0 ∷ []) ss h.1 h.3 sound.2 h.8 in (
          ap length h.5 ∙ ap suc rest.0,
          subst (λ cs. AttributesAreSimple M cs ts) (sym h.5)
              (subst (AttributesAreSimple M (component_of h.0 false [] ∷ h.1)) (sym h.6) ((λ e. never false _ refl e), rest.1)),
          subst (AllWellFormed M) (sym h.6) (simple-formed s h.2 sound.0 h.7, rest.2),
        )

  -- ---- references to simple types

  pub itself : (s : Space) (t : Rose TypeLabel) → IsSimpleType s t → MapsTo s (resolve M t)
  itself s t h = subst (MapsTo s) (sym (follow-none M 4 t (no-target M s t h))) (simple-maps s t h)

  pub referred : (k : ℕ) (s : Space) (t u : Rose TypeLabel) → t ≡ node (type_label (form.Ref k) []) rose.none → body_at M k ≡ Some u → IsSimpleType s u → MapsTo s (resolve M t)
  referred k s t u is found h =
      let leads : target (label_of t).form ≡ Some k = ap (λ (v : Rose TypeLabel). target (label_of v).form) is in
      subst (MapsTo s) (sym (follow-one M 3 k t u leads found ∙ follow-none M 3 u (no-target M s u h))) (simple-maps s u h)

-- ---- all types of a map

module _ (s : Set) (es : List NamedSubject) (M : List Assignment) (entries : AreEntries s es) (mapped : AreMapped (place_in es) s [] es M)
    (plans : (w : Subject) → IsPlan s (body s w)) (depths : (w : Subject) → Refers (λ v. depth_of v < depth_of w) (body s w))
    (simples : (n : ℕ) (u : Rose TypeLabel) → IsNamed (place_in es) (body s (subject.Simple n)) u → (sp : Space) × Sound sp × IsSimpleType sp u × ((text : List ℕ) → IsSpellingAt s n text → IsSpelling sp text)) where
  pub simple-part : (p : TypePlan) (t : Rose TypeLabel) → IsSimplePlan s p → IsNamed (place_in es) p t → IsSimple (resolve M t)
  simple-part (simple sp) t g h = (sp, g, itself M sp t h)
  simple-part (sequence nillable mixed ordered ps) t g h = absurd g
  simple-part (choice ps) t g h = absurd g
  simple-part (repeated l p least most) t g h = absurd g
  simple-part (order_items firsts ls) t g h = absurd g
  simple-part (reference (subject.Element n)) t g h = absurd g
  simple-part (reference (subject.Attribute n)) t g h = absurd g
  simple-part (reference (subject.Simple n)) t g h =
      let found = located s es M entries mapped (subject.Simple n) g in
      let is = simples n found.0 found.2 in
      (is.0, is.1, referred M (place_in es (subject.Simple n)) is.0 t found.0 h found.1 is.2)
  simple-part (reference (subject.Complex n)) t g h = absurd g
  simple-part (reference (subject.Nillable n)) t g h = absurd g

  -- ---- default and fixed values

  spelled-part : (p : TypePlan) (t : Rose TypeLabel) (text : List ℕ) → IsSimplePlan s p → IsSpelled s p text → IsNamed (place_in es) p t → IsSpellingOf M t text
  spelled-part (simple sp) t text g k h = (sp, k.0, g, itself M sp t h, k.1, k.2)
  spelled-part (sequence nillable mixed ordered ps) t text g k h = absurd g
  spelled-part (choice ps) t text g k h = absurd g
  spelled-part (repeated l p least most) t text g k h = absurd g
  spelled-part (order_items firsts ls) t text g k h = absurd g
  spelled-part (reference (subject.Element n)) t text g k h = absurd g
  spelled-part (reference (subject.Attribute n)) t text g k h = absurd g
  spelled-part (reference (subject.Simple n)) t text g k h =
      let found = located s es M entries mapped (subject.Simple n) g in
      let is = simples n found.0 found.2 in
      let v = is.3 text k in
      (is.0, v.0, is.1, referred M (place_in es (subject.Simple n)) is.0 t found.0 h found.1 is.2, v.1, v.2)
  spelled-part (reference (subject.Complex n)) t text g k h = absurd g
  spelled-part (reference (subject.Nillable n)) t text g k h = absurd g

  standard-is : (k : Label) (optional : Bool) (p : TypePlan) (g : List ℕ) (t : Rose TypeLabel) → (is_attribute_label k ≡ true → IsAttributePlan s (part_standard k) optional p)
      → IsNamed (place_in es) p t → IsStandard M (named_part k g optional) t
  standard-is (attribute name Free) optional p g t f h = tt
  standard-is (attribute name (Default text)) optional p g t f h = let a = f refl in (refl, a.1.0, spelled-part p t text a.0 a.1.1 h)
  standard-is (attribute name (Fixed text)) optional p g t f h = let a = f refl in (refl, spelled-part p t text a.0 a.1 h)
  standard-is (element name) optional p g t f h = tt
  standard-is (group k) optional p g t f h = tt
  standard-is (elements name) optional p g t f h = tt
  standard-is (groups k) optional p g t f h = tt
  standard-is texts optional p g t f h = tt
  standard-is order optional p g t f h = tt
  standard-is item optional p g t f h = tt
  standard-is base optional p g t f h = tt
  standard-is content optional p g t f h = tt

  shallow : (w : Subject) → depth_of w < 4
  shallow (subject.Element n) = omega arith
  shallow (subject.Attribute n) = omega arith
  shallow (subject.Simple n) = omega arith
  shallow (subject.Complex n) = omega arith
  shallow (subject.Nillable n) = omega arith

  chains-of : (p : TypePlan) (t : Rose TypeLabel) → IsPlan s p → IsNamed (place_in es) p t → ChainsWithin M 4 t
  chains-of p t g h = chain s es M entries mapped plans depths 4 p t g (refers-all (λ w. depth_of w < 4) shallow p) h

  mutual
    pub named-formed : (p : TypePlan) (t : Rose TypeLabel) → IsPlan s p → IsNamed (place_in es) p t → AreWellFormed M t
    named-formed (simple sp) t g h = simple-formed M sp t g h
    named-formed (sequence nillable mixed ordered ps) t g h =
        let marks = sequence_marks nillable mixed ordered in
        let l = type_label (form.Sequence h.0) marks in
        let all = parts-formed [] ps h.0 h.1 g.2 h.3 in
        subst (AreWellFormed M) (sym h.2) (
          record {
            form = subst (λ n. n < 2 ^ 32) (sym all.0) g.1;
            attribute = sequence-no_attribute nillable mixed ordered;
            embed_values = λ e. texts-first (place_in es) ps h.0 h.1 (g.0.1 (sym (sequence-embeds nillable mixed ordered) ∙ e)) h.3;
            use_nil = λ e. content-last (place_in es) [] ps h.0 h.1 ((g.0.0 (sym (sequence-nil nillable mixed ordered) ∙ e)).0) h.3;
            use_order = λ e. order-part (place_in es) M nillable mixed ordered ps h.0 h.1 (sym (sequence-order nillable mixed ordered) ∙ e) g.3 h.3;
            list = λ e. never (has_list marks) _ (sequence-no_list nillable mixed ordered) e;
            use_union = λ e. never (has_use_union marks) _ (sequence-no_union nillable mixed ordered) e;
            simple = λ e. never (has_list marks || has_use_union marks) _ (ap (λ b. b || has_use_union marks) (sequence-no_list nillable mixed ordered) ∙ sequence-no_union nillable mixed ordered) e;
            attributes = all.1;
            standards = all.3;
            chains = chains-of (sequence nillable mixed ordered ps) (node l h.1) g (h.0, h.1, refl, h.3);
          },
          all.2,
        )
    named-formed (choice ps) t g h =
        let l = type_label (form.Choice h.0) [] in
        let all = parts-formed [] ps h.0 h.1 g.1 h.3 in
        subst (AreWellFormed M) (sym h.2)
        (plainly M l h.1 nothing-asked (subst IsCounted (sym all.0) g.0) all.1 (named-free (place_in es) [] ps h.0 h.1 g.2 h.3) (chains-of (choice ps) (node l h.1) g (h.0, h.1, refl, h.3)), all.2)
    named-formed (repeated k p least most) t g h =
        let l = type_label (form.SequenceOf (repeated_part k) least most) [] in
        let ts = rose.more h.0 rose.none in
        subst (AreWellFormed M) (sym h.1) (
          plainly M l ts nothing-asked g.0 ((λ e. never (has_attribute (part_marks k (wanted k))) _ (part-attribute k (wanted k) ∙ g.1) e), tt) (label-free k g.1)
              (chains-of (repeated k p least most) (node l ts) g (h.0, refl, h.2)),
          (named-formed p h.0 g.2 h.2, tt),
        )
    named-formed (order_items firsts ls) t g h =
        let many : length h.identifiers ≡ length ls = taken-length h.taken (map wanted ls) h.identifiers h.then_taken ∙ length-map ls wanted in
        subst (AreWellFormed M) (sym h.type)
        (leaf M (form.Order h.identifiers) [] nothing-asked (subst IsCounted (sym many) g.0) refl tt
        (subst (ChainsWithin M 4) h.type (chains-of (order_items firsts ls) t g h)))
    named-formed (reference w) t g h =
        subst (AreWellFormed M) (sym h)
        (leaf M (form.Ref (place_in es w)) [] nothing-asked (located-within s es M entries mapped w g) refl tt
        (chains-of (reference w) (node (type_label (form.Ref (place_in es w)) []) rose.none) g refl))

    parts-formed : (before : List (List ℕ)) (ps : Parts) (parts : List Component) (ts : Roses TypeLabel) → ArePlans s ps → AreNamed (place_in es) before ps parts ts
        → (length parts ≡ count_parts ps) × AttributesAreSimple M parts ts × AllWellFormed M ts × AreStandards M parts ts
    parts-formed before finish parts ts g h = (
      ap length h.0,
      subst (λ cs. AttributesAreSimple M cs ts) (sym h.0) tt,
      subst (AllWellFormed M) (sym h.1) tt,
      subst (λ cs. AreStandards M cs ts) (sym h.0) tt,
    )
    parts-formed before (part k optional p ps) parts ts g h =
        let rest = parts-formed (before ++ h.0 ∷ []) ps h.1 h.3 g.2 h.8 in (
          ap length h.5 ∙ ap suc rest.0,
          subst (λ cs. AttributesAreSimple M cs ts) (sym h.5)
              (subst (AttributesAreSimple M (named_part k h.0 optional ∷ h.1)) (sym h.6) ((λ e. simple-part p h.2 (g.1 (sym (part-attribute k h.0) ∙ e)).0 h.7), rest.1)),
          subst (AllWellFormed M) (sym h.6) (named-formed p h.2 g.0 h.7, rest.2),
          subst (λ cs. AreStandards M cs ts) (sym h.5)
              (subst (AreStandards M (named_part k h.0 optional ∷ h.1)) (sym h.6) (standard-is k optional p h.0 h.2 g.1 h.7, rest.3)),
        )
