-- The set of documents in which no pass finds a fault hangs together.
use Rattle.std.proofs.Common.{◌≡◌, ℕ, suc, ◌+◌, arith, inl, inr, List, [], ◌∷◌, length, map, All, Option, Some, None, refl, sym, ap, ◌∙◌, subst}
use Rattle.std.specs.Prelude.{slice_get}
use Rattle.std.proofs.lemmas.List.{length-map}
use Rattle.base_texts.specs.Lists.{HasItem}
use Rattle.simple_types.specs.Seen.{space_of}
use Rattle.simple_types.specs.Sound.{Sound}
use Rattle.simple_types.specs.Space.{Space}
use Rattle.schema_components.specs.Components.{Set, components}
use Rattle.schema_components.specs.Documents.{doc_of}
use Rattle.schema_components.specs.Linked.{IsTyped, IsElement, IsAttribute, IsSimpleType, IsLinked}
use Rattle.schema_components.specs.Raw.{Document}
use Rattle.schema_components.specs.declared.components.ComplexDef.{ComplexDef}
use Rattle.schema_components.specs.declared.components.ElementDecl.{ElementDecl}
use Rattle.schema_components.specs.declared.components.SimpleDef.{SimpleDef}
use Rattle.schema_components.specs.declared.components.TypeOf.{TypeOf}
use Rattle.schema_components.specs.declared.components.TypeOf.TheVariants as type
use Rattle.schema_components.specs.declared.documents.RawDoc.{RawDoc}
use Rattle.link_names.specs.declared.faults.LinkingFault.{LinkingFault}
use Rattle.link_names.specs.declared.faults.LinkWhy.TheVariants.{Limit}
use Rattle.link_names.specs.declared.places.Place.{Place}
use Rattle.link_names.specs.Limits.{counted_places, limit_at}
use Rattle.link_names.specs.Order.{fault}
use Rattle.link_names.specs.SimpleTypes.{simple_types}
use Rattle.link_complex.specs.ComplexTypes.{complex_types}
use Rattle.link_set.specs.Builtins.{used_builtins}
use Rattle.link_set.specs.Few.{AreFew}
use Rattle.link_set.specs.Parts.{HasWholeModel}
use Rattle.link_set.specs.Sets as sets
use Rattle.link_set.specs.Sets.{NamedSpace, named_spaces, parts_of, set_of, element, simples, type_of_kind, spelled_complex}
use Rattle.link_set.specs.Written.{lists_of, complex_before}
use Rattle.link_schemas.specs.Passes.{passes, ArePassed}
use Rattle.link_schemas.specs.Sets.{AreNumbered}
use Rattle.link_schemas.proofs.FewComponents.{short_list, few_elements, few_complexes}
use Rattle.link_schemas.proofs.InOrder.{length_in_order}
use Rattle.link_schemas.proofs.Items.{in_mapped, of_mapped, in_either, each_item, item_of_all}
use Rattle.link_schemas.proofs.Joined.{IsJoined}
use Rattle.link_schemas.proofs.Kept.{Keeps, NumberedFrom, AreFaultless, each_keeps}
use Rattle.link_schemas.proofs.Respelled.{respelled, respelled_linked}
use Rattle.link_schemas.proofs.SetChains.{unnamed_there, descending, short}
use Rattle.link_schemas.proofs.SetContents.{linked_set, complexes_good}
use Rattle.link_schemas.proofs.SetCounts.{made, one_particle, one_declaration}
use Rattle.link_schemas.proofs.SetNames.{simples_named, types_apart}
use Rattle.link_schemas.proofs.SetOfDocuments.{simples_count, simple_count_few, elements_count, globals_within, complexes_count, attributes_count, global_good, local_good, attribute_good, elements_apart, attributes_apart}
use Rattle.link_schemas.proofs.TypedNumbers.{numbers, IsTypeNumber}

-- ---- documents in which no pass finds a fault

none_beyond : (o : Option Place) → ((f : LinkingFault) → HasItem (limit_at o) f → ⊥) → o ≡ None
none_beyond None none = refl
none_beyond (Some p) none = absurd (none (fault Limit p) (inl refl))

numbered_from : (n : ℕ) (docs : List Document) → ((k : ℕ) (d : Document) → slice_get docs k ≡ Some d → d.file ≡ n + k + 1) → NumberedFrom n docs
numbered_from n [] h = tt
numbered_from n (d ∷ docs) h =
    ((let e = h 0 d refl in omega (arith, e)), numbered_from (n + 1) docs (λ k x at. let e = h (suc k) x at in omega (arith, e)))

pub faultless_of : (docs : List Document) → AreNumbered docs → ((d : Document) → HasItem docs d → Keeps d) → ArePassed docs passes → AreFaultless docs
faultless_of docs numbered kept passed = record {
  few = short_list (counted_places docs) 10000 (none_beyond (slice_get (counted_places docs) 10000) passed.0);
  apart = passed.1.0;
  resolved = passed.1.1.0;
  uses = λ f i. passed.1.1.1.1.1.1.0 f (inl i);
  typed = λ f i. passed.1.1.1.1.1.1.0 f (inr i);
  clear = passed.1.1.1.1.1.1.1.0;
  numbered = numbered_from 0 docs (λ k d at. let e = numbered k d at in omega (arith, e));
  kept = kept;
}

faultless : (docs : List RawDoc) → AreNumbered (map doc_of docs) → ArePassed (map doc_of docs) passes → AreFaultless (map doc_of docs)
faultless docs numbered passed = faultless_of (map doc_of docs) numbered (each_keeps docs) passed

-- they have few components
pub set_few : (docs : List RawDoc) → AreNumbered (map doc_of docs) → ArePassed (map doc_of docs) passes → AreFew (lists_of (map doc_of docs))
set_few docs numbered passed =
    let ds = map doc_of docs in
    let h = faultless docs numbered passed in
    record {
      elements = let few = few_elements ds h in omega (arith, few);
      simples = let few = simple_count_few ds h in omega (arith, few);
      complexes = let few = few_complexes ds h in let same = length_in_order complex_before (complex_types ds) in omega (arith, few, same);
    }

-- ---- their set

module _ (docs : List Document) (h : AreFaultless docs) (spaces : List Space) (long : length spaces ≡ length (simple_types docs)) (ts : List SimpleDef)
    (named : named_spaces ts ≡ simples (simple_types docs) spaces (used_builtins (lists_of docs))) where
  typed_in : (k : TypeOf) → IsTypeNumber docs k → IsTyped (linked_set docs h ts (simples_count docs spaces long ts named)) k
  typed_in (type.Simple n) lt = let same = simples_count docs spaces long ts named in omega (arith, lt, same)
  typed_in (type.Complex n) lt = let same = length-map (lists_of docs).complexes (made docs) in omega (arith, lt, same)

  element_good : (e : ElementDecl) → HasItem (sets.elements (numbers docs) (lists_of docs)) e → IsElement (linked_set docs h ts (simples_count docs spaces long ts named)) e
  element_good e i =
      elim (in_either (map (element (numbers docs)) (lists_of docs).globals) (map (element (numbers docs)) (lists_of docs).locals) e i) [
        | inl j ↦
            let r = of_mapped (element (numbers docs)) (lists_of docs).globals e j in
            let good = global_good docs h r.0 r.1 in
            subst (IsElement (linked_set docs h ts (simples_count docs spaces long ts named))) r.2
            (good.0, typed_in (type_of_kind (numbers docs) r.0.file r.0.element.kind) good.1)
        | inr j ↦
            let r = of_mapped (element (numbers docs)) (lists_of docs).locals e j in
            let good = local_good docs h r.0 r.1 in
            subst (IsElement (linked_set docs h ts (simples_count docs spaces long ts named))) r.2
            (good.0, typed_in (type_of_kind (numbers docs) r.0.file r.0.element.kind) good.1)
      ]

  joined : All (λ (t : SimpleDef). Sound (space_of t.space)) ts → All HasWholeModel (sets.complexes (numbers docs) docs (lists_of docs))
      → IsJoined (linked_set docs h ts (simples_count docs spaces long ts named))
  joined sound whole =
      let same = simples_count docs spaces long ts named in
      let set = linked_set docs h ts same in
      record {
        few_elements = let few = elements_count docs h in omega (arith, few);
        few_simples = let few = simple_count_few docs h in omega (arith, few, same);
        few_complexes = let few = complexes_count docs h in omega (arith, few);
        few_attributes = let few = attributes_count docs h in omega (arith, few);
        globals = globals_within docs h;
        elements = each_item (IsElement set) (sets.elements (numbers docs) (lists_of docs)) element_good;
        simples = each_item IsSimpleType ts (λ t i. (simples_named docs h spaces long ts named t i, item_of_all (λ (u : SimpleDef). Sound (space_of u.space)) ts sound t i));
        complexes = complexes_good docs h ts same whole;
        attributes = each_item (IsAttribute set) (sets.attributes (numbers docs) (lists_of docs).attributes)
            (λ g i. let good = attribute_good docs h g i in let lt = good.1 in (good.0, omega (arith, lt, same)));
        elements_apart = elements_apart docs h;
        types_apart = types_apart docs h spaces long ts named;
        attributes_apart = attributes_apart docs h;
        one_particle = one_particle docs h;
        one_declaration = λ n unnamed. let x = unnamed_there docs h ts same n unnamed in one_declaration docs h n x.0 x.1 x.2;
        descending = descending docs h ts same;
        short = short docs h ts same;
      }

-- content models stay as they are
whole_as_written : (ts : List NamedSpace) (cs : List ComplexDef) → All HasWholeModel (map (spelled_complex ts) cs) → All HasWholeModel cs
whole_as_written ts cs whole =
    each_item HasWholeModel cs (λ c i. item_of_all HasWholeModel (map (spelled_complex ts) cs) whole (spelled_complex ts c) (in_mapped (spelled_complex ts) cs c i))

-- the set that has the parts
pub set_of_linked : (docs : List Document) → AreFaultless docs → (s : Set) (spaces : List Space) → length spaces ≡ length (simple_types docs) → parts_of s ≡ set_of docs spaces
    → All (λ (t : SimpleDef). Sound (space_of t.space)) s.simples → All HasWholeModel s.complexes → IsLinked s
set_of_linked docs h s spaces long is sound whole =
    let named = ap (λ (p : sets.SetParts). p.simples) is in
    let complexes = ap (λ (p : sets.SetParts). p.complexes) is in
    let written = linked_set docs h s.simples (simples_count docs spaces long s.simples named) in
    let kinds = simples (simple_types docs) spaces (used_builtins (lists_of docs)) in
    let same : s ≡ respelled kinds written =
    λ i. components (is i).elements (is i).globals s.simples (is i).complexes (is i).attributes in
    let own : s ≡ respelled (named_spaces s.simples) written = same ∙ ap (λ ts. respelled ts written) (sym named) in
    subst IsLinked (sym own)
    (respelled_linked written sound (joined docs h spaces long s.simples named sound
    (whole_as_written kinds written.complexes (subst (λ cs. All HasWholeModel cs) complexes whole))))

pub set_linked : (docs : List RawDoc) (s : Set) (spaces : List Space) → AreNumbered (map doc_of docs) → ArePassed (map doc_of docs) passes
    → length spaces ≡ length (simple_types (map doc_of docs)) → parts_of s ≡ set_of (map doc_of docs) spaces
    → All (λ (t : SimpleDef). Sound (space_of t.space)) s.simples → All HasWholeModel s.complexes → IsLinked s
set_linked docs s spaces numbered passed long is sound whole = set_of_linked (map doc_of docs) (faultless docs numbered passed) s spaces long is sound whole
