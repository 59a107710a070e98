-- The content models of the set of documents without a fault.
use Rattle.std.proofs.Common.{◌≡◌, ℕ, suc, ◌+◌, ◌≤◌, arith, Bool, true, false, inl, inr, List, [], ◌∷◌, ◌++◌, Option, Some, None, refl, sym, ap, ap₂, ◌∙◌, subst, append-nil, append_assoc}
use Rattle.std.specs.Prelude.{◌&&◌, nat_eq, nat_lt, slice_get, MatchOption}
use Rattle.std.specs.List.{flat_map, count_by}
use Rattle.std.proofs.Math.Logic.{∥∥₁_elim}
use Rattle.std.proofs.Math.Nat.{ℕ_set}
use Rattle.std.proofs.lemmas.Bool.{and_parts, and_from, eqb-true, eq-eqb, cases_Bool}
use Rattle.std.proofs.lemmas.Grind.{flat_map-append}
use Rattle.base_texts.specs.declared.texts.Name.{Name}
use Rattle.base_texts.specs.Lists.{HasItem}
use Rattle.base_texts.specs.Names.{name_eq}
use Rattle.base_texts.proofs.NameLaws.{name_eq-Decides}
use Rattle.base_trees.specs.Rose.{Rose}
use Rattle.content_models.specs.Breaches.{all_placed, IsFirstBreach}
use Rattle.content_models.specs.Clear.{Clear}
use Rattle.content_models.specs.Private.Deciding.{breach_of}
use Rattle.content_models.specs.Seen.{seen}
use Rattle.content_models.specs.declared.breaches.Breach.{Breach}
use Rattle.content_models.specs.declared.particles.ParticleLabel.{ParticleLabel}
use Rattle.content_models.proofs.Renumbering.{law_of_declaration_numbers}
use Rattle.content_models.proofs.Telling.{decides_clear}
use Rattle.schema_components.specs.Bounds.{content_fits, kind_fits, local_fits, type_fits, elements_fit, types_fit, locals_fit}
use Rattle.schema_components.specs.Chains.{leaves_of_content}
use Rattle.schema_components.specs.Coherent.{leaves_in, leaves_of_models, model_in_content, model_in_kind, model_in_local, model_in_type, models_in_elements, models_in_types, models_in_locals, name_of}
use Rattle.schema_components.specs.Coherent as coherent
use Rattle.schema_components.specs.Inward.{has_place, content_inward, body_inward, kind_inward, local_inward, definition_inward, elements_inward, attributes_inward, types_inward, locals_inward, uses_inward}
use Rattle.schema_components.specs.Linked.{leaves_of_model}
use Rattle.schema_components.specs.Places.{local_place}
use Rattle.schema_components.specs.Raw.{Complex, Kind, NamedKind, SimpleKind, ComplexKind, Element, Local, Reference, Own, TypeDefinition, SimpleType, ComplexType, Document}
use Rattle.schema_components.specs.declared.declarations.RawContent.{RawContent}
use Rattle.schema_components.specs.declared.declarations.RawContent.TheVariants as content
use Rattle.link_names.specs.declared.faults.LinkingFault.{LinkingFault}
use Rattle.link_names.specs.declared.faults.LinkWhy.TheVariants.{NotClear, TypesDiffer}
use Rattle.link_names.specs.declared.places.Place.{Place}
use Rattle.link_names.specs.Order.{place, fault, is_before, OneHas}
use Rattle.link_complex.specs.ComplexTypes.{ComplexDefinition, of_document, complex_types, model_of}
use Rattle.link_complex.specs.Content.{BreaksIn, IsUnclearType}
use Rattle.link_complex.specs.ElementTypes.{TypedParticle, typed_particles, type_named, typed_elements, type_at, IsOtherAt, HasOtherOf, DiffersIn}
use Rattle.link_complex.proofs.Clearing.{some_answered}
use Rattle.link_set.specs.Sets.{numbered}
use Rattle.link_schemas.proofs.DeclaredParts.{ascending_lists}
use Rattle.link_schemas.proofs.FewComponents.{each_complex}
use Rattle.link_schemas.proofs.GlobalLists.{by_kind_of, of_element, of_definition, of_local, complexes_listed}
use Rattle.link_schemas.proofs.Items.{as_number, in_flat, by_and, count_more, some_count, one_number}
use Rattle.link_schemas.proofs.Kept.{Keeps, AreFaultless}
use Rattle.link_schemas.proofs.NumberedModels.{undeclared_numbered, content_leaf}
use Rattle.link_schemas.proofs.OncePlaced.{compared, ascending_once}
use Rattle.link_schemas.proofs.SameTypes.{same_kind}

-- ---- what holds of the bodies of complex types, wherever they stand

module _ (d : Document) (P : Complex → Type 0)
    (of_elements : (e : Element) → HasItem d.elements e → (b : Complex) → e.kind ≡ ComplexKind b → P b)
    (of_types : (name : Name) (b : Complex) → HasItem d.types (ComplexType name b) → P b)
    (of_locals : (e : Element) → HasItem d.locals (Own e) → (b : Complex) → e.kind ≡ ComplexKind b → P b) where
  by_kinds : (k : Kind) → ((b : Complex) → k ≡ ComplexKind b → P b) → (c : ComplexDefinition) → HasItem (by_kind_of d.file k) c → P c.body
  by_kinds (NamedKind r) all c h = absurd h
  by_kinds (SimpleKind s) all c h = absurd h
  by_kinds (ComplexKind b) all c (inl same) = subst (λ (x : ComplexDefinition). P x.body) same (all b refl)
  by_kinds (ComplexKind b) all c (inr none) = absurd none

  by_types : (t : TypeDefinition) → HasItem d.types t → (c : ComplexDefinition) → HasItem (of_definition d.file t) c → P c.body
  by_types (SimpleType name s) i c h = absurd h
  by_types (ComplexType name b) i c (inl same) = subst (λ (x : ComplexDefinition). P x.body) same (of_types name b i)
  by_types (ComplexType name b) i c (inr none) = absurd none

  by_locals : (l : Local) → HasItem d.locals l → (c : ComplexDefinition) → HasItem (of_local d.file l) c → P c.body
  by_locals (Reference name at) i c h = absurd h
  by_locals (Own e) i c h = by_kinds e.kind (of_locals e i) c h

  pub each_body : (c : ComplexDefinition) → HasItem (of_document d) c → P c.body
  each_body c h =
      each_complex d (λ (x : ComplexDefinition). P x.body) ((λ e i x j. by_kinds e.kind (of_elements e i) x j), by_types, by_locals)
      c (subst (λ cs. HasItem cs c) (complexes_listed d) h)

module _ (d : Document) (k : Keeps d) where
  inward_lists : (elements_inward d.locals d.elements ≡ true) × (types_inward d.locals d.types ≡ true) × (locals_inward d.locals d.locals ≡ true)
  inward_lists =
      let es = elements_inward d.locals d.elements in
      let as_ = attributes_inward d.attributes in
      let ts = types_inward d.locals d.types in
      let ls = locals_inward d.locals d.locals in
      let one = and_parts es (as_ && (ts && ls)) k.inward in
      let two = and_parts as_ (ts && ls) one.1 in
      let three = and_parts ts ls two.1 in
      (one.0, three.0, three.1)

  pub element_inward : (e : Element) → HasItem d.locals (Own e) → kind_inward d.locals e.at e.kind ≡ true
  element_inward e i = by_and (locals_inward d.locals) (local_inward d.locals) (λ x xs. refl) d.locals inward_lists.2 (Own e) i

  of_kind : (at : ℕ) (kind : Kind) → kind_inward d.locals at kind ≡ true → (b : Complex) → kind ≡ ComplexKind b → body_inward d.locals b ≡ true
  of_kind at kind is b e =
      let here : kind_inward d.locals at (ComplexKind b) ≡ true = ap (kind_inward d.locals at) (sym e) ∙ is in
      (and_parts (nat_lt at b.at) (body_inward d.locals b) here).1

  pub complex_inward : (c : ComplexDefinition) → HasItem (of_document d) c → content_inward d.locals c.body.at c.body.content ≡ true
  complex_inward c i =
      (and_parts (content_inward d.locals c.body.at c.body.content) (uses_inward c.body.at c.body.uses)
      (each_body d (λ b. body_inward d.locals b ≡ true)
      (λ e j b same. of_kind e.at e.kind (by_and (elements_inward d.locals) (λ x. kind_inward d.locals x.at x.kind) (λ x xs. refl) d.elements inward_lists.0 e j) b same)
      (λ name b j. by_and (types_inward d.locals) (definition_inward d.locals) (λ x xs. refl) d.types inward_lists.1 (ComplexType name b) j)
      (λ e j b same. of_kind e.at e.kind (element_inward e j) b same)
      c i)).0

  fitting_lists : (elements_fit d.elements ≡ true) × (types_fit d.types ≡ true) × (locals_fit d.locals ≡ true)
  fitting_lists =
      let one = and_parts (elements_fit d.elements) (types_fit d.types && locals_fit d.locals) k.fitting in
      let two = and_parts (types_fit d.types) (locals_fit d.locals) one.1 in
      (one.0, two.0, two.1)

  pub complex_fits : (c : ComplexDefinition) → HasItem (of_document d) c → content_fits c.body.content ≡ true
  complex_fits c i =
      each_body d (λ b. content_fits b.content ≡ true)
      (λ e j b same. sym (ap kind_fits same) ∙ by_and elements_fit (λ x. kind_fits x.kind) (λ x xs. refl) d.elements fitting_lists.0 e j)
      (λ name b j. by_and types_fit type_fits (λ x xs. refl) d.types fitting_lists.1 (ComplexType name b) j)
      (λ e j b same. sym (ap kind_fits same) ∙ by_and locals_fit local_fits (λ x xs. refl) d.locals fitting_lists.2 (Own e) j)
      c i

  -- ---- element particles and local declarations

  pub once : (test : ℕ × Name → Bool) → count_by test (leaves_in d) ≡ count_by test (coherent.numbered 0 d.locals)
  once test = ∥∥₁_elim k.coherent (ℕ_set (count_by test (leaves_in d)) (count_by test (coherent.numbered 0 d.locals))) (λ c. c.once test)

leaves_joined : (xs ys : List (Rose ParticleLabel)) → leaves_of_models (xs ++ ys) ≡ leaves_of_models xs ++ leaves_of_models ys
leaves_joined [] ys = refl
leaves_joined (x ∷ xs) ys = ap (λ zs. leaves_of_model x ++ zs) (leaves_joined xs ys) ∙ sym (append_assoc (leaves_of_model x) (leaves_of_models xs) (leaves_of_models ys))

abbrev pub type_leaves : ComplexDefinition → List (ℕ × Name)
type_leaves c = leaves_of_content c.body.content

content_leaves : (c : RawContent) → leaves_of_models (model_in_content c) ≡ leaves_of_content c
content_leaves content.Empty = refl
content_leaves (content.Simple base at) = refl
content_leaves (content.ElementOnly model) = append-nil (leaves_of_model model)
content_leaves (content.Mixed model) = append-nil (leaves_of_model model)

kind_leaves : (file : ℕ) (k : Kind) → leaves_of_models (model_in_kind k) ≡ flat_map type_leaves (by_kind_of file k)
kind_leaves file (NamedKind r) = refl
kind_leaves file (SimpleKind s) = refl
kind_leaves file (ComplexKind b) = content_leaves b.content ∙ sym (append-nil (leaves_of_content b.content))

module _ (file : ℕ) where
  element_leaves : (es : List Element) → leaves_of_models (models_in_elements es) ≡ flat_map type_leaves (flat_map (of_element file) es)
  element_leaves [] = refl
  element_leaves (e ∷ es) =
      leaves_joined (model_in_kind e.kind) (models_in_elements es) ∙ ap₂ (λ xs ys. xs ++ ys) (kind_leaves file e.kind) (element_leaves es)
      ∙ sym (flat_map-append type_leaves (by_kind_of file e.kind) (flat_map (of_element file) es))

  definition_leaves : (t : TypeDefinition) → leaves_of_models (model_in_type t) ≡ flat_map type_leaves (of_definition file t)
  definition_leaves (SimpleType name s) = refl
  definition_leaves (ComplexType name b) = content_leaves b.content ∙ sym (append-nil (leaves_of_content b.content))

  types_leaves : (ts : List TypeDefinition) → leaves_of_models (models_in_types ts) ≡ flat_map type_leaves (flat_map (of_definition file) ts)
  types_leaves [] = refl
  types_leaves (t ∷ ts) =
      leaves_joined (model_in_type t) (models_in_types ts) ∙ ap₂ (λ xs ys. xs ++ ys) (definition_leaves t) (types_leaves ts)
      ∙ sym (flat_map-append type_leaves (of_definition file t) (flat_map (of_definition file) ts))

  local_leaves : (l : Local) → leaves_of_models (model_in_local l) ≡ flat_map type_leaves (of_local file l)
  local_leaves (Reference name at) = refl
  local_leaves (Own e) = kind_leaves file e.kind

  locals_leaves : (ls : List Local) → leaves_of_models (models_in_locals ls) ≡ flat_map type_leaves (flat_map (of_local file) ls)
  locals_leaves [] = refl
  locals_leaves (l ∷ ls) =
      leaves_joined (model_in_local l) (models_in_locals ls) ∙ ap₂ (λ xs ys. xs ++ ys) (local_leaves l) (locals_leaves ls)
      ∙ sym (flat_map-append type_leaves (of_local file l) (flat_map (of_local file) ls))

-- the element particles of a document, complex type by complex type
pub document_leaves : (d : Document) → leaves_in d ≡ flat_map type_leaves (of_document d)
document_leaves d =
    let es = flat_map (of_element d.file) d.elements in
    let ts = flat_map (of_definition d.file) d.types in
    let ls = flat_map (of_local d.file) d.locals in
    ap₂ (λ xs ys. xs ++ ys) (element_leaves d.file d.elements) (ap₂ (λ xs ys. xs ++ ys) (types_leaves d.file d.types) (locals_leaves d.file d.locals))
    ∙ sym (flat_map-append type_leaves es (ts ++ ls) ∙ ap (λ xs. flat_map type_leaves es ++ xs) (flat_map-append type_leaves ts ls))
    ∙ ap (flat_map type_leaves) (sym (complexes_listed d))

numbered_item : (n : ℕ) (ls : List Local) (a : ℕ × Name) → HasItem (coherent.numbered n ls) a → (k : ℕ) × (l : Local) × (a.0 ≡ n + k) × (slice_get ls k ≡ Some l) × (name_of l ≡ a.1)
numbered_item n [] a h = absurd h
numbered_item n (l ∷ ls) a (inl same) =
    (0, l, let e : a.0 ≡ n = ap (λ (b : ℕ × Name). b.0) (sym same) in omega (arith, e), refl, ap (λ (b : ℕ × Name). b.1) same)
numbered_item n (l ∷ ls) a (inr h) = let r = numbered_item (n + 1) ls a h in (suc r.0, r.1, let e = r.2 in omega (arith, e), r.3, r.4)

item_of_count : {A : Type 0} (p : A → Bool) (xs : List A) → 1 ≤ count_by p xs → (x : A) × HasItem xs x × (p x ≡ true)
item_of_count p [] some = absurd (omega (arith, some))
item_of_count p (x ∷ xs) some = elim (cases_Bool (p x)) [
  | inl passes ↦ (x, inl refl, passes)
  | inr fails ↦
      let more = count_more p x xs in
      let none : as_number (p x) ≡ 0 = ap as_number fails in
      let r = item_of_count p xs (omega (arith, some, more, none)) in
      (r.0, inr r.1, r.2)
]

module _ (d : Document) (k : Keeps d) where
  -- the local declaration of an element particle
  pub leaf_declared : (c : ComplexDefinition) → HasItem (of_document d) c → (a : ℕ × Name) → HasItem (type_leaves c) a
      → (l : Local) × (slice_get d.locals a.0 ≡ Some l) × (name_of l ≡ a.1)
  leaf_declared c i a h =
      let test : ℕ × Name → Bool = λ b. nat_eq b.0 a.0 && name_eq b.1 a.1 in
      let there = subst (λ xs. HasItem xs a) (sym (document_leaves d)) (in_flat type_leaves (of_document d) c a i h) in
      let some = some_count test (leaves_in d) a there (and_from (nat_eq a.0 a.0) (name_eq a.1 a.1) (eq-eqb a.0 a.0 refl) ((name_eq-Decides a.1 a.1).1 refl)) in
      let same = once d k test in
      let found = item_of_count test (coherent.numbered 0 d.locals) (omega (arith, some, same)) in
      let two = and_parts (nat_eq found.0.0 a.0) (name_eq found.0.1 a.1) found.2 in
      let r = numbered_item 0 d.locals found.0 found.1 in
      let number = eqb-true found.0.0 a.0 two.0 in
      let e = r.2 in
      let at : a.0 ≡ r.0 = omega (arith, e, number) in
      (r.1, ap (slice_get d.locals) at ∙ r.3, r.4 ∙ (name_eq-Decides found.0.1 a.1).0 two.1)

  -- declarations of one place are one
  pub one_declaration_at : (m n : ℕ) (l k2 : Local) → slice_get d.locals m ≡ Some l → slice_get d.locals n ≡ Some k2 → local_place l ≡ local_place k2 → m ≡ n
  one_declaration_at m n l k2 a b same =
      one_number (λ x. nat_eq (local_place k2) (local_place x)) d.locals m n l k2 (ascending_once local_place d.locals (ascending_lists d k).3 (local_place k2)) a b
      (eq-eqb (local_place k2) (local_place l) (sym same)) (eq-eqb (local_place k2) (local_place k2) refl)

-- ---- clear content models

one_has : {A : Type 0} (has : A → LinkingFault → Type 0) (xs : List A) (x : A) (f : LinkingFault) → HasItem xs x → has x f → OneHas has xs f
one_has has [] x f i h = absurd i
one_has has (y ∷ ys) x f (inl same) h = inl (subst (λ z. has z f) (sym same) h)
one_has has (y ∷ ys) x f (inr i) h = inr (one_has has ys x f i h)

clear_found : (m : Rose ParticleLabel) (o : Option Breach) → MatchOption o (Clear (seen m) []) (λ b. (Clear (seen m) [] → ⊥) × IsFirstBreach (all_placed m []) b)
    → ((f : LinkingFault) → BreaksIn (Some m) f → ⊥) → Clear (seen m) []
clear_found m None h none = h
clear_found m (Some b) h none = absurd (none (fault NotClear (place b.file b.at)) (some_answered m (Some b) b h refl).0)

pub clear_model : (m : Rose ParticleLabel) → ((f : LinkingFault) → BreaksIn (Some m) f → ⊥) → Clear (seen m) []
clear_model m none =
    let nothing : Name → Bool = λ a. false in
    clear_found m (breach_of false m nothing) (decides_clear m nothing (λ a. refl) (breach_of false m nothing) refl) none

module _ (docs : List Document) (h : AreFaultless docs) (c : ComplexDefinition) (known : HasItem (complex_types docs) c) (m : Rose ParticleLabel) (is : model_of c.body.content ≡ Some m) where
  pub model_clear : (f : ℕ → ℕ) → Clear (seen (numbered f m)) []
  model_clear f =
      let clear = clear_model m (λ g b. h.clear g (one_has IsUnclearType (complex_types docs) c g known (subst (λ o. BreaksIn o g) (sym is) b))) in
      (law_of_declaration_numbers (seen m) (seen (numbered f m)) (sym (undeclared_numbered f m))).0 [] clear

-- ---- element particles of one name

module _ (docs : List Document) (h : AreFaultless docs) (d : Document) (there : HasItem docs d) (c : ComplexDefinition) (known : HasItem (of_document d) c) where
  one_type : (p q : TypedParticle) → HasItem (typed_particles (type_at (type_named (typed_elements docs)) d) c) p
      → HasItem (typed_particles (type_at (type_named (typed_elements docs)) d) c) q → q.name ≡ p.name → is_before q.place p.place ≡ true → q.kind ≡ p.kind
  one_type p q i j name before = elim (same_kind q.kind p.kind) [
    | inl same ↦ same
    | inr apart ↦
        let types = type_named (typed_elements docs) in
        let f = fault TypesDiffer p.place in
        let ps = typed_particles (type_at types d) c in
        absurd (h.typed f
        (one_has (DiffersIn types) docs d f there
        (one_has (HasOtherOf (type_at types d)) (of_document d) c f known
        (one_has (IsOtherAt ps) ps p f i (refl, (q, j, name, before, apart))))))
  ]

  pub same_type : (a b : ℕ × Name) → HasItem (type_leaves c) a → HasItem (type_leaves c) b → a.1 ≡ b.1
      → type_at (type_named (typed_elements docs)) d a.0 ≡ type_at (type_named (typed_elements docs)) d b.0
  same_type a b i j name =
      let k = h.kept d there in
      let types = type_at (type_named (typed_elements docs)) d in
      let inward = complex_inward d k c known in
      let x = content_leaf d.locals types c.place.file c.body.at c.body.at c.body.content inward a i in
      let y = content_leaf d.locals types c.place.file c.body.at c.body.at c.body.content inward b j in
      elim (compared (place x.file x.at) (place y.file y.at)) [
        | inl before ↦ one_type _ _ y.typed x.typed name before
        | inr other ↦ elim other [
          | inl behind ↦ sym (one_type _ _ x.typed y.typed (sym name) behind)
          | inr same ↦
              let l = leaf_declared d k c known a i in
              let m = leaf_declared d k c known b j in
              let at_l : local_place l.0 ≡ x.at = eqb-true (local_place l.0) x.at (sym (ap (has_place x.at) l.1) ∙ x.declared) in
              let at_m : local_place m.0 ≡ y.at = eqb-true (local_place m.0) y.at (sym (ap (has_place y.at) m.1) ∙ y.declared) in
              ap types (one_declaration_at d k a.0 b.0 l.0 m.0 l.1 m.1 (at_l ∙ ap (λ (p : Place). p.at) same ∙ sym at_m))
        ]
      ]
