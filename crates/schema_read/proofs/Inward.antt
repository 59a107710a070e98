-- Each part of a document stands behind the part that it stands in, and an element particle has the place of its declaration.
use Rattle.std.proofs.Common.{◌≡◌, ℕ, ◌<◌, true, List, [], Some, inl, inr, refl, ap, sym, ◌∙◌, subst, ◌&&◌, nat_lt, slice_get}
use Rattle.schema_read.proofs.Words.{and_parts, and_from, lt-ltb, eq-eqb, Name, Rose, roses_of, label_of, ParticleLabel, RawContent, Bases, none, more, Local, local_place, local_name, Settings, nothing, element_with, leaf_of, group_of, Parts}
use Rattle.schema_components.specs.declared.declarations.RawContent.TheVariants as content
use Rattle.schema_components.specs.Raw as raw
use Rattle.schema_components.specs.Inward.{is_behind, base_inward, how_inward, bases_inward, use_inward, uses_inward, has_place, label_declared, label_inward, model_inward, each_inward, content_inward, body_inward, kind_inward, local_inward, definition_inward, elements_inward, attributes_inward, types_inward, locals_inward}
use Rattle.schema_read.proofs.Reading.{Around, own_of, of_parts, ContentBy, IsModel, by_compositor, members}
use Rattle.schema_read.proofs.Points.{Every, EveryBase, every_true, Property, Points, Each}

abbrev pub inward : List Local → Property
inward all =
    record {
      base = λ around b. base_inward around.place b ≡ true;
      how = λ around at how. (around.place < at) × (how_inward at how ≡ true);
      declared = λ around u. use_inward around.place u ≡ true;
      particle = λ around t. model_inward all around.place t ≡ true;
      kind = λ around k. kind_inward all around.place k ≡ true;
      element = λ e. kind_inward all e.at e.kind ≡ true;
      attribute = λ a. base_inward a.at a.kind ≡ true;
      definition = λ d. definition_inward all d ≡ true;
      local = λ l. local_inward all l ≡ true;
    }

bases_in : (place : ℕ) (bases : Bases) → EveryBase (λ b. base_inward place b ≡ true) bases → bases_inward place bases ≡ true
bases_in place none h = refl
bases_in place (more b bs) h = and_from (base_inward place b) (bases_inward place bs) h.0 (bases_in place bs h.1)

module _ (all : List Local) where
  -- the element has the place of its declaration
  leaf_in : (file place n at : ℕ) (name : Name) (own : List (List ℕ × List ℕ)) (l : Local) → place < at → slice_get all n ≡ Some l → local_place l ≡ at → model_inward all place (leaf_of file at n name own) ≡ true
  leaf_in file place n at name own l lt is same =
      let has : has_place at (slice_get all n) ≡ true = ap (has_place at) is ∙ eq-eqb (local_place l) at same in
      and_from (nat_lt place at && has_place at (slice_get all n)) true (and_from (nat_lt place at) (has_place at (slice_get all n)) (lt-ltb place at lt) has) refl

  -- ---- contents

  abbrev EachIn : ℕ → List (Rose ParticleLabel) → Type 0
  EachIn at ts = Every (λ t. model_inward all at t ≡ true) ts

  model_in : (at : ℕ) (model : Rose ParticleLabel) (ts : List (Rose ParticleLabel)) → IsModel model ts → EachIn at ts → model_inward all at model ≡ true
  model_in at model ts is h = (subst (EachIn at) is.0 h).0

  nothing_in : (file at place : ℕ) → at < place → model_inward all at (nothing file place) ≡ true
  nothing_in file at place lt = and_from (nat_lt at place && true) true (and_from (nat_lt at place) true (lt-ltb at place lt) refl) refl

  content_in : (file at : ℕ) (ts : List (Rose ParticleLabel)) (written : RawContent) → ContentBy file at ts written → EachIn at ts → content_inward all at written ≡ true
  content_in file at ts content.Empty by h = refl
  content_in file at ts (content.Simple base place) by h = lt-ltb at place by.0
  content_in file at ts (content.ElementOnly model) by h = model_in at model ts by h
  content_in file at ts (content.Mixed model) by h =
      elim by [ inl empty ↦ subst (λ m. model_inward all at m ≡ true) (sym empty.2) (nothing_in file at empty.0 empty.1) | inr is ↦ model_in at model ts is h ]

  pub inward_points : (said : Settings) → Points said all (inward all)
  inward_points said =
      record {
        named = λ around reference. refl;
        restriction = λ s base fact h. (fact.behind, h);
        list = λ s base fact h. (fact.behind, h);
        union = λ s fact h. (fact.behind, bases_in s.at (members s) h);
        simple = λ role s body_at how fact h.
            let place = s.around.place in
            and_from (is_behind place s.at body_at) (how_inward body_at how) (and_from (nat_lt place s.at) (nat_lt s.at body_at) (lt-ltb place s.at fact.behind) (lt-ltb s.at body_at h.0)) h.1;
        reference_use = λ role s name fact. and_from (nat_lt s.around.place s.at) true (lt-ltb s.around.place s.at fact.behind) refl;
        declared_use = λ role s base is fact unnamed h. and_from (nat_lt s.around.place s.at) (base_inward s.at base) (lt-ltb s.around.place s.at fact.behind) h;
        named_kind = λ around reference. refl;
        simple_kind = λ around body h. h;
        complex_kind = λ role s uses ts written is fact deep by u t.
            let place = s.around.place in
            and_from (nat_lt place s.at) (content_inward all s.at written && uses_inward s.at uses) (lt-ltb place s.at fact.behind)
            (and_from (content_inward all s.at written) (uses_inward s.at uses) (content_in said.file s.at ts written by t) (every_true (use_inward s.at) (uses_inward s.at) refl (λ x xs. refl) uses u));
        reference = λ role s name fact x. (refl, leaf_in said.file s.around.place s.n s.at name (own_of s) (raw.Reference name s.at) fact.fact.behind x refl);
        own_element = λ role s kind fact unnamed x h.
            let name = local_name said.target said.elements_qualified (own_of s) in
            (h, leaf_in said.file s.around.place s.n s.at name (own_of s) (raw.Own (element_with name (own_of s) s.at kind)) fact.fact.behind x refl);
        group = λ role s ts fact some h.
            let place = s.around.place in
            let label : ParticleLabel = label_of (group_of said.file s.at s.name.local (own_of s) ts) in
            let declared : label_declared all label ≡ true =
            by_compositor (λ kind. label_declared all (record { kind = kind; min = label.min; max = label.max; file = said.file; at = s.at }) ≡ true) refl refl refl s.name.local in
            let each : each_inward all s.at (roses_of ts) ≡ true = every_true (model_inward all s.at) (λ l. each_inward all s.at (roses_of l)) refl (λ x xs. refl) ts h in
            and_from (label_inward all place label) (each_inward all s.at (roses_of ts)) (and_from (nat_lt place s.at) (label_declared all label) (lt-ltb place s.at fact.fact.behind) declared) each;
        element = λ s kind fact deep h. h;
        attribute = λ s fact h. h;
        simple_type = λ s body fact h.
            let two = and_parts (is_behind s.around.place body.at body.body_at) (how_inward body.body_at body.how) h in
            and_from (nat_lt body.at body.body_at) (how_inward body.body_at body.how) (and_parts (nat_lt s.around.place body.at) (nat_lt body.at body.body_at) two.0).1 two.1;
        complex_type = λ s body fact small h. (and_parts (nat_lt s.around.place body.at) (body_inward all body) h).1;
      }

  pub inward_parts : (around : Around) (p : Parts) → Each (inward all) around (of_parts p.elements p.attributes p.types p.locals)
      → (elements_inward all p.elements && (attributes_inward p.attributes && (types_inward all p.types && locals_inward all p.locals))) ≡ true
  inward_parts around p h =
      let a = attributes_inward p.attributes in
      let t = types_inward all p.types in
      let l = locals_inward all p.locals in
      and_from (elements_inward all p.elements) (a && (t && l)) (every_true (λ (e : raw.Element). kind_inward all e.at e.kind) (elements_inward all) refl (λ x xs. refl) p.elements h.elements)
      (and_from a (t && l) (every_true (λ (a : raw.Attribute). base_inward a.at a.kind) attributes_inward refl (λ x xs. refl) p.attributes h.attributes)
      (and_from t l (every_true (definition_inward all) (types_inward all) refl (λ x xs. refl) p.types h.types)
      (every_true (local_inward all) (locals_inward all) refl (λ x xs. refl) p.locals h.locals)))
