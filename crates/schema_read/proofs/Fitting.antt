-- The particles of a document without a fault may occur, and stand in at most 16 levels of groups.
use Rattle.std.proofs.Common.{◌≡◌, ℕ, suc, ◌+◌, ◌≤◌, max, true, List, [], ◌∷◌, inl, inr, refl, sym, subst, arith, ◌&&◌, nat_le}
use Rattle.schema_read.proofs.Words.{and_from, le-leb, Rose, roses_of, height, depth_all, ParticleLabel, RawContent, Local, allow_one, all_allow_one, each_allows_one, fits, content_fits, kind_fits, type_fits, local_fits, elements_fit, types_fit, locals_fit, all_fit, least_of, most_of, ElementRole, Settings, leaf_of, Parts, declared_name}
use Rattle.schema_components.specs.declared.declarations.RawContent.TheVariants as content
use Rattle.schema_components.specs.Raw as raw
use Rattle.schema_read.proofs.Occurrences.{may_occur}
use Rattle.schema_read.proofs.Reading.{Around, Site, own_of, scope_of, of_parts, LeafFact, ContentBy, IsModel}
use Rattle.schema_read.proofs.Points.{Every, every_true, Property, Points, Each}

-- in this many levels of groups
abbrev IsFitting : ℕ → Rose ParticleLabel → Type 0
IsFitting level t = (height t + level ≤ 17) × (all_allow_one t ≡ true)

abbrev pub fitting : Property
fitting =
    record {
      base = λ around b. Unit {0};
      how = λ around at how. Unit {0};
      declared = λ around u. Unit {0};
      particle = λ around t. IsFitting around.level t;
      kind = λ around k. kind_fits k ≡ true;
      element = λ e. kind_fits e.kind ≡ true;
      attribute = λ a. Unit {0};
      definition = λ d. type_fits d ≡ true;
      local = λ l. local_fits l ≡ true;
    }

-- the particles of a group
each_fits : (level : ℕ) (ts : List (Rose ParticleLabel)) → level ≤ 17 → Every (IsFitting level) ts → (depth_all (roses_of ts) + level ≤ 17) × (each_allows_one (roses_of ts) ≡ true)
each_fits level [] le h = (omega (arith, le), refl)
each_fits level (t ∷ ts) le h =
    let one = h.0.0 in
    let rest = each_fits level ts le h.1 in
    let more = rest.0 in
    let both : max (height t) (depth_all (roses_of ts)) + level ≤ 17 = omega (arith, one, more) in
    (both, and_from (all_allow_one t) (each_allows_one (roses_of ts)) h.0.1 rest.1)

model_fits : (model : Rose ParticleLabel) (ts : List (Rose ParticleLabel)) → IsModel model ts → Every (IsFitting 0) ts → fits model ≡ true
model_fits model ts is h =
    let one = (subst (Every (IsFitting 0)) is.0 h).0 in
    let le = one.0 in
    and_from (nat_le (height model) 17) (all_allow_one model) (le-leb (height model) 17 (omega (arith, le))) one.1

content_fits_by : (file at : ℕ) (ts : List (Rose ParticleLabel)) (written : RawContent) → ContentBy file at ts written → Every (IsFitting 0) ts → content_fits written ≡ true
content_fits_by file at ts content.Empty by h = refl
content_fits_by file at ts (content.Simple base place) by h = refl
content_fits_by file at ts (content.ElementOnly model) by h = model_fits model ts by h
content_fits_by file at ts (content.Mixed model) by h =
    elim by [ inl empty ↦ subst (λ m. fits m ≡ true) (sym empty.2) refl | inr is ↦ model_fits model ts is h ]

module _ (said : Settings) (all : List Local) where
  leaf_fits : (role : ElementRole) (s : Site) → LeafFact role s → (height (leaf_of said.file s.at s.n (declared_name said.target (own_of s)) (own_of s)) + s.around.level ≤ 17) × ((allow_one (least_of (own_of s)) (most_of (own_of s)) && true) ≡ true)
  leaf_fits role s fact =
      let high = fact.high in
      let low : 1 + s.around.level ≤ 17 = omega (arith, high) in
      (low, and_from (allow_one (least_of (own_of s)) (most_of (own_of s))) true (may_occur role (scope_of s) (own_of s) fact.fact.passes.good fact.stays) refl)

  pub fitting_points : Points said all fitting
  fitting_points =
      record {
        named = λ around reference. tt;
        restriction = λ s base fact h. tt;
        list = λ s base fact h. tt;
        union = λ s fact h. tt;
        simple = λ role s body_at how fact h. tt;
        reference_use = λ role s name fact. tt;
        declared_use = λ role s base is fact unnamed h. tt;
        named_kind = λ around reference. refl;
        simple_kind = λ around body h. refl;
        complex_kind = λ role s uses ts written is fact deep by u t. content_fits_by said.file s.at ts written by t;
        reference = λ role s name fact x. (refl, leaf_fits role s fact);
        own_element = λ role s kind fact unnamed x h. (h, leaf_fits role s fact);
        group = λ role s ts fact some h.
            let high = fact.high in
            let k = each_fits (s.around.level + 1) ts (omega (arith, high)) h in
            let depth = k.0 in
            let low : suc (depth_all (roses_of ts)) + s.around.level ≤ 17 = omega (arith, depth) in
            (low, and_from (allow_one (least_of (own_of s)) (most_of (own_of s))) (each_allows_one (roses_of ts)) (may_occur role (scope_of s) (own_of s) fact.fact.passes.good fact.stays) k.1);
        element = λ s kind fact deep h. h;
        attribute = λ s fact h. tt;
        simple_type = λ s body fact h. refl;
        complex_type = λ s body fact small h. h;
      }

pub fitting_parts : (around : Around) (p : Parts) → Each fitting around (of_parts p.elements p.attributes p.types p.locals) → all_fit p.elements p.types p.locals ≡ true
fitting_parts around p h =
    and_from (elements_fit p.elements) (types_fit p.types && locals_fit p.locals) (every_true (λ (e : raw.Element). kind_fits e.kind) elements_fit refl (λ x xs. refl) p.elements h.elements)
    (and_from (types_fit p.types) (locals_fit p.locals) (every_true type_fits types_fit refl (λ x xs. refl) p.types h.types) (every_true local_fits locals_fit refl (λ x xs. refl) p.locals h.locals))
