-- The content models of a document name each of its local declarations once.
use Rattle.std.proofs.Common.{◌≡◌, ℕ, ◌+◌, ◌≤◌, Bool, true, cond, List, [], ◌∷◌, ◌++◌, length, count_by, append_assoc, inl, inr, refl, ap, sym, ◌∙◌, subst, arith, ◌==◌}
use Rattle.schema_read.proofs.Words.{and_parts, eqb-true, append-nil, Name, Rose, node, list_of, ParticleKind, ParticleLabel, RawContent, Bases, How, Use, Kind, Local, Own, none, leaves_of_model, model_in_content, model_in_kind, models_in_elements, models_in_types, models_in_locals, leaves_of_models, numbered, IsFrom, ModelsStand, Nested, IsCoherent, local_name, use_to, own_use, facets_among, Settings, takes_each, is_nothing, element_with, leaf_of, group_of, Parts, document_with}
use Rattle.base_trees.specs.Rose as rose
use Rattle.content_models.specs.declared.particles.ParticleKind.TheVariants as particle
use Rattle.schema_components.specs.declared.declarations.RawContent.TheVariants as content
use Rattle.schema_components.specs.Raw as raw
use Rattle.schema_read.proofs.Leaves.{in_elements, in_types, in_locals, count_append, count_more, count_models, count_both, count_numbered, models_later, models_append, nested_append, group_stands, leaves_of_group}
use Rattle.schema_read.proofs.Reading.{Reading, and_reading, of_body, of_parts, Around, Extent, own_of, IsNothing, IsModel, ContentBy, by_compositor, members, Rules}

abbrev models_in_kinds : List Kind → List (Rose ParticleLabel)
models_in_kinds [] = []
models_in_kinds (k ∷ ks) = model_in_kind k ++ models_in_kinds ks

in_kinds : (xs ys : List Kind) → models_in_kinds (xs ++ ys) ≡ models_in_kinds xs ++ models_in_kinds ys
in_kinds [] ys = refl
in_kinds (x ∷ xs) ys = ap (λ l. model_in_kind x ++ l) (in_kinds xs ys) ∙ sym (append_assoc (model_in_kind x) (models_in_kinds xs) (models_in_kinds ys))

-- The leaves of the models, and of those in the local declarations, are the local declarations, which have numbers from n on.
pub record Coheres (file n : ℕ) (r : Reading) : Type 0 where
  pub once : (test : ℕ × Name → Bool) → count_by test (leaves_of_models r.particles) + (count_by test (leaves_of_models (models_in_kinds r.kinds))
      + (count_by test (leaves_of_models (models_in_elements r.elements)) + (count_by test (leaves_of_models (models_in_types r.types)) + count_by test (leaves_of_models (models_in_locals r.locals)))))
      ≡ count_by test (numbered n r.locals)
  pub particles : ModelsStand file n r.particles
  pub kinds : ModelsStand file n (models_in_kinds r.kinds)
  pub elements : ModelsStand file n (models_in_elements r.elements)
  pub types : ModelsStand file n (models_in_types r.types)
  pub nested : Nested file n r.locals

abbrev pub Cohering : ℕ → Around → Extent → ℕ → Reading → Type 0
Cohering file around e n r = Coheres file n r

-- ---- a group of nothing has no leaves

nothing_left : (group : Rose ParticleLabel) → is_nothing group ≡ true → leaves_of_model group ≡ []
nothing_left (node l rose.none) is = by_kind l.kind (is)
  where
    by_kind : (kind : ParticleKind) → is_nothing (node (record { kind = kind; min = l.min; max = l.max; file = l.file; at = l.at }) rose.none) ≡ true
        → leaves_of_model (node (record { kind = kind; min = l.min; max = l.max; file = l.file; at = l.at }) rose.none) ≡ []
    by_kind particle.Sequence is = refl
    by_kind particle.Choice is = refl
    by_kind particle.All is = refl
    by_kind (particle.Element decl name) is = absurd (cc)
nothing_left (node l (rose.more t ts)) is =
    let e : length (t ∷ list_of ts) ≡ 0 = eqb-true (length (t ∷ list_of ts)) 0 (and_parts (takes_each l.kind) (length (t ∷ list_of ts) == 0) is).1 in
    absurd (omega (arith, e))

module _ (file : ℕ) where
  -- models behind others, by a word that lists them
  stand_both : {X : Type 0} (models : List X → List (Rose ParticleLabel)) (n : ℕ) (xs ys : List X) (ls : List Local) → models (xs ++ ys) ≡ models xs ++ models ys
      → ModelsStand file n (models xs) → ModelsStand file (n + length ls) (models ys) → ModelsStand file n (models (xs ++ ys))
  stand_both models n xs ys ls same h g =
      subst (ModelsStand file n) (sym same) (models_append file n (models xs) (models ys) h (models_later file n (n + length ls) (omega arith) (models ys) g))

  both_cohere : (n : ℕ) (a b : Reading) → Coheres file n a → Coheres file (n + length a.locals) b → Coheres file n (and_reading a b)
  both_cohere n a b h g =
      record {
        once = λ test. omega (
          arith,
          h.once test,
          g.once test,
          count_numbered test n a.locals b.locals,
          count_models test a.particles b.particles,
          count_both test (models_in_kinds (a.kinds ++ b.kinds)) (models_in_kinds a.kinds) (models_in_kinds b.kinds) (in_kinds a.kinds b.kinds),
          count_both test (models_in_elements (a.elements ++ b.elements)) (models_in_elements a.elements) (models_in_elements b.elements) (in_elements a.elements b.elements),
          count_both test (models_in_types (a.types ++ b.types)) (models_in_types a.types) (models_in_types b.types) (in_types a.types b.types),
          count_both test (models_in_locals (a.locals ++ b.locals)) (models_in_locals a.locals) (models_in_locals b.locals) (in_locals a.locals b.locals),
        );
        particles = stand_both (λ (ts : List (Rose ParticleLabel)). ts) n a.particles b.particles a.locals refl h.particles g.particles;
        kinds = stand_both models_in_kinds n a.kinds b.kinds a.locals (in_kinds a.kinds b.kinds) h.kinds g.kinds;
        elements = stand_both models_in_elements n a.elements b.elements a.locals (in_elements a.elements b.elements) h.elements g.elements;
        types = stand_both models_in_types n a.types b.types a.locals (in_types a.types b.types) h.types g.types;
        nested = nested_append file n a.locals b.locals h.nested g.nested;
      }

  -- simple types and attributes
  plain : (n : ℕ) (bases : Bases) (hows : List (ℕ × How)) (uses : List Use)
      → Coheres file n (record { bases = bases; hows = hows; uses = uses; particles = []; kinds = []; elements = []; attributes = []; types = []; locals = [] })
  plain n bases hows uses = record { once = λ test. refl; particles = tt; kinds = tt; elements = tt; types = tt; nested = tt }

  -- ---- contents

  record ContentHolds (n : ℕ) (ts : List (Rose ParticleLabel)) (written : RawContent) : Type 0 where
    same : (test : ℕ × Name → Bool) → count_by test (leaves_of_models (model_in_content written ++ [])) ≡ count_by test (leaves_of_models ts)
    stand : ModelsStand file n (model_in_content written ++ [])

  no_leaves : (ts : List (Rose ParticleLabel)) → IsNothing ts → (test : ℕ × Name → Bool) → 0 ≡ count_by test (leaves_of_models ts)
  no_leaves [] h test = refl
  no_leaves (t ∷ ts) h test =
      let e : leaves_of_models (t ∷ ts) ≡ [] = ap (λ l. l ++ leaves_of_models ts) (nothing_left t h.0) ∙ ap leaves_of_models h.1 in
      sym (ap (count_by test) e)

  model_holds : (n : ℕ) (model : Rose ParticleLabel) (ts : List (Rose ParticleLabel)) → IsModel model ts → ModelsStand file n ts → ContentHolds n ts (content.ElementOnly model)
  model_holds n model ts is h = record { same = λ test. ap (λ l. count_by test (leaves_of_models l)) (sym is.0); stand = subst (ModelsStand file n) is.0 h }

  content_holds : (n at : ℕ) (ts : List (Rose ParticleLabel)) (written : RawContent) → ContentBy file at ts written → ModelsStand file n ts → ContentHolds n ts written
  content_holds n at ts content.Empty by h = record { same = no_leaves ts by; stand = tt }
  content_holds n at ts (content.Simple base place) by h = record { same = λ test. ap (λ l. count_by test (leaves_of_models l)) (sym by.1); stand = tt }
  content_holds n at ts (content.ElementOnly model) by h = model_holds n model ts by h
  content_holds n at ts (content.Mixed model) by h = elim by [
    | inl empty ↦ record {
      same = λ test. ap (λ m. count_by test (leaves_of_models (m ∷ []))) empty.2 ∙ no_leaves ts empty.3 test;
      stand = subst (λ m. ModelsStand file n (m ∷ [])) (sym empty.2) (((refl, tt), tt), tt);
    }
    | inr is ↦ let k = model_holds n model ts is h in record { same = k.same; stand = k.stand }
  ]

  -- ---- groups

  group_coheres : (n at : ℕ) (name : List ℕ) (own : List (List ℕ × List ℕ)) (ts : List (Rose ParticleLabel)) (ls : List Local) → Coheres file n (of_body [] ts ls)
      → Coheres file n (of_body [] (group_of file at name own ts ∷ []) ls)
  group_coheres n at name own ts ls h =
      record {
        once = λ test.
            let e : count_by test (leaves_of_models (group_of file at name own ts ∷ [])) ≡ count_by test (leaves_of_models ts) =
            ap (count_by test) (append-nil (leaves_of_model (group_of file at name own ts)) ∙ leaves_of_group file at name own ts) in
            omega (arith, e, h.once test);
        particles = (((refl, by_compositor (IsFrom n) tt tt tt name), group_stands file n ts h.particles), tt);
        kinds = tt;
        elements = tt;
        types = tt;
        nested = h.nested;
      }

pub coherent_rules : (said : Settings) → Rules said (Cohering said.file)
coherent_rules said =
    record {
      nothing_read = λ around least end n counted le. plain said.file n none [] [];
      both = λ around least middle end n xs ys a b h g. both_cohere said.file n a b h g;
      lower = λ around less least end n counted a le h. h;
      more_named = λ around e n reference bases h. plain said.file n (raw.more (raw.Named reference) bases) [] [];
      first_base = λ around e n base bases h. plain said.file n (raw.more base none) [] [];
      restriction = λ s base fact h. plain said.file s.n none ((s.at, raw.Restrict base (facets_among (list_of s.kids))) ∷ []) [];
      list = λ s base fact h. plain said.file s.n none ((s.at, raw.ListOf base) ∷ []) [];
      union = λ s fact h. plain said.file s.n none ((s.at, raw.UnionOf (members s)) ∷ []) [];
      simple = λ role s body_at how fact h. plain said.file s.n (raw.more (raw.Inner s.at body_at how) none) [] [];
      reference_use = λ role s name fact. plain said.file s.n none [] (use_to name (own_of s) s.at ∷ []);
      declared_use = λ role s base is fact own h. plain said.file s.n none [] (own_use (local_name said.target said.attributes_qualified (own_of s)) base (own_of s) s.at ∷ []);
      named_kind = λ around least end n counted reference le. record { once = λ test. refl; particles = tt; kinds = tt; elements = tt; types = tt; nested = tt };
      simple_kind = λ around e n body h. record { once = λ test. refl; particles = tt; kinds = tt; elements = tt; types = tt; nested = tt };
      complex_kind = λ role s uses ts ls written is fact deep by h.
          let c = content_holds said.file s.n s.at ts written by h.particles in
          record { once = λ test. omega (arith, c.same test, h.once test); particles = tt; kinds = c.stand; elements = tt; types = tt; nested = h.nested };
      reference = λ role s name fact.
          let le : s.n ≤ s.n = omega arith in
          record { once = λ test. omega arith; particles = (((refl, le), tt), tt); kinds = tt; elements = tt; types = tt; nested = (tt, tt) };
      own_element = λ role s kind ls fact own h.
          let name = local_name said.target said.elements_qualified (own_of s) in
          let e : raw.Element = element_with name (own_of s) s.at kind in
          let le : s.n ≤ s.n = omega arith in
          record {
            once = λ test.
                let a : count_by test (numbered s.n (Own e ∷ ls)) ≡ cond (test (s.n, name)) 1 0 + count_by test (numbered (s.n + 1) ls) = count_more test (s.n, name) (numbered (s.n + 1) ls) in
                let b : count_by test (leaves_of_models (models_in_locals (Own e ∷ ls))) ≡ count_by test (leaves_of_models (model_in_kind kind)) + count_by test (leaves_of_models (models_in_locals ls)) =
                count_models test (model_in_kind kind) (models_in_locals ls) in
                let c : count_by test (leaves_of_models (leaf_of said.file s.at s.n name (own_of s) ∷ [])) ≡ cond (test (s.n, name)) 1 0 + 0 = count_more test (s.n, name) [] in
                let d : count_by test (leaves_of_models (model_in_kind kind ++ [])) ≡ count_by test (leaves_of_models (model_in_kind kind)) = ap (λ l. count_by test (leaves_of_models l)) (append-nil (model_in_kind kind)) in
                omega (arith, a, b, c, d, h.once test);
            particles = (((refl, le), tt), tt);
            kinds = tt;
            elements = tt;
            types = tt;
            nested = (subst (ModelsStand said.file (s.n + 1)) (append-nil (model_in_kind kind)) h.kinds, h.nested);
          };
      group = λ role s ts ls fact some h.
          group_coheres said.file s.n s.at s.name.local (own_of s) ts ls h;
      element = λ s kind ls fact deep h. record { once = λ test. omega (arith, h.once test); particles = tt; kinds = tt; elements = h.kinds; types = tt; nested = h.nested };
      attribute = λ s fact h. record { once = λ test. refl; particles = tt; kinds = tt; elements = tt; types = tt; nested = tt };
      simple_type = λ s body fact same h. record { once = λ test. refl; particles = tt; kinds = tt; elements = tt; types = tt; nested = tt };
      complex_type = λ s body ls fact same h. record { once = λ test. omega (arith, h.once test); particles = tt; kinds = tt; elements = tt; types = h.kinds; nested = h.nested };
    }

pub coherent_parts : (file : ℕ) (target counted : List ℕ) (p : Parts) → Coheres file 0 (of_parts p.elements p.attributes p.types p.locals) → IsCoherent (document_with file target counted p)
coherent_parts file target counted p h =
    record {
      once = λ test. omega (
        arith,
        h.once test,
        count_append test (leaves_of_models (models_in_elements p.elements)) (leaves_of_models (models_in_types p.types) ++ leaves_of_models (models_in_locals p.locals)),
        count_append test (leaves_of_models (models_in_types p.types)) (leaves_of_models (models_in_locals p.locals)),
      );
      elements = h.elements;
      types = h.types;
      locals = h.nested;
    }
