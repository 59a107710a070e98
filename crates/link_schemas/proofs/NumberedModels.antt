-- Content models with other numbers of declarations, and the places of their element particles.
use Rattle.std.proofs.Common.{◌≡◌, ℕ, suc, ◌+◌, ◌<◌, ◌≤◌, max, arith, true, inl, inr, List, [], ◌∷◌, ◌++◌, length, map, Option, Some, None, refl, sym, ap, ap₂, ◌∙◌, subst, length-append}
use Rattle.std.specs.Prelude.{◌&&◌, nat_lt, nat_le, slice_get}
use Rattle.std.specs.List.{flat_map}
use Rattle.std.proofs.lemmas.Bool.{and_parts, ltb-true, leb-true}
use Rattle.std.proofs.lemmas.Grind.{flat_map-append}
use Rattle.std.proofs.lemmas.List.{map-append}
use Rattle.base_texts.specs.declared.texts.Name.{Name}
use Rattle.base_texts.specs.Lists.{HasItem}
use Rattle.base_texts.proofs.Lists.{has_left, has_right}
use Rattle.base_trees.specs.Rose.{Rose, node, Roses, node_count, count_all, height, depth_all, length_all, Allowed, AllowedAll}
use Rattle.base_trees.specs.Rose as rose
use Rattle.content_models.specs.Kids.{MayHave, KindMayHave}
use Rattle.content_models.specs.Occurring.{AllowOne, IsMore, MayOccur, TermMayOccur, AllMayOccur}
use Rattle.content_models.specs.Particle.{occurs, sequence, choice, all, Particles, none, more}
use Rattle.content_models.specs.Seen.{term_seen, seen, all_seen}
use Rattle.content_models.specs.Undeclared.{undeclared, undeclared_term, all_undeclared}
use Rattle.content_models.specs.declared.particles.ParticleKind.{ParticleKind}
use Rattle.content_models.specs.declared.particles.ParticleKind.TheVariants as particle
use Rattle.content_models.specs.declared.particles.ParticleLabel.{ParticleLabel}
use Rattle.schema_components.specs.Bounds.{allow_one, all_allow_one, each_allows_one}
use Rattle.schema_components.specs.Inward.{has_place, label_declared, label_inward, model_inward, each_inward, content_inward}
use Rattle.schema_components.specs.Linked.{leaves, leaves_of_term, all_leaves}
use Rattle.schema_components.specs.Places.{group_place, places_in_model, places_among}
use Rattle.schema_components.specs.Chains.{leaves_of_content}
use Rattle.schema_components.specs.Raw.{Local}
use Rattle.schema_components.specs.declared.declarations.RawContent.{RawContent}
use Rattle.schema_components.specs.declared.declarations.RawContent.TheVariants as content
use Rattle.link_names.specs.Parts as what
use Rattle.link_names.specs.Parts.{Part, part, in_model, in_models, in_mixed, in_content}
use Rattle.link_names.specs.Order.{place}
use Rattle.link_complex.specs.ElementTypes.{TypeIdentity, TypedParticle, typed_particle, of_label, of_part}
use Rattle.link_set.specs.Sets.{numbered_kind, numbered_label, numbered, all_numbered}
use Rattle.link_schemas.proofs.Items.{in_either}

-- ---- with other numbers

module _ (f : ℕ → ℕ) where
  abbrev pub renumbered : ℕ × Name → ℕ × Name
  renumbered a = (f a.0, a.1)

  kind_leaves : (k : ParticleKind) (ps qs : Particles) → all_leaves qs ≡ map renumbered (all_leaves ps)
      → leaves_of_term (term_seen (numbered_kind f k) qs) ≡ map renumbered (leaves_of_term (term_seen k ps))
  kind_leaves (particle.Element decl name) ps qs e = refl
  kind_leaves particle.Sequence ps qs e = e
  kind_leaves particle.Choice ps qs e = e
  kind_leaves particle.All ps qs e = e

  mutual
    pub leaves_numbered : (t : Rose ParticleLabel) → leaves (seen (numbered f t)) ≡ map renumbered (leaves (seen t))
    leaves_numbered (node l ts) = kind_leaves l.kind (all_seen ts) (all_seen (all_numbered f ts)) (all_leaves_numbered ts)

    all_leaves_numbered : (ts : Roses ParticleLabel) → all_leaves (all_seen (all_numbered f ts)) ≡ map renumbered (all_leaves (all_seen ts))
    all_leaves_numbered rose.none = refl
    all_leaves_numbered (rose.more t ts) =
        ap₂ (λ xs ys. xs ++ ys) (leaves_numbered t) (all_leaves_numbered ts) ∙ sym (map-append renumbered (leaves (seen t)) (all_leaves (all_seen ts)))

  kind_undeclared : (k : ParticleKind) (ps qs : Particles) → all_undeclared qs ≡ all_undeclared ps → undeclared_term (term_seen (numbered_kind f k) qs) ≡ undeclared_term (term_seen k ps)
  kind_undeclared (particle.Element decl name) ps qs e = refl
  kind_undeclared particle.Sequence ps qs e = ap sequence e
  kind_undeclared particle.Choice ps qs e = ap choice e
  kind_undeclared particle.All ps qs e = ap all e

  mutual
    pub undeclared_numbered : (t : Rose ParticleLabel) → undeclared (seen (numbered f t)) ≡ undeclared (seen t)
    undeclared_numbered (node l ts) = ap (λ u. occurs u l.min l.max) (kind_undeclared l.kind (all_seen ts) (all_seen (all_numbered f ts)) (all_undeclared_numbered ts))

    all_undeclared_numbered : (ts : Roses ParticleLabel) → all_undeclared (all_seen (all_numbered f ts)) ≡ all_undeclared (all_seen ts)
    all_undeclared_numbered rose.none = refl
    all_undeclared_numbered (rose.more t ts) = ap₂ more (undeclared_numbered t) (all_undeclared_numbered ts)

  mutual
    pub height_numbered : (t : Rose ParticleLabel) → height (numbered f t) ≡ height t
    height_numbered (node l ts) = ap suc (depth_numbered ts)

    depth_numbered : (ts : Roses ParticleLabel) → depth_all (all_numbered f ts) ≡ depth_all ts
    depth_numbered rose.none = refl
    depth_numbered (rose.more t ts) = ap₂ max (height_numbered t) (depth_numbered ts)

  mutual
    pub bounds_numbered : (t : Rose ParticleLabel) → all_allow_one (numbered f t) ≡ all_allow_one t
    bounds_numbered (node l ts) = ap (λ b. allow_one l.min l.max && b) (each_bounds_numbered ts)

    each_bounds_numbered : (ts : Roses ParticleLabel) → each_allows_one (all_numbered f ts) ≡ each_allows_one ts
    each_bounds_numbered rose.none = refl
    each_bounds_numbered (rose.more t ts) = ap₂ (λ a b. a && b) (bounds_numbered t) (each_bounds_numbered ts)

  kind_place : (k : ParticleKind) (l m : ParticleLabel) → m.at ≡ l.at → l.kind ≡ k → m.kind ≡ numbered_kind f k → group_place m ≡ group_place l
  kind_place (particle.Element decl name) l m at e d = ap (λ x. elim x [ particle.Element a b ↦ [] | particle.Sequence ↦ m.at ∷ [] | particle.Choice ↦ m.at ∷ [] | particle.All ↦ m.at ∷ [] ]) d
      ∙ sym (ap (λ x. elim x [ particle.Element a b ↦ [] | particle.Sequence ↦ l.at ∷ [] | particle.Choice ↦ l.at ∷ [] | particle.All ↦ l.at ∷ [] ]) e)
  kind_place particle.Sequence l m at e d = ap (λ x. elim x [ particle.Element a b ↦ [] | particle.Sequence ↦ m.at ∷ [] | particle.Choice ↦ m.at ∷ [] | particle.All ↦ m.at ∷ [] ]) d
      ∙ ap (λ n. n ∷ []) at ∙ sym (ap (λ x. elim x [ particle.Element a b ↦ [] | particle.Sequence ↦ l.at ∷ [] | particle.Choice ↦ l.at ∷ [] | particle.All ↦ l.at ∷ [] ]) e)
  kind_place particle.Choice l m at e d = ap (λ x. elim x [ particle.Element a b ↦ [] | particle.Sequence ↦ m.at ∷ [] | particle.Choice ↦ m.at ∷ [] | particle.All ↦ m.at ∷ [] ]) d
      ∙ ap (λ n. n ∷ []) at ∙ sym (ap (λ x. elim x [ particle.Element a b ↦ [] | particle.Sequence ↦ l.at ∷ [] | particle.Choice ↦ l.at ∷ [] | particle.All ↦ l.at ∷ [] ]) e)
  kind_place particle.All l m at e d = ap (λ x. elim x [ particle.Element a b ↦ [] | particle.Sequence ↦ m.at ∷ [] | particle.Choice ↦ m.at ∷ [] | particle.All ↦ m.at ∷ [] ]) d
      ∙ ap (λ n. n ∷ []) at ∙ sym (ap (λ x. elim x [ particle.Element a b ↦ [] | particle.Sequence ↦ l.at ∷ [] | particle.Choice ↦ l.at ∷ [] | particle.All ↦ l.at ∷ [] ]) e)

  mutual
    pub places_numbered : (t : Rose ParticleLabel) → places_in_model (numbered f t) ≡ places_in_model t
    places_numbered (node l ts) = ap₂ (λ xs ys. xs ++ ys) (kind_place l.kind l (numbered_label f l) refl refl refl) (among_numbered ts)

    among_numbered : (ts : Roses ParticleLabel) → places_among (all_numbered f ts) ≡ places_among ts
    among_numbered rose.none = refl
    among_numbered (rose.more t ts) = ap₂ (λ xs ys. xs ++ ys) (places_numbered t) (among_numbered ts)

-- ---- how many particles

no_kids : (ts : Roses ParticleLabel) → length_all ts ≡ 0 → count_all ts ≡ 0
no_kids rose.none e = refl
no_kids (rose.more t ts) e = absurd (omega (arith, e))

kind_size : (k : ParticleKind) (l : ParticleLabel) (ts : Roses ParticleLabel) → l.kind ≡ k → KindMayHave k (length_all ts)
    → count_all ts ≤ length (places_among ts) + length (all_leaves (all_seen ts))
    → suc (count_all ts) ≤ length (group_place l ++ places_among ts) + length (leaves_of_term (term_seen k (all_seen ts)))
kind_size (particle.Element decl name) l ts e may rest = let none_below = no_kids ts may in omega (arith, none_below)
kind_size particle.Sequence l ts e may rest =
    let a = length-append (group_place l) (places_among ts) in
    let b : length (group_place l) ≡ 1 = ap (λ x. length {A = ℕ} (elim x [ particle.Element c d ↦ [] | particle.Sequence ↦ l.at ∷ [] | particle.Choice ↦ l.at ∷ [] | particle.All ↦ l.at ∷ [] ])) e in
    omega (arith, rest, a, b)
kind_size particle.Choice l ts e may rest =
    let a = length-append (group_place l) (places_among ts) in
    let b : length (group_place l) ≡ 1 = ap (λ x. length {A = ℕ} (elim x [ particle.Element c d ↦ [] | particle.Sequence ↦ l.at ∷ [] | particle.Choice ↦ l.at ∷ [] | particle.All ↦ l.at ∷ [] ])) e in
    omega (arith, rest, a, b)
kind_size particle.All l ts e may rest =
    let a = length-append (group_place l) (places_among ts) in
    let b : length (group_place l) ≡ 1 = ap (λ x. length {A = ℕ} (elim x [ particle.Element c d ↦ [] | particle.Sequence ↦ l.at ∷ [] | particle.Choice ↦ l.at ∷ [] | particle.All ↦ l.at ∷ [] ])) e in
    omega (arith, rest, a, b)

mutual
  -- each particle is a group with its place, or an element particle
  pub model_size : (t : Rose ParticleLabel) → Allowed MayHave t → node_count t ≤ length (places_in_model t) + length (leaves (seen t))
  model_size (node l ts) h = kind_size l.kind l ts refl h.0 (models_size ts h.1)

  models_size : (ts : Roses ParticleLabel) → AllowedAll MayHave ts → count_all ts ≤ length (places_among ts) + length (all_leaves (all_seen ts))
  models_size rose.none h = omega arith
  models_size (rose.more t ts) h =
      let a = model_size t h.0 in
      let b = models_size ts h.1 in
      let c = length-append (places_in_model t) (places_among ts) in
      let d = length-append (leaves (seen t)) (all_leaves (all_seen ts)) in
      omega (arith, a, b, c, d)

-- ---- whether each may occur

allows_one : (least : ℕ) (most : Option ℕ) → allow_one least most ≡ true → AllowOne least most
allows_one least None h = tt
allows_one least (Some most) h = let two = and_parts (nat_le least most) (nat_le 1 most) h in (leb-true least most two.0, leb-true 1 most two.1)

some_kid : (ts : Roses ParticleLabel) → 1 ≤ length_all ts → IsMore (all_seen ts)
some_kid rose.none h = absurd (omega (arith, h))
some_kid (rose.more t ts) h = tt

kind_occurs : (k : ParticleKind) (ts : Roses ParticleLabel) → KindMayHave k (length_all ts) → AllMayOccur (all_seen ts) → TermMayOccur (term_seen k (all_seen ts))
kind_occurs (particle.Element decl name) ts may each = tt
kind_occurs particle.Sequence ts may each = each
kind_occurs particle.Choice ts may each = (some_kid ts may, each)
kind_occurs particle.All ts may each = each

mutual
  pub may_occur : (t : Rose ParticleLabel) → Allowed MayHave t → all_allow_one t ≡ true → MayOccur (seen t)
  may_occur (node l ts) h is =
      let two = and_parts (allow_one l.min l.max) (each_allows_one ts) is in
      (allows_one l.min l.max two.0, kind_occurs l.kind ts h.0 (all_may_occur ts h.1 two.1))

  all_may_occur : (ts : Roses ParticleLabel) → AllowedAll MayHave ts → each_allows_one ts ≡ true → AllMayOccur (all_seen ts)
  all_may_occur rose.none h is = tt
  all_may_occur (rose.more t ts) h is =
      let two = and_parts (all_allow_one t) (each_allows_one ts) is in
      (may_occur t h.0 two.0, all_may_occur ts h.1 two.1)

-- ---- element particles with their places

pub record IsLeafIn (locals : List Local) (types : ℕ → Option TypeIdentity) (behind : ℕ) (ps : List Part) (a : ℕ × Name) : Type 0 where
  pub file : ℕ
  pub at : ℕ
  pub after : behind < at
  pub declared : has_place at (slice_get locals a.0) ≡ true
  pub typed : HasItem (flat_map (λ p. of_part types p.what) ps) (typed_particle a.1 (place file at) (types a.0))

module _ (locals : List Local) (types : ℕ → Option TypeIdentity) where
  abbrev give : Part → List TypedParticle
  give p = of_part types p.what

  in_front : (behind : ℕ) (p : Part) (ps : List Part) (a : ℕ × Name) → IsLeafIn locals types behind ps a → IsLeafIn locals types behind (p ∷ ps) a
  in_front behind p ps a r = record { file = r.file; at = r.at; after = r.after; declared = r.declared; typed = has_right (give p) (flat_map give ps) _ r.typed }

  joined_left : (behind : ℕ) (ps qs : List Part) (a : ℕ × Name) → IsLeafIn locals types behind ps a → IsLeafIn locals types behind (ps ++ qs) a
  joined_left behind ps qs a r = record {
    file = r.file;
    at = r.at;
    after = r.after;
    declared = r.declared;
    typed = subst (λ xs. HasItem xs (typed_particle a.1 (place r.file r.at) (types a.0))) (sym (flat_map-append give ps qs)) (has_left (flat_map give ps) (flat_map give qs) _ r.typed);
  }

  joined_right : (behind : ℕ) (ps qs : List Part) (a : ℕ × Name) → IsLeafIn locals types behind qs a → IsLeafIn locals types behind (ps ++ qs) a
  joined_right behind ps qs a r = record {
    file = r.file;
    at = r.at;
    after = r.after;
    declared = r.declared;
    typed = subst (λ xs. HasItem xs (typed_particle a.1 (place r.file r.at) (types a.0))) (sym (flat_map-append give ps qs)) (has_right (flat_map give ps) (flat_map give qs) _ r.typed);
  }

  further : (behind last : ℕ) (ps : List Part) (a : ℕ × Name) → behind < last → IsLeafIn locals types last ps a → IsLeafIn locals types behind ps a
  further behind last ps a lt r = let after = r.after in record { file = r.file; at = r.at; after = omega (arith, lt, after); declared = r.declared; typed = r.typed }

  -- the element particle at its label
  here : (behind : ℕ) (l : ParticleLabel) (p : Part) (ps : List Part) (decl : ℕ) (name : Name) (a : ℕ × Name) → l.kind ≡ particle.Element decl name
      → give p ≡ of_label types l → label_inward locals behind l ≡ true → (decl, name) ≡ a → IsLeafIn locals types behind (p ∷ ps) a
  here behind l p ps decl name a e gives is same =
      let two = and_parts (nat_lt behind l.at) (label_declared locals l) is in
      let declared : has_place l.at (slice_get locals decl) ≡ true =
      sym (ap (λ k. elim k [ particle.Element d n ↦ has_place l.at (slice_get locals d) | particle.Sequence ↦ true | particle.Choice ↦ true | particle.All ↦ true ]) e) ∙ two.1 in
      let given : give p ≡ typed_particle name (place l.file l.at) (types decl) ∷ [] =
      gives ∙ ap (λ k. elim k [ particle.Element d n ↦ typed_particle n (place l.file l.at) (types d) ∷ [] | particle.Sequence ↦ [] | particle.Choice ↦ [] | particle.All ↦ [] ]) e in
      subst (IsLeafIn locals types behind (p ∷ ps)) same (record {
        file = l.file;
        at = l.at;
        after = ltb-true behind l.at two.0;
        declared = declared;
        typed = has_left (give p) (flat_map give ps) _ (subst (λ xs. HasItem xs (typed_particle name (place l.file l.at) (types decl))) (sym given) (inl refl));
      })

  kind_leaf : (k : ParticleKind) (behind : ℕ) (l : ParticleLabel) (p : Part) (ps : List Part) (kids : Particles) (a : ℕ × Name) → l.kind ≡ k → give p ≡ of_label types l
      → label_inward locals behind l ≡ true → (HasItem (all_leaves kids) a → IsLeafIn locals types l.at ps a) → HasItem (leaves_of_term (term_seen k kids)) a
      → IsLeafIn locals types behind (p ∷ ps) a
  kind_leaf (particle.Element decl name) behind l p ps kids a e gives is rest (inl same) = here behind l p ps decl name a e gives is same
  kind_leaf (particle.Element decl name) behind l p ps kids a e gives is rest (inr nothing) = absurd nothing
  kind_leaf particle.Sequence behind l p ps kids a e gives is rest h =
      in_front behind p ps a (further behind l.at ps a (ltb-true behind l.at (and_parts (nat_lt behind l.at) (label_declared locals l) is).0) (rest h))
  kind_leaf particle.Choice behind l p ps kids a e gives is rest h =
      in_front behind p ps a (further behind l.at ps a (ltb-true behind l.at (and_parts (nat_lt behind l.at) (label_declared locals l) is).0) (rest h))
  kind_leaf particle.All behind l p ps kids a e gives is rest h =
      in_front behind p ps a (further behind l.at ps a (ltb-true behind l.at (and_parts (nat_lt behind l.at) (label_declared locals l) is).0) (rest h))

  mutual
    model_leaf : (file within behind : ℕ) (t : Rose ParticleLabel) → model_inward locals behind t ≡ true → (a : ℕ × Name) → HasItem (leaves (seen t)) a
        → IsLeafIn locals types behind (in_model file within t) a
    model_leaf file within behind (node l ts) is a h =
        let two = and_parts (label_inward locals behind l) (each_inward locals l.at ts) is in
        kind_leaf l.kind behind l (part file (Some within) l.at (what.Particle l)) (in_models file l.at ts) (all_seen ts) a refl refl two.0 (models_leaf file l.at l.at ts two.1 a) h

    models_leaf : (file within behind : ℕ) (ts : Roses ParticleLabel) → each_inward locals behind ts ≡ true → (a : ℕ × Name) → HasItem (all_leaves (all_seen ts)) a
        → IsLeafIn locals types behind (in_models file within ts) a
    models_leaf file within behind rose.none is a h = absurd h
    models_leaf file within behind (rose.more t ts) is a h =
        let two = and_parts (model_inward locals behind t) (each_inward locals behind ts) is in
        elim (in_either (leaves (seen t)) (all_leaves (all_seen ts)) a h) [
          | inl i ↦ joined_left behind (in_model file within t) (in_models file within ts) a (model_leaf file within behind t two.0 a i)
          | inr i ↦ joined_right behind (in_model file within t) (in_models file within ts) a (models_leaf file within behind ts two.1 a i)
        ]

  mixed_leaf : (file within behind : ℕ) (t : Rose ParticleLabel) → model_inward locals behind t ≡ true → (a : ℕ × Name) → HasItem (leaves (seen t)) a
      → IsLeafIn locals types behind (in_mixed file within t) a
  mixed_leaf file within behind (node l rose.none) is a h =
      let two = and_parts (label_inward locals behind l) true is in
      kind_leaf l.kind behind l (part file (Some within) l.at (what.MixedGroup l)) [] none a refl refl two.0 (λ i. absurd i) h
  mixed_leaf file within behind (node l (rose.more t ts)) is a h = model_leaf file within behind (node l (rose.more t ts)) is a h

  pub content_leaf : (file within behind : ℕ) (c : RawContent) → content_inward locals behind c ≡ true → (a : ℕ × Name) → HasItem (leaves_of_content c) a
      → IsLeafIn locals types behind (in_content file within c) a
  content_leaf file within behind content.Empty is a h = absurd h
  content_leaf file within behind (content.Simple base at) is a h = absurd h
  content_leaf file within behind (content.ElementOnly model) is a h = model_leaf file within behind model is a h
  content_leaf file within behind (content.Mixed model) is a h = mixed_leaf file within behind model is a h
