-- The plans of the components of a linked set are plans of types of a module.
use Rattle.std.proofs.Common.{◌≡◌, ℕ, zero, suc, [], length, ap, subst, ◌+◌, ◌<◌, ◌≤◌, Bool, true, false, ◌&&◌, not, Option, Some, None, true≢false, refl, sym, ◌∙◌, arith}
use Rattle.std.specs.Prelude.{MatchBool, if◌then◌else◌}
use Rattle.base_trees.specs.Rose.{Rose, node, Roses, node_count, count_all}
use Rattle.base_trees.specs.Rose as rose
use Rattle.simple_types.specs.Sound.{AreSizes, IsCounted}
use Rattle.content_models.specs.declared.particles.ParticleLabel.{ParticleLabel}
use Rattle.content_models.specs.declared.particles.ParticleKind.{ParticleKind}
use Rattle.content_models.specs.declared.particles.ParticleKind.TheVariants as particle_kind
use Rattle.content_models.specs.Particle as model
use Rattle.content_models.specs.Particle.{Particle, occurs, Term, Particles}
use Rattle.content_models.specs.Occurring.{AllowOne, IsMore, MayOccur, TermMayOccur, AllMayOccur}
use Rattle.content_models.specs.Clear.{Clear, IsElement, AreSingle}
use Rattle.content_models.specs.Seen.{term_seen, seen, all_seen}
use Rattle.schema_components.specs.Components.{Set}
use Rattle.map_subjects.specs.declared.subjects.Subject.{Subject}
use Rattle.map_assignments.specs.Plans.{TypePlan, repeated, Parts, finish, part}
use Rattle.map_assignments.specs.Planning.{label_of, list_label_of, is_once, is_optional, is_all, labels, particle_part, term_type, particle_parts, top_part, top}
use Rattle.map_assignments.proofs.Shapes.{is_attribute_label, is_element_label, count_parts, NoAttributes, AreElements, IsSequence, IsPlan, ArePlans, Refers, ReferInAll, either-way}

pub never : (A : Type 0) → false ≡ true → A
never A e = absurd (true≢false (sym e))

-- ---- labels of particles

label-plain : (t : Term) → is_attribute_label (label_of t) ≡ false
label-plain (model.element d name) = refl
label-plain (model.sequence ps) = refl
label-plain (model.choice ps) = refl
label-plain (model.all ps) = refl

list-label-plain : (t : Term) → is_attribute_label (list_label_of t) ≡ false
list-label-plain (model.element d name) = refl
list-label-plain (model.sequence ps) = refl
list-label-plain (model.choice ps) = refl
list-label-plain (model.all ps) = refl

pub not-both : (b : Bool) (A : Type 0) → b ≡ false → b ≡ true → A
not-both b A e f = absurd (true≢false (sym f ∙ e))

-- ---- how many parts a content model has

abbrev mutual
  nodes : Particle → ℕ
  nodes (occurs t least most) = suc (nodes_in t)

  nodes_in : Term → ℕ
  nodes_in (model.element d name) = 0
  nodes_in (model.sequence ps) = all_nodes ps
  nodes_in (model.choice ps) = all_nodes ps
  nodes_in (model.all ps) = all_nodes ps

  all_nodes : Particles → ℕ
  all_nodes model.none = 0
  all_nodes (model.more p ps) = nodes p + all_nodes ps

within-kind : (k : ParticleKind) (ps : Particles) (n : ℕ) → all_nodes ps ≤ n → nodes_in (term_seen k ps) ≤ n
within-kind (particle_kind.Element d name) ps n h = omega arith
within-kind particle_kind.Sequence ps n h = h
within-kind particle_kind.Choice ps n h = h
within-kind particle_kind.All ps n h = h

mutual
  pub seen-nodes : (t : Rose ParticleLabel) → nodes (seen t) ≤ node_count t
  seen-nodes (node l ts) = let below = within-kind l.kind (all_seen ts) (count_all ts) (all-seen-nodes ts) in omega (arith, below)

  all-seen-nodes : (ts : Roses ParticleLabel) → all_nodes (all_seen ts) ≤ count_all ts
  all-seen-nodes rose.none = omega arith
  all-seen-nodes (rose.more t ts) = omega (arith, seen-nodes t, all-seen-nodes ts)

abbrev chosen : Bool → Bool → Term → TypePlan → ℕ → Option ℕ → Parts → Parts
chosen o q t p least most rest =
    if o then part (label_of t) false p rest else if q then part (label_of t) true p rest else part (list_label_of t) false (repeated (label_of t) p least most) rest

sizes : (least : ℕ) (most : Option ℕ) → AllowOne least most → AreSizes least most
sizes least None h = tt
sizes least (Some most) h = h.0

chosen-count : (o q : Bool) (t : Term) (p : TypePlan) (least : ℕ) (most : Option ℕ) (rest : Parts) → count_parts (chosen o q t p least most rest) ≡ suc (count_parts rest)
chosen-count true q t p least most rest = refl
chosen-count false true t p least most rest = refl
chosen-count false false t p least most rest = refl

chosen-plain : (o q : Bool) (t : Term) (p : TypePlan) (least : ℕ) (most : Option ℕ) (rest : Parts) → NoAttributes rest → NoAttributes (chosen o q t p least most rest)
chosen-plain true q t p least most rest h = (label-plain t, h)
chosen-plain false true t p least most rest h = (label-plain t, h)
chosen-plain false false t p least most rest h = (list-label-plain t, h)

chosen-refers : (P : Subject → Type 0) (o q : Bool) (t : Term) (p : TypePlan) (least : ℕ) (most : Option ℕ) (rest : Parts)
    → MatchBool (is_element_label (label_of t)) (Unit {0}) (Refers P p) → ReferInAll P rest → ReferInAll P (chosen o q t p least most rest)
chosen-refers P true q t p least most rest h k = (h, k)
chosen-refers P false true t p least most rest h k = (h, k)
chosen-refers P false false t p least most rest h k = (either-way (is_element_label (list_label_of t)) (Refers P (repeated (label_of t) p least most)) h, k)

module _ (s : Set) where
  chosen-plans : (o q : Bool) (t : Term) (p : TypePlan) (least : ℕ) (most : Option ℕ) (rest : Parts) → AllowOne least most → IsPlan s p → ArePlans s rest
      → ArePlans s (chosen o q t p least most rest)
  chosen-plans true q t p least most rest a g k = (g, (λ e. not-both _ _ (label-plain t) e), k)
  chosen-plans false true t p least most rest a g k = (g, (λ e. not-both _ _ (label-plain t) e), k)
  chosen-plans false false t p least most rest a g k =
      ((sizes least most a, label-plain t, g), (λ e. not-both _ _ (list-label-plain t) e), k)

pub plain-sequence : (ps : Parts) → IsSequence false false ps
plain-sequence ps = ((λ e. never _ e), (λ e. never _ e))

positive : (b : Bool) (T : ℕ → TypePlan) (ps : Particles) → IsMore ps → 0 < count_parts (particle_parts T b ps)
positive b T model.none h = absurd h
positive b T (model.more (occurs t least most) ps) h =
    let n = chosen-count (is_once least most) (is_optional least most && not b) t (term_type T t) least most (particle_parts T b ps) in omega (arith, n)

-- elements that stand once at most
single-part : (t : Term) (p : TypePlan) (least : ℕ) (rest : Parts) → IsElement t → least ≤ 1 → AreElements rest → AreElements (particle_part false t p least (Some 1) rest)
single-part (model.element d name) p zero rest is few h = (refl, h)
single-part (model.element d name) p (suc zero) rest is few h = (refl, h)
single-part (model.element d name) p (suc (suc n)) rest is few h = absurd (omega (arith, few))
single-part (model.sequence ps) p least rest is few h = absurd is
single-part (model.choice ps) p least rest is few h = absurd is
single-part (model.all ps) p least rest is few h = absurd is

pub single-parts : (T : ℕ → TypePlan) (ps : Particles) → AreSingle ps → AllMayOccur ps → AreElements (particle_parts T false ps)
single-parts T model.none g h = tt
single-parts T (model.more (occurs t least most) ps) g h =
    subst (λ m. AreElements (particle_part false t (term_type T t) least m (particle_parts T false ps))) (sym g.0.1)
    (single-part t (term_type T t) least (particle_parts T false ps) g.0.0 ((subst (AllowOne least) g.0.1 h.0.0).0) (single-parts T ps g.1 h.1))

pub labels-count : (ps : Parts) → length (labels ps) ≡ count_parts ps
labels-count finish = refl
labels-count (part l optional p ps) = ap suc (labels-count ps)

-- ---- content models, where each declaration has a plan

module _ (s : Set) (T : ℕ → TypePlan) where
  parts-count : (b : Bool) (ps : Particles) → count_parts (particle_parts T b ps) ≤ all_nodes ps
  parts-count b model.none = omega arith
  parts-count b (model.more (occurs t least most) ps) =
      omega (arith, chosen-count (is_once least most) (is_optional least most && not b) t (term_type T t) least most (particle_parts T b ps), parts-count b ps)

  parts-plain : (b : Bool) (ps : Particles) → NoAttributes (particle_parts T b ps)
  parts-plain b model.none = tt
  parts-plain b (model.more (occurs t least most) ps) =
      chosen-plain (is_once least most) (is_optional least most && not b) t (term_type T t) least most (particle_parts T b ps) (parts-plain b ps)

  mutual
    term-refers : (P : Subject → Type 0) (t : Term) → MatchBool (is_element_label (label_of t)) (Unit {0}) (Refers P (term_type T t))
    term-refers P (model.element d name) = tt
    term-refers P (model.sequence ps) = parts-refer P false ps
    term-refers P (model.choice ps) = parts-refer P true ps
    term-refers P (model.all ps) = parts-refer P false ps

    parts-refer : (P : Subject → Type 0) (b : Bool) (ps : Particles) → ReferInAll P (particle_parts T b ps)
    parts-refer P b model.none = tt
    parts-refer P b (model.more (occurs t least most) ps) =
        chosen-refers P (is_once least most) (is_optional least most && not b) t (term_type T t) least most (particle_parts T b ps) (term-refers P t) (parts-refer P b ps)

  top-part-refers : (P : Subject → Type 0) (t : Term) (least : ℕ) (most : Option ℕ) → ReferInAll P (top_part T t least most)
  top-part-refers P t least most =
      chosen-refers P (is_once least most) (is_optional least most && true) t (term_type T t) least most finish (term-refers P t) tt

  pub either-top : (Q : Parts → Type 0) (b : Bool) (one other : Parts) → Q one → Q other → Q (if b then one else other)
  either-top Q true one other h k = h
  either-top Q false one other h k = k

  pub top-refers : (P : Subject → Type 0) (p : Particle) → ReferInAll P (top T p)
  top-refers P (occurs (model.element d name) least most) = top-part-refers P (model.element d name) least most
  top-refers P (occurs (model.choice ps) least most) = top-part-refers P (model.choice ps) least most
  top-refers P (occurs (model.all ps) least most) = parts-refer P false ps
  top-refers P (occurs (model.sequence ps) least most) =
      either-top (ReferInAll P) (is_once least most) (particle_parts T false ps) (top_part T (model.sequence ps) least most) (parts-refer P false ps) (top-part-refers P (model.sequence ps) least most)

  module _ (plans : (d : ℕ) → IsPlan s (T d)) where
    mutual
      term-plan : (t : Term) → nodes_in t ≤ 65536 → TermMayOccur t → IsPlan s (term_type T t)
      term-plan (model.element d name) few h = plans d
      term-plan (model.sequence ps) few h =
          (plain-sequence (particle_parts T false ps), omega (arith, parts-count false ps, few), parts-plans false ps few h, (λ e. never _ e))
      term-plan (model.all ps) few h =
          (plain-sequence (particle_parts T false ps), omega (arith, parts-count false ps, few), parts-plans false ps few h, (λ e. never _ e))
      term-plan (model.choice ps) few h =
          ((positive true T ps h.0, omega (arith, parts-count true ps, few)), parts-plans true ps few h.1, parts-plain true ps)

      parts-plans : (b : Bool) (ps : Particles) → all_nodes ps ≤ 65536 → AllMayOccur ps → ArePlans s (particle_parts T b ps)
      parts-plans b model.none few h = tt
      parts-plans b (model.more (occurs t least most) ps) few h =
          chosen-plans s (is_once least most) (is_optional least most && not b) t (term_type T t) least most (particle_parts T b ps) h.0.0
          (term-plan t (omega (arith, few)) h.0.1) (parts-plans b ps (omega (arith, few)) h.1)

    top-part-plans : (t : Term) (least : ℕ) (most : Option ℕ) → suc (nodes_in t) ≤ 65536 → AllowOne least most → TermMayOccur t → ArePlans s (top_part T t least most)
    top-part-plans t least most few a h =
        chosen-plans s (is_once least most) (is_optional least most && true) t (term_type T t) least most finish a (term-plan t (omega (arith, few)) h) tt

    pub top-plans : (p : Particle) → nodes p ≤ 65536 → MayOccur p → ArePlans s (top T p)
    top-plans (occurs (model.element d name) least most) few h = top-part-plans (model.element d name) least most few h.0 h.1
    top-plans (occurs (model.choice ps) least most) few h = top-part-plans (model.choice ps) least most few h.0 h.1
    top-plans (occurs (model.all ps) least most) few h = parts-plans false ps (omega (arith, few)) h.1
    top-plans (occurs (model.sequence ps) least most) few h =
        either-top (ArePlans s) (is_once least most) (particle_parts T false ps) (top_part T (model.sequence ps) least most)
        (parts-plans false ps (omega (arith, few)) h.1) (top-part-plans (model.sequence ps) least most few h.0 h.1)

  top-part-count : (t : Term) (least : ℕ) (most : Option ℕ) → count_parts (top_part T t least most) ≤ 65536
  top-part-count t least most = omega (arith, chosen-count (is_once least most) (is_optional least most && true) t (term_type T t) least most finish)

  pub top-count : (p : Particle) → nodes p ≤ 65536 → count_parts (top T p) ≤ 65536
  top-count (occurs (model.element d name) least most) few = top-part-count (model.element d name) least most
  top-count (occurs (model.choice ps) least most) few = top-part-count (model.choice ps) least most
  top-count (occurs (model.all ps) least most) few = omega (arith, parts-count false ps, few)
  top-count (occurs (model.sequence ps) least most) few =
      either-top (λ qs. count_parts qs ≤ 65536) (is_once least most) (particle_parts T false ps) (top_part T (model.sequence ps) least most)
      (omega (arith, parts-count false ps, few)) (top-part-count (model.sequence ps) least most)

-- the parts of an all are elements, and there is one
pub all-elements : (s : Set) (T : ℕ → TypePlan) (p : Particle) → is_all p ≡ true → nodes p ≤ 65536 → MayOccur p → Clear p []
    → AreElements (top T p) × IsCounted (length (labels (top T p)))
all-elements s T (occurs (model.element d name) least most) e few m clear = absurd cc
all-elements s T (occurs (model.sequence ps) least most) e few m clear = absurd cc
all-elements s T (occurs (model.choice ps) least most) e few m clear = absurd cc
all-elements s T (occurs (model.all model.none) least most) e few m clear = absurd cc
all-elements s T (occurs (model.all (model.more q ps)) least most) e few m clear =
    let qs = model.more q ps in
    let count = labels-count (particle_parts T false qs) in
    let some = positive false T qs tt in
    let within = parts-count s T false qs in
    (single-parts T qs clear.3.4 m.1, (omega (arith, count, some), omega (arith, count, within, few)))
