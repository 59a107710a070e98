-- What is known of the components of a linked set, and of its content models.
use Rattle.std.proofs.Common.{◌≡◌, ℕ, zero, suc, ◌<◌, List, [], ◌∷◌, ◌++◌, length, All, get_or, Option, Some, None, refl, sym, ap, subst, ◌∙◌, arith}
use Rattle.std.specs.Prelude.{slice_get, IsSomeAnd}
use Rattle.std.proofs.lemmas.List.Elements.{All-head, All-tail, All-cons}
use Rattle.std.proofs.lemmas.Option.{slice_get_within}
use Rattle.base_texts.specs.declared.texts.Name.{Name}
use Rattle.base_trees.specs.Rose.{Rose, node, roses_of, label_of, kids_of}
use Rattle.base_trees.proofs.Roses.{roses_of-list_of}
use Rattle.content_models.specs.declared.particles.ParticleLabel.{ParticleLabel}
use Rattle.content_models.specs.declared.particles.ParticleKind.TheVariants.{Element, Sequence, Choice, All as AllKind}
use Rattle.content_models.specs.Particle.{occurs}
use Rattle.content_models.specs.Seen.{term_seen, seen, all_seen}
use Rattle.schema_components.specs.Components.{Set}
use Rattle.schema_components.specs.Linked as linked
use Rattle.map_assignments.specs.Private.Building.{term_of, IsKnown, AreKnown}

pub all-front : {X : Type 0} (P : X → Type 0) (xs ys : List X) → All P (xs ++ ys) → All P xs
all-front P [] ys h = λ k d l. absurd (omega (arith, l))
all-front P (x ∷ xs) ys h = All-cons P x xs (All-head P x (xs ++ ys) h) (all-front P xs ys (All-tail P x (xs ++ ys) h))

pub all-back : {X : Type 0} (P : X → Type 0) (xs ys : List X) → All P (xs ++ ys) → All P ys
all-back P [] ys h = h
all-back P (x ∷ xs) ys h = all-back P xs ys (All-tail P x (xs ++ ys) h)

-- a particle by its label and those below it
pub seen-parts : (t : Rose ParticleLabel) (l : ParticleLabel) (kids : List (Rose ParticleLabel)) → l ≡ label_of t → kids ≡ kids_of t
    → seen t ≡ occurs (term_seen l.kind (all_seen (roses_of kids))) l.min l.max
seen-parts (node l ts) m kids is below =
    ap (λ us. occurs (term_seen l.kind (all_seen us)) l.min l.max) (sym (roses_of-list_of ts) ∙ ap roses_of (sym below))
    ∙ ap (λ k. occurs (term_seen k.kind (all_seen (roses_of kids))) k.min k.max) (sym is)

pub term-parts : (t : Rose ParticleLabel) (l : ParticleLabel) (kids : List (Rose ParticleLabel)) → l ≡ label_of t → kids ≡ kids_of t
    → term_of t ≡ term_seen l.kind (all_seen (roses_of kids))
term-parts (node l ts) m kids is below =
    ap (λ us. term_seen l.kind (all_seen us)) (sym (roses_of-list_of ts) ∙ ap roses_of (sym below))
    ∙ ap (λ k. term_seen k.kind (all_seen (roses_of kids))) (sym is)

pub seen-term : (t : Rose ParticleLabel) (l : ParticleLabel) → l ≡ label_of t → seen t ≡ occurs (term_of t) l.min l.max
seen-term (node l ts) m is = ap (λ k. occurs (term_seen l.kind (all_seen ts)) k.min k.max) (sym is)

-- the element of a particle is one of the set
pub known-element : (s : Set) (t : Rose ParticleLabel) (l : ParticleLabel) (d : ℕ) (name : Name) → IsKnown s t → l ≡ label_of t → l.kind ≡ Element d name
    → d < length s.elements
known-element s (node l ts) m d name known is kind =
    let same : l.kind ≡ Element d name = ap (λ (k : ParticleLabel). k.kind) (sym is) ∙ kind in
    let one : All (linked.IsNamed s) ((d, name) ∷ []) = subst (λ k. All (linked.IsNamed s) (linked.leaves (occurs (term_seen k (all_seen ts)) l.min l.max))) same known in
    within (slice_get s.elements d) refl (All-head (linked.IsNamed s) (d, name) [] one)
  where
    within : (o : Option _) → slice_get s.elements d ≡ o → IsSomeAnd o (λ e. e.name ≡ name) → d < length s.elements
    within None e h = absurd h
    within (Some x) e h = slice_get_within s.elements d x e

-- those below a group are known
pub known-kids : (s : Set) (t : Rose ParticleLabel) (l : ParticleLabel) (kids : List (Rose ParticleLabel)) → IsKnown s t → l ≡ label_of t → kids ≡ kids_of t → l.kind ≡ Sequence
    → AreKnown s kids
known-kids s (node l ts) m kids known is below kind =
    let same : l.kind ≡ Sequence = ap (λ (k : ParticleLabel). k.kind) (sym is) ∙ kind in
    subst (λ us. All (linked.IsNamed s) (linked.all_leaves (all_seen us))) (sym (roses_of-list_of ts) ∙ ap roses_of (sym below))
    (subst (λ k. All (linked.IsNamed s) (linked.leaves (occurs (term_seen k (all_seen ts)) l.min l.max))) same known)

pub known-alternatives : (s : Set) (t : Rose ParticleLabel) (l : ParticleLabel) (kids : List (Rose ParticleLabel)) → IsKnown s t → l ≡ label_of t → kids ≡ kids_of t → l.kind ≡ Choice
    → AreKnown s kids
known-alternatives s (node l ts) m kids known is below kind =
    let same : l.kind ≡ Choice = ap (λ (k : ParticleLabel). k.kind) (sym is) ∙ kind in
    subst (λ us. All (linked.IsNamed s) (linked.all_leaves (all_seen us))) (sym (roses_of-list_of ts) ∙ ap roses_of (sym below))
    (subst (λ k. All (linked.IsNamed s) (linked.leaves (occurs (term_seen k (all_seen ts)) l.min l.max))) same known)

pub known-all : (s : Set) (t : Rose ParticleLabel) (l : ParticleLabel) (kids : List (Rose ParticleLabel)) → IsKnown s t → l ≡ label_of t → kids ≡ kids_of t → l.kind ≡ AllKind
    → AreKnown s kids
known-all s (node l ts) m kids known is below kind =
    let same : l.kind ≡ AllKind = ap (λ (k : ParticleLabel). k.kind) (sym is) ∙ kind in
    subst (λ us. All (linked.IsNamed s) (linked.all_leaves (all_seen us))) (sym (roses_of-list_of ts) ∙ ap roses_of (sym below))
    (subst (λ k. All (linked.IsNamed s) (linked.leaves (occurs (term_seen k (all_seen ts)) l.min l.max))) same known)

-- and each of them
pub known-kid : (s : Set) (ts : List (Rose ParticleLabel)) (i : ℕ) (t : Rose ParticleLabel) → AreKnown s ts → i < length ts → t ≡ get_or ts i t → IsKnown s t
known-kid s ts i t known at here = subst (IsKnown s) (sym here) (by ts i known at)
  where
    by : (us : List (Rose ParticleLabel)) (k : ℕ) → AreKnown s us → k < length us → IsKnown s (get_or us k t)
    by [] k h l = absurd (omega (arith, l))
    by (u ∷ us) zero h l = all-front (linked.IsNamed s) (linked.leaves (seen u)) (linked.all_leaves (all_seen (roses_of us))) h
    by (u ∷ us) (suc k) h l = by us k (all-back (linked.IsNamed s) (linked.leaves (seen u)) (linked.all_leaves (all_seen (roses_of us))) h) (omega (arith, l))
