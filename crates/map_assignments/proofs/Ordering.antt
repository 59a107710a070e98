-- The order of child elements that may stand in any order.
use Rattle.std.proofs.Common.{◌≡◌, ℕ, suc, Bool, true, false, ◌&&◌, not, if◌then◌else◌, Option, List, [], ◌∷◌, ◌++◌, length, map, codes, refl, sym, ap, subst, ◌∙◌, arith, lt-ltb}
use Rattle.std.specs.Prelude.{nat_lt}
use Rattle.base_trees.specs.Rose.{Rose, node, roses_of, kids_of, label_of as label_of_tree}
use Rattle.base_trees.proofs.Roses.{roses_of-list_of}
use Rattle.content_models.specs.declared.particles.ParticleLabel.{ParticleLabel}
use Rattle.content_models.specs.declared.particles.ParticleKind.{ParticleKind}
use Rattle.content_models.specs.declared.particles.ParticleKind.TheVariants.{Element, Sequence, Choice, All as AllKind}
use Rattle.content_models.specs.Particle.{occurs, Term}
use Rattle.content_models.specs.Seen.{term_seen, seen, all_seen}
use Rattle.schema_components.specs.declared.components.AttributeUse.{AttributeUse}
use Rattle.schema_components.specs.declared.components.Content.{Content}
use Rattle.schema_components.specs.declared.components.Content.TheVariants as content
use Rattle.map_assignments.specs.Plans.{attribute, texts, TypePlan, Parts, part, repeated}
use Rattle.map_assignments.specs.Planning.{label_of, list_label_of, is_once, is_optional, is_all, is_ordered, labels, labels_before, particle_part, particle_parts, top}
use Rattle.map_assignments.specs.Naming.{wanted, AreTaken}
use Rattle.map_assignments.specs.Private.Building.{LeadsToScope}
use Rattle.map_assignments.proofs.Known.{seen-parts}

-- none are taken
pub scope-init : (scope names : List (List ℕ)) → scope ≡ [] → LeadsToScope scope names names
scope-init scope names none gs h = subst (λ s. AreTaken [] names (s ++ gs)) (sym none) (subst (λ s. AreTaken s names gs) none h)

pub wanted-before : (mixed : Bool) (uses : List AttributeUse)
    → map wanted (labels_before mixed uses) ≡ map wanted (if mixed then texts ∷ [] else []) ++ codes "order" ∷ map wanted (map (λ u. attribute u.name u.standard) uses)
wanted-before true uses = refl
wanted-before false uses = refl

-- the name of the part for a particle
module _ (t : Term) (type : TypePlan) (least : ℕ) (most : Option ℕ) (rest : Parts) where
  abbrev chosen : Bool → Bool → Parts
  chosen b o = if b then part (label_of t) false type rest else if o then part (label_of t) true type rest else part (list_label_of t) false (repeated (label_of t) type least most) rest

  pub name-once : (name : List ℕ) → is_once least most ≡ true → name ≡ wanted (label_of t)
      → map wanted (labels (particle_part false t type least most rest)) ≡ name ∷ map wanted (labels rest)
  name-once name e is =
      ap (λ b. map wanted (labels (chosen b (is_optional least most && not false)))) e ∙ ap (λ n. n ∷ map wanted (labels rest)) (sym is)

  pub name-optional : (name : List ℕ) → is_once least most ≡ false → (is_optional least most && not false) ≡ true → name ≡ wanted (label_of t)
      → map wanted (labels (particle_part false t type least most rest)) ≡ name ∷ map wanted (labels rest)
  name-optional name e o is =
      ap (λ b. map wanted (labels (chosen b (is_optional least most && not false)))) e ∙ ap (λ b. map wanted (labels (chosen false b))) o
      ∙ ap (λ n. n ∷ map wanted (labels rest)) (sym is)

  pub name-several : (name : List ℕ) → is_once least most ≡ false → (is_optional least most && not false) ≡ false → name ≡ wanted (list_label_of t)
      → map wanted (labels (particle_part false t type least most rest)) ≡ name ∷ map wanted (labels rest)
  name-several name e o is =
      ap (λ b. map wanted (labels (chosen b (is_optional least most && not false)))) e ∙ ap (λ b. map wanted (labels (chosen false b))) o
      ∙ ap (λ n. n ∷ map wanted (labels rest)) (sym is)

-- the parts of an all
pub all-top : (T : ℕ → TypePlan) (t : Rose ParticleLabel) (kids : List (Rose ParticleLabel)) → kids ≡ kids_of t → is_all (seen t) ≡ true
    → top T (seen t) ≡ particle_parts T false (all_seen (roses_of kids))
all-top T (node l ts) kids below e =
    by l.kind e ∙ ap (λ us. particle_parts T false (all_seen us)) (sym (roses_of-list_of ts) ∙ ap roses_of (sym below))
  where
    by : (k : ParticleKind) → is_all (occurs (term_seen k (all_seen ts)) l.min l.max) ≡ true
        → top T (occurs (term_seen k (all_seen ts)) l.min l.max) ≡ particle_parts T false (all_seen ts)
    by (Element d name) is = absurd (cc)
    by Sequence is = absurd (cc)
    by Choice is = absurd (cc)
    by AllKind is = refl

-- an all has particles
module _ (t : Rose ParticleLabel) (l : ParticleLabel) (kids : List (Rose ParticleLabel)) (is : l ≡ label_of_tree t) (below : kids ≡ kids_of t) where
  pub all-some : l.kind ≡ AllKind → is_all (seen t) ≡ nat_lt 0 (length kids)
  all-some e =
      ap is_all (seen-parts t l kids is below) ∙ ap (λ k. is_all (occurs (term_seen k (all_seen (roses_of kids))) l.min l.max)) e ∙ by kids
    where
      by : (ks : List (Rose ParticleLabel)) → is_all (occurs (term_seen AllKind (all_seen (roses_of ks))) l.min l.max) ≡ nat_lt 0 (length ks)
      by [] = refl
      by (k ∷ ks) = sym (lt-ltb 0 (suc (length ks)) (omega arith))

  pub all-not : (l.kind ≡ AllKind → ⊥) → is_all (seen t) ≡ false
  all-not f = ap is_all (seen-parts t l kids is below) ∙ by l.kind f
    where
      by : (k : ParticleKind) → (k ≡ AllKind → ⊥) → is_all (occurs (term_seen k (all_seen (roses_of kids))) l.min l.max) ≡ false
      by (Element d name) g = refl
      by Sequence g = refl
      by Choice g = refl
      by AllKind g = absurd (g refl)

pub in-order : (c : Content) → ((p : Rose ParticleLabel) → c ≡ content.ElementOnly p → ⊥) → ((p : Rose ParticleLabel) → c ≡ content.Mixed p → ⊥) → is_ordered c ≡ false
in-order content.Empty f g = refl
in-order (content.Simple n) f g = refl
in-order (content.ElementOnly p) f g = absurd (f p refl)
in-order (content.Mixed p) f g = absurd (g p refl)
