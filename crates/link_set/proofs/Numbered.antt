-- A content model with other numbers, from its label and its kids.
use Rattle.std.proofs.Common.{◌≡◌, ℕ, suc, List, [], ◌∷◌, map, refl, sym, ap, ap₂, ◌∙◌, subst}
use Rattle.base_trees.specs.Rose.{Rose, Roses, node, roses_of, label_of, kids_of, length_all, Allowed, AllowedAll}
use Rattle.base_trees.specs.Rose as rose
use Rattle.base_trees.proofs.Roses.{roses_of-list_of}
use Rattle.content_models.specs.Kids.{MayHave, KindMayHave}
use Rattle.content_models.specs.declared.particles.ParticleKind.{ParticleKind}
use Rattle.content_models.specs.declared.particles.ParticleKind.TheVariants as particle
use Rattle.content_models.specs.declared.particles.ParticleLabel.{ParticleLabel}
use Rattle.link_set.specs.Sets.{numbered, all_numbered, numbered_label, numbered_kind}

each_numbered : (number : ℕ → ℕ) (ts : List (Rose ParticleLabel)) → roses_of (map (numbered number) ts) ≡ all_numbered number (roses_of ts)
each_numbered number [] = refl
each_numbered number (t ∷ ts) = ap (λ us. rose.more (numbered number t) us) (each_numbered number ts)

pub of_parts : (number : ℕ → ℕ) (t : Rose ParticleLabel) (label : ParticleLabel) (kids : List (Rose ParticleLabel))
    → label ≡ numbered_label number (label_of t) → kids ≡ map (numbered number) (kids_of t) → node label (roses_of kids) ≡ numbered number t
of_parts number (node l ts) label kids e k =
    ap₂ (λ (m : ParticleLabel) us. node m (roses_of us)) e k ∙ ap (node (numbered_label number l)) (each_numbered number (kids_of (node l ts)) ∙ ap (all_numbered number) (roses_of-list_of ts))

-- the labels still allow the kids
kind_allowed : (number : ℕ → ℕ) (k : ParticleKind) (n : ℕ) → KindMayHave k n → KindMayHave (numbered_kind number k) n
kind_allowed number (particle.Element decl name) n h = h
kind_allowed number particle.Sequence n h = h
kind_allowed number particle.Choice n h = h
kind_allowed number particle.All n h = h

same_length : (number : ℕ → ℕ) (ts : Roses ParticleLabel) → length_all (all_numbered number ts) ≡ length_all ts
same_length number rose.none = refl
same_length number (rose.more t ts) = ap suc (same_length number ts)

mutual
  pub allowed_numbered : (number : ℕ → ℕ) (t : Rose ParticleLabel) → Allowed MayHave t → Allowed MayHave (numbered number t)
  allowed_numbered number (node l ts) h =
      (subst (KindMayHave (numbered_kind number l.kind)) (sym (same_length number ts)) (kind_allowed number l.kind (length_all ts) h.0), all_allowed_numbered number ts h.1)

  all_allowed_numbered : (number : ℕ → ℕ) (ts : Roses ParticleLabel) → AllowedAll MayHave ts → AllowedAll MayHave (all_numbered number ts)
  all_allowed_numbered number rose.none h = h
  all_allowed_numbered number (rose.more t ts) h = (allowed_numbered number t h.0, all_allowed_numbered number ts h.1)
