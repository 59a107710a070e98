use Rattle.std.proofs.Common.{[], ◌∷◌, inl, inr, sym, subst, refl}
use Rattle.asn_types.specs.declared.marks.Instruction.TheVariants as mark
use Rattle.map_assignments.specs.Naming.{wanted}
use Rattle.content_models.specs.Particle.{Particles}
use Rattle.content_models.specs.Seen.{term_seen}
use Rattle.map_assignments.specs.Plans.{group, a_sequence, a_choice}
use Rattle.map_assignments.specs.Planning.{label_of}
use Rattle.map_assignments.specs.Private.Building.{Adds}
use Rattle.map_assignments.proofs.Building.{on_ok, adds-marked}
use Rattle.map_assignments.proofs.particles.push_one.Goals as goal

pub returns-in-Sequence : goal.returns-in-Sequence
returns-in-Sequence c =
    on_ok c.push_untagged-in-Sequence.result _ _
    (λ added.
    let adds = adds-marked c.args.parts.now c.push_untagged-in-Sequence.new.parts (group a_sequence) (wanted (group a_sequence)) (mark.Untagged ∷ []) c.args.optional c.args.kid refl refl (λ g. refl) added in
    elim c.in-Sequence.is [
      | inl is ↦ subst (λ k. (ps : Particles) → Adds c.args.parts.now c.push_untagged-in-Sequence.new.parts (label_of (term_seen k ps)) c.args.optional c.args.kid) (sym is) (λ ps. adds)
      | inr is ↦ subst (λ k. (ps : Particles) → Adds c.args.parts.now c.push_untagged-in-Sequence.new.parts (label_of (term_seen k ps)) c.args.optional c.args.kid) (sym is) (λ ps. adds)
    ])
    c.push_untagged-in-Sequence.ensures

pub returns-in-Choice : goal.returns-in-Choice
returns-in-Choice c =
    on_ok c.push_untagged.result _ _
    (λ added. subst (λ k. (ps : Particles) → Adds c.args.parts.now c.push_untagged.new.parts (label_of (term_seen k ps)) c.args.optional c.args.kid) (sym c.in-Choice.is)
    (λ ps. adds-marked c.args.parts.now c.push_untagged.new.parts (group a_choice) _ _ c.args.optional c.args.kid refl refl (λ g. refl) added))
    c.push_untagged.ensures
