use Rattle.std.proofs.Common.{◌≡◌, ℕ, [], ◌∷◌, ◌++◌, Some, ap, ◌∙◌, arith, append_assoc}
use Rattle.base_trees.specs.Rose.{Rose, node, roses_of, label_of, kids_of}
use Rattle.base_trees.proofs.Kids.{kid-count-le}
use Rattle.base_trees.proofs.Roses.{node_count-kids, roses_of-list_of}
use Rattle.content_models.specs.declared.particles.ParticleLabel.{ParticleLabel}
use Rattle.link_names.specs.Parts.{part, Particle, in_model, in_models}
use Rattle.link_names.specs.WalkSeen.{parts_of}
use Rattle.link_names.proofs.walk.+particles.Goals as goal

pub push_models-push_model-requires : goal.push_models-push_model-requires
push_models-push_model-requires t c =
    let d = c.decreases in
    let k = kid-count-le c.args.kids.now c.loop-kid.kid-index c.kid-item.result c.loop-kid-test.true c.kid-item.is in
    (omega (arith, d, k), tt)

pub push_model-push_models-requires : goal.push_model-push_models-requires
push_model-push_models-requires t c =
    let d = c.decreases in
    let k = node_count-kids c.args.tree.now in
    (rw c.kids.ensures (omega (arith, d, k)), tt)

by_parts : (file within : ℕ) (t : Rose ParticleLabel)
    → part file (Some within) (label_of t).at (Particle (label_of t)) ∷ in_models file (label_of t).at (roses_of (kids_of t)) ≡ in_model file within t
by_parts file within (node label kids) =
    ap (λ ks. part file (Some within) label.at (Particle label) ∷ in_models file label.at ks) (roses_of-list_of kids)

pub push_model-returns : goal.push_model-returns
push_model-returns t c =
    let file = c.args.file in
    let within = c.args.within in
    let before = parts_of c.args.out.now.items in
    let label = c.label-label.result.now in
    let here = part file (Some within) label.at (Particle label) ∷ [] in
    let inside = in_models file label.at (roses_of c.kids.result.now) in
    let told = ap (λ l. part file (Some within) l.at (Particle l) ∷ in_models file l.at (roses_of c.kids.result.now)) c.label-label.ensures
    ∙ ap (λ kids. part file (Some within) (label_of c.args.tree.now).at (Particle (label_of c.args.tree.now)) ∷ in_models file (label_of c.args.tree.now).at (roses_of kids)) c.kids.ensures
    ∙ by_parts file within c.args.tree.now in
    let all = ap (λ ps. ps ++ inside) c.in_ok-push_part.ensures ∙ append_assoc before here inside ∙ ap (λ ps. before ++ ps) told in
    rw (← all) c.push_models.ensures
