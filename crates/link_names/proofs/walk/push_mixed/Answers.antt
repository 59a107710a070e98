use Rattle.std.proofs.Common.{◌≡◌, ℕ, suc, List, [], ◌∷◌, ◌++◌, Some, length, ◌<◌, sym, ap, ◌∙◌, refl, arith}
use Rattle.base_trees.specs.Rose.{Rose, node, label_of, kids_of, list_of}
use Rattle.base_trees.specs.Rose as rose
use Rattle.content_models.specs.declared.particles.ParticleLabel.{ParticleLabel}
use Rattle.link_names.specs.Parts.{part, MixedGroup, in_mixed, in_model}
use Rattle.link_names.proofs.walk.push_mixed.Goals as goal

none_there : (file within : ℕ) (t : Rose ParticleLabel) (kids : List (Rose ParticleLabel)) → kids ≡ kids_of t → length kids ≡ 0
    → in_mixed file within t ≡ part file (Some within) (label_of t).at (MixedGroup (label_of t)) ∷ []
none_there file within (node label rose.none) kids same none = refl
none_there file within (node label (rose.more t ts)) kids same none = absurd (let e : length kids ≡ suc (length (list_of ts)) = ap length same in omega (arith, e, none))

some_there : (file within : ℕ) (t : Rose ParticleLabel) (kids : List (Rose ParticleLabel)) → kids ≡ kids_of t → 0 < length kids
    → in_mixed file within t ≡ in_model file within t
some_there file within (node label rose.none) kids same some = absurd (let e : length kids ≡ 0 = ap length same in omega (arith, e, some))
some_there file within (node label (rose.more t ts)) kids same some = refl

pub returns-in-empty : goal.returns-in-empty
returns-in-empty c =
    let file = c.args.file in
    let within = c.args.within in
    let told = none_there file within c.args.tree.now c.kids.result.now c.kids.ensures (omega arith)
    ∙ ap (λ l. part file (Some within) l.at (MixedGroup l) ∷ []) (sym c.label-label.ensures) in
    rw told c.push_part.ensures

pub returns-in-len1-up : goal.returns-in-len1-up
returns-in-len1-up c =
    let told = some_there c.args.file c.args.within c.args.tree.now c.kids.result.now c.kids.ensures (omega arith) in
    rw told c.push_model.ensures
