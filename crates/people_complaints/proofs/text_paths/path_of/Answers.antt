use Rattle.std.proofs.Common.{◌≡◌, ◌-◌, ◌∷◌, ◌++◌, [], refl, sym, inl, inr, ◌∙◌, ap, subst, arith}
use Rattle.std.specs.Prelude.{count_by}
use Rattle.std.proofs.lemmas.List.{append_assoc}
use Rattle.base_trees.specs.Rose.{label_of, kids_of}
use Rattle.people_complaints.specs.Paths.{IsLastBy, NoneBy, is_kid_named, step, root_step}
use Rattle.people_complaints.proofs.Ways.{path_to, kid_smaller, behind_counted}
use Rattle.people_complaints.proofs.text_paths.path_of.Goals as goal

pub returns-in_default-label : goal.returns-in_default-label
returns-in_default-label c =
    let last = subst (λ kids. IsLastBy c.args.at kids c.in-Some.ensures.0 c.in-Some.kid c.in-Some.behind) c.kids.ensures c.in-Some.ensures.1 in
    path_to c.args.at c.args.root c.levels.node _ c.levels.invariant.0 c.levels.invariant.1
    (inr (c.in-Some.ensures.0, c.in-Some.behind, c.in-Some.kid, last, rw (← c.label-in-Some.ensures, c.in_default-label.is) tt)) c.levels.invariant.2

pub levels-smaller : goal.levels-smaller
levels-smaller c = kid_smaller c.levels.node c.in-Some.kid c.in-Some.ensures.0 c.in-Some.behind (sym c.kids.ensures ∙ c.in-Some.ensures.1.split)

pub levels-preserved : goal.levels-preserved
levels-preserved c =
    let before = c.in-Some.ensures.0 in
    let kid = c.in-Some.kid in
    let behind = c.in-Some.behind in
    let name = c.in-Element.name.now in
    let p = is_kid_named name in
    let last : IsLastBy c.args.at (kids_of c.levels.node) before kid behind =
    subst (λ kids. IsLastBy c.args.at kids before kid behind) c.kids.ensures c.in-Some.ensures.1 in
    let sum = behind_counted p (kids_of c.levels.node) before behind kid last.split in
    let whole : c.alike-all.result ≡ count_by p (kids_of c.levels.node) = c.alike-all.ensures ∙ ap (λ kids. count_by p kids) c.kids-in-Some.ensures in
    let rest : c.alike.result ≡ count_by p behind = c.alike.ensures in
    let number : c.alike-all.result - c.alike.result ≡ count_by p (before ++ kid ∷ []) = omega (arith, sum, whole, rest) in
    let text = step name (c.alike-all.result - c.alike.result) c.alike-all.result in
    let steps = c.levels.invariant.0 in (
      steps ++ text,
      c.in_ok-put_step.ensures ∙ ap (λ s. s ++ text) c.levels.invariant.1 ∙ append_assoc (root_step (label_of c.args.root)) steps text,
      λ elements later way.
          let on = c.levels.invariant.2 (kid ∷ elements) (text ++ later) (
            text,
            later,
            record {
              before = before;
              behind = behind;
              last = last;
              name = name;
              named = rw (← c.label-in-Some.ensures, c.in-Element.is) refl;
              is = ap (λ n. step name n c.alike-all.result) number ∙ ap (λ n. step name (count_by p (before ++ kid ∷ [])) n) whole;
            },
            way,
            refl,
          ) in
          (on.0, rw (append_assoc steps text later) on.1),
    )

pub returns : goal.returns
returns c =
    path_to c.args.at c.args.root c.levels.node _ c.levels.invariant.0 c.levels.invariant.1 (inl (subst (NoneBy c.args.at) c.kids.ensures c.in_default.ensures))
    c.levels.invariant.2
