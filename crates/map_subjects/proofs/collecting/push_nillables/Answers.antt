use Rattle.std.proofs.Common.{◌<◌, refl, ap, subst, ◌∙◌}
use Rattle.map_subjects.specs.declared.subjects.Subject.TheVariants.{Nillable}
use Rattle.map_subjects.specs.Private.Collecting.{entries_of, is_marked}
use Rattle.map_subjects.proofs.InOrder.{firsts-next}
use Rattle.map_subjects.proofs.collecting.push_nillables.Goals as goal

pub push_nillable-requires : goal.push_nillable-requires
push_nillable-requires c =
    let n = c.complexes.n in record {
      number = subst (λ m. n < m) c.complex_count-n-end.ensures c.complexes-test.true;
      marks = λ m. ap (λ marks. is_marked marks m) c.deref.ensures.value ∙ c.in_ok-marks.ensures m;
    }

pub complexes-preserved : goal.complexes-preserved
complexes-preserved c =
    let s = c.args.set.now in
    let n = c.complexes.n in
    firsts-next s Nillable n c.args.made.now.items c.complexes.made.items c.push_nillable.new.made.items (entries_of s (Nillable n))
    c.complexes.invariant c.in_ok-push_nillable.ensures refl
