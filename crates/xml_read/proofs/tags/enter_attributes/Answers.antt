use Rattle.std.proofs.Common.{◌∙◌, Option, rules, refl, subst, sym}
use Rattle.std.proofs.lemmas.Result.{err_from_is_err_and}
use Rattle.std.specs.Prelude.{reverse}
use Rattle.xml_pieces.specs.Found.{tag_seen}
use Rattle.xml_read.specs.declared.error.DocWhy.{DocWhy}
use Rattle.xml_read.specs.Private.Entering.{Stopped}
use Rattle.xml_read.proofs.Entered.{unbound_stop, duplicate_stop, behind_inner}
use Rattle.xml_read.proofs.tags.enter_attributes.Goals as goal

pub read_attributes-requires : goal.read_attributes-requires
read_attributes-requires c = rw c.deref.ensures.value c.requires

pub returns-then-has_unbound-clause-err : goal.returns-then-has_unbound-clause-err
returns-then-has_unbound-clause-err c = (refl, unbound_stop (tag_seen c.args.tag.now) (reverse c.args.scope.now) c.args.place.ended c.args.place.depth (search rules))

pub returns-then-branch-clause-err : goal.returns-then-branch-clause-err
returns-then-branch-clause-err c = (refl, duplicate_stop (tag_seen c.args.tag.now) (reverse c.args.scope.now) c.args.place.ended c.args.place.depth (search rules) (search rules))

pub returns-in_err-check_place-clause-err : goal.returns-in_err-check_place-clause-err
returns-in_err-check_place-clause-err c =
    let p = err_from_is_err_and c.from_residual-in_err-check_place.result c.from_residual-in_err-check_place.ensures.1 in
    rw (p.1, p.2) (subst (λ (o : Option DocWhy). Stopped o c.args.place.at c.in_err-check_place.field-0.0) (sym (behind_inner (tag_seen c.args.tag.now) (reverse c.args.scope.now) c.args.place.ended c.args.place.depth (search rules) (search rules))) c.in_err-check_place.ensures.err)

pub returns-clause-none : goal.returns-clause-none
returns-clause-none c = behind_inner (tag_seen c.args.tag.now) (reverse c.args.scope.now) c.args.place.ended c.args.place.depth (search rules) (search rules) ∙ c.in_ok-check_place.ensures.ok
