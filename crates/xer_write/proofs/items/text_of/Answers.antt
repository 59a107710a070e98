use Rattle.std.proofs.Common.{refl, ap, subst}
use Rattle.std.specs.Option.{option_map}
use Rattle.xml_write.proofs.Written.{reads_back, vec_short}
use Rattle.xml_items.specs.Unplaced.{unplaced}
use Rattle.asn_types.specs.declared.modules.Assignment.{Assignment}
use Rattle.xer_items.specs.Items.{root_of}
use Rattle.xer_write.specs.Private.Receiving.{name_seen, IsWholeOf}
use Rattle.xer_write.proofs.Giving.{body-in}
use Rattle.xer_write.proofs.Limits.{root-items, text-told}
use Rattle.xer_write.proofs.items.text_of.Goals as goal

pub told-requires : goal.told-requires
told-requires c =
    let a = c.assignment-assignment in
    body-in c.args.module.now c.args.t a.result.now a.ensures.module a.ensures.assignment

pub returns-in-Some : goal.returns-in-Some
returns-in-Some c =
    let m = c.args.module.now in
    let v = c.args.value.now in
    let a = c.assignment-assignment in
    let root = root_of m a.result.now v in
    let text = c.in-Some.text in
    let all = text-told m a.result.now v c.in_ok-receiver.receiver c.in_ok-out.out.receiver (name_seen c.of_assignment.result) text c.in_ok-receiver.ensures c.in_ok-out.ensures.0 c.of_assignment.ensures
    (subst (IsWholeOf c.in_ok-out.out.receiver (name_seen c.of_assignment.result)) c.in-Some.is c.in_ok-text.ensures) in
    let items = root-items m c.args.t a.result.now v a.ensures.assignment c.requires.value c.requires.sound c.in_ok-out.ensures.1 in
    (root, ap (option_map (λ (x : Assignment). root_of m x v)) a.ensures.assignment, all, reads_back (unplaced root) (unplaced root) text.items refl items all (vec_short text))
