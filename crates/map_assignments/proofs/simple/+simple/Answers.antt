use Rattle.std.proofs.Common.{ap, refl, sym, subst, ◌∙◌, [], arith, codes, false, IfOk}
use Rattle.base_trees.specs.Rose.{node, roses_of}
use Rattle.simple_types.specs.Sound.{Sound}
use Rattle.simple_types.specs.Space.{count_parts}
use Rattle.simple_types.specs.Seen.{space_of}
use Rattle.simple_types.proofs.Seen.{union_is}
use Rattle.simple_types.proofs.Members.{part_member, member_sound}
use Rattle.asn_types.specs.declared.types.Form.TheVariants as form
use Rattle.map_assignments.specs.Naming.{type_label, IsSimpleType}
use Rattle.map_assignments.proofs.Building.{adds-same}
use Rattle.map_assignments.proofs.Members.{members-next, members-end}
use Rattle.map_assignments.proofs.simple.+simple.Goals as goal

pub simple_type-union_type-requires : goal.simple_type-union_type-requires
simple_type-union_type-requires t c =
    let is = union_is c.args.simple.now c.in-Union.members c.items.result.now c.in-Union.is c.items.ensures in
    let fewer = ap count_parts is in
    let d = c.decreases in
    let sound = subst Sound is c.requires in
    (omega (arith, d, fewer), sound.1)

pub simple_type-returns-in-Union : goal.simple_type-returns-in-Union
simple_type-returns-in-Union t c =
    let is = union_is c.args.simple.now c.in-Union.members c.items.result.now c.in-Union.is c.items.ensures in
    subst (λ s. IfOk c.union_type.result (λ made. IsSimpleType s made)) (sym is) c.union_type.ensures

pub push_members-simple_type-requires : goal.push_members-simple_type-requires
push_members-simple_type-requires t c =
    let members = c.args.members.now in
    let i = c.members.member-index in
    let member = c.member-item.result in
    let part = part_member members i member c.members-test.true in
    let same = ap (λ m. count_parts (space_of m)) c.member-item.is in
    let d = c.decreases in
    (omega (arith, d, part, same), subst (λ m. Sound (space_of m)) (sym c.member-item.is) (member_sound members i member c.requires.sound c.members-test.true))

pub push_members-members-preserved : goal.push_members-members-preserved
push_members-members-preserved t c =
    let after = c.push_marked.new.self in
    let more = adds-same c.members.parts after (codes "alt") (codes "alt") c.of.result [] false c.in_ok-kid.kid refl (c.of.ensures ∙ c.new.ensures.items) c.in_ok-push_marked.ensures in
    members-next c.args.members.now c.members.member-index c.member-item.result c.members.parts.scope after.scope
    c.members.parts.components.items after.components.items c.members.parts.kids.items after.kids.items more.identifier c.in_ok-kid.kid
    c.members-test.true c.member-item.is more.taken more.noted more.component more.kid_added c.in_ok-kid.ensures
    c.members.invariant

pub push_members-returns : goal.push_members-returns
push_members-returns t c =
    members-end c.args.members.now c.members.member-index c.members.parts.scope c.members.parts.components.items c.members.parts.kids.items c.members-test.false c.members.invariant

pub union_type-returns : goal.union_type-returns
union_type-returns t c =
    let parts = c.push_members.new.parts in (
      parts.components.items,
      roses_of parts.kids.items,
      c.into_choice.ensures ∙ ap (λ m. node (type_label (form.Choice parts.components.items) m) (roses_of parts.kids.items)) c.in_ok-marks.ensures,
      c.in_ok-push_members.ensures,
    )
