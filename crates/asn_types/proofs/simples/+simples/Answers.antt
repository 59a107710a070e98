use Rattle.std.specs.Prelude.{slice_get, MatchOption}
use Rattle.std.proofs.lemmas.Bool.Decides.{nat_tests}
use Rattle.std.proofs.Common.{◌≡◌, ◌<◌, length, take, sym, ap, ◌∙◌, subst, arith, [], ◌∷◌, ◌++◌, ◌+◌}
use Rattle.base_trees.specs.Rose.{roses_of, kids_of}
use Rattle.base_trees.proofs.Roses.{node_count-kids}
use Rattle.base_trees.proofs.Kids.{kid-count-le, take-more_kid}
use Rattle.simple_types.specs.Space.{Spaces, ListOf, UnionOf}
use Rattle.simple_types.specs.Seen.{space_of, spaces_in}
use Rattle.simple_types.specs.Sound.{Sound, AreSound, has_list, is_union}
use Rattle.simple_types.proofs.Seen.{union_space, list_space}
use Rattle.asn_types.specs.Modules.{IsForm}
use Rattle.asn_types.specs.Simples.{counting, MapsTo, MapToEach}
use Rattle.asn_types.specs.Private.Telling.{Finds}
use Rattle.asn_types.proofs.Inside.{kid-well_formed, kids-well_formed, form-well_formed}
use Rattle.asn_types.proofs.SimpleLaws.{maps_once}
use Rattle.asn_types.proofs.Simpling.{member_at, members-push, count-maps, union-of, union-maps, list-of, list-maps, same_some, true_is_false, not_found}
use Rattle.asn_types.proofs.simples.+simples.Goals.{union_at-then-is_empty-via-then-is_empty, union_at-then-is_empty-via-else-is_empty+then-kids}
use Rattle.asn_types.proofs.simples.+simples.Goals as goal

pub list_at-returns-then-has_list : goal.list_at-returns-then-has_list
list_at-returns-then-has_list t c simple =
    let known = list-of c.args.node.now c.args.part.now c.args.bounds.min c.args.bounds.max c.requires.list simple in
    let kid = c.in-Some.kid.now in
    let same = same_some known.first kid (sym known.is_first ∙ ap (λ ks. slice_get ks 0) (sym c.kids.ensures) ∙ sym c.in-Some.ensures.value) in
    let found = subst (λ o. Finds o kid) c.in-Some-2.is c.in_ok-item.ensures in
    let one = maps_once known.item (space_of c.in-Some-2.item) kid (subst (MapsTo known.item) same known.maps) found.1 in
    true_is_false (sym c.if-has_list.true ∙ c.has_list.ensures ∙ ap has_list (sym one) ∙ known.sound.1)

pub list_at-returns : goal.list_at-returns
list_at-returns t c =
    let node = c.args.node.now in
    let kid = c.in-Some.kid.now in
    let item = space_of c.in-Some-2.item in
    let found = subst (λ o. Finds o kid) c.in-Some-2.is c.in_ok-item.ensures in
    let form = subst (IsForm c.args.module.now) c.requires.list (form-well_formed c.args.module.now node c.requires.sound) in
    let marks = ap (λ l. counting l.marks) (sym c.label.ensures) ∙ c.tell_list.ensures.0 c.if-not-tell_list.false in
    let first = ap (λ ks. slice_get ks 0) (sym c.kids.ensures) ∙ sym c.in-Some.ensures.value in
    let maps = list-maps node c.args.part.now c.args.bounds.min c.args.bounds.max item kid c.requires.list marks (c.is_always_there.ensures.0 c.if-not-is_always_there.false) first found.1 in
    let is = list_space c.in_ok-item-2.item c.args.bounds.min c.args.bounds.max ∙ ap (λ s. ListOf (space_of s) c.args.bounds.min c.args.bounds.max) c.in_ok-item-2.ensures.ok in
    subst (λ s. Sound s × MapsTo s node) (sym is) ((found.0, sym c.has_list.ensures ∙ c.if-has_list.false, form), maps)

pub members_at-find_simple-requires : goal.members_at-find_simple-requires
members_at-find_simple-requires t c =
    let d = c.decreases in
    let k = kid-count-le c.args.kids.now c.kids.kid-index c.kid-item.result c.kids-test.true c.kid-item.is in
    (omega (arith, d, k), kid-well_formed c.args.module.now c.args.kids.now c.kids.kid-index c.kid-item.result c.kids-test.true c.kid-item.is c.requires)

pub members_at-returns-in_default : goal.members_at-returns-in_default
members_at-returns-in_default t c ss sound maps =
    let member = member_at ss c.args.kids.now c.kids.kid-index c.kid-item.result c.kids-test.true c.kid-item.is sound maps in
    not_found c.in_ok-member.field-0 c.kid-item.result c.in_default.not-Some c.in_ok-member.ensures (member.space, member.sound, member.maps)

pub members_at-returns-then-is_union : goal.members_at-returns-then-is_union
members_at-returns-then-is_union t c ss sound maps =
    let member = member_at ss c.args.kids.now c.kids.kid-index c.kid-item.result c.kids-test.true c.kid-item.is sound maps in
    let found = subst (λ o. Finds o c.kid-item.result) c.in-Some.is c.in_ok-member.ensures in
    let one = maps_once member.space (space_of c.in-Some.member) c.kid-item.result member.maps found.1 in
    true_is_false (sym c.if-is_union.true ∙ c.is_union.ensures ∙ ap is_union (sym one) ∙ member.alone)

pub members_at-kids-preserved : goal.members_at-kids-preserved
members_at-kids-preserved t c =
    let kids = c.args.kids.now in
    let i = c.kids.kid-index in
    let kid = c.kid-item.result in
    let found = subst (λ o. Finds o kid) c.in-Some.is c.in_ok-member.ensures in
    let more = members-push c.kids.members.items (take i kids) c.in-Some.member kid c.kids.invariant.0 c.kids.invariant.1 found.0 (sym c.is_union.ensures ∙ c.if-is_union.false) found.1 in
    let fronts = take-more_kid kids i kid c.kids-test.true c.kid-item.is in
    subst (λ ms. AreSound (spaces_in ms) × MapToEach (spaces_in ms) (roses_of (take (i + 1) kids))) (sym c.in_ok-push.ensures.items)
    (more.0, subst (λ ts. MapToEach (spaces_in (c.kids.members.items ++ c.in-Some.member ∷ [])) (roses_of ts)) (sym fronts) more.1)

pub union_at-returns-then-is_empty : goal.union_at-returns-then-is_empty
union_at-returns-then-is_empty t c simple =
    let known = union-of c.args.node.now c.args.parts.now c.requires.choice simple in
    let counted = count-maps known.members (kids_of c.args.node.now) known.maps in
    let some = known.sound.0.0 in
    let few = known.sound.0.1 in
    let same = ap length c.kids-kids.ensures in
    elim c.then-is_empty.branch [
      | union_at-then-is_empty-via-then-is_empty w ↦
          let none : length c.kids-kids.result.now ≡ 0 = grind (arith, nat_tests, c.is_empty.ensures, w.if-is_empty.true) in
          absurd (omega (arith, counted, some, same, none))
      | union_at-then-is_empty-via-else-is_empty+then-kids w ↦ absurd (omega (arith, counted, few, same, w.if-kids.true))
    ]

pub union_at-members_at-requires : goal.union_at-members_at-requires
union_at-members_at-requires t c =
    let d = c.decreases in
    let k = node_count-kids c.args.node.now in
    (rw c.kids-kids.ensures (omega (arith, d, k)), rw c.kids-kids.ensures (kids-well_formed c.args.module.now c.args.node.now c.requires.sound))

pub union_at-returns-in-Some : goal.union_at-returns-in-Some
union_at-returns-in-Some t c =
    let node = c.args.node.now in
    let kids = c.kids-kids.result.now in
    let members = c.in-Some.members.items in
    let found = subst (λ o. MatchOption o ((ss : Spaces) → AreSound ss → MapToEach ss (roses_of kids) → ⊥) (λ v. AreSound (spaces_in v.items) × MapToEach (spaces_in v.items) (roses_of kids))) c.in-Some.is c.in_ok-members.ensures in
    let counted = count-maps (spaces_in members) kids found.1 in
    let some : 0 < length kids = grind (arith, nat_tests, c.is_empty.ensures, c.if-is_empty.false) in
    let marks = ap (λ l. counting l.marks) (sym c.label.ensures) ∙ c.tell_use_union.ensures.0 c.if-not-tell_use_union.false in
    let plain = c.are_always_there.ensures.0 c.if-not-are_always_there.false in
    let maps = union-maps node c.args.parts.now (spaces_in members) c.requires.choice marks plain (subst (λ ks. MapToEach (spaces_in members) (roses_of ks)) c.kids-kids.ensures found.1) in
    let is = union_space c.of.result ∙ ap UnionOf c.of.ensures in
    subst (λ s. Sound s × MapsTo s node) (sym is) (((omega (arith, counted, some), omega (arith, counted, c.if-kids.false)), found.0), maps)

pub union_at-returns-in-None : goal.union_at-returns-in-None
union_at-returns-in-None t c simple =
    let known = union-of c.args.node.now c.args.parts.now c.requires.choice simple in
    let kids = c.kids-kids.result.now in
    let none = subst (λ o. MatchOption o ((ss : Spaces) → AreSound ss → MapToEach ss (roses_of kids) → ⊥) (λ v. AreSound (spaces_in v.items) × MapToEach (spaces_in v.items) (roses_of kids))) c.in-None.is c.in_ok-members.ensures in
    none known.members known.sound.1 (subst (λ ks. MapToEach known.members (roses_of ks)) (sym c.kids-kids.ensures) known.maps)
