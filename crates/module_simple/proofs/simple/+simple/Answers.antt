use Rattle.std.proofs.Common.{◌≡◌, ◌+◌, true, false, not, ◌&&◌, Some, None, List, length, drop, sym, ap, ◌∙◌, subst, arith}
use Rattle.std.specs.Prelude.{IfOk, MatchOption}
use Rattle.base_trees.specs.Rose.{roses_of, label_of, kids_of}
use Rattle.base_trees.proofs.Roses.{node_count-kids}
use Rattle.base_trees.proofs.Kids.{kid-count-le}
use Rattle.simple_types.specs.declared.simples.Simple.{Simple}
use Rattle.simple_types.specs.Seen.{space_of, spaces_in}
use Rattle.simple_types.specs.Sound.{AreSound}
use Rattle.module_text.specs.declared.types.PlainForm.TheVariants as form
use Rattle.module_text.specs.declared.spots.Spot.TheVariants.{Elsewhere}
use Rattle.module_text.specs.Told.{told_alone, is_union_alone, is_list_alone, have_names_alone, sizes_of}
use Rattle.module_text.specs.Simple.{if_so, is_counted, are_plain, union_space, list_space, item_spot, simple_told, members_told, item_told}
use Rattle.module_simple.specs.Made.{Makes, AreMade}
use Rattle.module_simple.proofs.Telling.{told-is, with_those, sound-push, members-push, members-none, members-union}
use Rattle.module_simple.proofs.Making.{first-count, made_none, absent, those-end, union-none, union-few, union-made, item-first, item-none, list-not, list-made}
use Rattle.module_simple.proofs.simple.+simple.Goals as goal

pub members_told-simple_told-requires : goal.members_told-simple_told-requires
members_told-simple_told-requires t c =
    let d = c.decreases in
    let k = kid-count-le c.args.kids.now c.kids.kid-index c.kid-item.result c.kids-test.true c.kid-item.is in
    (omega (arith, d, k), tt)

pub members_told-returns-in_default : goal.members_told-returns-in_default
members_told-returns-in_default t c =
    let none = made_none c.in_ok-member.field-0 (simple_told Elsewhere c.kid-item.result) c.in_default.not-Some c.in_ok-member.ensures in
    members-none c.args.kids.now c.kids.kid-index c.kid-item.result c.kids-test.true c.kid-item.is c.kids.members.items (members_told (roses_of c.args.kids.now)) none c.kids.invariant.0

pub members_told-returns-then-is_union : goal.members_told-returns-then-is_union
members_told-returns-then-is_union t c =
    let made = subst (λ o. Makes o (simple_told Elsewhere c.kid-item.result)) c.in-Some.is c.in_ok-member.ensures in
    members-union c.args.kids.now c.kids.kid-index c.kid-item.result c.kids-test.true c.kid-item.is c.kids.members.items c.in-Some.member (members_told (roses_of c.args.kids.now)) made.0 (sym c.is_union.ensures ∙ c.if-is_union.true) c.kids.invariant.0

pub members_told-kids-preserved : goal.members_told-kids-preserved
members_told-kids-preserved t c =
    let kids = c.args.kids.now in
    let i = c.kids.kid-index in
    let ms = c.kids.members.items in
    let made = subst (λ o. Makes o (simple_told Elsewhere c.kid-item.result)) c.in-Some.is c.in_ok-member.ensures in
    let plain = sym c.is_union.ensures ∙ c.if-is_union.false in
    subst (λ (xs : List Simple). (with_those xs (members_told (roses_of (drop (i + 1) kids))) ≡ members_told (roses_of kids)) × AreSound (spaces_in xs)) (sym c.in_ok-push.ensures.items)
    (members-push kids i c.kid-item.result c.kids-test.true c.kid-item.is ms c.in-Some.member (members_told (roses_of kids)) made.0 plain c.kids.invariant.0, sound-push ms c.in-Some.member c.kids.invariant.1 made.1 plain)

pub members_told-returns : goal.members_told-returns
members_told-returns t c =
    (those-end c.kids.members.items c.args.kids.now c.kids.kid-index (members_told (roses_of c.args.kids.now)) c.kids-test.false c.kids.invariant.0, c.kids.invariant.1)

pub union_simple-returns-in_default : goal.union_simple-returns-in_default
union_simple-returns-in_default t c =
    union-none (members_told (roses_of c.args.kids.now)) (absent c.in_ok-members.field-0 _ _ c.in_default.not-Some c.in_ok-members.ensures)

pub union_simple-returns-then-not-is_counted : goal.union_simple-returns-then-not-is_counted
union_simple-returns-then-not-is_counted t c =
    let due = members_told (roses_of c.args.kids.now) in
    let made = subst (λ o. MatchOption o (due ≡ None) (λ v. AreMade due v.items)) c.in-Some.is c.in_ok-members.ensures in
    let few = ap (λ (xs : List Simple). is_counted (length xs)) (sym c.as_slice-listed.ensures.value) ∙ sym c.is_counted.ensures ∙ c.if-not-is_counted.true in
    union-few due c.in-Some.members.items made few

pub union_simple-returns : goal.union_simple-returns
union_simple-returns t c =
    let due = members_told (roses_of c.args.kids.now) in
    let made = subst (λ o. MatchOption o (due ≡ None) (λ v. AreMade due v.items)) c.in-Some.is c.in_ok-members.ensures in
    let counted = ap (λ (xs : List Simple). is_counted (length xs)) (sym c.as_slice-listed.ensures.value) ∙ sym c.is_counted.ensures ∙ c.if-not-is_counted.false in
    union-made due c.in-Some.members.items made c.of.result c.of.ensures counted

pub item_told-returns-in-Some : goal.item_told-returns-in-Some
item_told-returns-in-Some t c =
    subst (λ due. IfOk c.simple_told.result (λ found. Makes found due)) (item-first c.args.spot c.args.kids.now c.in-Some.kid.now c.in-Some.ensures.value) c.simple_told.ensures

pub item_told-returns-in-None : goal.item_told-returns-in-None
item_told-returns-in-None t c = item-none c.args.spot c.args.kids.now c.in-None.ensures.value

pub item_told-simple_told-requires : goal.item_told-simple_told-requires
item_told-simple_told-requires t c =
    let d = c.decreases in
    let k = first-count c.args.kids.now c.in-Some.kid.now c.in-Some.ensures.value in
    (omega (arith, d, k), tt)

pub list_simple-returns-then-not-may_be_listed : goal.list_simple-returns-then-not-may_be_listed
list_simple-returns-then-not-may_be_listed t c =
    let made = subst (λ o. Makes o (item_told c.args.spot (roses_of c.args.kids.now))) c.in-Some-2.is c.in_ok-item.ensures in
    list-not (item_told c.args.spot (roses_of c.args.kids.now)) (sizes_of c.args.size.now) c.in-Some.sizes c.in-Some-2.item (sym c.sizes_of.ensures ∙ c.in-Some.is) made (sym c.may_be_listed.ensures ∙ c.if-not-may_be_listed.true)

pub list_simple-returns : goal.list_simple-returns
list_simple-returns t c =
    let made = subst (λ o. Makes o (item_told c.args.spot (roses_of c.args.kids.now))) c.in-Some-2.is c.in_ok-item.ensures in
    list-made (item_told c.args.spot (roses_of c.args.kids.now)) (sizes_of c.args.size.now) c.in-Some.sizes c.in-Some-2.item (sym c.sizes_of.ensures ∙ c.in-Some.is) made c.in_ok-item-2.item c.in_ok-item-2.ensures.ok (sym c.may_be_listed.ensures ∙ c.if-not-may_be_listed.false)

pub simple_told-union_simple-requires : goal.simple_told-union_simple-requires
simple_told-union_simple-requires t c =
    let d = c.decreases in
    let k = node_count-kids c.args.node.now in
    (rw c.kids.ensures (omega (arith, d, k)), tt)

pub simple_told-list_simple-requires : goal.simple_told-list_simple-requires
simple_told-list_simple-requires t c =
    let d = c.decreases in
    let k = node_count-kids c.args.node.now in
    (rw c.kids-in-SequenceOf.ensures (omega (arith, d, k)), tt)

pub simple_told-returns-in-Bool : goal.simple_told-returns-in-Bool
simple_told-returns-in-Bool t c =
    let is = told-is c.args.spot c.args.node.now form.Bool (ap (λ l. l.form) (sym c.label-label.ensures) ∙ c.in-Bool.is) in
    let alone_is = c.told_alone-alone.ensures ∙ ap told_alone (c.items-marks.ensures ∙ ap (λ l. l.marks) c.label-label.ensures) in
    rw (is, sym alone_is) c.boolean_simple.ensures

pub simple_told-returns-in-Int : goal.simple_told-returns-in-Int
simple_told-returns-in-Int t c =
    let is = told-is c.args.spot c.args.node.now (form.Int c.in-Int.range) (ap (λ l. l.form) (sym c.label-label.ensures) ∙ c.in-Int.is) in
    let alone_is = c.told_alone-alone.ensures ∙ ap told_alone (c.items-marks.ensures ∙ ap (λ l. l.marks) c.label-label.ensures) in
    rw (is, sym alone_is) c.whole_alone.ensures

pub simple_told-returns-in-Numbers : goal.simple_told-returns-in-Numbers
simple_told-returns-in-Numbers t c =
    let is = told-is c.args.spot c.args.node.now (form.Numbers c.in-Numbers.items) (ap (λ l. l.form) (sym c.label-label.ensures) ∙ c.in-Numbers.is) in
    let alone_is = c.told_alone-alone.ensures ∙ ap told_alone (c.items-marks.ensures ∙ ap (λ l. l.marks) c.label-label.ensures) in
    rw (is, sym alone_is, sym c.items.ensures) c.numbers_alone.ensures

pub simple_told-returns-in-Words : goal.simple_told-returns-in-Words
simple_told-returns-in-Words t c =
    let is = told-is c.args.spot c.args.node.now (form.Words c.in-Words.identifiers) (ap (λ l. l.form) (sym c.label-label.ensures) ∙ c.in-Words.is) in
    let marks_is = c.items-marks.ensures ∙ ap (λ l. l.marks) c.label-label.ensures in
    let alone_is = c.told_alone-alone.ensures ∙ ap told_alone marks_is in
    rw (is, sym alone_is, sym c.white_space_alone-space.ensures, sym marks_is, sym c.items-in-Words.ensures) c.words_elsewhere.ensures

pub simple_told-returns-in-Utf8 : goal.simple_told-returns-in-Utf8
simple_told-returns-in-Utf8 t c =
    let is = told-is c.args.spot c.args.node.now (form.Utf8 c.in-Utf8.size c.in-Utf8.class) (ap (λ l. l.form) (sym c.label-label.ensures) ∙ c.in-Utf8.is) in
    let alone_is = c.told_alone-alone.ensures ∙ ap told_alone (c.items-marks.ensures ∙ ap (λ l. l.marks) c.label-label.ensures) in
    rw (is, sym alone_is, sym c.white_space_alone.ensures) c.text_simple.ensures

pub simple_told-returns-in-Sequence : goal.simple_told-returns-in-Sequence
simple_told-returns-in-Sequence t c = (told-is c.args.spot c.args.node.now (form.Sequence c.in-Sequence.parts) (ap (λ l. l.form) (sym c.label-label.ensures) ∙ c.in-Sequence.is), tt)

pub simple_told-returns-in-Ref : goal.simple_told-returns-in-Ref
simple_told-returns-in-Ref t c = (told-is c.args.spot c.args.node.now (form.Ref c.in-Ref.reference) (ap (λ l. l.form) (sym c.label-label.ensures) ∙ c.in-Ref.is), tt)

pub simple_told-returns-then-not-is_plain_union : goal.simple_told-returns-then-not-is_plain_union
simple_told-returns-then-not-is_plain_union t c =
    let node = c.args.node.now in
    let parts = c.in-Choice.parts in
    let is = told-is c.args.spot node (form.Choice parts) (ap (λ l. l.form) (sym c.label-label.ensures) ∙ c.in-Choice.is) in
    let alone_is = c.told_alone-alone.ensures ∙ ap told_alone (c.items-marks.ensures ∙ ap (λ l. l.marks) c.label-label.ensures) in
    let test = ap (λ a. is_union_alone a && are_plain parts) (sym alone_is) ∙ ap (λ ps. is_union_alone c.told_alone-alone.result && are_plain ps) (sym c.items-in-Choice.ensures)
    ∙ sym c.is_plain_union.ensures ∙ c.if-not-is_plain_union.true in
    (is ∙ ap (λ b. if_so b (union_space (members_told (roses_of (kids_of node))))) test, tt)

pub simple_told-returns-else-not-is_plain_union : goal.simple_told-returns-else-not-is_plain_union
simple_told-returns-else-not-is_plain_union t c =
    let node = c.args.node.now in
    let parts = c.in-Choice.parts in
    let is = told-is c.args.spot node (form.Choice parts) (ap (λ l. l.form) (sym c.label-label.ensures) ∙ c.in-Choice.is) in
    let alone_is = c.told_alone-alone.ensures ∙ ap told_alone (c.items-marks.ensures ∙ ap (λ l. l.marks) c.label-label.ensures) in
    let test = ap (λ a. is_union_alone a && are_plain parts) (sym alone_is) ∙ ap (λ ps. is_union_alone c.told_alone-alone.result && are_plain ps) (sym c.items-in-Choice.ensures)
    ∙ sym c.is_plain_union.ensures ∙ c.if-not-is_plain_union.false in
    rw (is, test, sym c.kids.ensures) c.union_simple.ensures

pub simple_told-returns-then-not-is_plain_list : goal.simple_told-returns-then-not-is_plain_list
simple_told-returns-then-not-is_plain_list t c =
    let node = c.args.node.now in
    let size = c.in-SequenceOf.size in
    let part = c.in-SequenceOf.part in
    let is = told-is c.args.spot node (form.SequenceOf size part) (ap (λ l. l.form) (sym c.label-label.ensures) ∙ c.in-SequenceOf.is) in
    let alone_is = c.told_alone-alone.ensures ∙ ap told_alone (c.items-marks.ensures ∙ ap (λ l. l.marks) c.label-label.ensures) in
    let test = ap (λ a. is_list_alone a && have_names_alone part.marks) (sym alone_is) ∙ sym c.is_plain_list.ensures ∙ c.if-not-is_plain_list.true in
    (is ∙ ap (λ b. if_so b (list_space (sizes_of size) (item_told (item_spot c.args.spot) (roses_of (kids_of node))))) test, tt)

pub simple_told-returns-else-not-is_plain_list : goal.simple_told-returns-else-not-is_plain_list
simple_told-returns-else-not-is_plain_list t c =
    let node = c.args.node.now in
    let size = c.in-SequenceOf.size in
    let part = c.in-SequenceOf.part in
    let is = told-is c.args.spot node (form.SequenceOf size part) (ap (λ l. l.form) (sym c.label-label.ensures) ∙ c.in-SequenceOf.is) in
    let alone_is = c.told_alone-alone.ensures ∙ ap told_alone (c.items-marks.ensures ∙ ap (λ l. l.marks) c.label-label.ensures) in
    let test = ap (λ a. is_list_alone a && have_names_alone part.marks) (sym alone_is) ∙ sym c.is_plain_list.ensures ∙ c.if-not-is_plain_list.false in
    rw (is, test, sym c.item_spot.ensures, sym c.kids-in-SequenceOf.ensures) c.list_simple.ensures
