use Rattle.std.proofs.Common.{subst, sym}
use Rattle.simple_types.specs.Sound.{Sound}
use Rattle.simple_types.proofs.Seen.{list_is, union_is}
use Rattle.simple_types.proofs.Readings.{reads-Chars}
use Rattle.value_builder.proofs.counting.count.Goals as goal

pub count_list-requires : goal.count_list-requires
count_list-requires c =
    let is = list_is c.args.simple.now c.in-List.item c.in-List.min c.in-List.max c.deref.result.now c.in-List.is c.deref.ensures in
    let known = subst Sound is c.requires in
    known.0

pub count_union-requires : goal.count_union-requires
count_union-requires c =
    let is = union_is c.args.simple.now c.in-Union.members c.items.result.now c.in-Union.is c.items.ensures in
    let known = subst Sound is c.requires in
    known.1

pub returns-in-List : goal.returns-in-List
returns-in-List c =
    let is = list_is c.args.simple.now c.in-List.item c.in-List.min c.in-List.max c.deref.result.now c.in-List.is c.deref.ensures in
    rw (is, sym c.as_str.ensures) c.count_list.ensures

pub returns-in-Union : goal.returns-in-Union
returns-in-Union c =
    let is = union_is c.args.simple.now c.in-Union.members c.items.result.now c.in-Union.is c.items.ensures in
    rw is c.count_union.ensures

pub returns-in-Chars : goal.returns-in-Chars
returns-in-Chars c =
    let reads = reads-Chars c.args.simple.now c.args.text.now c.in-Chars.space c.in-Chars.min c.in-Chars.max c.in-Chars.class c.in-Chars.is in
    rw (reads, c.is_treated.ensures.0 c.if-is_treated.true) c.count_text.ensures
