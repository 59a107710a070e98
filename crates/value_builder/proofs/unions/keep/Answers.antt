use Rattle.std.proofs.Common.{subst, sym}
use Rattle.simple_types.specs.Seen.{space_of}
use Rattle.simple_types.specs.Sound.{Sound}
use Rattle.simple_types.proofs.Seen.{list_is}
use Rattle.simple_types.proofs.OwnSpellings.{holds_again}
use Rattle.value_builder.proofs.unions.keep.Goals as goal

pub keep_list-requires : goal.keep_list-requires
keep_list-requires c =
    let is = list_is c.args.member.now c.in-List.item c.in-List.min c.in-List.max c.deref.result.now c.in-List.is c.deref.ensures in
    let known = subst Sound is c.requires in
    known.0

pub spell-requires : goal.spell-requires
spell-requires c = record { sound = c.requires; holds = rw c.root.ensures (holds_again (space_of c.args.member.now) c.requires _ c.in_ok-value-in_default.value c.in_ok-value-in_default.ensures) }

pub returns-in-List : goal.returns-in-List
returns-in-List c =
    let is = list_is c.args.member.now c.in-List.item c.in-List.min c.in-List.max c.deref.result.now c.in-List.is c.deref.ensures in
    rw (is, sym c.as_str.ensures) c.keep_list.ensures
