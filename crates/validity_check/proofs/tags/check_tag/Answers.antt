use Rattle.std.proofs.Common.{rules, map, ap}
use Rattle.schema_components.specs.SetParts.{parts_of}
use Rattle.validity_rules.specs.Asked.{attribute_in}
use Rattle.validity_rules.specs.Attributes.{left, OneMissing, AllStand}
use Rattle.validity_check.specs.Told.{told}
use Rattle.validity_check.proofs.Tagging.{bare, one_missing_left, all_stand_left}
use Rattle.validity_check.proofs.tags.check_tag.Goals as goal

pub returns-then-is_bare : goal.returns-then-is_bare
returns-then-is_bare c =
    bare (told (parts_of c.args.set.now) c.args.declared.now) (ap (map (attribute_in (parts_of c.args.set.now))) (c.is_bare.ensures.uses c.if-is_bare.true)) c.args.attributes.now
    (c.is_bare.ensures.attributes c.if-is_bare.true)

pub returns-then-judged : goal.returns-then-judged
returns-then-judged c =
    let s = c.args.set.now in
    let us = c.args.declared.now.uses.list.now in
    let missing : OneMissing (map (attribute_in (parts_of s)) us) (left c.args.attributes.now) =
    one_missing_left s (parts_of s) c.args.attributes.now us c.requires.uses (c.in_ok-judged.ensures.lacks c.if-judged.true (parts_of s)) in
    search (rules, missing)

pub returns : goal.returns
returns c =
    let s = c.args.set.now in
    let us = c.args.declared.now.uses.list.now in
    let stand : AllStand (map (attribute_in (parts_of s)) us) (left c.args.attributes.now) =
    all_stand_left s (parts_of s) c.args.attributes.now us c.requires.uses (c.in_ok-judged.ensures.stand c.if-judged.false (parts_of s)) in
    search (rules, stand)
