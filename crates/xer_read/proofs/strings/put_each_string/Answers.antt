use Rattle.std.proofs.Common.{sym, ◌∙◌, ap, map, false}
use Rattle.xml_items.specs.Seen.{item_seen}
use Rattle.base_trees.specs.Rose.{roses_of}
use Rattle.base_flat_trees.specs.Zips.{added_all}
use Rattle.value_builder.specs.Built.{Puts}
use Rattle.validity_check.proofs.Counting.{on-ok}
use Rattle.xer_read.specs.Private.Keeping.{text_value, missing, strings_from}
use Rattle.xer_read.proofs.Mixing.{text-put, missing-put, all-put}
use Rattle.xer_read.proofs.strings.put_each_string.Goals as goal

pub loop-kid-preserved-in-Text : goal.loop-kid-preserved-in-Text
loop-kid-preserved-in-Text c =
    text-put (roses_of c.args.kids.now) c.loop-kid.has_text c.loop-kid.kid-iterator c.in-Some.kid c.next.new.self c.in-Text.text c.in-Text.at c.args.values.now c.loop-kid.values c.put_string.new.values
    c.in-Some.ensures.steps (sym c.label.ensures ∙ ap item_seen c.in-Text.is) c.loop-kid.invariant c.in_ok-put_string-in-Text.ensures

pub loop-kid-preserved : goal.loop-kid-preserved
loop-kid-preserved c =
    missing-put (roses_of c.args.kids.now) c.loop-kid.has_text c.loop-kid.kid-iterator c.in-Some.kid c.next.new.self c.in-Element.name.now c.in-Element.attributes.now c.in-Element.declares.now c.in-Element.at c.args.values.now
    c.loop-kid.values c.put_missing.new.values c.in-Some.ensures.steps (sym c.label.ensures ∙ ap item_seen c.in-Element.is) c.loop-kid.invariant c.in_ok-put_missing-in-Element.ensures

pub returns : goal.returns
returns c =
    let all = roses_of c.args.kids.now in
    let has_text = c.loop-kid.has_text in
    on-ok c.put_missing-2.result (Puts (added_all (map text_value (missing has_text))) c.loop-kid.values c.put_missing-2.new.values)
    (Puts (added_all (map text_value (strings_from false all))) c.args.values.now c.put_missing-2.new.values)
    (all-put all has_text c.loop-kid.kid-iterator c.args.values.now c.loop-kid.values c.put_missing-2.new.values c.in-None.ensures.steps.0 c.loop-kid.invariant) c.put_missing-2.ensures
