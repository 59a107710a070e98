use Rattle.std.proofs.Common.{◌≡◌, ◌-◌, Some, length, rules}
use Rattle.std.specs.Prelude.{slice_get}
use Rattle.xml_read.specs.Private.States.{context}
use Rattle.xml_read.specs.Private.Building.{state}
use Rattle.xml_read.proofs.KnownTags.{innermost_here, some_end}
use Rattle.xml_read.proofs.builder.Builder.past_end.Goals as goal

pub returns-in-Some : goal.returns-in-Some
returns-in-Some c =
    let old = c.args.self.now in
    let last : slice_get old.open.items (length old.open.items - 1) ≡ Some c.in-Some.innermost.now = search rules in
    some_end c.past_tag.result c.args.written.now c.in-Some.innermost.now.now (context (state old)) (innermost_here old c.in-Some.innermost.now last) c.past_tag.ensures
