use Rattle.std.proofs.Common.{string_bytes, rules}
use Rattle.people_complaints.proofs.Told.{composed}
use Rattle.people_complaints.proofs.composing.compose.Goals as goal

pub returns : goal.returns
returns c =
    let place = string_bytes c.in_ok-place.place.text in
    let excerpt = string_bytes c.in_ok-place.place.excerpt in
    let within = string_bytes c.in_ok-within.within in
    composed c.args.outcome c.args.about.name.now c.args.about.contents.now place excerpt c.args.reason.name.now within c.args.reason.means.now c.args.reason.remedy.now _
    c.in_ok-place.ensures c.requires c.in_ok-within.ensures (search rules)
