use Rattle.std.proofs.Common.{sym, ap}
use Rattle.simple_types.specs.Seen.{space_of}
use Rattle.simple_types.proofs.OwnSpellings.{holds_again}
use Rattle.link_simple.specs.Spellings.{spelled_as}
use Rattle.link_simple.proofs.spellings.spelling.Goals as goal

pub spell-requires : goal.spell-requires
spell-requires c = record { sound = c.requires; holds = rw c.root.ensures (holds_again (space_of c.args.simple.now) c.requires _ c.in-Ok.value c.in-Ok.ensures) }

pub returns-in-Err-BadText : goal.returns-in-Err-BadText
returns-in-Err-BadText c = let refused = rw c.in-Err-BadText.field-0-is at c.in-Err-BadText.ensures in sym (ap (spelled_as (space_of c.args.simple.now)) refused)

pub returns-in-Err-TooWide : goal.returns-in-Err-TooWide
returns-in-Err-TooWide c = let refused = rw c.in-Err-TooWide.field-0-is at c.in-Err-TooWide.ensures in sym (ap (spelled_as (space_of c.args.simple.now)) refused)
