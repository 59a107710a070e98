use Rattle.simple_types.specs.Seen.{space_of}
use Rattle.xer_read.proofs.Refusing.{bad-text, wide-text}
use Rattle.xer_read.proofs.texts.put_words.Goals as goal

pub returns-in-Ok : goal.returns-in-Ok
returns-in-Ok c = λ ts only.
    let (value, accepted, puts) = c.in-Ok.ensures in
    (value, (c.args.characters.now, only, accepted), puts)

pub returns-in-Err-BadText : goal.returns-in-Err-BadText
returns-in-Err-BadText c = λ ts only.
    bad-text (space_of c.args.simple.now) ts c.args.characters.now c.args.at only (rw c.in-Err-BadText.field-0-is at c.in-Err-BadText.ensures)

pub returns-in-Err-TooWide : goal.returns-in-Err-TooWide
returns-in-Err-TooWide c = λ ts only.
    wide-text (space_of c.args.simple.now) ts c.args.characters.now c.args.at only (rw c.in-Err-TooWide.field-0-is at c.in-Err-TooWide.ensures)
