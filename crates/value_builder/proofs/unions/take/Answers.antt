use Rattle.std.proofs.Common.{sym, ap, ◌∙◌, subst, Err}
use Rattle.simple_types.specs.Seen.{space_of}
use Rattle.simple_types.proofs.Members.{member_sound}
use Rattle.simple_types.specs.Answering.{AnswersReading}
use Rattle.simple_types.specs.Reading.{reads, spelled}
use Rattle.simple_types.proofs.Readings.{takes, finds_wide, passes, none_takes, spelled_member}
use Rattle.value_builder.proofs.unions.take.Goals as goal

pub keep-requires : goal.keep-requires
keep-requires c = rw c.index-members-i.is (member_sound c.args.members.now c.members.i c.index-members-i.result c.requires c.members-test.true)

pub returns-in-Ok-clause-taken : goal.returns-in-Ok-clause-taken
returns-in-Ok-clause-taken c =
    let members = c.args.members.now in
    let text = c.args.text.now in
    let d = c.index-members-i.result in
    let known = c.in-Ok.ensures in
    let read = ap (λ m. reads (space_of m) text) (sym c.index-members-i.is) ∙ known.1 in (
      known.0,
      takes members text c.members.i d c.members-test.true c.members.invariant known.0 read,
      known.2,
      known.3 ∙ ap (λ m. spelled (space_of m) known.0) c.index-members-i.is ∙ spelled_member members c.members.i d known.0 c.members-test.true,
    )

pub returns-in-Err-TooWide-clause-taken : goal.returns-in-Err-TooWide-clause-taken
returns-in-Err-TooWide-clause-taken c =
    let members = c.args.members.now in
    let text = c.args.text.now in
    let refused = subst (λ e. AnswersReading (Err e) (reads (space_of c.index-members-i.result) text)) c.in-Err-TooWide.field-0-is c.in-Err-TooWide.ensures in
    finds_wide members text c.members.i c.index-members-i.result c.members-test.true c.members.invariant (ap (λ m. reads (space_of m) text) (sym c.index-members-i.is) ∙ refused)

pub members-preserved : goal.members-preserved
members-preserved c =
    let members = c.args.members.now in
    let text = c.args.text.now in
    let refused = subst (λ e. AnswersReading (Err e) (reads (space_of c.index-members-i.result) text)) c.in-Err-BadText.field-0-is c.in-Err-BadText.ensures in
    passes members text c.members.i c.index-members-i.result c.members-test.true c.members.invariant (ap (λ m. reads (space_of m) text) (sym c.index-members-i.is) ∙ refused)

pub returns-clause-taken : goal.returns-clause-taken
returns-clause-taken c = none_takes c.args.members.now c.args.text.now c.members.i c.members-test.false c.members.invariant
