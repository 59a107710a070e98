use Rattle.std.proofs.Common.{◌∙◌, ℕ, List, [], string_bytes, subst, rules}
use Rattle.transcode_words.specs.declared.outcome.Outcome.TheVariants.{UnknownRoot}
use Rattle.people_complaints.specs.Complaints.{IsComplaint}
use Rattle.people_complaints.proofs.Told.{listed}
use Rattle.people_complaints.proofs.composing.root_complaint.Goals as goal

pub returns : goal.returns
returns c =
    let whole = string_bytes c.push_str.new.self in
    let about = c.titled-about in
    subst (λ (name : List ℕ). IsComplaint UnknownRoot name [] whole) (about.ensures.name ∙ c.root_row.ensures.name)
    (subst (λ (contents : List ℕ). IsComplaint UnknownRoot about.result.name.now contents whole) about.ensures.contents
    (listed _ _ (string_bytes c.in_ok-text.text) (string_bytes c.in_ok-lines.lines) whole c.in_ok-text.ensures (search rules)))
