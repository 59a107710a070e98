use Rattle.std.proofs.Common.{◌≡◌, ◌++◌, ◌-◌, [], length, take, ap, ◌∙◌, refl}
use Rattle.xer_write.specs.declared.contents.Contents.{Contents}
use Rattle.xer_write.proofs.Gaining.{mixed-ended, no-level}
use Rattle.xer_write.proofs.contents.Contents.end_mixed.Goals as goal

pub returns-in-None : goal.returns-in-None
returns-in-None c = λ outer words is.
    let old = c.args.self.now.texts.items in
    let emptied : c.pop.new.self.items ≡ [] = c.in-None.ensures.rest ∙ ap (λ n. take (n - 1) old) c.in-None.ensures.cases.0 in
    absurd (no-level c.args.self.now (ap length (c.in-None.ensures.items ∙ ap (λ s. s ++ []) emptied)) outer words is)

pub returns-in_ok-add_next-in-Some : goal.returns-in_ok-add_next-in-Some
returns-in_ok-add_next-in-Some c =
    let old = c.args.self.now in
    let popped : Contents = record { receiver = old.receiver; texts = c.pop.new.self } in
    mixed-ended old popped c.add_next.new.self c.in-Some.texts c.in-Some.ensures.items refl c.in_ok-add_next-in-Some.ensures.gains
