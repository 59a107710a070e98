use Rattle.std.proofs.Common.{refl, ◌∙◌, ap}
use Rattle.value_builder.specs.Built.{Built}
use Rattle.value_builder.proofs.Putting.{puts-appended, appended-closed}
use Rattle.value_builder.proofs.builder.ValueBuilder.append.Goals as goal

pub finish-requires : goal.finish-requires
finish-requires c = ap (λ (b : Built). b.kept.above) c.other.view_is ∙ appended-closed c.args.other c.requires.closed.0 c.requires.closed.1 c.requires.some c.requires.kept

pub returns-in_ok-append : goal.returns-in_ok-append
returns-in_ok-append c = λ vs st.
    rw (← c.self.view_is)
    (puts-appended _ _ c.args.other _ _ vs st c.requires.some c.requires.kept (ap (λ (b : Built). b.nodes) c.other.view_is)
    (c.finish.ensures ∙ ap (λ (b : Built). b.kept.kids) c.other.view_is) refl c.saturating_add-self-inside.ensures (λ _. c.in_ok-append.ensures.ok))

pub returns-else-is_kept : goal.returns-else-is_kept
returns-else-is_kept c = λ vs st.
    rw (← c.self.view_is)
    (puts-appended _ _ c.args.other _ c.args.other.kept.kids vs st c.requires.some c.requires.kept (ap (λ (b : Built). b.nodes) c.other.view_is) refl refl c.saturating_add-self-inside.ensures
    (λ within. absurd (cc (c.is_kept.ensures.1 within, c.if-is_kept.false))))
