use Rattle.std.proofs.Common.{ap, refl, inl, inr, arith, [], ◌∷◌, List}
use Rattle.asn_types.specs.declared.modules.Assignment.{Assignment}
use Rattle.schema_components.specs.SetParts.{SetParts}
use Rattle.transcode_words.specs.Answers.{NoMemory}
use Rattle.transcode_words.specs.Asked.{Show, ShowBack, Serve, Trial}
use Rattle.transcode_words.specs.AskedSeen.{chosen_seen}
use Rattle.transcode_words.specs.Order.{Give, Then}
use Rattle.transcode_core.specs.Causes.{SomeLoad}
use Rattle.transcode_core.specs.Due.{SetIn, ShownBack, Tried}
use Rattle.transcode_core.specs.Private.Seen.{opened_seen}
use Rattle.transcode_core.specs.Requests.Due.{Mapped, shown}
use Rattle.transcode_core.proofs.Agendas.{loads_nothing}
use Rattle.transcode_core.proofs.Requests.Asking.{answers_result, answers_before, answers_served, never}
use Rattle.transcode_core.proofs.asking.answer.Goals as goal

pub show_files-requires-clause-few : goal.show_files-requires-clause-few
show_files-requires-clause-few g c = rw c.in-Show.is at c.requires.within

pub show_files-requires-clause-named : goal.show_files-requires-clause-named
show_files-requires-clause-named g c = rw c.in-Show.is at c.requires.named

pub show_back-requires : goal.show_back-requires
show_back-requires g c = rw c.in-ShowBack.is at c.requires.named

pub open_asked-requires-clause-few : goal.open_asked-requires-clause-few
open_asked-requires-clause-few g c = rw c.in-Serve.is at c.requires.within

pub open_asked-requires-clause-named : goal.open_asked-requires-clause-named
open_asked-requires-clause-named g c = rw c.in-Serve.is at c.requires.named

pub try_out-requires : goal.try_out-requires
try_out-requires g c = rw c.in-Trial.is at c.requires.within

pub returns-in-Show : goal.returns-in-Show
returns-in-Show g c =
    let entries = g.F.Library.entries c.args.library.now in
    let cause = SomeLoad (g.F.Library.faults c.args.library.now) (g.F.Library.faults c.show_files.new.library) (g.F.Library.is_sure c.args.library.now) entries c.in-Show.files.now in
    rw c.in-Show.is (answers_result (Show c.in-Show.form c.in-Show.files.now) _ _ _ _ c.show_files.ensures.files c.show_files.ensures.named c.show_files.ensures.later (λ same. ap g.K.Sink.written same) tt never
    (Then (SetIn entries c.in-Show.files.now) (λ (parts : SetParts). Then (Mapped parts) (λ (made : List Assignment). Give (shown c.in-Show.form made))))
    (λ bytes made. inl (refl, made)) (λ o made. inr (made, refl)) (λ bytes. tt) cause (λ o is. is) c.show_files.result c.deliver.result c.show_files.ensures.due refl (omega arith) c.deliver.ensures.later
    (inl refl) (λ e. absurd (never e)) c.deliver.ensures.written)

pub returns-in-ShowBack : goal.returns-in-ShowBack
returns-in-ShowBack g c =
    let entries = g.F.Library.entries c.args.library.now in
    let cause = SomeLoad (g.F.Library.faults c.args.library.now) (g.F.Library.faults c.show_back.new.files) (g.F.Library.is_sure c.args.library.now) entries (c.in-ShowBack.file.now ∷ []) in
    rw c.in-ShowBack.is (answers_result (ShowBack c.in-ShowBack.file.now) _ _ _ _ c.show_back.ensures.files c.show_back.ensures.named c.show_back.ensures.later (λ same. ap g.K.Sink.written same) tt never
    (ShownBack entries c.in-ShowBack.file.now) (λ bytes made. inl (refl, made)) (λ o made. inr (made, refl)) (λ bytes. tt) cause (λ o is. is) c.show_back.result c.deliver-in-ShowBack.result c.show_back.ensures.due refl
    (omega arith) c.deliver-in-ShowBack.ensures.later (inl refl) (λ e. absurd (never e)) c.deliver-in-ShowBack.ensures.written)

pub returns-in-Trial : goal.returns-in-Trial
returns-in-Trial g c =
    rw c.in-Trial.is (answers_result (Trial c.in-Trial.lines) _ _ _ _ (refl, refl) (loads_nothing [] _) (omega arith) (λ same. ap g.K.Sink.written same) tt never
    (Tried c.in-Trial.lines) (λ bytes made. inl (refl, made)) (λ o made. inr (made, refl)) (λ bytes. tt) NoMemory (λ o is. inl is) c.try_out.result c.deliver-in-Trial.result c.try_out.ensures.due refl
    (omega arith) c.deliver-in-Trial.ensures.later c.try_out.ensures.few (λ e. c.try_out.ensures.many) c.deliver-in-Trial.ensures.written)

pub returns-in-Ok : goal.returns-in-Ok
returns-in-Ok g c =
    rw c.in-Serve.is (answers_served c.in-Serve.task (chosen_seen c.in-Serve.root) c.in-Serve.files.now _ _ _ _ c.open_asked.ensures.files c.open_asked.ensures.named c.open_asked.ensures.later
    (opened_seen c.in-Ok.opened) c.serve_task.result c.in-Ok.ensures.due c.serve_task.ensures)

pub returns-in-Err : goal.returns-in-Err
returns-in-Err g c =
    rw c.in-Serve.is (answers_before (Serve c.in-Serve.task (chosen_seen c.in-Serve.root) c.in-Serve.files.now) _ _ _ _ c.open_asked.ensures.files c.open_asked.ensures.named c.open_asked.ensures.later (λ same. ap g.K.Sink.written same)
    c.in-Err.outcome (elim c.in-Err.ensures.due [ inl (none, own) ↦ inl (inl (none, refl), own) | inr is ↦ inr is ]) refl refl (omega arith) (omega arith) (inl refl))
