use Rattle.std.proofs.Common.{ℕ, List, [], inl, inr, refl, ap, subst, ◌∙◌}
use Rattle.transcode_words.specs.declared.outcome.Outcome.TheVariants.{OutOfMemory}
use Rattle.transcode_words.specs.AskedSeen.{asked_seen}
use Rattle.people_options.specs.Kept.{files_kept, input_kept}
use Rattle.people_complaints.specs.Subjects.{Texts}
use Rattle.people_results.specs.Serving.{failed}
use Rattle.ruvkhiska.specs.Runs.{Reports, received, texts_of}
use Rattle.ruvkhiska.proofs.Begun.{begun}
use Rattle.ruvkhiska.proofs.serve.Goals as goal

pub returns-in_default : goal.returns-in_default
returns-in_default g c = record {
  later = failed [] 0 0 0 0;
  served = inl refl;
  loaded = [];
  read = [];
  reports = subst (λ (texts : Texts). Reports texts OutOfMemory (received g.E.Sink c.args.to.now) (received g.E.Sink c.report.new.to))
      (c.subjects_of.ensures ∙ ap (λ (names : List (List ℕ)). texts_of c.args.call.now names [] []) c.names_of-names.ensures) c.report.ensures;
}

pub returns : goal.returns
returns g c =
    let files = c.finish-outcome.new.files in
    let input = c.finish-outcome.new.input in
    let loaded = files_kept files.kept in
    let read = input_kept input.kept in
    record {
      later = failed files.names.now files.folder.faults input.faults c.finish-outcome.new.output.faults c.finish-outcome.ensures.0;
      served = inr (begun (asked_seen c.args.asked) _ _ _ _ _ _ _ (c.new-files.ensures.names ∙ c.names_of-names.ensures) c.new-files.ensures.faults c.in-Ok.ensures c.output_of-output.ensures
          c.finish-outcome.ensures.1);
      loaded = loaded;
      read = read;
      reports = subst (λ (texts : Texts). Reports texts c.finish-outcome.result (received g.E.Sink c.args.to.now) (received g.E.Sink c.report-2.new.to))
          (c.subjects_in.ensures ∙ ap (λ (names : List (List ℕ)). texts_of c.args.call.now names loaded read) c.names_of-names.ensures) c.report-2.ensures;
    }
