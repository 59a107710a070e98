use Rattle.std.proofs.Common.{◌≡◌, ◌++◌}
use Rattle.std.specs.Prelude.{codes}
use Rattle.transcode_core.specs.Trial.{trial_lines}
use Rattle.transcode_core.proofs.trial.trial_document.Given as goal

-- the start of the document, and the lines before this one
abbrev pub invariant-lines : goal.invariant-lines
invariant-lines l = l.text.items ≡ codes "<order xmlns=\"urn:po\" id=\"7\">" ++ trial_lines l.i
