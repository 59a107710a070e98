-- Parts with the fixed value and the absence that follow their types.
use Rattle.std.specs.Prelude.{◌≡◌, ℕ, List, Result, Ok, Err}
use Rattle.module_grammar.specs.declared.reach.Reach.{Reach}
use Rattle.module_grammar.specs.declared.reach.Stop.{Stop}
use Rattle.module_grammar.specs.declared.reach.Stop.TheVariants as stop
use Rattle.module_text.specs.declared.types.PlainPart.{PlainPart}
use Rattle.module_grammar.specs.TypeReading as type
use Rattle.module_text.specs.declared.made.PartHead.{PartHead}
use Rattle.module_text.specs.Made.{part_of}
use Rattle.module_parse.specs.declared.forms.Sort.{Sort}
use Rattle.module_parse.specs.declared.forms.Sort.TheVariants as sort
use Rattle.module_parse.specs.Reads.{IsStopped}
use Rattle.module_parse.specs.Readers.{ReadsEnding}

abbrev pub EndsPart : ℕ → Sort → PartHead → List ℕ → Reach → Result (PlainPart × Reach) Stop → Type 0
EndsPart most x head bytes from (Ok y) = ReadsEnding most x bytes from (Ok ((y.0.fixed, y.0.absence), y.1)) × (y.0 ≡ part_of head y.0.fixed y.0.absence)
EndsPart most sort.Component head bytes from (Err e) = IsStopped (type.ending_at most) bytes from e
EndsPart most sort.Alternative head bytes from (Err e) = e ≡ stop.Memory
