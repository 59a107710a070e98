use Rattle.std.proofs.Common.{◌≡◌, length, None}
use denote.Shadow.{shadow}
use denote.Text.{Utf8}
use Rattle.base_texts.specs.WhiteSpace.{words_of}
use Rattle.schema_faults.specs.Reasons.{earliest}
use Rattle.schema_syntax.specs.Scopes.{bindings_in}
use Rattle.schema_faults.proofs.reasons.left_out_types.Given as goal

abbrev pub invariant-words : goal.invariant-words
invariant-words l =
    record {
      text : shadow (Utf8 l.rest);
      so_far : earliest l.found (bindings_in l.scope) (words_of l.rest) ≡ earliest None (bindings_in l.scope) (words_of l.text);
    }

abbrev pub decreases-words : goal.decreases-words
decreases-words l = length (words_of l.rest)
