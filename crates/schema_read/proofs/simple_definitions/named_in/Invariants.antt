use Rattle.std.proofs.Common.{◌≡◌, length}
use denote.Shadow.{shadow}
use denote.Text.{Utf8}
use Rattle.schema_read.proofs.Words.{words_of, bases_in, bindings_in, joined, named_in}
use Rattle.schema_read.proofs.simple_definitions.named_in.Given as goal

-- those so far and those of the rest are all
abbrev pub invariant-words : goal.invariant-words
invariant-words l =
    record {
      text : shadow (Utf8 l.rest);
      so_far : joined (bases_in l.members.items) (named_in (bindings_in l.scope) (words_of l.rest)) ≡ named_in (bindings_in l.scope) (words_of l.text);
    }

abbrev pub decreases-words : goal.decreases-words
decreases-words l = length (words_of l.rest)
