use Rattle.std.proofs.Common.{◌≡◌, length, string_bytes}
use denote.Shadow.{shadow}
use denote.Text.{Utf8}
use Rattle.base_texts.specs.WhiteSpace.{words_of, treated}
use Rattle.base_texts.specs.declared.white_space.WhiteSpace.TheVariants.{Collapse}
use Rattle.base_texts.proofs.Joining.{joined}
use Rattle.base_texts.proofs.white_space.collapse.Given as goal

abbrev pub invariant-words : goal.invariant-words
invariant-words l =
    record {
      text : shadow (Utf8 l.rest);
      so_far : joined (string_bytes l.collapsed) (words_of l.rest) ≡ treated Collapse l.text;
    }

abbrev pub decreases-words : goal.decreases-words
decreases-words l = length (words_of l.rest)
