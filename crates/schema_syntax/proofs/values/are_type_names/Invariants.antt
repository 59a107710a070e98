use Rattle.std.proofs.Common.{◌≡◌, length}
use Rattle.std.specs.List.{list_all}
use Rattle.std.specs.Option.{is_some}
use denote.Shadow.{shadow}
use denote.Text.{Utf8}
use Rattle.base_texts.specs.WhiteSpace.{words_of}
use Rattle.schema_syntax.specs.References.{type_name}
use Rattle.schema_syntax.specs.Scopes.{bindings_in}
use Rattle.schema_syntax.proofs.values.are_type_names.Given as goal

abbrev pub invariant-words : goal.invariant-words
invariant-words l =
    record {
      text : shadow (Utf8 l.rest);
      so_far : list_all (λ word. is_some (type_name (bindings_in l.scope) word)) (words_of l.rest) ≡ list_all (λ word. is_some (type_name (bindings_in l.scope) word)) (words_of l.text);
    }

abbrev pub decreases-words : goal.decreases-words
decreases-words l = length (words_of l.rest)
