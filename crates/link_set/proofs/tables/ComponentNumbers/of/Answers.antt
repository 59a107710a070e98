use Rattle.std.proofs.Common.{length, map, ap, ap₂, sym, ◌∙◌}
use Rattle.std.proofs.lemmas.List.{length-map}
use Rattle.link_names.specs.CyclesSeen.{definition_of}
use Rattle.link_set.specs.Numbering.{number_named, number_placed, builtin_numbers, element_entry}
use Rattle.link_set.specs.Private.Seen.{written_of, elements_of}
use Rattle.link_set.proofs.tables.ComponentNumbers.of.Goals as goal

pub returns : goal.returns
returns c =
    let listed = c.args.listed.now in
    let simples = listed.types.simples.items in
    let globals = listed.elements.globals.items in
    let locals = listed.elements.locals.items in
    let seen_globals = c.deref.ensures.value in
    let seen_locals = c.deref-2.ensures.value in
    λ i. record {
      elements = λ a. (c.in_ok-elements.ensures.0 a ∙ ap (λ es. number_named 0 (map element_entry (elements_of es)) a) seen_globals) i;
      locals = λ p. (c.in_ok-elements.ensures.1 p ∙ ap₂ (λ gs ls. number_placed (length gs) (map element_entry (elements_of ls)) p) seen_globals seen_locals
          ∙ ap (λ n. number_placed n (map element_entry (elements_of locals)) p) (sym (length-map globals written_of))) i;
      simples = c.in_ok-types.ensures.0 i;
      builtins = λ w. (c.in_ok-types.ensures.1 w ∙ ap₂ (λ n us. builtin_numbers n us w) (sym (length-map simples definition_of)) c.requires.used) i;
      complexes = c.in_ok-types.ensures.2 i;
    }
