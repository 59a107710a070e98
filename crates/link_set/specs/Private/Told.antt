-- The numbers that the tables of the code contain, for private contracts only.
use Rattle.std.specs.Prelude.{ℕ, List, map, Option}
use Rattle.std.specs.Borrow.{Bor}
use Rattle.std.specs.BTreeMap.{BTreeMap, get_by}
use Rattle.std.specs.Option.{option_map}
use Rattle.std.specs.Ordering.{nat_cmp}
use Rattle.base_texts.specs.declared.texts.Name.{Name}
use Rattle.base_texts.specs.Names.{name_cmp}
use Rattle.simple_types.specs.declared.simples.Builtin.{Builtin}
use Rattle.schema_components.specs.declared.components.GlobalAttribute.{GlobalAttribute}
use Rattle.link_set.specs.Builtins.{rank}
use Rattle.link_set.specs.Numbering.{NamedPlace, entry, ComponentNumbers, TypeNumbers}
use Rattle.link_set.specs.Private.Seen.{elements_of, attributes_of}
use Rattle.link_set.specs.Written.{Lists}
use Rattle.link_names.specs.CyclesSeen.{definitions_of as simples_of}
use Rattle.link_names.specs.Tables.{named_in, placed_in}
use Rattle.link_complex.specs.Seen.{definitions_of as complexes_of}
use Rattle.link_set.specs.declared.elements.AttributeNames.{AttributeNames}
use Rattle.link_set.specs.declared.listing.Listed.{Listed}
use Rattle.link_set.specs.declared.tables.TypeNumbers.{TypeNumbers as KeptTypes}
use Rattle.link_set.specs.declared.tables.ComponentNumbers.{ComponentNumbers as KeptNumbers}
use Rattle.link_set.specs.declared.numbers.NamedPlace.{NamedPlace as KeptEntry}

abbrev pub entry_of : KeptEntry → NamedPlace
entry_of e = entry (option_map (λ (a : Bor Name). a.now) e.name) e.place

abbrev pub entries_of : List KeptEntry → List NamedPlace
entries_of es = map entry_of es

-- The number that the table has for the rank of a built-in type.
abbrev pub ranked_in : BTreeMap ℕ ℕ → Builtin → Option ℕ
ranked_in table which = get_by (λ k. nat_cmp (rank which) k) table

abbrev pub listed_by : Listed → Lists
listed_by l =
    record {
      globals = elements_of l.elements.globals.items;
      locals = elements_of l.elements.locals.items;
      attributes = attributes_of l.attributes.items;
      simples = simples_of l.types.simples.items;
      complexes = complexes_of l.types.complexes.items;
      named = l.types.named.items;
    }

abbrev pub told_types : KeptTypes → TypeNumbers
told_types t = record { named = named_in t.named; placed = placed_in t.placed }

abbrev pub told_by : KeptNumbers → ComponentNumbers
told_by n =
    record {
      elements = named_in n.elements.globals;
      locals = placed_in n.elements.locals;
      simples = told_types n.types.simples;
      builtins = ranked_in n.types.builtins;
      complexes = told_types n.types.complexes;
    }

-- The attribute that the table has for the name.
abbrev pub attribute_in : BTreeMap (Bor Name) (Bor GlobalAttribute) → Name → Option GlobalAttribute
attribute_in table a = option_map (λ (g : Bor GlobalAttribute). g.now) (get_by (λ k. name_cmp a k.now) table)

-- The attribute that the names have for a name.
abbrev pub found_in : AttributeNames → Name → Option GlobalAttribute
found_in names a = attribute_in names.named a
