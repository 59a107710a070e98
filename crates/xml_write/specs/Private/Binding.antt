-- Namespaces bound one after another, in the order found. A table has namespaces, each with its prefix. Only private contracts
-- use this: `prefixes` of xml_write defines the prefixes that are written.
use Rattle.std.specs.Prelude.{◌≡◌, true, Option, Some, ℕ, ◌+◌, ◌-◌, List, [], ◌∷◌, ◌++◌, length, map, fold, Bool, ◌||◌, is_some, if◌then◌else◌, codes, decimal, bytes_eq}
use Rattle.std.specs.Borrow.{Bor}
use Rattle.std.specs.Ordering.{nat_cmp}
use Rattle.std.specs.Cmp.Lexicographic.{slice_cmp}
use Rattle.std.specs.BTreeMap.{BTreeMap, get_by}
use Rattle.std.specs.Map.{lookup}
use Rattle.std.specs.Option.{option_map}
use Rattle.base_texts.specs.declared.texts.Name.{Name}
use Rattle.base_texts.specs.Limits.{is_empty}
use Rattle.base_texts.specs.Namespaces.{xml_space, xsi_space}
use Rattle.xml_write.specs.declared.prefixes.Prefix.{Prefix}
use Rattle.xml_write.specs.declared.prefixes.Prefix.TheVariants.{Xsi, Numbered}
use Rattle.xml_write.specs.declared.prefixes.Qualifier.{Qualifier}
use Rattle.xml_write.specs.declared.prefixes.Qualifier.TheVariants.{Absent, Xml, Declared, Unknown}
use Rattle.xml_write.specs.Spaces.{prefix_for}

abbrev pub prefix_text : Prefix → List ℕ
prefix_text Xsi = codes "xsi"
prefix_text (Numbered number) = codes "n" ++ decimal number

-- The text that precedes the local part of a name.
abbrev pub qualifier_text : Qualifier → List ℕ
qualifier_text Absent = []
qualifier_text Xml = codes "xml:"
qualifier_text (Declared prefix) = prefix_text prefix ++ 58 ∷ []
qualifier_text Unknown = 58 ∷ []

abbrev pub before_local : List (List ℕ × List ℕ) → List ℕ → List ℕ
before_local table space = if is_empty space then [] else prefix_for table space ++ 58 ∷ []

-- A name after its qualifier.
abbrev pub named : Qualifier → Name → List ℕ
named qualifier name = qualifier_text qualifier ++ name.local

abbrev pub entry_of : Bor (List ℕ) × Prefix → List ℕ × List ℕ
entry_of e = (e.0.now, prefix_text e.1)

-- The prefix of a namespace that is new in the table.
abbrev pub next_prefix : List (List ℕ × List ℕ) → List ℕ → List ℕ
next_prefix table space =
    if bytes_eq space xsi_space
    then codes "xsi"
    else codes "n" ++ decimal (length table + 1 - (if is_some (lookup (bytes_eq xsi_space) table) then 1 else 0))

abbrev pub is_bound : List (List ℕ × List ℕ) → List ℕ → Bool
is_bound table space = is_empty space || bytes_eq space xml_space || is_some (lookup (bytes_eq space) table)

-- The map has the prefix of each entry's namespace. The last namespace that was looked up is in the entries or needs none, and
-- its qualifier is that of its names.
pub record Indexed (entries : List (Bor (List ℕ) × Prefix)) (by_space : BTreeMap (Bor (List ℕ)) Prefix) (last : Option (Bor (List ℕ) × Qualifier)) : Type 0 where
  pub found : (space : List ℕ) → option_map prefix_text (get_by (λ key. slice_cmp nat_cmp space key.now) by_space) ≡ lookup (bytes_eq space) (map entry_of entries)
  pub last_bound : (space : Bor (List ℕ)) (qualifier : Qualifier) → last ≡ Some (space, qualifier) → is_bound (map entry_of entries) space.now ≡ true
  pub last_named : (space : Bor (List ℕ)) (qualifier : Qualifier) → last ≡ Some (space, qualifier) → qualifier_text qualifier ≡ before_local (map entry_of entries) space.now

abbrev pub with_space : List (List ℕ × List ℕ) → List ℕ → List (List ℕ × List ℕ)
with_space table space = if is_bound table space then table else table ++ (space, next_prefix table space) ∷ []

abbrev pub with_spaces : List (List ℕ × List ℕ) → List (List ℕ) → List (List ℕ × List ℕ)
with_spaces table more_spaces = fold with_space table more_spaces
