-- The namespaces of a document's names, and the prefix that is written for each (Namespaces in XML 1.0). A table has
-- namespaces, each with its prefix.
use Rattle.std.specs.Prelude.{ℕ, suc, List, [], ◌∷◌, ◌++◌, map, Bool, Option, Some, None, if◌then◌else◌, codes, decimal, bytes_eq}
use Rattle.std.specs.List.{list_any}
use Rattle.std.specs.Map.{lookup}
use Rattle.base_texts.specs.Namespaces.{xml_space, xsi_space}
use Rattle.base_texts.specs.declared.texts.Name.{Name}
use Rattle.base_trees.specs.Rose.{Rose, node, Roses, none, more}
use Rattle.xml_items.specs.declared.label.ItemLabel.{ItemLabel}
use Rattle.xml_items.specs.declared.label.ItemLabel.TheVariants.{Element, Text}

abbrev pub attribute_spaces : List (Name × List ℕ) → List (List ℕ)
attribute_spaces attributes = map (λ attribute. attribute.0.space) attributes

abbrev pub label_spaces : ItemLabel → List (List ℕ)
label_spaces (Element name attributes declares at) = name.space ∷ attribute_spaces attributes
label_spaces (Text text at) = []

-- The namespaces of all names in document order: an element's, then those of its attributes.
abbrev mutual
  pub spaces : Rose ItemLabel → List (List ℕ)
  spaces (node label kids) = label_spaces label ++ all_spaces kids

  pub all_spaces : Roses ItemLabel → List (List ℕ)
  all_spaces none = []
  all_spaces (more item items) = spaces item ++ all_spaces items

abbrev pub has_space : List (List ℕ) → List ℕ → Bool
has_space seen space = list_any (bytes_eq space) seen

-- The namespaces that weren't seen before, each once.
abbrev pub unseen : List (List ℕ) → List (List ℕ) → List (List ℕ)
unseen seen [] = []
unseen seen (space ∷ more_spaces) =
    if has_space seen space then unseen seen more_spaces else space ∷ unseen (space ∷ seen) more_spaces

-- The namespaces that the root declares: all except the absent one and that of XML, in the order found.
abbrev pub declared_spaces : Rose ItemLabel → List (List ℕ)
declared_spaces root = unseen ([] ∷ xml_space ∷ []) (spaces root)

-- each namespace with its prefix: `xsi`, and for the others `n` with a number, from this one on
abbrev pub numbered : ℕ → List (List ℕ) → List (List ℕ × List ℕ)
numbered number [] = []
numbered number (space ∷ more_spaces) =
    if bytes_eq space xsi_space
    then (space, codes "xsi") ∷ numbered number more_spaces
    else (space, codes "n" ++ decimal number) ∷ numbered (suc number) more_spaces

abbrev pub prefixes : Rose ItemLabel → List (List ℕ × List ℕ)
prefixes root = numbered 1 (declared_spaces root)

abbrev pub or_none : Option (List ℕ) → List ℕ
or_none (Some prefix) = prefix
or_none None = []

abbrev pub prefix_for : List (List ℕ × List ℕ) → List ℕ → List ℕ
prefix_for table space = if bytes_eq space xml_space then codes "xml" else or_none (lookup (bytes_eq space) table)
