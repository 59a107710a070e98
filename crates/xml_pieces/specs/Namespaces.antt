-- The expanded names of names as written (Namespaces in XML 1.0).
use Rattle.std.specs.Prelude.{ℕ, Bool, true, false, ◌&&◌, ◌||◌, not, List, [], ◌∷◌, map, filter, bytes_eq, Option, Some, None, if◌then◌else◌}
use Rattle.std.specs.List.{list_any}
use Rattle.std.specs.Option.{is_some}
use Rattle.base_texts.specs.declared.texts.Name.{Name}
use Rattle.base_texts.specs.Entries.{beside}
use Rattle.base_texts.specs.Limits.{is_empty, is_short_part}
use Rattle.base_texts.specs.Names.{name_eq}
use Rattle.base_texts.specs.Namespaces.{xml_prefix, xmlns_prefix, xml_space, xmlns_space}
use Rattle.xml_pieces.specs.QNames.{prefix_of, local_of}

-- its prefix or its local name is over 255 bytes
unfoldable pub is_long : List ℕ → Bool
is_long written = not (is_short_part (prefix_of written) && is_short_part (local_of written))

-- ---- bindings

-- an attribute of this name binds a namespace: `xmlns`, or one of the prefix `xmlns`
unfoldable pub binds : List ℕ → Bool
binds written = bytes_eq written xmlns_prefix || bytes_eq (prefix_of written) xmlns_prefix

-- the prefix that it binds, empty for the default namespace
unfoldable pub bound_prefix : List ℕ → List ℕ
bound_prefix written = if bytes_eq written xmlns_prefix then [] else local_of written

-- the bindings among the attributes, in the order written
abbrev pub bindings_of : List (List ℕ × List ℕ) → List (List ℕ × List ℕ)
bindings_of attributes = map (λ a. (bound_prefix a.0, a.1)) (filter (λ a. binds a.0) attributes)

-- the others
abbrev pub plain_of : List (List ℕ × List ℕ) → List (List ℕ × List ℕ)
plain_of attributes = filter (λ a. not (binds a.0)) attributes

abbrev pub same_bool : Bool → Bool → Bool
same_bool true b = b
same_bool false b = not b

-- Namespaces in XML 1.0, section 3, the constraint on reserved prefixes and namespaces, and section 5 on empty ones. The binding
-- is an error if it binds `xmlns`, binds anything to the namespace of `xmlns`, binds `xml` to another namespace or another prefix
-- to that of `xml`, or binds a prefix except the empty one to the empty text.
unfoldable pub is_reserved : List ℕ × List ℕ → Bool
is_reserved binding =
    bytes_eq binding.0 xmlns_prefix
    || bytes_eq binding.1 xmlns_space
    || not (same_bool (bytes_eq binding.0 xml_prefix) (bytes_eq binding.1 xml_space))
    || (is_empty binding.1 && not (is_empty binding.0))

-- A scope has the bindings in scope, each a prefix with its namespace, the innermost first: the namespace of a prefix is that of
-- its first entry.

-- Nothing binds the prefix. `xmlns` counts as unbound, since no name may be in its namespace.
unfoldable pub is_unbound : List (List ℕ × List ℕ) → List ℕ → Bool
is_unbound scope prefix = not (is_empty prefix) && (bytes_eq prefix xmlns_prefix || not (is_some (beside prefix scope)))

-- ---- expanded names

abbrev pub or_absent : Option (List ℕ) → List ℕ
or_absent None = []
or_absent (Some space) = space

-- of an element: without a prefix it has the default namespace
unfoldable pub element_name : List (List ℕ × List ℕ) → List ℕ → Name
element_name scope written = record { space = or_absent (beside (prefix_of written) scope); local = local_of written }

-- of an attribute: without a prefix it has no namespace
abbrev pub attribute_space : List (List ℕ × List ℕ) → List ℕ → List ℕ
attribute_space scope prefix = if is_empty prefix then [] else or_absent (beside prefix scope)

unfoldable pub attribute_name : List (List ℕ × List ℕ) → List ℕ → Name
attribute_name scope written = record { space = attribute_space scope (prefix_of written); local = local_of written }

-- the attributes that bind nothing, with their expanded names, in the order written
abbrev pub attributes_of : List (List ℕ × List ℕ) → List (List ℕ × List ℕ) → List (Name × List ℕ)
attributes_of scope attributes = map (λ a. (attribute_name scope a.0, a.1)) (plain_of attributes)

-- ---- duplicates

-- XML 1.0, section 3.1, the constraint Unique Att Spec
abbrev pub written_twice : List (List ℕ × List ℕ) → Bool
written_twice [] = false
written_twice (attribute ∷ attributes) = list_any (λ a. bytes_eq a.0 attribute.0) attributes || written_twice attributes

abbrev pub has_name : Name → List (Name × List ℕ) → Bool
has_name name attributes = list_any (λ attribute. name_eq attribute.0 name) attributes

-- Namespaces in XML 1.0, section 6.3
abbrev pub expanded_twice : List (Name × List ℕ) → Bool
expanded_twice [] = false
expanded_twice (attribute ∷ attributes) = has_name attribute.0 attributes || expanded_twice attributes
