-- Names that a schema may declare, by Namespaces in XML 1.0 and within the limits of this program.
use Rattle.std.specs.Prelude.{ℕ, Bool, ◌&&◌, not, List, [], ◌∷◌, bytes_eq}
use Rattle.std.specs.List.{list_any}
use Rattle.base_texts.specs.Limits.{is_namespace, is_name_part, is_xmlns}
use Rattle.base_texts.specs.Namespaces.{xmlns_space, xsi_space}
use Rattle.base_texts.specs.declared.texts.Name.{Name}

-- The namespaces that no declared name has: that of `xmlns` (Namespaces in XML 1.0, section 3), and that of the attributes of XML
-- Schema for documents (XML Schema Part 1, section 2.6).
abbrev pub kept_spaces : List (List ℕ)
kept_spaces = xmlns_space ∷ xsi_space ∷ []

abbrev pub is_declarable : Name → Bool
is_declarable name = is_namespace name.space && is_name_part name.local && not (list_any (bytes_eq name.space) kept_spaces)

-- The name may be declared, and isn't `xmlns` without a namespace (XML Schema Part 1, section 3.2.6, 'xmlns Not Allowed').
abbrev pub is_declarable_attribute : Name → Bool
is_declarable_attribute name = is_declarable name && not (is_xmlns name)
