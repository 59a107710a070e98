-- The bindings in scope, the innermost first (Namespaces in XML 1.0, section 6.1).
use Rattle.std.specs.Prelude.{ℕ, List, [], ◌∷◌, ◌++◌}
use Rattle.base_texts.specs.Namespaces.{xml_prefix, xml_space}
use Rattle.schema_syntax.specs.declared.scopes.NamespaceScope.{NamespaceScope, Document, Element'}

abbrev pub bindings_in : NamespaceScope → List (List ℕ × List ℕ)
bindings_in Document = (xml_prefix, xml_space) ∷ []
bindings_in (Element' declared place outer) = declared ++ bindings_in outer
