-- The namespaces that documents and schemas use, and the reserved prefixes.
use Rattle.std.specs.Prelude.{ℕ, List, codes}

-- Namespaces in XML 1.0, section 3
abbrev pub xml_prefix : List ℕ
xml_prefix = codes "xml"

abbrev pub xmlns_prefix : List ℕ
xmlns_prefix = codes "xmlns"

abbrev pub xml_space : List ℕ
xml_space = codes "http://www.w3.org/XML/1998/namespace"

abbrev pub xmlns_space : List ℕ
xmlns_space = codes "http://www.w3.org/2000/xmlns/"

-- XML Schema Part 1, section 2.6: the namespace of the attributes of XML Schema in documents, as `xsi:nil`
abbrev pub xsi_space : List ℕ
xsi_space = codes "http://www.w3.org/2001/XMLSchema-instance"

-- XML Schema Part 1, section 2.6: the namespace of the elements of schema documents, and of the built-in types
abbrev pub schema_space : List ℕ
schema_space = codes "http://www.w3.org/2001/XMLSchema"
