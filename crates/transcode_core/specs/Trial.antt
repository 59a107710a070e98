-- The trial: a schema that is part of the program, an order of so many lines, and the line that tells how long its encoding is.
use Rattle.std.specs.Prelude.{ℕ, zero, suc, ◌+◌, ◌%◌, List, [], ◌++◌, codes, decimal}
use Rattle.base_texts.specs.declared.texts.Name.{Name}

-- the name under which the schema stands
abbrev pub trial_name : List ℕ
trial_name = codes "order.xsd"

abbrev pub trial_schema : List ℕ
trial_schema =
    codes "<xs:schema xmlns:xs=\"http://www.w3.org/2001/XMLSchema\" xmlns=\"urn:po\" targetNamespace=\"urn:po\" elementFormDefault=\"qualified\">\n"
    ++ codes "<xs:element name=\"order\" type=\"Order\"/>\n"
    ++ codes "<xs:complexType name=\"Order\"><xs:sequence><xs:element name=\"line\" type=\"Line\" maxOccurs=\"unbounded\"/>"
    ++ codes "<xs:element name=\"note\" type=\"xs:string\" minOccurs=\"0\"/></xs:sequence>"
    ++ codes "<xs:attribute name=\"id\" type=\"xs:unsignedShort\" use=\"required\"/></xs:complexType>\n"
    ++ codes "<xs:complexType name=\"Line\"><xs:sequence><xs:element name=\"sku\" type=\"xs:token\"/><xs:element name=\"qty\" type=\"Qty\"/></xs:sequence></xs:complexType>\n"
    ++ codes "<xs:simpleType name=\"Qty\"><xs:restriction base=\"xs:int\"><xs:minInclusive value=\"1\"/><xs:maxInclusive value=\"100\"/></xs:restriction></xs:simpleType>\n"
    ++ codes "</xs:schema>"

abbrev pub trial_root : Name
trial_root = record { space = codes "urn:po"; local = codes "order" }

-- line i, from 0
abbrev pub trial_line : ℕ → List ℕ
trial_line i = codes "<line><sku>S" ++ decimal i ++ codes "</sku><qty>" ++ decimal (1 + i % 100) ++ codes "</qty></line>"

-- the first so many lines
abbrev pub trial_lines : ℕ → List ℕ
trial_lines zero = []
trial_lines (suc n) = trial_lines n ++ trial_line n

-- an order of so many lines
abbrev pub trial_document : ℕ → List ℕ
trial_document n = codes "<order xmlns=\"urn:po\" id=\"7\">" ++ trial_lines n ++ codes "</order>"

-- how long the document and its encoding are, in bytes
abbrev pub summary : ℕ → ℕ → ℕ → List ℕ
summary lines document encoding =
    codes "lines " ++ decimal lines ++ codes ", document bytes " ++ decimal document ++ codes ", per bytes " ++ decimal encoding ++ codes "\n"
