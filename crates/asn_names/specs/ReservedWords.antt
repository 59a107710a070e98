-- The reserved words of ASN.1 in this mapping: the words and the restricted string types of ITU-T X.680.
use Rattle.std.specs.Prelude.{ℕ, ◌==◌, List, ◌++◌, codes}
use Rattle.std.specs.List.{slice_split}

-- The words, separated by single spaces.
abbrev pub reserved_text : List ℕ
reserved_text =
    codes "ABSENT ABSTRACT-SYNTAX ALL APPLICATION AUTOMATIC BEGIN BIT BMPString BOOLEAN BY CHARACTER CHOICE CLASS COMPONENT "
    ++ codes "COMPONENTS CONSTRAINED CONTAINING DEFAULT DEFINITIONS EMBEDDED ENCODED ENCODING-CONTROL END ENUMERATED EXCEPT "
    ++ codes "EXPLICIT EXPORTS EXTENSIBILITY EXTERNAL FALSE FROM GeneralizedTime GeneralString GraphicString IA5String "
    ++ codes "IDENTIFIER IMPLICIT IMPLIED IMPORTS INCLUDES INSTANCE INSTRUCTIONS INTEGER INTERSECTION ISO646String MAX MIN "
    ++ codes "MINUS-INFINITY NULL NumericString OBJECT ObjectDescriptor OCTET OF OPTIONAL PATTERN PDV PLUS-INFINITY PRESENT "
    ++ codes "PrintableString PRIVATE REAL RELATIVE-OID SEQUENCE SET SETTINGS SIZE STRING SYNTAX T61String TAGS TeletexString "
    ++ codes "TRUE TYPE-IDENTIFIER UNION UNIQUE UNIVERSAL UniversalString UTCTime UTF8String VideotexString VisibleString WITH"

unfoldable pub reserved_words : List (List ℕ)
reserved_words = slice_split (λ b. b == 0x20) reserved_text
