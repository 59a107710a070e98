-- Lines are short: the numbers in them have at most 20 digits, and the names of reasons at most 30 bytes.
use Rattle.std.proofs.Common.{◌≡◌, ℕ, zero, suc, ◌<◌, ◌≤◌, ◌^◌, Bool, true, List, ◌++◌, length, codes, decimal, refl, arith}
use Rattle.std.proofs.Math.Dec.{leb}
use Rattle.std.proofs.lemmas.Bool.{leb-true}
use Rattle.std.proofs.lemmas.Fmt.{length-decimal-le}
use Rattle.std.proofs.lemmas.List.{length-append}
use Rattle.transcode_words.specs.Lines.{reason_name, schema_reason, facet_reason, link_reason, invalid_reason, per_reason, der_reason, module_reason, place}
use Rattle.der_fields.specs.declared.stops.Why.TheVariants as der
use Rattle.der_fields.specs.declared.stops.Why.{Why as DerWhy}
use Rattle.link_names.specs.declared.faults.LinkWhy.TheVariants as link
use Rattle.link_names.specs.declared.faults.LinkWhy.{LinkWhy}
use Rattle.module_text.specs.declared.reasons.ModuleWhy.TheVariants as module_why
use Rattle.module_text.specs.declared.reasons.ModuleWhy.{ModuleWhy}
use Rattle.per_fields.specs.declared.stops.Why.TheVariants as per
use Rattle.per_fields.specs.declared.stops.Why.{Why as PerWhy}
use Rattle.schema_syntax.specs.declared.why.SchemaWhy.TheVariants as schema
use Rattle.schema_syntax.specs.declared.why.SchemaWhy.{SchemaWhy}
use Rattle.simple_facets.specs.declared.refusals.FacetWhy.TheVariants as facet
use Rattle.simple_facets.specs.declared.refusals.FacetWhy.{FacetWhy}
use Rattle.validity_rules.specs.declared.why.InvalidWhy.TheVariants as invalid
use Rattle.validity_rules.specs.declared.why.InvalidWhy.{InvalidWhy}
use Rattle.xml_read.specs.declared.error.DocWhy.TheVariants as syntax
use Rattle.xml_read.specs.declared.error.DocWhy.{DocWhy}

abbrev is_few : List ℕ → Bool
is_few name = leb (length name) 30

-- ---- names of reasons

is_few-xml : (why : DocWhy) → is_few (reason_name why) ≡ true
is_few-xml syntax.NotUtf8 = refl
is_few-xml syntax.Doctype = refl
is_few-xml syntax.Version = refl
is_few-xml syntax.Encoding = refl
is_few-xml syntax.BadReference = refl
is_few-xml syntax.NoPiece = refl
is_few-xml syntax.BadName = refl
is_few-xml syntax.LongName = refl
is_few-xml syntax.ReservedPrefix = refl
is_few-xml syntax.UnboundPrefix = refl
is_few-xml syntax.DuplicateAttribute = refl
is_few-xml syntax.ExtraRoot = refl
is_few-xml syntax.TooDeep = refl
is_few-xml syntax.WrongEnd = refl
is_few-xml syntax.TextOutside = refl
is_few-xml syntax.Unfinished = refl

few-xml : (why : DocWhy) → length (reason_name why) ≤ 30
few-xml why = leb-true (length (reason_name why)) 30 (is_few-xml why)

is_few-schema : (why : SchemaWhy) → is_few (schema_reason why) ≡ true
is_few-schema schema.NotASchema = refl
is_few-schema schema.UnknownElement = refl
is_few-schema schema.Wildcard = refl
is_few-schema schema.Redefine = refl
is_few-schema schema.NotationElement = refl
is_few-schema schema.IdentityConstraint = refl
is_few-schema schema.Group = refl
is_few-schema schema.ComplexContent = refl
is_few-schema schema.SimpleContentRestriction = refl
is_few-schema schema.Pattern = refl
is_few-schema schema.TotalDigits = refl
is_few-schema schema.FractionDigits = refl
is_few-schema schema.Misplaced = refl
is_few-schema schema.UnknownAttribute = refl
is_few-schema schema.MissingAttribute = refl
is_few-schema schema.BadValue = refl
is_few-schema schema.Limit = refl
is_few-schema schema.SubstitutionGroup = refl
is_few-schema schema.Abstract = refl
is_few-schema schema.ElementDefault = refl
is_few-schema schema.OptionalAll = refl
is_few-schema schema.Decimal = refl
is_few-schema schema.Float = refl
is_few-schema schema.Double = refl
is_few-schema schema.Duration = refl
is_few-schema schema.DateTime = refl
is_few-schema schema.Time = refl
is_few-schema schema.Date = refl
is_few-schema schema.GYearMonth = refl
is_few-schema schema.GYear = refl
is_few-schema schema.GMonthDay = refl
is_few-schema schema.GDay = refl
is_few-schema schema.GMonth = refl
is_few-schema schema.HexBinary = refl
is_few-schema schema.Base64Binary = refl
is_few-schema schema.QName = refl
is_few-schema schema.NOTATION = refl
is_few-schema schema.ID = refl
is_few-schema schema.IDREF = refl
is_few-schema schema.IDREFS = refl
is_few-schema schema.ENTITY = refl
is_few-schema schema.ENTITIES = refl
is_few-schema schema.AnySimpleType = refl
is_few-schema schema.AnyType = refl
is_few-schema schema.BothForms = refl
is_few-schema schema.EmptyChoice = refl

few-schema : (why : SchemaWhy) → length (schema_reason why) ≤ 30
few-schema why = leb-true (length (schema_reason why)) 30 (is_few-schema why)

is_few-facet : (why : FacetWhy) → is_few (facet_reason why) ≡ true
is_few-facet facet.Misplaced = refl
is_few-facet facet.Widens = refl
is_few-facet facet.NotInBase = refl
is_few-facet facet.EmptySpace = refl
is_few-facet facet.BadNumber = refl
is_few-facet facet.TooWide = refl

few-facet : (why : FacetWhy) → length (facet_reason why) ≤ 30
few-facet why = leb-true (length (facet_reason why)) 30 (is_few-facet why)

is_few-link : (why : LinkWhy) → is_few (link_reason why) ≡ true
is_few-link link.Limit = refl
is_few-link link.Duplicate = refl
is_few-link link.Unresolved = refl
is_few-link link.ComplexBase = refl
is_few-link link.CircularType = refl
is_few-link (link.Facet facet.Misplaced) = refl
is_few-link (link.Facet facet.Widens) = refl
is_few-link (link.Facet facet.NotInBase) = refl
is_few-link (link.Facet facet.EmptySpace) = refl
is_few-link (link.Facet facet.BadNumber) = refl
is_few-link (link.Facet facet.TooWide) = refl
is_few-link link.BadItem = refl
is_few-link link.BadDefault = refl
is_few-link link.FixedDiffers = refl
is_few-link link.DuplicateUse = refl
is_few-link link.TypesDiffer = refl
is_few-link link.NotClear = refl

few-link : (why : LinkWhy) → length (link_reason why) ≤ 30
few-link why = leb-true (length (link_reason why)) 30 (is_few-link why)

is_few-invalid : (why : InvalidWhy) → is_few (invalid_reason why) ≡ true
is_few-invalid invalid.WrongRoot = refl
is_few-invalid invalid.XsiType = refl
is_few-invalid invalid.BadNil = refl
is_few-invalid invalid.UnknownAttribute = refl
is_few-invalid invalid.BadAttribute = refl
is_few-invalid invalid.TooWide = refl
is_few-invalid invalid.MissingAttribute = refl
is_few-invalid invalid.NilWithContent = refl
is_few-invalid invalid.TextNotAllowed = refl
is_few-invalid invalid.ElementNotAllowed = refl
is_few-invalid invalid.BadText = refl
is_few-invalid invalid.UnexpectedElement = refl
is_few-invalid invalid.MissingElement = refl

few-invalid : (why : InvalidWhy) → length (invalid_reason why) ≤ 30
few-invalid why = leb-true (length (invalid_reason why)) 30 (is_few-invalid why)

is_few-per : (why : PerWhy) → is_few (per_reason why) ≡ true
is_few-per per.TooDeep = refl
is_few-per per.TooMany = refl
is_few-per per.Short = refl
is_few-per per.Padding = refl
is_few-per per.NotShortest = refl
is_few-per per.Range = refl
is_few-per per.TooWide = refl
is_few-per per.NotUtf8 = refl
is_few-per per.DefaultWritten = refl
is_few-per per.NotAValue = refl

few-per : (why : PerWhy) → length (per_reason why) ≤ 30
few-per why = leb-true (length (per_reason why)) 30 (is_few-per why)

is_few-der : (why : DerWhy) → is_few (der_reason why) ≡ true
is_few-der der.Short = refl
is_few-der der.Missing = refl
is_few-der der.Tag = refl
is_few-der der.TooDeep = refl
is_few-der der.TooMany = refl
is_few-der der.NotShortest = refl
is_few-der der.Content = refl
is_few-der der.TooWide = refl
is_few-der der.Range = refl
is_few-der der.NotUtf8 = refl
is_few-der der.DefaultWritten = refl
is_few-der der.NotAValue = refl

few-der : (why : DerWhy) → length (der_reason why) ≤ 30
few-der why = leb-true (length (der_reason why)) 30 (is_few-der why)

is_few-module : (why : ModuleWhy) → is_few (module_reason why) ≡ true
is_few-module module_why.NotUtf8 = refl
is_few-module module_why.Syntax = refl
is_few-module module_why.TooDeep = refl
is_few-module module_why.Duplicate = refl
is_few-module module_why.Unresolved = refl
is_few-module module_why.LongChain = refl
is_few-module module_why.Spelling = refl

few-module : (why : ModuleWhy) → length (module_reason why) ≤ 30
few-module why = leb-true (length (module_reason why)) 30 (is_few-module why)

-- ---- numbers

few_digits : (n : ℕ) → n < 2 ^ 64 → length (decimal n) ≤ 20
few_digits n lt = length-decimal-le 20 n (omega arith) (omega arith) lt

-- ---- lines

in_file : (k at : ℕ) (kind reason : List ℕ) → k < 2 ^ 64 → at < 2 ^ 64 → length kind ≤ 20 → length reason ≤ 30
    → length (codes "file " ++ decimal k ++ codes ", byte " ++ decimal at ++ kind ++ reason ++ codes "\n") ≤ 128
in_file k at kind reason few_files few_bytes few_words few_letters =
    let d : length (decimal k) ≤ 20 = few_digits k few_files in
    let e : length (decimal at) ≤ 20 = few_digits at few_bytes in
    simp length-append (omega arith)

pub of_syntax : (k at : ℕ) (why : DocWhy) → k < 2 ^ 64 → at < 2 ^ 64
    → length (codes "file " ++ decimal k ++ codes ", byte " ++ decimal at ++ codes ": syntax: " ++ reason_name why ++ codes "\n") ≤ 128
of_syntax k at why few_files few_bytes = in_file k at (codes ": syntax: ") (reason_name why) few_files few_bytes (omega arith) (few-xml why)

pub of_schema : (k at : ℕ) (why : SchemaWhy) → k < 2 ^ 64 → at < 2 ^ 64
    → length (codes "file " ++ decimal k ++ codes ", byte " ++ decimal at ++ codes ": schema: " ++ schema_reason why ++ codes "\n") ≤ 128
of_schema k at why few_files few_bytes = in_file k at (codes ": schema: ") (schema_reason why) few_files few_bytes (omega arith) (few-schema why)

pub of_link : (k at : ℕ) (why : LinkWhy) → k < 2 ^ 64 → at < 2 ^ 64
    → length (codes "file " ++ decimal k ++ codes ", byte " ++ decimal at ++ codes ": link: " ++ link_reason why ++ codes "\n") ≤ 128
of_link k at why few_files few_bytes = in_file k at (codes ": link: ") (link_reason why) few_files few_bytes (omega arith) (few-link why)

in_input : (at : ℕ) (unit kind reason : List ℕ) → at < 2 ^ 64 → length unit ≤ 20 → length kind ≤ 20 → length reason ≤ 30
    → length (unit ++ decimal at ++ kind ++ reason ++ codes "\n") ≤ 128
in_input at unit kind reason few_bytes few_words few_more few_letters =
    let e : length (decimal at) ≤ 20 = few_digits at few_bytes in
    simp length-append (omega arith)

pub of_document : (at : ℕ) (why : DocWhy) → at < 2 ^ 64 → length (codes "input, byte " ++ decimal at ++ codes ": syntax: " ++ reason_name why ++ codes "\n") ≤ 128
of_document at why few = in_input at (codes "input, byte ") (codes ": syntax: ") (reason_name why) few (omega arith) (omega arith) (few-xml why)

pub of_validity : (at : ℕ) (why : InvalidWhy) → at < 2 ^ 64 → length (codes "input, byte " ++ decimal at ++ codes ": invalid: " ++ invalid_reason why ++ codes "\n") ≤ 128
of_validity at why few = in_input at (codes "input, byte ") (codes ": invalid: ") (invalid_reason why) few (omega arith) (omega arith) (few-invalid why)

pub of_bits : (bit : ℕ) (why : PerWhy) → bit < 2 ^ 64 → length (codes "input, bit " ++ decimal bit ++ codes ": per: " ++ per_reason why ++ codes "\n") ≤ 128
of_bits bit why few = in_input bit (codes "input, bit ") (codes ": per: ") (per_reason why) few (omega arith) (omega arith) (few-per why)

pub of_octets : (at : ℕ) (why : DerWhy) → at < 2 ^ 64 → length (codes "input, byte " ++ decimal at ++ codes ": der: " ++ der_reason why ++ codes "\n") ≤ 128
of_octets at why few = in_input at (codes "input, byte ") (codes ": der: ") (der_reason why) few (omega arith) (omega arith) (few-der why)

pub of_module : (at : ℕ) (why : ModuleWhy) → at < 2 ^ 64 → length (codes "file 1, byte " ++ decimal at ++ codes ": module: " ++ module_reason why ++ codes "\n") ≤ 128
of_module at why few = in_input at (codes "file 1, byte ") (codes ": module: ") (module_reason why) few (omega arith) (omega arith) (few-module why)

pub of_record : (number bit : ℕ) (why : PerWhy) → number < 2 ^ 64 → bit < 2 ^ 64
    → length (codes "record " ++ decimal number ++ codes ", bit " ++ decimal bit ++ codes ": per: " ++ per_reason why ++ codes "\n") ≤ 128
of_record number bit why few_records few_bits =
    let d : length (decimal number) ≤ 20 = few_digits number few_records in
    let e : length (decimal bit) ≤ 20 = few_digits bit few_bits in
    let r : length (per_reason why) ≤ 30 = few-per why in
    simp length-append (omega arith)

pub of_number : (n : ℕ) (before after : List ℕ) → n < 2 ^ 64 → length before ≤ 20 → length after ≤ 20 → length (before ++ decimal n ++ after) ≤ 128
of_number n before after few few_words few_more =
    let e : length (decimal n) ≤ 20 = few_digits n few in
    simp length-append (omega arith)

pub of_place : (k : ℕ) → k < 2 ^ 64 → length (place k ++ codes ": too long\n") ≤ 128
of_place zero few = omega arith
of_place (suc k) few = of_number (suc k) (codes "file ") (codes ": too long\n") few (omega arith) (omega arith)
