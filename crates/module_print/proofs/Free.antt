-- Pieces of the notation that have no bracket and no quotation mark.
use Rattle.std.proofs.Common.{◌≡◌, ◌==◌, ◌+◌, ◌/◌, ◌%◌, ◌<◌, ◌≤◌, ℕ, zero, suc, ℤ, pos, negsuc, Bool, true, false, arith, List, [], ◌∷◌, ◌++◌, Option, Some, None, codes, refl, ◌∙◌}
use Rattle.std.specs.Prelude.{All, map, slice_get, unwrap_or, nat_lt, if◌then◌else◌}
use Rattle.std.specs.Option.{option_map}
use Rattle.std.specs.Ordering.{int_eq}
use Rattle.std.specs.Fmt.{digits, digits_onto, digit_glyph, decimal, signed_decimal}
use Rattle.std.proofs.lemmas.List.Folds.{list_all-append}
use Rattle.std.proofs.lemmas.List.Elements.{All-nil, All-cons, All-head, All-tail}
use Rattle.simple_types.specs.declared.simples.Class.{Class}
use Rattle.simple_types.specs.declared.simples.Class.TheVariants.{Any, Language, NmToken, Name, NcName}
use Rattle.simple_types.specs.declared.standards.Standard.{Standard}
use Rattle.simple_types.specs.declared.standards.Standard.TheVariants.{Free, Default, Fixed}
use Rattle.asn_types.specs.declared.types.Form.{Form}
use Rattle.asn_types.specs.declared.types.Form.TheVariants as form
use Rattle.asn_types.specs.declared.modules.Assignment.{Assignment}
use Rattle.module_print.specs.Notation.{hexadecimal_digit, both_digits, hexadecimal, end_of, from_to, range, number_range, size, size_range, commented, class_range, fixed_range, listed, enumerated, indent, new_line}
use Rattle.module_print.specs.Instructions.{number_identifier, item_identifier}
use Rattle.module_print.specs.Printed.{reference_at, numbered_item, integer, text_type, sequence_of, labelled}
use Rattle.module_print.specs.Names.{is_free, IsFree, HasOctets, identifiers_of, IsNamedAssignment, IsNotation}

pub free_append : (x y : List ℕ) → IsFree x → IsFree y → IsFree (x ++ y)
free_append x y first second = list_all-append is_free x y ∙ rw (first, second) refl

free_cons : (b : ℕ) (x : List ℕ) → is_free b ≡ true → IsFree x → IsFree (b ∷ x)
free_cons b x first others = rw (first, others) refl

-- ---- numbers

digit : (d : ℕ) → d < 10 → is_free (48 + d) ≡ true
digit d few = grind (arith, few)

glyph : (d : ℕ) → d < 10 → is_free (digit_glyph false d) ≡ true
glyph d few = let below : nat_lt d 10 ≡ true = grind (arith, few) in rw below (digit d few)

either : (v : Bool) (x y : List ℕ) → IsFree x → IsFree y → IsFree (if v then x else y)
either true x y first second = first
either false x y first second = second

onto : (k n : ℕ) (rest : List ℕ) → IsFree rest → IsFree (digits_onto k 10 false n rest)
onto zero n rest free = free
onto (suc k) n rest free =
    let more = free_cons (digit_glyph false (n % 10)) rest (glyph (n % 10) (omega arith)) free in
    either (n / 10 == 0) (digit_glyph false (n % 10) ∷ rest) (digits_onto k 10 false (n / 10) (digit_glyph false (n % 10) ∷ rest)) more (onto k (n / 10) (digit_glyph false (n % 10) ∷ rest) more)

free_decimal : (n : ℕ) → IsFree (decimal n)
unfolding digits
free_decimal n = onto 64 n [] refl

pub free_number : (z : ℤ) → IsFree (signed_decimal z)
free_number (pos n) = free_decimal n
free_number (negsuc n) = free_cons 45 (decimal (suc n)) refl (free_decimal (suc n))

pub free_number_identifier : (z : ℤ) → IsFree (number_identifier z)
free_number_identifier z = free_append (codes "int") (signed_decimal z) refl (free_number z)

-- ---- octets

letter : (n : ℕ) → 10 ≤ n → n < 16 → is_free (55 + n) ≡ true
letter n least most = grind (arith, least, most)

hexadecimal_go : (n : ℕ) (v : Bool) → nat_lt n 10 ≡ v → n < 16 → is_free (if v then 48 + n else 55 + n) ≡ true
hexadecimal_go n true e few = digit n (grind (arith, e))
hexadecimal_go n false e few = letter n (grind (arith, e)) few

free_digit : (n : ℕ) → n < 16 → is_free (hexadecimal_digit n) ≡ true
free_digit n few = hexadecimal_go n (nat_lt n 10) refl few

free_hexadecimal : (octets : List ℕ) → All (λ octet. octet < 256) octets → IsFree (hexadecimal octets)
free_hexadecimal [] all = refl
free_hexadecimal (octet ∷ octets) all =
    let few = All-head (λ octet. octet < 256) octet octets all in
    free_append (both_digits octet) (hexadecimal octets)
    (free_cons (hexadecimal_digit (octet / 16)) (hexadecimal_digit (octet % 16) ∷ []) (free_digit (octet / 16) (omega (arith, few)))
    (free_cons (hexadecimal_digit (octet % 16)) [] (free_digit (octet % 16) (omega arith)) refl))
    (free_hexadecimal octets (All-tail (λ octet. octet < 256) octet octets all))

-- ---- constraints

free_end : (open_end : List ℕ) (z : Option ℤ) → IsFree open_end → IsFree (end_of open_end z)
free_end open_end (Some z) free = free_number z
free_end open_end None free = free

free_from_to : (least greatest : Option ℤ) → IsFree (from_to least greatest)
free_from_to least greatest =
    let above = free_end (codes "MAX") greatest refl in
    free_append (end_of (codes "MIN") least ++ codes "..") (end_of (codes "MAX") greatest)
    (free_append (end_of (codes "MIN") least) (codes "..") (free_end (codes "MIN") least refl) refl) above

free_range : (least greatest : Option ℤ) → IsFree (range least greatest)
free_range (Some a) (Some b) = either (int_eq a b) (signed_decimal a) (from_to (Some a) (Some b)) (free_number a) (free_from_to (Some a) (Some b))
free_range (Some a) None = free_from_to (Some a) None
free_range None (Some b) = free_from_to None (Some b)
free_range None None = free_from_to None None

free_within : (least greatest : Option ℤ) → IsFree (codes " (" ++ range least greatest ++ codes ")")
free_within least greatest =
    free_append (codes " (" ++ range least greatest) (codes ")") (free_append (codes " (") (range least greatest) refl (free_range least greatest)) refl

free_number_range : (least greatest : Option ℤ) → IsFree (number_range least greatest)
free_number_range None None = refl
free_number_range (Some a) greatest = free_within (Some a) greatest
free_number_range None (Some b) = free_within None (Some b)

free_size : (least : ℕ) (most : Option ℕ) → IsFree (size least most)
free_size least most =
    let both = range (Some (pos least)) (option_map pos most) in
    free_append (codes " (SIZE (" ++ both) (codes "))") (free_append (codes " (SIZE (") both refl (free_range (Some (pos least)) (option_map pos most))) refl

free_size_range : (least : ℕ) (most : Option ℕ) → IsFree (size_range least most)
free_size_range zero None = refl
free_size_range zero (Some n) = free_size zero (Some n)
free_size_range (suc least) most = free_size (suc least) most

free_commented : (name : List ℕ) → IsFree name → IsFree (commented name)
free_commented name free =
    free_append (codes " (CONSTRAINED BY {/* " ++ name) (codes " */})") (free_append (codes " (CONSTRAINED BY {/* ") name refl free) refl

free_class_range : (class : Class) → IsFree (class_range class)
free_class_range Any = refl
free_class_range Language = refl
free_class_range NmToken = refl
free_class_range Name = refl
free_class_range NcName = refl

pub free_fixed_range : (standard : Standard) → HasOctets standard → IsFree (fixed_range standard)
free_fixed_range Free octets = refl
free_fixed_range (Default text) octets = refl
free_fixed_range (Fixed text) octets =
    free_commented (codes "fixed " ++ hexadecimal text) (free_append (codes "fixed ") (hexadecimal text) refl (free_hexadecimal text octets))

-- ---- lists

free_listed : (items : List (List ℕ)) → All IsFree items → IsFree (listed (codes " ") items)
free_listed [] all = refl
free_listed (x ∷ []) all = free_append (codes " ") x refl (All-head IsFree x [] all)
free_listed (x ∷ y ∷ xs) all =
    free_append (codes " " ++ x) (44 ∷ listed (codes " ") (y ∷ xs)) (free_append (codes " ") x refl (All-head IsFree x (y ∷ xs) all))
    (free_cons 44 (listed (codes " ") (y ∷ xs)) refl (free_listed (y ∷ xs) (All-tail IsFree x (y ∷ xs) all)))

pub free_enumerated : (items : List (List ℕ)) → All IsFree items → IsFree (enumerated items)
free_enumerated items all =
    free_append (codes "ENUMERATED {" ++ listed (codes " ") items) (codes " }")
    (free_append (codes "ENUMERATED {") (listed (codes " ") items) refl (free_listed items all)) refl

free_numbered : (numbers : List ℤ) → All IsFree (map numbered_item numbers)
free_numbered [] = All-nil IsFree
free_numbered (z ∷ zs) =
    All-cons IsFree (numbered_item z) (map numbered_item zs)
    (free_append (number_identifier z ++ codes "(" ++ signed_decimal z) (codes ")")
    (free_append (number_identifier z ++ codes "(") (signed_decimal z) (free_append (number_identifier z) (codes "(") (free_number_identifier z) refl) (free_number z)) refl)
    (free_numbered zs)

free_indent : (levels : ℕ) → IsFree (indent levels)
free_indent zero = refl
free_indent (suc levels) = free_append (codes "    ") (indent levels) refl (free_indent levels)

pub free_new_line : (levels : ℕ) → IsFree (new_line levels)
free_new_line levels = free_cons 10 (indent levels) refl (free_indent levels)

-- ---- types

pub free_integer : (least greatest : Option ℤ) → IsFree (integer least greatest)
free_integer least greatest = free_append (codes "INTEGER") (number_range least greatest) refl (free_number_range least greatest)

pub free_numbers : (numbers : List ℤ) → IsFree (enumerated (map numbered_item numbers))
free_numbers numbers = free_enumerated (map numbered_item numbers) (free_numbered numbers)

pub free_text_type : (least : ℕ) (most : Option ℕ) (class : Class) → IsFree (text_type least most class)
free_text_type least most class =
    free_append (codes "UTF8String" ++ size_range least most) (class_range class)
    (free_append (codes "UTF8String") (size_range least most) refl (free_size_range least most)) (free_class_range class)

pub free_sequence_of : (least : ℕ) (most : Option ℕ) → IsFree (sequence_of least most)
free_sequence_of least most =
    free_append (codes "SEQUENCE" ++ size_range least most) (codes " OF ")
    (free_append (codes "SEQUENCE") (size_range least most) refl (free_size_range least most)) refl

pub free_labelled : (identifier : List ℕ) → IsFree identifier → IsFree (labelled identifier)
free_labelled [] free = refl
free_labelled (b ∷ bs) free = free_append (b ∷ bs) (codes " ") free refl

-- ---- names

-- one of them, or none
pub free_at : (names : List (List ℕ)) (k : ℕ) → All IsFree names → IsFree (unwrap_or (slice_get names k) [])
free_at [] k all = refl
free_at (x ∷ xs) zero all = All-head IsFree x xs all
free_at (x ∷ xs) (suc k) all = free_at xs k (All-tail IsFree x xs all)

number_at : (numbers : List ℤ) (k : ℕ) → IsFree (unwrap_or (option_map number_identifier (slice_get numbers k)) [])
number_at [] k = refl
number_at (z ∷ zs) zero = free_number_identifier z
number_at (z ∷ zs) (suc k) = number_at zs k

pub free_item : (f : Form) (k : ℕ) → All IsFree (identifiers_of f) → IsFree (unwrap_or (item_identifier f k) [])
free_item (form.Words identifiers words) k all = free_at identifiers k all
free_item (form.Numbers numbers) k all = number_at numbers k
free_item (form.Order identifiers) k all = refl
free_item form.Bool k all = refl
free_item (form.Int least greatest) k all = refl
free_item (form.Utf8 least most class) k all = refl
free_item (form.Sequence components) k all = refl
free_item (form.Choice alternatives) k all = refl
free_item (form.SequenceOf part least most) k all = refl
free_item (form.Ref to) k all = refl

pub free_reference : (M : List Assignment) (to : ℕ) → IsNotation M → IsFree (reference_at M to)
free_reference [] to named = refl
free_reference (a ∷ others) zero named = (All-head IsNamedAssignment a others named).0
free_reference (a ∷ others) (suc to) named = free_reference others to (All-tail IsNamedAssignment a others named)
