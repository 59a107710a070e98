-- The module that a text tells has fixed values of octets.
use Rattle.std.proofs.Common.{◌≡◌, ℕ, ◌<◌, ◌+◌, ◌*◌, Bool, true, false, ◌&&◌, Option, Some, None, List, [], ◌∷◌, map, refl, arith}
use Rattle.std.specs.Prelude.{All, unwrap_or}
use Rattle.std.proofs.lemmas.Bool.Decides.{nat_tests}
use Rattle.std.proofs.lemmas.List.Elements.{All-nil, All-cons}
use Rattle.base_trees.specs.Rose.{Rose, node, Roses, none, more, list_of}
use Rattle.simple_types.specs.declared.simples.Class.{Class}
use Rattle.simple_types.specs.declared.standards.Standard.TheVariants.{Free, Default}
use Rattle.simple_types.specs.Space.{Space}
use Rattle.asn_types.specs.declared.types.Component.{Component}
use Rattle.asn_types.specs.declared.modules.Assignment.{Assignment}
use Rattle.asn_types.specs.Parts as meant
use Rattle.module_print.specs.Printed.{printed}
use Rattle.module_text.specs.Names.{is_hexadecimal_digit}
use Rattle.module_text.specs.declared.marks.TypeMark.{TypeMark}
use Rattle.module_text.specs.declared.values.PlainOctets.{PlainOctets}
use Rattle.module_text.specs.declared.values.Absence.{Absence}
use Rattle.module_text.specs.declared.values.Absence.TheVariants as absence
use Rattle.module_text.specs.declared.types.PlainName.{PlainName}
use Rattle.module_text.specs.declared.types.PlainPart.{PlainPart}
use Rattle.module_text.specs.declared.types.PlainForm.{PlainForm}
use Rattle.module_text.specs.declared.types.PlainForm.TheVariants as form
use Rattle.module_text.specs.declared.types.PlainLabel.{PlainLabel}
use Rattle.module_text.specs.declared.modules.PlainAssignment.{PlainAssignment}
use Rattle.module_text.specs.Texts.{parts_of}
use Rattle.module_grammar.specs.TextsRead.{AllTextsRead}
use Rattle.module_text.specs.declared.spots.Spot.{Spot}
use Rattle.module_text.specs.declared.spots.Spot.TheVariants.{Elsewhere}
use Rattle.module_text.specs.Told.{Bounds, Sizes, range_of, sizes_of}
use Rattle.module_text.specs.Simple.{is_order_item}
use Rattle.module_text.specs.Defaults.{digit_of, with_octet, octets_of, default_told}
use Rattle.module_text.specs.Faults.{space_at, part_spot}
use Rattle.module_text.specs.Meaning.{words_meant, int_meant, utf8_meant, list_meant, default_meant, standard_meant, component_meant, components_meant, item_meant, form_meant, type_meant, types_meant, assignment_meant, module_meant}
use Rattle.module_text.specs.Printable.{IsPrintable}
use Rattle.module_text.specs.ReadBack.{IsReadBack}
use Rattle.module_text.proofs.PrintedBounds.{and-first, and-second}
use Rattle.module_unique.specs.Alike.{HasOctets, AreOfOctets, AllAreOfOctets, IsOfOctets}
use Rattle.module_unique.proofs.Unique.{prints_differ}

abbrev AreOctets : List ℕ → Type 0
AreOctets text = All (λ octet. octet < 256) text

digit_small : (b : ℕ) → is_hexadecimal_digit b ≡ true → digit_of b < 16
digit_small b e = grind (arith, nat_tests, e)

more_octets : (high low : ℕ) (hex : Bool) (o : Option (List ℕ)) → (is_hexadecimal_digit high && is_hexadecimal_digit low) ≡ hex → AreOctets (unwrap_or o [])
    → AreOctets (unwrap_or (with_octet hex (16 * digit_of high + digit_of low) o) [])
more_octets high low false o is rest = All-nil (λ octet. octet < 256)
more_octets high low true None is rest = All-nil (λ octet. octet < 256)
more_octets high low true (Some octets) is rest =
    let h = digit_small high (and-first (is_hexadecimal_digit high) (is_hexadecimal_digit low) is) in
    let l = digit_small low (and-second (is_hexadecimal_digit high) (is_hexadecimal_digit low) is) in
    All-cons (λ octet. octet < 256) (16 * digit_of high + digit_of low) octets (omega (arith, h, l)) rest

octets_small : (digits : List ℕ) → AreOctets (unwrap_or (octets_of digits) [])
octets_small [] = All-nil (λ octet. octet < 256)
octets_small (high ∷ []) = All-nil (λ octet. octet < 256)
octets_small (high ∷ low ∷ digits) = more_octets high low (is_hexadecimal_digit high && is_hexadecimal_digit low) (octets_of digits) refl (octets_small digits)

default_text : (o : Option (List ℕ)) → HasOctets (elim o [ None ↦ Free | Some text ↦ Default text ])
default_text None = tt
default_text (Some text) = tt

default_has : (space : Option Space) (t : Rose PlainLabel) (a : Absence) → HasOctets (default_meant space t a)
default_has space (node l ts) absence.Never = tt
default_has space (node l ts) absence.Optional = tt
default_has None (node l ts) (absence.Default v) = tt
default_has (Some s) (node l ts) (absence.Default v) = default_text (default_told s l (list_of ts) v)

standard_has : (space : Option Space) (t : Rose PlainLabel) (fixed : Option PlainOctets) (a : Absence) → HasOctets (standard_meant space t fixed a)
standard_has space t None a = default_has space t a
standard_has space t (Some octets) a = octets_small octets.digits

abbrev Has : Component → Type 0
Has part = HasOctets part.standard

int_has : (o : Option Bounds) → All Has (meant.parts_of (int_meant o))
int_has None = All-nil Has
int_has (Some b) = All-nil Has

utf8_has : (o : Option Sizes) (class : Class) → All Has (meant.parts_of (utf8_meant o class))
utf8_has None class = All-nil Has
utf8_has (Some b) class = All-nil Has

words_has : (order : Bool) (ms : List TypeMark) (is : List PlainName) → All Has (meant.parts_of (words_meant order ms is))
words_has true ms is = All-nil Has
words_has false ms is = All-nil Has

list_has : (o : Option Sizes) (part : Component) → Has part → All Has (meant.parts_of (list_meant o part))
list_has None part h = All-cons Has part [] h (All-nil Has)
list_has (Some b) part h = All-cons Has part [] h (All-nil Has)

module _ (P : List PlainAssignment) where
  component_has : (spot : Spot) (part : PlainPart) (t : Rose PlainLabel) → Has (component_meant P spot part t)
  component_has spot part t = standard_has (space_at P spot part.marks t) _ part.fixed part.absence

  components_has : (spot : Spot) (l : PlainLabel) (i : ℕ) (parts : List PlainPart) (ts : Roses PlainLabel) → All Has (components_meant P spot l i parts ts)
  components_has spot l i [] ts = All-nil Has
  components_has spot l i (part ∷ parts) none = All-nil Has
  components_has spot l i (part ∷ parts) (more t ts) =
      All-cons Has (component_meant P (part_spot spot l i part) part t) (components_meant P spot l (i + 1) parts ts) (component_has (part_spot spot l i part) part t) (components_has spot l (i + 1) parts ts)

  item_has : (spot : Spot) (part : PlainPart) (ts : Roses PlainLabel) → Has (item_meant P spot part ts)
  item_has spot part none = tt
  item_has spot part (more t ts) = component_has spot part t

  form_has : (at : ℕ) (ms : List TypeMark) (f : PlainForm) (ts : Roses PlainLabel) (spot : Spot) → All Has (meant.parts_of (form_meant P spot (record { at = at; marks = ms; form = f }) ts))
  form_has at ms form.Bool ts spot = All-nil Has
  form_has at ms (form.Int r) ts spot = int_has (range_of r)
  form_has at ms (form.Numbers items) ts spot = All-nil Has
  form_has at ms (form.Words is) ts spot = words_has (is_order_item spot) ms is
  form_has at ms (form.Utf8 size class) ts spot = utf8_has (sizes_of size) class
  form_has at ms (form.Sequence parts) ts spot = components_has spot (record { at = at; marks = ms; form = form.Sequence parts }) 0 parts ts
  form_has at ms (form.Choice parts) ts spot = components_has spot (record { at = at; marks = ms; form = form.Choice parts }) 0 parts ts
  form_has at ms (form.SequenceOf size item) ts spot =
      let there = part_spot spot (record { at = at; marks = ms; form = form.SequenceOf size item }) 0 item in
      list_has (sizes_of size) (item_meant P there item ts) (item_has there item ts)
  form_has at ms (form.Ref reference) ts spot = All-nil Has

  mutual
    type_has : (t : Rose PlainLabel) (spot : Spot) → AreOfOctets (type_meant P spot t)
    type_has (node l ts) spot = (form_has l.at l.marks l.form ts spot, types_has ts spot l 0 (parts_of l.form))

    types_has : (ts : Roses PlainLabel) (spot : Spot) (l : PlainLabel) (i : ℕ) (parts : List PlainPart) → AllAreOfOctets (types_meant P spot l i parts ts)
    types_has none spot l i parts = tt
    types_has (more t ts) spot l i [] = tt
    types_has (more t ts) spot l i (part ∷ parts) = (type_has t (part_spot spot l i part), types_has ts spot l (i + 1) parts)

  all_has : (entries : List PlainAssignment) → IsOfOctets (map (assignment_meant P) entries)
  all_has [] = All-nil (λ (a : Assignment). AreOfOctets a.body)
  all_has (a ∷ entries) =
      All-cons (λ (b : Assignment). AreOfOctets b.body) (assignment_meant P a) (map (assignment_meant P) entries) (type_has a.body Elsewhere) (all_has entries)

  pub octets_meant : IsOfOctets (module_meant P)
  octets_meant = all_has P

-- A text whose print is that of a printable module tells this module, where it tells a printable one.
pub meant_is : AllTextsRead → (M : List Assignment) → IsPrintable M → IsOfOctets M → (P : List PlainAssignment) → IsReadBack (printed M) (module_meant P) → module_meant P ≡ M
meant_is read M is octets P told = prints_differ read (module_meant P) M told.printable is (octets_meant P) octets told.text
