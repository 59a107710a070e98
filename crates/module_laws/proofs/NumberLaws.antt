-- The items of an ENUMERATED that stand for numbers: without a fault they ascend, and are printed as they are written.
use Rattle.std.proofs.Common.{◌≡◌, ℕ, suc, true, ◌&&◌, not, Option, Some, None, List, [], ◌∷◌, ◌++◌, length, map, refl, sym, ap, ◌∙◌, codes}
use Rattle.std.specs.Prelude.{ℤ, int_lt}
use Rattle.std.proofs.lemmas.List.Elements.{All-nil, All-cons}
use Rattle.simple_types.specs.Lexical.{is_128_bits}
use Rattle.asn_types.specs.Bounds.{AreWhole}
use Rattle.module_print.specs.Instructions.{number_identifier}
use Rattle.module_print.specs.Printed.{numbered_item}
use Rattle.module_text.specs.declared.types.NumberedItem.{NumberedItem}
use Rattle.module_text.specs.Texts.{item_text}
use Rattle.module_text.specs.declared.reasons.ModuleWhy.TheVariants as why
use Rattle.module_text.specs.Listed.{unless}
use Rattle.module_text.specs.Told.{whole_of, is_printed_number}
use Rattle.module_text.specs.Simple.{with_number, numbers_of, ascend_behind}
use Rattle.module_text.specs.Faults.{has_text, is_above, is_numbered_so, item_faults, numbered_faults}
use Rattle.module_text.proofs.PrintedBounds.{unless-none, front-none, behind-none, and-first, and-second, Printed, printed-is}
use Rattle.module_laws.proofs.NameLaws.{and-both}
use Rattle.module_laws.proofs.Firsts.{same_bytes}
use Rattle.module_laws.proofs.SizeLaws.{whole-bits}

pub record PrintedNumbers (last : Option ℤ) (items : List NumberedItem) : Type 0 where
  pub numbers : List ℤ
  pub is : numbers_of items ≡ Some numbers
  pub printed : map numbered_item numbers ≡ map item_text items
  pub ascend : ascend_behind last numbers ≡ true
  pub whole : AreWhole numbers
  pub long : length numbers ≡ length items
  pub names : map number_identifier numbers ≡ map (λ (item : NumberedItem). item.identifier.name) items

ascend_more : (last : Option ℤ) (z : ℤ) (zs : List ℤ) → is_above last (Some z) ≡ true → ascend_behind (Some z) zs ≡ true → ascend_behind last (z ∷ zs) ≡ true
ascend_more None z zs e f = f
ascend_more (Some y) z zs e f = and-both (int_lt y z) (ascend_behind (Some z) zs) e f

item_printed : (item : NumberedItem) (p : Printed item.number) → is_numbered_so item ≡ true → numbered_item p.number ≡ item_text item
item_printed item p so =
    ap (λ text. (codes "int" ++ text) ++ codes "(" ++ text ++ codes ")") p.text
    ∙ ap (λ name. name ++ codes "(" ++ item.number.written ++ codes ")") (sym (same_bytes item.identifier.name (codes "int" ++ item.number.written) so))

more_numbers : (last : Option ℤ) (item : NumberedItem) (items : List NumberedItem) (p : Printed item.number) → is_numbered_so item ≡ true
    → is_above last (whole_of item.number) ≡ true → PrintedNumbers (whole_of item.number) items → PrintedNumbers last (item ∷ items)
more_numbers last item items p so above rest = record {
  numbers = p.number ∷ rest.numbers;
  is = ap (λ o. with_number o (numbers_of items)) p.is ∙ ap (λ o. with_number (Some p.number) o) rest.is;
  printed = ap (λ text. text ∷ map numbered_item rest.numbers) (item_printed item p so) ∙ ap (λ texts. item_text item ∷ texts) rest.printed;
  ascend = ascend_more last p.number rest.numbers (sym (ap (λ o. is_above last o) p.is) ∙ above) (sym (ap (λ o. ascend_behind o rest.numbers) p.is) ∙ rest.ascend);
  whole = All-cons (λ z. is_128_bits z ≡ true) p.number rest.numbers (whole-bits item.number p.number p.is) rest.whole;
  long = ap suc rest.long;
  names =
      ap (λ text. (codes "int" ++ text) ∷ map number_identifier rest.numbers) p.text
      ∙ ap (λ name. name ∷ map number_identifier rest.numbers) (sym (same_bytes item.identifier.name (codes "int" ++ item.number.written) so))
      ∙ ap (λ names. item.identifier.name ∷ names) rest.names;
}

pub numbers-printed : (before : List (List ℕ)) (last : Option ℤ) (items : List NumberedItem) → numbered_faults before last items ≡ [] → PrintedNumbers last items
numbers-printed before last [] e = record { numbers = []; is = refl; printed = refl; ascend = refl; whole = All-nil (λ z. is_128_bits z ≡ true); long = refl; names = refl }
numbers-printed before last (item ∷ items) e =
    let others = numbered_faults (before ++ item.identifier.name ∷ []) (whole_of item.number) items in
    let both = behind-none (unless (not (has_text before item.identifier.name)) item.identifier.at why.Duplicate) (item_faults last item) (front-none _ others e) in
    let so = unless-none (is_numbered_so item) item.identifier.at why.Spelling (front-none _ _ both) in
    let ok = unless-none (is_printed_number item.number && is_above last (whole_of item.number)) item.number.at why.Spelling (behind-none (unless (is_numbered_so item) item.identifier.at why.Spelling) _ both) in
    let p = printed-is item.number (and-first (is_printed_number item.number) (is_above last (whole_of item.number)) ok) in
    more_numbers last item items p so (and-second (is_printed_number item.number) (is_above last (whole_of item.number)) ok)
    (numbers-printed (before ++ item.identifier.name ∷ []) (whole_of item.number) items (behind-none _ others e))
