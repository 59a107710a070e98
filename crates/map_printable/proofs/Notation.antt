-- Printable modules are notation, where their fixed values are octets: their names have letters, digits and hyphens only.
use Rattle.std.proofs.Common.{◌≡◌, ◌≢◌, ℕ, ◌+◌, Bool, true, false, ◌&&◌, not, List, [], ◌∷◌, length, map, All, refl, arith}
use Rattle.std.specs.Prelude.{◌==◌, if◌then◌else◌}
use Rattle.std.specs.List.{list_all}
use Rattle.std.proofs.lemmas.Bool.Decides.{nat_tests}
use Rattle.std.proofs.lemmas.List.Elements.{All-nil, All-cons, All-head, All-tail, All-weaker}
use Rattle.base_trees.specs.Rose.{Rose, node, Roses, none, more, length_all, Allowed, AllowedAll}
use Rattle.asn_types.specs.declared.types.Component.{Component}
use Rattle.asn_types.specs.declared.types.Form.{Form}
use Rattle.asn_types.specs.declared.types.Form.TheVariants as form
use Rattle.asn_types.specs.declared.types.TypeLabel.{TypeLabel}
use Rattle.asn_types.specs.declared.modules.Assignment.{Assignment}
use Rattle.asn_types.specs.Modules.{IsAssignment, IsModule}
use Rattle.asn_types.specs.Parts.{parts_of, MayHave}
use Rattle.module_print.specs.Names.{is_free, IsFree, HasOctets, IsNamed, IsNamedAssignment, IsNotation}
use Rattle.module_print.specs.Names as print
use Rattle.module_text.specs.Names.{is_capital, is_small, is_letter_or_digit, goes_on, is_reference}
use Rattle.module_text.specs.Printable.{IsIdentifier, part_spot, ArePrintable, AllPrintable, IsPrintableAssignment}
use Rattle.module_text.specs.Printable as text
use Rattle.module_text.specs.declared.spots.Spot.{Spot}
use Rattle.module_text.specs.declared.spots.Spot.TheVariants.{Elsewhere}
use Rattle.map_printable.specs.Maps.{HasFixedOctets, HaveFixedOctets, FixedAreOctets}
use Rattle.map_printable.proofs.Names.{and-both, and-first, and-second}

-- ---- names

letter-free : (b : ℕ) → is_letter_or_digit b ≡ true → is_free b ≡ true
letter-free b e = grind (arith, nat_tests, e)

hyphen-free : (b : ℕ) → (b == 0x2D) ≡ true → is_free b ≡ true
hyphen-free b e = grind (arith, nat_tests, e)

capital-free : (b : ℕ) → is_capital b ≡ true → is_free b ≡ true
capital-free b e = grind (arith, nat_tests, e)

small-free : (b : ℕ) → is_small b ≡ true → is_free b ≡ true
small-free b e = grind (arith, nat_tests, e)

goes-free : (hyphen : Bool) (bs : List ℕ) → goes_on hyphen bs ≡ true → IsFree bs
goes-free hyphen [] e = refl
goes-free hyphen (b ∷ bs) e = by (goes-free true bs) (goes-free false bs) (b == 0x2D) refl e
  where
    by : (goes_on true bs ≡ true → IsFree bs) → (goes_on false bs ≡ true → IsFree bs) → (t : Bool) → (b == 0x2D) ≡ t
        → (if t then not hyphen && goes_on true bs else is_letter_or_digit b && goes_on false bs) ≡ true → IsFree (b ∷ bs)
    by behind others true is e = and-both (is_free b) (list_all is_free bs) (hyphen-free b is) (behind (and-second (not hyphen) (goes_on true bs) e))
    by behind others false is e =
        and-both (is_free b) (list_all is_free bs) (letter-free b (and-first (is_letter_or_digit b) (goes_on false bs) e)) (others (and-second (is_letter_or_digit b) (goes_on false bs) e))

reference-free : (name : List ℕ) → is_reference name ≡ true → IsFree name
reference-free [] e = refl
reference-free (b ∷ bs) e =
    and-both (is_free b) (list_all is_free bs) (capital-free b (and-first (is_capital b) (goes_on false bs) e)) (goes-free false bs (and-second (is_capital b) (goes_on false bs) e))

identifier-free : (name : List ℕ) → IsIdentifier name → IsFree name
identifier-free [] e = refl
identifier-free (b ∷ bs) e =
    and-both (is_free b) (list_all is_free bs) (small-free b (and-first (is_small b) (goes_on false bs) e)) (goes-free false bs (and-second (is_small b) (goes_on false bs) e))

-- that of an item may be empty
item-free : (name : List ℕ) → (name ≢ [] → IsIdentifier name) → IsFree name
item-free [] h = refl
item-free (b ∷ bs) h = identifier-free (b ∷ bs) (h (λ (e : b ∷ bs ≡ []). cc))

-- ---- parts

abbrev HasFree : Component → Type 0
HasFree part = IsFree part.identifier

abbrev Fixes : Component → Type 0
Fixes part = HasOctets part.standard

parts-named : (parts : List Component) → All HasFree parts → All Fixes parts → All IsNamed parts
parts-named [] free octets = All-nil IsNamed
parts-named (part ∷ parts) free octets =
    All-cons IsNamed part parts (All-head HasFree part parts free, All-head Fixes part parts octets) (parts-named parts (All-tail HasFree part parts free) (All-tail Fixes part parts octets))

parts-free : (parts : List Component) → All IsIdentifier (map (λ (part : Component). part.identifier) parts) → All HasFree parts
parts-free [] h = All-nil HasFree
parts-free (part ∷ parts) h =
    let others = map (λ (p : Component). p.identifier) parts in
    All-cons HasFree part parts (identifier-free part.identifier (All-head IsIdentifier part.identifier others h)) (parts-free parts (All-tail IsIdentifier part.identifier others h))

form-parts : (f : Form) → text.HasNames f → All HasFree (parts_of f)
form-parts (form.Sequence parts) h = parts-free parts h.0
form-parts (form.Choice parts) h = parts-free parts h.0.0
form-parts (form.SequenceOf part least most) h = All-cons HasFree part [] (item-free part.identifier h.0) (All-nil HasFree)
form-parts form.Bool h = All-nil HasFree
form-parts (form.Int least greatest) h = All-nil HasFree
form-parts (form.Numbers numbers) h = All-nil HasFree
form-parts (form.Words identifiers words) h = All-nil HasFree
form-parts (form.Order identifiers) h = All-nil HasFree
form-parts (form.Utf8 least most class) h = All-nil HasFree
form-parts (form.Ref to) h = All-nil HasFree

form-items : (f : Form) → text.HasNames f → All IsFree (print.identifiers_of f)
form-items (form.Words identifiers words) h = All-weaker IsIdentifier IsFree identifier-free identifiers h.0
form-items (form.Order identifiers) h = All-weaker IsIdentifier IsFree identifier-free identifiers h.0
form-items (form.Sequence parts) h = All-nil IsFree
form-items (form.Choice parts) h = All-nil IsFree
form-items (form.SequenceOf part least most) h = All-nil IsFree
form-items form.Bool h = All-nil IsFree
form-items (form.Int least greatest) h = All-nil IsFree
form-items (form.Numbers numbers) h = All-nil IsFree
form-items (form.Utf8 least most class) h = All-nil IsFree
form-items (form.Ref to) h = All-nil IsFree

-- ---- types and assignments

mutual
  type-named : (spot : Spot) (t : Rose TypeLabel) → ArePrintable spot t → Allowed MayHave t → HasFixedOctets t → print.HasNames t
  type-named spot (node l ts) p a o =
      (form-items l.form p.0.names, parts-named (parts_of l.form) (form-parts l.form p.0.names) o.0, kids-named spot l 0 (parts_of l.form) ts p.1 a.0 a.1 o.1)

  kids-named : (spot : Spot) (l : TypeLabel) (i : ℕ) (parts : List Component) (ts : Roses TypeLabel) → AllPrintable spot l i parts ts → length_all ts ≡ length parts → AllowedAll MayHave ts → HaveFixedOctets ts
      → print.HaveNames ts
  kids-named spot l i parts none p n a o = tt
  kids-named spot l i [] (more t ts) p n a o = absurd (omega (arith, n))
  kids-named spot l i (part ∷ parts) (more t ts) p n a o =
      (type-named (part_spot spot l i part) t p.0 a.0 o.0, kids-named spot l (i + 1) parts ts p.1 (omega (arith, n)) a.1 o.1)

all-named : (M list : List Assignment) → All IsPrintableAssignment list → All (IsAssignment M) list → FixedAreOctets list → All IsNamedAssignment list
all-named M [] p s o = All-nil IsNamedAssignment
all-named M (a ∷ others) p s o =
    let one = All-head IsPrintableAssignment a others p in
    let sound = All-head (IsAssignment M) a others s in
    let octets = All-head (λ (b : Assignment). HasFixedOctets b.body) a others o in
    All-cons IsNamedAssignment a others (reference-free a.reference one.reference, type-named Elsewhere a.body one.types sound.allowed octets)
    (all-named M others (All-tail IsPrintableAssignment a others p) (All-tail (IsAssignment M) a others s) (All-tail (λ (b : Assignment). HasFixedOctets b.body) a others o))

pub printable-notation : (M : List Assignment) → All IsPrintableAssignment M → IsModule M → FixedAreOctets M → IsNotation M
printable-notation M printable sound octets = all-named M M printable sound.assignments octets
