-- The order of elements stands in the part `order` alone.
use Rattle.std.proofs.Common.{◌≡◌, ℕ, suc, ◌+◌, ◌<◌, Bool, true, false, ◌&&◌, List, length, inl, inr, refl, sym, ap, ◌∙◌, arith}
use Rattle.std.specs.Prelude.{◌==◌, if◌then◌else◌}
use Rattle.std.proofs.lemmas.Bool.{true≢false, eqb-true}
use Rattle.std.proofs.lemmas.Bool.Decides.{eqb_tells}
use Rattle.asn_types.specs.declared.types.Component.{Component}
use Rattle.asn_types.specs.declared.types.Form.{Form}
use Rattle.asn_types.specs.declared.types.TypeLabel.{TypeLabel}
use Rattle.asn_types.specs.Marks.{has_attribute, has_untagged, has_use_nil, has_embed_values, has_use_order, has_use_union}
use Rattle.asn_types.specs.Parts.{parts_of}
use Rattle.asn_types.specs.Roles as roles
use Rattle.asn_types.specs.Roles.{role_of, is_content, is_embed, is_item}
use Rattle.map_assignments.specs.Plans.{Label, attribute, element, group, elements, groups, texts, order, item, base, content}
use Rattle.map_assignments.specs.Naming.{type_label, named_part, sequence_marks}
use Rattle.map_assignments.proofs.Chains.{picked, and-false, no-order}
use Rattle.map_assignments.proofs.Marked.{sequence-nil, sequence-embeds}
use Rattle.module_text.specs.declared.spots.Spot.{Spot}
use Rattle.module_text.specs.declared.spots.Spot.TheVariants.{Elsewhere, Order}
use Rattle.module_text.specs.Printable.{is_order, is_sequence_of, item_spot, part_spot}

abbrev pub is_order_label : Label → Bool
is_order_label order = true
is_order_label _ = false

-- where the type of a part stands that stands for this
abbrev pub label_spot : Label → Spot
label_spot l = if is_order_label l then Order else Elsewhere

-- whether the part with this number has the order, behind texts or not
abbrev pub is_order_place : Bool → Bool → ℕ → Bool
is_order_place mixed ordered i = (i == (if mixed then 1 else 0)) && ordered

-- ---- roles

other-role : (a u c d e f : Bool) → is_order (picked a u c d false e f) ≡ false
other-role true u c d e f = refl
other-role false true c d e f = refl
other-role false false true d e f = refl
other-role false false false true e f = refl
other-role false false false false true f = refl
other-role false false false false false true = refl
other-role false false false false false false = refl

pub no-order_role : (l : TypeLabel) (i : ℕ) (c : Component) → roles.is_order l i ≡ false → is_order (role_of l i c) ≡ false
no-order_role l i c e =
    ap (λ o. is_order (picked (has_attribute c.marks) (has_untagged c.marks) (is_content l i) (is_embed l i) o (is_item l.form c) (has_use_union l.marks))) e
    ∙ other-role (has_attribute c.marks) (has_untagged c.marks) (is_content l i) (is_embed l i) (is_item l.form c) (has_use_union l.marks)

order-role : (l : TypeLabel) (i : ℕ) (g : List ℕ) (optional : Bool) → is_content l i ≡ false → is_embed l i ≡ false → roles.is_order l i ≡ true
    → is_order (role_of l i (named_part order g optional)) ≡ true
order-role l i g optional hc hd ho =
    let e = is_item l.form (named_part order g optional) in
    let f = has_use_union l.marks in
    ap (λ c. is_order (picked false false c (is_embed l i) (roles.is_order l i) e f)) hc ∙ ap (λ d. is_order (picked false false false d (roles.is_order l i) e f)) hd
    ∙ ap (λ o. is_order (picked false false false false o e f)) ho

-- ---- places

sequence-order_place : (f : Form) (nillable mixed ordered : Bool) (i : ℕ) → roles.is_order (type_label f (sequence_marks nillable mixed ordered)) i ≡ is_order_place mixed ordered i
sequence-order_place f true true true i = refl
sequence-order_place f true true false i = refl
sequence-order_place f true false true i = refl
sequence-order_place f true false false i = refl
sequence-order_place f false true true i = refl
sequence-order_place f false true false i = refl
sequence-order_place f false false true i = refl
sequence-order_place f false false false i = refl

-- the order isn't the texts
not-embed : (mixed ordered : Bool) (i : ℕ) → is_order_place mixed ordered i ≡ true → ((i == 0) && mixed) ≡ false
not-embed false ordered i e = and-false (i == 0)
not-embed true ordered i e = by (i == 1) refl e
  where
    later : i ≡ 1 → ((i == 0) && true) ≡ false
    later same = ap (λ j. (j == 0) && true) same

    by : (b : Bool) → (i == 1) ≡ b → (b && ordered) ≡ true → ((i == 0) && true) ≡ false
    by true f g = later (eqb-true i 1 f)
    by false f g = absurd (true≢false (sym g))

not-last : (i rest whole : ℕ) → 0 < rest → suc i + rest ≡ whole → (i + 1 == whole) ≡ false
not-last i rest whole some is = elim (eqb_tells (i + 1) whole) [
  | inl h ↦ absurd (omega (arith, some, is, h.1))
  | inr h ↦ h.0
]

not-content : (nillable : Bool) (i rest whole : ℕ) → (nillable ≡ true → 0 < rest) → suc i + rest ≡ whole → (nillable && (i + 1 == whole)) ≡ false
not-content false i rest whole some is = refl
not-content true i rest whole some is = not-last i rest whole (some refl) is

-- what each part of a type has before its role is known
abbrev pub Spotted : TypeLabel → Bool → Bool → Bool → Type 0
Spotted l nillable mixed ordered =
    (spot : Spot) (i : ℕ) (k : Label) (g : List ℕ) (optional : Bool) (rest : ℕ) → is_order_place mixed ordered i ≡ is_order_label k
    → (is_order_label k ≡ true → nillable ≡ true → 0 < rest) → suc i + rest ≡ length (parts_of l.form) → part_spot spot l i (named_part k g optional) ≡ label_spot k

spot-by : (l : TypeLabel) (spot : Spot) (i : ℕ) (c : Component) (b : Bool) → is_sequence_of l.form ≡ false → is_order (role_of l i c) ≡ b → part_spot spot l i c ≡ (if b then Order else Elsewhere)
spot-by l spot i c b plain role =
    ap (λ (x : Bool). if x then item_spot spot else (if is_order (role_of l i c) then Order else Elsewhere)) plain ∙ ap (λ (x : Bool). if x then Order else Elsewhere) role

pub elsewhere : (l : TypeLabel) (spot : Spot) (i : ℕ) (c : Component) → is_sequence_of l.form ≡ false → roles.is_order l i ≡ false → part_spot spot l i c ≡ Elsewhere
elsewhere l spot i c plain e = spot-by l spot i c false plain (no-order_role l i c e)

pub never-spotted : (l : TypeLabel) → is_sequence_of l.form ≡ false → has_use_order l.marks ≡ false → Spotted l false false false
never-spotted l plain e spot i k g optional rest at last whole =
    let lacks : is_order_label k ≡ false = sym at ∙ and-false (i == 0) in
    elsewhere l spot i (named_part k g optional) plain (no-order l i e) ∙ ap (λ (b : Bool). if b then Order else Elsewhere) (sym lacks)

-- a type whose instructions are these
module _ (l : TypeLabel) (nillable mixed ordered : Bool) (plain : is_sequence_of l.form ≡ false) (nil : has_use_nil l.marks ≡ nillable) (embeds : has_embed_values l.marks ≡ mixed)
    (place : (i : ℕ) → roles.is_order l i ≡ is_order_place mixed ordered i) where
  other : (spot : Spot) (i : ℕ) (c : Component) → is_order_place mixed ordered i ≡ false → part_spot spot l i c ≡ Elsewhere
  other spot i c lacks = elsewhere l spot i c plain (place i ∙ lacks)

  spotted : Spotted l nillable mixed ordered
  spotted spot i (attribute name standard) g optional rest at last whole = other spot i (named_part (attribute name standard) g optional) at
  spotted spot i (element name) g optional rest at last whole = other spot i (named_part (element name) g optional) at
  spotted spot i (group a) g optional rest at last whole = other spot i (named_part (group a) g optional) at
  spotted spot i (elements name) g optional rest at last whole = other spot i (named_part (elements name) g optional) at
  spotted spot i (groups a) g optional rest at last whole = other spot i (named_part (groups a) g optional) at
  spotted spot i texts g optional rest at last whole = other spot i (named_part texts g optional) at
  spotted spot i item g optional rest at last whole = other spot i (named_part item g optional) at
  spotted spot i base g optional rest at last whole = other spot i (named_part base g optional) at
  spotted spot i content g optional rest at last whole = other spot i (named_part content g optional) at
  spotted spot i order g optional rest at last whole =
      let many = length (parts_of l.form) in
      let no_content : is_content l i ≡ false = ap (λ b. b && (i + 1 == many)) nil ∙ not-content nillable i rest many (last refl) whole in
      let no_embed : is_embed l i ≡ false = ap (λ b. (i == 0) && b) embeds ∙ not-embed mixed ordered i at in
      spot-by l spot i (named_part order g optional) true plain (order-role l i g optional no_content no_embed (place i ∙ at))

pub sequence-spotted : (f : Form) (nillable mixed ordered : Bool) → is_sequence_of f ≡ false → Spotted (type_label f (sequence_marks nillable mixed ordered)) nillable mixed ordered
sequence-spotted f nillable mixed ordered plain =
    spotted (type_label f (sequence_marks nillable mixed ordered)) nillable mixed ordered plain (sequence-nil nillable mixed ordered) (sequence-embeds nillable mixed ordered)
    (sequence-order_place f nillable mixed ordered)
