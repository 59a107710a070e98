-- The types of plans that print are printable.
use Rattle.std.proofs.Common.{◌≡◌, ◌≢◌, ℕ, suc, ◌+◌, ◌<◌, Bool, true, false, Option, List, [], ◌∷◌, ◌++◌, length, All, refl, sym, ap, subst, ◌∙◌, arith}
use Rattle.std.specs.List.{IsDistinct}
use Rattle.std.proofs.lemmas.Bool.{true≢false}
use Rattle.std.proofs.lemmas.List.Elements.{All-nil, All-cons}
use Rattle.base_trees.specs.Rose.{Rose, node, Roses}
use Rattle.base_trees.specs.Rose as rose
use Rattle.simple_types.specs.Sound.{Sound, AreSound}
use Rattle.simple_types.specs.Space.{Space, Spaces, none, more, Booleans, Wholes, Numbers, Words, Characters, ListOf, UnionOf}
use Rattle.asn_types.specs.declared.marks.Instruction.{Instruction}
use Rattle.asn_types.specs.declared.marks.Instruction.TheVariants as mark
use Rattle.asn_types.specs.declared.types.Component.{Component}
use Rattle.asn_types.specs.declared.types.Form.{Form}
use Rattle.asn_types.specs.declared.types.Form.TheVariants as form
use Rattle.asn_types.specs.declared.types.TypeLabel.{TypeLabel}
use Rattle.asn_types.specs.Marks.{has_use_order}
use Rattle.asn_types.specs.Parts.{parts_of}
use Rattle.asn_types.specs.Simples.{white_space_marks}
use Rattle.map_subjects.specs.declared.subjects.Subject.{Subject}
use Rattle.map_assignments.specs.Plans.{Label, attribute, element, group, elements, groups, texts, order, item, base, content, TypePlan, simple, sequence, choice, repeated, order_items, reference, Parts, finish, part}
use Rattle.map_assignments.specs.Planning.{labels}
use Rattle.map_assignments.specs.Naming.{type_label, component_of, list_item, text_marks, wanted, named_part, repeated_part, part_marks, sequence_marks, IsSimpleType, AreMembers, IsNamed, AreNamed}
use Rattle.map_assignments.proofs.Chains.{no-order}
use Rattle.map_assignments.proofs.Shapes.{count_parts}
use Rattle.module_text.specs.Names.{is_identifier}
use Rattle.module_text.specs.declared.spots.Spot.{Spot}
use Rattle.module_text.specs.declared.spots.Spot.TheVariants.{Elsewhere, Order, OrderItem}
use Rattle.module_text.specs.Printable.{HasPartMarks, HasTypeMarks, IsIdentifier, HasNames, IsPresent, IsInSpot, item_spot, is_sequence_of, ArePrintable, AllPrintable}
use Rattle.map_printable.proofs.Names.{taken-identifier}
use Rattle.map_printable.proofs.PartMarks.{HasXmlName, no-marks, part-marked}
use Rattle.map_printable.proofs.TypeMarks.{words-marked, no-type_marks, white-marked, numbers-marked, list-marked, union-marked, sequence-marked}
use Rattle.map_printable.proofs.Scopes.{is_item_label, wanted-identifier, words-identifiers, NoItems, order-identifiers, named-identifiers, members-identifiers}
use Rattle.map_printable.proofs.Spots.{is_order_label, label_spot, is_order_place, Spotted, elsewhere, never-spotted, sequence-spotted}

-- ---- plans that print

-- a part with this number, and what stands behind it
pub record IsPart (nillable mixed ordered : Bool) (i : ℕ) (l : Label) (ps : Parts) : Type 0 where
  pub xml : HasXmlName l
  pub named : is_item_label l ≡ false
  pub placed : is_order_place mixed ordered i ≡ is_order_label l
  pub follows : is_order_label l ≡ true → nillable ≡ true → 0 < count_parts ps

abbrev pub AlwaysPresent : Parts → Type 0
AlwaysPresent finish = Unit {0}
AlwaysPresent (part l optional p ps) = (optional ≡ false) × AlwaysPresent ps

abbrev mutual
  pub Prints : Spot → TypePlan → Type 0
  Prints spot (simple s) = Sound s × (spot ≡ Elsewhere)
  Prints spot (sequence nillable mixed ordered ps) = AllPrint nillable mixed ordered 0 ps
  Prints spot (choice ps) = AllPrint false false false 0 ps × AlwaysPresent ps
  Prints spot (repeated l p least most) = HasXmlName l × Prints (item_spot spot) p
  Prints spot (order_items firsts ls) = (spot ≡ OrderItem) × NoItems ls
  Prints spot (reference w) = Unit {0}

  -- from the part with number i on
  pub AllPrint : Bool → Bool → Bool → ℕ → Parts → Type 0
  AllPrint nillable mixed ordered i finish = Unit {0}
  AllPrint nillable mixed ordered i (part l optional p ps) =
      IsPart nillable mixed ordered i l ps × Prints (label_spot l) p × AllPrint nillable mixed ordered (i + 1) ps

-- ---- identifiers

identifier-some : (g : List ℕ) → is_identifier g ≡ true → g ≢ []
identifier-some g e is = absurd (true≢false (sym e ∙ ap is_identifier is))

-- that of a part has no scope
item-named : (l : Label) → wanted l ≢ [] → IsIdentifier (wanted l)
item-named item some = absurd (some refl)
item-named (attribute name standard) some = wanted-identifier (attribute name standard) refl
item-named (element name) some = wanted-identifier (element name) refl
item-named (group k) some = wanted-identifier (group k) refl
item-named (elements name) some = wanted-identifier (elements name) refl
item-named (groups k) some = wanted-identifier (groups k) refl
item-named texts some = wanted-identifier texts refl
item-named order some = wanted-identifier order refl
item-named base some = wanted-identifier base refl
item-named content some = wanted-identifier content refl

item-marked : (l : Label) → HasXmlName l → HasPartMarks (wanted l) (part_marks l (wanted l))
item-marked item xml = no-marks []
item-marked (attribute name standard) xml = part-marked (attribute name standard) (wanted (attribute name standard)) xml (identifier-some (wanted (attribute name standard)) (wanted-identifier (attribute name standard) refl))
item-marked (element name) xml = part-marked (element name) (wanted (element name)) xml (identifier-some (wanted (element name)) (wanted-identifier (element name) refl))
item-marked (group k) xml = part-marked (group k) (wanted (group k)) xml (identifier-some (wanted (group k)) (wanted-identifier (group k) refl))
item-marked (elements name) xml = part-marked (elements name) (wanted (elements name)) xml (identifier-some (wanted (elements name)) (wanted-identifier (elements name) refl))
item-marked (groups k) xml = part-marked (groups k) (wanted (groups k)) xml (identifier-some (wanted (groups k)) (wanted-identifier (groups k) refl))
item-marked texts xml = no-marks (wanted texts)
item-marked order xml = no-marks (wanted order)
item-marked base xml = part-marked base (wanted base) xml (identifier-some (wanted base) refl)
item-marked content xml = no-marks (wanted content)

-- ---- simple types

abbrev HasMarks : Component → Type 0
HasMarks c = HasPartMarks c.identifier c.marks

leaf : (spot : Spot) (f : Form) (marks : List Instruction) → HasTypeMarks (type_label f marks) → HasNames f → parts_of f ≡ [] → IsInSpot spot f
    → ArePrintable spot (node (type_label f marks) rose.none)
leaf spot f marks are names lacks at =
    (record { marks = are; names = names; parts = subst (λ cs. All HasMarks cs) (sym lacks) (All-nil HasMarks); order = at }, tt)

no-names : HasNames form.Bool
unfolding IsDistinct
no-names = (All-nil IsIdentifier, tt)

mutual
  simple-prints : (s : Space) (t : Rose TypeLabel) → Sound s → IsSimpleType s t → ArePrintable Elsewhere t
  simple-prints Booleans t sound h = subst (ArePrintable Elsewhere) (sym h) (leaf Elsewhere form.Bool [] (no-type_marks form.Bool refl) no-names refl tt)
  simple-prints (Wholes least greatest) t sound h =
      subst (ArePrintable Elsewhere) (sym h) (leaf Elsewhere (form.Int least greatest) [] (no-type_marks (form.Int least greatest) refl) no-names refl tt)
  simple-prints (Numbers numbers) t sound h =
      subst (ArePrintable Elsewhere) (sym h) (leaf Elsewhere (form.Numbers numbers) (mark.UseNumber ∷ []) (numbers-marked (form.Numbers numbers) refl) no-names refl tt)
  simple-prints (Words how words) t sound h =
      let marks = white_space_marks how ++ text_marks 0 h.identifiers words in
      subst (ArePrintable Elsewhere) (sym h.type)
      (leaf Elsewhere (form.Words h.identifiers words) marks (words-marked how h.identifiers words sound.2) (words-identifiers words h.identifiers h.taken) refl tt)
  simple-prints (Characters how least most class) t sound h =
      subst (ArePrintable Elsewhere) (sym h)
      (leaf Elsewhere (form.Utf8 least most class) (white_space_marks how) (white-marked how (form.Utf8 least most class) refl) no-names refl tt)
  simple-prints (ListOf s least most) t sound h =
      let f = form.SequenceOf list_item least most in
      subst (ArePrintable Elsewhere) (sym h.1) (
        record {
          marks = list-marked f refl;
          names = ((λ some. absurd (some refl)), refl);
          parts = All-cons HasMarks list_item [] (no-marks []) (All-nil HasMarks);
          order = tt;
        },
        (simple-prints s h.0 sound.0 h.2, tt),
      )
  simple-prints (UnionOf members) t sound h =
      let l = type_label (form.Choice h.0) (mark.UseUnion ∷ []) in
      subst (ArePrintable Elsewhere) (sym h.2) (
        record {
          marks = union-marked (form.Choice h.0) refl;
          names = (members-identifiers members h.0 h.1 h.3, members-present [] members h.0 h.1 h.3);
          parts = members-marked [] members h.0 h.1 h.3;
          order = tt;
        },
        members-print l refl refl 0 [] members h.0 h.1 sound.1 h.3,
      )

  members-present : (before : List (List ℕ)) (ss : Spaces) (parts : List Component) (ts : Roses TypeLabel) → AreMembers before ss parts ts → All IsPresent parts
  members-present before none parts ts h = subst (λ cs. All IsPresent cs) (sym h.0) (All-nil IsPresent)
  members-present before (more s ss) parts ts h =
      subst (λ cs. All IsPresent cs) (sym h.5) (All-cons IsPresent (component_of h.0 false []) h.1 refl (members-present (before ++ h.0 ∷ []) ss h.1 h.3 h.8))

  members-marked : (before : List (List ℕ)) (ss : Spaces) (parts : List Component) (ts : Roses TypeLabel) → AreMembers before ss parts ts → All HasMarks parts
  members-marked before none parts ts h = subst (λ cs. All HasMarks cs) (sym h.0) (All-nil HasMarks)
  members-marked before (more s ss) parts ts h =
      subst (λ cs. All HasMarks cs) (sym h.5) (All-cons HasMarks (component_of h.0 false []) h.1 (no-marks h.0) (members-marked (before ++ h.0 ∷ []) ss h.1 h.3 h.8))

  members-print : (l : TypeLabel) → is_sequence_of l.form ≡ false → has_use_order l.marks ≡ false → (i : ℕ) (before : List (List ℕ)) (ss : Spaces) (parts : List Component) (ts : Roses TypeLabel)
      → AreSound ss → AreMembers before ss parts ts → AllPrintable Elsewhere l i parts ts
  members-print l plain untold i before none parts ts sound h = subst (AllPrintable Elsewhere l i parts) (sym h.1) tt
  members-print l plain untold i before (more s ss) parts ts sound h =
      let c = component_of h.0 false [] in
      subst (λ cs. AllPrintable Elsewhere l i cs ts) (sym h.5)
      (subst (AllPrintable Elsewhere l i (c ∷ h.1)) (sym h.6) (
        subst (λ spot. ArePrintable spot h.2) (sym (elsewhere l Elsewhere i c plain (no-order l i untold))) (simple-prints s h.2 sound.0 h.7),
        members-print l plain untold (i + 1) (before ++ h.0 ∷ []) ss h.1 h.3 sound.2 h.8,
      ))

-- ---- where a type stands that is no ENUMERATED

sequence-in : (spot : Spot) (parts : List Component) → IsInSpot spot (form.Sequence parts)
sequence-in Elsewhere parts = tt
sequence-in Order parts = tt
sequence-in OrderItem parts = tt

choice-in : (spot : Spot) (parts : List Component) → IsInSpot spot (form.Choice parts)
choice-in Elsewhere parts = tt
choice-in Order parts = tt
choice-in OrderItem parts = tt

list-in : (spot : Spot) (c : Component) (least : ℕ) (most : Option ℕ) → IsInSpot spot (form.SequenceOf c least most)
list-in Elsewhere c least most = tt
list-in Order c least most = tt
list-in OrderItem c least most = tt

reference-in : (spot : Spot) (to : ℕ) → IsInSpot spot (form.Ref to)
reference-in Elsewhere to = tt
reference-in Order to = tt
reference-in OrderItem to = tt

-- ---- all types

pub no-items : (nillable mixed ordered : Bool) (i : ℕ) (ps : Parts) → AllPrint nillable mixed ordered i ps → NoItems (labels ps)
no-items nillable mixed ordered i finish g = tt
no-items nillable mixed ordered i (part l optional p ps) g = (g.0.named, no-items nillable mixed ordered (i + 1) ps g.2)

from-start : (a b : ℕ) → a ≡ b → 0 + a ≡ b
from-start a b e = omega (arith, e)

module _ (place : Subject → ℕ) where
  named-count : (before : List (List ℕ)) (ps : Parts) (parts : List Component) (ts : Roses TypeLabel) → AreNamed place before ps parts ts → count_parts ps ≡ length parts
  named-count before finish parts ts h = sym (ap (λ (cs : List Component). length cs) h.0)
  named-count before (part l optional p ps) parts ts h =
      ap suc (named-count (before ++ h.0 ∷ []) ps h.1 h.3 h.8) ∙ sym (ap (λ (cs : List Component). length cs) h.5)

  named-present : (before : List (List ℕ)) (ps : Parts) (parts : List Component) (ts : Roses TypeLabel) → AlwaysPresent ps → AreNamed place before ps parts ts → All IsPresent parts
  named-present before finish parts ts g h = subst (λ cs. All IsPresent cs) (sym h.0) (All-nil IsPresent)
  named-present before (part l optional p ps) parts ts g h =
      subst (λ cs. All IsPresent cs) (sym h.5) (All-cons IsPresent (named_part l h.0 optional) h.1 g.0 (named-present (before ++ h.0 ∷ []) ps h.1 h.3 g.1 h.8))

  named-marked : (nillable mixed ordered : Bool) (i : ℕ) (before : List (List ℕ)) (ps : Parts) (parts : List Component) (ts : Roses TypeLabel)
      → AllPrint nillable mixed ordered i ps → AreNamed place before ps parts ts → All HasMarks parts
  named-marked nillable mixed ordered i before finish parts ts g h = subst (λ cs. All HasMarks cs) (sym h.0) (All-nil HasMarks)
  named-marked nillable mixed ordered i before (part l optional p ps) parts ts g h =
      let is = taken-identifier before (wanted l) h.0 (wanted-identifier l g.0.named) h.4 in
      subst (λ cs. All HasMarks cs) (sym h.5)
      (All-cons HasMarks (named_part l h.0 optional) h.1 (part-marked l h.0 g.0.xml (identifier-some h.0 is))
      (named-marked nillable mixed ordered (i + 1) (before ++ h.0 ∷ []) ps h.1 h.3 g.2 h.8))

  mutual
    pub named-prints : (spot : Spot) (p : TypePlan) (t : Rose TypeLabel) → Prints spot p → IsNamed place p t → ArePrintable spot t
    named-prints spot (simple s) t g h = subst (λ w. ArePrintable w t) (sym g.1) (simple-prints s t g.0 h)
    named-prints spot (sequence nillable mixed ordered ps) t g h =
        let f = form.Sequence h.0 in
        subst (ArePrintable spot) (sym h.2) (
          record {
            marks = sequence-marked f nillable mixed ordered refl;
            names = named-identifiers place ps h.0 h.1 (no-items nillable mixed ordered 0 ps g) h.3;
            parts = named-marked nillable mixed ordered 0 [] ps h.0 h.1 g h.3;
            order = sequence-in spot h.0;
          },
          parts-print spot (type_label f (sequence_marks nillable mixed ordered)) nillable mixed ordered (sequence-spotted f nillable mixed ordered refl) 0 [] ps h.0 h.1
              (from-start (count_parts ps) (length h.0) (named-count [] ps h.0 h.1 h.3)) g h.3,
        )
    named-prints spot (choice ps) t g h =
        let f = form.Choice h.0 in
        subst (ArePrintable spot) (sym h.2) (
          record {
            marks = no-type_marks f refl;
            names = (named-identifiers place ps h.0 h.1 (no-items false false false 0 ps g.0) h.3, named-present [] ps h.0 h.1 g.1 h.3);
            parts = named-marked false false false 0 [] ps h.0 h.1 g.0 h.3;
            order = choice-in spot h.0;
          },
          parts-print spot (type_label f []) false false false (never-spotted (type_label f []) refl refl) 0 [] ps h.0 h.1
              (from-start (count_parts ps) (length h.0) (named-count [] ps h.0 h.1 h.3)) g.0 h.3,
        )
    named-prints spot (repeated l p least most) t g h =
        let f = form.SequenceOf (repeated_part l) least most in
        subst (ArePrintable spot) (sym h.1) (
          record {
            marks = no-type_marks f refl;
            names = (item-named l, refl);
            parts = All-cons HasMarks (repeated_part l) [] (item-marked l g.0) (All-nil HasMarks);
            order = list-in spot (repeated_part l) least most;
          },
          (named-prints (item_spot spot) p h.0 g.1 h.2, tt),
        )
    named-prints spot (order_items firsts ls) t g h =
        subst (λ w. ArePrintable w t) (sym g.0)
        (subst (ArePrintable OrderItem) (sym h.type)
        (leaf OrderItem (form.Order h.identifiers) [] (no-type_marks (form.Order h.identifiers) refl) (order-identifiers h.taken ls h.identifiers h.then_taken g.1) refl tt))
    named-prints spot (reference w) t g h =
        subst (ArePrintable spot) (sym h) (leaf spot (form.Ref (place w)) [] (no-type_marks (form.Ref (place w)) refl) no-names refl (reference-in spot (place w)))

    parts-print : (spot : Spot) (l : TypeLabel) (nillable mixed ordered : Bool) → Spotted l nillable mixed ordered → (i : ℕ) (before : List (List ℕ)) (ps : Parts) (parts : List Component) (ts : Roses TypeLabel)
        → i + count_parts ps ≡ length (parts_of l.form) → AllPrint nillable mixed ordered i ps → AreNamed place before ps parts ts → AllPrintable spot l i parts ts
    parts-print spot l nillable mixed ordered spotted i before finish parts ts many g h = subst (AllPrintable spot l i parts) (sym h.1) tt
    parts-print spot l nillable mixed ordered spotted i before (part k optional p ps) parts ts many g h =
        let c = named_part k h.0 optional in
        let whole : suc i + count_parts ps ≡ length (parts_of l.form) = omega (arith, many) in
        let next : i + 1 + count_parts ps ≡ length (parts_of l.form) = omega (arith, many) in
        let at = spotted spot i k h.0 optional (count_parts ps) g.0.placed g.0.follows whole in
        subst (λ cs. AllPrintable spot l i cs ts) (sym h.5)
        (subst (AllPrintable spot l i (c ∷ h.1)) (sym h.6) (
          subst (λ w. ArePrintable w h.2) (sym at) (named-prints (label_spot k) p h.2 g.1 h.7),
          parts-print spot l nillable mixed ordered spotted (i + 1) (before ++ h.0 ∷ []) ps h.1 h.3 next g.2 h.8,
        ))
