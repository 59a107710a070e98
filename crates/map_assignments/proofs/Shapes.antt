-- What is asked of the plan of a type, so that the type is one of a module.
use Rattle.std.proofs.Common.{◌≡◌, ℕ, suc, ◌<◌, ◌^◌, Bool, true, false, List, [], length, Some}
use Rattle.std.specs.Prelude.{MatchBool, if◌then◌else◌}
use Rattle.base_texts.specs.declared.texts.Name.{Name}
use Rattle.base_trees.specs.Rose.{Rose}
use Rattle.simple_types.specs.declared.labels.ValueLabel.{ValueLabel}
use Rattle.simple_types.specs.declared.standards.Standard.{Standard}
use Rattle.simple_types.specs.declared.standards.Standard.TheVariants.{Free, Default, Fixed}
use Rattle.simple_types.specs.Sound.{Sound, IsCounted, AreSizes}
use Rattle.simple_types.specs.Space.{Space}
use Rattle.simple_types.specs.Reading.{Holds, spelled}
use Rattle.schema_components.specs.declared.components.AttributeUse.{AttributeUse}
use Rattle.schema_components.specs.Components.{Set}
use Rattle.schema_components.specs.Linked.{IsSpellingAt}
use Rattle.map_subjects.specs.declared.subjects.Subject.{Subject}
use Rattle.map_subjects.specs.declared.subjects.Subject.TheVariants as subject
use Rattle.map_subjects.specs.Subjects.{name_of}
use Rattle.map_assignments.specs.Plans.{Label, attribute, element, content, TypePlan, simple, sequence, choice, repeated, order_items, reference, Parts, finish, part}
use Rattle.map_assignments.specs.Planning.{texts_type, order_type, labels_before, labels, with_texts, with_order, attributes}
use Rattle.map_assignments.specs.Naming.{part_standard}

abbrev pub is_attribute_label : Label → Bool
is_attribute_label (attribute name standard) = true
is_attribute_label _ = false

abbrev pub is_element_label : Label → Bool
is_element_label (element name) = true
is_element_label _ = false

abbrev pub count_parts : Parts → ℕ
count_parts finish = 0
count_parts (part l optional p ps) = suc (count_parts ps)

-- the last part is optional
abbrev pub EndsOptional : Parts → Type 0
EndsOptional finish = ⊥
EndsOptional (part l optional p finish) = optional ≡ true
EndsOptional (part l optional p (part k other q ps)) = EndsOptional (part k other q ps)

abbrev pub NoElements : Parts → Type 0
NoElements finish = Unit {0}
NoElements (part l optional p ps) = (is_element_label l ≡ false) × NoElements ps

abbrev pub NoAttributes : Parts → Type 0
NoAttributes finish = Unit {0}
NoAttributes (part l optional p ps) = (is_attribute_label l ≡ false) × NoAttributes ps

-- the first part is the texts between child elements
abbrev pub BeginsTexts : Parts → Type 0
BeginsTexts finish = ⊥
BeginsTexts (part l optional p ps) = (is_element_label l ≡ false) × (p ≡ texts_type)

abbrev pub IsSequence : Bool → Bool → Parts → Type 0
IsSequence nillable mixed ps = (nillable ≡ true → EndsOptional ps × NoElements ps) × (mixed ≡ true → BeginsTexts ps)

abbrev pub AreElements : Parts → Type 0
AreElements finish = Unit {0}
AreElements (part l optional p ps) = (is_element_label l ≡ true) × AreElements ps

-- The plan of a type whose elements may stand in any order: they stand behind the attributes, or in a content of their own.
pub record InOrder (nillable mixed : Bool) (ps : Parts) : Type 0 where
  pub set : Set
  pub uses : List AttributeUse
  pub elements : Parts
  pub are_elements : AreElements elements
  pub is : ps ≡ with_texts mixed (with_order true (order_type (if nillable then [] else labels_before mixed uses) (labels elements))
      (attributes set uses (if nillable then part content true (sequence false false false elements) finish else elements)))

-- the text is the spelling of a value of the simple type
abbrev pub IsSpelling : Space → List ℕ → Type 0
IsSpelling sp text = (v : Rose ValueLabel) × Holds sp v × (spelled sp v ≡ text)

module _ (s : Set) where
  -- the component has an assignment
  abbrev pub HasName : Subject → Type 0
  HasName w = (name : Name) × (name_of s w ≡ Some name)

  -- the plan is that of a simple type
  abbrev pub IsSimplePlan : TypePlan → Type 0
  IsSimplePlan (simple sp) = Sound sp
  IsSimplePlan (reference (subject.Simple n)) = HasName (subject.Simple n)
  IsSimplePlan _ = ⊥

  -- the text is the spelling of a value of such a plan
  abbrev pub IsSpelled : TypePlan → List ℕ → Type 0
  IsSpelled (simple sp) text = IsSpelling sp text
  IsSpelled (reference (subject.Simple n)) text = IsSpellingAt s n text
  IsSpelled _ text = ⊥

  -- a part may have this default or fixed value, a default value only where it may be absent
  abbrev pub MayHaveStandard : Standard → Bool → TypePlan → Type 0
  MayHaveStandard Free optional p = Unit {0}
  MayHaveStandard (Default text) optional p = (optional ≡ true) × IsSpelled p text
  MayHaveStandard (Fixed text) optional p = IsSpelled p text

  abbrev pub IsAttributePlan : Standard → Bool → TypePlan → Type 0
  IsAttributePlan standard optional p = IsSimplePlan p × MayHaveStandard standard optional p

  abbrev mutual
    pub IsPlan : TypePlan → Type 0
    IsPlan (simple sp) = Sound sp
    IsPlan (sequence nillable mixed ordered ps) = IsSequence nillable mixed ps × (count_parts ps < 2 ^ 32) × ArePlans ps × (ordered ≡ true → InOrder nillable mixed ps)
    IsPlan (choice ps) = IsCounted (count_parts ps) × ArePlans ps × NoAttributes ps
    IsPlan (repeated l p least most) = AreSizes least most × (is_attribute_label l ≡ false) × IsPlan p
    IsPlan (order_items firsts ls) = IsCounted (length ls) × (length firsts < 2 ^ 32)
    IsPlan (reference w) = HasName w

    pub ArePlans : Parts → Type 0
    ArePlans finish = Unit {0}
    ArePlans (part l optional p ps) = IsPlan p × (is_attribute_label l ≡ true → IsAttributePlan (part_standard l) optional p) × ArePlans ps

-- what holds of each component that is referred to without passing an element
module _ (P : Subject → Type 0) where
  abbrev mutual
    pub Refers : TypePlan → Type 0
    Refers (simple sp) = Unit {0}
    Refers (sequence nillable mixed ordered ps) = ReferInAll ps
    Refers (choice ps) = ReferInAll ps
    Refers (repeated l p least most) = MatchBool (is_element_label l) (Unit {0}) (Refers p)
    Refers (order_items firsts ls) = Unit {0}
    Refers (reference w) = P w

    pub ReferInAll : Parts → Type 0
    ReferInAll finish = Unit {0}
    ReferInAll (part l optional p ps) = MatchBool (is_element_label l) (Unit {0}) (Refers p) × ReferInAll ps

-- so many references may follow one that leads to the component
abbrev pub depth_of : Subject → ℕ
depth_of (subject.Element n) = 2
depth_of (subject.Attribute n) = 1
depth_of (subject.Simple n) = 0
depth_of (subject.Complex n) = 1
depth_of (subject.Nillable n) = 1

pub either-way : (b : Bool) (A : Type 0) → A → MatchBool b (Unit {0}) A
either-way true A h = tt
either-way false A h = h

pub passed : (b : Bool) (A : Type 0) → b ≡ true → MatchBool b (Unit {0}) A
passed true A h = tt
passed false A h = absurd (cc)

pub within : (b : Bool) (A B : Type 0) → (A → B) → MatchBool b (Unit {0}) A → MatchBool b (Unit {0}) B
within true A B f h = tt
within false A B f h = f h

-- weaker facts
module _ (s : Set) (P Q : Subject → Type 0) (f : (w : Subject) → HasName s w → P w → Q w) where
  mutual
    pub refers-weaker : (p : TypePlan) → IsPlan s p → Refers P p → Refers Q p
    refers-weaker (simple sp) g h = tt
    refers-weaker (sequence nillable mixed ordered ps) g h = refer-weaker ps g.2 h
    refers-weaker (choice ps) g h = refer-weaker ps g.1 h
    refers-weaker (repeated l p least most) g h = within (is_element_label l) (Refers P p) (Refers Q p) (refers-weaker p g.2) h
    refers-weaker (order_items firsts ls) g h = tt
    refers-weaker (reference w) g h = f w g h

    pub refer-weaker : (ps : Parts) → ArePlans s ps → ReferInAll P ps → ReferInAll Q ps
    refer-weaker finish g h = tt
    refer-weaker (part l optional p ps) g h = (within (is_element_label l) (Refers P p) (Refers Q p) (refers-weaker p g.0) h.0, refer-weaker ps g.2 h.1)

-- what holds of all
module _ (P : Subject → Type 0) (f : (w : Subject) → P w) where
  mutual
    pub refers-all : (p : TypePlan) → Refers P p
    refers-all (simple sp) = tt
    refers-all (sequence nillable mixed ordered ps) = refer-all ps
    refers-all (choice ps) = refer-all ps
    refers-all (repeated l p least most) = either-way (is_element_label l) (Refers P p) (refers-all p)
    refers-all (order_items firsts ls) = tt
    refers-all (reference w) = f w

    refer-all : (ps : Parts) → ReferInAll P ps
    refer-all finish = tt
    refer-all (part l optional p ps) = (either-way (is_element_label l) (Refers P p) (refers-all p), refer-all ps)
