-- Types before their names are chosen: their structure, and the label of each part.
use Rattle.std.specs.Prelude.{ℕ, Bool, Option, List}
use Rattle.base_texts.specs.declared.texts.Name.{Name}
use Rattle.simple_types.specs.declared.standards.Standard.{Standard}
use Rattle.simple_types.specs.Space.{Space}
use Rattle.map_subjects.specs.declared.subjects.Subject.{Subject}

pub data Group : Type 0 where
  a_sequence : Group
  a_choice : Group

-- The label of a part: what it represents.
pub data Label : Type 0 where
  -- An attribute with its default or fixed value, if it has one.
  attribute : Name → Standard → Label
  element : Name → Label
  group : Group → Label
  -- Several elements or groups.
  elements : Name → Label
  groups : Group → Label
  -- The texts between child elements.
  texts : Label
  -- The order of child elements that may appear in any order.
  order : Label
  -- One of the texts, or of the elements in their order.
  item : Label
  -- The text of a complex type with simple content.
  base : Label
  -- The content that a nillable element has if it isn't nil.
  content : Label

mutual
  pub data TypePlan : Type 0 where
    -- A simple type in place.
    simple : Space → TypePlan
    -- SEQUENCE; whether it has USE-NIL, EMBED-VALUES and USE-ORDER.
    sequence : Bool → Bool → Bool → Parts → TypePlan
    choice : Parts → TypePlan
    -- SEQUENCE OF, with its bounds.
    repeated : Label → TypePlan → ℕ → Option ℕ → TypePlan
    -- ENUMERATED of the identifiers of the parts with the second labels, in a scope that already has those of the parts with the
    -- first labels.
    order_items : List Label → List Label → TypePlan
    -- The type of an assignment.
    reference : Subject → TypePlan

  pub data Parts : Type 0 where
    finish : Parts
    -- A part, whether it is optional, its type, and the parts after it.
    part : Label → Bool → TypePlan → Parts → Parts
