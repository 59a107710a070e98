-- The state of a reader as one value. Each piece makes a step from one state to the next.
use Rattle.std.specs.Prelude.{ℕ, Bool, true, false, List, [], ◌∷◌, ◌++◌, map, encode_utf8, if◌then◌else◌}
use Rattle.base_texts.specs.declared.texts.Name.{Name}
use Rattle.base_texts.specs.Limits.{is_empty}
use Rattle.base_trees.specs.Rose.{Rose, node, none, roses_of}
use Rattle.xml_pieces.specs.Pieces.{Tag, Piece, Declaration, Start, Empty, End, Comment, Instruction, CData, Reference, Character}
use Rattle.xml_items.specs.declared.label.ItemLabel.{ItemLabel}
use Rattle.xml_items.specs.declared.label.ItemLabel.TheVariants.{Element, Text}
use Rattle.xml_pieces.specs.Namespaces.{bindings_of, attributes_of, element_name}
use Rattle.xml_read.specs.Contexts.{Context, Open, scope, tag_scope, brackets_after}

-- An element that is open, with the nodes that precede it at its level.
pub record Above : Type 0 where
  pub written : List ℕ
  pub name : Name
  pub attributes : List (Name × List ℕ)
  pub declares : List (List ℕ × List ℕ)
  pub at : ℕ
  pub before : List (Rose ItemLabel)

pub record State : Type 0 where
  -- the elements that are open, the innermost first
  pub above : List Above
  -- the nodes in the innermost of them, or outside
  pub kids : List (Rose ItemLabel)
  -- the characters after these nodes, which are no node yet, and their place
  pub text : List ℕ
  pub text_at : ℕ
  pub ended : Bool
  pub first : Bool
  pub brackets : ℕ

abbrev pub nothing : State
nothing = record { above = []; kids = []; text = []; text_at = 0; ended = false; first = true; brackets = 0 }

abbrev pub open_of : Above → Open
open_of a = record { written = a.written; declares = a.declares }

abbrev pub context : State → Context
context s = record { elements = map open_of s.above; ended = s.ended; first = s.first; brackets = s.brackets }

-- ---- steps

-- The children with the text after them.
abbrev pub with_text : List (Rose ItemLabel) → List ℕ → ℕ → List (Rose ItemLabel)
with_text kids text at = if is_empty text then kids else kids ++ node (Text text at) none ∷ []

abbrev pub kids_of_state : State → List (Rose ItemLabel)
kids_of_state s = with_text s.kids s.text s.text_at

-- the element of a tag
abbrev pub entering : Tag → List (List ℕ × List ℕ) → ℕ → List (Rose ItemLabel) → Above
entering tag outer at before =
    let inside = tag_scope tag outer in
    record {
      written = tag.name;
      name = element_name inside tag.name;
      attributes = attributes_of inside tag.attributes;
      declares = bindings_of tag.attributes;
      at = at;
      before = before;
    }

abbrev pub element_of : Above → List (Rose ItemLabel) → Rose ItemLabel
element_of a kids = node (Element a.name a.attributes a.declares a.at) (roses_of kids)

abbrev pub opened : Tag → ℕ → State → State
opened tag at s = record {
  above = entering tag (scope (context s)) at (kids_of_state s) ∷ s.above;
  kids = [];
  text = [];
  text_at = s.text_at;
  ended = s.ended;
  first = false;
  brackets = 0;
}

abbrev pub emptied : Tag → ℕ → State → State
emptied tag at s = record {
  above = s.above;
  kids = kids_of_state s ++ element_of (entering tag (scope (context s)) at []) [] ∷ [];
  text = [];
  text_at = s.text_at;
  ended = is_empty s.above;
  first = false;
  brackets = 0;
}

abbrev pub closed : List Above → State → State
closed [] s = record { above = []; kids = kids_of_state s; text = []; text_at = s.text_at; ended = true; first = false; brackets = 0 }
closed (a ∷ above) s = record {
  above = above;
  kids = a.before ++ element_of a (kids_of_state s) ∷ [];
  text = [];
  text_at = s.text_at;
  ended = is_empty above;
  first = false;
  brackets = 0;
}

abbrev pub passed : State → State
passed s = record { above = s.above; kids = s.kids; text = s.text; text_at = s.text_at; ended = s.ended; first = false; brackets = 0 }

-- Characters are added, and `brackets` of them at the end are `]`.
abbrev pub written_on : List ℕ → ℕ → ℕ → State → State
written_on text at brackets s = record {
  above = s.above;
  kids = s.kids;
  text = s.text ++ text;
  text_at = if is_empty s.text then at else s.text_at;
  ended = s.ended;
  first = false;
  brackets = brackets;
}

-- Characters outside the root, which are white space, are dropped.
abbrev pub left_out : ℕ → State → State
left_out brackets s = record { above = s.above; kids = s.kids; text = s.text; text_at = s.text_at; ended = s.ended; first = false; brackets = brackets }

abbrev pub added : List ℕ → ℕ → ℕ → State → State
added text at brackets s = if is_empty s.above then left_out brackets s else written_on text at brackets s

-- An element is added that has only these characters.
abbrev pub with_leaf : Tag → ℕ → List ℕ → ℕ → State → State
with_leaf tag at text text_at s = let inner = added text text_at 0 (opened tag at s) in closed inner.above inner

abbrev pub step : Piece → ℕ → State → State
step Declaration at s = passed s
step (Start tag) at s = opened tag at s
step (Empty tag) at s = emptied tag at s
step (End written) at s = closed s.above s
step Comment at s = passed s
step Instruction at s = passed s
step (CData text) at s = added text at 0 s
step (Reference code) at s = added (encode_utf8 code) at 0 s
step (Character code) at s = added (encode_utf8 code) at (brackets_after code s.brackets) s
