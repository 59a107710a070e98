-- The context of a piece of a document, and the reasons against a piece in its context.
use Rattle.std.specs.Prelude.{◌==◌, ◌+◌, ℕ, Bool, true, false, ◌&&◌, ◌||◌, not, nat_le, min, List, [], ◌∷◌, ◌++◌, length, map, bytes_eq, Option, if◌then◌else◌}
use Rattle.std.specs.List.{list_any, flat_map}
use Rattle.base_texts.specs.Entries.{first_true}
use Rattle.base_texts.specs.Limits.{is_short_space, is_empty}
use Rattle.base_texts.specs.Namespaces.{xml_prefix, xml_space}
use Rattle.base_texts.specs.WhiteSpace.{is_white_space}
use Rattle.xml_pieces.specs.Pieces.{Tag, Piece, Declaration, Start, Empty, End, Comment, Instruction, CData, Reference, Character}
use Rattle.xml_read.specs.declared.error.DocWhy.{DocWhy}
use Rattle.xml_read.specs.declared.error.DocWhy.TheVariants as why
use Rattle.xml_pieces.specs.Namespaces.{is_long, bindings_of, plain_of, is_reserved, is_unbound, attributes_of, written_twice, expanded_twice}
use Rattle.xml_pieces.specs.QNames.{prefix_of, is_qname}

-- An element that is open: its name as written, and its bindings, each a prefix with a namespace.
pub record Open : Type 0 where
  pub written : List ℕ
  pub declares : List (List ℕ × List ℕ)

pub record Context : Type 0 where
  -- the innermost first
  pub elements : List Open
  -- the root has ended
  pub ended : Bool
  -- no piece precedes
  pub first : Bool
  -- the number of character pieces `]` directly before, where 2 means 2 or more
  pub brackets : ℕ

abbrev pub start : Context
start = record { elements = []; ended = false; first = true; brackets = 0 }

abbrev pub is_outside : Context → Bool
is_outside c = is_empty c.elements

-- ---- bindings in scope, the innermost first (Namespaces in XML 1.0, section 6.1)

abbrev pub scope : Context → List (List ℕ × List ℕ)
scope c = flat_map (λ e. e.declares) c.elements ++ (xml_prefix, xml_space) ∷ []

-- The bindings in scope within the tag itself, where `outer` is in scope outside.
abbrev pub tag_scope : Tag → List (List ℕ × List ℕ) → List (List ℕ × List ℕ)
tag_scope tag outer = bindings_of tag.attributes ++ outer

-- ---- reasons

abbrev pub names_of : Tag → List (List ℕ)
names_of tag = tag.name ∷ map (λ a. a.0) tag.attributes

abbrev pub has_bad_name : Tag → Bool
has_bad_name tag = list_any (λ written. not (is_qname written)) (names_of tag)

abbrev pub has_long_name : Tag → Bool
has_long_name tag = list_any is_long (names_of tag) || list_any (λ b. not (is_short_space b.1)) (bindings_of tag.attributes)

abbrev pub has_reserved : Tag → Bool
has_reserved tag = list_any is_reserved (bindings_of tag.attributes)

abbrev pub has_unbound : Tag → List (List ℕ × List ℕ) → Bool
has_unbound tag inside = is_unbound inside (prefix_of tag.name) || list_any (λ a. is_unbound inside (prefix_of a.0)) (plain_of tag.attributes)

abbrev pub has_duplicate : Tag → List (List ℕ × List ℕ) → Bool
has_duplicate tag inside = written_twice tag.attributes || expanded_twice (attributes_of inside tag.attributes)

abbrev pub is_innermost : List ℕ → List Open → Bool
is_innermost written [] = false
is_innermost written (e ∷ es) = bytes_eq e.written written

-- The tests of a start or empty tag; depth is the number of open elements.
abbrev pub start_tests : Tag → List (List ℕ × List ℕ) → Bool → ℕ → List (Bool × DocWhy)
start_tests tag outer ended depth =
    (has_bad_name tag, why.BadName)
    ∷ (has_long_name tag, why.LongName)
    ∷ (has_reserved tag, why.ReservedPrefix)
    ∷ (has_unbound tag (tag_scope tag outer), why.UnboundPrefix)
    ∷ (has_duplicate tag (tag_scope tag outer), why.DuplicateAttribute)
    ∷ (ended, why.ExtraRoot)
    ∷ (nat_le 64 depth, why.TooDeep)
    ∷ []

abbrev pub end_tests : List ℕ → List (List ℕ × List ℕ) → List Open → List (Bool × DocWhy)
end_tests written outer elements =
    (not (is_qname written), why.BadName)
    ∷ (is_long written, why.LongName)
    ∷ (is_unbound outer (prefix_of written), why.UnboundPrefix)
    ∷ (not (is_innermost written elements), why.WrongEnd)
    ∷ []

-- The possible reasons against a piece, in their order, each with its test.
abbrev pub tests : Piece → Context → List (Bool × DocWhy)
tests Declaration c = (not c.first, why.NoPiece) ∷ []
tests (Start tag) c = start_tests tag (scope c) c.ended (length c.elements)
tests (Empty tag) c = start_tests tag (scope c) c.ended (length c.elements)
tests (End written) c = end_tests written (scope c) c.elements
tests Comment c = []
tests Instruction c = []
tests (CData text) c = (is_outside c, why.TextOutside) ∷ []
tests (Reference code) c = (is_outside c, why.TextOutside) ∷ []
tests (Character code) c = (code == 0x3E && nat_le 2 c.brackets, why.NoPiece) ∷ (is_outside c && not (is_white_space code), why.TextOutside) ∷ []

-- the first reason against a start or empty tag
unfoldable pub start_reason : Tag → List (List ℕ × List ℕ) → Bool → ℕ → Option DocWhy
start_reason tag outer ended depth = first_true (start_tests tag outer ended depth)

-- the first reason against a piece
unfoldable pub reason : Piece → Context → Option DocWhy
reason piece c = first_true (tests piece c)

-- ---- the context after a piece

abbrev pub inner : List Open → List Open
inner [] = []
inner (e ∷ es) = es

abbrev pub entered : Tag → Open
entered tag = record { written = tag.name; declares = bindings_of tag.attributes }

abbrev pub brackets_after : ℕ → ℕ → ℕ
brackets_after code before = if code == 0x5D then min (before + 1) 2 else 0

abbrev pub after : Piece → Context → Context
after Declaration c = record { elements = c.elements; ended = c.ended; first = false; brackets = 0 }
after (Start tag) c = record { elements = entered tag ∷ c.elements; ended = c.ended; first = false; brackets = 0 }
after (Empty tag) c = record { elements = c.elements; ended = is_outside c; first = false; brackets = 0 }
after (End written) c = record { elements = inner c.elements; ended = is_empty (inner c.elements); first = false; brackets = 0 }
after Comment c = record { elements = c.elements; ended = c.ended; first = false; brackets = 0 }
after Instruction c = record { elements = c.elements; ended = c.ended; first = false; brackets = 0 }
after (CData text) c = record { elements = c.elements; ended = c.ended; first = false; brackets = 0 }
after (Reference code) c = record { elements = c.elements; ended = c.ended; first = false; brackets = 0 }
after (Character code) c = record { elements = c.elements; ended = c.ended; first = false; brackets = brackets_after code c.brackets }
