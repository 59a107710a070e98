-- The state that a reader of the code represents.
use Rattle.std.specs.Prelude.{◌≡◌, ◌⊎◌, ◌+◌, ◌<◌, ◌≤◌, ℕ, true, List, [], ◌∷◌, ◌++◌, length, map, take, drop, reverse, None, string_bytes, IsUtf8}
use Rattle.std.specs.Borrow.{Bor}
use Rattle.base_texts.specs.declared.texts.Name.{Name}
use Rattle.base_texts.specs.Namespaces.{xml_prefix, xml_space}
use Rattle.base_trees.specs.Rose.{Rose}
use Rattle.base_flat_trees.specs.Zips as zips
use Rattle.xml_pieces.specs.Pieces as pieces
use Rattle.xml_pieces.specs.Pieces.{Piece, Declaration, Start, Empty, End, Comment, Instruction, CData, Reference, Character}
use Rattle.xml_pieces.specs.Reasons.{IsPlainRun}
use Rattle.xml_items.specs.declared.label.ItemLabel.{ItemLabel}
use Rattle.xml_items.specs.declared.label.ItemLabel.TheVariants.{Element, Text}
use Rattle.xml_read.specs.declared.builder.Builder.{Builder}
use Rattle.xml_read.specs.declared.builder.Opening.{Opening}
use Rattle.xml_read.specs.declared.builder.Opening.TheVariants as opens
use Rattle.xml_read.specs.declared.error.DocError.{DocError}
use Rattle.xml_read.specs.declared.error.DocError.TheVariants as errors
use Rattle.xml_pieces.specs.Found.{tag_seen}
use Rattle.std.specs.List.{flat_map}
use Rattle.xml_items.specs.Labels.{item_place}
use Rattle.xml_read.specs.Sound.{AreItems}
use Rattle.xml_read.specs.Contexts.{Open, Context, is_innermost, scope, reason}
use Rattle.xml_read.specs.Documents.{DocOf}
use Rattle.xml_read.specs.Private.Entering.{Stopped, have_utf8, IsNamed}
use Rattle.xml_read.specs.Private.Noting.{AllKnown, KnownAs, bare}
use Rattle.xml_read.specs.Private.States.{Above, State, nothing, context, kids_of_state, closed, with_leaf, step}

-- ---- an open element, by its written name and the open nodes from its own on

-- The label of the first open node, or one without a name if there is none.
abbrev pub label_in : List (zips.Above ItemLabel) → ItemLabel
label_in [] = Text [] 0
label_in (a ∷ up) = a.label

abbrev pub before_in : List (zips.Above ItemLabel) → List (Rose ItemLabel)
before_in [] = []
before_in (a ∷ up) = a.before

abbrev pub up_in : List (zips.Above ItemLabel) → List (zips.Above ItemLabel)
up_in [] = []
up_in (a ∷ up) = up

abbrev pub name_of : ItemLabel → Name
name_of (Element name attributes declares at) = name
name_of (Text text at) = record { space = []; local = [] }

abbrev pub attributes_in : ItemLabel → List (Name × List ℕ)
attributes_in (Element name attributes declares at) = attributes
attributes_in (Text text at) = []

abbrev pub declares_in : ItemLabel → List (List ℕ × List ℕ)
declares_in (Element name attributes declares at) = declares
declares_in (Text text at) = []

abbrev pub above_of : List ℕ → List (zips.Above ItemLabel) → Above
above_of written up = record {
  written = written;
  name = name_of (label_in up);
  attributes = attributes_in (label_in up);
  declares = declares_in (label_in up);
  at = item_place (label_in up);
  before = before_in up;
}

-- The written names combined with the open nodes, the innermost first.
abbrev pub aboves : List (Bor (List ℕ)) → List (zips.Above ItemLabel) → List Above
aboves [] up = []
aboves (written ∷ names) up = above_of written.now up ∷ aboves names (up_in up)

-- The number of open elements.
abbrev pub depth_of : Builder → ℕ
depth_of b = length b.open.items

abbrev pub state : Builder → State
state b = record {
  above = aboves (reverse b.open.items) b.items.zip.above;
  kids = b.items.zip.kids;
  text = string_bytes b.text;
  text_at = b.text_at;
  ended = b.ended;
  first = b.first;
  brackets = b.brackets;
}

-- the node of an element that is open
abbrev pub node_of : Above → zips.Above ItemLabel
node_of a = record { label = Element a.name a.attributes a.declares a.at; before = a.before }

-- No reason is against the name of each open element either.
abbrev pub AreNamed : List Open → Type 0
AreNamed [] = Unit {0}
AreNamed (e ∷ es) = IsNamed e.written (flat_map (λ o. o.declares) (e ∷ es) ++ (xml_prefix, xml_space) ∷ []) × AreNamed es

-- The bindings kept are those in scope, the open elements have been tested, the open nodes are those of the state, and the notes
-- are right.
pub record Scoped (b : Builder) : Type 0 where
  pub scope_is : reverse b.scope ≡ scope (context (state b))
  pub named : AreNamed (context (state b)).elements
  pub nodes : map node_of (state b).above ≡ b.items.zip.above
  pub noted : AllKnown (reverse b.scope) b.items.names b.notes.written.items b.notes.names.items

-- No reason is against the piece, and the reader has made its step.
pub record Takes (p : Piece) (at : ℕ) (old new : Builder) : Type 0 where
  pub none : reason p (context (state old)) ≡ None
  pub steps : state new ≡ step p at (state old)
  pub scoped : Scoped new

-- A piece is at the start, `behind` follows it, no reason is against it, and the reader has made its step.
pub record TakesFirst (rest behind : List ℕ) (at : ℕ) (old new : Builder) : Type 0 where
  pub piece : Piece
  pub begins : pieces.Begins piece rest behind
  pub takes : Takes piece at old new

-- `len` bytes of plain characters are at the start, the end tag of this name follows them, and `behind` follows that.
pub record IsLeaf (name inner : List ℕ) (len : ℕ) (behind : List ℕ) : Type 0 where
  pub some : 0 < len
  pub within : len ≤ length inner
  pub run : IsPlainRun (take len inner)
  pub parts : drop len inner ≡ 0x3C ∷ 0x2F ∷ (name ++ 0x3E ∷ behind)

-- The reader has added an element that has only these characters.
pub record PutsLeaf (tag : pieces.Tag) (at : ℕ) (text : List ℕ) (text_at : ℕ) (old new : Builder) : Type 0 where
  pub steps : state new ≡ with_leaf tag at text text_at (state old)
  pub scoped : Scoped new

-- An element of only plain characters is at the start, `behind` follows it, no reason is against its start tag, and the reader
-- has added it.
pub record TakesLeaf (rest behind : List ℕ) (at : ℕ) (old new : Builder) : Type 0 where
  pub name : List ℕ
  pub inner : List ℕ
  pub len : ℕ
  pub none : reason (Start (bare name)) (context (state old)) ≡ None
  pub parts : rest ≡ 0x3C ∷ (name ++ 0x3E ∷ inner)
  pub leaf : IsLeaf name inner len behind
  pub puts : PutsLeaf (bare name) at (take len inner) (at + length name + 2) old new

-- The reader has added a piece, or an element of only plain characters.
abbrev pub TakesKnown : List ℕ → List ℕ → ℕ → Builder → Builder → Type 0
TakesKnown rest behind at old new = TakesFirst rest behind at old new ⊎ TakesLeaf rest behind at old new

-- the start tag that begins an element
abbrev pub tag_of : Opening → pieces.Tag
tag_of (opens.Read tag) = tag_seen tag.now
tag_of (opens.Noted note) = bare note.now.written.now
tag_of (opens.Leaf note inner len) = bare note.now.written.now

-- `len` bytes of plain characters are at the start, after the start tag of this name at this place.
pub record CanPut (name : List ℕ) (inner : List ℕ) (len at : ℕ) : Type 0 where
  pub some : 0 < len
  pub within : len ≤ length inner
  pub run : IsPlainRun (take len inner)
  pub place : at + length name ≤ 16777216

-- The preconditions of an opening: the values of a tag are UTF-8, and a note is right where the reader is.
abbrev pub CanOpen : Opening → ℕ → Builder → Type 0
CanOpen (opens.Read tag) at b = have_utf8 (tag_seen tag.now).attributes ≡ true
CanOpen (opens.Noted note) at b = KnownAs (reverse b.scope) b.items.names note.now.written.now note.now.name
CanOpen (opens.Leaf note inner len) at b = KnownAs (reverse b.scope) b.items.names note.now.written.now note.now.name × CanPut note.now.written.now inner.now len at

-- No reason is against the start tag, and the reader has made its step, or has added the complete element.
abbrev pub Opens : Opening → ℕ → Builder → Builder → Type 0
Opens (opens.Read tag) at old new = Takes (Start (tag_seen tag.now)) at old new
Opens (opens.Noted note) at old new = Takes (Start (bare note.now.written.now)) at old new
Opens (opens.Leaf note inner len) at old new = (reason (Start (bare note.now.written.now)) (context (state old)) ≡ None) × PutsLeaf (bare note.now.written.now) at (take len inner.now) (at + length note.now.written.now + 2) old new

-- The error is the first reason against the piece at the start, or an allocation failure.
abbrev pub StopsFirst : List ℕ → ℕ → Builder → DocError → Type 0
StopsFirst rest at old (errors.Syntax place why) = (piece : Piece) × (behind : List ℕ) × pieces.Begins piece rest behind × Stopped (reason piece (context (state old))) at (errors.Syntax place why)
StopsFirst rest at old errors.Memory = Unit {0}

-- The name of the innermost element and a `>` are at the start, and `behind` follows them.
pub record EndsInnermost (written behind : List ℕ) (c : Context) : Type 0 where
  pub name : List ℕ
  pub innermost : is_innermost name c.elements ≡ true
  pub parts : written ≡ name ++ 0x3E ∷ behind

-- nothing has been read
pub record Begins (b : Builder) : Type 0 where
  pub steps : state b ≡ nothing
  pub scoped : Scoped b

-- A document has been read: its root has ended, and is the only tree.
pub record HasRead (bytes : List ℕ) (b : Builder) : Type 0 where
  pub closed : b.items.zip.above ≡ []
  pub root : Rose ItemLabel
  pub kids : b.items.zip.kids ≡ root ∷ []
  pub doc : DocOf bytes root
  pub items : AreItems root

-- The characters are a node, and the rest of the state is unchanged.
pub record Flushed (old new : Builder) : Type 0 where
  pub kids : new.items.zip.kids ≡ kids_of_state (state old)
  pub same_above : new.items.zip.above ≡ old.items.zip.above
  pub same_names : new.items.names ≡ old.items.names
  pub same_notes : new.notes ≡ old.notes
  pub text : string_bytes new.text ≡ []
  pub same_place : new.text_at ≡ old.text_at
  pub same_open : new.open.items ≡ old.open.items
  pub same_scope : new.scope ≡ old.scope
  pub same_end : new.ended ≡ old.ended
  pub same_first : new.first ≡ old.first
  pub same_brackets : new.brackets ≡ old.brackets

-- the innermost element has ended
pub record Shuts (old new : Builder) : Type 0 where
  pub steps : state new ≡ closed (state old).above (state old)
  pub scoped : Scoped new

-- The bindings, the nodes, the open names and the notes are unchanged.
pub record Kept (old new : Builder) : Type 0 where
  pub scope : new.scope ≡ old.scope
  pub items : new.items ≡ old.items
  pub names : new.open.items ≡ old.open.items
  pub notes : new.notes ≡ old.notes

-- The bytes that a piece adds to texts and values are UTF-8.
abbrev pub GivesUtf8 : Piece → Type 0
GivesUtf8 Declaration = Unit {0}
GivesUtf8 (Start tag) = have_utf8 tag.attributes ≡ true
GivesUtf8 (Empty tag) = have_utf8 tag.attributes ≡ true
GivesUtf8 (End written) = Unit {0}
GivesUtf8 Comment = Unit {0}
GivesUtf8 Instruction = Unit {0}
GivesUtf8 (CData text) = IsUtf8 text
GivesUtf8 (Reference code) = Unit {0}
GivesUtf8 (Character code) = Unit {0}
