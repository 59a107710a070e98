-- Documents, and the first fault of bytes that are not one, by XML 1.0 (fifth edition) and Namespaces in XML 1.0, within the
-- profile.
use Rattle.std.specs.Prelude.{◌≡◌, ◌+◌, ℕ, true, false, List, [], ◌∷◌, length, drop, Some, None, encode_utf8, IsUtf8, ◌⊎◌, if◌then◌else◌}
use Rattle.std.specs.Str.{IsValidUpTo}
use Rattle.std.specs.Prelude.{nat_eq}
use Rattle.std.specs.List.{starts_with}
use Rattle.base_trees.specs.Rose.{Rose, Allowed}
use Rattle.xml_pieces.specs.Pieces.{Tag, Piece, Declaration, Start, Empty, End, Comment, Instruction, CData, Reference, Character, Begins, NoPieceAt}
use Rattle.xml_pieces.specs.Reasons.{NoneReason}
use Rattle.xml_pieces.specs.declared.reason.NoneWhy.{NoneWhy}
use Rattle.xml_pieces.specs.declared.reason.NoneWhy.TheVariants as none
use Rattle.xml_items.specs.declared.label.ItemLabel.{ItemLabel}
use Rattle.xml_read.specs.declared.error.DocWhy.{DocWhy}
use Rattle.xml_read.specs.declared.error.DocWhy.TheVariants as why
use Rattle.xml_read.specs.declared.error.DocError.{DocError}
use Rattle.xml_read.specs.declared.error.DocError.TheVariants as errors
use Rattle.xml_items.specs.Labels.{MayHave}
use Rattle.xml_pieces.specs.Namespaces.{bindings_of, attributes_of, element_name}
use Rattle.xml_read.specs.Contexts.{Context, start, is_outside, scope, tag_scope, reason, after}
use Rattle.xml_read.specs.Tokens.{Token, Opens, Closes, tokens, join}

-- The token of an element's start.
abbrev pub opening : Tag → Context → ℕ → Token
opening tag c at =
    let inside = tag_scope tag (scope c) in
    Opens (element_name inside tag.name) (attributes_of inside tag.attributes) (bindings_of tag.attributes) at

-- The tokens of a piece, followed by `ts`; `at` is its place.
abbrev pub told : Piece → Context → ℕ → List Token → List Token
told Declaration c at ts = ts
told (Start tag) c at ts = opening tag c at ∷ ts
told (Empty tag) c at ts = opening tag c at ∷ Closes ∷ ts
told (End written) c at ts = Closes ∷ ts
told Comment c at ts = ts
told Instruction c at ts = ts
told (CData text) c at ts = join text at ts
told (Reference code) c at ts = join (encode_utf8 code) at ts
told (Character code) c at ts = if is_outside c then ts else join (encode_utf8 code) at ts

-- From this context and place on, the bytes are these pieces, and the root has ended after them. No reason is against any of
-- them, and they give these tokens.
abbrev pub Whole : List Piece → Context → ℕ → List ℕ → List Token → Type 0
Whole [] c at bytes ts = (c.ended ≡ true) × (bytes ≡ []) × (ts ≡ [])
Whole (p ∷ ps) c at bytes ts =
    (rest : List ℕ) × (more : List Token) × (b : Begins p bytes rest) × (reason p c ≡ None) × (ts ≡ told p c at more)
    × Whole ps (after p c) (at + length b.front) rest more

abbrev pub why_of : NoneWhy → DocWhy
why_of none.Doctype = why.Doctype
why_of none.Version = why.Version
why_of none.Encoding = why.Encoding
why_of none.BadReference = why.BadReference
why_of none.NoPiece = why.NoPiece

-- No piece begins here, or a piece begins with a reason against it, or the bytes end before the root does.
abbrev pub FaultAt : Context → List ℕ → DocWhy → Type 0
FaultAt c [] reason_is = (c.ended ≡ false) × (reason_is ≡ why.Unfinished)
FaultAt c (b ∷ bs) reason_is =
    (NoPieceAt (b ∷ bs) × ((cause : NoneWhy) × NoneReason c.first (b ∷ bs) cause × (reason_is ≡ why_of cause)))
    ⊎ ((p : Piece) × (rest : List ℕ) × Begins p (b ∷ bs) rest × (reason p c ≡ Some reason_is))

-- From this context and place on, the bytes begin with these pieces, without a reason against any of them, and the fault after
-- them is at the place, for the reason.
abbrev pub Broken : List Piece → Context → ℕ → List ℕ → ℕ → DocWhy → Type 0
Broken [] c at bytes place reason_is = (place ≡ at) × FaultAt c bytes reason_is
Broken (p ∷ ps) c at bytes place reason_is =
    (rest : List ℕ) × (b : Begins p bytes rest) × (reason p c ≡ None) × Broken ps (after p c) (at + length b.front) rest place reason_is

-- the length of the byte order mark, which is skipped (XML 1.0, section 4.3.3)
abbrev pub mark_len : List ℕ → ℕ
mark_len bytes = if starts_with nat_eq bytes (0xEF ∷ 0xBB ∷ 0xBF ∷ []) then 3 else 0

-- the bytes are a document of these items
pub record DocOf (bytes : List ℕ) (root : Rose ItemLabel) : Type 0 where
  pub utf8 : IsUtf8 bytes
  pub allowed : Allowed MayHave root
  pub pieces : List Piece
  pub whole : Whole pieces start (mark_len bytes) (drop (mark_len bytes) bytes) (tokens root)

-- The first fault is at this place, in bytes from 0, for this reason.
abbrev pub BrokenAt : List ℕ → ℕ → DocWhy → Type 0
BrokenAt bytes at reason_is =
    ((¬ IsUtf8 bytes) × IsValidUpTo bytes at × (reason_is ≡ why.NotUtf8))
    ⊎ (IsUtf8 bytes × ((pieces : List Piece) × Broken pieces start (mark_len bytes) (drop (mark_len bytes) bytes) at reason_is))

-- The meaning of an error: the first fault of the bytes, or an allocation failure, which says nothing of them.
abbrev pub Refuses : List ℕ → DocError → Type 0
Refuses bytes (errors.Syntax at reason_is) = BrokenAt bytes at reason_is
Refuses bytes errors.Memory = Unit {0}
