-- The tree of a document is sound, however long the document is.
use Rattle.std.proofs.Common.{◌≡◌, ℕ, ◌+◌, true, ◌&&◌, not, List, [], ◌∷◌, length, drop, None, refl, sym, ap, ◌∙◌, subst}
use Rattle.std.proofs.lemmas.Bool.{and_parts}
use Rattle.base_trees.specs.Rose.{Rose, node, none, roses_of}
use Rattle.xml_pieces.specs.Pieces.{Piece}
use Rattle.xml_items.specs.declared.label.ItemLabel.{ItemLabel}
use Rattle.xml_read.specs.Contexts.{Context, start, reason, after}
use Rattle.xml_read.specs.Documents.{Whole, mark_len, DocOf}
use Rattle.xml_read.specs.Private.States.{State, nothing, context, step}
use Rattle.xml_read.specs.Sound.{is_sound, are_sound, is_text, begins_with_text}
use Rattle.xml_read.specs.Tokens.{Token, tokens}
use Rattle.xml_read.proofs.Going.{Stands, stands_first, stands_on}
use Rattle.xml_read.proofs.Keeping.{root_allowed}
use Rattle.xml_read.proofs.OneTree.{one_tree}
use Rattle.xml_read.proofs.PieceLaws.{PieceLaws}
use Rattle.xml_read.proofs.Reaching.{place_of, is_whole}
use Rattle.xml_read.proofs.Telling.{context-step}

-- a document of a sound tree
abbrev pub IsSoundDocument : List ℕ → Rose ItemLabel → Type 0
IsSoundDocument bytes root = DocOf bytes root × (is_sound root ≡ true)

alone : (root : Rose ItemLabel) → are_sound (roses_of (root ∷ [])) ≡ true → is_sound root ≡ true
alone (node label kids) e =
    let one = and_parts _ true e in
    (and_parts (is_sound (node label kids)) (not (is_text label && begins_with_text none)) one.0).0

at_end : (bytes : List ℕ) (s : State) → Stands bytes [] s → s.ended ≡ true → (root : Rose ItemLabel) × IsSoundDocument bytes root
at_end bytes s stands ended =
    let r = stands.good.one ended in (
      r.root,
      (
        is_whole bytes s r.root stands.utf8 stands.reaches ended r.above (stands.good.no_text r.above) r.kids (root_allowed s (place_of bytes []) r stands.good),
        alone r.root (subst (λ (kids : List (Rose ItemLabel)). are_sound (roses_of kids) ≡ true) r.kids stands.good.kids.sound),
      ),
    )

-- a reader that stands before the rest of a document comes to its end
read_on : PieceLaws → (bytes : List ℕ) (ps : List Piece) (c : Context) (at : ℕ) (rest : List ℕ) (ts : List Token) (s : State) → context s ≡ c → Stands bytes rest s → Whole ps c at rest ts
    → (root : Rose ItemLabel) × IsSoundDocument bytes root
read_on laws bytes [] c at rest ts s same stands (ended, empty, no_tokens) =
    at_end bytes s (subst (λ (r : List ℕ). Stands bytes r s) empty stands) (ap (λ (x : Context). x.ended) same ∙ ended)
read_on laws bytes (p ∷ ps) c at rest ts s same stands (behind, more, begins, no_reason, tells, later) =
    let here = place_of bytes rest in
    let none_here = subst (λ (x : Context). reason p x ≡ None) (sym same) no_reason in
    read_on laws bytes ps (after p c) (at + length begins.front) behind more (step p here s) (context-step p here s ∙ ap (after p) same) (stands_on laws bytes rest behind s p here stands refl begins none_here) later

pub tree_is_sound : PieceLaws → (bytes : List ℕ) (root : Rose ItemLabel) → DocOf bytes root → is_sound root ≡ true
tree_is_sound laws bytes root document =
    let rest = drop (mark_len bytes) bytes in
    let read = read_on laws bytes document.pieces start (mark_len bytes) rest (tokens root) nothing refl (stands_first bytes rest document.utf8 refl) document.whole in
    subst (λ (x : Rose ItemLabel). is_sound x ≡ true) (one_tree laws bytes read.0 root read.1.0 document) read.1.1
