-- The places of what a document tells ascend.
use Rattle.std.proofs.Common.{◌≡◌, ℕ, ◌+◌, ◌≤◌, ◌<◌, Bool, true, false, cond, List, [], ◌∷◌, length, drop, refl, sym, ap, subst, ◌∙◌, arith}
use Rattle.std.specs.Prelude.{encode_utf8}
use Rattle.std.proofs.lemmas.List.{length-append, length-drop}
use Rattle.base_trees.specs.Rose.{Rose}
use Rattle.xml_pieces.specs.Pieces.{Piece, Declaration, Start, Empty, End, Comment, Instruction, CData, Reference, Character, Begins}
use Rattle.xml_pieces.proofs.Facts.{form_some, start_some, empty_some}
use Rattle.xml_items.specs.declared.label.ItemLabel.{ItemLabel}
use Rattle.xml_read.specs.Contexts.{Context, start, is_outside, after}
use Rattle.xml_read.specs.Tokens.{Token, Opens, Closes, Words, tokens, join, Ascend}
use Rattle.xml_read.specs.Documents.{told, Whole, mark_len, DocOf}
use Rattle.xml_read.proofs.OneTree.{mark_within}

higher : (ts : List Token) (least other bound : ℕ) → least ≤ other → Ascend other bound ts → Ascend least bound ts
higher [] least other bound le a = tt
higher (Opens n b d at ∷ ts) least other bound le a = (omega (arith, a.0), a.1, a.2)
higher (Closes ∷ ts) least other bound le a = higher ts least other bound le a
higher (Words text at ∷ ts) least other bound le a = (omega (arith, a.0), a.1, a.2)

joined : (text : List ℕ) (at later bound : ℕ) (ts : List Token) → at < later → at < bound → Ascend later bound ts → Ascend at bound (join text at ts)
joined [] at later bound ts lt in_bound a = higher ts at later bound (omega arith) a
joined (b ∷ bs) at later bound [] lt in_bound a = (omega arith, in_bound, tt)
joined (b ∷ bs) at later bound (Words text place ∷ ts) lt in_bound a = (omega arith, in_bound, higher ts (at + 1) (place + 1) bound (omega (arith, a.0)) a.2)
joined (b ∷ bs) at later bound (Opens n c d place ∷ ts) lt in_bound a = (omega arith, in_bound, higher (Opens n c d place ∷ ts) (at + 1) later bound (omega arith) a)
joined (b ∷ bs) at later bound (Closes ∷ ts) lt in_bound a = (omega arith, in_bound, higher ts (at + 1) later bound (omega arith) a)

outside_or : (b : Bool) (text : List ℕ) (at later bound : ℕ) (ts : List Token) → at < later → at < bound → Ascend later bound ts → Ascend at bound (cond b ts (join text at ts))
outside_or true text at later bound ts lt in_bound a = higher ts at later bound (omega arith) a
outside_or false text at later bound ts lt in_bound a = joined text at later bound ts lt in_bound a

told_ascend : (p : Piece) (c : Context) (at later bound : ℕ) (bytes rest : List ℕ) (ts : List Token) (b : Begins p bytes rest) → later ≡ at + length b.front → later ≤ bound → Ascend later bound ts → Ascend at bound (told p c at ts)
told_ascend Declaration c at later bound bytes rest ts b e le a = higher ts at later bound (omega (arith, e)) a
told_ascend (Start tag) c at later bound bytes rest ts b e le a = (omega arith, omega (arith, e, start_some tag b.front b.form), higher ts (at + 2) later bound (omega (arith, e, start_some tag b.front b.form)) a)
told_ascend (Empty tag) c at later bound bytes rest ts b e le a = (omega arith, omega (arith, e, empty_some tag b.front b.form), higher ts (at + 2) later bound (omega (arith, e, empty_some tag b.front b.form)) a)
told_ascend (End written) c at later bound bytes rest ts b e le a = higher ts at later bound (omega (arith, e)) a
told_ascend Comment c at later bound bytes rest ts b e le a = higher ts at later bound (omega (arith, e)) a
told_ascend Instruction c at later bound bytes rest ts b e le a = higher ts at later bound (omega (arith, e)) a
told_ascend (CData text) c at later bound bytes rest ts b e le a = joined text at later bound ts (omega (arith, e, form_some (CData text) b.front b.form)) (omega (arith, e, form_some (CData text) b.front b.form)) a
told_ascend (Reference code) c at later bound bytes rest ts b e le a = joined (encode_utf8 code) at later bound ts (omega (arith, e, form_some (Reference code) b.front b.form)) (omega (arith, e, form_some (Reference code) b.front b.form)) a
told_ascend (Character code) c at later bound bytes rest ts b e le a = outside_or (is_outside c) (encode_utf8 code) at later bound ts (omega (arith, e, form_some (Character code) b.front b.form)) (omega (arith, e, form_some (Character code) b.front b.form)) a

ascends : (ps : List Piece) (c : Context) (at bound : ℕ) (bytes : List ℕ) (ts : List Token) → at + length bytes ≤ bound → Whole ps c at bytes ts → Ascend at bound ts
ascends [] c at bound bytes ts le w = subst (Ascend at bound) (sym w.2) tt
ascends (p ∷ ps) c at bound bytes ts le w =
    let long : length bytes ≡ length w.2.front + length w.0 = ap length w.2.parts ∙ length-append w.2.front w.0 in
    subst (Ascend at bound) (sym w.4) (told_ascend p c at (at + length w.2.front) bound bytes w.0 w.1 w.2 refl (omega (arith, long, le)) (ascends ps (after p c) (at + length w.2.front) bound w.0 w.1 (omega (arith, long, le)) w.5))

pub doc_ascends : (bytes : List ℕ) (root : Rose ItemLabel) → length bytes ≤ 16777216 → DocOf bytes root → Ascend 0 16777216 (tokens root)
doc_ascends bytes root short doc =
    higher (tokens root) 0 (mark_len bytes) 16777216 (omega arith)
    (ascends doc.pieces start (mark_len bytes) 16777216 (drop (mark_len bytes) bytes) (tokens root) (omega (arith, length-drop (mark_len bytes) bytes, mark_within bytes, short)) doc.whole)
