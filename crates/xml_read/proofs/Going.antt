-- Each step keeps what a state keeps; so each list of bytes has an answer.
use Rattle.std.proofs.Common.{◌≡◌, ◌≢◌, ℕ, zero, suc, ◌≤◌, ◌<◌, Bool, true, false, List, [], ◌∷◌, length, map, drop, Option, Some, None, refl, sym, subst, ◌∙◌, arith, inl, inr}
use Rattle.std.specs.Prelude.{◌⊎◌, ◌^◌, IsUtf8, encode_utf8, nat_le}
use Rattle.std.specs.Str.{is_utf8}
use Rattle.std.proofs.lemmas.Str.{IsUtf8-from_is_utf8, is_utf8-from_IsUtf8}
use Rattle.std.proofs.lemmas.Bool.Decides.{nat_tests}
use Rattle.std.proofs.lemmas.List.{length-map}
use Rattle.base_trees.specs.Rose.{Rose}
use Rattle.xml_pieces.specs.Pieces.{Tag, Piece, Declaration, Start, Empty, End, Comment, Instruction, CData, Reference, Character, Begins, NoPieceAt}
use Rattle.xml_pieces.specs.Reading.{piece_at}
use Rattle.xml_items.specs.declared.label.ItemLabel.{ItemLabel}
use Rattle.xml_read.specs.declared.error.DocWhy.{DocWhy}
use Rattle.xml_read.specs.declared.error.DocWhy.TheVariants as why
use Rattle.xml_read.specs.Sound.{AreItems}
use Rattle.xml_read.specs.Contexts.{scope, start_tests, reason, brackets_after}
use Rattle.base_texts.specs.Limits.{is_empty}
use Rattle.base_texts.specs.Entries.{first_true}
use Rattle.xml_read.specs.Documents.{why_of, mark_len, DocOf, BrokenAt}
use Rattle.xml_read.specs.Private.States.{Above, State, nothing, context, open_of, entering, kids_of_state, opened, emptied, closed, added, step}
use Rattle.xml_read.proofs.Telling.{passed, Passed, is_empty-map, some_innermost, innermost_is}
use Rattle.xml_read.proofs.Keeping.{IsFine, Root, Good, good_start, good_passed, good_opened, good_emptied, good_closed, good_written, root_allowed, items_of}
use Rattle.xml_read.proofs.Soundness.{tag_sound, scope_sound}
use Rattle.xml_read.proofs.PieceLaws.{PieceLaws, Fine}
use Rattle.xml_read.proofs.Reaching.{Reaches, place_of, begins, goes_on, front_len, stops, stops_where_none, is_unfinished, is_whole}
use Rattle.xml_read.proofs.OneTree.{utf8_behind, mark_within, valid_up_to, one_tree, tree_or_fault}

over : (a b : ℕ) → nat_le a b ≡ false → b < a
over a b e = grind (arith, nat_tests)

depth_is : (above : List Above) → nat_le 64 (length (map open_of above)) ≡ false → length above < 64
depth_is above e = omega (arith, over 64 (length (map open_of above)) e, length-map above open_of)

inside_is : (w : DocWhy) (s : State) → first_true ((is_empty (map open_of s.above), w) ∷ []) ≡ None → is_empty s.above ≡ false
inside_is w s e = sym (is_empty-map open_of s.above) ∙ (passed ((is_empty (map open_of s.above), w) ∷ []) e).0

good_added : (s : State) (text : List ℕ) (n at later : ℕ) → Good s at → at < later → IsFine text → (b : Bool) → is_empty s.above ≡ b → Good (added text at n s) later
good_added s text n at later good lt fine true e = rw e (good_passed s false n at later good (omega arith))
good_added s text n at later good lt fine false e = rw e (good_written s text _ n at later good lt e fine)

good_end : (s : State) (at later : ℕ) (above : List Above) → Good s at → at < later → s.above ≡ above → (is_empty above ≡ true → ⊥) → Good (closed above s) later
good_end s at later [] good lt e some = absurd (some refl)
good_end s at later (a ∷ above) good lt e some = good_closed s a above s.text_at at later good lt e

good_start_tag : (s : State) (tag : Tag) (at later : ℕ) → Good s at → at < later → Passed (start_tests tag (scope (context s)) s.ended (length (map open_of s.above))) → Fine (Start tag) → Good (opened tag at s) later
good_start_tag s tag at later good lt p fine =
    good_opened s (entering tag (scope (context s)) at (kids_of_state s)) s.text_at at later good lt p.1.1.1.1.1.0 (depth_is s.above p.1.1.1.1.1.1.0) refl
    (tag_sound tag (scope (context s)) s.ended (length (map open_of s.above)) at p fine (scope_sound s.above good.frames))

good_empty_tag : (s : State) (tag : Tag) (at later : ℕ) → Good s at → at < later → Passed (start_tests tag (scope (context s)) s.ended (length (map open_of s.above))) → Fine (Empty tag) → Good (emptied tag at s) later
good_empty_tag s tag at later good lt p fine =
    good_emptied s (entering tag (scope (context s)) at []) s.text_at at later good lt p.1.1.1.1.1.0 (depth_is s.above p.1.1.1.1.1.1.0)
    (tag_sound tag (scope (context s)) s.ended (length (map open_of s.above)) at p fine (scope_sound s.above good.frames))

pub good_step : (p : Piece) (s : State) (at later : ℕ) → Good s at → at < later → reason p (context s) ≡ None → Fine p → Good (step p at s) later
unfolding reason
good_step Declaration s at later good lt e fine = good_passed s false 0 at later good (omega arith)
good_step (Start tag) s at later good lt e fine = good_start_tag s tag at later good lt (passed (start_tests tag (scope (context s)) s.ended (length (map open_of s.above))) e) fine
good_step (Empty tag) s at later good lt e fine = good_empty_tag s tag at later good lt (passed (start_tests tag (scope (context s)) s.ended (length (map open_of s.above))) e) fine
good_step (End written) s at later good lt e fine = good_end s at later s.above good lt refl (some_innermost written s.above (innermost_is written (context s) e))
good_step Comment s at later good lt e fine = good_passed s false 0 at later good (omega arith)
good_step Instruction s at later good lt e fine = good_passed s false 0 at later good (omega arith)
good_step (CData text) s at later good lt e fine = good_added s text 0 at later good lt fine false (inside_is why.TextOutside s e)
good_step (Reference code) s at later good lt e fine = good_added s (encode_utf8 code) 0 at later good lt fine false (inside_is why.TextOutside s e)
good_step (Character code) s at later good lt e fine = good_added s (encode_utf8 code) (brackets_after code s.brackets) at later good lt fine (is_empty s.above) refl

-- a reader stands before this rest, in this state, and all is well so far
pub record Stands (bytes rest : List ℕ) (s : State) : Type 0 where
  pub utf8 : IsUtf8 bytes
  pub rest_utf8 : IsUtf8 rest
  pub reaches : Reaches bytes rest s
  pub good : Good s (place_of bytes rest)

pub stands_first : (bytes rest : List ℕ) → IsUtf8 bytes → rest ≡ drop (mark_len bytes) bytes → Stands bytes rest nothing
stands_first bytes rest utf8 e = record {
  utf8 = utf8;
  rest_utf8 = subst IsUtf8 (sym e) (utf8_behind bytes utf8);
  reaches = begins bytes rest e (mark_within bytes);
  good = good_start (place_of bytes rest);
}

pub shorter : PieceLaws → (p : Piece) (rest behind : List ℕ) → Begins p rest behind → length behind < length rest
shorter laws p rest behind b = omega (arith, front_len p rest behind b, laws.nonempty p b.front b.form)

pub stands_on : PieceLaws → (bytes rest behind : List ℕ) (s : State) (p : Piece) (at : ℕ) → Stands bytes rest s → at ≡ place_of bytes rest → Begins p rest behind → reason p (context s) ≡ None → Stands bytes behind (step p at s)
stands_on laws bytes rest behind s p at stands at_is b none =
    let lt : at < place_of bytes behind = omega (arith, at_is, stands.reaches.within, shorter laws p rest behind b) in
    record {
      utf8 = stands.utf8;
      rest_utf8 = laws.utf8 p rest behind stands.rest_utf8 b;
      reaches = goes_on bytes rest behind s p at stands.reaches at_is b none;
      good = good_step p s at (place_of bytes behind) (subst (Good s) (sym at_is) stands.good) lt none (laws.fine p rest behind stands.rest_utf8 b);
    }

-- a document of items
pub record DocOfItems (bytes : List ℕ) (root : Rose ItemLabel) : Type 0 where
  pub doc : DocOf bytes root
  pub items : AreItems root

abbrev pub IsWholeOf : List ℕ → Rose ItemLabel → Type 0
IsWholeOf bytes root = DocOf bytes root × (length bytes < 2 ^ 31 → AreItems root)

whole_of : (bytes : List ℕ) (s : State) (r : Root s) → Stands bytes [] s → s.ended ≡ true → IsWholeOf bytes r.root
whole_of bytes s r stands ended = (
  is_whole bytes s r.root stands.utf8 stands.reaches ended r.above (stands.good.no_text r.above) r.kids (root_allowed s (place_of bytes []) r stands.good),
  λ short. items_of s (place_of bytes []) r stands.good (omega arith),
)

pub ends_whole : (bytes : List ℕ) (s : State) (root : Rose ItemLabel) → length bytes < 2 ^ 31 → Stands bytes [] s → s.ended ≡ true → s.kids ≡ root ∷ [] → DocOfItems bytes root
ends_whole bytes s root short stands ended kids =
    let r = stands.good.one ended in
    let lists : root ∷ [] ≡ r.root ∷ [] = sym kids ∙ r.kids in
    let same : r.root ≡ root = cc in
    let whole : IsWholeOf bytes root = subst (IsWholeOf bytes) same (whole_of bytes s r stands ended) in
    record { doc = whole.0; items = whole.1 short }

-- ---- each list of bytes has an answer

abbrev pub Answer : List ℕ → Type 0
Answer bytes = ((root : Rose ItemLabel) × IsWholeOf bytes root) ⊎ ((at : ℕ) × (cause : DocWhy) × BrokenAt bytes at cause)

never : (x : Piece × List ℕ) (o : Option (Piece × List ℕ)) → o ≡ None → o ≡ Some x → ⊥
never x o e f = let clash : o ≡ Some x = f in absurd cc

pub none_at : PieceLaws → (rest : List ℕ) → IsUtf8 rest → piece_at rest ≡ None → NoPieceAt rest
none_at laws rest utf8 e p behind b = never (p, behind) (piece_at rest) e (laws.again p rest behind utf8 b)

at_end : (bytes : List ℕ) (s : State) (b : Bool) → Stands bytes [] s → s.ended ≡ b → Answer bytes
at_end bytes s true stands e = let r = stands.good.one e in inl (r.root, whole_of bytes s r stands e)
at_end bytes s false stands e = inr (length bytes, why.Unfinished, is_unfinished bytes s (length bytes) stands.utf8 stands.reaches refl e)

some_rest : (b : ℕ) (bs : List ℕ) → b ∷ bs ≢ []
some_rest b bs e = cc

answered : PieceLaws → (n : ℕ) (bytes rest : List ℕ) (s : State) → length rest ≤ n → Stands bytes rest s → Answer bytes
answered laws n bytes [] s le stands = at_end bytes s s.ended stands refl
answered laws zero bytes (b ∷ bs) s le stands = absurd (omega arith)
answered laws (suc n) bytes (b ∷ bs) s le stands =
    elim (piece_at (b ∷ bs)) as (λ (o : Option (Piece × List ℕ)). piece_at (b ∷ bs) ≡ o → Answer bytes) [
      | None ↦ (λ e. let cause = laws.none_some s.first (b ∷ bs) stands.rest_utf8 in
          inr (place_of bytes (b ∷ bs), why_of cause.0, stops_where_none bytes (b ∷ bs) s (place_of bytes (b ∷ bs)) cause.0 stands.utf8 stands.reaches refl (some_rest b bs) (none_at laws (b ∷ bs) stands.rest_utf8 e) cause.1))
      | Some x ↦ (λ e. let begin : Begins x.0 (b ∷ bs) x.1 = laws.takes (b ∷ bs) x.1 x.0 stands.rest_utf8 e in
          elim (reason x.0 (context s)) as (λ (r : Option DocWhy). reason x.0 (context s) ≡ r → Answer bytes) [
            | None ↦ (λ f. answered laws n bytes x.1 (step x.0 (place_of bytes (b ∷ bs)) s) (omega (arith, shorter laws x.0 (b ∷ bs) x.1 begin)) (stands_on laws bytes (b ∷ bs) x.1 s x.0 (place_of bytes (b ∷ bs)) stands refl begin f))
            | Some cause ↦ (λ f. inr (place_of bytes (b ∷ bs), cause, stops bytes (b ∷ bs) x.1 s x.0 (place_of bytes (b ∷ bs)) cause stands.utf8 stands.reaches refl begin (some_rest b bs) f))
          ] refl)
    ] refl

pub has_answer : PieceLaws → (bytes : List ℕ) → Answer bytes
has_answer laws bytes = elim (is_utf8 bytes) as (λ (b : Bool). is_utf8 bytes ≡ b → Answer bytes) [
  | true ↦ (λ e. let rest = drop (mark_len bytes) bytes in answered laws (length rest) bytes rest nothing (omega arith) (stands_first bytes rest (IsUtf8-from_is_utf8 bytes e) refl))
  | false ↦ (λ e. let bad : ¬ IsUtf8 bytes = λ u. (let fits : is_utf8 bytes ≡ true = is_utf8-from_IsUtf8 bytes u in cc) in let v = valid_up_to bytes bad in inr (v.0, why.NotUtf8, inl (bad, v.1, refl)))
] refl

pub answer : PieceLaws → (bytes : List ℕ) → ((root : Rose ItemLabel) × DocOf bytes root) ⊎ ((at : ℕ) × (cause : DocWhy) × BrokenAt bytes at cause)
answer laws bytes = elim (has_answer laws bytes) [ inl a ↦ inl (a.0, a.1.0) | inr a ↦ inr a ]

-- ---- the tree of a document is one of items

pub document_items : PieceLaws → (bytes : List ℕ) (root : Rose ItemLabel) → DocOf bytes root → length bytes < 2 ^ 31 → AreItems root
document_items laws bytes root doc short = elim (has_answer laws bytes) [
  | inl a ↦ subst AreItems (one_tree laws bytes a.0 root a.1.0 doc) (a.1.1 short)
  | inr a ↦ absurd (tree_or_fault laws bytes root a.0 a.1 doc a.2)
]
