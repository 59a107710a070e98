-- The code's loop over pieces.
use Rattle.std.proofs.Common.{◌≡◌, ◌≢◌, ℕ, ◌+◌, ◌≤◌, ◌<◌, true, false, List, [], ◌∷◌, length, map, take, drop, refl, sym, ap, subst, ◌∙◌, inl, inr, arith}
use Rattle.std.proofs.lemmas.List.{nil_from_length, length-append, length-drop}
use Rattle.base_trees.specs.Rose.{Rose}
use Rattle.xml_pieces.specs.Pieces.{Piece, Start, End, Begins, NoPieceAt}
use Rattle.xml_pieces.specs.Reasons.{NoneReason, IsPlainRun}
use Rattle.xml_pieces.specs.declared.reason.NoneWhy.{NoneWhy}
use Rattle.xml_read.specs.declared.builder.Builder.{Builder}
use Rattle.xml_items.specs.declared.label.ItemLabel.{ItemLabel}
use Rattle.xml_read.specs.declared.error.DocWhy.{DocWhy}
use Rattle.xml_read.specs.declared.error.DocWhy.TheVariants as why
use Rattle.xml_read.specs.declared.error.DocError.{DocError}
use Rattle.xml_read.specs.declared.error.DocError.TheVariants as errors
use Rattle.xml_read.specs.Sound.{AreItems}
use Rattle.xml_read.specs.Contexts.{is_outside, reason}
use Rattle.base_texts.specs.Limits.{is_empty}
use Rattle.xml_read.specs.Documents.{why_of, BrokenAt, DocOf, Refuses}
use Rattle.xml_read.specs.Private.States.{State, context, open_of, opened, added}
use Rattle.xml_read.specs.Private.Entering.{Stopped}
use Rattle.xml_read.specs.Private.Building.{state, node_of, Scoped, Takes, TakesLeaf, TakesKnown, StopsFirst, HasRead}
use Rattle.xml_read.proofs.Telling.{is_empty-map}
use Rattle.xml_read.proofs.Known.{laws}
use Rattle.xml_read.proofs.Reaching.{place_of, stops, stops_where_none, is_unfinished}
use Rattle.xml_read.specs.Private.Noting.{bare}
use Rattle.xml_read.proofs.TagPieces.{start_begins, end_begins}
use Rattle.xml_read.proofs.KnownTags.{start_named, leaf_ends}
use Rattle.xml_read.proofs.PlainRuns.{run_on}
use Rattle.xml_read.proofs.Going.{Stands, DocOfItems, shorter, stands_on, ends_whole}

some_rest : (rest : List ℕ) → length rest ≢ 0 → rest ≢ []
some_rest rest some e = some (ap length e)

pub at_none : (bytes rest : List ℕ) (b : Builder) (at : ℕ) (cause : NoneWhy) (w : DocWhy) → Stands bytes rest (state b) → length rest ≢ 0 → NoPieceAt rest → NoneReason b.first rest cause → at ≡ place_of bytes rest → w ≡ why_of cause → BrokenAt bytes at w
at_none bytes rest b at cause w stands some e because at_is is =
    subst (BrokenAt bytes at) (sym is) (stops_where_none bytes rest (state b) at cause stands.utf8 stands.reaches at_is (some_rest rest some) e because)

pub at_fault : (bytes rest behind : List ℕ) (b : Builder) (p : Piece) (at : ℕ) (error : DocError) → Stands bytes rest (state b) → length rest ≢ 0 → at ≡ place_of bytes rest → Begins p rest behind → Stopped (reason p (context (state b))) at error → Refuses bytes error
at_fault bytes rest behind b p at errors.Memory stands some at_is e stopped = tt
at_fault bytes rest behind b p at (errors.Syntax place cause) stands some at_is e stopped =
    stops bytes rest behind (state b) p place cause stands.utf8 stands.reaches (stopped.0 ∙ at_is) e (some_rest rest some) stopped.1

pub first_fault : (bytes rest : List ℕ) (b : Builder) (at : ℕ) (error : DocError) → Stands bytes rest (state b) → length rest ≢ 0 → at ≡ place_of bytes rest → StopsFirst rest at b error → Refuses bytes error
first_fault bytes rest b at errors.Memory stands some at_is stops = tt
first_fault bytes rest b at (errors.Syntax place cause) stands some at_is (piece, behind, begins, stopped) = at_fault bytes rest behind b piece at (errors.Syntax place cause) stands some at_is begins stopped

pub gets_shorter : (bytes rest behind : List ℕ) (s : State) (p : Piece) → Stands bytes rest s → Begins p rest behind → length behind < length rest
gets_shorter bytes rest behind s p stands e = shorter laws p rest behind e

pub steps_on : (bytes rest behind : List ℕ) (old new : Builder) (p : Piece) (at : ℕ) → Stands bytes rest (state old) → at ≡ place_of bytes rest → Begins p rest behind → Takes p at old new → Stands bytes behind (state new)
steps_on bytes rest behind old new p at stands at_is e takes =
    subst (Stands bytes behind) (sym takes.steps) (stands_on laws bytes rest behind (state old) p at stands at_is e takes.none)

-- nothing has been taken
pub stands_still : (bytes rest : List ℕ) (old new : Builder) → Stands bytes rest (state old) → new ≡ old → Stands bytes rest (state new)
stands_still bytes rest old new stands same = subst (λ (b : Builder). Stands bytes rest (state b)) (sym same) stands

pub scoped_still : (old new : Builder) → Scoped old → new ≡ old → Scoped new
scoped_still old new scoped same = subst Scoped (sym same) scoped

-- an element of plain characters alone, taken at once
leaf_on : (bytes rest behind : List ℕ) (old new : Builder) (at : ℕ) → Scoped old → Stands bytes rest (state old) → at ≡ place_of bytes rest → TakesLeaf rest behind at old new → Stands bytes behind (state new)
leaf_on bytes rest behind old new at scoped stands at_is t =
    let s = state old in
    let qname = start_named t.name (context s) t.none in
    let one = opened (bare t.name) at s in
    let text_at = at + length t.name + 2 in
    let two = added (take t.len t.inner) text_at 0 one in
    let tail = drop t.len t.inner in
    let inside : Stands bytes t.inner one = stands_on laws bytes rest t.inner s (Start (bare t.name)) at stands at_is (start_begins t.name rest t.inner qname t.parts) t.none in
    let here : text_at ≡ place_of bytes t.inner = omega (arith, at_is, ap length t.parts, length-append t.name (0x3E ∷ t.inner), stands.reaches.within) in
    let past : Stands bytes tail two = run_on t.len bytes t.inner one text_at t.leaf.some t.leaf.within t.leaf.run refl inside here in
    subst (Stands bytes behind) (sym t.puts.steps)
    (stands_on laws bytes tail behind two (End t.name) (place_of bytes tail) past refl (end_begins t.name tail behind qname t.leaf.parts) (leaf_ends t.name old at (take t.len t.inner) text_at scoped t.none))

leaf_shorter : (rest behind : List ℕ) (old new : Builder) (at : ℕ) → TakesLeaf rest behind at old new → length behind < length rest
leaf_shorter rest behind old new at t =
    omega (arith, ap length t.parts, length-append t.name (0x3E ∷ t.inner), ap length t.leaf.parts, length-append t.name (0x3E ∷ behind), length-drop t.len t.inner)

pub known_on : (bytes rest behind : List ℕ) (old new : Builder) (at : ℕ) → Scoped old → Stands bytes rest (state old) → at ≡ place_of bytes rest → TakesKnown rest behind at old new → Stands bytes behind (state new)
known_on bytes rest behind old new at scoped stands at_is (inl t) = steps_on bytes rest behind old new t.piece at stands at_is t.begins t.takes
known_on bytes rest behind old new at scoped stands at_is (inr t) = leaf_on bytes rest behind old new at scoped stands at_is t

pub known_scoped : (rest behind : List ℕ) (old new : Builder) (at : ℕ) → TakesKnown rest behind at old new → Scoped new
known_scoped rest behind old new at (inl t) = t.takes.scoped
known_scoped rest behind old new at (inr t) = t.puts.scoped

pub known_shorter : (bytes rest behind : List ℕ) (old new : Builder) (at : ℕ) → Stands bytes rest (state old) → TakesKnown rest behind at old new → length behind < length rest
known_shorter bytes rest behind old new at stands (inl t) = gets_shorter bytes rest behind (state old) t.piece stands t.begins
known_shorter bytes rest behind old new at stands (inr t) = leaf_shorter rest behind old new at t

-- plain characters, taken at once
pub takes_plain : (bytes rest text behind : List ℕ) (old new : Builder) (n at : ℕ) → Stands bytes rest (state old) → at ≡ place_of bytes rest → 0 < n → n ≤ length rest → is_outside (context (state old)) ≡ false → IsPlainRun (take n rest) → text ≡ take n rest → behind ≡ drop n rest
    → state new ≡ added text at 0 (state old) → Stands bytes behind (state new)
takes_plain bytes rest text behind old new n at stands at_is more within inside run text_is behind_is steps =
    let s = state old in
    let here : is_empty s.above ≡ false = sym (is_empty-map open_of s.above) ∙ inside in
    subst (λ (r : List ℕ). Stands bytes r (state new)) (sym behind_is) (subst (Stands bytes (drop n rest)) (ap (λ (t : List ℕ). added t at 0 s) (sym text_is) ∙ sym steps) (run_on n bytes rest s at more within run here stands at_is))

at_end : (bytes rest : List ℕ) (s : State) → Stands bytes rest s → length rest ≡ 0 → Stands bytes [] s
at_end bytes rest s stands e = subst (λ (r : List ℕ). Stands bytes r s) (nil_from_length rest e) stands

-- at the end of a document no node is open, and there is one
pub whole_read : (bytes rest : List ℕ) (b : Builder) → length bytes ≤ 16777216 → Stands bytes rest (state b) → Scoped b → length rest ≡ 0 → b.ended ≡ true → HasRead bytes b
whole_read bytes rest b short stands scoped over ended =
    let one = stands.good.one ended in
    let whole = ends_whole bytes (state b) one.root (omega (arith, short)) (at_end bytes rest (state b) stands over) ended one.kids in
    record { closed = sym scoped.nodes ∙ ap (map node_of) one.above; root = one.root; kids = one.kids; doc = whole.doc; items = whole.items }

pub root_read : (bytes : List ℕ) (b : Builder) (root : Rose ItemLabel) → HasRead bytes b → b.items.zip.kids ≡ root ∷ [] → DocOfItems bytes root
root_read bytes b root read kids =
    let lists : read.root ∷ [] ≡ root ∷ [] = sym read.kids ∙ kids in
    let same : read.root ≡ root = cc in
    record { doc = subst (DocOf bytes) same read.doc; items = subst AreItems same read.items }

pub unfinished : (bytes rest : List ℕ) (b : Builder) (at : ℕ) → Stands bytes rest (state b) → length rest ≡ 0 → at ≡ length bytes → b.ended ≡ false → BrokenAt bytes at why.Unfinished
unfinished bytes rest b at stands over at_is open_still = let here = at_end bytes rest (state b) stands over in is_unfinished bytes (state b) at here.utf8 here.reaches at_is open_still
