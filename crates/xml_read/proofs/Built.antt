-- The code's steps as steps of states.
use Rattle.std.proofs.Common.{◌≡◌, ℕ, suc, ◌-◌, ◌≤◌, ◌<◌, Bool, true, false, cond, List, [], ◌∷◌, ◌++◌, length, map, take, reverse, Option, None, refl, sym, ap, subst, ◌∙◌, arith, inl, inr, append_assoc}
use Rattle.std.specs.Prelude.{nat_eq, nat_le, not, ◌==◌, ◌&&◌, encode_utf8, string_bytes}
use Rattle.std.specs.List.{flat_map}
use Rattle.std.proofs.lemmas.List.{length-append, length-map, length-reverse, reverse-append, reverse-reverse, take-append-le, take_all}
use Rattle.std.proofs.lemmas.Bool.Decides.{eqb_tells}
use Rattle.base_texts.specs.Namespaces.{xml_prefix, xml_space}
use Rattle.base_texts.specs.WhiteSpace.{is_white_space}
use Rattle.std.specs.Borrow.{Bor}
use Rattle.base_trees.specs.Rose.{Rose, node, roses_of}
use Rattle.base_trees.specs.Rose as rose
use Rattle.base_flat_trees.specs.Zips as zips
use Rattle.xml_pieces.specs.Pieces.{Tag, Declaration, Start, Empty, End, Comment, Instruction, CData, Reference, Character}
use Rattle.base_texts.specs.declared.texts.Name.{Name}
use Rattle.xml_items.specs.declared.label.ItemLabel.{ItemLabel}
use Rattle.xml_items.specs.Building.{Building, binding_count}
use Rattle.xml_items.specs.declared.label.ItemLabel.TheVariants.{Element, Text}
use Rattle.xml_read.specs.declared.builder.Builder.{Builder}
use Rattle.xml_read.specs.declared.notes.Notes.{Notes}
use Rattle.xml_read.specs.declared.error.DocWhy.{DocWhy}
use Rattle.xml_read.specs.declared.error.DocError.{DocError}
use Rattle.xml_read.specs.declared.error.DocWhy.TheVariants as why
use Rattle.xml_pieces.specs.Namespaces.{bindings_of, attributes_of, element_name}
use Rattle.xml_read.specs.Contexts.{Context, Open, is_innermost, is_outside, brackets_after, scope, tag_scope, start_reason, reason, end_tests}
use Rattle.base_texts.specs.Limits.{is_empty}
use Rattle.base_texts.specs.Entries.{first_true}
use Rattle.xml_read.specs.Private.States.{Above, State, open_of, context, with_text, with_leaf, kids_of_state, entering, element_of, opened, emptied, closed, passed, written_on, added}
use Rattle.xml_items.specs.Growing.{Grows}
use Rattle.xml_items.proofs.Growth.{grows-same}
use Rattle.xml_read.specs.Private.Noting.{AllKnown}
use Rattle.xml_read.proofs.Noted.{noted-grown}
use Rattle.xml_read.specs.Private.Entering.{EntersAs, IsNamed, Stopped, place_tests}
use Rattle.xml_read.specs.Private.Building.{up_in, above_of, aboves, state, node_of, AreNamed, Scoped, Takes, PutsLeaf, Flushed, Shuts, Kept}
use Rattle.xml_read.proofs.Entered.{inside_is}
use Rattle.xml_read.proofs.OpenNames.{named_tag, ends_named}
use Rattle.xml_read.proofs.Telling.{some_innermost, innermost_is, is_empty-map, context-added}

pub aboves-push : (names : List (Bor (List ℕ))) (written : Bor (List ℕ)) (up : List (zips.Above ItemLabel)) → aboves (reverse (names ++ written ∷ [])) up ≡ above_of written.now up ∷ aboves (reverse names) (up_in up)
aboves-push names written up = rw (reverse-append names (written ∷ [])) refl

pub length-aboves : (names : List (Bor (List ℕ))) (up : List (zips.Above ItemLabel)) → length (aboves names up) ≡ length names
length-aboves [] up = refl
length-aboves (written ∷ names) up = omega (arith, length-aboves names (up_in up))

pub is_empty-len : {A : Type 0} (xs : List A) → is_empty xs ≡ nat_eq (length xs) 0
is_empty-len [] = refl
is_empty-len (x ∷ xs) = elim (eqb_tells (length (x ∷ xs)) 0) [ inl e ↦ absurd (omega (arith, e.1)) | inr e ↦ sym e.0 ]

pub is_empty-aboves : (names : List (Bor (List ℕ))) (up : List (zips.Above ItemLabel)) → is_empty (aboves (reverse names) up) ≡ nat_eq (length names) 0
is_empty-aboves names up = is_empty-len (aboves (reverse names) up) ∙ ap (λ (n : ℕ). nat_eq n 0) (length-aboves (reverse names) up ∙ length-reverse names)

-- both lists are others
aboves_by : (names others : List (Bor (List ℕ))) (up more : List (zips.Above ItemLabel)) → names ≡ others → up ≡ more → aboves (reverse names) up ≡ aboves (reverse others) more
aboves_by names others up more e f = rw (e, f) refl

abbrev mk : List Above → List (Rose ItemLabel) → List ℕ → ℕ → Bool → Bool → ℕ → State
mk above kids text text_at ended first brackets = record { above = above; kids = kids; text = text; text_at = text_at; ended = ended; first = first; brackets = brackets }

same_state : (a b : List Above) (k l : List (Rose ItemLabel)) (t u : List ℕ) (p q : ℕ) (e f : Bool) (g h : Bool) (m n : ℕ) → a ≡ b → k ≡ l → t ≡ u → p ≡ q → e ≡ f → g ≡ h → m ≡ n → mk a k t p e g m ≡ mk b l u q f h n
same_state a b k l t u p q e f g h m n x1 x2 x3 x4 x5 x6 x7 = rw (x1, x2, x3, x4, x5, x6, x7) refl

abbrev put : List ℕ → Name → List (Name × List ℕ) → List (List ℕ × List ℕ) → ℕ → List (Rose ItemLabel) → Above
put written name attributes declares at before = record { written = written; name = name; attributes = attributes; declares = declares; at = at; before = before }

same_above : (w v : List ℕ) (m n : Name) (a b : List (Name × List ℕ)) (d e : List (List ℕ × List ℕ)) (p q : ℕ) (k l : List (Rose ItemLabel)) → w ≡ v → m ≡ n → a ≡ b → d ≡ e → p ≡ q → k ≡ l → put w m a d p k ≡ put v n b e q l
same_above w v m n a b d e p q k l x1 x2 x3 x4 x5 x6 = rw (x1, x2, x3, x4, x5, x6) refl

depth_is : (b : Builder) → length b.open.items ≡ length (context (state b)).elements
depth_is b = sym (length-map (state b).above open_of ∙ length-aboves (reverse b.open.items) b.items.zip.above ∙ length-reverse b.open.items)

start_is : (tag : Tag) (c : Context) → start_reason tag (scope c) c.ended (length c.elements) ≡ reason (Start tag) c
unfolding start_reason reason
start_is tag c = refl

empty_is : (tag : Tag) (c : Context) → start_reason tag (scope c) c.ended (length c.elements) ≡ reason (Empty tag) c
unfolding start_reason reason
empty_is tag c = refl

here : (b : Builder) (tag : Tag) (depth : ℕ) → Scoped b → depth ≡ length b.open.items → start_reason tag (reverse b.scope) b.ended depth ≡ start_reason tag (scope (context (state b))) b.ended (length (context (state b)).elements)
here b tag depth scoped e = rw (e, scoped.scope_is, depth_is b) refl

pub start_stops : (b : Builder) (tag : Tag) (depth : ℕ) → Scoped b → depth ≡ length b.open.items → start_reason tag (reverse b.scope) b.ended depth ≡ reason (Start tag) (context (state b))
start_stops b tag depth scoped e = here b tag depth scoped e ∙ start_is tag (context (state b))

pub empty_stops : (b : Builder) (tag : Tag) (depth : ℕ) → Scoped b → depth ≡ length b.open.items → start_reason tag (reverse b.scope) b.ended depth ≡ reason (Empty tag) (context (state b))
empty_stops b tag depth scoped e = here b tag depth scoped e ∙ empty_is tag (context (state b))

-- the place of a tag is where the reader is
pub enters_here : (b : Builder) (tag : Tag) (ended : Bool) (depth : ℕ) (name : Name) (attributes : List (Name × List ℕ)) (declares : List (List ℕ × List ℕ)) → ended ≡ b.ended → depth ≡ length b.open.items → EntersAs (reverse b.scope) ended depth tag name attributes declares → EntersAs (reverse b.scope) b.ended (length b.open.items) tag name attributes declares
enters_here b tag ended depth name attributes declares f e enters = subst (λ (n : ℕ). EntersAs (reverse b.scope) b.ended n tag name attributes declares) e (subst (λ (x : Bool). EntersAs (reverse b.scope) x depth tag name attributes declares) f enters)

pub stops_here : (b : Builder) (tag : Tag) (ended : Bool) (depth place at : ℕ) (error : DocError) (why : Option DocWhy) → start_reason tag (reverse b.scope) b.ended depth ≡ why → ended ≡ b.ended → place ≡ at → Stopped (start_reason tag (reverse b.scope) ended depth) place error → Stopped why at error
stops_here b tag ended depth place at error why is f e stopped =
    subst (λ (n : ℕ). Stopped why n error) e (subst (λ (o : Option DocWhy). Stopped o place error) (ap (λ (x : Bool). start_reason tag (reverse b.scope) x depth) f ∙ is) stopped)

pub none_here : (b : Builder) (ended : Bool) (depth : ℕ) → ended ≡ b.ended → depth ≡ length b.open.items → first_true (place_tests ended depth) ≡ None → first_true (place_tests b.ended (length b.open.items)) ≡ None
none_here b ended depth f e none = ap (λ (x : Bool). first_true (place_tests x (length b.open.items))) (sym f) ∙ ap (λ (n : ℕ). first_true (place_tests ended n)) (sym e) ∙ none

pub end_stops : (b : Builder) (written : List ℕ) → Scoped b → first_true (end_tests written (reverse b.scope) (context (state b)).elements) ≡ reason (End written) (context (state b))
unfolding reason
end_stops b written scoped = ap (λ (o : List (List ℕ × List ℕ)). first_true (end_tests written o (context (state b)).elements)) scoped.scope_is

-- an end tag of the innermost element ends it
pub ends_open : (b : Builder) (written : List ℕ) → Scoped b → is_innermost written (context (state b)).elements ≡ true → None ≡ first_true (end_tests written (reverse b.scope) (context (state b)).elements)
ends_open b written scoped h = sym (ap (λ (o : List (List ℕ × List ℕ)). first_true (end_tests written o (context (state b)).elements)) scoped.scope_is ∙ ends_named written (context (state b)).elements scoped.named h)

-- what is entered, as the element of the state
entering_is : (b : Builder) (tag : Tag) (name : Name) (attributes : List (Name × List ℕ)) (declares : List (List ℕ × List ℕ)) (written : List ℕ) (at : ℕ) (before later : List (Rose ItemLabel)) → Scoped b → EntersAs (reverse b.scope) b.ended (length b.open.items) tag name attributes declares → written ≡ tag.name → before ≡ later
    → put written name attributes declares at before ≡ entering tag (scope (context (state b))) at later
entering_is b tag name attributes declares written at before later scoped enters w e =
    same_above _ _ _ _ _ _ _ _ _ _ _ _ w
    (enters.name_is ∙ ap (λ (o : List (List ℕ × List ℕ)). element_name (tag_scope tag o) tag.name) scoped.scope_is)
    (enters.attributes_are ∙ ap (λ (o : List (List ℕ × List ℕ)). attributes_of (tag_scope tag o) tag.attributes) scoped.scope_is)
    enters.declares_are refl e

-- the notes stay right where the bindings and the notes are the same
pub notes_on : (old new : Builder) → reverse old.scope ≡ reverse new.scope → Grows old.items.names new.items.names → new.notes ≡ old.notes → AllKnown (reverse old.scope) old.items.names old.notes.written.items old.notes.names.items
    → AllKnown (reverse new.scope) new.items.names new.notes.written.items new.notes.names.items
notes_on old new same more notes h =
    subst (λ (n : Notes). AllKnown (reverse new.scope) new.items.names n.written.items n.names.items) (sym notes)
    (noted-grown (reverse new.scope) old.items.names new.items.names old.notes.written.items old.notes.names.items more (subst (λ (o : List (List ℕ × List ℕ)). AllKnown o old.items.names old.notes.written.items old.notes.names.items) same h))

-- before and behind the writing of the text, with other bindings
pub record Mid (old mid : Builder) : Type 0 where
  pub kids : mid.items.zip.kids ≡ kids_of_state (state old)
  pub nodes : mid.items.zip.above ≡ old.items.zip.above
  pub text : string_bytes mid.text ≡ []
  pub place : mid.text_at ≡ old.text_at
  pub opens : mid.open.items ≡ old.open.items
  pub ends : mid.ended ≡ old.ended

pub mid_of : (old early mid : Builder) → Flushed early mid → early.items ≡ old.items → string_bytes early.text ≡ string_bytes old.text → early.text_at ≡ old.text_at → early.open.items ≡ old.open.items → early.ended ≡ old.ended → Mid old mid
mid_of old early mid f i t p o e = record {
  kids = f.kids ∙ rw (i, t, p) refl;
  nodes = f.same_above ∙ ap (λ (b : Building). b.zip.above) i;
  text = f.text;
  place = f.same_place ∙ p;
  opens = f.same_open ∙ o;
  ends = f.same_end ∙ e;
}

pub start_takes : (old mid new : Builder) (written : Bor (List ℕ)) (name : Name) (attributes : List (Name × List ℕ)) (declares : List (List ℕ × List ℕ)) (tag : Tag) (at : ℕ) → Scoped old → EntersAs (reverse old.scope) old.ended (length old.open.items) tag name attributes declares → Mid old mid
    → new.scope ≡ old.scope ++ reverse (bindings_of tag.attributes) → new.open.items ≡ mid.open.items ++ written ∷ [] → written.now ≡ tag.name → new.items.zip ≡ zips.opened (Element name attributes declares at) mid.items.zip
    → string_bytes new.text ≡ string_bytes mid.text → new.text_at ≡ mid.text_at → new.ended ≡ mid.ended → new.first ≡ false → new.brackets ≡ 0 → AllKnown (reverse new.scope) new.items.names new.notes.written.items new.notes.names.items → Takes (Start tag) at old new
start_takes old mid new written name attributes declares tag at scoped enters m scope_is opens name_is items text place ends first brackets noted =
    let kids = kids_of_state (state old) in
    let outer = (state old).above in
    let a = entering tag (scope (context (state old))) at kids in
    let label = Element name attributes declares at in
    let own : put written.now name attributes declares at mid.items.zip.kids ≡ a = entering_is old tag name attributes declares written.now at mid.items.zip.kids kids scoped enters name_is m.kids in
    let above : (state new).above ≡ a ∷ outer =
    aboves_by _ _ _ _ opens (ap (λ (z : zips.Zip ItemLabel). z.above) items) ∙ aboves-push mid.open.items written (zips.opened label mid.items.zip).above
    ∙ ap (λ (x : Above). x ∷ aboves (reverse mid.open.items) mid.items.zip.above) own ∙ ap (λ (xs : List Above). a ∷ xs) (aboves_by _ _ _ _ m.opens m.nodes) in
    let steps : state new ≡ opened tag at (state old) = same_state _ _ _ _ _ _ _ _ _ _ _ _ _ _ above (ap (λ (z : zips.Zip ItemLabel). z.kids) items) (text ∙ m.text) (place ∙ m.place) (ends ∙ m.ends) first brackets in
    let binds = bindings_of tag.attributes in
    let flat = flat_map (λ (e : Open). e.declares) (map open_of outer) in
    let inner : scope (context (opened tag at (state old))) ≡ binds ++ scope (context (state old)) = append_assoc binds flat ((xml_prefix, xml_space) ∷ []) in
    let nodes : new.items.zip.above ≡ node_of a ∷ old.items.zip.above = ap (λ (z : zips.Zip ItemLabel). z.above) items ∙ ap (λ (x : Above). node_of x ∷ mid.items.zip.above) own ∙ ap (λ (up : List (zips.Above ItemLabel)). node_of a ∷ up) m.nodes in
    record {
      none = sym (start_stops old tag (length old.open.items) scoped refl) ∙ enters.none;
      steps = steps;
      scoped = record {
        scope_is = ap reverse scope_is ∙ inside_is old.scope binds ∙ ap (λ (r : List (List ℕ × List ℕ)). binds ++ r) scoped.scope_is ∙ sym inner ∙ ap (λ (s : State). scope (context s)) (sym steps);
        named = subst (λ (s : State). AreNamed (context s).elements) (sym steps) (subst (IsNamed tag.name) (ap (λ (r : List (List ℕ × List ℕ)). binds ++ r) scoped.scope_is ∙ sym inner) (named_tag tag (reverse old.scope) old.ended (length old.open.items) enters.none), scoped.named);
        nodes = ap (map node_of) above ∙ ap (λ (up : List (zips.Above ItemLabel)). node_of a ∷ up) scoped.nodes ∙ sym nodes;
        noted = noted;
      };
    }

-- taking bindings away again
popped : (all own rest : List (List ℕ × List ℕ)) → reverse all ≡ own ++ rest → reverse (take (length all - length own) all) ≡ rest
popped all own rest e =
    let turned : all ≡ reverse rest ++ reverse own = sym (reverse-reverse all) ∙ ap reverse e ∙ reverse-append own rest in
    let count : length all - length own ≡ length (reverse rest) = omega (arith, ap length turned, length-append (reverse rest) (reverse own), length-reverse own) in
    let within : length (reverse rest) ≤ length (reverse rest) = omega arith in
    let front : take (length (reverse rest)) (reverse rest ++ reverse own) ≡ reverse rest = take-append-le (length (reverse rest)) (reverse rest) (reverse own) within ∙ take_all (length (reverse rest)) (reverse rest) within in
    ap reverse (ap (λ (n : ℕ). take n all) count ∙ ap (take (length (reverse rest))) turned ∙ front) ∙ reverse-reverse rest

pub empty_takes : (old mid new : Builder) (name : Name) (attributes : List (Name × List ℕ)) (declares : List (List ℕ × List ℕ)) (tag : Tag) (at : ℕ) (all : List (List ℕ × List ℕ)) (count : ℕ) → Scoped old → EntersAs (reverse old.scope) old.ended (length old.open.items) tag name attributes declares → Mid old mid
    → all ≡ old.scope ++ reverse (bindings_of tag.attributes) → new.scope ≡ take (length all - count) all → count ≡ length declares → new.open.items ≡ mid.open.items
    → new.items.zip ≡ zips.added (node (Element name attributes declares at) (roses_of [])) mid.items.zip → string_bytes new.text ≡ string_bytes mid.text → new.text_at ≡ mid.text_at → new.ended ≡ nat_eq (length mid.open.items) 0 → new.first ≡ false → new.brackets ≡ 0 → Grows old.items.names new.items.names → new.notes ≡ old.notes → Takes (Empty tag) at old new
empty_takes old mid new name attributes declares tag at all count scoped enters m all_is scope_is count_is opens items text place ends first brackets more notes =
    let s = state old in
    let element : node (Element name attributes declares at) (roses_of []) ≡ element_of (entering tag (scope (context s)) at []) [] = ap (λ (a : Above). element_of a []) (entering_is old tag name attributes declares tag.name at [] [] scoped enters refl refl) in
    let nodes : new.items.zip.above ≡ old.items.zip.above = ap (λ (z : zips.Zip ItemLabel). z.above) items ∙ m.nodes in
    let above : (state new).above ≡ s.above = aboves_by _ _ _ _ (opens ∙ m.opens) nodes in
    let steps : state new ≡ emptied tag at s = same_state _ _ _ _ _ _ _ _ _ _ _ _ _ _ above
    (ap (λ (z : zips.Zip ItemLabel). z.kids) items ∙ ap (λ (ks : List (Rose ItemLabel)). ks ++ node (Element name attributes declares at) (roses_of []) ∷ []) m.kids ∙ ap (λ (e : Rose ItemLabel). kids_of_state s ++ e ∷ []) element)
    (text ∙ m.text) (place ∙ m.place) (ends ∙ ap (λ (names : List (Bor (List ℕ))). nat_eq (length names) 0) m.opens ∙ sym (is_empty-aboves old.open.items old.items.zip.above)) first brackets in
    let back : reverse new.scope ≡ reverse old.scope = ap reverse (scope_is ∙ ap (λ (n : ℕ). take (length all - n) all) (count_is ∙ ap length enters.declares_are)) ∙ popped all (bindings_of tag.attributes) (reverse old.scope) (ap reverse all_is ∙ inside_is old.scope (bindings_of tag.attributes)) in
    record {
      none = sym (empty_stops old tag (length old.open.items) scoped refl) ∙ enters.none;
      steps = steps;
      scoped = record {
        scope_is = back ∙ scoped.scope_is ∙ ap (λ (t : State). scope (context t)) (sym steps);
        named = subst (λ (t : State). AreNamed (context t).elements) (sym steps) scoped.named;
        nodes = ap (map node_of) above ∙ scoped.nodes ∙ sym nodes;
        noted = notes_on old new (sym back) more notes scoped.noted;
      };
    }

some_text : (text : List ℕ) (at : ℕ) → is_empty text ≡ false → node (Text text at) rose.none ∷ [] ≡ with_text [] text at
some_text text at some = rw some refl

-- an element without attributes in which a text stands alone
pub leaf_puts : (old mid new : Builder) (name : Name) (tag : Tag) (at : ℕ) (text : List ℕ) (text_at : ℕ) → Scoped old → EntersAs (reverse old.scope) old.ended (length old.open.items) tag name [] [] → Mid old mid → is_empty text ≡ false → new.scope ≡ old.scope → new.open.items ≡ mid.open.items
    → new.items.zip ≡ zips.closed (zips.added (node (Text text text_at) rose.none) (zips.opened (Element name [] [] at) mid.items.zip)) → string_bytes new.text ≡ string_bytes mid.text → new.text_at ≡ text_at → new.ended ≡ nat_eq (length mid.open.items) 0 → new.first ≡ false → new.brackets ≡ 0
    → AllKnown (reverse new.scope) new.items.names new.notes.written.items new.notes.names.items → PutsLeaf tag at text text_at old new
leaf_puts old mid new name tag at text text_at scoped enters m some scope_is opens items text_is place ends first brackets noted =
    let s = state old in
    let kids = kids_of_state s in
    let a = entering tag (scope (context s)) at kids in
    let own : put tag.name name [] [] at kids ≡ a = entering_is old tag name [] [] tag.name at kids kids scoped enters refl refl in
    let nodes : new.items.zip.above ≡ old.items.zip.above = ap (λ (z : zips.Zip ItemLabel). z.above) items ∙ m.nodes in
    let above : (state new).above ≡ s.above = aboves_by _ _ _ _ (opens ∙ m.opens) nodes in
    let inner : List (Rose ItemLabel) = node (Text text text_at) rose.none ∷ [] in
    let element : node (Element name [] [] at) (roses_of inner) ≡ element_of a (with_text [] text text_at) =
    ap (λ (x : Above). element_of x inner) own ∙ ap (element_of a) (some_text text text_at some) in
    let steps : state new ≡ with_leaf tag at text text_at s = same_state _ _ _ _ _ _ _ _ _ _ _ _ _ _ above
    (ap (λ (z : zips.Zip ItemLabel). z.kids) items ∙ ap (λ (ks : List (Rose ItemLabel)). ks ++ node (Element name [] [] at) (roses_of inner) ∷ []) m.kids ∙ ap (λ (e : Rose ItemLabel). kids ++ e ∷ []) element)
    (text_is ∙ m.text) place (ends ∙ ap (λ (names : List (Bor (List ℕ))). nat_eq (length names) 0) m.opens ∙ sym (is_empty-aboves old.open.items old.items.zip.above)) first brackets in
    record {
      steps = steps;
      scoped = record {
        scope_is = ap reverse scope_is ∙ scoped.scope_is ∙ ap (λ (t : State). scope (context t)) (sym steps);
        named = subst (λ (t : State). AreNamed (context t).elements) (sym steps) scoped.named;
        nodes = ap (map node_of) above ∙ scoped.nodes ∙ sym nodes;
        noted = noted;
      };
    }

closing_kids : (b : Builder) → string_bytes b.text ≡ [] → kids_of_state (state b) ≡ b.items.zip.kids
closing_kids b e = rw e refl

pub last_of : (names : List (Bor (List ℕ))) → 0 < length names → (written : Bor (List ℕ)) × (names ≡ take (length names - 1) names ++ written ∷ [])
last_of [] some = absurd (omega (arith, some))
last_of (name ∷ []) some = (name, refl)
last_of (name ∷ next ∷ names) some =
    let last = last_of (next ∷ names) (omega arith) in
    let count : length (name ∷ next ∷ names) - 1 ≡ suc (length (next ∷ names) - 1) = omega arith in
    let front : take (length (name ∷ next ∷ names) - 1) (name ∷ next ∷ names) ≡ name ∷ take (length (next ∷ names) - 1) (next ∷ names) = ap (λ (n : ℕ). take n (name ∷ next ∷ names)) count in
    (last.0, ap (λ (xs : List (Bor (List ℕ))). name ∷ xs) last.1 ∙ ap (λ (xs : List (Bor (List ℕ))). xs ++ last.0 ∷ []) (sym front))

-- an element is open, so there is a name
pub some_name : (b : Builder) → is_empty (state b).above ≡ false → 0 < length b.open.items
some_name b inside = elim (eqb_tells (length b.open.items) 0) [
  | inl e ↦ absurd (let clash : false ≡ true = sym inside ∙ is_empty-aboves b.open.items b.items.zip.above ∙ e.0 in cc)
  | inr e ↦ omega (arith, e.1)
]

pub shuts : (old new : Builder) (count : ℕ) → Scoped old → string_bytes old.text ≡ [] → is_empty (state old).above ≡ false → new.open.items ≡ take (length old.open.items - 1) old.open.items → new.scope ≡ take (length old.scope - count) old.scope → count ≡ binding_count (zips.first_label old.items.zip.above)
    → new.items.zip ≡ zips.closed old.items.zip → string_bytes new.text ≡ string_bytes old.text → new.text_at ≡ old.text_at → new.ended ≡ nat_eq (length new.open.items) 0 → new.first ≡ false → new.brackets ≡ 0 → AllKnown (reverse new.scope) new.items.names new.notes.written.items new.notes.names.items → Shuts old new
shuts old new count scoped empty inside shorter scope_is count_is items text place ends first brackets noted =
    let last = last_of old.open.items (some_name old inside) in
    let written = last.0 in
    let opens : old.open.items ≡ new.open.items ++ written ∷ [] = last.1 ∙ ap (λ (names : List (Bor (List ℕ))). names ++ written ∷ []) (sym shorter) in
    let a = above_of written.now old.items.zip.above in
    let names = reverse new.open.items in
    let outer = aboves names (up_in old.items.zip.above) in
    let above : (state old).above ≡ a ∷ outer = ap (λ (ws : List (Bor (List ℕ))). aboves (reverse ws) old.items.zip.above) opens ∙ aboves-push new.open.items written old.items.zip.above in
    let nodes : old.items.zip.above ≡ node_of a ∷ map node_of outer = sym scoped.nodes ∙ ap (map node_of) above in
    let shut : new.items.zip ≡ zips.closed_in (node_of a ∷ map node_of outer) old.items.zip.kids = items ∙ ap (λ (up : List (zips.Above ItemLabel)). zips.closed_in up old.items.zip.kids) nodes in
    let left : new.items.zip.above ≡ map node_of outer = ap (λ (z : zips.Zip ItemLabel). z.above) shut in
    let outer_is : (state new).above ≡ outer = ap (aboves names) (left ∙ sym (ap up_in nodes)) in
    let kids : new.items.zip.kids ≡ a.before ++ element_of a (kids_of_state (state old)) ∷ [] = ap (λ (z : zips.Zip ItemLabel). z.kids) shut ∙ ap (λ (ks : List (Rose ItemLabel)). a.before ++ element_of a ks ∷ []) (sym (closing_kids old empty)) in
    let ended : new.ended ≡ is_empty outer = ends ∙ sym (is_empty-aboves new.open.items (up_in old.items.zip.above)) in
    let steps : state new ≡ closed (a ∷ outer) (state old) = same_state _ _ _ _ _ _ _ _ _ _ _ _ _ _ outer_is kids (text ∙ empty) place ended first brackets in
    let binds : count ≡ length a.declares = count_is ∙ ap (λ (up : List (zips.Above ItemLabel)). binding_count (zips.first_label up)) nodes in
    let flat = flat_map (λ (e : Open). e.declares) (map open_of outer) in
    let back : reverse new.scope ≡ flat ++ (xml_prefix, xml_space) ∷ [] =
    ap reverse (scope_is ∙ ap (λ (n : ℕ). take (length old.scope - n) old.scope) binds) ∙ popped old.scope a.declares (flat ++ (xml_prefix, xml_space) ∷ [])
    (scoped.scope_is ∙ ap (λ (x : List Above). flat_map (λ (e : Open). e.declares) (map open_of x) ++ (xml_prefix, xml_space) ∷ []) above ∙ append_assoc a.declares flat ((xml_prefix, xml_space) ∷ [])) in
    record {
      steps = steps ∙ ap (λ (x : List Above). closed x (state old)) (sym above);
      scoped = record {
        scope_is = back ∙ ap (λ (t : State). scope (context t)) (sym steps);
        named = subst (λ (t : State). AreNamed (context t).elements) (sym steps) (subst (λ (x : List Above). AreNamed (map open_of x)) above scoped.named).1;
        nodes = ap (map node_of) outer_is ∙ sym left;
        noted = noted;
      };
    }

closed-same : (a : List Above) (s t : State) → kids_of_state s ≡ kids_of_state t → s.text_at ≡ t.text_at → closed a s ≡ closed a t
closed-same [] s t e f = same_state _ _ _ _ _ _ _ _ _ _ _ _ _ _ refl e refl f refl refl refl
closed-same (x ∷ a) s t e f = same_state _ _ _ _ _ _ _ _ _ _ _ _ _ _ refl (ap (λ (ks : List (Rose ItemLabel)). x.before ++ element_of x ks ∷ []) e) refl f refl refl refl

not_true : (b : Bool) → (b ≡ true → ⊥) → b ≡ false
not_true true f = absurd (f refl)
not_true false f = refl

-- the characters are a node before the innermost element ends
above_flushed : (old mid : Builder) → Flushed old mid → (state mid).above ≡ (state old).above
above_flushed old mid flushed = aboves_by _ _ _ _ flushed.same_open flushed.same_above

pub flushed_scoped : (old mid : Builder) → Scoped old → Flushed old mid → Scoped mid
flushed_scoped old mid scoped flushed =
    let above = above_flushed old mid flushed in
    record {
      scope_is = ap reverse flushed.same_scope ∙ scoped.scope_is ∙ ap (λ (a : List Above). flat_map (λ (e : Open). e.declares) (map open_of a) ++ (xml_prefix, xml_space) ∷ []) (sym above);
      named = subst (λ (a : List Above). AreNamed (map open_of a)) (sym above) scoped.named;
      nodes = ap (map node_of) above ∙ scoped.nodes ∙ sym flushed.same_above;
      noted = notes_on old mid (ap reverse (sym flushed.same_scope)) (grows-same old.items.names mid.items.names flushed.same_names) flushed.same_notes scoped.noted;
    }

-- the notes are right where the characters are a node
pub flushed_noted : (old early mid : Builder) → Scoped old → Flushed early mid → early.scope ≡ old.scope → early.items ≡ old.items → early.notes ≡ old.notes → AllKnown (reverse mid.scope) mid.items.names mid.notes.written.items mid.notes.names.items
flushed_noted old early mid scoped flushed s i n = notes_on old mid (ap reverse (sym (flushed.same_scope ∙ s))) (grows-same old.items.names mid.items.names (flushed.same_names ∙ ap (λ (b : Building). b.names) i)) (flushed.same_notes ∙ n) scoped.noted

pub flushed_inside : (old mid : Builder) (written : List ℕ) → reason (End written) (context (state old)) ≡ None → Flushed old mid → is_empty (state mid).above ≡ false
flushed_inside old mid written none flushed = ap is_empty (above_flushed old mid flushed) ∙ not_true _ (some_innermost written (state old).above (innermost_is written (context (state old)) none))

pub end_takes : (old mid new : Builder) (written : List ℕ) (at : ℕ) → reason (End written) (context (state old)) ≡ None → Flushed old mid → Shuts mid new → Takes (End written) at old new
end_takes old mid new written at none flushed shut =
    let above = above_flushed old mid flushed in
    let kids : kids_of_state (state mid) ≡ kids_of_state (state old) = closing_kids mid flushed.text ∙ flushed.kids in
    record {
      none = none;
      steps = shut.steps ∙ closed-same (state mid).above (state mid) (state old) kids flushed.same_place ∙ ap (λ (a : List Above). closed a (state old)) above;
      scoped = shut.scoped;
    }

pub outside_is : (b : Builder) (result : Bool) → result ≡ nat_eq (length b.open.items) 0 → result ≡ is_outside (context (state b))
outside_is b result e = e ∙ sym (is_empty-map open_of (state b).above ∙ is_empty-aboves b.open.items b.items.zip.above)

above_kept : (old new : Builder) → Kept old new → (state new).above ≡ (state old).above
above_kept old new kept = aboves_by _ _ _ _ kept.names (ap (λ (b : Building). b.zip.above) kept.items)

rescoped : (old new : Builder) (s : State) → Scoped old → state new ≡ s → Kept old new → (context s).elements ≡ (context (state old)).elements → Scoped new
rescoped old new s scoped steps same kept = record {
  scope_is = ap reverse same.scope ∙ scoped.scope_is ∙ ap (λ (es : List Open). flat_map (λ (e : Open). e.declares) es ++ (xml_prefix, xml_space) ∷ []) (sym kept) ∙ ap (λ (t : State). scope (context t)) (sym steps);
  named = subst (λ (t : State). AreNamed (context t).elements) (sym steps) (subst AreNamed (sym kept) scoped.named);
  nodes = ap (map node_of) (above_kept old new same) ∙ scoped.nodes ∙ sym (ap (λ (b : Building). b.zip.above) same.items);
  noted = notes_on old new (ap reverse (sym same.scope)) (grows-same old.items.names new.items.names (ap (λ (b : Building). b.names) same.items)) same.notes scoped.noted;
}

pub declaration_takes : (old new : Builder) (at : ℕ) → Scoped old → reason Declaration (context (state old)) ≡ None → state new ≡ passed (state old) → Kept old new → Takes Declaration at old new
declaration_takes old new at scoped none steps same = record { none = none; steps = steps; scoped = rescoped old new (passed (state old)) scoped steps same refl }

no_comment : (c : Context) → reason Comment c ≡ None
unfolding reason
no_comment c = refl

no_instruction : (c : Context) → reason Instruction c ≡ None
unfolding reason
no_instruction c = refl

pub comment_takes : (old new : Builder) (at : ℕ) → Scoped old → state new ≡ passed (state old) → Kept old new → Takes Comment at old new
comment_takes old new at scoped steps same = record { none = no_comment (context (state old)); steps = steps; scoped = rescoped old new (passed (state old)) scoped steps same refl }

pub instruction_takes : (old new : Builder) (at : ℕ) → Scoped old → state new ≡ passed (state old) → Kept old new → Takes Instruction at old new
instruction_takes old new at scoped steps same = record { none = no_instruction (context (state old)); steps = steps; scoped = rescoped old new (passed (state old)) scoped steps same refl }

kept_open : (text : List ℕ) (at n : ℕ) (s : State) → (context (added text at n s)).elements ≡ (context s).elements
kept_open text at n s = ap (λ (c : Context). c.elements) (context-added text at n s s.above refl)

pub add_scoped : (old new : Builder) (text : List ℕ) (at n : ℕ) → Scoped old → state new ≡ added text at n (state old) → Kept old new → Scoped new
add_scoped old new text at n scoped steps same = rescoped old new (added text at n (state old)) scoped steps same (kept_open text at n (state old))

-- characters in an element
pub adds : (b : Builder) (text later : List ℕ) (at place n : ℕ) → nat_eq (length b.open.items) 0 ≡ false → later ≡ string_bytes b.text ++ text → place ≡ cond (is_empty (string_bytes b.text)) at b.text_at → mk (state b).above (state b).kids later place b.ended false n ≡ added text at n (state b)
adds b text later at place n some later_is place_is =
    let s = state b in
    let inside : is_empty s.above ≡ false = is_empty-aboves b.open.items b.items.zip.above ∙ some in
    let same : added text at n s ≡ written_on text at n s = rw inside refl in
    same_state _ _ _ _ _ _ _ _ _ _ _ _ _ _ refl refl later_is place_is refl refl refl ∙ sym same

pub cdata_stops : (b : Builder) (text : List ℕ) → reason (CData text) (context (state b)) ≡ first_true ((is_outside (context (state b)), why.TextOutside) ∷ [])
unfolding reason
cdata_stops b text = refl

pub cdata_takes : (old new : Builder) (text : List ℕ) (at : ℕ) → Scoped old → first_true ((is_outside (context (state old)), why.TextOutside) ∷ []) ≡ None → state new ≡ added text at 0 (state old) → Kept old new → Takes (CData text) at old new
cdata_takes old new text at scoped none steps same = record { none = cdata_stops old text ∙ none; steps = steps; scoped = rescoped old new (added text at 0 (state old)) scoped steps same (kept_open text at 0 (state old)) }

pub reference_stops : (b : Builder) (code : ℕ) → reason (Reference code) (context (state b)) ≡ first_true ((is_outside (context (state b)), why.TextOutside) ∷ [])
unfolding reason
reference_stops b code = refl

pub reference_takes : (old new : Builder) (code at : ℕ) → Scoped old → first_true ((is_outside (context (state old)), why.TextOutside) ∷ []) ≡ None → state new ≡ added (encode_utf8 code) at 0 (state old) → Kept old new → Takes (Reference code) at old new
reference_takes old new code at scoped none steps same = record { none = reference_stops old code ∙ none; steps = steps; scoped = rescoped old new (added (encode_utf8 code) at 0 (state old)) scoped steps same (kept_open (encode_utf8 code) at 0 (state old)) }

abbrev pub character_tests : Builder → ℕ → List (Bool × DocWhy)
character_tests b code = (code == 0x3E && nat_le 2 b.brackets, why.NoPiece) ∷ (is_outside (context (state b)) && not (is_white_space code), why.TextOutside) ∷ []

pub character_stops : (b : Builder) (code : ℕ) → reason (Character code) (context (state b)) ≡ first_true (character_tests b code)
unfolding reason
character_stops b code = refl

pub character_takes : (old new : Builder) (code at n : ℕ) → Scoped old → first_true (character_tests old code) ≡ None → n ≡ brackets_after code old.brackets → state new ≡ added (encode_utf8 code) at n (state old) → Kept old new → Takes (Character code) at old new
character_takes old new code at n scoped none count steps same = record {
  none = character_stops old code ∙ none;
  steps = steps ∙ ap (λ (m : ℕ). added (encode_utf8 code) at m (state old)) count;
  scoped = rescoped old new (added (encode_utf8 code) at n (state old)) scoped steps same (kept_open (encode_utf8 code) at n (state old));
}
