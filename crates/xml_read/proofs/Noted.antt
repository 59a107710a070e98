-- Notes of written names, and tags whose name is noted.
use Rattle.std.proofs.Common.{inl, inr, ◌≡◌, ℕ, zero, suc, ◌-◌, ◌≤◌, Bool, true, false, List, [], ◌∷◌, ◌++◌, length, map, take, Option, None, Some, refl, sym, ap, subst, ◌∙◌, arith}
use Rattle.std.specs.Prelude.{Result, Ok, Err, OnOk, slice_get, reverse, not, nat_eq}
use Rattle.std.proofs.lemmas.Bool.Decides.{eqb_tells}
use Rattle.std.proofs.lemmas.List.{append-nil, take_all}
use Rattle.base_texts.specs.declared.texts.Name.{Name}
use Rattle.xml_read.specs.declared.error.DocWhy.{DocWhy}
use Rattle.xml_read.specs.declared.error.DocError.{DocError}
use Rattle.base_texts.specs.Entries.{first_true}
use Rattle.xml_items.specs.Growing.{Grows}
use Rattle.xml_items.specs.Building.{name_at, name_in}
use Rattle.xml_pieces.specs.Pieces.{Tag}
use Rattle.xml_pieces.specs.declared.found.Attribute.{Attribute}
use Rattle.xml_pieces.specs.declared.found.Element.{Element}
use Rattle.xml_pieces.specs.Found.{tag_seen, attribute_of}
use Rattle.std.specs.Borrow.{Bor}
use Rattle.xml_pieces.specs.Namespaces.{bindings_of, element_name}
use Rattle.xml_read.specs.Contexts.{tag_scope, start_reason}
use Rattle.xml_read.specs.Private.Entering.{IsNamed, EntersAs, Stopped, place_tests}
use Rattle.xml_read.specs.Private.Noting.{KnownAs, AllKnown, bare}
use Rattle.xml_read.proofs.Entered.{inside_is}
use Rattle.xml_read.proofs.OpenNames.{named_tag}

module _ (inside : List (List ℕ × List ℕ)) (names : List Name) where
  -- the note at a place
  pub noted_at : (ws : List (Bor (List ℕ))) (ns : List ℕ) (i : ℕ) (w : Bor (List ℕ)) (n : ℕ) → AllKnown inside names ws ns → slice_get ws i ≡ Some w → slice_get ns i ≡ Some n → KnownAs inside names w.now n
  noted_at [] [] i w n h e f = absurd (cc)
  noted_at [] (m ∷ ns) i w n h e f = absurd h
  noted_at (v ∷ ws) [] i w n h e f = absurd h
  noted_at (v ∷ ws) (m ∷ ns) zero w n h e f =
      let same : v ≡ w = cc in
      let equal : m ≡ n = cc in
      subst (λ (x : Bor (List ℕ)). KnownAs inside names x.now n) same (subst (KnownAs inside names v.now) equal h.0)
  noted_at (v ∷ ws) (m ∷ ns) (suc i) w n h e f = noted_at ws ns i w n h.1 e f

  -- one more note
  pub note_more : (ws : List (Bor (List ℕ))) (ns : List ℕ) (w : Bor (List ℕ)) (n : ℕ) → AllKnown inside names ws ns → KnownAs inside names w.now n → AllKnown inside names (ws ++ w ∷ []) (ns ++ n ∷ [])
  note_more [] [] w n h k = (k, tt)
  note_more [] (m ∷ ns) w n h k = absurd h
  note_more (v ∷ ws) [] w n h k = absurd h
  note_more (v ∷ ws) (m ∷ ns) w n h k = (h.0, note_more ws ns w n h.1 k)

  pub note_on : (ws us : List (Bor (List ℕ))) (ns ms : List ℕ) (w : Bor (List ℕ)) (n : ℕ) → AllKnown inside names ws ns → us ≡ ws ++ w ∷ [] → ms ≡ ns ++ n ∷ [] → KnownAs inside names w.now n → AllKnown inside names us ms
  note_on ws us ns ms w n h e f k = subst (AllKnown inside names us) (sym f) (subst (λ (xs : List (Bor (List ℕ))). AllKnown inside names xs (ns ++ n ∷ [])) (sym e) (note_more ws ns w n h k))

  pub none_noted : (ws : List (Bor (List ℕ))) (ns : List ℕ) → ws ≡ [] → ns ≡ [] → AllKnown inside names ws ns
  none_noted ws ns e f = subst (AllKnown inside names ws) (sym f) (subst (λ (xs : List (Bor (List ℕ))). AllKnown inside names xs []) (sym e) tt)

  pub noted_same : (ws us : List (Bor (List ℕ))) (ns ms : List ℕ) → us ≡ ws → ms ≡ ns → AllKnown inside names ws ns → AllKnown inside names us ms
  noted_same ws us ns ms e f h = subst (AllKnown inside names us) (sym f) (subst (λ (xs : List (Bor (List ℕ))). AllKnown inside names xs ns) (sym e) h)

-- a call that is returned as it is
pub both_ok : {T E P Q X : Type 0} (r : Result T E) → OnOk r P → OnOk r Q → (P → Q → X) → OnOk r X
both_ok (Ok x) p q f = f p q
both_ok (Err e) p q f = tt

-- more names
pub noted-grown : (inside : List (List ℕ × List ℕ)) (old new : List Name) (ws : List (Bor (List ℕ))) (ns : List ℕ) → Grows old new → AllKnown inside old ws ns → AllKnown inside new ws ns
noted-grown inside old new [] [] g h = tt
noted-grown inside old new [] (n ∷ ns) g h = absurd h
noted-grown inside old new (w ∷ ws) [] g h = absurd h
noted-grown inside old new (w ∷ ws) (n ∷ ns) g h = (record { named = h.0.named; name = g.kept n _ h.0.name }, noted-grown inside old new ws ns g h.1)

none_in : {A : Type 0} (xs : List A) → nat_eq (length xs) 0 ≡ true → xs ≡ []
none_in [] e = refl
none_in (x ∷ xs) e = elim (eqb_tells (length (x ∷ xs)) 0) [ inl h ↦ absurd (omega (arith, h.1)) | inr h ↦ absurd (let clash : false ≡ true = sym h.0 ∙ e in cc) ]

not_false : (b : Bool) → not b ≡ false → b ≡ true
not_false true e = refl
not_false false e = absurd (cc)

-- a tag without attributes whose name is noted
pub noted_reason : (tag : Tag) (outer : List (List ℕ × List ℕ)) (ended : Bool) (depth : ℕ) → tag.attributes ≡ [] → IsNamed tag.name outer → start_reason tag outer ended depth ≡ first_true (place_tests ended depth)
unfolding start_reason
noted_reason tag outer ended depth none n = rw (none, n.qname, n.short, n.bound) refl

-- its place may still be refused
pub noted_stops : (written : List ℕ) (outer : List (List ℕ × List ℕ)) (ended : Bool) (depth place : ℕ) (error : DocError) → IsNamed written outer → Stopped (first_true (place_tests ended depth)) place error → Stopped (start_reason (bare written) outer ended depth) place error
noted_stops written outer ended depth place error n stopped = subst (λ (o : Option DocWhy). Stopped o place error) (sym (noted_reason (bare written) outer ended depth refl n)) stopped

pub noted_enters : (tag : Tag) (outer : List (List ℕ × List ℕ)) (ended : Bool) (depth : ℕ) (names : List Name) (number : ℕ) → tag.attributes ≡ [] → KnownAs outer names tag.name number → first_true (place_tests ended depth) ≡ None → EntersAs outer ended depth tag (name_at names number) [] []
noted_enters tag outer ended depth names number empty known none = record {
  none = noted_reason tag outer ended depth empty known.named ∙ none;
  name_is = ap name_in known.name ∙ rw empty refl;
  attributes_are = rw empty refl;
  declares_are = rw empty refl;
}

pub bare_is : (tag : Element) → nat_eq (length tag.attributes.items) 0 ≡ true → tag_seen tag ≡ bare tag.name.now
bare_is tag e = ap (λ (xs : List Attribute). record { name = tag.name.now; attributes = map attribute_of xs }) (none_in tag.attributes.items e)

-- what is noted where an element has been entered
pub none_bound : (declares bound : List (List ℕ × List ℕ)) (binds : Bool) → binds ≡ not (nat_eq (length declares) 0) → declares ≡ bound → binds ≡ false → bound ≡ []
none_bound declares bound binds e f g = sym f ∙ none_in declares (not_false (nat_eq (length declares) 0) (sym e ∙ g))

pub known_as : (tag : Tag) (old new : List (List ℕ × List ℕ)) (ended : Bool) (depth : ℕ) (names : List Name) (number : ℕ) (name : Name) → start_reason tag (reverse old) ended depth ≡ None → new ≡ old ++ reverse (bindings_of tag.attributes)
    → name ≡ element_name (tag_scope tag (reverse old)) tag.name → slice_get names number ≡ Some name → KnownAs (reverse new) names tag.name number
known_as tag old new ended depth names number name none scope_is name_is has =
    let same : reverse new ≡ tag_scope tag (reverse old) = ap reverse scope_is ∙ inside_is old (bindings_of tag.attributes) in
    subst (λ (s : List (List ℕ × List ℕ)). KnownAs s names tag.name number) (sym same) (record { named = named_tag tag (reverse old) ended depth none; name = has ∙ ap Some name_is })

pub entered_same : (old new bound : List (List ℕ × List ℕ)) → new ≡ old ++ reverse bound → bound ≡ [] → reverse new ≡ reverse old
entered_same old new bound e f = ap reverse (e ∙ ap (λ (b : List (List ℕ × List ℕ)). old ++ reverse b) f ∙ append-nil old)

pub left_none : (old : List (List ℕ × List ℕ)) → take (length old - 0) old ≡ old
left_none old =
    let all : length old - 0 ≡ length old = omega arith in
    let within : length old ≤ length old = omega arith in
    ap (λ (n : ℕ). take n old) all ∙ take_all (length old) old within

pub left_same : (old new : List (List ℕ × List ℕ)) (count : ℕ) → new ≡ take (length old - count) old → count ≡ 0 → reverse new ≡ reverse old
left_same old new count e f = ap reverse (e ∙ ap (λ (n : ℕ). take (length old - n) old) f ∙ left_none old)
