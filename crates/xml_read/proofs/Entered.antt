-- The reasons against a tag, part by part.
use Rattle.std.proofs.Common.{◌≡◌, ℕ, Bool, true, false, List, [], ◌∷◌, ◌++◌, Some, None, refl, sym, ap, ◌∙◌}
use Rattle.std.specs.Prelude.{◌||◌, reverse}
use Rattle.std.proofs.lemmas.List.{reverse-append, reverse-reverse}
use Rattle.base_texts.specs.Entries.{beside, first_true}
use Rattle.xml_pieces.specs.Pieces.{Tag}
use Rattle.xml_read.specs.declared.error.DocWhy.{DocWhy}
use Rattle.xml_read.specs.declared.error.DocWhy.TheVariants as why
use Rattle.xml_pieces.specs.Namespaces.{bindings_of, attributes_of, element_name, written_twice, expanded_twice, is_unbound, or_absent}
use Rattle.xml_read.specs.declared.tags.Head.{Head}
use Rattle.xml_pieces.specs.Plain.{IsPlain}
use Rattle.xml_read.specs.Private.Entering.{Enters, inner_tests, place_tests}
use Rattle.xml_read.specs.Contexts.{has_bad_name, has_long_name, has_reserved, has_unbound, tag_scope, start_reason}

abbrev pub name_tests : Tag → List (Bool × DocWhy)
name_tests tag = (has_bad_name tag, why.BadName) ∷ (has_long_name tag, why.LongName) ∷ (has_reserved tag, why.ReservedPrefix) ∷ []

some_first : (b : Bool) (w v : DocWhy) (xs ys : List (Bool × DocWhy)) → (first_true xs ≡ Some v → first_true ys ≡ Some v) → first_true ((b, w) ∷ xs) ≡ Some v → first_true ((b, w) ∷ ys) ≡ Some v
some_first true w v xs ys h e = e
some_first false w v xs ys h e = h e

first_some : (xs ys : List (Bool × DocWhy)) (v : DocWhy) → first_true xs ≡ Some v → first_true (xs ++ ys) ≡ Some v
first_some [] ys v e = absurd cc
first_some (x ∷ xs) ys v e = some_first x.0 x.1 v xs (xs ++ ys) (first_some xs ys v) e

none_first : (b : Bool) (w : DocWhy) (xs ys zs : List (Bool × DocWhy)) → (first_true xs ≡ None → first_true ys ≡ first_true zs) → first_true ((b, w) ∷ xs) ≡ None → first_true ((b, w) ∷ ys) ≡ first_true zs
none_first true w xs ys zs h e = absurd cc
none_first false w xs ys zs h e = h e

first_none : (xs ys : List (Bool × DocWhy)) → first_true xs ≡ None → first_true (xs ++ ys) ≡ first_true ys
first_none [] ys e = refl
first_none (x ∷ xs) ys e = none_first x.0 x.1 xs (xs ++ ys) ys (first_none xs ys) e

pub inside_is : (scope own : List (List ℕ × List ℕ)) → reverse (scope ++ reverse own) ≡ own ++ reverse scope
inside_is scope own = reverse-append scope (reverse own) ∙ ap (λ (x : List (List ℕ × List ℕ)). x ++ reverse scope) (reverse-reverse own)

pub names_stop : (tag : Tag) (outer : List (List ℕ × List ℕ)) (ended : Bool) (depth : ℕ) (v : DocWhy) → first_true (name_tests tag) ≡ Some v → start_reason tag outer ended depth ≡ Some v
unfolding start_reason
names_stop tag outer ended depth v e = first_some (name_tests tag) (inner_tests tag (tag_scope tag outer) ended depth) v e

behind_names : (tag : Tag) (outer : List (List ℕ × List ℕ)) (ended : Bool) (depth : ℕ) → first_true (name_tests tag) ≡ None → start_reason tag outer ended depth ≡ first_true (inner_tests tag (tag_scope tag outer) ended depth)
unfolding start_reason
behind_names tag outer ended depth e = first_none (name_tests tag) (inner_tests tag (tag_scope tag outer) ended depth) e

-- the scope of the code, which has the innermost last, within the tag
pub within : (tag : Tag) (scope inside : List (List ℕ × List ℕ)) (ended : Bool) (depth : ℕ) → first_true (name_tests tag) ≡ None → inside ≡ scope ++ reverse (bindings_of tag.attributes)
    → first_true (inner_tests tag (reverse inside) ended depth) ≡ start_reason tag (reverse scope) ended depth
within tag scope inside ended depth e is =
    let same : reverse inside ≡ tag_scope tag (reverse scope) = ap reverse is ∙ inside_is scope (bindings_of tag.attributes) in
    ap (λ (x : List (List ℕ × List ℕ)). first_true (inner_tests tag x ended depth)) same ∙ sym (behind_names tag (reverse scope) ended depth e)

pub unbound_stop : (tag : Tag) (inside : List (List ℕ × List ℕ)) (ended : Bool) (depth : ℕ) → has_unbound tag inside ≡ true → first_true (inner_tests tag inside ended depth) ≡ Some why.UnboundPrefix
unbound_stop tag inside ended depth e = rw e refl

abbrev pub doubled : Tag → List (List ℕ × List ℕ) → Bool
doubled tag inside = written_twice tag.attributes || expanded_twice (attributes_of inside tag.attributes)

pub duplicate_stop : (tag : Tag) (inside : List (List ℕ × List ℕ)) (ended : Bool) (depth : ℕ) → has_unbound tag inside ≡ false → doubled tag inside ≡ true → first_true (inner_tests tag inside ended depth) ≡ Some why.DuplicateAttribute
duplicate_stop tag inside ended depth e f = rw (e, f) refl

pub behind_inner : (tag : Tag) (inside : List (List ℕ × List ℕ)) (ended : Bool) (depth : ℕ) → has_unbound tag inside ≡ false → doubled tag inside ≡ false → first_true (inner_tests tag inside ended depth) ≡ first_true (place_tests ended depth)
behind_inner tag inside ended depth e f = rw (e, f) refl

pub enters : (tag : Tag) (scope inside : List (List ℕ × List ℕ)) (ended : Bool) (depth : ℕ) (head : Head) → start_reason tag (reverse scope) ended depth ≡ None → inside ≡ scope ++ reverse (bindings_of tag.attributes)
    → head.name ≡ element_name (reverse inside) tag.name → head.attributes.items ≡ attributes_of (reverse inside) tag.attributes → head.declares.items ≡ bindings_of tag.attributes → Enters (reverse scope) ended depth tag head
enters tag scope inside ended depth head none is name attributes declares =
    let same : reverse inside ≡ tag_scope tag (reverse scope) = ap reverse is ∙ inside_is scope (bindings_of tag.attributes) in
    record {
      opens = record {
        none = none;
        name_is = name ∙ ap (λ (x : List (List ℕ × List ℕ)). element_name x tag.name) same;
        attributes_are = attributes ∙ ap (λ (x : List (List ℕ × List ℕ)). attributes_of x tag.attributes) same;
        declares_are = declares;
      };
    }

-- a tag without attributes, and with a name that nothing speaks against
pub plain_reason : (tag : Tag) (outer : List (List ℕ × List ℕ)) (ended : Bool) (depth : ℕ) → tag.attributes ≡ [] → IsPlain tag.name → start_reason tag outer ended depth ≡ first_true (place_tests ended depth)
unfolding start_reason is_unbound
plain_reason tag outer ended depth none p = rw (none, p.qname, p.short, p.alone) refl

pub plain_enters : (tag : Tag) (outer : List (List ℕ × List ℕ)) (ended : Bool) (depth : ℕ) (head : Head) → tag.attributes ≡ [] → IsPlain tag.name → first_true (place_tests ended depth) ≡ None
    → head.name.space ≡ or_absent (beside [] outer) → head.name.local ≡ tag.name → head.attributes.items ≡ [] → head.declares.items ≡ [] → Enters outer ended depth tag head
unfolding element_name
plain_enters tag outer ended depth head empty p none space local attributes declares = record {
  opens = record {
    none = plain_reason tag outer ended depth empty p ∙ none;
    name_is = rw (empty, p.alone, p.whole, space, local) refl;
    attributes_are = rw empty attributes;
    declares_are = rw empty declares;
  };
}
