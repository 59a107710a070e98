-- What is read of a document that is UTF-8 is UTF-8.
use Rattle.std.proofs.Common.{◌≡◌, ℕ, zero, suc, ◌<◌, Bool, true, false, cond, List, [], ◌∷◌, length, map, get_or, refl, sym, ap, subst, ◌∙◌, arith, None}
use Rattle.std.specs.Prelude.{IsUtf8, chars, bytes_eq, not, ◌&&◌}
use Rattle.std.specs.Str.{is_utf8}
use Rattle.std.specs.List.{list_all, list_any}
use Rattle.std.proofs.lemmas.Str.{IsUtf8-from_is_utf8, IsUtf8-nil}
use Rattle.base_texts.specs.Characters.{is_xml_char, is_ncname}
use Rattle.base_texts.specs.Limits.{has_xml_chars, spells_ncname}
use Rattle.base_texts.specs.Namespaces.{xmlns_prefix}
use Rattle.xml_pieces.specs.Pieces.{Tag, Piece, Declaration, Start, Empty, End, Comment, Instruction, CData, Reference, Character}
use Rattle.xml_pieces.specs.declared.found.Attribute.{Attribute}
use Rattle.xml_pieces.specs.Found.{attribute_of, bytes_of}
use Rattle.xml_pieces.specs.Namespaces.{bound_prefix}
use Rattle.xml_pieces.specs.QNames.{local_of, is_qname}
use Rattle.xml_read.specs.Contexts.{has_bad_name}
use Rattle.base_texts.specs.Entries.{first_true}
use Rattle.xml_read.specs.Private.Entering.{have_utf8, are_named}
use Rattle.xml_read.specs.Private.Building.{GivesUtf8}
use Rattle.xml_read.proofs.Keeping.{and_parts, and_both}
use Rattle.xml_read.proofs.Soundness.{Each, or_parts}
use Rattle.xml_read.proofs.PieceLaws.{Fine}
use Rattle.xml_read.proofs.Telling.{passed}
use Rattle.xml_read.proofs.Entered.{name_tests}

not_false : (b : Bool) → not b ≡ false → b ≡ true
not_false true e = refl
not_false false e = absurd cc

pub local_utf8 : (w : List ℕ) → is_qname w ≡ true → IsUtf8 (local_of w)
unfolding is_qname
local_utf8 w q = IsUtf8-from_is_utf8 (local_of w) (and_parts (is_utf8 (local_of w)) (is_ncname (chars (local_of w))) (and_parts _ (spells_ncname (local_of w)) q).1).0

either_utf8 : (b : Bool) (w : List ℕ) → IsUtf8 w → IsUtf8 (cond b [] w)
either_utf8 true w u = IsUtf8-nil
either_utf8 false w u = u

pub bound_utf8 : (w : List ℕ) → is_qname w ≡ true → IsUtf8 (bound_prefix w)
unfolding bound_prefix
bound_utf8 w q = either_utf8 (bytes_eq w xmlns_prefix) (local_of w) (local_utf8 w q)

pub named_first : (x : Attribute) (xs : List Attribute) → are_named (map attribute_of (x ∷ xs)) ≡ true → (is_qname x.name.now ≡ true) × IsUtf8 (bytes_of x.value) × (are_named (map attribute_of xs) ≡ true)
named_first x xs e =
    let both = and_parts (is_qname x.name.now && is_utf8 (bytes_of x.value)) (are_named (map attribute_of xs)) e in
    let own = and_parts (is_qname x.name.now) (is_utf8 (bytes_of x.value)) both.0 in
    (own.0, IsUtf8-from_is_utf8 (bytes_of x.value) own.1, both.1)

pub named_at : (xs : List Attribute) (n : ℕ) (x : Attribute) → are_named (map attribute_of xs) ≡ true → n < length xs → x ≡ get_or xs n x → (is_qname x.name.now ≡ true) × IsUtf8 (bytes_of x.value)
named_at [] n x e lt is = absurd (omega (arith, lt))
named_at (y ∷ ys) zero x e lt is =
    let h = named_first y ys e in
    (ap (λ (a : Attribute). is_qname a.name.now) is ∙ h.0, subst (λ (a : Attribute). IsUtf8 (bytes_of a.value)) (sym is) h.1)
named_at (y ∷ ys) (suc n) x e lt is = named_at ys n x (named_first y ys e).2 (omega (arith, lt)) is

each_named : (attributes : List (List ℕ × List ℕ)) → list_any (λ written. not (is_qname written)) (map (λ a. a.0) attributes) ≡ false → have_utf8 attributes ≡ true → are_named attributes ≡ true
each_named [] e f = refl
each_named (a ∷ attributes) e f =
    let names = or_parts (not (is_qname a.0)) (list_any (λ written. not (is_qname written)) (map (λ a. a.0) attributes)) e in
    let values = and_parts (is_utf8 a.1) (have_utf8 attributes) f in
    and_both _ _ (and_both _ _ (not_false (is_qname a.0) names.0) values.0) (each_named attributes names.1 values.1)

no_bad_name : (tag : Tag) → first_true (name_tests tag) ≡ None → has_bad_name tag ≡ false
no_bad_name tag e = (passed (name_tests tag) e).0

pub own_named : (tag : Tag) → first_true (name_tests tag) ≡ None → is_qname tag.name ≡ true
own_named tag e = not_false (is_qname tag.name) (or_parts _ _ (no_bad_name tag e)).0

pub all_named : (tag : Tag) → first_true (name_tests tag) ≡ None → have_utf8 tag.attributes ≡ true → are_named tag.attributes ≡ true
all_named tag e f = each_named tag.attributes (or_parts _ _ (no_bad_name tag e)).1 f

values_utf8 : (attributes : List (List ℕ × List ℕ)) → Each (λ a. has_xml_chars a.1 ≡ true) attributes → have_utf8 attributes ≡ true
values_utf8 [] f = refl
values_utf8 (a ∷ attributes) f = and_both _ _ (and_parts (is_utf8 a.1) (list_all is_xml_char (chars a.1)) f.0).0 (values_utf8 attributes f.1)

pub gives_utf8 : (p : Piece) → Fine p → GivesUtf8 p
gives_utf8 Declaration f = tt
gives_utf8 (Start tag) f = values_utf8 tag.attributes f
gives_utf8 (Empty tag) f = values_utf8 tag.attributes f
gives_utf8 (End written) f = tt
gives_utf8 Comment f = tt
gives_utf8 Instruction f = tt
gives_utf8 (CData text) f = f.utf8
gives_utf8 (Reference code) f = tt
gives_utf8 (Character code) f = tt
