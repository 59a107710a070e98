-- The label of a tag against which no reason stands is sound.
use Rattle.std.proofs.Common.{◌≡◌, ℕ, Bool, true, false, cond, List, [], ◌∷◌, ◌++◌, length, map, filter, Option, Some, None, refl, ap, ◌∙◌, inl, inr}
use Rattle.std.specs.Prelude.{◌⊎◌, ◌&&◌, ◌||◌, not, nat_le, bytes_eq}
use Rattle.std.specs.Str.{chars, is_utf8}
use Rattle.std.specs.List.{list_all, list_any, flat_map}
use Rattle.std.proofs.lemmas.Str.{chars-nil, IsUtf8-nil, is_utf8-from_IsUtf8}
use Rattle.std.proofs.lemmas.Slice.Eq.{bytes_eq-Decides}
use Rattle.std.proofs.Math.Utf8.{encode}
use Rattle.base_texts.specs.Characters.{is_xml_char, is_name_start, is_name_char}
use Rattle.base_texts.specs.declared.texts.Name.{Name}
use Rattle.base_texts.specs.Namespaces.{xmlns_space, xml_prefix, xml_space, xmlns_prefix}
use Rattle.base_texts.specs.Limits.{is_empty, has_xml_chars, spells_ncname, is_name_part, is_xmlns}
use Rattle.base_texts.specs.Entries.{beside}
use Rattle.xml_pieces.specs.Pieces.{Tag}
use Rattle.xml_items.specs.declared.label.ItemLabel.TheVariants.{Element}
use Rattle.xml_read.specs.Sound.{is_sound_space, is_sound_name, is_sound_attribute, has_name, are_sound_attributes, is_sound_binding, is_sound_label}
use Rattle.xml_pieces.specs.Namespaces.{is_long, binds, bound_prefix, bindings_of, plain_of, is_reserved, is_unbound, or_absent, element_name, attribute_name, attributes_of, expanded_twice}
use Rattle.xml_pieces.specs.QNames.{has_colon, prefix_of, local_of, is_qname}
use Rattle.xml_read.specs.Contexts.{tag_scope, start_tests}
use Rattle.xml_read.specs.Private.States.{Above, open_of}
use Rattle.xml_read.proofs.Telling.{Passed}
use Rattle.xml_read.proofs.Keeping.{and_parts, and_both, Frames}

-- ---- lists

abbrev pub Each : {A : Type 0} → (A → Type 0) → List A → Type 0
Each F [] = Unit {0}
Each F (x ∷ xs) = F x × Each F xs

pub or_parts : (a b : Bool) → (a || b) ≡ false → (a ≡ false) × (b ≡ false)
or_parts true b e = absurd cc
or_parts false b e = (refl, e)

not_false : (b : Bool) → not b ≡ false → b ≡ true
not_false true e = refl
not_false false e = absurd cc

pub not_true : (b : Bool) → not b ≡ true → b ≡ false
not_true true e = absurd cc
not_true false e = refl

to_not : (b : Bool) → b ≡ false → not b ≡ true
to_not b e = rw e refl

any_each : {A : Type 0} (p : A → Bool) (xs : List A) → list_any p xs ≡ false → Each (λ x. p x ≡ false) xs
any_each p [] e = tt
any_each p (x ∷ xs) e = let h = or_parts (p x) (list_any p xs) e in (h.0, any_each p xs h.1)

from_map : {A B : Type 0} (F : B → Type 0) (f : A → B) (xs : List A) → Each F (map f xs) → Each (λ x. F (f x)) xs
from_map F f [] h = tt
from_map F f (x ∷ xs) h = (h.0, from_map F f xs h.1)

kept : {A : Type 0} (F : A → Type 0) (q : A → Bool) (x : A) (xs : List A) (b : Bool) → q x ≡ b → Each F (cond b (x ∷ filter q xs) (filter q xs)) → (q x ≡ true → F x) × Each F (filter q xs)
kept F q x xs true e h = (λ _. h.0, h.1)
kept F q x xs false e h = (λ f. absurd cc, h)

from_filter : {A : Type 0} (F : A → Type 0) (q : A → Bool) (xs : List A) → Each F (filter q xs) → Each (λ x. q x ≡ true → F x) xs
from_filter F q [] h = tt
from_filter F q (x ∷ xs) h = let k = kept F q x xs (q x) refl h in (k.0, from_filter F q xs k.1)

put_kept : {A : Type 0} (F : A → Type 0) (q : A → Bool) (x : A) (xs : List A) (b : Bool) → q x ≡ b → (q x ≡ true → F x) → Each F (filter q xs) → Each F (cond b (x ∷ filter q xs) (filter q xs))
put_kept F q x xs true e h rest = (h e, rest)
put_kept F q x xs false e h rest = rest

to_filter : {A : Type 0} (F : A → Type 0) (q : A → Bool) (xs : List A) → Each (λ x. q x ≡ true → F x) xs → Each F (filter q xs)
to_filter F q [] h = tt
to_filter F q (x ∷ xs) h = put_kept F q x xs (q x) refl h.0 (to_filter F q xs h.1)

to_map : {A B : Type 0} (F : B → Type 0) (f : A → B) (xs : List A) → Each (λ x. F (f x)) xs → Each F (map f xs)
to_map F f [] h = tt
to_map F f (x ∷ xs) h = (h.0, to_map F f xs h.1)

to_all : {A : Type 0} (p : A → Bool) (xs : List A) → Each (λ x. p x ≡ true) xs → list_all p xs ≡ true
to_all p [] h = refl
to_all p (x ∷ xs) h = and_both (p x) (list_all p xs) h.0 (to_all p xs h.1)

pub both : {A : Type 0} (F G : A → Type 0) (xs : List A) → Each F xs → Each G xs → Each (λ x. F x × G x) xs
both F G [] f g = tt
both F G (x ∷ xs) f g = ((f.0, g.0), both F G xs f.1 g.1)

pub each_by : {A : Type 0} (F G : A → Type 0) → ((x : A) → F x → G x) → (xs : List A) → Each F xs → Each G xs
each_by F G h [] f = tt
each_by F G h (x ∷ xs) f = (h x f.0, each_by F G h xs f.1)

all-append : {A : Type 0} (p : A → Bool) (xs ys : List A) → list_all p xs ≡ true → list_all p ys ≡ true → list_all p (xs ++ ys) ≡ true
all-append p [] ys e f = f
all-append p (x ∷ xs) ys e f = let h = and_parts (p x) (list_all p xs) e in and_both (p x) (list_all p (xs ++ ys)) h.0 (all-append p xs ys h.1 f)

-- ---- names

part_sound : (w : List ℕ) → is_qname w ≡ true → is_long w ≡ false → is_name_part (local_of w) ≡ true
unfolding is_qname is_long
part_sound w q l =
    let spelled = (and_parts _ (spells_ncname (local_of w)) q).1 in
    let short = (and_parts _ (nat_le (length (local_of w)) 255) (not_false _ l)).1 in
    and_both (spells_ncname (local_of w)) (nat_le (length (local_of w)) 255) spelled short

same_bytes : (a b : List ℕ) → bytes_eq a b ≡ true → a ≡ b
same_bytes a b e = (bytes_eq-Decides a b).0 e

abbrev Found : List ℕ → Option (List ℕ) → Type 0
Found prefix None = Unit {0}
Found prefix (Some space) = (is_sound_space space ≡ true) × (is_empty prefix ≡ false → is_empty space ≡ false)

binding_gives : (b : List ℕ × List ℕ) (prefix : List ℕ) → is_sound_binding b ≡ true → bytes_eq b.0 prefix ≡ true → Found prefix (Some b.1)
binding_gives b prefix sound e =
    let parts = and_parts _ (is_sound_space b.1) sound in (
      parts.1,
      λ some. (let empty : is_empty b.0 ≡ false = ap is_empty (same_bytes b.0 prefix e) ∙ some in
          let right : (is_name_part b.0 && not (is_empty b.1)) ≡ true = rw empty at parts.0 in
          not_true (is_empty b.1) (and_parts (is_name_part b.0) (not (is_empty b.1)) right).1),
    )

found_or : (prefix : List ℕ) (b : Bool) (space : List ℕ) (other : Option (List ℕ)) → (b ≡ true → Found prefix (Some space)) → Found prefix other → Found prefix (cond b (Some space) other)
found_or prefix true space other f g = f refl
found_or prefix false space other f g = g

found_sound : (prefix : List ℕ) (bs : List (List ℕ × List ℕ)) → list_all is_sound_binding bs ≡ true → Found prefix (beside prefix bs)
found_sound prefix [] e = tt
found_sound prefix (b ∷ bs) e =
    let h = and_parts (is_sound_binding b) (list_all is_sound_binding bs) e in
    found_or prefix (bytes_eq b.0 prefix) b.1 (beside prefix bs) (binding_gives b prefix h.0) (found_sound prefix bs h.1)

absent_sound : is_sound_space [] ≡ true
absent_sound = rw (is_utf8-from_IsUtf8 [] IsUtf8-nil, chars-nil) refl

or_absent_sound : (prefix : List ℕ) (o : Option (List ℕ)) → Found prefix o → is_sound_space (or_absent o) ≡ true
or_absent_sound prefix None f = absent_sound
or_absent_sound prefix (Some space) f = f.0

element_sound : (inside : List (List ℕ × List ℕ)) (w : List ℕ) → list_all is_sound_binding inside ≡ true → is_qname w ≡ true → is_long w ≡ false → is_sound_name (element_name inside w) ≡ true
unfolding element_name
element_sound inside w e q l = and_both _ _ (or_absent_sound (prefix_of w) (beside (prefix_of w) inside) (found_sound (prefix_of w) inside e)) (part_sound w q l)

-- ---- attributes

abbrev Sound : Name → Type 0
Sound name = (is_sound_name name ≡ true) × (is_xmlns name ≡ false)

and_left : (a b : Bool) → a ≡ false → (a && b) ≡ false
and_left a b e = rw e refl

and_right : (a b : Bool) → b ≡ false → (a && b) ≡ false
and_right true b e = e
and_right false b e = refl

no_empty_ncname : spells_ncname [] ≡ false
no_empty_ncname = rw chars-nil (and_right (is_utf8 []) false refl)

is_empty_is : (xs : List ℕ) → is_empty xs ≡ true → xs ≡ []
is_empty_is [] e = refl
is_empty_is (x ∷ xs) e = absurd cc

or_known : (a b : Bool) → (not a || b) ≡ true → a ≡ true → b ≡ true
or_known true b e f = e
or_known false b e f = absurd cc

qname_prefix : (w : List ℕ) → is_qname w ≡ true → has_colon w ≡ true → spells_ncname (prefix_of w) ≡ true
unfolding is_qname
qname_prefix w q e = or_known (has_colon w) (spells_ncname (prefix_of w)) (and_parts _ (spells_ncname (local_of w)) q).0 e

colon_cases : (w : List ℕ) (b : Bool) → has_colon w ≡ b → is_qname w ≡ true → is_empty (prefix_of w) ≡ true → local_of w ≡ w
unfolding is_qname prefix_of local_of
colon_cases w false e q empty = rw e refl
colon_cases w true e q empty =
    let named : spells_ncname (prefix_of w) ≡ true = qname_prefix w q e in
    let none : prefix_of w ≡ [] = is_empty_is (prefix_of w) empty in
    absurd (let no : spells_ncname (prefix_of w) ≡ false = ap spells_ncname none ∙ no_empty_ncname in cc)

or_last : (b : Bool) → (b || true) ≡ true
or_last true = refl
or_last false = refl

plain_name : (inside : List (List ℕ × List ℕ)) (w : List ℕ) (b : Bool) (o : Option (List ℕ)) → is_empty (prefix_of w) ≡ b → beside (prefix_of w) inside ≡ o
    → Found (prefix_of w) o → is_qname w ≡ true → binds w ≡ false → is_unbound inside (prefix_of w) ≡ false → is_name_part (local_of w) ≡ true → Sound (attribute_name inside w)
unfolding attribute_name binds is_unbound
plain_name inside w true o e f found q plain bound part =
    let whole : local_of w ≡ w = colon_cases w (has_colon w) refl q e in
    let not_it : bytes_eq w xmlns_prefix ≡ false = (or_parts (bytes_eq w xmlns_prefix) (bytes_eq (prefix_of w) xmlns_prefix) plain).0 in
    rw e (and_both _ _ absent_sound part, rw whole not_it)
plain_name inside w false None e f found q plain bound part =
    absurd (let un : is_unbound inside (prefix_of w) ≡ true = rw (e, f) (or_last (bytes_eq (prefix_of w) xmlns_prefix)) in cc)
plain_name inside w false (Some space) e f found q plain bound part =
    rw (e, f) (and_both _ _ found.0 part, and_left (is_empty space) _ (found.1 e))

-- what is known of each attribute of a tag
pub record Known (inside : List (List ℕ × List ℕ)) (a : List ℕ × List ℕ) : Type 0 where
  pub qname : is_qname a.0 ≡ true
  pub short : is_long a.0 ≡ false
  pub fine : has_xml_chars a.1 ≡ true
  pub binding_short : binds a.0 ≡ true → nat_le (length a.1) 1023 ≡ true
  pub binding_free : binds a.0 ≡ true → is_reserved (bound_prefix a.0, a.1) ≡ false
  pub bound : not (binds a.0) ≡ true → is_unbound inside (prefix_of a.0) ≡ false

attribute_sound : (inside : List (List ℕ × List ℕ)) → list_all is_sound_binding inside ≡ true → (a : List ℕ × List ℕ) → Known inside a → not (binds a.0) ≡ true → is_sound_attribute (attribute_name inside a.0, a.1) ≡ true
attribute_sound inside e a known plain =
    let s = plain_name inside a.0 (is_empty (prefix_of a.0)) (beside (prefix_of a.0) inside) refl refl (found_sound (prefix_of a.0) inside e) known.qname (not_true (binds a.0) plain) (known.bound plain) (part_sound a.0 known.qname known.short) in
    and_both _ _ (and_both _ _ s.0 (to_not _ s.1)) known.fine

space_sound : (prefix space : List ℕ) → is_reserved (prefix, space) ≡ false → (bytes_eq space xmlns_space ≡ false) × ((is_empty space && not (is_empty prefix)) ≡ false)
unfolding is_reserved
space_sound prefix space e =
    let one = or_parts _ (is_empty space && not (is_empty prefix)) e in
    let two = or_parts _ _ one.0 in
    let three = or_parts _ (bytes_eq space xmlns_space) two.0 in
    (three.1, one.1)

prefix_sound : (prefix space : List ℕ) → is_name_part prefix ≡ true ⊎ (prefix ≡ []) → (is_empty space && not (is_empty prefix)) ≡ false → (is_empty prefix || (is_name_part prefix && not (is_empty space))) ≡ true
prefix_sound [] space h e = refl
prefix_sound (b ∷ bs) [] h e = absurd cc
prefix_sound (b ∷ bs) (c ∷ cs) (inl h) e = rw h refl
prefix_sound (b ∷ bs) (c ∷ cs) (inr h) e = absurd cc

bound_part : (w : List ℕ) (b : Bool) → bytes_eq w xmlns_prefix ≡ b → is_name_part (local_of w) ≡ true → is_name_part (bound_prefix w) ≡ true ⊎ (bound_prefix w ≡ [])
unfolding bound_prefix
bound_part w true e h = rw e (inr refl)
bound_part w false e h = rw e (inl h)

binding_sound : (inside : List (List ℕ × List ℕ)) (a : List ℕ × List ℕ) → Known inside a → binds a.0 ≡ true → is_sound_binding (bound_prefix a.0, a.1) ≡ true
binding_sound inside a known it =
    let s = space_sound (bound_prefix a.0) a.1 (known.binding_free it) in
    and_both _ _
    (prefix_sound (bound_prefix a.0) a.1 (bound_part a.0 (bytes_eq a.0 xmlns_prefix) refl (part_sound a.0 known.qname known.short)) s.1)
    (and_both _ _ (and_both _ _ known.fine (known.binding_short it)) (to_not _ s.0))

are_sound : (xs : List (Name × List ℕ)) → list_all is_sound_attribute xs ≡ true → expanded_twice xs ≡ false → are_sound_attributes xs ≡ true
are_sound [] e f = refl
are_sound (x ∷ xs) e f =
    let h = and_parts (is_sound_attribute x) (list_all is_sound_attribute xs) e in
    let k = or_parts (has_name x.0 xs) (expanded_twice xs) f in
    and_both _ _ (and_both _ _ h.0 (to_not _ k.0)) (are_sound xs h.1 k.1)

-- ---- tags

abbrev pub AreFine : Tag → Type 0
AreFine tag = Each (λ a. has_xml_chars a.1 ≡ true) tag.attributes

known_all : (tag : Tag) (outer : List (List ℕ × List ℕ)) (ended : Bool) (depth : ℕ) → Passed (start_tests tag outer ended depth) → AreFine tag → Each (Known (tag_scope tag outer)) tag.attributes
known_all tag outer ended depth p fine =
    let inside = tag_scope tag outer in
    let names = (or_parts _ _ p.0).1 in
    let long = or_parts _ _ p.1.0 in
    let short_names = (or_parts _ _ long.0).1 in
    let unbound = (or_parts _ _ p.1.1.1.0).1 in
    let named = from_map (λ w. not (is_qname w) ≡ false) (λ (a : List ℕ × List ℕ). a.0) tag.attributes (any_each (λ w. not (is_qname w)) (map (λ (a : List ℕ × List ℕ). a.0) tag.attributes) names) in
    let shorts = from_map (λ w. is_long w ≡ false) (λ (a : List ℕ × List ℕ). a.0) tag.attributes (any_each is_long (map (λ (a : List ℕ × List ℕ). a.0) tag.attributes) short_names) in
    let bindings_short = from_filter (λ (a : List ℕ × List ℕ). not (nat_le (length a.1) 1023) ≡ false) (λ a. binds a.0) tag.attributes (from_map (λ (b : List ℕ × List ℕ). not (nat_le (length b.1) 1023) ≡ false) (λ (a : List ℕ × List ℕ). (bound_prefix a.0, a.1)) (filter (λ a. binds a.0) tag.attributes) (any_each (λ b. not (nat_le (length b.1) 1023)) (bindings_of tag.attributes) long.1)) in
    let free = from_filter (λ (a : List ℕ × List ℕ). is_reserved (bound_prefix a.0, a.1) ≡ false) (λ a. binds a.0) tag.attributes (from_map (λ (b : List ℕ × List ℕ). is_reserved b ≡ false) (λ (a : List ℕ × List ℕ). (bound_prefix a.0, a.1)) (filter (λ a. binds a.0) tag.attributes) (any_each is_reserved (bindings_of tag.attributes) p.1.1.0)) in
    let bound = from_filter (λ (a : List ℕ × List ℕ). is_unbound inside (prefix_of a.0) ≡ false) (λ a. not (binds a.0)) tag.attributes (any_each (λ a. is_unbound inside (prefix_of a.0)) (plain_of tag.attributes) unbound) in
    each_by _ (Known inside) (λ a h. record { qname = not_false _ h.0.0; short = h.0.1; fine = h.1.0; binding_short = λ e. not_false _ (h.1.1.0.0 e); binding_free = h.1.1.0.1; bound = h.1.1.1 }) tag.attributes
    (both _ _ tag.attributes (both _ _ tag.attributes named shorts) (both _ _ tag.attributes fine (both _ _ tag.attributes (both _ _ tag.attributes bindings_short free) bound)))

bindings_sound : (inside : List (List ℕ × List ℕ)) (attributes : List (List ℕ × List ℕ)) → Each (Known inside) attributes → list_all is_sound_binding (bindings_of attributes) ≡ true
bindings_sound inside attributes known =
    to_all is_sound_binding (bindings_of attributes) (to_map (λ b. is_sound_binding b ≡ true) (λ (a : List ℕ × List ℕ). (bound_prefix a.0, a.1)) (filter (λ a. binds a.0) attributes)
    (to_filter (λ a. is_sound_binding (bound_prefix a.0, a.1) ≡ true) (λ a. binds a.0) attributes (each_by (Known inside) _ (binding_sound inside) attributes known)))

pub tag_sound : (tag : Tag) (outer : List (List ℕ × List ℕ)) (ended : Bool) (depth at : ℕ) → Passed (start_tests tag outer ended depth) → AreFine tag → list_all is_sound_binding outer ≡ true
    → is_sound_label (Element (element_name (tag_scope tag outer) tag.name) (attributes_of (tag_scope tag outer) tag.attributes) (bindings_of tag.attributes) at) ≡ true
tag_sound tag outer ended depth at p fine sound =
    let inside = tag_scope tag outer in
    let known = known_all tag outer ended depth p fine in
    let bindings = bindings_sound inside tag.attributes known in
    let inside_sound : list_all is_sound_binding inside ≡ true = all-append is_sound_binding (bindings_of tag.attributes) outer bindings sound in
    let name = element_sound inside tag.name inside_sound (not_false _ (or_parts _ _ p.0).0) (or_parts _ _ (or_parts _ _ p.1.0).0).0 in
    let attributes = to_all is_sound_attribute (attributes_of inside tag.attributes) (to_map (λ a. is_sound_attribute a ≡ true) (λ (a : List ℕ × List ℕ). (attribute_name inside a.0, a.1)) (plain_of tag.attributes)
    (to_filter (λ a. is_sound_attribute (attribute_name inside a.0, a.1) ≡ true) (λ a. not (binds a.0)) tag.attributes (each_by (Known inside) _ (attribute_sound inside inside_sound) tag.attributes known))) in
    and_both _ _ (and_both _ _ name (are_sound (attributes_of inside tag.attributes) attributes (or_parts _ _ p.1.1.1.1.0).1)) bindings

-- ---- bindings in scope

xml_sound : is_sound_binding (xml_prefix, xml_space) ≡ true
unfolding chars is_utf8 is_xml_char is_name_start is_name_char encode
xml_sound = refl

outer_sound : (above : List Above) → Frames above → list_all is_sound_binding (flat_map (λ e. e.declares) (map open_of above)) ≡ true
outer_sound [] f = refl
outer_sound (a ∷ above) f = all-append is_sound_binding a.declares (flat_map (λ e. e.declares) (map open_of above)) (and_parts _ (list_all is_sound_binding a.declares) f.0.label).1 (outer_sound above f.2)

pub scope_sound : (above : List Above) → Frames above → list_all is_sound_binding (flat_map (λ e. e.declares) (map open_of above) ++ (xml_prefix, xml_space) ∷ []) ≡ true
scope_sound above f = all-append is_sound_binding (flat_map (λ e. e.declares) (map open_of above)) ((xml_prefix, xml_space) ∷ []) (outer_sound above f) (and_both _ _ xml_sound refl)
