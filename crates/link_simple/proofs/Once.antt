-- The parts of a type leave one space or reason, and the entries of other types don't matter.
use Rattle.std.proofs.Common.{◌≡◌, ℕ, Bool, true, false, inl, inr, List, [], ◌∷◌, refl, sym, ap, ◌∙◌, subst, Option, Some, None, Result, Ok, Err}
use Rattle.std.specs.Prelude.{ℤ, MatchResult}
use Rattle.std.specs.Bool.{MatchBool}
use Rattle.std.specs.Result.{is_ok}
use Rattle.std.specs.Ordering.{int_cmp, nat_cmp}
use Rattle.std.specs.Cmp.Lexicographic.{slice_cmp}
use Rattle.std.proofs.lemmas.Bool.{true≢false}
use Rattle.std.proofs.lemmas.Cmp.{int_cmp_total, nat_list_cmp_total}
use Rattle.base_texts.specs.declared.white_space.WhiteSpace.{WhiteSpace}
use Rattle.simple_types.specs.declared.facets.Facet.{Facet}
use Rattle.simple_types.specs.Space.{Space, Spaces, Booleans, Wholes, Numbers, Words, Characters}
use Rattle.simple_types.specs.Space as space
use Rattle.simple_facets.specs.declared.refusals.FacetWhy.{FacetWhy}
use Rattle.simple_facets.specs.declared.refusals.FacetWhy.TheVariants as reason
use Rattle.simple_facets.specs.Restricting.{Restricted, Enumerated, EnumeratedBy, ByItems, IsNumbersOf, IsWordsOf, with_facets, no_constraints, narrowed, is_empty, items_of, each_item, number_item, word_item}
use Rattle.schema_components.specs.declared.simple_definitions.RawRef.TheVariants as reference
use Rattle.schema_components.specs.Raw.{Base, Named, Inner, Bases, none, more, How, Restrict, ListOf, UnionOf}
use Rattle.link_names.specs.declared.faults.LinkWhy.{LinkWhy}
use Rattle.link_names.specs.declared.faults.LinkWhy.TheVariants as why
use Rattle.link_names.specs.Order.{place}
use Rattle.link_names.specs.Cycles as cycles
use Rattle.link_names.specs.Cycles.{one_of, part_of, parts_of_bases, parts_of, parts_in}
use Rattle.base_texts.specs.Lists.{HasItem}
use Rattle.base_texts.proofs.Lists.{has_left, has_right}
use Rattle.link_names.specs.SimpleTypes.{SimpleDefinition}
use Rattle.link_simple.specs.Making.{entry_at, space_at, part_space, with_space, part_spaces, IsRestriction, IsList, IsUnion, IsLeft, IsEntry}
use Rattle.link_simple.proofs.Ascending.{one_ascending}

-- one space of numbers or of words
numbers_once : (items : List ℤ) (s t : Space) → IsNumbersOf items s → IsNumbersOf items t → s ≡ t
numbers_once items (Numbers xs) (Numbers ys) h k =
    ap Numbers (one_ascending int_cmp int_cmp_total xs ys h.0 k.0 (λ z m. (k.1 z).1 ((h.1 z).0 m)) (λ z m. (h.1 z).1 ((k.1 z).0 m)))
numbers_once items (Numbers xs) Booleans h k = absurd k
numbers_once items (Numbers xs) (Wholes a b) h k = absurd k
numbers_once items (Numbers xs) (Words a b) h k = absurd k
numbers_once items (Numbers xs) (Characters a b c d) h k = absurd k
numbers_once items (Numbers xs) (space.ListOf a b c) h k = absurd k
numbers_once items (Numbers xs) (space.UnionOf a) h k = absurd k
numbers_once items Booleans t h k = absurd h
numbers_once items (Wholes a b) t h k = absurd h
numbers_once items (Words a b) t h k = absurd h
numbers_once items (Characters a b c d) t h k = absurd h
numbers_once items (space.ListOf a b c) t h k = absurd h
numbers_once items (space.UnionOf a) t h k = absurd h

words_once : (how : WhiteSpace) (items : List (List ℕ)) (s t : Space) → IsWordsOf how items s → IsWordsOf how items t → s ≡ t
words_once how items (Words a xs) (Words b ys) h k =
    ap (λ w. Words w xs) (h.0 ∙ sym k.0)
    ∙ ap (Words b) (one_ascending (slice_cmp nat_cmp) nat_list_cmp_total xs ys h.1.0 k.1.0 (λ z m. (k.1.1 z).1 ((h.1.1 z).0 m)) (λ z m. (h.1.1 z).1 ((k.1.1 z).0 m)))
words_once how items (Words a xs) Booleans h k = absurd k
words_once how items (Words a xs) (Wholes b c) h k = absurd k
words_once how items (Words a xs) (Numbers b) h k = absurd k
words_once how items (Words a xs) (Characters b c d e) h k = absurd k
words_once how items (Words a xs) (space.ListOf b c d) h k = absurd k
words_once how items (Words a xs) (space.UnionOf b) h k = absurd k
words_once how items Booleans t h k = absurd h
words_once how items (Wholes a b) t h k = absurd h
words_once how items (Numbers a) t h k = absurd h
words_once how items (Characters a b c d) t h k = absurd h
words_once how items (space.ListOf a b c) t h k = absurd h
words_once how items (space.UnionOf a) t h k = absurd h

-- one answer for enumerations
module _ {A : Type 0} (IsSpaceOf : List A → Space → Type 0) (once : (items : List A) (s t : Space) → IsSpaceOf items s → IsSpaceOf items t → s ≡ t) where
  enumerated_by_once : (items : Result (List A) FacetWhy) (r q : Result Space FacetWhy) → EnumeratedBy IsSpaceOf items r → EnumeratedBy IsSpaceOf items q → r ≡ q
  enumerated_by_once (Err w) r q h k = h ∙ sym k
  enumerated_by_once (Ok items) (Ok s) (Ok t) h k = ap Ok (once items s t h k)
  enumerated_by_once (Ok items) (Ok s) (Err w) h k = absurd k
  enumerated_by_once (Ok items) (Err w) q h k = absurd h

enumerated_once : (now : Space) (texts : List (List ℕ)) (r q : Result Space FacetWhy) → Enumerated now texts r → Enumerated now texts q → r ≡ q
enumerated_once (Wholes a b) texts r q h k = enumerated_by_once IsNumbersOf numbers_once (each_item (number_item (Wholes a b)) texts) r q h k
enumerated_once (Numbers a) texts r q h k = enumerated_by_once IsNumbersOf numbers_once (each_item (number_item (Numbers a)) texts) r q h k
enumerated_once (Words how a) texts r q h k = enumerated_by_once (IsWordsOf how) (words_once how) (each_item (word_item how (Words how a)) texts) r q h k
enumerated_once (Characters how a b c) texts r q h k = enumerated_by_once (IsWordsOf how) (words_once how) (each_item (word_item how (Characters how a b c)) texts) r q h k
enumerated_once Booleans texts r q h k = h ∙ sym k
enumerated_once (space.ListOf a b c) texts r q h k = h ∙ sym k
enumerated_once (space.UnionOf a) texts r q h k = h ∙ sym k

by_items_once : (now : Space) (texts : List (List ℕ)) (r q : Result Space FacetWhy) → ByItems now texts r → ByItems now texts q → r ≡ q
by_items_once now [] r q h k = h ∙ sym k
by_items_once now (text ∷ texts) r q h k = enumerated_once now (text ∷ texts) r q h k

left_once : (empty : Bool) (now : Space) (texts : List (List ℕ)) (r q : Result Space FacetWhy) → MatchBool empty (r ≡ Err reason.EmptySpace) (ByItems now texts r)
    → MatchBool empty (q ≡ Err reason.EmptySpace) (ByItems now texts q) → r ≡ q
left_once true now texts r q h k = h ∙ sym k
left_once false now texts r q h k = by_items_once now texts r q h k

asked_once : {C : Type 0} (empty : C → Bool) (now : C → Space) (texts : List (List ℕ)) (asked : Result C FacetWhy) (r q : Result Space FacetWhy)
    → MatchResult asked (λ c. MatchBool (empty c) (r ≡ Err reason.EmptySpace) (ByItems (now c) texts r)) (λ w. r ≡ Err w)
    → MatchResult asked (λ c. MatchBool (empty c) (q ≡ Err reason.EmptySpace) (ByItems (now c) texts q)) (λ w. q ≡ Err w) → r ≡ q
asked_once empty now texts (Err w) r q h k = h ∙ sym k
asked_once empty now texts (Ok c) r q h k = left_once (empty c) (now c) texts r q h k

pub restricted_once : (base : Space) (facets : List Facet) (r q : Result Space FacetWhy) → Restricted base facets r → Restricted base facets q → r ≡ q
restricted_once base facets r q h k = asked_once (λ c. is_empty (narrowed base c)) (narrowed base) (items_of facets) (with_facets base no_constraints facets) r q h k

-- one answer for a type
abbrev as_link : Result Space FacetWhy → Result Space LinkWhy
as_link (Ok s) = Ok s
as_link (Err w) = Err (why.Facet w)

ok≢err : {A E : Type 0} (x : A) (e : E) → (let r : Result A E = Ok x in r) ≡ Err e → ⊥
ok≢err x e is = true≢false (ap is_ok is)

restriction_once : (base : Option Space) (facets : List Facet) (r q : Result Space LinkWhy) → IsRestriction base facets r → IsRestriction base facets q → r ≡ q
restriction_once None facets r q h k = absurd h
restriction_once (Some base) facets (Ok s) (Ok t) h k = ap as_link (restricted_once base facets (Ok s) (Ok t) h k)
restriction_once (Some base) facets (Ok s) (Err w) h k = absurd (ok≢err s k.0 (restricted_once base facets (Ok s) (Err k.0) h k.2))
restriction_once (Some base) facets (Err v) (Ok t) h k = absurd (ok≢err t h.0 (restricted_once base facets (Ok t) (Err h.0) k h.2))
restriction_once (Some base) facets (Err v) (Err w) h k =
    ap Err h.1 ∙ ap as_link (restricted_once base facets (Err h.0) (Err k.0) h.2 k.2) ∙ sym (ap Err k.1)

list_once : (item : Option Space) (r q : Result Space LinkWhy) → IsList item r → IsList item q → r ≡ q
list_once None r q h k = absurd h
list_once (Some item) r q h k = h ∙ sym k

union_once : (members : Option Spaces) (r q : Result Space LinkWhy) → IsUnion members r → IsUnion members q → r ≡ q
union_once None r q h k = absurd h
union_once (Some members) r q (inl h) (inl k) = h.1 ∙ sym k.1
union_once (Some members) r q (inl h) (inr k) = absurd (k.0 h.0)
union_once (Some members) r q (inr h) (inl k) = absurd (h.0 k.0)
union_once (Some members) r q (inr h) (inr k) = h.1 ∙ sym k.1

pub once : (ns : cycles.SimpleNumbers) (made : List (Option Space)) (file : ℕ) (how : How) (r q : Result Space LinkWhy) → IsLeft ns made file how r → IsLeft ns made file how q → r ≡ q
once ns made file (Restrict base facets) r q h k = restriction_once (part_space ns made file base) facets r q h k
once ns made file (ListOf item) r q h k = list_once (part_space ns made file item) r q h k
once ns made file (UnionOf members) r q h k = union_once (part_spaces ns made file members) r q h k

-- entries that agree where the parts are
module _ (ns : cycles.SimpleNumbers) (a b : List (Option Space)) (file : ℕ) where
  abbrev pub Agree : List ℕ → Type 0
  Agree parts = (n : ℕ) → HasItem parts n → entry_at a n ≡ entry_at b n

  same_number : (o : Option ℕ) → Agree (one_of o) → space_at a o ≡ space_at b o
  same_number None same = refl
  same_number (Some n) same = same n (inl refl)

  same_part : (p : Base) → Agree (part_of ns file p) → part_space ns a file p ≡ part_space ns b file p
  same_part (Named (reference.Builtin which)) same = refl
  same_part (Named (reference.Other name)) same = same_number (ns.named name) same
  same_part (Inner at body_at how) same = same_number (ns.placed (place file at)) same

  same_parts : (ps : Bases) → Agree (parts_of_bases ns file ps) → part_spaces ns a file ps ≡ part_spaces ns b file ps
  same_parts none same = refl
  same_parts (more p ps) same =
      let first = same_part p (λ n h. same n (has_left (part_of ns file p) (parts_of_bases ns file ps) n h)) in
      let rest = same_parts ps (λ n h. same n (has_right (part_of ns file p) (parts_of_bases ns file ps) n h)) in
      ap (λ o. with_space o (part_spaces ns a file ps)) first ∙ ap (with_space (part_space ns b file p)) rest

  pub same_left : (how : How) → Agree (parts_of ns file how) → (r : Result Space LinkWhy) → IsLeft ns a file how r → IsLeft ns b file how r
  same_left (Restrict base facets) same r h = subst (λ o. IsRestriction o facets r) (same_part base same) h
  same_left (ListOf item) same r h = subst (λ o. IsList o r) (same_part item same) h
  same_left (UnionOf members) same r h = subst (λ o. IsUnion o r) (same_parts members same) h

abbrev space_left : Result Space LinkWhy → Option Space
space_left (Ok s) = Some s
space_left (Err w) = None

module _ (ns : cycles.SimpleNumbers) (a b : List (Option Space)) (d : SimpleDefinition) (same : (n : ℕ) → HasItem (parts_in ns d) n → entry_at a n ≡ entry_at b n) where
  back : (n : ℕ) → HasItem (parts_in ns d) n → entry_at b n ≡ entry_at a n
  back n h = sym (same n h)

  pub same_entry : (e f : Option Space) → IsEntry ns a d e → IsEntry ns b d f → e ≡ f
  same_entry (Some s) (Some t) h k = ap space_left (once ns b d.place.file d.how (Ok s) (Ok t) (same_left ns a b d.place.file d.how same (Ok s) h) k)
  same_entry (Some s) None h k = absurd (true≢false (sym (k (Ok s) (same_left ns a b d.place.file d.how same (Ok s) h))))
  same_entry None (Some t) h k = absurd (true≢false (sym (h (Ok t) (same_left ns b a d.place.file d.how back (Ok t) k))))
  same_entry None None h k = refl

  pub entry_stays : (e : Option Space) → IsEntry ns a d e → IsEntry ns b d e
  entry_stays (Some s) h = same_left ns a b d.place.file d.how same (Ok s) h
  entry_stays None h = λ r l. h r (same_left ns b a d.place.file d.how back r l)
