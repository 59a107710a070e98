-- The parts for attributes: each that stands and is declared takes its text, and one that says nothing by it has no part.
use Rattle.std.proofs.Common.{◌≡◌, ℕ, ◌+◌, ◌<◌, Bool, true, false, Option, Some, None, List, [], ◌∷◌, ◌++◌, length, map, take, get_or, refl, sym, ◌∙◌, ap, subst}
use Rattle.std.specs.Prelude.{All, Ok, Err, slice_get, not, ◌&&◌, if◌then◌else◌}
use Rattle.std.proofs.lemmas.List.{map-append, take_more}
use Rattle.std.proofs.lemmas.List.Elements.{All-nil, All-cons, All-head, All-tail}
use Rattle.std.proofs.lemmas.Slice.Eq.{bytes_eq-Decides}
use Rattle.base_texts.specs.declared.texts.Name.{Name}
use Rattle.base_trees.specs.Rose.{Rose}
use Rattle.simple_types.specs.declared.labels.ValueLabel.{ValueLabel}
use Rattle.simple_types.specs.Seen.{space_of}
use Rattle.simple_types.specs.declared.standards.Standard.{Standard}
use Rattle.simple_types.specs.declared.standards.Standard.TheVariants.{Free, Default, Fixed}
use Rattle.simple_types.specs.Space.{Space, Booleans}
use Rattle.simple_types.specs.Sound.{Sound}
use Rattle.simple_types.specs.Reading.{Refusal, Reading, reads, spelled, Accepts}
use Rattle.schema_components.specs.declared.components.AttributeUse.{AttributeUse}
use Rattle.schema_components.specs.declared.components.SimpleDef.{SimpleDef}
use Rattle.schema_components.specs.Components.{Set}
use Rattle.schema_components.specs.Declarable.{is_declarable_attribute}
use Rattle.schema_components.specs.Linked.{IsSimpleType, MayBeFor, IsLinked}
use Rattle.schema_components.specs.SetParts.{parts_of}
use Rattle.validity_rules.specs.Asked.{Asked, Attribute, attribute_in, space_at, asked_at}
use Rattle.validity_rules.specs.Attributes.{text_of, left, declared, IsFixedTo, Takes, AllRight, spelled_read, treated_text, has_spelling, unless_standard, treated_attribute}
use Rattle.validity_rules.proofs.Again.{IsFair}
use Rattle.validity_rules.proofs.Fair.{fair_at}
use Rattle.validity_rules.proofs.Treated.{declared_each, text_right}
use Rattle.validity_check.proofs.Tagging.{plain_name, text_left}
use Rattle.map_subjects.proofs.Finding.{all-at}
use Rattle.value_laws.proofs.Simples.{found-in}
use Rattle.value_laws.proofs.Spelled.{KeptAs, IsKept}
use Rattle.value_builder.specs.Built.{Built}
use Rattle.xer_read.specs.Private.Contents.{IsTaken, AreTaken, IsLeftOut, IsPut, AttributesMade}
use Rattle.xer_read.specs.Private.Putting.{PartsPut}
use Rattle.xer_read.proofs.Putting.{both-parts}

-- ---- one by one

attributes-more : (us : List Attribute) (a : Attribute) (xs : List (Name × List ℕ)) (f g : List Bool) (v w : List (Rose ValueLabel)) → AttributesMade us xs f v → AttributesMade (a ∷ []) xs g w
    → AttributesMade (us ++ a ∷ []) xs (f ++ g) (v ++ w)
attributes-more [] a xs f g v w h k =
    subst (λ y. AttributesMade (a ∷ []) xs (y ++ g) (v ++ w)) (sym h.0) (subst (λ y. AttributesMade (a ∷ []) xs g (y ++ w)) (sym h.1) k)
attributes-more (b ∷ us) a xs [] g v w h k = absurd h
attributes-more (b ∷ us) a xs (true ∷ f) g [] w h k = absurd h
attributes-more (b ∷ us) a xs (true ∷ f) g (v ∷ vs) w (here, h) k = (here, attributes-more us a xs f g vs w h k)
attributes-more (b ∷ us) a xs (false ∷ f) g v w (here, h) k = (here, attributes-more us a xs f g v w h k)

pub more-parts : (us bs : List Attribute) (a : Attribute) (xs : List (Name × List ℕ)) (one two three : Built) → bs ≡ us ++ a ∷ [] → PartsPut (AttributesMade us xs) one two → PartsPut (AttributesMade (a ∷ []) xs) two three
    → PartsPut (AttributesMade bs xs) one three
more-parts us bs a xs one two three e h k =
    both-parts (AttributesMade us xs) (AttributesMade (a ∷ []) xs) (AttributesMade bs xs) (λ f g v w p q. subst (λ cs. AttributesMade cs xs (f ++ g) (v ++ w)) (sym e) (attributes-more us a xs f g v w p q)) one two three h k

pub mapped-more : {U : Type 0} (f : U → Attribute) (us : List U) (i : ℕ) (u : U) → i < length us → u ≡ get_or us i u → map f (take (i + 1) us) ≡ map f (take i us) ++ f u ∷ []
mapped-more f us i u below here =
    let more : take (i + 1) us ≡ take i us ++ u ∷ [] = take_more us i u below ∙ ap (λ x. take i us ++ x ∷ []) (sym here) in
    ap (map f) more ∙ map-append f (take i us) (u ∷ [])

-- ---- readings

only-value : (r : Reading) (v w : Rose ValueLabel) → r ≡ Ok v → r ≡ Ok w → v ≡ w
only-value r v w h k = cc

refused-never : (r : Reading) (v : Rose ValueLabel) (why : Refusal) → r ≡ Ok v → r ≡ Err why → ⊥
refused-never r v why h k = cc

-- ---- what stands in the treated items

-- the attribute may be absent, and has its default or fixed value
abbrev pub is-silent : Attribute → Rose ValueLabel → Bool
is-silent a v = not a.required && has_spelling a.standard (spelled a.space v)

module _ (a : Attribute) (xs : List (Name × List ℕ)) where
  treated-taken : (words : List ℕ) → text_of xs a.name ≡ Some words → (v : Rose ValueLabel) → Accepts a.space words v → treated_attribute a xs ≡ unless_standard a (Some (spelled a.space v))
  treated-taken words e v accepts = ap (λ o. unless_standard a (treated_text a.space o)) e ∙ ap (λ r. unless_standard a (spelled_read a.space r)) accepts

  -- where it doesn't stand
  pub none-out : text_of xs a.name ≡ None → IsLeftOut xs a
  none-out e = (ap (λ o. unless_standard a (treated_text a.space o)) e, λ required. e)

  silent-optional : (b c : Bool) → (not b && c) ≡ true → b ≡ true → ⊥
  silent-optional true c e q = cc
  silent-optional false c e q = cc

  pub silent-out : (words : List ℕ) → text_of xs a.name ≡ Some words → (v : Rose ValueLabel) → Accepts a.space words v → is-silent a v ≡ true → IsLeftOut xs a
  silent-out words e v accepts silent = (
    treated-taken words e v accepts ∙ ap (λ b. if b then None else Some (spelled a.space v)) silent,
    λ required. absurd (silent-optional a.required (has_spelling a.standard (spelled a.space v)) silent required),
  )

  pub spoken-put : (words : List ℕ) → text_of xs a.name ≡ Some words → (t : Takes a words) → is-silent a t.0 ≡ false → IsPut xs a t.0
  spoken-put words e (v, accepts, fixed) spoken =
      (words, e, accepts, fixed, treated-taken words e v accepts ∙ ap (λ b. if b then None else Some (spelled a.space v)) spoken)

-- ---- what is put is kept

stays-spoken : (b : Bool) (y : List ℕ) → ◌≡◌ {A = Option (List ℕ)} (if b then None else Some y) (Some y) → b ≡ false
stays-spoken true y e = absurd (cc)
stays-spoken false y e = refl

-- a required attribute has its fixed value, and one that may be absent has neither its default nor its fixed value
kept-as : (standard : Standard) (required : Bool) (y : List ℕ) → MayBeFor required standard → IsFixedTo standard y → (not required && has_spelling standard y) ≡ false → KeptAs standard required y
kept-as Free required y may fixed e = tt
kept-as (Default text) true y may fixed e = absurd (cc)
kept-as (Default text) false y may fixed e = λ same. let equal = (bytes_eq-Decides y text).1 same in cc
kept-as (Fixed text) true y may fixed e = (refl, fixed)
kept-as (Fixed text) false y may fixed e = absurd (let equal = (bytes_eq-Decides y text).1 fixed in cc)

pub put-kept : (s : Set) (d : AttributeUse) (xs : List (Name × List ℕ)) (v : Rose ValueLabel) → MayBeFor d.required d.standard → IsPut xs (attribute_in (parts_of s) d) v
    → IsKept d (spelled (space_at (parts_of s) d.simple) v)
put-kept s d xs v may (words, is, accepts, fixed, treated) =
    let a = attribute_in (parts_of s) d in
    let y = spelled a.space v in
    kept-as d.standard d.required y may fixed (stays-spoken (is-silent a v) y (sym (treated-taken a xs words is v accepts) ∙ treated))

-- ---- the part of one

module _ (s : Set) (d : AttributeUse) (xs : List (Name × List ℕ)) (declarable : is_declarable_attribute d.name ≡ true) where
  own-text : (o : Option (List ℕ)) → text_of xs d.name ≡ o → text_of (left xs) d.name ≡ o
  own-text o e = text_left d.name (plain_name d.name declarable) xs ∙ e

  pub attribute-absent : text_of xs d.name ≡ None → AttributesMade (attribute_in (parts_of s) d ∷ []) (left xs) (false ∷ []) []
  attribute-absent e = (none-out (attribute_in (parts_of s) d) (left xs) (own-text None e), (refl, refl))

  -- a text that stands, which the attribute takes
  module _ (words : List ℕ) (stands : text_of xs d.name ≡ Some words) (t : SimpleDef) (found : slice_get s.simples d.simple ≡ Some t) (taken : IsTaken (left xs) (attribute_in (parts_of s) d)) where
    space-is : space_at (parts_of s) d.simple ≡ space_of t.space
    space-is = ap (λ o. elim o as (λ _. Space) [ None ↦ Booleans | Some x ↦ x.space ]) (found-in s.simples d.simple t found)

    pub one : Takes (attribute_in (parts_of s) d) words
    one = taken words (own-text (Some words) stands)

    pub text-accepted : Accepts (space_of t.space) words one.0
    text-accepted = subst (λ z. Accepts z words one.0) space-is one.1

    pub text-sound : IsLinked s → Sound (space_of t.space)
    text-sound linked = (all-at IsSimpleType s.simples d.simple t found linked.simples).1

    -- whether it says nothing by the text
    abbrev pub Says : Bool → Type 0
    Says nothing = (v : Rose ValueLabel) → Accepts (space_of t.space) words v → nothing ≡ (not d.required && has_spelling d.standard (spelled (space_of t.space) v))

    silent-is : (nothing : Bool) → Says nothing → is-silent (attribute_in (parts_of s) d) one.0 ≡ nothing
    silent-is nothing says = sym (says one.0 text-accepted ∙ ap (λ z. not d.required && has_spelling d.standard (spelled z one.0)) (sym space-is))

    pub attribute-silent : Says true → AttributesMade (attribute_in (parts_of s) d ∷ []) (left xs) (false ∷ []) []
    attribute-silent says = (silent-out (attribute_in (parts_of s) d) (left xs) words (own-text (Some words) stands) one.0 one.1 (silent-is true says), (refl, refl))

    pub attribute-present : Says false → (v : Rose ValueLabel) → Accepts (space_of t.space) words v → AttributesMade (attribute_in (parts_of s) d ∷ []) (left xs) (true ∷ []) (v ∷ [])
    attribute-present says v accepts =
        let same : one.0 ≡ v = only-value (reads (space_of t.space) words) one.0 v text-accepted accepts in
        (subst (λ w. IsPut (left xs) (attribute_in (parts_of s) d) w) same (spoken-put (attribute_in (parts_of s) d) (left xs) words (own-text (Some words) stands) one (silent-is false says)), (refl, refl))

    -- it isn't refused
    pub never-refused : (why : Refusal) → reads (space_of t.space) words ≡ Err why → ⊥
    never-refused why refused = refused-never (reads (space_of t.space) words) one.0 why text-accepted refused

-- ---- all of them, whether they are put down or not

one-more : (a : Attribute) (us : List Attribute) (xs : List (Name × List ℕ)) (f : List Bool) (v : List (Rose ValueLabel)) → IsTaken xs a → AttributesMade us xs f v → (o : Option (List ℕ)) → text_of xs a.name ≡ o
    → (flags : List Bool) × (vs : List (Rose ValueLabel)) × AttributesMade (a ∷ us) xs flags vs
one-more a us xs f v taken made None e = (false ∷ f, v, (none-out a xs e, made))
one-more a us xs f v taken made (Some words) e = by (is-silent a one.0) refl
  where
    one : Takes a words
    one = taken words e

    by : (b : Bool) → is-silent a one.0 ≡ b → (flags : List Bool) × (vs : List (Rose ValueLabel)) × AttributesMade (a ∷ us) xs flags vs
    by true silent = (false ∷ f, v, (silent-out a xs words e one.0 one.1 silent, made))
    by false spoken = (true ∷ f, one.0 ∷ v, (spoken-put a xs words e one spoken, made))

pub uses-made : (s : Set) (xs : List (Name × List ℕ)) (us : List AttributeUse) → AreTaken s xs us → (flags : List Bool) × (vs : List (Rose ValueLabel)) × AttributesMade (map (attribute_in (parts_of s)) us) (left xs) flags vs
uses-made s xs [] h = ([], [], (refl, refl))
uses-made s xs (u ∷ us) h =
    let rest = uses-made s xs us (All-tail (λ w. IsTaken (left xs) (attribute_in (parts_of s) w)) u us h) in
    let own = attribute_in (parts_of s) u in
    one-more own (map (attribute_in (parts_of s)) us) (left xs) rest.0 rest.1 (All-head (λ w. IsTaken (left xs) (attribute_in (parts_of s) w)) u us h) rest.2 (text_of (left xs) own.name) refl

-- ---- each takes its text

all-of-map : {U : Type 0} (f : U → Attribute) (P : Attribute → Type 0) (us : List U) → All P (map f us) → All (λ u. P (f u)) us
all-of-map f P [] h = All-nil (λ u. P (f u))
all-of-map f P (u ∷ us) h = All-cons (λ v. P (f v)) u us (All-head P (f u) (map f us) h) (all-of-map f P us (All-tail P (f u) (map f us) h))

taken-each : (wanted : List Attribute) (xs : List (Name × List ℕ)) → AllRight wanted xs → (us : List Attribute) → All (λ a. declared wanted a.name ≡ Some a) us → All (IsTaken xs) us
taken-each wanted xs right [] h = All-nil (IsTaken xs)
taken-each wanted xs right (a ∷ us) h =
    All-cons (IsTaken xs) a us
    (λ words e. subst (λ o. elim o as (λ _. Type 0) [ None ↦ ⊥ | Some b ↦ Takes b words ]) (All-head (λ b. declared wanted b.name ≡ Some b) a us h) (text_right xs wanted a.name xs words right e))
    (taken-each wanted xs right us (All-tail (λ b. declared wanted b.name ≡ Some b) a us h))

pub all-taken : (s : Set) → IsLinked s → (d : ℕ) (a : Asked) → a ≡ asked_at (parts_of s) d → (us : List AttributeUse) → a.attributes ≡ map (attribute_in (parts_of s)) us → (ys : List (Name × List ℕ)) → AllRight a.attributes (left ys) → AreTaken s ys us
all-taken s linked d a asked_is us uses_are ys right =
    let fair : IsFair a = subst IsFair (sym asked_is) (fair_at s linked d) in
    all-of-map (attribute_in (parts_of s)) (IsTaken (left ys)) us
    (subst (λ z. All (IsTaken (left ys)) z) uses_are (taken-each a.attributes (left ys) right a.attributes (declared_each a.attributes fair.apart)))
