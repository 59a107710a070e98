-- Contents that are octets.
use Rattle.std.proofs.Common.{◌≡◌, ℕ, ◌≤◌, Bool, true, false, eqb, not, ◌&&◌, ◌||◌, ℤ, Option, Some, None, List, [], ◌∷◌, length, drop, get_or, refl, sym, ap, ◌∙◌, subst, arith, Result, Ok, Err, IfOk, IfErr, ◌⊎◌, inl, inr}
use Rattle.std.proofs.lemmas.Bool.{ne_eqb}
use Rattle.std.proofs.lemmas.Str.{IsUtf8-from_is_utf8, is_utf8-from_IsUtf8}
use Rattle.std.specs.Str.{IsUtf8, is_utf8}
use Rattle.base_trees.specs.Rose.{Rose}
use Rattle.simple_types.specs.declared.labels.ValueLabel.{ValueLabel}
use Rattle.simple_types.specs.declared.labels.ValueLabel.TheVariants as value
use Rattle.simple_types.specs.Labels.{MayHave}
use Rattle.simple_types.specs.declared.simples.Class.{Class}
use Rattle.simple_types.specs.Lexical.{is_from, is_to}
use Rattle.asn_types.specs.declared.types.Form.{Form}
use Rattle.asn_types.specs.declared.types.Form.TheVariants as form
use Rattle.per_fields.specs.Nodes.{is_no_text}
use Rattle.per_fields.specs.Owning.{owns}
use Rattle.base_codecs.specs.declared.spots.Spot.{Spot}
use Rattle.base_codecs.specs.Reading.{◌>>=◌, stop_if, with_spot}
use Rattle.base_codecs.proofs.Codecs.{stop_not}
use Rattle.der_fields.specs.declared.stops.Stop.{Stop}
use Rattle.der_fields.specs.declared.stops.Why.TheVariants.{Content, Range, NotUtf8, NotAValue}
use Rattle.der_fields.specs.FieldsReading.{stop_at}
use Rattle.der_fields.specs.Reading.{leaf_of, bool_of, bool_at, whole_at, int_of, int_at, item_with, item_of, item_at, enum_at, text_at, contents_at, owned_at}
use Rattle.der_decode.specs.declared.faults.DerEnd.{DerEnd}
use Rattle.der_decode.specs.declared.faults.DerEnd.TheVariants as fault
use Rattle.der_decode.specs.Private.Leaves.{IsLeaf, IsPlain, end_of, Reads, ReadsLeaf, IsLeafAt, StopsLeaf}
use Rattle.der_decode.proofs.Windows.{stop_so}
use Rattle.der_decode.proofs.Filling.{left_is}

module _ (X : List ℕ) (s : Spot) (inside : s.at ≤ length X) where
  bool_from : (xs : List ℕ) → drop s.at X ≡ xs → bool_at X s ≡ bool_of s (xs, end_of X s)
  unfolding bool_at
  bool_from xs e = ap (λ r. r >>= bool_of s) (left_is X s inside) ∙ ap (λ ys. bool_of s (ys, end_of X s)) e

  one : (xs : List ℕ) → length xs ≡ 1 → xs ≡ get_or xs 0 0 ∷ []
  one [] e = absurd (omega (arith, e))
  one (x ∷ []) e = refl
  one (x ∷ y ∷ ys) e = absurd (omega (arith, e))

  -- BOOLEAN
  pub bool_many : (length (drop s.at X) ≡ 1 → ⊥) → bool_at X s ≡ Err (stop_at s.at Content)
  bool_many other = bool_from (drop s.at X) refl ∙ by (drop s.at X) other
    where
      by : (xs : List ℕ) → (length xs ≡ 1 → ⊥) → bool_of s (xs, end_of X s) ≡ Err (stop_at s.at Content)
      by [] h = refl
      by (x ∷ []) h = absurd (h refl)
      by (x ∷ y ∷ ys) h = refl

  module _ (x : ℕ) (alone : length (drop s.at X) ≡ 1) (is : get_or (drop s.at X) 0 0 ≡ x) where
    bool_one : bool_at X s ≡ bool_of s (x ∷ [], end_of X s)
    bool_one = bool_from (x ∷ []) (one (drop s.at X) alone ∙ ap (λ y. y ∷ []) is)

    pub bool_false : x ≡ 0 → bool_at X s ≡ Ok (leaf_of (value.Bool false), end_of X s)
    bool_false same = bool_one ∙ ap (λ y. bool_of s (y ∷ [], end_of X s)) same

    pub bool_true : x ≡ 255 → bool_at X s ≡ Ok (leaf_of (value.Bool true), end_of X s)
    bool_true same = bool_one ∙ ap (λ y. bool_of s (y ∷ [], end_of X s)) same

    pub bool_other : (x ≡ 0 → ⊥) → (x ≡ 255 → ⊥) → bool_at X s ≡ Err (stop_at s.at Content)
    bool_other a b =
        bool_one
        ∙ stop_so (not (eqb x 0x00 || eqb x 0xFF)) (stop_at s.at Content) (Ok (leaf_of (value.Bool (eqb x 0xFF)), end_of X s)) (neither (eqb x 0) (eqb x 255) (ne_eqb x 0 a) (ne_eqb x 255 b))
      where
        neither : (p q : Bool) → p ≡ false → q ≡ false → not (p || q) ≡ true
        neither p q f g = rw f (ap not g)

-- INTEGER
module _ (least greatest : Option ℤ) (X : List ℕ) (s : Spot) where
  pub int_is : (z : ℤ) → whole_at X s ≡ Ok (z, end_of X s) → (is_from least z && is_to greatest z) ≡ true → int_at least greatest X s ≡ Ok (leaf_of (value.Int z), end_of X s)
  unfolding int_at
  int_is z e h =
      ap (λ r. r >>= int_of least greatest s) e ∙ stop_not (not (is_from least z && is_to greatest z)) (stop_at s.at Range) (Ok (leaf_of (value.Int z), end_of X s)) (ap not h)

  pub int_range : (z : ℤ) → whole_at X s ≡ Ok (z, end_of X s) → (is_from least z && is_to greatest z) ≡ false → int_at least greatest X s ≡ Err (stop_at s.at Range)
  unfolding int_at
  int_range z e h =
      ap (λ r. r >>= int_of least greatest s) e ∙ stop_so (not (is_from least z && is_to greatest z)) (stop_at s.at Range) (Ok (leaf_of (value.Int z), end_of X s)) (ap not h)

  pub int_stops : (stop : Stop) → whole_at X s ≡ Err stop → int_at least greatest X s ≡ Err stop
  unfolding int_at
  int_stops stop e = ap (λ r. r >>= int_of least greatest s) e

-- ENUMERATED
module _ (f : Form) (X : List ℕ) (s : Spot) where
  abbrev labeled : Result (ℕ × Spot) Stop → Result (Rose ValueLabel × Spot) Stop
  labeled r = r >>= λ i. with_spot (leaf_of (value.Enum i.0)) i.1

  pub enum_is : (z : ℤ) (i : ℕ) → whole_at X s ≡ Ok (z, end_of X s) → item_with f z ≡ Some i → enum_at f X s ≡ Ok (leaf_of (value.Enum i), end_of X s)
  unfolding enum_at item_at
  enum_is z i e h =
      ap (λ r. labeled (r >>= item_of f s)) e ∙ ap (λ o. labeled (elim o as (λ _. Result (ℕ × Spot) Stop) [ None ↦ Err (stop_at s.at Range) | Some j ↦ Ok (j, end_of X s) ])) h

  pub enum_range : (z : ℤ) → whole_at X s ≡ Ok (z, end_of X s) → item_with f z ≡ None → enum_at f X s ≡ Err (stop_at s.at Range)
  unfolding enum_at item_at
  enum_range z e h =
      ap (λ r. labeled (r >>= item_of f s)) e ∙ ap (λ o. labeled (elim o as (λ _. Result (ℕ × Spot) Stop) [ None ↦ Err (stop_at s.at Range) | Some j ↦ Ok (j, end_of X s) ])) h

  pub enum_stops : (stop : Stop) → whole_at X s ≡ Err stop → enum_at f X s ≡ Err stop
  unfolding enum_at item_at
  enum_stops stop e = ap (λ r. labeled (r >>= item_of f s)) e

-- BY THE FORM
pub as_bool : (X : List ℕ) (s : Spot) (result : Result ValueLabel Stop) → Reads bool_at X s result → ReadsLeaf form.Bool X s result
unfolding contents_at
as_bool X s (Ok label) h = λ M kid begin l ts. h
as_bool X s (Err stop) h = λ M kid begin l ts. h

pub as_int : (least greatest : Option ℤ) (X : List ℕ) (s : Spot) (result : Result ValueLabel Stop) → Reads (int_at least greatest) X s result → ReadsLeaf (form.Int least greatest) X s result
unfolding contents_at
as_int least greatest X s (Ok label) h = λ M kid begin l ts. h
as_int least greatest X s (Err stop) h = λ M kid begin l ts. h

-- the forms of an ENUMERATED
abbrev pub IsEnum : Form → Type 0
IsEnum (form.Numbers numbers) = Unit {0}
IsEnum (form.Words identifiers words) = Unit {0}
IsEnum (form.Order identifiers) = Unit {0}
IsEnum _ = ⊥

pub as_enum : (f : Form) → IsEnum f → (X : List ℕ) (s : Spot) (result : Result ValueLabel Stop) → Reads (enum_at f) X s result → ReadsLeaf f X s result
unfolding contents_at
as_enum (form.Numbers numbers) is X s (Ok label) h = λ M kid begin l ts. h
as_enum (form.Numbers numbers) is X s (Err stop) h = λ M kid begin l ts. h
as_enum (form.Words identifiers words) is X s (Ok label) h = λ M kid begin l ts. h
as_enum (form.Words identifiers words) is X s (Err stop) h = λ M kid begin l ts. h
as_enum (form.Order identifiers) is X s (Ok label) h = λ M kid begin l ts. h
as_enum (form.Order identifiers) is X s (Err stop) h = λ M kid begin l ts. h
as_enum form.Bool is X s result h = absurd is
as_enum (form.Int least greatest) is X s result h = absurd is
as_enum (form.Utf8 least most class) is X s result h = absurd is
as_enum (form.Sequence parts) is X s result h = absurd is
as_enum (form.Choice parts) is X s result h = absurd is
as_enum (form.SequenceOf part least most) is X s result h = absurd is
as_enum (form.Ref to) is X s result h = absurd is

-- a stop of the contents is that of the node
pub stops_first : (f : Form) (X : List ℕ) (begin : ℕ) (s : Spot) (stop : Stop) → ReadsLeaf f X s (Err stop) → StopsLeaf f X begin s (fault.Stopped stop)
stops_first f X begin s stop h = λ M kid l ts t. ap (λ r. r >>= owned_at M begin t) (h M kid begin l ts)

-- TEXTS
module _ (least : ℕ) (most : Option ℕ) (class : Class) (X : List ℕ) (s : Spot) (inside : s.at ≤ length X) where
  pub text_is : IsLeafAt (form.Utf8 least most class) X s (value.Utf8 (drop s.at X))
  unfolding contents_at text_at
  text_is M kid begin l ts = ap (λ r. r >>= λ a. with_spot (leaf_of (value.Utf8 a.0)) a.1) (left_is X s inside)

  pub text_stops : (begin : ℕ) → (IsUtf8 (drop s.at X) → ⊥) → StopsLeaf (form.Utf8 least most class) X begin s (fault.Stopped (stop_at begin NotUtf8))
  unfolding owned_at
  text_stops begin wrong M kid l ts t =
      let xs = drop s.at X in
      let v = leaf_of (value.Utf8 xs) in
      ap (λ r. r >>= owned_at M begin t) (text_is M kid begin l ts)
      ∙ stop_so (is_no_text (value.Utf8 xs)) (stop_at begin NotUtf8) (stop_if (not (owns M t v)) (stop_at begin NotAValue) (Ok (v, end_of X s))) (by (is_utf8 xs) (λ e. wrong (IsUtf8-from_is_utf8 xs e)))
    where
      by : (b : Bool) → (b ≡ true → ⊥) → not b ≡ true
      by true h = absurd (h refl)
      by false h = refl

pub is_text : (xs : List ℕ) → IsUtf8 xs → is_no_text (value.Utf8 xs) ≡ false
is_text xs utf8 = ap not (is_utf8-from_IsUtf8 xs utf8)

-- what is told of a text
module _ (f : Form) (X : List ℕ) (begin : ℕ) (s : Spot) (inside : s.at ≤ length X) (least : ℕ) (most : Option ℕ) (class : Class) (is : f ≡ form.Utf8 least most class) where
  abbrev Told : ValueLabel → Type 0
  Told label = (label ≡ value.Utf8 (drop s.at X)) × IsUtf8 (drop s.at X)

  abbrev Faulty : DerEnd → Type 0
  Faulty e = (e ≡ fault.Memory) ⊎ ((e ≡ fault.Stopped (stop_at begin NotUtf8)) × (IsUtf8 (drop s.at X) → ⊥))

  pub text_kids : (r : Result ValueLabel DerEnd) → IfOk r Told → IfOk r (λ label. MayHave label 0)
  text_kids (Ok label) k = subst (λ m. MayHave m 0) (sym k.0) refl
  text_kids (Err e) k = tt

  pub text_tells : (r : Result ValueLabel DerEnd) → IfOk r Told → IfOk r (λ label. is_no_text label ≡ false)
  text_tells (Ok label) k = ap is_no_text k.0 ∙ is_text (drop s.at X) k.1
  text_tells (Err e) k = tt

  pub text_reads : (r : Result ValueLabel DerEnd) → IfOk r Told → IfOk r (λ label. IsLeafAt f X s label)
  text_reads (Ok label) k = subst (λ g. IsLeafAt g X s label) (sym is) (subst (λ m. IsLeafAt (form.Utf8 least most class) X s m) (sym k.0) (text_is least most class X s inside))
  text_reads (Err e) k = tt

  pub text_faults : (r : Result ValueLabel DerEnd) → IfErr r Faulty → IfErr r (λ e. StopsLeaf f X begin s e)
  text_faults (Ok label) k = tt
  text_faults (Err e) k = by k
    where
      by : Faulty e → StopsLeaf f X begin s e
      by (inl full) = subst (λ d. StopsLeaf f X begin s d) (sym full) tt
      by (inr wrong) =
          subst (λ d. StopsLeaf f X begin s d) (sym wrong.0)
          (subst (λ g. StopsLeaf g X begin s (fault.Stopped (stop_at begin NotUtf8))) (sym is) (text_stops least most class X s inside begin wrong.1))

-- what is told of the others
pub plain_stops : (f : Form) (X : List ℕ) (begin : ℕ) (s : Spot) (r : Result ValueLabel Stop) (stop : Stop) → r ≡ Err stop → ReadsLeaf f X s r → StopsLeaf f X begin s (fault.Stopped stop)
plain_stops f X begin s r stop e h = stops_first f X begin s stop (subst (λ q. ReadsLeaf f X s q) e h)

pub plain_reads : (f : Form) (X : List ℕ) (s : Spot) (r : Result ValueLabel Stop) (label : ValueLabel) → r ≡ Ok label → ReadsLeaf f X s r → IsLeafAt f X s label
plain_reads f X s r label e h = subst (λ q. ReadsLeaf f X s q) e h

-- FORMS told apart
pub plain_leaf : (f : Form) → IsPlain f → IsLeaf f
plain_leaf form.Bool h = h
plain_leaf (form.Int least greatest) h = h
plain_leaf (form.Numbers numbers) h = h
plain_leaf (form.Words identifiers words) h = h
plain_leaf (form.Order identifiers) h = h
plain_leaf (form.Utf8 least most class) h = absurd h
plain_leaf (form.Sequence parts) h = h
plain_leaf (form.Choice parts) h = h
plain_leaf (form.SequenceOf part least most) h = h
plain_leaf (form.Ref to) h = h

pub leaf_plain : (f : Form) → IsLeaf f → ((least : ℕ) (most : Option ℕ) (class : Class) → f ≡ form.Utf8 least most class → ⊥) → IsPlain f
leaf_plain form.Bool h other = h
leaf_plain (form.Int least greatest) h other = h
leaf_plain (form.Numbers numbers) h other = h
leaf_plain (form.Words identifiers words) h other = h
leaf_plain (form.Order identifiers) h other = h
leaf_plain (form.Utf8 least most class) h other = absurd (other least most class refl)
leaf_plain (form.Sequence parts) h other = h
leaf_plain (form.Choice parts) h other = h
leaf_plain (form.SequenceOf part least most) h other = h
leaf_plain (form.Ref to) h other = h

pub plain_enum : (f : Form) → IsPlain f → (f ≡ form.Bool → ⊥) → ((least greatest : Option ℤ) → f ≡ form.Int least greatest → ⊥) → IsEnum f
plain_enum form.Bool h a b = absurd (a refl)
plain_enum (form.Int least greatest) h a b = absurd (b least greatest refl)
plain_enum (form.Numbers numbers) h a b = tt
plain_enum (form.Words identifiers words) h a b = tt
plain_enum (form.Order identifiers) h a b = tt
plain_enum (form.Utf8 least most class) h a b = absurd h
plain_enum (form.Sequence parts) h a b = absurd h
plain_enum (form.Choice parts) h a b = absurd h
plain_enum (form.SequenceOf part least most) h a b = absurd h
plain_enum (form.Ref to) h a b = absurd h
