-- How values are spelled by their types.
use Rattle.std.proofs.Common.{◌≡◌, ℕ, zero, suc, ◌<◌, ◌≤◌, Option, Some, None, List, [], ◌∷◌, length, refl, sym, ◌∙◌, ap, subst, arith}
use Rattle.std.specs.Prelude.{slice_get, map}
use Rattle.std.specs.List.{join_with_byte}
use Rattle.base_trees.specs.Rose.{Rose, node, roses_of, label_of, kids_of, node_count, count_all, Allowed, AllowedAll}
use Rattle.base_trees.proofs.Roses.{roses_of-list_of, allowed-label}
use Rattle.simple_types.specs.declared.labels.ValueLabel.{ValueLabel}
use Rattle.simple_types.specs.Space.{Space, Booleans, Wholes, Numbers, Words, Characters, ListOf, UnionOf}
use Rattle.simple_types.specs.Reading.{spelled, spelled_by, spelled_boolean, spelled_whole, spelled_number, spelled_word, spelled_text, choice_at, spelled_choice}
use Rattle.asn_types.specs.declared.types.Component.{Component}
use Rattle.asn_types.specs.declared.types.Form.{Form}
use Rattle.asn_types.specs.declared.types.Form.TheVariants as form
use Rattle.asn_types.specs.declared.types.TypeLabel.{TypeLabel}
use Rattle.asn_types.specs.Marks.{white_space_of}
use Rattle.asn_types.specs.Parts.{MayHave, parts_of}
use Rattle.asn_types.specs.Spaces.{space_at, spaces_at, first_space}

-- by the form of the type
module _ (t : Rose TypeLabel) where
  abbrev space_with : Form → Space
  space_with f = elim f [
    | form.Bool ↦ Booleans
    | form.Int least greatest ↦ Wholes least greatest
    | form.Numbers numbers ↦ Numbers numbers
    | form.Words identifiers words ↦ Words (white_space_of (label_of t).marks) words
    | form.Order identifiers ↦ Booleans
    | form.Utf8 least most class ↦ Characters (white_space_of (label_of t).marks) least most class
    | form.SequenceOf part least most ↦ ListOf (first_space (roses_of (kids_of t))) least most
    | form.Choice parts ↦ UnionOf (spaces_at (roses_of (kids_of t)))
    | form.Sequence parts ↦ Booleans
    | form.Ref to ↦ Booleans
  ]

space-is : (t : Rose TypeLabel) → space_at t ≡ space_with t (label_of t).form
space-is (node l ts) = ap (λ us. space_at (node l us)) (sym (roses_of-list_of ts))

first-is : (ts : List (Rose TypeLabel)) (item : Rose TypeLabel) → slice_get ts 0 ≡ Some item → first_space (roses_of ts) ≡ space_at item
first-is [] item got = absurd (cc)
first-is (t ∷ ts) item got = let same : t ≡ item = cc in ap space_at same

module _ (t : Rose TypeLabel) (v : Rose ValueLabel) where
  by_form : (f : Form) → (label_of t).form ≡ f → spelled (space_at t) v ≡ spelled (space_with t f) v
  by_form f is = ap (λ s. spelled s v) (space-is t ∙ ap (space_with t) is)

  pub spelled-Bool : (label_of t).form ≡ form.Bool → spelled (space_at t) v ≡ spelled_boolean (label_of v)
  unfolding spelled
  spelled-Bool is = by_form form.Bool is

  pub spelled-Int : (least greatest : _) → (label_of t).form ≡ form.Int least greatest → spelled (space_at t) v ≡ spelled_whole (label_of v)
  unfolding spelled
  spelled-Int least greatest is = by_form (form.Int least greatest) is

  pub spelled-Numbers : (numbers : _) → (label_of t).form ≡ form.Numbers numbers → spelled (space_at t) v ≡ spelled_number numbers (label_of v)
  unfolding spelled
  spelled-Numbers numbers is = by_form (form.Numbers numbers) is

  pub spelled-Words : (identifiers words : _) → (label_of t).form ≡ form.Words identifiers words → spelled (space_at t) v ≡ spelled_word words (label_of v)
  unfolding spelled
  spelled-Words identifiers words is = by_form (form.Words identifiers words) is

  pub spelled-Utf8 : (least most class : _) → (label_of t).form ≡ form.Utf8 least most class → spelled (space_at t) v ≡ spelled_text (label_of v)
  unfolding spelled
  spelled-Utf8 least most class is = by_form (form.Utf8 least most class) is

  pub spelled-Order : (identifiers : _) → (label_of t).form ≡ form.Order identifiers → spelled (space_at t) v ≡ spelled_boolean (label_of v)
  unfolding spelled
  spelled-Order identifiers is = by_form (form.Order identifiers) is

  pub spelled-Sequence : (parts : _) → (label_of t).form ≡ form.Sequence parts → spelled (space_at t) v ≡ spelled_boolean (label_of v)
  unfolding spelled
  spelled-Sequence parts is = by_form (form.Sequence parts) is

  pub spelled-Ref : (to : _) → (label_of t).form ≡ form.Ref to → spelled (space_at t) v ≡ spelled_boolean (label_of v)
  unfolding spelled
  spelled-Ref to is = by_form (form.Ref to) is

  pub spelled-SequenceOf : (part least most : _) (item : Rose TypeLabel) → (label_of t).form ≡ form.SequenceOf part least most → slice_get (kids_of t) 0 ≡ Some item
      → spelled (space_at t) v ≡ join_with_byte 0x20 (map (spelled (space_at item)) (kids_of v))
  unfolding spelled
  spelled-SequenceOf part least most item is got =
      by_form (form.SequenceOf part least most) is ∙ ap (λ s. join_with_byte 0x20 (map (spelled s) (kids_of v))) (first-is (kids_of t) item got)

  pub spelled-Choice : (parts : _) → (label_of t).form ≡ form.Choice parts → spelled (space_at t) v ≡ spelled (UnionOf (spaces_at (roses_of (kids_of t)))) v
  spelled-Choice parts is = by_form (form.Choice parts) is

pub spelled-union : (members : List (Rose TypeLabel)) (v : Rose ValueLabel)
    → spelled (UnionOf (spaces_at (roses_of members))) v ≡ spelled_choice (spelled_by (spaces_at (roses_of members))) (choice_at (label_of v) (kids_of v))
unfolding spelled spelled_by
spelled-union members v = refl

pub by-member : (members : List (Rose TypeLabel)) (i : ℕ) (member : Rose TypeLabel) (v : Rose ValueLabel) → slice_get members i ≡ Some member
    → spelled_by (spaces_at (roses_of members)) i v ≡ spelled (space_at member) v
unfolding spelled spelled_by
by-member [] i member v got = absurd (cc)
by-member (m ∷ ms) zero member v got = let same : m ≡ member = cc in ap (λ x. spelled (space_at x) v) same
by-member (m ∷ ms) (suc i) member v got = by-member ms i member v got

pub by-none : (members : List (Rose TypeLabel)) (i : ℕ) (v : Rose ValueLabel) → slice_get members i ≡ None → spelled_by (spaces_at (roses_of members)) i v ≡ []
unfolding spelled spelled_by
by-none [] i v past = refl
by-none (m ∷ ms) zero v past = absurd (cc)
by-none (m ∷ ms) (suc i) v past = by-none ms i v past

-- ---- kids of a type

pub has-item : (t : Rose TypeLabel) (part : Component) (least : ℕ) (most : Option ℕ) → (label_of t).form ≡ form.SequenceOf part least most → Allowed MayHave t → 0 < length (kids_of t)
has-item t part least most is allowed = let e : length (kids_of t) ≡ 1 = allowed-label MayHave t allowed ∙ ap (λ f. length (parts_of f)) is in omega (arith, e)

pub member-count : (ts : List (Rose TypeLabel)) (i : ℕ) (t : Rose TypeLabel) → slice_get ts i ≡ Some t → node_count t ≤ count_all (roses_of ts)
member-count [] i t got = absurd (cc)
member-count (u ∷ us) zero t got = let same : u ≡ t = cc in let e = ap node_count same in omega (arith, e)
member-count (u ∷ us) (suc i) t got = omega (arith, member-count us i t got)

pub member-allowed : (ts : List (Rose TypeLabel)) (i : ℕ) (t : Rose TypeLabel) → slice_get ts i ≡ Some t → AllowedAll MayHave (roses_of ts) → Allowed MayHave t
member-allowed [] i t got h = absurd (cc)
member-allowed (u ∷ us) zero t got h = let same : u ≡ t = cc in subst (Allowed MayHave) same h.0
member-allowed (u ∷ us) (suc i) t got h = member-allowed us i t got h.1
