-- How spellings are put together.
use Rattle.std.proofs.Common.{true, false, ltb, Option, ℤ, ◌≡◌, ℕ, zero, suc, ◌≤◌, List, [], ◌∷◌, ◌++◌, refl, sym, ap, ◌∙◌, arith, Some, None, length, get_or, append_assoc}
use Rattle.std.specs.Prelude.{map, slice_get}
use Rattle.std.specs.List.{join_with_byte}
use Rattle.std.proofs.lemmas.List.{append-nil}
use Rattle.std.proofs.lemmas.Option.{none-some, same_Some}
use Rattle.std.proofs.lemmas.Bool.{ltb-true, ltb-false, lt-ltb, le-ltb}
use Rattle.simple_types.specs.declared.labels.ValueLabel.TheVariants as label
use Rattle.base_trees.specs.Rose.{Rose, label_of, kids_of}
use Rattle.simple_types.specs.declared.labels.ValueLabel.{ValueLabel}
use Rattle.simple_types.specs.declared.simples.Simple.{Simple}
use Rattle.simple_types.specs.declared.simples.Simple.TheVariants as variant
use Rattle.simple_types.specs.Space.{Space, Spaces, ListOf, UnionOf, count_parts, count_all_parts}
use Rattle.simple_types.specs.Seen.{space_of, spaces_in}
use Rattle.simple_types.specs.Reading.{spelled, spelled_by, spelled_boolean, spelled_whole, spelled_number, spelled_word, spelled_text, choice_at, spelled_choice}

-- what stands behind the first piece
abbrev pub behind : List (List ℕ) → List ℕ
behind [] = []
behind (x ∷ xs) = 0x20 ∷ (x ++ behind xs)

pub join-behind : (x : List ℕ) (xs : List (List ℕ)) → join_with_byte 0x20 (x ∷ xs) ≡ x ++ behind xs
join-behind x [] = sym (append-nil x)
join-behind x (y ∷ ys) = ap (λ l. x ++ 0x20 ∷ l) (join-behind y ys)

-- one more item is written
pub behind_more : {X : Type 0} (spell : X → List ℕ) (value : X) (later : List X) (out : List ℕ)
    → ((out ++ 0x20 ∷ []) ++ spell value) ++ behind (map spell later) ≡ out ++ behind (map spell (value ∷ later))
behind_more spell value later out =
    append_assoc (out ++ 0x20 ∷ []) (spell value) (behind (map spell later)) ∙ append_assoc out (0x20 ∷ []) (spell value ++ behind (map spell later))

-- what `get` finds
pub found_at : {X : Type 0} (xs : List X) (i : ℕ) (x : X) → true ≡ ltb i (length xs) → x ≡ get_or xs i x → slice_get xs i ≡ Some x
found_at [] i x within is = absurd (let below = ltb-true i 0 (sym within) in omega arith)
found_at (y ∷ ys) zero x within is = ap Some (sym is)
found_at (y ∷ ys) (suc i) x within is = found_at ys i x (let below = ltb-true (suc i) (suc (length ys)) (sym within) in sym (lt-ltb i (length ys) (omega arith))) is

pub missed_at : {X : Type 0} (xs : List X) (i : ℕ) → false ≡ ltb i (length xs) → slice_get xs i ≡ None
missed_at [] i past = refl
missed_at (y ∷ ys) zero past = absurd (let no_less = ltb-false 0 (suc (length ys)) (sym past) in omega arith)
missed_at (y ∷ ys) (suc i) past = missed_at ys i (let no_less = ltb-false (suc i) (suc (length ys)) (sym past) in sym (le-ltb i (length ys) (omega arith)))

pub first_chosen : (i : ℕ) (values : List (Rose ValueLabel)) (value : Rose ValueLabel) → slice_get values 0 ≡ Some value → choice_at (label.Choice i) values ≡ Some (i, value)
first_chosen i [] value found = absurd (none-some _ found)
first_chosen i (v ∷ vs) value found = ap (λ x. Some (i, x)) (same_Some _ _ found)

pub none_chosen : (l : ValueLabel) (values : List (Rose ValueLabel)) → slice_get values 0 ≡ None → choice_at l values ≡ None
none_chosen (label.Choice i) [] e = refl
none_chosen (label.Choice i) (v ∷ vs) e = absurd (none-some _ (sym e))
none_chosen (label.Bool b) values e = refl
none_chosen (label.Int n) values e = refl
none_chosen (label.Enum i) values e = refl
none_chosen (label.Utf8 text) values e = refl
none_chosen (label.Sequence present) values e = refl
none_chosen label.SequenceOf values e = refl

pub spelled_by_none : (members : List Simple) (i : ℕ) (value : Rose ValueLabel) → slice_get members i ≡ None → spelled_by (spaces_in members) i value ≡ []
unfolding spelled spelled_by
spelled_by_none [] i value found = refl
spelled_by_none (s ∷ ss) zero value found = absurd (none-some _ (sym found))
spelled_by_none (s ∷ ss) (suc i) value found = spelled_by_none ss i value found

module _ (member : Simple) where
  -- the spelling by the member that is found at its number
  pub spelled_by_member : (members : List Simple) (i : ℕ) (value : Rose ValueLabel) → slice_get members i ≡ Some member
      → spelled_by (spaces_in members) i value ≡ spelled (space_of member) value
  unfolding spelled spelled_by
  spelled_by_member [] i value found = absurd (none-some _ found)
  spelled_by_member (s ∷ ss) zero value found = ap (λ m. spelled (space_of m) value) (same_Some _ _ found)
  spelled_by_member (s ∷ ss) (suc i) value found = spelled_by_member ss i value found

  pub member_parts : (members : List Simple) (i : ℕ) → slice_get members i ≡ Some member → count_parts (space_of member) ≤ count_all_parts (spaces_in members)
  member_parts [] i found = absurd (none-some _ found)
  member_parts (s ∷ ss) zero found = let same : s ≡ member = same_Some _ _ found in rw same (omega arith)
  member_parts (s ∷ ss) (suc i) found = let below = member_parts ss i found in omega arith

-- what is spelled of each kind of type
module _ (s : Simple) (value : Rose ValueLabel) where
  pub spelled-Bool : s ≡ variant.Bool → spelled (space_of s) value ≡ spelled_boolean (label_of value)
  unfolding space_of spelled
  spelled-Bool is = rw is refl

  pub spelled-Whole : {lo hi : _} → s ≡ variant.Whole lo hi → spelled (space_of s) value ≡ spelled_whole (label_of value)
  unfolding space_of spelled
  spelled-Whole is = rw is refl

  pub spelled-Numbers : (numbers : List ℤ) → s ≡ variant.Numbers numbers → spelled (space_of s) value ≡ spelled_number numbers (label_of value)
  unfolding space_of spelled
  spelled-Numbers numbers is = rw is refl

  pub spelled-Words : {how : _} (words : List (List ℕ)) → s ≡ variant.Words how words → spelled (space_of s) value ≡ spelled_word words (label_of value)
  unfolding space_of spelled
  spelled-Words words is = rw is refl

  pub spelled-Chars : {how min max class : _} → s ≡ variant.Chars how min max class → spelled (space_of s) value ≡ spelled_text (label_of value)
  unfolding space_of spelled
  spelled-Chars is = rw is refl

pub spelled-ListOf : (item : Space) (least : ℕ) (most : Option ℕ) (value : Rose ValueLabel)
    → spelled (ListOf item least most) value ≡ join_with_byte 0x20 (map (spelled item) (kids_of value))
unfolding spelled
spelled-ListOf item least most value = refl

pub spelled-UnionOf : (members : Spaces) (value : Rose ValueLabel) → spelled (UnionOf members) value ≡ spelled_choice (spelled_by members) (choice_at (label_of value) (kids_of value))
unfolding spelled spelled_by
spelled-UnionOf members value = refl
