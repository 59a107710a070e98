-- The names of declared elements and attributes may stand in a document, and so may `xsi:nil`, which is none of them.
use Rattle.std.proofs.Common.{◌≡◌, ◌&&◌, ◌||◌, not, Bool, true, false, List, [], ◌∷◌, refl, ap}
use Rattle.std.specs.Prelude.{bytes_eq, codes, All}
use Rattle.std.specs.List.{list_any, list_all}
use Rattle.std.specs.Str.{chars, is_utf8}
use Rattle.std.proofs.lemmas.List.Elements.{All-head, All-tail}
use Rattle.std.proofs.lemmas.Slice.Eq.{bytes_eq-Decides}
use Rattle.std.proofs.Math.Utf8.{encode}
use Rattle.base_texts.specs.declared.texts.Name.{Name}
use Rattle.base_texts.specs.Characters.{is_xml_char, is_name_start, is_name_char}
use Rattle.base_texts.specs.Limits.{is_namespace, is_name_part, is_xmlns}
use Rattle.base_texts.specs.Names.{name_eq}
use Rattle.base_texts.specs.Namespaces.{xmlns_space, xsi_space}
use Rattle.base_texts.proofs.NameLaws.{name_eq-Decides}
use Rattle.xml_read.specs.Sound.{is_sound_space, is_sound_name}
use Rattle.schema_components.specs.declared.components.AttributeUse.{AttributeUse}
use Rattle.schema_components.specs.Components.{Set}
use Rattle.schema_components.specs.Declarable.{kept_spaces, is_declarable, is_declarable_attribute}
use Rattle.schema_components.specs.Linked.{IsUse}
use Rattle.schema_components.proofs.Truths.{both}
use Rattle.validity_rules.specs.Attributes.{xsi_nil}
use Rattle.validity_rules.proofs.Treated.{both_false}
use Rattle.value_laws.proofs.Walking.{Apart}

not-true : (b : Bool) → not b ≡ true → b ≡ false
not-true true e = absurd (cc)
not-true false e = refl

both-true : (a b : Bool) → a ≡ true → b ≡ true → (a && b) ≡ true
both-true true b e f = f
both-true false b e f = absurd (cc)

-- a declared name is in neither namespace that is kept
pub other-spaces : (n : Name) → is_declarable n ≡ true → (bytes_eq n.space xmlns_space ≡ false) × (bytes_eq n.space xsi_space ≡ false)
other-spaces n h =
    let last = both (is_namespace n.space && is_name_part n.local) (not (list_any (bytes_eq n.space) kept_spaces)) h in
    let first = both_false (bytes_eq n.space xmlns_space) (bytes_eq n.space xsi_space || false) (not-true (list_any (bytes_eq n.space) kept_spaces) last.1) in
    (first.0, (both_false (bytes_eq n.space xsi_space) false first.1).0)

pub sound-name : (n : Name) → is_declarable n ≡ true → is_sound_name n ≡ true
sound-name n h =
    let parts = (both (is_namespace n.space && is_name_part n.local) (not (list_any (bytes_eq n.space) kept_spaces)) h).0 in
    let each = both (is_namespace n.space) (is_name_part n.local) parts in
    let other : not (bytes_eq n.space xmlns_space) ≡ true = ap not (other-spaces n h).0 in
    both-true (is_sound_space n.space) (is_name_part n.local) (both-true (is_namespace n.space) (not (bytes_eq n.space xmlns_space)) each.0 other) each.1

-- ---- attributes

pub use-name : (n : Name) → is_declarable_attribute n ≡ true → (is_sound_name n ≡ true) × (is_xmlns n ≡ false)
use-name n h = let each = both (is_declarable n) (not (is_xmlns n)) h in (sound-name n each.0, not-true (is_xmlns n) each.1)

not-nil : (n : Name) → is_declarable_attribute n ≡ true → n ≡ xsi_nil → ⊥
not-nil n h e =
    let other = (other-spaces n (both (is_declarable n) (not (is_xmlns n)) h).0).1 in
    let same = (bytes_eq-Decides n.space xsi_space).1 (ap (λ (m : Name). m.space) e) in
    cc (other, same)

pub nil-apart : (s : Set) (ds : List AttributeUse) → All (IsUse s) ds → Apart xsi_nil ds
nil-apart s [] h = tt
nil-apart s (d ∷ ds) h = (not-nil d.name (All-head (IsUse s) d ds h).0, nil-apart s ds (All-tail (IsUse s) d ds h))

pub other-name : (a b : Name) → (a ≡ b → ⊥) → name_eq a b ≡ false
other-name a b f = by (name_eq a b) refl
  where
    by : (r : Bool) → name_eq a b ≡ r → name_eq a b ≡ false
    by true e = absurd (f ((name_eq-Decides a b).0 e))
    by false e = e

-- ---- `xsi:nil`

pub nil-sound : is_sound_name xsi_nil ≡ true
unfolding is_utf8 chars encode is_xml_char is_name_start is_name_char
nil-sound = refl

pub true-characters : list_all is_xml_char (chars (codes "true")) ≡ true
unfolding chars encode is_xml_char
true-characters = refl
