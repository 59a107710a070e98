-- The names that elements of a document without a fault declare.
use Rattle.std.proofs.Common.{◌≡◌, ℕ, Bool, true, false, cond, List, [], ◌∷◌, Option, Some, None, inl, inr, refl, ap, sym, ◌∙◌, subst, ◌&&◌, ◌||◌, not, bytes_eq, codes}
use Rattle.schema_read.proofs.Words.{list_any, list_all, is_some, and_parts, and_from, and_cases, or_parts, and_right, not-false, not-true, not_from_false, cond_both, or_from, both_ways, bytes_eq-Decides, Name, Collapse, is_xml_char, is_ncname, beside, is_empty, has_xml_chars, spells_ncname, is_short_part, is_short_space, is_namespace, is_name_part, is_xmlns, xmlns_space, xsi_space, schema_space, xmlns_prefix, treated, is_sound_name, is_sound_attribute, has_name, are_sound_attributes, kept_spaces, is_declarable, is_declarable_attribute, kept_as_written, in_use, own_attributes, has, is_declared_name, is_target, has_malformed, declares_xmlns, is_crossed, is_no_all, has_bad_value, ElementRole, GlobalAttribute, LocalAttribute, value_or_empty, is_qualified, local_name}
use Rattle.std.specs.Str.{chars, is_utf8}
use Rattle.std.proofs.Math.Utf8.{encode}
use Rattle.schema_syntax.specs.Values.{is_well_formed}
use Rattle.schema_syntax.specs.Values.{is_named}
use Rattle.schema_read.proofs.CollapsedTexts.{collapsed_xml}

-- ---- each value of an attribute

abbrev pub Entries : (List ℕ → List ℕ → Type 0) → List (List ℕ × List ℕ) → Type 0
Entries P [] = Unit {0}
Entries P (a ∷ own) = P a.0 a.1 × Entries P own

pub entry : (P : List ℕ → List ℕ → Type 0) (w v : List ℕ) (own : List (List ℕ × List ℕ)) → Entries P own → beside w own ≡ Some v → P w v
entry P w v [] h is = absurd (cc)
entry P w v (a ∷ own) h is = by (λ found. entry P w v own h.1 found) (bytes_eq a.0 w) refl is
  where
    by : (beside w own ≡ Some v → P w v) → (b : Bool) → bytes_eq a.0 w ≡ b → cond b (Some a.1) (beside w own) ≡ Some v → P w v
    by later true same found =
        let e : a.1 ≡ v = cc in
        subst (λ x. P w x) e (subst (λ n. P n a.1) ((bytes_eq-Decides a.0 w).0 same) h.0)
    by later false same found = later found

-- of a sound element they are XML characters
abbrev pub Texts : List (List ℕ × List ℕ) → Type 0
Texts own = Entries (λ name value. has_xml_chars value ≡ true) own

in_use_xml : (name value : List ℕ) → has_xml_chars value ≡ true → has_xml_chars (in_use name value) ≡ true
in_use_xml name value h =
    cond_both (list_any (bytes_eq name) kept_as_written) value (treated Collapse value) (λ v. has_xml_chars v ≡ true) (λ is. h) (λ is. collapsed_xml value h)

pub own_texts : (attributes : List (Name × List ℕ)) → are_sound_attributes attributes ≡ true → Texts (own_attributes attributes)
own_texts [] h = tt
own_texts (a ∷ rest) h =
    let one = and_parts (is_sound_attribute a && not (has_name a.0 rest)) (are_sound_attributes rest) h in
    let two = and_parts (is_sound_attribute a) (not (has_name a.0 rest)) one.0 in
    let three = and_parts (is_sound_name a.0 && not (is_xmlns a.0)) (has_xml_chars a.1) two.0 in
    cond_both (is_empty a.0.space) ((a.0.local, in_use a.0.local a.1) ∷ own_attributes rest) (own_attributes rest) (λ own. Texts own)
    (λ is. (in_use_xml a.0.local a.1 three.1, own_texts rest one.1)) (λ is. own_texts rest one.1)

-- and without a fault they have their forms
all_formed : (scope own : List (List ℕ × List ℕ)) → has_malformed scope own ≡ false → Entries (λ name value. is_well_formed scope name value ≡ true) own
all_formed scope [] h = tt
all_formed scope (a ∷ own) h =
    let two = or_parts (not (is_well_formed scope a.0 a.1)) (has_malformed scope own) h in
    (not-false (is_well_formed scope a.0 a.1) two.0, all_formed scope own two.1)

formed_name : (scope : List (List ℕ × List ℕ)) (v : List ℕ) → is_well_formed scope (codes "name") v ≡ true → is_declared_name v ≡ true
unfolding is_well_formed
formed_name scope v h = h

formed_target : (scope : List (List ℕ × List ℕ)) (v : List ℕ) → is_well_formed scope (codes "targetNamespace") v ≡ true → is_target v ≡ true
unfolding is_well_formed
formed_target scope v h = h

well_formed : (role : ElementRole) (scope own : List (List ℕ × List ℕ)) → has_bad_value role scope own ≡ false → Entries (λ name value. is_well_formed scope name value ≡ true) own
well_formed role scope own good =
    all_formed scope own (or_parts (has_malformed scope own) (declares_xmlns role own) (or_parts (has_malformed scope own || declares_xmlns role own) (is_crossed own) (or_parts (has_malformed scope own || declares_xmlns role own || is_crossed own) (is_no_all role own) good).0).0).0

-- ---- a name that is declared

name_fine : (scope own : List (List ℕ × List ℕ)) (o : Option (List ℕ)) → beside (codes "name") own ≡ o → Texts own
    → Entries (λ name value. is_well_formed scope name value ≡ true) own → has (codes "name") own ≡ true → is_name_part (elim o [ None ↦ [] | Some value ↦ value ]) ≡ true
name_fine scope own None is texts forms there = absurd (let e : false ≡ true = ap (λ found. elim found [ None ↦ false | Some value ↦ true ]) (sym is) ∙ there in cc)
name_fine scope own (Some v) is texts forms there =
    let xml = entry (λ name value. has_xml_chars value ≡ true) (codes "name") v own texts is in
    let form = formed_name scope v (entry (λ name value. is_well_formed scope name value ≡ true) (codes "name") v own forms is) in
    let two = and_parts (is_ncname (chars v)) (is_short_part v) form in
    and_from (spells_ncname v) (is_short_part v) (and_from (is_utf8 v) (is_ncname (chars v)) (and_parts (is_utf8 v) (list_all is_xml_char (chars v)) xml).0 two.0) two.1

pub own_name : (role : ElementRole) (scope own : List (List ℕ × List ℕ)) → has_bad_value role scope own ≡ false → Texts own → has (codes "name") own ≡ true
    → is_name_part (value_or_empty (codes "name") own) ≡ true
own_name role scope own good texts there =
    name_fine scope own (beside (codes "name") own) refl texts (well_formed role scope own good) there

-- ---- a namespace of declared names

pub record IsSpace (space : List ℕ) : Type 0 where
  pub within : is_namespace space ≡ true
  pub free : list_any (bytes_eq space) kept_spaces ≡ false

pub no_space : IsSpace []
unfolding is_utf8 chars encode
no_space = record { within = refl; free = refl }

space_by : (scope own : List (List ℕ × List ℕ)) (o : Option (List ℕ)) → beside (codes "targetNamespace") own ≡ o → Texts own
    → Entries (λ name value. is_well_formed scope name value ≡ true) own → IsSpace (elim o [ None ↦ [] | Some value ↦ value ])
space_by scope own None is texts forms = no_space
space_by scope own (Some v) is texts forms =
    let xml = entry (λ name value. has_xml_chars value ≡ true) (codes "targetNamespace") v own texts is in
    let form = formed_target scope v (entry (λ name value. is_well_formed scope name value ≡ true) (codes "targetNamespace") v own forms is) in
    let a = not (is_empty v) in
    let b = is_short_space v in
    let c = not (bytes_eq v schema_space) in
    let d = not (bytes_eq v xsi_space) in
    let e = not (bytes_eq v xmlns_space) in
    let one = and_parts (a && b && c && d) e form in
    let two = and_parts (a && b && c) d one.0 in
    let three = and_parts (a && b) c two.0 in
    let four = and_parts a b three.0 in
    record {
      within = and_from (has_xml_chars v) b xml four.1;
      free = or_from (bytes_eq v xmlns_space) (bytes_eq v xsi_space || false) (not-true (bytes_eq v xmlns_space) one.1) (or_from (bytes_eq v xsi_space) false (not-true (bytes_eq v xsi_space) two.1) refl);
    }

pub own_space : (role : ElementRole) (scope own : List (List ℕ × List ℕ)) → has_bad_value role scope own ≡ false → Texts own → IsSpace (value_or_empty (codes "targetNamespace") own)
own_space role scope own good texts = space_by scope own (beside (codes "targetNamespace") own) refl texts (well_formed role scope own good)

pub local_space : (target : List ℕ) (default : Bool) (own : List (List ℕ × List ℕ)) → IsSpace target → IsSpace (local_name target default own).space
local_space target default own h = cond_both (is_qualified (codes "form") own default) target [] IsSpace (λ is. h) (λ is. no_space)

-- ---- both

pub may_be_declared : (name : Name) → IsSpace name.space → is_name_part name.local ≡ true → is_declarable name ≡ true
may_be_declared name space part =
    and_from (is_namespace name.space && is_name_part name.local) (not (list_any (bytes_eq name.space) kept_spaces))
    (and_from (is_namespace name.space) (is_name_part name.local) space.within part) (not_from_false (list_any (bytes_eq name.space) kept_spaces) space.free)

-- an attribute isn't named `xmlns`
abbrev pub IsAttribute : ElementRole → Type 0
IsAttribute GlobalAttribute = Unit {0}
IsAttribute LocalAttribute = Unit {0}
IsAttribute role = ⊥

unlike_xmlns : (role : ElementRole) → IsAttribute role → (own : List (List ℕ × List ℕ)) → declares_xmlns role own ≡ false → is_named (codes "xmlns") own ≡ false
unlike_xmlns GlobalAttribute is own h = h
unlike_xmlns LocalAttribute is own h = h
unlike_xmlns role is own h = absurd is

named_other : (o : Option (List ℕ)) → elim o [ None ↦ false | Some value ↦ bytes_eq value (codes "xmlns") ] ≡ false → bytes_eq (elim o [ None ↦ [] | Some value ↦ value ]) xmlns_prefix ≡ false
named_other None h = refl
named_other (Some v) h = h

pub may_be_attribute : (role : ElementRole) → IsAttribute role → (scope own : List (List ℕ × List ℕ)) → has_bad_value role scope own ≡ false → Texts own → has (codes "name") own ≡ true
    → (space : List ℕ) → IsSpace space → is_declarable_attribute (record { space = space; local = value_or_empty (codes "name") own }) ≡ true
may_be_attribute role is scope own good texts there space h =
    let n : Name = record { space = space; local = value_or_empty (codes "name") own } in
    let other = unlike_xmlns role is own (or_parts (has_malformed scope own) (declares_xmlns role own) (or_parts (has_malformed scope own || declares_xmlns role own) (is_crossed own) (or_parts (has_malformed scope own || declares_xmlns role own || is_crossed own) (is_no_all role own) good).0).0).1 in
    and_from (is_declarable n) (not (is_xmlns n)) (may_be_declared n h (own_name role scope own good texts there))
    (not_from_false (is_xmlns n) (and_right (is_empty space) (bytes_eq n.local xmlns_prefix) (named_other (beside (codes "name") own) other)))

-- what is no reference has a name
pub named_or_reference : (own : List (List ℕ × List ℕ)) → (not (has (codes "name") own) && not (has (codes "ref") own)) ≡ false → beside (codes "ref") own ≡ None → has (codes "name") own ≡ true
named_or_reference own h none = elim (and_cases (not (has (codes "name") own)) (not (has (codes "ref") own)) h) [
  | inl name ↦ not-false (has (codes "name") own) name
  | inr reference ↦ absurd (both_ways (has (codes "ref") own) (ap is_some none) (not-false (has (codes "ref") own) reference))
]
