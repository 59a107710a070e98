-- A type without a fault, thing by thing.
use Rattle.std.proofs.Common.{◌≡◌, ℕ, ◌+◌, ◌-◌, Bool, true, false, ◌&&◌, ◌||◌, not, None, List, [], ◌∷◌, ◌++◌, length, is_some, refl, arith}
use Rattle.std.specs.Prelude.{nat_lt, if◌then◌else◌}
use Rattle.base_trees.specs.Rose.{Rose, node, Roses, none, more, label_of, length_all}
use Rattle.asn_names.specs.ReservedWords.{reserved_words}
use Rattle.module_text.specs.declared.types.PlainPart.{PlainPart}
use Rattle.module_text.specs.declared.types.PlainForm.{PlainForm}
use Rattle.module_text.specs.declared.types.PlainForm.TheVariants as form
use Rattle.module_text.specs.declared.types.PlainLabel.{PlainLabel}
use Rattle.module_text.specs.declared.modules.PlainAssignment.{PlainAssignment}
use Rattle.module_text.specs.Texts.{parts_of}
use Rattle.module_text.specs.Plain.{IsType, AreTypes}
use Rattle.module_text.specs.declared.reasons.ModuleWhy.TheVariants as why
use Rattle.module_text.specs.declared.spots.Spot.{Spot}
use Rattle.module_text.specs.declared.spots.Spot.TheVariants.{Elsewhere}
use Rattle.module_text.specs.Listed.{unless}
use Rattle.module_text.specs.Told.{has_list}
use Rattle.module_text.specs.Resolving.{resolve, number_of, chains_end, if_reference, all_references, all_references_in}
use Rattle.module_text.specs.Faults.{has_text, part_mark_faults, type_mark_faults, fixed_faults, absence_faults, nameless_parts, is_listed, is_named_so, is_bare, part_spot, reference_faults, form_faults, space_at, type_faults, part_faults, assignment_faults, faults_from}
use Rattle.module_text.proofs.PrintedBounds.{unless-none, front-none, behind-none, and-first, and-second}
use Rattle.module_laws.proofs.WordLaws.{not-true}
use Rattle.module_laws.proofs.NameLaws.{and-both}
use Rattle.module_laws.proofs.ResolveLaws.{LeadsIn}

module _ (P : List PlainAssignment) where
  -- a part with this type, which stands with others of this type behind those with these identifiers
  pub record PartClean (spot : Spot) (nameless : Bool) (l : PlainLabel) (i : ℕ) (before : List (List ℕ)) (part : PlainPart) (t : Rose PlainLabel) : Type 0 where
    pub new : is_listed before part.identifier ≡ false
    pub named : is_named_so nameless l.form part ≡ true
    pub marks : part_mark_faults (is_some (space_at P (part_spot spot l i part) part.marks t)) part.identifier None part.marks ≡ []
    pub fixed : fixed_faults (space_at P (part_spot spot l i part) part.marks t) part.fixed ≡ []
    pub absence : absence_faults (space_at P (part_spot spot l i part) part.marks t) part.fixed (resolve P t) part.absence ≡ []

  abbrev mutual
    pub TypeClean : Spot → Bool → Rose PlainLabel → Type 0
    TypeClean spot nameless (node l ts) =
        (type_mark_faults P spot l ts None 0 l.marks ≡ []) × (form_faults P spot l.marks l.form ≡ [])
        × PartsClean spot (has_list l.marks || nameless) l 0 [] (nameless_parts l.marks) (parts_of l.form) ts

    pub PartsClean : Spot → Bool → PlainLabel → ℕ → List (List ℕ) → ℕ → List PlainPart → Roses PlainLabel → Type 0
    PartsClean spot nameless l i before front parts none = Unit {0}
    PartsClean spot nameless l i before front parts (more t ts) =
        elim parts [
          | [] ↦ Unit {0}
          | part ∷ others ↦
              PartClean spot nameless l i before part t × TypeClean (part_spot spot l i part) (nat_lt 0 front) t
              × PartsClean spot nameless l (i + 1) (before ++ part.identifier ∷ []) (front - 1) others ts
        ]

  abbrev Cleans : Rose PlainLabel → Type 0
  Cleans t = (spot : Spot) (nameless : Bool) → type_faults P spot nameless t ≡ [] → TypeClean spot nameless t

  abbrev AllClean : Roses PlainLabel → Type 0
  AllClean ts = (spot : Spot) (nameless : Bool) (l : PlainLabel) (i : ℕ) (before : List (List ℕ)) (front : ℕ) (parts : List PlainPart)
      → part_faults P spot nameless l i before front parts ts ≡ [] → PartsClean spot nameless l i before front parts ts

  node_clean : (l : PlainLabel) (ts : Roses PlainLabel) → AllClean ts → Cleans (node l ts)
  unfolding type_faults
  node_clean l ts rest spot nameless e =
      let front = front-none (type_mark_faults P spot l ts None 0 l.marks ++ form_faults P spot l.marks l.form) _ e in (
        front-none (type_mark_faults P spot l ts None 0 l.marks) _ front,
        behind-none (type_mark_faults P spot l ts None 0 l.marks) _ front,
        rest spot (has_list l.marks || nameless) l 0 [] (nameless_parts l.marks) (parts_of l.form)
            (behind-none (type_mark_faults P spot l ts None 0 l.marks ++ form_faults P spot l.marks l.form) _ e),
      )

  more_clean : (t : Rose PlainLabel) (ts : Roses PlainLabel) → Cleans t → AllClean ts → AllClean (more t ts)
  unfolding type_faults
  more_clean t ts first rest spot nameless l i before front [] e = tt
  more_clean t ts first rest spot nameless l i before front (part ∷ others) e =
      let space = space_at P (part_spot spot l i part) part.marks t in
      let a = unless (not (is_listed before part.identifier)) part.at why.Duplicate in
      let b = if is_bare part (label_of t) then reference_faults P (label_of t).form else [] in
      let c = unless (is_named_so nameless l.form part) part.at why.Spelling in
      let d = part_mark_faults (is_some space) part.identifier None part.marks in
      let f = type_faults P (part_spot spot l i part) (nat_lt 0 front) t in
      let g = fixed_faults space part.fixed in
      let h = absence_faults space part.fixed (resolve P t) part.absence in
      let k = part_faults P spot nameless l (i + 1) (before ++ part.identifier ∷ []) (front - 1) others ts in
      let abcdfgh = front-none ((((((a ++ b) ++ c) ++ d) ++ f) ++ g) ++ h) k e in
      let abcdfg = front-none (((((a ++ b) ++ c) ++ d) ++ f) ++ g) h abcdfgh in
      let abcdf = front-none ((((a ++ b) ++ c) ++ d) ++ f) g abcdfg in
      let abcd = front-none (((a ++ b) ++ c) ++ d) f abcdf in
      let abc = front-none ((a ++ b) ++ c) d abcd in
      let ab = front-none (a ++ b) c abc in (
        record {
          new = not-true (is_listed before part.identifier) (unless-none (not (is_listed before part.identifier)) part.at why.Duplicate (front-none a b ab));
          named = unless-none (is_named_so nameless l.form part) part.at why.Spelling (behind-none (a ++ b) c abc);
          marks = behind-none ((a ++ b) ++ c) d abcd;
          fixed = behind-none ((((a ++ b) ++ c) ++ d) ++ f) g abcdfg;
          absence = behind-none (((((a ++ b) ++ c) ++ d) ++ f) ++ g) h abcdfgh;
        },
        first (part_spot spot l i part) (nat_lt 0 front) (behind-none (((a ++ b) ++ c) ++ d) f abcdf),
        rest spot nameless l (i + 1) (before ++ part.identifier ∷ []) (front - 1) others (behind-none ((((((a ++ b) ++ c) ++ d) ++ f) ++ g) ++ h) k e),
      )

  none_clean : AllClean none
  none_clean spot nameless l i before front parts e = tt

  mutual
    pub clean : (t : Rose PlainLabel) → Cleans t
    clean (node l ts) = node_clean l ts (all-clean ts)

    all-clean : (ts : Roses PlainLabel) → AllClean ts
    all-clean none = none_clean
    all-clean (more t ts) = more_clean t ts (clean t) (all-clean ts)

  -- ---- assignments

  pub record AssignmentClean (before : List (List ℕ)) (a : PlainAssignment) : Type 0 where
    pub new : has_text before a.reference ≡ false
    pub free : has_text reserved_words a.reference ≡ false
    pub chains : chains_end P a.body ≡ true
    pub marks : part_mark_faults (is_some (space_at P Elsewhere a.marks a.body)) a.reference None a.marks ≡ []
    pub body : TypeClean Elsewhere false a.body

  abbrev pub AssignmentsClean : List (List ℕ) → List PlainAssignment → Type 0
  AssignmentsClean before [] = Unit {0}
  AssignmentsClean before (a ∷ others) = AssignmentClean before a × AssignmentsClean (before ++ a.reference ∷ []) others

  one_clean : (before : List (List ℕ)) (a : PlainAssignment) → assignment_faults P before a ≡ [] → AssignmentClean before a
  one_clean before a e =
      let u = unless (not (has_text before a.reference) && not (has_text reserved_words a.reference)) a.at why.Duplicate in
      let v = unless (chains_end P a.body) a.at why.LongChain in
      let w = part_mark_faults (is_some (space_at P Elsewhere a.marks a.body)) a.reference None a.marks in
      let x = type_faults P Elsewhere false a.body in
      let uvw = front-none ((u ++ v) ++ w) x e in
      let uv = front-none (u ++ v) w uvw in
      let fresh = unless-none (not (has_text before a.reference) && not (has_text reserved_words a.reference)) a.at why.Duplicate (front-none u v uv) in
      record {
        new = not-true (has_text before a.reference) (and-first (not (has_text before a.reference)) (not (has_text reserved_words a.reference)) fresh);
        free = not-true (has_text reserved_words a.reference) (and-second (not (has_text before a.reference)) (not (has_text reserved_words a.reference)) fresh);
        chains = unless-none (chains_end P a.body) a.at why.LongChain (behind-none u v uv);
        marks = behind-none (u ++ v) w uvw;
        body = clean a.body Elsewhere false (behind-none ((u ++ v) ++ w) x e);
      }

  pub assignments-clean : (before : List (List ℕ)) (others : List PlainAssignment) → faults_from P before others ≡ [] → AssignmentsClean before others
  assignments-clean before [] e = tt
  assignments-clean before (a ∷ others) e =
      (one_clean before a (front-none (assignment_faults P before a) _ e), assignments-clean (before ++ a.reference ∷ []) others (behind-none (assignment_faults P before a) _ e))

  -- ---- each reference has an assignment

  abbrev Leading : Rose PlainLabel → Type 0
  Leading t = (spot : Spot) (nameless : Bool) → IsType t → TypeClean spot nameless t → LeadsIn P t

  abbrev AllLeading : Roses PlainLabel → Type 0
  AllLeading ts = (spot : Spot) (nameless : Bool) (l : PlainLabel) (i : ℕ) (before : List (List ℕ)) (front : ℕ) (parts : List PlainPart) → length_all ts ≡ length parts → AreTypes ts
      → PartsClean spot nameless l i before front parts ts → all_references_in (λ name. is_some (number_of P name)) ts ≡ true

  form_leads : (spot : Spot) (f : PlainForm) (marks : _) → form_faults P spot marks f ≡ [] → if_reference (λ name. is_some (number_of P name)) f ≡ true
  form_leads spot form.Bool marks e = refl
  form_leads spot (form.Int r) marks e = refl
  form_leads spot (form.Numbers items) marks e = refl
  form_leads spot (form.Words is) marks e = refl
  form_leads spot (form.Utf8 size class) marks e = refl
  form_leads spot (form.Sequence components) marks e = refl
  form_leads spot (form.Choice alternatives) marks e = refl
  form_leads spot (form.SequenceOf size item) marks e = refl
  form_leads spot (form.Ref reference) marks e = unless-none (is_some (number_of P reference.name)) reference.at why.Unresolved e

  node_leading : (l : PlainLabel) (ts : Roses PlainLabel) → AllLeading ts → Leading (node l ts)
  unfolding all_references
  node_leading l ts rest spot nameless is c =
      and-both (if_reference (λ name. is_some (number_of P name)) l.form) (all_references_in (λ name. is_some (number_of P name)) ts) (form_leads spot l.form l.marks c.1)
      (rest spot (has_list l.marks || nameless) l 0 [] (nameless_parts l.marks) (parts_of l.form) is.2 is.3 c.2)

  more_leading : (t : Rose PlainLabel) (ts : Roses PlainLabel) → Leading t → AllLeading ts → AllLeading (more t ts)
  unfolding all_references
  more_leading t ts first rest spot nameless l i before front [] long types c = absurd (omega (arith, long))
  more_leading t ts first rest spot nameless l i before front (part ∷ others) long types c =
      and-both (all_references (λ name. is_some (number_of P name)) t) (all_references_in (λ name. is_some (number_of P name)) ts)
      (first (part_spot spot l i part) (nat_lt 0 front) types.0 c.1)
      (rest spot nameless l (i + 1) (before ++ part.identifier ∷ []) (front - 1) others (omega (arith, long)) types.1 c.2)

  none_leading : AllLeading none
  unfolding all_references
  none_leading spot nameless l i before front parts long types c = refl

  mutual
    pub leading : (t : Rose PlainLabel) → Leading t
    leading (node l ts) = node_leading l ts (all-leading ts)

    all-leading : (ts : Roses PlainLabel) → AllLeading ts
    all-leading none = none_leading
    all-leading (more t ts) = more_leading t ts (leading t) (all-leading ts)
