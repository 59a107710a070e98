-- Lists of parts and types as they are made, one by one.
use Rattle.std.proofs.Common.{◌≡◌, ℕ, zero, suc, Bool, true, false, Option, Some, None, ◌<◌, ◌≤◌, ◌+◌, ◌⊎◌, inl, inr, min, List, [], ◌∷◌, ◌++◌, length, drop, get_or, refl, sym, ap, subst, ◌∙◌, append_assoc, append-nil, arith}
use Rattle.std.specs.Prelude.{All}
use Rattle.std.proofs.lemmas.Bool.{cases_lt}
use Rattle.std.proofs.lemmas.List.{drop_more, drop_all}
use Rattle.base_trees.specs.Rose.{Rose, node, Roses, none, more, roses_of, label_of, kids_of, length_all, Allowed, AllowedAll}
use Rattle.base_trees.proofs.Roses.{node-parts}
use Rattle.base_trees.proofs.Kids.{roses_of-drop}
use Rattle.simple_types.specs.declared.standards.Standard.{Standard}
use Rattle.asn_types.specs.declared.types.Component.{Component}
use Rattle.asn_types.specs.declared.types.Form.{Form}
use Rattle.asn_types.specs.declared.types.Form.TheVariants as meant
use Rattle.asn_types.specs.declared.types.TypeLabel.{TypeLabel}
use Rattle.asn_types.specs.declared.marks.Instruction.{Instruction}
use Rattle.asn_types.specs.Parts.{MayHave}
use Rattle.asn_types.specs.Parts as asn
use Rattle.simple_types.specs.declared.simples.Class.{Class}
use Rattle.module_text.specs.declared.marks.TypeMark.{TypeMark}
use Rattle.module_text.specs.declared.types.PlainName.{PlainName}
use Rattle.module_text.specs.declared.types.PlainPart.{PlainPart}
use Rattle.module_text.specs.declared.types.PlainForm.{PlainForm}
use Rattle.module_text.specs.declared.types.PlainForm.TheVariants as form
use Rattle.module_text.specs.declared.types.PlainLabel.{PlainLabel}
use Rattle.module_text.specs.declared.modules.PlainAssignment.{PlainAssignment}
use Rattle.module_text.specs.Texts.{parts_of}
use Rattle.module_text.specs.declared.spots.Spot.{Spot}
use Rattle.module_text.specs.Faults.{part_spot}
use Rattle.module_text.specs.Orders.{may_be_absent}
use Rattle.module_text.specs.Told.{Bounds, Sizes, range_of, sizes_of}
use Rattle.module_text.specs.Simple.{is_order_item}
use Rattle.module_text.specs.Meaning.{part_marks_meant, type_marks_meant, int_meant, words_meant, utf8_meant, list_meant, item_meant, component_meant, components_meant, type_meant, types_meant, form_meant}
use Rattle.module_text.specs.Marks.{next_item}
use Rattle.module_read.specs.Ready.{IsTypeMarkReady, AreTypeMarksReady, component_told, components_told, IsPartSpelled, ArePartsSpelled, IsPartReady, IsLabelReady, IsTypeReady, ArePartsReady}

-- ---- trees behind others

abbrev pub with_trees : {L : Type 0} → List (Rose L) → Roses L → Roses L
with_trees [] ts = ts
with_trees (u ∷ us) ts = more u (with_trees us ts)

trees_more : {L : Type 0} (us : List (Rose L)) (u : Rose L) (ts : Roses L) → with_trees (us ++ u ∷ []) ts ≡ with_trees us (more u ts)
trees_more [] u ts = refl
trees_more (t ∷ us) u ts = ap (more t) (trees_more us u ts)

pub trees_end : {L : Type 0} (us : List (Rose L)) → with_trees us none ≡ roses_of us
trees_end [] = refl
trees_end (u ∷ us) = ap (more u) (trees_end us)

-- ---- where one of both lists is at its end

module _ (parts : List PlainPart) (kids : List (Rose PlainLabel)) (i : ℕ) where
  at_end : {Y : Type 0} (F : List PlainPart → Roses PlainLabel → Y) (y : Y)
      → ((ts : Roses PlainLabel) → F [] ts ≡ y) → ((ps : List PlainPart) → F ps none ≡ y)
      → min (length parts) (length kids) ≤ i → F (drop i parts) (roses_of (drop i kids)) ≡ y
  at_end F y no_part no_kid le = elim (cases_lt i (length parts)) [
    | inl long ↦ ap (λ ts. F (drop i parts) (roses_of ts)) (drop_all i kids (omega (arith, long, le))) ∙ no_kid (drop i parts)
    | inr short ↦ ap (λ ps. F ps (roses_of (drop i kids))) (drop_all i parts short) ∙ no_part (roses_of (drop i kids))
  ]

-- ---- parts

no_kids : (P : List PlainAssignment) (ps : List PlainPart) → components_told P ps none ≡ []
no_kids P [] = refl
no_kids P (part ∷ ps) = refl

pub components_end : (P : List PlainAssignment) (parts : List PlainPart) (kids : List (Rose PlainLabel)) (i : ℕ)
    → min (length parts) (length kids) ≤ i → components_told P (drop i parts) (roses_of (drop i kids)) ≡ []
components_end P parts kids i le = at_end parts kids i (components_told P) [] (λ ts. refl) (no_kids P) le

pub types_end : (P : List PlainAssignment) (spot : Spot) (l : PlainLabel) (parts : List PlainPart) (kids : List (Rose PlainLabel)) (i : ℕ)
    → min (length parts) (length kids) ≤ i → types_meant P spot l i (drop i parts) (roses_of (drop i kids)) ≡ none
types_end P spot l parts kids i le = at_end parts kids i (types_meant P spot l i) none no_part (λ ps. refl) le
  where
    no_part : (ts : Roses PlainLabel) → types_meant P spot l i [] ts ≡ none
    no_part none = refl
    no_part (more t ts) = refl

-- the part with number i and its type, as a loop has them
module _ (parts : List PlainPart) (kids : List (Rose PlainLabel)) (i : ℕ) (part : PlainPart) (kid : Rose PlainLabel)
    (within : i < length parts) (here : part ≡ get_or parts i part) (inside : i < length kids) (there : kid ≡ get_or kids i kid) where
  next_part : drop i parts ≡ part ∷ drop (i + 1) parts
  next_part = drop_more parts i part within ∙ ap (λ p. p ∷ drop (i + 1) parts) (sym here)

  next_kid : roses_of (drop i kids) ≡ more kid (roses_of (drop (i + 1) kids))
  next_kid = roses_of-drop kids i kid inside there

  step : {Y : Type 0} (F : List PlainPart → Roses PlainLabel → Y)
      → F (drop i parts) (roses_of (drop i kids)) ≡ F (part ∷ drop (i + 1) parts) (more kid (roses_of (drop (i + 1) kids)))
  step F = ap (λ ps. F ps (roses_of (drop i kids))) next_part ∙ ap (F (part ∷ drop (i + 1) parts)) next_kid

  pub spelled : (P : List PlainAssignment) → ArePartsSpelled P (drop i parts) (roses_of (drop i kids))
      → IsPartSpelled P part kid × ArePartsSpelled P (drop (i + 1) parts) (roses_of (drop (i + 1) kids))
  spelled P are =
      subst (ArePartsSpelled P (part ∷ drop (i + 1) parts)) next_kid
      (subst (λ ps. ArePartsSpelled P ps (roses_of (drop i kids))) next_part are)

  pub components_more : (P : List PlainAssignment) (made : List Component) (c : Component) → c ≡ component_told P part kid
      → made ++ components_told P (drop i parts) (roses_of (drop i kids)) ≡ components_told P parts (roses_of kids)
      → (made ++ c ∷ []) ++ components_told P (drop (i + 1) parts) (roses_of (drop (i + 1) kids)) ≡ components_told P parts (roses_of kids)
  components_more P made c is so_far =
      append_assoc made (c ∷ []) _
      ∙ ap (λ d. made ++ d ∷ components_told P (drop (i + 1) parts) (roses_of (drop (i + 1) kids))) is
      ∙ sym (ap (λ ds. made ++ ds) (step (components_told P)))
      ∙ so_far

  pub readied : (P : List PlainAssignment) (spot : Spot) (l : PlainLabel) → ArePartsReady P spot l i (drop i parts) (roses_of (drop i kids))
      → IsPartReady P (part_spot spot l i part) part kid × IsTypeReady P (part_spot spot l i part) kid × ArePartsReady P spot l (i + 1) (drop (i + 1) parts) (roses_of (drop (i + 1) kids))
  readied P spot l are =
      subst (ArePartsReady P spot l i (part ∷ drop (i + 1) parts)) next_kid
      (subst (λ ps. ArePartsReady P spot l i ps (roses_of (drop i kids))) next_part are)

  pub types_more : (P : List PlainAssignment) (spot : Spot) (l : PlainLabel) (made : List (Rose TypeLabel)) (t : Rose TypeLabel) → t ≡ type_meant P (part_spot spot l i part) kid
      → with_trees made (types_meant P spot l i (drop i parts) (roses_of (drop i kids))) ≡ types_meant P spot l 0 parts (roses_of kids)
      → with_trees (made ++ t ∷ []) (types_meant P spot l (i + 1) (drop (i + 1) parts) (roses_of (drop (i + 1) kids))) ≡ types_meant P spot l 0 parts (roses_of kids)
  types_more P spot l made t is so_far =
      trees_more made t _
      ∙ ap (λ u. with_trees made (more u (types_meant P spot l (i + 1) (drop (i + 1) parts) (roses_of (drop (i + 1) kids))))) is
      ∙ sym (ap (with_trees made) (step (types_meant P spot l i)))
      ∙ so_far

-- ---- parts that are ready

module _ (P : List PlainAssignment) (spot : Spot) (l : PlainLabel) where
  pub parts_spelled : (i : ℕ) (parts : List PlainPart) (ts : Roses PlainLabel) → ArePartsReady P spot l i parts ts → ArePartsSpelled P parts ts
  parts_spelled i [] ts are = tt
  parts_spelled i (part ∷ parts) none are = tt
  parts_spelled i (part ∷ parts) (more t ts) are = ((are.0.marks, are.0.standard), parts_spelled (i + 1) parts ts are.2)

  pub component_same : (i : ℕ) (part : PlainPart) (t : Rose PlainLabel) → IsPartReady P (part_spot spot l i part) part t
      → component_told P part t ≡ component_meant P (part_spot spot l i part) part t
  component_same i part t is =
      ap
      (λ (s : Standard). record {
        identifier = part.identifier;
        optional = may_be_absent part.absence;
        standard = s;
        marks = part_marks_meant part.identifier part.marks;
      })
      (sym is.meant)

  pub components_same : (i : ℕ) (parts : List PlainPart) (ts : Roses PlainLabel) → ArePartsReady P spot l i parts ts
      → components_told P parts ts ≡ components_meant P spot l i parts ts
  components_same i [] ts are = refl
  components_same i (part ∷ parts) none are = refl
  components_same i (part ∷ parts) (more t ts) are =
      ap (λ c. c ∷ components_told P parts ts) (component_same i part t are.0)
      ∙ ap (λ cs. component_meant P (part_spot spot l i part) part t ∷ cs) (components_same (i + 1) parts ts are.2)

-- a SEQUENCE and a CHOICE of such parts
abbrev with_form : PlainLabel → PlainForm → PlainLabel
with_form l f = record { at = l.at; marks = l.marks; form = f }

module _ (P : List PlainAssignment) (spot : Spot) (l : PlainLabel) (ts : Roses PlainLabel) (parts : List PlainPart) (made : List Component) where
  pub sequence_meant : l.form ≡ form.Sequence parts → ArePartsReady P spot l 0 (parts_of l.form) ts → made ≡ components_told P parts ts → meant.Sequence made ≡ form_meant P spot l ts
  sequence_meant e =
      let same : with_form l (form.Sequence parts) ≡ l = ap (with_form l) (sym e) in
      subst (λ m. ArePartsReady P spot m 0 (parts_of m.form) ts → made ≡ components_told P parts ts → meant.Sequence made ≡ form_meant P spot m ts) same
      (λ are is. ap meant.Sequence (is ∙ components_same P spot (with_form l (form.Sequence parts)) 0 parts ts are))

  pub choice_meant : l.form ≡ form.Choice parts → ArePartsReady P spot l 0 (parts_of l.form) ts → made ≡ components_told P parts ts → meant.Choice made ≡ form_meant P spot l ts
  choice_meant e =
      let same : with_form l (form.Choice parts) ≡ l = ap (with_form l) (sym e) in
      subst (λ m. ArePartsReady P spot m 0 (parts_of m.form) ts → made ≡ components_told P parts ts → meant.Choice made ≡ form_meant P spot m ts) same
      (λ are is. ap meant.Choice (is ∙ components_same P spot (with_form l (form.Choice parts)) 0 parts ts are))

-- ---- each part has its type

counted : (P : List PlainAssignment) (spot : Spot) (l : PlainLabel) (i : ℕ) (parts : List PlainPart) (ts : Roses PlainLabel)
    → length_all ts ≡ length parts → length (components_meant P spot l i parts ts) ≡ length parts
counted P spot l i [] ts same = refl
counted P spot l i (part ∷ parts) none same = absurd (omega (arith, same))
counted P spot l i (part ∷ parts) (more t ts) same =
    let fewer : length_all ts ≡ length parts = omega (arith, same) in
    ap suc (counted P spot l (i + 1) parts ts fewer)

of_int : (bounds : Option Bounds) → length (asn.parts_of (int_meant bounds)) ≡ 0
of_int None = refl
of_int (Some bounds) = refl

of_words : (order : Bool) (marks : List TypeMark) (identifiers : List PlainName) → length (asn.parts_of (words_meant order marks identifiers)) ≡ 0
of_words true marks identifiers = refl
of_words false marks identifiers = refl

of_utf8 : (sizes : Option Sizes) (class : Class) → length (asn.parts_of (utf8_meant sizes class)) ≡ 0
of_utf8 None class = refl
of_utf8 (Some sizes) class = refl

of_list : (sizes : Option Sizes) (part : Component) → length (asn.parts_of (list_meant sizes part)) ≡ 1
of_list None part = refl
of_list (Some sizes) part = refl

counted_form : (P : List PlainAssignment) (spot : Spot) (l : PlainLabel) (ts : Roses PlainLabel) (f : PlainForm) → l.form ≡ f
    → length_all ts ≡ length (parts_of f) → length (asn.parts_of (form_meant P spot l ts)) ≡ length (parts_of f)
counted_form P spot l ts form.Bool e same = rw e refl
counted_form P spot l ts (form.Int r) e same = rw e (of_int (range_of r))
counted_form P spot l ts (form.Numbers items) e same = rw e refl
counted_form P spot l ts (form.Words identifiers) e same = rw e (of_words (is_order_item spot) l.marks identifiers)
counted_form P spot l ts (form.Utf8 size class) e same = rw e (of_utf8 (sizes_of size) class)
counted_form P spot l ts (form.Sequence parts) e same = rw e (counted P spot (with_form l (form.Sequence parts)) 0 parts ts same)
counted_form P spot l ts (form.Choice parts) e same = rw e (counted P spot (with_form l (form.Choice parts)) 0 parts ts same)
counted_form P spot l ts (form.SequenceOf size part) e same = rw e (of_list (sizes_of size) _)
counted_form P spot l ts (form.Ref reference) e same = rw e refl

types_counted : (P : List PlainAssignment) (spot : Spot) (l : PlainLabel) (i : ℕ) (parts : List PlainPart) (ts : Roses PlainLabel)
    → length_all ts ≡ length parts → length_all (types_meant P spot l i parts ts) ≡ length parts
types_counted P spot l i parts none same = same
types_counted P spot l i [] (more t ts) same = absurd (omega (arith, same))
types_counted P spot l i (part ∷ parts) (more t ts) same =
    let fewer : length_all ts ≡ length parts = omega (arith, same) in
    ap suc (types_counted P spot l (i + 1) parts ts fewer)

module _ (P : List PlainAssignment) where
  mutual
    pub allowed : (spot : Spot) (t : Rose PlainLabel) → IsTypeReady P spot t → Allowed MayHave (type_meant P spot t)
    allowed spot (node l ts) is = (
      types_counted P spot l 0 (parts_of l.form) ts is.0.parts ∙ sym (counted_form P spot l ts l.form refl is.0.parts),
      all_allowed spot l 0 (parts_of l.form) ts is.1,
    )

    all_allowed : (spot : Spot) (l : PlainLabel) (i : ℕ) (parts : List PlainPart) (ts : Roses PlainLabel)
        → ArePartsReady P spot l i parts ts → AllowedAll MayHave (types_meant P spot l i parts ts)
    all_allowed spot l i parts none are = tt
    all_allowed spot l i [] (more t ts) are = tt
    all_allowed spot l i (part ∷ parts) (more t ts) are =
        (allowed (part_spot spot l i part) t are.1, all_allowed spot l (i + 1) parts ts are.2)

-- ---- a type by its label and its kids

module _ (P : List PlainAssignment) (spot : Spot) where
  pub ready_at : (t : Rose PlainLabel) (l : PlainLabel) (kids : List (Rose PlainLabel)) → l ≡ label_of t → kids ≡ kids_of t → IsTypeReady P spot t
      → IsLabelReady P spot l (roses_of kids) × ArePartsReady P spot l 0 (parts_of l.form) (roses_of kids)
  ready_at t l kids same below is =
      subst (λ u. IsTypeReady P spot u)
      (sym (ap (λ m. node m (roses_of kids)) same ∙ ap (λ ks. node (label_of t) (roses_of ks)) below ∙ node-parts t))
      is

  pub meant_at : (t : Rose PlainLabel) (l : PlainLabel) (kids : List (Rose PlainLabel)) → l ≡ label_of t → kids ≡ kids_of t
      → type_meant P spot (node l (roses_of kids)) ≡ type_meant P spot t
  meant_at t l kids same below = ap (type_meant P spot) (ap (λ m. node m (roses_of kids)) same ∙ ap (λ ks. node (label_of t) (roses_of ks)) below ∙ node-parts t)

-- a type of this form with these instructions
abbrev pub made_type : Form → List Instruction → Roses TypeLabel → Rose TypeLabel
made_type f marks ts = node (record { form = f; marks = marks }) ts

pub type_is : (P : List PlainAssignment) (spot : Spot) (t : Rose PlainLabel) (l : PlainLabel) (kids : List (Rose PlainLabel)) (f : Form) (marks : List Instruction) (ts : Roses TypeLabel)
    → l ≡ label_of t → kids ≡ kids_of t
    → f ≡ form_meant P spot l (roses_of kids) → marks ≡ type_marks_meant spot l.form l.marks → ts ≡ types_meant P spot l 0 (parts_of l.form) (roses_of kids)
    → made_type f marks ts ≡ type_meant P spot t
type_is P spot t l kids f marks ts same below e g h =
    ap (λ x. made_type x marks ts) e
    ∙ ap (λ x. made_type (form_meant P spot l (roses_of kids)) x ts) g
    ∙ ap (made_type (form_meant P spot l (roses_of kids)) (type_marks_meant spot l.form l.marks)) h
    ∙ meant_at P spot t l kids same below

-- ---- the next of several instructions of a type

pub next_ready : (spot : Spot) (f : PlainForm) (least : ℕ) (marks : List TypeMark) (i : ℕ) (m : TypeMark) → i < length marks → m ≡ get_or marks i m
    → AreTypeMarksReady spot f least (drop i marks)
    → IsTypeMarkReady spot f least m.kind × AreTypeMarksReady spot f (next_item spot f least m.kind) (drop (i + 1) marks)
next_ready spot f least marks i m lt here are =
    subst (AreTypeMarksReady spot f least) (drop_more marks i m lt ∙ ap (λ n. n ∷ drop (i + 1) marks) (sym here)) are
