-- Roles of parts are told, and a type has what EMBED-VALUES, USE-NIL and USE-ORDER ask as it is told.
use Rattle.std.proofs.Common.{◌≡◌, ℕ, zero, suc, ◌+◌, ◌-◌, Bool, true, false, ◌||◌, Some, None, List, [], ◌∷◌, map, length, refl, sym, ap, ap₂, ◌∙◌, arith}
use Rattle.std.specs.Prelude.{All, bytes_eq, slice_get, if◌then◌else◌}
use Rattle.std.specs.List.{list_all, list_any}
use Rattle.std.proofs.lemmas.Bool.{true≢false}
use Rattle.base_trees.specs.Rose.{Rose, node, Roses, none, more, list_of, length_all}
use Rattle.base_texts.specs.declared.white_space.WhiteSpace.TheVariants.{Preserve, Replace, Collapse}
use Rattle.simple_types.specs.declared.standards.Standard.{Standard}
use Rattle.simple_types.specs.declared.standards.Standard.TheVariants.{Free, Default, Fixed}
use Rattle.asn_types.specs.declared.marks.Instruction.{Instruction}
use Rattle.asn_types.specs.declared.marks.Instruction.TheVariants as mark
use Rattle.asn_types.specs.declared.roles.Role.{Role}
use Rattle.asn_types.specs.declared.roles.Role.TheVariants as role
use Rattle.asn_types.specs.declared.types.Component.{Component}
use Rattle.asn_types.specs.declared.types.Form.{Form}
use Rattle.asn_types.specs.declared.types.Form.TheVariants as form
use Rattle.asn_types.specs.declared.types.TypeLabel.{TypeLabel}
use Rattle.asn_types.specs.declared.modules.Assignment.{Assignment}
use Rattle.asn_types.specs.Marks as marked
use Rattle.asn_types.specs.Modules as modules
use Rattle.asn_types.specs.Parts.{parts_of}
use Rattle.asn_types.specs.Roles as roles
use Rattle.asn_types.specs.Refs as refs
use Rattle.module_text.specs.declared.marks.TypeMark.{TypeMark}
use Rattle.module_text.specs.declared.values.Absence.TheVariants as absence
use Rattle.module_text.specs.declared.types.PlainPart.{PlainPart}
use Rattle.module_text.specs.declared.types.PlainLabel.{PlainLabel}
use Rattle.module_text.specs.Texts as laid
use Rattle.module_text.specs.Told as told
use Rattle.module_text.specs.Resolving as resolving
use Rattle.module_text.specs.Orders as orders
use Rattle.module_text.specs.Printable.{is_of_part, HasPartMarks}
use Rattle.module_laws.proofs.Firsts.{bytes-self}
use Rattle.module_unique.proofs.Telling.{part_kind, part_marks_told, type_kind, type_marks_told, standard_told, component_told, components_told, form_told, type_told, types_told}
use Rattle.module_unique.proofs.Values.{named_back}
use Rattle.module_unique.proofs.ClearRoles.{same_role}
use Rattle.module_unique.proofs.CleanForms.{both-so}

-- ---- what instructions stand

any_told : {A B : Type 0} (f : A → B) (p : B → Bool) (q : A → Bool) → ((x : A) → p (f x) ≡ q x) → (xs : List A) → list_any p (map f xs) ≡ list_any q xs
any_told f p q same [] = refl
any_told f p q same (x ∷ xs) = ap₂ (λ a b. a || b) (same x) (any_told f p q same xs)

attribute_one : (generated : List ℕ) (m : Instruction) → told.is_attribute (record { at = 0; kind = part_kind generated m }) ≡ marked.is_attribute m
attribute_one generated mark.Attribute = refl
attribute_one generated (mark.Name name) = refl
attribute_one generated (mark.Namespace space) = refl
attribute_one generated m = refl

pub attribute_same : (generated : List ℕ) (marks : List Instruction) → told.has_attribute (part_marks_told generated marks) ≡ marked.has_attribute marks
attribute_same generated marks = any_told (λ (m : Instruction). record { at = 0; kind = part_kind generated m }) told.is_attribute marked.is_attribute (attribute_one generated) marks

untagged_same : (generated : List ℕ) (marks : List Instruction) → list_all is_of_part marks ≡ true → told.has_untagged (part_marks_told generated marks) ≡ marked.has_untagged marks
untagged_same generated [] of = refl
untagged_same generated (mark.Attribute ∷ ms) of = untagged_same generated ms of
untagged_same generated (mark.Untagged ∷ ms) of = refl
untagged_same generated (mark.Name name ∷ ms) of = untagged_same generated ms of
untagged_same generated (mark.Namespace space ∷ ms) of = untagged_same generated ms of
untagged_same generated (m ∷ ms) of = absurd (true≢false (sym of))

abbrev kind_told : Form → Instruction → TypeMark
kind_told f m = record { at = 0; kind = type_kind f m }

nil_one : (f : Form) (m : Instruction) → told.is_use_nil (kind_told f m) ≡ marked.is_use_nil m
nil_one f (mark.WhiteSpace Preserve) = refl
nil_one f (mark.WhiteSpace Replace) = refl
nil_one f (mark.WhiteSpace Collapse) = refl
nil_one f m = refl

embed_one : (f : Form) (m : Instruction) → told.is_embed_values (kind_told f m) ≡ marked.is_embed_values m
embed_one f (mark.WhiteSpace Preserve) = refl
embed_one f (mark.WhiteSpace Replace) = refl
embed_one f (mark.WhiteSpace Collapse) = refl
embed_one f m = refl

order_one : (f : Form) (m : Instruction) → told.is_use_order (kind_told f m) ≡ marked.is_use_order m
order_one f (mark.WhiteSpace Preserve) = refl
order_one f (mark.WhiteSpace Replace) = refl
order_one f (mark.WhiteSpace Collapse) = refl
order_one f m = refl

list_one : (f : Form) (m : Instruction) → told.is_list (kind_told f m) ≡ marked.is_list m
list_one f (mark.WhiteSpace Preserve) = refl
list_one f (mark.WhiteSpace Replace) = refl
list_one f (mark.WhiteSpace Collapse) = refl
list_one f m = refl

union_one : (f : Form) (m : Instruction) → told.is_use_union (kind_told f m) ≡ marked.is_use_union m
union_one f (mark.WhiteSpace Preserve) = refl
union_one f (mark.WhiteSpace Replace) = refl
union_one f (mark.WhiteSpace Collapse) = refl
union_one f m = refl

pub nil_same : (f : Form) (marks : List Instruction) → told.has_use_nil (type_marks_told f marks) ≡ marked.has_use_nil marks
nil_same f marks = any_told (kind_told f) told.is_use_nil marked.is_use_nil (nil_one f) marks

pub embed_same : (f : Form) (marks : List Instruction) → told.has_embed_values (type_marks_told f marks) ≡ marked.has_embed_values marks
embed_same f marks = any_told (kind_told f) told.is_embed_values marked.is_embed_values (embed_one f) marks

pub order_same : (f : Form) (marks : List Instruction) → told.has_use_order (type_marks_told f marks) ≡ marked.has_use_order marks
order_same f marks = any_told (kind_told f) told.is_use_order marked.is_use_order (order_one f) marks

pub list_same : (f : Form) (marks : List Instruction) → told.has_list (type_marks_told f marks) ≡ marked.has_list marks
list_same f marks = any_told (kind_told f) told.is_list marked.is_list (list_one f) marks

pub union_same : (f : Form) (marks : List Instruction) → told.has_use_union (type_marks_told f marks) ≡ marked.has_use_union marks
union_same f marks = any_told (kind_told f) told.is_use_union marked.is_use_union (union_one f) marks

abbrev pub AreMarked : List Component → Type 0
AreMarked parts = All (λ (part : Component). HasPartMarks part.identifier part.marks) parts

module _ (M : List Assignment) where
  -- ---- roles

  abbrev pub label_told : TypeLabel → Roses TypeLabel → PlainLabel
  label_told l ts = record { at = 0; marks = type_marks_told l.form l.marks; form = form_told M l.form ts }

  components_long : (parts : List Component) (ts : Roses TypeLabel) → length_all ts ≡ length parts → length (components_told M parts ts) ≡ length parts
  components_long [] ts long = refl
  components_long (part ∷ parts) none long = absurd (omega (arith, long))
  components_long (part ∷ parts) (more t ts) long = ap suc (components_long parts ts (omega (arith, long)))

  parts_long : (f : Form) (ts : Roses TypeLabel) → length_all ts ≡ length (parts_of f) → length (laid.parts_of (form_told M f ts)) ≡ length (parts_of f)
  parts_long form.Bool ts long = refl
  parts_long (form.Int least greatest) ts long = refl
  parts_long (form.Numbers numbers) ts long = refl
  parts_long (form.Words identifiers words) ts long = refl
  parts_long (form.Order identifiers) ts long = refl
  parts_long (form.Utf8 least most class) ts long = refl
  parts_long (form.Sequence parts) ts long = components_long parts ts long
  parts_long (form.Choice parts) ts long = components_long parts ts long
  parts_long (form.SequenceOf part least most) ts long = refl
  parts_long (form.Ref to) ts long = refl

  item_same : (f : Form) (ts : Roses TypeLabel) (part : Component) (u : Rose TypeLabel) → resolving.is_item (form_told M f ts) (component_told M part u) ≡ roles.is_item f part
  item_same form.Bool ts part u = refl
  item_same (form.Int least greatest) ts part u = refl
  item_same (form.Numbers numbers) ts part u = refl
  item_same (form.Words identifiers words) ts part u = refl
  item_same (form.Order identifiers) ts part u = refl
  item_same (form.Utf8 least most class) ts part u = refl
  item_same (form.Sequence parts) ts part u = refl
  item_same (form.Choice parts) ts part u = refl
  item_same (form.SequenceOf item least most) ts part u = refl
  item_same (form.Ref to) ts part u = refl

  pub role_told : (l : TypeLabel) (ts : Roses TypeLabel) (i : ℕ) (part : Component) (u : Rose TypeLabel) → length_all ts ≡ length (parts_of l.form) → list_all is_of_part part.marks ≡ true
      → resolving.role_of (label_told l ts) i (component_told M part u) ≡ roles.role_of l i part
  role_told l ts i part u long of =
      same_role i _ _ _ _ _ _ _ _ _ _ _ _ _ _ _ _
      (parts_long l.form ts long)
      (attribute_same part.identifier part.marks)
      (untagged_same part.identifier part.marks of)
      (nil_same l.form l.marks)
      (embed_same l.form l.marks)
      (order_same l.form l.marks)
      (item_same l.form ts part u)
      (union_same l.form l.marks)

  -- ---- EMBED-VALUES and USE-NIL

  text_list : (t : Rose TypeLabel) → modules.AreTexts t → orders.is_text_list (type_told M t) ≡ true
  text_list (node l none) are = absurd are
  text_list (node l (more (node k us) ts)) are =
      both-so (orders.is_any_list (form_told M l.form (more (node k us) ts))) (orders.is_any_text (form_told M k.form us))
      (ap (λ f. orders.is_any_list (form_told M f (more (node k us) ts))) are.1)
      (ap (λ f. orders.is_any_text (form_told M f us)) are.2)

  pub texts_told : (f : Form) (ts : Roses TypeLabel) → modules.HasTexts f ts → orders.has_texts (form_told M f ts) (types_told M ts) ≡ true
  texts_told (form.Sequence parts) (more t ts) has = text_list t has
  texts_told (form.Sequence parts) none has = absurd has
  texts_told f ts has = absurd has

  pub absent_told : (part : Component) (t : Rose TypeLabel) (optional : Bool) (s : Standard) → orders.may_be_absent (if optional then standard_told M t s else absence.Never) ≡ optional
  absent_told part t true Free = refl
  absent_told part t true (Default text) = refl
  absent_told part t true (Fixed text) = refl
  absent_told part t false s = refl

  pub record Got (parts : List Component) (ts : Roses TypeLabel) (i : ℕ) (part : Component) : Type 0 where
    pub type : Rose TypeLabel
    pub found : slice_get (list_of ts) i ≡ Some type
    pub told : slice_get (components_told M parts ts) i ≡ Some (component_told M part type)

  pub component_got : (parts : List Component) (ts : Roses TypeLabel) (i : ℕ) (part : Component) → length_all ts ≡ length parts → slice_get parts i ≡ Some part → Got parts ts i part
  component_got [] ts i part long e = absurd (cc)
  component_got (p ∷ ps) none i part long e = absurd (omega (arith, long))
  component_got (p ∷ ps) (more t ts) zero part long e =
      let same : p ≡ part = cc in record { type = t; found = refl; told = ap (λ q. Some (component_told M q t)) same }
  component_got (p ∷ ps) (more t ts) (suc i) part long e =
      let rest = component_got ps ts i part (omega (arith, long)) e in record { type = rest.type; found = rest.found; told = rest.told }

  pub content_told : (f : Form) (ts : Roses TypeLabel) → length_all ts ≡ length (parts_of f) → modules.HasContent f → orders.has_content (form_told M f ts) ≡ true
  content_told (form.Sequence parts) ts long has =
      let last = component_got parts ts (length parts - 1) has.0 long has.1 in
      ap (λ n. elim (slice_get (components_told M parts ts) (n - 1)) as (λ _. Bool) [ None ↦ false | Some part ↦ orders.may_be_absent part.absence ]) (components_long parts ts long)
      ∙ ap (λ o. elim o as (λ _. Bool) [ None ↦ false | Some part ↦ orders.may_be_absent part.absence ]) last.told
      ∙ absent_told has.0 last.type has.0.optional has.0.standard
      ∙ has.2
  content_told f ts long has = absurd has

  -- ---- USE-ORDER

  pub sequence_told : (f : Form) (ts : Roses TypeLabel) → modules.IsSequence f → orders.is_sequence (form_told M f ts) ≡ true
  sequence_told (form.Sequence parts) ts is = refl
  sequence_told f ts is = absurd is

  module _ (l : TypeLabel) (kids : Roses TypeLabel) (long : length_all kids ≡ length (parts_of l.form)) (p q : Role → Bool) (same : (r : Role) → p r ≡ q r) where
    parts_named : (parts : List Component) (ts : Roses TypeLabel) (i : ℕ) → length_all ts ≡ length parts → AreMarked parts
        → map (λ (part : PlainPart). part.identifier) (orders.parts_from (label_told l kids) p i (components_told M parts ts))
        ≡ map (λ (part : Component). part.identifier) (modules.parts_from l q i parts)
    parts_named [] ts i all has = refl
    parts_named (part ∷ parts) none i all has = absurd (omega (arith, all))
    parts_named (part ∷ parts) (more t ts) i all has =
        let here = has zero part (omega arith) in
        let rest = parts_named parts ts (i + 1) (omega (arith, all)) (λ k d lt. has (suc k) d (omega (arith, lt))) in
        ap (λ b. map (λ (x : PlainPart). x.identifier) (if b then component_told M part t ∷ orders.parts_from (label_told l kids) p (i + 1) (components_told M parts ts)
        else orders.parts_from (label_told l kids) p (i + 1) (components_told M parts ts)))
        (ap p (role_told l kids i part t long here.part) ∙ same (roles.role_of l i part))
        ∙ by (q (roles.role_of l i part)) rest
      where
        by : (b : Bool)
            → map (λ (x : PlainPart). x.identifier) (orders.parts_from (label_told l kids) p (i + 1) (components_told M parts ts)) ≡ map (λ (x : Component). x.identifier) (modules.parts_from l q (i + 1) parts)
            → map (λ (x : PlainPart). x.identifier) (if b then component_told M part t ∷ orders.parts_from (label_told l kids) p (i + 1) (components_told M parts ts)
            else orders.parts_from (label_told l kids) p (i + 1) (components_told M parts ts))
            ≡ map (λ (x : Component). x.identifier) (if b then part ∷ modules.parts_from l q (i + 1) parts else modules.parts_from l q (i + 1) parts)
        by true rest = ap (λ ns. part.identifier ∷ ns) rest
        by false rest = rest

  sequence_parts : (l : TypeLabel) (kids : Roses TypeLabel) (p q : Role → Bool) → ((r : Role) → p r ≡ q r) → modules.IsSequence l.form → length_all kids ≡ length (parts_of l.form) → AreMarked (parts_of l.form)
      → map (λ (part : PlainPart). part.identifier) (orders.parts_from (label_told l kids) p 0 (laid.parts_of (form_told M l.form kids)))
      ≡ map (λ (part : Component). part.identifier) (modules.parts_from l q 0 (parts_of l.form))
  sequence_parts l kids p q same is long has = by l.form is (λ parts all marks. parts_named l kids long p q same parts kids 0 all marks) long has
    where
      by : (f : Form) → modules.IsSequence f
          → ((parts : List Component) → length_all kids ≡ length parts → AreMarked parts → map (λ (part : PlainPart). part.identifier) (orders.parts_from (label_told l kids) p 0 (components_told M parts kids))
          ≡ map (λ (part : Component). part.identifier) (modules.parts_from l q 0 parts))
          → length_all kids ≡ length (parts_of f) → AreMarked (parts_of f)
          → map (λ (part : PlainPart). part.identifier) (orders.parts_from (label_told l kids) p 0 (laid.parts_of (form_told M f kids)))
          ≡ map (λ (part : Component). part.identifier) (modules.parts_from l q 0 (parts_of f))
      by (form.Sequence parts) is named all marks = named parts all marks
      by f is named all marks = absurd is

  nothing_named : (ps : List PlainPart) → map (λ (part : PlainPart). part.identifier) ps ≡ [] → orders.are_none ps ≡ true
  nothing_named [] e = refl
  nothing_named (part ∷ ps) e = absurd (cc)

  group_same : (r : Role) → orders.is_group r ≡ modules.is_group r
  group_same role.Group = refl
  group_same r = refl

  pub no_groups : (l : TypeLabel) (kids : Roses TypeLabel) → modules.IsSequence l.form → length_all kids ≡ length (parts_of l.form) → AreMarked (parts_of l.form) → modules.group_parts l ≡ []
      → orders.has_no_group (label_told l kids) ≡ true
  no_groups l kids is long has e =
      nothing_named (orders.parts_from (label_told l kids) orders.is_group 0 (laid.parts_of (form_told M l.form kids)))
      (sequence_parts l kids orders.is_group modules.is_group group_same is long has ∙ ap (map (λ (part : Component). part.identifier)) e)

  pub elements_told : (l : TypeLabel) (kids : Roses TypeLabel) → modules.IsSequence l.form → length_all kids ≡ length (parts_of l.form) → AreMarked (parts_of l.form)
      → orders.element_identifiers (label_told l kids) ≡ map (λ (part : Component). part.identifier) (modules.element_parts l)
  elements_told l kids is long has = sequence_parts l kids refs.is_element refs.is_element (λ r. refl) is long has

  equal_self : (names : List (List ℕ)) → orders.are_equal names names ≡ true
  equal_self [] = refl
  equal_self (name ∷ names) = both-so (bytes_eq name name) (orders.are_equal names names) (bytes-self name) (equal_self names)

  pub order_of : (names : List (List ℕ)) (t : Rose TypeLabel) → modules.IsOrderOf names t → orders.is_order_of names (type_told M t) ≡ true
  order_of names (node l none) is = absurd is
  order_of names (node l (more (node k us) ts)) is =
      both-so (orders.is_any_list (form_told M l.form (more (node k us) ts))) (orders.are_identifiers names (form_told M k.form us))
      (ap (λ f. orders.is_any_list (form_told M f (more (node k us) ts))) is.1)
      (ap (λ f. orders.are_identifiers names (form_told M f us)) is.2 ∙ ap (orders.are_equal names) (named_back names) ∙ equal_self names)
