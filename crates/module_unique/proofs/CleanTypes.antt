-- A type of a printable module has no fault as it is told.
use Rattle.std.proofs.Common.{◌≡◌, ℕ, zero, suc, ◌≤◌, Bool, true, false, ◌&&◌, ◌||◌, not, Option, Some, None, List, [], ◌∷◌, map, length, refl, sym, ap, ap₂, ◌∙◌, arith}
use Rattle.std.specs.Prelude.{All, bytes_eq, is_some, if◌then◌else◌}
use Rattle.std.specs.List.{list_any, AllByRecursion, IsDistinct}
use Rattle.base_trees.specs.Rose.{Rose, node, Roses, label_of, length_all, depth_all}
use Rattle.base_texts.specs.Limits.{is_empty}
use Rattle.base_texts.specs.declared.white_space.WhiteSpace.TheVariants.{Preserve, Replace, Collapse}
use Rattle.simple_types.specs.declared.standards.Standard.{Standard}
use Rattle.simple_types.specs.declared.standards.Standard.TheVariants.{Free, Default, Fixed}
use Rattle.simple_types.specs.Space.{Space}
use Rattle.asn_types.specs.declared.marks.Instruction.{Instruction}
use Rattle.asn_types.specs.declared.marks.Instruction.TheVariants as mark
use Rattle.asn_types.specs.declared.roles.Role.{Role}
use Rattle.asn_types.specs.declared.roles.Role.TheVariants as role
use Rattle.asn_types.specs.declared.types.Component.{Component}
use Rattle.asn_types.specs.declared.types.Form.{Form}
use Rattle.asn_types.specs.declared.types.Form.TheVariants as form
use Rattle.asn_types.specs.declared.types.TypeLabel.{TypeLabel}
use Rattle.asn_types.specs.declared.modules.Assignment.{Assignment}
use Rattle.asn_types.specs.Bounds.{HasBounds}
use Rattle.asn_types.specs.Marks as marked
use Rattle.asn_types.specs.Modules as modules
use Rattle.asn_types.specs.Parts.{parts_of}
use Rattle.asn_types.specs.Refs as refs
use Rattle.asn_types.specs.Simples.{IsSimple}
use Rattle.module_text.specs.declared.values.Absence.TheVariants as absence
use Rattle.module_text.specs.declared.types.PlainLabel.{PlainLabel}
use Rattle.module_text.specs.declared.modules.PlainAssignment.{PlainAssignment}
use Rattle.module_text.specs.Plain.{limit}
use Rattle.module_text.specs.declared.spots.Spot.{Spot}
use Rattle.module_text.specs.declared.spots.Spot.TheVariants.{Elsewhere, Order, OrderItem}
use Rattle.module_text.specs.declared.reasons.ModuleWhy.TheVariants as why
use Rattle.module_text.specs.declared.reasons.TextFault.{TextFault}
use Rattle.module_text.specs.Told as told
use Rattle.module_text.specs.Resolving as resolving
use Rattle.module_text.specs.Simple as simple
use Rattle.module_text.specs.Orders as orders
use Rattle.module_text.specs.Faults as rule
use Rattle.module_text.specs.Printable as printable
use Rattle.module_laws.proofs.Firsts.{bytes-self}
use Rattle.module_unique.specs.Alike.{HasOctets}
use Rattle.module_unique.specs.Utf8Texts.{MarkIsUtf8, StandardIsUtf8, TypeIsUtf8}
use Rattle.module_unique.proofs.Telling.{name_at, type_marks_told, part_marks_told, fixed_told, standard_told, component_told, form_told, type_told, types_told, module_told}
use Rattle.module_unique.proofs.Digits.{octets_back}
use Rattle.module_unique.proofs.Words.{identifiers_in, words_are}
use Rattle.module_unique.proofs.Goods.{Good, GoodBody}
use Rattle.module_unique.proofs.Back.{number_found, spot_of_words, spot_of_order, free_standards}
use Rattle.module_unique.proofs.CleanForms.{stands-so, both-so, range_clean, size_clean, numbers_clean, words_clean, order_clean}
use Rattle.module_unique.proofs.CleanMarks.{part_marks_clean}
use Rattle.module_unique.proofs.CleanTypeMarks.{ListsFrom, words_from, none_from, Asks, type_marks_clean}
use Rattle.module_unique.proofs.CleanSimple.{stands_in, tells_simple}
use Rattle.module_unique.proofs.CleanRoles.{label_told, role_told, texts_told, content_told}
use Rattle.module_unique.proofs.CleanKnown.{Known}
use Rattle.module_unique.proofs.CleanOrders.{order_told}
use Rattle.module_unique.proofs.CleanDefaults.{xml_of, attribute_told, default_clean, fixed_clean}

or_more : (a b : Bool) → b ≡ true → (a || b) ≡ true
or_more true b e = refl
or_more false b e = e

-- what holds where some of them is so holds for each that is so
pub any_each : (X : Type 0) (p : Instruction → Bool) (ms : List Instruction) → (list_any p ms ≡ true → X) → All (λ m. p m ≡ true → X) ms
any_each X p [] h k d lt = absurd (omega (arith, lt))
any_each X p (m ∷ ms) h zero d lt = λ e. h (ap (λ b. b || list_any p ms) e)
any_each X p (m ∷ ms) h (suc k) d lt = any_each X p ms (λ e. h (or_more (p m) (list_any p ms) e)) k d (omega (arith, lt))

pub not_listed : (a b : Bool) → b ≡ false → not (a && b) ≡ true
not_listed true b e = ap not e
not_listed false b e = refl

pub if_none : (b : Bool) (fs : List TextFault) → fs ≡ [] → (if b then fs else []) ≡ []
if_none true fs e = e
if_none false fs e = refl

alike_so : (a b : Bool) → a ≡ b → rule.are_alike a b ≡ true
alike_so true b e = sym e
alike_so false b e = ap not (sym e)

item_spot_same : (spot : Spot) → simple.item_spot spot ≡ printable.item_spot spot
item_spot_same Order = refl
item_spot_same OrderItem = refl
item_spot_same Elsewhere = refl

order_role : (r : Role) → orders.is_order r ≡ printable.is_order r
order_role role.Order = refl
order_role r = refl

pub names_apart : (f : Form) → printable.HasNames f → IsDistinct bytes_eq (map (λ (part : Component). part.identifier) (parts_of f))
unfolding IsDistinct
names_apart (form.Sequence parts) has = has.1
names_apart (form.Choice parts) has = has.0.1
names_apart (form.SequenceOf part least most) has = (tt, tt)
names_apart form.Bool has = tt
names_apart (form.Int least greatest) has = tt
names_apart (form.Numbers numbers) has = tt
names_apart (form.Words identifiers words) has = tt
names_apart (form.Order identifiers) has = tt
names_apart (form.Utf8 least most class) has = tt
names_apart (form.Ref to) has = tt

module _ (M : List Assignment) (distinct : IsDistinct bytes_eq (map (λ (a : Assignment). a.reference) M)) (all : All (GoodBody M) M) (utf8 : All (λ (a : Assignment). TypeIsUtf8 a.body) M) where
  abbrev P : List PlainAssignment
  P = module_told M

  -- ---- the form

  reference_clean : (f : Form) (ts : Roses TypeLabel) → modules.IsForm M f → rule.reference_faults P (form_told M f ts) ≡ []
  reference_clean (form.Ref to) ts is = stands-so _ 0 why.Unresolved (ap is_some (number_found M distinct all to is))
  reference_clean form.Bool ts is = refl
  reference_clean (form.Int least greatest) ts is = refl
  reference_clean (form.Numbers numbers) ts is = refl
  reference_clean (form.Words identifiers words) ts is = refl
  reference_clean (form.Order identifiers) ts is = refl
  reference_clean (form.Utf8 least most class) ts is = refl
  reference_clean (form.Sequence parts) ts is = refl
  reference_clean (form.Choice parts) ts is = refl
  reference_clean (form.SequenceOf part least most) ts is = refl

  pub form_clean : (spot : Spot) (f : Form) (marks : List Instruction) (ts : Roses TypeLabel) → modules.IsForm M f → HasBounds f → printable.HasNames f → printable.IsInSpot spot f
      → printable.HasTypeMarks (record { form = f; marks = marks }) → rule.form_faults P spot (type_marks_told f marks) (form_told M f ts) ≡ []
  form_clean spot form.Bool marks ts is bounds names stands has = refl
  form_clean spot (form.Int least greatest) marks ts is bounds names stands has = range_clean least greatest is bounds.0 bounds.1
  form_clean spot (form.Numbers numbers) marks ts is bounds names stands has = numbers_clean numbers bounds is.1
  form_clean spot (form.Words identifiers words) marks ts is bounds names stands has =
      ap (λ b. rule.word_faults b [] None (map name_at identifiers) (told.words_of (type_marks_told (form.Words identifiers words) marks) (map name_at identifiers))) (spot_of_words spot identifiers words stands)
      ∙ ap (rule.word_faults false [] None (map name_at identifiers)) (words_are identifiers words marks is.2 names.1 has.texts)
      ∙ words_clean identifiers words names.1 is.1
  form_clean spot (form.Order identifiers) marks ts is bounds names stands has =
      ap (λ b. rule.word_faults b [] None (map name_at identifiers) (told.words_of (type_marks_told (form.Order identifiers) marks) (map name_at identifiers))) (spot_of_order spot identifiers stands)
      ∙ order_clean identifiers (told.words_of (type_marks_told (form.Order identifiers) marks) (map name_at identifiers)) names.1
  form_clean spot (form.Utf8 least most class) marks ts is bounds names stands has = size_clean least most is bounds.0 bounds.1
  form_clean spot (form.Sequence parts) marks ts is bounds names stands has = refl
  form_clean spot (form.Choice parts) marks ts is bounds names stands has = refl
  form_clean spot (form.SequenceOf part least most) marks ts is bounds names stands has = size_clean least most is bounds.0 bounds.1
  form_clean spot (form.Ref to) marks ts is bounds names stands has = reference_clean (form.Ref to) ts is

  lists_from : (spot : Spot) (f : Form) (ts : Roses TypeLabel) → printable.HasNames f → printable.IsInSpot spot f → ListsFrom spot (identifiers_in f) (form_told M f ts)
  lists_from spot (form.Words identifiers words) ts names stands = words_from spot identifiers (spot_of_words spot identifiers words stands) names.1
  lists_from spot f ts names stands = none_from spot (form_told M f ts)

  -- ---- its instructions

  is_list_told : (f : Form) (ts : Roses TypeLabel) → modules.IsSequenceOf f → orders.is_sequence_of (form_told M f ts) ≡ true
  is_list_told (form.SequenceOf part least most) ts is = refl
  is_list_told f ts is = absurd is

  is_choice_told : (f : Form) (ts : Roses TypeLabel) → modules.IsChoice f → orders.is_choice (form_told M f ts) ≡ true
  is_choice_told (form.Choice parts) ts is = refl
  is_choice_told f ts is = absurd is

  simple_here : (spot : Spot) (t : Rose TypeLabel) → Good M spot t → TypeIsUtf8 t → IsSimple t → simple.is_simple spot (type_told M t) ≡ true
  simple_here spot t good texts is = ap is_some (tells_simple M is.0 t spot spot (stands_in M spot t good) good texts is.2 is.1)

  module _ (spot : Spot) (l : TypeLabel) (ts : Roses TypeLabel) (good : Good M spot (node l ts)) (low : depth_all ts ≤ limit) (texts : TypeIsUtf8 (node l ts)) where
    abbrev L : PlainLabel
    L = label_told M l ts

    asks_one : (m : Instruction) → (marked.is_use_nil m ≡ true → orders.has_content L.form ≡ true) → (marked.is_embed_values m ≡ true → orders.has_texts L.form (types_told M ts) ≡ true)
        → (marked.is_use_order m ≡ true → orders.has_order_part P L (types_told M ts) ≡ true)
        → (marked.is_list m ≡ true → (orders.is_sequence_of L.form && simple.is_simple spot (node L (types_told M ts))) ≡ true)
        → (marked.is_use_union m ≡ true → (orders.is_choice L.form && simple.is_simple spot (node L (types_told M ts))) ≡ true)
        → Asks P spot L (types_told M ts) l.form (lists_from spot l.form ts good.0.printable.names good.0.printable.order) m
    asks_one (mark.Text item text) nil embed order list union = tt
    asks_one mark.UseNil nil embed order list union = λ least. nil refl
    asks_one mark.EmbedValues nil embed order list union = λ least. embed refl
    asks_one mark.UseOrder nil embed order list union = λ least. order refl
    asks_one mark.List nil embed order list union = λ least. list refl
    asks_one mark.UseUnion nil embed order list union = λ least. union refl
    asks_one (mark.WhiteSpace Preserve) nil embed order list union = λ least. refl
    asks_one (mark.WhiteSpace Replace) nil embed order list union = λ least. refl
    asks_one (mark.WhiteSpace Collapse) nil embed order list union = λ least. refl
    asks_one m nil embed order list union = λ least. refl

    pub marks_clean : rule.type_mark_faults P spot L (types_told M ts) None 0 L.marks ≡ []
    marks_clean =
        let well = good.0.well in
        let has = good.0.printable.marks in
        let here = simple_here spot (node l ts) good texts in
        let nil = any_each _ marked.is_use_nil l.marks (λ e. content_told M l.form ts good.0.long (well.use_nil e)) in
        let embed = any_each _ marked.is_embed_values l.marks (λ e. texts_told M l.form ts (well.embed_values e)) in
        let order = any_each _ marked.is_use_order l.marks (λ e. order_told M distinct all utf8 spot l ts good.0 good.1 low texts.1 (well.use_order e)) in
        let list = any_each _ marked.is_list l.marks (λ e. both-so (orders.is_sequence_of L.form) (simple.is_simple spot (node L (types_told M ts))) (is_list_told l.form ts (well.list e))
        (here (well.simple (ap (λ b. b || marked.has_use_union l.marks) e)))) in
        let union = any_each _ marked.is_use_union l.marks (λ e. both-so (orders.is_choice L.form) (simple.is_simple spot (node L (types_told M ts))) (is_choice_told l.form ts (well.use_union e))
        (here (well.simple (or_more (marked.has_list l.marks) (marked.has_use_union l.marks) e)))) in
        type_marks_clean P spot L (types_told M ts) l.form (lists_from spot l.form ts good.0.printable.names good.0.printable.order) l.marks has.order has.type has.each texts.0.marks has.texts
        (λ k d lt. asks_one _ (nil k d lt) (embed k d lt) (order k d lt) (list k d lt) (union k d lt))

  -- ---- its parts

  sequence_of_told : (f : Form) (ts : Roses TypeLabel) → orders.is_sequence_of (form_told M f ts) ≡ printable.is_sequence_of f
  sequence_of_told form.Bool ts = refl
  sequence_of_told (form.Int least greatest) ts = refl
  sequence_of_told (form.Numbers numbers) ts = refl
  sequence_of_told (form.Words identifiers words) ts = refl
  sequence_of_told (form.Order identifiers) ts = refl
  sequence_of_told (form.Utf8 least most class) ts = refl
  sequence_of_told (form.Sequence parts) ts = refl
  sequence_of_told (form.Choice parts) ts = refl
  sequence_of_told (form.SequenceOf part least most) ts = refl
  sequence_of_told (form.Ref to) ts = refl

  pub spot_told : (spot : Spot) (l : TypeLabel) (kids : Roses TypeLabel) (i : ℕ) (part : Component) (t : Rose TypeLabel) → length_all kids ≡ length (parts_of l.form) → printable.HasPartMarks part.identifier part.marks
      → rule.part_spot spot (label_told M l kids) i (component_told M part t) ≡ printable.part_spot spot l i part
  spot_told spot l kids i part t long has =
      ap (λ b. if b then simple.item_spot spot else (if orders.is_order (resolving.role_of (label_told M l kids) i (component_told M part t)) then Order else Elsewhere)) (sequence_of_told l.form kids)
      ∙ ap (λ r. if printable.is_sequence_of l.form then simple.item_spot spot else (if orders.is_order r then Order else Elsewhere)) (role_told M l kids i part t long has.part)
      ∙ ap₂ (λ s b. if printable.is_sequence_of l.form then s else (if b then Order else Elsewhere)) (item_spot_same spot) (order_role _)

  abbrev pub NamedSo : Bool → TypeLabel → Roses TypeLabel → List Component → Type 0
  NamedSo nameless l kids parts = AllByRecursion (λ (part : Component). (t : Rose TypeLabel) → rule.is_named_so nameless (form_told M l.form kids) (component_told M part t) ≡ true) parts

  every_named : (parts : List Component) (Q : Component → Type 0) → ((part : Component) → Q part) → AllByRecursion Q parts
  every_named [] Q q = tt
  every_named (part ∷ parts) Q q = (q part, every_named parts Q q)

  pub named_by : (nameless : Bool) (f : Form) (kids : Roses TypeLabel) → modules.IsItemNamed nameless f
      → AllByRecursion (λ (part : Component). (t : Rose TypeLabel) → rule.is_named_so nameless (form_told M f kids) (component_told M part t) ≡ true) (parts_of f)
  named_by nameless (form.SequenceOf part least most) kids is = ((λ t. alike_so (is_empty part.identifier) nameless is), tt)
  named_by nameless (form.Sequence parts) kids is = every_named parts _ (λ part t. refl)
  named_by nameless (form.Choice parts) kids is = every_named parts _ (λ part t. refl)
  named_by nameless form.Bool kids is = tt
  named_by nameless (form.Int least greatest) kids is = tt
  named_by nameless (form.Numbers numbers) kids is = tt
  named_by nameless (form.Words identifiers words) kids is = tt
  named_by nameless (form.Order identifiers) kids is = tt
  named_by nameless (form.Utf8 least most class) kids is = tt
  named_by nameless (form.Ref to) kids is = tt

  pub standards_are : (f : Form) (ts : Roses TypeLabel) → modules.HasStandards M f ts → modules.AreStandards M (parts_of f) ts
  standards_are (form.Sequence parts) ts has = has
  standards_are (form.Choice parts) ts has = free_standards M distinct all parts ts has
  standards_are (form.SequenceOf part least most) ts has = free_standards M distinct all (part ∷ []) ts (λ k d lt. one_free part has k d lt)
    where
      one_free : (part : Component) → part.standard ≡ Free → All (λ (p : Component). p.standard ≡ Free) (part ∷ [])
      one_free part e zero d lt = e
      one_free part e (suc k) d lt = absurd (omega (arith, lt))
  standards_are form.Bool ts has = tt
  standards_are (form.Int least greatest) ts has = tt
  standards_are (form.Numbers numbers) ts has = tt
  standards_are (form.Words identifiers words) ts has = tt
  standards_are (form.Order identifiers) ts has = tt
  standards_are (form.Utf8 least most class) ts has = tt
  standards_are (form.Ref to) ts has = tt

  pub label_clean : (t : Rose TypeLabel) (spot : Spot) → Good M spot t → rule.reference_faults P (label_of (type_told M t)).form ≡ []
  label_clean (node l ts) spot good = reference_clean l.form ts good.0.well.form

  module _ (spot : Spot) (part : Component) (t : Rose TypeLabel) (known : Known M t) (good : Good M spot t) where
    abbrev space : Option Space
    space = rule.space_at P spot (part_marks_told part.identifier part.marks) (type_told M t)

    pub fixed_by : (s : Standard) → modules.IsStandard M (record part { standard = s }) t → StandardIsUtf8 s → HasOctets s → rule.fixed_faults space (fixed_told s) ≡ []
    fixed_by Free is texts octets = refl
    fixed_by (Default text) is texts octets = refl
    fixed_by (Fixed text) is texts octets = fixed_clean M distinct all utf8 spot part.identifier part.marks t known good is.0 text is.1 (xml_of M t text is.1 texts) octets

    pub absence_by : (optional : Bool) (s : Standard) → modules.IsStandard M (record part { standard = s }) t → StandardIsUtf8 s → HasOctets s
        → rule.absence_faults space (fixed_told s) (resolving.resolve P (type_told M t)) (if optional then standard_told M t s else absence.Never) ≡ []
    absence_by false s is texts octets = refl
    absence_by true Free is texts octets = refl
    absence_by true (Default text) is texts octets = default_clean M distinct all utf8 spot part.identifier part.marks t known good is.0 text None is.2 (xml_of M t text is.2 texts) refl
    absence_by true (Fixed text) is texts octets =
        default_clean M distinct all utf8 spot part.identifier part.marks t known good is.0 text (fixed_told (Fixed text)) is.1 (xml_of M t text is.1 texts)
        (ap (λ o. elim o as (λ _. Bool) [ None ↦ false | Some fixed ↦ bytes_eq fixed text ]) (octets_back text octets) ∙ bytes-self text)

    pub own_marks_clean : printable.HasPartMarks part.identifier part.marks → All MarkIsUtf8 part.marks → (marked.has_attribute part.marks ≡ true → IsSimple (refs.resolve M t))
        → rule.part_mark_faults (is_some space) part.identifier None (part_marks_told part.identifier part.marks) ≡ []
    own_marks_clean has texts simple =
        part_marks_clean (is_some space) part.identifier part.marks has texts
        (any_each _ marked.is_attribute part.marks (λ e. attribute_told M distinct all utf8 spot part.identifier part.marks t known good e (simple e)))
