-- The parts of a type that is meant, and their roles.
use Rattle.std.proofs.Common.{◌≡◌, ℕ, suc, ◌+◌, Bool, true, false, ◌&&◌, ◌||◌, Option, Some, None, List, [], ◌∷◌, length, refl, ap, ◌∙◌, arith}
use Rattle.std.specs.Prelude.{◌==◌, if◌then◌else◌}
use Rattle.std.specs.List.{list_any}
use Rattle.base_trees.specs.Rose.{Rose, node, Roses, length_all}
use Rattle.base_trees.specs.Rose as rose
use Rattle.base_texts.specs.Limits.{is_empty}
use Rattle.simple_types.specs.declared.simples.Class.{Class}
use Rattle.asn_types.specs.declared.marks.Instruction.{Instruction}
use Rattle.asn_types.specs.declared.roles.Role.{Role}
use Rattle.asn_types.specs.declared.roles.Role.TheVariants.{Attribute, Element, Group, Content, Embed, Order, Item, Alternative}
use Rattle.asn_types.specs.declared.types.Component.{Component}
use Rattle.asn_types.specs.declared.types.TypeLabel.{TypeLabel}
use Rattle.asn_types.specs.Marks as marked
use Rattle.asn_types.specs.Parts as parts
use Rattle.asn_types.specs.Roles as roles
use Rattle.module_text.specs.declared.marks.PartMark.{PartMark}
use Rattle.module_text.specs.declared.marks.PartMarkKind.{PartMarkKind}
use Rattle.module_text.specs.declared.marks.PartMarkKind.TheVariants as part_mark
use Rattle.module_text.specs.declared.marks.TypeMark.{TypeMark}
use Rattle.module_text.specs.declared.marks.TypeMarkKind.{TypeMarkKind}
use Rattle.module_text.specs.declared.marks.TypeMarkKind.TheVariants as type_mark
use Rattle.module_text.specs.declared.types.PlainName.{PlainName}
use Rattle.module_text.specs.declared.types.PlainPart.{PlainPart}
use Rattle.module_text.specs.declared.types.PlainForm.{PlainForm}
use Rattle.module_text.specs.declared.types.PlainForm.TheVariants as form
use Rattle.module_text.specs.declared.types.PlainLabel.{PlainLabel}
use Rattle.module_text.specs.declared.modules.PlainAssignment.{PlainAssignment}
use Rattle.module_text.specs.Texts.{parts_of}
use Rattle.module_text.specs.declared.spots.Spot.{Spot}
use Rattle.module_text.specs.Told as told
use Rattle.module_text.specs.Told.{Bounds, Sizes, range_of, sizes_of}
use Rattle.module_text.specs.Resolving.{order_place, is_item, role_of}
use Rattle.module_text.specs.Simple.{is_order_item}
use Rattle.module_text.specs.Meaning.{part_mark_meant, part_marks_meant, type_mark_meant, type_marks_meant, words_meant, int_meant, utf8_meant, list_meant, component_meant, components_meant, form_meant}

-- ---- instructions

module _ (g : List ℕ) (p : Instruction → Bool) (q : PartMark → Bool) (same : (at : ℕ) (k : PartMarkKind) → p (part_mark_meant g k) ≡ q (record { at = at; kind = k })) where
  part_any : (ms : List PartMark) → list_any p (part_marks_meant g ms) ≡ list_any q ms
  part_any [] = refl
  part_any (m ∷ ms) = ap (λ b. b || list_any p (part_marks_meant g ms)) (same m.at m.kind) ∙ ap (λ b. q m || b) (part_any ms)

module _ (spot : Spot) (f : PlainForm) (p : Instruction → Bool) (q : TypeMark → Bool) (same : (at : ℕ) (k : TypeMarkKind) → p (type_mark_meant spot f k) ≡ q (record { at = at; kind = k })) where
  type_any : (ms : List TypeMark) → list_any p (type_marks_meant spot f ms) ≡ list_any q ms
  type_any [] = refl
  type_any (m ∷ ms) = ap (λ b. b || list_any p (type_marks_meant spot f ms)) (same m.at m.kind) ∙ ap (λ b. q m || b) (type_any ms)

attribute_by : (g : List ℕ) (at : ℕ) (k : PartMarkKind) → marked.is_attribute (part_mark_meant g k) ≡ told.is_attribute (record { at = at; kind = k })
attribute_by g at part_mark.Attribute = refl
attribute_by g at part_mark.Untagged = refl
attribute_by g at (part_mark.Name name) = refl
attribute_by g at (part_mark.Namespace space) = refl

untagged_by : (g : List ℕ) (at : ℕ) (k : PartMarkKind) → marked.is_untagged (part_mark_meant g k) ≡ told.is_untagged (record { at = at; kind = k })
untagged_by g at part_mark.Attribute = refl
untagged_by g at part_mark.Untagged = refl
untagged_by g at (part_mark.Name name) = refl
untagged_by g at (part_mark.Namespace space) = refl

nil_by : (spot : Spot) (f : PlainForm) (at : ℕ) (k : TypeMarkKind) → marked.is_use_nil (type_mark_meant spot f k) ≡ told.is_use_nil (record { at = at; kind = k })
nil_by spot f at type_mark.UseNil = refl
nil_by spot f at type_mark.EmbedValues = refl
nil_by spot f at type_mark.UseOrder = refl
nil_by spot f at type_mark.List = refl
nil_by spot f at type_mark.UseUnion = refl
nil_by spot f at type_mark.UseNumber = refl
nil_by spot f at type_mark.Replace = refl
nil_by spot f at type_mark.Collapse = refl
nil_by spot f at (type_mark.Text identifier text) = refl

embed_by : (spot : Spot) (f : PlainForm) (at : ℕ) (k : TypeMarkKind) → marked.is_embed_values (type_mark_meant spot f k) ≡ told.is_embed_values (record { at = at; kind = k })
embed_by spot f at type_mark.UseNil = refl
embed_by spot f at type_mark.EmbedValues = refl
embed_by spot f at type_mark.UseOrder = refl
embed_by spot f at type_mark.List = refl
embed_by spot f at type_mark.UseUnion = refl
embed_by spot f at type_mark.UseNumber = refl
embed_by spot f at type_mark.Replace = refl
embed_by spot f at type_mark.Collapse = refl
embed_by spot f at (type_mark.Text identifier text) = refl

order_by : (spot : Spot) (f : PlainForm) (at : ℕ) (k : TypeMarkKind) → marked.is_use_order (type_mark_meant spot f k) ≡ told.is_use_order (record { at = at; kind = k })
order_by spot f at type_mark.UseNil = refl
order_by spot f at type_mark.EmbedValues = refl
order_by spot f at type_mark.UseOrder = refl
order_by spot f at type_mark.List = refl
order_by spot f at type_mark.UseUnion = refl
order_by spot f at type_mark.UseNumber = refl
order_by spot f at type_mark.Replace = refl
order_by spot f at type_mark.Collapse = refl
order_by spot f at (type_mark.Text identifier text) = refl

list_by : (spot : Spot) (f : PlainForm) (at : ℕ) (k : TypeMarkKind) → marked.is_list (type_mark_meant spot f k) ≡ told.is_list (record { at = at; kind = k })
list_by spot f at type_mark.UseNil = refl
list_by spot f at type_mark.EmbedValues = refl
list_by spot f at type_mark.UseOrder = refl
list_by spot f at type_mark.List = refl
list_by spot f at type_mark.UseUnion = refl
list_by spot f at type_mark.UseNumber = refl
list_by spot f at type_mark.Replace = refl
list_by spot f at type_mark.Collapse = refl
list_by spot f at (type_mark.Text identifier text) = refl

union_by : (spot : Spot) (f : PlainForm) (at : ℕ) (k : TypeMarkKind) → marked.is_use_union (type_mark_meant spot f k) ≡ told.is_use_union (record { at = at; kind = k })
union_by spot f at type_mark.UseNil = refl
union_by spot f at type_mark.EmbedValues = refl
union_by spot f at type_mark.UseOrder = refl
union_by spot f at type_mark.List = refl
union_by spot f at type_mark.UseUnion = refl
union_by spot f at type_mark.UseNumber = refl
union_by spot f at type_mark.Replace = refl
union_by spot f at type_mark.Collapse = refl
union_by spot f at (type_mark.Text identifier text) = refl

no_attribute_by : (spot : Spot) (f : PlainForm) (at : ℕ) (k : TypeMarkKind) → marked.is_attribute (type_mark_meant spot f k) ≡ false
no_attribute_by spot f at type_mark.UseNil = refl
no_attribute_by spot f at type_mark.EmbedValues = refl
no_attribute_by spot f at type_mark.UseOrder = refl
no_attribute_by spot f at type_mark.List = refl
no_attribute_by spot f at type_mark.UseUnion = refl
no_attribute_by spot f at type_mark.UseNumber = refl
no_attribute_by spot f at type_mark.Replace = refl
no_attribute_by spot f at type_mark.Collapse = refl
no_attribute_by spot f at (type_mark.Text identifier text) = refl

pub attribute-same : (g : List ℕ) (ms : List PartMark) → marked.has_attribute (part_marks_meant g ms) ≡ told.has_attribute ms
attribute-same g ms = part_any g marked.is_attribute told.is_attribute (attribute_by g) ms

pub untagged-same : (g : List ℕ) (ms : List PartMark) → marked.has_untagged (part_marks_meant g ms) ≡ told.has_untagged ms
untagged-same g ms = part_any g marked.is_untagged told.is_untagged (untagged_by g) ms

pub nil-same : (spot : Spot) (f : PlainForm) (ms : List TypeMark) → marked.has_use_nil (type_marks_meant spot f ms) ≡ told.has_use_nil ms
nil-same spot f ms = type_any spot f marked.is_use_nil told.is_use_nil (nil_by spot f) ms

pub embed-same : (spot : Spot) (f : PlainForm) (ms : List TypeMark) → marked.has_embed_values (type_marks_meant spot f ms) ≡ told.has_embed_values ms
embed-same spot f ms = type_any spot f marked.is_embed_values told.is_embed_values (embed_by spot f) ms

pub order-same : (spot : Spot) (f : PlainForm) (ms : List TypeMark) → marked.has_use_order (type_marks_meant spot f ms) ≡ told.has_use_order ms
order-same spot f ms = type_any spot f marked.is_use_order told.is_use_order (order_by spot f) ms

pub list-same : (spot : Spot) (f : PlainForm) (ms : List TypeMark) → marked.has_list (type_marks_meant spot f ms) ≡ told.has_list ms
list-same spot f ms = type_any spot f marked.is_list told.is_list (list_by spot f) ms

pub union-same : (spot : Spot) (f : PlainForm) (ms : List TypeMark) → marked.has_use_union (type_marks_meant spot f ms) ≡ told.has_use_union ms
union-same spot f ms = type_any spot f marked.is_use_union told.is_use_union (union_by spot f) ms

pub no_attribute : (spot : Spot) (f : PlainForm) (ms : List TypeMark) → marked.has_attribute (type_marks_meant spot f ms) ≡ false
no_attribute spot f [] = refl
no_attribute spot f (m ∷ ms) = ap (λ b. b || marked.has_attribute (type_marks_meant spot f ms)) (no_attribute_by spot f m.at m.kind) ∙ no_attribute spot f ms

-- ---- parts

int_parts : (o : Option Bounds) → parts.parts_of (int_meant o) ≡ []
int_parts None = refl
int_parts (Some b) = refl

utf8_parts : (o : Option Sizes) (class : Class) → parts.parts_of (utf8_meant o class) ≡ []
utf8_parts None class = refl
utf8_parts (Some b) class = refl

words_parts : (order : Bool) (ms : List TypeMark) (is : List PlainName) → parts.parts_of (words_meant order ms is) ≡ []
words_parts true ms is = refl
words_parts false ms is = refl

pub list_parts : (o : Option Sizes) (part : Component) → parts.parts_of (list_meant o part) ≡ part ∷ []
list_parts None part = refl
list_parts (Some b) part = refl

int_item : (o : Option Bounds) (part : Component) → roles.is_item (int_meant o) part ≡ false
int_item None part = refl
int_item (Some b) part = refl

utf8_item : (o : Option Sizes) (class : Class) (part : Component) → roles.is_item (utf8_meant o class) part ≡ false
utf8_item None class part = refl
utf8_item (Some b) class part = refl

words_item : (order : Bool) (ms : List TypeMark) (is : List PlainName) (part : Component) → roles.is_item (words_meant order ms is) part ≡ false
words_item true ms is part = refl
words_item false ms is part = refl

list_item : (o : Option Sizes) (item part : Component) → roles.is_item (list_meant o item) part ≡ is_empty part.identifier
list_item None item part = refl
list_item (Some b) item part = refl

module _ (P : List PlainAssignment) where
  pub parts_by : (at : ℕ) (ms : List TypeMark) (f : PlainForm) (ts : Roses PlainLabel) (spot : Spot) → length_all ts ≡ length (parts_of f)
      → let l : PlainLabel = record { at = at; marks = ms; form = f } in
      parts.parts_of (form_meant P spot l ts) ≡ components_meant P spot l 0 (parts_of f) ts
  parts_by at ms form.Bool ts spot long = refl
  parts_by at ms (form.Int r) ts spot long = int_parts (range_of r)
  parts_by at ms (form.Numbers items) ts spot long = refl
  parts_by at ms (form.Words is) ts spot long = words_parts (is_order_item spot) ms is
  parts_by at ms (form.Utf8 size class) ts spot long = utf8_parts (sizes_of size) class
  parts_by at ms (form.Sequence components) ts spot long = refl
  parts_by at ms (form.Choice alternatives) ts spot long = refl
  parts_by at ms (form.SequenceOf size item) rose.none spot long = absurd (omega (arith, long))
  parts_by at ms (form.SequenceOf size item) (rose.more t ts) spot long = list_parts (sizes_of size) _
  parts_by at ms (form.Ref reference) ts spot long = refl

  pub parts-meant : (l : PlainLabel) (ts : Roses PlainLabel) (spot : Spot) → length_all ts ≡ length (parts_of l.form)
      → parts.parts_of (form_meant P spot l ts) ≡ components_meant P spot l 0 (parts_of l.form) ts
  parts-meant l ts spot long = parts_by l.at l.marks l.form ts spot long

  pub components-long : (spot : Spot) (l : PlainLabel) (i : ℕ) (ps : List PlainPart) (ts : Roses PlainLabel) → length_all ts ≡ length ps
      → length (components_meant P spot l i ps ts) ≡ length ps
  components-long spot l i [] ts long = refl
  components-long spot l i (part ∷ ps) rose.none long = absurd (omega (arith, long))
  components-long spot l i (part ∷ ps) (rose.more t ts) long = ap suc (components-long spot l (i + 1) ps ts (omega (arith, long)))

  item_by : (at : ℕ) (ms : List TypeMark) (f : PlainForm) (ts : Roses PlainLabel) (spot : Spot) (part : PlainPart) (c : Component) → c.identifier ≡ part.identifier
      → roles.is_item (form_meant P spot (record { at = at; marks = ms; form = f }) ts) c ≡ is_item f part
  item_by at ms form.Bool ts spot part c same = refl
  item_by at ms (form.Int r) ts spot part c same = int_item (range_of r) c
  item_by at ms (form.Numbers items) ts spot part c same = refl
  item_by at ms (form.Words is) ts spot part c same = words_item (is_order_item spot) ms is c
  item_by at ms (form.Utf8 size class) ts spot part c same = utf8_item (sizes_of size) class c
  item_by at ms (form.Sequence components) ts spot part c same = refl
  item_by at ms (form.Choice alternatives) ts spot part c same = refl
  item_by at ms (form.SequenceOf size item) ts spot part c same = list_item (sizes_of size) _ c ∙ ap (λ n. is_empty n) same
  item_by at ms (form.Ref reference) ts spot part c same = refl

  -- the label of the type that is meant
  abbrev pub label_meant : Spot → PlainLabel → Roses PlainLabel → TypeLabel
  label_meant spot l ts = record { form = form_meant P spot l ts; marks = type_marks_meant spot l.form l.marks }

  abbrev role_as : Bool → Bool → Bool → Bool → Bool → Bool → Bool → Role
  role_as a b c d e f g =
      if a then Attribute else (if b then Group else (if c then Content else (if d then Embed else (if e then Order else (if f then Item else (if g then Alternative else Element))))))

  -- A part has the role that it has in the text.
  pub role-same : (spot : Spot) (l : PlainLabel) (ts : Roses PlainLabel) (i : ℕ) (there : Spot) (part : PlainPart) (t : Rose PlainLabel) → length_all ts ≡ length (parts_of l.form)
      → roles.role_of (label_meant spot l ts) i (component_meant P there part t) ≡ role_of l i part
  role-same spot l ts i there part t long =
      let to = label_meant spot l ts in
      let c = component_meant P there part t in
      let a = told.has_attribute part.marks in
      let b = told.has_untagged part.marks in
      let n = told.has_use_nil l.marks && (i + 1 == length (parts_of l.form)) in
      let d = (i == 0) && told.has_embed_values l.marks in
      let e = (i == order_place l.marks) && told.has_use_order l.marks in
      let f = is_item l.form part in
      let many : length (parts.parts_of to.form) ≡ length (parts_of l.form) =
      ap length (parts-meant l ts spot long) ∙ components-long spot l 0 (parts_of l.form) ts long in
      ap (λ x. role_as x (marked.has_untagged c.marks) (roles.is_content to i) (roles.is_embed to i) (roles.is_order to i) (roles.is_item to.form c) (marked.has_use_union to.marks)) (attribute-same part.identifier part.marks)
      ∙ ap (λ x. role_as a x (roles.is_content to i) (roles.is_embed to i) (roles.is_order to i) (roles.is_item to.form c) (marked.has_use_union to.marks)) (untagged-same part.identifier part.marks)
      ∙ ap (λ x. role_as a b (x && (i + 1 == length (parts.parts_of to.form))) (roles.is_embed to i) (roles.is_order to i) (roles.is_item to.form c) (marked.has_use_union to.marks)) (nil-same spot l.form l.marks)
      ∙ ap (λ x. role_as a b (told.has_use_nil l.marks && (i + 1 == x)) (roles.is_embed to i) (roles.is_order to i) (roles.is_item to.form c) (marked.has_use_union to.marks)) many
      ∙ ap (λ x. role_as a b n ((i == 0) && x) ((i == (if x then 1 else 0)) && marked.has_use_order to.marks) (roles.is_item to.form c) (marked.has_use_union to.marks)) (embed-same spot l.form l.marks)
      ∙ ap (λ x. role_as a b n d ((i == order_place l.marks) && x) (roles.is_item to.form c) (marked.has_use_union to.marks)) (order-same spot l.form l.marks)
      ∙ ap (λ x. role_as a b n d e x (marked.has_use_union to.marks)) (item_by l.at l.marks l.form ts spot part c refl)
      ∙ ap (λ x. role_as a b n d e f x) (union-same spot l.form l.marks)
