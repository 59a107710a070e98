-- What is told one after another is told at once.
use Rattle.std.proofs.Common.{◌≡◌, ℕ, Bool, true, false, cond, List, [], ◌∷◌, ◌++◌, length, drop, Some, None, is_some, refl, sym, ap, ◌∙◌, append_assoc, length-append, ◌<◌, inl, inr, true≢false, arith}
use Rattle.std.specs.Prelude.{◌⊎◌, ◌||◌, bytes_eq, codes}
use Rattle.std.specs.List.{flat_map}
use Rattle.std.specs.Map.{lookup}
use Rattle.std.proofs.lemmas.List.{append-nil}
use Rattle.std.proofs.lemmas.Slice.Eq.{bytes_eq-Decides}
use Rattle.base_texts.specs.declared.texts.Name.{Name}
use Rattle.base_texts.specs.Limits.{is_empty}
use Rattle.base_texts.specs.Namespaces.{xml_space}
use Rattle.base_trees.specs.Rose.{Rose, node, Roses, none, more, roses_of}
use Rattle.xml_items.specs.declared.label.ItemLabel.{ItemLabel}
use Rattle.xml_items.specs.declared.label.ItemLabel.TheVariants.{Element}
use Rattle.xml_write.specs.Spaces.{prefixes, prefix_for, or_none, attribute_spaces, spaces, all_spaces}
use Rattle.xml_write.specs.Written.{text_escape, written_name, written_value, written_attribute, written_declaration, written_end, xml_declaration, spelled, all_spelled, written}
use Rattle.xml_write.specs.declared.builder.TextBuilder.{TextBuilder}
use Rattle.xml_write.specs.declared.builder.OpenTag.{OpenTag}
use Rattle.xml_write.specs.declared.prefixes.Qualifier.{Qualifier}
use Rattle.xml_write.specs.Private.Binding.{qualifier_text, before_local, is_bound, next_prefix, with_space, with_spaces}
use Rattle.xml_write.specs.Private.Elements.{element_text, written_words}
use Rattle.xml_write.specs.Telling.{Extends, end_of_tag, before_items, is_still_in_tag, words_in, IsBegun, EndsTag, Told, Tells, Begun, Begins, Closes}
use Rattle.xml_write.proofs.Written.{with_spaces-append, written-parts}
use Rattle.xml_write.proofs.Qualified.{named-written, attribute-regroup}
use Rattle.xml_write.proofs.WrittenSpaces.{with_spaces-prefixes}

-- ---- tables that grow

pub extends-same : (table : List (List ℕ × List ℕ)) → Extends table table
extends-same table = ([], sym (append-nil table))

pub extends-as : (a b whole : List (List ℕ × List ℕ)) → a ≡ b → Extends a whole → Extends b whole
extends-as a b whole same x = (x.0, x.1 ∙ ap (λ t. t ++ x.0) same)

pub extends-space : (table whole : List (List ℕ × List ℕ)) (space : List ℕ) → Extends (with_space table space) whole → Extends table whole
extends-space table whole space x = by (is_bound table space) x
  where
    by : (b : Bool) → Extends (cond b table (table ++ (space, next_prefix table space) ∷ [])) whole → Extends table whole
    by true x = x
    by false x = ((space, next_prefix table space) ∷ x.0, x.1 ∙ append_assoc table ((space, next_prefix table space) ∷ []) x.0)

pub extends-spaces : (table whole : List (List ℕ × List ℕ)) (more_spaces : List (List ℕ)) → Extends (with_spaces table more_spaces) whole → Extends table whole
extends-spaces table whole [] x = x
extends-spaces table whole (space ∷ more_spaces) x = extends-space table whole space (extends-spaces (with_space table space) whole more_spaces x)

-- ---- a prefix that is found stays

lookup-kept : (test : List ℕ → Bool) (table entries : List (List ℕ × List ℕ)) → is_some (lookup test table) ≡ true → lookup test (table ++ entries) ≡ lookup test table
lookup-kept test [] entries found = absurd (cc)
lookup-kept test (e ∷ table) entries found = by (test e.0) found (lookup-kept test table entries)
  where
    by : (b : Bool) → is_some (cond b (Some e.1) (lookup test table)) ≡ true → (is_some (lookup test table) ≡ true → lookup test (table ++ entries) ≡ lookup test table)
        → cond b (Some e.1) (lookup test (table ++ entries)) ≡ cond b (Some e.1) (lookup test table)
    by true h further = refl
    by false h further = further h

before-kept : (table entries : List (List ℕ × List ℕ)) (space : List ℕ) → is_bound table space ≡ true → before_local (table ++ entries) space ≡ before_local table space
before-kept table entries space bound = by (is_empty space) (bytes_eq space xml_space) bound
  where
    by : (a b : Bool) → (a || b || is_some (lookup (bytes_eq space) table)) ≡ true
        → cond a [] (cond b (codes "xml") (or_none (lookup (bytes_eq space) (table ++ entries))) ++ 58 ∷ []) ≡ cond a [] (cond b (codes "xml") (or_none (lookup (bytes_eq space) table)) ++ 58 ∷ [])
    by true b h = refl
    by false true h = refl
    by false false h = ap (λ o. or_none o ++ 58 ∷ []) (lookup-kept (bytes_eq space) table entries h)

lookup-last : (table : List (List ℕ × List ℕ)) (space prefix : List ℕ) → is_some (lookup (bytes_eq space) (table ++ (space, prefix) ∷ [])) ≡ true
lookup-last [] space prefix = by (bytes_eq space space) ((bytes_eq-Decides space space).1 refl)
  where
    by : (b : Bool) → b ≡ true → is_some (cond b (Some prefix) None) ≡ true
    by true e = refl
    by false e = absurd (cc)
lookup-last (e ∷ table) space prefix = by (bytes_eq space e.0) (lookup-last table space prefix)
  where
    by : (b : Bool) → is_some (lookup (bytes_eq space) (table ++ (space, prefix) ∷ [])) ≡ true → is_some (cond b (Some e.1) (lookup (bytes_eq space) (table ++ (space, prefix) ∷ []))) ≡ true
    by true h = refl
    by false h = h

last_true : (a b c : Bool) → c ≡ true → (a || b || c) ≡ true
last_true true b c e = refl
last_true false true c e = refl
last_true false false c e = e

pub now-bound : (table : List (List ℕ × List ℕ)) (space : List ℕ) → is_bound (with_space table space) space ≡ true
now-bound table space = by (is_bound table space) refl
  where
    by : (b : Bool) → is_bound table space ≡ b → is_bound (cond b table (table ++ (space, next_prefix table space) ∷ [])) space ≡ true
    by true e = e
    by false e = last_true (is_empty space) (bytes_eq space xml_space) (is_some (lookup (bytes_eq space) (table ++ (space, next_prefix table space) ∷ []))) (lookup-last table space (next_prefix table space))

named-by : (b : Bool) (prefix local : List ℕ) → cond b [] (prefix ++ 58 ∷ []) ++ local ≡ cond b local (prefix ++ 58 ∷ local)
named-by true prefix local = refl
named-by false prefix local = append_assoc prefix (58 ∷ []) local

-- the name that is written now is that of every table to come
pub name-kept : (old table new : List (List ℕ × List ℕ)) (name : Name) (before : List ℕ) → new ≡ with_space old name.space → before ≡ before_local new name.space → Extends new table
    → before ++ name.local ≡ written_name table name
name-kept old table new name before is e x =
    let bound : is_bound new name.space ≡ true = ap (λ t. is_bound t name.space) is ∙ now-bound old name.space in
    ap (λ (s : List ℕ). s ++ name.local) (e ∙ sym (before-kept new x.0 name.space bound) ∙ ap (λ t. before_local t name.space) (sym x.1))
    ∙ named-by (is_empty name.space) (prefix_for table name.space) name.local

-- ---- one after another

all-spelled-append : (table : List (List ℕ × List ℕ)) (a b : List (Rose ItemLabel)) → all_spelled table (roses_of (a ++ b)) ≡ all_spelled table (roses_of a) ++ all_spelled table (roses_of b)
all-spelled-append table [] b = refl
all-spelled-append table (x ∷ a) b =
    ap (λ s. spelled table [] x ++ s) (all-spelled-append table a b) ∙ sym (append_assoc (spelled table [] x) (all_spelled table (roses_of a)) (all_spelled table (roses_of b)))

all-spaces-append : (a b : List (Rose ItemLabel)) → all_spaces (roses_of (a ++ b)) ≡ all_spaces (roses_of a) ++ all_spaces (roses_of b)
all-spaces-append [] b = refl
all-spaces-append (x ∷ a) b = ap (λ s. spaces x ++ s) (all-spaces-append a b) ∙ sym (append_assoc (spaces x) (all_spaces (roses_of a)) (all_spaces (roses_of b)))

attributes-append : (table : List (List ℕ × List ℕ)) (a b : List (Name × List ℕ)) → flat_map (written_attribute table) (a ++ b) ≡ flat_map (written_attribute table) a ++ flat_map (written_attribute table) b
attributes-append table [] b = refl
attributes-append table (x ∷ a) b =
    ap (λ s. written_attribute table x ++ s) (attributes-append table a b) ∙ sym (append_assoc (written_attribute table x) (flat_map (written_attribute table) a) (flat_map (written_attribute table) b))

attribute-spaces-append : (a b : List (Name × List ℕ)) → attribute_spaces (a ++ b) ≡ attribute_spaces a ++ attribute_spaces b
attribute-spaces-append [] b = refl
attribute-spaces-append (x ∷ a) b = ap (λ s. x.0.space ∷ s) (attribute-spaces-append a b)

pub tells-nothing : (b : TextBuilder) → Tells b b [] []
tells-nothing b late = record {
  on_time = late;
  prefixes = refl;
  in_tag = refl;
  order = inl refl;
  text = λ table x. sym (append-nil b.text.items);
}

-- the attributes stand before all items, so that none is told behind an item
in-order : (in_tag mid_tag : Bool) (a : List (Rose ItemLabel)) (y : List (Name × List ℕ)) → mid_tag ≡ is_still_in_tag in_tag a → (y ≡ []) ⊎ (mid_tag ≡ true) → (y ≡ []) ⊎ ((a ≡ []) × (in_tag ≡ true))
in-order in_tag mid_tag a y is (inl none_there) = inl none_there
in-order in_tag mid_tag [] y is (inr e) = inr (refl, sym is ∙ e)
in-order in_tag mid_tag (i ∷ a) y is (inr e) = absurd (true≢false (sym e ∙ is))

still-append : (in_tag : Bool) (a b : List (Rose ItemLabel)) → is_still_in_tag (is_still_in_tag in_tag a) b ≡ is_still_in_tag in_tag (a ++ b)
still-append in_tag [] b = refl
still-append in_tag (i ∷ a) [] = refl
still-append in_tag (i ∷ a) (j ∷ b) = refl

before-append : (in_tag : Bool) (a b : List (Rose ItemLabel)) (A B : List ℕ) → (a ≡ [] → A ≡ []) → (before_items in_tag a ++ A) ++ (before_items (is_still_in_tag in_tag a) b ++ B) ≡ before_items in_tag (a ++ b) ++ (A ++ B)
before-append in_tag [] b A B none_there = ap (λ s. s ++ (before_items in_tag b ++ B)) (none_there refl) ∙ ap (λ s. before_items in_tag b ++ (s ++ B)) (sym (none_there refl))
before-append in_tag (i ∷ a) [] A B none_there = append_assoc (end_of_tag in_tag) A B
before-append in_tag (i ∷ a) (j ∷ b) A B none_there = append_assoc (end_of_tag in_tag) A B

spaces-both : (xs ys : List (Name × List ℕ)) (a b : List (Rose ItemLabel)) → (ys ≡ []) ⊎ (a ≡ [])
    → (attribute_spaces xs ++ all_spaces (roses_of a)) ++ (attribute_spaces ys ++ all_spaces (roses_of b)) ≡ attribute_spaces (xs ++ ys) ++ all_spaces (roses_of (a ++ b))
spaces-both xs [] a b order =
    append_assoc (attribute_spaces xs) (all_spaces (roses_of a)) (all_spaces (roses_of b))
    ∙ ap (λ s. attribute_spaces xs ++ s) (sym (all-spaces-append a b)) ∙ ap (λ s. attribute_spaces s ++ all_spaces (roses_of (a ++ b))) (sym (append-nil xs))
spaces-both xs (y ∷ ys) [] b order =
    ap (λ s. s ++ (attribute_spaces (y ∷ ys) ++ all_spaces (roses_of b))) (append-nil (attribute_spaces xs))
    ∙ sym (append_assoc (attribute_spaces xs) (attribute_spaces (y ∷ ys)) (all_spaces (roses_of b)))
    ∙ ap (λ s. s ++ all_spaces (roses_of b)) (sym (attribute-spaces-append xs (y ∷ ys)))
spaces-both xs (y ∷ ys) (i ∷ a) b (inl e) = absurd (cc)
spaces-both xs (y ∷ ys) (i ∷ a) b (inr e) = absurd (cc)

text-both : (table : List (List ℕ × List ℕ)) (in_tag : Bool) (xs ys : List (Name × List ℕ)) (a b : List (Rose ItemLabel)) → (ys ≡ []) ⊎ (a ≡ [])
    → (flat_map (written_attribute table) xs ++ (before_items in_tag a ++ all_spelled table (roses_of a)))
    ++ (flat_map (written_attribute table) ys ++ (before_items (is_still_in_tag in_tag a) b ++ all_spelled table (roses_of b)))
    ≡ flat_map (written_attribute table) (xs ++ ys) ++ (before_items in_tag (a ++ b) ++ all_spelled table (roses_of (a ++ b)))
text-both table in_tag xs [] a b order =
    append_assoc (flat_map (written_attribute table) xs) (before_items in_tag a ++ all_spelled table (roses_of a)) (before_items (is_still_in_tag in_tag a) b ++ all_spelled table (roses_of b))
    ∙ ap (λ s. flat_map (written_attribute table) xs ++ s) (before-append in_tag a b (all_spelled table (roses_of a)) (all_spelled table (roses_of b)) (λ e. ap (λ s. all_spelled table (roses_of s)) e))
    ∙ ap (λ s. flat_map (written_attribute table) xs ++ (before_items in_tag (a ++ b) ++ s)) (sym (all-spelled-append table a b))
    ∙ ap (λ s. flat_map (written_attribute table) s ++ (before_items in_tag (a ++ b) ++ all_spelled table (roses_of (a ++ b)))) (sym (append-nil xs))
text-both table in_tag xs (y ∷ ys) [] b order =
    ap (λ s. s ++ (flat_map (written_attribute table) (y ∷ ys) ++ (before_items in_tag b ++ all_spelled table (roses_of b)))) (append-nil (flat_map (written_attribute table) xs))
    ∙ sym (append_assoc (flat_map (written_attribute table) xs) (flat_map (written_attribute table) (y ∷ ys)) (before_items in_tag b ++ all_spelled table (roses_of b)))
    ∙ ap (λ s. s ++ (before_items in_tag b ++ all_spelled table (roses_of b))) (sym (attributes-append table xs (y ∷ ys)))
text-both table in_tag xs (y ∷ ys) (i ∷ a) b (inl e) = absurd (cc)
text-both table in_tag xs (y ∷ ys) (i ∷ a) b (inr e) = absurd (cc)

or-empty : (in_tag : Bool) (a : List (Rose ItemLabel)) (ys : List (Name × List ℕ)) → (ys ≡ []) ⊎ ((a ≡ []) × (in_tag ≡ true)) → (ys ≡ []) ⊎ (a ≡ [])
or-empty in_tag a ys (inl e) = inl e
or-empty in_tag a ys (inr e) = inr e.0

in-order-both : (in_tag : Bool) (a : List (Rose ItemLabel)) (xs ys : List (Name × List ℕ)) → (xs ≡ []) ⊎ (in_tag ≡ true) → (ys ≡ []) ⊎ ((a ≡ []) × (in_tag ≡ true)) → (xs ++ ys ≡ []) ⊎ (in_tag ≡ true)
in-order-both in_tag a xs ys (inr e) other = inr e
in-order-both in_tag a xs ys (inl e) (inr f) = inr f.1
in-order-both in_tag a xs ys (inl e) (inl f) = inl (ap (λ s. s ++ ys) e ∙ f)

told-both : (x y z : TextBuilder) (xs ys : List (Name × List ℕ)) (a b : List (Rose ItemLabel)) → Told x y xs a → Told y z ys b → Told x z (xs ++ ys) (a ++ b)
told-both x y z xs ys a b one other =
    let order = in-order x.in_tag y.in_tag a ys one.in_tag other.order in
    let apart = or-empty x.in_tag a ys order in
    record {
      on_time = one.on_time;
      prefixes = other.prefixes
          ∙ ap (λ t. with_spaces t (attribute_spaces ys ++ all_spaces (roses_of b))) one.prefixes
          ∙ sym (with_spaces-append x.prefixes (attribute_spaces xs ++ all_spaces (roses_of a)) (attribute_spaces ys ++ all_spaces (roses_of b)))
          ∙ ap (with_spaces x.prefixes) (spaces-both xs ys a b apart);
      in_tag = other.in_tag ∙ ap (λ t. is_still_in_tag t b) one.in_tag ∙ still-append x.in_tag a b;
      order = in-order-both x.in_tag a xs ys one.order order;
      text = λ table grown.
          (let earlier : Extends y.prefixes table = extends-spaces y.prefixes table (attribute_spaces ys ++ all_spaces (roses_of b)) (extends-as z.prefixes _ table other.prefixes grown) in
          other.text table grown
          ∙ ap (λ t. t ++ (flat_map (written_attribute table) ys ++ (before_items y.in_tag b ++ all_spelled table (roses_of b)))) (one.text table earlier)
          ∙ append_assoc x.text.items (flat_map (written_attribute table) xs ++ (before_items x.in_tag a ++ all_spelled table (roses_of a))) (flat_map (written_attribute table) ys ++ (before_items y.in_tag b ++ all_spelled table (roses_of b)))
          ∙ ap (λ t. x.text.items ++ ((flat_map (written_attribute table) xs ++ (before_items x.in_tag a ++ all_spelled table (roses_of a))) ++ (flat_map (written_attribute table) ys ++ (before_items t b ++ all_spelled table (roses_of b))))) one.in_tag
          ∙ ap (λ t. x.text.items ++ t) (text-both table x.in_tag xs ys a b apart));
    }

pub tells-both : (x y z : TextBuilder) (xs ys : List (Name × List ℕ)) (a b : List (Rose ItemLabel)) → Tells x y xs a → Tells y z ys b → Tells x z (xs ++ ys) (a ++ b)
tells-both x y z xs ys a b one other late =
    let second = other late in
    told-both x y z xs ys a b (one second.on_time) second

-- ---- an element

element-text : (table : List (List ℕ × List ℕ)) (old begun mid new : List ℕ) (in_tag : Bool) (name : Name) (attributes : List (Name × List ℕ)) (items : List (Rose ItemLabel)) (called : List ℕ)
    → begun ≡ old ++ (end_of_tag in_tag ++ 60 ∷ written_name table name)
    → mid ≡ begun ++ (flat_map (written_attribute table) attributes ++ (before_items true items ++ all_spelled table (roses_of items)))
    → new ≡ mid ++ cond (is_still_in_tag true items) (47 ∷ 62 ∷ []) (60 ∷ 47 ∷ called ++ 62 ∷ [])
    → called ≡ written_name table name
    → new ≡ old ++ (end_of_tag in_tag ++ spelled table [] (node (Element name attributes [] 0) (roses_of items)))
element-text table old begun mid new in_tag name attributes [] called eb em en ec =
    en ∙ ap (λ t. t ++ 47 ∷ 62 ∷ []) (em ∙ ap (λ t. t ++ (flat_map (written_attribute table) attributes ++ [])) eb)
    ∙ regroup old (end_of_tag in_tag) (60 ∷ written_name table name) (flat_map (written_attribute table) attributes) (47 ∷ 62 ∷ [])
  where
    regroup : (old gt name attributes end : List ℕ) → ((old ++ (gt ++ name)) ++ (attributes ++ [])) ++ end ≡ old ++ (gt ++ (((name ++ []) ++ attributes) ++ end))
    regroup old gt name attributes end = simp (append_assoc, append-nil)
element-text table old begun mid new in_tag name attributes (item ∷ items) called eb em en ec =
    en ∙ ap (λ t. t ++ (60 ∷ 47 ∷ called ++ 62 ∷ [])) (em ∙ ap (λ t. t ++ (flat_map (written_attribute table) attributes ++ (62 ∷ [] ++ all_spelled table (more item (roses_of items))))) eb)
    ∙ ap (λ c. ((old ++ (end_of_tag in_tag ++ 60 ∷ written_name table name)) ++ (flat_map (written_attribute table) attributes ++ (62 ∷ all_spelled table (more item (roses_of items))))) ++ (60 ∷ 47 ∷ c ++ 62 ∷ [])) ec
    ∙ regroup old (end_of_tag in_tag) (60 ∷ written_name table name) (flat_map (written_attribute table) attributes) (all_spelled table (more item (roses_of items))) (written_end table name)
  where
    regroup : (old gt name attributes inner end : List ℕ) → ((old ++ (gt ++ name)) ++ (attributes ++ (62 ∷ inner))) ++ end ≡ old ++ (gt ++ (((name ++ []) ++ attributes) ++ 62 ∷ inner ++ end))
    regroup old gt name attributes inner end = simp (append_assoc, append-nil)

told-element : (old begun mid new : TextBuilder) (name : Name) (tag : OpenTag) (attributes : List (Name × List ℕ)) (items : List (Rose ItemLabel)) → Begun old begun name tag → Told begun mid attributes items → Closes tag mid new
    → Told old new [] (node (Element name attributes [] 0) (roses_of items) ∷ [])
told-element old begun mid new name tag attributes items begins told closes =
    let inner = attribute_spaces attributes ++ all_spaces (roses_of items) in
    let table_is : new.prefixes ≡ with_spaces (with_space old.prefixes name.space) inner = closes.prefixes ∙ told.prefixes ∙ ap (λ t. with_spaces t inner) begins.prefixes in
    record {
      on_time = begins.on_time;
      prefixes = table_is ∙ ap (with_spaces old.prefixes) (sym (append-nil (name.space ∷ inner)));
      in_tag = closes.in_tag;
      order = inl refl;
      text = λ table grown.
          (let mid_grown : Extends mid.prefixes table = extends-as new.prefixes mid.prefixes table closes.prefixes grown in
          let begun_grown : Extends begun.prefixes table = extends-spaces begun.prefixes table inner (extends-as mid.prefixes (with_spaces begun.prefixes inner) table told.prefixes mid_grown) in
          let still : mid.in_tag ≡ is_still_in_tag true items = told.in_tag ∙ ap (λ t. is_still_in_tag t items) begins.in_tag in
          let middle : mid.text.items ≡ begun.text.items ++ (flat_map (written_attribute table) attributes ++ (before_items true items ++ all_spelled table (roses_of items))) =
          told.text table mid_grown ∙ ap (λ t. begun.text.items ++ (flat_map (written_attribute table) attributes ++ (before_items t items ++ all_spelled table (roses_of items)))) begins.in_tag in
          let closed : new.text.items ≡ mid.text.items ++ cond (is_still_in_tag true items) (47 ∷ 62 ∷ []) (60 ∷ 47 ∷ (qualifier_text tag.qualifier ++ tag.local.now) ++ 62 ∷ []) =
          closes.text ∙ ap (λ t. mid.text.items ++ cond t (47 ∷ 62 ∷ []) (60 ∷ 47 ∷ (qualifier_text tag.qualifier ++ tag.local.now) ++ 62 ∷ [])) still in
          element-text table old.text.items begun.text.items mid.text.items new.text.items old.in_tag name attributes items (qualifier_text tag.qualifier ++ tag.local.now)
          (begins.text table begun_grown) middle closed (begins.name_is table begun_grown)
          ∙ ap (λ s. old.text.items ++ (end_of_tag old.in_tag ++ s)) (sym (append-nil (spelled table [] (node (Element name attributes [] 0) (roses_of items))))));
    }

pub tells-element : (old begun mid new : TextBuilder) (name : Name) (tag : OpenTag) (attributes : List (Name × List ℕ)) (items : List (Rose ItemLabel)) → Begins old begun name tag → Tells begun mid attributes items → Closes tag mid new
    → Tells old new [] (node (Element name attributes [] 0) (roses_of items) ∷ [])
tells-element old begun mid new name tag attributes items begins tells closes late =
    let told = tells (sym closes.late ∙ late) in
    told-element old begun mid new name tag attributes items (begins told.on_time) told closes

-- ---- the steps of the code

pub told-attribute : (old new : TextBuilder) (name : Name) (value before pushed named : List ℕ) → old.in_tag ≡ true → new.prefixes ≡ with_space old.prefixes name.space → before ≡ before_local new.prefixes name.space
    → new.in_tag ≡ old.in_tag → new.late ≡ old.late → pushed ≡ old.text.items ++ 32 ∷ [] → named ≡ pushed ++ (before ++ name.local) → new.text.items ≡ named ++ written_value value → Tells old new ((name, value) ∷ []) []
told-attribute old new name value before pushed named in_tag is e same late ep en et on_time = record {
  on_time = sym late ∙ on_time;
  prefixes = is;
  in_tag = same;
  order = inr in_tag;
  text = λ table grown.
      et ∙ ap (λ t. t ++ written_value value) (en ∙ ap (λ t. t ++ (before ++ name.local)) ep ∙ ap (λ t. (old.text.items ++ 32 ∷ []) ++ t) (name-kept old.prefixes table new.prefixes name before is e grown))
      ∙ regroup old.text.items (written_name table name) (written_value value);
}
  where
    regroup : (old name value : List ℕ) → ((old ++ 32 ∷ []) ++ name) ++ value ≡ old ++ (((32 ∷ name ++ value) ++ []) ++ [])
    regroup old name value = attribute-regroup old name value ∙ ap (λ t. old ++ t) (sym (append-nil ((32 ∷ name ++ value) ++ []) ∙ append-nil (32 ∷ name ++ value)))

pub begins-element : (old ended new : TextBuilder) (name : Name) (tag : OpenTag) → EndsTag old ended → new.prefixes ≡ with_space ended.prefixes name.space
    → qualifier_text tag.qualifier ≡ before_local new.prefixes name.space → tag.local.now ≡ name.local → new.in_tag ≡ true → new.late ≡ ended.late
    → new.text.items ≡ ended.text.items ++ 60 ∷ (qualifier_text tag.qualifier ++ name.local) → Begins old new name tag
begins-element old ended new name tag ends is e local in_tag late et on_time =
    let grows : new.prefixes ≡ with_space old.prefixes name.space = is ∙ ap (λ t. with_space t name.space) ends.prefixes in
    let called = qualifier_text tag.qualifier ++ name.local in
    record {
      on_time = sym (late ∙ ends.late) ∙ on_time;
      prefixes = grows;
      in_tag = in_tag;
      text = λ table grown.
          et ∙ ap (λ t. t ++ 60 ∷ called) ends.text
          ∙ append_assoc old.text.items (end_of_tag old.in_tag) (60 ∷ called)
          ∙ ap (λ n. old.text.items ++ (end_of_tag old.in_tag ++ 60 ∷ n)) (name-kept old.prefixes table new.prefixes name (qualifier_text tag.qualifier) grows e grown);
      name_is = λ table grown. ap (λ l. qualifier_text tag.qualifier ++ l) local ∙ name-kept old.prefixes table new.prefixes name (qualifier_text tag.qualifier) grows e grown;
    }

-- ---- an element in which a text stands alone

words-text : (table : List (List ℕ × List ℕ)) (old new : List ℕ) (in_tag : Bool) (name : Name) (called words : List ℕ) → new ≡ (old ++ end_of_tag in_tag) ++ written_words called words → called ≡ written_name table name
    → new ≡ old ++ (end_of_tag in_tag ++ (spelled table [] (node (Element name [] [] 0) (words_in words)) ++ []))
words-text table old new in_tag name called [] en ec =
    en ∙ ap (λ c. (old ++ end_of_tag in_tag) ++ (60 ∷ c ++ 47 ∷ 62 ∷ [])) ec ∙ regroup old (end_of_tag in_tag) (60 ∷ written_name table name) (47 ∷ 62 ∷ [])
  where
    regroup : (old gt start end : List ℕ) → (old ++ gt) ++ (start ++ end) ≡ old ++ (gt ++ ((((start ++ []) ++ []) ++ end) ++ []))
    regroup old gt start end = simp (append_assoc, append-nil)
words-text table old new in_tag name called (byte ∷ bytes) en ec =
    let inner = flat_map text_escape (byte ∷ bytes) in
    let name_is = written_name table name in
    en ∙ ap (λ c. (old ++ end_of_tag in_tag) ++ element_text c inner) ec ∙ regroup old (end_of_tag in_tag) (60 ∷ name_is) (62 ∷ []) inner (60 ∷ 47 ∷ name_is)
  where
    regroup : (old gt start close inner end : List ℕ) → (old ++ gt) ++ (((start ++ (close ++ inner)) ++ end) ++ close) ≡ old ++ (gt ++ (((((start ++ []) ++ []) ++ (close ++ (inner ++ []))) ++ (end ++ close)) ++ []))
    regroup old gt start close inner end = simp (append_assoc, append-nil)

no-spaces : (words : List ℕ) → all_spaces (words_in words) ≡ []
no-spaces [] = refl
no-spaces (byte ∷ bytes) = refl

pub told-words : (old ended new : TextBuilder) (name : Name) (before words : List ℕ) → EndsTag old ended → new.prefixes ≡ with_space ended.prefixes name.space → before ≡ before_local new.prefixes name.space
    → new.in_tag ≡ ended.in_tag → new.late ≡ ended.late → new.text.items ≡ ended.text.items ++ written_words (before ++ name.local) words → Tells old new [] (node (Element name [] [] 0) (words_in words) ∷ [])
told-words old ended new name before words ends is e in_tag late et on_time =
    let grows : new.prefixes ≡ with_space old.prefixes name.space = is ∙ ap (λ t. with_space t name.space) ends.prefixes in
    record {
      on_time = sym (late ∙ ends.late) ∙ on_time;
      prefixes = grows ∙ ap (λ ss. with_spaces old.prefixes (name.space ∷ ss)) (sym (no-spaces words)) ∙ ap (with_spaces old.prefixes) (sym (append-nil (name.space ∷ all_spaces (words_in words))));
      in_tag = in_tag ∙ ends.in_tag;
      order = inl refl;
      text = λ table grown.
          words-text table old.text.items new.text.items old.in_tag name (before ++ name.local) words (et ∙ ap (λ t. t ++ written_words (before ++ name.local) words) ends.text)
          (name-kept old.prefixes table new.prefixes name before grows e grown);
    }

-- what stands behind the name and the declarations of an element
abbrev behind : List (List ℕ × List ℕ) → Name → List (Name × List ℕ) → Roses ItemLabel → List ℕ
behind table name attributes none = flat_map (written_attribute table) attributes ++ 47 ∷ 62 ∷ []
behind table name attributes (more item items) = flat_map (written_attribute table) attributes ++ 62 ∷ all_spelled table (more item items) ++ written_end table name

spelled-behind : (table : List (List ℕ × List ℕ)) (declarations : List ℕ) (name : Name) (attributes : List (Name × List ℕ)) (items : Roses ItemLabel)
    → spelled table declarations (node (Element name attributes [] 0) items) ≡ (60 ∷ written_name table name) ++ (declarations ++ behind table name attributes items)
spelled-behind table declarations name attributes none = regroup (60 ∷ written_name table name) declarations (flat_map (written_attribute table) attributes) (47 ∷ 62 ∷ [])
  where
    regroup : (a b c d : List ℕ) → ((a ++ b) ++ c) ++ d ≡ a ++ (b ++ (c ++ d))
    regroup a b c d = simp append_assoc
spelled-behind table declarations name attributes (more item items) =
    regroup (60 ∷ written_name table name) declarations (flat_map (written_attribute table) attributes) (all_spelled table (more item items)) (written_end table name)
  where
    regroup : (a b c inner end : List ℕ) → ((a ++ b) ++ c) ++ 62 ∷ inner ++ end ≡ a ++ (b ++ (c ++ 62 ∷ inner ++ end))
    regroup a b c inner end = simp append_assoc

-- all that was told of the root
root-told : (begun b : TextBuilder) (root : Rose ItemLabel) → IsBegun begun → Told begun b [] (root ∷ []) → (b.prefixes ≡ prefixes root) × (b.text.items ≡ xml_declaration ++ spelled b.prefixes [] root)
root-told begun b root is told = (
  told.prefixes ∙ ap (λ t. with_spaces t (spaces root ++ [])) is.prefixes ∙ ap (with_spaces []) (append-nil (spaces root)) ∙ with_spaces-prefixes root,
  told.text b.prefixes (extends-same b.prefixes) ∙ ap (λ t. t ++ (end_of_tag begun.in_tag ++ (spelled b.prefixes [] root ++ []))) is.text
      ∙ ap (λ t. xml_declaration ++ (end_of_tag t ++ (spelled b.prefixes [] root ++ []))) is.in_tag ∙ ap (λ t. xml_declaration ++ t) (append-nil (spelled b.prefixes [] root)),
)

pub front-and-rest : (begun b : TextBuilder) (name : Name) (attributes : List (Name × List ℕ)) (items : Roses ItemLabel) (front : List ℕ) → front ≡ xml_declaration ++ 60 ∷ written_name b.prefixes name → IsBegun begun
    → Told begun b [] (node (Element name attributes [] 0) items ∷ []) → b.text.items ≡ front ++ behind b.prefixes name attributes items
front-and-rest begun b name attributes items front ef is told =
    (root-told begun b (node (Element name attributes [] 0) items) is told).1
    ∙ ap (λ t. xml_declaration ++ t) (spelled-behind b.prefixes [] name attributes items)
    ∙ sym (append_assoc xml_declaration (60 ∷ written_name b.prefixes name) (behind b.prefixes name attributes items))
    ∙ ap (λ t. t ++ behind b.prefixes name attributes items) (sym ef)

pub whole-text : (begun b : TextBuilder) (name : Name) (attributes : List (Name × List ℕ)) (items : Roses ItemLabel) (front declarations out : List ℕ) → front ≡ xml_declaration ++ 60 ∷ written_name b.prefixes name → IsBegun begun
    → Told begun b [] (node (Element name attributes [] 0) items ∷ []) → declarations ≡ flat_map written_declaration b.prefixes → out ≡ ((front ++ declarations) ++ behind b.prefixes name attributes items) ++ 10 ∷ []
    → out ≡ written (node (Element name attributes [] 0) items)
whole-text begun b name attributes items front declarations out ef is told ed eo =
    let root = node (Element name attributes [] 0) items in
    let table = b.prefixes in
    eo ∙ ap (λ t. ((t ++ declarations) ++ behind table name attributes items) ++ 10 ∷ []) ef
    ∙ regroup xml_declaration (60 ∷ written_name table name) declarations (behind table name attributes items)
    ∙ ap (λ t. (xml_declaration ++ t) ++ 10 ∷ []) (sym (spelled-behind table declarations name attributes items))
    ∙ written-parts root root table declarations refl (root-told begun b root is told).0 ed
  where
    regroup : (a b c d : List ℕ) → (((a ++ b) ++ c) ++ d) ++ 10 ∷ [] ≡ (a ++ (b ++ (c ++ d))) ++ 10 ∷ []
    regroup a b c d = simp append_assoc
