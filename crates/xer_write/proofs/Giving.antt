-- What values give, as the code finds it.
use Rattle.std.proofs.Common.{◌≡◌, ℕ, suc, ◌+◌, ◌<◌, ◌≤◌, Bool, true, false, cond, Option, Some, None, List, [], ◌∷◌, length, get_or, drop, refl, sym, ◌∙◌, ap, subst, arith}
use Rattle.std.specs.Prelude.{◌||◌, ◌&&◌, replicate, slice_get, nat_le, nat_lt}
use Rattle.std.specs.Option.{is_some}
use Rattle.base_trees.specs.Rose.{Rose, node, Roses, none, more, roses_of, list_of, label_of, kids_of, length_all, Allowed, AllowedAll}
use Rattle.std.proofs.lemmas.List.{drop_more, length-drop}
use Rattle.std.proofs.lemmas.Option.{get_or_from_slice_get}
use Rattle.base_trees.proofs.Roses.{roses_of-list_of, length-list_of}
use Rattle.simple_types.specs.declared.labels.ValueLabel.{ValueLabel}
use Rattle.simple_types.specs.declared.labels.ValueLabel.TheVariants as value
use Rattle.simple_types.specs.Lexical.{is_at_most}
use Rattle.simple_types.specs.Reading.{spelled}
use Rattle.asn_types.specs.declared.modules.Assignment.{Assignment}
use Rattle.asn_types.specs.declared.roles.Role.{Role}
use Rattle.asn_types.specs.declared.roles.Role.TheVariants.{Attribute, Element, Group, Content, Embed, Order, Item, Alternative}
use Rattle.asn_types.specs.declared.types.Component.{Component}
use Rattle.asn_types.specs.declared.types.Form.{Form}
use Rattle.asn_types.specs.declared.types.Form.TheVariants as form
use Rattle.asn_types.specs.declared.types.TypeLabel.{TypeLabel}
use Rattle.asn_types.specs.Marks.{has_list, has_use_order, has_use_union}
use Rattle.asn_types.specs.Modules.{IsModule, IsSequence}
use Rattle.asn_types.specs.Parts.{MayHave, parts_of}
use Rattle.asn_types.specs.Refs.{IsOf, resolve}
use Rattle.asn_types.specs.Spaces.{space_at}
use Rattle.asn_values.specs.Values.{ComponentPlace, place_of, put_first, present_from, place_at, alone, repeated, none_if, places_in, places, ordered_flags, order_of}
use Rattle.asn_types.proofs.Chaining.{well-formed, parts-of-module, have-parts, resolved-of-module}
use Rattle.asn_types.proofs.Inside.{body-of}
use Rattle.asn_values.proofs.Counting.{drop-past}
use Rattle.xml_items.specs.Mixing.{text_before}
use Rattle.base_texts.specs.declared.texts.Name.{Name}
use Rattle.asn_types.specs.Names.{name_of_part}
use Rattle.xer_items.specs.Spelling.{is_leaf, is_textual}
use Rattle.xer_items.specs.Items.{Given, given, nothing, both, element_of, with_order, completed, placed, inside, gathered}
use Rattle.xer_write.specs.Private.Giving.{IsTypeIn, may_be_present, place_gives, places_give, parts_give, ordered_give, type_gives}
use Rattle.xer_items.proofs.Ordering.{unordered, nothing-ordered}

-- ---- the types of a module have as many kids as parts

pub found-in : (M : List Assignment) (t : Rose TypeLabel) → IsTypeIn M t → IsTypeIn M (resolve M t)
found-in M t h = (h.0, resolved-of-module M t h.1)

pub kid-in : (M : List Assignment) (t : Rose TypeLabel) (i : ℕ) (kid : Rose TypeLabel) → slice_get (kids_of t) i ≡ Some kid → IsTypeIn M t → IsTypeIn M kid
kid-in M (node l ts) i kid got h = (h.0, parts-of-module M l ts i kid h.1 got)

pub have-kids : (M : List Assignment) (t : Rose TypeLabel) → IsTypeIn M t → length (kids_of t) ≡ length (parts_of (label_of t).form)
have-kids M t h = have-parts M t h.0 h.1

pub body-in : (M : List Assignment) (n : ℕ) (a : Assignment) → IsModule M → slice_get M n ≡ Some a → IsTypeIn M a.body
body-in M n a is at = (is, body-of M n a at)

module _ (M : List Assignment) (is : IsModule M) where
  mutual
    pub allowed-of : (t : Rose TypeLabel) → IsOf M t → Allowed MayHave t
    allowed-of (node l ts) inside =
        (sym (length-list_of ts) ∙ have-parts M (node l ts) is inside, each-allowed ts (λ i kid got. parts-of-module M l ts i kid inside got))

    each-allowed : (ts : Roses TypeLabel) → ((i : ℕ) (kid : Rose TypeLabel) → slice_get (list_of ts) i ≡ Some kid → IsOf M kid) → AllowedAll MayHave ts
    each-allowed none f = tt
    each-allowed (more t ts) f = (allowed-of t (f 0 t refl), each-allowed ts (λ i kid got. f (suc i) kid got))

no_sequence : (l : TypeLabel) (ts : List (Rose TypeLabel)) (parts : List Component) (v : ValueLabel) (n : ℕ) → ((present : List Bool) → v ≡ value.Sequence present → ⊥) → places_in l ts (form.Sequence parts) v n ≡ None
no_sequence l ts parts (value.Bool b) n differs = refl
no_sequence l ts parts (value.Int z) n differs = refl
no_sequence l ts parts (value.Enum i) n differs = refl
no_sequence l ts parts (value.Utf8 text) n differs = refl
no_sequence l ts parts (value.Sequence present) n differs = absurd (differs present refl)
no_sequence l ts parts (value.Choice i) n differs = refl
no_sequence l ts parts value.SequenceOf n differs = refl

no_choice : (l : TypeLabel) (ts : List (Rose TypeLabel)) (parts : List Component) (v : ValueLabel) (n : ℕ) → ((i : ℕ) → v ≡ value.Choice i → ⊥) → places_in l ts (form.Choice parts) v n ≡ None
no_choice l ts parts (value.Bool b) n differs = refl
no_choice l ts parts (value.Int z) n differs = refl
no_choice l ts parts (value.Enum i) n differs = refl
no_choice l ts parts (value.Utf8 text) n differs = refl
no_choice l ts parts (value.Sequence present) n differs = refl
no_choice l ts parts (value.Choice i) n differs = absurd (differs i refl)
no_choice l ts parts value.SequenceOf n differs = refl

no_items : (l : TypeLabel) (ts : List (Rose TypeLabel)) (part : Component) (least : ℕ) (most : Option ℕ) (v : ValueLabel) (n : ℕ) → (v ≡ value.SequenceOf → ⊥) → places_in l ts (form.SequenceOf part least most) v n ≡ None
no_items l ts part least most (value.Bool b) n differs = refl
no_items l ts part least most (value.Int z) n differs = refl
no_items l ts part least most (value.Enum i) n differs = refl
no_items l ts part least most (value.Utf8 text) n differs = refl
no_items l ts part least most (value.Sequence present) n differs = refl
no_items l ts part least most (value.Choice i) n differs = refl
no_items l ts part least most value.SequenceOf n differs = absurd (differs refl)

no_reference : (l : TypeLabel) (ts : List (Rose TypeLabel)) (to : ℕ) (v : ValueLabel) (n : ℕ) → places_in l ts (form.Ref to) v n ≡ None
no_reference l ts to (value.Bool b) n = refl
no_reference l ts to (value.Int z) n = refl
no_reference l ts to (value.Enum i) n = refl
no_reference l ts to (value.Utf8 text) n = refl
no_reference l ts to (value.Sequence present) n = refl
no_reference l ts to (value.Choice i) n = refl
no_reference l ts to value.SequenceOf n = refl

no_leaf : (a b c : Bool) → (a || b || c) ≡ false → a ≡ false
no_leaf true true true e = absurd (cc)
no_leaf true true false e = absurd (cc)
no_leaf true false true e = absurd (cc)
no_leaf true false false e = absurd (cc)
no_leaf false b c e = refl

module _ (M : List Assignment) where
  -- ---- values at places

  pub gathered-none : (ps : List ComponentPlace) → gathered M ps none ≡ nothing
  unfolding gathered
  gathered-none ps = refl

  pub gathered-[] : (vs : Roses ValueLabel) → gathered M [] vs ≡ nothing
  unfolding gathered
  gathered-[] none = refl
  gathered-[] (more v vs) = refl

  pub gathered-more : (p : ComponentPlace) (ps : List ComponentPlace) (v : Rose ValueLabel) (vs : Roses ValueLabel) → gathered M (p ∷ ps) (more v vs) ≡ both (place_gives M p v) (gathered M ps vs)
  unfolding gathered
  gathered-more p ps v vs = refl

  -- without values
  pub give-none : (found : Option (List ComponentPlace)) → places_give M found [] ≡ nothing
  give-none None = refl
  give-none (Some ps) = gathered-none ps

  -- one place with its value, and the others
  pub give-first : (p : ComponentPlace) (found : Option (List ComponentPlace)) (v : Rose ValueLabel) (vs : List (Rose ValueLabel)) → is_some found ≡ true
      → places_give M (put_first p found) (v ∷ vs) ≡ both (place_gives M p v) (places_give M found vs)
  give-first p None v vs some = absurd (cc)
  give-first p (Some ps) v vs some = gathered-more p ps v (roses_of vs)

  -- ---- a value by whether it is a text

  abbrev from : Rose TypeLabel → ValueLabel → ℕ → Roses ValueLabel → Given
  from t l n ws = elim (places t l n) [ None ↦ nothing | Some ps ↦ gathered M ps ws ]

  pub inside-is : (t : Rose TypeLabel) (v : Rose ValueLabel)
      → inside M t v ≡ elim (is_textual (label_of (resolve M t))) as (λ _. Given) [
        | true ↦ given [] (text_before (spelled (space_at (resolve M t)) v) none)
        | false ↦ type_gives M (resolve M t) v
      ]
  unfolding inside
  inside-is t (node l vs) =
      let found = resolve M t in
      let told = has_use_order (label_of found).marks in
      let flags = ordered_flags M (label_of found) found (node l vs) in
      let numbers = order_of found (node l vs) in
      let all = λ (n : ℕ) (ws : Roses ValueLabel). completed (label_of found) l ws (with_order told flags numbers (from found l n ws)) in
      let one : all (length_all vs) vs ≡ all (length (list_of vs)) vs = ap (λ n. all n vs) (sym (length-list_of vs)) in
      let other : all (length (list_of vs)) vs ≡ type_gives M found (node l vs) = ap (λ ws. all (length (list_of vs)) ws) (sym (roses_of-list_of vs)) in
      ap (λ (g : Given). elim (is_textual (label_of found)) as (λ _. Given) [ true ↦ given [] (text_before (spelled (space_at found) (node l vs)) none) | false ↦ g ]) (one ∙ other)

  by_true : (b : Bool) (one other : Given) → b ≡ true → elim b as (λ _. Given) [ true ↦ one | false ↦ other ] ≡ one
  by_true true one other e = refl
  by_true false one other e = absurd (cc)

  by_false : (b : Bool) (one other : Given) → b ≡ false → elim b as (λ _. Given) [ true ↦ one | false ↦ other ] ≡ other
  by_false false one other e = refl
  by_false true one other e = absurd (cc)

  pub inside-text : (t : Rose TypeLabel) (v : Rose ValueLabel) → is_textual (label_of (resolve M t)) ≡ true
      → inside M t v ≡ given [] (text_before (spelled (space_at (resolve M t)) v) none)
  inside-text t v e = inside-is t v ∙ by_true (is_textual (label_of (resolve M t))) _ _ e

  pub inside-parts : (t : Rose TypeLabel) (v : Rose ValueLabel) → is_textual (label_of (resolve M t)) ≡ false → inside M t v ≡ type_gives M (resolve M t) v
  inside-parts t v e = inside-is t v ∙ by_false (is_textual (label_of (resolve M t))) _ _ e

  -- ---- by the form of the type

  pub sequence-give : (t : Rose TypeLabel) (v : Rose ValueLabel) (parts : List Component) (present : List Bool) → (label_of t).form ≡ form.Sequence parts → label_of v ≡ value.Sequence present
      → parts_give M t v ≡ places_give M (present_from (label_of t) 0 parts (kids_of t) present) (kids_of v)
  sequence-give t v parts present f l =
      ap (λ x. places_give M (places_in (label_of t) (kids_of t) x (label_of v) (length (kids_of v))) (kids_of v)) f
      ∙ ap (λ x. places_give M (places_in (label_of t) (kids_of t) (form.Sequence parts) x (length (kids_of v))) (kids_of v)) l

  pub choice-give : (t : Rose TypeLabel) (v : Rose ValueLabel) (parts : List Component) (i : ℕ) → (label_of t).form ≡ form.Choice parts → label_of v ≡ value.Choice i
      → parts_give M t v ≡ places_give M (alone (place_at (label_of t) i (slice_get parts i) (slice_get (kids_of t) i))) (kids_of v)
  choice-give t v parts i f l =
      ap (λ x. places_give M (places_in (label_of t) (kids_of t) x (label_of v) (length (kids_of v))) (kids_of v)) f
      ∙ ap (λ x. places_give M (places_in (label_of t) (kids_of t) (form.Choice parts) x (length (kids_of v))) (kids_of v)) l

  pub items-give : (t : Rose TypeLabel) (v : Rose ValueLabel) (part : Component) (least : ℕ) (most : Option ℕ) → (label_of t).form ≡ form.SequenceOf part least most → label_of v ≡ value.SequenceOf
      → parts_give M t v
      ≡ places_give M (cond (nat_le least (length (kids_of v)) && is_at_most (length (kids_of v)) most) (repeated (length (kids_of v)) (place_at (label_of t) 0 (Some part) (slice_get (kids_of t) 0))) None) (kids_of v)
  items-give t v part least most f l =
      ap (λ x. places_give M (places_in (label_of t) (kids_of t) x (label_of v) (length (kids_of v))) (kids_of v)) f
      ∙ ap (λ x. places_give M (places_in (label_of t) (kids_of t) (form.SequenceOf part least most) x (length (kids_of v))) (kids_of v)) l

  -- a value of another form gives nothing
  pub sequence-other : (t : Rose TypeLabel) (v : Rose ValueLabel) (parts : List Component) → (label_of t).form ≡ form.Sequence parts → ((present : List Bool) → label_of v ≡ value.Sequence present → ⊥)
      → parts_give M t v ≡ nothing
  sequence-other t v parts f differs =
      ap (λ x. places_give M (places_in (label_of t) (kids_of t) x (label_of v) (length (kids_of v))) (kids_of v)) f
      ∙ ap (λ o. places_give M o (kids_of v)) (no_sequence (label_of t) (kids_of t) parts (label_of v) (length (kids_of v)) differs)

  pub choice-other : (t : Rose TypeLabel) (v : Rose ValueLabel) (parts : List Component) → (label_of t).form ≡ form.Choice parts → ((i : ℕ) → label_of v ≡ value.Choice i → ⊥)
      → parts_give M t v ≡ nothing
  choice-other t v parts f differs =
      ap (λ x. places_give M (places_in (label_of t) (kids_of t) x (label_of v) (length (kids_of v))) (kids_of v)) f
      ∙ ap (λ o. places_give M o (kids_of v)) (no_choice (label_of t) (kids_of t) parts (label_of v) (length (kids_of v)) differs)

  pub items-other : (t : Rose TypeLabel) (v : Rose ValueLabel) (part : Component) (least : ℕ) (most : Option ℕ) → (label_of t).form ≡ form.SequenceOf part least most → (label_of v ≡ value.SequenceOf → ⊥)
      → parts_give M t v ≡ nothing
  items-other t v part least most f differs =
      ap (λ x. places_give M (places_in (label_of t) (kids_of t) x (label_of v) (length (kids_of v))) (kids_of v)) f
      ∙ ap (λ o. places_give M o (kids_of v)) (no_items (label_of t) (kids_of t) part least most (label_of v) (length (kids_of v)) differs)

  -- nor does one of the items of an order
  none-give : (b : Bool) (vs : List (Rose ValueLabel)) → places_give M (none_if b) vs ≡ nothing
  none-give true vs = gathered-[] (roses_of vs)
  none-give false vs = refl

  order-give : (l : TypeLabel) (ts : List (Rose TypeLabel)) (identifiers : List (List ℕ)) (v : ValueLabel) (n : ℕ) (vs : List (Rose ValueLabel)) → places_give M (places_in l ts (form.Order identifiers) v n) vs ≡ nothing
  order-give l ts identifiers (value.Bool b) n vs = refl
  order-give l ts identifiers (value.Int z) n vs = refl
  order-give l ts identifiers (value.Enum i) n vs = none-give (nat_lt i (length identifiers)) vs
  order-give l ts identifiers (value.Utf8 text) n vs = refl
  order-give l ts identifiers (value.Sequence present) n vs = refl
  order-give l ts identifiers (value.Choice i) n vs = refl
  order-give l ts identifiers value.SequenceOf n vs = refl

  no_form : (l : TypeLabel) (ts : List (Rose TypeLabel)) (f : Form) (v : ValueLabel) (n : ℕ) (vs : List (Rose ValueLabel)) → is_leaf f ≡ false → ((parts : List Component) → f ≡ form.Sequence parts → ⊥)
      → ((parts : List Component) → f ≡ form.Choice parts → ⊥) → ((part : Component) (least : ℕ) (most : Option ℕ) → f ≡ form.SequenceOf part least most → ⊥)
      → places_give M (places_in l ts f v n) vs ≡ nothing
  no_form l ts form.Bool v n vs leaf a b c = absurd (cc)
  no_form l ts (form.Int least greatest) v n vs leaf a b c = absurd (cc)
  no_form l ts (form.Numbers numbers) v n vs leaf a b c = absurd (cc)
  no_form l ts (form.Words identifiers words) v n vs leaf a b c = absurd (cc)
  no_form l ts (form.Order identifiers) v n vs leaf a b c = order-give l ts identifiers v n vs
  no_form l ts (form.Utf8 least most class) v n vs leaf a b c = absurd (cc)
  no_form l ts (form.Sequence parts) v n vs leaf a b c = absurd (a parts refl)
  no_form l ts (form.Choice parts) v n vs leaf a b c = absurd (b parts refl)
  no_form l ts (form.SequenceOf part least most) v n vs leaf a b c = absurd (c part least most refl)
  no_form l ts (form.Ref to) v n vs leaf a b c = ap (λ o. places_give M o vs) (no_reference l ts to v n)

  -- nor does one of a reference that is left
  pub reference-other : (t : Rose TypeLabel) (v : Rose ValueLabel) → is_textual (label_of t) ≡ false → ((parts : List Component) → (label_of t).form ≡ form.Sequence parts → ⊥)
      → ((parts : List Component) → (label_of t).form ≡ form.Choice parts → ⊥)
      → ((part : Component) (least : ℕ) (most : Option ℕ) → (label_of t).form ≡ form.SequenceOf part least most → ⊥) → parts_give M t v ≡ nothing
  reference-other t v textual a b c =
      no_form (label_of t) (kids_of t) (label_of t).form (label_of v) (length (kids_of v)) (kids_of v) (no_leaf (is_leaf (label_of t).form) (has_list (label_of t).marks) (has_use_union (label_of t).marks) textual) a b c

-- ---- the order of a type

pub order-absent : (M : List Assignment) (t : Rose TypeLabel) (v : Rose ValueLabel) → has_use_order (label_of t).marks ≡ false → ordered_give M t v ≡ parts_give M t v
order-absent M t v e = unordered (has_use_order (label_of t).marks) (ordered_flags M (label_of t) t v) (order_of t v) (parts_give M t v) e

pub order-nothing : (M : List Assignment) (t : Rose TypeLabel) (v : Rose ValueLabel) → parts_give M t v ≡ nothing → ordered_give M t v ≡ nothing
order-nothing M t v e =
    let told = has_use_order (label_of t).marks in
    let flags = ordered_flags M (label_of t) t v in
    ap (with_order told flags (order_of t v)) e ∙ nothing-ordered told flags (order_of t v)

-- no type has one but a SEQUENCE
pub no-order : (M : List Assignment) (t : Rose TypeLabel) → IsTypeIn M t → (IsSequence (label_of t).form → ⊥) → has_use_order (label_of t).marks ≡ false
no-order M (node l ts) h other = by (has_use_order l.marks) refl
  where
    by : (b : Bool) → has_use_order l.marks ≡ b → has_use_order l.marks ≡ false
    by false e = e
    by true e = absurd (other ((well-formed M (node l ts) h.0 h.1).0.use_order e).sequence)

-- ---- the components that are present

put-some : (p : ComponentPlace) (found : Option (List ComponentPlace)) → is_some (put_first p found) ≡ is_some found
put-some p None = refl
put-some p (Some ps) = refl

cond-some : (optional : Bool) (found : Option (List ComponentPlace)) (fit : Bool) → is_some found ≡ fit → is_some (cond optional found None) ≡ (optional && fit)
cond-some true found fit e = e
cond-some false found fit e = refl

-- flags that fit find their places
pub present-some : (l : TypeLabel) (i : ℕ) (parts : List Component) (ts : List (Rose TypeLabel)) (flags : List Bool) → length ts ≡ length parts
    → is_some (present_from l i parts ts flags) ≡ may_be_present parts flags
present-some l i [] [] [] same = refl
present-some l i [] [] (f ∷ fs) same = refl
present-some l i [] (t ∷ ts) fs same = absurd (omega (arith, same))
present-some l i (c ∷ cs) [] fs same = absurd (omega (arith, same))
present-some l i (c ∷ cs) (t ∷ ts) [] same = refl
present-some l i (c ∷ cs) (t ∷ ts) (true ∷ fs) same = put-some (place_of l i c t) (present_from l (i + 1) cs ts fs) ∙ present-some l (i + 1) cs ts fs (omega (arith, same))
present-some l i (c ∷ cs) (t ∷ ts) (false ∷ fs) same = cond-some c.optional (present_from l (i + 1) cs ts fs) (may_be_present cs fs) (present-some l (i + 1) cs ts fs (omega (arith, same)))

and-second : (a b : Bool) → (a && b) ≡ true → b ≡ true
and-second true b e = e
and-second false b e = absurd (cc)

and-first : (a b : Bool) → (a && b) ≡ true → a ≡ true
and-first true b e = refl
and-first false b e = absurd (cc)

pub fit-length : (parts : List Component) (flags : List Bool) → may_be_present parts flags ≡ true → length parts ≡ length flags
fit-length [] [] fit = refl
fit-length [] (f ∷ fs) fit = absurd (cc)
fit-length (c ∷ cs) [] fit = absurd (cc)
fit-length (c ∷ cs) (f ∷ fs) fit = ap suc (fit-length cs fs (and-second (f || c.optional) (may_be_present cs fs) fit))

and-false : (a b : Bool) → b ≡ false → (a && b) ≡ false
and-false true b e = e
and-false false b e = refl

pub misfit : (parts : List Component) (flags : List Bool) → (length parts ≡ length flags → ⊥) → may_be_present parts flags ≡ false
misfit [] [] differs = absurd (differs refl)
misfit [] (f ∷ fs) differs = refl
misfit (c ∷ cs) [] differs = refl
misfit (c ∷ cs) (f ∷ fs) differs = and-false (f || c.optional) (may_be_present cs fs) (misfit cs fs (λ e. differs (ap suc e)))

-- from the component with number i on, as a loop has it
abbrev pub fit_from : List Component → List Bool → ℕ → Bool
fit_from parts flags i = may_be_present (drop i parts) (drop i flags)

abbrev pub found_from : TypeLabel → List Component → List (Rose TypeLabel) → List Bool → ℕ → Option (List ComponentPlace)
found_from l parts ts flags i = present_from l i (drop i parts) (drop i ts) (drop i flags)

module _ (M : List Assignment) (l : TypeLabel) (parts : List Component) (ts : List (Rose TypeLabel)) (flags : List Bool) (same : length ts ≡ length parts) where
  abbrev fitting : ℕ → Bool
  fitting i = fit_from parts flags i

  abbrev found : ℕ → Option (List ComponentPlace)
  found i = found_from l parts ts flags i

  module _ (i : ℕ) (part : Component) (t : Rose TypeLabel) (within : i < length parts) (here : part ≡ get_or parts i part) (got : slice_get ts i ≡ Some t) where
    part-is : drop i parts ≡ part ∷ drop (i + 1) parts
    part-is = drop_more parts i part within ∙ ap (λ k. k ∷ drop (i + 1) parts) (sym here)

    type-is : drop i ts ≡ t ∷ drop (i + 1) ts
    type-is = drop_more ts i t (omega (arith, same)) ∙ ap (λ k. k ∷ drop (i + 1) ts) (get_or_from_slice_get ts i t t got)

    types-left : length (drop (i + 1) ts) ≡ length (drop (i + 1) parts)
    types-left = omega (arith, length-drop (i + 1) ts, length-drop (i + 1) parts, same)

    module _ (flag : Bool) (flag-is : drop i flags ≡ flag ∷ drop (i + 1) flags) (fit : fitting i ≡ true) where
      fits : may_be_present (part ∷ drop (i + 1) parts) (flag ∷ drop (i + 1) flags) ≡ true
      fits = sym (ap (λ x. may_be_present x (drop i flags)) part-is ∙ ap (λ x. may_be_present (part ∷ drop (i + 1) parts) x) flag-is) ∙ fit

      pub fit-step : fitting (i + 1) ≡ true
      fit-step = and-second (flag || part.optional) (fitting (i + 1)) fits

      found-is : found i ≡ present_from l i (part ∷ drop (i + 1) parts) (t ∷ drop (i + 1) ts) (flag ∷ drop (i + 1) flags)
      found-is =
          ap (λ x. present_from l i x (drop i ts) (drop i flags)) part-is
          ∙ ap (λ x. present_from l i (part ∷ drop (i + 1) parts) x (drop i flags)) type-is
          ∙ ap (λ x. present_from l i (part ∷ drop (i + 1) parts) (t ∷ drop (i + 1) ts) x) flag-is

      pub some-step : is_some (found (i + 1)) ≡ true
      some-step = present-some l (i + 1) (drop (i + 1) parts) (drop (i + 1) ts) (drop (i + 1) flags) types-left ∙ fit-step

      -- present
      pub found-present : flag ≡ true → found i ≡ put_first (place_of l i part t) (found (i + 1))
      found-present set = found-is ∙ ap (λ f. present_from l i (part ∷ drop (i + 1) parts) (t ∷ drop (i + 1) ts) (f ∷ drop (i + 1) flags)) set

      pub give-present : flag ≡ true → (v : Rose ValueLabel) (vs : List (Rose ValueLabel))
          → places_give M (found i) (v ∷ vs) ≡ both (place_gives M (place_of l i part t) v) (places_give M (found (i + 1)) vs)
      give-present set v vs = ap (λ o. places_give M o (v ∷ vs)) (found-present set) ∙ give-first M (place_of l i part t) (found (i + 1)) v vs some-step

      -- absent
      pub found-absent : flag ≡ false → found i ≡ found (i + 1)
      found-absent unset =
          let optional : part.optional ≡ true = and-first part.optional _ (subst (λ f. ((f || part.optional) && fitting (i + 1)) ≡ true) unset fits) in
          found-is ∙ ap (λ f. present_from l i (part ∷ drop (i + 1) parts) (t ∷ drop (i + 1) ts) (f ∷ drop (i + 1) flags)) unset
          ∙ ap (λ b. cond b (found (i + 1)) None) optional

  -- none is left
  pub give-end : (i : ℕ) → length parts ≤ i → fitting 0 ≡ true → (vs : List (Rose ValueLabel)) → places_give M (found i) vs ≡ nothing
  give-end i past fit vs =
      ap (λ o. places_give M o vs)
      (ap (λ x. present_from l i x (drop i ts) (drop i flags)) (drop-past i parts past)
      ∙ ap (λ x. present_from l i [] (drop i ts) x) (drop-past i flags (omega (arith, past, fit-length parts flags fit))))
      ∙ gathered-[] M (roses_of vs)

-- ---- the items of a SEQUENCE OF

abbrev pub items_give : List Assignment → ComponentPlace → List (Rose ValueLabel) → Given
items_give M p vs = gathered M (replicate (length vs) p) (roses_of vs)

module _ (M : List Assignment) (p : ComponentPlace) where
  pub items-step : (vs : List (Rose ValueLabel)) (v : Rose ValueLabel) (later : List (Rose ValueLabel)) → vs ≡ v ∷ later → items_give M p vs ≡ both (place_gives M p v) (items_give M p later)
  items-step vs v later is = ap (items_give M p) is ∙ gathered-more M p (replicate (length later) p) v (roses_of later)

  pub items-end : (vs : List (Rose ValueLabel)) → vs ≡ [] → items_give M p vs ≡ nothing
  items-end vs is = ap (items_give M p) is ∙ gathered-none M []

-- ---- a value at a place, by its role

module _ (M : List Assignment) (p : ComponentPlace) (v : Rose ValueLabel) where
  by_role : (r : Role) → p.role ≡ r → place_gives M p v ≡ placed M (record { role = r; part = p.part; type = p.type }) v (inside M p.type v)
  by_role r e = ap (λ x. placed M (record { role = x; part = p.part; type = p.type }) v (inside M p.type v)) e

  pub at-attribute : p.role ≡ Attribute → (name : Name) (text : List ℕ) → name ≡ name_of_part p.part → text ≡ spelled (space_at (resolve M p.type)) v
      → given ((name, text) ∷ []) none ≡ place_gives M p v
  at-attribute e name text n s =
      ap (λ x. given ((x, text) ∷ []) none) n ∙ ap (λ x. given ((name_of_part p.part, x) ∷ []) none) s ∙ sym (by_role Attribute e)

  pub at-element : p.role ≡ Element → (name : Name) → name ≡ name_of_part p.part → given [] (more (element_of name (inside M p.type v)) none) ≡ place_gives M p v
  at-element e name n = ap (λ x. given [] (more (element_of x (inside M p.type v)) none)) n ∙ sym (by_role Element e)

  pub at-group : p.role ≡ Group → inside M p.type v ≡ place_gives M p v
  at-group e = sym (by_role Group e)

  pub at-content : p.role ≡ Content → inside M p.type v ≡ place_gives M p v
  at-content e = sym (by_role Content e)

  pub at-other : (p.role ≡ Attribute → ⊥) → (p.role ≡ Element → ⊥) → (p.role ≡ Group → ⊥) → (p.role ≡ Content → ⊥) → nothing ≡ place_gives M p v
  at-other a b c d = by p.role refl
    where
      by : (r : Role) → p.role ≡ r → nothing ≡ place_gives M p v
      by Attribute e = absurd (a e)
      by Element e = absurd (b e)
      by Group e = absurd (c e)
      by Content e = absurd (d e)
      by Embed e = sym (by_role Embed e)
      by Order e = sym (by_role Order e)
      by Item e = sym (by_role Item e)
      by Alternative e = sym (by_role Alternative e)
