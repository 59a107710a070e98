-- Child elements that are told later: what the code keeps of them.
use Rattle.std.proofs.Common.{◌≡◌, ℕ, zero, suc, ◌+◌, ◌-◌, ◌<◌, ◌≤◌, Bool, true, false, cond, Option, Some, None, List, [], ◌∷◌, ◌++◌, length, map, get_or, drop, append-nil, inl, inr, refl, sym, ◌∙◌, ap, subst, arith}
use Rattle.std.specs.Prelude.{slice_get, ◌&&◌, ◌||◌, ◌==◌}
use Rattle.std.specs.List.{range_with_len}
use Rattle.std.specs.Option.{option_map}
use Rattle.std.proofs.lemmas.Bool.Decides.{eqb_tells}
use Rattle.std.proofs.lemmas.List.{length-map}
use Rattle.base_trees.proofs.Roses.{roses_of-list_of}
use Rattle.base_trees.specs.Rose.{Rose, Roses, node, none, more, label_of, kids_of, list_of, roses_of, node_count}
use Rattle.xml_items.specs.Plain.{Plain}
use Rattle.xml_items.specs.Mixing.{child_elements}
use Rattle.simple_types.specs.declared.labels.ValueLabel.{ValueLabel}
use Rattle.asn_types.specs.declared.modules.Assignment.{Assignment}
use Rattle.asn_types.specs.declared.roles.Role.TheVariants.{Attribute, Element, Group, Content, Embed, Order, Item, Alternative}
use Rattle.asn_types.specs.declared.types.Component.{Component}
use Rattle.asn_types.specs.declared.types.Form.{Form}
use Rattle.asn_types.specs.declared.types.Form.TheVariants as form
use Rattle.asn_types.specs.declared.types.TypeLabel.{TypeLabel}
use Rattle.asn_types.specs.Marks.{has_attribute, has_untagged, has_embed_values, has_list, has_use_nil, has_use_order, has_use_union}
use Rattle.asn_types.specs.Modules.{IsSequence, IsSequenceOf, IsChoice, HasOrderPart, is_group, parts_from, group_parts, ordered}
use Rattle.asn_types.specs.Parts.{parts_of}
use Rattle.asn_types.specs.Refs.{resolve}
use Rattle.asn_types.specs.Roles.{role_of, is_content, is_embed, is_order, is_item}
use Rattle.asn_types.proofs.Chaining.{well-formed}
use Rattle.asn_values.specs.Values.{is_last_absent}
use Rattle.xer_items.specs.Spelling.{is_leaf, is_textual}
use Rattle.asn_values.specs.Ordering.{in_order}
use Rattle.xer_items.specs.Items.{Given, given, nothing, both, joined, element_of, with_order, texts_of, with_texts, with_nil, inside}
use Rattle.xer_items.specs.Children.{Child, elements_of}
use Rattle.asn_values.proofs.Slots.{in_order-map}
use Rattle.xer_items.proofs.Children.{joined_elements, joined_children, elements_in_order}
use Rattle.xer_write.specs.declared.contents.Contents.{Contents}
use Rattle.xer_write.specs.Private.Gaining.{Gains}
use Rattle.xer_write.specs.Private.Giving.{IsTypeIn, parts_give, ordered_give}
use Rattle.xer_write.specs.Private.Keeping.{AreWithin, Keeps, IsPlain, PartsArePlain}
use Rattle.xer_write.proofs.Gaining.{gains-nothing, gains-both}
use Rattle.xer_write.proofs.Giving.{found-in, inside-parts, order-absent}
use Rattle.xer_write.proofs.Parts.{joined-none}

joined-again : (a b c : Roses Plain) → joined (joined a b) c ≡ joined a (joined b c)
joined-again none b c = refl
joined-again (more item items) b c = ap (λ k. more item k) (joined-again items b c)

within-both : (M : List Assignment) (most : ℕ) (cs ds : List Child) → AreWithin M most cs → AreWithin M most ds → AreWithin M most (cs ++ ds)
within-both M most [] ds h k = k
within-both M most (c ∷ cs) ds h k = (h.0, within-both M most cs ds h.1 k)

module _ (M : List Assignment) where
  pub keeps-nothing : (n : ℕ) (o : Contents) (cs : List Child) → Keeps M n o o cs cs nothing
  keeps-nothing n o cs = record { gains = gains-nothing o; children = sym (joined-none (elements_of M cs)); within = λ most le h. h }

  pub keeps-both : (n : ℕ) (A B C : Contents) (cs ds es : List Child) (g h : Given) → Keeps M n A B cs ds g → Keeps M n B C ds es h → Keeps M n A C cs es (both g h)
  keeps-both n A B C cs ds es g h x y = record {
    gains = gains-both A B C (given g.attributes none) (given h.attributes none) x.gains y.gains;
    children = y.children ∙ ap (λ k. joined k (child_elements h.kids)) x.children ∙ joined-again (elements_of M cs) (child_elements g.kids) (child_elements h.kids)
        ∙ ap (joined (elements_of M cs)) (sym (joined_elements g.kids h.kids));
    within = λ most le w. y.within most le (x.within most le w);
  }

  pub keeps-more : (n m : ℕ) (A B : Contents) (cs ds : List Child) (g : Given) → n ≤ m → Keeps M n A B cs ds g → Keeps M m A B cs ds g
  keeps-more n m A B cs ds g le x = record { gains = x.gains; children = x.children; within = λ most above w. x.within most (omega (arith, le, above)) w }

  pub keeps-attribute : (n : ℕ) (A B : Contents) (cs : List Child) (g : Given) → g.kids ≡ none → Gains A B (given g.attributes none) → Keeps M n A B cs cs g
  keeps-attribute n A B cs g e gains = record {
    gains = gains;
    children = sym (ap (λ k. joined (elements_of M cs) (child_elements k)) e ∙ joined-none (elements_of M cs));
    within = λ most le h. h;
  }

  pub keeps-child : (n : ℕ) (o : Contents) (cs : List Child) (c : Child) → IsTypeIn M c.type → node_count c.value ≤ n
      → Keeps M n o o cs (cs ++ c ∷ []) (given [] (more (element_of c.name (inside M c.type c.value)) none))
  keeps-child n o cs c is few = record {
    gains = gains-nothing o;
    children = joined_children M cs (c ∷ []);
    within = λ most le h. within-both M most cs (c ∷ []) h ((is, omega (arith, few, le)), tt);
  }

-- ---- the roles of parts

abbrev left_groups : TypeLabel → Component → ℕ → List Component → Bool → List Component
left_groups l p i parts b = cond b (p ∷ parts_from l is_group (i + 1) parts) (parts_from l is_group (i + 1) parts)

not-first : (l : TypeLabel) (p : Component) (i : ℕ) (parts : List Component) (b : Bool) → is_group (role_of l i p) ≡ b → left_groups l p i parts b ≡ []
    → (is_group (role_of l i p) ≡ false) × (parts_from l is_group (i + 1) parts ≡ [])
not-first l p i parts true is e = absurd (cc)
not-first l p i parts false is e = (is, e)

no-group : (l : TypeLabel) (parts : List Component) (i k : ℕ) (part : Component) → parts_from l is_group i parts ≡ [] → slice_get parts k ≡ Some part → role_of l (i + k) part ≡ Group → ⊥
no-group l [] i k part e at g = cc
no-group l (p ∷ parts) i zero part e at g =
    let same : p ≡ part = cc in
    let here : i + 0 ≡ i = omega arith in
    let grouped : is_group (role_of l i p) ≡ true = ap (λ c. is_group (role_of l i c)) same ∙ ap (λ j. is_group (role_of l j part)) (sym here) ∙ ap is_group g in
    let not_grouped = (not-first l p i parts (is_group (role_of l i p)) refl e).0 in
    let clash : true ≡ false = sym grouped ∙ not_grouped in
    cc
no-group l (p ∷ parts) i (suc n) part e at g =
    let further : (i + 1) + n ≡ i + suc n = omega arith in
    no-group l parts (i + 1) n part (not-first l p i parts (is_group (role_of l i p)) refl e).1 at (ap (λ j. role_of l j part) further ∙ g)

content-by : (a u c e o i n : Bool) → cond a Attribute (cond u Group (cond c Content (cond e Embed (cond o Order (cond i Item (cond n Alternative Element)))))) ≡ Content → c ≡ true
content-by true u c e o i n h = absurd (cc)
content-by false true c e o i n h = absurd (cc)
content-by false false true e o i n h = refl
content-by false false false true o i n h = absurd (cc)
content-by false false false false true i n h = absurd (cc)
content-by false false false false false true n h = absurd (cc)
content-by false false false false false false true h = absurd (cc)
content-by false false false false false false false h = absurd (cc)

content-is : (l : TypeLabel) (i : ℕ) (part : Component) → role_of l i part ≡ Content → is_content l i ≡ true
content-is l i part h = content-by (has_attribute part.marks) (has_untagged part.marks) (is_content l i) (is_embed l i) (is_order l i) (is_item l.form part) (has_use_union l.marks) h

and-both : (a b : Bool) → (a && b) ≡ true → (a ≡ true) × (b ≡ true)
and-both true true e = (refl, refl)
and-both true false e = absurd (cc)
and-both false b e = absurd (cc)

group-free : (l : TypeLabel) (i : ℕ) (part : Component) → group_parts l ≡ [] → slice_get (parts_of l.form) i ≡ Some part → role_of l i part ≡ Group → ⊥
group-free l i part e at g = let from : 0 + i ≡ i = omega arith in no-group l (parts_of l.form) 0 i part e at (ap (λ j. role_of l j part) from ∙ g)

-- of a plain SEQUENCE
pub plain-parts : (M : List Assignment) (t : Rose TypeLabel) → IsPlain t → PartsArePlain M t
plain-parts M t is i part u at type_at = record {
  group = group-free (label_of t) i part is.groups at;
  content = λ c. absurd (let nil = (and-both (has_use_nil (label_of t).marks) _ (content-is (label_of t) i part c)).0 in let not_nil = is.content in cc);
}

same-some : {A : Type 0} (x y : A) → Some x ≡ Some y → x ≡ y
same-some x y e = cc

last-number : (i n : ℕ) → (i + 1 == n) ≡ true → i ≡ n - 1
last-number i n e = elim (eqb_tells (i + 1) n) [ inl h ↦ omega (arith, h.1) | inr h ↦ absurd (let other = h.0 in cc) ]

-- and of a USE-ORDER type
pub order-parts : (M : List Assignment) (t : Rose TypeLabel) → IsTypeIn M t → has_use_order (label_of t).marks ≡ true → PartsArePlain M t
order-parts M (node l ts) h told i part u at type_at =
    let has : HasOrderPart M l ts = (well-formed M (node l ts) h.0 h.1).0.use_order told in
    record {
      group = group-free l i part has.groups at;
      content = λ c.
          let content = and-both (has_use_nil l.marks) _ (content-is l i part c) in
          let last : i ≡ length (parts_of l.form) - 1 = last-number i (length (parts_of l.form)) content.1 in
          let found : ordered M l ts ≡ Some (label_of (resolve M u)) =
          ap (λ b. cond b (option_map (λ x. label_of (resolve M x)) (slice_get (list_of ts) (length (parts_of l.form) - 1))) (Some l)) content.0
          ∙ ap (λ n. option_map (λ x. label_of (resolve M x)) (slice_get (list_of ts) n)) (sym last) ∙ ap (option_map (λ x. label_of (resolve M x))) type_at in
          let same : has.inner ≡ label_of (resolve M u) = same-some has.inner (label_of (resolve M u)) (sym has.inner_found ∙ found) in
          let alone = has.inner_alone content.0 in
          record {
            sequence = subst (λ k. IsSequence k.form) same has.inner_sequence;
            groups = subst (λ k. group_parts k ≡ []) same has.inner_groups;
            content = subst (λ k. has_use_nil k.marks ≡ false) same alone.0;
            texts = subst (λ k. has_embed_values k.marks ≡ false) same alone.1;
            order = subst (λ k. has_use_order k.marks ≡ false) same alone.2;
          };
    }

pub order-part : (M : List Assignment) (t : Rose TypeLabel) → IsTypeIn M t → has_use_order (label_of t).marks ≡ true → HasOrderPart M (label_of t) (roses_of (kids_of t))
order-part M (node l ts) h told = subst (HasOrderPart M l) (sym (roses_of-list_of ts)) ((well-formed M (node l ts) h.0 h.1).0.use_order told)

-- ---- what a plain SEQUENCE gives

no-list : (f : Form) → IsSequence f → IsSequenceOf f → ⊥
no-list (form.Sequence parts) s h = h
no-list form.Bool s h = s
no-list (form.Int least greatest) s h = s
no-list (form.Numbers numbers) s h = s
no-list (form.Words identifiers words) s h = s
no-list (form.Order identifiers) s h = s
no-list (form.Utf8 least most class) s h = s
no-list (form.Choice parts) s h = s
no-list (form.SequenceOf part least most) s h = s
no-list (form.Ref to) s h = s

no-choice : (f : Form) → IsSequence f → IsChoice f → ⊥
no-choice (form.Sequence parts) s h = h
no-choice form.Bool s h = s
no-choice (form.Int least greatest) s h = s
no-choice (form.Numbers numbers) s h = s
no-choice (form.Words identifiers words) s h = s
no-choice (form.Order identifiers) s h = s
no-choice (form.Utf8 least most class) s h = s
no-choice (form.Choice parts) s h = s
no-choice (form.SequenceOf part least most) s h = s
no-choice (form.Ref to) s h = s

no-leaf : (f : Form) → IsSequence f → is_leaf f ≡ false
no-leaf (form.Sequence parts) s = refl
no-leaf form.Bool s = absurd s
no-leaf (form.Int least greatest) s = absurd s
no-leaf (form.Numbers numbers) s = absurd s
no-leaf (form.Words identifiers words) s = absurd s
no-leaf (form.Order identifiers) s = refl
no-leaf (form.Utf8 least most class) s = absurd s
no-leaf (form.Choice parts) s = refl
no-leaf (form.SequenceOf part least most) s = refl
no-leaf (form.Ref to) s = refl

unmarked : (b : Bool) → (b ≡ true → ⊥) → b ≡ false
unmarked true f = absurd (f refl)
unmarked false f = refl

none-of : (a b c : Bool) → a ≡ false → b ≡ false → c ≡ false → (a || b || c) ≡ false
none-of true b c e f g = absurd (cc)
none-of false true c e f g = absurd (cc)
none-of false false c e f g = g

sequence-textual : (M : List Assignment) (t : Rose TypeLabel) → IsTypeIn M t → IsSequence (label_of t).form → is_textual (label_of t) ≡ false
sequence-textual M (node l ts) h s =
    let is = (well-formed M (node l ts) h.0 h.1).0 in
    none-of (is_leaf l.form) (has_list l.marks) (has_use_union l.marks) (no-leaf l.form s) (unmarked (has_list l.marks) (λ e. no-list l.form s (is.list e)))
    (unmarked (has_use_union l.marks) (λ e. no-choice l.form s (is.use_union e)))

no-nil : (b c : Bool) (g : Given) → b ≡ false → with_nil (b && c) g ≡ g
no-nil true c g e = absurd (cc)
no-nil false c g e = refl

no-texts : (b : Bool) (texts : List (List ℕ)) (g : Given) → b ≡ false → with_texts b texts g ≡ g
no-texts true texts g e = absurd (cc)
no-texts false texts g e = refl

pub plain-inside : (M : List Assignment) (t : Rose TypeLabel) (v : Rose ValueLabel) → IsTypeIn M t → IsPlain (resolve M t) → inside M t v ≡ parts_give M (resolve M t) v
plain-inside M t v h is =
    let found = resolve M t in
    let marks = (label_of found).marks in
    let texts = texts_of (label_of v) (roses_of (kids_of v)) in
    inside-parts M t v (sequence-textual M found (found-in M t h) is.sequence)
    ∙ no-nil (has_use_nil marks) (is_last_absent (label_of v)) (with_texts (has_embed_values marks) texts (ordered_give M found v)) is.content
    ∙ no-texts (has_embed_values marks) texts (ordered_give M found v) is.texts
    ∙ order-absent M found v is.order

-- ---- child elements by their places

pub record AtPlace {X : Type 0} (f : ℕ → Option X) (places : List ℕ) (xs : List X) (k : ℕ) : Type 0 where
  pub item : X
  pub found : f (get_or places k 0) ≡ Some item
  pub left : drop k xs ≡ item ∷ drop (k + 1) xs

pub at-place : {X : Type 0} (f : ℕ → Option X) (places : List ℕ) (xs : List X) (k : ℕ) → map f places ≡ map Some xs → k < length places → AtPlace f places xs k
at-place f [] xs k e h = absurd (omega (arith, h))
at-place f (p ∷ places) [] k e h = absurd (cc)
at-place f (p ∷ places) (x ∷ xs) zero e h = record { item = x; found = cc; left = refl }
at-place f (p ∷ places) (x ∷ xs) (suc k) e h =
    let rest : map f places ≡ map Some xs = cc in
    let there = at-place f places xs k rest (omega (arith, h)) in
    let next : suc (k + 1) ≡ suc k + 1 = omega arith in
    record { item = there.item; found = there.found; left = there.left ∙ ap (λ j. there.item ∷ drop j (x ∷ xs)) next }

pub same-length : {X : Type 0} (f : ℕ → Option X) (places : List ℕ) (xs : List X) → map f places ≡ map Some xs → length places ≡ length xs
same-length f places xs e = sym (length-map places f) ∙ ap length e ∙ length-map xs Some

pub within-at : (M : List Assignment) (most : ℕ) (cs : List Child) (i : ℕ) (c : Child) → AreWithin M most cs → slice_get cs i ≡ Some c → IsTypeIn M c.type × (node_count c.value ≤ most)
within-at M most [] i c h e = absurd (cc)
within-at M most (d ∷ cs) zero c h e = let same : d ≡ c = cc in subst (λ x. IsTypeIn M x.type × (node_count x.value ≤ most)) same h.0
within-at M most (d ∷ cs) (suc i) c h e = within-at M most cs i c h.1 e

-- ---- what the code has seen of them

pub seen-at : {X Y : Type 0} (f : X → Y) (xs : List X) (i : ℕ) (x : X) → slice_get xs i ≡ Some x → slice_get (map f xs) i ≡ Some (f x)
seen-at f [] i x e = absurd (cc)
seen-at f (y ∷ xs) zero x e = let same : y ≡ x = cc in ap (λ z. Some (f z)) same
seen-at f (y ∷ xs) (suc i) x e = seen-at f xs i x e

pub seen-none : {X Y : Type 0} (f : X → Y) (xs : List X) (i : ℕ) → slice_get xs i ≡ None → slice_get (map f xs) i ≡ None
seen-none f [] i e = refl
seen-none f (y ∷ xs) zero e = absurd (cc)
seen-none f (y ∷ xs) (suc i) e = seen-none f xs i e

pub some-item : {X : Type 0} (o : Option X) (x y : X) → o ≡ Some x → o ≡ Some y → x ≡ y
some-item o x y e f = cc

pub none-item : {X : Type 0} (o : Option X) (x : X) → o ≡ None → o ≡ Some x → ⊥
none-item o x e f = cc

-- ---- in an order

all-places : {X : Type 0} (g : ℕ → Option X) (xs : List X) (a : ℕ) → ((k : ℕ) → g (a + k) ≡ slice_get xs k) → map g (range_with_len a (length xs)) ≡ map Some xs
all-places g [] a f = refl
all-places g (x ∷ xs) a f =
    let at : a ≡ a + 0 = omega arith in
    let rest : map g (range_with_len (a + 1) (length xs)) ≡ map Some xs = all-places g xs (a + 1) (λ k. let next : (a + 1) + k ≡ a + suc k = omega arith in ap g next ∙ f (suc k)) in
    ap (λ o. o ∷ map g (range_with_len (a + 1) (length xs))) (ap g at ∙ f 0) ∙ ap (λ l. Some x ∷ l) rest

pub order-places : {X : Type 0} (flags : List Bool) (numbers : List ℕ) (xs : List X)
    → map (slice_get xs) (in_order flags numbers (range_with_len 0 (length xs))) ≡ map Some (in_order flags numbers xs)
order-places flags numbers xs =
    sym (in_order-map (slice_get xs) flags numbers (range_with_len 0 (length xs)))
    ∙ ap (in_order flags numbers) (all-places (slice_get xs) xs 0 (λ k. let at : 0 + k ≡ k = omega arith in ap (slice_get xs) at))
    ∙ in_order-map Some flags numbers xs

-- attributes that were told, and then the child elements in their order
pub told-in-order : (M : List Assignment) (n : ℕ) (A B C : Contents) (cs : List Child) (g : Given) (told : Bool) (flags : List Bool) (numbers : List ℕ) → told ≡ true → Keeps M n A B [] cs g
    → Gains B C (given [] (elements_of M (in_order flags numbers cs))) → Gains A C (with_order told flags numbers g)
told-in-order M n A B C cs g false flags numbers e k h = absurd (cc)
told-in-order M n A B C cs g true flags numbers e k h =
    let kids : elements_of M (in_order flags numbers cs) ≡ roses_of (in_order flags numbers (list_of (child_elements g.kids))) =
    sym (elements_in_order M flags numbers cs) ∙ ap (λ items. roses_of (in_order flags numbers (list_of items))) k.children in
    let whole : given (g.attributes ++ []) (elements_of M (in_order flags numbers cs)) ≡ given g.attributes (roses_of (in_order flags numbers (list_of (child_elements g.kids)))) =
    ap (λ xs. given xs (elements_of M (in_order flags numbers cs))) (append-nil g.attributes) ∙ ap (given g.attributes) kids in
    subst (Gains A C) whole (gains-both A B C (given g.attributes none) (given [] (elements_of M (in_order flags numbers cs))) k.gains h)
