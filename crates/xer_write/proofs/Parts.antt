-- What the parts of a value give, with the instructions on its type.
use Rattle.std.proofs.Common.{◌≡◌, ℕ, zero, suc, ◌+◌, ◌<◌, ◌≤◌, Bool, true, false, cond, Option, Some, None, List, [], ◌∷◌, length, get_or, drop, refl, sym, ◌∙◌, ap, subst, arith}
use Rattle.std.specs.Prelude.{◌||◌, ◌&&◌, slice_get, replicate, nat_le, IfSome}
use Rattle.std.specs.Option.{is_some}
use Rattle.std.proofs.lemmas.Bool.{le-leb, lt-leb}
use Rattle.std.proofs.lemmas.List.{drop_more, append-nil}
use Rattle.base_trees.specs.Rose.{Rose, Roses, none, more, label_of, kids_of, roses_of, node_count, count_all}
use Rattle.simple_types.specs.declared.labels.ValueLabel.{ValueLabel}
use Rattle.simple_types.specs.declared.labels.ValueLabel.TheVariants as value
use Rattle.simple_types.specs.Lexical.{is_at_most}
use Rattle.asn_types.specs.declared.modules.Assignment.{Assignment}
use Rattle.asn_types.specs.declared.roles.Role.{Role}
use Rattle.asn_types.specs.declared.types.Component.{Component}
use Rattle.asn_types.specs.declared.types.Form.TheVariants as form
use Rattle.asn_types.specs.declared.types.TypeLabel.{TypeLabel}
use Rattle.asn_types.specs.Marks.{has_embed_values, has_use_nil}
use Rattle.asn_types.specs.Parts.{parts_of}
use Rattle.asn_types.specs.Roles.{role_of}
use Rattle.asn_values.specs.Values.{ComponentPlace, place_of, place_at, alone, repeated, is_last_absent}
use Rattle.xml_items.specs.Plain.{Plain}
use Rattle.xer_items.specs.Items.{Given, given, nothing, joined, both, gathered, texts_of, with_texts, with_nil}
use Rattle.xer_write.specs.declared.contents.Contents.{Contents}
use Rattle.xer_write.specs.Private.Gaining.{Gains}
use Rattle.xer_write.specs.Private.Giving.{may_be_present, place_gives, places_give, parts_give, ordered_give, mixed_gives, type_gives}
use Rattle.xer_write.proofs.Gaining.{gains-both, nil-both}
use Rattle.xer_write.proofs.Giving.{fit_from, gathered-more, gathered-[], give-none, choice-give, items-give}

-- nil, and then what stands in the element
pub nil-then : (M : List Assignment) (t : Rose TypeLabel) (v : Rose ValueLabel) (A B C : Contents) (l : TypeLabel) (k : ValueLabel) → l ≡ label_of t → k ≡ label_of v
    → Gains A B (with_nil (has_use_nil l.marks && is_last_absent k) nothing)
    → Gains B C (with_texts (has_embed_values (label_of t).marks) (texts_of (label_of v) (roses_of (kids_of v))) (ordered_give M t v)) → Gains A C (type_gives M t v)
nil-then M t v A B C l k el ek one two =
    let nil = has_use_nil (label_of t).marks && is_last_absent (label_of v) in
    let inner = with_texts (has_embed_values (label_of t).marks) (texts_of (label_of v) (roses_of (kids_of v))) (ordered_give M t v) in
    let first : Gains A B (with_nil nil nothing) =
    subst (λ x. Gains A B (with_nil (has_use_nil x.marks && is_last_absent (label_of v)) nothing)) el
    (subst (λ y. Gains A B (with_nil (has_use_nil l.marks && is_last_absent y) nothing)) ek one) in
    subst (Gains A C) (nil-both nil inner) (gains-both A B C (with_nil nil nothing) inner first two)

pub with-embed : (b : Bool) (texts : List (List ℕ)) (g : Given) → b ≡ true → mixed_gives texts g ≡ with_texts b texts g
with-embed true texts g e = refl
with-embed false texts g e = absurd (cc)

pub without-embed : (b : Bool) (texts : List (List ℕ)) (g : Given) → b ≡ false → g ≡ with_texts b texts g
without-embed true texts g e = absurd (cc)
without-embed false texts g e = refl

-- ---- a component that may be present or absent

pub some-at : {A : Type 0} (xs : List A) (i : ℕ) → i < length xs → (x : A) × (x ≡ get_or xs i x)
some-at [] i h = absurd (omega arith)
some-at (x ∷ xs) zero h = (x, refl)
some-at (x ∷ xs) (suc i) h = some-at xs i (omega arith)

pub may-step : (parts : List Component) (flags : List Bool) (i : ℕ) (part : Component) (flag : Bool) → i < length parts → i < length flags → part ≡ get_or parts i part → get_or flags i false ≡ flag
    → (flag || part.optional) ≡ true → fit_from parts flags (i + 1) ≡ fit_from parts flags i
may-step parts flags i part flag p f here set may =
    let parts_are : drop i parts ≡ part ∷ drop (i + 1) parts = drop_more parts i part p ∙ ap (λ k. k ∷ drop (i + 1) parts) (sym here) in
    let flags_are : drop i flags ≡ flag ∷ drop (i + 1) flags = drop_more flags i false f ∙ ap (λ k. k ∷ drop (i + 1) flags) set in
    sym (ap (λ x. may_be_present x (drop i flags)) parts_are ∙ ap (λ x. may_be_present (part ∷ drop (i + 1) parts) x) flags_are ∙ ap (λ b. b && fit_from parts flags (i + 1)) may)

-- ---- what was found at a number

pub slice-at : {A : Type 0} (xs : List A) (i : ℕ) (x : A) → i < length xs → x ≡ get_or xs i x → slice_get xs i ≡ Some x
slice-at [] i x h e = absurd (omega arith)
slice-at (y ∷ ys) zero x h e = ap (λ z. Some z) (sym e)
slice-at (y ∷ ys) (suc i) x h e = slice-at ys i x (omega arith) e

pub kid-count : {L : Type 0} (ts : List (Rose L)) (i : ℕ) (t : Rose L) → slice_get ts i ≡ Some t → node_count t ≤ count_all (roses_of ts)
kid-count [] i t got = absurd (cc)
kid-count (u ∷ us) zero t got = let same : u ≡ t = cc in let e = ap node_count same in omega (arith, e)
kid-count (u ∷ us) (suc i) t got = omega (arith, kid-count us i t got)

pub flag-at : (flags : List Bool) (i : ℕ) (b : Bool) → i < length flags → get_or flags i false ≡ b → drop i flags ≡ b ∷ drop (i + 1) flags
flag-at flags i b h e = drop_more flags i false h ∙ ap (λ k. k ∷ drop (i + 1) flags) e

pub role-is : (l k : TypeLabel) (r : Role) (parts : List Component) (i : ℕ) (part : Component) → k ≡ l → parts_of l.form ≡ parts → slice_get parts i ≡ Some part
    → IfSome (slice_get (parts_of k.form) i) (λ c. r ≡ role_of k i c) → r ≡ role_of l i part
role-is l k r parts i part same has got h =
    let there : IfSome (slice_get (parts_of l.form) i) (λ c. r ≡ role_of l i c) = subst (λ x. IfSome (slice_get (parts_of x.form) i) (λ c. r ≡ role_of x i c)) same h in
    subst (λ o. IfSome o (λ c. r ≡ role_of l i c)) (ap (λ ps. slice_get ps i) has ∙ got) there

-- ---- one place, or none

pub joined-none : (k : Roses Plain) → joined k none ≡ k
joined-none none = refl
joined-none (more x k) = ap (λ z. more x z) (joined-none k)

both-nothing : (g : Given) → both g nothing ≡ g
both-nothing g = ap (λ xs. given xs (joined g.kids none)) (append-nil g.attributes) ∙ ap (λ k. given g.attributes k) (joined-none g.kids)

module _ (M : List Assignment) where
  pub give-one : (p : ComponentPlace) (vs : List (Rose ValueLabel)) (v : Rose ValueLabel) → Some v ≡ slice_get vs 0 → places_give M (Some (p ∷ [])) vs ≡ place_gives M p v
  give-one p [] v got = absurd (cc)
  give-one p (x ∷ xs) v got =
      let same : x ≡ v = cc in
      gathered-more M p [] x (roses_of xs) ∙ ap (λ z. both (place_gives M p x) z) (gathered-[] M (roses_of xs)) ∙ both-nothing (place_gives M p x) ∙ ap (place_gives M p) same

  pub give-empty : (found : Option (List ComponentPlace)) (vs : List (Rose ValueLabel)) → None ≡ slice_get vs 0 → places_give M found vs ≡ nothing
  give-empty found [] past = give-none M found
  give-empty found (x ∷ xs) past = absurd (cc)

  pub give-short : (found : Option (List ComponentPlace)) (vs : List (Rose ValueLabel)) → vs ≡ [] → places_give M found vs ≡ nothing
  give-short found vs short = ap (places_give M found) short ∙ give-none M found

  pub give-missing : (found : Option (List ComponentPlace)) (vs : List (Rose ValueLabel)) → is_some found ≡ false → places_give M found vs ≡ nothing
  give-missing None vs e = refl
  give-missing (Some ps) vs e = absurd (cc)

  pub choice-made : (t : Rose TypeLabel) (v : Rose ValueLabel) (parts : List Component) (i : ℕ) (r : Role) (part : Component) (kid : Rose TypeLabel) (chosen : Rose ValueLabel)
      → (label_of t).form ≡ form.Choice parts → label_of v ≡ value.Choice i → slice_get parts i ≡ Some part → slice_get (kids_of t) i ≡ Some kid → Some chosen ≡ slice_get (kids_of v) 0
      → r ≡ role_of (label_of t) i part → place_gives M (record { role = r; part = part; type = kid }) chosen ≡ parts_give M t v
  choice-made t v parts i r part kid chosen f l p k c e =
      ap (λ x. place_gives M (record { role = x; part = part; type = kid }) chosen) e
      ∙ sym (choice-give M t v parts i f l
      ∙ ap (λ o. places_give M (alone (place_at (label_of t) i o (slice_get (kids_of t) i))) (kids_of v)) p
      ∙ ap (λ o. places_give M (alone (place_at (label_of t) i (Some part) o)) (kids_of v)) k
      ∙ give-one (place_of (label_of t) i part kid) (kids_of v) chosen c)

  pub choice-missed : (t : Rose TypeLabel) (v : Rose ValueLabel) (parts : List Component) (i : ℕ) → (label_of t).form ≡ form.Choice parts → label_of v ≡ value.Choice i → slice_get parts i ≡ None
      → parts_give M t v ≡ nothing
  choice-missed t v parts i f l p =
      choice-give M t v parts i f l ∙ ap (λ o. places_give M (alone (place_at (label_of t) i o (slice_get (kids_of t) i))) (kids_of v)) p
      ∙ ap (λ o. places_give M (alone o) (kids_of v)) (no-part (label_of t) i (slice_get (kids_of t) i))
    where
      no-part : (l : TypeLabel) (i : ℕ) (o : Option (Rose TypeLabel)) → place_at l i None o ≡ None
      no-part l i None = refl
      no-part l i (Some t) = refl

  pub choice-empty : (t : Rose TypeLabel) (v : Rose ValueLabel) (parts : List Component) (i : ℕ) → (label_of t).form ≡ form.Choice parts → label_of v ≡ value.Choice i → None ≡ slice_get (kids_of v) 0
      → parts_give M t v ≡ nothing
  choice-empty t v parts i f l c = choice-give M t v parts i f l ∙ give-empty (alone (place_at (label_of t) i (slice_get parts i) (slice_get (kids_of t) i))) (kids_of v) c

  pub items-made : (t : Rose TypeLabel) (v : Rose ValueLabel) (part : Component) (least : ℕ) (most : Option ℕ) (r : Role) (kid : Rose TypeLabel)
      → (label_of t).form ≡ form.SequenceOf part least most → label_of v ≡ value.SequenceOf → slice_get (kids_of t) 0 ≡ Some kid → least ≤ length (kids_of v) → is_at_most (length (kids_of v)) most ≡ true
      → r ≡ role_of (label_of t) 0 part
      → gathered M (replicate (length (kids_of v)) (record { role = r; part = part; type = kid })) (roses_of (kids_of v)) ≡ parts_give M t v
  items-made t v part least most r kid f l k low high e =
      let n = length (kids_of v) in
      let test : (nat_le least n && is_at_most n most) ≡ true = ap (λ b. b && is_at_most n most) (le-leb least n low) ∙ high in
      ap (λ x. gathered M (replicate n (record { role = x; part = part; type = kid })) (roses_of (kids_of v))) e
      ∙ sym (items-give M t v part least most f l
      ∙ ap (λ b. places_give M (cond b (repeated n (place_at (label_of t) 0 (Some part) (slice_get (kids_of t) 0))) None) (kids_of v)) test
      ∙ ap (λ o. places_give M (repeated n (place_at (label_of t) 0 (Some part) o)) (kids_of v)) k)

  pub items-missed : (t : Rose TypeLabel) (v : Rose ValueLabel) (part : Component) (least : ℕ) (most : Option ℕ)
      → (label_of t).form ≡ form.SequenceOf part least most → label_of v ≡ value.SequenceOf → (nat_le least (length (kids_of v)) && is_at_most (length (kids_of v)) most) ≡ false → parts_give M t v ≡ nothing
  items-missed t v part least most f l test =
      items-give M t v part least most f l
      ∙ ap (λ b. places_give M (cond b (repeated (length (kids_of v)) (place_at (label_of t) 0 (Some part) (slice_get (kids_of t) 0))) None) (kids_of v)) test

pub too-few : (a n : ℕ) (b : Bool) → n < a → (nat_le a n && b) ≡ false
too-few a n b h = ap (λ x. x && b) (lt-leb a n h)

pub too-many : (a b : Bool) → b ≡ false → (a && b) ≡ false
too-many true b e = e
too-many false b e = refl
