-- References that are reached from types.
use Rattle.std.proofs.Common.{◌≡◌, ℕ, zero, suc, ◌<◌, ◌≤◌, ◌+◌, Bool, true, false, ◌&&◌, Option, Some, None, List, [], ◌∷◌, ◌++◌, drop, take, length, min, get_or, refl, sym, ap, ◌∙◌, map, arith}
use Rattle.std.specs.Prelude.{slice_get, nat_le, if◌then◌else◌}
use Rattle.std.specs.Option.{option_map, option_and_then}
use Rattle.std.proofs.lemmas.Bool.{leb-true, leb-false}
use Rattle.std.proofs.lemmas.List.{at_drop_more, at_drop_all, take_more, map-append}
use Rattle.std.proofs.lemmas.Option.{slice_get-map}
use Rattle.base_trees.specs.Rose.{Rose, node, Roses, none, more, label_of, kids_of, roses_of, list_of}
use Rattle.base_trees.proofs.Kids.{roses_of-drop}
use Rattle.asn_types.specs.Refs.{is_element}
use Rattle.module_text.specs.Texts.{parts_of}
use Rattle.module_text.specs.declared.types.PlainForm.{PlainForm}
use Rattle.module_text.specs.declared.types.PlainForm.TheVariants as form
use Rattle.module_text.specs.declared.types.PlainPart.{PlainPart}
use Rattle.module_text.specs.declared.types.PlainLabel.{PlainLabel}
use Rattle.module_text.specs.declared.modules.PlainAssignment.{PlainAssignment}
use Rattle.module_text.specs.Resolving.{role_of, number_of, body_at, body_of, if_reference, near_references, near_references_of, all_references, all_references_in, chains_within, chains_end}
use Rattle.module_check.specs.Known.{leads_in, near_part, all_within}

pub roses_of-list_of : {L : Type 0} (ts : Roses L) → roses_of (list_of ts) ≡ ts
roses_of-list_of none = refl
roses_of-list_of (more t ts) = ap (more t) (roses_of-list_of ts)

both : (a b c d : Bool) → a ≡ c → b ≡ d → (a && b) ≡ (c && d)
both a b c d e f = rw e (rw f refl)

if_true : (b c d : Bool) → c ≡ d → (if b then true else c) ≡ (if b then true else d)
if_true b c d e = ap (λ x. if b then true else x) e

-- ---- what is so of the same references

module _ (f g : List ℕ → Bool) (same : (r : List ℕ) → f r ≡ g r) where
  if_same : (form : PlainForm) → if_reference f form ≡ if_reference g form
  if_same form.Bool = refl
  if_same (form.Int r) = refl
  if_same (form.Numbers items) = refl
  if_same (form.Words items) = refl
  if_same (form.Utf8 size class) = refl
  if_same (form.Sequence parts) = refl
  if_same (form.Choice parts) = refl
  if_same (form.SequenceOf size part) = refl
  if_same (form.Ref reference) = same reference.name

  mutual
    unfolding near_references

    pub near-same : (t : Rose PlainLabel) → near_references f t ≡ near_references g t
    near-same (node l ts) = both _ _ _ _ (if_same l.form) (near-same-of l 0 (parts_of l.form) ts)

    near-same-of : (l : PlainLabel) (i : ℕ) (parts : List PlainPart) (ts : Roses PlainLabel)
        → near_references_of f l i parts ts ≡ near_references_of g l i parts ts
    near-same-of l i parts none = refl
    near-same-of l i [] (more t ts) = refl
    near-same-of l i (part ∷ parts) (more t ts) =
        both _ _ _ _ (if_true (is_element (role_of l i part)) _ _ (near-same t)) (near-same-of l (i + 1) parts ts)

  mutual
    unfolding all_references

    pub all-same : (t : Rose PlainLabel) → all_references f t ≡ all_references g t
    all-same (node l ts) = both _ _ _ _ (if_same l.form) (all-same-in ts)

    all-same-in : (ts : Roses PlainLabel) → all_references_in f ts ≡ all_references_in g ts
    all-same-in none = refl
    all-same-in (more t ts) = both _ _ _ _ (all-same t) (all-same-in ts)

-- ---- a type and its parts

module _ (is : List ℕ → Bool) where
  pub near-split : (t : Rose PlainLabel) → near_references is t
      ≡ (if_reference is (label_of t).form && near_references_of is (label_of t) 0 (parts_of (label_of t).form) (roses_of (kids_of t)))
  unfolding near_references
  near-split (node l ts) =
      ap (λ us. if_reference is l.form && near_references_of is l 0 (parts_of l.form) us) (sym (roses_of-list_of ts))

  pub all-split : (t : Rose PlainLabel) → all_references is t
      ≡ (if_reference is (label_of t).form && all_references_in is (roses_of (kids_of t)))
  unfolding all_references
  all-split (node l ts) = ap (λ us. if_reference is l.form && all_references_in is us) (sym (roses_of-list_of ts))

  near-no_parts : (l : PlainLabel) (i : ℕ) (ts : Roses PlainLabel) → near_references_of is l i [] ts ≡ true
  unfolding near_references_of
  near-no_parts l i none = refl
  near-no_parts l i (more t ts) = refl

  near-no_kids : (l : PlainLabel) (i : ℕ) (parts : List PlainPart) → near_references_of is l i parts none ≡ true
  unfolding near_references_of
  near-no_kids l i parts = refl

  near-one : (l : PlainLabel) (i : ℕ) (part : PlainPart) (parts : List PlainPart) (t : Rose PlainLabel) (ts : Roses PlainLabel)
      → near_references_of is l i (part ∷ parts) (more t ts) ≡ (near_part is l i part t && near_references_of is l (i + 1) parts ts)
  unfolding near_references_of
  near-one l i part parts t ts = refl

  module _ (l : PlainLabel) (parts : List PlainPart) (kids : List (Rose PlainLabel)) (i : ℕ) where
    pub near-more : (part : PlainPart) (kid : Rose PlainLabel) → i < min (length parts) (length kids)
        → part ≡ get_or parts i part → kid ≡ get_or kids i kid
        → near_references_of is l i (drop i parts) (roses_of (drop i kids))
        ≡ (near_part is l i part kid && near_references_of is l (i + 1) (drop (i + 1) parts) (roses_of (drop (i + 1) kids)))
    near-more part kid at here there =
        let in_parts : i < length parts = omega arith in
        let in_kids : i < length kids = omega arith in
        at_drop_more (λ ps. near_references_of is l i ps (roses_of (drop i kids))) parts i part in_parts
        ∙ ap (λ (p : PlainPart). near_references_of is l i (p ∷ drop (i + 1) parts) (roses_of (drop i kids))) (sym here)
        ∙ ap (λ ts. near_references_of is l i (part ∷ drop (i + 1) parts) ts) (roses_of-drop kids i kid in_kids there)
        ∙ near-one l i part (drop (i + 1) parts) kid (roses_of (drop (i + 1) kids))

    near_past_by : (short : Bool) → nat_le (length parts) i ≡ short → min (length parts) (length kids) ≤ i
        → near_references_of is l i (drop i parts) (roses_of (drop i kids)) ≡ true
    near_past_by true e le =
        at_drop_all (λ ps. near_references_of is l i ps (roses_of (drop i kids))) parts i (leb-true (length parts) i e)
        ∙ near-no_parts l i (roses_of (drop i kids))
    near_past_by false e le =
        let over : i < length parts = leb-false (length parts) i e in
        at_drop_all (λ ks. near_references_of is l i (drop i parts) (roses_of ks)) kids i (omega (arith, over, le))
        ∙ near-no_kids l i (drop i parts)

    pub near-past : min (length parts) (length kids) ≤ i → near_references_of is l i (drop i parts) (roses_of (drop i kids)) ≡ true
    near-past le = near_past_by (nat_le (length parts) i) refl le

  pub all-more : (kids : List (Rose PlainLabel)) (i : ℕ) (kid : Rose PlainLabel) → i < length kids → kid ≡ get_or kids i kid
      → all_references_in is (roses_of (drop i kids)) ≡ (all_references is kid && all_references_in is (roses_of (drop (i + 1) kids)))
  unfolding all_references_in
  all-more kids i kid at here = ap (λ ts. all_references_in is ts) (roses_of-drop kids i kid at here)

  pub all-past : (kids : List (Rose PlainLabel)) (i : ℕ) → length kids ≤ i → all_references_in is (roses_of (drop i kids)) ≡ true
  unfolding all_references_in
  all-past kids i le = at_drop_all (λ ks. all_references_in is (roses_of ks)) kids i le

-- ---- the loop over the parts of a type

module _ (is : List ℕ → Bool) (t : Rose PlainLabel) (l : PlainLabel) (b : Bool) (here : l ≡ label_of t) (so : b ≡ if_reference is l.form) where
  label_so : if_reference is (label_of t).form ≡ b
  label_so = ap (λ (k : PlainLabel). if_reference is k.form) (sym here) ∙ sym so

  pub near-refused : b ≡ false → false ≡ near_references is t
  near-refused fails =
      sym (near-split is t ∙ ap (λ x. x && near_references_of is (label_of t) 0 (parts_of (label_of t).form) (roses_of (kids_of t))) (label_so ∙ fails))

  pub all-refused : b ≡ false → false ≡ all_references is t
  all-refused fails = sym (all-split is t ∙ ap (λ x. x && all_references_in is (roses_of (kids_of t))) (label_so ∙ fails))

  pub all-begun : (kids : List (Rose PlainLabel)) → kids ≡ kids_of t → b ≡ true → all_references_in is (roses_of kids) ≡ all_references is t
  all-begun kids same holds =
      ap (λ ks. all_references_in is (roses_of ks)) same
      ∙ sym (all-split is t ∙ ap (λ x. x && all_references_in is (roses_of (kids_of t))) (label_so ∙ holds))

  pub near-begun : (parts : List PlainPart) (kids : List (Rose PlainLabel)) → parts ≡ parts_of l.form → kids ≡ kids_of t → b ≡ true
      → near_references_of is l 0 parts (roses_of kids) ≡ near_references is t
  near-begun parts kids same below holds =
      ap (λ ps. near_references_of is l 0 ps (roses_of kids)) same
      ∙ ap (λ ks. near_references_of is l 0 (parts_of l.form) (roses_of ks)) below
      ∙ ap (λ (k : PlainLabel). near_references_of is k 0 (parts_of k.form) (roses_of (kids_of t))) here
      ∙ sym (near-split is t ∙ ap (λ x. x && near_references_of is (label_of t) 0 (parts_of (label_of t).form) (roses_of (kids_of t))) (label_so ∙ holds))

module _ (is : List ℕ → Bool) (l : PlainLabel) (parts : List PlainPart) (kids : List (Rose PlainLabel)) (i : ℕ) (part : PlainPart) (kid : Rose PlainLabel) (b due : Bool)
    (at : i < min (length parts) (length kids)) (here : part ≡ get_or parts i part) (there : kid ≡ get_or kids i kid)
    (so : b ≡ near_part is l i part kid) (left : near_references_of is l i (drop i parts) (roses_of (drop i kids)) ≡ due) where
  near_as : due ≡ (b && near_references_of is l (i + 1) (drop (i + 1) parts) (roses_of (drop (i + 1) kids)))
  near_as =
      sym left ∙ near-more is l parts kids i part kid at here there
      ∙ ap (λ x. x && near_references_of is l (i + 1) (drop (i + 1) parts) (roses_of (drop (i + 1) kids))) (sym so)

  pub near-failed : b ≡ false → false ≡ due
  near-failed fails = sym (near_as ∙ ap (λ x. x && near_references_of is l (i + 1) (drop (i + 1) parts) (roses_of (drop (i + 1) kids))) fails)

  pub near-stepped : b ≡ true → near_references_of is l (i + 1) (drop (i + 1) parts) (roses_of (drop (i + 1) kids)) ≡ due
  near-stepped holds = sym (near_as ∙ ap (λ x. x && near_references_of is l (i + 1) (drop (i + 1) parts) (roses_of (drop (i + 1) kids))) holds)

module _ (is : List ℕ → Bool) (kids : List (Rose PlainLabel)) (i : ℕ) (kid : Rose PlainLabel) (b due : Bool)
    (at : i < length kids) (there : kid ≡ get_or kids i kid) (so : b ≡ all_references is kid)
    (left : all_references_in is (roses_of (drop i kids)) ≡ due) where
  all_as : due ≡ (b && all_references_in is (roses_of (drop (i + 1) kids)))
  all_as = sym left ∙ all-more is kids i kid at there ∙ ap (λ x. x && all_references_in is (roses_of (drop (i + 1) kids))) (sym so)

  pub all-failed : b ≡ false → false ≡ due
  all-failed fails = sym (all_as ∙ ap (λ x. x && all_references_in is (roses_of (drop (i + 1) kids))) fails)

  pub all-stepped : b ≡ true → all_references_in is (roses_of (drop (i + 1) kids)) ≡ due
  all-stepped holds = sym (all_as ∙ ap (λ x. x && all_references_in is (roses_of (drop (i + 1) kids))) holds)

-- ---- one reference more

module _ (P : List PlainAssignment) (n : ℕ) where
  abbrev pub leads_on : List ℕ → Bool
  leads_on r = elim (body_of P r) [ None ↦ true | Some u ↦ chains_within P n u ]

  abbrev found_in : Option Bool → Bool
  found_in None = true
  found_in (Some is) = is

  abbrev body_leads : Option (Rose PlainLabel) → Bool
  body_leads None = true
  body_leads (Some u) = chains_within P n u

  abbrev number_leads : Option ℕ → Bool
  number_leads None = true
  number_leads (Some k) = found_in (slice_get (all_within n P) k)

  leads_found : (o : Option PlainAssignment)
      → found_in (option_map (λ (a : PlainAssignment). chains_within P n a.body) o) ≡ body_leads (option_map (λ (a : PlainAssignment). a.body) o)
  leads_found None = refl
  leads_found (Some a) = refl

  leads_at : (o : Option ℕ) → number_leads o ≡ body_leads (option_and_then (body_at P) o)
  leads_at None = refl
  leads_at (Some k) =
      ap found_in (slice_get-map (λ (a : PlainAssignment). chains_within P n a.body) P k)
      ∙ leads_found (slice_get P k)

  pub leads-on : (r : List ℕ) → leads_in (Some (all_within n P)) P r ≡ leads_on r
  leads-on r = leads_at (number_of P r)

  more_of : (a : PlainAssignment) → near_references (leads_in (Some (all_within n P)) P) a.body ≡ chains_within P (suc n) a.body
  unfolding chains_within
  more_of a = near-same (leads_in (Some (all_within n P)) P) leads_on leads-on a.body

module _ (f g : PlainAssignment → Bool) (same : (a : PlainAssignment) → f a ≡ g a) where
  map_same : (Q : List PlainAssignment) → map f Q ≡ map g Q
  map_same [] = refl
  map_same (a ∷ Q) = rw (same a) (ap (λ bs. g a ∷ bs) (map_same Q))

pub within-more : (P : List PlainAssignment) (n : ℕ)
    → map (λ (a : PlainAssignment). near_references (leads_in (Some (all_within n P)) P) a.body) P ≡ all_within (suc n) P
within-more P n =
    map_same (λ (a : PlainAssignment). near_references (leads_in (Some (all_within n P)) P) a.body) (λ (a : PlainAssignment). chains_within P (suc n) a.body) (more_of P n) P

zero_of : (P : List PlainAssignment) (a : PlainAssignment) → near_references (leads_in None P) a.body ≡ chains_within P zero a.body
unfolding chains_within
zero_of P a = near-same (leads_in None P) (λ r. false) (λ r. refl) a.body

pub within-zero : (P : List PlainAssignment) → map (λ (a : PlainAssignment). near_references (leads_in None P) a.body) P ≡ all_within zero P
within-zero P =
    map_same (λ (a : PlainAssignment). near_references (leads_in None P) a.body) (λ (a : PlainAssignment). chains_within P zero a.body) (zero_of P) P

pub all-lead : (P : List PlainAssignment) (t : Rose PlainLabel) → all_references (leads_in (Some (all_within 3 P)) P) t ≡ chains_end P t
all-lead P t = all-same (leads_in (Some (all_within 3 P)) P) (leads_on P 3) (leads-on P 3) t

pub within-next : (P : List PlainAssignment) (n m : ℕ) (old new : List Bool) → old ≡ all_within m P → n ≡ suc m
    → new ≡ map (λ (a : PlainAssignment). near_references (leads_in (Some old) P) a.body) P → new ≡ all_within n P
within-next P n m old new known same is =
    is ∙ ap (λ ws. map (λ (a : PlainAssignment). near_references (leads_in (Some ws) P) a.body) P) known
    ∙ within-more P m
    ∙ ap (λ k. all_within k P) (sym same)

-- a list made item by item
pub map-more : {X Y : Type 0} (f : X → Y) (xs : List X) (i : ℕ) (x : X) → i < length xs → x ≡ get_or xs i x
    → map f (take (i + 1) xs) ≡ map f (take i xs) ++ f x ∷ []
map-more f xs i x at here =
    ap (map f) (take_more xs i x at ∙ ap (λ y. take i xs ++ y ∷ []) (sym here)) ∙ map-append f (take i xs) (x ∷ [])
