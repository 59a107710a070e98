-- The rules of a start tag.
use Rattle.std.proofs.Common.{◌≡◌, ℕ, inl, inr, List, [], ◌∷◌, Some, Bool, true, false, map, get_or, refl, sym, ◌∙◌, ap, subst}
use Rattle.std.specs.Prelude.{Result, Ok, Err, MatchResult, All, not, bytes_eq, ◌||◌, ◌&&◌, if◌then◌else◌}
use Rattle.std.specs.List.{list_any}
use Rattle.std.proofs.lemmas.List.Elements.{All-nil, All-cons, All-head, All-tail}
use Rattle.base_texts.specs.declared.texts.Name.{Name}
use Rattle.base_texts.specs.Names.{name_eq}
use Rattle.base_texts.specs.Limits.{is_namespace, is_name_part, is_xmlns}
use Rattle.base_texts.specs.Namespaces.{xmlns_space, xsi_space}
use Rattle.base_texts.proofs.NameLaws.{name_eq-Decides}
use Rattle.base_trees.specs.Rose.{Rose, Roses, none, label_of, roses_of, kids_of}
use Rattle.xml_items.specs.Plain.{Plain}
use Rattle.xml_items.specs.declared.label.ItemLabel.{ItemLabel}
use Rattle.xml_items.specs.declared.label.ItemLabel.TheVariants.{Element}
use Rattle.schema_components.specs.declared.components.AttributeUse.{AttributeUse}
use Rattle.schema_components.specs.Components.{Set}
use Rattle.schema_components.specs.Declarable.{kept_spaces, is_declarable, is_declarable_attribute}
use Rattle.schema_components.specs.Linked.{IsUse}
use Rattle.schema_components.specs.SetParts.{SetParts, parts_of}
use Rattle.schema_components.proofs.Truths.{both}
use Rattle.validity_rules.specs.Asked.{Asked, Attribute, attribute_in, Inside, nothing, simple, children, asked_at}
use Rattle.validity_rules.specs.Valid.{treated_element}
use Rattle.validity_rules.specs.Attributes.{is_special, text_of, left, nil_of, nil_from, IsRight, Stands, AllStand, OneMissing}
use Rattle.validity_rules.specs.Faults.{IsBad, FirstKid, FaultBy}
use Rattle.validity_rules.specs.declared.why.InvalidWhy.{InvalidWhy}
use Rattle.validity_rules.specs.declared.why.InvalidWhy.TheVariants.{XsiType, BadNil, MissingAttribute, NilWithContent}
use Rattle.validity_rules.proofs.Reading.{type_fault, nil_fault, wrong_fault, missing_fault, inner_fault, all_kept}
use Rattle.validity_rules.proofs.Treated.{both_false}
use Rattle.validity_rules.proofs.Unique.{ContentValid, ContentFault, NilValid, NilFault}
use Rattle.validity_check.specs.declared.error.CheckError.{CheckError}
use Rattle.validity_check.specs.declared.error.CheckError.TheVariants.{Invalid, Memory}
use Rattle.validity_check.specs.Answers.{Tells, TagFault, IsGoodTag, IsValidInside, InsideFault, IsValidBy}

-- ---- the attributes that are declared aren't those of XML Schema for documents

not_true : (b : Bool) → not b ≡ true → b ≡ false
not_true true e = absurd (cc)
not_true false e = refl

neither : (p : List ℕ → Bool) (a b : List ℕ) → list_any p (a ∷ b ∷ []) ≡ false → p b ≡ false
neither p a b e = let rest = both_false (p a) (p b || false) e in (both_false (p b) false rest.1).0

other_space : (n : Name) → is_declarable n ≡ true → bytes_eq n.space xsi_space ≡ false
other_space n h =
    let last = both (is_namespace n.space && is_name_part n.local) (not (list_any (bytes_eq n.space) kept_spaces)) h in
    neither (bytes_eq n.space) xmlns_space xsi_space (not_true (list_any (bytes_eq n.space) kept_spaces) last.1)

pub plain_name : (n : Name) → is_declarable_attribute n ≡ true → is_special n ≡ false
plain_name n h = let other = other_space n (both (is_declarable n) (not (is_xmlns n)) h).0 in rw other refl

left_special : (x : Name × List ℕ) (xs : List (Name × List ℕ)) → is_special x.0 ≡ true → left (x ∷ xs) ≡ left xs
left_special x xs e = rw e refl

left_plain : (x : Name × List ℕ) (xs : List (Name × List ℕ)) → is_special x.0 ≡ false → left (x ∷ xs) ≡ x ∷ left xs
left_plain x xs e = rw e refl

-- a text that is left stands where it stood
pub text_left : (n : Name) → is_special n ≡ false → (xs : List (Name × List ℕ)) → text_of (left xs) n ≡ text_of xs n
text_left n plain [] = refl
text_left n plain (x ∷ xs) = by (is_special x.0) refl (text_left n plain xs)
  where
    other : (is : Bool) → name_eq x.0 n ≡ is → is_special x.0 ≡ true → is ≡ false
    other false e s = refl
    other true e s = absurd (let same : x.0 ≡ n = (name_eq-Decides x.0 n).0 e in let d = ap is_special same in cc (d, s, plain))

    past : is_special x.0 ≡ true → text_of xs n ≡ text_of (x ∷ xs) n
    past s = let e : name_eq x.0 n ≡ false = other (name_eq x.0 n) refl s in rw e refl

    by : (special : Bool) → is_special x.0 ≡ special → text_of (left xs) n ≡ text_of xs n → text_of (left (x ∷ xs)) n ≡ text_of (x ∷ xs) n
    by true e h = ap (λ ys. text_of ys n) (left_special x xs e) ∙ h ∙ past e
    by false e h = ap (λ ys. text_of ys n) (left_plain x xs e) ∙ ap (λ o. if name_eq x.0 n then Some x.1 else o) h

module _ (s : Set) (p : SetParts) (xs : List (Name × List ℕ)) where
  abbrev IsPlain : Attribute → Type 0
  IsPlain a = is_special a.name ≡ false

  uses_plain : (us : List AttributeUse) → All (IsUse s) us → All IsPlain (map (attribute_in p) us)
  uses_plain [] h = All-nil IsPlain
  uses_plain (u ∷ us) h = All-cons IsPlain (attribute_in p u) (map (attribute_in p) us) (plain_name u.name (All-head (IsUse s) u us h).0) (uses_plain us (All-tail (IsUse s) u us h))

  pub one_missing_left : (us : List AttributeUse) → All (IsUse s) us → OneMissing (map (attribute_in p) us) xs → OneMissing (map (attribute_in p) us) (left xs)
  one_missing_left us h (k, a, lt, at, m) =
      let plain : is_special a.name ≡ false = subst IsPlain at (uses_plain us h k a lt) in
      (k, a, lt, at, (m.0, text_left a.name plain xs ∙ m.1))

  pub all_stand_left : (us : List AttributeUse) → All (IsUse s) us → AllStand (map (attribute_in p) us) xs → AllStand (map (attribute_in p) us) (left xs)
  all_stand_left us h stand = λ k d lt required none.
      let a = get_or (map (attribute_in p) us) k d in
      stand k d lt required (sym (text_left a.name (uses_plain us h k d lt) xs) ∙ none)

-- ---- a start tag without attributes, of an element that takes none

pub bare : (a : Asked) → a.attributes ≡ [] → (xs : List (Name × List ℕ)) → xs ≡ [] → IsGoodTag a xs false
bare a e xs f =
    subst (λ ys. IsGoodTag a ys false) (sym f)
    (record { plain = refl; nil_is = refl; right = All-nil (IsRight a.attributes); stand = subst (λ ws. AllStand ws (left [])) (sym e) (All-nil (Stands (left []))) })

-- ---- the fault of a start tag is one of its element

module _ (asks : ℕ → Asked) (d : ℕ) (n : Name) (xs : List (Name × List ℕ)) (declares : List (List ℕ × List ℕ)) (place : ℕ) (t : Rose ItemLabel) (is : label_of t ≡ Element n xs declares place) where
  moved : (at : ℕ) (why reason : InvalidWhy) → at ≡ place → why ≡ reason → FaultBy asks d t place reason → FaultBy asks d t at why
  moved at why reason e f h = subst (λ b. FaultBy asks d t b why) (sym e) (subst (λ r. FaultBy asks d t place r) (sym f) h)

  pub tag_fault : (at : ℕ) (why : InvalidWhy) → TagFault (asks d) xs place at why → FaultBy asks d t at why
  tag_fault at why (inl (e, f, h)) = moved at why XsiType e f (type_fault asks d n xs declares place t is h)
  tag_fault at why (inr (plain, inl (e, f, h))) = moved at why BadNil e f (nil_fault asks d n xs declares place t is plain h)
  tag_fault at why (inr (plain, inr (good, inl (e, h)))) = moved at why why e refl (wrong_fault asks d n xs declares place t is plain good why h)
  tag_fault at why (inr (plain, inr (good, inr (right, (e, f, h))))) = moved at why MissingAttribute e f (missing_fault asks d n xs declares place t is plain good right h)

-- ---- an element behind its start tag

module _ (s : Set) (d : ℕ) (a : Asked) (ys : List (Name × List ℕ)) (n : Name) (xs : List (Name × List ℕ)) (declares : List (List ℕ × List ℕ)) (place : ℕ) (t : Rose ItemLabel)
    (is : label_of t ≡ Element n xs declares place) (asks : a ≡ asked_at (parts_of s) d) (same : ys ≡ xs)
  where
    pub tag_refused : (e : CheckError) → Tells (TagFault a ys place) e → Tells (FaultBy (asked_at (parts_of s)) d t) e
    tag_refused (Invalid at why) h =
        tag_fault (asked_at (parts_of s)) d n xs declares place t is at why (subst (λ b. TagFault b xs place at why) asks (subst (λ zs. TagFault a zs place at why) same h))
    tag_refused Memory h = tt

    module _ (nil : Bool) (good : IsGoodTag a ys nil) (kids : List (Rose ItemLabel)) (are : kids ≡ kids_of t) where
      well : IsGoodTag (asked_at (parts_of s) d) xs nil
      well = subst (λ b. IsGoodTag b xs nil) asks (subst (λ zs. IsGoodTag a zs nil) same good)

      not_bad : IsBad (nil_of (asked_at (parts_of s) d).nillable xs) → ⊥
      not_bad h = go nil (subst IsBad well.nil_is h)
        where
          go : (b : Bool) → IsBad (nil_from (Some b)) → ⊥
          go true h = h
          go false h = h

      kept_inside : (vs : Roses Plain) → NilValid (asked_at (parts_of s)) (nil_from (Some nil)) (asked_at (parts_of s) d).inside (roses_of kids) vs → IsValidBy s d t
      kept_inside vs h =
          let here = subst (λ ks. NilValid (asked_at (parts_of s)) (nil_from (Some nil)) (asked_at (parts_of s) d).inside (roses_of ks) vs) are h in
          let there = subst (λ k. NilValid (asked_at (parts_of s)) k (asked_at (parts_of s) d).inside (roses_of (kids_of t)) vs) (sym well.nil_is) here in
          (treated_element (asked_at (parts_of s) d) n xs vs, all_kept (asked_at (parts_of s)) d n xs declares place t is well.plain not_bad well.right well.stand vs there)

      refused_inside : (at : ℕ) (why : InvalidWhy) → NilFault (asked_at (parts_of s)) (nil_from (Some nil)) (asked_at (parts_of s) d).inside (roses_of kids) place at why
          → FaultBy (asked_at (parts_of s)) d t at why
      refused_inside at why h =
          let here = subst (λ ks. NilFault (asked_at (parts_of s)) (nil_from (Some nil)) (asked_at (parts_of s) d).inside (roses_of ks) place at why) are h in
          let there = subst (λ k. NilFault (asked_at (parts_of s)) k (asked_at (parts_of s) d).inside (roses_of (kids_of t)) place at why) (sym well.nil_is) here in
          inner_fault (asked_at (parts_of s)) d n xs declares place t is well.plain not_bad well.right well.stand at why there

    pub nil_kept : IsGoodTag a ys true → (kids : List (Rose ItemLabel)) → kids ≡ kids_of t → roses_of kids ≡ none → IsValidBy s d t
    nil_kept good kids are h = kept_inside true good kids are none (h, refl)

    pub nil_refused : IsGoodTag a ys true → (kids : List (Rose ItemLabel)) → kids ≡ kids_of t → (at : ℕ) (why : InvalidWhy) → FirstKid (roses_of kids) (λ _. NilWithContent) at why
        → FaultBy (asked_at (parts_of s)) d t at why
    nil_refused good kids are at why h = refused_inside true good kids are at why h

    content_judged : (c : Inside) (ts : Roses ItemLabel) → IsValidInside (asked_at (parts_of s)) c ts → (vs : Roses Plain) × ContentValid (asked_at (parts_of s)) c ts vs
    content_judged nothing ts h = (none, (h, refl))
    content_judged (simple space) ts h = h
    content_judged (children mixed p) ts h = h

    content_refused : (c : Inside) (ts : Roses ItemLabel) (at : ℕ) (why : InvalidWhy) → InsideFault (asked_at (parts_of s)) c ts place at why → ContentFault (asked_at (parts_of s)) c ts place at why
    content_refused nothing ts at why h = h
    content_refused (simple space) ts at why h = h
    content_refused (children mixed p) ts at why h = h

    pub inside_judged : {X : Type 0} → IsGoodTag a ys false → (kids : List (Rose ItemLabel)) → kids ≡ kids_of t → (r : Result X CheckError)
        → MatchResult r (λ _. IsValidInside (asked_at (parts_of s)) a.inside (roses_of kids)) (Tells (InsideFault (asked_at (parts_of s)) a.inside (roses_of kids) place))
        → MatchResult r (λ _. IsValidBy s d t) (Tells (FaultBy (asked_at (parts_of s)) d t))
    inside_judged good kids are (Ok x) h =
        let v = content_judged (asked_at (parts_of s) d).inside (roses_of kids) (subst (λ b. IsValidInside (asked_at (parts_of s)) b.inside (roses_of kids)) asks h) in
        kept_inside false good kids are v.0 v.1
    inside_judged good kids are (Err (Invalid at why)) h =
        refused_inside false good kids are at why
        (content_refused (asked_at (parts_of s) d).inside (roses_of kids) at why (subst (λ b. InsideFault (asked_at (parts_of s)) b.inside (roses_of kids) place at why) asks h))
    inside_judged good kids are (Err Memory) h = tt
