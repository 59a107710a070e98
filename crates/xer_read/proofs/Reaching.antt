-- What is known behind some kids of an element, whose values were put down.
use Rattle.std.proofs.Common.{◌≡◌, ℕ, zero, suc, ◌+◌, ◌≤◌, ◌<◌, ◌⊎◌, inl, inr, List, [], ◌∷◌, ◌++◌, Some, None, Bool, true, false, length, get_or, refl, sym, ◌∙◌, ap, subst, add-one, arith, length-append}
use Rattle.std.specs.Prelude.{Result, Ok, Err, MatchResult, All}
use Rattle.base_texts.specs.declared.texts.Name.{Name}
use Rattle.base_texts.specs.WhiteSpace.{is_blank}
use Rattle.base_trees.specs.Rose.{Rose, node, Roses, roses_of, label_of}
use Rattle.base_trees.specs.Rose as rose
use Rattle.base_flat_trees.specs.Zips.{Zip, added}
use Rattle.simple_types.specs.declared.labels.ValueLabel.{ValueLabel}
use Rattle.content_models.specs.Particle.{Particle}
use Rattle.content_models.specs.Language.{Leaf, names, Lang, Viable}
use Rattle.content_models.specs.SpotLaws as spots
use Rattle.content_match.specs.Taking.{Matched, Took, TookMore, spot_of}
use Rattle.content_match.specs.declared.places.Leaf as matched
use Rattle.xml_items.specs.declared.label.ItemLabel.{ItemLabel}
use Rattle.xml_items.specs.declared.label.ItemLabel.TheVariants.{Element, Text}
use Rattle.xml_read.specs.Sound.{levels, levels_all}
use Rattle.xml_items.specs.Plain.{Plain, element, text}
use Rattle.xml_items.specs.Mixing.{child_elements}
use Rattle.schema_components.specs.Components.{Set}
use Rattle.schema_components.specs.Linked.{leaves, IsNamed}
use Rattle.schema_components.specs.SetParts.{parts_of}
use Rattle.xer_items.specs.Items.{Given, joined, element_of}
use Rattle.validity_rules.specs.Asked.{Asked, asked_at}
use Rattle.validity_rules.specs.Valid.{Between, ValidBy, KidsValid}
use Rattle.validity_rules.specs.Faults.{Begins, At, FaultBy, front}
use Rattle.validity_rules.specs.declared.why.InvalidWhy.TheVariants.{TextNotAllowed, UnexpectedElement, MissingElement}
use Rattle.validity_rules.proofs.Reading.{kid_at, kid_here, front_long, IsElementNamed, named}
use Rattle.validity_check.specs.declared.error.CheckError.{CheckError}
use Rattle.validity_check.specs.declared.error.CheckError.TheVariants.{Invalid, Memory}
use Rattle.validity_check.specs.Walked.{Walked}
use Rattle.validity_check.specs.Answers.{Tells, KidsFault}
use Rattle.validity_check.proofs.Leaves.{last_has}
use Rattle.validity_check.proofs.Walking.{end_judged, text_judged, name_refused, kid_judged}
use Rattle.value_builder.specs.Built.{Built, Stands, with_parts}
use Rattle.value_contents.specs.Made.{Child, TopMade}
use Rattle.value_contents.specs.Reached.{Put}
use Rattle.xer_read.specs.Private.Given.{IsElementOf, IsRead}
use Rattle.xer_read.specs.Private.Keeping.{IsKept, AllKept, Reached}
use Rattle.xer_read.specs.Private.Contents.{ChildrenPut}
use Rattle.xer_read.specs.Private.Putting.{ValuePut, OpenAt}
use Rattle.xer_read.proofs.Mixing.{valid-element}

-- ---- treated kids, one more at their end

joined-none : (us : Roses Plain) → joined us rose.none ≡ us
joined-none rose.none = refl
joined-none (rose.more u us) = ap (λ z. rose.more u z) (joined-none us)

-- what a text among child elements gives
abbrev pub text_kept : Bool → List ℕ → Roses Plain
text_kept true words = rose.more (node (text words) rose.none) rose.none
text_kept false words = rose.none

between-kept : (m blank : Bool) (words : List ℕ) → (m ≡ true) ⊎ (blank ≡ true) → Between m blank words rose.none (text_kept m words)
between-kept true blank words h = refl
between-kept false blank words (inl h) = absurd (cc)
between-kept false blank words (inr h) = (h, refl)

between-joined : (m blank : Bool) (words : List ℕ) (ws vs ks : Roses Plain) → Between m blank words ws vs → Between m blank words (joined ws ks) (joined vs ks)
between-joined true blank words ws vs ks h = ap (λ z. joined z ks) h
between-joined false blank words ws vs ks h = (h.0, ap (λ z. joined z ks) h.1)

module _ (asks : ℕ → Asked) (m : Bool) where
  pub text-valid : (ts : Roses ItemLabel) (i : ℕ) (t : Rose ItemLabel) (us : List Leaf) (words : List ℕ) (at : ℕ) → kid_at ts i ≡ Some t → label_of t ≡ Text words at → (m ≡ true) ⊎ (is_blank words ≡ true)
      → (vs : Roses Plain) → KidsValid asks m (front i ts) us vs → KidsValid asks m (front (suc i) ts) us (joined vs (text_kept m words))
  text-valid rose.none i t us words at k l b vs h = absurd (cc)
  text-valid (rose.more (node (Element n xs declares c) ks) ts) zero t us words at k l b vs h =
      absurd (let e : node (Element n xs declares c) ks ≡ t = cc in let f : ◌≡◌ {A = ItemLabel} (Element n xs declares c) (Text words at) = ap label_of e ∙ l in cc)
  text-valid (rose.more (node (Text others c) ks) ts) zero t us words at k l b vs h =
      let e : node (Text others c) ks ≡ t = cc in
      let f : ◌≡◌ {A = ItemLabel} (Text others c) (Text words at) = ap label_of e ∙ l in
      let q : words ≡ others = cc in (
        rose.none,
        (h.0, refl),
        subst (λ w. Between m (is_blank others) others rose.none (joined vs (text_kept m w))) (sym q)
            (subst (λ z. Between m (is_blank others) others rose.none (joined z (text_kept m others))) (sym h.1) (between-kept m (is_blank others) others (subst (λ w. (m ≡ true) ⊎ (is_blank w ≡ true)) q b))),
      )
  text-valid (rose.more (node (Text others c) ks) ts) (suc i) t us words at k l b vs (ws, h, bt) =
      (joined ws (text_kept m words), text-valid ts i t us words at k l b ws h, between-joined m (is_blank others) others ws vs (text_kept m words) bt)
  text-valid (rose.more (node (Element n xs declares c) ks) ts) (suc i) t us words at k l b vs (y, v, bb, ws, ew, eu, nm, val, h) =
      (y, v, bb, joined ws (text_kept m words), ew, ap (λ z. joined z (text_kept m words)) eu, nm, val, text-valid ts i t v words at k l b ws h)

  pub element-valid : (ts : Roses ItemLabel) (i : ℕ) (t : Rose ItemLabel) (us : List Leaf) (n : Name) (l : Leaf) (b : Rose Plain) → kid_at ts i ≡ Some t → IsElementNamed (label_of t) n → l.name ≡ n
      → ValidBy asks l.decl t b → (vs : Roses Plain) → KidsValid asks m (front i ts) us vs → KidsValid asks m (front (suc i) ts) (us ++ l ∷ []) (joined vs (rose.more b rose.none))
  element-valid rose.none i t us n l b k e nm val vs h = absurd (cc)
  element-valid (rose.more (node (Text others c) ks) ts) zero t us n l b k e nm val vs h =
      absurd (let q : t ≡ node (Text others c) ks = cc in let f : IsElementNamed (label_of (node (Text others c) ks)) n = subst (λ s. IsElementNamed (label_of s) n) q e in f)
  element-valid (rose.more (node (Element a xs declares c) ks) ts) zero t us n l b k e nm val vs h =
      let q : t ≡ node (Element a xs declares c) ks = cc in
      let f : a ≡ n = subst (λ s. IsElementNamed (label_of s) n) q e in
      (l, [], b, rose.none, ap (λ s. s ++ l ∷ []) h.0, ap (λ z. joined z (rose.more b rose.none)) h.1, nm ∙ sym f, subst (λ s. ValidBy asks l.decl s b) q val, (refl, refl))
  element-valid (rose.more (node (Text others c) ks) ts) (suc i) t us n l b k e nm val vs (ws, h, bt) =
      (joined ws (rose.more b rose.none), element-valid ts i t us n l b k e nm val ws h, between-joined m (is_blank others) others ws vs (rose.more b rose.none) bt)
  element-valid (rose.more (node (Element a xs declares c) ks) ts) (suc i) t us n l b k e nm val vs (y, v, bb, ws, ew, eu, nm1, val1, h) =
      (y, v ++ l ∷ [], bb, joined ws (rose.more b rose.none), ap (λ s. s ++ l ∷ []) ew, ap (λ z. joined z (rose.more b rose.none)) eu, nm1, val1, element-valid ts i t v n l b k e nm val ws h)

-- ---- the child elements among them

pub text-adds : (m : Bool) (words : List ℕ) (us : Roses Plain) → child_elements (joined us (text_kept m words)) ≡ child_elements us
text-adds true words us = go us
  where
    go : (us : Roses Plain) → child_elements (joined us (text_kept true words)) ≡ child_elements us
    go rose.none = refl
    go (rose.more (node (element n xs) ks) us) = ap (λ z. rose.more (node (element n xs) ks) z) (go us)
    go (rose.more (node (text others) ks) us) = go us
text-adds false words us = ap child_elements (joined-none us)

pub element-adds : (b : Rose Plain) → child_elements (rose.more b rose.none) ≡ rose.more b rose.none → (us : Roses Plain) → child_elements (joined us (rose.more b rose.none)) ≡ joined (child_elements us) (rose.more b rose.none)
element-adds b is rose.none = is
element-adds b is (rose.more (node (element n xs) ks) us) = ap (λ z. rose.more (node (element n xs) ks) z) (element-adds b is us)
element-adds b is (rose.more (node (text others) ks) us) = element-adds b is us

-- ---- levels

pub level-within : (ts : Roses ItemLabel) (i : ℕ) (t : Rose ItemLabel) → kid_at ts i ≡ Some t → levels t ≤ levels_all ts
level-within rose.none i t k = absurd (cc)
level-within (rose.more u ts) zero t k = let e : u ≡ t = cc in let f = ap levels e in omega (arith, f)
level-within (rose.more u ts) (suc i) t k = let h = level-within ts i t k in omega (arith, h)

pub roses-more : (bs : List (Rose Plain)) (b : Rose Plain) → joined (roses_of bs) (rose.more b rose.none) ≡ roses_of (bs ++ b ∷ [])
roses-more [] b = refl
roses-more (c ∷ bs) b = ap (λ z. rose.more c z) (roses-more bs b)

module _ (s : Set) (high : ℕ) where
  all-more : (gs : List Child) (bs : List (Rose Plain)) (g : Child) (b : Rose Plain) → AllKept s high gs bs → IsKept s high g b → AllKept s high (gs ++ g ∷ []) (bs ++ b ∷ [])
  all-more [] [] g b h k = (k, tt)
  all-more [] (c ∷ bs) g b h k = absurd h
  all-more (x ∷ gs) [] g b h k = absurd h
  all-more (x ∷ gs) (c ∷ bs) g b h k = (h.0, all-more gs bs g b h.1 k)

-- ---- behind some kids

pub none-reached : (s : Set) (m : Bool) (p : Particle) (kids : List (Rose ItemLabel)) (k : Matched) (before : Zip ValueLabel) (now : Built) → k.particle ≡ p → Took k [] → Stands now before → Reached s m p kids 0 k before now
none-reached s m p kids k before now e h stands = record {
  particle = e;
  us = [];
  took = h;
  few = omega arith;
  vs = rose.none;
  fine = (refl, refl);
  gs = [];
  items = [];
  kept = tt;
  are = refl;
  all = before;
  put = at-start (spot_of k) h.leads.ends;
  stands = stands;
}
  where
    at-start : (o : _) → spots.EndsAt k.particle o [] → Put p o [] before before
    at-start None e = (refl, refl)
    at-start (Some spot) (earlier, last, e, leaf) = absurd (let n = ap length e in let long = length-append earlier (last ∷ []) in omega (arith, n, long))

module _ (s : Set) (m : Bool) (p : Particle) (kids : List (Rose ItemLabel)) (place : ℕ) (i : ℕ) (k : Matched) (before : Zip ValueLabel) (now : Built) (r : Reached s m p kids i k before now) where
  abbrev asks : ℕ → Asked
  asks = asked_at (parts_of s)

  abbrev walked : Walked s m p kids i k
  walked = record { particle = r.particle; us = r.us; took = r.took; vs = r.vs; fine = r.fine; few = r.few }

  -- ---- behind all

  pub end-refused : length kids ≤ i → (e : CheckError) → Tells (At place MissingElement (spots.IsNamed k.particle (names r.us) → ⊥)) e → Tells (KidsFault asks m p (roses_of kids) place) e
  end-refused past e h =
      let refused : Result (Unit {0}) CheckError = Err e in
      end_judged s m p kids place i k walked past refused h

  pub end-put : length kids ≤ i → Lang k.particle 0 [] r.us → (flags : List Bool) (values : List (Rose ValueLabel)) → TopMade p flags values r.gs → (after : Built) → Stands after (with_parts flags values before)
      → ChildrenPut s false m p (roses_of kids) before after
  end-put past lang flags values made after stands = record {
    leaves_are = r.us;
    lang = subst (λ q. Lang q 0 [] r.us) r.particle lang;
    vs = r.vs;
    valid = subst (λ ts. KidsValid asks m ts r.us r.vs) (front_long kids i past) r.fine;
    gs = r.gs;
    items = r.items;
    kept = r.kept;
    are = r.are;
    flags = flags;
    values = values;
    made = made;
    stands = stands;
  }

  module _ (t : Rose ItemLabel) (below : i < length kids) (here : t ≡ get_or kids i t) where
    -- ---- behind a text

    text-reached : (words : List ℕ) (b : ℕ) → label_of t ≡ Text words b → (m ≡ true) ⊎ (is_blank words ≡ true) → Reached s m p kids (i + 1) k before now
    text-reached words b l why = record {
      particle = r.particle;
      us = r.us;
      took = r.took;
      few = let f = r.few in omega (arith, f);
      vs = joined r.vs (text_kept m words);
      fine = rw add-one (text-valid asks m (roses_of kids) i t r.us words b (kid_here kids i t below here) l why r.vs r.fine);
      gs = r.gs;
      items = r.items;
      kept = r.kept;
      are = text-adds m words r.vs ∙ r.are;
      all = r.all;
      put = r.put;
      stands = r.stands;
    }

    pub text-judged : {X : Type 0} (words : List ℕ) (b : ℕ) → label_of t ≡ Text words b → (o : Result X CheckError)
        → MatchResult o (λ _. (m ≡ true) ⊎ (is_blank words ≡ true)) (Tells (At b TextNotAllowed ((m ≡ false) × (is_blank words ≡ false))))
        → MatchResult o (λ _. Reached s m p kids (i + 1) k before now) (Tells (KidsFault asks m p (roses_of kids) place))
    text-judged words b l (Ok x) h = text-reached words b l h
    text-judged {X} words b l (Err e) h =
        let refused : Result X CheckError = Err e in
        text_judged s m p kids place i k walked t below here words b l refused h

    -- ---- behind a child element

    module _ (n : Name) (xs : List (Name × List ℕ)) (declares : List (List ℕ × List ℕ)) (c : ℕ) (is : label_of t ≡ Element n xs declares c) where
      pub name-refused : (e : CheckError) → Tells (At c UnexpectedElement (Viable k.particle (names r.us ++ n ∷ []) → ⊥)) e → Tells (KidsFault asks m p (roses_of kids) place) e
      name-refused (Invalid at why) (e, f, not_viable) =
          subst (λ a. KidsFault asks m p (roses_of kids) place a why) (sym e)
          (subst (λ w. KidsFault asks m p (roses_of kids) place c w) (sym f) (name_refused s m p kids place i k walked t below here n xs declares c is not_viable))
      name-refused Memory h = tt

      module _ (new : Matched) (leaf : matched.Leaf) (same : new.particle ≡ k.particle) (further : TookMore k new r.us n leaf) (named_all : All (IsNamed s) (leaves k.particle)) where
        ahead : Begins k.particle (r.us ++ further.last ∷ [])
        ahead =
            let leads = further.took.leads in
            subst (λ q. Begins q (r.us ++ further.last ∷ [])) same (leads.rest, leads.forth leads.rest leads.some)

        is-named : IsNamed s (leaf.decl, n)
        is-named =
            let own : IsNamed s (further.last.decl, further.last.name) = last_has (λ d a. IsNamed s (d, a)) k.particle r.us further.last named_all ahead in
            subst (λ d. IsNamed s (d, n)) further.decl (subst (λ a. IsNamed s (further.last.decl, a)) further.named own)

        element-is : (inner : Given) (b : Rose Plain) → IsElementOf (label_of t) inner b → b ≡ element_of n inner
        element-is inner b h = subst (λ l. IsElementOf l inner b) is h

        kept-one : (v : Rose ValueLabel) → (one : IsRead s leaf.decl t v) → IsKept s (levels_all (roses_of kids)) (record { decl = leaf.decl; value = v }) one.treated
        kept-one v one = record {
          name = n;
          named = is-named;
          inner = one.inner;
          is = element-is one.inner one.treated one.is;
          gives = λ M is_map depth u within type.
              let low = level-within (roses_of kids) i t (kid_here kids i t below here) in
              one.gives M is_map depth u (omega (arith, within, low)) type;
        }

        module _ (between after : Built) (open_at : OpenAt p new r.gs leaf.decl before between) where
          one-put : (v : Rose ValueLabel) → Put p (spot_of new) (r.gs ++ record { decl = leaf.decl; value = v } ∷ []) before (added v open_at.way)
          one-put v =
              subst (λ o. Put p o (r.gs ++ record { decl = leaf.decl; value = v } ∷ []) before (added v open_at.way)) (sym open_at.spot_is)
              (r.gs, record { decl = leaf.decl; value = v }, open_at.way, refl, open_at.reached, refl)

          kid-reached : ValuePut (IsRead s leaf.decl t) open_at.way after → Reached s m p kids (i + 1) new before after
          kid-reached made =
              let one = made.holds in
              record {
                particle = same ∙ r.particle;
                us = r.us ++ further.last ∷ [];
                took = further.took;
                few = let f = r.few in let e = length-append r.us (further.last ∷ []) in omega (arith, f, e);
                vs = joined r.vs (rose.more one.treated rose.none);
                fine = rw add-one (element-valid asks m (roses_of kids) i t r.us n further.last one.treated (kid_here kids i t below here) (named t n xs declares c is) further.named
                    (subst (λ d. ValidBy asks d t one.treated) (sym further.decl) one.valid) r.vs r.fine);
                gs = r.gs ++ record { decl = leaf.decl; value = made.value } ∷ [];
                items = r.items ++ one.treated ∷ [];
                kept = all-more s (levels_all (roses_of kids)) r.gs r.items (record { decl = leaf.decl; value = made.value }) one.treated r.kept (kept-one made.value one);
                are = element-adds one.treated (valid-element asks leaf.decl t one.treated one.valid rose.none) r.vs ∙ ap (λ z. joined z (rose.more one.treated rose.none)) r.are
                    ∙ roses-more r.items one.treated;
                all = added made.value open_at.way;
                put = one-put made.value;
                stands = made.stands;
              }

          pub kid-judged : {X : Type 0} (o : Result X CheckError) → MatchResult o (λ _. ValuePut (IsRead s leaf.decl t) open_at.way after) (Tells (FaultBy asks leaf.decl t))
              → MatchResult o (λ _. Reached s m p kids (i + 1) new before after) (Tells (KidsFault asks m p (roses_of kids) place))
          kid-judged (Ok x) h = kid-reached h
          kid-judged {X} (Err e) h =
              let refused : Result X CheckError = Err e in
              kid_judged s m p kids place i k walked t below here n xs declares c is new leaf same further refused h
