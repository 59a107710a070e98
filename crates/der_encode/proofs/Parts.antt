-- Components and items, the last first.
use Rattle.std.proofs.Common.{◌≡◌, ℕ, suc, ◌+◌, ◌-◌, ◌<◌, ◌≤◌, Bool, true, false, Some, None, Result, Ok, Err, OnOk, List, [], ◌∷◌, ◌++◌, length, get_or, take, reverse, refl, sym, ap, ◌∙◌, subst, arith, append_assoc}
use Rattle.std.proofs.lemmas.List.{append-nil, reverse-append, length-append, length-reverse, take_more, length-take-le}
use Rattle.base_trees.specs.Rose.{Rose, roses_of, node_count, count_all}
use Rattle.base_trees.proofs.Roses.{count_all-push}
use Rattle.simple_types.specs.declared.labels.ValueLabel.{ValueLabel}
use Rattle.asn_types.specs.declared.modules.Assignment.{Assignment}
use Rattle.asn_types.specs.declared.types.TypeLabel.{TypeLabel}
use Rattle.der_fields.specs.Octets.{length_octets}
use Rattle.der_fields.specs.Encoding.{headed, der}
use Rattle.der_encode.specs.Private.Kids.{FitsSomewhere, PartsFit, parts_octets, ItemsFit, items_octets}

pub on_ok : {A E : Type 0} (r : Result A E) {P Q : Type 0} → (P → Q) → OnOk r P → OnOk r Q
on_ok (Ok x) f h = f h
on_ok (Err e) f h = tt

-- octets turned round
pub grown : (old new octets : List ℕ) → new ≡ old ++ reverse octets → length new ≡ length old + length octets
grown old new octets is = let e = ap length is ∙ length-append old (reverse octets) in let r = length-reverse octets in omega (arith, e, r)

pub last_put : (new back old octets front last : List ℕ) → octets ≡ front ++ last → new ≡ back ++ reverse last → back ++ reverse octets ≡ old → new ++ reverse front ≡ old
last_put new back old octets front last e n whole =
    ap (λ ys. ys ++ reverse front) n ∙ append_assoc back (reverse last) (reverse front) ∙ ap (λ ys. back ++ ys) (sym (reverse-append front last)) ∙ ap (λ ys. back ++ reverse ys) (sym e) ∙ whole

pub all_put : (back old octets : List ℕ) → octets ≡ [] → back ++ reverse octets ≡ old → back ≡ old
all_put back old octets e whole = sym (append-nil back) ∙ ap (λ ys. back ++ reverse ys) (sym e) ∙ whole

pub head_put : (old a b c head octets : List ℕ) → a ≡ old ++ reverse octets → b ≡ a ++ reverse (length_octets (length octets)) → c ≡ b ++ reverse head → c ≡ old ++ reverse (headed head octets)
head_put old a b c head octets first second third =
    let size = length_octets (length octets) in
    third ∙ ap (λ ys. ys ++ reverse head) (second ∙ ap (λ ys. ys ++ reverse size) first ∙ append_assoc old (reverse octets) (reverse size) ∙ ap (λ ys. old ++ ys) (sym (reverse-append size octets)))
    ∙ append_assoc old (reverse (size ++ octets)) (reverse head) ∙ ap (λ ys. old ++ ys) (sym (reverse-append head (size ++ octets)))

-- none is left
pub nothing : {A : Type 0} (xs : List A) → length xs ≡ 0 → xs ≡ []
nothing [] is = refl
nothing (x ∷ xs) is = absurd (omega (arith, is))

-- the trees before the last
pub count_front : (vs ws : List (Rose ValueLabel)) (w : Rose ValueLabel) → vs ≡ ws ++ (w ∷ []) → (count_all (roses_of ws) ≤ count_all (roses_of vs)) × (node_count w ≤ count_all (roses_of vs))
count_front vs ws w is =
    let e = ap (λ us. count_all (roses_of us)) is ∙ count_all-push ws w in
    let k : count_all (roses_of vs) ≡ count_all (roses_of ws) + node_count w = e in
    (omega (arith, k), omega (arith, k))

module _ (M : List Assignment) where
  -- ITEMS
  pub items_before : (t : Rose TypeLabel) (ws : List (Rose ValueLabel)) (w : Rose ValueLabel) → ItemsFit M t (ws ++ (w ∷ [])) → ItemsFit M t ws × FitsSomewhere M t w
  items_before t [] w h = (tt, h.0)
  items_before t (v ∷ ws) w h = let r = items_before t ws w h.1 in ((h.0, r.0), r.1)

  pub items_push : (t : Rose TypeLabel) (ws : List (Rose ValueLabel)) (w : Rose ValueLabel) → items_octets M t (ws ++ (w ∷ [])) ≡ items_octets M t ws ++ der M None t w
  items_push t [] w = append-nil (der M None t w)
  items_push t (v ∷ ws) w = ap (λ octets. der M None t v ++ octets) (items_push t ws w) ∙ sym (append_assoc (der M None t v) (items_octets M t ws) (der M None t w))

  -- COMPONENTS
  none_over : (ts : List (Rose TypeLabel)) (v : Rose ValueLabel) (vs : List (Rose ValueLabel)) → PartsFit M ts [] (v ∷ vs) → ⊥
  none_over [] v vs h = h
  none_over (t ∷ ts) v vs h = h

  none_after : (ts : List (Rose TypeLabel)) (ws : List (Rose ValueLabel)) (w : Rose ValueLabel) → PartsFit M ts [] (ws ++ (w ∷ [])) → ⊥
  none_after ts [] w h = none_over ts w [] h
  none_after ts (v ∷ ws) w h = none_over ts v (ws ++ (w ∷ [])) h

  pub no_parts : (i : ℕ) (ts : List (Rose TypeLabel)) (vs : List (Rose ValueLabel)) → parts_octets M i ts [] vs ≡ []
  no_parts i [] vs = refl
  no_parts i (t ∷ ts) vs = refl

  -- one that is present has a value
  pub has_value : (ts : List (Rose TypeLabel)) (fs : List Bool) → PartsFit M ts (fs ++ (true ∷ [])) [] → ⊥
  has_value [] [] h = h
  has_value [] (f ∷ fs) h = h
  has_value (t ∷ ts) [] h = h
  has_value (t ∷ ts) (true ∷ fs) h = h
  has_value (t ∷ ts) (false ∷ fs) h = has_value ts fs h

  pub record LastPart (i : ℕ) (ts : List (Rose TypeLabel)) (fs : List Bool) (ws : List (Rose ValueLabel)) (w : Rose ValueLabel) : Type 0 where
    pub type : Rose TypeLabel
    pub within : length fs < length ts
    pub here : (d : Rose TypeLabel) → get_or ts (length fs) d ≡ type
    pub fits : FitsSomewhere M type w
    pub front : PartsFit M ts fs ws
    pub octets : parts_octets M i ts (fs ++ (true ∷ [])) (ws ++ (w ∷ [])) ≡ parts_octets M i ts fs ws ++ der M (Some (i + length fs)) type w

  pub last_part : (i : ℕ) (ts : List (Rose TypeLabel)) (fs : List Bool) (ws : List (Rose ValueLabel)) (w : Rose ValueLabel) → PartsFit M ts (fs ++ (true ∷ [])) (ws ++ (w ∷ [])) → LastPart i ts fs ws w
  last_part i [] [] [] w h = absurd h
  last_part i [] [] (v ∷ ws) w h = absurd h
  last_part i [] (f ∷ fs) [] w h = absurd h
  last_part i [] (f ∷ fs) (v ∷ ws) w h = absurd h
  last_part i (t ∷ ts) [] [] w h =
      let here : i ≡ i + 0 = omega arith in
      record {
        type = t;
        within = omega arith;
        here = λ d. refl;
        fits = h.0;
        front = tt;
        octets = ap (λ octets. der M (Some i) t w ++ octets) (no_parts (i + 1) ts []) ∙ append-nil (der M (Some i) t w) ∙ ap (λ n. der M (Some n) t w) here;
      }
  last_part i (t ∷ ts) [] (v ∷ ws) w h = absurd (none_after ts ws w h.1)
  last_part i (t ∷ ts) (true ∷ fs) [] w h = absurd (has_value ts fs h.1)
  last_part i (t ∷ ts) (true ∷ fs) (v ∷ ws) w h =
      let r = last_part (i + 1) ts fs ws w h.1 in
      let place : (i + 1) + length fs ≡ i + suc (length fs) = omega arith in
      let first = der M (Some i) t v in
      let front = parts_octets M (i + 1) ts fs ws in
      record {
        type = r.type;
        within = omega (arith, r.within);
        here = r.here;
        fits = r.fits;
        front = (h.0, r.front);
        octets = ap (λ octets. first ++ octets) (r.octets ∙ ap (λ n. front ++ der M (Some n) r.type w) place) ∙ sym (append_assoc first front (der M (Some (i + suc (length fs))) r.type w));
      }
  last_part i (t ∷ ts) (false ∷ fs) ws w h =
      let r = last_part (i + 1) ts fs ws w h in
      let place : (i + 1) + length fs ≡ i + suc (length fs) = omega arith in
      record {
        type = r.type;
        within = omega (arith, r.within);
        here = r.here;
        fits = r.fits;
        front = r.front;
        octets = r.octets ∙ ap (λ n. parts_octets M (i + 1) ts fs ws ++ der M (Some n) r.type w) place;
      }

  pub absent_part : (i : ℕ) (ts : List (Rose TypeLabel)) (fs : List Bool) (vs : List (Rose ValueLabel)) → PartsFit M ts (fs ++ (false ∷ [])) vs
      → PartsFit M ts fs vs × (parts_octets M i ts (fs ++ (false ∷ [])) vs ≡ parts_octets M i ts fs vs)
  absent_part i [] [] [] h = absurd h
  absent_part i [] [] (v ∷ vs) h = absurd h
  absent_part i [] (f ∷ fs) [] h = absurd h
  absent_part i [] (f ∷ fs) (v ∷ vs) h = absurd h
  absent_part i (t ∷ ts) [] [] h = (tt, no_parts (i + 1) ts [])
  absent_part i (t ∷ ts) [] (v ∷ vs) h = absurd (none_over ts v vs h)
  absent_part i (t ∷ ts) (true ∷ fs) [] h = absurd h
  absent_part i (t ∷ ts) (true ∷ fs) (v ∷ vs) h =
      let r = absent_part (i + 1) ts fs vs h.1 in ((h.0, r.0), ap (λ octets. der M (Some i) t v ++ octets) r.1)
  absent_part i (t ∷ ts) (false ∷ fs) vs h = absent_part (i + 1) ts fs vs h

  -- THE LAST of the first components, so many as i
  pub record Taken (ts : List (Rose TypeLabel)) (flags : List Bool) (i : ℕ) (vs ws : List (Rose ValueLabel)) (w : Rose ValueLabel) : Type 0 where
    pub type : Rose TypeLabel
    pub within : i - 1 < length ts
    pub here : (d : Rose TypeLabel) → get_or ts (i - 1) d ≡ type
    pub fits : FitsSomewhere M type w
    pub front : PartsFit M ts (take (i - 1) flags) ws
    pub octets : parts_octets M 0 ts (take i flags) vs ≡ parts_octets M 0 ts (take (i - 1) flags) ws ++ der M (Some (i - 1)) type w

  module _ (ts : List (Rose TypeLabel)) (flags : List Bool) (i : ℕ) (some : 0 < i) (inside : i ≤ length flags) where
    flags_are : (b : Bool) → get_or flags (i - 1) false ≡ b → take i flags ≡ take (i - 1) flags ++ (b ∷ [])
    flags_are b is =
        let e : i ≡ (i - 1) + 1 = omega (arith, some) in
        ap (λ n. take n flags) e ∙ take_more flags (i - 1) false (omega (arith, some, inside)) ∙ ap (λ f. take (i - 1) flags ++ (f ∷ [])) is

    pub taken : get_or flags (i - 1) false ≡ true → (vs ws : List (Rose ValueLabel)) (w : Rose ValueLabel) → vs ≡ ws ++ (w ∷ []) → PartsFit M ts (take i flags) vs → Taken ts flags i vs ws w
    taken on vs ws w is h =
        let front = take (i - 1) flags in
        let present = flags_are true on in
        let long : length front ≡ i - 1 = length-take-le (i - 1) flags (omega (arith, inside)) in
        let place : 0 + length front ≡ i - 1 = omega (arith, long) in
        let r = last_part 0 ts front ws w (subst (λ us. PartsFit M ts (front ++ (true ∷ [])) us) is (subst (λ fs. PartsFit M ts fs vs) present h)) in
        record {
          type = r.type;
          within = omega (arith, long, r.within);
          here = λ d. ap (λ n. get_or ts n d) (sym long) ∙ r.here d;
          fits = r.fits;
          front = r.front;
          octets = ap (λ fs. parts_octets M 0 ts fs vs) present ∙ ap (λ us. parts_octets M 0 ts (front ++ (true ∷ [])) us) is ∙ r.octets
              ∙ ap (λ n. parts_octets M 0 ts front ws ++ der M (Some n) r.type w) place;
        }

    pub passed : get_or flags (i - 1) false ≡ false → (vs : List (Rose ValueLabel)) → PartsFit M ts (take i flags) vs
        → PartsFit M ts (take (i - 1) flags) vs × (parts_octets M 0 ts (take i flags) vs ≡ parts_octets M 0 ts (take (i - 1) flags) vs)
    passed off vs h =
        let absent = flags_are false off in
        let r = absent_part 0 ts (take (i - 1) flags) vs (subst (λ fs. PartsFit M ts fs vs) absent h) in
        (r.0, ap (λ fs. parts_octets M 0 ts fs vs) absent ∙ r.1)

    pub is_left : get_or flags (i - 1) false ≡ true → (vs : List (Rose ValueLabel)) → vs ≡ [] → PartsFit M ts (take i flags) vs → ⊥
    is_left on vs none h = has_value ts (take (i - 1) flags) (subst (λ us. PartsFit M ts (take (i - 1) flags ++ (true ∷ [])) us) none (subst (λ fs. PartsFit M ts fs vs) (flags_are true on) h))
