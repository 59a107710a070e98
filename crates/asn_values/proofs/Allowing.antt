-- A value that fits has the kids that its labels allow.
use Rattle.std.proofs.Common.{◌≡◌, ℕ, suc, ◌+◌, Bool, true, false, cond, List, [], ◌∷◌, length, refl, sym, ap, ◌∙◌, arith, Option, Some, None}
use Rattle.std.proofs.lemmas.List.Sums.{sum_by-cons}
use Rattle.base_trees.specs.Rose.{Rose, node, Roses, none, more, label_of, kids_of, length_all, Allowed, AllowedAll}
use Rattle.simple_types.specs.declared.labels.ValueLabel.{ValueLabel}
use Rattle.simple_types.specs.declared.labels.ValueLabel.TheVariants as value
use Rattle.simple_types.specs.Labels.{MayHave, count_set, flag_count}
use Rattle.asn_types.specs.declared.modules.Assignment.{Assignment}
use Rattle.asn_types.specs.declared.types.Component.{Component}
use Rattle.asn_types.specs.declared.types.Form.{Form}
use Rattle.asn_types.specs.declared.types.Form.TheVariants as form
use Rattle.asn_types.specs.declared.types.TypeLabel.{TypeLabel}
use Rattle.asn_types.specs.Refs.{resolve}
use Rattle.asn_values.specs.Values.{ComponentPlace, place_of, put_first, present_from, alone, none_if, places_in, places, below, FitsAt, FitEach}
use Rattle.asn_values.specs.Private.Placing.{FitPlaces}

same_some : {A : Type 0} (a b : A) → Some a ≡ Some b → a ≡ b
same_some a b e = cc

none_some : {A : Type 0} {X : Type 0} (a : A) → None ≡ Some a → X
none_some a e = absurd cc

present-count : (l : TypeLabel) (i : ℕ) (parts : List Component) (ts : List (Rose TypeLabel)) (flags : List Bool) (ps : List ComponentPlace) → present_from l i parts ts flags ≡ Some ps → length ps ≡ count_set flags
present-count l i [] ts [] ps e = ap length (sym (same_some [] ps e))
present-count l i [] ts (f ∷ flags) ps e = none_some ps e
present-count l i (part ∷ parts) [] flags ps e = none_some ps e
present-count l i (part ∷ parts) (t ∷ ts) [] ps e = none_some ps e
present-count l i (part ∷ parts) (t ∷ ts) (true ∷ flags) ps e = by (present_from l (i + 1) parts ts flags) (present-count l (i + 1) parts ts flags) e
  where
    by : (o : Option (List ComponentPlace)) → ((qs : List ComponentPlace) → o ≡ Some qs → length qs ≡ count_set flags) → put_first (place_of l i part t) o ≡ Some ps → length ps ≡ count_set (true ∷ flags)
    by None further k = none_some ps k
    by (Some qs) further k = let same : place_of l i part t ∷ qs ≡ ps = same_some (place_of l i part t ∷ qs) ps k in omega (arith, ap length same, further qs refl, sum_by-cons flag_count true flags)
present-count l i (part ∷ parts) (t ∷ ts) (false ∷ flags) ps e = by part.optional e (present-count l (i + 1) parts ts flags ps)
  where
    by : (b : Bool) → cond b (present_from l (i + 1) parts ts flags) None ≡ Some ps → (present_from l (i + 1) parts ts flags ≡ Some ps → length ps ≡ count_set flags) → length ps ≡ count_set (false ∷ flags)
    by true k further = omega (arith, further k, sum_by-cons flag_count false flags)
    by false k further = none_some ps k

alone-count : (o : Option ComponentPlace) (ps : List ComponentPlace) → alone o ≡ Some ps → length ps ≡ 1
alone-count None ps e = none_some ps e
alone-count (Some p) ps e = ap length (sym (same_some (p ∷ []) ps e))

none_if-count : (b : Bool) (ps : List ComponentPlace) → none_if b ≡ Some ps → length ps ≡ 0
none_if-count true ps e = ap length (sym (same_some [] ps e))
none_if-count false ps e = none_some ps e

may : (l : TypeLabel) (ts : List (Rose TypeLabel)) (f : Form) (v : ValueLabel) (n : ℕ) (ps : List ComponentPlace) → places_in l ts f v n ≡ Some ps → length ps ≡ n → MayHave v n
may l ts form.Bool (value.Bool b) n ps e k = sym k ∙ ap length (sym (same_some [] ps e))
may l ts (form.Int least greatest) (value.Int z) n ps e k = sym k ∙ none_if-count _ ps e
may l ts (form.Numbers numbers) (value.Enum i) n ps e k = sym k ∙ none_if-count _ ps e
may l ts (form.Words identifiers words) (value.Enum i) n ps e k = sym k ∙ none_if-count _ ps e
may l ts (form.Order identifiers) (value.Enum i) n ps e k = sym k ∙ none_if-count _ ps e
may l ts (form.Utf8 least most class) (value.Utf8 text) n ps e k = sym k ∙ ap length (sym (same_some [] ps e))
may l ts (form.Sequence parts) (value.Sequence present) n ps e k = sym k ∙ present-count l 0 parts ts present ps e
may l ts (form.Choice parts) (value.Choice i) n ps e k = sym k ∙ alone-count _ ps e
may l ts (form.SequenceOf part least most) value.SequenceOf n ps e k = tt
may l ts f v n ps e k = none_some ps e

module _ (M : List Assignment) where
  each-length : (depth : ℕ) (ps : List ComponentPlace) (vs : Roses ValueLabel) → FitEach M depth ps vs → length ps ≡ length_all vs
  unfolding FitEach
  each-length depth [] none h = refl
  each-length depth [] (more v vs) h = absurd h
  each-length depth (p ∷ ps) none h = absurd h
  each-length depth (p ∷ ps) (more v vs) h = ap suc (each-length depth ps vs h.1)

  mutual
    unfolding FitsAt FitEach

    pub fits-allowed : (depth : ℕ) (t : Rose TypeLabel) (v : Rose ValueLabel) → FitsAt M depth t v → Allowed MayHave v
    fits-allowed depth t (node l vs) h = by (places (resolve M t) l (length_all vs)) refl h.1 (λ ps k. each-allowed depth ps vs k)
      where
        by : (o : Option (List ComponentPlace)) → places (resolve M t) l (length_all vs) ≡ o → FitPlaces M depth o vs → ((ps : List ComponentPlace) → FitEach M depth ps vs → AllowedAll MayHave vs) → Allowed MayHave (node l vs)
        by None is k further = absurd k
        by (Some ps) is k further = (may (label_of (resolve M t)) (kids_of (resolve M t)) (label_of (resolve M t)).form l (length_all vs) ps is (each-length depth ps vs k), further ps k)

    each-allowed : (depth : ℕ) (ps : List ComponentPlace) (vs : Roses ValueLabel) → FitEach M depth ps vs → AllowedAll MayHave vs
    each-allowed depth ps none h = tt
    each-allowed depth [] (more v vs) h = absurd h
    each-allowed depth (p ∷ ps) (more v vs) h = (fits-allowed (below p.role depth) p.type v h.0.0, each-allowed depth ps vs h.1)
