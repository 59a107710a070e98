-- A node stops where reading it stops, by recursion on the levels of nodes.
use Rattle.std.proofs.Common.{◌≡◌, ℕ, zero, suc, ◌+◌, ◌<◌, ◌≤◌, Bool, true, false, cond, not, ltb, leb, ◌&&◌, List, [], ◌∷◌, length, drop, refl, sym, ap, ◌∙◌, subst, arith, Option, Some, None, Result, Err, inl, inr, ◌⊎◌}
use Rattle.std.specs.Prelude.{IsUtf8}
use Rattle.std.specs.Str.{is_utf8}
use Rattle.std.proofs.lemmas.Str.{IsUtf8-from_is_utf8, is_utf8-from_IsUtf8}
use Rattle.std.proofs.lemmas.Bool.{cases_lt, lt-ltb, le-ltb, le-leb, ltb-true, ltb-false, leb-true}
use Rattle.std.proofs.lemmas.List.{nil_from_length, length-append, length-drop}
use Rattle.base_trees.specs.Rose.{Rose, node, label_of, kids_of, node_count, count_all}
use Rattle.simple_types.specs.declared.labels.ValueLabel.{ValueLabel}
use Rattle.simple_types.specs.declared.labels.ValueLabel.TheVariants as value
use Rattle.asn_types.specs.declared.modules.Assignment.{Assignment}
use Rattle.asn_types.specs.declared.types.Component.{Component}
use Rattle.asn_types.specs.declared.types.TypeLabel.{TypeLabel}
use Rattle.asn_types.specs.Bounds.{IsBounded}
use Rattle.asn_types.specs.Modules.{AreWellFormed, IsModule}
use Rattle.asn_types.specs.Parts.{parts_of}
use Rattle.asn_types.specs.Refs.{resolve, IsOf}
use Rattle.asn_values.specs.Values.{ComponentPlace, place_of, below, Own}
use Rattle.asn_types.proofs.Chaining.{well-formed, has-four, no-reference, have-parts, resolved-of-module}
use Rattle.asn_types.proofs.Inside.{form-well_formed}
use Rattle.base_codecs.specs.declared.spots.Spot.{Spot}
use Rattle.base_codecs.specs.Codec.{most_nodes, Came, Anything, Codec}
use Rattle.base_codecs.specs.Reading.{◌>>=◌, moved, stop_if, with_spot, entered_at}
use Rattle.base_codecs.specs.Sequences.{alternative_at}
use Rattle.base_codecs.proofs.Codecs.{same_spot}
use Rattle.base_codecs.proofs.Sequences.{cond_true, cond_false}
use Rattle.base_codecs.proofs.Steps.{Iff, Told, Inside, err_is, bind_err, err_bind, stop_err, err_stop, err_later, cond_err, none_stops, map_told, then_told, lacking, no_fact}
use Rattle.base_codecs.proofs.Told.{AreTold, alternative_told}
use Rattle.der_fields.specs.declared.stops.Stop.{Stop}
use Rattle.der_fields.specs.declared.stops.Why.TheVariants.{Short, Tag, TooDeep, TooMany, NotUtf8, NotAValue}
use Rattle.der_fields.specs.Octets.{begins}
use Rattle.der_fields.specs.FieldsReading.{stop_at, AreOctets, Octets, sized_at, tagged_at, expected_at}
use Rattle.der_fields.proofs.Heads.{begins_parts}
use Rattle.per_fields.specs.Levels.{levels_needed}
use Rattle.per_fields.specs.Nodes.{is_no_text, most_deep}
use Rattle.per_fields.specs.Owning.{owns}
use Rattle.per_fields.proofs.Levels.{EachKid, each_both, NeedsFewer, levels-some, kids-need}
use Rattle.per_fields.proofs.NodeLaws.{below_of}
use Rattle.per_fields.proofs.Recursion.{bounds_of}
use Rattle.per_fields.proofs.Owns.{owns_own, own_owns}
use Rattle.der_fields.specs.Encoding.{TaggedPlace, tagged_place, identifier, is_open, wrapped, der}
use Rattle.der_fields.specs.Reading.{unexpected, is_optional, starts, parts_from, choice_of, choice_at, contents_at, is_over, over, headed_at, owned_at, part_at, node_read, start, root_at}
use Rattle.der_fields.proofs.Types.{of-tall, of-bounded, kids-of}
use Rattle.der_fields.proofs.Contents.{IsKnown, contents_codec}
use Rattle.der_fields.proofs.NodeLaws.{too_deep, In, octets_in, fit_some, der_is, count_is, headed_codec, part_codec, read_codec}
use Rattle.der_fields.proofs.Unfolding.{node_recursion}
use Rattle.der_fields.specs.Stopping.{IsNoText, EntryStops, Enters, SizedStops, FitsPart, part_octets, PartStops, ChoiceStops, ContentStops, HeadedStops, ContentFits, RuleStops, NodeStops, RootStops}
use Rattle.der_fields.proofs.StopFields.{sized_told}
use Rattle.der_fields.proofs.Keeping.{part_told}
use Rattle.der_fields.proofs.Parts.{PartKnown, read_known, contents_told}

-- WHAT A NODE ENTERS
not_least : (depth : ℕ) → leb depth most_deep ≡ false → most_deep < depth
not_least depth e = elim (cases_lt most_deep depth) [ inl over ↦ over | inr deep ↦ (let t = le-leb depth most_deep deep in absurd cc) ]

entered_told : {A : Type 0} (depth : ℕ) (read : Octets A) (X : List ℕ) (s : Spot) (stop : Stop) → Iff (entered_at (is_over depth) (over depth) read X s ≡ Err stop) (EntryStops depth s stop ⊎ (Enters depth s × (read X (moved s 0 1) ≡ Err stop)))
unfolding entered_at
entered_told {A = A} depth read X s stop =
    by (leb depth most_deep) (ltb s.nodes most_nodes) (λ e. leb-true depth most_deep e) (λ e. not_least depth e) (λ e. ltb-true s.nodes most_nodes e) (λ e. ltb-false s.nodes most_nodes e)
  where
    tested : Bool → Bool → Result (A × Spot) Stop
    tested a b = stop_if (not (a && b)) (stop_at s.at (cond a TooMany TooDeep)) (read X (moved s 0 1))

    same : (d : Stop) → stop_if {A = A × Spot} true d (read X (moved s 0 1)) ≡ Err stop → stop ≡ d
    same d e = elim (stop_err true d (read X (moved s 0 1)) stop e) [ inl h ↦ h.1 | inr h ↦ absurd (let f = h.0 in cc) ]

    by : (a b : Bool) → (a ≡ true → depth ≤ most_deep) → (a ≡ false → most_deep < depth) → (b ≡ true → s.nodes < most_nodes) → (b ≡ false → most_nodes ≤ s.nodes)
        → Iff (tested a b ≡ Err stop) (EntryStops depth s stop ⊎ (Enters depth s × (read X (moved s 0 1) ≡ Err stop)))
    by false b deep past few many = (λ e. inl (inl (past refl, same (stop_at s.at TooDeep) e)), back)
      where
        back : EntryStops depth s stop ⊎ (Enters depth s × (read X (moved s 0 1) ≡ Err stop)) → tested false b ≡ Err stop
        back (inl (inl h)) = ap Err (sym h.1)
        back (inl (inr h)) = absurd (omega (arith, past refl, h.0))
        back (inr h) = absurd (omega (arith, past refl, h.0.0))
    by true false deep past few many = (λ e. inl (inr (deep refl, many refl, same (stop_at s.at TooMany) e)), back)
      where
        back : EntryStops depth s stop ⊎ (Enters depth s × (read X (moved s 0 1) ≡ Err stop)) → tested true false ≡ Err stop
        back (inl (inl h)) = absurd (omega (arith, deep refl, h.0))
        back (inl (inr h)) = ap Err (sym h.2)
        back (inr h) = absurd (omega (arith, many refl, h.0.1))
    by true true deep past few many = (λ e. inr ((deep refl, few refl), e), back)
      where
        back : EntryStops depth s stop ⊎ (Enters depth s × (read X (moved s 0 1) ≡ Err stop)) → tested true true ≡ Err stop
        back (inl (inl h)) = absurd (omega (arith, deep refl, h.0))
        back (inl (inr h)) = absurd (omega (arith, few refl, h.1))
        back (inr h) = h.1

-- BEHIND ITS CONTENTS
no_text_told : (v : ValueLabel) → Iff (is_no_text v ≡ true) (IsNoText v)
no_text_told (value.Utf8 text) =
    let n = no_fact (is_utf8 text) in
    let l = lacking (is_utf8 text) (IsUtf8 text) (λ e. IsUtf8-from_is_utf8 text e, λ h. is_utf8-from_IsUtf8 text h) in
    (λ e. l.0 (n.0 e), λ h. n.1 (l.1 h))
no_text_told v = (λ e. absurd cc, λ h. absurd h)

module _ (M : List Assignment) (depth : ℕ) (kid : TaggedPlace → Octets (Rose ValueLabel)) (Kid Kid' : TaggedPlace → List ℕ → Spot → Stop → Type 0) (tag : Option ℕ) (u : Rose TypeLabel) (X : List ℕ) (fine : AreOctets X) where
  abbrev l_of : TypeLabel
  l_of = label_of u

  abbrev ts_of : List (Rose TypeLabel)
  ts_of = kids_of u

  abbrev head : List ℕ
  head = identifier tag (label_of u).form

  -- what each part and the contents are known by, where the node isn't too deep
  abbrev pub KidsKnown : Type 0
  KidsKnown = EachKid (PartKnown M depth kid Kid Kid') (label_of u) 0 (parts_of (label_of u).form) (kids_of u)

  abbrev pub ContentsKnown : Type 0
  ContentsKnown = (begin : ℕ) (Y : List ℕ) → AreOctets Y → (s : Spot) (stop : Stop) → Inside Y s
      → Told (contents_at M kid begin (label_of u) (kids_of u) (label_of u).form Y s ≡ Err stop) (ContentStops M depth Kid begin (label_of u) (kids_of u) (label_of u).form Y s stop) (ContentStops M depth Kid' begin (label_of u) (kids_of u) (label_of u).form Y s stop)

  -- AN IDENTIFIER, the entry, a length and contents
  module _ (s : Spot) (stop : Stop) (inside : Inside X s) (contents : depth ≤ most_deep → ContentsKnown) where
    abbrev Closed : (TaggedPlace → List ℕ → Spot → Stop → Type 0) → Type 0
    Closed K =
        ((begins (identifier tag (label_of u).form) (drop s.at X) ≡ false) × (stop ≡ stop_at s.at Tag))
        ⊎ ((begins (identifier tag (label_of u).form) (drop s.at X) ≡ true)
        × (EntryStops depth s stop ⊎ (Enters depth s × SizedStops (ContentStops M depth K s.at (label_of u) (kids_of u) (label_of u).form) X (moved s (length (identifier tag (label_of u).form)) 1) stop)))

    abbrev sized : Octets (Rose ValueLabel)
    sized = sized_at (contents_at M kid s.at (label_of u) (kids_of u) (label_of u).form)

    not_true : (b : Bool) → not b ≡ true → b ≡ false
    not_true true e = absurd cc
    not_true false e = refl

    not_false : (b : Bool) → not b ≡ false → b ≡ true
    not_false true e = refl
    not_false false e = absurd cc

    -- behind the identifier, which is there
    behind_told : begins head (drop s.at X) ≡ true → tagged_at head sized X (moved s 0 1) ≡ sized X (moved s (length head) 1)
    unfolding tagged_at
    behind_told there =
        let at : s.at + 0 ≡ s.at = omega arith in
        let same : begins head (drop (s.at + 0) X) ≡ true = ap (λ n. begins head (drop n X)) at ∙ there in
        ap (λ b. stop_if (not b) (stop_at (s.at + 0) Tag) (sized X (moved (moved s 0 1) (length head) 0))) same
        ∙ ap (sized X) (same_spot (s.at + 0 + length head) (s.at + length head) (s.nodes + 1 + 0) (s.nodes + 1) (omega arith) (omega arith))

    inside_behind : begins head (drop s.at X) ≡ true → Enters depth s → Inside X (moved s (length head) 1)
    inside_behind there enters =
        let cut = begins_parts head (drop s.at X) there in
        let long = ap length cut in
        (omega (arith, inside.0, long, length-append head (drop (length head) (drop s.at X)), length-drop s.at X), omega (arith, enters.1))

    closed_told : Told (expected_at head (entered_at (is_over depth) (over depth) (tagged_at head sized)) X s ≡ Err stop) (Closed Kid) (Closed Kid')
    unfolding expected_at
    closed_told = (forth, back)
      where
        entering : Result (Rose ValueLabel × Spot) Stop
        entering = entered_at (is_over depth) (over depth) (tagged_at head sized) X s

        enter : Iff (entering ≡ Err stop) (EntryStops depth s stop ⊎ (Enters depth s × (tagged_at head sized X (moved s 0 1) ≡ Err stop)))
        enter = entered_told depth (tagged_at head sized) X s stop

        size : begins head (drop s.at X) ≡ true → Enters depth s → Told (sized X (moved s (length head) 1) ≡ Err stop)
            (SizedStops (ContentStops M depth Kid s.at (label_of u) (kids_of u) (label_of u).form) X (moved s (length head) 1) stop) (SizedStops (ContentStops M depth Kid' s.at (label_of u) (kids_of u) (label_of u).form) X (moved s (length head) 1) stop)
        size there enters =
            sized_told (contents_at M kid s.at (label_of u) (kids_of u) (label_of u).form) (ContentStops M depth Kid s.at (label_of u) (kids_of u) (label_of u).form) (ContentStops M depth Kid' s.at (label_of u) (kids_of u) (label_of u).form)
            X fine (moved s (length head) 1) stop (inside_behind there enters) (λ Y r fine_ in_. contents enters.0 s.at Y fine_ r stop in_)

        forth : stop_if (not (begins head (drop s.at X))) (stop_at s.at Tag) entering ≡ Err stop → Closed Kid
        forth e = elim (stop_err (not (begins head (drop s.at X))) (stop_at s.at Tag) entering stop e) [
          | inl h ↦ inl (not_true (begins head (drop s.at X)) h.0, h.1)
          | inr h ↦ (
              let there = not_false (begins head (drop s.at X)) h.0 in
              inr (there, (elim (enter.0 h.1) [ inl k ↦ inl k | inr k ↦ inr (k.0, (size there k.0).0 (sym (behind_told there) ∙ k.1)) ])))
        ]

        back : Closed Kid' → stop_if (not (begins head (drop s.at X))) (stop_at s.at Tag) entering ≡ Err stop
        back (inl h) = err_stop (not (begins head (drop s.at X))) (stop_at s.at Tag) stop entering (ap not h.0) h.1
        back (inr (there, inl k)) = err_later (not (begins head (drop s.at X))) (stop_at s.at Tag) stop entering (ap not there) (enter.1 (inl k))
        back (inr (there, inr k)) = err_later (not (begins head (drop s.at X))) (stop_at s.at Tag) stop entering (ap not there) (enter.1 (inr (k.0, behind_told there ∙ (size there k.0).1 k.1)))

  -- A CHOICE without a tag, whose alternative is entered
  module _ (s : Spot) (stop : Stop) (inside : Inside X s) (known : depth ≤ most_deep → KidsKnown) where
    abbrev Entered : (TaggedPlace → List ℕ → Spot → Stop → Type 0) → TaggedPlace → Spot → Stop → Type 0
    Entered K p r stop = EntryStops depth r stop ⊎ (Enters depth r × PartStops M depth K X p (moved r 0 1) stop)

    abbrev entering : TaggedPlace → Octets (Rose ValueLabel)
    entering p = entered_at (is_over depth) (over depth) (kid p)

    one_told : (p : TaggedPlace) → (depth ≤ most_deep → (r : Spot) → Inside X r → Told (kid p X r ≡ Err stop) (PartStops M depth Kid X p r stop) (PartStops M depth Kid' X p r stop))
        → Told (entering p X s ≡ Err stop) (Entered Kid p s stop) (Entered Kid' p s stop)
    one_told p at = (λ e. forth (enter.0 e), λ h. enter.1 (back h))
      where
        enter : Iff (entering p X s ≡ Err stop) (EntryStops depth s stop ⊎ (Enters depth s × (kid p X (moved s 0 1) ≡ Err stop)))
        enter = entered_told depth (kid p) X s stop

        within : Enters depth s → Inside X (moved s 0 1)
        within enters = (omega (arith, inside.0), omega (arith, enters.1))

        forth : EntryStops depth s stop ⊎ (Enters depth s × (kid p X (moved s 0 1) ≡ Err stop)) → Entered Kid p s stop
        forth (inl h) = inl h
        forth (inr h) = inr (h.0, (at h.0.0 (moved s 0 1) (within h.0)).0 h.1)

        back : Entered Kid' p s stop → EntryStops depth s stop ⊎ (Enters depth s × (kid p X (moved s 0 1) ≡ Err stop))
        back (inl h) = inl h
        back (inr h) = inr (h.0, (at h.0.0 (moved s 0 1) (within h.0)).1 h.1)

    each_told : (l : TypeLabel) (i : ℕ) (parts : List Component) (ts : List (Rose TypeLabel)) → (depth ≤ most_deep → EachKid (PartKnown M depth kid Kid Kid') l i parts ts)
        → AreTold (starts M) is_optional unexpected entering AreOctets (FitsPart M depth) node_count (part_octets M) X fine (Entered Kid) (Entered Kid') (parts_from l i parts ts) s stop
    each_told l i [] ts h = tt
    each_told l i (c ∷ cs) [] h = tt
    each_told l i (c ∷ cs) (t ∷ ts) h =
        (one_told (tagged_place (Some i) (place_of l i c t)) (λ deep r in_. (h deep).0.1 (Some i) X fine r stop in_), each_told l (i + 1) cs ts (λ deep. (h deep).1))

    open_told : Told (choice_at M entering (label_of u) (kids_of u) (parts_of (label_of u).form) X s ≡ Err stop) (ChoiceStops M depth Kid (Entered Kid) (label_of u) (kids_of u) (parts_of (label_of u).form) X s stop)
        (ChoiceStops M depth Kid' (Entered Kid') (label_of u) (kids_of u) (parts_of (label_of u).form) X s stop)
    unfolding choice_at
    open_told =
        let ps = parts_from (label_of u) 0 (parts_of (label_of u).form) (kids_of u) in
        let m = map_told {S = Stop} (alternative_at (starts M) is_optional unexpected entering ps X s) choice_of stop in
        let k = alternative_told (starts M) is_optional unexpected entering AreOctets (FitsPart M depth) node_count (part_octets M) X fine (Entered Kid) (Entered Kid') ps s stop (each_told (label_of u) 0 (parts_of (label_of u).form) (kids_of u) known) in
        (λ e. k.0 (m.0 e), λ h. m.1 (k.1 h))

  module _ (s : Spot) (stop : Stop) (inside : Inside X s) (known : depth ≤ most_deep → KidsKnown) (contents : depth ≤ most_deep → ContentsKnown) where
    pub headed_told : Told (headed_at M kid depth tag (label_of u) (kids_of u) X s ≡ Err stop) (HeadedStops M depth Kid tag (label_of u) (kids_of u) X s stop) (HeadedStops M depth Kid' tag (label_of u) (kids_of u) X s stop)
    unfolding headed_at
    headed_told = by (is_open tag (label_of u).form)
      where
        Opened : (TaggedPlace → List ℕ → Spot → Stop → Type 0) → Type 0
        Opened K = ChoiceStops M depth K (λ p r stop. EntryStops depth r stop ⊎ (Enters depth r × PartStops M depth K X p (moved r 0 1) stop)) (label_of u) (kids_of u) (parts_of (label_of u).form) X s stop

        Shut : (TaggedPlace → List ℕ → Spot → Stop → Type 0) → Type 0
        Shut K =
            ((begins (identifier tag (label_of u).form) (drop s.at X) ≡ false) × (stop ≡ stop_at s.at Tag))
            ⊎ ((begins (identifier tag (label_of u).form) (drop s.at X) ≡ true)
            × (EntryStops depth s stop ⊎ (Enters depth s × SizedStops (ContentStops M depth K s.at (label_of u) (kids_of u) (label_of u).form) X (moved s (length (identifier tag (label_of u).form)) 1) stop)))

        by : (b : Bool)
            → Told (cond b (choice_at M (λ p. entered_at (is_over depth) (over depth) (kid p)) (label_of u) (kids_of u) (parts_of (label_of u).form) X s)
            (expected_at head (entered_at (is_over depth) (over depth) (tagged_at head (sized_at (contents_at M kid s.at (label_of u) (kids_of u) (label_of u).form)))) X s) ≡ Err stop)
            (elim b as (λ _. Type 0) [ true ↦ Opened Kid | false ↦ Shut Kid ]) (elim b as (λ _. Type 0) [ true ↦ Opened Kid' | false ↦ Shut Kid' ])
        by true = open_told s stop inside known
        by false = closed_told s stop inside contents

module _ (M : List Assignment) (is : IsModule M) (bounded : IsBounded M) (X : List ℕ) (fine : AreOctets X) where
  module _ (depth : ℕ) (tag : Option ℕ) (t : Rose TypeLabel) (of : IsOf M t) (s : Spot) (stop : Stop) where
    abbrev u_of : Rose TypeLabel
    u_of = resolve M t

    -- the rule of the node
    abbrev Rule : Rose ValueLabel → Type 0
    Rule v = (IsNoText (label_of v) × (stop ≡ stop_at s.at NotUtf8)) ⊎ ((IsNoText (label_of v) → ⊥) × (Own M t v → ⊥) × (stop ≡ stop_at s.at NotAValue))

    rule_told : (v : Rose ValueLabel) (r : Spot) → Iff (owned_at M s.at (resolve M t) (v, r) ≡ Err stop) (Rule v)
    unfolding owned_at
    rule_told v r = (forth, back)
      where
        wf : AreWellFormed M (resolve M t)
        wf = well-formed M (resolve M t) is (resolved-of-module M t of)

        owned : Iff (owns M (resolve M t) v ≡ true) (Own M t v)
        owned = (λ e. owns_own M (resolve M t) v wf e, λ h. own_owns M (resolve M t) v h)

        unowned : Iff (not (owns M (resolve M t) v) ≡ true) (Own M t v → ⊥)
        unowned = let n = no_fact (owns M (resolve M t) v) in let k = lacking (owns M (resolve M t) v) (Own M t v) owned in (λ e. k.0 (n.0 e), λ h. n.1 (k.1 h))

        text : Iff (is_no_text (label_of v) ≡ true) (IsNoText (label_of v))
        text = no_text_told (label_of v)

        no_text : Iff (is_no_text (label_of v) ≡ false) (IsNoText (label_of v) → ⊥)
        no_text = lacking (is_no_text (label_of v)) (IsNoText (label_of v)) text

        value_test : Result (Rose ValueLabel × Spot) Stop
        value_test = stop_if (not (owns M (resolve M t) v)) (stop_at s.at NotAValue) (with_spot v r)

        forth : stop_if (is_no_text (label_of v)) (stop_at s.at NotUtf8) value_test ≡ Err stop → Rule v
        forth e = elim (stop_err (is_no_text (label_of v)) (stop_at s.at NotUtf8) value_test stop e) [
          | inl h ↦ inl (text.0 h.0, h.1)
          | inr h ↦ (elim (stop_err (not (owns M (resolve M t) v)) (stop_at s.at NotAValue) (with_spot v r) stop h.1) [
            | inl k ↦ inr (no_text.0 h.0, unowned.0 k.0, k.1)
            | inr k ↦ none_stops {S = Stop} v r stop k.1
          ])
        ]

        back : Rule v → stop_if (is_no_text (label_of v)) (stop_at s.at NotUtf8) value_test ≡ Err stop
        back (inl h) = err_stop (is_no_text (label_of v)) (stop_at s.at NotUtf8) stop value_test (text.1 h.0) h.1
        back (inr h) = err_later (is_no_text (label_of v)) (stop_at s.at NotUtf8) stop value_test (no_text.1 h.0) (err_stop (not (owns M (resolve M t) v)) (stop_at s.at NotAValue) stop (with_spot v r) (unowned.1 h.1) h.2)

    -- THE NODE
    module _ (Kid Kid' : TaggedPlace → List ℕ → Spot → Stop → Type 0) where
      abbrev kid : TaggedPlace → Octets (Rose ValueLabel)
      kid p = part_at M p.place (node_read M (below p.place.role depth) p.tag p.place.type)

      abbrev pub Known : Type 0
      Known = EachKid (PartKnown M depth kid Kid Kid') (label_of (resolve M t)) 0 (parts_of (label_of (resolve M t)).form) (kids_of (resolve M t))

      abbrev Headed : (TaggedPlace → List ℕ → Spot → Stop → Type 0) → Type 0
      Headed K = HeadedStops M depth K tag (label_of (resolve M t)) (kids_of (resolve M t)) X s stop

      abbrev headed : Result (Rose ValueLabel × Spot) Stop
      headed = headed_at M kid depth tag (label_of (resolve M t)) (kids_of (resolve M t)) X s

      formed : AreWellFormed M (resolve M t)
      formed = well-formed M (resolve M t) is (resolved-of-module M t of)

      contents : Known → ContentsKnown M depth kid Kid Kid' tag (resolve M t) X fine
      contents known begin Y fine_ r stop in_ =
          contents_told M depth kid Kid Kid' Y fine_ begin (label_of (resolve M t)) (kids_of (resolve M t)) (label_of (resolve M t)).form (form-well_formed M (resolve M t) formed)
          (bounds_of (resolve M t) (of-bounded M (resolve M t) (resolved-of-module M t of) bounded)) (no-reference M t is (well-formed M t is of)) (have-parts M (resolve M t) is (resolved-of-module M t of)) known r stop in_

      first_told : Inside X s → (depth ≤ most_deep → Known) → Told (headed ≡ Err stop) (Headed Kid) (Headed Kid')
      first_told inside known = headed_told M depth kid Kid Kid' tag (resolve M t) X fine s stop inside known (λ deep. contents (known deep))

      abbrev Whole : Rose ValueLabel → Type 0
      Whole v = In M depth kid (resolve M t) v

      fit_told : (v : Rose ValueLabel) → Iff (Whole v) (ContentFits M depth t v)
      fit_told (node l vs) = (λ h. h, λ h. h)

      came_told : (v : Rose ValueLabel) (r : Spot) → Iff (Came X s r (wrapped tag (label_of (resolve M t)).form (octets_in M depth kid (resolve M t) v)) (suc (count_all (below_of v)))) (Came X s r (der M tag t v) (node_count v))
      came_told v r =
          let e = der_is M depth kid tag t v in
          let n = count_is M depth kid v in (
            λ c. subst (λ m. Came X s r m (node_count v)) (sym e) (subst (λ k. Came X s r (wrapped tag (label_of (resolve M t)).form (octets_in M depth kid (resolve M t) v)) k) (sym n) c),
            λ c. subst (λ k. Came X s r (wrapped tag (label_of (resolve M t)).form (octets_in M depth kid (resolve M t) v)) k) n (subst (λ m. Came X s r m (node_count v)) e c),
          )

      node_told : Inside X s → (depth ≤ most_deep → Known) → Told (node_read M depth tag t X s ≡ Err stop) (Headed Kid ⊎ RuleStops M depth tag t X s stop) (Headed Kid' ⊎ RuleStops M depth tag t X s stop)
      node_told inside known = let k = by (cases_lt most_deep depth) in (λ e. k.0 (sym recursion ∙ e), λ h. recursion ∙ k.1 h)
        where
          recursion : node_read M depth tag t X s ≡ (headed >>= owned_at M s.at (resolve M t))
          recursion = node_recursion M is depth tag t of X s

          first : Told (headed ≡ Err stop) (Headed Kid) (Headed Kid')
          first = first_told inside known

          by : (most_deep < depth) ⊎ (depth ≤ most_deep) → Told ((headed >>= owned_at M s.at (resolve M t)) ≡ Err stop) (Headed Kid ⊎ RuleStops M depth tag t X s stop) (Headed Kid' ⊎ RuleStops M depth tag t X s stop)
          by (inl past) = (forth, back)
            where
              forth : (headed >>= owned_at M s.at (resolve M t)) ≡ Err stop → Headed Kid ⊎ RuleStops M depth tag t X s stop
              forth e = elim (bind_err headed (owned_at M s.at (resolve M t)) stop e) [
                | inl h ↦ inl (first.0 h)
                | inr k ↦ absurd (too_deep M kid depth tag (label_of (resolve M t)) (kids_of (resolve M t)) past X s k.0 k.1)
              ]

              back : Headed Kid' ⊎ RuleStops M depth tag t X s stop → (headed >>= owned_at M s.at (resolve M t)) ≡ Err stop
              back (inl h) = err_bind headed (owned_at M s.at (resolve M t)) stop (first.1 h)
              back (inr k) = absurd (omega (arith, past, k.2))
          by (inr deep) = (λ e. forth (told.0 e), λ h. told.1 (back h))
            where
              each : EachKid (IsKnown M depth kid) (label_of (resolve M t)) 0 (parts_of (label_of (resolve M t)).form) (kids_of (resolve M t))
              each = read_known M depth kid Kid Kid' (label_of (resolve M t)) 0 (parts_of (label_of (resolve M t)).form) (kids_of (resolve M t)) (known deep)

              codec : Codec AreOctets Whole (λ v. suc (count_all (below_of v))) (λ v n. wrapped tag (label_of (resolve M t)).form (octets_in M depth kid (resolve M t) v)) (headed_at M kid depth tag (label_of (resolve M t)) (kids_of (resolve M t)))
              codec =
                  headed_codec M depth kid deep (resolve M t) tag
                  (λ begin. contents_codec M depth kid begin (label_of (resolve M t)) (kids_of (resolve M t)) (label_of (resolve M t)).form (form-well_formed M (resolve M t) formed)
                  (bounds_of (resolve M t) (of-bounded M (resolve M t) (resolved-of-module M t of) bounded)) (have-parts M (resolve M t) is (resolved-of-module M t of)) each)
                  each

              Behind : Type 0
              Behind = (v : Rose ValueLabel) × (r : Spot) × Whole v × Came X s r (wrapped tag (label_of (resolve M t)).form (octets_in M depth kid (resolve M t) v)) (suc (count_all (below_of v))) × Unit {0} × Rule v

              told : Told ((headed >>= owned_at M s.at (resolve M t)) ≡ Err stop) (Headed Kid ⊎ Behind) (Headed Kid' ⊎ Behind)
              told =
                  then_told AreOctets Anything X fine Whole (λ v. suc (count_all (below_of v))) (λ v n. wrapped tag (label_of (resolve M t)).form (octets_in M depth kid (resolve M t) v)) (headed_at M kid depth tag (label_of (resolve M t)) (kids_of (resolve M t))) codec
                  (owned_at M s.at (resolve M t)) (Headed Kid) (Headed Kid') (λ v r. Rule v) (λ v r. Rule v) s stop inside first (λ v r c in_. rule_told v r)

              forth : Headed Kid ⊎ Behind → Headed Kid ⊎ RuleStops M depth tag t X s stop
              forth (inl h) = inl h
              forth (inr k) = inr (k.0, k.1, deep, (fit_told k.0).0 k.2, (came_told k.0 k.1).0 k.3, k.5)

              back : Headed Kid' ⊎ RuleStops M depth tag t X s stop → Headed Kid' ⊎ Behind
              back (inl h) = inl h
              back (inr k) = inr (k.0, k.1, (fit_told k.0).1 k.3, (came_told k.0 k.1).1 k.4, tt, k.5)

module _ (M : List Assignment) (is : IsModule M) (bounded : IsBounded M) where
  kids : (depth : ℕ) (t : Rose TypeLabel) → IsOf M t → (Q : ComponentPlace → Type 0) → depth ≤ 64 → ((p : ComponentPlace) → IsOf M p.type → NeedsFewer M depth t p → Q p)
      → EachKid Q (label_of (resolve M t)) 0 (parts_of (label_of (resolve M t)).form) (kids_of (resolve M t))
  kids depth t of Q deep each =
      each_both (λ p. IsOf M p.type) (NeedsFewer M depth t) Q each (label_of (resolve M t)) 0 (parts_of (label_of (resolve M t)).form) (kids_of (resolve M t)) (kids-of M (resolve M t) (resolved-of-module M t of))
      (kids-need M depth t deep (has-four M t (well-formed M t is of)) (of-tall M t of))

  -- a part is known where its node is
  part_known : (depth : ℕ) (p : ComponentPlace) → IsOf M p.type → (Kid Kid' : TaggedPlace → List ℕ → Spot → Stop → Type 0)
      → ((tag : Option ℕ) (Y : List ℕ) → AreOctets Y → (s : Spot) (stop : Stop) → Inside Y s → Told (node_read M (below p.role depth) tag p.type Y s ≡ Err stop) (Kid (tagged_place tag p) Y s stop) (Kid' (tagged_place tag p) Y s stop))
      → PartKnown M depth (λ q. part_at M q.place (node_read M (below q.place.role depth) q.tag q.place.type)) Kid Kid' p
  part_known depth p of Kid Kid' known = (
    λ tag. (
      part_codec M p (below p.role depth) tag (node_read M (below p.role depth) tag p.type) (read_codec M is bounded (below p.role depth) tag p.type of),
      λ v n h. fit_some M (below p.role depth) (λ q X s. Err (stop_at s.at Short)) tag p.type v h.0,
    ),
    λ tag Y fine s stop inside.
        part_told M (tagged_place tag p) Y fine depth (node_read M (below p.role depth) tag p.type) (read_codec M is bounded (below p.role depth) tag p.type of) (Kid (tagged_place tag p) Y s stop) (Kid' (tagged_place tag p) Y s stop) s stop inside
        (known tag Y fine s stop inside),
  )

  node_stopped : (m depth : ℕ) (tag : Option ℕ) (t : Rose TypeLabel) → IsOf M t → levels_needed M depth t ≤ m → (X : List ℕ) → AreOctets X → (s : Spot) (stop : Stop) → Inside X s → node_read M depth tag t X s ≡ Err stop
      → NodeStops M (suc m) depth tag t X s stop
  unfolding NodeStops
  node_stopped zero depth tag t of enough X fine s stop inside e = absurd (omega (arith, enough, levels-some M 4 t))
  node_stopped (suc m) depth tag t of enough X fine s stop inside e =
      (node_told M is bounded X fine depth tag t of s stop (λ p. NodeStops M (suc m) (below p.place.role depth) p.tag p.place.type) (λ p Y s stop. ⊥) inside
      (λ deep. kids depth t of (PartKnown M depth (λ q. part_at M q.place (node_read M (below q.place.role depth) q.tag q.place.type)) (λ p. NodeStops M (suc m) (below p.place.role depth) p.tag p.place.type) (λ p Y s stop. ⊥)) deep
      (λ p of_p need. part_known depth p of_p (λ p. NodeStops M (suc m) (below p.place.role depth) p.tag p.place.type) (λ p Y s stop. ⊥)
      (λ tag Y fine_ r stop in_. (λ f. node_stopped m (below p.role depth) tag p.type of_p (omega (arith, need.1, enough)) Y fine_ r stop in_ f, λ h. absurd h))))).0 e

  node_stops : (n depth : ℕ) (tag : Option ℕ) (t : Rose TypeLabel) → IsOf M t → (X : List ℕ) → AreOctets X → (s : Spot) (stop : Stop) → Inside X s → NodeStops M n depth tag t X s stop → node_read M depth tag t X s ≡ Err stop
  unfolding NodeStops
  node_stops zero depth tag t of X fine s stop inside h = absurd h
  node_stops (suc n) depth tag t of X fine s stop inside h =
      (node_told M is bounded X fine depth tag t of s stop (λ p Y s stop. Unit {0}) (λ p. NodeStops M n (below p.place.role depth) p.tag p.place.type) inside
      (λ deep. kids depth t of (PartKnown M depth (λ q. part_at M q.place (node_read M (below q.place.role depth) q.tag q.place.type)) (λ p Y s stop. Unit {0}) (λ p. NodeStops M n (below p.place.role depth) p.tag p.place.type)) deep
      (λ p of_p need. part_known depth p of_p (λ p Y s stop. Unit {0}) (λ p. NodeStops M n (below p.place.role depth) p.tag p.place.type)
      (λ tag Y fine_ r stop in_. (λ f. tt, λ k. node_stops n (below p.role depth) tag p.type of_p Y fine_ r stop in_ k))))).1 h

  -- THE ROOT
  pub root_told : (t : Rose TypeLabel) → IsOf M t → (X : List ℕ) → AreOctets X → (stop : Stop) → Iff (root_at M t X start ≡ Err stop) (RootStops M t X stop)
  unfolding root_at
  root_told t of X fine stop = (forth, back)
    where
      inside : Inside X start
      inside = (omega arith, omega arith)

      reading : Result (Rose ValueLabel × Spot) Stop
      reading = node_read M 1 None t X start

      none : Result (Rose ValueLabel × Spot) Stop
      none = Err (stop_at 0 Short)

      same : none ≡ Err stop → stop ≡ stop_at 0 Short
      same e = sym (err_is none (stop_at 0 Short) stop refl e)

      forth : cond (ltb 0 (length X)) reading none ≡ Err stop → RootStops M t X stop
      forth e = elim (cond_err (ltb 0 (length X)) reading none stop e) [
        | inl h ↦ inr (ltb-true 0 (length X) h.0, (suc (levels_needed M 1 t), node_stopped (levels_needed M 1 t) 1 None t of (omega arith) X fine start stop inside h.1))
        | inr h ↦ inl (nil_from_length X (omega (arith, ltb-false 0 (length X) h.0)), same h.1)
      ]

      back : RootStops M t X stop → cond (ltb 0 (length X)) reading none ≡ Err stop
      back (inl h) = cond_false (ltb 0 (length X)) reading none (le-ltb 0 (length X) (omega (arith, ap length h.0))) ∙ ap Err (sym h.1)
      back (inr h) = cond_true (ltb 0 (length X)) reading none (lt-ltb 0 (length X) h.0) ∙ node_stops h.1.0 1 None t of X fine start stop inside h.1.1
