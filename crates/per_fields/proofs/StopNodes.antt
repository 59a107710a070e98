-- A node stops where reading it stops, by recursion on the levels of nodes.
use Rattle.std.proofs.Common.{◌≡◌, ℕ, zero, suc, ◌+◌, ◌<◌, ◌≤◌, Bool, true, false, not, ltb, leb, List, refl, sym, ap, ◌∙◌, subst, arith, Result, Err, inl, inr, ◌⊎◌}
use Rattle.std.specs.Prelude.{IsUtf8}
use Rattle.std.specs.Str.{is_utf8}
use Rattle.std.proofs.lemmas.Str.{IsUtf8-from_is_utf8, is_utf8-from_IsUtf8}
use Rattle.std.proofs.lemmas.Bool.{cases_lt, le-leb, ltb-true, ltb-false, leb-true}
use Rattle.base_trees.specs.Rose.{Rose, node, label_of, kids_of, node_count, count_all}
use Rattle.simple_types.specs.declared.labels.ValueLabel.{ValueLabel}
use Rattle.simple_types.specs.declared.labels.ValueLabel.TheVariants as value
use Rattle.asn_types.specs.declared.modules.Assignment.{Assignment}
use Rattle.asn_types.specs.declared.types.TypeLabel.{TypeLabel}
use Rattle.asn_types.specs.Bounds.{IsBounded}
use Rattle.asn_types.specs.Modules.{AreWellFormed, IsModule}
use Rattle.asn_types.specs.Parts.{parts_of}
use Rattle.asn_types.specs.Refs.{resolve, IsOf}
use Rattle.asn_values.specs.Values.{ComponentPlace, below, FitsAt, Own}
use Rattle.asn_types.proofs.Chaining.{well-formed, has-four, resolved-of-module}
use Rattle.asn_types.proofs.Inside.{form-well_formed}
use Rattle.base_codecs.specs.declared.spots.Spot.{Spot}
use Rattle.base_codecs.specs.Reading.{with_spot}
use Rattle.base_codecs.proofs.Steps.{Iff, Told, Inside, err_is, map_told, lacking, no_fact}
use Rattle.per_fields.specs.declared.stops.Stop.{Stop}
use Rattle.per_fields.specs.declared.stops.Why.{Why}
use Rattle.per_fields.specs.declared.stops.Why.TheVariants.{TooDeep, TooMany, NotUtf8, NotAValue}
use Rattle.per_fields.specs.Reading.{◌>>=◌, Reader, stop_at, moved, stop_if}
use Rattle.per_fields.specs.Codec.{most_nodes, Taken, Came, Codec}
use Rattle.per_fields.specs.Encoding.{per}
use Rattle.per_fields.specs.Levels.{levels_needed}
use Rattle.per_fields.specs.Nodes.{content_at, part_at, is_no_text, owned_at, enter_by, entered_at, node_read, start, last_at, whole_of}
use Rattle.per_fields.specs.Owning.{owns}
use Rattle.per_fields.proofs.Levels.{EachKid, each_both, NeedsFewer, levels-some, kids-need}
use Rattle.per_fields.proofs.NodeLaws.{below_of, AreOctets, KidCodec, Content, content_write, content_codec}
use Rattle.per_fields.proofs.Owns.{owns_own, own_owns}
use Rattle.per_fields.proofs.Recursion.{bounds_of, node_codec, part_codec}
use Rattle.per_fields.proofs.Unfolding.{node_recursion}
use Rattle.per_fields.specs.Faults.{LastStops}
use Rattle.per_fields.specs.Stopping.{IsNoText, HasOctets, EntryStops, Enters, ContentStops, PartsFit, RuleStops, NodeStops, RootStops}
use Rattle.per_fields.proofs.Steps.{then_both, then_told}
use Rattle.per_fields.proofs.StopFields.{two_tests, last_told}
use Rattle.per_fields.proofs.Keeping.{part_told}
use Rattle.per_fields.proofs.Parts.{IsKnown, content_told}
use Rattle.per_fields.proofs.Types.{of-tall, of-bounded, kids-of, are-there}

-- BEFORE THE FIELDS
entered_told : {A : Type 0} (depth : ℕ) (s : Spot) (f : Spot → Result A Stop) (stop : Stop) → Iff (entered_at depth s f ≡ Err stop) (EntryStops depth s stop ⊎ (Enters depth s × (f (moved s 0 1) ≡ Err stop)))
unfolding entered_at
entered_told {A = A} depth s f stop =
    by (leb depth 64) (ltb s.nodes most_nodes) (λ e. leb-true depth 64 e) (λ e. not_least depth e) (λ e. ltb-true s.nodes most_nodes e) (λ e. ltb-false s.nodes most_nodes e)
  where
    not_least : (depth : ℕ) → leb depth 64 ≡ false → 64 < depth
    not_least depth e = elim (cases_lt 64 depth) [ inl over ↦ over | inr deep ↦ (let t = le-leb depth 64 deep in absurd cc) ]

    by : (a b : Bool) → (a ≡ true → depth ≤ 64) → (a ≡ false → 64 < depth) → (b ≡ true → s.nodes < most_nodes) → (b ≡ false → most_nodes ≤ s.nodes)
        → Iff (enter_by a b s f ≡ Err stop) (EntryStops depth s stop ⊎ (Enters depth s × (f (moved s 0 1) ≡ Err stop)))
    by false b deep over few many = (λ e. inl (inl (over refl, sym (err_is (enter_by false b s f) (stop_at s.at TooDeep s.at) stop refl e))), back)
      where
        back : EntryStops depth s stop ⊎ (Enters depth s × (f (moved s 0 1) ≡ Err stop)) → enter_by false b s f ≡ Err stop
        back (inl (inl h)) = ap Err (sym h.1)
        back (inl (inr h)) = absurd (omega (arith, over refl, h.0))
        back (inr h) = absurd (omega (arith, over refl, h.0.0))
    by true false deep over few many = (λ e. inl (inr (deep refl, many refl, sym (err_is (enter_by true false s f) (stop_at s.at TooMany s.at) stop refl e))), back)
      where
        back : EntryStops depth s stop ⊎ (Enters depth s × (f (moved s 0 1) ≡ Err stop)) → enter_by true false s f ≡ Err stop
        back (inl (inl h)) = absurd (omega (arith, deep refl, h.0))
        back (inl (inr h)) = ap Err (sym h.2)
        back (inr h) = absurd (omega (arith, many refl, h.0.1))
    by true true deep over few many = (λ e. inr ((deep refl, few refl), e), back)
      where
        back : EntryStops depth s stop ⊎ (Enters depth s × (f (moved s 0 1) ≡ Err stop)) → enter_by true true s f ≡ Err stop
        back (inl (inl h)) = absurd (omega (arith, deep refl, h.0))
        back (inl (inr h)) = absurd (omega (arith, few refl, h.1))
        back (inr h) = h.1

-- BEHIND THEM ALL
no_text_told : (v : ValueLabel) → Iff (is_no_text v ≡ true) (IsNoText v)
no_text_told (value.Utf8 text) =
    let n = no_fact (is_utf8 text) in
    let l = lacking (is_utf8 text) (IsUtf8 text) (λ e. IsUtf8-from_is_utf8 text e, λ h. is_utf8-from_IsUtf8 text h) in
    (λ e. l.0 (n.0 e), λ h. n.1 (l.1 h))
no_text_told v = (λ e. absurd cc, λ h. absurd h)

octets_same : (v : ValueLabel) → Iff (AreOctets v) (HasOctets v)
octets_same (value.Utf8 text) = (λ h. h, λ h. h)
octets_same v = (λ h. tt, λ h. tt)

module _ (aligned : Bool) (M : List Assignment) (is : IsModule M) (bounded : IsBounded M) (X : List Bool) where
  read_codec : (depth : ℕ) (t : Rose TypeLabel) → IsOf M t → Codec (FitsAt M depth t) node_count (per aligned M t) (node_read aligned M depth t)
  read_codec depth t of = node_codec aligned M is bounded (levels_needed M depth t) depth t (well-formed M t is of) (of-bounded M t of bounded) (of-tall M t of) (λ deep. omega arith)

  module _ (depth : ℕ) (t : Rose TypeLabel) (of : IsOf M t) (s : Spot) (stop : Stop) where
    abbrev kid : ComponentPlace → Reader (Rose ValueLabel)
    kid p = part_at M p (node_read aligned M (below p.role depth) p.type)

    -- the rule of the node
    abbrev Rule : Rose ValueLabel → Spot → Type 0
    Rule v r =
        (IsNoText (label_of v) × (stop ≡ stop_at s.at NotUtf8 r.at)) ⊎ ((IsNoText (label_of v) → ⊥) × (Own M t v → ⊥) × (stop ≡ stop_at s.at NotAValue r.at))

    rule_told : (v : Rose ValueLabel) (r : Spot) → Iff (owned_at M s.at (resolve M t) (v, r) ≡ Err stop) (Rule v r)
    unfolding owned_at
    rule_told v r = (λ e. let k = told.0 e in forth k.0 k.1 k.2, back)
      where
        wf : AreWellFormed M (resolve M t)
        wf = well-formed M (resolve M t) is (resolved-of-module M t of)

        owned : Iff (owns M (resolve M t) v ≡ true) (Own M t v)
        owned = (λ e. owns_own M (resolve M t) v wf e, λ h. own_owns M (resolve M t) v h)

        unowned : Iff (not (owns M (resolve M t) v) ≡ true) (Own M t v → ⊥)
        unowned = let n = no_fact (owns M (resolve M t) v) in let l = lacking (owns M (resolve M t) v) (Own M t v) owned in (λ e. l.0 (n.0 e), λ h. n.1 (l.1 h))

        told : Iff (stop_if (is_no_text (label_of v)) (stop_at s.at NotUtf8 r.at) (stop_if (not (owns M (resolve M t) v)) (stop_at s.at NotAValue r.at) (with_spot v r)) ≡ Err stop)
            ((w : Why) × ((IsNoText (label_of v) × (w ≡ NotUtf8)) ⊎ ((IsNoText (label_of v) → ⊥) × (Own M t v → ⊥) × (w ≡ NotAValue))) × (stop ≡ stop_at s.at w r.at))
        told =
            two_tests (is_no_text (label_of v)) (not (owns M (resolve M t) v)) (IsNoText (label_of v)) (IsNoText (label_of v) → ⊥) (Own M t v → ⊥) NotUtf8 NotAValue s.at v r stop
            (no_text_told (label_of v)) (lacking (is_no_text (label_of v)) (IsNoText (label_of v)) (no_text_told (label_of v))) unowned

        forth : (w : Why) → (IsNoText (label_of v) × (w ≡ NotUtf8)) ⊎ ((IsNoText (label_of v) → ⊥) × (Own M t v → ⊥) × (w ≡ NotAValue)) → stop ≡ stop_at s.at w r.at → Rule v r
        forth w (inl h) e = inl (h.0, e ∙ ap (λ w. stop_at s.at w r.at) h.1)
        forth w (inr h) e = inr (h.0, h.1, e ∙ ap (λ w. stop_at s.at w r.at) h.2)

        back : Rule v r → stop_if (is_no_text (label_of v)) (stop_at s.at NotUtf8 r.at) (stop_if (not (owns M (resolve M t) v)) (stop_at s.at NotAValue r.at) (with_spot v r)) ≡ Err stop
        back (inl h) = told.1 (NotUtf8, inl (h.0, refl), h.1)
        back (inr h) = told.1 (NotAValue, inr (h.0, h.1, refl), h.2)

    abbrev FoundContent : Rose ValueLabel → Type 0
    FoundContent v = Content aligned M depth kid (label_of (resolve M t)) (kids_of (resolve M t)) (label_of (resolve M t)).form v

    abbrev found_write : Rose ValueLabel → ℕ → List Bool
    found_write v = content_write aligned M depth kid (label_of (resolve M t)) (kids_of (resolve M t)) (label_of (resolve M t)).form v

    fit_told : (v : Rose ValueLabel) → Iff (FoundContent v) (PartsFit aligned M X depth t v)
    fit_told (node l vs) = let o = octets_same l in (λ h. (h.0, o.0 h.1), λ h. (h.0, o.1 h.1))

    same_write : (v : Rose ValueLabel) (p : ℕ) → per aligned M t v p ≡ found_write v p
    unfolding per
    same_write (node l vs) p = refl

    count_is : (v : Rose ValueLabel) → node_count v ≡ suc (count_all (below_of v))
    count_is (node l vs) = refl

    came_told : (v : Rose ValueLabel) (r : Spot) → s.nodes < most_nodes → Iff (Came X (moved s 0 1) r (found_write v (s.at + 0)) (count_all (below_of v))) (Came X s r (per aligned M t v s.at) (node_count v))
    came_told v r few = (forth, back)
      where
        at : s.at + 0 ≡ s.at
        at = omega arith

        forth : Came X (moved s 0 1) r (found_write v (s.at + 0)) (count_all (below_of v)) → Came X s r (per aligned M t v s.at) (node_count v)
        forth c = record {
          taken = subst (λ m. Taken X s.at r.at m) (sym (same_write v s.at)) (subst (λ n. Taken X n r.at (found_write v n)) at c.taken);
          nodes = omega (arith, c.nodes, count_is v);
          few = λ h. c.few (omega (arith, few));
        }

        back : Came X s r (per aligned M t v s.at) (node_count v) → Came X (moved s 0 1) r (found_write v (s.at + 0)) (count_all (below_of v))
        back c = record {
          taken = subst (λ n. Taken X n r.at (found_write v n)) (sym at) (subst (λ m. Taken X s.at r.at m) (same_write v s.at) c.taken);
          nodes = omega (arith, c.nodes, count_is v);
          few = λ h. c.few (omega (arith, few));
        }

    -- THE NODE
    module _ (Kid Kid' : ComponentPlace → Spot → Stop → Type 0) where
      abbrev pub Known : Type 0
      Known = EachKid (IsKnown aligned M X depth kid Kid Kid') (label_of (resolve M t)) 0 (parts_of (label_of (resolve M t)).form) (kids_of (resolve M t))

      abbrev Inner : (ComponentPlace → Spot → Stop → Type 0) → Type 0
      Inner K = ContentStops aligned M X depth K (label_of (resolve M t)) (kids_of (resolve M t)) (label_of (resolve M t)).form (moved s 0 1) stop

      abbrev inner_read : Spot → Result (Rose ValueLabel × Spot) Stop
      inner_read r = content_at aligned kid (label_of (resolve M t)) (kids_of (resolve M t)) (label_of (resolve M t)).form X r >>= λ v. owned_at M s.at (resolve M t) v

      inner_told : Inside X s → s.nodes < most_nodes → Known → Told (inner_read (moved s 0 1) ≡ Err stop) (Inner Kid ⊎ RuleStops aligned M X depth t s stop) (Inner Kid' ⊎ RuleStops aligned M X depth t s stop)
      inner_told inside few known = (λ e. forth (told.0 e), λ h. told.1 (back h))
        where
          u : Rose TypeLabel
          u = resolve M t

          inside_ : Inside X (moved s 0 1)
          inside_ = (omega (arith, inside.0), omega (arith, few))

          formed : AreWellFormed M (resolve M t)
          formed = well-formed M (resolve M t) is (resolved-of-module M t of)

          codec : Codec FoundContent (λ v. count_all (below_of v)) found_write (content_at aligned kid (label_of (resolve M t)) (kids_of (resolve M t)) (label_of (resolve M t)).form)
          codec =
              content_codec aligned M depth kid (label_of (resolve M t)) (kids_of (resolve M t)) (label_of (resolve M t)).form (form-well_formed M (resolve M t) formed)
              (bounds_of (resolve M t) (of-bounded M (resolve M t) (resolved-of-module M t of) bounded))
              (each_both (IsKnown aligned M X depth kid Kid Kid') (IsKnown aligned M X depth kid Kid Kid') (KidCodec aligned M depth kid) (λ p k l. k.0) (label_of (resolve M t)) 0 (parts_of (label_of (resolve M t)).form) (kids_of (resolve M t)) known known)

          told : Told (inner_read (moved s 0 1) ≡ Err stop)
              (Inner Kid ⊎ ((v : Rose ValueLabel) × (r : Spot) × FoundContent v × Came X (moved s 0 1) r (found_write v (s.at + 0)) (count_all (below_of v)) × Rule v r))
              (Inner Kid' ⊎ ((v : Rose ValueLabel) × (r : Spot) × FoundContent v × Came X (moved s 0 1) r (found_write v (s.at + 0)) (count_all (below_of v)) × Rule v r))
          told =
              then_both X FoundContent (λ v. count_all (below_of v)) found_write (content_at aligned kid (label_of (resolve M t)) (kids_of (resolve M t)) (label_of (resolve M t)).form) codec (λ v. owned_at M s.at (resolve M t) v)
              (Inner Kid) (Inner Kid') Rule Rule (moved s 0 1) stop inside_
              (content_told aligned M X depth kid Kid Kid' (label_of (resolve M t)) (kids_of (resolve M t)) (label_of (resolve M t)).form (form-well_formed M (resolve M t) formed) known (are-there M t is of) (moved s 0 1) stop inside_)
              (λ v r c in_. rule_told v r)

          forth : Inner Kid ⊎ ((v : Rose ValueLabel) × (r : Spot) × FoundContent v × Came X (moved s 0 1) r (found_write v (s.at + 0)) (count_all (below_of v)) × Rule v r) → Inner Kid ⊎ RuleStops aligned M X depth t s stop
          forth (inl h) = inl h
          forth (inr k) = inr (k.0, k.1, (fit_told k.0).0 k.2, (came_told k.0 k.1 few).0 k.3, k.4)

          back : Inner Kid' ⊎ RuleStops aligned M X depth t s stop → Inner Kid' ⊎ ((v : Rose ValueLabel) × (r : Spot) × FoundContent v × Came X (moved s 0 1) r (found_write v (s.at + 0)) (count_all (below_of v)) × Rule v r)
          back (inl h) = inl h
          back (inr k) = inr (k.0, k.1, (fit_told k.0).1 k.2, (came_told k.0 k.1 few).1 k.3, k.4)

      abbrev Step : (ComponentPlace → Spot → Stop → Type 0) → Type 0
      Step K = EntryStops depth s stop ⊎ (Enters depth s × Inner K) ⊎ (Enters depth s × RuleStops aligned M X depth t s stop)

      node_told : Inside X s → (depth ≤ 64 → Known) → Told (node_read aligned M depth t X s ≡ Err stop) (Step Kid) (Step Kid')
      node_told inside known = (λ e. forth (enter.0 (sym recursion ∙ e)), λ h. recursion ∙ enter.1 (back h))
        where
          recursion : node_read aligned M depth t X s ≡ entered_at depth s inner_read
          recursion = node_recursion aligned M is depth t (well-formed M t is of) (of-tall M t of) X s

          enter : Iff (entered_at depth s inner_read ≡ Err stop) (EntryStops depth s stop ⊎ (Enters depth s × (inner_read (moved s 0 1) ≡ Err stop)))
          enter = entered_told depth s inner_read stop

          forth : EntryStops depth s stop ⊎ (Enters depth s × (inner_read (moved s 0 1) ≡ Err stop)) → Step Kid
          forth (inl h) = inl h
          forth (inr h) = elim ((inner_told inside h.0.1 (known h.0.0)).0 h.1) [ inl k ↦ inr (inl (h.0, k)) | inr k ↦ inr (inr (h.0, k)) ]

          back : Step Kid' → EntryStops depth s stop ⊎ (Enters depth s × (inner_read (moved s 0 1) ≡ Err stop))
          back (inl h) = inl h
          back (inr (inl h)) = inr (h.0, (inner_told inside h.0.1 (known h.0.0)).1 (inl h.1))
          back (inr (inr h)) = inr (h.0, (inner_told inside h.0.1 (known h.0.0)).1 (inr h.1))

  kids : (depth : ℕ) (t : Rose TypeLabel) → IsOf M t → (Q : ComponentPlace → Type 0) → depth ≤ 64 → ((p : ComponentPlace) → IsOf M p.type → NeedsFewer M depth t p → Q p)
      → EachKid Q (label_of (resolve M t)) 0 (parts_of (label_of (resolve M t)).form) (kids_of (resolve M t))
  kids depth t of Q deep each =
      each_both (λ p. IsOf M p.type) (NeedsFewer M depth t) Q each (label_of (resolve M t)) 0 (parts_of (label_of (resolve M t)).form) (kids_of (resolve M t)) (kids-of M (resolve M t) (resolved-of-module M t of))
      (kids-need M depth t deep (has-four M t (well-formed M t is of)) (of-tall M t of))

  -- a part is known where its node is
  part_known : (depth : ℕ) (p : ComponentPlace) → IsOf M p.type → (Kid Kid' : Spot → Stop → Type 0)
      → ((s : Spot) (stop : Stop) → Inside X s → Told (node_read aligned M (below p.role depth) p.type X s ≡ Err stop) (Kid s stop) (Kid' s stop))
      → IsKnown aligned M X depth (λ p. part_at M p (node_read aligned M (below p.role depth) p.type)) (λ p. Kid) (λ p. Kid') p
  part_known depth p of Kid Kid' known =
      let codec = read_codec (below p.role depth) p.type of in (
        part_codec aligned M p (below p.role depth) (node_read aligned M (below p.role depth) p.type) codec,
        λ s stop inside. part_told aligned M X p depth (node_read aligned M (below p.role depth) p.type) codec (Kid s stop) (Kid' s stop) s stop inside (known s stop inside),
      )

  node_stopped : (m depth : ℕ) (t : Rose TypeLabel) → IsOf M t → (depth ≤ 64 → levels_needed M depth t ≤ m) → (s : Spot) (stop : Stop) → Inside X s → node_read aligned M depth t X s ≡ Err stop → NodeStops aligned M X (suc m) depth t s stop
  unfolding NodeStops
  node_stopped zero depth t of enough s stop inside e =
      (node_told depth t of s stop (λ p. NodeStops aligned M X zero (below p.role depth) p.type) (λ p s stop. ⊥) inside (λ deep. absurd (omega (arith, enough deep, levels-some M 4 t)))).0 e
  node_stopped (suc m) depth t of enough s stop inside e =
      (node_told depth t of s stop (λ p. NodeStops aligned M X (suc m) (below p.role depth) p.type) (λ p s stop. ⊥) inside
      (λ deep. kids depth t of (IsKnown aligned M X depth (λ p. part_at M p (node_read aligned M (below p.role depth) p.type)) (λ p. NodeStops aligned M X (suc m) (below p.role depth) p.type) (λ p s stop. ⊥)) deep
      (λ p of_p need. part_known depth p of_p (λ s stop. NodeStops aligned M X (suc m) (below p.role depth) p.type s stop) (λ s stop. ⊥)
      (λ r stop in_. (λ f. node_stopped m (below p.role depth) p.type of_p (λ d. omega (arith, need.1, enough deep)) r stop in_ f, λ h. absurd h))))).0 e

  node_stops : (n depth : ℕ) (t : Rose TypeLabel) → IsOf M t → (s : Spot) (stop : Stop) → Inside X s → NodeStops aligned M X n depth t s stop → node_read aligned M depth t X s ≡ Err stop
  unfolding NodeStops
  node_stops zero depth t of s stop inside h = absurd h
  node_stops (suc n) depth t of s stop inside h =
      (node_told depth t of s stop (λ p s stop. Unit {0}) (λ p. NodeStops aligned M X n (below p.role depth) p.type) inside
      (λ deep. kids depth t of (IsKnown aligned M X depth (λ p. part_at M p (node_read aligned M (below p.role depth) p.type)) (λ p s stop. Unit {0}) (λ p. NodeStops aligned M X n (below p.role depth) p.type)) deep
      (λ p of_p need. part_known depth p of_p (λ s stop. Unit {0}) (λ s stop. NodeStops aligned M X n (below p.role depth) p.type s stop) (λ r stop in_. (λ f. tt, λ k. node_stops n (below p.role depth) p.type of_p r stop in_ k))))).1 h

  -- THE ROOT
  pub root_told : (t : Rose TypeLabel) → IsOf M t → (stop : Stop) → Iff (whole_of aligned M t X ≡ Err stop) (RootStops aligned M X t stop)
  unfolding whole_of
  root_told t of stop = (λ e. forth (told.0 e), λ h. told.1 (back h))
    where
      inside : Inside X start
      inside = (omega arith, omega arith)

      last : (v : Rose ValueLabel) (r : Spot) → Inside X r → Iff ((last_at X r >>= λ z. with_spot v z.1) ≡ Err stop) (LastStops X r stop)
      last v r in_ =
          let k = last_told X r stop in_ in
          let m = map_told (last_at X r) (λ z. v) stop in
          (λ e. k.0 (m.0 e), λ h. m.1 (k.1 h))

      told : Iff ((node_read aligned M 1 t X start >>= λ v. last_at X v.1 >>= λ z. with_spot v.0 z.1) ≡ Err stop)
          (((levels : ℕ) × NodeStops aligned M X levels 1 t start stop) ⊎ ((v : Rose ValueLabel) × (r : Spot) × FitsAt M 1 t v × Came X start r (per aligned M t v 0) (node_count v) × LastStops X r stop))
      told =
          then_told X (FitsAt M 1 t) node_count (per aligned M t) (node_read aligned M 1 t) (read_codec 1 t of) (λ v. last_at X v.1 >>= λ z. with_spot v.0 z.1) ((levels : ℕ) × NodeStops aligned M X levels 1 t start stop) (λ v r. LastStops X r stop) start stop inside
          (λ e. (suc (levels_needed M 1 t), node_stopped (levels_needed M 1 t) 1 t of (λ deep. omega arith) start stop inside e), λ h. node_stops h.0 1 t of start stop inside h.1)
          (λ v r fits in_. last v r in_)

      forth : ((levels : ℕ) × NodeStops aligned M X levels 1 t start stop) ⊎ ((v : Rose ValueLabel) × (r : Spot) × FitsAt M 1 t v × Came X start r (per aligned M t v 0) (node_count v) × LastStops X r stop) → RootStops aligned M X t stop
      forth (inl h) = inl h
      forth (inr k) = inr (k.0, k.1, (k.2, k.3), k.4)

      back : RootStops aligned M X t stop → ((levels : ℕ) × NodeStops aligned M X levels 1 t start stop) ⊎ ((v : Rose ValueLabel) × (r : Spot) × FitsAt M 1 t v × Came X start r (per aligned M t v 0) (node_count v) × LastStops X r stop)
      back (inl h) = inl h
      back (inr k) = inr (k.0, k.1, k.2.0, k.2.1, k.3)
