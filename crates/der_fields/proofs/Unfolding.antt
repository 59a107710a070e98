-- Reading a node is the same for all levels that are enough: so it is a recursion without them.
use Rattle.std.proofs.Common.{◌≡◌, ℕ, zero, suc, ◌+◌, ◌-◌, ◌<◌, ◌≤◌, Bool, cond, ltb, not, ◌&&◌, List, [], ◌∷◌, length, drop, refl, sym, ap, ◌∙◌, arith, Option, Some, None, Err, inl, inr, ◌⊎◌}
use Rattle.std.proofs.lemmas.Bool.{cases_lt, lt-leb}
use Rattle.base_trees.specs.Rose.{Rose, label_of, kids_of}
use Rattle.simple_types.specs.declared.labels.ValueLabel.{ValueLabel}
use Rattle.simple_types.specs.declared.labels.ValueLabel.TheVariants as value
use Rattle.asn_types.specs.declared.modules.Assignment.{Assignment}
use Rattle.asn_types.specs.declared.types.Component.{Component}
use Rattle.asn_types.specs.declared.types.Form.{Form}
use Rattle.asn_types.specs.declared.types.Form.TheVariants as form
use Rattle.asn_types.specs.declared.types.TypeLabel.{TypeLabel}
use Rattle.asn_types.specs.Parts.{parts_of}
use Rattle.asn_types.specs.Modules.{IsModule}
use Rattle.asn_types.specs.Refs.{resolve, IsOf}
use Rattle.asn_types.proofs.Chaining.{well-formed, has-four, resolved-of-module}
use Rattle.asn_values.specs.Values.{ComponentPlace, place_of, below}
use Rattle.base_codecs.specs.declared.spots.Spot.{Spot}
use Rattle.base_codecs.specs.Codec.{most_nodes}
use Rattle.base_codecs.specs.Reading.{◌>>=◌, stop_if, with_spot, ended_at, entered_at}
use Rattle.base_codecs.specs.Sequences.{items_at, parts_at, alternative_at}
use Rattle.der_fields.specs.declared.stops.Why.TheVariants.{Tag, Range}
use Rattle.der_fields.specs.FieldsReading.{stop_at, Octets, sized_at, tagged_at, expected_at}
use Rattle.per_fields.specs.Levels.{levels_needed}
use Rattle.per_fields.proofs.Levels.{EachKid, each_both, NeedsFewer, levels-some, kids-need}
use Rattle.der_fields.specs.Encoding.{TaggedPlace, tagged_place, identifier, is_open}
use Rattle.der_fields.specs.Reading.{node_of, unexpected, is_optional, starts, parts_from, sequence_of, choice_of, is_size, never, sequence_at, choice_at, sequence_of_at, contents_at, is_over, over, headed_at, part_at, owned_at, node_at, node_read}
use Rattle.der_fields.specs.Laws.{NodeRecursion}
use Rattle.der_fields.proofs.Types.{of-tall, kids-of}

-- KIDS READ ALIKE
module _ (M : List Assignment) (one two : TaggedPlace → Octets (Rose ValueLabel)) where
  abbrev pub Agree : ComponentPlace → Type 0
  Agree p = (tag : Option ℕ) → one (tagged_place tag p) ≡ two (tagged_place tag p)

  abbrev AllAgree : List TaggedPlace → Type 0
  AllAgree [] = Unit {0}
  AllAgree (p ∷ ps) = (one p ≡ two p) × AllAgree ps

  all_agree : (l : TypeLabel) (i : ℕ) (parts : List Component) (ts : List (Rose TypeLabel)) → EachKid Agree l i parts ts → AllAgree (parts_from l i parts ts)
  all_agree l i [] ts h = tt
  all_agree l i (c ∷ cs) [] h = tt
  all_agree l i (c ∷ cs) (t ∷ ts) h = (h.0 (Some i), all_agree l (i + 1) cs ts h.1)

  parts_same : (ps : List TaggedPlace) → AllAgree ps → parts_at (starts M) is_optional unexpected one ps ≡ parts_at (starts M) is_optional unexpected two ps
  unfolding parts_at
  parts_same [] h = refl
  parts_same (p ∷ ps) h = ap (λ r. joined r (parts_at (starts M) is_optional unexpected one ps)) h.0 ∙ ap (λ rs. joined (two p) rs) (parts_same ps h.1)
    where
      joined : Octets (Rose ValueLabel) → Octets (List (Option (Rose ValueLabel))) → Octets (List (Option (Rose ValueLabel)))
      joined r rs X s =
          cond (starts M p (drop s.at X)) (r X s >>= λ a. rs X a.1 >>= λ as'. with_spot (Some a.0 ∷ as'.0) as'.1)
          (cond (is_optional p) (rs X s >>= λ as'. with_spot (None ∷ as'.0) as'.1) (Err (unexpected X s)))

  alternative_same : (ps : List TaggedPlace) → AllAgree ps → alternative_at (starts M) is_optional unexpected one ps ≡ alternative_at (starts M) is_optional unexpected two ps
  unfolding alternative_at
  alternative_same [] h = refl
  alternative_same (p ∷ ps) h = ap (λ r. joined r (alternative_at (starts M) is_optional unexpected one ps)) h.0 ∙ ap (λ rs. joined (two p) rs) (alternative_same ps h.1)
    where
      joined : Octets (Rose ValueLabel) → Octets (ℕ × Rose ValueLabel) → Octets (ℕ × Rose ValueLabel)
      joined r rs X s = cond (starts M p (drop s.at X)) (r X s >>= λ a. with_spot (0, a.0) a.1) (rs X s >>= λ a. with_spot (suc a.0.0, a.0.1) a.1)

  choice_same : (l : TypeLabel) (ts : List (Rose TypeLabel)) (parts : List Component) → AllAgree (parts_from l 0 parts ts) → choice_at M one l ts parts ≡ choice_at M two l ts parts
  unfolding choice_at
  choice_same l ts parts h = ap told (alternative_same (parts_from l 0 parts ts) h)
    where
      told : Octets (ℕ × Rose ValueLabel) → Octets (Rose ValueLabel)
      told r X s = r X s >>= λ a. with_spot (choice_of a.0) a.1

  sequence_same : (l : TypeLabel) (ts : List (Rose TypeLabel)) (parts : List Component) → AllAgree (parts_from l 0 parts ts) → sequence_at M one l ts parts ≡ sequence_at M two l ts parts
  unfolding sequence_at
  sequence_same l ts parts h = ap told (parts_same (parts_from l 0 parts ts) h)
    where
      told : Octets (List (Option (Rose ValueLabel))) → Octets (Rose ValueLabel)
      told r X s = r X s >>= λ a. with_spot (sequence_of a.0) a.1

  many_same : (begin least : ℕ) (most : Option ℕ) (p : ComponentPlace) → Agree p → sequence_of_at one begin least most (Some p) ≡ sequence_of_at two begin least most (Some p)
  unfolding sequence_of_at
  many_same begin least most p h = ap told (h None)
    where
      told : Octets (Rose ValueLabel) → Octets (Rose ValueLabel)
      told r X s = items_at never r X s >>= λ a. stop_if (not (is_size least most (length a.0))) (stop_at begin Range) (with_spot (node_of value.SequenceOf a.0) a.1)

  contents_same : (begin : ℕ) (l : TypeLabel) (ts : List (Rose TypeLabel)) (f : Form) → EachKid Agree l 0 (parts_of f) ts → contents_at M one begin l ts f ≡ contents_at M two begin l ts f
  unfolding contents_at sequence_of_at
  contents_same begin l ts (form.Sequence parts) h = sequence_same l ts parts (all_agree l 0 parts ts h)
  contents_same begin l ts (form.Choice parts) h = ap (λ (r : Octets (Rose ValueLabel)). λ X s. ended_at (λ r. stop_at r.at Tag) r X s) (choice_same l ts parts (all_agree l 0 parts ts h))
  contents_same begin l [] (form.SequenceOf part least most) h = refl
  contents_same begin l (t ∷ ts) (form.SequenceOf part least most) h = many_same begin least most (place_of l 0 part t) h.0
  contents_same begin l ts f h = refl

-- a reader that is entered, where it may be
abbrev entering : ℕ → (TaggedPlace → Octets (Rose ValueLabel)) → TaggedPlace → Octets (Rose ValueLabel)
entering depth kid p = entered_at (is_over depth) (over depth) (kid p)

-- what reads the contents of a node that has an identifier
abbrev closed : ℕ → List ℕ → (ℕ → Octets (Rose ValueLabel)) → Octets (Rose ValueLabel)
closed depth head contents X s = expected_at head (entered_at (is_over depth) (over depth) (tagged_at head (sized_at (contents s.at)))) X s

abbrev by_form : Bool → Octets (Rose ValueLabel) → Octets (Rose ValueLabel) → Octets (Rose ValueLabel)
by_form b r q X s = cond b (r X s) (q X s)

module _ (M : List Assignment) (one two : TaggedPlace → Octets (Rose ValueLabel)) (depth : ℕ) (tag : Option ℕ) (l : TypeLabel) (ts : List (Rose TypeLabel)) where
  entered_agree : EachKid (Agree M one two) l 0 (parts_of l.form) ts → EachKid (Agree M (entering depth one) (entering depth two)) l 0 (parts_of l.form) ts
  entered_agree h =
      each_both (Agree M one two) (Agree M one two) (Agree M (entering depth one) (entering depth two)) (λ p a b tag. ap (λ (r : Octets (Rose ValueLabel)). entered_at (is_over depth) (over depth) r) (a tag)) l 0 (parts_of l.form) ts h h

  -- where kids are read alike, so is the node
  pub headed_same : EachKid (Agree M one two) l 0 (parts_of l.form) ts → headed_at M one depth tag l ts ≡ headed_at M two depth tag l ts
  unfolding headed_at
  headed_same h =
      ap (λ (r : Octets (Rose ValueLabel)). by_form (is_open tag l.form) r (closed depth (identifier tag l.form) (λ begin. contents_at M one begin l ts l.form)))
      (choice_same M (entering depth one) (entering depth two) l ts (parts_of l.form) (all_agree M (entering depth one) (entering depth two) l 0 (parts_of l.form) ts (entered_agree h)))
      ∙ ap (λ (c : ℕ → Octets (Rose ValueLabel)). by_form (is_open tag l.form) (choice_at M (entering depth two) l ts (parts_of l.form)) (closed depth (identifier tag l.form) c)) (λ i begin. contents_same M one two begin l ts l.form h i)

  -- and where it is too deep, however they are read
  never_entered : (r : Octets (Rose ValueLabel)) → 64 < depth → (X : List ℕ) (s : Spot) → entered_at (is_over depth) (over depth) r X s ≡ Err (over depth s)
  unfolding entered_at
  never_entered r past X s = ap (λ b. stop_if (not (b && ltb s.nodes most_nodes)) (over depth s) (r X (record { at = s.at + 0; nodes = s.nodes + 1 }))) (lt-leb depth 64 past)

  not_entered : (r q : Octets (Rose ValueLabel)) → 64 < depth → entered_at (is_over depth) (over depth) r ≡ entered_at (is_over depth) (over depth) q
  not_entered r q past = λ i X s. (never_entered r past X s ∙ sym (never_entered q past X s)) i

  none_entered : 64 < depth → (ps : List TaggedPlace) → AllAgree M (entering depth one) (entering depth two) ps
  none_entered past [] = tt
  none_entered past (p ∷ ps) = (not_entered (one p) (two p) past, none_entered past ps)

  deep_same : 64 < depth → headed_at M one depth tag l ts ≡ headed_at M two depth tag l ts
  unfolding headed_at
  deep_same past =
      ap (λ (r : Octets (Rose ValueLabel)). by_form (is_open tag l.form) r (λ X s. expected_at head (behind one s.at) X s)) (choice_same M (entering depth one) (entering depth two) l ts (parts_of l.form) (none_entered past (parts_from l 0 parts ts)))
      ∙ ap (λ (c : ℕ → Octets (Rose ValueLabel)). by_form (is_open tag l.form) (choice_at M (entering depth two) l ts (parts_of l.form)) (λ X s. expected_at head (c s.at) X s))
      (λ i begin. not_entered (tagged_at head (sized_at (contents_at M one begin l ts l.form))) (tagged_at head (sized_at (contents_at M two begin l ts l.form))) past i)
    where
      parts : List Component
      parts = parts_of l.form

      head : List ℕ
      head = identifier tag l.form

      behind : (TaggedPlace → Octets (Rose ValueLabel)) → ℕ → Octets (Rose ValueLabel)
      behind kid begin = entered_at (is_over depth) (over depth) (tagged_at head (sized_at (contents_at M kid begin l ts l.form)))

module _ (M : List Assignment) (is : IsModule M) where
  abbrev kid_by : (ℕ → Option ℕ → Rose TypeLabel → Octets (Rose ValueLabel)) → ℕ → TaggedPlace → Octets (Rose ValueLabel)
  kid_by read depth p = part_at M p.place (read (below p.place.role depth) p.tag p.place.type)

  -- what a node is, where its kids are read so
  abbrev node_with : ℕ → Option ℕ → Rose TypeLabel → (TaggedPlace → Octets (Rose ValueLabel)) → Octets (Rose ValueLabel)
  node_with depth tag t kid X s = headed_at M kid depth tag (label_of (resolve M t)) (kids_of (resolve M t)) X s >>= owned_at M s.at (resolve M t)

  abbrev ruled : Rose TypeLabel → Octets (Rose ValueLabel) → Octets (Rose ValueLabel)
  ruled u r X s = r X s >>= owned_at M s.at u

  with_same : (depth : ℕ) (tag : Option ℕ) (t : Rose TypeLabel) (one two : TaggedPlace → Octets (Rose ValueLabel)) → IsOf M t
      → (depth ≤ 64 → (p : ComponentPlace) → IsOf M p.type → NeedsFewer M depth t p → Agree M one two p) → node_with depth tag t one ≡ node_with depth tag t two
  with_same depth tag t one two of agree = by (cases_lt 64 depth)
    where
      u : Rose TypeLabel
      u = resolve M t

      by : (64 < depth) ⊎ (depth ≤ 64) → node_with depth tag t one ≡ node_with depth tag t two
      by (inl past) = ap (ruled (resolve M t)) (deep_same M one two depth tag (label_of (resolve M t)) (kids_of (resolve M t)) past)
      by (inr deep) =
          ap (ruled (resolve M t)) (headed_same M one two depth tag (label_of (resolve M t)) (kids_of (resolve M t))
          (each_both (λ p. IsOf M p.type) (NeedsFewer M depth t) (Agree M one two) (λ p of_p need. agree deep p of_p need) (label_of u) 0 (parts_of (label_of u).form) (kids_of u)
          (kids-of M u (resolved-of-module M t of)) (kids-need M depth t deep (has-four M t (well-formed M t is of)) (of-tall M t of))))

  same_levels : (m n depth : ℕ) (tag : Option ℕ) (t : Rose TypeLabel) → IsOf M t → levels_needed M depth t ≤ m → levels_needed M depth t ≤ n → node_at M m depth tag t ≡ node_at M n depth tag t
  unfolding node_at
  same_levels zero n depth tag t of h k = absurd (omega (arith, h, levels-some M 4 t))
  same_levels (suc m) zero depth tag t of h k = absurd (omega (arith, k, levels-some M 4 t))
  same_levels (suc m) (suc n) depth tag t of h k = by (same_levels m n)
    where
      by : ((depth : ℕ) (tag : Option ℕ) (t : Rose TypeLabel) → IsOf M t → levels_needed M depth t ≤ m → levels_needed M depth t ≤ n → node_at M m depth tag t ≡ node_at M n depth tag t)
          → node_at M (suc m) depth tag t ≡ node_at M (suc n) depth tag t
      by further =
          with_same depth tag t (kid_by (node_at M m) depth) (kid_by (node_at M n) depth) of
          (λ deep p of_p need tag. ap (λ (r : Octets (Rose ValueLabel)). part_at M p r) (further (below p.role depth) tag p.type of_p (omega (arith, need.1, h)) (omega (arith, need.1, k))))

  -- THE RECURSION
  recursion : (levels depth : ℕ) (tag : Option ℕ) (t : Rose TypeLabel) → IsOf M t → levels_needed M depth t ≤ suc levels → node_at M (suc levels) depth tag t ≡ node_with depth tag t (kid_by (node_read M) depth)
  unfolding node_at
  recursion levels depth tag t of h =
      with_same depth tag t (kid_by (node_at M levels) depth) (kid_by (node_read M) depth) of
      (λ deep p of_p need tag. ap (λ (r : Octets (Rose ValueLabel)). part_at M p r) (same_levels levels (levels_needed M (below p.role depth) p.type) (below p.role depth) tag p.type of_p (omega (arith, need.1, h)) (omega arith)))

  some_level : (depth : ℕ) (t : Rose TypeLabel) → levels_needed M depth t ≡ suc (levels_needed M depth t - 1)
  some_level depth t = omega (arith, levels-some M 4 t)

  node_read_as : (depth : ℕ) (tag : Option ℕ) (t : Rose TypeLabel) → IsOf M t → node_read M depth tag t ≡ node_with depth tag t (kid_by (node_read M) depth)
  node_read_as depth tag t of = ap (λ n. node_at M n depth tag t) (some_level depth t) ∙ recursion (levels_needed M depth t - 1) depth tag t of (omega (arith, some_level depth t))

pub node_recursion : NodeRecursion
node_recursion M is depth tag t of X s = λ i. node_read_as M is depth tag t of i X s
