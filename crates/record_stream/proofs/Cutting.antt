-- Encodings one behind the other, taken apart and put together.
use Rattle.std.proofs.Common.{◌≡◌, ℕ, zero, suc, ◌+◌, ◌-◌, ◌*◌, ◌/◌, ◌<◌, ◌≤◌, Bool, true, cond, List, [], ◌∷◌, ◌++◌, length, take, drop, refl, sym, ap, ◌∙◌, subst, arith, Option, Some, None, append_assoc, length-append, inl, inr, ◌⊎◌}
use Rattle.std.specs.Prelude.{slice_get}
use Rattle.std.proofs.lemmas.List.{length-take, length-drop, take-append-drop, take_all, take-take, drop-drop, append-nil}
use Rattle.std.proofs.Math.Seq.{take-add, take-append_seam, drop-append_seam}
use Rattle.std.proofs.lemmas.Bool.{ne_eqb}
use Rattle.base_trees.specs.Rose.{Rose}
use Rattle.base_codecs.specs.Bits.{octet_bits, padding, bits}
use Rattle.base_codecs.proofs.BitLemmas.{length-octet_bits, octet_bits-append, length-bits}
use Rattle.simple_types.specs.declared.labels.ValueLabel.{ValueLabel}
use Rattle.asn_types.specs.declared.modules.Assignment.{Assignment}
use Rattle.asn_types.specs.Bounds.{IsBounded}
use Rattle.asn_types.specs.Modules.{IsModule}
use Rattle.asn_values.specs.Values.{In, FitsAt}
use Rattle.per_fields.specs.declared.stops.Stop.{Stop}
use Rattle.per_fields.specs.Codec.{AllOf}
use Rattle.per_fields.specs.Encoding.{per, completed, complete_of, complete}
use Rattle.per_fields.specs.Laws.{Begins, Stops}
use Rattle.per_fields.proofs.Law.{one_value, either, not_both, whole_octets}
use Rattle.record_stream.specs.Cuts.{encodings, IsRecord, BeginWith, IsCut}

-- octets behind the first so many
octets-split : (n : ℕ) (octets : List ℕ) → octet_bits octets ≡ octet_bits (take n octets) ++ octet_bits (drop n octets)
octets-split n octets = ap octet_bits (sym (take-append-drop n octets)) ∙ octet_bits-append (take n octets) (drop n octets)

-- a front of bits, by its length, and what stands behind it
front_is : (xs ys front rest : List Bool) → xs ++ ys ≡ front ++ rest → length xs ≡ length front → xs ≡ front
front_is xs ys front rest e long = sym (take-append_seam xs ys) ∙ ap (take (length xs)) e ∙ ap (λ n. take n (front ++ rest)) long ∙ take-append_seam front rest

behind_is : (xs ys front rest : List Bool) → xs ++ ys ≡ front ++ rest → length xs ≡ length front → ys ≡ rest
behind_is xs ys front rest e long = sym (drop-append_seam xs ys) ∙ ap (drop (length xs)) e ∙ ap (λ n. drop n (front ++ rest)) long ∙ drop-append_seam front rest

completed-some : (found : List Bool) → 0 < length (completed found)
unfolding completed
completed-some [] = omega (arith, length-bits 8 0)
completed-some (b ∷ found) =
    let whole : completed (b ∷ found) ≡ (b ∷ found) ++ padding (length (b ∷ found)) = ap (λ c. cond c (bits 8 0) ((b ∷ found) ++ padding (length (b ∷ found)))) (ne_eqb (length (b ∷ found)) 0 (omega arith)) in
    omega (arith, ap length whole, length-append (b ∷ found) (padding (length (b ∷ found))))

AllOf-append : {X : Type 0} (P : X → Type 0) (xs ys : List X) → AllOf P xs → AllOf P ys → AllOf P (xs ++ ys)
AllOf-append P [] ys h k = k
AllOf-append P (x ∷ xs) ys h k = (h.0, AllOf-append P xs ys h.1 k)

module _ (M : List Assignment) (t : ℕ) where
  -- every complete encoding has at least one octet
  pub complete-some : (v : Rose ValueLabel) → In M t v → 8 ≤ length (complete M t v)
  complete-some v is = omega (arith, whole_octets true M t v, by (slice_get M t) is.0)
    where
      by : (o : Option Assignment) → elim o as (λ _. Type 0) [ None ↦ ⊥ | Some a ↦ FitsAt M 1 a.body v ] → 0 < length (elim o as (λ _. List Bool) [ None ↦ [] | Some a ↦ complete_of true M a.body v ])
      by None h = absurd h
      by (Some a) h = completed-some (per true M a.body v 0)

  encodings-append : (vs ws : List (Rose ValueLabel)) → encodings M t (vs ++ ws) ≡ encodings M t vs ++ encodings M t ws
  encodings-append [] ws = refl
  encodings-append (v ∷ vs) ws = ap (λ bs. complete M t v ++ bs) (encodings-append vs ws) ∙ sym (append_assoc (complete M t v) (encodings M t vs) (encodings M t ws))

  -- the first of values, and those behind it
  pub uncons : (octets : List ℕ) (v : Rose ValueLabel) (vs : List (Rose ValueLabel)) (n : ℕ) → n ≤ length octets → In M t v → octet_bits (take n octets) ≡ encodings M t (v ∷ vs)
      → (k : ℕ) × Begins M t (octet_bits octets) v × (8 * k ≡ length (complete M t v)) × (k ≤ n) × (octet_bits (take (n - k) (drop k octets)) ≡ encodings M t vs)
  uncons octets v vs n inside in_type is =
      let k : ℕ = length (complete M t v) / 8 in
      let long : 8 * k ≡ length (complete M t v) = omega (arith, whole_octets true M t v) in
      let few : k ≤ n = omega (arith, ap length is, length-append (complete M t v) (encodings M t vs), length-octet_bits (take n octets), length-take n octets, long, inside) in
      let joined : k + (n - k) ≡ n = omega (arith, few) in
      let split : octet_bits (take k octets) ++ octet_bits (take (n - k) (drop k octets)) ≡ complete M t v ++ encodings M t vs =
      sym (octet_bits-append (take k octets) (take (n - k) (drop k octets))) ∙ ap octet_bits (sym (take-add k (n - k) octets)) ∙ ap (λ j. octet_bits (take j octets)) joined ∙ is in
      let short : length (octet_bits (take k octets)) ≡ length (complete M t v) = omega (arith, length-octet_bits (take k octets), length-take k octets, few, inside, long) in
      let first : octet_bits (take k octets) ≡ complete M t v = front_is _ _ _ _ split short in (
        k,
        record { rest = octet_bits (drop k octets); is = octets-split k octets ∙ ap (λ bs. bs ++ octet_bits (drop k octets)) first; value = in_type },
        long,
        few,
        behind_is _ _ _ _ split short,
      )

  -- a value at the front of octets: its octets
  pub front_octets : (octets : List ℕ) (v : Rose ValueLabel) → Begins M t (octet_bits octets) v → (k : ℕ) × (8 * k ≡ length (complete M t v)) × (k ≤ length octets) × (octet_bits (take k octets) ≡ complete M t v)
  front_octets octets v b =
      let k : ℕ = length (complete M t v) / 8 in
      let long : 8 * k ≡ length (complete M t v) = omega (arith, whole_octets true M t v) in
      let few : k ≤ length octets = omega (arith, ap length b.is, length-append (complete M t v) b.rest, length-octet_bits octets, long) in
      let split : octet_bits (take k octets) ++ octet_bits (drop k octets) ≡ complete M t v ++ b.rest = sym (octets-split k octets) ∙ b.is in
      let short : length (octet_bits (take k octets)) ≡ length (complete M t v) = omega (arith, length-octet_bits (take k octets), length-take k octets, few, long) in
      (k, long, few, front_is _ _ _ _ split short)

  -- it stands at the front of more octets, and of fewer that have it
  pub begins_in : (octets : List ℕ) (v : Rose ValueLabel) (k : ℕ) → In M t v → octet_bits (take k octets) ≡ complete M t v → Begins M t (octet_bits octets) v
  begins_in octets v k in_type is = record { rest = octet_bits (drop k octets); is = octets-split k octets ∙ ap (λ bs. bs ++ octet_bits (drop k octets)) is; value = in_type }

  pub begins_within : (octets : List ℕ) (v : Rose ValueLabel) (m : ℕ) → length (complete M t v) ≤ 8 * m → Begins M t (octet_bits octets) v → Begins M t (octet_bits (take m octets)) v
  begins_within octets v m few b =
      let f = front_octets octets v b in
      let below : f.0 ≤ m = omega (arith, f.1, few) in
      begins_in (take m octets) v f.0 b.value (ap octet_bits (take-take f.0 m octets below) ∙ f.3)

  pub begins_beyond : (octets : List ℕ) (v : Rose ValueLabel) (m : ℕ) → Begins M t (octet_bits (take m octets)) v → Begins M t (octet_bits octets) v × (length (complete M t v) ≤ 8 * m)
  begins_beyond octets v m b =
      let f = front_octets (take m octets) v b in
      let below : f.0 ≤ m = omega (arith, f.2, length-take m octets) in
      (begins_in octets v f.0 b.value (sym (ap octet_bits (take-take f.0 m octets below)) ∙ f.3), omega (arith, f.1, below))

  -- NO VALUES
  pub begin_none : (octets : List ℕ) → BeginWith M t octets [] 0
  begin_none octets = record { inside = omega arith; records = tt; is = refl }

  -- ONE MORE, behind the others
  pub begin_more : (octets : List ℕ) (vs : List (Rose ValueLabel)) (n : ℕ) (v : Rose ValueLabel) (m k : ℕ) → BeginWith M t octets vs n → m ≤ 16777216
      → Begins M t (octet_bits (take m (drop n octets))) v → 8 * k ≡ length (complete M t v) → BeginWith M t octets (vs ++ v ∷ []) (n + k)
  begin_more octets vs n v m k h small b long =
      let f = front_octets (take m (drop n octets)) v b in
      let same : f.0 ≡ k = omega (arith, f.1, long) in
      let below : k ≤ m = omega (arith, same, f.2, length-take m (drop n octets)) in
      let here : octet_bits (take k (drop n octets)) ≡ complete M t v = sym (ap octet_bits (take-take k m (drop n octets) below)) ∙ ap (λ j. octet_bits (take j (take m (drop n octets)))) (sym same) ∙ f.3 in
      let last : encodings M t (v ∷ []) ≡ complete M t v = append-nil (complete M t v) in
      record {
        inside = omega (arith, same, f.2, length-take m (drop n octets), length-drop n octets, h.inside);
        records = AllOf-append (IsRecord M t) vs (v ∷ []) h.records ((b.value, omega (arith, below, small, long)), tt);
        is = ap octet_bits (take-add n k octets) ∙ octet_bits-append (take n octets) (take k (drop n octets)) ∙ ap (λ bs. bs ++ octet_bits (take k (drop n octets))) h.is ∙ ap (λ bs. encodings M t vs ++ bs) (here ∙ sym last)
            ∙ sym (encodings-append vs (v ∷ []));
      }

  -- before the others
  pub begin_before : (octets : List ℕ) (v : Rose ValueLabel) (vs : List (Rose ValueLabel)) (k n : ℕ) → IsRecord M t v → k ≤ length octets → octet_bits (take k octets) ≡ complete M t v → BeginWith M t (drop k octets) vs n
      → BeginWith M t octets (v ∷ vs) (k + n)
  begin_before octets v vs k n one inside is h = record {
    inside = omega (arith, h.inside, length-drop k octets, inside);
    records = (one, h.records);
    is = ap octet_bits (take-add k n octets) ∙ octet_bits-append (take k octets) (take n (drop k octets)) ∙ ap (λ bs. bs ++ octet_bits (take n (drop k octets))) is ∙ ap (λ bs. complete M t v ++ bs) h.is;
  }

  pub begin_rest : (octets : List ℕ) (v : Rose ValueLabel) (vs : List (Rose ValueLabel)) (n : ℕ) → BeginWith M t octets (v ∷ vs) n
      → (k : ℕ) × Begins M t (octet_bits octets) v × (8 * k ≡ length (complete M t v)) × (k ≤ n) × BeginWith M t (drop k octets) vs (n - k)
  begin_rest octets v vs n h =
      let u = uncons octets v vs n h.inside h.records.0.0 h.is in
      (u.0, u.1, u.2, u.3, record { inside = omega (arith, h.inside, length-drop u.0 octets); records = h.records.1; is = u.4 })

  pub begin_nothing : (octets : List ℕ) (n : ℕ) → BeginWith M t octets [] n → n ≡ 0
  begin_nothing octets n h = omega (arith, ap length h.is, length-octet_bits (take n octets), length-take n octets, h.inside)

  -- each has an octet
  pub few_values : (octets : List ℕ) (vs : List (Rose ValueLabel)) (n : ℕ) → BeginWith M t octets vs n → length vs ≤ n
  few_values octets [] n h = omega arith
  few_values octets (v ∷ vs) n h =
      let r = begin_rest octets v vs n h in
      omega (arith, few_values (drop r.0 octets) vs (n - r.0) r.4, r.2, r.3, complete-some v h.records.0.0)

  -- fewer octets that have them
  pub begin_front : (octets : List ℕ) (vs : List (Rose ValueLabel)) (n m : ℕ) → BeginWith M t octets vs n → n ≤ m → BeginWith M t (take m octets) vs n
  begin_front octets vs n m h below = record {
    inside = omega (arith, h.inside, below, length-take m octets);
    records = h.records;
    is = ap octet_bits (take-take n m octets below) ∙ h.is;
  }

  module _ (known : IsModule M) (bounded : IsBounded M) (assigned : t < length M) where
    -- two first values are one
    pub same_first : (octets : List ℕ) (v w : Rose ValueLabel) (k j : ℕ) → Begins M t (octet_bits octets) v → Begins M t (octet_bits octets) w → 8 * k ≡ length (complete M t v) → 8 * j ≡ length (complete M t w) → (v ≡ w) × (k ≡ j)
    same_first octets v w k j b c long wide =
        let e : v ≡ w = (one_value true M t octets known bounded assigned v w b c).0 in
        (e, omega (arith, long, wide, ap (λ x. length (complete M t x)) e))

    pub one_list_of : (octets : List ℕ) (vs ws : List (Rose ValueLabel)) → AllOf (In M t) vs → AllOf (In M t) ws → octet_bits octets ≡ encodings M t vs → octet_bits octets ≡ encodings M t ws → vs ≡ ws
    one_list_of octets [] [] h k e f = refl
    one_list_of octets [] (w ∷ ws) h k e f = absurd (omega (arith, ap length e, ap length f, length-append (complete M t w) (encodings M t ws), complete-some w k.0))
    one_list_of octets (v ∷ vs) [] h k e f = absurd (omega (arith, ap length e, ap length f, length-append (complete M t v) (encodings M t vs), complete-some v h.0))
    one_list_of octets (v ∷ vs) (w ∷ ws) h k e f =
        let whole : take (length octets) octets ≡ octets = take_all (length octets) octets (omega arith) in
        let a = uncons octets v vs (length octets) (omega arith) h.0 (ap octet_bits whole ∙ e) in
        let b = uncons octets w ws (length octets) (omega arith) k.0 (ap octet_bits whole ∙ f) in
        let s = same_first octets v w a.0 b.0 a.1 b.1 a.2 b.2 in
        let rest : take (length octets - a.0) (drop a.0 octets) ≡ drop a.0 octets = take_all (length octets - a.0) (drop a.0 octets) (omega (arith, length-drop a.0 octets)) in
        let both : octet_bits (take (length octets - a.0) (drop a.0 octets)) ≡ encodings M t ws = subst (λ j. octet_bits (take (length octets - j) (drop j octets)) ≡ encodings M t ws) (sym s.1) b.4 in
        let others : vs ≡ ws = one_list_of (drop a.0 octets) vs ws h.1 k.1 (sym (ap octet_bits rest) ∙ a.4) (sym (ap octet_bits rest) ∙ both) in
        ap (λ x. x ∷ vs) s.0 ∙ ap (λ xs. w ∷ xs) others

    -- as many values are the same
    pub as_many : (octets : List ℕ) (vs ws : List (Rose ValueLabel)) (m n : ℕ) → BeginWith M t octets vs m → BeginWith M t octets ws n → length vs ≡ length ws → (vs ≡ ws) × (m ≡ n)
    as_many octets [] [] m n h k e = (refl, omega (arith, begin_nothing octets m h, begin_nothing octets n k))
    as_many octets [] (w ∷ ws) m n h k e = absurd (omega (arith, e))
    as_many octets (v ∷ vs) [] m n h k e = absurd (omega (arith, e))
    as_many octets (v ∷ vs) (w ∷ ws) m n h k e =
        let a = begin_rest octets v vs m h in
        let b = begin_rest octets w ws n k in
        let s = same_first octets v w a.0 b.0 a.1 b.1 a.2 b.2 in
        let others = as_many (drop a.0 octets) vs ws (m - a.0) (n - a.0) a.4 (subst (λ j. BeginWith M t (drop j octets) ws (n - j)) (sym s.1) b.4) (omega (arith, e)) in
        (ap (λ x. x ∷ vs) s.0 ∙ ap (λ xs. w ∷ xs) others.0, omega (arith, others.1, a.3, b.3, s.1))

    pub one_cut_of : (octets : List ℕ) (vs ws : List (Rose ValueLabel)) (m n : ℕ) → IsCut M t octets vs m → IsCut M t octets ws n → (vs ≡ ws) × (m ≡ n)
    one_cut_of octets vs ws m n h k = as_many octets vs ws m n h.begin k.begin (omega (arith, h.longest ws n k.begin, k.longest vs m h.begin))

    -- more values: the next of them stands behind the others
    pub next_of : (octets : List ℕ) (vs ws : List (Rose ValueLabel)) (m n : ℕ) → BeginWith M t octets vs m → BeginWith M t octets ws n → length vs < length ws
        → (w : Rose ValueLabel) × IsRecord M t w × Begins M t (octet_bits (drop m octets)) w
    next_of octets [] [] m n h k less = absurd (omega (arith, less))
    next_of octets [] (w ∷ ws) m n h k less =
        let u = begin_rest octets w ws n k in
        let none : 0 ≡ m = sym (begin_nothing octets m h) in
        (w, k.records.0, subst (λ j. Begins M t (octet_bits (drop j octets)) w) none u.1)
    next_of octets (v ∷ vs) [] m n h k less = absurd (omega (arith, less))
    next_of octets (v ∷ vs) (w ∷ ws) m n h k less =
        let a = begin_rest octets v vs m h in
        let b = begin_rest octets w ws n k in
        let s = same_first octets v w a.0 b.0 a.1 b.1 a.2 b.2 in
        let r = next_of (drop a.0 octets) vs ws (m - a.0) (n - a.0) a.4 (subst (λ j. BeginWith M t (drop j octets) ws (n - j)) (sym s.1) b.4) (omega (arith, less)) in
        let joined : a.0 + (m - a.0) ≡ m = omega (arith, a.3) in
        let behind : drop (m - a.0) (drop a.0 octets) ≡ drop m octets = drop-drop (m - a.0) a.0 octets ∙ ap (λ j. drop j octets) joined in
        (r.0, r.1, subst (λ xs. Begins M t (octet_bits xs) r.0) behind r.2)

    -- where no further value stands behind them, they are the cut
    pub cut_ends : (octets : List ℕ) (vs : List (Rose ValueLabel)) (n : ℕ) → BeginWith M t octets vs n → ((v : Rose ValueLabel) → IsRecord M t v → Begins M t (octet_bits (drop n octets)) v → ⊥) → IsCut M t octets vs n
    cut_ends octets vs n h nothing = record { begin = h; longest = λ ws m k. by ws m k (cases (length vs) (length ws)) }
      where
        cases : (a b : ℕ) → (b ≤ a) ⊎ (a < b)
        cases zero zero = inl (omega arith)
        cases zero (suc b) = inr (omega arith)
        cases (suc a) zero = inl (omega arith)
        cases (suc a) (suc b) = elim (cases a b) [ inl h ↦ inl (omega (arith, h)) | inr h ↦ inr (omega (arith, h)) ]

        by : (ws : List (Rose ValueLabel)) (m : ℕ) → BeginWith M t octets ws m → (length ws ≤ length vs) ⊎ (length vs < length ws) → length ws ≤ length vs
        by ws m k (inl few) = few
        by ws m k (inr more) = let r = next_of octets vs ws n m h k more in absurd (nothing r.0 r.1 r.2)

    -- a cut behind a value, and the value before it
    cut_before : (octets : List ℕ) (v : Rose ValueLabel) (vs : List (Rose ValueLabel)) (k n : ℕ) → IsRecord M t v → k ≤ length octets → octet_bits (take k octets) ≡ complete M t v → 8 * k ≡ length (complete M t v)
        → IsCut M t (drop k octets) vs n → IsCut M t octets (v ∷ vs) (k + n)
    cut_before octets v vs k n one inside is long cut = record {
      begin = begin_before octets v vs k n one inside is cut.begin;
      longest = by;
    }
      where
        by : (ws : List (Rose ValueLabel)) (m : ℕ) → BeginWith M t octets ws m → length ws ≤ length (v ∷ vs)
        by [] m h = omega arith
        by (w ∷ ws) m h =
            let b = begin_rest octets w ws m h in
            let s = same_first octets v w k b.0 (begins_in octets v k one.0 is) b.1 long b.2 in
            omega (arith, cut.longest ws (m - k) (subst (λ j. BeginWith M t (drop j octets) ws (m - j)) (sym s.1) b.4))

    some_from : (fuel : ℕ) (octets : List ℕ) → length octets ≤ fuel → (values : List (Rose ValueLabel)) × (count : ℕ) × IsCut M t octets values count
    some_from zero octets few = ([], 0, cut_ends octets [] 0 (begin_none octets) (λ v one b. let f = front_octets (drop 0 octets) v b in omega (arith, f.1, f.2, complete-some v one.0, length-drop 0 octets, few)))
    some_from (suc fuel) octets few = by (either true M t (take 16777216 octets) known bounded assigned) (λ others short. some_from fuel others short)
      where
        by : ((v : Rose ValueLabel) × Begins M t (octet_bits (take 16777216 octets)) v) ⊎ ((stop : Stop) × Stops M t (octet_bits (take 16777216 octets)) stop)
            → ((others : List ℕ) → length others ≤ fuel → (values : List (Rose ValueLabel)) × (count : ℕ) × IsCut M t others values count)
            → (values : List (Rose ValueLabel)) × (count : ℕ) × IsCut M t octets values count
        by (inl (v, b)) behind =
            let f = front_octets (take 16777216 octets) v b in
            let below : f.0 ≤ 16777216 = omega (arith, f.2, length-take 16777216 octets) in
            let inside : f.0 ≤ length octets = omega (arith, f.2, length-take 16777216 octets) in
            let is : octet_bits (take f.0 octets) ≡ complete M t v = sym (ap octet_bits (take-take f.0 16777216 octets below)) ∙ f.3 in
            let rest = behind (drop f.0 octets) (omega (arith, length-drop f.0 octets, few, f.1, complete-some v b.value)) in
            (v ∷ rest.0, f.0 + rest.1, cut_before octets v rest.0 f.0 rest.1 (b.value, omega (arith, f.1, below)) inside is f.1 rest.2)
        by (inr (stop, s)) behind = (
          [],
          0,
          cut_ends octets [] 0 (begin_none octets) (λ v one b. not_both true M t (take 16777216 octets) known bounded assigned v stop (begins_within octets v 16777216 one.1 b) s),
        )

    pub some_cut_of : (octets : List ℕ) → (values : List (Rose ValueLabel)) × (count : ℕ) × IsCut M t octets values count
    some_cut_of octets = some_from (length octets) octets (omega arith)
