-- The records so far, as the loop has them (`SoFar`), say what the lines of `Ends` ask: while the next is read, and while its document is
-- written.
use Rattle.std.proofs.Common.{◌≡◌, ◌⊎◌, ℕ, ◌+◌, ◌-◌, ◌*◌, ◌<◌, ◌≤◌, List, [], ◌∷◌, ◌++◌, length, take, drop, refl, sym, ap, ◌∙◌, subst, inl, inr, arith, append_assoc, Option, Some, None, Ok, Err}
use Rattle.std.specs.Prelude.{min}
use Rattle.std.specs.Io.KnownBytes.{Appends}
use Rattle.std.proofs.lemmas.Bool.{cases_lt}
use Rattle.std.proofs.lemmas.List.{append-nil, take-append-drop, length-take-le, drop-take, drop-drop, length-drop}
use Rattle.base_texts.specs.Faults.{one_more}
use Rattle.base_texts.specs.Bytes.{AppendsFront, TakesFirst, LeavesRoom, LacksRoom}
use Rattle.base_trees.specs.Rose.{Rose}
use Rattle.simple_types.specs.declared.labels.ValueLabel.{ValueLabel}
use Rattle.asn_types.specs.declared.modules.Assignment.{Assignment}
use Rattle.asn_values.specs.Values.{In}
use Rattle.base_codecs.specs.Bits.{octet_bits}
use Rattle.per_fields.specs.Encoding.{complete}
use Rattle.per_fields.specs.Laws.{Begins}
use Rattle.record_stream.specs.Heads.{left_with}
use Rattle.record_stream.specs.Cuts.{BeginWith, IsCut}
use Rattle.record_stream.specs.Next.{AnswersNext, Answer, most_of}
use Rattle.per_fields.specs.declared.stops.Stop.{Stop}
use Rattle.per_fields.specs.Stopping.{StopsFirst}
use Rattle.record_stream.specs.declared.errors.RecordError.TheVariants as record_error
use Rattle.record_stream.specs.Cuts.{IsRecord}
use Rattle.record_stream.specs.Next.{within}
use Rattle.record_stream.proofs.Ending.{cut_at_failure}
use Rattle.record_stream.proofs.Cutting.{begin_rest, same_first, begin_nothing, complete-some, begins_within, begins_beyond, begin_more, begin_front, as_many, next_of, some_cut_of}
use Rattle.schema_components.specs.Components.{Set}
use Rattle.schema_components.specs.SetParts.{SetParts}
use Rattle.transcode_core.specs.Steps.{RootType, IsTypeOf}
use Rattle.transcode_core.specs.Each.{each_limit}
use Rattle.transcode_core.specs.Requests.Answers.{ReadsNext, HoldsNext, TakesRecords, IsBack, AreBack}
use Rattle.transcode_core.proofs.Eaching.{appends_more, all_more, Here, SoFar, left_here, inner_is, next_here}

pub takes_first : (octets : List ℕ) (n : ℕ) (now : Option (List ℕ)) → n ≤ length octets → now ≡ Some (drop n octets) → TakesFirst (Some octets) now n
takes_first octets n now inside is =
    subst (λ w. TakesFirst (Some octets) w n) (sym is) (take n octets, sym (take-append-drop n octets), length-take-le n octets inside)

module _ (type : RootType) {s : Set} {root : ℕ} (of : IsTypeOf s root type) where
  abbrev M : List Assignment
  M = type.assignments

  abbrev t : ℕ
  t = type.number

  -- more values: the next of them stands behind the others, and its octets among theirs
  next_fits : (octets : List ℕ) (vs ws : List (Rose ValueLabel)) (m n : ℕ) → BeginWith M t octets vs m → BeginWith M t octets ws n → length vs < length ws
      → (w : Rose ValueLabel) × (e : ℕ) × IsRecord M t w × Begins M t (octet_bits (drop m octets)) w × (8 * e ≡ length (complete M t w)) × (m + e ≤ n)
  next_fits octets [] [] m n h k less = absurd (omega (arith, less))
  next_fits octets [] (w ∷ ws) m n h k less =
      let u = begin_rest M t octets w ws n k in
      let nothing : m ≡ 0 = begin_nothing M t octets m h in
      (w, u.0, k.records.0, subst (λ j. Begins M t (octet_bits (drop j octets)) w) (sym nothing) u.1, u.2, omega (arith, nothing, u.3))
  next_fits octets (v ∷ vs) [] m n h k less = absurd (omega (arith, less))
  next_fits octets (v ∷ vs) (w ∷ ws) m n h k less =
      let a = begin_rest M t octets v vs m h in
      let b = begin_rest M t octets w ws n k in
      let s = same_first M t of.is_module of.is_bounded of.within octets v w a.0 b.0 a.1 b.1 a.2 b.2 in
      let r = next_fits (drop a.0 octets) vs ws (m - a.0) (n - a.0) a.4 (subst (λ j. BeginWith M t (drop j octets) ws (n - j)) (sym s.1) b.4) (omega (arith, less)) in
      let joined : a.0 + (m - a.0) ≡ m = omega (arith, a.3) in
      let behind : drop (m - a.0) (drop a.0 octets) ≡ drop m octets = drop-drop (m - a.0) a.0 octets ∙ ap (λ j. drop j octets) joined in
      (r.0, r.1, r.2, subst (λ xs. Begins M t (octet_bits xs) r.0) behind r.3, r.4, omega (arith, r.5, a.3, b.3, s.1))

  -- So many octets were taken behind the records, and no more than those of a value that begins there. Then no further record is whole among
  -- the octets taken, or they are just those of one more.
  module _ (left : List ℕ) (values : List (Rose ValueLabel)) (count room k : ℕ) (begin : BeginWith M t left values count) (few : count ≤ each_limit) (room_is : room ≡ each_limit - count)
      (value : (v : Rose ValueLabel) → Begins M t (octet_bits (take (most_of room) (drop count left))) v → 8 * k ≤ length (complete M t v)) where
    abbrev Halts : Type 0
    Halts = IsCut M t (take (min each_limit (count + k)) left) values count ⊎ ((v : Rose ValueLabel) × In M t v × BeginWith M t (take each_limit left) (values ++ v ∷ []) (count + k))

    abbrev j : ℕ
    j = min (each_limit - count) k

    taken_is : min each_limit (count + k) ≡ count + j
    taken_is = omega (arith, few)

    more_values : (vs : List (Rose ValueLabel)) (n : ℕ) → BeginWith M t (take (min each_limit (count + k)) left) values count → BeginWith M t (take (min each_limit (count + k)) left) vs n → length values < length vs → Halts
    more_values vs n front all less =
        let r = next_of M t of.is_module of.is_bounded of.within (take (min each_limit (count + k)) left) values vs count n front all less in
        let behind : drop count (take (min each_limit (count + k)) left) ≡ take j (drop count left) = ap (λ n. drop count (take n left)) taken_is ∙ drop-take count j left in
        let here = subst (λ xs. Begins M t (octet_bits xs) r.0) behind r.2 in
        let beyond = begins_beyond M t (drop count left) r.0 j here in
        let fits : length (complete M t r.0) ≤ 8 * most_of room = omega (arith, beyond.1, r.1.1, room_is) in
        let b = begins_within M t (drop count left) r.0 (most_of room) fits beyond.0 in
        let least = value r.0 b in
        let long : 8 * k ≡ length (complete M t r.0) = omega (arith, least, beyond.1) in
        let small : most_of room ≤ 16777216 = omega arith in
        inr (r.0, r.1.0, begin_front M t left (values ++ r.0 ∷ []) (count + k) each_limit (begin_more M t left values count r.0 (most_of room) k begin small b long) (omega (arith, few, least, beyond.1)))

    pub halts : Halts
    halts = let c = some_cut_of M t of.is_module of.is_bounded of.within (take (min each_limit (count + k)) left) in
        let front = begin_front M t left values count (min each_limit (count + k)) begin (omega (arith, few)) in
        elim (cases_lt (length values) (length c.0)) [
          | inl less ↦ more_values c.0 c.1 front c.2.begin less
          | inr over ↦ let same = as_many M t of.is_module of.is_bounded of.within (take (min each_limit (count + k)) left) values c.0 count c.1 front c.2.begin (omega (arith, over, c.2.longest values count front)) in
              inl (subst (λ m. IsCut M t (take (min each_limit (count + k)) left) values m) (sym same.1) (subst (λ vs. IsCut M t (take (min each_limit (count + k)) left) vs c.1) (sym same.0) c.2))
        ]

  -- ---- the next record

  module _ (old : Option (List ℕ)) (octet : Option ℕ) (inner : Option (List ℕ)) (room records turn : ℕ) (wrote wrote_now : Option (List ℕ)) (h : SoFar type old octet inner room records turn wrote wrote_now)
      (octet_new : Option ℕ) (inner_new : Option (List ℕ)) (answer : Answer)
      (answers : (left : List ℕ) → left_with octet inner ≡ Some left → AnswersNext M t (one_more records) room left (left_with octet_new inner_new) answer)
      -- an octet that is still held is the first that was left, and the only one that was taken
      (held : (left : List ℕ) → left_with octet inner ≡ Some left → (b : ℕ) → octet_new ≡ Some b → (1 ≤ length left) × (inner_new ≡ Some (drop 1 left))) where
    abbrev Stops : Type 0
    Stops = ReadsNext type old inner_new h.text ⊎ ((next : Rose ValueLabel) × HoldsNext type old inner_new h.text next)

    -- so many octets were taken for it, and no more than it has
    record Took (left : List ℕ) (count : ℕ) : Type 0 where
      pub k : ℕ
      pub inside : k ≤ length (drop count left)
      pub is : inner_new ≡ Some (drop k (drop count left))
      pub value : (v : Rose ValueLabel) → Begins M t (octet_bits (take (most_of room) (drop count left))) v → 8 * k ≤ length (complete M t v)
      pub stop : (stop : Stop) → StopsFirst M t (octet_bits (take (most_of room) (drop count left))) stop → (k ≤ 1) ⊎ (8 * k ≤ stop.end + 7)

    took : (left : List ℕ) (count : ℕ) → left_with octet inner ≡ Some (drop count left) → (o : Option ℕ) → octet_new ≡ o → Took left count
    took left count is None none =
        let a = answers (drop count left) is in
        record { k = a.count; inside = a.takes.inside; is = inner_is type octet_new inner_new _ none a.takes.rest; value = a.takes.value; stop = λ stop stops. inr (a.takes.stop stop stops) }
    took left count is (Some b) some =
        let one = held (drop count left) is b some in
        record { k = 1; inside = one.0; is = one.1; value = λ v begins. omega (arith, complete-some M t v begins.value); stop = λ stop stops. inl (omega arith) }

    stops_told : (left : List ℕ) → old ≡ Some left → Here type left h.values octet inner room records → Stops
    stops_told left told here =
        let a = took left here.count (left_here type octet inner (drop here.count left) here.alone here.rest) octet_new refl in
        let inside : here.count + a.k ≤ length left = omega (arith, a.inside, here.begin.inside, length-drop here.count left) in
        let taken = takes_first left (here.count + a.k) inner_new inside (a.is ∙ ap (λ xs. Some xs) (drop-drop a.k here.count left)) in
        elim (halts left h.values here.count room a.k here.begin here.few (omega (arith, here.room_left)) a.value) [
          | inl cut ↦ inl (subst (λ o. ReadsNext type o inner_new h.text) (sym told) (here.count + a.k, taken, (h.values, here.count, cut, h.documents)))
          | inr (v, is_in, begin) ↦ inr (
            v,
            record {
              values = h.values;
              in_type = all_more type h.values v h.in_type is_in;
              documents = h.documents;
              taken = λ octets is.
                  let same : left ≡ octets = (let e : Some left ≡ Some octets = sym told ∙ is in cc) in
                  (here.count + a.k, subst (λ xs. BeginWith M t (take each_limit xs) (h.values ++ v ∷ []) (here.count + a.k)) same begin, subst (λ o. TakesFirst o inner_new (here.count + a.k)) (sym told) taken);
            },
          )
        ]

    -- OUT OF MEMORY, WHILE IT IS READ: the octets of the records so far were taken, and a part of the next or just the whole of it
    pub stops : Stops
    stops = by old refl
      where
        by : (o : Option (List ℕ)) → old ≡ o → Stops
        by None e = inl (subst (λ o. ReadsNext type o inner_new h.text) (sym e) (h.values, h.in_type, h.documents))
        by (Some left) e = stops_told left e (h.told left e)

    -- THE SOURCE FAILED: no further record is whole among the octets taken
    pub fails : answer ≡ Err record_error.Failed → octet_new ≡ None → ReadsNext type old inner_new h.text
    fails err none = by old refl
      where
        by : (o : Option (List ℕ)) → old ≡ o → ReadsNext type old inner_new h.text
        by None e = subst (λ o. ReadsNext type o inner_new h.text) (sym e) (h.values, h.in_type, h.documents)
        by (Some left) e =
            let here = h.told left e in
            let a = subst (AnswersNext M t (one_more records) room (drop here.count left) (left_with octet_new inner_new)) err (answers (drop here.count left) (left_here type octet inner (drop here.count left) here.alone here.rest)) in
            let inside : here.count + a.count ≤ length left = omega (arith, a.takes.inside, here.begin.inside, length-drop here.count left) in
            let whole : min each_limit (here.count + a.count) ≡ here.count + a.count = omega (arith, a.takes.limited, here.room_left) in
            let cut = cut_at_failure M t of.is_module of.is_bounded of.within left h.values here.count a.count here.begin a.says in
            let taken = takes_first left (here.count + a.count) inner_new inside (inner_is type octet_new inner_new _ none a.takes.rest ∙ ap (λ xs. Some xs) (drop-drop a.count here.count left)) in
            subst (λ o. ReadsNext type o inner_new h.text) (sym e) (here.count + a.count, taken, (h.values, here.count, subst (λ n. IsCut M t (take n left) h.values here.count) (sym whole) cut, h.documents))

    -- OF OCTETS WITH A FIRST FAULT none was taken behind what shows it
    takes_told : (left : List ℕ) (here : Here type left h.values octet inner room records) (a : Took left here.count) (vs : List (Rose ValueLabel)) (n : ℕ) → IsCut M t (take each_limit left) vs n
        → (stop : Stop) → StopsFirst M t (within M t (length vs + 1) (each_limit - n) (drop n left)) stop
        → (here.count + a.k ≤ n + 1) ⊎ (8 * (here.count + a.k) ≤ 8 * n + stop.end + 7)
    takes_told left here a vs n cut stop stops =
        let front = begin_front M t left h.values here.count each_limit here.begin here.few in
        elim (cases_lt (length h.values) (length vs)) [
          | inl less ↦ let r = next_fits (take each_limit left) h.values vs here.count n front cut.begin less in
              let behind : drop here.count (take each_limit left) ≡ take (each_limit - here.count) (drop here.count left) = (let joined : each_limit ≡ here.count + (each_limit - here.count) = omega (arith, here.few) in ap (λ m. drop here.count (take m left)) joined ∙ drop-take here.count (each_limit - here.count) left) in
              let beyond = begins_beyond M t (drop here.count left) r.0 (each_limit - here.count) (subst (λ xs. Begins M t (octet_bits xs) r.0) behind r.3) in
              let fits : length (complete M t r.0) ≤ 8 * most_of room = omega (arith, beyond.1, r.2.1, here.room_left) in
              let least = a.value r.0 (begins_within M t (drop here.count left) r.0 (most_of room) fits beyond.0) in
              inl (omega (arith, least, r.4, r.5))
          | inr over ↦ let same = as_many M t of.is_module of.is_bounded of.within (take each_limit left) h.values vs here.count n front cut.begin (omega (arith, over, cut.longest h.values here.count front)) in
              let room_is : each_limit - here.count ≡ room = omega (arith, here.room_left) in
              let here_stops = subst (λ m. StopsFirst M t (octet_bits (take (most_of (each_limit - m)) (drop m left))) stop) (sym same.1) stops in
              elim (a.stop stop (subst (λ r. StopsFirst M t (octet_bits (take (most_of r) (drop here.count left))) stop) room_is here_stops)) [
                | inl one ↦ inl (omega (arith, one, same.1))
                | inr most ↦ inr (omega (arith, most, same.1))
              ]
        ]

    pub takes_records : TakesRecords type old inner_new
    takes_records left told vs n cut stop stops =
        let here = h.told left told in
        let a = took left here.count (left_here type octet inner (drop here.count left) here.alone here.rest) octet_new refl in
        let inside : here.count + a.k ≤ length left = omega (arith, a.inside, here.begin.inside, length-drop here.count left) in
        let taken = takes_first left (here.count + a.k) inner_new inside (a.is ∙ ap (λ xs. Some xs) (drop-drop a.k here.count left)) in
        (here.count + a.k, subst (λ o. TakesFirst o inner_new (here.count + a.k)) (sym told) taken, takes_told left here a vs n cut stop stops)

  -- WHILE ITS DOCUMENT IS MADE AND WRITTEN: just its octets and those of the records so far were taken
  module _ (old : Option (List ℕ)) (octet : Option ℕ) (inner : Option (List ℕ)) (room records turn : ℕ) (wrote wrote_now : Option (List ℕ)) (h : SoFar type old octet inner room records turn wrote wrote_now)
      (octet_new : Option ℕ) (inner_new : Option (List ℕ)) (answer : Answer)
      (answers : (left : List ℕ) → left_with octet inner ≡ Some left → AnswersNext M t (one_more records) room left (left_with octet_new inner_new) answer)
      (v : Rose ValueLabel) (ok : answer ≡ Ok (Some v)) (in_type : In M t v) (room_new records_new : ℕ) (counted : records_new ≡ one_more records)
      (octets_of : (left : List ℕ) → left_with octet inner ≡ Some left → 8 * room ≡ 8 * room_new + length (complete M t v))
      (alone : (left : List ℕ) → left_with octet inner ≡ Some left → octet_new ≡ None) where
    pub holds : HoldsNext type old inner_new h.text v
    holds = record {
      values = h.values;
      in_type = all_more type h.values v h.in_type in_type;
      documents = h.documents;
      taken = λ octets is.
          let n = next_here type old octet inner room records turn wrote wrote_now h octet_new inner_new answer answers v ok in_type room_new records_new counted octets_of alone octets is in
          (n.count, begin_front M t octets (h.values ++ v ∷ []) n.count each_limit n.begin n.few, subst (λ o. TakesFirst o inner_new n.count) (sym is) (takes_first octets n.count inner_new n.begin.inside n.rest));
    }

    -- of it the output received a front
    pub front_written : (doc : List ℕ) (wrote_new : Option (List ℕ)) → AppendsFront wrote_now wrote_new doc
        → (n : ℕ) × (n ≤ length doc) × Appends wrote wrote_new (h.text ++ take n doc)
    front_written doc wrote_new (n, few, appends) = (n, few, appends_more wrote wrote_now wrote_new h.text (take n doc) h.appended appends)

-- ---- what the loop keeps beside: the room of the output, and that the documents are read back

pub leaves_more : (a b c : Option ℕ) (m n : ℕ) → LeavesRoom a b m → LeavesRoom b c n → LeavesRoom a c (m + n)
leaves_more None b c m n h k = tt
leaves_more (Some room) b c m n (few, is) k =
    let then_ = subst (λ o. LeavesRoom o c n) is k in
    let same : room - m - n ≡ room - (m + n) = omega arith in
    (omega (arith, few, then_.0), then_.1 ∙ ap (λ x. Some x) same)

pub lacks_more : (a b : Option ℕ) (m n : ℕ) → LeavesRoom a b m → LacksRoom b n → LacksRoom a (m + n)
lacks_more None b m n h k = tt
lacks_more (Some room) b m n (few, is) k = let less = subst (λ o. LacksRoom o n) is k in omega (arith, few, less)

pub back_more : (opened : SetParts × ℕ) (type : RootType) (vs : List (Rose ValueLabel)) (v : Rose ValueLabel) (text doc : List ℕ) → AreBack opened type vs text → IsBack opened type v doc
    → AreBack opened type (vs ++ v ∷ []) (text ++ doc)
back_more opened type [] v text doc e one = (doc, [], one, refl, ap (λ xs. xs ++ doc) e ∙ sym (append-nil doc))
back_more opened type (u ∷ us) v text doc (first, rest, own, others, e) one =
    (first, rest ++ doc, own, back_more opened type us v rest doc others one, ap (λ xs. xs ++ doc) e ∙ append_assoc first rest doc)

pub no_room_taken : (a : Option ℕ) → LeavesRoom a a 0
no_room_taken None = tt
no_room_taken (Some room) = (omega arith, ap (λ x. Some x) (omega arith))
