-- Records that were written so far, the next of them, and how they end.
use Rattle.std.proofs.Common.{◌≡◌, ℕ, ◌+◌, ◌-◌, ◌*◌, ◌<◌, ◌≤◌, List, [], ◌∷◌, ◌++◌, length, drop, refl, sym, ap, ◌∙◌, subst, inl, inr, arith, append_assoc, length-append, Option, Some, None, Ok, Err}
use Rattle.std.specs.Io.KnownBytes.{Appends}
use Rattle.std.proofs.lemmas.List.{append-nil, drop-drop}
use Rattle.base_texts.specs.Faults.{one_more}
use Rattle.base_trees.specs.Rose.{Rose}
use Rattle.simple_types.specs.declared.labels.ValueLabel.{ValueLabel}
use Rattle.asn_types.specs.declared.modules.Assignment.{Assignment}
use Rattle.asn_values.specs.Values.{In}
use Rattle.per_fields.specs.declared.stops.Stop.{Stop}
use Rattle.per_fields.specs.declared.stops.Why.{Why}
use Rattle.per_fields.specs.Codec.{AllOf}
use Rattle.per_fields.specs.Encoding.{complete}
use Rattle.per_fields.specs.Stopping.{StopsFirst}
use Rattle.record_stream.specs.declared.errors.RecordError.{RecordError}
use Rattle.record_stream.specs.declared.errors.RecordError.TheVariants as record_error
use Rattle.record_stream.specs.Heads.{left_with}
use Rattle.record_stream.specs.Cuts.{BeginWith}
use Rattle.record_stream.specs.Next.{AnswersNext, Answer, IsDue, within, fault_of, most_of}
use Rattle.record_stream.proofs.Cutting.{begin_more, few_values}
use Rattle.record_stream.proofs.Ending.{cut_at_end, cut_at_stop}
use Rattle.schema_components.specs.Components.{Set}
use Rattle.transcode_words.specs.declared.outcome.Outcome.TheVariants.{Done, TooLong}
use Rattle.transcode_core.specs.Steps.{RootType, IsTypeOf, Written}
use Rattle.transcode_core.specs.Each.{each_limit, Documents, outcome_of, EndsAs, EachDue, IsOfRecords}

-- ---- bytes, one piece after another

pub appends_more : (a b c : Option (List ℕ)) (xs ys : List ℕ) → Appends a b xs → Appends b c ys → Appends a c (xs ++ ys)
appends_more None b c xs ys h k = tt
appends_more (Some us) None c xs ys h k = absurd h
appends_more (Some us) (Some bs) None xs ys h k = absurd k
appends_more (Some us) (Some bs) (Some cs) xs ys h k = k ∙ ap (λ zs. zs ++ ys) h ∙ append_assoc us xs ys

module _ (type : RootType) where
  abbrev M : List Assignment
  M = type.assignments

  abbrev t : ℕ
  t = type.number

  -- one document more
  pub documents_more : (vs : List (Rose ValueLabel)) (v : Rose ValueLabel) (text doc : List ℕ) → Documents type vs text → Written type v (Ok doc) → Documents type (vs ++ v ∷ []) (text ++ doc)
  documents_more [] v text doc e w = (doc, [], w, refl, ap (λ xs. xs ++ doc) e ∙ sym (append-nil doc))
  documents_more (u ∷ us) v text doc (first, rest, own, others, e) w =
      (first, rest ++ doc, own, documents_more us v rest doc others w, ap (λ xs. xs ++ doc) e ∙ append_assoc first rest doc)

  pub all_more : (vs : List (Rose ValueLabel)) (v : Rose ValueLabel) → AllOf (In M t) vs → In M t v → AllOf (In M t) (vs ++ v ∷ [])
  all_more [] v h i = (i, tt)
  all_more (u ∷ us) v h i = (h.0, all_more us v h.1 i)

  -- where the octets are known: exactly those of the records so far were taken
  pub record Here (left : List ℕ) (values : List (Rose ValueLabel)) (octet : Option ℕ) (inner : Option (List ℕ)) (room records : ℕ) : Type 0 where
    pub count : ℕ
    pub begin : BeginWith M t left values count
    pub rest : inner ≡ Some (drop count left)
    pub alone : octet ≡ None
    pub few : count ≤ each_limit
    pub room_left : room + count ≡ each_limit
    pub numbered : records ≡ length values

  -- the values of this number of records, whose documents were written
  pub record SoFar (old : Option (List ℕ)) (octet : Option ℕ) (inner : Option (List ℕ)) (room records turn : ℕ) (wrote wrote_now : Option (List ℕ)) : Type 0 where
    pub values : List (Rose ValueLabel)
    pub text : List ℕ
    pub in_type : AllOf (In M t) values
    pub documents : Documents type values text
    pub appended : Appends wrote wrote_now text
    pub turns : length values ≡ turn
    pub told : (left : List ℕ) → old ≡ Some left → Here left values octet inner room records

  -- what is left after an octet that is held, where none is held
  pub left_here : (octet : Option ℕ) (inner : Option (List ℕ)) (left : List ℕ) → octet ≡ None → inner ≡ Some left → left_with octet inner ≡ Some left
  left_here octet inner left alone is = ap (λ o. left_with o inner) alone ∙ ap (left_with None) is

  pub inner_is : (octet : Option ℕ) (inner : Option (List ℕ)) (left : List ℕ) → octet ≡ None → left_with octet inner ≡ Some left → inner ≡ Some left
  inner_is octet None left alone is = let e : None ≡ Some left = sym (ap (λ o. left_with o None) alone) ∙ is in absurd cc
  inner_is octet (Some xs) left alone is = sym (ap (λ o. left_with o (Some xs)) alone) ∙ is

  module _ (old : Option (List ℕ)) (octet : Option ℕ) (inner : Option (List ℕ)) (room records turn : ℕ) (wrote wrote_now : Option (List ℕ)) (h : SoFar old octet inner room records turn wrote wrote_now)
      (octet_new : Option ℕ) (inner_new : Option (List ℕ)) (answer : Answer)
      (answers : (left : List ℕ) → left_with octet inner ≡ Some left → AnswersNext M t (one_more records) room left (left_with octet_new inner_new) answer) where
    module _ (left : List ℕ) (is : old ≡ Some left) where
      pub here : Here left h.values octet inner room records
      here = h.told left is

      -- what is left of them
      abbrev others : List ℕ
      others = drop (h.told left is).count left

      pub others_left : left_with octet inner ≡ Some (drop here.count left)
      others_left = left_here octet inner (drop here.count left) here.alone here.rest

      pub next : AnswersNext M t (one_more records) room (drop here.count left) (left_with octet_new inner_new) answer
      next = answers (drop here.count left) others_left

      pub few_records : length h.values ≤ each_limit
      few_records = omega (arith, few_values M t left h.values here.count here.begin, here.few)

      number_is : one_more records ≡ length h.values + 1
      number_is = omega (arith, here.numbered, few_records)

      pub room_is : room ≡ each_limit - here.count
      room_is = omega (arith, here.room_left)

    -- ONE MORE RECORD
    module _ (v : Rose ValueLabel) (ok : answer ≡ Ok (Some v)) (in_type : In M t v) (room_new records_new : ℕ) (counted : records_new ≡ one_more records)
        (octets : (left : List ℕ) → left_with octet inner ≡ Some left → 8 * room ≡ 8 * room_new + length (complete M t v))
        (alone : (left : List ℕ) → left_with octet inner ≡ Some left → octet_new ≡ None) where
      pub next_here : (left : List ℕ) → old ≡ Some left → Here left (h.values ++ v ∷ []) octet_new inner_new room_new records_new
      next_here left is =
          let here_now = here left is in
          let a = subst (AnswersNext M t (one_more records) room (drop here_now.count left) (left_with octet_new inner_new)) ok (next left is) in
          let long = octets (drop here_now.count left) (others_left left is) in
          let none = alone (drop here_now.count left) (others_left left is) in
          let small : most_of room ≤ 16777216 = omega arith in
          record {
            count = here_now.count + a.count;
            begin = begin_more M t left h.values here_now.count v (most_of room) a.count here_now.begin small a.says.0 a.says.1;
            rest = inner_is octet_new inner_new _ none a.takes.rest ∙ ap (λ xs. Some xs) (drop-drop a.count here_now.count left);
            alone = none;
            few = omega (arith, a.takes.limited, here_now.room_left);
            room_left = omega (arith, here_now.room_left, long, a.says.1);
            numbered = counted ∙ number_is left is ∙ sym (length-append h.values (v ∷ []));
          }

    -- THE END
    module _ {set : Set} {root : ℕ} (of : IsTypeOf set root type) where
      pub due_done : answer ≡ Ok None → EachDue type old Done h.text
      due_done ok = by old refl
        where
          by : (o : Option (List ℕ)) → old ≡ o → EachDue type o Done h.text
          by None e = (h.values, h.in_type, h.documents, tt)
          by (Some left) e =
              let n = here left e in
              let a = subst (AnswersNext M t (one_more records) room (drop n.count left) (left_with octet_new inner_new)) ok (next left e) in
              (h.values, n.count, cut_at_end M t of.is_module of.is_bounded of.within left h.values n.count each_limit n.begin n.few a.says.0, a.says.0, h.documents)

      -- a fault of the next record
      abbrev pub IsFault : RecordError → Type 0
      IsFault (record_error.Bad number bit why) = Unit {0}
      IsFault record_error.TooLong = Unit {0}
      IsFault e = ⊥

      abbrev Stopped : List ℕ → RecordError → Type 0
      Stopped rest e = (0 < length rest) × ((stop : Stop) × StopsFirst M t (within M t (one_more records) room rest) stop × (outcome_of e ≡ outcome_of (fault_of M t (one_more records) room rest stop)))

      bad_is : (rest : List ℕ) (number bit : ℕ) (why : Why) (stop : Stop) → IsDue M t (one_more records) room rest (Err (fault_of M t (one_more records) room rest stop)) (Err (record_error.Bad number bit why))
          → record_error.Bad number bit why ≡ fault_of M t (one_more records) room rest stop
      bad_is rest number bit why stop (inl e) = cc
      bad_is rest number bit why stop (inr (inl e)) = absurd cc
      bad_is rest number bit why stop (inr (inr e)) = absurd cc

      long_is : (rest : List ℕ) (stop : Stop) → IsDue M t (one_more records) room rest (Err (fault_of M t (one_more records) room rest stop)) (Err record_error.TooLong)
          → record_error.TooLong ≡ fault_of M t (one_more records) room rest stop
      long_is rest stop (inl e) = cc
      long_is rest stop (inr (inl e)) = absurd cc
      long_is rest stop (inr (inr e)) = absurd cc

      stopped_at : (rest : List ℕ) (e : RecordError) → IsFault e → AnswersNext M t (one_more records) room rest (left_with octet_new inner_new) (Err e) → Stopped rest e
      stopped_at rest (record_error.Bad number bit why) fault a =
          (a.says.0, (a.says.2, a.says.3, ap outcome_of (bad_is rest number bit why a.says.2 (a.stop a.says.0 a.says.2 a.says.3))))
      stopped_at rest record_error.TooLong fault a = (a.says.0, (a.says.1, a.says.2, ap outcome_of (long_is rest a.says.1 (a.stop a.says.0 a.says.1 a.says.2))))
      stopped_at rest record_error.Failed fault a = absurd fault
      stopped_at rest record_error.Memory fault a = absurd fault

      moved : (left : List ℕ) (number count : ℕ) (e : RecordError) → one_more records ≡ number + 1 → room ≡ each_limit - count
          → (stop : Stop) × StopsFirst M t (within M t (one_more records) room (drop count left)) stop × (outcome_of e ≡ outcome_of (fault_of M t (one_more records) room (drop count left) stop))
          → (stop : Stop) × StopsFirst M t (within M t (number + 1) (each_limit - count) (drop count left)) stop × (outcome_of e ≡ outcome_of (fault_of M t (number + 1) (each_limit - count) (drop count left) stop))
      moved left number count e num rm s = (
        s.0,
        subst (λ r. StopsFirst M t (within M t (number + 1) r (drop count left)) s.0) rm s.1,
        s.2 ∙ ap (λ n. outcome_of (fault_of M t n room (drop count left) s.0)) num ∙ ap (λ r. outcome_of (fault_of M t (number + 1) r (drop count left) s.0)) rm,
      )

      ends_at : (left : List ℕ) (number count : ℕ) (e : RecordError) → IsFault e → one_more records ≡ number + 1 → room ≡ each_limit - count → Stopped (drop count left) e → EndsAs type left number count (outcome_of e)
      ends_at left number count (record_error.Bad n bit why) fault num rm s = (s.0, moved left number count (record_error.Bad n bit why) num rm s.1)
      ends_at left number count record_error.TooLong fault num rm s = (s.0, moved left number count record_error.TooLong num rm s.1)
      ends_at left number count record_error.Failed fault num rm s = absurd fault
      ends_at left number count record_error.Memory fault num rm s = absurd fault

      of_records : (e : RecordError) → IsFault e → IsOfRecords (outcome_of e)
      of_records (record_error.Bad n bit why) fault = tt
      of_records record_error.TooLong fault = tt
      of_records record_error.Failed fault = absurd fault
      of_records record_error.Memory fault = absurd fault

      pub due_stopped : (e : RecordError) → IsFault e → answer ≡ Err e → EachDue type old (outcome_of e) h.text
      due_stopped e fault err = by old refl
        where
          by : (o : Option (List ℕ)) → old ≡ o → EachDue type o (outcome_of e) h.text
          by None is = (h.values, h.in_type, h.documents, of_records e fault)
          by (Some left) is =
              let n = here left is in
              let a = subst (AnswersNext M t (one_more records) room (drop n.count left) (left_with octet_new inner_new)) err (next left is) in
              let s = stopped_at (drop n.count left) e fault a in (
                h.values,
                n.count,
                cut_at_stop M t of.is_module of.is_bounded of.within left h.values n.count each_limit n.begin n.few room s.1.0 (room_is left is) s.1.1,
                ends_at left (length h.values) n.count e fault (number_is left is) (room_is left is) s,
                h.documents,
              )

  -- more records than octets
  pub due_over : (old : Option (List ℕ)) (octet : Option ℕ) (inner : Option (List ℕ)) (room records turn : ℕ) (wrote wrote_now : Option (List ℕ)) → (h : SoFar old octet inner room records turn wrote wrote_now)
      → each_limit < turn → EachDue type old (TooLong 0) h.text
  due_over old octet inner room records turn wrote wrote_now h many = by old refl
    where
      by : (o : Option (List ℕ)) → old ≡ o → EachDue type o (TooLong 0) h.text
      by None e = (h.values, h.in_type, h.documents, tt)
      by (Some left) e = let n = h.told left e in absurd (omega (arith, many, h.turns, few_values M t left h.values n.count n.begin, n.few))
