-- What the loop keeps, and its ends.
use Rattle.std.proofs.Common.{◌≡◌, ◌⊎◌, ℕ, ◌+◌, ◌*◌, ◌<◌, ◌≤◌, List, [], ◌∷◌, ◌++◌, length, drop, refl, sym, subst, inl, inr, arith, length-append, Option, Some, None, Ok, Err}
use Rattle.std.specs.Io.KnownBytes.{Appends}
use Rattle.std.proofs.lemmas.List.{append-nil}
use Rattle.record_stream.proofs.Cutting.{begin_none, few_values}
use Rattle.base_texts.specs.Faults.{HasRisen, one_more}
use Rattle.base_texts.specs.Bytes.{AppendsFront, LeavesRoom, LacksRoom}
use Rattle.base_trees.specs.Rose.{Rose}
use Rattle.simple_types.specs.declared.labels.ValueLabel.{ValueLabel}
use Rattle.asn_values.specs.Values.{In}
use Rattle.per_fields.specs.Encoding.{complete}
use Rattle.record_stream.specs.declared.errors.RecordError.{RecordError}
use Rattle.record_stream.specs.declared.errors.RecordError.TheVariants as record_error
use Rattle.record_stream.specs.Heads.{left_with}
use Rattle.record_stream.specs.Next.{AnswersNext, Answer}
use Rattle.schema_components.specs.Components.{Set}
use Rattle.schema_components.specs.SetParts.{SetParts}
use Rattle.transcode_words.specs.declared.outcome.Outcome.{Outcome}
use Rattle.transcode_words.specs.declared.outcome.Outcome.TheVariants.{Done, TooLong, WriteFault, OutOfMemory}
use Rattle.transcode_core.specs.Steps.{RootType, IsTypeOf, Written}
use Rattle.transcode_core.specs.Each.{each_limit, outcome_of}
use Rattle.transcode_core.specs.Requests.Answers.{IsBack, AreBack, AreRecords, TakesRecords}
use Rattle.transcode_core.specs.Requests.Records.{ReadsAsRecords, EndsRecords}
use Rattle.transcode_core.proofs.Eaching.{appends_more, all_more, documents_more, Here, SoFar, next_here, due_done, due_stopped, due_over}
use Rattle.transcode_core.proofs.Requests.Streaming.{stops, fails, takes_records, holds, front_written, leaves_more, lacks_more, back_more, no_room_taken}

-- the values so far
first_records : (type : RootType) (old : Option (List ℕ)) (octet : Option ℕ) (inner : Option (List ℕ)) (room records turn : ℕ) (wrote wrote_now : Option (List ℕ))
    (h : SoFar type old octet inner room records turn wrote wrote_now) (o : Option (List ℕ)) → old ≡ o → AreRecords type o h.values
first_records type old octet inner room records turn wrote wrote_now h None e = h.in_type
first_records type old octet inner room records turn wrote wrote_now h (Some left) e = let n = h.told left e in (n.count, n.begin)

module _ (opened : SetParts × ℕ) (type : RootType) where
  -- THE INVARIANT: the records so far, that their documents are read back, and the room that these took
  abbrev pub Kept : Option (List ℕ) → Option ℕ → Option (List ℕ) → ℕ → ℕ → ℕ → Option (List ℕ) → Option (List ℕ) → Option ℕ → Option ℕ → Type 0
  Kept old octet inner room records turn wrote wrote_now free free_now =
      (h : SoFar type old octet inner room records turn wrote wrote_now) × AreBack opened type h.values h.text × LeavesRoom free free_now (length h.text)

  pub kept_none : (old : Option (List ℕ)) (octet : Option ℕ) (room records : ℕ) (wrote : Option (List ℕ)) (free : Option ℕ) → octet ≡ None → room ≡ each_limit → records ≡ 0
      → Kept old octet old room records 0 wrote wrote free free
  kept_none old octet room records wrote free alone all none =
      (record { values = []; text = []; in_type = tt; documents = refl; appended = nothing wrote; turns = refl; told = λ left is. told_none left is }, refl, no_room_taken free)
    where
      nothing : (w : Option (List ℕ)) → Appends w w []
      nothing None = tt
      nothing (Some xs) = sym (append-nil xs)

      told_none : (left : List ℕ) → old ≡ Some left → Here type left [] octet old room records
      told_none left is = record { count = 0; begin = begin_none type.assignments type.number left; rest = is; alone = alone; few = omega arith; room_left = omega (arith, all); numbered = none }

  module _ {s : Set} {root : ℕ} (of : IsTypeOf s root type) (old : Option (List ℕ)) (octet : Option ℕ) (inner : Option (List ℕ)) (room records turn : ℕ) (wrote wrote_now : Option (List ℕ)) (free free_now : Option ℕ)
      (k : Kept old octet inner room records turn wrote wrote_now free free_now)
      (octet_new : Option ℕ) (inner_new : Option (List ℕ)) (answer : Answer)
      (answers : (left : List ℕ) → left_with octet inner ≡ Some left → AnswersNext type.assignments type.number (one_more records) room left (left_with octet_new inner_new) answer)
      (reads reads_now writes writes_now : ℕ) where
    abbrev h : SoFar type old octet inner room records turn wrote wrote_now
    h = k.0

    abbrev Ended : Option (List ℕ) → Option ℕ → Outcome → Type 0
    Ended wrote_new free_new o = EndsRecords opened type (record { left = old; written = wrote; room = free; read_faults = reads; write_faults = writes })
        (record { left = inner_new; written = wrote_new; room = free_new; read_faults = reads_now; write_faults = writes_now }) o

    is_read : ReadsAsRecords opened type old h.text
    is_read = (h.values, first_records type old octet inner room records turn wrote wrote_now h old refl, k.1)

    -- one more record
    module _ (v : Rose ValueLabel) (ok : answer ≡ Ok (Some v)) (in_type : In type.assignments type.number v) (room_new records_new : ℕ) (counted : records_new ≡ one_more records)
        (octets_of : (left : List ℕ) → left_with octet inner ≡ Some left → 8 * room ≡ 8 * room_new + length (complete type.assignments type.number v))
        (alone : (left : List ℕ) → left_with octet inner ≡ Some left → octet_new ≡ None) where
      pub kept_more : (doc : List ℕ) (wrote_new : Option (List ℕ)) (free_new : Option ℕ) → Written type v (Ok doc) → IsBack opened type v doc → Appends wrote_now wrote_new doc → LeavesRoom free_now free_new (length doc)
          → Kept old octet_new inner_new room_new records_new (turn + 1) wrote wrote_new free free_new
      kept_more doc wrote_new free_new written back appended leaves = (
        record {
          values = h.values ++ v ∷ [];
          text = h.text ++ doc;
          in_type = all_more type h.values v h.in_type in_type;
          documents = documents_more type h.values v h.text doc h.documents written;
          appended = appends_more wrote wrote_now wrote_new h.text doc h.appended appended;
          turns = omega (arith, length-append h.values (v ∷ []), h.turns);
          told = next_here type old octet inner room records turn wrote wrote_now h octet_new inner_new answer answers v ok in_type room_new records_new counted octets_of alone;
        },
        back_more opened type h.values v h.text doc k.1 back,
        subst (LeavesRoom free free_new) (sym (length-append h.text doc)) (leaves_more free free_now free_new (length h.text) (length doc) k.2 leaves),
      )

      records_more : (o : Option (List ℕ)) → old ≡ o → AreRecords type o (h.values ++ v ∷ [])
      records_more None e = all_more type h.values v h.in_type in_type
      records_more (Some left) e =
          let n = next_here type old octet inner room records turn wrote wrote_now h octet_new inner_new answer answers v ok in_type room_new records_new counted octets_of alone left e in
          (n.count, n.begin)

      -- its document was not written whole
      pub unwritten : (wrote_new : Option (List ℕ)) (free_new : Option ℕ) (o : Outcome)
          → ((o ≡ OutOfMemory) × (wrote_new ≡ wrote_now))
          ⊎ ((o ≡ WriteFault) × HasRisen writes writes_now × ((doc : List ℕ) × Written type v (Ok doc) × IsBack opened type v doc × AppendsFront wrote_now wrote_new doc × LacksRoom free_now (length doc)))
          → Ended wrote_new free_new o
      unwritten wrote_new free_new o (inl (memory, same)) =
          subst (Ended wrote_new free_new) (sym memory)
          (h.text, inr (v, holds type of old octet inner room records turn wrote wrote_now h octet_new inner_new answer answers v ok in_type room_new records_new counted octets_of alone), is_read, subst (λ w. Appends wrote w h.text) (sym same) h.appended)
      unwritten wrote_new free_new o (inr (write, rose, (doc, written, back, appends, lacks))) =
          let held = holds type of old octet inner room records turn wrote wrote_now h octet_new inner_new answer answers v ok in_type room_new records_new counted octets_of alone in
          let front = front_written type of old octet inner room records turn wrote wrote_now h octet_new inner_new answer answers v ok in_type room_new records_new counted octets_of alone doc wrote_new appends in
          subst (Ended wrote_new free_new) (sym write) (
            rose,
            (
              h.text,
              doc,
              v,
              held,
              written,
              (h.values ++ v ∷ [], records_more old refl, back_more opened type h.values v h.text doc k.1 back),
              lacks_more free free_now (length h.text) (length doc) k.2 lacks,
              front,
            ),
          )

    -- the end of the input
    pub at_end : answer ≡ Ok None → Ended wrote_now free_now Done
    at_end ok = (h.text, due_done type old octet inner room records turn wrote wrote_now h octet_new inner_new answer answers of ok, is_read, h.appended)

    -- no next record
    pub no_next : (held : (left : List ℕ) → left_with octet inner ≡ Some left → (b : ℕ) → octet_new ≡ Some b → (1 ≤ length left) × (inner_new ≡ Some (drop 1 left)))
        (e : RecordError) → answer ≡ Err e → (let r : Answer = Err e in r ≡ Err record_error.Failed → octet_new ≡ None)
        → (let r : Answer = Err e in r ≡ Err record_error.Failed → HasRisen reads reads_now) → Ended wrote_now free_now (outcome_of e)
    no_next held (record_error.Bad n bit why) err none rose =
        (h.text, due_stopped type old octet inner room records turn wrote wrote_now h octet_new inner_new answer answers of (record_error.Bad n bit why) tt err, is_read, h.appended)
    no_next held record_error.TooLong err none rose =
        (h.text, due_stopped type old octet inner room records turn wrote wrote_now h octet_new inner_new answer answers of record_error.TooLong tt err, is_read, h.appended)
    no_next held record_error.Failed err none rose =
        (rose refl, (h.text, fails type of old octet inner room records turn wrote wrote_now h octet_new inner_new answer answers held err (none refl), is_read, h.appended))
    no_next held record_error.Memory err none rose =
        (h.text, stops type of old octet inner room records turn wrote wrote_now h octet_new inner_new answer answers held, is_read, h.appended)

    -- what was taken
    pub took_records : (held : (left : List ℕ) → left_with octet inner ≡ Some left → (b : ℕ) → octet_new ≡ Some b → (1 ≤ length left) × (inner_new ≡ Some (drop 1 left))) → TakesRecords type old inner_new
    took_records held = takes_records type of old octet inner room records turn wrote wrote_now h octet_new inner_new answer answers held

  -- more records than octets
  module _ (old : Option (List ℕ)) (octet : Option ℕ) (inner : Option (List ℕ)) (room records turn : ℕ) (wrote wrote_now : Option (List ℕ)) (free free_now : Option ℕ)
      (k : Kept old octet inner room records turn wrote wrote_now free free_now) (many : each_limit < turn) where
    pub over : (reads reads_now writes writes_now : ℕ) → EndsRecords opened type (record { left = old; written = wrote; room = free; read_faults = reads; write_faults = writes })
        (record { left = inner; written = wrote_now; room = free_now; read_faults = reads_now; write_faults = writes_now }) (TooLong 0)
    over reads reads_now writes writes_now = let h = k.0 in
        (h.text, due_over type old octet inner room records turn wrote wrote_now h many, (h.values, first_records type old octet inner room records turn wrote wrote_now h old refl, k.1), h.appended)

    pub over_taken : TakesRecords type old inner
    over_taken left told vs n cut stop stops = let h = k.0 in
        let n = h.told left told in absurd (omega (arith, many, h.turns, few_values type.assignments type.number left h.values n.count n.begin, n.few))
