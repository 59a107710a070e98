-- A text without faults is ready: a module can be made of it.
use Rattle.std.proofs.Common.{◌≡◌, ℕ, zero, suc, ◌<◌, ◌≤◌, ◌+◌, ◌-◌, ◌⊎◌, inl, inr, Bool, true, false, ◌&&◌, ◌||◌, not, Option, Some, None, List, [], ◌∷◌, ◌++◌, length, refl, sym, ap, subst, ◌∙◌, arith}
use Rattle.std.specs.Prelude.{◌^◌, nat_lt, All, IsUtf8, is_some, slice_index_or, if◌then◌else◌}
use Rattle.std.specs.List.{list_all, filter_map, cons_option}
use Rattle.std.specs.Str.{is_utf8}
use Rattle.std.proofs.lemmas.Str.{IsUtf8-nil}
use Rattle.base_trees.specs.Rose.{Rose, node, Roses, none, more, length_all, label_of}
use Rattle.simple_types.specs.Space.{Space}
use Rattle.asn_names.specs.ReservedWords.{reserved_words}
use Rattle.module_text.specs.declared.marks.NameAs.{NameAs}
use Rattle.module_text.specs.declared.marks.PartMark.{PartMark}
use Rattle.module_text.specs.declared.marks.PartMarkKind.{PartMarkKind}
use Rattle.module_text.specs.declared.marks.PartMarkKind.TheVariants as part_mark
use Rattle.module_text.specs.declared.marks.TypeMark.{TypeMark}
use Rattle.module_text.specs.declared.marks.TypeMarkKind.{TypeMarkKind}
use Rattle.module_text.specs.declared.marks.TypeMarkKind.TheVariants as type_mark
use Rattle.module_text.specs.declared.types.PlainName.{PlainName}
use Rattle.module_text.specs.declared.types.PlainPart.{PlainPart}
use Rattle.module_text.specs.declared.types.PlainForm.{PlainForm}
use Rattle.module_text.specs.declared.types.PlainForm.TheVariants as form
use Rattle.module_text.specs.declared.types.PlainLabel.{PlainLabel}
use Rattle.module_text.specs.declared.modules.PlainAssignment.{PlainAssignment}
use Rattle.module_text.specs.Names.{is_identifier}
use Rattle.module_text.specs.Ranks.{rank_of_part_mark, rank_of_type_mark}
use Rattle.module_text.specs.Texts.{parts_of, text_of, type_text}
use Rattle.module_text.specs.Plain.{IsTypeMark, IsComponent, IsAlternative, IsItem, IsForm, IsName, IsType, AreTypes, IsAssignment, IsPlain}
use Rattle.module_text.proofs.Ascii.{identifier_utf8, reference_utf8}
use Rattle.module_text.specs.declared.reasons.ModuleWhy.TheVariants.{Duplicate, Unresolved, LongChain, Spelling}
use Rattle.module_text.specs.declared.reasons.TextFault.{TextFault}
use Rattle.module_text.specs.declared.spots.Spot.{Spot}
use Rattle.module_text.specs.declared.spots.Spot.TheVariants.{Elsewhere}
use Rattle.module_text.specs.Listed.{unless}
use Rattle.module_text.specs.Told.{Said, said, is_told_so, told_name, words_of, words_said, has_list, has_attribute}
use Rattle.module_text.specs.Resolving.{resolve, chains_end}
use Rattle.module_text.specs.Simple.{is_order_item}
use Rattle.module_text.specs.Marks.{may_name, part_mark_may, part_mark_stands, is_rank, type_mark_may, stands_once, item_number, next_item}
use Rattle.module_text.specs.Faults.{part_mark_faults, type_mark_faults, form_faults, type_faults, part_faults, fixed_faults, absence_faults, space_at, part_spot, is_listed, is_bare, reference_faults, is_named_so, nameless_parts, has_text, word_faults, assignment_faults, faults_from, faults}
use Rattle.module_read.specs.Ready.{IsPartMarkReady, ArePartMarksReady, IsTypeMarkReady, AreTypeMarksReady, HasRoom, HasWords, IsPartReady, IsLabelReady, IsTypeReady, ArePartsReady, IsAssignmentReady, IsReady}
use Rattle.module_text.proofs.PrintedBounds.{unless-none as so, front-none as front, behind-none as behind, and-first, and-second}
use Rattle.module_read.proofs.Names.{told-utf8, xml-utf8}
use Rattle.module_read.proofs.Numbered.{StandOnce, once, ItemsStandOnce, same_number}
use Rattle.module_read.proofs.Worded.{AreSaid, AreNamed, words_utf8, words_count}
use Rattle.module_read.proofs.Standards.{standard_ready}
use Rattle.module_read.proofs.Room.{Fits, AllFit, fits, bodies_short}

-- ---- encoding instructions of parts

part_mark_ready : (simple : Bool) (generated : List ℕ) (kind : PartMarkKind) → IsUtf8 generated → part_mark_may simple generated kind ≡ true → IsPartMarkReady generated kind
part_mark_ready simple generated part_mark.Attribute u e = tt
part_mark_ready simple generated part_mark.Untagged u e = tt
part_mark_ready simple generated (part_mark.Name name) u e = told-utf8 generated name u (and-second _ (is_told_so generated name) e)
part_mark_ready simple generated (part_mark.Namespace space) u e = xml-utf8 space e

part_marks_ready : (simple : Bool) (generated : List ℕ) (before : Option ℕ) (marks : List PartMark) → IsUtf8 generated
    → part_mark_faults simple generated before marks ≡ [] → ArePartMarksReady generated marks
part_marks_ready simple generated before [] u e k d lt = absurd (omega (arith, lt))
part_marks_ready simple generated before (m ∷ ms) u e zero d lt =
    let stands = so (part_mark_stands simple generated before m) m.at Spelling (front (unless (part_mark_stands simple generated before m) m.at Spelling) _ e) in
    part_mark_ready simple generated m.kind u (and-second _ (part_mark_may simple generated m.kind) stands)
part_marks_ready simple generated before (m ∷ ms) u e (suc k) d lt =
    part_marks_ready simple generated (Some (rank_of_part_mark m.kind)) ms u
    (behind (unless (part_mark_stands simple generated before m) m.at Spelling) _ e) k d (omega (arith, lt))

-- ---- encoding instructions of types

module _ (P : List PlainAssignment) (spot : Spot) (l : PlainLabel) (ts : Roses PlainLabel) where
  type_mark_ready : (least : ℕ) (kind : TypeMarkKind) → ItemsStandOnce l.form → IsTypeMark kind → type_mark_may P spot l ts least kind ≡ true → IsTypeMarkReady spot l.form least kind
  type_mark_ready least (type_mark.Text identifier text) once is e = (
    told-utf8 identifier text (identifier_utf8 identifier is) (and-second (is_some (item_number spot l.form least identifier)) (is_told_so identifier text) e),
    same_number spot l.form least identifier once (and-first (is_some (item_number spot l.form least identifier)) (is_told_so identifier text) e),
  )
  type_mark_ready least kind once is e = tt

  type_marks_ready : (before : Option ℕ) (least : ℕ) (marks : List TypeMark) → ItemsStandOnce l.form → All (λ (m : TypeMark). IsTypeMark m.kind) marks
      → type_mark_faults P spot l ts before least marks ≡ [] → AreTypeMarksReady spot l.form least marks
  type_marks_ready before least [] once are e = tt
  type_marks_ready before least (m ∷ ms) once are e =
      let first = stands_once before (rank_of_type_mark m.kind) in
      let second = type_mark_may P spot l ts least m.kind in
      let both = so (first && second) m.at Spelling (front (unless (first && second) m.at Spelling) _ e) in (
        type_mark_ready least m.kind once (are zero m (omega arith)) (and-second first second both),
        type_marks_ready (Some (rank_of_type_mark m.kind)) (next_item spot l.form least m.kind) ms once (λ k d lt. are (suc k) d (omega (arith, lt)))
            (behind (unless (first && second) m.at Spelling) _ e),
      )

-- ---- words

abbrev said_by : TypeMarkKind → Option Said
said_by kind = elim kind [ type_mark.Text identifier text ↦ Some (record { identifier = identifier; text = text }) | _ ↦ None ]

said_at : (spot : Spot) (f : PlainForm) (least : ℕ) (kind : TypeMarkKind) (texts : List Said)
    → IsTypeMarkReady spot f least kind → AreSaid texts → AreSaid (cons_option (said_by kind) texts)
said_at spot f least (type_mark.Text identifier text) texts ready rest = (ready.0, rest)
said_at spot f least kind texts ready rest = rest

are_said : (spot : Spot) (f : PlainForm) (least : ℕ) (marks : List TypeMark) → AreTypeMarksReady spot f least marks → AreSaid (filter_map said marks)
are_said spot f least [] ready = tt
are_said spot f least (m ∷ ms) ready =
    said_at spot f least m.kind (filter_map said ms) ready.0 (are_said spot f (next_item spot f least m.kind) ms ready.1)

are_named : (is : List PlainName) → All IsName is → AreNamed is
are_named [] are = tt
are_named (i ∷ is) are = (identifier_utf8 i.name (are zero i (omega arith)), are_named is (λ k d lt. are (suc k) d (omega (arith, lt))))

words_ready : (spot : Spot) (f : PlainForm) (marks : List TypeMark) → IsForm f → AreTypeMarksReady spot f 0 marks → HasWords spot marks f
words_ready spot (form.Words identifiers) marks is ready = λ no. words_utf8 identifiers (filter_map said marks) (are_said spot (form.Words identifiers) 0 marks ready) (are_named identifiers is.1)
words_ready spot f marks is ready = tt

items_once : (P : List PlainAssignment) (spot : Spot) (marks : List TypeMark) (f : PlainForm) → form_faults P spot marks f ≡ [] → ItemsStandOnce f
items_once P spot marks (form.Words identifiers) e =
    once (is_order_item spot) [] None identifiers (words_of marks identifiers) (words_count identifiers (filter_map said marks)) e
items_once P spot marks f e = tt

-- ---- parts

abbrev HasUtf8 : PlainPart → Type 0
HasUtf8 part = IsUtf8 part.identifier

item_utf8 : (identifier : List ℕ) → (identifier ≡ []) ⊎ (is_identifier identifier ≡ true) → IsUtf8 identifier
item_utf8 identifier (inl e) = subst IsUtf8 (sym e) IsUtf8-nil
item_utf8 identifier (inr e) = identifier_utf8 identifier e

one_utf8 : (item : PlainPart) → IsUtf8 item.identifier → All HasUtf8 (item ∷ [])
one_utf8 item u zero d lt = u
one_utf8 item u (suc k) d lt = absurd (omega (arith, lt))

parts_utf8 : (f : PlainForm) → IsForm f → All HasUtf8 (parts_of f)
parts_utf8 (form.Sequence components) is = λ k d lt. identifier_utf8 _ (is k d lt).identifier
parts_utf8 (form.Choice alternatives) is = λ k d lt. identifier_utf8 _ (is.1 k d lt).identifier
parts_utf8 (form.SequenceOf size item) is = one_utf8 item (item_utf8 item.identifier is.1.identifier)
parts_utf8 f is = λ k d lt. absurd (omega (arith, lt))

module _ (P : List PlainAssignment) where
  part_ready : (spot : Spot) (part : PlainPart) (t : Rose PlainLabel) → IsUtf8 part.identifier
      → part_mark_faults (is_some (space_at P spot part.marks t)) part.identifier None part.marks ≡ []
      → fixed_faults (space_at P spot part.marks t) part.fixed ≡ []
      → absence_faults (space_at P spot part.marks t) part.fixed (resolve P t) part.absence ≡ []
      → IsPartReady P spot part t
  part_ready spot part t u e f g =
      let standard = standard_ready (space_at P spot part.marks t) (resolve P t) part.fixed part.absence f g in
      record {
        marks = part_marks_ready (is_some (space_at P spot part.marks t)) part.identifier None part.marks u e;
        standard = standard.0;
        meant = standard.1;
      }

  label_ready : (spot : Spot) (l : PlainLabel) (ts : Roses PlainLabel) → IsType (node l ts) → HasRoom l.form
      → type_mark_faults P spot l ts None 0 l.marks ≡ [] → form_faults P spot l.marks l.form ≡ [] → IsLabelReady P spot l ts
  label_ready spot l ts is room e f =
      let marks = type_marks_ready P spot l ts None 0 l.marks (items_once P spot l.marks l.form f) is.0.1 e in
      record {
        room = room;
        words = words_ready spot l.form l.marks is.1 marks;
        marks = marks;
        parts = is.2;
      }

  mutual
    unfolding type_faults part_faults

    type_ready : (spot : Spot) (nameless : Bool) (t : Rose PlainLabel) → IsType t → Fits t → type_faults P spot nameless t ≡ [] → IsTypeReady P spot t
    type_ready spot nameless (node l ts) is room e =
        let first = type_mark_faults P spot l ts None 0 l.marks in
        let second = form_faults P spot l.marks l.form in
        let third = part_faults P spot (has_list l.marks || nameless) l 0 [] (nameless_parts l.marks) (parts_of l.form) ts in (
          label_ready spot l ts is room.0 (front first second (front (first ++ second) third e)) (behind first second (front (first ++ second) third e)),
          parts_ready spot (has_list l.marks || nameless) l 0 [] (nameless_parts l.marks) (parts_of l.form) ts
              (parts_utf8 l.form is.1) is.3 room.1 (behind (first ++ second) third e),
        )

    parts_ready : (spot : Spot) (nameless : Bool) (l : PlainLabel) (i : ℕ) (before : List (List ℕ)) (front_parts : ℕ) (parts : List PlainPart) (ts : Roses PlainLabel)
        → All HasUtf8 parts → AreTypes ts → AllFit ts
        → part_faults P spot nameless l i before front_parts parts ts ≡ [] → ArePartsReady P spot l i parts ts
    parts_ready spot nameless l i before front_parts parts none utf8 are room e = tt
    parts_ready spot nameless l i before front_parts [] (more t ts) utf8 are room e = tt
    parts_ready spot nameless l i before front_parts (part ∷ others) (more t ts) utf8 are room e =
        let inner = part_spot spot l i part in
        let space = space_at P inner part.marks t in
        let f1 = unless (not (is_listed before part.identifier)) part.at Duplicate in
        let f2 : List TextFault = if is_bare part (label_of t) then reference_faults P (label_of t).form else [] in
        let f3 = unless (is_named_so nameless l.form part) part.at Spelling in
        let f4 = part_mark_faults (is_some space) part.identifier None part.marks in
        let f5 = type_faults P inner (nat_lt 0 front_parts) t in
        let f6 = fixed_faults space part.fixed in
        let f7 = absence_faults space part.fixed (resolve P t) part.absence in
        let f8 = part_faults P spot nameless l (i + 1) (before ++ part.identifier ∷ []) (front_parts - 1) others ts in
        let g3 = f1 ++ f2 ++ f3 in
        let g4 = g3 ++ f4 in
        let g5 = g4 ++ f5 in
        let g6 = g5 ++ f6 in
        let g7 = g6 ++ f7 in
        let h7 = front g7 f8 e in
        let h6 = front g6 f7 h7 in
        let h5 = front g5 f6 h6 in
        let h4 = front g4 f5 h5 in (
          part_ready inner part t (utf8 zero part (omega arith)) (behind g3 f4 h4) (behind g5 f6 h6) (behind g6 f7 h7),
          type_ready inner (nat_lt 0 front_parts) t are.0 room.0 (behind g4 f5 h5),
          parts_ready spot nameless l (i + 1) (before ++ part.identifier ∷ []) (front_parts - 1) others ts
              (λ k d lt. utf8 (suc k) d (omega (arith, lt))) are.1 room.1 (behind g7 f8 e),
        )

  assignment_ready : (before : List (List ℕ)) (a : PlainAssignment) → IsAssignment a → Fits a.body → assignment_faults P before a ≡ [] → IsAssignmentReady P a
  assignment_ready before a is room e =
      let f1 = unless (not (has_text before a.reference) && not (has_text reserved_words a.reference)) a.at Duplicate in
      let f2 = unless (chains_end P a.body) a.at LongChain in
      let f3 = part_mark_faults (is_some (space_at P Elsewhere a.marks a.body)) a.reference None a.marks in
      let f4 = type_faults P Elsewhere false a.body in
      let h = front (f1 ++ f2 ++ f3) f4 e in (
        part_marks_ready (is_some (space_at P Elsewhere a.marks a.body)) a.reference None a.marks (reference_utf8 a.reference is.reference) (behind (f1 ++ f2) f3 h),
        type_ready Elsewhere false a.body is.body room (behind (f1 ++ f2 ++ f3) f4 e),
      )

  all_ready : (before : List (List ℕ)) (Q : List PlainAssignment) → IsPlain Q → All (λ a. Fits a.body) Q → faults_from P before Q ≡ [] → All (IsAssignmentReady P) Q
  all_ready before [] are room e k d lt = absurd (omega (arith, lt))
  all_ready before (a ∷ Q) are room e zero d lt =
      assignment_ready before a (are zero a (omega arith)) (room zero a (omega arith)) (front (assignment_faults P before a) _ e)
  all_ready before (a ∷ Q) are room e (suc k) d lt =
      all_ready (before ++ a.reference ∷ []) Q (λ j x h. are (suc j) x (omega (arith, h))) (λ j x h. room (suc j) x (omega (arith, h)))
      (behind (assignment_faults P before a) _ e) k d (omega (arith, lt))

pub ready : (P : List PlainAssignment) → IsPlain P → faults P ≡ [] → length (text_of P) < 2 ^ 32 → IsReady P
ready P is e lt =
    all_ready P [] P is (λ k d h. fits 0 _ (length (text_of P)) lt (is k d h).body (bodies_short P lt k d h)) e
