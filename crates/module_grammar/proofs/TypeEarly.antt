-- Bytes that begin a type in which another, or a value, lies too deep are told as such.
use Rattle.std.proofs.Common.{◌≡◌, ℕ, zero, suc, ◌+◌, ◌<◌, ◌≤◌, ◌⊎◌, inl, inr, List, [], ◌∷◌, ◌++◌, length, refl, sym, ap, ◌∙◌, subst, arith, codes, Option, Some, None, append_assoc, append-nil, length-append}
use Rattle.base_trees.specs.Rose.{node, list_of}
use Rattle.module_print.specs.Notation.{new_line}
use Rattle.module_grammar.specs.Reading.{Reader, word_at, nothing_at, then_at, or_at}
use Rattle.module_grammar.specs.Shapes.{Sunk, moved, never, word_of, IsFailed, IsUnread, BothFine, both_written, both_deep, either_deep, either_written, BehindFine, shifted, behind_word}
use Rattle.module_grammar.specs.Laws.{Law, Early}
use Rattle.module_grammar.proofs.Steps.{none_some, some_is, moved_is}
use Rattle.module_grammar.proofs.Sunken.{first_node, sunk_early}
use Rattle.module_grammar.proofs.Early.{split_front, then_early, or_early, as_early, never_early, behind_early}
use Rattle.module_text.specs.Plain.{IsComponent, IsAlternative, IsItem}
use Rattle.module_text.specs.Texts.{type_mark_text, type_marks_text, size_text, type_text}
use Rattle.module_text.specs.declared.bounds.PlainEnds.{PlainEnds}
use Rattle.module_text.specs.declared.marks.TypeMark.{TypeMark}
use Rattle.module_text.specs.declared.marks.TypeMarkKind.{TypeMarkKind}
use Rattle.module_text.specs.declared.marks.TypeMarkKind.TheVariants as type_mark
use Rattle.module_grammar.specs.TypeReading
use Rattle.module_grammar.specs.TypeReading.{Typed, TypedPart, Form, Word, Boolean, Integer, Utf8String, Enumerated, Sequence, Choice, Other, opening, between, block_at, component_at, alternative_at, item_at, sequence_of_at, tail_at, plain_reference_at, form_at, typed_of, label_at, type_at}
use Rattle.module_grammar.specs.TypeDepth.{start_told, typed_part_text, part_deep, tail_deep, form_deep, type_deep}
use Rattle.module_grammar.proofs.Unread.{first_of_front}
use Rattle.module_grammar.proofs.MarkLaws.{type_kind_text, type_text_is, TypeMarksHere, type_marks_law, NoMark, PartMarkStops, part_marks_end}
use Rattle.module_grammar.proofs.AbsenceLaws.{TypeStops, PartStops, type_comma, type_line, part_comma, part_line}
use Rattle.module_grammar.proofs.PartLaws.{IsTypeHere, TypeEarly, PartHere, component_early, alternative_early, item_early}
use Rattle.module_grammar.proofs.BoundLaws.{IsSizeHere, size_law}
use Rattle.module_grammar.proofs.NameLaws.{NameStops, name_text, plain_reference_law}
use Rattle.module_grammar.specs.NameReading.{plain_identifier_at}
use Rattle.module_grammar.specs.BoundReading.{number_range_at, some_size_at, size_at, class_at}
use Rattle.module_grammar.specs.TypeReading.{numbered_at, enumerated_at}
use Rattle.module_grammar.specs.TypeDepth.{paired}
use Rattle.module_grammar.specs.Depth.{listed_deep}
use Rattle.module_grammar.proofs.Fixed.{behind_law}
use Rattle.simple_types.specs.declared.simples.Class.{Class}
use Rattle.module_text.specs.Texts.{item_text}
use Rattle.module_text.specs.declared.types.NumberedItem.{NumberedItem}
use Rattle.module_text.specs.declared.types.PlainName.{PlainName}
use Rattle.module_text.specs.declared.types.PlainForm.TheVariants as form
use Rattle.module_grammar.proofs.BlockLaws.{block_text, BlockFine, block_sunk, block_written, block_early}
use Rattle.module_grammar.proofs.FormLaws.{TailFine, tail_text, tail_law}
use Rattle.module_grammar.proofs.FormLaws as forms
use Rattle.module_grammar.proofs.TreeForms.{FormHere, WordFine, whole_text, form_renames}
use Rattle.module_grammar.proofs.TypeLaws as laws
use Rattle.module_grammar.proofs.TypeLaws.{form_law, some_type, some_component, some_alternative, some_item, before_type, type_law, onto_typed, form_first, capital_no_mark, letter_no_label, bracket_no_label, told_is}

-- ---- how a front of a type begins

-- before the first instruction of a type no instruction of a part is read, and no label
kind_ends : (kind : TypeMarkKind) (l : List ℕ) → PartMarkStops (type_kind_text kind ++ l)
kind_ends type_mark.UseNil l = record { attribute = λ here. tt; untagged = λ here. tt; name = λ here. tt; namespace = λ here. tt }
kind_ends _ l = record { attribute = λ here. tt; untagged = λ here. tt; name = λ here. tt; namespace = λ here. tt }

kind_bracket : (kind : TypeMarkKind) → (r : List ℕ) × (type_kind_text kind ≡ 91 ∷ r)
kind_bracket type_mark.UseNil = (_, refl)
kind_bracket _ = (_, refl)

-- a front as long as another begins with it
longer_front : (u v q beyond x : List ℕ) (P : List ℕ → Type 0) → u ++ v ≡ q ++ beyond → length u ≤ length q → ((l : List ℕ) → P (u ++ l)) → P (q ++ x)
longer_front u v q beyond x P e le h = elim (split_front u v q beyond e) [
  | inl s ↦ subst P (sym (ap (λ l. l ++ x) s.1 ∙ append_assoc u s.0 x)) (h (s.0 ++ x))
  | inr s ↦ subst (λ l. P (l ++ x)) (whole u q s.0 s.1 (omega (arith, le, ap length s.1, length-append q s.0))) (h x)
]
  where
    whole : (u q r : List ℕ) → u ≡ q ++ r → length r ≡ 0 → u ≡ q
    whole u q [] e z = e ∙ append-nil q
    whole u q (b ∷ r) e z = absurd (omega (arith, z))

kind_then : (kind : TypeMarkKind) (ms : List TypeMark) (w l : List ℕ) → ((type_mark_text kind ++ type_marks_text ms) ++ w) ++ l ≡ type_kind_text kind ++ ((codes " " ++ type_marks_text ms) ++ (w ++ l))
kind_then kind ms w l = ap (λ k. ((k ++ type_marks_text ms) ++ w) ++ l) (type_text_is kind) ∙ five (type_kind_text kind) (codes " ") (type_marks_text ms) w l
  where
    five : (a b c d e : List ℕ) → (((a ++ b) ++ c) ++ d) ++ e ≡ a ++ ((b ++ c) ++ (d ++ e))
    five a b c d e = simp append_assoc

-- by the instructions and the form
marks_front : (levels place : ℕ) (ms : List TypeMark) (x : Form) (l q beyond y : List ℕ) → FormHere levels place x → (type_marks_text ms ++ whole_text levels x) ++ l ≡ q ++ beyond → start_told ms ≤ length q → PartMarkStops (q ++ y)
marks_front levels place [] x l q beyond y f e le =
    let r = form_first levels place x f in
    let h = first_of_front r.0 (r.1 ++ l) q beyond (ap (λ k. k ++ l) (sym r.3) ∙ e) (omega (arith, le)) in
    part_marks_end 0 [] (q ++ y) (subst (λ k. NoMark (k ++ y)) (sym h.1) (capital_no_mark r.0 (h.0 ++ y) r.2))
marks_front levels place (m ∷ ms) x l q beyond y f e le =
    longer_front (type_kind_text m.kind) _ q beyond y PartMarkStops (sym (kind_then m.kind ms (whole_text levels x) l) ∙ e) (omega (arith, le, told_is m.kind)) (kind_ends m.kind)

label_ahead : (levels place : ℕ) (ms : List TypeMark) (x : Form) (l q beyond y : List ℕ) → FormHere levels place x → (type_marks_text ms ++ whole_text levels x) ++ l ≡ q ++ beyond → 0 < length q → IsUnread label_at (q ++ y)
label_ahead levels place [] x l q beyond y f e lt =
    let r = form_first levels place x f in
    let h = first_of_front r.0 (r.1 ++ l) q beyond (ap (λ k. k ++ l) (sym r.3) ∙ e) lt in
    subst (λ k. IsUnread label_at (k ++ y)) (sym h.1) (letter_no_label r.0 (h.0 ++ y) r.2)
label_ahead levels place (m ∷ ms) x l q beyond y f e lt =
    let b = kind_bracket m.kind in
    let h = first_of_front 91 (b.0 ++ ((codes " " ++ type_marks_text ms) ++ (whole_text levels x ++ l))) q beyond (ap (λ k. k ++ ((codes " " ++ type_marks_text ms) ++ (whole_text levels x ++ l))) (sym b.1) ∙ sym (kind_then m.kind ms (whole_text levels x) l) ∙ e) lt in
    subst (λ k. IsUnread label_at (k ++ y)) (sym h.1) (bracket_no_label (h.0 ++ y))

pub label_front : (levels place : ℕ) (t : Typed) (l q beyond x : List ℕ) → IsTypeHere levels place t → type_text levels t ++ l ≡ q ++ beyond → 0 < length q → IsUnread label_at (q ++ x)
label_front levels place t l q beyond x f e lt =
    let k = onto_typed levels place t f in
    label_ahead levels (place + length (type_marks_text k.0.0)) k.0.0 k.0.1 l q beyond x k.1.1 (ap (λ u. type_text levels u ++ l) k.2 ∙ e) lt

-- the instructions of a type, where they stand
abbrev AreMarks : ℕ → List TypeMark → Type 0
AreMarks = TypeMarksHere

abbrev marks_of : Typed → List TypeMark
marks_of (node l ts) = l.marks

-- what tells that a type is too deep begins with what tells where it begins
least_told : (most depth levels place : ℕ) (t : Typed) (s : Sunk) → IsTypeHere levels place t → type_deep most depth levels t ≡ Some s → start_told (marks_of t) ≤ s.told
least_told most zero levels place (node l ts) s f d = omega (arith, ap (λ (k : Sunk). k.told) (some_is (first_node (start_told l.marks)) s d))
least_told most (suc depth) levels place (node l ts) s f d = by l.marks (moved_is (length (type_marks_text l.marks)) s (form_deep most levels (type_deep most depth levels) (type_deep most depth (suc levels)) l.form ts) d)
  where
    by : (ms : List TypeMark) → (t : Sunk) × (form_deep most levels (type_deep most depth levels) (type_deep most depth (suc levels)) l.form ts ≡ Some t) × (moved (length (type_marks_text ms)) t ≡ s) → start_told ms ≤ s.told
    by [] h = omega (arith, ((type_law most (suc depth) levels).inside place (node l ts) s f d).0)
    by (m ∷ ms) h = omega (arith, ap (λ (k : Sunk). k.told) h.2, length-append (type_mark_text m.kind) (type_marks_text ms))

text_of_type : (levels place : ℕ) (t : Typed) → IsTypeHere levels place t → start_told (marks_of t) ≤ length (type_text levels t)
text_of_type levels place t f = by (onto_typed levels place t f)
  where
    by : (k : (x : List TypeMark × Form) × ((AreMarks place x.0) × FormHere levels (place + length (type_marks_text x.0)) x.1) × (typed_of place x ≡ t)) → start_told (marks_of t) ≤ length (type_text levels t)
    by k = subst (λ u. start_told (marks_of u) ≤ length (type_text levels u)) k.2 (least k.0.0 k.0.1 k.1.1)
      where
        least : (ms : List TypeMark) (x : Form) → FormHere levels (place + length (type_marks_text ms)) x → start_told ms ≤ length (type_marks_text ms ++ whole_text levels x)
        least [] x g = let r = form_first levels (place + 0) x g in omega (arith, ap length r.3)
        least (m ∷ ms) x g = omega (arith, length-append (type_mark_text m.kind ++ type_marks_text ms) (whole_text levels x), length-append (type_mark_text m.kind) (type_marks_text ms))

pub mark_front : (most depth levels place : ℕ) (t : Typed) (l q beyond x : List ℕ) (s : Sunk) → IsTypeHere levels place t → (type_deep most depth levels t ≡ Some s) ⊎ (length (type_text levels t) < s.told) → type_text levels t ++ l ≡ q ++ beyond → s.told ≤ length q → 0 < length q → PartMarkStops (q ++ x)
mark_front most depth levels place t l q beyond x s f d e le lt =
    let told : start_told (marks_of t) ≤ s.told = elim d [ inl h ↦ least_told most depth levels place t s f h | inr h ↦ omega (arith, h, text_of_type levels place t f) ] in
    by (onto_typed levels place t f) told
  where
    by : (k : (x : List TypeMark × Form) × ((AreMarks place x.0) × FormHere levels (place + length (type_marks_text x.0)) x.1) × (typed_of place x ≡ t)) → start_told (marks_of t) ≤ s.told → PartMarkStops (q ++ x)
    by k told = marks_front levels (place + length (type_marks_text k.0.0)) k.0.0 k.0.1 l q beyond x k.1.1 (ap (λ u. type_text levels u ++ l) k.2 ∙ e) (omega (arith, le, subst (λ u. start_told (marks_of u) ≤ s.told) (sym k.2) told))

-- ---- fronts of what stands behind a word

begins_space : (l q beyond y : List ℕ) → (32 ∷ l) ≡ q ++ beyond → 0 < length q → NameStops (q ++ y)
begins_space l q beyond y e lt =
    let h = first_of_front 32 l q beyond e lt in
    subst (λ k. NameStops (k ++ y)) (sym h.1) (record { item = tt; fails = λ place. tt })

-- a front of two bytes at least
two_bytes : (a b : ℕ) (l q beyond : List ℕ) → (a ∷ b ∷ l) ≡ q ++ beyond → 1 < length q → (r : List ℕ) × (q ≡ a ∷ b ∷ r)
two_bytes a b l q beyond e lt =
    let one = first_of_front a (b ∷ l) q beyond e (omega (arith, lt)) in
    let two = first_of_front b l one.0 beyond one.2 (omega (arith, lt, ap length one.1)) in
    (two.0, one.1 ∙ ap (λ k. a ∷ k) two.1)

three_bytes : (a b c : ℕ) (l q beyond : List ℕ) → (a ∷ b ∷ c ∷ l) ≡ q ++ beyond → 2 < length q → (r : List ℕ) × (q ≡ a ∷ b ∷ c ∷ r)
three_bytes a b c l q beyond e lt =
    let one = first_of_front a (b ∷ c ∷ l) q beyond e (omega (arith, lt)) in
    let two = two_bytes b c l one.0 beyond one.2 (omega (arith, lt, ap length one.1)) in
    (two.0, one.1 ∙ ap (λ k. a ∷ k) two.1)

module _ (most levels : ℕ) (here_deep : Typed → Option Sunk) (here : Reader Typed) (inside_deep : Typed → Option Sunk) (inside : Reader Typed)
    (component : Law (PartHere IsComponent (suc levels)) (part_deep most (suc levels) inside_deep) (typed_part_text (suc levels)) PartStops (component_at most inside))
    (alternative : Law (PartHere IsAlternative (suc levels)) (part_deep most (suc levels) inside_deep) (typed_part_text (suc levels)) TypeStops (alternative_at inside))
    (item : Law (PartHere IsItem levels) (part_deep most levels here_deep) (typed_part_text levels) TypeStops (item_at here))
    (component_e : Early (PartHere IsComponent (suc levels)) (part_deep most (suc levels) inside_deep) (typed_part_text (suc levels)) (component_at most inside))
    (alternative_e : Early (PartHere IsAlternative (suc levels)) (part_deep most (suc levels) inside_deep) (typed_part_text (suc levels)) (alternative_at inside))
    (item_e : Early (PartHere IsItem levels) (part_deep most levels here_deep) (typed_part_text levels) (item_at here)) where
  type_begun : (l q m x : List ℕ) → between levels ++ l ≡ q ++ m → 0 < length q → TypeStops (q ++ x)
  type_begun l q m x e lt =
      let h = first_of_front 44 (new_line (suc levels) ++ l) q m e lt in
      subst (λ k. TypeStops (k ++ x)) (sym h.1) (type_comma (h.0 ++ x))

  part_begun : (l q m x : List ℕ) → between levels ++ l ≡ q ++ m → 0 < length q → PartStops (q ++ x)
  part_begun l q m x e lt =
      let h = first_of_front 44 (new_line (suc levels) ++ l) q m e lt in
      subst (λ k. PartStops (k ++ x)) (sym h.1) (part_comma (h.0 ++ x))

  components_early : Early (BlockFine levels (PartHere IsComponent (suc levels))) (block_sunk levels (part_deep most (suc levels) inside_deep)) (block_written levels) (block_at levels (component_at most inside))
  components_early = block_early levels component (some_component (suc levels)) part_comma part_line component_e part_begun

  alternatives_early : Early (BlockFine levels (PartHere IsAlternative (suc levels))) (block_sunk levels (part_deep most (suc levels) inside_deep)) (block_written levels) (block_at levels (alternative_at inside))
  alternatives_early = block_early levels alternative (some_alternative (suc levels)) type_comma type_line alternative_e type_begun

  -- where a type in a block is too deep, the front has the opening of the block
  block_front : (deep : TypedPart → Option Sunk) (place : ℕ) (xs : List TypedPart) (p beyond : List ℕ) (s : Sunk) → block_sunk levels deep xs ≡ Some s → block_written levels xs ≡ p ++ beyond → s.told ≤ length p → (r : List ℕ) × (p ≡ 32 ∷ 123 ∷ 10 ∷ r)
  block_front deep place xs p beyond s d e le =
      let t = moved_is (length (opening levels)) s (listed_deep (between levels) (typed_part_text (suc levels)) deep xs) d in
      three_bytes 32 123 10 _ p beyond e (omega (arith, le, ap (λ (k : Sunk). k.told) t.2))

  abbrev Items : Type 0
  Items = Option PlainEnds × TypedPart

  abbrev ItemsFine : ℕ → Items → Type 0
  ItemsFine = BothFine IsSizeHere size_text (λ size. BehindFine (codes " OF ") (PartHere IsItem levels))

  abbrev items_sunk : Items → Option Sunk
  items_sunk = both_deep size_text never (λ size. shifted (codes " OF ") (part_deep most levels here_deep))

  abbrev items_written : Items → List ℕ
  items_written = both_written size_text (λ size. behind_word (codes " OF ") (typed_part_text levels))

  items_early : Early ItemsFine items_sunk items_written (sequence_of_at here)
  items_early = then_early size_law (λ place size f. behind_law (codes " OF ") item (some_item levels)) (never_early (λ a. refl)) (λ place size f. behind_early (codes " OF ") item item_e)
      (λ place there size x q beyond y s f g d e le lt. of_unread x q beyond y s d e le)
    where
      of_unread : (x : TypedPart) (q beyond y : List ℕ) (s : Sunk) → shifted (codes " OF ") (part_deep most levels here_deep) x ≡ Some s → codes " OF " ++ typed_part_text levels x ≡ q ++ beyond → s.told ≤ length q → IsUnread some_size_at (q ++ y)
      of_unread x q beyond y s d e le =
          let t = moved_is 4 s (part_deep most levels here_deep x) d in
          let h = two_bytes 32 79 _ q beyond e (omega (arith, le, ap (λ (k : Sunk). k.told) t.2)) in
          λ there. subst (λ k. IsFailed (some_size_at there (k ++ y))) (sym h.1) tt

  -- and where the type of an item is, it has ` (` or ` O`
  items_front : (size : Option PlainEnds) (x : TypedPart) (p beyond : List ℕ) (s : Sunk) → items_sunk (size, x) ≡ Some s → items_written (size, x) ≡ p ++ beyond → s.told ≤ length p → ((r : List ℕ) × (p ≡ 32 ∷ 40 ∷ r)) ⊎ ((r : List ℕ) × (p ≡ 32 ∷ 79 ∷ r))
  items_front None x p beyond s d e le =
      let t = moved_is 0 s (shifted (codes " OF ") (part_deep most levels here_deep) x) d in
      let u = moved_is 4 t.0 (part_deep most levels here_deep x) t.1 in
      inr (two_bytes 32 79 _ p beyond e (omega (arith, le, ap (λ (k : Sunk). k.told) t.2, ap (λ (k : Sunk). k.told) u.2)))
  items_front (Some ends) x p beyond s d e le =
      let t = moved_is (length (size_text (Some ends))) s (shifted (codes " OF ") (part_deep most levels here_deep) x) d in
      inl (two_bytes 32 40 _ p beyond e (omega (arith, le, ap (λ (k : Sunk). k.told) t.2)))

  abbrev Ended : Type 0
  Ended = Items ⊎ Unit {0}

  abbrev ended_sunk : Ended → Option Sunk
  ended_sunk = either_deep items_sunk never

  abbrev ended_text : Ended → List ℕ
  ended_text = either_written items_written (word_of [])

  block_unread : (place : ℕ) (x : Ended) (p beyond y : List ℕ) (s : Sunk) → ended_sunk x ≡ Some s → ended_text x ≡ p ++ beyond → s.told ≤ length p → IsFailed (block_at levels (component_at most inside) place (p ++ y))
  block_unread place (inl (size, x)) p beyond y s d e le = elim (items_front size x p beyond s d e le) [
    | inl h ↦ subst (λ k. IsFailed (block_at levels (component_at most inside) place (k ++ y))) (sym h.1) tt
    | inr h ↦ subst (λ k. IsFailed (block_at levels (component_at most inside) place (k ++ y))) (sym h.1) tt
  ]
  block_unread place (inr x) p beyond y s d e le = none_some s d

  empty_unread : (place : ℕ) (x : List TypedPart ⊎ Ended) (p beyond y : List ℕ) (s : Sunk) → either_deep (block_sunk levels (part_deep most (suc levels) inside_deep)) ended_sunk x ≡ Some s → either_written (block_written levels) ended_text x ≡ p ++ beyond → s.told ≤ length p → IsFailed (word_at (codes " {}") place (p ++ y))
  empty_unread place (inl xs) p beyond y s d e le =
      let h = block_front (part_deep most (suc levels) inside_deep) place xs p beyond s d e le in
      subst (λ k. IsFailed (word_at (codes " {}") place (k ++ y))) (sym h.1) tt
  empty_unread place (inr (inl (size, x))) p beyond y s d e le = elim (items_front size x p beyond s d e le) [
    | inl h ↦ subst (λ k. IsFailed (word_at (codes " {}") place (k ++ y))) (sym h.1) tt
    | inr h ↦ subst (λ k. IsFailed (word_at (codes " {}") place (k ++ y))) (sym h.1) tt
  ]
  empty_unread place (inr (inr x)) p beyond y s d e le = none_some s d

  -- ---- what stands behind a word

  module _ (w : PlainName) where
    abbrev TailEarly : Word → Type 0
    TailEarly k = Early (TailFine levels w) (λ (x : Form). tail_deep most levels here_deep inside_deep x.0 x.1) (tail_text levels) (tail_at most levels here inside w k)

    sizes_never : (x : Option PlainEnds × Class) → both_deep size_text never (λ size. never {A = Class}) x ≡ None
    sizes_never x = refl

    enumerations_never : (x : List NumberedItem ⊎ (List PlainName ⊎ Unit {0})) → forms.enumeration_deep most levels here_deep here inside_deep inside component alternative item (some_component (suc levels)) (some_alternative (suc levels)) (some_item levels) w x ≡ None
    enumerations_never (inl items) = sym (forms.enumerated_never item_text items)
    enumerations_never (inr (inl names)) = sym (forms.enumerated_never name_text names)
    enumerations_never (inr (inr x)) = refl

    tail_early : (k : Word) → TypeReading.word_of w.name ≡ k → TailEarly k
    tail_early Boolean e = as_early {read = nothing_at} (never_early (λ a. refl)) (forms.boolean_renames most levels here_deep here inside_deep inside component alternative item (some_component (suc levels)) (some_alternative (suc levels)) (some_item levels) w e)
    tail_early Integer e = as_early {read = number_range_at} (never_early (λ a. refl)) (forms.integer_renames most levels here_deep here inside_deep inside component alternative item (some_component (suc levels)) (some_alternative (suc levels)) (some_item levels) w e)
    tail_early Utf8String e = as_early {read = then_at size_at (λ size. class_at)} (never_early sizes_never) (forms.text_renames most levels here_deep here inside_deep inside component alternative item (some_component (suc levels)) (some_alternative (suc levels)) (some_item levels) w e)
    tail_early Enumerated e = as_early {read = or_at (enumerated_at numbered_at) (or_at (enumerated_at plain_identifier_at) nothing_at)} (never_early enumerations_never) (forms.enumerated_renames most levels here_deep here inside_deep inside component alternative item (some_component (suc levels)) (some_alternative (suc levels)) (some_item levels) w e)
    tail_early Sequence e = as_early
        (or_early (never_early (λ a. refl))
        (or_early components_early (or_early {second = nothing_at} items_early (never_early (λ a. refl)) (λ place b p beyond x s f d q le. none_some s d)) (λ place b p beyond x s f d q le. block_unread place b p beyond x s d q le))
        (λ place b p beyond x s f d q le. empty_unread place b p beyond x s d q le))
        (forms.sequence_renames most levels here_deep here inside_deep inside component alternative item (some_component (suc levels)) (some_alternative (suc levels)) (some_item levels) w e)
    tail_early Choice e = as_early
        (or_early {second = nothing_at} alternatives_early (never_early (λ a. refl)) (λ place b p beyond x s f d q le. none_some s d))
        (forms.choice_renames most levels here_deep here inside_deep inside component alternative item (some_component (suc levels)) (some_alternative (suc levels)) (some_item levels) w e)
    tail_early Other e = as_early {read = nothing_at} (never_early (λ a. refl)) (forms.other_renames most levels here_deep here inside_deep inside component alternative item (some_component (suc levels)) (some_alternative (suc levels)) (some_item levels) w e)

    -- a front of it begins with a space
    space_front : (x : Form) (q beyond y : List ℕ) (s : Sunk) → tail_deep most levels here_deep inside_deep x.0 x.1 ≡ Some s → tail_text levels x ≡ q ++ beyond → 0 < length q → NameStops (q ++ y)
    space_front (form.Sequence parts, ts) q beyond y s d e lt = block_space (paired parts (list_of ts)) q beyond y e lt
      where
        block_space : (xs : List TypedPart) (q beyond y : List ℕ) → block_text levels xs ≡ q ++ beyond → 0 < length q → NameStops (q ++ y)
        block_space [] q beyond y e lt = begins_space _ q beyond y e lt
        block_space (x ∷ xs) q beyond y e lt = begins_space _ q beyond y e lt
    space_front (form.Choice parts, ts) q beyond y s d e lt = block_space (paired parts (list_of ts)) q beyond y e lt
      where
        block_space : (xs : List TypedPart) (q beyond y : List ℕ) → block_text levels xs ≡ q ++ beyond → 0 < length q → NameStops (q ++ y)
        block_space [] q beyond y e lt = begins_space _ q beyond y e lt
        block_space (x ∷ xs) q beyond y e lt = begins_space _ q beyond y e lt
    space_front (form.SequenceOf None part, ts) q beyond y s d e lt = begins_space _ q beyond y e lt
    space_front (form.SequenceOf (Some size) part, ts) q beyond y s d e lt = begins_space _ q beyond y e lt
    space_front (form.Bool, ts) q beyond y s d e lt = none_some s d
    space_front (form.Int r, ts) q beyond y s d e lt = none_some s d
    space_front (form.Numbers items, ts) q beyond y s d e lt = none_some s d
    space_front (form.Words names, ts) q beyond y s d e lt = none_some s d
    space_front (form.Utf8 size class, ts) q beyond y s d e lt = none_some s d
    space_front (form.Ref r, ts) q beyond y s d e lt = none_some s d

  word_tail_early : Early (WordFine levels) (both_deep name_text never (λ w (x : Form). tail_deep most levels here_deep inside_deep x.0 x.1)) (both_written name_text (λ w. tail_text levels)) (then_at plain_reference_at (λ word. tail_at most levels here inside word (TypeReading.word_of word.name)))
  word_tail_early = then_early plain_reference_law
      (λ place w f. tail_law most levels here_deep here inside_deep inside component alternative item (some_component (suc levels)) (some_alternative (suc levels)) (some_item levels) w (TypeReading.word_of w.name) refl)
      (never_early (λ a. refl)) (λ place w f. tail_early w (TypeReading.word_of w.name) refl)
      (λ place there w x q beyond y s f g d e le lt. space_front w x q beyond y s d e lt)

  form_early : Early (FormHere levels) (λ (x : Form). form_deep most levels here_deep inside_deep x.0 x.1) (whole_text levels) (form_at most levels here inside)
  form_early = as_early word_tail_early (form_renames most levels here_deep inside_deep)

-- ---- types

capital_front : (levels place : ℕ) (x : Form) (q beyond y : List ℕ) → FormHere levels place x → whole_text levels x ≡ q ++ beyond → 0 < length q → NoMark (q ++ y)
capital_front levels place x q beyond y f e lt =
    let r = form_first levels place x f in
    let h = first_of_front r.0 r.1 q beyond (sym r.3 ∙ e) lt in
    subst (λ k. NoMark (k ++ y)) (sym h.1) (capital_no_mark r.0 (h.0 ++ y) r.2)

typed_early : (most depth levels : ℕ) → TypeEarly levels (type_deep most depth levels) (type_at most depth levels) → TypeEarly (suc levels) (type_deep most depth (suc levels)) (type_at most depth (suc levels)) → TypeEarly levels (type_deep most (suc depth) levels) (type_at most (suc depth) levels)
typed_early most depth levels here_early inside_early = as_early
    (then_early type_marks_law
    (λ place ms f. form_law most levels (type_deep most depth levels) (type_at most depth levels) (type_law most depth levels) (type_deep most depth (suc levels)) (type_at most depth (suc levels)) (type_law most depth (suc levels)))
    (never_early (λ a. refl))
    (λ place ms f. form_early most levels (type_deep most depth levels) (type_at most depth levels) (type_deep most depth (suc levels)) (type_at most depth (suc levels))
    (laws.component most levels (type_deep most depth levels) (type_at most depth levels) (type_law most depth levels) (type_deep most depth (suc levels)) (type_at most depth (suc levels)) (type_law most depth (suc levels)))
    (laws.alternative most levels (type_deep most depth levels) (type_at most depth levels) (type_law most depth levels) (type_deep most depth (suc levels)) (type_at most depth (suc levels)) (type_law most depth (suc levels)))
    (laws.item most levels (type_deep most depth levels) (type_at most depth levels) (type_law most depth levels) (type_deep most depth (suc levels)) (type_at most depth (suc levels)) (type_law most depth (suc levels)))
    (component_early most (suc levels) (type_deep most depth (suc levels)) (type_at most depth (suc levels)) (type_law most depth (suc levels)) (some_type (suc levels)) (before_type (suc levels)) inside_early (mark_front most depth (suc levels)) (label_front (suc levels)))
    (alternative_early most (suc levels) (type_deep most depth (suc levels)) (type_at most depth (suc levels)) (type_law most depth (suc levels)) (some_type (suc levels)) (before_type (suc levels)) inside_early (mark_front most depth (suc levels)) (label_front (suc levels)))
    (item_early most levels (type_deep most depth levels) (type_at most depth levels) (type_law most depth levels) (some_type levels) (before_type levels) here_early (mark_front most depth levels) (label_front levels) (laws.item_no_label levels)))
    (λ place there ms x q beyond y s f g d e le lt. capital_front levels there x q beyond y g e lt))
    (laws.typed_renames levels most depth)

pub type_early : (most depth levels : ℕ) → TypeEarly levels (type_deep most depth levels) (type_at most depth levels)
type_early most zero levels = sunk_early laws.start_law (laws.starts most levels)
type_early most (suc depth) levels = typed_early most depth levels (type_early most depth levels) (type_early most depth (suc levels))
