-- A set has one map.
use Rattle.std.proofs.Common.{◌≡◌, ℕ, zero, suc, false, List, [], ◌∷◌, ◌++◌, map, Contains, inl, inr, true≢false, refl, sym, ap, subst, ◌∙◌, arith}
use Rattle.std.specs.List.Sorted.{IsStrictlySortedBy}
use Rattle.std.specs.Ordering.{is_lt, ordering_reverse}
use Rattle.std.specs.declared.cmp.Ordering.TheVariants.{Less}
use Rattle.std.proofs.lemmas.Bool.{cases_lt}
use Rattle.std.proofs.lemmas.List.Elements.{All-from_recursion, All-contains, Contains-append_cases, Contains-append_right, Contains-get_or}
use Rattle.std.proofs.lemmas.Map.Keys.{sorted_head, sorted_tail}
use Rattle.base_trees.specs.Rose.{Rose, node, Roses}
use Rattle.base_trees.specs.Rose as rose
use Rattle.simple_types.specs.Space.{Space, Spaces, none, more, Booleans, Wholes, Numbers, Words, Characters, ListOf, UnionOf}
use Rattle.asn_names.specs.declared.conversion.NameKind.{NameKind}
use Rattle.asn_names.specs.declared.conversion.NameKind.TheVariants.{Reference, Identifier}
use Rattle.asn_names.specs.Taking.{IsTaken, suffixed}
use Rattle.asn_types.specs.declared.marks.Instruction.{Instruction}
use Rattle.asn_types.specs.declared.marks.Instruction.TheVariants as mark
use Rattle.asn_types.specs.declared.types.Component.{Component}
use Rattle.asn_types.specs.declared.types.Form.TheVariants as form
use Rattle.asn_types.specs.declared.types.TypeLabel.{TypeLabel}
use Rattle.asn_types.specs.declared.modules.Assignment.{Assignment}
use Rattle.asn_types.specs.Simples.{white_space_marks}
use Rattle.schema_components.specs.Components.{Set}
use Rattle.map_subjects.specs.declared.subjects.Subject.{Subject}
use Rattle.map_subjects.specs.declared.subjects.NamedSubject.{NamedSubject}
use Rattle.map_subjects.specs.Subjects.{entry_cmp, AreEntries, place_in}
use Rattle.map_subjects.proofs.InOrder.{turned}
use Rattle.map_assignments.specs.Plans.{TypePlan, simple, sequence, choice, repeated, order_items, reference, Parts, finish, part}
use Rattle.map_assignments.specs.Planning.{body}
use Rattle.map_assignments.specs.Naming.{type_label, component_of, list_item, identifier_of, text_marks, named_part, repeated_part, sequence_marks, wanted, AreTaken, IsSimpleType, AreMembers, IsNamed, AreNamed}
use Rattle.map_assignments.specs.Mapped.{assignment_marks, wanted_reference, AreMapped, IsMapOf}

-- ---- names

taken-once : (kind : NameKind) (before : List (List ℕ)) (name g h : List ℕ) → IsTaken kind before name g → IsTaken kind before name h → g ≡ h
taken-once kind before name g h (inl a) (inl b) = a.1 ∙ sym b.1
taken-once kind before name g h (inl a) (inr b) = absurd (b.0 a.0)
taken-once kind before name g h (inr a) (inl b) = absurd (a.0 b.0)
taken-once kind before name g h (inr (na, n, la, ea)) (inr (nb, m, lb, eb)) = ea ∙ ap (suffixed name) same ∙ sym eb
  where
    same : n ≡ m
    same = elim (cases_lt n m) [
      | inl below ↦ absurd (lb.least n la.positive below la.free)
      | inr over ↦ elim (cases_lt m n) [
        | inl above ↦ absurd (la.least m lb.positive above lb.free)
        | inr equal ↦ omega (arith, over, equal)
      ]
    ]

pub all-taken-once : (before names gs hs : List (List ℕ)) → AreTaken before names gs → AreTaken before names hs → gs ≡ hs
all-taken-once before [] [] [] a b = refl
all-taken-once before [] [] (h ∷ hs) a b = absurd b
all-taken-once before [] (g ∷ gs) hs a b = absurd a
all-taken-once before (name ∷ names) [] hs a b = absurd a
all-taken-once before (name ∷ names) (g ∷ gs) [] a b = absurd b
all-taken-once before (name ∷ names) (g ∷ gs) (h ∷ hs) a b =
    let e = taken-once Identifier before name g h a.0 b.0 in
    let rest = all-taken-once (before ++ g ∷ []) names gs hs a.1 (subst (λ x. AreTaken (before ++ x ∷ []) names hs) (sym e) b.1) in
    ap (λ x. x ∷ gs) e ∙ ap (λ xs. h ∷ xs) rest

-- ---- types

mutual
  simple-once : (s : Space) (t u : Rose TypeLabel) → IsSimpleType s t → IsSimpleType s u → t ≡ u
  simple-once Booleans t u a b = a ∙ sym b
  simple-once (Wholes least greatest) t u a b = a ∙ sym b
  simple-once (Numbers numbers) t u a b = a ∙ sym b
  simple-once (Words how words) t u a b =
      let e = all-taken-once [] (map identifier_of words) a.identifiers b.identifiers a.taken b.taken in
      a.type
      ∙ ap (λ ids. node (type_label (form.Words ids words) (white_space_marks how ++ text_marks 0 ids words)) rose.none) e
      ∙ sym b.type
  simple-once (Characters how least most class) t u a b = a ∙ sym b
  simple-once (ListOf s least most) t u a b =
      a.1 ∙ ap (λ v. node (type_label (form.SequenceOf list_item least most) (mark.List ∷ [])) (rose.more v rose.none)) (simple-once s a.0 b.0 a.2 b.2) ∙ sym b.1
  simple-once (UnionOf members) t u a b =
      let both = members-once [] members a.0 b.0 a.1 b.1 a.3 b.3 in
      a.2 ∙ ap (λ ps. node (type_label (form.Choice ps) (mark.UseUnion ∷ [])) a.1) both.0
      ∙ ap (λ vs. node (type_label (form.Choice b.0) (mark.UseUnion ∷ [])) vs) both.1 ∙ sym b.2

  members-once : (before : List (List ℕ)) (ss : Spaces) (ps qs : List Component) (ts us : Roses TypeLabel) → AreMembers before ss ps ts → AreMembers before ss qs us
      → (ps ≡ qs) × (ts ≡ us)
  members-once before none ps qs ts us a b = (a.0 ∙ sym b.0, a.1 ∙ sym b.1)
  members-once before (more s ss) ps qs ts us a b =
      let e = taken-once Identifier before _ a.0 b.0 a.4 b.4 in
      let rest = members-once (before ++ a.0 ∷ []) ss a.1 b.1 a.3 b.3 a.8 (subst (λ x. AreMembers (before ++ x ∷ []) ss b.1 b.3) (sym e) b.8) in (
        a.5 ∙ ap (λ x. component_of x false [] ∷ a.1) e ∙ ap (λ os. component_of b.0 false [] ∷ os) rest.0 ∙ sym b.5,
        a.6 ∙ ap (λ v. rose.more v a.3) (simple-once s a.2 b.2 a.7 b.7) ∙ ap (λ vs. rose.more b.2 vs) rest.1 ∙ sym b.6,
      )

module _ (place : Subject → ℕ) where
  mutual
    named-once : (p : TypePlan) (t u : Rose TypeLabel) → IsNamed place p t → IsNamed place p u → t ≡ u
    named-once (simple s) t u a b = simple-once s t u a b
    named-once (sequence nillable mixed ordered ps) t u a b =
        let both = parts-once [] ps a.0 b.0 a.1 b.1 a.3 b.3 in
        let marks = sequence_marks nillable mixed ordered in
        a.2 ∙ ap (λ cs. node (type_label (form.Sequence cs) marks) a.1) both.0 ∙ ap (λ vs. node (type_label (form.Sequence b.0) marks) vs) both.1 ∙ sym b.2
    named-once (choice ps) t u a b =
        let both = parts-once [] ps a.0 b.0 a.1 b.1 a.3 b.3 in
        a.2 ∙ ap (λ cs. node (type_label (form.Choice cs) []) a.1) both.0 ∙ ap (λ vs. node (type_label (form.Choice b.0) []) vs) both.1 ∙ sym b.2
    named-once (repeated l p least most) t u a b =
        a.1 ∙ ap (λ v. node (type_label (form.SequenceOf (repeated_part l) least most) []) (rose.more v rose.none)) (named-once p a.0 b.0 a.2 b.2) ∙ sym b.1
    named-once (order_items firsts ls) t u a b =
        let e = all-taken-once [] (map wanted firsts) a.taken b.taken a.before_taken b.before_taken in
        let f = all-taken-once a.taken (map wanted ls) a.identifiers b.identifiers a.then_taken (subst (λ x. AreTaken x (map wanted ls) b.identifiers) (sym e) b.then_taken) in
        a.type ∙ ap (λ ids. node (type_label (form.Order ids) []) rose.none) f ∙ sym b.type
    named-once (reference w) t u a b = a ∙ sym b

    parts-once : (before : List (List ℕ)) (ps : Parts) (cs ds : List Component) (ts us : Roses TypeLabel) → AreNamed place before ps cs ts → AreNamed place before ps ds us
        → (cs ≡ ds) × (ts ≡ us)
    parts-once before finish cs ds ts us a b = (a.0 ∙ sym b.0, a.1 ∙ sym b.1)
    parts-once before (part l optional p ps) cs ds ts us a b =
        let e = taken-once Identifier before (wanted l) a.0 b.0 a.4 b.4 in
        let rest = parts-once (before ++ a.0 ∷ []) ps a.1 b.1 a.3 b.3 a.8 (subst (λ x. AreNamed place (before ++ x ∷ []) ps b.1 b.3) (sym e) b.8) in (
          a.5 ∙ ap (λ x. named_part l x optional ∷ a.1) e ∙ ap (λ os. named_part l b.0 optional ∷ os) rest.0 ∙ sym b.5,
          a.6 ∙ ap (λ v. rose.more v a.3) (named-once p a.2 b.2 a.7 b.7) ∙ ap (λ vs. rose.more b.2 vs) rest.1 ∙ sym b.6,
        )

-- ---- assignments

abbrev assigned : List ℕ → List Instruction → Rose TypeLabel → Assignment
assigned name instructions type = record { reference = name; marks = instructions; body = type }

module _ (place : Subject → ℕ) (s : Set) where
  mapped-once : (before : List (List ℕ)) (es : List NamedSubject) (M N : List Assignment) → AreMapped place s before es M → AreMapped place s before es N → M ≡ N
  mapped-once before [] [] [] h k = refl
  mapped-once before [] [] (b ∷ N) h k = absurd k
  mapped-once before [] (a ∷ M) N h k = absurd h
  mapped-once before (e ∷ es) [] N h k = absurd h
  mapped-once before (e ∷ es) (a ∷ M) [] h k = absurd k
  mapped-once before (e ∷ es) (a ∷ M) (b ∷ N) h k =
      let r = taken-once Reference before (wanted_reference place before e.subject e.name) a.reference b.reference h.0.reference k.0.reference in
      let marks : a.marks ≡ b.marks = h.0.marks ∙ ap (assignment_marks e.subject e.name) r ∙ sym k.0.marks in
      let types : a.body ≡ b.body = named-once place (body s e.subject) a.body b.body h.0.body k.0.body in
      let one : a ≡ b =
      ap (λ x. assigned x a.marks a.body) r ∙ ap (λ x. assigned b.reference x a.body) marks ∙ ap (λ x. assigned b.reference b.marks x) types in
      let rest = mapped-once (before ++ a.reference ∷ []) es M N h.1 (subst (λ x. AreMapped place s (before ++ x ∷ []) es N) (sym r) k.1) in
      ap (λ x. x ∷ M) one ∙ ap (λ xs. b ∷ xs) rest

-- ---- entries

not-back : (x y : NamedSubject) → entry_cmp x y ≡ Less → entry_cmp y x ≡ Less → ⊥
not-back x y h k = true≢false (ap is_lt (sym h ∙ turned x y ∙ ap ordering_reverse k))

only : (x z : NamedSubject) → Contains (x ∷ []) z → x ≡ z
only x z (zero, below, is) = is
only x z (suc k, below, is) = absurd (omega (arith, below))

first-of : (x : NamedSubject) (xs : List NamedSubject) → Contains (x ∷ xs) x
first-of x xs = Contains-get_or (x ∷ xs) zero x (omega arith)

above : (x z : NamedSubject) (xs : List NamedSubject) → IsStrictlySortedBy entry_cmp (x ∷ xs) → Contains xs z → entry_cmp x z ≡ Less
above x z xs up has = All-contains (λ y. entry_cmp x y ≡ Less) xs z (All-from_recursion (λ y. entry_cmp x y ≡ Less) xs (sorted_head entry_cmp x xs up)) has

-- what stands in the whole list and isn't the first stands in the rest
among-rest : (x z : NamedSubject) (xs : List NamedSubject) → Contains (x ∷ xs) z → (x ≡ z → ⊥) → Contains xs z
among-rest x z xs has apart = elim (Contains-append_cases (x ∷ []) xs z has) [
  | inl here ↦ absurd (apart (only x z here))
  | inr later ↦ later
]

same-first : (x y : NamedSubject) (xs ys : List NamedSubject) → IsStrictlySortedBy entry_cmp (x ∷ xs) → IsStrictlySortedBy entry_cmp (y ∷ ys) → Contains (y ∷ ys) x → Contains (x ∷ xs) y → x ≡ y
same-first x y xs ys up also here there = elim (Contains-append_cases (y ∷ []) ys x here) [
  | inl is ↦ sym (only y x is)
  | inr later ↦ elim (Contains-append_cases (x ∷ []) xs y there) [
    | inl is ↦ only x y is
    | inr behind ↦ absurd (not-back x y (above x y xs up behind) (above y x ys also later))
  ]
]

entries-once : (xs ys : List NamedSubject) → IsStrictlySortedBy entry_cmp xs → IsStrictlySortedBy entry_cmp ys → ((z : NamedSubject) → Contains xs z → Contains ys z)
    → ((z : NamedSubject) → Contains ys z → Contains xs z) → xs ≡ ys
entries-once [] [] up also into back = refl
entries-once [] (y ∷ ys) up also into back = let h = back y (first-of y ys) in absurd (omega (arith, h.1))
entries-once (x ∷ xs) [] up also into back = let h = into x (first-of x xs) in absurd (omega (arith, h.1))
entries-once (x ∷ xs) (y ∷ ys) up also into back =
    let e = same-first x y xs ys up also (into x (first-of x xs)) (back y (first-of y ys)) in
    let rest = entries-once xs ys (sorted_tail entry_cmp x xs up) (sorted_tail entry_cmp y ys also)
    (λ z has.
    among-rest y z ys (into z (Contains-append_right (x ∷ []) xs z has))
    (λ is. let h = subst (λ w. entry_cmp x w ≡ Less) (sym (e ∙ is)) (above x z xs up has) in not-back x x h h))
    (λ z has.
    among-rest x z xs (back z (Contains-append_right (y ∷ []) ys z has))
    (λ is. let h = subst (λ w. entry_cmp y w ≡ Less) (sym (sym e ∙ is)) (above y z ys also has) in not-back y y h h)) in
    ap (λ z. z ∷ xs) e ∙ ap (λ zs. y ∷ zs) rest

pub one-entries : (s : Set) (xs ys : List NamedSubject) → AreEntries s xs → AreEntries s ys → xs ≡ ys
one-entries s xs ys h k =
    entries-once xs ys h.ascending k.ascending
    (λ z has. (k.whole z.subject z.name).1 ((h.whole z.subject z.name).0 has))
    (λ z has. (h.whole z.subject z.name).1 ((k.whole z.subject z.name).0 has))

pub one-map : (s : Set) (M N : List Assignment) → IsMapOf s M → IsMapOf s N → M ≡ N
one-map s M N h k =
    let same = one-entries s h.entries k.entries h.are_entries k.are_entries in
    mapped-once (place_in h.entries) s [] h.entries M N h.assignments (subst (λ es. AreMapped (place_in es) s [] es N) (sym same) k.assignments)
