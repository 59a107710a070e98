-- No fault of a text has one of the reasons of bytes that are no text.
use Rattle.std.proofs.Common.{◌≡◌, ℕ, suc, ◌+◌, ◌-◌, Bool, true, false, cond, not, ◌&&◌, ◌||◌, Option, Some, None, List, [], ◌∷◌, ◌++◌, is_some, refl}
use Rattle.std.specs.Prelude.{ℤ, All, IsUtf8, nat_lt}
use Rattle.std.proofs.lemmas.List.Elements.{All-nil, All-cons, All-append, All-head}
use Rattle.base_trees.specs.Rose.{Rose, node, Roses, none, more, label_of}
use Rattle.simple_types.specs.Space.{Space}
use Rattle.module_text.specs.declared.bounds.PlainNumber.{PlainNumber}
use Rattle.module_text.specs.declared.bounds.PlainEnds.{PlainEnds}
use Rattle.module_text.specs.declared.bounds.PlainEnds.TheVariants as ends
use Rattle.module_text.specs.declared.bounds.PlainRange.{PlainRange}
use Rattle.module_text.specs.declared.bounds.PlainRange.TheVariants as range
use Rattle.module_text.specs.declared.marks.PartMark.{PartMark}
use Rattle.module_text.specs.declared.marks.TypeMark.{TypeMark}
use Rattle.module_text.specs.declared.values.PlainOctets.{PlainOctets}
use Rattle.module_text.specs.declared.values.Absence.{Absence}
use Rattle.module_text.specs.declared.values.Absence.TheVariants as absence
use Rattle.module_text.specs.declared.types.NumberedItem.{NumberedItem}
use Rattle.module_text.specs.declared.types.PlainName.{PlainName}
use Rattle.module_text.specs.declared.types.PlainPart.{PlainPart}
use Rattle.module_text.specs.declared.types.PlainForm.{PlainForm}
use Rattle.module_text.specs.declared.types.PlainForm.TheVariants as form
use Rattle.module_text.specs.declared.types.PlainLabel.{PlainLabel}
use Rattle.module_text.specs.declared.modules.PlainAssignment.{PlainAssignment}
use Rattle.module_text.specs.Ranks.{rank_of_part_mark, rank_of_type_mark}
use Rattle.module_text.specs.Texts.{parts_of}
use Rattle.module_text.specs.declared.reasons.ModuleWhy.{ModuleWhy}
use Rattle.module_text.specs.declared.reasons.ModuleWhy.TheVariants as why
use Rattle.module_text.specs.declared.reasons.TextFault.{TextFault}
use Rattle.module_text.specs.declared.spots.Spot.{Spot}
use Rattle.module_text.specs.declared.spots.Spot.TheVariants.{Elsewhere}
use Rattle.module_text.specs.Listed.{fault, unless}
use Rattle.module_text.specs.Told.{whole_of, is_printed_number, words_of, has_list}
use Rattle.module_text.specs.Resolving.{resolve, number_of, chains_end}
use Rattle.module_text.specs.Simple.{is_order_item}
use Rattle.module_text.specs.Marks.{part_mark_stands, type_mark_may, stands_once, next_item}
use Rattle.module_text.specs.Defaults.{octets_of}
use Rattle.asn_names.specs.ReservedWords.{reserved_words}
use Rattle.module_text.specs.Faults.{type_faults, part_faults}
use Rattle.module_text.specs.Faults as rule
use Rattle.module_text.specs.ReadBack.{HasFault, IsBadAt}

abbrev pub OfText : ModuleWhy → Type 0
OfText why.NotUtf8 = ⊥
OfText why.Syntax = ⊥
OfText why.TooDeep = ⊥
OfText _ = Unit {0}

abbrev pub AreOfText : List TextFault → Type 0
AreOfText faults = All (λ (f : TextFault). OfText f.why) faults

-- what is due of a text with such a fault
pub bad_text : (bytes : List ℕ) (at : ℕ) (reason : ModuleWhy) → OfText reason → IsUtf8 bytes → HasFault bytes at reason → IsBadAt bytes at reason
bad_text bytes at why.NotUtf8 of utf8 has = absurd of
bad_text bytes at why.Syntax of utf8 has = absurd of
bad_text bytes at why.TooDeep of utf8 has = absurd of
bad_text bytes at why.Duplicate of utf8 has = (utf8, has)
bad_text bytes at why.Unresolved of utf8 has = (utf8, has)
bad_text bytes at why.LongChain of utf8 has = (utf8, has)
bad_text bytes at why.Spelling of utf8 has = (utf8, has)

nil : AreOfText []
nil = All-nil (λ (f : TextFault). OfText f.why)

both : (xs ys : List TextFault) → AreOfText xs → AreOfText ys → AreOfText (xs ++ ys)
both xs ys a b = All-append (λ (f : TextFault). OfText f.why) xs ys a b

one : (b : Bool) (at : ℕ) (reason : ModuleWhy) → OfText reason → AreOfText (unless b at reason)
one true at reason of = nil
one false at reason of = All-cons (λ (f : TextFault). OfText f.why) (fault at reason) [] of nil

either : (b : Bool) (xs ys : List TextFault) → AreOfText xs → AreOfText ys → AreOfText (cond b xs ys)
either true xs ys a b = a
either false xs ys a b = b

number_are : (n : PlainNumber) → AreOfText (rule.number_faults n)
number_are n = one (is_printed_number n) n.at why.Spelling tt

ends_are : (e : PlainEnds) → AreOfText (rule.ends_faults e)
ends_are (ends.One n) = number_are n
ends_are (ends.Both m n) =
    both (rule.number_faults m) _ (number_are m) (one (is_printed_number n && rule.is_below (whole_of m) (whole_of n)) n.at why.Spelling tt)
ends_are (ends.From m at) = number_are m

range_are : (r : Option PlainRange) → AreOfText (rule.range_faults r)
range_are None = nil
range_are (Some (range.Ends e)) = ends_are e
range_are (Some (range.To n)) = number_are n

one_size : (n : PlainNumber) → AreOfText (rule.one_size_faults n)
one_size n = one (rule.is_size n) n.at why.Spelling tt

size_are : (s : Option PlainEnds) → AreOfText (rule.size_faults s)
size_are None = nil
size_are (Some (ends.One n)) = one_size n
size_are (Some (ends.Both m n)) =
    both (rule.one_size_faults m) _ (one_size m) (one (rule.is_size n && rule.is_below (whole_of m) (whole_of n)) n.at why.Spelling tt)
size_are (Some (ends.From m at)) = both (rule.one_size_faults m) _ (one_size m) (one (not (rule.is_zero (whole_of m))) at why.Spelling tt)

item_are : (last : Option ℤ) (i : NumberedItem) → AreOfText (rule.item_faults last i)
item_are last i =
    both (unless (rule.is_numbered_so i) i.identifier.at why.Spelling) _ (one (rule.is_numbered_so i) i.identifier.at why.Spelling tt)
    (one (is_printed_number i.number && rule.is_above last (whole_of i.number)) i.number.at why.Spelling tt)

numbered_are : (before : List (List ℕ)) (last : Option ℤ) (items : List NumberedItem) → AreOfText (rule.numbered_faults before last items)
numbered_are before last [] = nil
numbered_are before last (i ∷ is) =
    let new = not (rule.has_text before i.identifier.name) in
    both (unless new i.identifier.at why.Duplicate ++ rule.item_faults last i) _
    (both (unless new i.identifier.at why.Duplicate) (rule.item_faults last i) (one new i.identifier.at why.Duplicate tt) (item_are last i))
    (numbered_are (before ++ i.identifier.name ∷ []) (whole_of i.number) is)

words_are : (order : Bool) (before : List (List ℕ)) (last : Option (List ℕ)) (is : List PlainName) (words : List (List ℕ)) → AreOfText (rule.word_faults order before last is words)
words_are order before last [] words = nil
words_are order before last (i ∷ is) [] = nil
words_are order before last (i ∷ is) (w ∷ ws) =
    let new = not (rule.has_text before i.name) in
    let above = order || rule.is_word_above last w in
    both (unless new i.at why.Duplicate ++ unless above i.at why.Spelling) _
    (both (unless new i.at why.Duplicate) (unless above i.at why.Spelling) (one new i.at why.Duplicate tt) (one above i.at why.Spelling tt))
    (words_are order (before ++ i.name ∷ []) (Some w) is ws)

part_marks_are : (simple : Bool) (generated : List ℕ) (before : Option ℕ) (ms : List PartMark) → AreOfText (rule.part_mark_faults simple generated before ms)
part_marks_are simple generated before [] = nil
part_marks_are simple generated before (m ∷ ms) =
    let stands = part_mark_stands simple generated before m in
    both (unless stands m.at why.Spelling) _ (one stands m.at why.Spelling tt) (part_marks_are simple generated (Some (rank_of_part_mark m.kind)) ms)

type_marks_are : (P : List PlainAssignment) (spot : Spot) (l : PlainLabel) (ts : Roses PlainLabel) (before : Option ℕ) (least : ℕ) (ms : List TypeMark)
    → AreOfText (rule.type_mark_faults P spot l ts before least ms)
type_marks_are P spot l ts before least [] = nil
type_marks_are P spot l ts before least (m ∷ ms) =
    let stands = stands_once before (rank_of_type_mark m.kind) && type_mark_may P spot l ts least m.kind in
    both (unless stands m.at why.Spelling) _ (one stands m.at why.Spelling tt)
    (type_marks_are P spot l ts (Some (rank_of_type_mark m.kind)) (next_item spot l.form least m.kind) ms)

fixed_are : (space : Option Space) (octets : Option PlainOctets) → AreOfText (rule.fixed_faults space octets)
fixed_are space None = nil
fixed_are space (Some octets) = one (rule.is_canonical space (octets_of octets.digits)) octets.at why.Spelling tt

absence_are : (space : Option Space) (fixed : Option PlainOctets) (t : Rose PlainLabel) (a : Absence) → AreOfText (rule.absence_faults space fixed t a)
absence_are space fixed t absence.Never = nil
absence_are space fixed t absence.Optional = nil
absence_are space fixed t (absence.Default v) = one (rule.is_default space fixed t v) (rule.value_at v) why.Spelling tt

reference_are : (P : List PlainAssignment) (f : PlainForm) → AreOfText (rule.reference_faults P f)
reference_are P form.Bool = nil
reference_are P (form.Int r) = nil
reference_are P (form.Numbers items) = nil
reference_are P (form.Words is) = nil
reference_are P (form.Utf8 size class) = nil
reference_are P (form.Sequence parts) = nil
reference_are P (form.Choice parts) = nil
reference_are P (form.SequenceOf size part) = nil
reference_are P (form.Ref reference) = one (is_some (number_of P reference.name)) reference.at why.Unresolved tt

form_are : (P : List PlainAssignment) (spot : Spot) (marks : List TypeMark) (f : PlainForm) → AreOfText (rule.form_faults P spot marks f)
form_are P spot marks form.Bool = nil
form_are P spot marks (form.Int r) = range_are r
form_are P spot marks (form.Numbers items) = numbered_are [] None items
form_are P spot marks (form.Words is) = words_are (is_order_item spot) [] None is (words_of marks is)
form_are P spot marks (form.Utf8 size class) = size_are size
form_are P spot marks (form.Sequence parts) = nil
form_are P spot marks (form.Choice parts) = nil
form_are P spot marks (form.SequenceOf size part) = size_are size
form_are P spot marks (form.Ref reference) = reference_are P (form.Ref reference)

module _ (P : List PlainAssignment) where
  abbrev TypeIs : Rose PlainLabel → Type 0
  TypeIs t = (spot : Spot) (nameless : Bool) → AreOfText (type_faults P spot nameless t)

  abbrev PartsAre : Roses PlainLabel → Type 0
  PartsAre ts = (spot : Spot) (nameless : Bool) (l : PlainLabel) (i : ℕ) (before : List (List ℕ)) (front : ℕ) (parts : List PlainPart)
      → AreOfText (part_faults P spot nameless l i before front parts ts)

  node_is : (l : PlainLabel) (ts : Roses PlainLabel) → PartsAre ts → TypeIs (node l ts)
  unfolding type_faults
  node_is l ts rest spot nameless =
      let a = rule.type_mark_faults P spot l ts None 0 l.marks in
      let b = rule.form_faults P spot l.marks l.form in
      both (a ++ b) _ (both a b (type_marks_are P spot l ts None 0 l.marks) (form_are P spot l.marks l.form))
      (rest spot (has_list l.marks || nameless) l 0 [] (rule.nameless_parts l.marks) (parts_of l.form))

  none_are : PartsAre none
  unfolding type_faults
  none_are spot nameless l i before front parts = nil

  more_are : (t : Rose PlainLabel) (ts : Roses PlainLabel) → TypeIs t → PartsAre ts → PartsAre (more t ts)
  unfolding type_faults
  more_are t ts first rest spot nameless l i before front [] = nil
  more_are t ts first rest spot nameless l i before front (part ∷ others) =
      let here = rule.part_spot spot l i part in
      let space = rule.space_at P here part.marks t in
      let new = not (rule.is_listed before part.identifier) in
      let bare = rule.is_bare part (label_of t) in
      let named = rule.is_named_so nameless l.form part in
      let a = unless new part.at why.Duplicate in
      let b = cond bare (rule.reference_faults P (label_of t).form) [] in
      let c = unless named part.at why.Spelling in
      let d = rule.part_mark_faults (is_some space) part.identifier None part.marks in
      let f = type_faults P here (nat_lt 0 front) t in
      let g = rule.fixed_faults space part.fixed in
      let h = rule.absence_faults space part.fixed (resolve P t) part.absence in
      let ab = both a b (one new part.at why.Duplicate tt) (either bare (rule.reference_faults P (label_of t).form) [] (reference_are P (label_of t).form) nil) in
      let abc = both (a ++ b) c ab (one named part.at why.Spelling tt) in
      let abcd = both (a ++ b ++ c) d abc (part_marks_are (is_some space) part.identifier None part.marks) in
      let abcdf = both (a ++ b ++ c ++ d) f abcd (first here (nat_lt 0 front)) in
      let abcdfg = both (a ++ b ++ c ++ d ++ f) g abcdf (fixed_are space part.fixed) in
      let abcdfgh = both (a ++ b ++ c ++ d ++ f ++ g) h abcdfg (absence_are space part.fixed (resolve P t) part.absence) in
      both (a ++ b ++ c ++ d ++ f ++ g ++ h) _ abcdfgh (rest spot nameless l (i + 1) (before ++ part.identifier ∷ []) (front - 1) others)

  mutual
    type_is : (t : Rose PlainLabel) → TypeIs t
    type_is (node l ts) = node_is l ts (parts_are ts)

    parts_are : (ts : Roses PlainLabel) → PartsAre ts
    parts_are none = none_are
    parts_are (more t ts) = more_are t ts (type_is t) (parts_are ts)

  assignment_are : (before : List (List ℕ)) (x : PlainAssignment) → AreOfText (rule.assignment_faults P before x)
  assignment_are before x =
      let free = not (rule.has_text before x.reference) && not (rule.has_text reserved_words x.reference) in
      let ends = chains_end P x.body in
      let simple = is_some (rule.space_at P Elsewhere x.marks x.body) in
      let a = unless free x.at why.Duplicate in
      let b = unless ends x.at why.LongChain in
      let c = rule.part_mark_faults simple x.reference None x.marks in
      let ab = both a b (one free x.at why.Duplicate tt) (one ends x.at why.LongChain tt) in
      let abc = both (a ++ b) c ab (part_marks_are simple x.reference None x.marks) in
      both (a ++ b ++ c) _ abc (type_is x.body Elsewhere false)

  from_are : (before : List (List ℕ)) (xs : List PlainAssignment) → AreOfText (rule.faults_from P before xs)
  from_are before [] = nil
  from_are before (x ∷ others) = both (rule.assignment_faults P before x) _ (assignment_are before x) (from_are (before ++ x.reference ∷ []) others)

pub faults_are : (P : List PlainAssignment) → AreOfText (rule.faults P)
faults_are P = from_are P [] P

pub first_is : (f : TextFault) (fs : List TextFault) → AreOfText (f ∷ fs) → OfText f.why
first_is f fs are = All-head (λ (f : TextFault). OfText f.why) f fs are
