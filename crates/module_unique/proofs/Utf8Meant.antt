-- The module that a text without a fault tells has texts that are UTF-8.
use Rattle.std.proofs.Common.{◌≡◌, ℕ, suc, ◌<◌, ◌^◌, ◌+◌, Bool, true, false, Option, Some, None, List, [], ◌∷◌, map, length, refl, sym, subst, arith}
use Rattle.std.specs.Prelude.{All, IsUtf8, unwrap_or}
use Rattle.std.specs.List.{list_all}
use Rattle.std.specs.Str.{is_utf8}
use Rattle.std.proofs.lemmas.List.Elements.{All-nil, All-cons}
use Rattle.std.proofs.lemmas.Str.{IsUtf8-from_is_utf8}
use Rattle.base_trees.specs.Rose.{Rose, node, Roses, none, more, length_all}
use Rattle.simple_types.specs.declared.simples.Class.{Class}
use Rattle.asn_types.specs.declared.types.Component.{Component}
use Rattle.asn_types.specs.declared.modules.Assignment.{Assignment}
use Rattle.asn_types.specs.Parts as meant
use Rattle.module_text.specs.declared.marks.PartMark.{PartMark}
use Rattle.module_text.specs.declared.marks.PartMarkKind.{PartMarkKind}
use Rattle.module_text.specs.declared.marks.PartMarkKind.TheVariants as part_mark
use Rattle.module_text.specs.declared.marks.TypeMark.{TypeMark}
use Rattle.module_text.specs.declared.marks.TypeMarkKind.{TypeMarkKind}
use Rattle.module_text.specs.declared.marks.TypeMarkKind.TheVariants as type_mark
use Rattle.module_text.specs.declared.values.PlainOctets.{PlainOctets}
use Rattle.module_text.specs.declared.values.Absence.{Absence}
use Rattle.module_text.specs.declared.values.Absence.TheVariants as absence
use Rattle.module_text.specs.declared.types.PlainName.{PlainName}
use Rattle.module_text.specs.declared.types.PlainPart.{PlainPart}
use Rattle.module_text.specs.declared.types.PlainForm.{PlainForm}
use Rattle.module_text.specs.declared.types.PlainForm.TheVariants as form
use Rattle.module_text.specs.declared.types.PlainLabel.{PlainLabel}
use Rattle.module_text.specs.declared.modules.PlainAssignment.{PlainAssignment}
use Rattle.module_text.specs.Plain.{IsPlain}
use Rattle.module_text.specs.Texts.{parts_of, text_of}
use Rattle.module_text.specs.declared.spots.Spot.{Spot}
use Rattle.module_text.specs.declared.spots.Spot.TheVariants.{Elsewhere}
use Rattle.module_text.specs.Told.{Bounds, Sizes, range_of, sizes_of, words_of}
use Rattle.module_text.specs.Simple.{is_order_item}
use Rattle.module_text.specs.Resolving.{resolve}
use Rattle.module_text.specs.Defaults.{octets_of}
use Rattle.module_text.specs.Marks.{next_item}
use Rattle.module_text.specs.Faults.{part_spot, faults}
use Rattle.module_text.specs.Meaning.{part_mark_meant, part_marks_meant, type_mark_meant, type_marks_meant, words_meant, int_meant, utf8_meant, list_meant, component_meant, components_meant, item_meant, form_meant, type_meant, types_meant, assignment_meant, module_meant}
use Rattle.module_read.specs.Ready.{IsPartMarkReady, ArePartMarksReady, IsTypeMarkReady, AreTypeMarksReady, HasWords, IsText, spelling_of, standard_told, IsStandardReady, IsPartReady, IsTypeReady, ArePartsReady, IsAssignmentReady, IsReady}
use Rattle.module_read.proofs.Readiness.{ready}
use Rattle.module_text.proofs.PrintedBounds.{and-first, and-second}
use Rattle.module_unique.specs.Utf8Texts.{MarkIsUtf8, WordsAreUtf8, StandardIsUtf8, PartIsUtf8, TypeIsUtf8, TypesAreUtf8, HasTexts}

-- ---- encoding instructions

part_mark_is : (generated : List ℕ) (kind : PartMarkKind) → IsPartMarkReady generated kind → MarkIsUtf8 (part_mark_meant generated kind)
part_mark_is generated part_mark.Attribute ready = tt
part_mark_is generated part_mark.Untagged ready = tt
part_mark_is generated (part_mark.Name name) ready = ready
part_mark_is generated (part_mark.Namespace space) ready = ready

part_marks_are : (generated : List ℕ) (marks : List PartMark) → ArePartMarksReady generated marks → All MarkIsUtf8 (part_marks_meant generated marks)
part_marks_are generated [] ready = All-nil MarkIsUtf8
part_marks_are generated (m ∷ ms) ready =
    All-cons MarkIsUtf8 (part_mark_meant generated m.kind) (part_marks_meant generated ms) (part_mark_is generated m.kind (ready 0 m (omega arith)))
    (part_marks_are generated ms (λ k d lt. ready (suc k) d (omega (arith, lt))))

type_mark_is : (spot : Spot) (f : PlainForm) (least : ℕ) (kind : TypeMarkKind) → IsTypeMarkReady spot f least kind → MarkIsUtf8 (type_mark_meant spot f kind)
type_mark_is spot f least type_mark.UseNil ready = tt
type_mark_is spot f least type_mark.EmbedValues ready = tt
type_mark_is spot f least type_mark.UseOrder ready = tt
type_mark_is spot f least type_mark.List ready = tt
type_mark_is spot f least type_mark.UseUnion ready = tt
type_mark_is spot f least type_mark.UseNumber ready = tt
type_mark_is spot f least type_mark.Replace ready = tt
type_mark_is spot f least type_mark.Collapse ready = tt
type_mark_is spot f least (type_mark.Text identifier text) ready = ready.0

type_marks_are : (spot : Spot) (f : PlainForm) (least : ℕ) (marks : List TypeMark) → AreTypeMarksReady spot f least marks → All MarkIsUtf8 (type_marks_meant spot f marks)
type_marks_are spot f least [] ready = All-nil MarkIsUtf8
type_marks_are spot f least (m ∷ ms) ready =
    All-cons MarkIsUtf8 (type_mark_meant spot f m.kind) (type_marks_meant spot f ms) (type_mark_is spot f least m.kind ready.0) (type_marks_are spot f (next_item spot f least m.kind) ms ready.1)

-- ---- words

each_word : (words : List (List ℕ)) → list_all is_utf8 words ≡ true → All IsUtf8 words
each_word [] e = All-nil IsUtf8
each_word (word ∷ words) e =
    All-cons IsUtf8 word words (IsUtf8-from_is_utf8 word (and-first (is_utf8 word) (list_all is_utf8 words) e)) (each_word words (and-second (is_utf8 word) (list_all is_utf8 words) e))

words_are : (order : Bool) (marks : List TypeMark) (is : List PlainName) → (order ≡ false → list_all is_utf8 (words_of marks is) ≡ true) → WordsAreUtf8 (words_meant order marks is)
words_are true marks is e = tt
words_are false marks is e = each_word (words_of marks is) (e refl)

-- ---- forms without parts

int_words : (o : Option Bounds) → WordsAreUtf8 (int_meant o)
int_words None = tt
int_words (Some b) = tt

utf8_words : (o : Option Sizes) (class : Class) → WordsAreUtf8 (utf8_meant o class)
utf8_words None class = tt
utf8_words (Some b) class = tt

list_words : (o : Option Sizes) (part : Component) → WordsAreUtf8 (list_meant o part)
list_words None part = tt
list_words (Some b) part = tt

int_parts : (o : Option Bounds) → All PartIsUtf8 (meant.parts_of (int_meant o))
int_parts None = All-nil PartIsUtf8
int_parts (Some b) = All-nil PartIsUtf8

utf8_parts : (o : Option Sizes) (class : Class) → All PartIsUtf8 (meant.parts_of (utf8_meant o class))
utf8_parts None class = All-nil PartIsUtf8
utf8_parts (Some b) class = All-nil PartIsUtf8

words_parts : (order : Bool) (marks : List TypeMark) (is : List PlainName) → All PartIsUtf8 (meant.parts_of (words_meant order marks is))
words_parts true marks is = All-nil PartIsUtf8
words_parts false marks is = All-nil PartIsUtf8

list_parts : (o : Option Sizes) (part : Component) → PartIsUtf8 part → All PartIsUtf8 (meant.parts_of (list_meant o part))
list_parts None part is = All-cons PartIsUtf8 part [] is (All-nil PartIsUtf8)
list_parts (Some b) part is = All-cons PartIsUtf8 part [] is (All-nil PartIsUtf8)

-- ---- default and fixed values

text_is : (o : Option (List ℕ)) → IsText o → IsUtf8 (unwrap_or o [])
text_is None is = absurd is
text_is (Some text) is = is

standard_is : (t : Rose PlainLabel) (fixed : Option PlainOctets) (a : Absence) → IsStandardReady t fixed a → StandardIsUtf8 (standard_told t fixed a)
standard_is t (Some octets) a ready = text_is (octets_of octets.digits) ready
standard_is t None (absence.Default v) ready = text_is (spelling_of t v) ready
standard_is t None absence.Optional ready = tt
standard_is t None absence.Never ready = tt

module _ (P : List PlainAssignment) where
  component_is : (spot : Spot) (part : PlainPart) (t : Rose PlainLabel) → IsPartReady P spot part t → PartIsUtf8 (component_meant P spot part t)
  component_is spot part t ready = record {
    marks = part_marks_are part.identifier part.marks ready.marks;
    standard = subst StandardIsUtf8 (sym ready.meant) (standard_is (resolve P t) part.fixed part.absence ready.standard);
  }

  components_are : (spot : Spot) (l : PlainLabel) (i : ℕ) (parts : List PlainPart) (ts : Roses PlainLabel) → ArePartsReady P spot l i parts ts → All PartIsUtf8 (components_meant P spot l i parts ts)
  components_are spot l i [] ts ready = All-nil PartIsUtf8
  components_are spot l i (part ∷ parts) none ready = All-nil PartIsUtf8
  components_are spot l i (part ∷ parts) (more t ts) ready =
      All-cons PartIsUtf8 (component_meant P (part_spot spot l i part) part t) (components_meant P spot l (i + 1) parts ts)
      (component_is (part_spot spot l i part) part t ready.0) (components_are spot l (i + 1) parts ts ready.2)

  item_is : (spot : Spot) (l : PlainLabel) (part : PlainPart) (ts : Roses PlainLabel) → length_all ts ≡ 1 → ArePartsReady P spot l 0 (part ∷ []) ts → PartIsUtf8 (item_meant P (part_spot spot l 0 part) part ts)
  item_is spot l part none long ready = absurd (omega (arith, long))
  item_is spot l part (more t ts) long ready = component_is (part_spot spot l 0 part) part t ready.0

  form_words : (at : ℕ) (ms : List TypeMark) (f : PlainForm) (ts : Roses PlainLabel) (spot : Spot) → HasWords spot ms f → WordsAreUtf8 (form_meant P spot (record { at = at; marks = ms; form = f }) ts)
  form_words at ms form.Bool ts spot has = tt
  form_words at ms (form.Int r) ts spot has = int_words (range_of r)
  form_words at ms (form.Numbers items) ts spot has = tt
  form_words at ms (form.Words is) ts spot has = words_are (is_order_item spot) ms is has
  form_words at ms (form.Utf8 size class) ts spot has = utf8_words (sizes_of size) class
  form_words at ms (form.Sequence parts) ts spot has = tt
  form_words at ms (form.Choice parts) ts spot has = tt
  form_words at ms (form.SequenceOf size item) ts spot has = list_words (sizes_of size) _
  form_words at ms (form.Ref reference) ts spot has = tt

  form_parts : (at : ℕ) (ms : List TypeMark) (f : PlainForm) (ts : Roses PlainLabel) (spot : Spot) → length_all ts ≡ length (parts_of f) → ArePartsReady P spot (record { at = at; marks = ms; form = f }) 0 (parts_of f) ts
      → All PartIsUtf8 (meant.parts_of (form_meant P spot (record { at = at; marks = ms; form = f }) ts))
  form_parts at ms form.Bool ts spot long ready = All-nil PartIsUtf8
  form_parts at ms (form.Int r) ts spot long ready = int_parts (range_of r)
  form_parts at ms (form.Numbers items) ts spot long ready = All-nil PartIsUtf8
  form_parts at ms (form.Words is) ts spot long ready = words_parts (is_order_item spot) ms is
  form_parts at ms (form.Utf8 size class) ts spot long ready = utf8_parts (sizes_of size) class
  form_parts at ms (form.Sequence parts) ts spot long ready = components_are spot (record { at = at; marks = ms; form = form.Sequence parts }) 0 parts ts ready
  form_parts at ms (form.Choice parts) ts spot long ready = components_are spot (record { at = at; marks = ms; form = form.Choice parts }) 0 parts ts ready
  form_parts at ms (form.SequenceOf size item) ts spot long ready =
      let l : PlainLabel = record { at = at; marks = ms; form = form.SequenceOf size item } in
      list_parts (sizes_of size) (item_meant P (part_spot spot l 0 item) item ts) (item_is spot l item ts long ready)
  form_parts at ms (form.Ref reference) ts spot long ready = All-nil PartIsUtf8

  mutual
    type_is : (t : Rose PlainLabel) (spot : Spot) → IsTypeReady P spot t → TypeIsUtf8 (type_meant P spot t)
    type_is (node l ts) spot ready = (
      record {
        marks = type_marks_are spot l.form 0 l.marks ready.0.marks;
        words = form_words l.at l.marks l.form ts spot ready.0.words;
        parts = form_parts l.at l.marks l.form ts spot ready.0.parts ready.1;
      },
      types_are ts spot l 0 (parts_of l.form) ready.1,
    )

    types_are : (ts : Roses PlainLabel) (spot : Spot) (l : PlainLabel) (i : ℕ) (parts : List PlainPart) → ArePartsReady P spot l i parts ts → TypesAreUtf8 (types_meant P spot l i parts ts)
    types_are none spot l i parts ready = tt
    types_are (more t ts) spot l i [] ready = tt
    types_are (more t ts) spot l i (part ∷ parts) ready = (type_is t (part_spot spot l i part) ready.1, types_are ts spot l (i + 1) parts ready.2)

  abbrev OwnMarks : Assignment → Type 0
  OwnMarks a = All MarkIsUtf8 a.marks

  abbrev OwnBody : Assignment → Type 0
  OwnBody a = TypeIsUtf8 a.body

  all_marks : (entries : List PlainAssignment) → All (IsAssignmentReady P) entries → All OwnMarks (map (assignment_meant P) entries)
  all_marks [] ready = All-nil OwnMarks
  all_marks (a ∷ entries) ready =
      All-cons OwnMarks (assignment_meant P a) (map (assignment_meant P) entries) (part_marks_are a.reference a.marks (ready 0 a (omega arith)).0) (all_marks entries (λ k d lt. ready (suc k) d (omega (arith, lt))))

  all_bodies : (entries : List PlainAssignment) → All (IsAssignmentReady P) entries → All OwnBody (map (assignment_meant P) entries)
  all_bodies [] ready = All-nil OwnBody
  all_bodies (a ∷ entries) ready =
      All-cons OwnBody (assignment_meant P a) (map (assignment_meant P) entries) (type_is a.body Elsewhere (ready 0 a (omega arith)).1) (all_bodies entries (λ k d lt. ready (suc k) d (omega (arith, lt))))

pub texts_meant : (P : List PlainAssignment) → IsPlain P → faults P ≡ [] → length (text_of P) < 2 ^ 32 → HasTexts (module_meant P)
texts_meant P is e short = let all : IsReady P = ready P is e short in record { marks = all_marks P P all; bodies = all_bodies P P all }
