-- The law of types, at every depth that is left and on lines of every level.
use Rattle.std.proofs.Common.{◌≡◌, ◌==◌, if◌then◌else◌, ℕ, zero, suc, ◌+◌, ◌-◌, ◌<◌, ◌≤◌, ◌⊎◌, inl, inr, Bool, true, false, ◌&&◌, ◌||◌, nat_le, bytes_eq, List, [], ◌∷◌, ◌++◌, length, refl, sym, ap, ap₂, ◌∙◌, subst, arith, codes, Option, Some, None, append_assoc, append-nil, length-append}
use Rattle.std.proofs.lemmas.List.Elements.{All-nil, All-cons, All-head}
use Rattle.base_trees.specs.Rose.{node, Roses, none, list_of}
use Rattle.module_print.specs.Notation.{class_range}
use Rattle.simple_types.specs.declared.simples.Class.{Class}
use Rattle.simple_types.specs.declared.simples.Class.TheVariants.{Any}
use Rattle.module_grammar.specs.Reading.{Found, Fails, Reader, byte_at, then_at, many_at}
use Rattle.module_grammar.specs.Shapes.{Sunk, AnyRest, never, IsFailed, IsUnread, BothFine, both_written, both_deep, EitherFine, either_deep, either_written}
use Rattle.module_grammar.specs.Laws.{Law}
use Rattle.module_grammar.proofs.WordLaws.{byte_law}
use Rattle.module_grammar.proofs.Then.{then_law}
use Rattle.module_grammar.proofs.Or.{or_law}
use Rattle.module_grammar.proofs.As.{Renames, as_law, restated, alike}
use Rattle.module_grammar.proofs.Sunken.{Opens, first_node, sunk_law}
use Rattle.module_text.specs.Names.{is_type_word, is_capital, is_small, is_reference, goes_on}
use Rattle.module_text.specs.Plain.{IsTypeMark, IsComponent, IsAlternative, IsItem}
use Rattle.module_text.specs.Texts
use Rattle.module_text.specs.Texts.{level_of_parts, type_mark_text, part_mark_text, part_marks_text, type_marks_text, type_text}
use Rattle.module_text.specs.Places.{placed_types, parts_at}
use Rattle.module_text.specs.declared.marks.PartMark.{PartMark}
use Rattle.module_text.specs.declared.marks.PartMarkKind.{PartMarkKind}
use Rattle.module_text.specs.declared.marks.PartMarkKind.TheVariants as part_mark
use Rattle.module_text.specs.declared.marks.TypeMark.{TypeMark}
use Rattle.module_text.specs.declared.marks.TypeMarkKind.{TypeMarkKind}
use Rattle.module_text.specs.declared.marks.TypeMarkKind.TheVariants as type_mark
use Rattle.module_text.specs.declared.values.Absence.TheVariants as absence
use Rattle.module_text.specs.declared.types.PlainName.{PlainName}
use Rattle.module_text.specs.declared.types.PlainPart.{PlainPart}
use Rattle.module_text.specs.declared.types.PlainForm.{PlainForm}
use Rattle.module_text.specs.declared.types.PlainForm.TheVariants as form
use Rattle.module_text.specs.declared.types.PlainLabel.{PlainLabel}
use Rattle.module_grammar.specs.NameReading.{piece_at, begun, identifier_at, name_here}
use Rattle.module_grammar.specs.TypeReading
use Rattle.module_grammar.specs.TypeReading.{Typed, TypedPart, Form, label_at, component_at, alternative_at, item_at, tail_at, plain_reference_at, form_at, typed_of, start_at, type_at}
use Rattle.module_grammar.specs.TypeDepth.{paired, start_told, typed_part_text, part_deep, tail_deep, form_deep, type_deep}
use Rattle.module_grammar.proofs.Booleans.{both, is_other, capital_no_small}
use Rattle.module_grammar.proofs.Unread.{as_fails, then_fails, before_fails, word_fails}
use Rattle.module_grammar.proofs.NameLaws.{NameStops, name_text, plain_reference_law}
use Rattle.module_text.specs.Ranks.{rank_of_type_mark}
use Rattle.module_grammar.proofs.MarkLaws.{RankFrom, type_kind_text, type_text_is, own_mark_law, own_mark_unread, NoMark, TypeMarksHere, type_marks_law, PartMarksHere, PartMarkStops, part_marks_end}
use Rattle.module_grammar.proofs.AbsenceLaws.{TypeStops, PartStops}
use Rattle.module_grammar.proofs.PartLaws.{IsTypeHere, TypeLaw, PartHere, component_law, alternative_law, item_law}
use Rattle.module_grammar.proofs.FormLaws.{word_is, TailFine, tail_text, tail_law}
use Rattle.module_grammar.proofs.BlockLaws.{block_text}
use Rattle.module_grammar.proofs.TreeForms.{FormHere, WordFine, whole_text, form_renames}

-- ---- first letters

pub reference_first : (name : List ℕ) → is_reference name ≡ true → (b : ℕ) × (bs : List ℕ) × (is_capital b ≡ true) × (name ≡ b ∷ bs)
reference_first [] e = absurd cc
reference_first (b ∷ bs) e = (b, bs, (both (is_capital b) (goes_on false bs) e).0, refl)

-- a form begins with a capital letter
abbrev Capital : List ℕ → Type 0
Capital l = (b : ℕ) × (bs : List ℕ) × (is_capital b ≡ true) × (l ≡ b ∷ bs)

pub form_first : (levels place : ℕ) (x : Form) → FormHere levels place x → Capital (whole_text levels x)
form_first levels place x h =
    let w = (form_renames 0 levels (λ t. None) (λ t. None)).onto place x h in
    let r = reference_first w.0.0.name w.1.0.0 in
    let e = (form_renames 0 levels (λ t. None) (λ t. None)).write place w.0 w.1 in
    (r.0, r.1 ++ tail_text levels w.0.1, r.2, ap (whole_text levels) (sym w.2) ∙ e ∙ ap (λ l. l ++ tail_text levels w.0.1) r.3)

pub capital_no_mark : (b : ℕ) (bs : List ℕ) → is_capital b ≡ true → NoMark (b ∷ bs)
capital_no_mark b bs e = λ place. word_fails 91 [] place b bs (is_other is_capital b 91 e refl)

pub form_no_mark : (levels place : ℕ) (x : Form) (rest : List ℕ) → FormHere levels place x → NoMark (whole_text levels x ++ rest)
form_no_mark levels place x rest h =
    let r = form_first levels place x h in
    subst (λ l. NoMark (l ++ rest)) (sym r.3) (capital_no_mark r.0 (r.1 ++ rest) r.2)

-- ---- a type: its instructions, and its form

node_is : (l k : PlainLabel) (ts us : Roses PlainLabel) → node l ts ≡ node k us → (l ≡ k) × (ts ≡ us)
node_is l k ts us e = ((cc), (cc))

abbrev label_of : ℕ → List TypeMark → PlainForm → PlainLabel
label_of at marks f = record { at = at; marks = marks; form = f }

module _ (levels : ℕ) where
  abbrev TypedFine : ℕ → List TypeMark × Form → Type 0
  TypedFine = BothFine TypeMarksHere type_marks_text (λ marks. FormHere levels)

  abbrev typed_text : List TypeMark × Form → List ℕ
  typed_text = both_written type_marks_text (λ marks. whole_text levels)

  pub typed_fine : (place : ℕ) (x : List TypeMark × Form) → TypedFine place x → IsTypeHere levels place (typed_of place x)
  typed_fine place x f = (
    (f.0.0, f.1.form_fine, f.1.kids, f.1.types),
    ap₂ (λ m g. node (label_of place m g) (placed_types (level_of_parts levels x.1.0) (parts_at levels (place + length (type_marks_text x.0)) x.1.0) (Texts.parts_of x.1.0) x.1.1)) f.0.1 f.1.places
        ∙ ap (λ ts. node (label_of place x.0 x.1.0) ts) f.1.kids_places,
  )

  pub onto_typed : (place : ℕ) (t : Typed) → IsTypeHere levels place t → (x : List TypeMark × Form) × TypedFine place x × (typed_of place x ≡ t)
  onto_typed place (node l ts) f =
      let h = node_is _ l _ ts f.1 in (
        (l.marks, (l.form, ts)),
        ((f.0.0, ap (λ (k : PlainLabel). k.marks) h.0), record { form_fine = f.0.1; kids = f.0.2; types = f.0.3; places = ap (λ (k : PlainLabel). k.form) h.0; kids_places = h.1 }),
        ap (λ at. node (label_of at l.marks l.form) ts) (ap (λ (k : PlainLabel). k.at) h.0),
      )

  pub typed_renames : (most depth : ℕ) → Renames TypedFine (both_deep type_marks_text never (λ marks x. form_deep most levels (type_deep most depth levels) (type_deep most depth (suc levels)) x.0 x.1)) typed_text (IsTypeHere levels) (type_deep most (suc depth) levels) (type_text levels) typed_of
  typed_renames most depth = record { fine = typed_fine; deep = λ place x f. refl; write = λ place x f. refl; onto = onto_typed }

-- ---- what comes before a type

-- the instructions of a part end before a type
pub before_type : (levels place : ℕ) (t : Typed) (rest : List ℕ) → IsTypeHere levels place t → PartMarkStops (type_text levels t ++ rest)
before_type levels place t rest f =
    let x = onto_typed levels place t f in
    subst (λ l. PartMarkStops l) (sym (ap (λ k. type_text levels k ++ rest) (sym x.2) ∙ append_assoc (type_marks_text x.0.0) (whole_text levels x.0.1) rest))
    (part_marks_end place x.0.0 (whole_text levels x.0.1 ++ rest) (form_no_mark levels (place + length (type_marks_text x.0.0)) x.0.1 rest x.1.1))

-- no label stands there
pub bracket_no_label : (l : List ℕ) → IsUnread label_at (91 ∷ l)
bracket_no_label l = λ place. tt

pub letter_no_label : (b : ℕ) (l : List ℕ) → is_capital b ≡ true → IsUnread label_at (b ∷ l)
letter_no_label b l e = λ place.
    before_fails identifier_at (codes " ") place (b ∷ l)
    (as_fails begun (then_at (byte_at is_small) (λ c. many_at piece_at)) place (b ∷ l) (then_fails (byte_at is_small) (λ c. many_at piece_at) place (b ∷ l)
    (subst (λ t. IsFailed (if t then Found b 1 1 else Fails 0)) (sym (capital_no_small b e)) tt)))

pub part_mark_no_label : (kind : PartMarkKind) (l : List ℕ) → IsUnread label_at (part_mark_text kind ++ l)
part_mark_no_label part_mark.Attribute l = λ place. tt
part_mark_no_label _ l = λ place. tt

type_mark_no_label : (kind : TypeMarkKind) (l : List ℕ) → IsUnread label_at (type_mark_text kind ++ l)
type_mark_no_label type_mark.UseNil l = λ place. tt
type_mark_no_label _ l = λ place. tt

marks_no_label : (ms : List TypeMark) (l : List ℕ) → IsUnread label_at l → IsUnread label_at (type_marks_text ms ++ l)
marks_no_label [] l h = h
marks_no_label (m ∷ ms) l h = subst (λ k. IsUnread label_at k) (sym (append_assoc (type_mark_text m.kind) (type_marks_text ms) l)) (type_mark_no_label m.kind (type_marks_text ms ++ l))

pub part_marks_no_label : (ms : List PartMark) (l : List ℕ) → IsUnread label_at l → IsUnread label_at (part_marks_text ms ++ l)
part_marks_no_label [] l h = h
part_marks_no_label (m ∷ ms) l h = subst (λ k. IsUnread label_at k) (sym (append_assoc (part_mark_text m.kind) (part_marks_text ms) l)) (part_mark_no_label m.kind (part_marks_text ms ++ l))

pub type_no_label : (levels place : ℕ) (t : Typed) (rest : List ℕ) → IsTypeHere levels place t → IsUnread label_at (type_text levels t ++ rest)
type_no_label levels place t rest f =
    let x = onto_typed levels place t f in
    let r = form_first levels (place + length (type_marks_text x.0.0)) x.0.1 x.1.1 in
    subst (λ l. IsUnread label_at l) (sym (ap (λ k. type_text levels k ++ rest) (sym x.2) ∙ append_assoc (type_marks_text x.0.0) (whole_text levels x.0.1) rest))
    (marks_no_label x.0.0 (whole_text levels x.0.1 ++ rest) (subst (λ l. IsUnread label_at (l ++ rest)) (sym r.3) (letter_no_label r.0 (r.1 ++ rest) r.2)))

-- nor before an item
pub item_no_label : (levels place : ℕ) (x : List PartMark × Typed) (rest : List ℕ) → BothFine PartMarksHere part_marks_text (λ marks. IsTypeHere levels) place x → IsUnread label_at ((part_marks_text x.0 ++ type_text levels x.1) ++ rest)
item_no_label levels place x rest f = subst (λ l. IsUnread label_at l) (sym (append_assoc (part_marks_text x.0) (type_text levels x.1) rest)) (part_marks_no_label x.0 (type_text levels x.1 ++ rest) (type_no_label levels (place + length (part_marks_text x.0)) x.1 rest f.1))

-- ---- the law

-- a type at each place
pub some_type : (levels place : ℕ) → (t : Typed) × IsTypeHere levels place t
some_type levels place = (node (label_of place [] form.Bool) none, (((refl, All-nil (λ (m : TypeMark). IsTypeMark m.kind)), tt, refl, tt), refl))

abbrev a_part : ℕ → PlainPart
a_part place = record { at = place; identifier = 97 ∷ []; marks = []; fixed = None; absence = absence.Never }

pub some_component : (levels place : ℕ) → (x : TypedPart) × PartHere IsComponent levels place x
some_component levels place =
    let t = some_type levels ((place + 2) + 0) in
    ((a_part place, t.0), (record { identifier = refl; marks = refl; fixed = tt; absence = tt }, t.1.0, refl, t.1.1))

pub some_alternative : (levels place : ℕ) → (x : TypedPart) × PartHere IsAlternative levels place x
some_alternative levels place =
    let t = some_type levels ((place + 2) + 0) in
    ((a_part place, t.0), (record { identifier = refl; marks = refl; bare = (refl, refl) }, t.1.0, refl, t.1.1))

pub some_item : (levels place : ℕ) → (x : TypedPart) × PartHere IsItem levels place x
some_item levels place =
    let t = some_type levels ((place + 2) + 0) in
    ((a_part place, t.0), (record { identifier = inr refl; marks = refl; bare = (refl, refl) }, t.1.0, refl, t.1.1))

-- what stands behind a word ends it
pub tail_ends : (levels place : ℕ) (w : PlainName) (x : Form) (rest : List ℕ) → TailFine levels w place x → TypeStops rest → NameStops (tail_text levels x ++ rest)
tail_ends levels place w (form.Bool, ts) rest f h = h.name
tail_ends levels place w (form.Int None, ts) rest f h = h.name
tail_ends levels place w (form.Int (Some r), ts) rest f h = record { item = tt; fails = λ q. tt }
tail_ends levels place w (form.Numbers items, ts) rest f h = record { item = tt; fails = λ q. tt }
tail_ends levels place w (form.Words names, ts) rest f h = record { item = tt; fails = λ q. tt }
tail_ends levels place w (form.Utf8 (Some size) class, ts) rest f h = record { item = tt; fails = λ q. tt }
tail_ends levels place w (form.Utf8 None class, ts) rest f h = class_ends class
  where
    class_ends : (class : Class) → NameStops (class_range class ++ rest)
    class_ends Any = h.name
    class_ends _ = record { item = tt; fails = λ q. tt }
tail_ends levels place w (form.Sequence parts, ts) rest f h = block_ends (paired parts (list_of ts))
  where
    block_ends : (xs : List TypedPart) → NameStops (block_text levels xs ++ rest)
    block_ends [] = record { item = tt; fails = λ q. tt }
    block_ends (x ∷ xs) = record { item = tt; fails = λ q. tt }
tail_ends levels place w (form.Choice parts, ts) rest f h = block_ends (paired parts (list_of ts))
  where
    block_ends : (xs : List TypedPart) → NameStops (block_text levels xs ++ rest)
    block_ends [] = record { item = tt; fails = λ q. tt }
    block_ends (x ∷ xs) = record { item = tt; fails = λ q. tt }
tail_ends levels place w (form.SequenceOf None part, ts) rest f h = record { item = tt; fails = λ q. tt }
tail_ends levels place w (form.SequenceOf (Some size) part, ts) rest f h = record { item = tt; fails = λ q. tt }
tail_ends levels place w (form.Ref r, ts) rest f h = h.name

-- each word may stand alone
some_tail : (levels here : ℕ) (w : PlainName) → (x : Form) × TailFine levels w here x
some_tail levels here w = by (TypeReading.word_of w.name) refl
  where
    by : (k : TypeReading.Word) → TypeReading.word_of w.name ≡ k → (x : Form) × TailFine levels w here x
    by TypeReading.Boolean e = ((form.Bool, none), (word_is w.name TypeReading.Boolean e, refl))
    by TypeReading.Integer e = ((form.Int None, none), (word_is w.name TypeReading.Integer e, (tt, refl), refl))
    by TypeReading.Utf8String e = ((form.Utf8 None Any, none), (word_is w.name TypeReading.Utf8String e, (tt, refl), refl))
    by TypeReading.Enumerated e = ((form.Ref w, none), (refl, ap is_type_word (word_is w.name TypeReading.Enumerated e), refl))
    by TypeReading.Sequence e = ((form.Ref w, none), (refl, ap is_type_word (word_is w.name TypeReading.Sequence e), refl))
    by TypeReading.Choice e = ((form.Ref w, none), (refl, ap is_type_word (word_is w.name TypeReading.Choice e), refl))
    by TypeReading.Other e = ((form.Ref w, none), (refl, word_is w.name TypeReading.Other e, refl))

module _ (most levels : ℕ) (here_deep : Typed → Option Sunk) (here : Reader Typed) (here_law : TypeLaw levels here_deep here) (inside_deep : Typed → Option Sunk) (inside : Reader Typed) (inside_law : TypeLaw (suc levels) inside_deep inside) where
  pub component : Law (PartHere IsComponent (suc levels)) (part_deep most (suc levels) inside_deep) (typed_part_text (suc levels)) PartStops (component_at most inside)
  component = component_law most (suc levels) inside_deep inside inside_law (some_type (suc levels)) (before_type (suc levels))

  pub alternative : Law (PartHere IsAlternative (suc levels)) (part_deep most (suc levels) inside_deep) (typed_part_text (suc levels)) TypeStops (alternative_at inside)
  alternative = alternative_law most (suc levels) inside_deep inside inside_law (some_type (suc levels)) (before_type (suc levels))

  pub item : Law (PartHere IsItem levels) (part_deep most levels here_deep) (typed_part_text levels) TypeStops (item_at here)
  item = item_law most levels here_deep here here_law (some_type levels) (before_type levels) (item_no_label levels)

  word_tail_law : Law (WordFine levels) (both_deep name_text never (λ w x. tail_deep most levels here_deep inside_deep x.0 x.1)) (both_written name_text (λ w. tail_text levels)) TypeStops (then_at plain_reference_at (λ word. tail_at most levels here inside word (TypeReading.word_of word.name)))
  word_tail_law = then_law {Follow = TypeStops} plain_reference_law
      (λ place w f. tail_law most levels here_deep here inside_deep inside component alternative item (some_component (suc levels)) (some_alternative (suc levels)) (some_item levels) w (TypeReading.word_of w.name) refl)
      (λ place there w f. some_tail levels there w)
      (λ place there w x rest f g h. tail_ends levels there w x rest g h) (λ place there w x rest f g h. h)

  pub form_law : Law (FormHere levels) (λ x. form_deep most levels here_deep inside_deep x.0 x.1) (whole_text levels) TypeStops (form_at most levels here inside)
  form_law = as_law word_tail_law (form_renames most levels here_deep inside_deep)

some_form : (levels place : ℕ) → (x : Form) × FormHere levels place x
some_form levels place = ((form.Bool, none), record { form_fine = tt; kids = refl; types = tt; places = refl; kids_places = refl })

typed_law : (most depth levels : ℕ) → TypeLaw levels (type_deep most depth levels) (type_at most depth levels) → TypeLaw (suc levels) (type_deep most depth (suc levels)) (type_at most depth (suc levels)) → TypeLaw levels (type_deep most (suc depth) levels) (type_at most (suc depth) levels)
typed_law most depth levels here_law inside_law = as_law
    (then_law {Follow = TypeStops} type_marks_law
    (λ place ms f. form_law most levels (type_deep most depth levels) (type_at most depth levels) here_law (type_deep most depth (suc levels)) (type_at most depth (suc levels)) inside_law)
    (λ place there ms f. some_form levels there) (λ place there ms x rest f g h. form_no_mark levels there x rest g) (λ place there ms x rest f g h. h))
    (typed_renames levels most depth)

-- ---- where a type would begin that lies too deep

abbrev Start : Type 0
Start = TypeMarkKind ⊎ ℕ

abbrev IsCapital : ℕ → ℕ → Type 0
IsCapital place b = is_capital b ≡ true

abbrev one_byte : ℕ → List ℕ
one_byte b = b ∷ []

abbrev StartFine : ℕ → Start → Type 0
StartFine = EitherFine (RankFrom 4) IsCapital

abbrev start_text : Start → List ℕ
start_text = either_written type_kind_text one_byte

start_deep_none : (x : Start) → never x ≡ either_deep never never x
start_deep_none (inl kind) = refl
start_deep_none (inr b) = refl

pub start_law : Law StartFine never start_text AnyRest start_at
start_law = restated
    (or_law {Follow = AnyRest} own_mark_law (byte_law is_capital (65, refl)) (λ place a rest f h. tt) (λ place a rest f h. tt) (λ place b rest f h. own_mark_unread place (b ∷ rest) (capital_no_mark b rest f place)))
    (alike (λ place x f. f) (λ place x f. f) (λ place x f. start_deep_none x) (λ place x f. refl))

pub told_is : (kind : TypeMarkKind) → length (type_mark_text kind) - 1 ≡ length (type_kind_text kind)
told_is kind = omega (arith, ap length (type_text_is kind), length-append (type_kind_text kind) (codes " "))

kind_some : (kind : TypeMarkKind) → 0 < length (type_kind_text kind)
kind_some type_mark.UseNil = omega arith
kind_some _ = omega arith

four_ranks : (kind : TypeMarkKind) → 4 ≤ rank_of_type_mark kind
four_ranks type_mark.UseNil = omega arith
four_ranks _ = omega arith

pub starts : (most levels : ℕ) → Opens StartFine start_text (IsTypeHere levels) (type_deep most 0 levels) (type_text levels)
starts most levels = record { some = some; opened = opened; closed = closed }
  where
    some : (place : ℕ) (o : Start) → StartFine place o → 0 < length (start_text o)
    some place (inl kind) f = kind_some kind
    some place (inr b) f = omega arith

    by : (place : ℕ) (marks : List TypeMark) (x : Form) → TypeMarksHere place marks → FormHere levels (place + length (type_marks_text marks)) x
        → (o : Start) × (beyond : List ℕ) × StartFine place o × (type_marks_text marks ++ whole_text levels x ≡ start_text o ++ beyond) × (Some (first_node (start_told marks)) ≡ Some (first_node (length (start_text o))))
    by place [] x f g = let r = form_first levels (place + 0) x g in (inr r.0, r.1, r.2, r.3, refl)
    by place (m ∷ ms) x f g = (
      inl m.kind,
      codes " " ++ (type_marks_text ms ++ whole_text levels x),
      (four_ranks m.kind, All-head (λ (k : TypeMark). IsTypeMark k.kind) m ms f.0.1),
      ap (λ l. (l ++ type_marks_text ms) ++ whole_text levels x) (type_text_is m.kind) ∙ four (type_kind_text m.kind) (codes " ") (type_marks_text ms) (whole_text levels x),
      ap (λ n. Some (first_node n)) (told_is m.kind),
    )
      where
        four : (a b c d : List ℕ) → ((a ++ b) ++ c) ++ d ≡ a ++ (b ++ (c ++ d))
        four a b c d = simp append_assoc

    opened : (place : ℕ) (t : Typed) → IsTypeHere levels place t → (o : Start) × (beyond : List ℕ) × StartFine place o × (type_text levels t ≡ start_text o ++ beyond) × (type_deep most 0 levels t ≡ Some (first_node (length (start_text o))))
    opened place t f =
        let x = onto_typed levels place t f in
        subst (λ k. (o : Start) × (beyond : List ℕ) × StartFine place o × (type_text levels k ≡ start_text o ++ beyond) × (type_deep most 0 levels k ≡ Some (first_node (length (start_text o))))) x.2 (by place x.0.0 x.0.1 x.1.0 x.1.1)

    not_word : (b : ℕ) (bs : List ℕ) (c d : ℕ) → bytes_eq (b ∷ []) (c ∷ d ∷ bs) ≡ false
    not_word b bs c d = last (b == c)
      where
        last : (t : Bool) → t && false ≡ false
        last true = refl
        last false = refl

    letter_no_word : (b : ℕ) → is_type_word (b ∷ []) ≡ false
    letter_no_word b =
        ap (λ t. (t || bytes_eq (b ∷ []) (codes "INTEGER")) || bytes_eq (b ∷ []) (codes "UTF8String")) (not_word b (codes "OLEAN") 66 79)
        ∙ ap (λ t. t || bytes_eq (b ∷ []) (codes "UTF8String")) (not_word b (codes "TEGER") 73 78)
        ∙ not_word b (codes "F8String") 85 84

    closed : (place : ℕ) (o : Start) → StartFine place o → (t : Typed) × (beyond : List ℕ) × IsTypeHere levels place t × (type_text levels t ≡ start_text o ++ beyond) × (type_deep most 0 levels t ≡ Some (first_node (length (start_text o))))
    closed place (inl kind) f =
        let m : TypeMark = record { at = place; kind = kind } in (
          node (label_of place (m ∷ []) form.Bool) none,
          codes " BOOLEAN",
          (((ranks kind, All-cons (λ (k : TypeMark). IsTypeMark k.kind) m [] f.1 (All-nil (λ (k : TypeMark). IsTypeMark k.kind))), tt, refl, tt), refl),
          ap (λ l. (l ++ []) ++ codes "BOOLEAN") (type_text_is kind) ∙ ends (type_kind_text kind),
          ap (λ n. Some (first_node n)) (told_is kind),
        )
      where
        ends : (l : List ℕ) → ((l ++ codes " ") ++ []) ++ codes "BOOLEAN" ≡ l ++ codes " BOOLEAN"
        ends l = ap (λ k. k ++ codes "BOOLEAN") (append-nil (l ++ codes " ")) ∙ append_assoc l (codes " ") (codes "BOOLEAN")

        ranks : (kind : TypeMarkKind) → nat_le 0 (rank_of_type_mark kind) && true ≡ true
        ranks type_mark.UseNil = refl
        ranks _ = refl
    closed place (inr b) f = (
      node (label_of place [] (form.Ref (name_here place (b ∷ [])))) none,
      [],
      (((refl, All-nil (λ (k : TypeMark). IsTypeMark k.kind)), (letter_name b f, letter_no_word b), refl, tt), ap (λ p. node (label_of place [] (form.Ref (name_here p (b ∷ [])))) none) (omega arith)),
      refl,
      refl,
    )
      where
        letter_name : (b : ℕ) → is_capital b ≡ true → is_reference (b ∷ []) ≡ true
        letter_name b e = ap (λ t. t && true) e

pub type_law : (most depth levels : ℕ) → TypeLaw levels (type_deep most depth levels) (type_at most depth levels)
type_law most zero levels = sunk_law start_law (starts most levels)
type_law most (suc depth) levels = typed_law most depth levels (type_law most depth levels) (type_law most depth (suc levels))
