-- The laws of parts with their types.
use Rattle.std.proofs.Common.{◌≡◌, ℕ, ◌+◌, ◌<◌, ◌≤◌, ◌⊎◌, inl, inr, true, List, [], ◌∷◌, ◌++◌, length, refl, sym, ap, ◌∙◌, subst, arith, codes, Option, Some, None, option_map, append_assoc, append-nil}
use Rattle.module_print.specs.Printed.{labelled}
use Rattle.module_grammar.specs.Reading.{Reader, then_at}
use Rattle.module_grammar.specs.Shapes.{Sunk, moved, Anything, AnyRest, never, word_of, IsUnread, deeper, BothFine, both_written, both_deep, EitherFine, either_deep, either_written, before_word}
use Rattle.module_grammar.specs.Laws.{Law, Early}
use Rattle.module_grammar.proofs.Steps.{deeper_cases}
use Rattle.module_grammar.proofs.WordLaws.{nothing_law}
use Rattle.module_grammar.proofs.Then.{then_law}
use Rattle.module_grammar.proofs.Or.{or_law}
use Rattle.module_grammar.proofs.As.{Renames, as_law}
use Rattle.module_grammar.proofs.Fixed.{before_law}
use Rattle.module_grammar.proofs.Early.{then_early, as_early, never_early}
use Rattle.module_text.specs.Names.{is_identifier}
use Rattle.module_text.specs.Plain.{ArePartMarks, IsComponent, IsAlternative, IsItem, IsBare, IsType}
use Rattle.module_text.specs.Texts.{part_mark_text, part_marks_text, fixed_text, absence_text, type_text}
use Rattle.module_text.specs.Places.{type_at, placed_part, placed_type}
use Rattle.module_text.specs.declared.marks.PartMark.{PartMark}
use Rattle.module_text.specs.declared.marks.PartMarkKind.{PartMarkKind}
use Rattle.module_text.specs.declared.marks.PartMarkKind.TheVariants as part_mark
use Rattle.module_text.specs.declared.values.PlainOctets.{PlainOctets}
use Rattle.module_text.specs.declared.values.Absence.{Absence}
use Rattle.module_text.specs.declared.values.Absence.TheVariants as absence
use Rattle.module_text.specs.declared.types.PlainPart.{PlainPart}
use Rattle.module_grammar.specs.MarkReading.{part_marks_at}
use Rattle.module_grammar.specs.TypeReading.{Typed, TypedPart, label_at, component_of, ending_at, component_at, bare_of, alternative_at, label_or_none, item_label_at, item_at}
use Rattle.module_grammar.specs.TypeDepth.{typed_part_text, part_deep}
use Rattle.module_grammar.proofs.Unread.{first_of_front}
use Rattle.module_grammar.proofs.NameLaws.{itself, IsIdentifier, identifier_law}
use Rattle.module_grammar.proofs.MarkLaws.{PartMarksHere, PartMarkStops, part_marks_here_law}
use Rattle.module_grammar.proofs.AbsenceLaws.{TypeStops, PartStops, EndingFine, ending_text, ending_deep, ending_law, ending_early, ending_ends, ending_first}

-- ---- labels

abbrev label_text : List ℕ → List ℕ
label_text = before_word itself (codes " ")

label_law : Law IsIdentifier never label_text AnyRest label_at
label_law = before_law (codes " ") {Follow = AnyRest} identifier_law (λ place a rest f h. record { item = tt; fails = λ here. tt })

labelled_is : (name : List ℕ) → is_identifier name ≡ true → labelled name ≡ label_text name
labelled_is [] e = absurd cc
labelled_is (b ∷ bs) e = refl

-- ---- types in parts: with the law of their reader

abbrev pub IsTypeHere : ℕ → ℕ → Typed → Type 0
IsTypeHere levels place t = IsType t × (placed_type levels place t ≡ t)

abbrev pub TypeLaw : ℕ → (Typed → Option Sunk) → Reader Typed → Type 0
TypeLaw levels deep read = Law (IsTypeHere levels) deep (type_text levels) TypeStops read

abbrev pub TypeEarly : ℕ → (Typed → Option Sunk) → Reader Typed → Type 0
TypeEarly levels deep read = Early (IsTypeHere levels) deep (type_text levels) read

-- a part of a sort with its type, where they stand
abbrev pub PartHere : (PlainPart → Type 0) → ℕ → ℕ → TypedPart → Type 0
PartHere P levels place x = P x.0 × IsType x.1 × (placed_part place x.0 (type_text levels x.1) ≡ x.0) × (placed_type levels (type_at place x.0) x.1 ≡ x.1)

abbrev make : ℕ → List ℕ → List PartMark → Option PlainOctets → Absence → PlainPart
make at identifier marks fixed absence = record { at = at; identifier = identifier; marks = marks; fixed = fixed; absence = absence }

same_part : (at : ℕ) (identifier : List ℕ) (m n : List PartMark) (f g : Option PlainOctets) (a b : Absence) → m ≡ n → f ≡ g → a ≡ b → make at identifier m f a ≡ make at identifier n g b
same_part at identifier m n f g a b p q r = ap (λ k. make at identifier k f a) p ∙ ap (λ k. make at identifier n k a) q ∙ ap (λ k. make at identifier n g k) r

part_fields : (at at' : ℕ) (identifier : List ℕ) (m n : List PartMark) (f g : Option PlainOctets) (a b : Absence) → make at identifier m f a ≡ make at' identifier n g b → (at ≡ at') × (m ≡ n) × (f ≡ g) × (a ≡ b)
part_fields at at' identifier m n f g a b e = (ap (λ (p : PlainPart). p.at) e, ap (λ (p : PlainPart). p.marks) e, ap (λ (p : PlainPart). p.fixed) e, ap (λ (p : PlainPart). p.absence) e)

module _ (most levels : ℕ) (deep : Typed → Option Sunk) (type : Reader Typed) (law : TypeLaw levels deep type) (some : (place : ℕ) → (t : Typed) × IsTypeHere levels place t)
    (before_type : (place : ℕ) (t : Typed) (rest : List ℕ) → IsTypeHere levels place t → PartMarkStops (type_text levels t ++ rest)) where
  -- ---- components

  abbrev RestFine : ℕ → Typed × (Option PlainOctets × Absence) → Type 0
  RestFine = BothFine (IsTypeHere levels) (type_text levels) (λ t. EndingFine)

  abbrev rest_text : Typed × (Option PlainOctets × Absence) → List ℕ
  rest_text = both_written (type_text levels) (λ t. ending_text)

  abbrev rest_deep : Typed × (Option PlainOctets × Absence) → Option Sunk
  rest_deep = both_deep (type_text levels) deep (λ t. ending_deep most)

  abbrev Body : Type 0
  Body = List PartMark × (Typed × (Option PlainOctets × Absence))

  abbrev BodyFine : ℕ → Body → Type 0
  BodyFine = BothFine PartMarksHere part_marks_text (λ marks. RestFine)

  abbrev body_text : Body → List ℕ
  body_text = both_written part_marks_text (λ marks. rest_text)

  abbrev body_deep : Body → Option Sunk
  body_deep = both_deep part_marks_text never (λ marks. rest_deep)

  abbrev Whole : Type 0
  Whole = List ℕ × Body

  abbrev WholeFine : ℕ → Whole → Type 0
  WholeFine = BothFine IsIdentifier label_text (λ name. BodyFine)

  abbrev whole_text : Whole → List ℕ
  whole_text = both_written label_text (λ name. body_text)

  abbrev whole_deep : Whole → Option Sunk
  whole_deep = both_deep label_text never (λ name. body_deep)

  rest_law : Law RestFine rest_deep rest_text PartStops (then_at type (λ t. ending_at most))
  rest_law = then_law {Follow = PartStops} law (λ place t f. ending_law most) (λ place here t f. ((None, absence.Never), ((tt, refl), (tt, refl)))) (λ place here t x rest f g h. ending_ends x.0 x.1 rest h) (λ place here t x rest f g h. h)

  some_rest : (place : ℕ) → (x : Typed × (Option PlainOctets × Absence)) × RestFine place x
  some_rest place = let t = some place in ((t.0, (None, absence.Never)), (t.1, ((tt, refl), (tt, refl))))

  marks_end : (place : ℕ) (t : Typed) (l rest : List ℕ) → IsTypeHere levels place t → PartMarkStops ((type_text levels t ++ l) ++ rest)
  marks_end place t l rest f = subst PartMarkStops (sym (append_assoc (type_text levels t) l rest)) (before_type place t (l ++ rest) f)

  body_law : Law BodyFine body_deep body_text PartStops (then_at part_marks_at (λ marks. then_at type (λ t. ending_at most)))
  body_law = then_law {Follow = PartStops} part_marks_here_law (λ place ms f. rest_law) (λ place here ms f. some_rest here) (λ place here ms x rest f g h. marks_end here x.0 (ending_text x.1) rest g.0) (λ place here ms x rest f g h. h)

  some_body : (place : ℕ) → (x : Body) × BodyFine place x
  some_body place = let x = some_rest (place + 0) in (([], x.0), ((refl, refl), x.1))

  whole_law : Law WholeFine whole_deep whole_text PartStops (then_at label_at (λ name. then_at part_marks_at (λ marks. then_at type (λ t. ending_at most))))
  whole_law = then_law {Follow = PartStops} label_law (λ place name f. body_law) (λ place here name f. some_body here) (λ place here name x rest f g h. tt) (λ place here name x rest f g h. h)

  -- a part that is placed, behind a label
  abbrev Placed : ℕ → TypedPart → ℕ → Type 0
  Placed place x q = BodyFine q (x.0.marks, (x.1, (x.0.fixed, x.0.absence)))

  component_fine : (place : ℕ) (x : Whole) → WholeFine place x → PartHere IsComponent levels place (component_of place x)
  component_fine place x f =
      let h : BodyFine (place + length (labelled x.0)) x.1 = subst (λ l. BodyFine (place + length l) x.1) (sym (labelled_is x.0 f.0)) f.1 in (
        record { identifier = f.0; marks = h.0.0; fixed = h.1.1.0.0; absence = h.1.1.1.0 },
        h.1.0.0,
        same_part place x.0 _ x.1.0 _ x.1.1.1.0 _ x.1.1.1.1 h.0.1 h.1.1.0.1 h.1.1.1.1,
        h.1.0.1,
      )

  component_text_is : (x : Whole) → is_identifier x.0 ≡ true → typed_part_text levels (component_of 0 x) ≡ whole_text x
  component_text_is x e =
      ap (λ l. ((l ++ (part_marks_text x.1.0 ++ type_text levels x.1.1.0)) ++ fixed_text x.1.1.1.0) ++ absence_text x.1.1.1.1) (labelled_is x.0 e)
      ∙ five (label_text x.0) (part_marks_text x.1.0) (type_text levels x.1.1.0) (fixed_text x.1.1.1.0) (absence_text x.1.1.1.1)
    where
      five : (a b c d e : List ℕ) → ((a ++ (b ++ c)) ++ d) ++ e ≡ a ++ (b ++ (c ++ (d ++ e)))
      five a b c d e = simp append_assoc

  component_deep_is : (x : Whole) → is_identifier x.0 ≡ true → part_deep most levels deep (component_of 0 x) ≡ whole_deep x
  component_deep_is x e = ap (λ l. option_map (moved (length l)) (body_deep x.1)) (labelled_is x.0 e)

  onto_component : (place : ℕ) (c : TypedPart) → PartHere IsComponent levels place c → (x : Whole) × WholeFine place x × (component_of place x ≡ c)
  onto_component place (p, t) f =
      let h = part_fields place p.at p.identifier _ p.marks _ p.fixed _ p.absence f.2 in
      let g : BodyFine (place + length (labelled p.identifier)) (p.marks, (t, (p.fixed, p.absence))) = ((f.0.marks, h.1), ((f.1, f.3), ((f.0.fixed, h.2), (f.0.absence, h.3)))) in
      ((p.identifier, (p.marks, (t, (p.fixed, p.absence)))), (f.0.identifier, subst (λ l. BodyFine (place + length l) (p.marks, (t, (p.fixed, p.absence)))) (labelled_is p.identifier f.0.identifier) g), ap (λ at. (make at p.identifier p.marks p.fixed p.absence, t)) h.0)

  component_renames : Renames WholeFine whole_deep whole_text (PartHere IsComponent levels) (part_deep most levels deep) (typed_part_text levels) component_of
  component_renames = record { fine = component_fine; deep = λ place x f. component_deep_is x f.0; write = λ place x f. component_text_is x f.0; onto = onto_component }

  pub component_law : Law (PartHere IsComponent levels) (part_deep most levels deep) (typed_part_text levels) PartStops (component_at most type)
  component_law = as_law whole_law component_renames

  -- ---- alternatives and items: nothing stands behind the type

  abbrev BareBody : Type 0
  BareBody = List PartMark × Typed

  abbrev BareBodyFine : ℕ → BareBody → Type 0
  BareBodyFine = BothFine PartMarksHere part_marks_text (λ marks. IsTypeHere levels)

  abbrev bare_body_text : BareBody → List ℕ
  bare_body_text = both_written part_marks_text (λ marks. type_text levels)

  abbrev bare_body_deep : BareBody → Option Sunk
  bare_body_deep = both_deep part_marks_text never (λ marks. deep)

  bare_body_law : Law BareBodyFine bare_body_deep bare_body_text TypeStops (then_at part_marks_at (λ marks. type))
  bare_body_law = then_law {Follow = TypeStops} part_marks_here_law (λ place ms f. law) (λ place here ms f. some here) (λ place here ms t rest f g h. before_type here t rest g) (λ place here ms t rest f g h. h)

  some_bare : (place : ℕ) → (x : BareBody) × BareBodyFine place x
  some_bare place = let t = some (place + 0) in (([], t.0), ((refl, refl), t.1))

  bare_text_is : (name : List ℕ) (marks : List PartMark) (t : Typed) → typed_part_text levels (make 0 name marks None absence.Never, t) ≡ labelled name ++ (part_marks_text marks ++ type_text levels t)
  bare_text_is name marks t = append-nil ((labelled name ++ (part_marks_text marks ++ type_text levels t)) ++ []) ∙ append-nil (labelled name ++ (part_marks_text marks ++ type_text levels t))

  none_left : (size : ℕ) (d : Option Sunk) → deeper size d None ≡ d
  none_left size None = refl
  none_left size (Some s) = refl

  bare_deep_is : (name : List ℕ) (marks : List PartMark) (t : Typed) → part_deep most levels deep (make 0 name marks None absence.Never, t) ≡ option_map (moved (length (labelled name))) (option_map (moved (length (part_marks_text marks))) (deep t))
  bare_deep_is name marks t = ap (λ d. option_map (moved (length (labelled name))) (option_map (moved (length (part_marks_text marks))) d)) (none_left (length (type_text levels t)) (deep t))

  -- what a part says, but for its label
  abbrev IsBareHere : ℕ → TypedPart → Type 0
  IsBareHere place x = ArePartMarks x.0.marks × IsBare x.0 × IsType x.1 × (placed_part place x.0 (type_text levels x.1) ≡ x.0) × (placed_type levels (type_at place x.0) x.1 ≡ x.1)

  bare_fine : (place : ℕ) (name : List ℕ) (x : BareBody) → BareBodyFine (place + length (labelled name)) x → IsBareHere place (bare_of place (name, x))
  bare_fine place name x h = (h.0.0, (refl, refl), h.1.0, same_part place name _ x.0 _ None _ absence.Never h.0.1 refl refl, h.1.1)

  onto_bare : (place : ℕ) (c : TypedPart) → IsBareHere place c → BareBodyFine (place + length (labelled c.0.identifier)) (c.0.marks, c.1) × (bare_of place (c.0.identifier, (c.0.marks, c.1)) ≡ c)
  onto_bare place (p, t) f =
      let h = part_fields place p.at p.identifier _ p.marks _ p.fixed _ p.absence f.3 in
      (((f.0, h.1), (f.2, f.4)), ap (λ at. (make at p.identifier p.marks None absence.Never, t)) h.0 ∙ ap (λ k. (make p.at p.identifier p.marks k absence.Never, t)) (sym f.1.0) ∙ ap (λ k. (make p.at p.identifier p.marks p.fixed k, t)) (sym f.1.1))

  -- ---- alternatives

  abbrev AltFine : ℕ → List ℕ × BareBody → Type 0
  AltFine = BothFine IsIdentifier label_text (λ name. BareBodyFine)

  abbrev alt_text : List ℕ × BareBody → List ℕ
  alt_text = both_written label_text (λ name. bare_body_text)

  abbrev alt_deep : List ℕ × BareBody → Option Sunk
  alt_deep = both_deep label_text never (λ name. bare_body_deep)

  alternative_renames : Renames AltFine alt_deep alt_text (PartHere IsAlternative levels) (part_deep most levels deep) (typed_part_text levels) bare_of
  alternative_renames = record {
    fine = λ place x f.
        let h = bare_fine place x.0 x.1 (subst (λ l. BareBodyFine (place + length l) x.1) (sym (labelled_is x.0 f.0)) f.1) in
        (record { identifier = f.0; marks = h.0; bare = h.1 }, h.2, h.3, h.4);
    deep = λ place x f. bare_deep_is x.0 x.1.0 x.1.1 ∙ ap (λ l. option_map (moved (length l)) (bare_body_deep x.1)) (labelled_is x.0 f.0);
    write = λ place x f. bare_text_is x.0 x.1.0 x.1.1 ∙ ap (λ l. l ++ bare_body_text x.1) (labelled_is x.0 f.0);
    onto = λ place c f.
        let h = onto_bare place c (f.0.marks, f.0.bare, f.1, f.2, f.3) in
        ((c.0.identifier, (c.0.marks, c.1)), (f.0.identifier, subst (λ l. BareBodyFine (place + length l) (c.0.marks, c.1)) (labelled_is c.0.identifier f.0.identifier) h.0), h.1);
  }

  alt_law : Law AltFine alt_deep alt_text TypeStops (then_at label_at (λ name. then_at part_marks_at (λ marks. type)))
  alt_law = then_law {Follow = TypeStops} label_law (λ place name f. bare_body_law) (λ place here name f. some_bare here) (λ place here name x rest f g h. tt) (λ place here name x rest f g h. h)

  pub alternative_law : Law (PartHere IsAlternative levels) (part_deep most levels deep) (typed_part_text levels) TypeStops (alternative_at type)
  alternative_law = as_law alt_law alternative_renames

  -- ---- items, with a label or without

  abbrev IsLabel : ℕ → List ℕ → Type 0
  IsLabel place name = (name ≡ []) ⊎ (is_identifier name ≡ true)

  abbrev LabelFine : ℕ → List ℕ ⊎ Unit {0} → Type 0
  LabelFine = EitherFine IsIdentifier Anything

  label_renames : Renames LabelFine (either_deep never never) (either_written label_text (word_of [])) IsLabel never labelled label_or_none
  label_renames = record { fine = fine; deep = deep_is; write = write; onto = onto }
    where
      fine : (place : ℕ) (x : List ℕ ⊎ Unit {0}) → LabelFine place x → IsLabel place (label_or_none place x)
      fine place (inl name) f = inr f
      fine place (inr x) f = inl refl

      deep_is : (place : ℕ) (x : List ℕ ⊎ Unit {0}) → LabelFine place x → None ≡ either_deep never never x
      deep_is place (inl name) f = refl
      deep_is place (inr x) f = refl

      write : (place : ℕ) (x : List ℕ ⊎ Unit {0}) → LabelFine place x → labelled (label_or_none place x) ≡ either_written label_text (word_of []) x
      write place (inl name) f = labelled_is name f
      write place (inr x) f = refl

      onto : (place : ℕ) (name : List ℕ) → IsLabel place name → (x : List ℕ ⊎ Unit {0}) × LabelFine place x × (label_or_none place x ≡ name)
      onto place name (inl e) = (inr tt, tt, sym e)
      onto place name (inr e) = (inl name, e, refl)

  -- what ends a label that isn't there
  item_label_law : Law IsLabel never labelled (IsUnread label_at) item_label_at
  item_label_law = as_law (or_law {Follow = IsUnread label_at} label_law nothing_law (λ place a rest f h. tt) (λ place a rest f h. tt) (λ place b rest f h. h place)) label_renames

  abbrev ItemFine : ℕ → List ℕ × BareBody → Type 0
  ItemFine = BothFine IsLabel labelled (λ name. BareBodyFine)

  abbrev item_text : List ℕ × BareBody → List ℕ
  item_text = both_written labelled (λ name. bare_body_text)

  abbrev item_deep : List ℕ × BareBody → Option Sunk
  item_deep = both_deep labelled never (λ name. bare_body_deep)

  item_renames : Renames ItemFine item_deep item_text (PartHere IsItem levels) (part_deep most levels deep) (typed_part_text levels) bare_of
  item_renames = record {
    fine = λ place x f.
        let h = bare_fine place x.0 x.1 f.1 in
        (record { identifier = f.0; marks = h.0; bare = h.1 }, h.2, h.3, h.4);
    deep = λ place x f. bare_deep_is x.0 x.1.0 x.1.1;
    write = λ place x f. bare_text_is x.0 x.1.0 x.1.1;
    onto = λ place c f.
        let h = onto_bare place c (f.0.marks, f.0.bare, f.1, f.2, f.3) in
        ((c.0.identifier, (c.0.marks, c.1)), (f.0.identifier, h.0), h.1);
  }

  module _ (no_label : (place : ℕ) (x : BareBody) (rest : List ℕ) → BareBodyFine place x → IsUnread label_at (bare_body_text x ++ rest)) where
    pub item_law : Law (PartHere IsItem levels) (part_deep most levels deep) (typed_part_text levels) TypeStops (item_at type)
    item_law = as_law
        (then_law {Follow = TypeStops} item_label_law (λ place name f. bare_body_law) (λ place here name f. some_bare here) (λ place here name x rest f g h. no_label here x rest g) (λ place here name x rest f g h. h))
        item_renames

  -- ---- and where a type or a value in it is too deep: with how a front begins that tells it

  module _ (early : TypeEarly levels deep type)
      (mark_front : (place : ℕ) (t : Typed) (l q more x : List ℕ) (s : Sunk) → IsTypeHere levels place t → (deep t ≡ Some s) ⊎ (length (type_text levels t) < s.told) → type_text levels t ++ l ≡ q ++ more → s.told ≤ length q → 0 < length q → PartMarkStops (q ++ x))
      (label_front : (place : ℕ) (t : Typed) (l q more x : List ℕ) → IsTypeHere levels place t → type_text levels t ++ l ≡ q ++ more → 0 < length q → IsUnread label_at (q ++ x)) where
    rest_early : Early RestFine rest_deep rest_text (then_at type (λ t. ending_at most))
    rest_early = then_early law (λ place t f. ending_law most) early (λ place t f. ending_early most) (λ place here t x q more y s f g d e le lt. ending_first most x.0 x.1 q more y s d e le)

    rest_sunk : (place : ℕ) (x : Typed × (Option PlainOctets × Absence)) (s : Sunk) → RestFine place x → rest_deep x ≡ Some s → (deep x.0 ≡ Some s) ⊎ (length (type_text levels x.0) < s.told)
    rest_sunk place x s f d = elim (deeper_cases (length (type_text levels x.0)) s (deep x.0) (ending_deep most x.1) d) [
      | inl h ↦ inl h
      | inr h ↦ inr (omega (arith, ap (λ (k : Sunk). k.told) h.3, ((ending_law most).inside (place + length (type_text levels x.0)) x.1 h.1 f.1 h.2).0))
    ]

    body_early : Early BodyFine body_deep body_text (then_at part_marks_at (λ marks. then_at type (λ t. ending_at most)))
    body_early = then_early part_marks_here_law (λ place ms f. rest_law) (never_early (λ a. refl)) (λ place ms f. rest_early)
        (λ place here ms x q more y s f g d e le lt. mark_front here x.0 (ending_text x.1) q more y s g.0 (rest_sunk here x s g d) e le lt)

    whole_early : Early WholeFine whole_deep whole_text (then_at label_at (λ name. then_at part_marks_at (λ marks. then_at type (λ t. ending_at most))))
    whole_early = then_early label_law (λ place name f. body_law) (never_early (λ a. refl)) (λ place name f. body_early) (λ place here name x q more y s f g d e le lt. tt)

    pub component_early : Early (PartHere IsComponent levels) (part_deep most levels deep) (typed_part_text levels) (component_at most type)
    component_early = as_early whole_early component_renames

    bare_body_early : Early BareBodyFine bare_body_deep bare_body_text (then_at part_marks_at (λ marks. type))
    bare_body_early = then_early part_marks_here_law (λ place ms f. law) (never_early (λ a. refl)) (λ place ms f. early)
        (λ place here ms t q more y s f g d e le lt. mark_front here t [] q more y s g (inl d) (append-nil (type_text levels t) ∙ e) le lt)

    alt_early : Early AltFine alt_deep alt_text (then_at label_at (λ name. then_at part_marks_at (λ marks. type)))
    alt_early = then_early label_law (λ place name f. bare_body_law) (never_early (λ a. refl)) (λ place name f. bare_body_early) (λ place here name x q more y s f g d e le lt. tt)

    pub alternative_early : Early (PartHere IsAlternative levels) (part_deep most levels deep) (typed_part_text levels) (alternative_at type)
    alternative_early = as_early alt_early alternative_renames

    bracket : (kind : PartMarkKind) → (r : List ℕ) × (part_mark_text kind ≡ 91 ∷ r)
    bracket part_mark.Attribute = (_, refl)
    bracket _ = (_, refl)

    bare_front : (place : ℕ) (x : BareBody) (q more y : List ℕ) → BareBodyFine place x → bare_body_text x ≡ q ++ more → 0 < length q → IsUnread label_at (q ++ y)
    bare_front place ([], t) q more y f e lt = label_front (place + 0) t [] q more y f.1 (append-nil (type_text levels t) ∙ e) lt
    bare_front place (m ∷ ms, t) q more y f e lt =
        let b = bracket m.kind in
        let h = first_of_front 91 ((b.0 ++ part_marks_text ms) ++ type_text levels t) q more (ap (λ l. (l ++ part_marks_text ms) ++ type_text levels t) (sym b.1) ∙ e) lt in
        subst (λ l. IsUnread label_at (l ++ y)) (sym h.1) (λ here. tt)

    module _ (no_label : (place : ℕ) (x : BareBody) (rest : List ℕ) → BareBodyFine place x → IsUnread label_at (bare_body_text x ++ rest)) where
      pub item_early : Early (PartHere IsItem levels) (part_deep most levels deep) (typed_part_text levels) (item_at type)
      item_early = as_early
          (then_early item_label_law (λ place name f. bare_body_law) (never_early (λ a. refl)) (λ place name f. bare_body_early) (λ place here name x q more y s f g d e le lt. bare_front here x q more y g e lt))
          item_renames
