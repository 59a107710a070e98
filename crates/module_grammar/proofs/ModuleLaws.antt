-- The law of assignments and of modules.
use Rattle.std.proofs.Common.{◌≡◌, ℕ, ◌+◌, ◌<◌, inl, List, [], ◌∷◌, ◌++◌, length, refl, sym, ap, ap₂, ◌∙◌, subst, arith, codes, Option, append_assoc, append-nil, length-append}
use Rattle.std.specs.List.{flat_map}
use Rattle.std.proofs.lemmas.List.Elements.{All-nil, All-cons, All-head, All-tail}
use Rattle.module_print.specs.Printed.{opening, closing}
use Rattle.module_grammar.specs.Reading.{then_at, many_at, before_at}
use Rattle.module_grammar.specs.Shapes.{Sunk, AnyRest, never, IsUnread, BothFine, both_written, both_deep, EachFine, each_written, each_deep, BehindFine, shifted, behind_word, before_word, Stops}
use Rattle.module_grammar.specs.Laws.{Law, Early}
use Rattle.module_grammar.proofs.Then.{then_law}
use Rattle.module_grammar.proofs.Many.{many_law}
use Rattle.module_grammar.proofs.As.{Renames, as_law, restated, alike}
use Rattle.module_grammar.proofs.Fixed.{behind_law, before_law}
use Rattle.module_grammar.proofs.Early.{then_early, as_early, never_early, many_early, behind_early, before_early, restated_early}
use Rattle.module_grammar.proofs.Judging.{exact}
use Rattle.module_text.specs.Plain.{IsAssignment, IsPlain}
use Rattle.module_text.specs.Texts.{part_marks_text, type_text, assignment_text, text_of}
use Rattle.module_text.specs.Places.{placed_assignment, placed_from}
use Rattle.module_text.specs.declared.marks.PartMark.{PartMark}
use Rattle.module_text.specs.declared.modules.PlainAssignment.{PlainAssignment}
use Rattle.module_grammar.specs.NameReading.{reference_at}
use Rattle.module_grammar.specs.MarkReading.{part_marks_at}
use Rattle.module_grammar.specs.TypeReading.{Typed, type_at}
use Rattle.module_grammar.specs.ModuleReading.{assignment_of, body_at, assignment_at, module_at}
use Rattle.module_grammar.specs.TypeDepth.{type_deep, assignment_deep, module_deep}
use Rattle.module_grammar.specs.ModulesRead.{IsModuleHere, ModulesExact}
use Rattle.module_grammar.proofs.Unread.{as_fails, then_fails, stuck_behind}
use Rattle.module_grammar.proofs.NameLaws.{itself, IsReference, reference_law}
use Rattle.module_grammar.proofs.MarkLaws.{PartMarksHere, part_marks_here_law}
use Rattle.module_grammar.proofs.AbsenceLaws.{TypeStops, type_line}
use Rattle.module_grammar.proofs.PartLaws.{IsTypeHere}
use Rattle.module_grammar.proofs.TypeLaws.{type_law, some_type, before_type}
use Rattle.module_grammar.proofs.TypeEarly.{type_early, mark_front}

-- ---- a body: the instructions, and the type

abbrev Body : Type 0
Body = List PartMark × Typed

abbrev BodyFine : ℕ → Body → Type 0
BodyFine = BothFine PartMarksHere part_marks_text (λ marks. IsTypeHere 0)

abbrev body_text : Body → List ℕ
body_text = both_written part_marks_text (λ marks. type_text 0)

abbrev body_deep : ℕ → Body → Option Sunk
body_deep most = both_deep part_marks_text never (λ marks. type_deep most most 0)

abbrev line_text : Body → List ℕ
line_text = before_word body_text (codes "\n")

module _ (most : ℕ) where
  typed_body_law : Law BodyFine (body_deep most) body_text (λ rest. (more : List ℕ) × (rest ≡ codes "\n" ++ more)) (then_at part_marks_at (λ marks. type_at most most 0))
  typed_body_law = then_law part_marks_here_law (λ place ms f. type_law most most 0) (λ place here ms f. some_type 0 here)
      (λ place here ms t rest f g h. before_type 0 here t rest g) (λ place here ms t rest f g h. subst (λ l. TypeStops l) (sym h.1) (type_line h.0))

  line_law : Law BodyFine (body_deep most) line_text AnyRest (body_at most)
  line_law = before_law (codes "\n") {Follow = AnyRest} typed_body_law (λ place x rest f h. (rest, refl))

  line_early : Early BodyFine (body_deep most) line_text (body_at most)
  line_early = before_early (codes "\n") typed_body_law
      (then_early part_marks_here_law (λ place ms f. type_law most most 0) (never_early (λ a. refl)) (λ place ms f. type_early most most 0)
      (λ place here ms t q more y s f g d e le lt. mark_front most most 0 here t [] q more y s g (inl d) (append-nil (type_text 0 t) ∙ e) le lt))

  -- ---- assignments

  abbrev named_text : List ℕ → List ℕ
  named_text = before_word itself (codes " ::= ")

  abbrev AssignedFine : ℕ → List ℕ × Body → Type 0
  AssignedFine = BothFine IsReference named_text (λ reference. BodyFine)

  abbrev assigned_text : List ℕ × Body → List ℕ
  assigned_text = both_written named_text (λ reference. line_text)

  abbrev assigned_deep : List ℕ × Body → Option Sunk
  assigned_deep = both_deep named_text never (λ reference. body_deep most)

  abbrev IsAssignmentHere : ℕ → PlainAssignment → Type 0
  IsAssignmentHere place a = IsAssignment a × (placed_assignment place a ≡ a)

  named_law : Law IsReference never named_text AnyRest (before_at reference_at (codes " ::= "))
  named_law = before_law (codes " ::= ") {Follow = AnyRest} reference_law (λ place a rest f h. record { item = tt; fails = λ here. tt })

  abbrev assign : ℕ → List ℕ → List PartMark → Typed → PlainAssignment
  assign at reference marks body = record { at = at; reference = reference; marks = marks; body = body }

  assignment_renames : Renames AssignedFine assigned_deep assigned_text IsAssignmentHere (assignment_deep most) assignment_text assignment_of
  assignment_renames = record {
    fine = λ place x f. (record { reference = f.0; marks = f.1.0.0; body = f.1.1.0 }, ap₂ (λ m t. assign place x.0 m t) f.1.0.1 f.1.1.1);
    deep = λ place x f. refl;
    write = λ place x f. append_assoc (x.0 ++ codes " ::= ") (part_marks_text x.1.0 ++ type_text 0 x.1.1) (codes "\n");
    onto = λ place a f. (
      (a.reference, (a.marks, a.body)),
      (f.0.reference, ((f.0.marks, ap (λ (k : PlainAssignment). k.marks) f.1), (f.0.body, ap (λ (k : PlainAssignment). k.body) f.1))),
      ap (λ at. assign at a.reference a.marks a.body) (ap (λ (k : PlainAssignment). k.at) f.1),
    );
  }

  some_line : (place : ℕ) → (x : Body) × BodyFine place x
  some_line place = let t = some_type 0 (place + 0) in (([], t.0), ((refl, refl), t.1))

  assigned_law : Law AssignedFine assigned_deep assigned_text AnyRest (then_at (before_at reference_at (codes " ::= ")) (λ reference. body_at most))
  assigned_law = then_law {Follow = AnyRest} named_law (λ place r f. line_law) (λ place here r f. some_line here) (λ place here r x rest f g h. tt) (λ place here r x rest f g h. tt)

  assignment_law : Law IsAssignmentHere (assignment_deep most) assignment_text AnyRest (assignment_at most)
  assignment_law = as_law assigned_law assignment_renames

  assignment_early : Early IsAssignmentHere (assignment_deep most) assignment_text (assignment_at most)
  assignment_early = as_early (then_early named_law (λ place r f. line_law) (never_early (λ a. refl)) (λ place r f. line_early) (λ place here r x q more y s f g d e le lt. tt)) assignment_renames

  assignment_bytes : (place : ℕ) (a : PlainAssignment) → IsAssignmentHere place a → 0 < length (assignment_text a)
  assignment_bytes place a f = omega (arith, length-append ((a.reference ++ codes " ::= ") ++ (part_marks_text a.marks ++ type_text 0 a.body)) (codes "\n"))

  -- ---- modules

  -- the first word of the closing is no reference of an assignment
  closing_unread : (rest : List ℕ) → IsUnread (assignment_at most) (closing ++ rest)
  closing_unread rest = λ place.
      as_fails assignment_of (then_at (before_at reference_at (codes " ::= ")) (λ reference. body_at most)) place (closing ++ rest)
      (then_fails (before_at reference_at (codes " ::= ")) (λ reference. body_at most) place (closing ++ rest)
      (stuck_behind (codes " ::= ") reference_law (λ a. refl) place (codes "ENCODING-CONTROL")
      (codes " XER\n    GLOBAL-DEFAULTS MODIFIED-ENCODINGS\n    GLOBAL-DEFAULTS CONTROL-NAMESPACE \"http://www.w3.org/2001/XMLSchema-instance\" PREFIX \"xsi\"\nEND\n" ++ rest)
      refl (record { item = tt; fails = λ here. tt }) (λ here. tt)))

  abbrev Lines : ℕ → List PlainAssignment → Type 0
  Lines = EachFine IsAssignmentHere assignment_text

  lines_law : Law Lines (each_deep assignment_text (assignment_deep most)) (each_written assignment_text) (Stops AnyRest (assignment_at most)) (many_at (assignment_at most))
  lines_law = many_law assignment_law assignment_bytes (λ place a rest f h. tt)

  lines_early : Early Lines (each_deep assignment_text (assignment_deep most)) (each_written assignment_text) (many_at (assignment_at most))
  lines_early = many_early assignment_law lines_law assignment_early assignment_bytes (λ place a l q m x f e lt. tt)

  closed_law : Law Lines (each_deep assignment_text (assignment_deep most)) (before_word (each_written assignment_text) closing) AnyRest (before_at (many_at (assignment_at most)) closing)
  closed_law = before_law closing {Follow = AnyRest} lines_law (λ place ms rest f h. record { item = tt; fails = closing_unread rest })

  assignments_are : (a b : PlainAssignment) (xs ys : List PlainAssignment) → (a ∷ xs) ≡ (b ∷ ys) → (a ≡ b) × (xs ≡ ys)
  assignments_are a b xs ys e = ((cc), (cc))

  pub lines_fine : (place : ℕ) (ms : List PlainAssignment) → Lines place ms → IsPlain ms × (placed_from place ms ≡ ms)
  lines_fine place [] f = (All-nil IsAssignment, refl)
  lines_fine place (a ∷ ms) f =
      let h = lines_fine (place + length (assignment_text a)) ms f.1 in
      (All-cons IsAssignment a ms f.0.0 h.0, ap₂ (λ b bs. b ∷ bs) f.0.1 h.1)

  pub fine_lines : (place : ℕ) (ms : List PlainAssignment) → IsPlain ms × (placed_from place ms ≡ ms) → Lines place ms
  fine_lines place [] f = tt
  fine_lines place (a ∷ ms) f =
      let h = assignments_are (placed_assignment place a) a (placed_from (place + length (assignment_text a)) ms) ms f.1 in
      ((All-head IsAssignment a ms f.0, h.0), fine_lines (place + length (assignment_text a)) ms (All-tail IsAssignment a ms f.0, h.1))

  each_flat : (ms : List PlainAssignment) → flat_map assignment_text ms ≡ each_written assignment_text ms
  each_flat [] = refl
  each_flat (a ∷ ms) = ap (λ l. assignment_text a ++ l) (each_flat ms)

  text_is : (ms : List PlainAssignment) → text_of ms ≡ behind_word opening (before_word (each_written assignment_text) closing) ms
  text_is ms = append_assoc opening (flat_map assignment_text ms) closing ∙ ap (λ l. opening ++ (l ++ closing)) (each_flat ms)

  module_as : Renames (BehindFine opening Lines) (shifted opening (each_deep assignment_text (assignment_deep most))) (behind_word opening (before_word (each_written assignment_text) closing)) IsModuleHere (module_deep most) text_of (λ place ms. ms)
  module_as = alike (λ place ms f. lines_fine (place + length opening) ms f) (λ place ms f. fine_lines (place + length opening) ms f) (λ place ms f. refl) (λ place ms f. text_is ms)

  pub module_law : Law IsModuleHere (module_deep most) text_of AnyRest (module_at most)
  module_law = restated (behind_law opening closed_law (λ place. ([], tt))) module_as

  pub module_early : Early IsModuleHere (module_deep most) text_of (module_at most)
  module_early = restated_early (behind_early opening closed_law (before_early closing lines_law lines_early)) module_as

pub modules_exact : ModulesExact
modules_exact most = exact (module_law most) (module_early most) tt
