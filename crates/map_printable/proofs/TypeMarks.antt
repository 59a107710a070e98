-- The instructions on the types of a map are those that the printer tells, in its order.
use Rattle.std.proofs.Common.{◌≡◌, ℕ, suc, ◌≤◌, ◌+◌, Bool, true, false, not, Option, Some, None, List, [], ◌∷◌, ◌++◌, All, refl, sym, ap, ◌∙◌, arith}
use Rattle.std.specs.Prelude.{filter, bytes_eq, if◌then◌else◌}
use Rattle.std.specs.List.{list_all}
use Rattle.std.proofs.lemmas.Bool.{lt-ltb}
use Rattle.std.proofs.lemmas.List.Elements.{All-nil, All-cons}
use Rattle.base_texts.specs.declared.white_space.WhiteSpace.{WhiteSpace}
use Rattle.base_texts.specs.declared.white_space.WhiteSpace.TheVariants.{Preserve, Replace, Collapse}
use Rattle.simple_types.specs.Sound.{AreWords}
use Rattle.asn_names.specs.declared.restoration.NameForm.{NameForm}
use Rattle.asn_names.specs.declared.restoration.NameForm.TheVariants.{Capitalized, Uncapitalized, Quoted}
use Rattle.asn_names.specs.Restoring.{capitalized, uncapitalized, form_of}
use Rattle.asn_types.specs.declared.marks.Instruction.{Instruction}
use Rattle.asn_types.specs.declared.marks.Instruction.TheVariants as mark
use Rattle.asn_types.specs.declared.types.Form.{Form}
use Rattle.asn_types.specs.declared.types.Form.TheVariants as form
use Rattle.asn_types.specs.Simples.{white_space_marks}
use Rattle.map_assignments.specs.Naming.{type_label, text_if, text_marks, sequence_marks}
use Rattle.module_text.specs.Printable.{comes_before, are_in_order, is_of_part, texts_due, is_text, MayBe, HasTypeMarks}
use Rattle.module_text.specs.Printable as printable
use Rattle.map_printable.proofs.Names.{and-both, and-second}

-- ---- TEXT

-- it stands where the identifier isn't the word
text-same : (i : ℕ) (gs words : List (List ℕ)) → text_marks i gs words ≡ printable.text_marks i gs words
text-same i [] [] = refl
text-same i [] (word ∷ words) = refl
text-same i (g ∷ gs) [] = refl
text-same i (g ∷ gs) (word ∷ words) =
    let next : suc i ≡ i + 1 = omega arith in
    by (bytes_eq g word) (bytes_eq (capitalized g) word) (bytes_eq (uncapitalized g) word) (text_marks (suc i) gs words)
    ∙ ap (λ (rest : List Instruction). if bytes_eq g word then rest else mark.Text i word ∷ rest) (text-same (suc i) gs words ∙ ap (λ j. printable.text_marks j gs words) next)
  where
    by : (a b c : Bool) (rest : List Instruction) → text_if (if a then None else if b then Some Capitalized else if c then Some Uncapitalized else Some Quoted) i word ++ rest
        ≡ (if a then rest else mark.Text i word ∷ rest)
    by true b c rest = refl
    by false true c rest = refl
    by false false true rest = refl
    by false false false rest = refl

texts-filtered : (i : ℕ) (gs words : List (List ℕ)) → filter is_text (text_marks i gs words) ≡ text_marks i gs words
texts-filtered i [] [] = refl
texts-filtered i [] (word ∷ words) = refl
texts-filtered i (g ∷ gs) [] = refl
texts-filtered i (g ∷ gs) (word ∷ words) = by (form_of g word) (texts-filtered (suc i) gs words)
  where
    by : (o : Option NameForm) → filter is_text (text_marks (suc i) gs words) ≡ text_marks (suc i) gs words
        → filter is_text (text_if o i word ++ text_marks (suc i) gs words) ≡ text_if o i word ++ text_marks (suc i) gs words
    by None rest = rest
    by (Some f) rest = ap (λ ms. mark.Text i word ∷ ms) rest

white-filtered : (how : WhiteSpace) (marks : List Instruction) → filter is_text (white_space_marks how ++ marks) ≡ filter is_text marks
white-filtered Preserve marks = refl
white-filtered Replace marks = refl
white-filtered Collapse marks = refl

texts-order : (m : Instruction) (i : ℕ) (gs words : List (List ℕ)) → ((j : ℕ) (t : List ℕ) → i ≤ j → comes_before m (mark.Text j t) ≡ true) → are_in_order (m ∷ text_marks i gs words) ≡ true
texts-order m i [] [] h = refl
texts-order m i [] (word ∷ words) h = refl
texts-order m i (g ∷ gs) [] h = refl
texts-order m i (g ∷ gs) (word ∷ words) h =
    by (form_of g word) (texts-order m (suc i) gs words (λ j t below. h j t (omega (arith, below))))
    (texts-order (mark.Text i word) (suc i) gs words (λ j t below. lt-ltb i j (omega (arith, below))))
  where
    by : (o : Option NameForm) → are_in_order (m ∷ text_marks (suc i) gs words) ≡ true → are_in_order (mark.Text i word ∷ text_marks (suc i) gs words) ≡ true
        → are_in_order (m ∷ text_if o i word ++ text_marks (suc i) gs words) ≡ true
    by None near far = near
    by (Some f) near far = and-both (comes_before m (mark.Text i word)) (are_in_order (mark.Text i word ∷ text_marks (suc i) gs words)) (h i word (omega arith)) far

tail-order : (m : Instruction) (marks : List Instruction) → are_in_order (m ∷ marks) ≡ true → are_in_order marks ≡ true
tail-order m [] e = refl
tail-order m (n ∷ marks) e = and-second (comes_before m n) (are_in_order (n ∷ marks)) e

words-order : (how : WhiteSpace) (gs words : List (List ℕ)) → are_in_order (white_space_marks how ++ text_marks 0 gs words) ≡ true
words-order Preserve gs words = tail-order mark.UseNil (text_marks 0 gs words) (texts-order mark.UseNil 0 gs words (λ j t below. refl))
words-order Replace gs words = texts-order (mark.WhiteSpace Replace) 0 gs words (λ j t below. refl)
words-order Collapse gs words = texts-order (mark.WhiteSpace Collapse) 0 gs words (λ j t below. refl)

abbrev OfTypes : List Instruction → Type 0
OfTypes marks = list_all (λ m. not (is_of_part m)) marks ≡ true

texts-type : (i : ℕ) (gs words : List (List ℕ)) → OfTypes (text_marks i gs words)
texts-type i [] [] = refl
texts-type i [] (word ∷ words) = refl
texts-type i (g ∷ gs) [] = refl
texts-type i (g ∷ gs) (word ∷ words) = by (form_of g word) (texts-type (suc i) gs words)
  where
    by : (o : Option NameForm) → OfTypes (text_marks (suc i) gs words) → OfTypes (text_if o i word ++ text_marks (suc i) gs words)
    by None rest = rest
    by (Some f) rest = rest

white-type : (how : WhiteSpace) (marks : List Instruction) → OfTypes marks → OfTypes (white_space_marks how ++ marks)
white-type Preserve marks h = h
white-type Replace marks h = h
white-type Collapse marks h = h

texts-be : (how : WhiteSpace) (i : ℕ) (gs words : List (List ℕ)) → AreWords how words → All MayBe (text_marks i gs words)
texts-be how i [] [] are = All-nil MayBe
texts-be how i [] (word ∷ words) are = All-nil MayBe
texts-be how i (g ∷ gs) [] are = All-nil MayBe
texts-be how i (g ∷ gs) (word ∷ words) are = by (form_of g word) (texts-be how (suc i) gs words are.1)
  where
    by : (o : Option NameForm) → All MayBe (text_marks (suc i) gs words) → All MayBe (text_if o i word ++ text_marks (suc i) gs words)
    by None rest = rest
    by (Some f) rest = All-cons MayBe (mark.Text i word) (text_marks (suc i) gs words) are.0.0 rest

white-be : (how : WhiteSpace) (marks : List Instruction) → All MayBe marks → All MayBe (white_space_marks how ++ marks)
white-be Preserve marks h = h
white-be Replace marks h = All-cons MayBe (mark.WhiteSpace Replace) marks (λ e. absurd (cc)) h
white-be Collapse marks h = All-cons MayBe (mark.WhiteSpace Collapse) marks (λ e. absurd (cc)) h

pub words-marked : (how : WhiteSpace) (gs words : List (List ℕ)) → AreWords how words
    → HasTypeMarks (type_label (form.Words gs words) (white_space_marks how ++ text_marks 0 gs words))
words-marked how gs words are = record {
  order = words-order how gs words;
  type = white-type how (text_marks 0 gs words) (texts-type 0 gs words);
  texts = white-filtered how (text_marks 0 gs words) ∙ texts-filtered 0 gs words ∙ text-same 0 gs words;
  each = white-be how (text_marks 0 gs words) (texts-be how 0 gs words are);
}

-- ---- types without words

pub no-type_marks : (f : Form) → texts_due f ≡ [] → HasTypeMarks (type_label f [])
no-type_marks f none = record { order = refl; type = refl; texts = sym none; each = All-nil MayBe }

pub white-marked : (how : WhiteSpace) (f : Form) → texts_due f ≡ [] → HasTypeMarks (type_label f (white_space_marks how))
white-marked Preserve f none = no-type_marks f none
white-marked Replace f none = record { order = refl; type = refl; texts = sym none; each = white-be Replace [] (All-nil MayBe) }
white-marked Collapse f none = record { order = refl; type = refl; texts = sym none; each = white-be Collapse [] (All-nil MayBe) }

one : (m : Instruction) (marks : List Instruction) → MayBe m → All MayBe marks → All MayBe (m ∷ marks)
one m marks h rest = All-cons MayBe m marks h rest

none-be : All MayBe []
none-be = All-nil MayBe

pub numbers-marked : (f : Form) → texts_due f ≡ [] → HasTypeMarks (type_label f (mark.UseNumber ∷ []))
numbers-marked f none = record { order = refl; type = refl; texts = sym none; each = one mark.UseNumber [] tt none-be }

pub list-marked : (f : Form) → texts_due f ≡ [] → HasTypeMarks (type_label f (mark.List ∷ []))
list-marked f none = record { order = refl; type = refl; texts = sym none; each = one mark.List [] tt none-be }

pub union-marked : (f : Form) → texts_due f ≡ [] → HasTypeMarks (type_label f (mark.UseUnion ∷ []))
union-marked f none = record { order = refl; type = refl; texts = sym none; each = one mark.UseUnion [] tt none-be }

pub sequence-marked : (f : Form) (nillable mixed ordered : Bool) → texts_due f ≡ [] → HasTypeMarks (type_label f (sequence_marks nillable mixed ordered))
sequence-marked f true true true none =
    record { order = refl; type = refl; texts = sym none; each = one mark.UseNil (mark.EmbedValues ∷ mark.UseOrder ∷ []) tt (one mark.EmbedValues (mark.UseOrder ∷ []) tt (one mark.UseOrder [] tt none-be)) }
sequence-marked f true true false none = record { order = refl; type = refl; texts = sym none; each = one mark.UseNil (mark.EmbedValues ∷ []) tt (one mark.EmbedValues [] tt none-be) }
sequence-marked f true false true none = record { order = refl; type = refl; texts = sym none; each = one mark.UseNil (mark.UseOrder ∷ []) tt (one mark.UseOrder [] tt none-be) }
sequence-marked f true false false none = record { order = refl; type = refl; texts = sym none; each = one mark.UseNil [] tt none-be }
sequence-marked f false true true none = record { order = refl; type = refl; texts = sym none; each = one mark.EmbedValues (mark.UseOrder ∷ []) tt (one mark.UseOrder [] tt none-be) }
sequence-marked f false true false none = record { order = refl; type = refl; texts = sym none; each = one mark.EmbedValues [] tt none-be }
sequence-marked f false false true none = record { order = refl; type = refl; texts = sym none; each = one mark.UseOrder [] tt none-be }
sequence-marked f false false false none = record { order = refl; type = refl; texts = sym none; each = none-be }
