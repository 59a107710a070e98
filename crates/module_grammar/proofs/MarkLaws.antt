-- The laws of encoding instructions.
use Rattle.std.proofs.Common.{◌≡◌, ◌==◌, ℕ, suc, ◌<◌, ◌≤◌, ◌⊎◌, inl, inr, Bool, true, false, ◌&&◌, nat_le, List, [], ◌∷◌, ◌++◌, length, refl, sym, ap, ◌∙◌, subst, arith, codes, Option, None, append_assoc}
use Rattle.std.proofs.lemmas.Bool.{le-leb, eqb-true, eqb-false}
use Rattle.module_print.specs.Notation.{quoted}
use Rattle.module_grammar.specs.Reading.{Reader, word_at, then_at, or_at, behind_at, before_at}
use Rattle.module_grammar.specs.Shapes.{Sunk, Anything, AnyRest, never, word_of, IsFailed, IsUnread, BothFine, EitherFine, either_deep, either_written, BehindFine, shifted, behind_word}
use Rattle.module_grammar.specs.Laws.{Law}
use Rattle.module_grammar.proofs.WordLaws.{word_law}
use Rattle.module_grammar.proofs.Then.{then_law}
use Rattle.module_grammar.proofs.Or.{or_law}
use Rattle.module_grammar.proofs.As.{as_law, any_follow, restated, alike}
use Rattle.module_grammar.proofs.Fixed.{behind_law, before_law}
use Rattle.module_text.specs.Ranks.{rank_of_part_mark, rank_of_type_mark, part_marks_from, type_marks_from}
use Rattle.module_text.specs.Texts.{as_text, part_mark_text, type_mark_text, part_marks_text, type_marks_text}
use Rattle.module_text.specs.Plain.{IsTypeMark, AreTypeMarks, ArePartMarks}
use Rattle.module_text.specs.Places.{placed_part_marks, placed_type_marks}
use Rattle.module_text.specs.declared.marks.NameAs.{NameAs}
use Rattle.module_text.specs.declared.marks.NameAs.TheVariants as as_
use Rattle.module_text.specs.declared.marks.PartMarkKind.{PartMarkKind}
use Rattle.module_text.specs.declared.marks.PartMarkKind.TheVariants as part_mark
use Rattle.module_text.specs.declared.marks.PartMark.{PartMark}
use Rattle.module_text.specs.declared.marks.TypeMarkKind.{TypeMarkKind}
use Rattle.module_text.specs.declared.marks.TypeMarkKind.TheVariants as type_mark
use Rattle.module_text.specs.declared.marks.TypeMark.{TypeMark}
use Rattle.module_grammar.specs.NameReading.{identifier_at, quoted_at}
use Rattle.module_grammar.specs.MarkReading.{name_as_of, name_as_at, is_kind, word_kind_at, name_kind, namespace_kind, attribute_at, untagged_at, name_mark_at, namespace_at, either_kind, text_kind, white_space_at, text_mark_at, part_mark_here, one_part_mark_at, type_mark_here, one_type_mark_at, ranked_at, no_marks_at, part_marks_at, use_nil_at, embed_values_at, use_order_at, list_at, use_union_at, use_number_at, texts_at, white_spaces_at, use_numbers_at, use_unions_at, lists_at, use_orders_at, embed_values_marks_at, type_marks_at, or_kind_at, own_mark_at}
use Rattle.module_grammar.proofs.Unread.{longer_fails, as_fails, before_fails, behind_fails, or_fails}
use Rattle.module_grammar.proofs.Booleans.{both}
use Rattle.module_grammar.proofs.NameLaws.{IsIdentifier, itself, NameStops, QuoteStops, identifier_law, quoted_law}
use Rattle.module_grammar.proofs.RankedLaws.{Ranked, OfRank, marks_text, ranked_law, no_marks_law}

-- ---- CAPITALIZED, UNCAPITALIZED or a quoted text

abbrev NameAsFine : ℕ → Unit {0} ⊎ (Unit {0} ⊎ List ℕ) → Type 0
NameAsFine = EitherFine Anything (EitherFine Anything (BehindFine (codes " AS ") Anything))

abbrev name_as_deep : Unit {0} ⊎ (Unit {0} ⊎ List ℕ) → Option Sunk
name_as_deep = either_deep never (either_deep never (shifted (codes " AS ") never))

abbrev name_as_text : Unit {0} ⊎ (Unit {0} ⊎ List ℕ) → List ℕ
name_as_text = either_written (word_of (codes " AS CAPITALIZED")) (either_written (word_of (codes " AS UNCAPITALIZED")) (behind_word (codes " AS ") quoted))

name_as_never : (place : ℕ) (x : Unit {0} ⊎ (Unit {0} ⊎ List ℕ)) → NameAsFine place x → None ≡ name_as_deep x
name_as_never place (inl x) f = refl
name_as_never place (inr (inl x)) f = refl
name_as_never place (inr (inr x)) f = refl

name_as_written : (place : ℕ) (x : Unit {0} ⊎ (Unit {0} ⊎ List ℕ)) → NameAsFine place x → as_text (name_as_of place x) ≡ name_as_text x
name_as_written place (inl x) f = refl
name_as_written place (inr (inl x)) f = refl
name_as_written place (inr (inr x)) f = refl

onto_name_as : (place : ℕ) (name : NameAs) → Anything place name → (x : Unit {0} ⊎ (Unit {0} ⊎ List ℕ)) × NameAsFine place x × (name_as_of place x ≡ name)
onto_name_as place as_.Capitalized f = (inl tt, tt, refl)
onto_name_as place as_.Uncapitalized f = (inr (inl tt), tt, refl)
onto_name_as place (as_.Quoted name) f = (inr (inr name), tt, refl)

uncapital_apart : (place : ℕ) (x : Unit {0} ⊎ List ℕ) (rest : List ℕ) → IsFailed (word_at (codes " AS CAPITALIZED") place (either_written (word_of (codes " AS UNCAPITALIZED")) (behind_word (codes " AS ") quoted) x ++ rest))
uncapital_apart place (inl x) rest = tt
uncapital_apart place (inr x) rest = tt

pub name_as_law : Law Anything never as_text QuoteStops name_as_at
name_as_law = as_law
    (or_law {Follow = QuoteStops} (word_law (codes " AS CAPITALIZED"))
    (or_law {Follow = QuoteStops} (word_law (codes " AS UNCAPITALIZED")) (behind_law (codes " AS ") quoted_law (λ place. ([], tt))) (λ place a rest f h. tt) (λ place a rest f h. h) (λ place b rest f h. tt))
    (λ place a rest f h. tt) (λ place a rest f h. h) (λ place b rest f h. uncapital_apart place b rest))
    (record { fine = λ place x f. tt; deep = name_as_never; write = name_as_written; onto = onto_name_as })

-- ---- one instruction, up to its bracket

abbrev pub part_kind_text : PartMarkKind → List ℕ
part_kind_text part_mark.Attribute = codes "[ATTRIBUTE]"
part_kind_text part_mark.Untagged = codes "[UNTAGGED]"
part_kind_text (part_mark.Name name) = codes "[NAME" ++ (as_text name ++ codes "]")
part_kind_text (part_mark.Namespace space) = codes "[NAMESPACE AS " ++ (quoted space ++ codes "]")

abbrev pub type_kind_text : TypeMarkKind → List ℕ
type_kind_text type_mark.UseNil = codes "[USE-NIL]"
type_kind_text type_mark.EmbedValues = codes "[EMBED-VALUES]"
type_kind_text type_mark.UseOrder = codes "[USE-ORDER]"
type_kind_text type_mark.List = codes "[LIST]"
type_kind_text type_mark.UseUnion = codes "[USE-UNION]"
type_kind_text type_mark.UseNumber = codes "[USE-NUMBER]"
type_kind_text type_mark.Replace = codes "[WHITESPACE REPLACE]"
type_kind_text type_mark.Collapse = codes "[WHITESPACE COLLAPSE]"
type_kind_text (type_mark.Text identifier text) = codes "[TEXT:" ++ ((identifier ++ as_text text) ++ codes "]")

bracket_space : (w l : List ℕ) → (w ++ l) ++ codes "] " ≡ (w ++ (l ++ codes "]")) ++ codes " "
bracket_space w l = append_assoc w l (codes "] ") ∙ ap (λ k. w ++ k) (sym (append_assoc l (codes "]") (codes " "))) ∙ sym (append_assoc w (l ++ codes "]") (codes " "))

pub part_text_is : (kind : PartMarkKind) → part_mark_text kind ≡ part_kind_text kind ++ codes " "
part_text_is part_mark.Attribute = refl
part_text_is part_mark.Untagged = refl
part_text_is (part_mark.Name name) = bracket_space (codes "[NAME") (as_text name)
part_text_is (part_mark.Namespace space) = bracket_space (codes "[NAMESPACE AS ") (quoted space)

pub type_text_is : (kind : TypeMarkKind) → type_mark_text kind ≡ type_kind_text kind ++ codes " "
type_text_is type_mark.UseNil = refl
type_text_is type_mark.EmbedValues = refl
type_text_is type_mark.UseOrder = refl
type_text_is type_mark.List = refl
type_text_is type_mark.UseUnion = refl
type_text_is type_mark.UseNumber = refl
type_text_is type_mark.Replace = refl
type_text_is type_mark.Collapse = refl
type_text_is (type_mark.Text identifier text) = bracket_space (codes "[TEXT:") (identifier ++ as_text text)

-- instructions of one rank
abbrev pub PartKind : ℕ → ℕ → PartMarkKind → Type 0
PartKind k place kind = rank_of_part_mark kind ≡ k

abbrev pub TypeKind : ℕ → ℕ → TypeMarkKind → Type 0
TypeKind k place kind = (rank_of_type_mark kind ≡ k) × IsTypeMark kind

attribute_law : Law (PartKind 0) never part_kind_text AnyRest attribute_at
attribute_law = as_law (word_law (codes "[ATTRIBUTE]")) (record { fine = λ place x f. refl; deep = λ place x f. refl; write = λ place x f. refl; onto = onto })
  where
    onto : (place : ℕ) (kind : PartMarkKind) → PartKind 0 place kind → (x : Unit {0}) × Anything place x × (is_kind part_mark.Attribute place x ≡ kind)
    onto place part_mark.Attribute f = (tt, tt, refl)
    onto place _ f = absurd (omega (arith, f))

untagged_law : Law (PartKind 1) never part_kind_text AnyRest untagged_at
untagged_law = as_law (word_law (codes "[UNTAGGED]")) (record { fine = λ place x f. refl; deep = λ place x f. refl; write = λ place x f. refl; onto = onto })
  where
    onto : (place : ℕ) (kind : PartMarkKind) → PartKind 1 place kind → (x : Unit {0}) × Anything place x × (is_kind part_mark.Untagged place x ≡ kind)
    onto place part_mark.Untagged f = (tt, tt, refl)
    onto place _ f = absurd (omega (arith, f))

name_mark_law : Law (PartKind 2) never part_kind_text AnyRest name_mark_at
name_mark_law = as_law (behind_law (codes "[NAME") (before_law (codes "]") {Follow = AnyRest} name_as_law (λ place a rest f h. (λ here. tt))) (λ place. (as_.Capitalized, tt)))
    (record { fine = λ place x f. refl; deep = λ place x f. refl; write = λ place x f. refl; onto = onto })
  where
    onto : (place : ℕ) (kind : PartMarkKind) → PartKind 2 place kind → (x : NameAs) × Anything place x × (name_kind place x ≡ kind)
    onto place (part_mark.Name name) f = (name, tt, refl)
    onto place _ f = absurd (omega (arith, f))

namespace_law : Law (PartKind 3) never part_kind_text AnyRest namespace_at
namespace_law = as_law (behind_law (codes "[NAMESPACE AS ") (before_law (codes "]") {Follow = AnyRest} quoted_law (λ place a rest f h. (λ here. tt))) (λ place. ([], tt)))
    (record { fine = λ place x f. refl; deep = λ place x f. refl; write = λ place x f. refl; onto = onto })
  where
    onto : (place : ℕ) (kind : PartMarkKind) → PartKind 3 place kind → (x : List ℕ) × Anything place x × (namespace_kind place x ≡ kind)
    onto place (part_mark.Namespace space) f = (space, tt, refl)
    onto place _ f = absurd (omega (arith, f))

use_nil_law : Law (TypeKind 4) never type_kind_text AnyRest use_nil_at
use_nil_law = as_law (word_law (codes "[USE-NIL]")) (record { fine = λ place x f. (refl, tt); deep = λ place x f. refl; write = λ place x f. refl; onto = onto })
  where
    onto : (place : ℕ) (kind : TypeMarkKind) → TypeKind 4 place kind → (x : Unit {0}) × Anything place x × (is_kind type_mark.UseNil place x ≡ kind)
    onto place type_mark.UseNil f = (tt, tt, refl)
    onto place _ f = absurd (omega (arith, f.0))

embed_values_law : Law (TypeKind 5) never type_kind_text AnyRest embed_values_at
embed_values_law = as_law (word_law (codes "[EMBED-VALUES]")) (record { fine = λ place x f. (refl, tt); deep = λ place x f. refl; write = λ place x f. refl; onto = onto })
  where
    onto : (place : ℕ) (kind : TypeMarkKind) → TypeKind 5 place kind → (x : Unit {0}) × Anything place x × (is_kind type_mark.EmbedValues place x ≡ kind)
    onto place type_mark.EmbedValues f = (tt, tt, refl)
    onto place _ f = absurd (omega (arith, f.0))

use_order_law : Law (TypeKind 6) never type_kind_text AnyRest use_order_at
use_order_law = as_law (word_law (codes "[USE-ORDER]")) (record { fine = λ place x f. (refl, tt); deep = λ place x f. refl; write = λ place x f. refl; onto = onto })
  where
    onto : (place : ℕ) (kind : TypeMarkKind) → TypeKind 6 place kind → (x : Unit {0}) × Anything place x × (is_kind type_mark.UseOrder place x ≡ kind)
    onto place type_mark.UseOrder f = (tt, tt, refl)
    onto place _ f = absurd (omega (arith, f.0))

list_law : Law (TypeKind 7) never type_kind_text AnyRest list_at
list_law = as_law (word_law (codes "[LIST]")) (record { fine = λ place x f. (refl, tt); deep = λ place x f. refl; write = λ place x f. refl; onto = onto })
  where
    onto : (place : ℕ) (kind : TypeMarkKind) → TypeKind 7 place kind → (x : Unit {0}) × Anything place x × (is_kind type_mark.List place x ≡ kind)
    onto place type_mark.List f = (tt, tt, refl)
    onto place _ f = absurd (omega (arith, f.0))

use_union_law : Law (TypeKind 8) never type_kind_text AnyRest use_union_at
use_union_law = as_law (word_law (codes "[USE-UNION]")) (record { fine = λ place x f. (refl, tt); deep = λ place x f. refl; write = λ place x f. refl; onto = onto })
  where
    onto : (place : ℕ) (kind : TypeMarkKind) → TypeKind 8 place kind → (x : Unit {0}) × Anything place x × (is_kind type_mark.UseUnion place x ≡ kind)
    onto place type_mark.UseUnion f = (tt, tt, refl)
    onto place _ f = absurd (omega (arith, f.0))

use_number_law : Law (TypeKind 9) never type_kind_text AnyRest use_number_at
use_number_law = as_law (word_law (codes "[USE-NUMBER]")) (record { fine = λ place x f. (refl, tt); deep = λ place x f. refl; write = λ place x f. refl; onto = onto })
  where
    onto : (place : ℕ) (kind : TypeMarkKind) → TypeKind 9 place kind → (x : Unit {0}) × Anything place x × (is_kind type_mark.UseNumber place x ≡ kind)
    onto place type_mark.UseNumber f = (tt, tt, refl)
    onto place _ f = absurd (omega (arith, f.0))

-- of the two that have one rank
abbrev IsKind : TypeMarkKind → ℕ → TypeMarkKind → Type 0
IsKind one place kind = kind ≡ one

word_kind_law : (one : TypeMarkKind) (word : List ℕ) → type_kind_text one ≡ word → Law (IsKind one) never type_kind_text AnyRest (word_kind_at one word)
word_kind_law one word e = as_law (word_law word) (record { fine = λ place x f. refl; deep = λ place x f. refl; write = λ place x f. e; onto = λ place kind f. (tt, tt, sym f) })

abbrev WhiteSpaces : ℕ → TypeMarkKind ⊎ TypeMarkKind → Type 0
WhiteSpaces = EitherFine (IsKind type_mark.Replace) (IsKind type_mark.Collapse)

white_space_law : Law (TypeKind 10) never type_kind_text AnyRest white_space_at
white_space_law = as_law
    (or_law {Follow = AnyRest} (word_kind_law type_mark.Replace (codes "[WHITESPACE REPLACE]") refl) (word_kind_law type_mark.Collapse (codes "[WHITESPACE COLLAPSE]") refl) (λ place a rest f h. tt) (λ place a rest f h. tt) (λ place b rest f h. apart place b rest f))
    (record { fine = fine; deep = deep; write = write; onto = onto })
  where
    apart : (place : ℕ) (b : TypeMarkKind) (rest : List ℕ) → b ≡ type_mark.Collapse → IsFailed (word_kind_at type_mark.Replace (codes "[WHITESPACE REPLACE]") place (type_kind_text b ++ rest))
    apart place b rest e = subst (λ k. IsFailed (word_kind_at type_mark.Replace (codes "[WHITESPACE REPLACE]") place (type_kind_text k ++ rest))) (sym e) tt

    fine : (place : ℕ) (x : TypeMarkKind ⊎ TypeMarkKind) → WhiteSpaces place x → TypeKind 10 place (either_kind place x)
    fine place (inl kind) f = subst (λ k. TypeKind 10 place k) (sym f) (refl, tt)
    fine place (inr kind) f = subst (λ k. TypeKind 10 place k) (sym f) (refl, tt)

    deep : (place : ℕ) (x : TypeMarkKind ⊎ TypeMarkKind) → WhiteSpaces place x → None ≡ either_deep never never x
    deep place (inl kind) f = refl
    deep place (inr kind) f = refl

    write : (place : ℕ) (x : TypeMarkKind ⊎ TypeMarkKind) → WhiteSpaces place x → type_kind_text (either_kind place x) ≡ either_written type_kind_text type_kind_text x
    write place (inl kind) f = refl
    write place (inr kind) f = refl

    onto : (place : ℕ) (kind : TypeMarkKind) → TypeKind 10 place kind → (x : TypeMarkKind ⊎ TypeMarkKind) × WhiteSpaces place x × (either_kind place x ≡ kind)
    onto place type_mark.Replace f = (inl type_mark.Replace, refl, refl)
    onto place type_mark.Collapse f = (inr type_mark.Collapse, refl, refl)
    onto place _ f = absurd (omega (arith, f.0))

-- what tells a name begins with a space
as_ends_name : (name : NameAs) (rest : List ℕ) → NameStops (as_text name ++ rest)
as_ends_name as_.Capitalized rest = record { item = tt; fails = λ place. tt }
as_ends_name as_.Uncapitalized rest = record { item = tt; fails = λ place. tt }
as_ends_name (as_.Quoted name) rest = record { item = tt; fails = λ place. tt }

text_mark_law : Law (TypeKind 11) never type_kind_text AnyRest text_mark_at
text_mark_law = as_law
    (behind_law (codes "[TEXT:")
    (before_law (codes "]") {Follow = AnyRest}
    (then_law {Follow = QuoteStops} identifier_law (λ place a f. name_as_law) (λ place here a f. (as_.Capitalized, tt)) (λ place here a b rest f g h. as_ends_name b rest) (λ place here a b rest f g h. h))
    (λ place a rest f h. (λ here. tt)))
    (λ place. ((97 ∷ [], as_.Capitalized), (refl, tt))))
    (record { fine = λ place x f. (refl, f.0); deep = λ place x f. refl; write = λ place x f. refl; onto = onto })
  where
    onto : (place : ℕ) (kind : TypeMarkKind) → TypeKind 11 place kind → (x : List ℕ × NameAs) × BehindFine (codes "[TEXT:") (BothFine IsIdentifier itself (λ a. Anything)) place x × (text_kind place x ≡ kind)
    onto place (type_mark.Text identifier text) f = ((identifier, text), (f.1, tt), refl)
    onto place _ f = absurd (omega (arith, f.0))

-- ---- one mark, where it stands

abbrev pub part_rank : PartMark → ℕ
part_rank m = rank_of_part_mark m.kind

abbrev pub part_text : PartMark → List ℕ
part_text m = part_mark_text m.kind

abbrev pub put_part : ℕ → PartMark → PartMark
put_part place m = record m { at = place }

abbrev pub AnyPartMark : PartMark → Type 0
AnyPartMark m = Unit {0}

abbrev pub type_rank : TypeMark → ℕ
type_rank m = rank_of_type_mark m.kind

abbrev pub type_text : TypeMark → List ℕ
type_text m = type_mark_text m.kind

abbrev pub put_type : ℕ → TypeMark → TypeMark
put_type place m = record m { at = place }

abbrev pub AnyTypeMark : TypeMark → Type 0
AnyTypeMark m = IsTypeMark m.kind

abbrev pub OnePart : ℕ → ℕ → PartMark → Type 0
OnePart = OfRank part_rank part_text AnyPartMark put_part placed_part_marks part_marks_from (λ place. refl) (λ place m ms. refl) (λ least. refl) (λ least m ms. refl)

abbrev pub OneType : ℕ → ℕ → TypeMark → Type 0
OneType = OfRank type_rank type_text AnyTypeMark put_type placed_type_marks type_marks_from (λ place. refl) (λ place m ms. refl) (λ least. refl) (λ least m ms. refl)

abbrev pub PartMarks : ℕ → ℕ → List PartMark → Type 0
PartMarks = Ranked part_rank part_text AnyPartMark put_part placed_part_marks part_marks_from (λ place. refl) (λ place m ms. refl) (λ least. refl) (λ least m ms. refl)

abbrev pub TypeMarks : ℕ → ℕ → List TypeMark → Type 0
TypeMarks = Ranked type_rank type_text AnyTypeMark put_type placed_type_marks type_marks_from (λ place. refl) (λ place m ms. refl) (λ least. refl) (λ least m ms. refl)

one_part_law : (k : ℕ) (read : Reader PartMarkKind) → Law (PartKind k) never part_kind_text AnyRest read → Law (OnePart k) never part_text AnyRest (one_part_mark_at read)
one_part_law k read law = as_law (before_law (codes " ") {Follow = AnyRest} law (λ place a rest f h. tt))
    (record {
      fine = λ place kind f. record { rank_is = f; mark = tt; here = refl };
      deep = λ place kind f. refl;
      write = λ place kind f. part_text_is kind;
      onto = λ place m f. (m.kind, f.rank_is, f.here);
    })

one_type_law : (k : ℕ) (read : Reader TypeMarkKind) → Law (TypeKind k) never type_kind_text AnyRest read → Law (OneType k) never type_text AnyRest (one_type_mark_at read)
one_type_law k read law = as_law (before_law (codes " ") {Follow = AnyRest} law (λ place a rest f h. tt))
    (record {
      fine = λ place kind f. record { rank_is = f.0; mark = f.1; here = refl };
      deep = λ place kind f. refl;
      write = λ place kind f. type_text_is kind;
      onto = λ place m f. (m.kind, (f.rank_is, f.mark), f.here);
    })

part_kind_bytes : (kind : PartMarkKind) → 0 < length (part_mark_text kind)
part_kind_bytes part_mark.Attribute = omega arith
part_kind_bytes _ = omega arith

type_kind_bytes : (kind : TypeMarkKind) → 0 < length (type_mark_text kind)
type_kind_bytes type_mark.UseNil = omega arith
type_kind_bytes _ = omega arith

-- ---- where an instruction is not read

-- no instruction stands here
abbrev pub NoMark : List ℕ → Type 0
NoMark = IsUnread (word_at (codes "["))

unread_part_word : (kind : PartMarkKind) (word : List ℕ) (place : ℕ) (rest : List ℕ) → IsFailed (word_at (codes "[") place rest) → IsFailed (one_part_mark_at (word_kind_at kind (codes "[" ++ word)) place rest)
unread_part_word kind word place rest h =
    as_fails part_mark_here (before_at (word_kind_at kind (codes "[" ++ word)) (codes " ")) place rest
    (before_fails (word_kind_at kind (codes "[" ++ word)) (codes " ") place rest (as_fails (is_kind kind) (word_at (codes "[" ++ word)) place rest (longer_fails (codes "[") word place rest h)))

unread_type_word : (kind : TypeMarkKind) (word : List ℕ) (place : ℕ) (rest : List ℕ) → IsFailed (word_at (codes "[") place rest) → IsFailed (one_type_mark_at (word_kind_at kind (codes "[" ++ word)) place rest)
unread_type_word kind word place rest h =
    as_fails type_mark_here (before_at (word_kind_at kind (codes "[" ++ word)) (codes " ")) place rest
    (before_fails (word_kind_at kind (codes "[" ++ word)) (codes " ") place rest (as_fails (is_kind kind) (word_at (codes "[" ++ word)) place rest (longer_fails (codes "[") word place rest h)))

unread_name : (place : ℕ) (rest : List ℕ) → IsFailed (word_at (codes "[") place rest) → IsFailed (one_part_mark_at name_mark_at place rest)
unread_name place rest h =
    as_fails part_mark_here (before_at name_mark_at (codes " ")) place rest
    (before_fails name_mark_at (codes " ") place rest
    (as_fails name_kind (behind_at (codes "[NAME") (before_at name_as_at (codes "]"))) place rest (behind_fails (codes "[NAME") (before_at name_as_at (codes "]")) place rest (longer_fails (codes "[") (codes "NAME") place rest h))))

unread_namespace : (place : ℕ) (rest : List ℕ) → IsFailed (word_at (codes "[") place rest) → IsFailed (one_part_mark_at namespace_at place rest)
unread_namespace place rest h =
    as_fails part_mark_here (before_at namespace_at (codes " ")) place rest
    (before_fails namespace_at (codes " ") place rest
    (as_fails namespace_kind (behind_at (codes "[NAMESPACE AS ") (before_at quoted_at (codes "]"))) place rest (behind_fails (codes "[NAMESPACE AS ") (before_at quoted_at (codes "]")) place rest (longer_fails (codes "[") (codes "NAMESPACE AS ") place rest h))))

unread_white_space : (place : ℕ) (rest : List ℕ) → IsFailed (word_at (codes "[") place rest) → IsFailed (one_type_mark_at white_space_at place rest)
unread_white_space place rest h =
    as_fails type_mark_here (before_at white_space_at (codes " ")) place rest
    (before_fails white_space_at (codes " ") place rest
    (as_fails either_kind (or_at (word_kind_at type_mark.Replace (codes "[WHITESPACE REPLACE]")) (word_kind_at type_mark.Collapse (codes "[WHITESPACE COLLAPSE]"))) place rest
    (or_fails (word_kind_at type_mark.Replace (codes "[WHITESPACE REPLACE]")) (word_kind_at type_mark.Collapse (codes "[WHITESPACE COLLAPSE]")) place rest
    (as_fails (is_kind type_mark.Replace) (word_at (codes "[WHITESPACE REPLACE]")) place rest (longer_fails (codes "[") (codes "WHITESPACE REPLACE]") place rest h))
    (as_fails (is_kind type_mark.Collapse) (word_at (codes "[WHITESPACE COLLAPSE]")) place rest (longer_fails (codes "[") (codes "WHITESPACE COLLAPSE]") place rest h)))))

unread_text : (place : ℕ) (rest : List ℕ) → IsFailed (word_at (codes "[") place rest) → IsFailed (one_type_mark_at text_mark_at place rest)
unread_text place rest h =
    as_fails type_mark_here (before_at text_mark_at (codes " ")) place rest
    (before_fails text_mark_at (codes " ") place rest
    (as_fails text_kind (behind_at (codes "[TEXT:") (before_at (then_at identifier_at (λ identifier. name_as_at)) (codes "]"))) place rest
    (behind_fails (codes "[TEXT:") (before_at (then_at identifier_at (λ identifier. name_as_at)) (codes "]")) place rest (longer_fails (codes "[") (codes "TEXT:") place rest h))))

-- ---- nor before instructions of a higher rank

attribute_before : (place : ℕ) (kind : PartMarkKind) (rest : List ℕ) → nat_le 1 (rank_of_part_mark kind) ≡ true → IsFailed (one_part_mark_at attribute_at place (part_mark_text kind ++ rest))
attribute_before place part_mark.Attribute rest e = absurd cc
attribute_before place _ rest e = tt

attribute_before_type : (place : ℕ) (kind : TypeMarkKind) (rest : List ℕ) → IsFailed (one_part_mark_at attribute_at place (type_mark_text kind ++ rest))
attribute_before_type place type_mark.UseNil rest = tt
attribute_before_type place _ rest = tt

untagged_before : (place : ℕ) (kind : PartMarkKind) (rest : List ℕ) → nat_le 2 (rank_of_part_mark kind) ≡ true → IsFailed (one_part_mark_at untagged_at place (part_mark_text kind ++ rest))
untagged_before place part_mark.Untagged rest e = absurd cc
untagged_before place _ rest e = tt

untagged_before_type : (place : ℕ) (kind : TypeMarkKind) (rest : List ℕ) → IsFailed (one_part_mark_at untagged_at place (type_mark_text kind ++ rest))
untagged_before_type place type_mark.UseNil rest = tt
untagged_before_type place _ rest = tt

name_mark_before : (place : ℕ) (kind : PartMarkKind) (rest : List ℕ) → nat_le 3 (rank_of_part_mark kind) ≡ true → IsFailed (one_part_mark_at name_mark_at place (part_mark_text kind ++ rest))
name_mark_before place (part_mark.Name name) rest e = absurd cc
name_mark_before place _ rest e = tt

name_mark_before_type : (place : ℕ) (kind : TypeMarkKind) (rest : List ℕ) → IsFailed (one_part_mark_at name_mark_at place (type_mark_text kind ++ rest))
name_mark_before_type place type_mark.UseNil rest = tt
name_mark_before_type place _ rest = tt

namespace_before : (place : ℕ) (kind : PartMarkKind) (rest : List ℕ) → nat_le 4 (rank_of_part_mark kind) ≡ true → IsFailed (one_part_mark_at namespace_at place (part_mark_text kind ++ rest))
namespace_before place (part_mark.Name name) rest e = absurd cc
namespace_before place (part_mark.Namespace space) rest e = absurd cc
namespace_before place _ rest e = tt

namespace_before_type : (place : ℕ) (kind : TypeMarkKind) (rest : List ℕ) → IsFailed (one_part_mark_at namespace_at place (type_mark_text kind ++ rest))
namespace_before_type place type_mark.UseNil rest = tt
namespace_before_type place _ rest = tt

use_nil_before : (place : ℕ) (kind : TypeMarkKind) (rest : List ℕ) → nat_le 5 (rank_of_type_mark kind) ≡ true → IsFailed (one_type_mark_at use_nil_at place (type_mark_text kind ++ rest))
use_nil_before place type_mark.UseNil rest e = absurd cc
use_nil_before place _ rest e = tt

embed_values_before : (place : ℕ) (kind : TypeMarkKind) (rest : List ℕ) → nat_le 6 (rank_of_type_mark kind) ≡ true → IsFailed (one_type_mark_at embed_values_at place (type_mark_text kind ++ rest))
embed_values_before place type_mark.EmbedValues rest e = absurd cc
embed_values_before place _ rest e = tt

use_order_before : (place : ℕ) (kind : TypeMarkKind) (rest : List ℕ) → nat_le 7 (rank_of_type_mark kind) ≡ true → IsFailed (one_type_mark_at use_order_at place (type_mark_text kind ++ rest))
use_order_before place type_mark.UseOrder rest e = absurd cc
use_order_before place _ rest e = tt

list_before : (place : ℕ) (kind : TypeMarkKind) (rest : List ℕ) → nat_le 8 (rank_of_type_mark kind) ≡ true → IsFailed (one_type_mark_at list_at place (type_mark_text kind ++ rest))
list_before place type_mark.List rest e = absurd cc
list_before place _ rest e = tt

use_union_before : (place : ℕ) (kind : TypeMarkKind) (rest : List ℕ) → nat_le 9 (rank_of_type_mark kind) ≡ true → IsFailed (one_type_mark_at use_union_at place (type_mark_text kind ++ rest))
use_union_before place type_mark.UseUnion rest e = absurd cc
use_union_before place _ rest e = tt

use_number_before : (place : ℕ) (kind : TypeMarkKind) (rest : List ℕ) → nat_le 10 (rank_of_type_mark kind) ≡ true → IsFailed (one_type_mark_at use_number_at place (type_mark_text kind ++ rest))
use_number_before place type_mark.UseNumber rest e = absurd cc
use_number_before place _ rest e = tt

white_space_before : (place : ℕ) (kind : TypeMarkKind) (rest : List ℕ) → nat_le 11 (rank_of_type_mark kind) ≡ true → IsFailed (one_type_mark_at white_space_at place (type_mark_text kind ++ rest))
white_space_before place type_mark.Replace rest e = absurd cc
white_space_before place type_mark.Collapse rest e = absurd cc
white_space_before place _ rest e = tt

text_mark_before : (place : ℕ) (kind : TypeMarkKind) (rest : List ℕ) → nat_le 12 (rank_of_type_mark kind) ≡ true → IsFailed (one_type_mark_at text_mark_at place (type_mark_text kind ++ rest))
text_mark_before place (type_mark.Text identifier text) rest e = absurd cc
text_mark_before place _ rest e = tt

-- ---- all of a type

mark_then : (text more rest : List ℕ) → (text ++ more) ++ rest ≡ text ++ (more ++ rest)
mark_then text more rest = append_assoc text more rest

unread_type_marks : (k : ℕ) (read : Reader TypeMark) → ((place : ℕ) (kind : TypeMarkKind) (rest : List ℕ) → nat_le (suc k) (rank_of_type_mark kind) ≡ true → IsFailed (read place (type_mark_text kind ++ rest)))
    → ((place : ℕ) (rest : List ℕ) → IsFailed (word_at (codes "[") place rest) → IsFailed (read place rest)) → (place : ℕ) (ms : List TypeMark) (rest : List ℕ) → TypeMarks (suc k) place ms → NoMark rest → IsUnread read (marks_text type_rank type_text AnyTypeMark put_type placed_type_marks type_marks_from (λ place. refl) (λ place m ms. refl) (λ least. refl) (λ least m ms. refl) ms ++ rest)
unread_type_marks k read before unread place [] rest f h = λ here. unread here rest (h here)
unread_type_marks k read before unread place (m ∷ ms) rest f h = λ here.
    subst (λ l. IsFailed (read here l)) (sym (mark_then (type_mark_text m.kind) (marks_text type_rank type_text AnyTypeMark put_type placed_type_marks type_marks_from (λ place. refl) (λ place m ms. refl) (λ least. refl) (λ least m ms. refl) ms) rest))
    (before here m.kind (marks_text type_rank type_text AnyTypeMark put_type placed_type_marks type_marks_from (λ place. refl) (λ place m ms. refl) (λ least. refl) (λ least m ms. refl) ms ++ rest) (both (nat_le (suc k) (rank_of_type_mark m.kind)) (type_marks_from (rank_of_type_mark m.kind) ms) f.ranks).0)

no_type_mark : (m : TypeMark) → 12 ≤ type_rank m → ⊥
no_type_mark m le = none m.kind (le-leb 12 (type_rank m) le)
  where
    none : (kind : TypeMarkKind) → nat_le 12 (rank_of_type_mark kind) ≡ true → ⊥
    none type_mark.UseNil e = cc
    none _ e = cc

abbrev pub TypeMarksLaw : ℕ → Reader (List TypeMark) → Type 0
TypeMarksLaw k read = Law (TypeMarks k) never (marks_text type_rank type_text AnyTypeMark put_type placed_type_marks type_marks_from (λ place. refl) (λ place m ms. refl) (λ least. refl) (λ least m ms. refl)) NoMark read

after_types_law : TypeMarksLaw 12 no_marks_at
after_types_law = no_marks_law type_rank type_text AnyTypeMark put_type placed_type_marks type_marks_from (λ place. refl) (λ place m ms. refl) (λ least. refl) (λ least m ms. refl) 12 NoMark no_type_mark

texts_law : TypeMarksLaw 11 texts_at
texts_law = ranked_law type_rank type_text AnyTypeMark put_type placed_type_marks type_marks_from (λ place. refl) (λ place m ms. refl) (λ least. refl) (λ least m ms. refl) 11 NoMark (one_type_mark_at text_mark_at) no_marks_at (one_type_law 11 text_mark_at text_mark_law) (λ place m f. type_kind_bytes m.kind) after_types_law (λ place ms rest f h. unread_type_marks 11 (one_type_mark_at text_mark_at) text_mark_before (unread_text) place ms rest f h)

white_spaces_law : TypeMarksLaw 10 white_spaces_at
white_spaces_law = ranked_law type_rank type_text AnyTypeMark put_type placed_type_marks type_marks_from (λ place. refl) (λ place m ms. refl) (λ least. refl) (λ least m ms. refl) 10 NoMark (one_type_mark_at white_space_at) texts_at (one_type_law 10 white_space_at white_space_law) (λ place m f. type_kind_bytes m.kind) texts_law (λ place ms rest f h. unread_type_marks 10 (one_type_mark_at white_space_at) white_space_before (unread_white_space) place ms rest f h)

use_numbers_law : TypeMarksLaw 9 use_numbers_at
use_numbers_law = ranked_law type_rank type_text AnyTypeMark put_type placed_type_marks type_marks_from (λ place. refl) (λ place m ms. refl) (λ least. refl) (λ least m ms. refl) 9 NoMark (one_type_mark_at use_number_at) white_spaces_at (one_type_law 9 use_number_at use_number_law) (λ place m f. type_kind_bytes m.kind) white_spaces_law (λ place ms rest f h. unread_type_marks 9 (one_type_mark_at use_number_at) use_number_before (unread_type_word type_mark.UseNumber (codes "USE-NUMBER]")) place ms rest f h)

use_unions_law : TypeMarksLaw 8 use_unions_at
use_unions_law = ranked_law type_rank type_text AnyTypeMark put_type placed_type_marks type_marks_from (λ place. refl) (λ place m ms. refl) (λ least. refl) (λ least m ms. refl) 8 NoMark (one_type_mark_at use_union_at) use_numbers_at (one_type_law 8 use_union_at use_union_law) (λ place m f. type_kind_bytes m.kind) use_numbers_law (λ place ms rest f h. unread_type_marks 8 (one_type_mark_at use_union_at) use_union_before (unread_type_word type_mark.UseUnion (codes "USE-UNION]")) place ms rest f h)

lists_law : TypeMarksLaw 7 lists_at
lists_law = ranked_law type_rank type_text AnyTypeMark put_type placed_type_marks type_marks_from (λ place. refl) (λ place m ms. refl) (λ least. refl) (λ least m ms. refl) 7 NoMark (one_type_mark_at list_at) use_unions_at (one_type_law 7 list_at list_law) (λ place m f. type_kind_bytes m.kind) use_unions_law (λ place ms rest f h. unread_type_marks 7 (one_type_mark_at list_at) list_before (unread_type_word type_mark.List (codes "LIST]")) place ms rest f h)

use_orders_law : TypeMarksLaw 6 use_orders_at
use_orders_law = ranked_law type_rank type_text AnyTypeMark put_type placed_type_marks type_marks_from (λ place. refl) (λ place m ms. refl) (λ least. refl) (λ least m ms. refl) 6 NoMark (one_type_mark_at use_order_at) lists_at (one_type_law 6 use_order_at use_order_law) (λ place m f. type_kind_bytes m.kind) lists_law (λ place ms rest f h. unread_type_marks 6 (one_type_mark_at use_order_at) use_order_before (unread_type_word type_mark.UseOrder (codes "USE-ORDER]")) place ms rest f h)

embed_values_marks_law : TypeMarksLaw 5 embed_values_marks_at
embed_values_marks_law = ranked_law type_rank type_text AnyTypeMark put_type placed_type_marks type_marks_from (λ place. refl) (λ place m ms. refl) (λ least. refl) (λ least m ms. refl) 5 NoMark (one_type_mark_at embed_values_at) use_orders_at (one_type_law 5 embed_values_at embed_values_law) (λ place m f. type_kind_bytes m.kind) use_orders_law (λ place ms rest f h. unread_type_marks 5 (one_type_mark_at embed_values_at) embed_values_before (unread_type_word type_mark.EmbedValues (codes "EMBED-VALUES]")) place ms rest f h)

pub use_nils_law : TypeMarksLaw 4 type_marks_at
use_nils_law = ranked_law type_rank type_text AnyTypeMark put_type placed_type_marks type_marks_from (λ place. refl) (λ place m ms. refl) (λ least. refl) (λ least m ms. refl) 4 NoMark (one_type_mark_at use_nil_at) embed_values_marks_at (one_type_law 4 use_nil_at use_nil_law) (λ place m f. type_kind_bytes m.kind) embed_values_marks_law (λ place ms rest f h. unread_type_marks 4 (one_type_mark_at use_nil_at) use_nil_before (unread_type_word type_mark.UseNil (codes "USE-NIL]")) place ms rest f h)

-- ---- all of a part or an assignment

-- what ends the instructions of a part
pub record PartMarkStops (rest : List ℕ) : Type 0 where
  pub attribute : IsUnread (one_part_mark_at attribute_at) rest
  pub untagged : IsUnread (one_part_mark_at untagged_at) rest
  pub name : IsUnread (one_part_mark_at name_mark_at) rest
  pub namespace : IsUnread (one_part_mark_at namespace_at) rest

unread_part_marks : (k : ℕ) (read : Reader PartMark) → ((place : ℕ) (kind : PartMarkKind) (rest : List ℕ) → nat_le (suc k) (rank_of_part_mark kind) ≡ true → IsFailed (read place (part_mark_text kind ++ rest)))
    → (place : ℕ) (ms : List PartMark) (rest : List ℕ) → PartMarks (suc k) place ms → IsUnread read rest → IsUnread read (marks_text part_rank part_text AnyPartMark put_part placed_part_marks part_marks_from (λ place. refl) (λ place m ms. refl) (λ least. refl) (λ least m ms. refl) ms ++ rest)
unread_part_marks k read before place [] rest f h = h
unread_part_marks k read before place (m ∷ ms) rest f h = λ here.
    subst (λ l. IsFailed (read here l)) (sym (mark_then (part_mark_text m.kind) (marks_text part_rank part_text AnyPartMark put_part placed_part_marks part_marks_from (λ place. refl) (λ place m ms. refl) (λ least. refl) (λ least m ms. refl) ms) rest))
    (before here m.kind (marks_text part_rank part_text AnyPartMark put_part placed_part_marks part_marks_from (λ place. refl) (λ place m ms. refl) (λ least. refl) (λ least m ms. refl) ms ++ rest) (both (nat_le (suc k) (rank_of_part_mark m.kind)) (part_marks_from (rank_of_part_mark m.kind) ms) f.ranks).0)

no_part_mark : (m : PartMark) → 4 ≤ part_rank m → ⊥
no_part_mark m le = none m.kind (le-leb 4 (part_rank m) le)
  where
    none : (kind : PartMarkKind) → nat_le 4 (rank_of_part_mark kind) ≡ true → ⊥
    none part_mark.Attribute e = cc
    none _ e = cc

abbrev pub PartMarksLaw : ℕ → Reader (List PartMark) → Type 0
PartMarksLaw k read = Law (PartMarks k) never (marks_text part_rank part_text AnyPartMark put_part placed_part_marks part_marks_from (λ place. refl) (λ place m ms. refl) (λ least. refl) (λ least m ms. refl)) PartMarkStops read

after_parts_law : PartMarksLaw 4 no_marks_at
after_parts_law = no_marks_law part_rank part_text AnyPartMark put_part placed_part_marks part_marks_from (λ place. refl) (λ place m ms. refl) (λ least. refl) (λ least m ms. refl) 4 PartMarkStops no_part_mark

from_namespace_law : PartMarksLaw 3 (ranked_at (one_part_mark_at namespace_at) no_marks_at)
from_namespace_law = ranked_law part_rank part_text AnyPartMark put_part placed_part_marks part_marks_from (λ place. refl) (λ place m ms. refl) (λ least. refl) (λ least m ms. refl) 3 PartMarkStops (one_part_mark_at namespace_at) no_marks_at (one_part_law 3 namespace_at namespace_law) (λ place m f. part_kind_bytes m.kind) after_parts_law (λ place ms rest f h. unread_part_marks 3 (one_part_mark_at namespace_at) namespace_before place ms rest f h.namespace)

from_name_mark_law : PartMarksLaw 2 (ranked_at (one_part_mark_at name_mark_at) (ranked_at (one_part_mark_at namespace_at) no_marks_at))
from_name_mark_law = ranked_law part_rank part_text AnyPartMark put_part placed_part_marks part_marks_from (λ place. refl) (λ place m ms. refl) (λ least. refl) (λ least m ms. refl) 2 PartMarkStops (one_part_mark_at name_mark_at) (ranked_at (one_part_mark_at namespace_at) no_marks_at) (one_part_law 2 name_mark_at name_mark_law) (λ place m f. part_kind_bytes m.kind) from_namespace_law (λ place ms rest f h. unread_part_marks 2 (one_part_mark_at name_mark_at) name_mark_before place ms rest f h.name)

from_untagged_law : PartMarksLaw 1 (ranked_at (one_part_mark_at untagged_at) (ranked_at (one_part_mark_at name_mark_at) (ranked_at (one_part_mark_at namespace_at) no_marks_at)))
from_untagged_law = ranked_law part_rank part_text AnyPartMark put_part placed_part_marks part_marks_from (λ place. refl) (λ place m ms. refl) (λ least. refl) (λ least m ms. refl) 1 PartMarkStops (one_part_mark_at untagged_at) (ranked_at (one_part_mark_at name_mark_at) (ranked_at (one_part_mark_at namespace_at) no_marks_at)) (one_part_law 1 untagged_at untagged_law) (λ place m f. part_kind_bytes m.kind) from_name_mark_law (λ place ms rest f h. unread_part_marks 1 (one_part_mark_at untagged_at) untagged_before place ms rest f h.untagged)

pub part_marks_law : PartMarksLaw 0 (ranked_at (one_part_mark_at attribute_at) (ranked_at (one_part_mark_at untagged_at) (ranked_at (one_part_mark_at name_mark_at) (ranked_at (one_part_mark_at namespace_at) no_marks_at))))
part_marks_law = ranked_law part_rank part_text AnyPartMark put_part placed_part_marks part_marks_from (λ place. refl) (λ place m ms. refl) (λ least. refl) (λ least m ms. refl) 0 PartMarkStops (one_part_mark_at attribute_at) (ranked_at (one_part_mark_at untagged_at) (ranked_at (one_part_mark_at name_mark_at) (ranked_at (one_part_mark_at namespace_at) no_marks_at))) (one_part_law 0 attribute_at attribute_law) (λ place m f. part_kind_bytes m.kind) from_untagged_law (λ place ms rest f h. unread_part_marks 0 (one_part_mark_at attribute_at) attribute_before place ms rest f h.attribute)

-- before a type that has such instructions, or none
pub part_marks_end : (place : ℕ) (ms : List TypeMark) (rest : List ℕ) → NoMark rest → PartMarkStops (marks_text type_rank type_text AnyTypeMark put_type placed_type_marks type_marks_from (λ place. refl) (λ place m ms. refl) (λ least. refl) (λ least m ms. refl) ms ++ rest)
part_marks_end place [] rest h = record {
  attribute = λ here. unread_part_word part_mark.Attribute (codes "ATTRIBUTE]") here rest (h here);
  untagged = λ here. unread_part_word part_mark.Untagged (codes "UNTAGGED]") here rest (h here);
  name = λ here. unread_name here rest (h here);
  namespace = λ here. unread_namespace here rest (h here);
}
part_marks_end place (m ∷ ms) rest h = subst PartMarkStops (sym (mark_then (type_mark_text m.kind) (marks_text type_rank type_text AnyTypeMark put_type placed_type_marks type_marks_from (λ place. refl) (λ place m ms. refl) (λ least. refl) (λ least m ms. refl) ms) rest)) (record {
  attribute = λ here. attribute_before_type here m.kind (marks_text type_rank type_text AnyTypeMark put_type placed_type_marks type_marks_from (λ place. refl) (λ place m ms. refl) (λ least. refl) (λ least m ms. refl) ms ++ rest);
  untagged = λ here. untagged_before_type here m.kind (marks_text type_rank type_text AnyTypeMark put_type placed_type_marks type_marks_from (λ place. refl) (λ place m ms. refl) (λ least. refl) (λ least m ms. refl) ms ++ rest);
  name = λ here. name_mark_before_type here m.kind (marks_text type_rank type_text AnyTypeMark put_type placed_type_marks type_marks_from (λ place. refl) (λ place m ms. refl) (λ least. refl) (λ least m ms. refl) ms ++ rest);
  namespace = λ here. namespace_before_type here m.kind (marks_text type_rank type_text AnyTypeMark put_type placed_type_marks type_marks_from (λ place. refl) (λ place m ms. refl) (λ least. refl) (λ least m ms. refl) ms ++ rest);
})

-- ---- the first instruction of a type, up to its bracket

abbrev pub RankFrom : ℕ → ℕ → TypeMarkKind → Type 0
RankFrom k place kind = (k ≤ rank_of_type_mark kind) × IsTypeMark kind

abbrev FromRank : ℕ → ℕ → TypeMarkKind ⊎ TypeMarkKind → Type 0
FromRank k = EitherFine (TypeKind k) (RankFrom (suc k))

or_kind_law : (k : ℕ) (first second : Reader TypeMarkKind) → Law (TypeKind k) never type_kind_text AnyRest first → Law (RankFrom (suc k)) never type_kind_text AnyRest second
    → ((place : ℕ) (kind : TypeMarkKind) (rest : List ℕ) → nat_le (suc k) (rank_of_type_mark kind) ≡ true → IsFailed (first place (type_kind_text kind ++ rest))) → Law (RankFrom k) never type_kind_text AnyRest (or_kind_at first second)
or_kind_law k first second law other apart = as_law
    (or_law {Follow = AnyRest} law other (λ place a rest f h. tt) (λ place a rest f h. tt) (λ place b rest f h. apart place b rest (le-leb (suc k) (rank_of_type_mark b) f.0)))
    (record { fine = fine; deep = deep; write = write; onto = onto })
  where
    fine : (place : ℕ) (x : TypeMarkKind ⊎ TypeMarkKind) → FromRank k place x → RankFrom k place (either_kind place x)
    fine place (inl kind) f = (omega (arith, f.0), f.1)
    fine place (inr kind) f = (omega (arith, f.0), f.1)

    deep : (place : ℕ) (x : TypeMarkKind ⊎ TypeMarkKind) → FromRank k place x → None ≡ either_deep never never x
    deep place (inl kind) f = refl
    deep place (inr kind) f = refl

    write : (place : ℕ) (x : TypeMarkKind ⊎ TypeMarkKind) → FromRank k place x → type_kind_text (either_kind place x) ≡ either_written type_kind_text type_kind_text x
    write place (inl kind) f = refl
    write place (inr kind) f = refl

    onto : (place : ℕ) (kind : TypeMarkKind) → RankFrom k place kind → (x : TypeMarkKind ⊎ TypeMarkKind) × FromRank k place x × (either_kind place x ≡ kind)
    onto place kind f = cases (rank_of_type_mark kind == k) refl
      where
        cases : (t : Bool) → (rank_of_type_mark kind == k) ≡ t → (x : TypeMarkKind ⊎ TypeMarkKind) × FromRank k place x × (either_kind place x ≡ kind)
        cases true e = (inl kind, (eqb-true (rank_of_type_mark kind) k e, f.1), refl)
        cases false e = (inr kind, (omega (arith, f.0, eqb-false (rank_of_type_mark kind) k e), f.1), refl)

text_or_none_law : Law (RankFrom 11) never type_kind_text AnyRest text_mark_at
text_or_none_law = restated text_mark_law (alike (λ place kind f. (omega (arith, f.0), f.1)) (λ place kind f. (eleven kind f.0, f.1)) (λ place kind f. refl) (λ place kind f. refl))
  where
    eleven : (kind : TypeMarkKind) → 11 ≤ rank_of_type_mark kind → rank_of_type_mark kind ≡ 11
    eleven (type_mark.Text identifier text) le = refl
    eleven _ le = absurd (omega (arith, le))

use_nil_bare : (place : ℕ) (kind : TypeMarkKind) (rest : List ℕ) → nat_le 5 (rank_of_type_mark kind) ≡ true → IsFailed (use_nil_at place (type_kind_text kind ++ rest))
use_nil_bare place type_mark.UseNil rest e = absurd cc
use_nil_bare place _ rest e = tt

embed_values_bare : (place : ℕ) (kind : TypeMarkKind) (rest : List ℕ) → nat_le 6 (rank_of_type_mark kind) ≡ true → IsFailed (embed_values_at place (type_kind_text kind ++ rest))
embed_values_bare place type_mark.EmbedValues rest e = absurd cc
embed_values_bare place _ rest e = tt

use_order_bare : (place : ℕ) (kind : TypeMarkKind) (rest : List ℕ) → nat_le 7 (rank_of_type_mark kind) ≡ true → IsFailed (use_order_at place (type_kind_text kind ++ rest))
use_order_bare place type_mark.UseOrder rest e = absurd cc
use_order_bare place _ rest e = tt

list_bare : (place : ℕ) (kind : TypeMarkKind) (rest : List ℕ) → nat_le 8 (rank_of_type_mark kind) ≡ true → IsFailed (list_at place (type_kind_text kind ++ rest))
list_bare place type_mark.List rest e = absurd cc
list_bare place _ rest e = tt

use_union_bare : (place : ℕ) (kind : TypeMarkKind) (rest : List ℕ) → nat_le 9 (rank_of_type_mark kind) ≡ true → IsFailed (use_union_at place (type_kind_text kind ++ rest))
use_union_bare place type_mark.UseUnion rest e = absurd cc
use_union_bare place _ rest e = tt

use_number_bare : (place : ℕ) (kind : TypeMarkKind) (rest : List ℕ) → nat_le 10 (rank_of_type_mark kind) ≡ true → IsFailed (use_number_at place (type_kind_text kind ++ rest))
use_number_bare place type_mark.UseNumber rest e = absurd cc
use_number_bare place _ rest e = tt

white_space_bare : (place : ℕ) (kind : TypeMarkKind) (rest : List ℕ) → nat_le 11 (rank_of_type_mark kind) ≡ true → IsFailed (white_space_at place (type_kind_text kind ++ rest))
white_space_bare place type_mark.Replace rest e = absurd cc
white_space_bare place type_mark.Collapse rest e = absurd cc
white_space_bare place _ rest e = tt

own_from_white_space_law : Law (RankFrom 10) never type_kind_text AnyRest (or_kind_at white_space_at text_mark_at)
own_from_white_space_law = or_kind_law 10 white_space_at text_mark_at white_space_law text_or_none_law white_space_bare

own_from_use_number_law : Law (RankFrom 9) never type_kind_text AnyRest (or_kind_at use_number_at (or_kind_at white_space_at text_mark_at))
own_from_use_number_law = or_kind_law 9 use_number_at (or_kind_at white_space_at text_mark_at) use_number_law own_from_white_space_law use_number_bare

own_from_use_union_law : Law (RankFrom 8) never type_kind_text AnyRest (or_kind_at use_union_at (or_kind_at use_number_at (or_kind_at white_space_at text_mark_at)))
own_from_use_union_law = or_kind_law 8 use_union_at (or_kind_at use_number_at (or_kind_at white_space_at text_mark_at)) use_union_law own_from_use_number_law use_union_bare

own_from_list_law : Law (RankFrom 7) never type_kind_text AnyRest (or_kind_at list_at (or_kind_at use_union_at (or_kind_at use_number_at (or_kind_at white_space_at text_mark_at))))
own_from_list_law = or_kind_law 7 list_at (or_kind_at use_union_at (or_kind_at use_number_at (or_kind_at white_space_at text_mark_at))) list_law own_from_use_union_law list_bare

own_from_use_order_law : Law (RankFrom 6) never type_kind_text AnyRest (or_kind_at use_order_at (or_kind_at list_at (or_kind_at use_union_at (or_kind_at use_number_at (or_kind_at white_space_at text_mark_at)))))
own_from_use_order_law = or_kind_law 6 use_order_at (or_kind_at list_at (or_kind_at use_union_at (or_kind_at use_number_at (or_kind_at white_space_at text_mark_at)))) use_order_law own_from_list_law use_order_bare

own_from_embed_values_law : Law (RankFrom 5) never type_kind_text AnyRest (or_kind_at embed_values_at (or_kind_at use_order_at (or_kind_at list_at (or_kind_at use_union_at (or_kind_at use_number_at (or_kind_at white_space_at text_mark_at))))))
own_from_embed_values_law = or_kind_law 5 embed_values_at (or_kind_at use_order_at (or_kind_at list_at (or_kind_at use_union_at (or_kind_at use_number_at (or_kind_at white_space_at text_mark_at))))) embed_values_law own_from_use_order_law embed_values_bare

pub own_mark_law : Law (RankFrom 4) never type_kind_text AnyRest (or_kind_at use_nil_at (or_kind_at embed_values_at (or_kind_at use_order_at (or_kind_at list_at (or_kind_at use_union_at (or_kind_at use_number_at (or_kind_at white_space_at text_mark_at)))))))
own_mark_law = or_kind_law 4 use_nil_at (or_kind_at embed_values_at (or_kind_at use_order_at (or_kind_at list_at (or_kind_at use_union_at (or_kind_at use_number_at (or_kind_at white_space_at text_mark_at)))))) use_nil_law own_from_embed_values_law use_nil_bare

-- where no bracket stands
bare_word : (kind : TypeMarkKind) (word : List ℕ) (place : ℕ) (rest : List ℕ) → IsFailed (word_at (codes "[") place rest) → IsFailed (word_kind_at kind (codes "[" ++ word) place rest)
bare_word kind word place rest h = as_fails (is_kind kind) (word_at (codes "[" ++ word)) place rest (longer_fails (codes "[") word place rest h)

or_kind_fails : (first second : Reader TypeMarkKind) (place : ℕ) (rest : List ℕ) → IsFailed (first place rest) → IsFailed (second place rest) → IsFailed (or_kind_at first second place rest)
or_kind_fails first second place rest h k = as_fails either_kind (or_at first second) place rest (or_fails first second place rest h k)

pub own_mark_unread : (place : ℕ) (rest : List ℕ) → IsFailed (word_at (codes "[") place rest) → IsFailed (own_mark_at place rest)
own_mark_unread place rest h =
    or_kind_fails use_nil_at (or_kind_at embed_values_at (or_kind_at use_order_at (or_kind_at list_at (or_kind_at use_union_at (or_kind_at use_number_at (or_kind_at white_space_at text_mark_at)))))) place rest (bare_word type_mark.UseNil (codes "USE-NIL]") place rest h) (or_kind_fails embed_values_at (or_kind_at use_order_at (or_kind_at list_at (or_kind_at use_union_at (or_kind_at use_number_at (or_kind_at white_space_at text_mark_at))))) place rest (bare_word type_mark.EmbedValues (codes "EMBED-VALUES]") place rest h) (or_kind_fails use_order_at (or_kind_at list_at (or_kind_at use_union_at (or_kind_at use_number_at (or_kind_at white_space_at text_mark_at)))) place rest (bare_word type_mark.UseOrder (codes "USE-ORDER]") place rest h) (or_kind_fails list_at (or_kind_at use_union_at (or_kind_at use_number_at (or_kind_at white_space_at text_mark_at))) place rest (bare_word type_mark.List (codes "LIST]") place rest h) (or_kind_fails use_union_at (or_kind_at use_number_at (or_kind_at white_space_at text_mark_at)) place rest (bare_word type_mark.UseUnion (codes "USE-UNION]") place rest h) (or_kind_fails use_number_at (or_kind_at white_space_at text_mark_at) place rest (bare_word type_mark.UseNumber (codes "USE-NUMBER]") place rest h) (or_kind_fails white_space_at text_mark_at place rest (or_kind_fails (word_kind_at type_mark.Replace (codes "[WHITESPACE REPLACE]")) (word_kind_at type_mark.Collapse (codes "[WHITESPACE COLLAPSE]")) place rest (bare_word type_mark.Replace (codes "WHITESPACE REPLACE]") place rest h) (bare_word type_mark.Collapse (codes "WHITESPACE COLLAPSE]") place rest h)) (as_fails text_kind (behind_at (codes "[TEXT:") (before_at (then_at identifier_at (λ identifier. name_as_at)) (codes "]"))) place rest (behind_fails (codes "[TEXT:") (before_at (then_at identifier_at (λ identifier. name_as_at)) (codes "]")) place rest (longer_fails (codes "[") (codes "TEXT:") place rest h)))))))))

-- ---- as they are said of a tree

abbrev pub TypeMarksHere : ℕ → List TypeMark → Type 0
TypeMarksHere place ms = AreTypeMarks ms × (placed_type_marks place ms ≡ ms)

abbrev pub PartMarksHere : ℕ → List PartMark → Type 0
PartMarksHere place ms = ArePartMarks ms × (placed_part_marks place ms ≡ ms)

ranks_from : (kind : TypeMarkKind) → nat_le 0 (rank_of_type_mark kind) ≡ nat_le 4 (rank_of_type_mark kind)
ranks_from type_mark.UseNil = refl
ranks_from _ = refl

types_from : (ms : List TypeMark) → type_marks_from 0 ms ≡ type_marks_from 4 ms
types_from [] = refl
types_from (m ∷ ms) = ap (λ t. t && type_marks_from (rank_of_type_mark m.kind) ms) (ranks_from m.kind)

pub type_marks_law : Law TypeMarksHere never type_marks_text NoMark type_marks_at
type_marks_law = restated use_nils_law (alike
    (λ place ms f. ((types_from ms ∙ f.ranks, f.all), f.places))
    (λ place ms f. record { ranks = sym (types_from ms) ∙ f.0.0; all = f.0.1; places = f.1 })
    (λ place ms f. refl) (λ place ms f. refl))

pub part_marks_here_law : Law PartMarksHere never part_marks_text PartMarkStops part_marks_at
part_marks_here_law = restated part_marks_law (alike
    (λ place ms f. (f.ranks, f.places))
    (λ place ms f. record { ranks = f.0; all = λ k d lt. tt; places = f.1 })
    (λ place ms f. refl) (λ place ms f. refl))

pub part_marks_before_none : Law PartMarksHere never part_marks_text NoMark part_marks_at
part_marks_before_none = any_follow part_marks_here_law (λ rest h. part_marks_end 0 [] rest h)
