-- The laws of what stands behind the word of a type.
use Rattle.std.proofs.Common.{◌≡◌, ℕ, suc, ◌+◌, ◌⊎◌, inl, inr, Bool, true, false, ◌||◌, if◌then◌else◌, List, [], ◌∷◌, ◌++◌, length, refl, sym, ap, ap₂, ◌∙◌, subst, arith, codes, bytes_eq, Option, Some, None, option_map, append_assoc}
use Rattle.std.proofs.lemmas.Slice.Eq.{bytes_eq-Decides}
use Rattle.simple_types.specs.declared.simples.Class.{Class}
use Rattle.simple_types.specs.declared.simples.Class.TheVariants.{Any}
use Rattle.base_trees.specs.Rose.{Roses, none, more, list_of}
use Rattle.module_print.specs.Notation.{class_range, new_line}
use Rattle.module_grammar.specs.Reading.{Answer, Found, Fails, Deep, Reader, later, word_at, behind, go_on, then_at, or_else, many_at, answer_map, behind_at, before_at}
use Rattle.module_grammar.specs.Shapes.{Sunk, moved, Anything, AnyRest, never, word_of, IsFailed, IsUnread, BothFine, both_written, both_deep, EitherFine, either_deep, either_written, each_written, BehindFine, shifted, behind_word, before_word}
use Rattle.module_grammar.specs.Laws.{Law}
use Rattle.module_grammar.proofs.WordLaws.{word_law, nothing_law}
use Rattle.module_grammar.proofs.Then.{then_law}
use Rattle.module_grammar.proofs.Or.{or_law}
use Rattle.module_grammar.proofs.As.{Renames, as_law, any_follow}
use Rattle.module_grammar.proofs.Fixed.{behind_law, before_law}
use Rattle.module_text.specs.Names.{is_type_word}
use Rattle.module_text.specs.Plain.{IsItem, IsComponent, IsAlternative}
use Rattle.module_text.specs.Texts.{item_text, number_range_text, size_text}
use Rattle.module_text.specs.declared.bounds.PlainEnds.{PlainEnds}
use Rattle.module_text.specs.declared.bounds.PlainRange.{PlainRange}
use Rattle.module_text.specs.declared.types.NumberedItem.{NumberedItem}
use Rattle.module_text.specs.declared.types.PlainName.{PlainName}
use Rattle.module_text.specs.declared.types.PlainPart.{PlainPart}
use Rattle.module_text.specs.declared.types.PlainForm.{PlainForm}
use Rattle.module_text.specs.declared.types.PlainForm.TheVariants as form
use Rattle.module_text.specs.declared.types.PlainLabel.{PlainLabel}
use Rattle.module_grammar.specs.NameReading.{plain_identifier_at, number_at, name_here, number_here}
use Rattle.module_grammar.specs.BoundReading.{some_of, some_size_at}
use Rattle.module_grammar.specs.ValueReading.{listed_of, listed_at}
use Rattle.module_grammar.specs.TypeReading
use Rattle.module_grammar.specs.TypeReading.{Typed, TypedPart, opening, between, closing, block_at, numbered_of, numbered_at, enumerated_at, Form, kids_of, parts_of, Word, bool_of, reference_of, int_of, text_of, enumerated_of, choice_of, sequence_of_at, sequence_of, tail_at, component_at, alternative_at, item_at}
use Rattle.module_grammar.specs.TypeReading.{Boolean, Integer, Utf8String, Enumerated, Sequence, Choice, Other}
use Rattle.module_grammar.specs.Depth.{listed_deep}
use Rattle.module_grammar.specs.TypeDepth.{paired, typed_part_text, part_deep, block_deep, tail_deep}
use Rattle.module_grammar.proofs.Unread.{behind_fails, before_fails, longer_fails, then_fails, as_fails, stuck_behind}
use Rattle.module_grammar.proofs.NameLaws.{NameStops, IsIdentifierHere, name_text, plain_identifier_law, IsNumberHere, number_law, each_never}
use Rattle.module_grammar.proofs.BoundLaws.{IsNumberRangeHere, number_range_law, IsSizeHere, size_law, class_law}
use Rattle.module_grammar.proofs.OptionLaws.{ListedFine, listed_written, listed_law}
use Rattle.module_grammar.proofs.AbsenceLaws.{TypeStops, PartStops, type_comma, type_line, part_comma, part_line}
use Rattle.module_grammar.proofs.PartLaws.{PartHere}
use Rattle.module_grammar.proofs.BlockLaws.{pair_back, block_text, BlockFine, block_written, block_sunk, block_law}

-- ---- items of an ENUMERATED

abbrev pub IsNumberedHere : ℕ → NumberedItem → Type 0
IsNumberedHere place item = IsIdentifierHere place item.identifier × IsNumberHere (place + length (item.identifier.name ++ codes "(")) item.number

pub numbered_law : Law IsNumberedHere never item_text AnyRest numbered_at
numbered_law = as_law
    (then_law {Follow = AnyRest} (before_law (codes "(") {Follow = AnyRest} plain_identifier_law (λ place a rest f h. record { item = tt; fails = λ here. tt })) (λ place a f. before_law (codes ")") {Follow = AnyRest} number_law (λ place b rest g h. record { item = tt; fails = λ here. tt }))
    (λ place here a f. (number_here here (48 ∷ []), (refl, refl))) (λ place here a b rest f g h. tt) (λ place here a b rest f g h. tt))
    (record {
      fine = λ place x f. f;
      deep = λ place x f. refl;
      write = λ place x f. three x.0.name (codes "(") x.1.written (codes ")");
      onto = λ place item f. ((item.identifier, item.number), f, refl);
    })
  where
    three : (a b c d : List ℕ) → ((a ++ b) ++ c) ++ d ≡ (a ++ b) ++ (c ++ d)
    three a b c d = append_assoc (a ++ b) c d

-- what ends an item: what does not go on with its name
comma_ends : (beyond : List ℕ) → NameStops (codes ", " ++ beyond)
comma_ends beyond = record { item = tt; fails = λ place. tt }

abbrev pub EnumeratedFine : {A : Type 0} → (ℕ → A → Type 0) → (A → List ℕ) → ℕ → List A → Type 0
EnumeratedFine Fine write = BehindFine (codes " { ") (ListedFine (codes ", ") Fine write)

abbrev pub enumerated_text : {A : Type 0} → (A → List ℕ) → List A → List ℕ
enumerated_text write = behind_word (codes " { ") (before_word (listed_written (codes ", ") write) (codes " }"))

abbrev enumerated_deep : {A : Type 0} → (A → List ℕ) → List A → Option Sunk
enumerated_deep write = shifted (codes " { ") (listed_deep (codes ", ") write never)

numbered_items_law : Law (EnumeratedFine IsNumberedHere item_text) (enumerated_deep item_text) (enumerated_text item_text) AnyRest (enumerated_at numbered_at)
numbered_items_law = behind_law (codes " { ")
    (before_law (codes " }") {Follow = AnyRest}
    (listed_law (codes ", ") (omega arith) numbered_law (λ place. (some place, ((refl, refl), (refl, refl)))) (λ rest. tt) (λ place rest h. behind_fails (codes ", ") numbered_at place rest h))
    (λ place xs rest f h. record { item = tt; end = λ here. tt }))
    (λ place. (some place ∷ [], (((refl, refl), (refl, refl)), tt)))
  where
    some : ℕ → NumberedItem
    some place = record { identifier = name_here place (97 ∷ []); number = number_here (place + 2) (48 ∷ []) }

names_law : Law (EnumeratedFine IsIdentifierHere name_text) (enumerated_deep name_text) (enumerated_text name_text) AnyRest (enumerated_at plain_identifier_at)
names_law = behind_law (codes " { ")
    (before_law (codes " }") {Follow = AnyRest}
    (listed_law (codes ", ") (omega arith) plain_identifier_law (λ place. (name_here place (97 ∷ []), (refl, refl))) comma_ends (λ place rest h. behind_fails (codes ", ") plain_identifier_at place rest h))
    (λ place xs rest f h. record { item = record { item = tt; fails = λ here. tt }; end = λ here. tt }))
    (λ place. (name_here place (97 ∷ []) ∷ [], ((refl, refl), tt)))

listed_never : {A : Type 0} (between : List ℕ) (write : A → List ℕ) (xs : List A) → listed_deep between write never xs ≡ None
listed_never between write [] = refl
listed_never between write (x ∷ xs) = ap (λ d. option_map (moved (length (write x))) d) (each_never (behind_word between write) (shifted between never) (λ a. refl) xs)

pub enumerated_never : {A : Type 0} (write : A → List ℕ) (xs : List A) → None ≡ enumerated_deep write xs
enumerated_never write xs = sym (ap (λ d. option_map (moved 3) d) (listed_never (codes ", ") write xs))

-- ---- names that are followed by no number

comma_or_brace : (rest : List ℕ) → NameStops (codes " }" ++ rest) × IsUnread (word_at (codes "(")) (codes " }" ++ rest)
comma_or_brace rest = (record { item = tt; fails = λ place. tt }, λ place. tt)

names_end : (names : List PlainName) (rest : List ℕ) → NameStops rest × IsUnread (word_at (codes "(")) rest → NameStops (each_written (behind_word (codes ", ") name_text) names ++ rest) × IsUnread (word_at (codes "(")) (each_written (behind_word (codes ", ") name_text) names ++ rest)
names_end [] rest h = h
names_end (n ∷ names) rest h = (record { item = tt; fails = λ place. tt }, λ place. tt)

numbered_failed : (place : ℕ) (n : PlainName) (rest : List ℕ) → IsIdentifierHere place n → NameStops rest × IsUnread (word_at (codes "(")) rest → IsFailed (numbered_at place (n.name ++ rest))
numbered_failed place n rest f h =
    as_fails numbered_of (then_at (before_at plain_identifier_at (codes "(")) (λ name. before_at number_at (codes ")"))) place (n.name ++ rest)
    (then_fails (before_at plain_identifier_at (codes "(")) (λ name. before_at number_at (codes ")")) place (n.name ++ rest)
    (stuck_behind (codes "(") plain_identifier_law (λ a. refl) place n rest f h.0 h.1))

list_failed : (place : ℕ) (l : List ℕ) → IsFailed (numbered_at place l) → IsFailed (before_at (listed_at (codes ", ") numbered_at) (codes " }") place l)
list_failed place l h =
    before_fails (listed_at (codes ", ") numbered_at) (codes " }") place l
    (as_fails listed_of (then_at numbered_at (λ a. many_at (behind_at (codes ", ") numbered_at))) place l (then_fails numbered_at (λ a. many_at (behind_at (codes ", ") numbered_at)) place l h))

opened_failed : {A : Type 0} (read : Reader A) (place : ℕ) (l : List ℕ) → IsFailed (read (place + 3) l) → IsFailed (behind_at (codes " { ") read place (32 ∷ 123 ∷ 32 ∷ l))
opened_failed {A = A} read place l h = cases (read (place + 3) l) h
  where
    cases : (r : Answer A) → IsFailed r → IsFailed (answer_map (λ (x : Unit {0} × A). x.1) (behind tt 3 3 r))
    cases (Found a taken n) g = g
    cases (Fails n) g = g
    cases (Deep at n) g = g

-- ---- words

-- what a word is
abbrev WordIs : Word → List ℕ → Type 0
WordIs Boolean name = name ≡ codes "BOOLEAN"
WordIs Integer name = name ≡ codes "INTEGER"
WordIs Utf8String name = name ≡ codes "UTF8String"
WordIs Enumerated name = name ≡ codes "ENUMERATED"
WordIs Sequence name = name ≡ codes "SEQUENCE"
WordIs Choice name = name ≡ codes "CHOICE"
WordIs Other name = is_type_word name ≡ false

abbrev word_by : Bool → Bool → Bool → Bool → Bool → Bool → Word
word_by b i u e s c = if b then Boolean else (if i then Integer else (if u then Utf8String else (if e then Enumerated else (if s then Sequence else (if c then Choice else Other)))))

pub word_is : (name : List ℕ) (k : Word) → TypeReading.word_of name ≡ k → WordIs k name
word_is name k e = cases (bytes_eq name (codes "BOOLEAN")) (bytes_eq name (codes "INTEGER")) (bytes_eq name (codes "UTF8String")) (bytes_eq name (codes "ENUMERATED")) (bytes_eq name (codes "SEQUENCE")) (bytes_eq name (codes "CHOICE")) refl refl refl refl refl refl k e
  where
    same : (word : List ℕ) → bytes_eq name word ≡ true → name ≡ word
    same word h = (bytes_eq-Decides name word).0 h

    cases : (b i u n s c : Bool) → bytes_eq name (codes "BOOLEAN") ≡ b → bytes_eq name (codes "INTEGER") ≡ i → bytes_eq name (codes "UTF8String") ≡ u → bytes_eq name (codes "ENUMERATED") ≡ n → bytes_eq name (codes "SEQUENCE") ≡ s → bytes_eq name (codes "CHOICE") ≡ c
        → (k : Word) → word_by b i u n s c ≡ k → WordIs k name
    cases true i u n s c p q r t v w k e = subst (λ j. WordIs j name) e (same (codes "BOOLEAN") p)
    cases false true u n s c p q r t v w k e = subst (λ j. WordIs j name) e (same (codes "INTEGER") q)
    cases false false true n s c p q r t v w k e = subst (λ j. WordIs j name) e (same (codes "UTF8String") r)
    cases false false false true s c p q r t v w k e = subst (λ j. WordIs j name) e (same (codes "ENUMERATED") t)
    cases false false false false true c p q r t v w k e = subst (λ j. WordIs j name) e (same (codes "SEQUENCE") v)
    cases false false false false false true p q r t v w k e = subst (λ j. WordIs j name) e (same (codes "CHOICE") w)
    cases false false false false false false p q r t v w k e = subst (λ j. WordIs j name) e (ap (λ x. (x || bytes_eq name (codes "INTEGER")) || bytes_eq name (codes "UTF8String")) p ∙ ap (λ x. x || bytes_eq name (codes "UTF8String")) q ∙ r)

-- ---- what stands behind a word

-- ---- what stands behind a word

-- a block of components, or no part
abbrev pub SequenceFine : ℕ → ℕ → List PlainPart → Roses PlainLabel → Type 0
SequenceFine levels place parts ts = (xs : List TypedPart) × (BlockFine levels (PartHere IsComponent (suc levels)) place xs ⊎ (xs ≡ [])) × (parts_of xs ≡ parts) × (kids_of xs ≡ ts)

abbrev pub ChoiceFine : ℕ → ℕ → List PlainPart → Roses PlainLabel → Type 0
ChoiceFine levels place parts ts = (xs : List TypedPart) × BlockFine levels (PartHere IsAlternative (suc levels)) place xs × (parts_of xs ≡ parts) × (kids_of xs ≡ ts)

abbrev pub ItemFine : ℕ → ℕ → Option PlainEnds → PlainPart → Roses PlainLabel → Type 0
ItemFine levels place size part ts = (t : Typed) × IsSizeHere place size × PartHere IsItem levels ((place + length (size_text size)) + 4) (part, t) × (more t none ≡ ts)

abbrev pub TailFine : ℕ → PlainName → ℕ → Form → Type 0
TailFine levels w place (form.Bool, ts) = (w.name ≡ codes "BOOLEAN") × (none ≡ ts)
TailFine levels w place (form.Int r, ts) = (w.name ≡ codes "INTEGER") × IsNumberRangeHere place r × (none ≡ ts)
TailFine levels w place (form.Numbers items, ts) = (w.name ≡ codes "ENUMERATED") × EnumeratedFine IsNumberedHere item_text place items × (none ≡ ts)
TailFine levels w place (form.Words names, ts) = (w.name ≡ codes "ENUMERATED") × EnumeratedFine IsIdentifierHere name_text place names × (none ≡ ts)
TailFine levels w place (form.Utf8 size class, ts) = (w.name ≡ codes "UTF8String") × IsSizeHere place size × (none ≡ ts)
TailFine levels w place (form.Sequence parts, ts) = (w.name ≡ codes "SEQUENCE") × SequenceFine levels place parts ts
TailFine levels w place (form.Choice parts, ts) = (w.name ≡ codes "CHOICE") × ChoiceFine levels place parts ts
TailFine levels w place (form.SequenceOf size part, ts) = (w.name ≡ codes "SEQUENCE") × ItemFine levels place size part ts
TailFine levels w place (form.Ref r, ts) = (r ≡ w) × (is_type_word w.name ≡ false) × (none ≡ ts)

abbrev pub items_text : ℕ → PlainPart → Roses PlainLabel → List ℕ
items_text levels part none = []
items_text levels part (more t ts) = typed_part_text levels (part, t)

abbrev pub tail_text : ℕ → Form → List ℕ
tail_text levels (form.Bool, ts) = []
tail_text levels (form.Int r, ts) = number_range_text r
tail_text levels (form.Numbers items, ts) = enumerated_text item_text items
tail_text levels (form.Words names, ts) = enumerated_text name_text names
tail_text levels (form.Utf8 size class, ts) = size_text size ++ class_range class
tail_text levels (form.Sequence parts, ts) = block_text levels (paired parts (list_of ts))
tail_text levels (form.Choice parts, ts) = block_text levels (paired parts (list_of ts))
tail_text levels (form.SequenceOf size part, ts) = size_text size ++ (codes " OF " ++ items_text levels part ts)
tail_text levels (form.Ref r, ts) = []

-- one word is not another
apart : {A : Type 0} (name : List ℕ) (k : Word) (word : List ℕ) → TypeReading.word_of name ≡ k → name ≡ word → (TypeReading.word_of word ≡ k → A) → A
apart name k word e f h = h (ap TypeReading.word_of (sym f) ∙ e)

-- what ends a type, read after a word alone
abbrev Sizes : Type 0
Sizes = Option PlainEnds × Class

module _ (most levels : ℕ) (here_deep : Typed → Option Sunk) (here : Reader Typed) (inside_deep : Typed → Option Sunk) (inside : Reader Typed)
    (component : Law (PartHere IsComponent (suc levels)) (part_deep most (suc levels) inside_deep) (typed_part_text (suc levels)) PartStops (component_at most inside))
    (alternative : Law (PartHere IsAlternative (suc levels)) (part_deep most (suc levels) inside_deep) (typed_part_text (suc levels)) TypeStops (alternative_at inside))
    (item : Law (PartHere IsItem levels) (part_deep most levels here_deep) (typed_part_text levels) TypeStops (item_at here))
    (some_component : (place : ℕ) → (x : TypedPart) × PartHere IsComponent (suc levels) place x)
    (some_alternative : (place : ℕ) → (x : TypedPart) × PartHere IsAlternative (suc levels) place x)
    (some_item : (place : ℕ) → (x : TypedPart) × PartHere IsItem levels place x) where
  abbrev tail_sunk : Form → Option Sunk
  tail_sunk x = tail_deep most levels here_deep inside_deep x.0 x.1

  components_law : Law (BlockFine levels (PartHere IsComponent (suc levels))) (block_sunk levels (part_deep most (suc levels) inside_deep)) (block_written levels) AnyRest (block_at levels (component_at most inside))
  components_law = block_law levels component some_component part_comma part_line

  alternatives_law : Law (BlockFine levels (PartHere IsAlternative (suc levels))) (block_sunk levels (part_deep most (suc levels) inside_deep)) (block_written levels) AnyRest (block_at levels (alternative_at inside))
  alternatives_law = block_law levels alternative some_alternative type_comma type_line

  no_block : {A : Type 0} (read : Reader A) (place : ℕ) (rest : List ℕ) → TypeStops rest → IsFailed (behind_at (opening levels) read place rest)
  no_block read place rest h = behind_fails (opening levels) read place rest (longer_fails (codes " {") (new_line (suc levels)) place rest (h.brace place))

  no_enumerated : {A : Type 0} (read : Reader A) (place : ℕ) (rest : List ℕ) → TypeStops rest → IsFailed (behind_at (codes " { ") read place rest)
  no_enumerated read place rest h = behind_fails (codes " { ") read place rest (longer_fails (codes " {") (codes " ") place rest (h.brace place))

  -- ---- words alone

  module _ (w : PlainName) where
    abbrev TailLaw : Word → Type 0
    TailLaw k = Law (TailFine levels w) tail_sunk (tail_text levels) TypeStops (tail_at most levels here inside w k)

    true_false : true ≡ false → ⊥
    true_false k = cc

    no_type_word : (word : List ℕ) → is_type_word word ≡ false → w.name ≡ word → is_type_word w.name ≡ false
    no_type_word word h e = ap is_type_word e ∙ h

    pub boolean_renames : TypeReading.word_of w.name ≡ Boolean → Renames (Anything {A = Unit {0}}) never (word_of []) (TailFine levels w) tail_sunk (tail_text levels) bool_of
    boolean_renames e = record { fine = λ place x f. (word_is w.name Boolean e, refl); deep = λ place x f. refl; write = λ place x f. refl; onto = onto }
      where
        onto : (place : ℕ) (c : Form) → TailFine levels w place c → (x : Unit {0}) × Anything place x × (bool_of place x ≡ c)
        onto place (form.Bool, ts) f = (tt, tt, ap (λ k. (form.Bool, k)) f.1)
        onto place (form.Int r, ts) f = apart w.name Boolean (codes "INTEGER") e f.0 (λ h. absurd cc)
        onto place (form.Numbers items, ts) f = apart w.name Boolean (codes "ENUMERATED") e f.0 (λ h. absurd cc)
        onto place (form.Words names, ts) f = apart w.name Boolean (codes "ENUMERATED") e f.0 (λ h. absurd cc)
        onto place (form.Utf8 size class, ts) f = apart w.name Boolean (codes "UTF8String") e f.0 (λ h. absurd cc)
        onto place (form.Sequence parts, ts) f = apart w.name Boolean (codes "SEQUENCE") e f.0 (λ h. absurd cc)
        onto place (form.Choice parts, ts) f = apart w.name Boolean (codes "CHOICE") e f.0 (λ h. absurd cc)
        onto place (form.SequenceOf size part, ts) f = apart w.name Boolean (codes "SEQUENCE") e f.0 (λ h. absurd cc)
        onto place (form.Ref r, ts) f = absurd (true_false (sym (ap is_type_word (word_is w.name Boolean e)) ∙ f.1))

    boolean_law : TypeReading.word_of w.name ≡ Boolean → TailLaw Boolean
    boolean_law e = as_law
        (any_follow {Follow = TypeStops} nothing_law (λ rest h. tt))
        (boolean_renames e)

    pub integer_renames : TypeReading.word_of w.name ≡ Integer → Renames IsNumberRangeHere never number_range_text (TailFine levels w) tail_sunk (tail_text levels) int_of
    integer_renames e = record { fine = λ place x f. (word_is w.name Integer e, f, refl); deep = λ place x f. refl; write = λ place x f. refl; onto = onto }
      where
        onto : (place : ℕ) (c : Form) → TailFine levels w place c → (x : Option PlainRange) × IsNumberRangeHere place x × (int_of place x ≡ c)
        onto place (form.Bool, ts) f = apart w.name Integer (codes "BOOLEAN") e f.0 (λ h. absurd cc)
        onto place (form.Int r, ts) f = (r, f.1, ap (λ k. (form.Int r, k)) f.2)
        onto place (form.Numbers items, ts) f = apart w.name Integer (codes "ENUMERATED") e f.0 (λ h. absurd cc)
        onto place (form.Words names, ts) f = apart w.name Integer (codes "ENUMERATED") e f.0 (λ h. absurd cc)
        onto place (form.Utf8 size class, ts) f = apart w.name Integer (codes "UTF8String") e f.0 (λ h. absurd cc)
        onto place (form.Sequence parts, ts) f = apart w.name Integer (codes "SEQUENCE") e f.0 (λ h. absurd cc)
        onto place (form.Choice parts, ts) f = apart w.name Integer (codes "CHOICE") e f.0 (λ h. absurd cc)
        onto place (form.SequenceOf size part, ts) f = apart w.name Integer (codes "SEQUENCE") e f.0 (λ h. absurd cc)
        onto place (form.Ref r, ts) f = absurd (true_false (sym (ap is_type_word (word_is w.name Integer e)) ∙ f.1))

    integer_law : TypeReading.word_of w.name ≡ Integer → TailLaw Integer
    integer_law e = as_law
        (any_follow {Follow = TypeStops} number_range_law (λ rest h. h.range))
        (integer_renames e)

    -- a class is no size
    class_no_size : (class : Class) (rest : List ℕ) → TypeStops rest → IsUnread some_size_at (class_range class ++ rest)
    class_no_size Any rest h = h.size
    class_no_size _ rest h = λ place. tt

    abbrev pub SizesFine : ℕ → Sizes → Type 0
    SizesFine = BothFine IsSizeHere size_text (λ size. Anything)

    pub text_renames : TypeReading.word_of w.name ≡ Utf8String → Renames SizesFine (both_deep size_text never (λ size. never)) (both_written size_text (λ size. class_range)) (TailFine levels w) tail_sunk (tail_text levels) text_of
    text_renames e = record { fine = λ place x f. (word_is w.name Utf8String e, f.0, refl); deep = λ place x f. refl; write = λ place x f. refl; onto = onto }
      where
        onto : (place : ℕ) (c : Form) → TailFine levels w place c → (x : Sizes) × SizesFine place x × (text_of place x ≡ c)
        onto place (form.Bool, ts) f = apart w.name Utf8String (codes "BOOLEAN") e f.0 (λ h. absurd cc)
        onto place (form.Int r, ts) f = apart w.name Utf8String (codes "INTEGER") e f.0 (λ h. absurd cc)
        onto place (form.Numbers items, ts) f = apart w.name Utf8String (codes "ENUMERATED") e f.0 (λ h. absurd cc)
        onto place (form.Words names, ts) f = apart w.name Utf8String (codes "ENUMERATED") e f.0 (λ h. absurd cc)
        onto place (form.Utf8 size class, ts) f = ((size, class), (f.1, tt), ap (λ k. (form.Utf8 size class, k)) f.2)
        onto place (form.Sequence parts, ts) f = apart w.name Utf8String (codes "SEQUENCE") e f.0 (λ h. absurd cc)
        onto place (form.Choice parts, ts) f = apart w.name Utf8String (codes "CHOICE") e f.0 (λ h. absurd cc)
        onto place (form.SequenceOf size part, ts) f = apart w.name Utf8String (codes "SEQUENCE") e f.0 (λ h. absurd cc)
        onto place (form.Ref r, ts) f = absurd (true_false (sym (ap is_type_word (word_is w.name Utf8String e)) ∙ f.1))

    text_law : TypeReading.word_of w.name ≡ Utf8String → TailLaw Utf8String
    text_law e = as_law
        (then_law {Follow = TypeStops} size_law (λ place size f. class_law) (λ place there size f. (Any, tt)) (λ place there size class rest f g h. class_no_size class rest h) (λ place there size class rest f g h. h.class))
        (text_renames e)

    abbrev pub Enumerations : Type 0
    Enumerations = List NumberedItem ⊎ (List PlainName ⊎ Unit {0})

    abbrev pub EnumerationFine : ℕ → Enumerations → Type 0
    EnumerationFine = EitherFine (EnumeratedFine IsNumberedHere item_text) (EitherFine (EnumeratedFine IsIdentifierHere name_text) Anything)

    abbrev pub enumeration_deep : Enumerations → Option Sunk
    enumeration_deep = either_deep (enumerated_deep item_text) (either_deep (enumerated_deep name_text) never)

    abbrev pub enumeration_text : Enumerations → List ℕ
    enumeration_text = either_written (enumerated_text item_text) (either_written (enumerated_text name_text) (word_of []))

    -- names without numbers are not read as numbered
    no_numbers : (place : ℕ) (x : List PlainName ⊎ Unit {0}) (rest : List ℕ) → EitherFine (EnumeratedFine IsIdentifierHere name_text) Anything place x → TypeStops rest → IsFailed (enumerated_at numbered_at place (either_written (enumerated_text name_text) (word_of []) x ++ rest))
    no_numbers place (inl []) rest f h = absurd f
    no_numbers place (inl (n ∷ names)) rest f h =
        subst (λ l. IsFailed (enumerated_at numbered_at place (32 ∷ 123 ∷ 32 ∷ l))) (sym (four n.name (each_written (behind_word (codes ", ") name_text) names) (codes " }") rest))
        (opened_failed (before_at (listed_at (codes ", ") numbered_at) (codes " }")) place (n.name ++ (each_written (behind_word (codes ", ") name_text) names ++ (codes " }" ++ rest)))
        (list_failed (place + 3) (n.name ++ (each_written (behind_word (codes ", ") name_text) names ++ (codes " }" ++ rest)))
        (numbered_failed (place + 3) n (each_written (behind_word (codes ", ") name_text) names ++ (codes " }" ++ rest)) f.0 (names_end names (codes " }" ++ rest) (comma_or_brace rest)))))
      where
        four : (a b c d : List ℕ) → ((a ++ b) ++ c) ++ d ≡ a ++ (b ++ (c ++ d))
        four a b c d = simp append_assoc
    no_numbers place (inr x) rest f h = no_enumerated (before_at (listed_at (codes ", ") numbered_at) (codes " }")) place rest h

    pub enumerated_renames : TypeReading.word_of w.name ≡ Enumerated → Renames EnumerationFine enumeration_deep enumeration_text (TailFine levels w) tail_sunk (tail_text levels) (enumerated_of w)
    enumerated_renames e = record { fine = fine; deep = deep; write = write; onto = onto }
      where
        fine : (place : ℕ) (x : Enumerations) → EnumerationFine place x → TailFine levels w place (enumerated_of w place x)
        fine place (inl items) f = (word_is w.name Enumerated e, f, refl)
        fine place (inr (inl names)) f = (word_is w.name Enumerated e, f, refl)
        fine place (inr (inr x)) f = (refl, no_type_word (codes "ENUMERATED") refl (word_is w.name Enumerated e), refl)

        deep : (place : ℕ) (x : Enumerations) → EnumerationFine place x → tail_sunk (enumerated_of w place x) ≡ enumeration_deep x
        deep place (inl items) f = enumerated_never item_text items
        deep place (inr (inl names)) f = enumerated_never name_text names
        deep place (inr (inr x)) f = refl

        write : (place : ℕ) (x : Enumerations) → EnumerationFine place x → tail_text levels (enumerated_of w place x) ≡ enumeration_text x
        write place (inl items) f = refl
        write place (inr (inl names)) f = refl
        write place (inr (inr x)) f = refl

        onto : (place : ℕ) (c : Form) → TailFine levels w place c → (x : Enumerations) × EnumerationFine place x × (enumerated_of w place x ≡ c)
        onto place (form.Bool, ts) f = apart w.name Enumerated (codes "BOOLEAN") e f.0 (λ h. absurd cc)
        onto place (form.Int r, ts) f = apart w.name Enumerated (codes "INTEGER") e f.0 (λ h. absurd cc)
        onto place (form.Numbers items, ts) f = (inl items, f.1, ap (λ k. (form.Numbers items, k)) f.2)
        onto place (form.Words names, ts) f = (inr (inl names), f.1, ap (λ k. (form.Words names, k)) f.2)
        onto place (form.Utf8 size class, ts) f = apart w.name Enumerated (codes "UTF8String") e f.0 (λ h. absurd cc)
        onto place (form.Sequence parts, ts) f = apart w.name Enumerated (codes "SEQUENCE") e f.0 (λ h. absurd cc)
        onto place (form.Choice parts, ts) f = apart w.name Enumerated (codes "CHOICE") e f.0 (λ h. absurd cc)
        onto place (form.SequenceOf size part, ts) f = apart w.name Enumerated (codes "SEQUENCE") e f.0 (λ h. absurd cc)
        onto place (form.Ref r, ts) f = (inr (inr tt), tt, ap₂ (λ k l. (form.Ref k, l)) (sym f.0) f.2)

    enumerated_law : TypeReading.word_of w.name ≡ Enumerated → TailLaw Enumerated
    enumerated_law e = as_law
        (or_law {Follow = TypeStops} numbered_items_law
        (or_law {Follow = TypeStops} names_law nothing_law (λ place a rest f h. tt) (λ place a rest f h. tt) (λ place b rest f h. no_enumerated (before_at (listed_at (codes ", ") plain_identifier_at) (codes " }")) place rest h))
        (λ place a rest f h. tt) (λ place a rest f h. h) (λ place b rest f h. no_numbers place b rest f h))
        (enumerated_renames e)

    -- ---- parts

    abbrev formed : (List PlainPart → PlainForm) → List PlainPart → Roses PlainLabel → Form
    formed f parts ts = (f parts, ts)

    pair_is : (f : List PlainPart → PlainForm) (xs : List TypedPart) (parts : List PlainPart) (ts : Roses PlainLabel) → parts_of xs ≡ parts → kids_of xs ≡ ts → formed f (parts_of xs) (kids_of xs) ≡ formed f parts ts
    pair_is f xs parts ts p q = ap₂ (formed f) p q

    block_written_is : (xs : List TypedPart) → (xs ≡ [] → ⊥) → block_text levels (paired (parts_of xs) (list_of (kids_of xs))) ≡ block_written levels xs
    block_written_is [] n = absurd (n refl)
    block_written_is (x ∷ xs) n = ap (λ l. block_text levels (x ∷ l)) (pair_back xs)

    not_empty : (Fine : ℕ → TypedPart → Type 0) (place : ℕ) (xs : List TypedPart) → BlockFine levels Fine place xs → xs ≡ [] → ⊥
    not_empty Fine place [] f e = f
    not_empty Fine place (x ∷ xs) f e = cc

    block_deep_is : (xs : List TypedPart) → block_deep most levels inside_deep (parts_of xs) (kids_of xs) ≡ block_sunk levels (part_deep most (suc levels) inside_deep) xs
    block_deep_is xs = ap (block_sunk levels (part_deep most (suc levels) inside_deep)) (pair_back xs)

    abbrev pub Choices : Type 0
    Choices = List TypedPart ⊎ Unit {0}

    abbrev pub ChoicesFine : ℕ → Choices → Type 0
    ChoicesFine = EitherFine (BlockFine levels (PartHere IsAlternative (suc levels))) Anything

    pub choice_renames : TypeReading.word_of w.name ≡ Choice → Renames ChoicesFine (either_deep (block_sunk levels (part_deep most (suc levels) inside_deep)) never) (either_written (block_written levels) (word_of [])) (TailFine levels w) tail_sunk (tail_text levels) (choice_of w)
    choice_renames e = record { fine = fine; deep = deep; write = write; onto = onto }
      where
        fine : (place : ℕ) (x : Choices) → ChoicesFine place x → TailFine levels w place (choice_of w place x)
        fine place (inl xs) f = (word_is w.name Choice e, (xs, f, refl, refl))
        fine place (inr x) f = (refl, no_type_word (codes "CHOICE") refl (word_is w.name Choice e), refl)

        deep : (place : ℕ) (x : Choices) → ChoicesFine place x → tail_sunk (choice_of w place x) ≡ either_deep (block_sunk levels (part_deep most (suc levels) inside_deep)) never x
        deep place (inl xs) f = block_deep_is xs
        deep place (inr x) f = refl

        write : (place : ℕ) (x : Choices) → ChoicesFine place x → tail_text levels (choice_of w place x) ≡ either_written (block_written levels) (word_of []) x
        write place (inl xs) f = block_written_is xs (not_empty (PartHere IsAlternative (suc levels)) place xs f)
        write place (inr x) f = refl

        onto : (place : ℕ) (c : Form) → TailFine levels w place c → (x : Choices) × ChoicesFine place x × (choice_of w place x ≡ c)
        onto place (form.Bool, ts) f = apart w.name Choice (codes "BOOLEAN") e f.0 (λ h. absurd cc)
        onto place (form.Int r, ts) f = apart w.name Choice (codes "INTEGER") e f.0 (λ h. absurd cc)
        onto place (form.Numbers items, ts) f = apart w.name Choice (codes "ENUMERATED") e f.0 (λ h. absurd cc)
        onto place (form.Words names, ts) f = apart w.name Choice (codes "ENUMERATED") e f.0 (λ h. absurd cc)
        onto place (form.Utf8 size class, ts) f = apart w.name Choice (codes "UTF8String") e f.0 (λ h. absurd cc)
        onto place (form.Sequence parts, ts) f = apart w.name Choice (codes "SEQUENCE") e f.0 (λ h. absurd cc)
        onto place (form.Choice parts, ts) f = (inl f.1.0, f.1.1, pair_is (λ k. form.Choice k) f.1.0 parts ts f.1.2 f.1.3)
        onto place (form.SequenceOf size part, ts) f = apart w.name Choice (codes "SEQUENCE") e f.0 (λ h. absurd cc)
        onto place (form.Ref r, ts) f = (inr tt, tt, ap₂ (λ k l. (form.Ref k, l)) (sym f.0) f.2)

    choice_law : TypeReading.word_of w.name ≡ Choice → TailLaw Choice
    choice_law e = as_law
        (or_law {Follow = TypeStops} alternatives_law nothing_law (λ place a rest f h. tt) (λ place a rest f h. tt) (λ place b rest f h. no_block (before_at (listed_at (between levels) (alternative_at inside)) (closing levels)) place rest h))
        (choice_renames e)

    abbrev pub Items : Type 0
    Items = Option PlainEnds × TypedPart

    abbrev pub ItemsFine : ℕ → Items → Type 0
    ItemsFine = BothFine IsSizeHere size_text (λ size. BehindFine (codes " OF ") (PartHere IsItem levels))

    abbrev pub items_written : Items → List ℕ
    items_written = both_written size_text (λ size. behind_word (codes " OF ") (typed_part_text levels))

    abbrev pub items_deep : Items → Option Sunk
    items_deep = both_deep size_text never (λ size. shifted (codes " OF ") (part_deep most levels here_deep))

    items_law : Law ItemsFine items_deep items_written TypeStops (sequence_of_at here)
    items_law = then_law {Follow = TypeStops} size_law (λ place size f. behind_law (codes " OF ") item some_item) (λ place there size f. some_item (there + 4)) (λ place there size x rest f g h. λ q. tt) (λ place there size x rest f g h. h)

    abbrev pub Sequences : Type 0
    Sequences = Unit {0} ⊎ (List TypedPart ⊎ (Items ⊎ Unit {0}))

    abbrev pub SequencesFine : ℕ → Sequences → Type 0
    SequencesFine = EitherFine Anything (EitherFine (BlockFine levels (PartHere IsComponent (suc levels))) (EitherFine ItemsFine Anything))

    abbrev pub sequences_deep : Sequences → Option Sunk
    sequences_deep = either_deep never (either_deep (block_sunk levels (part_deep most (suc levels) inside_deep)) (either_deep items_deep never))

    abbrev pub sequences_text : Sequences → List ℕ
    sequences_text = either_written (word_of (codes " {}")) (either_written (block_written levels) (either_written items_written (word_of [])))

    pub sequence_renames : TypeReading.word_of w.name ≡ Sequence → Renames SequencesFine sequences_deep sequences_text (TailFine levels w) tail_sunk (tail_text levels) (sequence_of w)
    sequence_renames e = record { fine = fine; deep = deep; write = write; onto = onto }
      where
        fine : (place : ℕ) (x : Sequences) → SequencesFine place x → TailFine levels w place (sequence_of w place x)
        fine place (inl x) f = (word_is w.name Sequence e, ([], inr refl, refl, refl))
        fine place (inr (inl xs)) f = (word_is w.name Sequence e, (xs, inl f, refl, refl))
        fine place (inr (inr (inl x))) f = (word_is w.name Sequence e, (x.1.1, f.0, f.1, refl))
        fine place (inr (inr (inr x))) f = (refl, no_type_word (codes "SEQUENCE") refl (word_is w.name Sequence e), refl)

        deep : (place : ℕ) (x : Sequences) → SequencesFine place x → tail_sunk (sequence_of w place x) ≡ sequences_deep x
        deep place (inl x) f = refl
        deep place (inr (inl xs)) f = block_deep_is xs
        deep place (inr (inr (inl x))) f = refl
        deep place (inr (inr (inr x))) f = refl

        write : (place : ℕ) (x : Sequences) → SequencesFine place x → tail_text levels (sequence_of w place x) ≡ sequences_text x
        write place (inl x) f = refl
        write place (inr (inl xs)) f = block_written_is xs (not_empty (PartHere IsComponent (suc levels)) place xs f)
        write place (inr (inr (inl x))) f = refl
        write place (inr (inr (inr x))) f = refl

        block_onto : (place : ℕ) (xs : List TypedPart) (parts : List PlainPart) (ts : Roses PlainLabel) → BlockFine levels (PartHere IsComponent (suc levels)) place xs ⊎ (xs ≡ []) → parts_of xs ≡ parts → kids_of xs ≡ ts → (x : Sequences) × SequencesFine place x × (sequence_of w place x ≡ (form.Sequence parts, ts))
        block_onto place xs parts ts (inl f) p q = (inr (inl xs), f, pair_is (λ k. form.Sequence k) xs parts ts p q)
        block_onto place xs parts ts (inr n) p q = (inl tt, tt, ap₂ (λ k l. (form.Sequence k, l)) (ap parts_of (sym n) ∙ p) (ap kids_of (sym n) ∙ q))

        onto : (place : ℕ) (c : Form) → TailFine levels w place c → (x : Sequences) × SequencesFine place x × (sequence_of w place x ≡ c)
        onto place (form.Bool, ts) f = apart w.name Sequence (codes "BOOLEAN") e f.0 (λ h. absurd cc)
        onto place (form.Int r, ts) f = apart w.name Sequence (codes "INTEGER") e f.0 (λ h. absurd cc)
        onto place (form.Numbers items, ts) f = apart w.name Sequence (codes "ENUMERATED") e f.0 (λ h. absurd cc)
        onto place (form.Words names, ts) f = apart w.name Sequence (codes "ENUMERATED") e f.0 (λ h. absurd cc)
        onto place (form.Utf8 size class, ts) f = apart w.name Sequence (codes "UTF8String") e f.0 (λ h. absurd cc)
        onto place (form.Sequence parts, ts) f = block_onto place f.1.0 parts ts f.1.1 f.1.2 f.1.3
        onto place (form.Choice parts, ts) f = apart w.name Sequence (codes "CHOICE") e f.0 (λ h. absurd cc)
        onto place (form.SequenceOf size part, ts) f = (inr (inr (inl (size, (part, f.1.0)))), (f.1.1, f.1.2), ap (λ l. (form.SequenceOf size part, l)) f.1.3)
        onto place (form.Ref r, ts) f = (inr (inr (inr tt)), tt, ap₂ (λ k l. (form.Ref k, l)) (sym f.0) f.2)

    -- the forms behind SEQUENCE are told apart by their first bytes
    size_first : (size : Option PlainEnds) (beyond : List ℕ) → {A : Type 0} (read : Reader A) (place : ℕ) → IsFailed (behind_at (opening levels) read place (size_text size ++ (codes " OF " ++ beyond)))
    size_first None beyond read place = tt
    size_first (Some ends) beyond read place = tt

    items_no_block : (place : ℕ) (x : Items ⊎ Unit {0}) (rest : List ℕ) → TypeStops rest → IsFailed (block_at levels (component_at most inside) place (either_written items_written (word_of []) x ++ rest))
    items_no_block place (inl x) rest h =
        subst (λ l. IsFailed (block_at levels (component_at most inside) place l)) (sym (three (size_text x.0) (codes " OF ") (typed_part_text levels x.1) rest))
        (size_first x.0 (typed_part_text levels x.1 ++ rest) (before_at (listed_at (between levels) (component_at most inside)) (closing levels)) place)
      where
        three : (a b c d : List ℕ) → (a ++ (b ++ c)) ++ d ≡ a ++ (b ++ (c ++ d))
        three a b c d = simp append_assoc
    items_no_block place (inr x) rest h = no_block (before_at (listed_at (between levels) (component_at most inside)) (closing levels)) place rest h

    no_empty : (place : ℕ) (x : List TypedPart ⊎ (Items ⊎ Unit {0})) (rest : List ℕ) → TypeStops rest → IsFailed (word_at (codes " {}") place (either_written (block_written levels) (either_written items_written (word_of [])) x ++ rest))
    no_empty place (inl xs) rest h = tt
    no_empty place (inr (inl (None, x))) rest h = tt
    no_empty place (inr (inl (Some ends, x))) rest h = tt
    no_empty place (inr (inr x)) rest h = longer_fails (codes " {") (codes "}") place rest (h.brace place)

    -- and a word alone is none of them
    no_items : (place : ℕ) (rest : List ℕ) → TypeStops rest → IsFailed (sequence_of_at here place rest)
    no_items place rest h = size_none (some_size_at place rest) (h.size place)
      where
        none_found : (n : ℕ) (r : Answer (Unit {0})) → IsFailed r → IsFailed (behind {A = Option PlainEnds} None 0 n (answer_map (λ (x : Unit {0} × TypedPart). x.1) (go_on (λ x. item_at here) (place + 0) rest r)))
        none_found n (Found x taken m) g = absurd g
        none_found n (Fails m) g = tt
        none_found n (Deep at m) g = absurd g

        size_none : (r : Answer PlainEnds) → IsFailed r → IsFailed (go_on (λ size. behind_at (codes " OF ") (item_at here)) place rest (answer_map (some_of place) (or_else (Found tt 0 0) r)))
        size_none (Found a taken n) g = absurd g
        size_none (Fails n) g = none_found (later n 0) (word_at (codes " OF ") (place + 0) rest) (h.of (place + 0))
        size_none (Deep at n) g = absurd g

    sequence_law : TypeReading.word_of w.name ≡ Sequence → TailLaw Sequence
    sequence_law e = as_law
        (or_law {Follow = TypeStops} (word_law (codes " {}"))
        (or_law {Follow = TypeStops} components_law
        (or_law {Follow = TypeStops} items_law nothing_law (λ place a rest f h. h) (λ place a rest f h. tt) (λ place b rest f h. no_items place rest h))
        (λ place a rest f h. tt) (λ place a rest f h. h) (λ place b rest f h. items_no_block place b rest h))
        (λ place a rest f h. tt) (λ place a rest f h. h) (λ place b rest f h. no_empty place b rest h))
        (sequence_renames e)

    -- ---- any other word

    pub other_renames : TypeReading.word_of w.name ≡ Other → Renames (Anything {A = Unit {0}}) never (word_of []) (TailFine levels w) tail_sunk (tail_text levels) (reference_of w)
    other_renames e = record { fine = λ place x f. (refl, word_is w.name Other e, refl); deep = λ place x f. refl; write = λ place x f. refl; onto = onto }
      where
        onto : (place : ℕ) (c : Form) → TailFine levels w place c → (x : Unit {0}) × Anything place x × (reference_of w place x ≡ c)
        onto place (form.Bool, ts) f = apart w.name Other (codes "BOOLEAN") e f.0 (λ h. absurd cc)
        onto place (form.Int r, ts) f = apart w.name Other (codes "INTEGER") e f.0 (λ h. absurd cc)
        onto place (form.Numbers items, ts) f = apart w.name Other (codes "ENUMERATED") e f.0 (λ h. absurd cc)
        onto place (form.Words names, ts) f = apart w.name Other (codes "ENUMERATED") e f.0 (λ h. absurd cc)
        onto place (form.Utf8 size class, ts) f = apart w.name Other (codes "UTF8String") e f.0 (λ h. absurd cc)
        onto place (form.Sequence parts, ts) f = apart w.name Other (codes "SEQUENCE") e f.0 (λ h. absurd cc)
        onto place (form.Choice parts, ts) f = apart w.name Other (codes "CHOICE") e f.0 (λ h. absurd cc)
        onto place (form.SequenceOf size part, ts) f = apart w.name Other (codes "SEQUENCE") e f.0 (λ h. absurd cc)
        onto place (form.Ref r, ts) f = (tt, tt, ap₂ (λ k l. (form.Ref k, l)) (sym f.0) f.2)

    other_law : TypeReading.word_of w.name ≡ Other → TailLaw Other
    other_law e = as_law
        (any_follow {Follow = TypeStops} nothing_law (λ rest h. tt))
        (other_renames e)

    pub tail_law : (k : Word) → TypeReading.word_of w.name ≡ k → TailLaw k
    tail_law Boolean e = boolean_law e
    tail_law Integer e = integer_law e
    tail_law Utf8String e = text_law e
    tail_law Enumerated e = enumerated_law e
    tail_law Sequence e = sequence_law e
    tail_law Choice e = choice_law e
    tail_law Other e = other_law e
