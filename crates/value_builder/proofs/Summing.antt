-- Counting and spelling, one item more.
use Rattle.std.proofs.Common.{◌≡◌, ℕ, suc, ◌+◌, ◌<◌, List, [], ◌∷◌, ◌++◌, refl, sym, ap, ◌∙◌, arith, length, append_assoc, append-nil, Ok, Err, Result, Option}
use Rattle.std.specs.Prelude.{map, nat_le, ◌&&◌, true, false, if◌then◌else◌}
use Rattle.std.specs.List.{join_with_byte}
use Rattle.std.proofs.lemmas.Bool.Decides.{nat_tests}
use Rattle.base_trees.specs.Rose.{Rose, node, roses_of, node_count, count_all}
use Rattle.base_trees.proofs.Roses.{kids_of-node}
use Rattle.simple_types.specs.declared.labels.ValueLabel.{ValueLabel}
use Rattle.simple_types.specs.declared.labels.ValueLabel.TheVariants as label
use Rattle.simple_types.specs.Space.{Space, Spaces, ListOf, UnionOf, count_members}
use Rattle.simple_types.specs.Lexical.{is_at_most}
use Rattle.simple_types.specs.Reading.{Refusal, Reading, Bad, Wide, reads, read_each, list_within, taken_by, spelled, spelled_by, goes_on, settled}
use Rattle.simple_types.specs.declared.reading.SimpleError.{SimpleError}
use Rattle.simple_types.specs.declared.reading.SimpleError.TheVariants as error
use Rattle.simple_types.specs.Answering.{AnswersReading}
use Rattle.base_texts.specs.WhiteSpace.{words_of}
use Rattle.simple_types.proofs.Readings.{behind_values, reads-ListOf, reads-UnionOf, settled_from}
use Rattle.simple_types.proofs.Spellings.{spelled-ListOf}

pub length-one_more : {A : Type 0} (xs : List A) (x : A) → length (xs ++ x ∷ []) ≡ suc (length xs)
length-one_more [] x = refl
length-one_more (y ∷ ys) x = ap suc (length-one_more ys x)

pub count_all-one_more : (values : List (Rose ValueLabel)) (value : Rose ValueLabel) → count_all (roses_of (values ++ value ∷ [])) ≡ count_all (roses_of values) + node_count value
count_all-one_more [] value = omega arith
count_all-one_more (v ∷ vs) value = let h = count_all-one_more vs value in omega (arith, h)

-- a word that is read stands behind the values before it
pub one_more_read : (read : List ℕ → Reading) (values : List (Rose ValueLabel)) (value : Rose ValueLabel) (word : List ℕ) (words : List (List ℕ)) → read word ≡ Ok value
    → behind_values values (read_each read (word ∷ words)) ≡ behind_values (values ++ value ∷ []) (read_each read words)
one_more_read read values value word words is = rw (read_each, is) (by (read_each read words))
  where
    by : (r : Result (List (Rose ValueLabel)) Refusal) → behind_values values (elim r [ Err why ↦ Err why | Ok further ↦ Ok (value ∷ further) ]) ≡ behind_values (values ++ value ∷ []) r
    by (Ok further) = ap (λ l. Ok l) (sym (append_assoc values (value ∷ []) further))
    by (Err why) = refl

pub one_refused : (read : List ℕ → Reading) (values : List (Rose ValueLabel)) (why : Refusal) (word : List ℕ) (words : List (List ℕ)) → read word ≡ Err why
    → behind_values values (read_each read (word ∷ words)) ≡ Err why
one_refused read values why word words is = rw (read_each, is) refl

-- the spelling of one more item
pub join-first : {A : Type 0} (spell : A → List ℕ) (x : A) → join_with_byte 0x20 (map spell (x ∷ [])) ≡ spell x
join-first spell x = refl

pub join-one_more : {A : Type 0} (spell : A → List ℕ) (xs : List A) (x : A) → 0 < length xs
    → join_with_byte 0x20 (map spell (xs ++ x ∷ [])) ≡ (join_with_byte 0x20 (map spell xs) ++ 0x20 ∷ []) ++ spell x
join-one_more spell [] x some = absurd (omega arith)
join-one_more spell (y ∷ []) x some = sym (append_assoc (spell y) (0x20 ∷ []) (spell x))
join-one_more spell (y ∷ z ∷ zs) x some =
    let front = join_with_byte 0x20 (map spell (z ∷ zs)) in
    ap (λ l. spell y ++ 0x20 ∷ l) (join-one_more spell (z ∷ zs) x (omega arith))
    ∙ sym (ap (λ l. l ++ spell x) (append_assoc (spell y) (0x20 ∷ front) (0x20 ∷ [])) ∙ append_assoc (spell y) (0x20 ∷ (front ++ 0x20 ∷ [])) (spell x))

-- why one word is refused, so are all
pub refused : {A B : Type 0} (why : SimpleError) (part : Result A Refusal) (whole : Result B Refusal) → ((r : Refusal) → part ≡ Err r → whole ≡ Err r) → AnswersReading (Err why) part → AnswersReading (Err why) whole
refused error.BadText part whole from answer = from Bad answer
refused error.TooWide part whole from answer = from Wide answer
refused error.Memory part whole from answer = tt

pub nothing_read : (r : Result (List (Rose ValueLabel)) Refusal) → r ≡ behind_values [] r
nothing_read (Ok values) = refl
nothing_read (Err why) = refl

-- the last word is read
pub all_read : (read : List ℕ → Reading) (all words : List (List ℕ)) (values : List (Rose ValueLabel)) → read_each read all ≡ behind_values values (read_each read words) → words ≡ [] → read_each read all ≡ Ok values
all_read read all words values so_far none = so_far ∙ ap (λ ws. behind_values values (read_each read ws)) none ∙ ap (λ l. Ok l) (append-nil values)

-- a list of so many items
module _ (item : Space) (least : ℕ) (most : Option ℕ) (text : List ℕ) (values : List (Rose ValueLabel)) (each : read_each (reads item) (words_of text) ≡ Ok values) where
  pub list_accepted : (nat_le least (length values) && is_at_most (length values) most) ≡ true → reads (ListOf item least most) text ≡ Ok (node label.SequenceOf (roses_of values))
  list_accepted within = reads-ListOf item least most text ∙ ap (list_within least most) each ∙ (rw within refl)

  pub list_refused : (nat_le least (length values) && is_at_most (length values) most) ≡ false → reads (ListOf item least most) text ≡ Err Bad
  list_refused without = reads-ListOf item least most text ∙ ap (list_within least most) each ∙ (rw without refl)

pub list_refused_by : (item : Space) (least : ℕ) (most : Option ℕ) (text : List ℕ) (why : Refusal) → read_each (reads item) (words_of text) ≡ Err why → reads (ListOf item least most) text ≡ Err why
list_refused_by item least most text why each = reads-ListOf item least most text ∙ ap (list_within least most) each

pub list_spelled : (item : Space) (least : ℕ) (most : Option ℕ) (values : List (Rose ValueLabel))
    → spelled (ListOf item least most) (node label.SequenceOf (roses_of values)) ≡ join_with_byte 0x20 (map (spelled item) values)
list_spelled item least most values = spelled-ListOf item least most (node label.SequenceOf (roses_of values)) ∙ ap (λ vs. join_with_byte 0x20 (map (spelled item) vs)) (kids_of-node label.SequenceOf values)

-- a union
pub union_settles : (members : Spaces) (text : List ℕ) (taken : ℕ × Rose ValueLabel) → taken_by members text ≡ Ok taken
    → reads (UnionOf members) text ≡ goes_on (taken_by members) (spelled_by members) (count_members members) taken
union_settles members text taken is = reads-UnionOf members text ∙ settled_from (taken_by members) (spelled_by members) (count_members members) text taken is

pub union_refused : (members : Spaces) (text : List ℕ) (why : Refusal) → taken_by members text ≡ Err why → reads (UnionOf members) text ≡ Err why
union_refused members text why is = reads-UnionOf members text ∙ (rw (settled, is) refl)

pub next_spelled : (spell : Rose ValueLabel → List ℕ) (values : List (Rose ValueLabel)) (value : Rose ValueLabel) (old : List ℕ) → old ≡ join_with_byte 0x20 (map spell values)
    → (if nat_le (length values) 0 then old else old ++ 0x20 ∷ []) ++ spell value ≡ join_with_byte 0x20 (map spell (values ++ value ∷ []))
next_spelled spell [] value old e = ap (λ l. l ++ spell value) e
next_spelled spell (v ∷ vs) value old e =
    let no : nat_le (suc (length vs)) 0 ≡ false = grind (arith, nat_tests) in
    ap (λ b. (if b then old else old ++ 0x20 ∷ []) ++ spell value) no ∙ ap (λ l. (l ++ 0x20 ∷ []) ++ spell value) e ∙ sym (join-one_more spell (v ∷ vs) value (omega arith))
