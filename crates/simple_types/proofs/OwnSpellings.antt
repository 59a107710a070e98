-- What a type accepts holds, and the chain of a union ends.
use Rattle.std.proofs.Common.{◌≡◌, ℕ, zero, suc, ◌<◌, ◌≤◌, ◌-◌, Bool, true, false, ◌||◌, List, refl, sym, ap, ◌∙◌, subst, arith, Ok, Err, ◌⊎◌, inl, inr}
use Rattle.std.specs.Prelude.{◌==◌, map}
use Rattle.std.specs.List.{join_with_byte}
use Rattle.std.proofs.lemmas.Bool.{eqb-true, eqb-false, eq-eqb}
use Rattle.base_trees.specs.Rose.{Rose, kids_of}
use Rattle.base_texts.specs.WhiteSpace.{words_of, treated, IsWord}
use Rattle.base_texts.specs.declared.white_space.WhiteSpace.TheVariants.{Collapse}
use Rattle.base_texts.proofs.WordLaws.{words_of-IsWord}
use Rattle.simple_types.specs.declared.labels.ValueLabel.{ValueLabel}
use Rattle.simple_types.specs.Space.{Space, Spaces, none, more, Booleans, Wholes, Numbers, Words, Characters, ListOf, UnionOf, count_members}
use Rattle.simple_types.specs.Sound.{Sound, AreSound, has_list, have_list}
use Rattle.simple_types.specs.Chains.{Ends, stays, refused, further, EndsFrom, ChainEnds, choice_of}
use Rattle.simple_types.specs.Reading.{Wide, Bad, Reading, Taking, reads, taken_by, first_taking, spelled, spelled_by, goes_on, settled, Accepts, TooWide, BadText, Holds}
use Rattle.simple_types.proofs.Again.{word_treated, read_boolean-again, read_boolean-word, read_whole-again, read_whole-word, read_number-again, read_number-word, word_spelled, read_word-again, characters_spelled, read_characters-again, list_again}
use Rattle.simple_types.proofs.Readings.{turn_refused, turn_same, turn_further, reads-ListOf, reads-UnionOf, settled_from}
use Rattle.simple_types.proofs.Spellings.{spelled-ListOf}

-- what is taken of the spelling of a member's value: that value by that member, or what an earlier member makes of it
abbrev TakenAgain : ℕ → Rose ValueLabel → Taking → Type 0
TakenAgain i value (Ok next) = (next.0 ≤ i) × (next.0 ≡ i → next.1 ≡ value)
TakenAgain i value (Err Wide) = Unit {0}
TakenAgain i value (Err Bad) = ⊥

-- from one member to the next
abbrev ReadsAgain : (List ℕ → Reading) → (Rose ValueLabel → List ℕ) → Type 0
ReadsAgain read spell = (text : List ℕ) (value : Rose ValueLabel) → read text ≡ Ok value → read (spell value) ≡ Ok value

abbrev TakesAgain : (List ℕ → Taking) → (ℕ → Rose ValueLabel → List ℕ) → Type 0
TakesAgain take spell = (text : List ℕ) (i : ℕ) (value : Rose ValueLabel) → take text ≡ Ok (i, value) → TakenAgain i value (take (spell i value))

later_again : (i : ℕ) (value : Rose ValueLabel) (r : Reading) (t : Taking) → TakenAgain i value t → TakenAgain (suc i) value (first_taking r t)
later_again i value (Ok first) t again = (omega arith, λ same. absurd (omega (arith, same)))
later_again i value (Err Wide) t again = tt
later_again i value (Err Bad) (Ok taken) again = (let below = again.0 in omega (arith, below), λ same. again.1 (omega (arith, same)))
later_again i value (Err Bad) (Err Wide) again = tt
later_again i value (Err Bad) (Err Bad) again = again

-- what takes is the first member, or a later one
abbrev pub IsFirst : Reading → Taking → ℕ → Rose ValueLabel → Type 0
IsFirst r t i value = ((i ≡ 0) × (r ≡ Ok value)) ⊎ ((j : ℕ) × (i ≡ suc j) × (t ≡ Ok (j, value)))

pub which : (r : Reading) (t : Taking) (i : ℕ) (value : Rose ValueLabel) → first_taking r t ≡ Ok (i, value) → IsFirst r t i value
which (Ok first) t i value e =
    let same : ◌≡◌ {A = ℕ × Rose ValueLabel} (0, first) (i, value) = cc in
    inl (sym (ap (λ p. p.0) same), ap (λ p. Ok p.1) same)
which (Err Wide) t i value e = absurd (cc)
which (Err Bad) (Err why) i value e = absurd (cc)
which (Err Bad) (Ok taken) i value e =
    let same : ◌≡◌ {A = ℕ × Rose ValueLabel} (suc taken.0, taken.1) (i, value) = cc in
    inr (taken.0, sym (ap (λ p. p.0) same), ap (λ p. Ok (taken.0, p.1)) same)

module _ (s : Space) (ss : Spaces) where
  more_again : ReadsAgain (reads s) (spelled s) → TakesAgain (taken_by ss) (spelled_by ss) → TakesAgain (taken_by (more s ss)) (spelled_by (more s ss))
  unfolding reads taken_by spelled spelled_by
  more_again one others text i value e = elim (which (reads s text) (taken_by ss text) i value e) [
    | inl first ↦ (
        let at : taken_by (more s ss) (spelled_by (more s ss) i value) ≡ Ok (0, value) =
        ap (λ n. taken_by (more s ss) (spelled_by (more s ss) n value)) first.0 ∙ ap (λ r. first_taking r (taken_by ss (spelled s value))) (one text value first.1) in
        subst (TakenAgain i value) (sym at) (omega arith, λ same. refl)
        )
    | inr later ↦ (
        let j = later.0 in
        let again : TakenAgain (suc j) value (first_taking (reads s (spelled_by ss j value)) (taken_by ss (spelled_by ss j value))) =
        later_again j value (reads s (spelled_by ss j value)) (taken_by ss (spelled_by ss j value)) (others text j value later.2) in
        subst (λ n. TakenAgain n value (taken_by (more s ss) (spelled_by (more s ss) n value))) (sym later.1) again
        )
  ]

none_again : TakesAgain (taken_by none) (spelled_by none)
unfolding taken_by spelled_by
none_again text i value e = absurd (cc)

-- the chain of a union whose members take their own spellings
module _ (take : List ℕ → Taking) (spell : ℕ → Rose ValueLabel → List ℕ) (again : TakesAgain take spell) where
  abbrev IsTaken : ℕ × Rose ValueLabel → Type 0
  IsTaken taken = (text : List ℕ) × (take text ≡ Ok taken)

  -- it ends, since a turn that goes on takes an earlier member
  module _ (taken : ℕ × Rose ValueLabel) (is : IsTaken taken) (next : ℕ × Rose ValueLabel) (took : take (spell taken.0 taken.1) ≡ Ok next) where
    again_here : (next.0 ≤ taken.0) × (next.0 ≡ taken.0 → next.1 ≡ taken.1)
    again_here = subst (TakenAgain taken.0 taken.1) took (again is.0 taken.0 taken.1 is.1)

  ends_more : (turns : ℕ) → ((next : ℕ × Rose ValueLabel) → IsTaken next → next.0 < turns → Ends take spell next (goes_on take spell turns next))
      → (taken : ℕ × Rose ValueLabel) → IsTaken taken → taken.0 < suc turns → Ends take spell taken (goes_on take spell (suc turns) taken)
  ends_more turns rest taken is below = by (take (spell taken.0 taken.1)) refl
    where
      goes : (next : ℕ × Rose ValueLabel) → take (spell taken.0 taken.1) ≡ Ok next → (same : Bool) → (next.0 == taken.0) ≡ same → Ends take spell taken (goes_on take spell (suc turns) taken)
      goes next took true same =
          subst (Ends take spell taken) (sym (turn_same take spell taken (suc turns) next (omega arith) took same)) (stays taken next took (eqb-true next.0 taken.0 same))
      goes next took false other =
          let differs : next.0 ≡ taken.0 → ⊥ = eqb-false next.0 taken.0 other in
          let earlier : next.0 ≤ taken.0 = (again_here taken is next took).0 in
          let one_less : suc turns - 1 ≡ turns = omega arith in
          let tail : Ends take spell next (goes_on take spell turns next) = rest next (spell taken.0 taken.1, took) (omega (arith, earlier, differs, below)) in
          subst (Ends take spell taken) (sym (turn_further take spell taken (suc turns) next (omega arith) took other ∙ ap (λ n. goes_on take spell n next) one_less))
          (further taken next (goes_on take spell turns next) took differs tail)

      by : (t : Taking) → take (spell taken.0 taken.1) ≡ t → Ends take spell taken (goes_on take spell (suc turns) taken)
      by (Err why) took = subst (Ends take spell taken) (sym (turn_refused take spell taken (suc turns) why (omega arith) took)) (refused taken why took)
      by (Ok next) took = goes next took (next.0 == taken.0) refl

  ends : (turns : ℕ) (taken : ℕ × Rose ValueLabel) → IsTaken taken → taken.0 < turns → Ends take spell taken (goes_on take spell turns taken)
  ends zero taken is below = absurd (omega arith)
  ends (suc turns) taken is below = ends_more turns (ends turns) taken is below

  -- a value that it ends with is taken again of its spelling
  record Stays (value : Rose ValueLabel) : Type 0 where
    i : ℕ
    inner : Rose ValueLabel
    is : value ≡ choice_of (i, inner)
    took : take (spell i inner) ≡ Ok (i, inner)

  stays_more : (turns : ℕ) → ((next : ℕ × Rose ValueLabel) → IsTaken next → (value : Rose ValueLabel) → goes_on take spell turns next ≡ Ok value → Stays value)
      → (taken : ℕ × Rose ValueLabel) → IsTaken taken → (value : Rose ValueLabel) → goes_on take spell (suc turns) taken ≡ Ok value → Stays value
  stays_more turns rest taken is value e = by (take (spell taken.0 taken.1)) refl
    where
      goes : (next : ℕ × Rose ValueLabel) → take (spell taken.0 taken.1) ≡ Ok next → (same : Bool) → (next.0 == taken.0) ≡ same → Stays value
      goes next took true same =
          let given : Ok (choice_of taken) ≡ Ok value = sym (turn_same take spell taken (suc turns) next (omega arith) took same) ∙ e in
          let number : next.0 ≡ taken.0 = eqb-true next.0 taken.0 same in
          let inner : next.1 ≡ taken.1 = (again_here taken is next took).1 number in
          record {
            i = taken.0;
            inner = taken.1;
            is = (cc);
            took = took ∙ ap (λ n. Ok (n, next.1)) number ∙ ap (λ v. Ok (taken.0, v)) inner;
          }
      goes next took false other =
          let one_less : suc turns - 1 ≡ turns = omega arith in
          rest next (spell taken.0 taken.1, took) value
          (sym (turn_further take spell taken (suc turns) next (omega arith) took other ∙ ap (λ n. goes_on take spell n next) one_less) ∙ e)

      by : (t : Taking) → take (spell taken.0 taken.1) ≡ t → Stays value
      by (Err why) took = absurd (let f : Err why ≡ Ok value = sym (turn_refused take spell taken (suc turns) why (omega arith) took) ∙ e in cc)
      by (Ok next) took = goes next took (next.0 == taken.0) refl

  stays_at : (turns : ℕ) (taken : ℕ × Rose ValueLabel) → IsTaken taken → (value : Rose ValueLabel) → goes_on take spell turns taken ≡ Ok value → Stays value
  stays_at zero taken is value e = absurd (cc)
  stays_at (suc turns) taken is value e = stays_more turns (stays_at turns) taken is value e

  settles_again : (turns : ℕ) → 0 < turns → (text : List ℕ) (value : Rose ValueLabel) → settled take spell turns text ≡ Ok value
      → (i : ℕ) × (inner : Rose ValueLabel) × (value ≡ choice_of (i, inner)) × (settled take spell turns (spell i inner) ≡ Ok value)
  settles_again turns some text value e = by (take text) refl
    where
      by : (t : Taking) → take text ≡ t → (i : ℕ) × (inner : Rose ValueLabel) × (value ≡ choice_of (i, inner)) × (settled take spell turns (spell i inner) ≡ Ok value)
      by (Err why) took = absurd (let f = rw (settled, took) at e in cc)
      by (Ok taken) took =
          let known = stays_at turns taken (text, took) value (sym (settled_from take spell turns text taken took) ∙ e) in
          let next : ℕ × Rose ValueLabel = (known.i, known.inner) in (
            known.i,
            known.inner,
            known.is,
            settled_from take spell turns (spell known.i known.inner) next known.took
                ∙ turn_same take spell next turns next some known.took (eq-eqb known.i known.i refl) ∙ ap Ok (sym known.is),
          )

-- what is so of each spelling that a member takes of such a text is so of the union's
module _ (take : List ℕ → Taking) (spell : ℕ → Rose ValueLabel → List ℕ) (Such So : List ℕ → Type 0) (further : (text : List ℕ) → So text → Such text)
    (each : (text : List ℕ) (i : ℕ) (value : Rose ValueLabel) → Such text → take text ≡ Ok (i, value) → So (spell i value)) where
  abbrev pub SpellsSo : Rose ValueLabel → Type 0
  SpellsSo value = (i : ℕ) × (inner : Rose ValueLabel) × (value ≡ choice_of (i, inner)) × So (spell i inner)

  so_more : (turns : ℕ) → ((next : ℕ × Rose ValueLabel) → So (spell next.0 next.1) → (value : Rose ValueLabel) → goes_on take spell turns next ≡ Ok value → SpellsSo value)
      → (taken : ℕ × Rose ValueLabel) → So (spell taken.0 taken.1) → (value : Rose ValueLabel) → goes_on take spell (suc turns) taken ≡ Ok value → SpellsSo value
  so_more turns rest taken is value e = by (take (spell taken.0 taken.1)) refl
    where
      goes : (next : ℕ × Rose ValueLabel) → take (spell taken.0 taken.1) ≡ Ok next → (same : Bool) → (next.0 == taken.0) ≡ same → SpellsSo value
      goes next took true same =
          let given : Ok (choice_of taken) ≡ Ok value = sym (turn_same take spell taken (suc turns) next (omega arith) took same) ∙ e in
          let value_is : value ≡ choice_of taken = cc in
          (taken.0, taken.1, value_is, is)
      goes next took false other =
          let one_less : suc turns - 1 ≡ turns = omega arith in
          rest next (each (spell taken.0 taken.1) next.0 next.1 (further (spell taken.0 taken.1) is) took) value
          (sym (turn_further take spell taken (suc turns) next (omega arith) took other ∙ ap (λ n. goes_on take spell n next) one_less) ∙ e)

      by : (t : Taking) → take (spell taken.0 taken.1) ≡ t → SpellsSo value
      by (Err why) took = absurd (let f : Err why ≡ Ok value = sym (turn_refused take spell taken (suc turns) why (omega arith) took) ∙ e in cc)
      by (Ok next) took = goes next took (next.0 == taken.0) refl

  so_at : (turns : ℕ) (taken : ℕ × Rose ValueLabel) → So (spell taken.0 taken.1) → (value : Rose ValueLabel) → goes_on take spell turns taken ≡ Ok value → SpellsSo value
  so_at zero taken is value e = absurd (cc)
  so_at (suc turns) taken is value e = so_more turns (so_at turns) taken is value e

  pub settles_so : (turns : ℕ) (text : List ℕ) (value : Rose ValueLabel) → Such text → settled take spell turns text ≡ Ok value → SpellsSo value
  settles_so turns text value is e = by (take text) refl
    where
      by : (t : Taking) → take text ≡ t → SpellsSo value
      by (Err why) took = absurd (let f = rw (settled, took) at e in cc)
      by (Ok taken) took = so_at turns taken (each text taken.0 taken.1 is took) value (sym (settled_from take spell turns text taken took) ∙ e)

abbrev WordsFrom : (List ℕ → Reading) → (Rose ValueLabel → List ℕ) → Type 0
WordsFrom read spell = (text : List ℕ) (value : Rose ValueLabel) → IsWord text → read text ≡ Ok value → IsWord (spell value)

abbrev WordsTaken : (List ℕ → Taking) → (ℕ → Rose ValueLabel → List ℕ) → Type 0
WordsTaken take spell = (text : List ℕ) (i : ℕ) (value : Rose ValueLabel) → IsWord text → take text ≡ Ok (i, value) → IsWord (spell i value)

more_words : (s : Space) (ss : Spaces) → WordsFrom (reads s) (spelled s) → WordsTaken (taken_by ss) (spelled_by ss) → WordsTaken (taken_by (more s ss)) (spelled_by (more s ss))
unfolding reads taken_by spelled spelled_by
more_words s ss one others text i value is e = elim (which (reads s text) (taken_by ss text) i value e) [
  | inl first ↦ subst (λ n. IsWord (spelled_by (more s ss) n value)) (sym first.0) (one text value is first.1)
  | inr later ↦ subst (λ n. IsWord (spelled_by (more s ss) n value)) (sym later.1) (others text later.0 value is later.2)
]

none_words : WordsTaken (taken_by none) (spelled_by none)
unfolding taken_by spelled_by
none_words text i value is e = absurd (cc)

union_words : (members : Spaces) → WordsTaken (taken_by members) (spelled_by members) → WordsFrom (reads (UnionOf members)) (spelled (UnionOf members))
unfolding spelled spelled_by
union_words members words text value is e =
    let known = settles_so (taken_by members) (spelled_by members) IsWord IsWord (λ text is. is) words (count_members members) text value is (sym (reads-UnionOf members text) ∙ e) in
    subst (λ v. IsWord (spelled (UnionOf members) v)) (sym known.2) known.3

or-left : (a b : Bool) → (a || b) ≡ false → a ≡ false
or-left false b e = refl
or-left true b e = e

or-right : (a b : Bool) → (a || b) ≡ false → b ≡ false
or-right false b e = e
or-right true b e = absurd (cc)

treated_word : (how : _) (text spelled_text : List ℕ) → IsWord text → spelled_text ≡ treated how text → IsWord spelled_text
treated_word how text spelled_text is e = subst IsWord (sym (e ∙ word_treated how text is)) is

words_Booleans : WordsFrom (reads Booleans) (spelled Booleans)
unfolding reads spelled
words_Booleans text value is e = read_boolean-word (treated Collapse text) value e

words_Wholes : (least greatest : _) → WordsFrom (reads (Wholes least greatest)) (spelled (Wholes least greatest))
unfolding reads spelled
words_Wholes least greatest text value is e = read_whole-word least greatest (treated Collapse text) value e

words_Numbers : (numbers : _) → WordsFrom (reads (Numbers numbers)) (spelled (Numbers numbers))
unfolding reads spelled
words_Numbers numbers text value is e = read_number-word numbers (treated Collapse text) value e

words_Words : (how words : _) → WordsFrom (reads (Words how words)) (spelled (Words how words))
unfolding reads spelled
words_Words how words text value is e = treated_word how text _ is (word_spelled words (treated how text) value e)

words_Characters : (how least most class : _) → WordsFrom (reads (Characters how least most class)) (spelled (Characters how least most class))
unfolding reads spelled
words_Characters how least most class text value is e = treated_word how text _ is (characters_spelled least most class (treated how text) value e)

mutual
  spells_word : (s : Space) → has_list s ≡ false → WordsFrom (reads s) (spelled s)
  spells_word Booleans plain = words_Booleans
  spells_word (Wholes least greatest) plain = words_Wholes least greatest
  spells_word (Numbers numbers) plain = words_Numbers numbers
  spells_word (Words how words) plain = words_Words how words
  spells_word (Characters how least most class) plain = words_Characters how least most class
  spells_word (ListOf item least most) plain = absurd (cc)
  spells_word (UnionOf members) plain = union_words members (spell_words members plain)

  spell_words : (ss : Spaces) → have_list ss ≡ false → WordsTaken (taken_by ss) (spelled_by ss)
  spell_words none plain = none_words
  spell_words (more s ss) plain = more_words s ss (spells_word s (or-left (has_list s) (have_list ss) plain)) (spell_words ss (or-right (has_list s) (have_list ss) plain))

-- what is accepted holds
again_Booleans : ReadsAgain (reads Booleans) (spelled Booleans)
unfolding reads spelled
again_Booleans text value e = read_boolean-again (treated Collapse text) value e

again_Wholes : (least greatest : _) → ReadsAgain (reads (Wholes least greatest)) (spelled (Wholes least greatest))
unfolding reads spelled
again_Wholes least greatest text value e = read_whole-again least greatest (treated Collapse text) value e

again_Numbers : (numbers : _) → ReadsAgain (reads (Numbers numbers)) (spelled (Numbers numbers))
unfolding reads spelled
again_Numbers numbers text value e = read_number-again numbers (treated Collapse text) value e

again_Words : (how words : _) → ReadsAgain (reads (Words how words)) (spelled (Words how words))
unfolding reads spelled
again_Words how words text value e = read_word-again how words text value e

again_Characters : (how least most class : _) → ReadsAgain (reads (Characters how least most class)) (spelled (Characters how least most class))
unfolding reads spelled
again_Characters how least most class text value e = read_characters-again how least most class text value e

again_List : (item : Space) (least : _) (most : _) → ReadsAgain (reads item) (spelled item) → WordsFrom (reads item) (spelled item) → ReadsAgain (reads (ListOf item least most)) (spelled (ListOf item least most))
again_List item least most again words text value e =
    ap (reads (ListOf item least most)) (spelled-ListOf item least most value)
    ∙ reads-ListOf item least most (join_with_byte 0x20 (map (spelled item) (kids_of value)))
    ∙ list_again (reads item) (spelled item) least most again words (words_of text) value (words_of-IsWord text) (sym (reads-ListOf item least most text) ∙ e)

again_Union : (members : Spaces) → 0 < count_members members → TakesAgain (taken_by members) (spelled_by members) → ReadsAgain (reads (UnionOf members)) (spelled (UnionOf members))
unfolding spelled spelled_by
again_Union members some again text value e =
    let known = settles_again (taken_by members) (spelled_by members) again (count_members members) some text value (sym (reads-UnionOf members text) ∙ e) in
    let same : spelled (UnionOf members) value ≡ spelled_by members known.0 known.1 = ap (spelled (UnionOf members)) known.2 in
    ap (reads (UnionOf members)) same ∙ reads-UnionOf members (spelled_by members known.0 known.1) ∙ known.3

mutual
  reads_again : (s : Space) → Sound s → ReadsAgain (reads s) (spelled s)
  reads_again Booleans sound = again_Booleans
  reads_again (Wholes least greatest) sound = again_Wholes least greatest
  reads_again (Numbers numbers) sound = again_Numbers numbers
  reads_again (Words how words) sound = again_Words how words
  reads_again (Characters how least most class) sound = again_Characters how least most class
  reads_again (ListOf item least most) sound = again_List item least most (reads_again item sound.0) (spells_word item sound.1)
  reads_again (UnionOf members) sound = again_Union members sound.0.0 (take_again members sound.1)

  take_again : (ss : Spaces) → AreSound ss → TakesAgain (taken_by ss) (spelled_by ss)
  take_again none sound = none_again
  take_again (more s ss) sound = more_again s ss (reads_again s sound.0) (take_again ss sound.2)

pub holds_again : (s : Space) → Sound s → (text : List ℕ) (value : Rose ValueLabel) → Accepts s text value → Holds s value
holds_again s sound text value accepted = reads_again s sound text value accepted

taken_below : (ss : Spaces) (text : List ℕ) (i : ℕ) (value : Rose ValueLabel) → taken_by ss text ≡ Ok (i, value) → i < count_members ss
unfolding reads taken_by
taken_below none text i value e = absurd (cc)
taken_below (more s ss) text i value e = elim (which (reads s text) (taken_by ss text) i value e) [
  | inl first ↦ (let zero_is = first.0 in omega (arith, zero_is))
  | inr later ↦ (let suc_is = later.1 in let below = taken_below ss text later.0 value later.2 in omega (arith, suc_is, below))
]

pub chain_of : (members : Spaces) → Sound (UnionOf members) → (text : List ℕ) → ChainEnds (taken_by members) (spelled_by members) text (reads (UnionOf members) text)
chain_of members sound text = rw (reads-UnionOf members text) (by (taken_by members text) refl)
  where
    by : (t : Taking) → taken_by members text ≡ t → ChainEnds (taken_by members) (spelled_by members) text (settled (taken_by members) (spelled_by members) (count_members members) text)
    by (Err why) took = subst (λ t. EndsFrom (taken_by members) (spelled_by members) t (settled (taken_by members) (spelled_by members) (count_members members) text)) (sym took) (rw (settled, took) refl)
    by (Ok taken) took =
        subst (λ t. EndsFrom (taken_by members) (spelled_by members) t (settled (taken_by members) (spelled_by members) (count_members members) text)) (sym took)
        (subst (Ends (taken_by members) (spelled_by members) taken) (sym (settled_from (taken_by members) (spelled_by members) (count_members members) text taken took))
        (ends (taken_by members) (spelled_by members) (take_again members sound.1) (count_members members) taken (text, took) (taken_below members text taken.0 taken.1 took)))

-- one answer of three
pub some_reading : (s : Space) (text : List ℕ) → ((value : Rose ValueLabel) × Accepts s text value) ⊎ (TooWide s text ⊎ BadText s text)
some_reading s text = by (reads s text) refl
  where
    by : (r : Reading) → reads s text ≡ r → ((value : Rose ValueLabel) × Accepts s text value) ⊎ (TooWide s text ⊎ BadText s text)
    by (Ok value) e = inl (value, e)
    by (Err Wide) e = inr (inl e)
    by (Err Bad) e = inr (inr e)

pub one_value : (s : Space) (text : List ℕ) (v w : Rose ValueLabel) → Accepts s text v → Accepts s text w → v ≡ w
one_value s text v w a b = let same : Ok v ≡ Ok w = sym a ∙ b in cc

pub not_wide_too : (s : Space) (text : List ℕ) (v : Rose ValueLabel) → Accepts s text v → ¬ TooWide s text
not_wide_too s text v a b = let same : Ok v ≡ Err Wide = sym a ∙ b in cc

pub not_bad_too : (s : Space) (text : List ℕ) (v : Rose ValueLabel) → Accepts s text v → ¬ BadText s text
not_bad_too s text v a b = let same : Ok v ≡ Err Bad = sym a ∙ b in cc

pub not_wide_and_bad : (s : Space) (text : List ℕ) → TooWide s text → ¬ BadText s text
not_wide_and_bad s text a b = let same : Err Wide ≡ Err Bad = sym a ∙ b in cc

-- two values that hold and are spelled alike are one
pub one_spelling : (s : Space) (v w : Rose ValueLabel) → Holds s v → Holds s w → spelled s v ≡ spelled s w → v ≡ w
one_spelling s v w hv hw e = one_value s (spelled s w) v w (subst (λ t. Accepts s t v) e hv) hw
