-- The files one after another.
use Rattle.std.proofs.Common.{◌≡◌, ℕ, suc, Bool, ◌+◌, ◌<◌, ◌≤◌, ◌⊎◌, List, [], ◌∷◌, ◌++◌, length, take, drop, get_or, refl, sym, ap, ◌∙◌, subst, inl, inr, arith, add-one, Option, Result, Ok, Err}
use Rattle.std.proofs.lemmas.List.{take-append-drop, take_more}
use Rattle.std.proofs.Math.Seq.{drop-cons}
use Rattle.std.proofs.lemmas.Grind.{common_steps}
use Rattle.base_texts.specs.Faults.{HasRisen}
use Rattle.schema_components.specs.Raw.{Document}
use Rattle.transcode_words.specs.declared.outcome.Outcome.{Outcome}
use Rattle.transcode_core.specs.Steps.{Schema, Schemas}
use Rattle.transcode_words.specs.Answers.{IsRefusal}
use Rattle.transcode_core.specs.Causes.{OneLoad, SomeLoad}

abbrev pub Documents : Type 0
Documents = List Document

-- a verdict on what follows, with what was read before
abbrev pub in_front : Documents → Result Documents Outcome → Result Documents Outcome
in_front before (Ok after) = Ok (before ++ after)
in_front before (Err o) = Err o

-- files that are schema documents, and then a verdict on the others
pub Schemas-append : (entries : Option (List (List ℕ × List ℕ))) (k : ℕ) (before after : List (List ℕ)) (documents : Documents) (v : Result Documents Outcome)
    → Schemas entries k before (Ok documents) → Schemas entries (k + length before) after v → Schemas entries k (before ++ after) (in_front documents v)
Schemas-append entries k [] after documents (Ok later) sound rest =
    let e : k + 0 ≡ k = omega arith in
    let f : later ≡ documents ++ later = ap (λ l. l ++ later) (sym sound) in
    subst (λ l. Schemas entries k after (Ok l)) f (subst (λ n. Schemas entries n after (Ok later)) e rest)
Schemas-append entries k [] after documents (Err o) sound rest =
    let e : k + 0 ≡ k = omega arith in subst (λ n. Schemas entries n after (Err o)) e rest
Schemas-append entries k (name ∷ names) after documents (Ok later) (document, first, (others, sound, is)) rest =
    let e : k + length (name ∷ names) ≡ (k + 1) + length names = grind arith in
    let rest' = subst (λ n. Schemas entries n after (Ok later)) e rest in
    (document, first, (others ++ later, Schemas-append entries (k + 1) names after others (Ok later) sound rest', ap (λ l. l ++ later) is))
Schemas-append entries k (name ∷ names) after documents (Err o) (document, first, (others, sound, is)) rest =
    let e : k + length (name ∷ names) ≡ (k + 1) + length names = grind arith in
    let rest' = subst (λ n. Schemas entries n after (Err o)) e rest in
    inr (document, first, inl (Schemas-append entries (k + 1) names after others (Err o) sound rest'))

-- a number that rose in a call rose in a longer one
HasRisen-earlier : (first before now : ℕ) → first ≤ before → HasRisen before now → HasRisen first now
HasRisen-earlier first before now earlier rose = omega arith

-- one more file is a schema document
pub one_more : (entries entries' : Option (List (List ℕ × List ℕ))) (names : List (List ℕ)) (i : ℕ) (name : List ℕ) (documents : Documents) (document : Document)
    → entries' ≡ entries → i < length names → name ≡ get_or names i name → Schemas entries 1 (take i names) (Ok documents)
    → Schema entries' (i + 1) name (Ok document) → Schemas entries 1 (take (i + 1) names) (Ok (documents ++ document ∷ []))
one_more entries entries' names i name documents document same lt is sound this =
    let this' : Schema entries (i + 1) name (Ok document) = subst (λ e. Schema e (i + 1) name (Ok document)) same this in
    let n : i + 1 ≡ 1 + length (take i names) = grind (arith, common_steps) in
    let split : take i names ++ name ∷ [] ≡ take (i + 1) names =
    ap (λ x. take i names ++ x ∷ []) is ∙ sym (take_more names i name lt) in
    let one = subst (λ k. Schema entries k name (Ok document)) n this' in
    subst (λ l. Schemas entries 1 l (Ok (documents ++ document ∷ []))) split
    (Schemas-append entries 1 (take i names) (name ∷ []) documents (Ok (document ∷ [])) sound (document, one, ([], refl, refl)))

-- the files are refused at this one, or it failed to load
pub refused_at : (entries entries' : Option (List (List ℕ × List ℕ))) (names : List (List ℕ)) (i : ℕ) (name : List ℕ) (documents : Documents)
    (first prior now : ℕ) (sure sure' : Bool) (o : Outcome) → entries' ≡ entries → sure' ≡ sure → first ≤ prior
    → i < length names → name ≡ get_or names i name → Schemas entries 1 (take i names) (Ok documents)
    → (Schema entries' (i + 1) name (Err o) × IsRefusal o) ⊎ OneLoad prior now sure' entries' (i + 1) name o
    → (Schemas entries 1 names (Err o) × IsRefusal o) ⊎ SomeLoad first now sure entries names o
refused_at entries entries' names i name documents first prior now sure sure' o same same_sure earlier lt is sound answer =
    let there : names ≡ take i names ++ name ∷ drop (i + 1) names =
    sym (take-append-drop i names) ∙ ap (λ l. take i names ++ l) (rw add-one (drop-cons names i name lt ∙ ap (λ x. x ∷ drop (suc i) names) (sym is))) in
    let n : i + 1 ≡ length (take i names) + 1 = grind (arith, common_steps) in
    let n' : i + 1 ≡ 1 + length (take i names) = grind (arith, common_steps) in
    elim (subst (λ s. (Schema entries (i + 1) name (Err o) × IsRefusal o) ⊎ OneLoad prior now s entries (i + 1) name o) same_sure
    (subst (λ e. (Schema e (i + 1) name (Err o) × IsRefusal o) ⊎ OneLoad prior now sure' e (i + 1) name o) same answer)) [
      | inl (due, own) ↦ inl (
        subst (λ l. Schemas entries 1 l (Err o)) (sym there)
            (Schemas-append entries 1 (take i names) (name ∷ drop (i + 1) names) documents (Err o) sound
            (inl (subst (λ k. Schema entries k name (Err o)) n' due))),
        own,
      )
      | inr (inl memory) ↦ inr (inl memory)
      | inr (inr (is_load, fails)) ↦ inr (inr (
        i + 1,
        name,
        is_load,
        record { before = take i names; after = drop (i + 1) names; documents = documents; split = there; number = n; sound = sound },
        record { rose = HasRisen-earlier first prior now earlier fails.rose; lacks = fails.lacks },
      ))
    ]

-- the only file failed to load
pub only_load : (entries : Option (List (List ℕ × List ℕ))) (name : List ℕ) (before now : ℕ) (sure : Bool) (o : Outcome)
    → OneLoad before now sure entries 1 name o → SomeLoad before now sure entries (name ∷ []) o
only_load entries name before now sure o (inl memory) = inl memory
only_load entries name before now sure o (inr (is_load, fails)) = inr (1, name, is_load, record { before = []; after = []; documents = []; split = refl; number = refl; sound = refl }, fails)
