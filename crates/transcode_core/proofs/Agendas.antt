-- Files that are loaded one after another, by the names that may still be loaded.
use Rattle.std.proofs.Common.{◌≡◌, ℕ, zero, suc, ◌+◌, ◌<◌, ◌≤◌, List, [], ◌∷◌, ◌++◌, length, drop, get_or, refl, sym, ap, ◌∙◌, subst, arith, add-one, Option, Some, None}
use Rattle.std.specs.Option.{option_map}
use Rattle.std.proofs.lemmas.List.{drop-append-le}
use Rattle.std.proofs.Math.Seq.{drop-cons}
use Rattle.base_texts.specs.Entries.{IsNext, after_next}
use Rattle.transcode_words.specs.Asked.{Asked, files_of}
use Rattle.transcode_core.specs.Agendas.{Begins, LoadsFirst}
use Rattle.transcode_core.specs.Runs.{files_named}

abbrev pub Agenda : Type 0
Agenda = Option (List (List ℕ))

-- no file was loaded yet
pub after_none : (agenda : Agenda) → agenda ≡ option_map (drop 0) agenda
after_none None = refl
after_none (Some agenda) = refl

-- nothing is loaded
pub loads_nothing : (names : List (List ℕ)) (agenda : Agenda) → LoadsFirst names agenda agenda
loads_nothing names agenda = (0, omega arith, after_none agenda)

-- the name after the first i is the next
pub next_named : (agenda now : Agenda) (names : List (List ℕ)) (i : ℕ) (name : List ℕ) → Begins agenda names → now ≡ option_map (drop i) agenda → i < length names → name ≡ get_or names i name
    → IsNext now name
next_named None now names i name begins is lt named = subst (λ a. IsNext a name) (sym is) tt
next_named (Some agenda) now names i name (rest, begins) is lt named =
    let few : i ≤ length names = omega (arith, lt) in
    let one : drop i names ≡ name ∷ drop (suc i) names = drop-cons names i name lt ∙ ap (λ x. x ∷ drop (suc i) names) (sym named) in
    let all : drop i agenda ≡ name ∷ (drop (suc i) names ++ rest) = ap (λ a. drop i a) begins ∙ drop-append-le i names rest few ∙ ap (λ x. x ++ rest) one in
    subst (λ a. IsNext a name) (sym is) (drop (suc i) names ++ rest, all)

dropped : (names : List (List ℕ)) (i : ℕ) → after_next (Some (drop i names)) ≡ Some (drop (suc i) names)
dropped [] zero = refl
dropped [] (suc i) = refl
dropped (name ∷ names) zero = refl
dropped (name ∷ names) (suc i) = dropped names i

next_after : (agenda : Agenda) (i : ℕ) → after_next (option_map (drop i) agenda) ≡ option_map (drop (suc i)) agenda
next_after None i = refl
next_after (Some agenda) i = dropped agenda i

-- one more is loaded
pub one_more_loaded : (agenda prior now : Agenda) (i : ℕ) → prior ≡ option_map (drop i) agenda → now ≡ after_next prior → now ≡ option_map (drop (i + 1)) agenda
one_more_loaded agenda prior now i before is = rw add-one (is ∙ ap after_next before ∙ next_after agenda i)

-- one of these is loaded after the first i, and no more
pub loads_more : (names : List (List ℕ)) (agenda prior now : Agenda) (i : ℕ) → i < length names → prior ≡ option_map (drop i) agenda → now ≡ after_next prior → LoadsFirst names agenda now
loads_more names agenda prior now i lt before is = (i + 1, omega (arith, lt), one_more_loaded agenda prior now i before is)

-- the only file
pub begins_only : (agenda : Agenda) (name : List ℕ) → Begins agenda (name ∷ []) → IsNext agenda name
begins_only agenda name begins = next_named agenda agenda (name ∷ []) 0 name begins (after_none agenda) (omega arith) refl

pub loads_only : (agenda now : Agenda) (name : List ℕ) → now ≡ after_next agenda → LoadsFirst (name ∷ []) agenda now
loads_only agenda now name is = loads_more (name ∷ []) agenda agenda now 0 (omega arith) (after_none agenda) is

-- the files of a request that there is
pub begins_asked : (agenda : Agenda) (found : Option Asked) (asked : Asked) → found ≡ Some asked → Begins agenda (files_named found) → Begins agenda (files_of asked)
begins_asked agenda found asked is begins = subst (λ f. Begins agenda (files_named f)) is begins
