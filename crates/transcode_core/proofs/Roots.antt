-- The root among the global elements.
use Rattle.std.proofs.Common.{◌≡◌, ◌<◌, ℕ, zero, suc, take, arith, Bool, true, false, List, [], ◌∷◌, map, refl, ap, ◌∙◌, subst, Option, Some, None}
use Rattle.std.specs.Prelude.{slice_get, IsSomeAnd, ◌||◌, if◌then◌else◌}
use Rattle.std.specs.Option.{option_map}
use Rattle.std.specs.List.{list_any, IsDistinct, AllByRecursion}
use Rattle.base_texts.specs.declared.texts.Name.{Name}
use Rattle.base_texts.specs.Names.{name_eq}
use Rattle.base_texts.proofs.NameLaws.{name_eq-Decides}
use Rattle.schema_components.specs.declared.components.ElementDecl.{ElementDecl}
use Rattle.transcode_core.specs.Steps.{number_named}

neither : (p q : Bool) → (p || q) ≡ false → (p ≡ false) × (q ≡ false)
neither true q e = absurd (cc)
neither false q e = (refl, e)

-- the number behind an element
abbrev behind : Bool → Option ℕ → Option ℕ
behind here later = if here then Some 0 else option_map (λ n. suc n) later

not_here : (here : Bool) (later : Option ℕ) → here ≡ false → behind here later ≡ option_map (λ n. suc n) later
not_here true later e = absurd (cc)
not_here false later e = refl

just_here : (here : Bool) (later : Option ℕ) → here ≡ true → behind here later ≡ Some 0
just_here true later e = refl
just_here false later e = absurd (cc)

-- where none has the name, there is no number
pub number-none : (name : Name) (es : List ElementDecl) → list_any (λ (e : ElementDecl). name_eq e.name name) es ≡ false → number_named name es ≡ None
number-none name [] h = refl
number-none name (e ∷ es) h =
    let parts = neither (name_eq e.name name) (list_any (λ (d : ElementDecl). name_eq d.name name) es) h in
    not_here (name_eq e.name name) (number_named name es) parts.0 ∙ ap (option_map (λ n. suc n)) (number-none name es parts.1)

other_name : (e : ElementDecl) (es : List ElementDecl) (n : ℕ) (name : Name) → AllByRecursion (λ a. name_eq e.name a ≡ false) (map (λ (d : ElementDecl). d.name) es)
    → IsSomeAnd (slice_get es n) (λ (d : ElementDecl). d.name ≡ name) → name_eq e.name name ≡ false
other_name e [] n name apart h = absurd h
other_name e (d ∷ ds) zero name apart h = subst (λ a. name_eq e.name a ≡ false) h apart.0
other_name e (d ∷ ds) (suc n) name apart h = other_name e ds n name apart.1 h

-- where names differ, the number is that of the one that has the name
pub number-some : (name : Name) (es : List ElementDecl) (n : ℕ) → IsDistinct name_eq (map (λ (e : ElementDecl). e.name) es)
    → IsSomeAnd (slice_get es n) (λ (e : ElementDecl). e.name ≡ name) → number_named name es ≡ Some n
unfolding IsDistinct
number-some name [] n apart h = absurd h
number-some name (e ∷ es) zero apart h = just_here (name_eq e.name name) (number_named name es) ((name_eq-Decides e.name name).1 h)
number-some name (e ∷ es) (suc n) apart h =
    not_here (name_eq e.name name) (number_named name es) (other_name e es n name apart.0 h)
    ∙ ap (option_map (λ m. suc m)) (number-some name es n apart.1 h)

one_more : (here : Bool) (later : Option ℕ) (k n : ℕ) → ((m : ℕ) → later ≡ Some m → m < k) → behind here later ≡ Some n → n < suc k
one_more true later k n each e = let same : 0 ≡ n = cc in omega (arith, same)
one_more false None k n each e = absurd (cc)
one_more false (Some m) k n each e =
    let same : suc m ≡ n = cc in
    let below : m < k = each m refl in
    omega (arith, same, below)

-- a number that is found among the first k is less than k
pub number-within : (name : Name) (k : ℕ) (es : List ElementDecl) (n : ℕ) → number_named name (take k es) ≡ Some n → n < k
number-within name zero [] n e = absurd (cc)
number-within name zero (d ∷ ds) n e = absurd (cc)
number-within name (suc k) [] n e = absurd (cc)
number-within name (suc k) (d ∷ ds) n e =
    one_more (name_eq d.name name) (number_named name (take k ds)) k n (λ m found. number-within name k ds m found) e
