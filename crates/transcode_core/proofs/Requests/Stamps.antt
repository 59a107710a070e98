-- Taking a stamp from the input, octet by octet.
use Rattle.std.proofs.Common.{◌≡◌, ℕ, ◌+◌, ◌-◌, ◌≤◌, List, [], ◌∷◌, ◌++◌, length, take, drop, get_or, refl, sym, ap, ◌∙◌, subst, arith, length-append, Option, Some, None, Result, Ok, Err}
use Rattle.std.specs.Io.KnownBytes.{Consumes}
use Rattle.std.proofs.KnownBytes.{Consumes-trans}
use Rattle.std.proofs.lemmas.List.{take_all}
use Rattle.base_texts.specs.Bytes.{TakesFirst}
use Rattle.transcode_words.specs.declared.outcome.Outcome.{Outcome}
use Rattle.transcode_words.specs.declared.outcome.Outcome.TheVariants.{Stamp}
use Rattle.transcode_core.specs.Requests.Due.{AfterStamp}

-- nothing of the stamp is left to be taken
pub after_all : (left : Option (List ℕ)) → AfterStamp [] left (Ok left)
after_all None = tt
after_all (Some octets) = (octets, refl, refl)

-- an octet of the stamp was taken
pub after_more : (due : ℕ) (others : List ℕ) (left now : Option (List ℕ)) (v : Result (Option (List ℕ)) Outcome) → Consumes left now (due ∷ []) → AfterStamp others now v
    → AfterStamp (due ∷ others) left v
after_more due others None now (Ok rest) took after = tt
after_more due others None None (Err o) took after = after
after_more due others None (Some ys) (Err o) took after = after.1
after_more due others (Some xs) None v took after = absurd took
after_more due others (Some xs) (Some ys) (Ok rest) took after = (after.0, took ∙ ap (λ zs. due ∷ zs) after.1, after.2)
after_more due others (Some xs) (Some ys) (Err o) took after = (λ octets is. after.0 octets (ap (drop 1) (sym took ∙ is)), after.1)

-- the next octet is another, or there is none
pub after_other : (due : ℕ) (others : List ℕ) (left : Option (List ℕ)) → ((octets : List ℕ) → left ≡ Some (due ∷ octets) → ⊥) → AfterStamp (due ∷ others) left (Err Stamp)
after_other due others None other = refl
after_other due others (Some xs) other = (λ octets is. other (others ++ octets) (ap (λ zs. Some zs) is), refl)

-- octets that are taken in two parts
pub taken_more : (a b c : Option (List ℕ)) (m n : ℕ) → TakesFirst a b m → TakesFirst b c n → TakesFirst a c (m + n)
taken_more a b c m n (xs, first, long) (ys, second, more) = (xs ++ ys, Consumes-trans a b c xs ys first second, length-append xs ys ∙ ap (λ k. k + length ys) long ∙ ap (λ k. m + k) more)

pub none_taken : (left : Option (List ℕ)) → TakesFirst left left 0
none_taken None = ([], tt, refl)
none_taken (Some xs) = ([], refl, refl)

-- the next octet was taken, and the others follow
pub after_next : (rest : List ℕ) → 1 ≤ length rest → (left now : Option (List ℕ)) (v : Result (Option (List ℕ)) Outcome) → Consumes left now (get_or rest 0 0 ∷ [])
    → AfterStamp (take (length rest - 1) (drop 1 rest)) now v → AfterStamp rest left v
after_next [] some left now v took after = absurd (omega (arith, some))
after_next (x ∷ xs) some left now v took after =
    let all : take (length (x ∷ xs) - 1) xs ≡ xs = take_all (length (x ∷ xs) - 1) xs (omega arith) in
    after_more x xs left now v took (subst (λ ys. AfterStamp ys now v) all after)
