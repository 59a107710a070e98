-- What stands behind a front.
use Rattle.std.proofs.Common.{◌≡◌, ◌≢◌, ℕ, Bool, true, false, cond, eqb, List, [], ◌∷◌, ◌++◌, Option, Some, None, refl, ap, ◌∙◌, inl, inr, Bor}
use Rattle.std.specs.Prelude.{MatchOption}
use Rattle.std.proofs.lemmas.Bool.{eq-eqb}
use Rattle.std.proofs.lemmas.Bool.Decides.{eqb_tells}
use Rattle.xml_pieces.specs.Reading.{Gives}
use Rattle.xml_pieces.specs.Pieces.{behind}

pub behind_again : (front rest : List ℕ) → behind front (front ++ rest) ≡ Some rest
behind_again [] rest = refl
behind_again (a ∷ more) rest = rw (eq-eqb a a refl) (behind_again more rest)

chosen : {A : Type 0} (b : Bool) (x : Option A) (y : A) → cond b x None ≡ Some y → (b ≡ true) × (x ≡ Some y)
chosen true x y e = (refl, e)
chosen false x y e = absurd cc

pub behind_takes : (front bytes rest : List ℕ) → behind front bytes ≡ Some rest → bytes ≡ front ++ rest
behind_takes [] bytes rest e = cc
behind_takes (a ∷ more) [] rest e = absurd cc
behind_takes (a ∷ more) (b ∷ bs) rest e =
    let h = chosen (eqb b a) (behind more bs) rest e in
    let tail-is : bs ≡ more ++ rest = behind_takes more bs rest h.1 in
    elim (eqb_tells b a) [ inl t ↦ (let head-is : b ≡ a = t.1 in cc) | inr f ↦ (let no : eqb b a ≡ false = f.0 in let yes : eqb b a ≡ true = h.0 in absurd cc) ]

none_or : (o : Option (List ℕ)) → ((x : List ℕ) → o ≡ Some x → ⊥) → o ≡ None
none_or None never = refl
none_or (Some x) never = absurd (never x refl)

pub strips : (front bytes : List ℕ) (r : Option (Bor (List ℕ))) → MatchOption r ((rest : List ℕ) → bytes ≢ front ++ rest) (λ x. bytes ≡ front ++ x.now) → Gives (λ x. x.now) r (behind front bytes)
strips front bytes (Some x) h = ap (behind front) h ∙ behind_again front x.now
strips front bytes None h = none_or (behind front bytes) (λ x e. h x (behind_takes front bytes x e))
