-- Where it can be told of each whether it has a fault, there is a first fault or none.
use Rattle.std.proofs.Common.{◌≡◌, false, ◌⊎◌, inl, inr, List, [], ◌∷◌, Option, Some, None, refl, subst}
use Rattle.link_names.specs.declared.faults.LinkingFault.{LinkingFault}
use Rattle.link_names.specs.Order.{precedes, IsFirstSuch, OneHas, first_of}
use Rattle.base_texts.specs.Lists.{HasItem}
use Rattle.link_names.proofs.Firsts.{precedes_itself, such_joined}

abbrev pub SomeFirst : (LinkingFault → Type 0) → Type 0
SomeFirst P = (o : Option LinkingFault) × IsFirstSuch P o

-- the first of two kinds
pub some_of_both : (P Q R : LinkingFault → Type 0) → ((f : LinkingFault) → R f → P f ⊎ Q f) → ((f : LinkingFault) → P f → R f) → ((f : LinkingFault) → Q f → R f)
    → SomeFirst P → SomeFirst Q → SomeFirst R
some_of_both P Q R parts left right a b = (first_of a.0 b.0, such_joined P Q R parts left right a.0 b.0 a.1 b.1)

pub some_of_none : (P : LinkingFault → Type 0) → ((f : LinkingFault) → P f → ⊥) → SomeFirst P
some_of_none P none = (None, none)

pub some_of_one : (P : LinkingFault → Type 0) (g : LinkingFault) → P g → ((f : LinkingFault) → P f → g ≡ f) → SomeFirst P
some_of_one P g h only = (Some g, (h, λ f p. subst (λ x. precedes x g ≡ false) (only f p) (precedes_itself g)))

pub some_of_all : {A : Type 0} (has : A → LinkingFault → Type 0) → ((x : A) → SomeFirst (has x)) → (xs : List A) → SomeFirst (OneHas has xs)
some_of_all has each [] = some_of_none (OneHas has []) (λ f h. h)
some_of_all has each (x ∷ xs) =
    some_of_both (has x) (OneHas has xs) (OneHas has (x ∷ xs)) (λ f h. h) (λ f h. inl h) (λ f h. inr h) (each x) (some_of_all has each xs)

pub some_of_list : (fs : List LinkingFault) → SomeFirst (HasItem fs)
some_of_list [] = some_of_none (HasItem []) (λ f h. h)
some_of_list (g ∷ gs) =
    some_of_both (λ f. g ≡ f) (HasItem gs) (HasItem (g ∷ gs)) (λ f h. h) (λ f h. inl h) (λ f h. inr h) (some_of_one (λ f. g ≡ f) g refl (λ f e. e)) (some_of_list gs)

pub some_of_same : (P Q : LinkingFault → Type 0) → ((f : LinkingFault) → P f → Q f) → ((f : LinkingFault) → Q f → P f) → SomeFirst P → SomeFirst Q
some_of_same P Q to from a = by a.0 a.1
  where
    by : (o : Option LinkingFault) → IsFirstSuch P o → SomeFirst Q
    by None h = (None, λ f q. h f (from f q))
    by (Some f) h = (Some f, (to f h.0, λ g q. h.1 g (from g q)))
