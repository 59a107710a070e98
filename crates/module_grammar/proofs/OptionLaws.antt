-- The laws of what may stand or not, and of items with a word between two.
use Rattle.std.proofs.Common.{◌≡◌, ℕ, ◌+◌, ◌<◌, ◌⊎◌, inl, inr, List, [], ◌∷◌, ◌++◌, length, refl, sym, ◌∙◌, subst, arith, Option, Some, None, append_assoc, length-append}
use Rattle.module_grammar.specs.Reading.{Reader, word_at, nothing_at, many_at, behind_at}
use Rattle.module_grammar.specs.Shapes.{Sunk, Anything, never, word_of, IsFailed, IsUnread, BothFine, both_written, both_deep, EitherFine, either_deep, either_written, EachFine, each_written, each_deep, BehindFine, shifted, behind_word, Stops}
use Rattle.module_grammar.specs.Laws.{Law, Early}
use Rattle.module_grammar.proofs.Steps.{none_some}
use Rattle.module_grammar.proofs.WordLaws.{nothing_law}
use Rattle.module_grammar.proofs.Or.{or_law}
use Rattle.module_grammar.proofs.Then.{then_law}
use Rattle.module_grammar.proofs.Many.{many_law}
use Rattle.module_grammar.proofs.As.{Renames, as_law}
use Rattle.module_grammar.proofs.Fixed.{behind_law}
use Rattle.module_grammar.proofs.Early.{or_early, as_early, never_early, then_early, many_early, behind_early}
use Rattle.module_grammar.specs.BoundReading.{some_of, option_at}
use Rattle.module_grammar.specs.ValueReading.{listed_of, listed_at}
use Rattle.module_grammar.specs.Depth.{listed_deep}

abbrev pub OptionFine : {A : Type 0} → (ℕ → A → Type 0) → ℕ → Option A → Type 0
OptionFine Fine place None = Unit {0}
OptionFine Fine place (Some a) = Fine place a

abbrev pub option_deep : {A : Type 0} → (A → Option Sunk) → Option A → Option Sunk
option_deep deep None = None
option_deep deep (Some a) = deep a

abbrev pub option_written : {A : Type 0} → (A → List ℕ) → Option A → List ℕ
option_written write None = []
option_written write (Some a) = write a

module _ {A : Type 0} (Fine : ℕ → A → Type 0) (deep : A → Option Sunk) (write : A → List ℕ) where
  pub option_renames : Renames (EitherFine Fine Anything) (either_deep deep never) (either_written write (word_of [])) (OptionFine Fine) (option_deep deep) (option_written write) some_of
  option_renames = record { fine = fine; deep = deep_is; write = write_is; onto = onto }
    where
      fine : (place : ℕ) (x : A ⊎ Unit {0}) → EitherFine Fine Anything place x → OptionFine Fine place (some_of place x)
      fine place (inl a) f = f
      fine place (inr x) f = tt

      deep_is : (place : ℕ) (x : A ⊎ Unit {0}) → EitherFine Fine Anything place x → option_deep deep (some_of place x) ≡ either_deep deep never x
      deep_is place (inl a) f = refl
      deep_is place (inr x) f = refl

      write_is : (place : ℕ) (x : A ⊎ Unit {0}) → EitherFine Fine Anything place x → option_written write (some_of place x) ≡ either_written write (word_of []) x
      write_is place (inl a) f = refl
      write_is place (inr x) f = refl

      onto : (place : ℕ) (c : Option A) → OptionFine Fine place c → (x : A ⊎ Unit {0}) × EitherFine Fine Anything place x × (some_of place x ≡ c)
      onto place None f = (inr tt, tt, refl)
      onto place (Some a) f = (inl a, f, refl)

pub option_law : {A : Type 0} {Fine : ℕ → A → Type 0} {deep : A → Option Sunk} {write : A → List ℕ} {FollowA Follow : List ℕ → Type 0} {read : Reader A} → Law Fine deep write FollowA read
    → ((rest : List ℕ) → Follow rest → FollowA rest) → ((rest : List ℕ) → Follow rest → IsUnread read rest) → Law (OptionFine Fine) (option_deep deep) (option_written write) Follow (option_at read)
option_law {Fine = Fine} {deep = deep} {write = write} {Follow = Follow} law f g = as_law
    (or_law {Follow = Follow} law nothing_law (λ place a rest h w. f rest w) (λ place b rest h w. tt) (λ place b rest h w. g rest w place))
    (option_renames Fine deep write)

pub option_early : {A : Type 0} {Fine : ℕ → A → Type 0} {deep : A → Option Sunk} {write : A → List ℕ} {read : Reader A} → Early Fine deep write read → Early (OptionFine Fine) (option_deep deep) (option_written write) (option_at read)
option_early {Fine = Fine} {deep = deep} {write = write} {read = read} early = as_early
    (or_early {second = nothing_at} early (never_early (λ a. refl)) (λ place b p more x s f d e le. none_some s d))
    (option_renames Fine deep write)

-- ---- items with a word between two

abbrev pub ListedFine : {A : Type 0} → List ℕ → (ℕ → A → Type 0) → (A → List ℕ) → ℕ → List A → Type 0
ListedFine between Fine write place [] = ⊥
ListedFine between Fine write place (a ∷ xs) = Fine place a × EachFine (BehindFine between Fine) (behind_word between write) (place + length (write a)) xs

abbrev pub listed_written : {A : Type 0} → List ℕ → (A → List ℕ) → List A → List ℕ
listed_written between write [] = []
listed_written between write (a ∷ xs) = write a ++ each_written (behind_word between write) xs

module _ {A : Type 0} (between : List ℕ) (Fine : ℕ → A → Type 0) (deep : A → Option Sunk) (write : A → List ℕ) where
  abbrev ListFine : ℕ → A × List A → Type 0
  ListFine = BothFine Fine write (λ a. EachFine (BehindFine between Fine) (behind_word between write))

  abbrev list_deep : A × List A → Option Sunk
  list_deep = both_deep write deep (λ a. each_deep (behind_word between write) (shifted between deep))

  abbrev list_written : A × List A → List ℕ
  list_written = both_written write (λ a. each_written (behind_word between write))

  pub listed_renames : Renames ListFine list_deep list_written (ListedFine between Fine write) (listed_deep between write deep) (listed_written between write) listed_of
  listed_renames = record { fine = λ place x f. f; deep = λ place x f. refl; write = λ place x f. refl; onto = onto }
    where
      onto : (place : ℕ) (xs : List A) → ListedFine between Fine write place xs → (x : A × List A) × ListFine place x × (listed_of place x ≡ xs)
      onto place [] f = absurd f
      onto place (a ∷ xs) f = ((a, xs), f, refl)

-- what ends a list ends an item, and does not begin with the word
pub record ListStops {A : Type 0} (between : List ℕ) (FollowItem : List ℕ → Type 0) (read : Reader A) (rest : List ℕ) : Type 0 where
  pub item : FollowItem rest
  pub end : IsUnread (word_at between) rest

pub listed_law : {A : Type 0} {Fine : ℕ → A → Type 0} {deep : A → Option Sunk} {write : A → List ℕ} {FollowItem : List ℕ → Type 0} {read : Reader A} (between : List ℕ) → 0 < length between → Law Fine deep write FollowItem read
    → ((place : ℕ) → (a : A) × Fine place a) → ((more : List ℕ) → FollowItem (between ++ more)) → ((place : ℕ) (rest : List ℕ) → IsFailed (word_at between place rest) → IsFailed (behind_at between read place rest))
    → Law (ListedFine between Fine write) (listed_deep between write deep) (listed_written between write) (ListStops between FollowItem read) (listed_at between read)
listed_law {A = A} {Fine = Fine} {deep = deep} {write = write} {FollowItem = FollowItem} {read = read} between has law some follow fails = as_law
    (then_law {Follow = ListStops between FollowItem read} law
    (λ place a f. many_law (behind_law between law some) (λ place b g. longer b) (λ place b rest g h. another b rest))
    (λ place here a f. ([], tt))
    (λ place here a xs rest f g h. each_follow xs rest h)
    (λ place here a xs rest f g h. record { item = h.item; fails = λ place. fails place rest (h.end place) }))
    (listed_renames between Fine deep write)
  where
    longer : (b : A) → 0 < length (between ++ write b)
    longer b = omega (arith, has, length-append between (write b))

    another : (b : A) (rest : List ℕ) → FollowItem ((between ++ write b) ++ rest)
    another b rest = subst FollowItem (sym (append_assoc between (write b) rest)) (follow (write b ++ rest))

    each_follow : (xs : List A) (rest : List ℕ) → ListStops between FollowItem read rest → FollowItem (each_written (behind_word between write) xs ++ rest)
    each_follow [] rest h = h.item
    each_follow (b ∷ xs) rest h = subst FollowItem (sym (append_assoc (between ++ write b) (each_written (behind_word between write) xs) rest)) (another b (each_written (behind_word between write) xs ++ rest))

pub listed_early : {A : Type 0} {Fine : ℕ → A → Type 0} {deep : A → Option Sunk} {write : A → List ℕ} {FollowItem : List ℕ → Type 0} {read : Reader A} (between : List ℕ) → 0 < length between → Law Fine deep write FollowItem read → Early Fine deep write read
    → ((place : ℕ) → (a : A) × Fine place a) → ((more : List ℕ) → FollowItem (between ++ more)) → ((place : ℕ) (rest : List ℕ) → IsFailed (word_at between place rest) → IsFailed (behind_at between read place rest))
    → ((l q m x : List ℕ) → between ++ l ≡ q ++ m → 0 < length q → FollowItem (q ++ x))
    → Early (ListedFine between Fine write) (listed_deep between write deep) (listed_written between write) (listed_at between read)
listed_early {A = A} {Fine = Fine} {deep = deep} {write = write} {FollowItem = FollowItem} {read = read} between has law early some follow fails begun = as_early
    (then_early law (λ place a f. all) early
    (λ place a f. many_early (behind_law between law some) all (behind_early between law early) (λ place b g. longer b) (λ place b l q m x g e lt. begun (write b ++ l) q m x (sym (append_assoc between (write b) l) ∙ e) lt))
    (λ place here a xs q more x s f g d e le lt. each_first xs q more x s d e lt))
    (listed_renames between Fine deep write)
  where
    longer : (b : A) → 0 < length (between ++ write b)
    longer b = omega (arith, has, length-append between (write b))

    all : Law (EachFine (BehindFine between Fine) (behind_word between write)) (each_deep (behind_word between write) (shifted between deep)) (each_written (behind_word between write)) (Stops FollowItem (behind_at between read)) (many_at (behind_at between read))
    all = many_law (behind_law between law some) (λ place b g. longer b) (λ place b rest g h. subst FollowItem (sym (append_assoc between (write b) rest)) (follow (write b ++ rest)))

    each_first : (xs : List A) (q more x : List ℕ) (s : Sunk) → each_deep (behind_word between write) (shifted between deep) xs ≡ Some s → each_written (behind_word between write) xs ≡ q ++ more → 0 < length q → FollowItem (q ++ x)
    each_first [] q more x s d e lt = none_some s d
    each_first (b ∷ xs) q more x s d e lt = begun (write b ++ each_written (behind_word between write) xs) q more x (sym (append_assoc between (write b) (each_written (behind_word between write) xs)) ∙ e) lt
