-- With a word before or behind each text.
use Rattle.std.proofs.Common.{◌≡◌, ℕ, List, ◌++◌, length, refl, Option, Some, None}
use Rattle.module_grammar.specs.Reading.{Reader, behind_at, before_at}
use Rattle.module_grammar.specs.Shapes.{Sunk, BehindFine, deeper, shifted, behind_word, before_word}
use Rattle.module_grammar.specs.Laws.{Law}
use Rattle.module_grammar.proofs.WordLaws.{word_law}
use Rattle.module_grammar.proofs.Then.{then_law}
use Rattle.module_grammar.proofs.As.{as_law}

none_behind : (n : ℕ) (d : Option Sunk) → d ≡ deeper n d None
none_behind n None = refl
none_behind n (Some at) = refl

module _ {A : Type 0} {Fine : ℕ → A → Type 0} {deep : A → Option Sunk} {write : A → List ℕ} (word : List ℕ) where
  pub behind_law : {Follow : List ℕ → Type 0} {read : Reader A} → Law Fine deep write Follow read → ((place : ℕ) → (a : A) × Fine place a) → Law (BehindFine word Fine) (shifted word deep) (behind_word word write) Follow (behind_at word read)
  behind_law {Follow = Follow} law some = as_law
      (then_law {FollowB = λ x. Follow} {Follow = Follow} (word_law word) (λ place x h. law) (λ place here x h. some here) (λ place here x a rest f g h. tt) (λ place here x a rest f g h. h))
      (record { fine = λ place x f. f.1; deep = λ place x f. refl; write = λ place x f. refl; onto = λ place a f. ((tt, a), (tt, f), refl) })

  pub before_law : {FollowA Follow : List ℕ → Type 0} {read : Reader A} → Law Fine deep write FollowA read → ((place : ℕ) (a : A) (rest : List ℕ) → Fine place a → Follow rest → FollowA (word ++ rest)) → Law Fine deep (before_word write word) Follow (before_at read word)
  before_law {Follow = Follow} law follow = as_law
      (then_law {Follow = Follow} law (λ place a h. word_law word) (λ place here a h. (tt, tt)) (λ place here a x rest f g h. follow place a rest f h) (λ place here a x rest f g h. tt))
      (record { fine = λ place x f. f.0; deep = λ place x f. none_behind (length (write x.0)) (deep x.0); write = λ place x f. refl; onto = λ place a f. ((a, tt), (f, tt), refl) })
