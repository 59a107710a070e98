-- Words, single bytes, and no bytes.
use Rattle.std.proofs.Common.{◌≡◌, ◌==◌, ℕ, suc, ◌<◌, Bool, true, false, if◌then◌else◌, List, [], ◌∷◌, ◌++◌, length, drop, refl, sym, ap, ◌∙◌, subst, arith, eqb-true, eq-eqb}
use Rattle.module_grammar.specs.Reading.{Answer, Found, Fails, Deep, far, word_at, one_byte_more, byte_at, nothing_at}
use Rattle.module_grammar.specs.Shapes.{Anything, AnyRest, never, word_of}
use Rattle.module_grammar.specs.Laws.{Begins, Told, Again, Law}
use Rattle.module_grammar.proofs.Steps.{none_some}

abbrev WordTold : List ℕ → ℕ → List ℕ → Answer (Unit {0}) → Type 0
WordTold word place bs r = Told Anything never (word_of word) place bs r

abbrev WordBegins : List ℕ → ℕ → List ℕ → ℕ → Type 0
WordBegins word place bs n = Begins Anything never (word_of word) place bs n

word_begins : (word : List ℕ) (place : ℕ) (bs : List ℕ) → WordBegins word place bs 0
word_begins word place bs = record { front = []; rest = bs; more = word; value = tt; is = refl; long = refl; fine = tt; begins = refl }

begins_more : (a b : ℕ) (word : List ℕ) (place : ℕ) (bs : List ℕ) (n : ℕ) → b ≡ a → WordBegins word place bs n → WordBegins (a ∷ word) place (b ∷ bs) (suc n)
begins_more a b word place bs n e h = record { front = b ∷ h.front; rest = h.rest; more = h.more; value = tt; is = ap (λ l. b ∷ l) h.is; long = ap suc h.long; fine = tt; begins = ap (λ l. a ∷ l) h.begins ∙ ap (λ k. k ∷ (h.front ++ h.more)) (sym e) }

told_more : (a b : ℕ) (word : List ℕ) (place : ℕ) (bs : List ℕ) (r : Answer (Unit {0})) → b ≡ a → WordTold word place bs r → WordTold (a ∷ word) place (b ∷ bs) (one_byte_more r)
told_more a b word place bs (Found x size n) e t = (
  record { is = ap (λ l. b ∷ l) t.0.is ∙ ap (λ k. k ∷ (word ++ drop size bs)) e; long = ap suc t.0.long; fine = tt; shallow = refl; told = omega (arith, t.0.told) },
  begins_more a b word place bs n e t.1,
)
told_more a b word place bs (Fails n) e t = begins_more a b word place bs n e t
told_more a b word place bs (Deep at n) e t = none_some t.0.sunk t.0.deep_is

word_told : (word : List ℕ) (place : ℕ) (bs : List ℕ) → WordTold word place bs (word_at word place bs)
word_told [] place bs = (record { is = refl; long = refl; fine = tt; shallow = refl; told = omega arith }, word_begins [] place bs)
word_told (a ∷ word) place [] = word_begins (a ∷ word) place []
word_told (a ∷ word) place (b ∷ bs) = cases (word_told word place bs) (b == a) (λ e. e)
  where
    cases : WordTold word place bs (word_at word place bs) → (t : Bool) → (t ≡ true → (b == a) ≡ true) → WordTold (a ∷ word) place (b ∷ bs) (if t then one_byte_more (word_at word place bs) else Fails 0)
    cases t true h = told_more a b word place bs (word_at word place bs) (eqb-true b a (h refl)) t
    cases t false h = word_begins (a ∷ word) place (b ∷ bs)

again_more : (a : ℕ) (word : List ℕ) (r : Answer (Unit {0})) → Again Anything never (word_of word) tt r → Again Anything never (word_of (a ∷ word)) tt (one_byte_more r)
again_more a word (Found x size n) t = (t.0, ap suc t.1, t.2)
again_more a word (Fails n) t = t
again_more a word (Deep at n) t = none_some t.0 t.1

word_again : (word : List ℕ) (place : ℕ) (rest : List ℕ) → Again Anything never (word_of word) tt (word_at word place (word ++ rest))
word_again [] place rest = (refl, refl, refl)
word_again (a ∷ word) place rest = subst (λ t. Again Anything never (word_of (a ∷ word)) tt (if t then one_byte_more (word_at word place (word ++ rest)) else Fails 0)) (sym (eq-eqb a a refl)) (again_more a word (word_at word place (word ++ rest)) (word_again word place rest))

far_more : (r : Answer (Unit {0})) → far (one_byte_more r) ≡ suc (far r)
far_more (Found x size n) = refl
far_more (Fails n) = refl
far_more (Deep at n) = refl

word_local : (word : List ℕ) (place : ℕ) (p x y : List ℕ) → far (word_at word place (p ++ x)) < length p → word_at word place (p ++ y) ≡ word_at word place (p ++ x)
word_local [] place p x y lt = refl
word_local (a ∷ word) place [] x y lt = absurd (omega (arith, lt))
word_local (a ∷ word) place (b ∷ p) x y lt = cases (word_local word place p x y) (b == a) lt
  where
    cases : (far (word_at word place (p ++ x)) < length p → word_at word place (p ++ y) ≡ word_at word place (p ++ x)) → (t : Bool) → far (if t then one_byte_more (word_at word place (p ++ x)) else Fails 0) < suc (length p)
        → (if t then one_byte_more (word_at word place (p ++ y)) else Fails 0) ≡ (if t then one_byte_more (word_at word place (p ++ x)) else Fails 0)
    cases h true l = ap one_byte_more (h (omega (arith, l, far_more (word_at word place (p ++ x)))))
    cases h false l = refl

pub word_law : (word : List ℕ) → Law Anything never (word_of word) AnyRest (word_at word)
word_law word = record { told = word_told word; again = λ place x rest f h. word_again word place rest; local = word_local word; inside = λ place x s f d. none_some s d }

pub nothing_law : Law Anything never (word_of []) AnyRest nothing_at
nothing_law = record {
  told = λ place bs. (record { is = refl; long = refl; fine = tt; shallow = refl; told = omega arith }, word_begins [] place bs);
  again = λ place x rest f h. (refl, refl, refl);
  local = λ place p x y lt. refl;
  inside = λ place x s f d. none_some s d;
}

-- ---- one byte

module _ (is_one : ℕ → Bool) where
  abbrev pub IsOne : ℕ → ℕ → Type 0
  IsOne place b = is_one b ≡ true

  abbrev pub one : ℕ → List ℕ
  one b = b ∷ []

  module _ (some : (b : ℕ) × (is_one b ≡ true)) where
    byte_begins : (place : ℕ) (bs : List ℕ) → Begins IsOne never one place bs 0
    byte_begins place bs = record { front = []; rest = bs; more = some.0 ∷ []; value = some.0; is = refl; long = refl; fine = some.1; begins = refl }

    byte_told : (place : ℕ) (bs : List ℕ) → Told IsOne never one place bs (byte_at is_one place bs)
    byte_told place [] = byte_begins place []
    byte_told place (b ∷ bs) = cases (is_one b) (λ e. e)
      where
        cases : (t : Bool) → (t ≡ true → is_one b ≡ true) → Told IsOne never one place (b ∷ bs) (if t then Found b 1 1 else Fails 0)
        cases true h = (
          record { is = refl; long = refl; fine = h refl; shallow = refl; told = omega arith },
          record { front = b ∷ []; rest = bs; more = []; value = b; is = refl; long = refl; fine = h refl; begins = refl },
        )
        cases false h = byte_begins place (b ∷ bs)

    byte_local : (place : ℕ) (p x y : List ℕ) → far (byte_at is_one place (p ++ x)) < length p → byte_at is_one place (p ++ y) ≡ byte_at is_one place (p ++ x)
    byte_local place [] x y lt = absurd (omega (arith, lt))
    byte_local place (b ∷ p) x y lt = refl

    pub byte_law : Law IsOne never one AnyRest (byte_at is_one)
    byte_law = record {
      told = byte_told;
      again = λ place b rest f h. subst (λ t. Again IsOne never one b (if t then Found b 1 1 else Fails 0)) (sym f) (refl, refl, refl);
      local = byte_local;
      inside = λ place x s f d. none_some s d;
    }
