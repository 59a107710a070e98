-- Facts on fronts and places.
use Rattle.std.proofs.Common.{◌≡◌, ℕ, zero, suc, ◌⊎◌, inl, inr, List, refl, sym, ◌∙◌, arith, Option, Some, None, option_map}
use Rattle.module_grammar.specs.Reading.{later}
use Rattle.module_grammar.specs.Shapes.{Sunk, moved, deeper}
use Rattle.module_grammar.specs.Laws.{Begins}

pub later_cases : (m n : ℕ) → (later m n ≡ m) ⊎ (later m n ≡ n)
later_cases m zero = inl (omega arith)
later_cases zero n = inr (omega arith)
later_cases (suc m) (suc n) = elim (later_cases m n) [ inl e ↦ inl (omega (arith, e)) | inr e ↦ inr (omega (arith, e)) ]

pub begins_at : {A : Type 0} {Fine : ℕ → A → Type 0} {deep : A → Option Sunk} {write : A → List ℕ} (place : ℕ) (bs : List ℕ) (m n : ℕ) → m ≡ n → Begins Fine deep write place bs m → Begins Fine deep write place bs n
begins_at place bs m n e h = record { front = h.front; rest = h.rest; more = h.more; value = h.value; is = h.is; long = h.long ∙ e; fine = h.fine; begins = h.begins }

-- the further of two fronts
pub begins_later : {A : Type 0} {Fine : ℕ → A → Type 0} {deep : A → Option Sunk} {write : A → List ℕ} (place : ℕ) (bs : List ℕ) (m n : ℕ) → Begins Fine deep write place bs m → Begins Fine deep write place bs n → Begins Fine deep write place bs (later m n)
begins_later place bs m n h k = elim (later_cases m n) [ inl e ↦ begins_at place bs m (later m n) (sym e) h | inr e ↦ begins_at place bs n (later m n) (sym e) k ]

pub some_is : {A : Type 0} (s t : A) → Some s ≡ Some t → s ≡ t
some_is s t e = cc

pub none_some : {A B : Type 0} (s : A) → None ≡ Some s → B
none_some s e = absurd cc

-- where in two parts the node lies
pub deeper_cases : (size : ℕ) (s : Sunk) (d e : Option Sunk) → deeper size d e ≡ Some s → (d ≡ Some s) ⊎ ((d ≡ None) × (t : Sunk) × (e ≡ Some t) × (moved size t ≡ s))
deeper_cases size s (Some t) e h = inl h
deeper_cases size s None None h = none_some s h
deeper_cases size s None (Some t) h = inr (refl, t, refl, some_is (moved size t) s h)

pub moved_is : (size : ℕ) (s : Sunk) (d : Option Sunk) → option_map (moved size) d ≡ Some s → (t : Sunk) × (d ≡ Some t) × (moved size t ≡ s)
moved_is size s None h = none_some s h
moved_is size s (Some t) h = (t, refl, some_is (moved size t) s h)
