-- Marks of the complex types that nillable elements have.
use Rattle.std.proofs.Common.{◌≡◌, ℕ, ◌+◌, ◌<◌, ◌≤◌, Bool, true, false, ◌&&◌, ◌||◌, nat_eq, List, length, drop, get_or, Some, inl, inr, refl, sym, ap, subst, ◌∙◌}
use Rattle.std.specs.Prelude.{slice_get}
use Rattle.std.specs.List.{list_any}
use Rattle.std.proofs.Math.ListN.{set}
use Rattle.std.proofs.lemmas.Bool.Decides.{eqb_tells}
use Rattle.std.proofs.lemmas.List.{get_or-set_same, get_or-set_other, drop_all}
use Rattle.std.proofs.lemmas.Option.{unwrap_or-slice_get, slice_get_within, get_or_from_slice_get}
use Rattle.schema_components.specs.declared.components.ElementDecl.{ElementDecl}
use Rattle.schema_components.specs.declared.components.TypeOf.{TypeOf}
use Rattle.schema_components.specs.declared.components.TypeOf.TheVariants as kind
use Rattle.schema_components.specs.Components.{Set}
use Rattle.schema_components.specs.Linked.{IsLinked, IsElement, IsTyped}
use Rattle.map_subjects.specs.Subjects.{is_nillable_of, has_nillable}
use Rattle.map_subjects.specs.Private.Collecting.{is_marked, HasMark}
use Rattle.map_subjects.proofs.Finding.{all-at}
use Rattle.map_subjects.proofs.Finding.{drop-next}

pub set-mark : (marks : List Bool) (n m : ℕ) → n < length marks → is_marked (set marks n true) m ≡ (nat_eq n m || is_marked marks m)
set-mark marks n m below = elim (eqb_tells n m) [
  | inl h ↦
      unwrap_or-slice_get (set marks n true) m false
      ∙ ap (λ k. get_or (set marks n true) k false) (sym h.1)
      ∙ get_or-set_same marks n true false below
      ∙ sym (ap (λ b. b || is_marked marks m) h.0)
  | inr h ↦
      unwrap_or-slice_get (set marks n true) m false
      ∙ get_or-set_other marks n m true false (λ e. h.1 (sym e))
      ∙ sym (unwrap_or-slice_get marks m false)
      ∙ sym (ap (λ b. b || is_marked marks m) h.0)
]

module _ (n : ℕ) (e : ElementDecl) where
  pub not-nillable : e.nillable ≡ false → is_nillable_of n e ≡ false
  not-nillable h = ap (λ b. b && elim e.kind [ kind.Simple m ↦ false | kind.Complex m ↦ nat_eq m n ]) h

  and-false : (b : Bool) → (b && false) ≡ false
  and-false true = refl
  and-false false = refl

  pub of-simple : (m : ℕ) → e.kind ≡ kind.Simple m → is_nillable_of n e ≡ false
  of-simple m is = ap (λ k. e.nillable && elim k [ kind.Simple i ↦ false | kind.Complex i ↦ nat_eq i n ]) is ∙ and-false e.nillable

  pub of-complex : (m : ℕ) → e.nillable ≡ true → e.kind ≡ kind.Complex m → is_nillable_of n e ≡ nat_eq m n
  of-complex m h is = ap (λ k. e.nillable && elim k [ kind.Simple i ↦ false | kind.Complex i ↦ nat_eq i n ]) is ∙ ap (λ b. b && nat_eq m n) h

-- The marks so far and the elements from here on tell which types are those of nillable elements.
abbrev pub Marked : Set → ℕ → List Bool → Type 0
Marked s i marks = (n : ℕ) → (is_marked marks n || list_any (is_nillable_of n) (drop i s.elements)) ≡ has_nillable s n

pub marked-none : (s : Set) (marks : List Bool) → ((n : ℕ) → is_marked marks n ≡ false) → Marked s 0 marks
marked-none s marks none n = ap (λ b. b || list_any (is_nillable_of n) s.elements) (none n)

in-turn : (a b rest : Bool) → ((a || b) || rest) ≡ (b || (a || rest))
in-turn true true rest = refl
in-turn true false rest = refl
in-turn false b rest = refl

pub marked-next : (s : Set) (i : ℕ) (e : ElementDecl) (old new : List Bool) → slice_get s.elements i ≡ Some e
    → ((n : ℕ) → is_marked new n ≡ (is_nillable_of n e || is_marked old n)) → Marked s i old → Marked s (i + 1) new
marked-next s i e old new got marks so_far n =
    let rest = list_any (is_nillable_of n) (drop (i + 1) s.elements) in
    let here = drop-next s.elements i e (slice_get_within s.elements i e got) (sym (get_or_from_slice_get s.elements i e e got)) in
    ap (λ b. b || rest) (marks n)
    ∙ in-turn (is_nillable_of n e) (is_marked old n) rest
    ∙ ap (λ es. is_marked old n || list_any (is_nillable_of n) es) (sym here)
    ∙ so_far n

or-false : (b : Bool) → b ≡ (b || false)
or-false true = refl
or-false false = refl

pub marked-all : (s : Set) (i : ℕ) (marks : List Bool) → length s.elements ≤ i → Marked s i marks → (n : ℕ) → is_marked marks n ≡ has_nillable s n
marked-all s i marks past so_far n =
    or-false (is_marked marks n)
    ∙ ap (λ es. is_marked marks n || list_any (is_nillable_of n) es) (sym (drop_all i s.elements past))
    ∙ so_far n

-- the type of an element has a mark
typed-mark : (s : Set) (t : TypeOf) → IsTyped s t → HasMark (length s.complexes) t
typed-mark s (kind.Simple n) h = tt
typed-mark s (kind.Complex n) h = h

pub has-mark : (s : Set) (i : ℕ) (e : ElementDecl) (marks : List Bool) → IsLinked s → slice_get s.elements i ≡ Some e → length marks ≡ length s.complexes
    → HasMark (length marks) e.kind
has-mark s i e marks h got long =
    subst (λ k. HasMark k e.kind) (sym long) (typed-mark s e.kind (all-at (IsElement s) s.elements i e got h.elements).1)
