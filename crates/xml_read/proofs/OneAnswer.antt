-- Bytes have one answer: one tree or one fault.
use Rattle.std.proofs.Common.{◌≡◌, ℕ, ◌+◌, ◌-◌, true, false, List, [], ◌∷◌, length, Some, None, refl, sym, ap, subst, ◌∙◌, arith, inl, inr}
use Rattle.std.specs.Prelude.{IsUtf8}
use Rattle.std.proofs.lemmas.List.{length-append}
use Rattle.xml_pieces.specs.Pieces.{Piece, Begins}
use Rattle.xml_read.specs.declared.error.DocWhy.{DocWhy}
use Rattle.xml_read.specs.Contexts.{Context, reason, after}
use Rattle.xml_read.specs.Tokens.{Token}
use Rattle.xml_read.specs.Documents.{told, Whole, Broken, FaultAt, why_of}
use Rattle.xml_read.proofs.PieceLaws.{PieceLaws}

nothing_begins : PieceLaws → (p : Piece) (bytes rest : List ℕ) → bytes ≡ [] → Begins p bytes rest → ⊥
nothing_begins laws p bytes rest e b = omega (arith, ap length (sym e ∙ b.parts), length-append b.front rest, laws.nonempty p b.front b.form)

front_len : (p : Piece) (bytes rest : List ℕ) (b : Begins p bytes rest) → length b.front ≡ length bytes - length rest
front_len p bytes rest b = omega (arith, ap length b.parts, length-append b.front rest)

record PiecePlace : Type 0 where
  piece : Piece
  rest : List ℕ
  len : ℕ

abbrev at_place : Piece → List ℕ → ℕ → PiecePlace
at_place p rest n = record { piece = p; rest = rest; len = n }

pairs : (x y : Piece × List ℕ) → Some x ≡ Some y → (x.0 ≡ y.0) × (x.1 ≡ y.1)
pairs x y e = let same : x ≡ y = cc in (ap (λ (z : Piece × List ℕ). z.0) same, ap (λ (z : Piece × List ℕ). z.1) same)

same_place : PieceLaws → (p q : Piece) (bytes x y : List ℕ) → IsUtf8 bytes → (a : Begins p bytes x) (b : Begins q bytes y) → at_place p x (length a.front) ≡ at_place q y (length b.front)
same_place laws p q bytes x y utf8 a b =
    let both = pairs (p, x) (q, y) (sym (laws.again p bytes x utf8 a) ∙ laws.again q bytes y utf8 b) in
    rw (front_len p bytes x a, front_len q bytes y b, both.0, both.1) refl

pub whole_one : PieceLaws → (ps qs : List Piece) (c : Context) (at : ℕ) (bytes : List ℕ) (ts us : List Token) → IsUtf8 bytes → Whole ps c at bytes ts → Whole qs c at bytes us → ts ≡ us
whole_one laws [] [] c at bytes ts us utf8 v w = v.2 ∙ sym w.2
whole_one laws [] (q ∷ qs) c at bytes ts us utf8 v w = absurd (nothing_begins laws q bytes w.0 v.1 w.2)
whole_one laws (p ∷ ps) [] c at bytes ts us utf8 v w = absurd (nothing_begins laws p bytes v.0 w.1 v.2)
whole_one laws (p ∷ ps) (q ∷ qs) c at bytes ts us utf8 v w =
    let same = same_place laws p q bytes v.0 w.0 utf8 v.2 w.2 in
    let moved : Whole qs (after p c) (at + length v.2.front) v.0 w.1 = subst (λ (x : PiecePlace). Whole qs (after x.piece c) (at + x.len) x.rest w.1) (sym same) w.5 in
    let later : v.1 ≡ w.1 = whole_one laws ps qs (after p c) (at + length v.2.front) v.0 v.1 w.1 (laws.utf8 p bytes v.0 utf8 v.2) v.5 moved in
    let p_is : p ≡ q = ap (λ (x : PiecePlace). x.piece) same in
    v.4 ∙ ap (told p c at) later ∙ ap (λ (x : Piece). told x c at w.1) p_is ∙ sym w.4

pub not_both : PieceLaws → (ps qs : List Piece) (c : Context) (at : ℕ) (bytes : List ℕ) (ts : List Token) (place : ℕ) (cause : DocWhy) → IsUtf8 bytes → Whole ps c at bytes ts → Broken qs c at bytes place cause → ⊥
not_both laws [] [] c at [] ts place cause utf8 v w = let one : c.ended ≡ true = v.0 in let other : c.ended ≡ false = w.1.0 in let clash : true ≡ false = sym one ∙ other in absurd cc
not_both laws [] [] c at (b ∷ bs) ts place cause utf8 v w = let e : b ∷ bs ≡ [] = v.1 in absurd cc
not_both laws [] (q ∷ qs) c at bytes ts place cause utf8 v w = nothing_begins laws q bytes w.0 v.1 w.1
not_both laws (p ∷ ps) [] c at [] ts place cause utf8 v w = nothing_begins laws p [] v.0 refl v.2
not_both laws (p ∷ ps) [] c at (b ∷ bs) ts place cause utf8 v w = elim w.1 [
  | inl f ↦ f.0 p v.0 v.2
  | inr f ↦ (
      let same = same_place laws p f.0 (b ∷ bs) v.0 f.1 utf8 v.2 f.2 in
      let p_is : p ≡ f.0 = ap (λ (x : PiecePlace). x.piece) same in
      let one : reason p c ≡ None = v.3 in
      let other : reason f.0 c ≡ Some cause = f.3 in
      let clash : reason p c ≡ Some cause = ap (λ (x : Piece). reason x c) p_is ∙ other in
      absurd cc)
]
not_both laws (p ∷ ps) (q ∷ qs) c at bytes ts place cause utf8 v w =
    let same = same_place laws p q bytes v.0 w.0 utf8 v.2 w.1 in
    not_both laws ps qs (after p c) (at + length v.2.front) v.0 v.1 place cause (laws.utf8 p bytes v.0 utf8 v.2) v.5 (subst (λ (x : PiecePlace). Broken qs (after x.piece c) (at + x.len) x.rest place cause) (sym same) w.3)

pub record DocFault : Type 0 where
  pub place : ℕ
  pub cause : DocWhy

abbrev pub fault_of : ℕ → DocWhy → DocFault
fault_of place cause = record { place = place; cause = cause }

some_is : (a b : DocWhy) → Some a ≡ Some b → a ≡ b
some_is a b e = cc

fault_at_one : PieceLaws → (c : Context) (bytes : List ℕ) (cause other : DocWhy) → IsUtf8 bytes → FaultAt c bytes cause → FaultAt c bytes other → cause ≡ other
fault_at_one laws c [] cause other utf8 f g = f.1 ∙ sym g.1
fault_at_one laws c (b ∷ bs) cause other utf8 (inl f) (inl g) = f.1.2 ∙ ap why_of (laws.none_one c.first (b ∷ bs) f.1.0 g.1.0 utf8 f.1.1 g.1.1) ∙ sym g.1.2
fault_at_one laws c (b ∷ bs) cause other utf8 (inl f) (inr g) = absurd (f.0 g.0 g.1 g.2)
fault_at_one laws c (b ∷ bs) cause other utf8 (inr f) (inl g) = absurd (g.0 f.0 f.1 f.2)
fault_at_one laws c (b ∷ bs) cause other utf8 (inr f) (inr g) =
    let p_is : f.0 ≡ g.0 = ap (λ (x : PiecePlace). x.piece) (same_place laws f.0 g.0 (b ∷ bs) f.1 g.1 utf8 f.2 g.2) in
    some_is cause other (sym f.3 ∙ ap (λ (x : Piece). reason x c) p_is ∙ g.3)

no_fault : PieceLaws → (p : Piece) (c : Context) (bytes rest : List ℕ) (cause : DocWhy) → IsUtf8 bytes → Begins p bytes rest → reason p c ≡ None → FaultAt c bytes cause → ⊥
no_fault laws p c [] rest cause utf8 b none f = nothing_begins laws p [] rest refl b
no_fault laws p c (x ∷ bs) rest cause utf8 b none (inl f) = f.0 p rest b
no_fault laws p c (x ∷ bs) rest cause utf8 b none (inr f) =
    let p_is : p ≡ f.0 = ap (λ (y : PiecePlace). y.piece) (same_place laws p f.0 (x ∷ bs) rest f.1 utf8 b f.2) in
    let other : reason f.0 c ≡ Some cause = f.3 in
    let clash : reason p c ≡ Some cause = ap (λ (y : Piece). reason y c) p_is ∙ other in
    absurd cc

pub broken_one : PieceLaws → (ps qs : List Piece) (c : Context) (at : ℕ) (bytes : List ℕ) (a b : ℕ) (cause other : DocWhy) → IsUtf8 bytes → Broken ps c at bytes a cause → Broken qs c at bytes b other → fault_of a cause ≡ fault_of b other
broken_one laws [] [] c at bytes a b cause other utf8 v w = rw (v.0, w.0, fault_at_one laws c bytes cause other utf8 v.1 w.1) refl
broken_one laws [] (q ∷ qs) c at bytes a b cause other utf8 v w = absurd (no_fault laws q c bytes w.0 cause utf8 w.1 w.2 v.1)
broken_one laws (p ∷ ps) [] c at bytes a b cause other utf8 v w = absurd (no_fault laws p c bytes v.0 other utf8 v.1 v.2 w.1)
broken_one laws (p ∷ ps) (q ∷ qs) c at bytes a b cause other utf8 v w =
    let same = same_place laws p q bytes v.0 w.0 utf8 v.1 w.1 in
    broken_one laws ps qs (after p c) (at + length v.1.front) v.0 a b cause other (laws.utf8 p bytes v.0 utf8 v.1) v.3 (subst (λ (x : PiecePlace). Broken qs (after x.piece c) (at + x.len) x.rest b other) (sym same) w.3)
