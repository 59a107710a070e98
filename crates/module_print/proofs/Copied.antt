-- Texts of which the stripped form is known, whatever stands behind them.
use Rattle.std.proofs.Common.{◌≡◌, ◌==◌, ℕ, Bool, true, false, not, ◌&&◌, List, [], ◌∷◌, ◌++◌, codes, refl, sym, ◌∙◌, ap, append_assoc}
use Rattle.std.specs.List.{list_all, flat_map}
use Rattle.module_print.specs.Notation.{doubled, quoted, listed}
use Rattle.module_print.specs.Instructions.{bracketed}
use Rattle.module_print.specs.declared.stripping.Within.TheVariants.{Module, Text, Instruction, Quotes}
use Rattle.module_print.specs.Names.{is_free, IsFree}
use Rattle.module_print.specs.Stripped.{stripped}

-- THE STRIPPED FORM of a text is another
pub record Copied (x y : List ℕ) : Type 0 where
  pub is : (rest : List ℕ) → stripped Module (x ++ rest) ≡ y ++ stripped Module rest

both : (p q : Bool) → (p && q) ≡ true → (p ≡ true) × (q ≡ true)
both true true e = (refl, refl)
both true false e = absurd (cc)
both false q e = absurd (cc)

no_second : (p q : Bool) → (p && false && q) ≡ true → ⊥
no_second true q e = cc
no_second false q e = cc

no_third : (p q : Bool) → (p && q && false) ≡ true → ⊥
no_third true true e = cc
no_third true false e = cc
no_third false true e = cc
no_third false false e = cc

no_first : (q : Bool) → (false && q) ≡ true → ⊥
no_first q e = cc

-- ---- what is left as it is

-- a free text,
same_go : (b : ℕ) (bs rest : List ℕ) (v w : Bool) → (b == 91) ≡ v → (b == 34) ≡ w → (not w && not v && not (b == 93)) ≡ true → stripped Module (bs ++ rest) ≡ bs ++ stripped Module rest
    → stripped Module (b ∷ bs ++ rest) ≡ b ∷ bs ++ stripped Module rest
same_go b bs rest false false e f free more = rw (e, f) (ap (λ l. b ∷ l) more)
same_go b bs rest false true e f free more = absurd (no_first (not (b == 93)) free)
same_go b bs rest true w e f free more = absurd (no_second (not w) (not (b == 93)) free)

same : (x rest : List ℕ) → IsFree x → stripped Module (x ++ rest) ≡ x ++ stripped Module rest
same [] rest free = refl
same (b ∷ bs) rest free =
    let parts = both (is_free b) (list_all is_free bs) free in
    same_go b bs rest (b == 91) (b == 34) refl refl parts.0 (same bs rest parts.1)

pub copied_free : (x : List ℕ) → IsFree x → Copied x x
copied_free x free = record { is = λ rest. same x rest free }

-- and one in quotation marks, whatever characters it has
text_go : (b : ℕ) (bs rest : List ℕ) (v : Bool) → (b == 34) ≡ v → stripped Text (bs ++ 34 ∷ rest) ≡ bs ++ 34 ∷ stripped Module rest
    → stripped Text ((doubled b ++ bs) ++ 34 ∷ rest) ≡ (doubled b ++ bs) ++ 34 ∷ stripped Module rest
text_go b bs rest true e more = rw e (ap (λ l. 34 ∷ 34 ∷ l) more)
text_go b bs rest false e more = rw (e, e) (ap (λ l. b ∷ l) more)

text : (characters rest : List ℕ) → stripped Text (flat_map doubled characters ++ 34 ∷ rest) ≡ flat_map doubled characters ++ 34 ∷ stripped Module rest
text [] rest = refl
text (b ∷ bs) rest = text_go b (flat_map doubled bs) rest (b == 34) refl (text bs rest)

pub copied_quoted : (characters : List ℕ) → Copied (quoted characters) (quoted characters)
copied_quoted characters = record {
  is = λ rest.
      ap (λ l. 34 ∷ stripped Text l) (append_assoc (flat_map doubled characters) (34 ∷ []) rest)
      ∙ ap (λ l. 34 ∷ l) (text characters rest ∙ sym (append_assoc (flat_map doubled characters) (34 ∷ []) (stripped Module rest)));
}

pub copied_nil : Copied [] []
copied_nil = record { is = λ rest. refl }

pub copied_append : {x y : List ℕ} (v w : List ℕ) → Copied x y → Copied v w → Copied (x ++ v) (y ++ w)
copied_append {x} {y} v w first second = record {
  is = λ rest.
      ap (stripped Module) (append_assoc x v rest) ∙ first.is (v ++ rest) ∙ ap (λ l. y ++ l) (second.is rest) ∙ sym (append_assoc y w (stripped Module rest));
}

-- ---- instructions

-- within an instruction a text is passed over
pub record Passed (x : List ℕ) : Type 0 where
  pub is : (rest : List ℕ) → stripped Instruction (x ++ rest) ≡ stripped Instruction rest

passed_go : (b : ℕ) (bs rest : List ℕ) (v w : Bool) → (b == 93) ≡ v → (b == 34) ≡ w → (not w && not (b == 91) && not v) ≡ true
    → stripped Instruction (bs ++ rest) ≡ stripped Instruction rest → stripped Instruction (b ∷ bs ++ rest) ≡ stripped Instruction rest
passed_go b bs rest false false e f free more = rw (e, f) more
passed_go b bs rest true w e f free more = absurd (no_third (not w) (not (b == 91)) free)
passed_go b bs rest false true e f free more = absurd (no_first (not (b == 91)) free)

passed_free_go : (x rest : List ℕ) → IsFree x → stripped Instruction (x ++ rest) ≡ stripped Instruction rest
passed_free_go [] rest free = refl
passed_free_go (b ∷ bs) rest free =
    let parts = both (is_free b) (list_all is_free bs) free in
    passed_go b bs rest (b == 93) (b == 34) refl refl parts.0 (passed_free_go bs rest parts.1)

pub passed_free : (x : List ℕ) → IsFree x → Passed x
passed_free x free = record { is = λ rest. passed_free_go x rest free }

pub passed_append : (x y : List ℕ) → Passed x → Passed y → Passed (x ++ y)
passed_append x y first second = record { is = λ rest. ap (stripped Instruction) (append_assoc x y rest) ∙ first.is (y ++ rest) ∙ second.is rest }

quotes_go : (b : ℕ) (bs rest : List ℕ) (v : Bool) → (b == 34) ≡ v → stripped Quotes (bs ++ rest) ≡ stripped Quotes rest
    → stripped Quotes (doubled b ++ bs ++ rest) ≡ stripped Quotes rest
quotes_go b bs rest true e more = rw e more
quotes_go b bs rest false e more = rw (e, e) more

quotes : (text rest : List ℕ) → stripped Quotes (flat_map doubled text ++ rest) ≡ stripped Quotes rest
quotes [] rest = refl
quotes (b ∷ bs) rest =
    ap (stripped Quotes) (append_assoc (doubled b) (flat_map doubled bs) rest)
    ∙ ap (stripped Quotes) (sym (append_assoc (doubled b) (flat_map doubled bs) rest))
    ∙ quotes_go b (flat_map doubled bs) rest (b == 34) refl (quotes bs rest)

pub passed_quoted : (text : List ℕ) → Passed (quoted text)
passed_quoted text = record { is = λ rest. ap (stripped Quotes) (append_assoc (flat_map doubled text) (34 ∷ []) rest) ∙ quotes text (34 ∷ rest) }

-- an instruction leaves nothing
pub copied_bracketed : (x : List ℕ) → Passed x → Copied (bracketed x) []
copied_bracketed x passed = record { is = λ rest. ap (stripped Instruction) (append_assoc x (codes "] ") rest) ∙ passed.is (codes "] " ++ rest) }

-- ---- lists

pub copied_flat_map : {A : Type 0} (f : A → List ℕ) (xs : List A) → ((x : A) → Copied (f x) []) → Copied (flat_map f xs) []
copied_flat_map f [] each = copied_nil
copied_flat_map f (x ∷ xs) each = copied_append (flat_map f xs) [] (each x) (copied_flat_map f xs each)

-- texts one by one
abbrev pub AllCopied : List (List ℕ) → List (List ℕ) → Type 0
AllCopied [] [] = Unit {0}
AllCopied (x ∷ xs) (y ∷ ys) = Copied x y × AllCopied xs ys
AllCopied _ _ = ⊥

pub copied_listed : (before : List ℕ) (xs ys : List (List ℕ)) → IsFree before → AllCopied xs ys → Copied (listed before xs) (listed before ys)
copied_listed before [] [] free all = copied_nil
copied_listed before (x ∷ []) (y ∷ []) free all = copied_append x y (copied_free before free) all.0
copied_listed before (x ∷ v ∷ xs) (y ∷ w ∷ ys) free all =
    copied_append (44 ∷ listed before (v ∷ xs)) (44 ∷ listed before (w ∷ ys)) (copied_append x y (copied_free before free) all.0)
    (copied_append (listed before (v ∷ xs)) (listed before (w ∷ ys)) (copied_free (44 ∷ []) refl) (copied_listed before (v ∷ xs) (w ∷ ys) free all.1))
copied_listed before [] (y ∷ ys) free all = absurd all
copied_listed before (x ∷ xs) [] free all = absurd all
copied_listed before (x ∷ []) (y ∷ w ∷ ys) free all = absurd all.1
copied_listed before (x ∷ v ∷ xs) (y ∷ []) free all = absurd all.1

pub copied_concat : (xs ys : List (List ℕ)) → AllCopied xs ys → Copied (flat_map (λ part. part) xs) (flat_map (λ part. part) ys)
copied_concat [] [] all = copied_nil
copied_concat (x ∷ xs) (y ∷ ys) all = copied_append (flat_map (λ part. part) xs) (flat_map (λ part. part) ys) all.0 (copied_concat xs ys all.1)
copied_concat [] (y ∷ ys) all = absurd all
copied_concat (x ∷ xs) [] all = absurd all
