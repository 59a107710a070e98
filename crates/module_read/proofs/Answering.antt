-- What is read of a text, from what its parts say.
use Rattle.std.proofs.Common.{◌≡◌, ℕ, ◌≤◌, ◌<◌, ◌^◌, Option, Some, None, List, [], ◌∷◌, length, refl, sym, ap, ◌∙◌, subst, arith, Result, Ok, Err}
use Rattle.std.specs.Prelude.{IsUtf8, IfOk, MatchResult}
use Rattle.asn_types.specs.Modules.{IsModule}
use Rattle.asn_types.specs.declared.modules.Assignment.{Assignment}
use Rattle.module_text.specs.declared.modules.PlainAssignment.{PlainAssignment}
use Rattle.module_text.specs.Texts.{text_of}
use Rattle.module_text.specs.Grammar.{IsTextOf}
use Rattle.module_text.specs.declared.reasons.TextFault.{TextFault}
use Rattle.module_text.specs.declared.reasons.ModuleError.{ModuleError}
use Rattle.module_text.specs.Listed.{first}
use Rattle.module_text.specs.Faults.{faults}
use Rattle.module_text.specs.Meaning.{module_meant}
use Rattle.module_text.specs.ReadBack.{IsReadBack, IsBadAt, IsErrorOf, Answers}
use Rattle.module_laws.specs.Laws.{LeastIsFirst, NoFaultIsPrintable}
use Rattle.module_read.specs.Tells.{Tells}
use Rattle.module_read.proofs.OfTexts.{AreOfText, OfText, bad_text, faults_are, first_is}

-- ---- a text without a fault

pub none_first : (fs : List TextFault) → None ≡ first fs → fs ≡ []
unfolding first
none_first [] e = refl
none_first (f ∷ fs) e = absurd (cc)

pub few_bytes : (P : List PlainAssignment) → length (text_of P) ≤ 16777216 → length (text_of P) < 2 ^ 32
few_bytes P few = omega (arith, few)

module _ (printable : NoFaultIsPrintable) (P : List PlainAssignment) (few : length (text_of P) ≤ 16777216) (is : IsTextOf (text_of P) P) (none : faults P ≡ []) (M : List Assignment) (e : M ≡ module_meant P) where
  pub made_back : IsReadBack (text_of P) M
  made_back = subst (λ N. IsReadBack (text_of P) N) (sym e) (printable (text_of P) P (few_bytes P few) is none)

  pub made_module : IsModule M
  made_module = made_back.printable.sound

  pub made_tells : IsUtf8 (text_of P) → Tells (text_of P) M
  made_tells utf8 = record { utf8 = utf8; assignments = P; text = is; faultless = none; meant = e; back = made_back }

-- ---- the first fault

first_kind : (fs : List TextFault) (f : TextFault) → Some f ≡ first fs → AreOfText fs → OfText f.why
unfolding first
first_kind [] f e are = absurd (cc)
first_kind (g ∷ gs) f e are =
    let same : g ≡ f = cc in
    subst (λ (h : TextFault). OfText h.why) same (first_is g gs are)

pub first_bad : LeastIsFirst → (P : List PlainAssignment) → IsUtf8 (text_of P) → IsTextOf (text_of P) P → (f : TextFault) → Some f ≡ first (faults P)
    → IsBadAt (text_of P) f.at f.why
first_bad least P utf8 is f e =
    bad_text (text_of P) f.at f.why (first_kind (faults P) f e (faults_are P)) utf8 (record { assignments = P; is = is; first = (least (text_of P) P is f).0 (sym e) })

-- ---- bytes

pub of_bytes : (bytes : List ℕ) (P : List PlainAssignment) (result : Result (List Assignment) ModuleError) → IsTextOf bytes P
    → MatchResult result (Tells (text_of P)) (IsErrorOf (text_of P)) → MatchResult result (Tells bytes) (IsErrorOf bytes)
of_bytes bytes P result is told = subst (λ bs. MatchResult result (Tells bs) (IsErrorOf bs)) is.text told

pub own_text : (bytes : List ℕ) (P : List PlainAssignment) → IsTextOf bytes P → IsTextOf (text_of P) P
own_text bytes P is = subst (λ bs. IsTextOf bs P) (sym is.text) is

pub own_utf8 : (bytes : List ℕ) (P : List PlainAssignment) → IsTextOf bytes P → IsUtf8 bytes → IsUtf8 (text_of P)
own_utf8 bytes P is utf8 = subst IsUtf8 (sym is.text) utf8

pub own_length : (bytes : List ℕ) (P : List PlainAssignment) → IsTextOf bytes P → length bytes ≤ 16777216 → length (text_of P) ≤ 16777216
own_length bytes P is few = subst (λ bs. length bs ≤ 16777216) (sym is.text) few

pub as_answer : (bytes : List ℕ) (result : Result (List Assignment) ModuleError) → MatchResult result (Tells bytes) (IsErrorOf bytes) → Answers bytes result
as_answer bytes (Ok M) told = told.back
as_answer bytes (Err e) told = told

pub as_told : (bytes : List ℕ) (result : Result (List Assignment) ModuleError) → MatchResult result (Tells bytes) (IsErrorOf bytes) → IfOk result (Tells bytes)
as_told bytes (Ok M) told = told
as_told bytes (Err e) told = tt
