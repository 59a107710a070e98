-- What bytes are, as one answer.
use Rattle.std.proofs.Common.{◌≡◌, ◌⊎◌, ℕ, ◌≤◌, Bool, true, false, Option, Some, None, List, [], ◌∷◌, length, refl, sym, ap, ◌∙◌, subst, inl, inr, arith}
use Rattle.std.specs.Prelude.{IsUtf8}
use Rattle.std.specs.Str.{is_utf8}
use Rattle.std.specs.Str.Lossy.{utf8_valid_len}
use Rattle.std.proofs.lemmas.Str.{utf8_valid_len-IsValidUpTo, IsUtf8-from_is_utf8, is_utf8-from_IsUtf8}
use Rattle.asn_types.specs.declared.modules.Assignment.{Assignment}
use Rattle.module_grammar.specs.Verdicts.{Verdict, Read, Syntax, TooDeep}
use Rattle.module_text.specs.declared.modules.PlainAssignment.{PlainAssignment}
use Rattle.module_text.specs.Plain.{limit}
use Rattle.module_text.specs.Grammar.{IsTextOf}
use Rattle.module_grammar.specs.ModulesRead.{module_verdict}
use Rattle.module_grammar.specs.TextsRead.{AllTextsRead}
use Rattle.module_text.specs.declared.reasons.ModuleWhy.{ModuleWhy}
use Rattle.module_text.specs.declared.reasons.ModuleWhy.TheVariants as why
use Rattle.module_text.specs.declared.reasons.TextFault.{TextFault}
use Rattle.module_text.specs.Listed.{fault, first}
use Rattle.module_text.specs.Faults.{faults}
use Rattle.module_text.specs.Meaning.{module_meant}
use Rattle.module_text.specs.ReadBack.{HasFault, IsBadAt}
use Rattle.module_laws.specs.Laws.{LeastIsFirst, NoFaultIsPrintable}
use Rattle.module_read.specs.Tells.{Tells, OneAnswer, SomeAnswer}
use Rattle.module_read.proofs.OfTexts.{AreOfText, bad_text, faults_are, first_is}

-- the first fault
abbrev fault_of : Verdict (List PlainAssignment) → Option TextFault
fault_of (Read P) = first (faults P)
fault_of (Syntax n) = Some (fault n why.Syntax)
fault_of (TooDeep n) = Some (fault n why.TooDeep)

abbrev due : Bool → List ℕ → Option TextFault
due true bytes = fault_of (module_verdict limit bytes)
due false bytes = Some (fault (utf8_valid_len bytes) why.NotUtf8)

not_utf8 : (bytes : List ℕ) → (IsUtf8 bytes → ⊥) → is_utf8 bytes ≡ false
not_utf8 bytes bad = elim (is_utf8 bytes) as (λ (b : Bool). is_utf8 bytes ≡ b → is_utf8 bytes ≡ false) [
  | true ↦ (λ e. absurd (bad (IsUtf8-from_is_utf8 bytes e)))
  | false ↦ (λ e. e)
] refl

by_utf8 : (bytes : List ℕ) → IsUtf8 bytes → due (is_utf8 bytes) bytes ≡ fault_of (module_verdict limit bytes)
by_utf8 bytes utf8 = ap (λ (b : Bool). due b bytes) (is_utf8-from_IsUtf8 bytes utf8)

nothing_first : (fs : List TextFault) → fs ≡ [] → first fs ≡ None
unfolding first
nothing_first fs e = ap first e

first_first : (fs : List TextFault) (f : TextFault) (others : List TextFault) → fs ≡ f ∷ others → first fs ≡ Some f
unfolding first
first_first fs f others e = ap first e

some_is : (f g : TextFault) → Some f ≡ Some g → f ≡ g
some_is f g e = cc

same_text : (P Q : List PlainAssignment) (v : Verdict (List PlainAssignment)) → v ≡ Read P → v ≡ Read Q → P ≡ Q
same_text P Q v e f = let g : Read P ≡ Read Q = sym e ∙ f in cc

module _ (texts : AllTextsRead) (least : LeastIsFirst) where
  is_read : (bytes : List ℕ) (P : List PlainAssignment) → IsTextOf bytes P → module_verdict limit bytes ≡ Read P
  is_read bytes P is = ((texts limit refl).texts bytes P).1 is

  has_due : (bytes : List ℕ) (at : ℕ) (reason : ModuleWhy) → IsUtf8 bytes → HasFault bytes at reason → due (is_utf8 bytes) bytes ≡ Some (fault at reason)
  has_due bytes at reason utf8 h =
      by_utf8 bytes utf8 ∙ ap fault_of (is_read bytes h.assignments h.is) ∙ (least bytes h.assignments h.is (fault at reason)).1 h.first

  bad_due : (bytes : List ℕ) (at : ℕ) (reason : ModuleWhy) → IsBadAt bytes at reason → due (is_utf8 bytes) bytes ≡ Some (fault at reason)
  bad_due bytes at why.NotUtf8 (bad, front) =
      ap (λ (b : Bool). due b bytes) (not_utf8 bytes bad) ∙ ap (λ (n : ℕ). Some (fault n why.NotUtf8)) (utf8_valid_len-IsValidUpTo bytes at front)
  bad_due bytes at why.Syntax (utf8, broken) = by_utf8 bytes utf8 ∙ ap fault_of (((texts limit refl).broken bytes at).1 broken)
  bad_due bytes at why.TooDeep (utf8, deep) = by_utf8 bytes utf8 ∙ ap fault_of (((texts limit refl).deep bytes at).1 deep)
  bad_due bytes at why.Duplicate (utf8, h) = has_due bytes at why.Duplicate utf8 h
  bad_due bytes at why.Unresolved (utf8, h) = has_due bytes at why.Unresolved utf8 h
  bad_due bytes at why.LongChain (utf8, h) = has_due bytes at why.LongChain utf8 h
  bad_due bytes at why.Spelling (utf8, h) = has_due bytes at why.Spelling utf8 h

  none_due : (bytes : List ℕ) (M : List Assignment) → Tells bytes M → due (is_utf8 bytes) bytes ≡ None
  none_due bytes M t =
      by_utf8 bytes t.utf8 ∙ ap fault_of (is_read bytes t.assignments t.text) ∙ nothing_first (faults t.assignments) t.faultless

  one_module : (bytes : List ℕ) (M N : List Assignment) → Tells bytes M → Tells bytes N → M ≡ N
  one_module bytes M N t u =
      let same = same_text t.assignments u.assignments (module_verdict limit bytes) (is_read bytes t.assignments t.text) (is_read bytes u.assignments u.text) in
      t.meant ∙ ap module_meant same ∙ sym u.meant

  not_both : (bytes : List ℕ) (M : List Assignment) (at : ℕ) (reason : ModuleWhy) → Tells bytes M → IsBadAt bytes at reason → ⊥
  not_both bytes M at reason t bad = let e : None ≡ Some (fault at reason) = sym (none_due bytes M t) ∙ bad_due bytes at reason bad in cc

  one_fault : (bytes : List ℕ) (m n : ℕ) (v w : ModuleWhy) → IsBadAt bytes m v → IsBadAt bytes n w → (m ≡ n) × (v ≡ w)
  one_fault bytes m n v w bad other =
      let same = some_is (fault m v) (fault n w) (sym (bad_due bytes m v bad) ∙ bad_due bytes n w other) in
      (ap (λ (f : TextFault). f.at) same, ap (λ (f : TextFault). f.why) same)

  pub one_of_all : OneAnswer
  one_of_all = record { module_is = one_module; either = not_both; fault_is = one_fault }

  module _ (printable : NoFaultIsPrintable) where
    abbrev IsOf : List ℕ → Type 0
    IsOf bytes = ((M : List Assignment) × Tells bytes M) ⊎ ((at : ℕ) × (reason : ModuleWhy) × IsBadAt bytes at reason)

    of_faults : (bytes : List ℕ) → length bytes ≤ 16777216 → IsUtf8 bytes → (P : List PlainAssignment) → IsTextOf bytes P → (fs : List TextFault) → faults P ≡ fs → IsOf bytes
    of_faults bytes few utf8 P is [] e =
        inl (module_meant P, record { utf8 = utf8; assignments = P; text = is; faultless = e; meant = refl; back = printable bytes P (omega (arith, few)) is e })
    of_faults bytes few utf8 P is (f ∷ fs) e =
        let of = first_is f fs (subst AreOfText e (faults_are P)) in
        inr (f.at, f.why, bad_text bytes f.at f.why of utf8 (record { assignments = P; is = is; first = (least bytes P is f).0 (first_first (faults P) f fs e) }))

    of_verdict : (bytes : List ℕ) → length bytes ≤ 16777216 → IsUtf8 bytes → (v : Verdict (List PlainAssignment)) → module_verdict limit bytes ≡ v → IsOf bytes
    of_verdict bytes few utf8 (Read P) e = of_faults bytes few utf8 P (((texts limit refl).texts bytes P).0 e) (faults P) refl
    of_verdict bytes few utf8 (Syntax n) e = inr (n, why.Syntax, (utf8, ((texts limit refl).broken bytes n).0 e))
    of_verdict bytes few utf8 (TooDeep n) e = inr (n, why.TooDeep, (utf8, ((texts limit refl).deep bytes n).0 e))

    pub some_of_all : SomeAnswer
    some_of_all bytes few utf8 = of_verdict bytes few utf8 (module_verdict limit bytes) refl
