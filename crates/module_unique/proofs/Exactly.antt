-- Bytes tell a module exactly where they are the print of it.
use Rattle.std.proofs.Common.{◌≡◌, ℕ, ◌<◌, ◌^◌, Result, Ok, Err, List, length, refl, sym, subst, ◌∙◌}
use Rattle.std.specs.Prelude.{IsUtf8, IfOk, MatchResult}
use Rattle.asn_types.specs.declared.modules.Assignment.{Assignment}
use Rattle.module_print.specs.Printed.{printed}
use Rattle.module_text.specs.Grammar.{IsTextOf}
use Rattle.module_text.specs.declared.reasons.ModuleError.{ModuleError}
use Rattle.module_text.specs.declared.reasons.ModuleError.TheVariants as error
use Rattle.module_text.specs.ReadBack.{Answers}
use Rattle.module_read.specs.Tells.{Tells, OneAnswer}
use Rattle.module_unique.specs.Faultless.{IsFaultless, PrintableHasNoFault}
use Rattle.module_unique.specs.Utf8Texts.{HasTexts}
use Rattle.module_unique.specs.ToldExactly.{IsPrintOf, ToldExactly}
use Rattle.module_unique.proofs.PrintUtf8.{text_utf8}
use Rattle.module_unique.proofs.Utf8Meant.{texts_meant}

module _ (faultless : PrintableHasNoFault) (one : OneAnswer) where
  print_tells : (bytes : List ℕ) (M : List Assignment) → IsPrintOf bytes M → Tells bytes M
  print_tells bytes M is =
      let same : printed M ≡ bytes = is.back.text in
      let of : IsFaultless M = faultless M is.back.printable is.texts in
      record {
        utf8 = subst IsUtf8 (of.text.text ∙ same) (text_utf8 of.assignments of.text.plain of.none);
        assignments = of.assignments;
        text = subst (λ bs. IsTextOf bs of.assignments) same of.text;
        faultless = of.none;
        meant = sym (of.meant (subst (λ bs. length bs < 2 ^ 32) (sym same) is.few));
        back = is.back;
      }

  told_print : (bytes : List ℕ) (M : List Assignment) → length bytes < 2 ^ 32 → Tells bytes M → IsPrintOf bytes M
  told_print bytes M few t = record {
    few = few;
    back = t.back;
    texts = subst HasTexts (sym t.meant) (texts_meant t.assignments t.text.plain t.faultless (subst (λ bs. length bs < 2 ^ 32) (sym t.text.text) few));
  }

  answered : (bytes : List ℕ) (M : List Assignment) → IsPrintOf bytes M → (result : Result (List Assignment) ModuleError) → Answers bytes result → IfOk result (Tells bytes)
      → MatchResult result (λ N. N ≡ M) (λ e. e ≡ error.Memory)
  answered bytes M is (Ok N) answer told = one.module_is bytes N M told (print_tells bytes M is)
  answered bytes M is (Err error.Memory) answer told = refl
  answered bytes M is (Err (error.Bad at why)) answer told = absurd (one.either bytes M at why (print_tells bytes M is) answer)

  pub told_exactly : ToldExactly
  told_exactly = record { told = λ bytes M few. (told_print bytes M few, print_tells bytes M); answered = answered }
