-- The bytes that are read back to a module: exactly the prints of printable modules whose texts are UTF-8.
use Rattle.std.specs.Prelude.{◌≡◌, ℕ, ◌<◌, ◌^◌, ◌↔◌, Result, List, length, IfOk, MatchResult}
use Rattle.asn_types.specs.declared.modules.Assignment.{Assignment}
use Rattle.module_text.specs.declared.reasons.ModuleError.{ModuleError}
use Rattle.module_text.specs.declared.reasons.ModuleError.TheVariants.{Memory}
use Rattle.module_text.specs.ReadBack.{IsReadBack, Answers}
use Rattle.module_read.specs.Tells.{Tells}
use Rattle.module_unique.specs.Utf8Texts.{HasTexts}

-- The bytes, fewer than 2^32, are the print of a printable module whose texts are UTF-8.
pub record IsPrintOf (bytes : List ℕ) (M : List Assignment) : Type 0 where
  pub few : length bytes < 2 ^ 32
  pub back : IsReadBack bytes M
  pub texts : HasTexts M

-- Bytes state a module if and only if they are its print. What `read_module` promises for them is then the module, unless an
-- allocation fails.
pub record ToldExactly : Type 0 where
  pub told : (bytes : List ℕ) (M : List Assignment) → length bytes < 2 ^ 32 → Tells bytes M ↔ IsPrintOf bytes M
  pub answered : (bytes : List ℕ) (M : List Assignment) → IsPrintOf bytes M
      → (result : Result (List Assignment) ModuleError) → Answers bytes result → IfOk result (Tells bytes)
      → MatchResult result (λ N. N ≡ M) (λ error. error ≡ Memory)
