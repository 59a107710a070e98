-- What stands before the local part of a name.
use Rattle.std.proofs.Common.{◌≡◌, ℕ, ◌+◌, ◌<◌, Bool, true, false, cond, List, [], ◌∷◌, ◌++◌, refl, ap, ◌∙◌, append_assoc}
use Rattle.std.specs.Prelude.{Result, Ok, Err, OnOk, is_ok, if◌then◌else◌, codes, decimal}
use Rattle.std.proofs.lemmas.Fmt.{decimal_digit}
use Rattle.base_texts.specs.declared.texts.Name.{Name}
use Rattle.base_texts.specs.Limits.{is_empty}
use Rattle.xml_write.specs.Spaces.{prefix_for}
use Rattle.xml_write.specs.Written.{written_name}
use Rattle.xml_write.specs.declared.prefixes.Qualifier.{Qualifier}
use Rattle.xml_write.specs.Private.Binding.{qualifier_text, before_local, named}

named-by : (b : Bool) (prefix local : List ℕ) → cond b [] (prefix ++ 58 ∷ []) ++ local ≡ cond b local (prefix ++ 58 ∷ local)
named-by true prefix local = refl
named-by false prefix local = append_assoc prefix (58 ∷ []) local

pub named-written : (table : List (List ℕ × List ℕ)) (q : Qualifier) (name : Name) → qualifier_text q ≡ before_local table name.space → named q name ≡ written_name table name
named-written table q name e = ap (λ (s : List ℕ). s ++ name.local) e ∙ named-by (is_empty name.space) (prefix_for table name.space) name.local

-- a prefix of one digit
pub one-digit : (n : ℕ) → n < 10 → 110 ∷ (48 + n) ∷ 58 ∷ [] ≡ (codes "n" ++ decimal n) ++ 58 ∷ []
one-digit n few = rw (decimal_digit n few) refl

pub attribute-regroup : (old name value : List ℕ) → ((old ++ 32 ∷ []) ++ name) ++ value ≡ old ++ (32 ∷ name ++ value)
attribute-regroup old name value = simp append_assoc

-- what was appended
pub extended : {A E : Type 0} (r : Result A E) (old other text new : List ℕ) → new ≡ (if is_ok r then old ++ other else old) → other ≡ text → OnOk r (new ≡ old ++ text)
extended (Ok a) old other text new e same = e ∙ ap (λ (s : List ℕ). old ++ s) same
extended (Err x) old other text new e same = tt
