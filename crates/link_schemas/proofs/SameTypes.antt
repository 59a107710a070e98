-- Of two types it can be told whether they are one.
use Rattle.std.proofs.Common.{◌≡◌, ℕ, ◌⊎◌, inl, inr, refl, sym, ap, ◌∙◌, Option, Some, None}
use Rattle.std.specs.Prelude.{nat_eq, if◌then◌else◌}
use Rattle.std.proofs.lemmas.Bool.{cases_Bool, cases_eq, true≢false}
use Rattle.base_texts.specs.declared.texts.Name.{Name}
use Rattle.base_texts.specs.Names.{name_eq}
use Rattle.base_texts.proofs.NameLaws.{name_eq-Decides}
use Rattle.simple_types.specs.declared.simples.Builtin.{Builtin}
use Rattle.simple_types.specs.declared.simples.Builtin.TheVariants as builtin
use Rattle.link_names.specs.declared.places.Place.{Place}
use Rattle.link_complex.specs.ElementTypes.{TypeIdentity, BuiltIn, ByName, InPlace}

abbrev pub Told : Type 0 → Type 0
Told P = P ⊎ (P → ⊥)

-- whether two types are one

number_of : Builtin → ℕ
number_of builtin.Boolean = 0
number_of builtin.Byte = 1
number_of builtin.Short = 2
number_of builtin.Int = 3
number_of builtin.Long = 4
number_of builtin.UnsignedByte = 5
number_of builtin.UnsignedShort = 6
number_of builtin.UnsignedInt = 7
number_of builtin.UnsignedLong = 8
number_of builtin.Integer = 9
number_of builtin.NonNegativeInteger = 10
number_of builtin.PositiveInteger = 11
number_of builtin.NonPositiveInteger = 12
number_of builtin.NegativeInteger = 13
number_of builtin.String = 14
number_of builtin.NormalizedString = 15
number_of builtin.Token = 16
number_of builtin.AnyUri = 17
number_of builtin.Language = 18
number_of builtin.NmToken = 19
number_of builtin.Name = 20
number_of builtin.NcName = 21
number_of builtin.NmTokens = 22

abbrev builtin_at : ℕ → Builtin
builtin_at n =
    if nat_eq n 0 then builtin.Boolean else if nat_eq n 1 then builtin.Byte else if nat_eq n 2 then builtin.Short else if nat_eq n 3 then builtin.Int
    else if nat_eq n 4 then builtin.Long else if nat_eq n 5 then builtin.UnsignedByte else if nat_eq n 6 then builtin.UnsignedShort
    else if nat_eq n 7 then builtin.UnsignedInt else if nat_eq n 8 then builtin.UnsignedLong else if nat_eq n 9 then builtin.Integer
    else if nat_eq n 10 then builtin.NonNegativeInteger else if nat_eq n 11 then builtin.PositiveInteger else if nat_eq n 12 then builtin.NonPositiveInteger
    else if nat_eq n 13 then builtin.NegativeInteger else if nat_eq n 14 then builtin.String else if nat_eq n 15 then builtin.NormalizedString
    else if nat_eq n 16 then builtin.Token else if nat_eq n 17 then builtin.AnyUri else if nat_eq n 18 then builtin.Language
    else if nat_eq n 19 then builtin.NmToken else if nat_eq n 20 then builtin.Name else if nat_eq n 21 then builtin.NcName else builtin.NmTokens

builtin_of : (b : Builtin) → builtin_at (number_of b) ≡ b
unfolding number_of
builtin_of builtin.Boolean = refl
builtin_of builtin.Byte = refl
builtin_of builtin.Short = refl
builtin_of builtin.Int = refl
builtin_of builtin.Long = refl
builtin_of builtin.UnsignedByte = refl
builtin_of builtin.UnsignedShort = refl
builtin_of builtin.UnsignedInt = refl
builtin_of builtin.UnsignedLong = refl
builtin_of builtin.Integer = refl
builtin_of builtin.NonNegativeInteger = refl
builtin_of builtin.PositiveInteger = refl
builtin_of builtin.NonPositiveInteger = refl
builtin_of builtin.NegativeInteger = refl
builtin_of builtin.String = refl
builtin_of builtin.NormalizedString = refl
builtin_of builtin.Token = refl
builtin_of builtin.AnyUri = refl
builtin_of builtin.Language = refl
builtin_of builtin.NmToken = refl
builtin_of builtin.Name = refl
builtin_of builtin.NcName = refl
builtin_of builtin.NmTokens = refl

same_builtin : (a b : Builtin) → Told (a ≡ b)
same_builtin a b = elim (cases_eq (number_of a) (number_of b)) [
  | inl same ↦ inl (sym (builtin_of a) ∙ ap builtin_at same ∙ builtin_of b)
  | inr apart ↦ inr (λ e. apart (ap number_of e))
]

pub same_name : (a b : Name) → Told (a ≡ b)
same_name a b = elim (cases_Bool (name_eq a b)) [
  | inl e ↦ inl ((name_eq-Decides a b).0 e)
  | inr e ↦ inr (λ same. true≢false (sym ((name_eq-Decides a b).1 same) ∙ e))
]

same_place : (a b : Place) → Told (a ≡ b)
same_place a b = elim (cases_eq a.file b.file) [
  | inr apart ↦ inr (λ e. apart (ap (λ (p : Place). p.file) e))
  | inl file ↦ elim (cases_eq a.at b.at) [
    | inr apart ↦ inr (λ e. apart (ap (λ (p : Place). p.at) e))
    | inl at ↦ inl (λ i. record { file = file i; at = at i })
  ]
]

told_of : {A B : Type 0} (f : A → B) (a b : A) → (f a ≡ f b → a ≡ b) → Told (a ≡ b) → Told (f a ≡ f b)
told_of f a b back (inl e) = inl (ap f e)
told_of f a b back (inr n) = inr (λ e. n (back e))

same_type : (k l : TypeIdentity) → Told (k ≡ l)
same_type (BuiltIn a) (BuiltIn b) = told_of BuiltIn a b (λ e. cc) (same_builtin a b)
same_type (ByName a) (ByName b) = told_of ByName a b (λ e. cc) (same_name a b)
same_type (InPlace a) (InPlace b) = told_of InPlace a b (λ e. cc) (same_place a b)
same_type (BuiltIn a) (ByName b) = inr (λ e. cc)
same_type (BuiltIn a) (InPlace b) = inr (λ e. cc)
same_type (ByName a) (BuiltIn b) = inr (λ e. cc)
same_type (ByName a) (InPlace b) = inr (λ e. cc)
same_type (InPlace a) (BuiltIn b) = inr (λ e. cc)
same_type (InPlace a) (ByName b) = inr (λ e. cc)

pub same_kind : (k l : Option TypeIdentity) → Told (k ≡ l)
same_kind None None = inl refl
same_kind None (Some l) = inr (λ e. cc)
same_kind (Some k) None = inr (λ e. cc)
same_kind (Some k) (Some l) = told_of (λ (x : TypeIdentity). Some x) k l (λ e. cc) (same_type k l)
