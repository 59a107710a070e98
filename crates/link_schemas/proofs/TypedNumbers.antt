-- The numbers of types that the components of documents without a fault name are those of types.
use Rattle.std.proofs.Common.{◌≡◌, ℕ, ◌+◌, ◌<◌, arith, Bool, true, ◌⊎◌, inl, inr, List, [], ◌∷◌, length, map, Option, Some, None, refl, sym, ap, ◌∙◌, subst}
use Rattle.std.specs.List.{position_from}
use Rattle.std.proofs.lemmas.Bool.{eq-eqb}
use Rattle.std.proofs.lemmas.List.{length-map}
use Rattle.std.proofs.lemmas.Option.{slice_get_within}
use Rattle.base_texts.specs.declared.texts.Name.{Name}
use Rattle.base_texts.specs.Lists.{HasItem}
use Rattle.base_texts.proofs.NameLaws.{name_eq-Decides}
use Rattle.simple_types.specs.declared.simples.Builtin.{Builtin}
use Rattle.simple_types.specs.declared.simples.Builtin.TheVariants as builtin
use Rattle.schema_components.specs.declared.components.TypeOf.{TypeOf}
use Rattle.schema_components.specs.declared.components.TypeOf.TheVariants as type
use Rattle.schema_components.specs.declared.simple_definitions.RawRef.{RawRef}
use Rattle.schema_components.specs.declared.simple_definitions.RawRef.TheVariants as reference
use Rattle.schema_components.specs.Raw.{Base, Named, Inner, Complex, Kind, NamedKind, SimpleKind, ComplexKind, Document}
use Rattle.link_names.specs.Parts as what
use Rattle.link_names.specs.Parts.{Part, part, simple as simple_body, in_base, in_kind, parts}
use Rattle.link_names.specs.declared.parts.TypeRole.{TypeRole}
use Rattle.link_names.specs.declared.parts.TypeRole.TheVariants as role
use Rattle.link_names.specs.declared.faults.LinkingFault.{LinkingFault}
use Rattle.link_names.specs.Order.{place}
use Rattle.link_names.specs.References.{need_of, mention}
use Rattle.link_names.specs.Resolution.{names_in, wrong, unresolved}
use Rattle.link_names.specs.SimpleTypes as simple
use Rattle.link_names.specs.SimpleTypes.{SimpleDefinition, simple_types}
use Rattle.link_complex.specs.ComplexTypes as complex
use Rattle.link_complex.specs.ComplexTypes.{ComplexDefinition, complex_types}
use Rattle.link_set.specs.Builtins.{all_builtins, rank, is_builtin, is_among, used_builtins}
use Rattle.link_set.specs.NamedBuiltins as named
use Rattle.link_set.specs.Numbering.{ComponentNumbers, NamedPlace, simple_entry, complex_entry, is_called, has_name, stands_at, number_named, number_placed, numbers_in}
use Rattle.link_set.specs.Sets.{or_zero, simple_or_complex, type_of_reference, type_of_kind, simple_of_reference, simple_of_base}
use Rattle.link_set.specs.Written.{Lists, lists_of, simple_before, complex_before}
use Rattle.link_schemas.proofs.GlobalLists.{by_documents}
use Rattle.link_schemas.proofs.InOrder.{item_in_order}
use Rattle.link_schemas.proofs.Items.{in_flat, in_mapped, has_kept, any_passes, found_at, some_position}
use Rattle.link_schemas.proofs.OncePlaced.{at_itself}
use Rattle.link_schemas.proofs.ResolvedNames.{right, IsSimpleNamed, IsComplexNamed, type_named, simple_named}

-- ---- numbers in lists

pub position_within : {A : Type 0} (p : A → Bool) (n : ℕ) (xs : List A) (m : ℕ) → position_from p n xs ≡ Some m → m < n + length xs
position_within p n xs m is =
    let at = found_at p n xs m is in
    let k = at.number in
    let lt = slice_get_within xs at.index at.item at.there in
    omega (arith, k, lt)

called : (o : Option Name) (a : Name) → o ≡ Some a → is_called o a ≡ true
called None a e = absurd cc
called (Some b) a e = (name_eq-Decides b a).1 (let same : b ≡ a = cc in same)

-- a number below this, where the item is there
module _ {A : Type 0} (entry_of : A → NamedPlace) (xs : List A) where
  pub named_there : (x : A) (a : Name) → HasItem xs x → (entry_of x).name ≡ Some a → (m : ℕ) × (number_named 0 (map entry_of xs) a ≡ Some m) × (m < length xs)
  named_there x a h e =
      let at = some_position (has_name a) 0 (map entry_of xs) (entry_of x) (in_mapped entry_of xs x h) (called (entry_of x).name a e) in
      (at.0, at.1, let lt = position_within (has_name a) 0 (map entry_of xs) at.0 at.1 in let same = length-map xs entry_of in omega (arith, lt, same))

  pub placed_there : (x : A) → HasItem xs x → (m : ℕ) × (number_placed 0 (map entry_of xs) (entry_of x).place ≡ Some m) × (m < length xs)
  placed_there x h =
      let at = some_position (stands_at (entry_of x).place) 0 (map entry_of xs) (entry_of x) (in_mapped entry_of xs x h) (at_itself (entry_of x).place) in
      (at.0, at.1, let lt = position_within (stands_at (entry_of x).place) 0 (map entry_of xs) at.0 at.1 in let same = length-map xs entry_of in omega (arith, lt, same))

  pub named_within : (a : Name) (m : ℕ) → number_named 0 (map entry_of xs) a ≡ Some m → m < length xs
  named_within a m e = let lt = position_within (has_name a) 0 (map entry_of xs) m e in let same = length-map xs entry_of in omega (arith, lt, same)

-- ---- the types of a set

module _ (docs : List Document) where
  abbrev pub lists : Lists
  lists = lists_of docs

  abbrev pub numbers : ComponentNumbers
  numbers = numbers_in (lists_of docs)

  abbrev pub simple_count : ℕ
  simple_count = length (lists_of docs).simples + length (used_builtins (lists_of docs))

  abbrev pub IsTypeNumber : TypeOf → Type 0
  IsTypeNumber (type.Simple n) = n < simple_count
  IsTypeNumber (type.Complex n) = n < length (lists_of docs).complexes

all_there : (b : Builtin) → HasItem all_builtins b
all_there builtin.Boolean = inl refl
all_there builtin.Byte = inr (inl refl)
all_there builtin.Short = inr (inr (inl refl))
all_there builtin.Int = inr (inr (inr (inl refl)))
all_there builtin.Long = inr (inr (inr (inr (inl refl))))
all_there builtin.UnsignedByte = inr (inr (inr (inr (inr (inl refl)))))
all_there builtin.UnsignedShort = inr (inr (inr (inr (inr (inr (inl refl))))))
all_there builtin.UnsignedInt = inr (inr (inr (inr (inr (inr (inr (inl refl)))))))
all_there builtin.UnsignedLong = inr (inr (inr (inr (inr (inr (inr (inr (inl refl))))))))
all_there builtin.Integer = inr (inr (inr (inr (inr (inr (inr (inr (inr (inl refl)))))))))
all_there builtin.NonNegativeInteger = inr (inr (inr (inr (inr (inr (inr (inr (inr (inr (inl refl))))))))))
all_there builtin.PositiveInteger = inr (inr (inr (inr (inr (inr (inr (inr (inr (inr (inr (inl refl)))))))))))
all_there builtin.NonPositiveInteger = inr (inr (inr (inr (inr (inr (inr (inr (inr (inr (inr (inr (inl refl))))))))))))
all_there builtin.NegativeInteger = inr (inr (inr (inr (inr (inr (inr (inr (inr (inr (inr (inr (inr (inl refl)))))))))))))
all_there builtin.String = inr (inr (inr (inr (inr (inr (inr (inr (inr (inr (inr (inr (inr (inr (inl refl))))))))))))))
all_there builtin.NormalizedString = inr (inr (inr (inr (inr (inr (inr (inr (inr (inr (inr (inr (inr (inr (inr (inl refl)))))))))))))))
all_there builtin.Token = inr (inr (inr (inr (inr (inr (inr (inr (inr (inr (inr (inr (inr (inr (inr (inr (inl refl))))))))))))))))
all_there builtin.AnyUri = inr (inr (inr (inr (inr (inr (inr (inr (inr (inr (inr (inr (inr (inr (inr (inr (inr (inl refl)))))))))))))))))
all_there builtin.Language = inr (inr (inr (inr (inr (inr (inr (inr (inr (inr (inr (inr (inr (inr (inr (inr (inr (inr (inl refl))))))))))))))))))
all_there builtin.NmToken = inr (inr (inr (inr (inr (inr (inr (inr (inr (inr (inr (inr (inr (inr (inr (inr (inr (inr (inr (inl refl)))))))))))))))))))
all_there builtin.Name = inr (inr (inr (inr (inr (inr (inr (inr (inr (inr (inr (inr (inr (inr (inr (inr (inr (inr (inr (inr (inl refl))))))))))))))))))))
all_there builtin.NcName = inr (inr (inr (inr (inr (inr (inr (inr (inr (inr (inr (inr (inr (inr (inr (inr (inr (inr (inr (inr (inr (inl refl)))))))))))))))))))))
all_there builtin.NmTokens = inr (inr (inr (inr (inr (inr (inr (inr (inr (inr (inr (inr (inr (inr (inr (inr (inr (inr (inr (inr (inr (inr (inl refl))))))))))))))))))))))

module _ (docs : List Document) (resolved : (f : LinkingFault) → HasItem (unresolved docs) f → ⊥) where
  builtin_number : (b : Builtin) → HasItem (named.named_builtins docs) b → or_zero ((numbers docs).builtins b) < simple_count docs
  builtin_number b h =
      let ls = lists_of docs in
      let itself = eq-eqb (rank b) (rank b) refl in
      let used = has_kept (is_among ls.named) all_builtins b (all_there b) (any_passes (is_builtin b) ls.named b h itself) in
      let at = some_position (is_builtin b) (length ls.simples) (used_builtins ls) b used itself in
      let lt = position_within (is_builtin b) (length ls.simples) (used_builtins ls) at.0 at.1 in
      let same : or_zero ((numbers docs).builtins b) ≡ at.0 = ap or_zero at.1 in
      omega (arith, lt, same)

  simple_there : (a : Name) → IsSimpleNamed docs a → or_zero ((numbers docs).simples.named a) < simple_count docs
  simple_there a d =
      let at = named_there simple_entry (lists_of docs).simples d.0 a (item_in_order simple_before (simple_types docs) d.0 d.1) d.2 in
      let lt = at.2 in
      let same : or_zero ((numbers docs).simples.named a) ≡ at.0 = ap or_zero at.1 in
      omega (arith, lt, same)

  complex_there : (a : Name) → IsComplexNamed docs a → or_zero ((numbers docs).complexes.named a) < length (lists_of docs).complexes
  complex_there a c =
      let at = named_there complex_entry (lists_of docs).complexes c.0 a (item_in_order complex_before (complex_types docs) c.0 c.1) c.2 in
      let lt = at.2 in
      let same : or_zero ((numbers docs).complexes.named a) ≡ at.0 = ap or_zero at.1 in
      omega (arith, lt, same)

  other_number : (a : Name) → IsSimpleNamed docs a ⊎ IsComplexNamed docs a → (o : Option ℕ) → (numbers docs).simples.named a ≡ o
      → IsTypeNumber docs (simple_or_complex o (or_zero ((numbers docs).complexes.named a)))
  other_number a h (Some n) e = let lt = named_within simple_entry (lists_of docs).simples a n e in omega (arith, lt)
  other_number a (inr c) None e = complex_there a c
  other_number a (inl d) None e =
      let at = named_there simple_entry (lists_of docs).simples d.0 a (item_in_order simple_before (simple_types docs) d.0 d.1) d.2 in
      let no : None ≡ Some at.0 = sym e ∙ at.1 in absurd cc

  -- ---- what is named or written in place

  module _ (file at : ℕ) where
    pub simple_reference : (w : Option ℕ) (r : TypeRole) (ref : RawRef) → need_of r ≡ need_of role.Attribute → ((b : Builtin) → named.in_role r (reference.Builtin b) ≡ b ∷ [])
        → HasItem (parts docs) (part file w at (what.TypeReference r ref)) → simple_of_reference (numbers docs) ref < simple_count docs
    simple_reference w r (reference.Builtin b) need_is gives h =
        builtin_number b (in_flat named.in_part (parts docs) (part file w at (what.TypeReference r (reference.Builtin b))) b h (subst (λ bs. HasItem bs b) (sym (gives b)) (inl refl)))
    simple_reference w r (reference.Other a) need_is gives h =
        let p = part file w at (what.TypeReference r (reference.Other a)) in
        let fine = right docs resolved p h (mention (need_of r) (place file at) a) (inl refl) in
        simple_there a (simple_named docs a (ap (λ n. wrong (names_in docs) n a) (sym need_is) ∙ fine))

    simple_in_place : (w : Option ℕ) (s : _) → HasItem (parts docs) (part file w at (what.SimpleDefinition None s)) → or_zero ((numbers docs).simples.placed (place file at)) < simple_count docs
    simple_in_place w s h =
        let d = simple.defined None (place file at) (place file s.body_at) s.how in
        let known = in_flat simple.of_part (parts docs) (part file w at (what.SimpleDefinition None s)) d h (inl refl) in
        let there = placed_there simple_entry (lists_of docs).simples d (item_in_order simple_before (simple_types docs) d known) in
        let lt = there.2 in
        let same : or_zero ((numbers docs).simples.placed (place file at)) ≡ there.0 = ap or_zero there.1 in
        omega (arith, lt, same)

  pub simple_base : (file at : ℕ) (b : Base) → ((q : Part) → HasItem (in_base file at role.Attribute b) q → HasItem (parts docs) q)
      → simple_of_base (numbers docs) file b < simple_count docs
  simple_base file at (Named ref) all = simple_reference file at (Some at) role.Attribute ref refl (λ b. refl) (all (part file (Some at) at (what.TypeReference role.Attribute ref)) (inl refl))
  simple_base file at (Inner own body_at how) all =
      simple_in_place file own (Some at) (simple_body own body_at how) (all (part file (Some at) own (what.SimpleDefinition None (simple_body own body_at how))) (inl refl))

  complex_in_place : (file at : ℕ) (w : Option ℕ) (c : Complex) → HasItem (parts docs) (part file w at (what.ComplexDefinition None c))
      → or_zero ((numbers docs).complexes.placed (place file c.at)) < length (lists_of docs).complexes
  complex_in_place file at w c h =
      let d = complex.defined file None c in
      let known = subst (λ cs. HasItem cs d) (by_documents complex.of_part docs)
      (in_flat complex.of_part (parts docs) (part file w at (what.ComplexDefinition None c)) d h (inl refl)) in
      let there = placed_there complex_entry (lists_of docs).complexes d (item_in_order complex_before (complex_types docs) d known) in
      let lt = there.2 in
      let same : or_zero ((numbers docs).complexes.placed (place file c.at)) ≡ there.0 = ap or_zero there.1 in
      omega (arith, lt, same)

  element_reference : (file at : ℕ) (ref : RawRef) → HasItem (parts docs) (part file (Some at) at (what.TypeReference role.Element ref)) → IsTypeNumber docs (type_of_reference (numbers docs) ref)
  element_reference file at (reference.Builtin b) h =
      builtin_number b (in_flat named.in_part (parts docs) (part file (Some at) at (what.TypeReference role.Element (reference.Builtin b))) b h (inl refl))
  element_reference file at (reference.Other a) h =
      let p = part file (Some at) at (what.TypeReference role.Element (reference.Other a)) in
      let fine = right docs resolved p h (mention (need_of role.Element) (place file at) a) (inl refl) in
      other_number a (type_named docs a fine) ((numbers docs).simples.named a) refl

  pub kind_typed : (file at : ℕ) (k : Kind) → ((q : Part) → HasItem (in_kind file at k) q → HasItem (parts docs) q) → IsTypeNumber docs (type_of_kind (numbers docs) file k)
  kind_typed file at (NamedKind ref) all = element_reference file at ref (all (part file (Some at) at (what.TypeReference role.Element ref)) (inl refl))
  kind_typed file at (SimpleKind s) all = simple_in_place file s.at (Some at) s (all (part file (Some at) s.at (what.SimpleDefinition None s)) (inl refl))
  kind_typed file at (ComplexKind c) all = complex_in_place file c.at (Some at) c (all (part file (Some at) c.at (what.ComplexDefinition None c)) (inl refl))
