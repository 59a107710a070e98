-- Namespaces with their prefixes, kept in the order found and beside it in a map.
use Rattle.std.proofs.Common.{◌≡◌, ℕ, Bool, true, false, cond, List, [], ◌∷◌, ◌++◌, map, Option, Some, None, is_some, Bor, refl, sym, ap, subst, ◌∙◌, nat_cmp, true≢false, inl, inr}
use Rattle.std.specs.Prelude.{◌||◌, bytes_eq}
use Rattle.std.specs.Option.{option_map, option_or}
use Rattle.std.specs.Map.{lookup}
use Rattle.std.specs.Cmp.Lexicographic.{slice_cmp}
use Rattle.std.specs.BTreeMap.{BTreeMap, get_by, UpdatesBy}
use Rattle.std.proofs.lemmas.Bool.{cases_Bool}
use Rattle.std.proofs.lemmas.List.{map-append}
use Rattle.std.proofs.lemmas.Slice.Eq.{bytes_eq-Decides}
use Rattle.std.proofs.lemmas.Map.Text.{btree_map_updates_str}
use Rattle.base_texts.specs.Limits.{is_empty}
use Rattle.base_texts.specs.Namespaces.{xml_space}
use Rattle.xml_write.specs.declared.prefixes.Prefix.{Prefix}
use Rattle.xml_write.specs.declared.prefixes.Qualifier.{Qualifier}
use Rattle.xml_write.specs.Private.Binding.{prefix_text, qualifier_text, before_local, entry_of, Indexed, next_prefix, is_bound, with_space}

-- the map after the prefix of a namespace was put
abbrev pub Puts : BTreeMap (Bor (List ℕ)) Prefix → BTreeMap (Bor (List ℕ)) Prefix → List ℕ → Option Prefix → Type 0
Puts old new space prefix = UpdatesBy (λ x y. slice_cmp nat_cmp x.now y.now) (λ key. slice_cmp nat_cmp space key.now) old new prefix

or_step : (b : Bool) (x : List ℕ) (o p last : Option (List ℕ)) → o ≡ option_or p last → cond b (Some x) o ≡ option_or (cond b (Some x) p) last
or_step true x o p last e = refl
or_step false x o p last e = e

lookup-push : (test : List ℕ → Bool) (table : List (List ℕ × List ℕ)) (space prefix : List ℕ) → lookup test (table ++ (space, prefix) ∷ []) ≡ option_or (lookup test table) (cond (test space) (Some prefix) None)
lookup-push test [] space prefix = refl
lookup-push test (e ∷ table) space prefix = or_step (test e.0) e.1 (lookup test (table ++ (space, prefix) ∷ [])) (lookup test table) (cond (test space) (Some prefix) None) (lookup-push test table space prefix)

or_none : (o : Option (List ℕ)) → option_or o None ≡ o
or_none (Some x) = refl
or_none None = refl

differs : (a b : List ℕ) → bytes_eq a b ≡ false → bytes_eq b a ≡ false
differs a b e = elim (cases_Bool (bytes_eq b a)) [ inl f ↦ absurd (true≢false (sym ((bytes_eq-Decides a b).1 (sym ((bytes_eq-Decides b a).0 f))) ∙ e)) | inr f ↦ f ]

last_by : (table : List (List ℕ × List ℕ)) (space prefix query : List ℕ) (same : Bool) → bytes_eq space query ≡ same → lookup (bytes_eq space) table ≡ None
    → cond same (Some prefix) (lookup (bytes_eq query) table) ≡ option_or (lookup (bytes_eq query) table) (cond (bytes_eq query space) (Some prefix) None)
last_by table space prefix query true e absent =
    let is : space ≡ query = (bytes_eq-Decides space query).0 e in
    let here : bytes_eq query space ≡ true = (bytes_eq-Decides query space).1 (sym is) in
    let none : lookup (bytes_eq query) table ≡ None = ap (λ (q : List ℕ). lookup (bytes_eq q) table) (sym is) ∙ absent in
    rw (none, here) refl
last_by table space prefix query false e absent = rw (differs space query e) (sym (or_none (lookup (bytes_eq query) table)))

last_false : (a b : Bool) (o : Option (List ℕ)) → (a || b || is_some o) ≡ false → o ≡ None
last_false true true o e = absurd (true≢false e)
last_false true false o e = absurd (true≢false e)
last_false false true o e = absurd (true≢false e)
last_false false false None e = refl
last_false false false (Some x) e = absurd (true≢false e)

-- a namespace that isn't bound has no entry
pub no-entry : (table : List (List ℕ × List ℕ)) (space : List ℕ) → is_bound table space ≡ false → lookup (bytes_eq space) table ≡ None
no-entry table space e = last_false (is_empty space) (bytes_eq space xml_space) (lookup (bytes_eq space) table) e

mapped : (b : Bool) (x : Prefix) (o : Option Prefix) → option_map prefix_text (cond b (Some x) o) ≡ cond b (Some (prefix_text x)) (option_map prefix_text o)
mapped true x o = refl
mapped false x o = refl

-- a namespace that has no entry gets one
pub indexed-push : (entries all : List (Bor (List ℕ) × Prefix)) (old new : BTreeMap (Bor (List ℕ)) Prefix) (last : Option (Bor (List ℕ) × Qualifier)) (e : Bor (List ℕ) × Prefix) → Indexed entries old last
    → lookup (bytes_eq e.0.now) (map entry_of entries) ≡ None → all ≡ entries ++ e ∷ [] → Puts old new e.0.now (Some e.1) → Indexed all new None
indexed-push entries all old new last e indexed absent is puts = record {
  found = λ q.
      (let same = bytes_eq e.0.now q in
      let table = map entry_of entries in
      ap (option_map prefix_text) (btree_map_updates_str e.0.now old new (Some e.1) puts q)
      ∙ mapped same e.1 (get_by (λ key. slice_cmp nat_cmp q key.now) old)
      ∙ ap (cond same (Some (prefix_text e.1))) (indexed.found q)
      ∙ last_by table e.0.now (prefix_text e.1) q same refl absent
      ∙ sym (lookup-push (bytes_eq q) table e.0.now (prefix_text e.1))
      ∙ ap (lookup (bytes_eq q)) (sym (ap (map entry_of) is ∙ map-append entry_of entries (e ∷ []))));
  last_bound = λ space qualifier none_is. absurd (cc);
  last_named = λ space qualifier none_is. absurd (cc);
}

-- a namespace that needs no entry gets none
pub bound-same : (table : List (List ℕ × List ℕ)) (space : List ℕ) → is_bound table space ≡ true → table ≡ with_space table space
bound-same table space bound = sym (ap (λ b. cond b table (table ++ (space, next_prefix table space) ∷ [])) bound)

-- the namespace that was asked for last
pub indexed-last : (entries : List (Bor (List ℕ) × Prefix)) (by_space : BTreeMap (Bor (List ℕ)) Prefix) (before : Option (Bor (List ℕ) × Qualifier)) (space : Bor (List ℕ)) (qualifier : Qualifier) → Indexed entries by_space before
    → is_bound (map entry_of entries) space.now ≡ true → qualifier_text qualifier ≡ before_local (map entry_of entries) space.now → Indexed entries by_space (Some (space, qualifier))
indexed-last entries by_space before space qualifier indexed bound named = record {
  found = indexed.found;
  last_bound = λ other q is.
      (let same : (space, qualifier) ≡ (other, q) = some_same _ _ is in
      subst (λ (e : Bor (List ℕ) × Qualifier). is_bound (map entry_of entries) e.0.now ≡ true) same bound);
  last_named = λ other q is.
      (let same : (space, qualifier) ≡ (other, q) = some_same _ _ is in
      subst (λ (e : Bor (List ℕ) × Qualifier). qualifier_text e.1 ≡ before_local (map entry_of entries) e.0.now) same named);
}
  where
    some_same : (a b : Bor (List ℕ) × Qualifier) → Some a ≡ Some b → a ≡ b
    some_same a b e = cc
