-- Binding namespaces as they are found gives each its prefix.
use Rattle.std.proofs.Common.{◌≡◌, ℕ, suc, ◌+◌, ◌-◌, List, [], ◌∷◌, ◌++◌, length, Bool, true, false, ◌||◌, Some, None, is_some, if◌then◌else◌, cond, refl, sym, ◌∙◌, ap, subst, arith, append_assoc, length-append, true≢false}
use Rattle.std.specs.Str.{bytes_eq}
use Rattle.std.specs.Map.{lookup}
use Rattle.std.proofs.lemmas.List.{append-nil}
use Rattle.std.proofs.lemmas.Slice.Eq.{bytes_eq-Decides}
use Rattle.base_texts.specs.Limits.{is_empty}
use Rattle.base_texts.specs.Namespaces.{xml_space, xsi_space}
use Rattle.base_trees.specs.Rose.{Rose}
use Rattle.xml_items.specs.declared.label.ItemLabel.{ItemLabel}
use Rattle.xml_write.specs.Spaces.{spaces, has_space, unseen, numbered, prefixes}
use Rattle.xml_write.specs.Private.Binding.{next_prefix, is_bound, with_spaces}

lookup-push : (test : List ℕ → Bool) (table : List (List ℕ × List ℕ)) (space prefix : List ℕ)
    → is_some (lookup test (table ++ (space, prefix) ∷ [])) ≡ (is_some (lookup test table) || test space)
lookup-push test [] space prefix = by (test space)
  where
    by : (b : Bool) → is_some (cond b (Some prefix) None) ≡ (false || b)
    by true = refl
    by false = refl
lookup-push test (entry ∷ table) space prefix = by (test entry.0) (lookup-push test table space prefix)
  where
    by : (b : Bool) → is_some (lookup test (table ++ (space, prefix) ∷ [])) ≡ (is_some (lookup test table) || test space)
        → is_some (cond b (Some entry.1) (lookup test (table ++ (space, prefix) ∷ []))) ≡ (is_some (cond b (Some entry.1) (lookup test table)) || test space)
    by true e = refl
    by false e = e

rotated : (a b c d : Bool) → (a || b || (c || d)) ≡ (d || (a || b || c))
rotated true b c true = refl
rotated true b c false = refl
rotated false true c true = refl
rotated false true c false = refl
rotated false false true true = refl
rotated false false true false = refl
rotated false false false true = refl
rotated false false false false = refl

bound-push : (table : List (List ℕ × List ℕ)) (space prefix query : List ℕ)
    → is_bound (table ++ (space, prefix) ∷ []) query ≡ (bytes_eq query space || is_bound table query)
bound-push table space prefix query =
    ap (λ b. is_empty query || bytes_eq query xml_space || b) (lookup-push (bytes_eq query) table space prefix)
    ∙ rotated (is_empty query) (bytes_eq query xml_space) (is_some (lookup (bytes_eq query) table)) (bytes_eq query space)

abbrev count_of : Bool → ℕ
count_of b = if b then 1 else 0

abbrev number_from : List (List ℕ × List ℕ) → ℕ
number_from table = length table + 1 - count_of (is_some (lookup (bytes_eq xsi_space) table))

last_false : (a b c : Bool) → (a || b || c) ≡ false → c ≡ false
last_false true true c e = absurd (cc)
last_false true false c e = absurd (cc)
last_false false true c e = absurd (cc)
last_false false false c e = e

length-push : (table : List (List ℕ × List ℕ)) (entry : List ℕ × List ℕ) → length (table ++ entry ∷ []) ≡ length table + 1
length-push table entry = omega (arith, length-append table (entry ∷ []))

-- the number behind that of a new namespace
number-xsi : (table : List (List ℕ × List ℕ)) (space prefix : List ℕ) → is_bound table space ≡ false → bytes_eq space xsi_space ≡ true
    → number_from (table ++ (space, prefix) ∷ []) ≡ number_from table
number-xsi table space prefix new xsi =
    let is : space ≡ xsi_space = (bytes_eq-Decides space xsi_space).0 xsi in
    let absent : is_some (lookup (bytes_eq space) table) ≡ false = last_false (is_empty space) (bytes_eq space xml_space) (is_some (lookup (bytes_eq space) table)) new in
    let none : is_some (lookup (bytes_eq xsi_space) table) ≡ false = subst (λ s. is_some (lookup (bytes_eq s) table) ≡ false) is absent in
    let same : bytes_eq xsi_space space ≡ true = (bytes_eq-Decides xsi_space space).1 (sym is) in
    let now : is_some (lookup (bytes_eq xsi_space) (table ++ (space, prefix) ∷ [])) ≡ true =
    lookup-push (bytes_eq xsi_space) table space prefix ∙ ap (λ b. is_some (lookup (bytes_eq xsi_space) table) || b) same ∙ ap (λ b. b || true) none in
    rw (now, none) (omega (arith, length-push table (space, prefix)))

or-false : (b : Bool) → (b || false) ≡ b
or-false true = refl
or-false false = refl

or-twice : (b : Bool) → (false || (b || false)) ≡ (false || b || false)
or-twice true = refl
or-twice false = refl

unequal : (space : List ℕ) (b : Bool) → b ≡ false → bytes_eq space xsi_space ≡ b → bytes_eq xsi_space space ≡ false
unequal space b differs e = by (bytes_eq xsi_space space) refl
  where
    by : (r : Bool) → bytes_eq xsi_space space ≡ r → bytes_eq xsi_space space ≡ false
    by false f = f
    by true f =
        let is : bytes_eq space xsi_space ≡ true = (bytes_eq-Decides space xsi_space).1 (sym ((bytes_eq-Decides xsi_space space).0 f)) in
        absurd (true≢false (sym is ∙ (e ∙ differs)))

counted : (more_than now : ℕ) (b : Bool) → more_than ≡ now + 1 → more_than + 1 - count_of b ≡ suc (now + 1 - count_of b)
counted more_than now true e = omega arith
counted more_than now false e = omega arith

number-other : (table : List (List ℕ × List ℕ)) (space prefix : List ℕ) → is_bound table space ≡ false → bytes_eq space xsi_space ≡ false
    → number_from (table ++ (space, prefix) ∷ []) ≡ suc (number_from table)
number-other table space prefix new other =
    let apart : bytes_eq xsi_space space ≡ false = unequal space (bytes_eq space xsi_space) other refl in
    let now : is_some (lookup (bytes_eq xsi_space) (table ++ (space, prefix) ∷ [])) ≡ is_some (lookup (bytes_eq xsi_space) table) =
    lookup-push (bytes_eq xsi_space) table space prefix ∙ ap (λ b. is_some (lookup (bytes_eq xsi_space) table) || b) apart ∙ or-false (is_some (lookup (bytes_eq xsi_space) table)) in
    rw now (counted (length (table ++ (space, prefix) ∷ [])) (length table) (is_some (lookup (bytes_eq xsi_space) table)) (length-push table (space, prefix)))

-- a new namespace goes last, and has the next number
step : (table : List (List ℕ × List ℕ)) (space : List ℕ) (later : List (List ℕ)) → is_bound table space ≡ false
    → (table ++ (space, next_prefix table space) ∷ []) ++ numbered (number_from (table ++ (space, next_prefix table space) ∷ [])) later
    ≡ table ++ numbered (number_from table) (space ∷ later)
step table space later new = append_assoc table ((space, next_prefix table space) ∷ []) _ ∙ ap (λ e. table ++ e) (by (bytes_eq space xsi_space) refl)
  where
    by : (b : Bool) → bytes_eq space xsi_space ≡ b
        → (space, next_prefix table space) ∷ numbered (number_from (table ++ (space, next_prefix table space) ∷ [])) later ≡ numbered (number_from table) (space ∷ later)
    by true e = rw (number-xsi table space (next_prefix table space) new e) (rw e refl)
    by false e = rw (number-other table space (next_prefix table space) new e) (rw e refl)

-- what is bound behind a table: those that weren't seen, numbered on
bound : (table : List (List ℕ × List ℕ)) (seen more_spaces : List (List ℕ)) → ((query : List ℕ) → has_space seen query ≡ is_bound table query)
    → with_spaces table more_spaces ≡ table ++ numbered (number_from table) (unseen seen more_spaces)
bound table seen [] same = sym (append-nil table)
bound table seen (space ∷ more_spaces) same =
    by (is_bound table space) refl (bound table seen more_spaces same)
    (bound (table ++ (space, next_prefix table space) ∷ []) (space ∷ seen) more_spaces
    (λ query. ap (λ b. bytes_eq query space || b) (same query) ∙ sym (bound-push table space (next_prefix table space) query)))
  where
    by : (b : Bool) → is_bound table space ≡ b
        → with_spaces table more_spaces ≡ table ++ numbered (number_from table) (unseen seen more_spaces)
        → with_spaces (table ++ (space, next_prefix table space) ∷ []) more_spaces ≡ (table ++ (space, next_prefix table space) ∷ []) ++ numbered (number_from (table ++ (space, next_prefix table space) ∷ [])) (unseen (space ∷ seen) more_spaces)
        → with_spaces table (space ∷ more_spaces) ≡ table ++ numbered (number_from table) (unseen seen (space ∷ more_spaces))
    by true e old new =
        ap (λ b. with_spaces (cond b table (table ++ (space, next_prefix table space) ∷ [])) more_spaces) e
        ∙ old
        ∙ ap (λ b. table ++ numbered (number_from table) (cond b (unseen seen more_spaces) (space ∷ unseen (space ∷ seen) more_spaces))) (sym (same space ∙ e))
    by false e old new =
        ap (λ b. with_spaces (cond b table (table ++ (space, next_prefix table space) ∷ [])) more_spaces) e
        ∙ new
        ∙ step table space (unseen (space ∷ seen) more_spaces) e
        ∙ ap (λ b. table ++ numbered (number_from table) (cond b (unseen seen more_spaces) (space ∷ unseen (space ∷ seen) more_spaces))) (sym (same space ∙ e))

start-seen : (query : List ℕ) → has_space ([] ∷ xml_space ∷ []) query ≡ is_bound [] query
start-seen [] = refl
start-seen (b ∷ query) = or-twice (bytes_eq (b ∷ query) xml_space)

pub with_spaces-prefixes : (root : Rose ItemLabel) → with_spaces [] (spaces root) ≡ prefixes root
with_spaces-prefixes root = bound [] ([] ∷ xml_space ∷ []) (spaces root) start-seen
