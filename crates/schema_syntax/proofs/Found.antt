-- The table of the namespaces that an element binds, with one binding more before the others.
use Rattle.std.proofs.Common.{◌≡◌, ℕ, ◌+◌, ◌-◌, ◌<◌, ◌≤◌, Bool, true, false, cond, List, ◌∷◌, length, drop, get_or, Option, Some, Bor, refl, sym, ap, ◌∙◌, add-one, arith, nat_cmp}
use Rattle.std.specs.Prelude.{bytes_eq}
use Rattle.std.specs.Option.{option_map}
use Rattle.std.specs.Cmp.Lexicographic.{slice_cmp}
use Rattle.std.specs.BTreeMap.{BTreeMap, get_by, UpdatesBy}
use Rattle.std.proofs.lemmas.Map.Text.{btree_map_updates_str}
use Rattle.std.proofs.Math.Seq.{drop-cons}
use Rattle.base_texts.specs.Entries.{beside}
use Rattle.schema_syntax.specs.Private.Finding.{Finds}

-- what is left from a place on: that at the place, and what is behind
cut : (xs : List (List ℕ × List ℕ)) (i : ℕ) (x : List ℕ × List ℕ) → 0 < i → i ≤ length xs → x ≡ get_or xs (i - 1) x → drop (i - 1) xs ≡ x ∷ drop i xs
cut xs i x lt le is =
    let small : i - 1 < length xs = omega arith in
    let same : (i - 1) + 1 ≡ i = omega arith in
    rw add-one (drop-cons xs (i - 1) x small) ∙ ap (λ y. y ∷ drop ((i - 1) + 1) xs) (sym is) ∙ ap (λ n. x ∷ drop n xs) same

either : (b : Bool) (s : Bor (List ℕ)) (old : Option (Bor (List ℕ))) (rest : Option (List ℕ)) → option_map (λ x. x.now) old ≡ rest
    → option_map (λ x. x.now) (cond b (Some s) old) ≡ cond b (Some s.now) rest
either true s old rest e = refl
either false s old rest e = e

pub one_binding : (bs : List (List ℕ × List ℕ)) (i : ℕ) (b : List ℕ × List ℕ) (old new : BTreeMap (Bor (List ℕ)) (Bor (List ℕ))) (prefix space : Bor (List ℕ))
    → 0 < i → i ≤ length bs → b ≡ get_or bs (i - 1) b → prefix.now ≡ b.0 → space.now ≡ b.1
    → Finds (drop i bs) old
    → UpdatesBy (λ x y. slice_cmp nat_cmp x.now y.now) (λ key. slice_cmp nat_cmp prefix.now key.now) old new (Some space)
    → Finds (drop (i - 1) bs) new
one_binding bs i b old new prefix space lt le is its_prefix its_space so_far up a =
    let rest = beside a (drop i bs) in
    ap (option_map (λ (x : Bor (List ℕ)). x.now)) (btree_map_updates_str prefix.now old new (Some space) up a)
    ∙ either (bytes_eq prefix.now a) space (get_by (λ key. slice_cmp nat_cmp a key.now) old) rest (so_far a)
    ∙ ap (λ p. cond (bytes_eq p a) (Some space.now) rest) its_prefix
    ∙ ap (λ s. cond (bytes_eq b.0 a) (Some s) rest) its_space
    ∙ ap (beside a) (sym (cut bs i b lt le is))
