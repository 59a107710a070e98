-- Members and enumeration items of unions.
use Rattle.std.proofs.Common.{◌≡◌, ℕ, zero, suc, ◌+◌, ◌<◌, ◌≤◌, arith, false, List, [], ◌∷◌, ◌++◌, length, drop, get_or, refl, sym, ap, ◌∙◌}
use Rattle.std.specs.Borrow.{Bor}
use Rattle.std.proofs.Math.Seq.{drop-cons}
use Rattle.simple_types.specs.declared.simples.Simple.{Simple}
use Rattle.simple_types.specs.Seen.{space_of, spaces_in}
use Rattle.simple_types.specs.Sound.{is_union}
use Rattle.simple_types.specs.Space.{Space, Spaces, none, more, UnionOf, count_members}
use Rattle.simple_types.specs.Joining.{joined, flattened}
use Rattle.simple_types.proofs.Copies.{joined-none, joined-assoc}
use Rattle.simple_types.proofs.Members.{count_in}
use Rattle.simple_facets.specs.Making.{count_items, count_all_items, lent_spaces}
use Rattle.simple_facets.proofs.Unions.{flattened_other, flattened-more}

pub cut : {A : Type 0} (xs : List A) (i : ℕ) (x : A) → i < length xs → x ≡ get_or xs i x → drop i xs ≡ x ∷ drop (i + 1) xs
cut xs i x lt is =
    let same : suc i ≡ i + 1 = omega arith in
    drop-cons xs i x lt ∙ ap (λ y. y ∷ drop (suc i) xs) (sym is) ∙ ap (λ n. x ∷ drop n xs) same

pub past_end : {A : Type 0} (xs : List A) (i : ℕ) → length xs ≤ i → drop i xs ≡ []
past_end [] zero le = refl
past_end [] (suc i) le = refl
past_end (x ∷ xs) zero le = absurd (omega (arith, le))
past_end (x ∷ xs) (suc i) le = past_end xs i (omega (arith, le))

members_joined : (a b : Spaces) → count_members (joined a b) ≡ count_members a + count_members b
members_joined none b = let e : count_members b ≡ 0 + count_members b = omega arith in e
members_joined (more s ss) b = let e = members_joined ss b in omega (arith, e)

items_joined : (a b : Spaces) → count_all_items (joined a b) ≡ count_all_items a + count_all_items b
items_joined none b = let e : count_all_items b ≡ 0 + count_all_items b = omega arith in e
items_joined (more s ss) b = let e = items_joined ss b in omega (arith, e)

pub members_more : (s : Space) (ss : Spaces) → count_members (flattened (more s ss)) ≡ count_members (flattened (more s none)) + count_members (flattened ss)
members_more s ss = ap count_members (flattened-more s ss) ∙ members_joined (flattened (more s none)) (flattened ss)

pub items_more : (s : Space) (ss : Spaces) → count_all_items (flattened (more s ss)) ≡ count_all_items (flattened (more s none)) + count_all_items (flattened ss)
items_more s ss = ap count_all_items (flattened-more s ss) ∙ items_joined (flattened (more s none)) (flattened ss)

-- a type that is a union, and one that is none
pub members_inner : (s : Space) (inner : List Simple) → s ≡ UnionOf (spaces_in inner) → count_members (flattened (more s none)) ≡ length inner
members_inner s inner is =
    ap (λ t. count_members (flattened (more t none))) is ∙ ap count_members (sym (joined-none (spaces_in inner))) ∙ count_in inner

pub members_other : (s : Space) → is_union s ≡ false → count_members (flattened (more s none)) ≡ 1
members_other s is = ap count_members (flattened_other s none is)

pub items_inner : (s : Space) (inner : List Simple) → s ≡ UnionOf (spaces_in inner) → count_all_items (flattened (more s none)) ≡ count_all_items (spaces_in inner)
items_inner s inner is = ap (λ t. count_all_items (flattened (more t none))) is ∙ ap count_all_items (sym (joined-none (spaces_in inner)))

pub items_other : (s : Space) → is_union s ≡ false → count_all_items (flattened (more s none)) ≡ count_items s
items_other s is = let one : count_items s + 0 ≡ count_items s = omega arith in ap count_all_items (flattened_other s none is) ∙ one

-- the parts from one on
pub members_from : (ps : List (Bor Simple)) (i : ℕ) (p : Bor Simple) (s : Space) → drop i ps ≡ p ∷ drop (i + 1) ps → space_of p.now ≡ s
    → count_members (flattened (lent_spaces (drop i ps))) ≡ count_members (flattened (more s none)) + count_members (flattened (lent_spaces (drop (i + 1) ps)))
members_from ps i p s is same =
    ap (λ qs. count_members (flattened (lent_spaces qs))) is ∙ members_more (space_of p.now) (lent_spaces (drop (i + 1) ps))
    ∙ ap (λ t. count_members (flattened (more t none)) + count_members (flattened (lent_spaces (drop (i + 1) ps)))) same

pub items_from : (ps : List (Bor Simple)) (i : ℕ) (p : Bor Simple) (s : Space) → drop i ps ≡ p ∷ drop (i + 1) ps → space_of p.now ≡ s
    → count_all_items (flattened (lent_spaces (drop i ps))) ≡ count_all_items (flattened (more s none)) + count_all_items (flattened (lent_spaces (drop (i + 1) ps)))
items_from ps i p s is same =
    ap (λ qs. count_all_items (flattened (lent_spaces qs))) is ∙ items_more (space_of p.now) (lent_spaces (drop (i + 1) ps))
    ∙ ap (λ t. count_all_items (flattened (more t none)) + count_all_items (flattened (lent_spaces (drop (i + 1) ps)))) same

-- one more part is laid flat
pub part_flat : (flat flat_now : List Simple) (ps : List (Bor Simple)) (i : ℕ) (p : Bor Simple) (s : Space) (all : Spaces) → drop i ps ≡ p ∷ drop (i + 1) ps → space_of p.now ≡ s
    → joined (spaces_in flat) (flattened (lent_spaces (drop i ps))) ≡ all → spaces_in flat_now ≡ joined (spaces_in flat) (flattened (more s none))
    → joined (spaces_in flat_now) (flattened (lent_spaces (drop (i + 1) ps))) ≡ all
part_flat flat flat_now ps i p s all is same so_far now =
    let rest = lent_spaces (drop (i + 1) ps) in
    ap (λ ss. joined ss (flattened rest)) now ∙ joined-assoc (spaces_in flat) (flattened (more s none)) (flattened rest)
    ∙ ap (joined (spaces_in flat))
    (sym (ap (λ qs. flattened (lent_spaces qs)) is ∙ flattened-more (space_of p.now) rest ∙ ap (λ t. joined (flattened (more t none)) (flattened rest)) same))
    ∙ so_far

pub some_members : (ps : List (Bor Simple)) → 0 < length ps → 0 < count_members (lent_spaces ps)
some_members [] lt = absurd (omega (arith, lt))
some_members (p ∷ ps) lt = omega arith

pub count_lent : (ms : List (Bor Simple)) → count_members (lent_spaces ms) ≡ length ms
count_lent [] = refl
count_lent (m ∷ ms) = ap suc (count_lent ms)

-- one more that is lent
pub lent_more : (lent : List (Bor Simple)) (m : Bor Simple) (rest : Spaces) → joined (lent_spaces lent) (more (space_of m.now) rest) ≡ joined (lent_spaces (lent ++ m ∷ [])) rest
lent_more [] m rest = refl
lent_more (l ∷ lent) m rest = ap (more (space_of l.now)) (lent_more lent m rest)

pub lent_pushed : (lent lent_now : List (Bor Simple)) (b : Bor Simple) (ms : List Simple) (i : ℕ) (m : Simple) → i < length ms → m ≡ get_or ms i m → b.now ≡ m → lent_now ≡ lent ++ b ∷ []
    → joined (lent_spaces lent) (spaces_in (drop i ms)) ≡ spaces_in ms → joined (lent_spaces lent_now) (spaces_in (drop (i + 1) ms)) ≡ spaces_in ms
lent_pushed lent lent_now b ms i m lt is same pushed so_far =
    let rest = spaces_in (drop (i + 1) ms) in
    ap (λ ls. joined (lent_spaces ls) rest) pushed ∙ sym (lent_more lent b rest) ∙ ap (λ (x : Simple). joined (lent_spaces lent) (more (space_of x) rest)) same
    ∙ sym (ap (λ xs. joined (lent_spaces lent) (spaces_in xs)) (cut ms i m lt is))
    ∙ so_far
