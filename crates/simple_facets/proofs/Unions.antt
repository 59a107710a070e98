-- Unions of types, from member to member.
use Rattle.std.proofs.Common.{◌≡◌, ℕ, suc, ◌+◌, ◌<◌, ◌≤◌, false, List, [], ◌∷◌, ◌++◌, refl, sym, ap, ◌∙◌, arith, length, get_or, drop}
use Rattle.std.proofs.lemmas.Bool.{true≢false}
use Rattle.std.proofs.Math.Seq.{drop-cons}
use Rattle.std.proofs.Math.ListN.{drop_of_length-le}
use Rattle.simple_types.specs.declared.simples.Simple.{Simple}
use Rattle.simple_types.specs.Space.{Space, Spaces, none, more, Booleans, Wholes, Numbers, Words, Characters, ListOf, UnionOf, count_members}
use Rattle.simple_types.specs.Seen.{space_of, spaces_in}
use Rattle.simple_types.specs.declared.simples.Simple.TheVariants as variant
use Rattle.simple_types.specs.Sound.{Sound, AreSound, is_union}
use Rattle.simple_types.specs.Joining.{joined, flattened}
use Rattle.simple_facets.specs.Making.{AreEachSound}
use Rattle.simple_types.proofs.Copies.{joined-none, joined-assoc}

-- what stands from a member on
pub members_from : {A : Type 0} (f : Spaces → A) (members : List Simple) (i : ℕ) (d : Simple) → i < length members
    → f (spaces_in (drop i members)) ≡ f (more (space_of (get_or members i d)) (spaces_in (drop (i + 1) members)))
members_from f members i d below =
    let cut : drop i members ≡ get_or members i d ∷ drop (suc i) members = drop-cons members i d below in
    let same : suc i ≡ i + 1 = omega arith in
    ap (λ ms. f (spaces_in ms)) cut ∙ ap (λ n. f (more (space_of (get_or members i d)) (spaces_in (drop n members)))) same

pub none_from : {A : Type 0} (f : Spaces → A) (members : List Simple) (i : ℕ) → length members ≤ i → f (spaces_in (drop i members)) ≡ f none
none_from f members i past = ap (λ ms. f (spaces_in ms)) (drop_of_length-le members past)

pub flattened_other : (s : Space) (ss : Spaces) → is_union s ≡ false → flattened (more s ss) ≡ more s (flattened ss)
flattened_other Booleans ss e = refl
flattened_other (Wholes a b) ss e = refl
flattened_other (Numbers a) ss e = refl
flattened_other (Words a b) ss e = refl
flattened_other (Characters a b c d) ss e = refl
flattened_other (ListOf a b c) ss e = refl
flattened_other (UnionOf a) ss e = absurd (true≢false e)

joined_sound : (a b : Spaces) → AreSound a → AreSound b → AreSound (joined a b)
joined_sound none b ha hb = hb
joined_sound (more s ss) b ha hb = (ha.0, ha.1, joined_sound ss b ha.2 hb)

pub flattened_sound : (ss : Spaces) → AreEachSound ss → AreSound (flattened ss)
flattened_sound none h = tt
flattened_sound (more Booleans ss) h = (h.0, refl, flattened_sound ss h.1)
flattened_sound (more (Wholes a b) ss) h = (h.0, refl, flattened_sound ss h.1)
flattened_sound (more (Numbers a) ss) h = (h.0, refl, flattened_sound ss h.1)
flattened_sound (more (Words a b) ss) h = (h.0, refl, flattened_sound ss h.1)
flattened_sound (more (Characters a b c d) ss) h = (h.0, refl, flattened_sound ss h.1)
flattened_sound (more (ListOf a b c) ss) h = (h.0, refl, flattened_sound ss h.1)
flattened_sound (more (UnionOf members) ss) h = joined_sound members (flattened ss) h.0.1 (flattened_sound ss h.1)

count-joined : (a b : Spaces) → count_members (joined a b) ≡ count_members a + count_members b
count-joined none b = let e : count_members b ≡ 0 + count_members b = omega arith in e
count-joined (more s ss) b = let e = count-joined ss b in omega (arith, e)

pub flattened_some : (ss : Spaces) → AreEachSound ss → 0 < count_members ss → 0 < count_members (flattened ss)
flattened_some none h some = absurd (omega arith)
flattened_some (more Booleans ss) h some = omega arith
flattened_some (more (Wholes a b) ss) h some = omega arith
flattened_some (more (Numbers a) ss) h some = omega arith
flattened_some (more (Words a b) ss) h some = omega arith
flattened_some (more (Characters a b c d) ss) h some = omega arith
flattened_some (more (ListOf a b c) ss) h some = omega arith
flattened_some (more (UnionOf members) ss) h some = let inner : 0 < count_members members = h.0.0.0 in let e = count-joined members (flattened ss) in omega (arith, e, inner)

pub flattened-more : (s : Space) (ss : Spaces) → flattened (more s ss) ≡ joined (flattened (more s none)) (flattened ss)
flattened-more Booleans ss = refl
flattened-more (Wholes a b) ss = refl
flattened-more (Numbers a) ss = refl
flattened-more (Words a b) ss = refl
flattened-more (Characters a b c d) ss = refl
flattened-more (ListOf a b c) ss = refl
flattened-more (UnionOf members) ss = ap (λ ms. joined ms (flattened ss)) (joined-none members)

-- one more member is laid flat
pub flat_more : (flat flat_now : List Simple) (members : List Simple) (i : ℕ) (d : Simple) (all : Spaces) → i < length members
    → joined (spaces_in flat) (flattened (spaces_in (drop i members))) ≡ all
    → spaces_in flat_now ≡ joined (spaces_in flat) (flattened (more (space_of (get_or members i d)) none))
    → joined (spaces_in flat_now) (flattened (spaces_in (drop (i + 1) members))) ≡ all
flat_more flat flat_now members i d all below so_far now =
    let s = space_of (get_or members i d) in
    let rest = spaces_in (drop (i + 1) members) in
    ap (λ ss. joined ss (flattened rest)) now
    ∙ joined-assoc (spaces_in flat) (flattened (more s none)) (flattened rest)
    ∙ ap (joined (spaces_in flat)) (sym (members_from flattened members i d below ∙ flattened-more s rest))
    ∙ so_far

pub flat_all : (flat members : List Simple) (i : ℕ) (all : Spaces) → length members ≤ i → joined (spaces_in flat) (flattened (spaces_in (drop i members))) ≡ all → spaces_in flat ≡ all
flat_all flat members i all past so_far = joined-none (spaces_in flat) ∙ ap (joined (spaces_in flat)) (sym (none_from flattened members i past)) ∙ so_far

pub each_sound-push : (members : List Simple) (s : Simple) → AreEachSound (spaces_in members) → Sound (space_of s) → AreEachSound (spaces_in (members ++ s ∷ []))
each_sound-push [] s each sound = (sound, tt)
each_sound-push (m ∷ ms) s each sound = (each.0, each_sound-push ms s each.1 sound)

pub sound-Bool : Sound (space_of variant.Bool)
unfolding space_of
sound-Bool = tt
