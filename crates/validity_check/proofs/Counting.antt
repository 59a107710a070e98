-- How many elements there are in the first kids.
use Rattle.std.proofs.Common.{◌≡◌, ℕ, zero, suc, ◌+◌, ◌≤◌, length, List, [], ◌∷◌, ◌++◌, Option, Some, None, refl, sym, ap, arith, length-append}
use Rattle.std.specs.Prelude.{Result, Ok, Err, MatchResult, OnOk}
use Rattle.base_texts.specs.declared.texts.Name.{Name}
use Rattle.base_trees.specs.Rose.{Rose, node, Roses, roses_of, label_of, kids_of, node_count, count_all}
use Rattle.base_trees.specs.Rose as rose
use Rattle.xml_items.specs.declared.label.ItemLabel.{ItemLabel}
use Rattle.xml_items.specs.declared.label.ItemLabel.TheVariants.{Element, Text}
use Rattle.validity_rules.specs.Faults.{front}
use Rattle.validity_rules.specs.Valid.{put_before, only_text}
use Rattle.validity_rules.proofs.Reading.{kid_at, roses_of-list_of, front_long}
use Rattle.xml_items.specs.Counts.{element_count, elements_in}

pub one_more : (ts : Roses ItemLabel) (i : ℕ) (t : Rose ItemLabel) → kid_at ts i ≡ Some t → elements_in (front (suc i) ts) ≡ elements_in (front i ts) + element_count t
one_more rose.none i t e = absurd (cc)
one_more (rose.more u ts) zero t e = let same : u ≡ t = cc in let k = ap element_count same in omega (arith, k)
one_more (rose.more u ts) (suc i) t e = omega (arith, one_more ts i t e)

pub fewer : (ts : Roses ItemLabel) (i : ℕ) → elements_in (front i ts) ≤ elements_in ts
fewer rose.none zero = omega arith
fewer rose.none (suc i) = omega arith
fewer (rose.more t ts) zero = omega arith
fewer (rose.more t ts) (suc i) = omega (arith, fewer ts i)

pub up_to : (ts : Roses ItemLabel) (i : ℕ) (t : Rose ItemLabel) → kid_at ts i ≡ Some t → elements_in (front i ts) + element_count t ≤ elements_in ts
up_to ts i t e = omega (arith, one_more ts i t e, fewer ts (suc i))

pub element_counts : (t : Rose ItemLabel) (n : Name) (xs : List (Name × List ℕ)) (declares : List (List ℕ × List ℕ)) (at : ℕ) → label_of t ≡ Element n xs declares at
    → element_count t ≡ suc (elements_in (roses_of (kids_of t)))
element_counts (node (Element n xs declares c) ts) m ys binds at e = ap (λ s. suc (elements_in s)) (sym (roses_of-list_of ts))
element_counts (node (Text others c) ts) m ys binds at e = absurd (cc)

pub at_least_length : {L : Type 0} (ts : List (Rose L)) → length ts ≤ count_all (roses_of ts)
at_least_length [] = omega arith
at_least_length (node l ks ∷ ts) = omega (arith, at_least_length ts)

-- ---- each element but the root takes a step

-- where an answer is Ok, what follows from it
pub match-ok : {X E : Type 0} (r : Result X E) (P : X → Type 0) (F : E → Type 0) (Q : Type 0) → ((x : X) → P x → Q) → MatchResult r P F → OnOk r Q
match-ok (Ok x) P F Q f h = f x h
match-ok (Err e) P F Q f h = tt

pub on-ok : {X E : Type 0} (r : Result X E) (P Q : Type 0) → (P → Q) → OnOk r P → OnOk r Q
on-ok (Ok x) P Q f h = f h
on-ok (Err e) P Q f h = tt

pub always-ok : {X E : Type 0} (r : Result X E) (Q : Type 0) → Q → OnOk r Q
always-ok (Ok x) Q q = q
always-ok (Err e) Q q = tt

-- a text alone has no element
pub text-without : (ts : Roses ItemLabel) (words : List ℕ) → only_text ts ≡ Some words → elements_in ts ≡ 0
text-without rose.none words e = refl
text-without (rose.more (node (Element n xs declares c) ks) ts) words e = absurd (cc)
text-without (rose.more (node (Text others c) ks) ts) words e = by (only_text ts) refl e (λ w q. text-without ts w q)
  where
    by : (o : Option (List ℕ)) → only_text ts ≡ o → put_before others o ≡ Some words → ((w : List ℕ) → only_text ts ≡ Some w → elements_in ts ≡ 0) → elements_in (rose.more (node (Text others c) ks) ts) ≡ 0
    by None q k further = absurd (cc)
    by (Some w) q k further = let e = further w q in omega (arith, e)

-- where no kid is left all have been yielded
pub all_yielded : {A : Type 0} (kids before left : List A) → before ++ left ≡ kids → left ≡ [] → length kids ≤ length before
all_yielded kids before left all end = omega (arith, ap length all, length-append before left, ap length end)

pub all-counted : (ts : List (Rose ItemLabel)) (i : ℕ) → length ts ≤ i → elements_in (front i (roses_of ts)) ≡ elements_in (roses_of ts)
all-counted ts i past = ap elements_in (front_long ts i past)
