-- What is put down, step by step.
use Rattle.std.proofs.Common.{◌≡◌, ℕ, List, [], ◌+◌, ◌-◌, ◌^◌, ◌≤◌, min, ◌∙◌, ap, arith, refl, sym, subst}
use Rattle.base_trees.specs.Rose.{Rose, roses_of, node_count, count_all, shown_count}
use Rattle.base_flat_trees.specs.Zips.{Zip, zip_count, added, added_all}
use Rattle.simple_types.specs.declared.labels.ValueLabel.{ValueLabel}
use Rattle.value_builder.specs.Built.{Built, nothing_of, Stands, Puts}
use Rattle.value_builder.proofs.Counts.{count-added, count-added_all}

-- nothing, and one step after another
pub puts-nothing : (b : Built) → Puts (λ z. z) b b
puts-nothing b = record { most = refl; stands = λ z st. st }

pub puts-both : (f g : Zip ValueLabel → Zip ValueLabel) (a b c : Built) → Puts f a b → Puts g b c → Puts (λ z. g (f z)) a c
puts-both f g a b c p q = record { most = q.most ∙ p.most; stands = λ z st. q.stands (f z) (p.stands z st) }

-- so many nodes more
pub puts-more : (f : Zip ValueLabel → Zip ValueLabel) (more : ℕ) (old new : Built) → ((z : Zip ValueLabel) → zip_count (f z) ≡ zip_count z + more)
    → new.most ≡ old.most → new.nodes ≡ min (old.nodes + min more (2 ^ 64 - 1)) (2 ^ 64 - 1)
    → (new.nodes ≤ new.most → new.kept ≡ f old.kept) → Puts f old new
puts-more f more old new counts most nodes kept = record {
  most = most;
  stands = λ z st.
      let c = counts z in
      record {
        nodes = λ some. let n = st.nodes (subst (λ (m : ℕ). 1 ≤ m) most some) in omega arith;
        kept = λ some within.
            let older : 1 ≤ old.most = subst (λ (m : ℕ). 1 ≤ m) most some in
            let n = st.nodes older in
            let less : old.nodes ≤ old.most = omega arith in
            kept within ∙ ap f (st.kept older less);
      };
}

-- no more nodes
pub puts-same : (f : Zip ValueLabel → Zip ValueLabel) (old new : Built) → ((z : Zip ValueLabel) → zip_count (f z) ≡ zip_count z)
    → new.most ≡ old.most → new.nodes ≡ old.nodes → (new.nodes ≤ new.most → new.kept ≡ f old.kept) → Puts f old new
puts-same f old new counts most nodes kept = record {
  most = most;
  stands = λ z st.
      let c = counts z in
      record {
        nodes = λ some. let n = st.nodes (subst (λ (m : ℕ). 1 ≤ m) most some) in omega arith;
        kept = λ some within.
            let older : 1 ≤ old.most = subst (λ (m : ℕ). 1 ≤ m) most some in
            let n = st.nodes older in
            let less : old.nodes ≤ old.most = omega arith in
            kept within ∙ ap f (st.kept older less);
      };
}

-- a value that is counted alone
pub puts-counted : (old new : Built) (v : Rose ValueLabel) (nodes : ℕ) → nodes ≡ shown_count v → new.most ≡ old.most → new.nodes ≡ min (old.nodes + nodes) (2 ^ 64 - 1)
    → (new.nodes ≤ new.most → new.kept ≡ added v old.kept) → Puts (added v) old new
puts-counted old new v nodes shown most now kept =
    puts-more (added v) (node_count v) old new (count-added v) most (omega arith) kept

-- all that another holds, which is kept
pub puts-appended : (old new other : Built) (nodes : ℕ) (ts vs : List (Rose ValueLabel)) → Stands other (added_all vs (nothing_of 0).kept) → 1 ≤ other.most → other.nodes ≤ other.most
    → nodes ≡ other.nodes → ts ≡ other.kept.kids → new.most ≡ old.most → new.nodes ≡ min (old.nodes + nodes) (2 ^ 64 - 1)
    → (new.nodes ≤ new.most → new.kept ≡ added_all ts old.kept) → Puts (added_all vs) old new
puts-appended old new other nodes ts vs st some fits count trees most now kept =
    let n = st.nodes some in
    let c = count-added_all vs (nothing_of 0).kept in
    puts-more (added_all vs) (count_all (roses_of vs)) old new (count-added_all vs) most (omega arith)
    (λ within. kept within ∙ ap (λ us. added_all us old.kept) (trees ∙ ap (λ (z : Zip ValueLabel). z.kids) (st.kept some fits)))

-- with no node open
pub appended-closed : (other : Built) (vs : List (Rose ValueLabel)) → Stands other (added_all vs (nothing_of 0).kept) → 1 ≤ other.most → other.nodes ≤ other.most → other.kept.above ≡ []
appended-closed other vs st some fits = ap (λ (z : Zip ValueLabel). z.above) (st.kept some fits)

-- one node that isn't kept
pub puts-unkept : (f : Zip ValueLabel → Zip ValueLabel) (old new this : Built) → new ≡ this → ((z : Zip ValueLabel) → zip_count (f z) ≡ zip_count z + 1)
    → this.most ≡ old.most → this.nodes ≡ min (old.nodes + 1) (2 ^ 64 - 1) → (this.nodes ≤ this.most → ⊥) → Puts f old new
puts-unkept f old new this same counts most nodes none =
    subst (λ b. Puts f old b) (sym same) (puts-more f 1 old this counts most nodes (λ within. absurd (none within)))

pub puts-as : (f g : Zip ValueLabel → Zip ValueLabel) (old new : Built) → ((z : Zip ValueLabel) → f z ≡ g z) → Puts f old new → Puts g old new
puts-as f g old new same p = record { most = p.most; stands = λ z st. subst (λ y. Stands new y) (same z) (p.stands z st) }

-- one after the other makes this
pub puts-then : (f g h : Zip ValueLabel → Zip ValueLabel) (a b c : Built) → ((z : Zip ValueLabel) → g (f z) ≡ h z) → Puts f a b → Puts g b c → Puts h a c
puts-then f g h a b c same p q = puts-as (λ z. g (f z)) h a c same (puts-both f g a b c p q)

-- where nothing may be kept, whatever is put down stands
pub stands-off : (b : Built) (z : Zip ValueLabel) → b.most ≡ 0 → Stands b z
stands-off b z none = record {
  nodes = λ some. absurd (omega (arith, none, some));
  kept = λ some. absurd (omega (arith, none, some));
}

pub puts-off : (f : Zip ValueLabel → Zip ValueLabel) (b : Built) → b.most ≡ 0 → Puts f b b
puts-off f b none = record { most = refl; stands = λ z st. stands-off b (f z) none }
