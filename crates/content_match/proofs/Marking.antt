-- What a mark changes.
use Rattle.std.proofs.Common.{◌≡◌, ℕ, zero, suc, ◌+◌, ◌<◌, ◌≤◌, ◌⊎◌, inl, inr, List, [], ◌∷◌, length, Option, Some, None, Bool, true, false, cond, refl, sym, ◌∙◌, ap, subst, get_or, set, length-set, arith}
use Rattle.std.specs.Prelude.{not}
use Rattle.base_texts.specs.declared.texts.Name.{Name}
use Rattle.content_models.specs.Particle.{Particles, none, more}
use Rattle.content_models.specs.Clear.{empties}
use Rattle.content_models.specs.Spots.{over, is_named, picked, pick, missing}
use Rattle.content_models.proofs.Options.{over_some}
use Rattle.content_match.specs.Private.Alls.{AreRequired, IsMarked}
use Rattle.content_match.specs.Private.Plans.{count_of, pick_one}

pub required_fit : (ps : Particles) (bs : List Bool) → AreRequired ps bs → length bs ≡ count_of ps
required_fit none [] h = refl
required_fit none (b ∷ bs) h = absurd h
required_fit (more p ps) [] h = absurd h
required_fit (more p ps) (b ∷ bs) h = ap suc (required_fit ps bs h.1)

-- one less is missing where the kid that gets a mark may not be empty
less : (e m : Bool) (b : Bool) (n : ℕ) → b ≡ not e → m ≡ false → cond e n (suc n) ≡ n + cond b 1 0
less true m b n h k = rw h (omega arith)
less false m b n h k = rw h (omega arith)

more_missing : (e : Bool) (x y z : ℕ) → x ≡ y + z → cond e x (suc x) ≡ cond e y (suc y) + z
more_missing true x y z h = h
more_missing false x y z h = omega arith

pub missing_marked : (ps : Particles) (bs ms : List Bool) (k : ℕ) → AreRequired ps bs → length ms ≡ count_of ps → k < count_of ps → get_or ms k false ≡ false
    → missing ps ms ≡ missing ps (set ms k true) + cond (get_or bs k false) 1 0
missing_marked none bs ms k h f l e = absurd (omega arith)
missing_marked (more p ps) [] ms k h f l e = absurd h
missing_marked (more p ps) (b ∷ bs) [] k h f l e = absurd (cc)
missing_marked (more p ps) (b ∷ bs) (true ∷ ms) zero h f l e = absurd (cc)
missing_marked (more p ps) (b ∷ bs) (false ∷ ms) zero h f l e = less (empties p) false b (missing ps ms) h.0 refl
missing_marked (more p ps) (b ∷ bs) (true ∷ ms) (suc k) h f l e = missing_marked ps bs ms k h.1 (cc) (omega arith) e
missing_marked (more p ps) (b ∷ bs) (false ∷ ms) (suc k) h f l e =
    more_missing (empties p) (missing ps ms) (missing ps (set ms k true)) (cond (get_or bs k false) 1 0) (missing_marked ps bs ms k h.1 (cc) (omega arith) e)

named_here : (b : Bool) (o : Option ℕ) (k : ℕ) → cond b (Some 0) (over suc o) ≡ Some k → ((b ≡ true) × (k ≡ 0)) ⊎ ((b ≡ false) × ((j : ℕ) × (o ≡ Some j) × (k ≡ suc j)))
named_here true o k e = inl (refl, cc)
named_here false o k e = inr (refl, over_some suc o k e)

pub pick_marked : (ps : Particles) (ms : List Bool) (a : Name) (k : ℕ) → length ms ≡ count_of ps → pick_one ps a ≡ Some k → get_or ms k false ≡ true → pick ps ms a ≡ None
pick_marked none ms a k f n e = refl
pick_marked (more p ps) [] a k f n e = refl
pick_marked (more p ps) (m ∷ ms) a k f n e = go m (named_here (is_named p a) (pick_one ps a) k n) (λ j h q. pick_marked ps ms a j (cc) h q) e
  where
    go : (m : Bool) → ((is_named p a ≡ true) × (k ≡ 0)) ⊎ ((is_named p a ≡ false) × ((j : ℕ) × (pick_one ps a ≡ Some j) × (k ≡ suc j)))
        → ((j : ℕ) → pick_one ps a ≡ Some j → get_or ms j false ≡ true → pick ps ms a ≡ None) → get_or (m ∷ ms) k false ≡ true → pick (more p ps) (m ∷ ms) a ≡ None
    go true (inl h) rec e = rw h.0 refl
    go false (inl h) rec e = absurd (let q = subst (λ i. get_or (false ∷ ms) i false ≡ true) h.1 e in cc)
    go true (inr (b, (j, h, i))) rec e = let q : get_or ms j false ≡ true = subst (λ i. get_or (true ∷ ms) i false ≡ true) i e in rw (b, rec j h q) refl
    go false (inr (b, (j, h, i))) rec e = let q : get_or ms j false ≡ true = subst (λ i. get_or (false ∷ ms) i false ≡ true) i e in rw (b, rec j h q) refl

pub pick_free : (ps : Particles) (ms : List Bool) (a : Name) (k : ℕ) → length ms ≡ count_of ps → pick_one ps a ≡ Some k → get_or ms k false ≡ false
    → pick ps ms a ≡ Some (picked k (set ms k true))
pick_free none ms a k f n e = absurd (cc)
pick_free (more p ps) [] a k f n e = absurd (cc)
pick_free (more p ps) (m ∷ ms) a k f n e = go m (named_here (is_named p a) (pick_one ps a) k n) (λ j h q. pick_free ps ms a j (cc) h q) e
  where
    go : (m : Bool) → ((is_named p a ≡ true) × (k ≡ 0)) ⊎ ((is_named p a ≡ false) × ((j : ℕ) × (pick_one ps a ≡ Some j) × (k ≡ suc j)))
        → ((j : ℕ) → pick_one ps a ≡ Some j → get_or ms j false ≡ false → pick ps ms a ≡ Some (picked j (set ms j true)))
        → get_or (m ∷ ms) k false ≡ false → pick (more p ps) (m ∷ ms) a ≡ Some (picked k (set (m ∷ ms) k true))
    go true (inl h) rec e = absurd (let q = subst (λ i. get_or (true ∷ ms) i false ≡ false) h.1 e in cc)
    go false (inl h) rec e = subst (λ i. pick (more p ps) (false ∷ ms) a ≡ Some (picked i (set (false ∷ ms) i true))) (sym h.1) (rw h.0 refl)
    go true (inr (b, (j, h, i))) rec e =
        let q : get_or ms j false ≡ false = subst (λ i. get_or (true ∷ ms) i false ≡ false) i e in
        subst (λ i. pick (more p ps) (true ∷ ms) a ≡ Some (picked i (set (true ∷ ms) i true))) (sym i) (rw (b, rec j h q) refl)
    go false (inr (b, (j, h, i))) rec e =
        let q : get_or ms j false ≡ false = subst (λ i. get_or (false ∷ ms) i false ≡ false) i e in
        subst (λ i. pick (more p ps) (false ∷ ms) a ≡ Some (picked i (set (false ∷ ms) i true))) (sym i) (rw (b, rec j h q) refl)

-- the number of those that are missing, where the kid gets a mark
pub marked : (ps : Particles) (bs ms : List Bool) (n m k : ℕ) (b : Bool) → k < count_of ps → IsMarked ps bs ms n → get_or ms k false ≡ false → get_or bs k false ≡ b
    → n ≡ m + cond b 1 0 → IsMarked ps bs (set ms k true) m
marked ps bs ms n m k b l h e f q = record {
  required_are = h.required_are;
  marks_fit = length-set ms k true ∙ h.marks_fit;
  left_is =
      let less = missing_marked ps bs ms k h.required_are h.marks_fit l e in
      let same : n ≡ missing ps ms = h.left_is in
      let here : ◌≡◌ {A = ℕ} (cond (get_or bs k false) 1 0) (cond b 1 0) = ap (λ (z : Bool). cond {A = ℕ} z 1 0) f in
      omega (arith, less, same, here, q);
}

pub some_wanted : (ps : Particles) (bs ms : List Bool) (n k : ℕ) → k < count_of ps → IsMarked ps bs ms n → get_or ms k false ≡ false → get_or bs k false ≡ true → 1 ≤ n
some_wanted ps bs ms n k l h e f =
    let less = missing_marked ps bs ms k h.required_are h.marks_fit l e in
    let same : n ≡ missing ps ms = h.left_is in
    let here : ◌≡◌ {A = ℕ} (cond (get_or bs k false) 1 0) 1 = ap (λ (z : Bool). cond {A = ℕ} z 1 0) f in
    omega (arith, less, same, here)

-- a kid that a name begins is one of them
pub named_below : (ps : Particles) (a : Name) (k : ℕ) → pick_one ps a ≡ Some k → k < count_of ps
named_below none a k e = absurd (cc)
named_below (more p ps) a k e =
    elim (named_here (is_named p a) (pick_one ps a) k e) [
      | inl h ↦ (let z : k ≡ 0 = h.1 in omega (arith, z))
      | inr h ↦ (let l = named_below ps a h.1.0 h.1.1 in let z : k ≡ suc h.1.0 = h.1.2 in omega (arith, l, z))
    ]

-- a name that begins no kid is not picked
pub none_named : (ps : Particles) (ms : List Bool) (a : Name) → pick_one ps a ≡ None → pick ps ms a ≡ None
none_named none ms a e = refl
none_named (more p ps) [] a e = refl
none_named (more p ps) (m ∷ ms) a e = go m (is_named p a) refl (pick_one ps a) (λ q. none_named ps ms a q) refl e
  where
    go : (m b : Bool) → is_named p a ≡ b → (o : Option ℕ) → (o ≡ None → pick ps ms a ≡ None) → pick_one ps a ≡ o → cond b (Some 0) (over suc o) ≡ None → pick (more p ps) (m ∷ ms) a ≡ None
    go m true h o rec q e = absurd (cc)
    go m false h (Some j) rec q e = absurd (cc)
    go true false h None rec q e = rw (h, rec refl) refl
    go false false h None rec q e = rw (h, rec refl) refl
