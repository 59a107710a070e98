-- One text, and then another.
use Rattle.std.proofs.Common.{◌≡◌, ℕ, ◌+◌, ◌<◌, ◌≤◌, ◌⊎◌, inl, inr, List, ◌++◌, length, drop, refl, sym, ap, ◌∙◌, subst, arith, Option, Some, None, option_map, append_assoc, length-append, length-drop, drop-drop, drop_at}
use Rattle.std.proofs.lemmas.List.{drop-append-le}
use Rattle.module_grammar.specs.Reading.{Answer, Found, Fails, Deep, Reader, far, later, behind, go_on, then_at}
use Rattle.module_grammar.specs.Laws.{Front, Begins, Sinks, Told, Again, Law}
use Rattle.module_grammar.specs.Shapes.{Sunk, moved, deeper, BothFine, both_written, both_deep}
use Rattle.module_grammar.proofs.Steps.{begins_later, deeper_cases}

module _ {A B : Type 0} (FineA : ℕ → A → Type 0) (deepA : A → Option Sunk) (writeA : A → List ℕ) (FineB : A → ℕ → B → Type 0) (deepB : A → B → Option Sunk) (writeB : A → B → List ℕ) where
  abbrev Both : ℕ → A × B → Type 0
  Both = BothFine FineA writeA FineB

  abbrev written_both : A × B → List ℕ
  written_both = both_written writeA writeB

  abbrev deep_both : A × B → Option Sunk
  deep_both = both_deep writeA deepA deepB

  module _ (FollowA : List ℕ → Type 0) (FollowB : A → List ℕ → Type 0) (Follow : List ℕ → Type 0) (first : Reader A) (next : A → Reader B)
      (lawA : Law FineA deepA writeA FollowA first) (lawB : (place : ℕ) (a : A) → FineA place a → Law (FineB a) (deepB a) (writeB a) (FollowB a) (next a))
      (some : (place here : ℕ) (a : A) → FineA place a → (b : B) × FineB a here b)
      (followA : (place here : ℕ) (a : A) (b : B) (rest : List ℕ) → FineA place a → FineB a here b → Follow rest → FollowA (writeB a b ++ rest))
      (followB : (place here : ℕ) (a : A) (b : B) (rest : List ℕ) → FineA place a → FineB a here b → Follow rest → FollowB a rest) where
    begins_left : (place : ℕ) (bs : List ℕ) (n : ℕ) → Begins FineA deepA writeA place bs n → Begins Both deep_both written_both place bs n
    begins_left place bs n h =
        let b = some place (place + length (writeA h.value)) h.value h.fine in
        record {
          front = h.front;
          rest = h.rest;
          more = h.more ++ writeB h.value b.0;
          value = (h.value, b.0);
          is = h.is;
          long = h.long;
          fine = (h.fine, b.1);
          begins = ap (λ l. l ++ writeB h.value b.0) h.begins ∙ append_assoc h.front h.more (writeB h.value b.0);
        }

    begins_right : (place : ℕ) (bs : List ℕ) (a : A) (size m n : ℕ) → Front FineA deepA writeA place bs a size m → Begins (FineB a) (deepB a) (writeB a) (place + size) (drop size bs) n → Begins Both deep_both written_both place bs (size + n)
    begins_right place bs a size m n f h = record {
      front = writeA a ++ h.front;
      rest = h.rest;
      more = h.more;
      value = (a, h.value);
      is = f.is ∙ ap (λ l. writeA a ++ l) h.is ∙ sym (append_assoc (writeA a) h.front h.rest);
      long = length-append (writeA a) h.front ∙ ap (λ k. k + length h.front) (sym f.long) ∙ ap (λ k. size + k) h.long;
      fine = (f.fine, subst (λ k. FineB a (place + k) h.value) f.long h.fine);
      begins = ap (λ l. writeA a ++ l) h.begins ∙ sym (append_assoc (writeA a) h.front h.more);
    }

    sinks_left : (place : ℕ) (bs : List ℕ) (at : ℕ) → Sinks FineA deepA writeA place bs at → Sinks Both deep_both written_both place bs at
    sinks_left place bs at h =
        let b = some place (place + length (writeA h.value)) h.value h.fine in
        record {
          front = h.front;
          rest = h.rest;
          more = h.more ++ writeB h.value b.0;
          value = (h.value, b.0);
          sunk = h.sunk;
          is = h.is;
          at_is = h.at_is;
          first = h.first;
          long = h.long;
          fine = (h.fine, b.1);
          deep_is = ap (λ d. deeper (length (writeA h.value)) d (deepB h.value b.0)) h.deep_is;
          begins = ap (λ l. l ++ writeB h.value b.0) h.begins ∙ append_assoc h.front h.more (writeB h.value b.0);
        }

    sinks_right : (place : ℕ) (bs : List ℕ) (a : A) (size m at : ℕ) → Front FineA deepA writeA place bs a size m → Sinks (FineB a) (deepB a) (writeB a) (place + size) (drop size bs) at → Sinks Both deep_both written_both place bs (size + at)
    sinks_right place bs a size m at f h = record {
      front = writeA a ++ h.front;
      rest = h.rest;
      more = h.more;
      value = (a, h.value);
      sunk = moved (length (writeA a)) h.sunk;
      is = f.is ∙ ap (λ l. writeA a ++ l) h.is ∙ sym (append_assoc (writeA a) h.front h.rest);
      at_is = omega (arith, h.at_is, f.long);
      first = omega (arith, h.first, length-append (writeA a) h.front, f.long);
      long = omega (arith, h.long, length-append (writeA a) h.front);
      fine = (f.fine, subst (λ k. FineB a (place + k) h.value) f.long h.fine);
      deep_is = ap (λ d. deeper (length (writeA a)) d (deepB a h.value)) f.shallow ∙ ap (λ d. option_map (moved (length (writeA a))) d) h.deep_is;
      begins = ap (λ l. writeA a ++ l) h.begins ∙ sym (append_assoc (writeA a) h.front h.more);
    }

    told_behind : (place : ℕ) (bs : List ℕ) (a : A) (size n : ℕ) (r : Answer B) → Front FineA deepA writeA place bs a size n → Begins FineA deepA writeA place bs n → Told (FineB a) (deepB a) (writeB a) (place + size) (drop size bs) r → Told Both deep_both written_both place bs (behind a size n r)
    told_behind place bs a size n (Found b more m) f h t = (
      record {
        is = f.is ∙ ap (λ l. writeA a ++ l) (t.0.is ∙ ap (λ l. writeB a b ++ l) (drop-drop more size bs)) ∙ sym (append_assoc (writeA a) (writeB a b) (drop (size + more) bs));
        long = omega (arith, f.long, t.0.long, length-append (writeA a) (writeB a b));
        fine = (f.fine, subst (λ k. FineB a (place + k) b) f.long t.0.fine);
        shallow = ap (λ d. deeper (length (writeA a)) d (deepB a b)) f.shallow ∙ ap (λ d. option_map (moved (length (writeA a))) d) t.0.shallow;
        told = omega (arith, f.told, t.0.told);
      },
      begins_later place bs n (size + m) (begins_left place bs n h) (begins_right place bs a size n m f t.1),
    )
    told_behind place bs a size n (Fails m) f h t = begins_later place bs n (size + m) (begins_left place bs n h) (begins_right place bs a size n m f t)
    told_behind place bs a size n (Deep at m) f h t = (sinks_right place bs a size n at f t.0, begins_later place bs n (size + m) (begins_left place bs n h) (begins_right place bs a size n m f t.1))

    told_on : (place : ℕ) (bs : List ℕ) (r : Answer A) → Told FineA deepA writeA place bs r → Told Both deep_both written_both place bs (go_on next place bs r)
    told_on place bs (Found a size n) t = told_behind place bs a size n (next a (place + size) (drop size bs)) t.0 t.1 ((lawB place a t.0.fine).told (place + size) (drop size bs))
    told_on place bs (Fails n) t = begins_left place bs n t
    told_on place bs (Deep at n) t = (sinks_left place bs at t.0, begins_left place bs n t.1)

    again_behind : (a c : A) (b : B) (size n : ℕ) (r : Answer B) → c ≡ a → size ≡ length (writeA a) → deepA a ≡ None → Again (FineB a) (deepB a) (writeB a) b r → Again Both deep_both written_both (a, b) (behind c size n r)
    again_behind a c b size n (Found d more m) e l s t = (
      ap (λ k. (k, d)) e ∙ ap (λ k. (a, k)) t.0,
      omega (arith, l, t.1, length-append (writeA a) (writeB a b)),
      ap (λ d. deeper (length (writeA a)) d (deepB a b)) s ∙ ap (λ d. option_map (moved (length (writeA a))) d) t.2,
    )
    again_behind a c b size n (Fails m) e l s t = t
    again_behind a c b size n (Deep at m) e l s t = (
      moved (length (writeA a)) t.0,
      ap (λ d. deeper (length (writeA a)) d (deepB a b)) s ∙ ap (λ d. option_map (moved (length (writeA a))) d) t.1,
      omega (arith, l, t.2),
    )

    again_on : (place : ℕ) (a : A) (b : B) (rest : List ℕ) (r : Answer A) → FineA place a → FineB a (place + length (writeA a)) b → Follow rest → Again FineA deepA writeA a r → Again Both deep_both written_both (a, b) (go_on next place (writeA a ++ (writeB a b ++ rest)) r)
    again_on place a b rest (Found c size n) f g h t =
        let here : drop size (writeA a ++ (writeB a b ++ rest)) ≡ writeB a b ++ rest = drop_at (writeA a) (writeB a b ++ rest) size (sym t.1) in
        let same : next c (place + size) (drop size (writeA a ++ (writeB a b ++ rest))) ≡ next a (place + length (writeA a)) (writeB a b ++ rest) =
        ap (λ k. next k (place + size) (drop size (writeA a ++ (writeB a b ++ rest)))) t.0 ∙ ap (next a (place + size)) here ∙ ap (λ k. next a (place + k) (writeB a b ++ rest)) t.1 in
        subst (λ q. Again Both deep_both written_both (a, b) (behind c size n q)) (sym same)
        (again_behind a c b size n (next a (place + length (writeA a)) (writeB a b ++ rest)) t.0 t.1 t.2 ((lawB place a f).again (place + length (writeA a)) b rest g (followB place (place + length (writeA a)) a b rest f g h)))
    again_on place a b rest (Fails n) f g h t = t
    again_on place a b rest (Deep at n) f g h t = (t.0, ap (λ d. deeper (length (writeA a)) d (deepB a b)) t.1, t.2)

    far_behind : (a : A) (size n : ℕ) (r : Answer B) → far (behind a size n r) ≡ later n (size + far r)
    far_behind a size n (Found b more m) = refl
    far_behind a size n (Fails m) = refl
    far_behind a size n (Deep at m) = refl

    far_on : (place : ℕ) (bs : List ℕ) (r : Answer A) → far r ≤ far (go_on next place bs r)
    far_on place bs (Found a size n) = omega (arith, far_behind a size n (next a (place + size) (drop size bs)))
    far_on place bs (Fails n) = omega arith
    far_on place bs (Deep at n) = omega arith

    local_on : (place : ℕ) (p x y : List ℕ) (r : Answer A) → Told FineA deepA writeA place (p ++ x) r → far (go_on next place (p ++ x) r) < length p → go_on next place (p ++ y) r ≡ go_on next place (p ++ x) r
    local_on place p x y (Found a size n) t lt =
        let k : ℕ = far (next a (place + size) (drop size (p ++ x))) in
        let ahead : later n (size + k) < length p = subst (λ m. m < length p) (far_behind a size n (next a (place + size) (drop size (p ++ x)))) lt in
        let inside : size ≤ length p = omega (arith, ahead, t.0.told) in
        let xs : drop size (p ++ x) ≡ drop size p ++ x = drop-append-le size p x inside in
        let ys : drop size (p ++ y) ≡ drop size p ++ y = drop-append-le size p y inside in
        let near : far (next a (place + size) (drop size p ++ x)) < length (drop size p) = subst (λ l. far (next a (place + size) l) < length (drop size p)) xs (omega (arith, ahead, length-drop size p)) in
        ap (λ l. behind a size n (next a (place + size) l)) ys
        ∙ ap (behind a size n) ((lawB place a t.0.fine).local (place + size) (drop size p) x y near)
        ∙ ap (λ l. behind a size n (next a (place + size) l)) (sym xs)
    local_on place p x y (Fails n) t lt = refl
    local_on place p x y (Deep at n) t lt = refl

    inside_both : (place : ℕ) (a : A) (b : B) (s : Sunk) → FineA place a → FineB a (place + length (writeA a)) b → (deepA a ≡ Some s) ⊎ ((deepA a ≡ None) × (t : Sunk) × (deepB a b ≡ Some t) × (moved (length (writeA a)) t ≡ s)) → (s.at < s.told) × (s.told ≤ length (writeA a ++ writeB a b))
    inside_both place a b s f g (inl d) = let h = lawA.inside place a s f d in (h.0, omega (arith, h.1, length-append (writeA a) (writeB a b)))
    inside_both place a b s f g (inr d) =
        let h = (lawB place a f).inside (place + length (writeA a)) b d.1 g d.2 in
        subst (λ (k : Sunk). (k.at < k.told) × (k.told ≤ length (writeA a ++ writeB a b))) d.3 (omega (arith, h.0), omega (arith, h.1, length-append (writeA a) (writeB a b)))

    then_law_of : Law (BothFine FineA writeA FineB) (both_deep writeA deepA deepB) (both_written writeA writeB) Follow (then_at first next)
    then_law_of = record {
      told = λ place bs. told_on place bs (first place bs) (lawA.told place bs);
      again = λ place x rest f h.
          subst (λ l. Again Both deep_both written_both x (go_on next place l (first place l))) (sym (append_assoc (writeA x.0) (writeB x.0 x.1) rest))
          (again_on place x.0 x.1 rest (first place (writeA x.0 ++ (writeB x.0 x.1 ++ rest))) f.0 f.1 h (lawA.again place x.0 (writeB x.0 x.1 ++ rest) f.0 (followA place (place + length (writeA x.0)) x.0 x.1 rest f.0 f.1 h)));
      local = λ place p x y lt.
          let near : far (first place (p ++ x)) < length p = omega (arith, lt, far_on place (p ++ x) (first place (p ++ x))) in
          ap (go_on next place (p ++ y)) (lawA.local place p x y near) ∙ local_on place p x y (first place (p ++ x)) (lawA.told place (p ++ x)) lt;
      inside = λ place x s f d. inside_both place x.0 x.1 s f.0 f.1 (deeper_cases (length (writeA x.0)) s (deepA x.0) (deepB x.0 x.1) d);
    }

pub then_law : {A B : Type 0} {FineA : ℕ → A → Type 0} {deepA : A → Option Sunk} {writeA : A → List ℕ} {FineB : A → ℕ → B → Type 0} {deepB : A → B → Option Sunk} {writeB : A → B → List ℕ}
    {FollowA : List ℕ → Type 0} {FollowB : A → List ℕ → Type 0} {Follow : List ℕ → Type 0} {first : Reader A} {next : A → Reader B}
    → Law FineA deepA writeA FollowA first
    → ((place : ℕ) (a : A) → FineA place a → Law (FineB a) (deepB a) (writeB a) (FollowB a) (next a))
    → ((place here : ℕ) (a : A) → FineA place a → (b : B) × FineB a here b)
    → ((place here : ℕ) (a : A) (b : B) (rest : List ℕ) → FineA place a → FineB a here b → Follow rest → FollowA (writeB a b ++ rest))
    → ((place here : ℕ) (a : A) (b : B) (rest : List ℕ) → FineA place a → FineB a here b → Follow rest → FollowB a rest)
    → Law (BothFine FineA writeA FineB) (both_deep writeA deepA deepB) (both_written writeA writeB) Follow (then_at first next)
then_law {FineA = FineA} {deepA = deepA} {writeA = writeA} {FineB = FineB} {deepB = deepB} {writeB = writeB} {FollowA = FollowA} {FollowB = FollowB} {Follow = Follow} {first = first} {next = next} = then_law_of FineA deepA writeA FineB deepB writeB FollowA FollowB Follow first next
