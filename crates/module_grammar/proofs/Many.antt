-- Any number of texts.
use Rattle.std.proofs.Common.{◌≡◌, ℕ, zero, suc, ◌+◌, ◌<◌, ◌≤◌, List, [], ◌∷◌, ◌++◌, length, drop, refl, sym, ap, inl, inr, ◌⊎◌, ◌∙◌, subst, arith, Option, Some, None, option_map, append_assoc, length-append, length-drop, drop-drop, drop_at}
use Rattle.std.proofs.lemmas.List.{drop-append-le}
use Rattle.module_grammar.specs.Reading.{Answer, Found, Fails, Deep, Reader, far, later, cons_at, one_more, up_to, many_at}
use Rattle.module_grammar.specs.Laws.{Front, Begins, Sinks, Told, Again, Law}
use Rattle.module_grammar.specs.Shapes.{Sunk, moved, IsFailed, deeper, EachFine, each_written, each_deep, Stops}
use Rattle.module_grammar.proofs.Steps.{begins_later, deeper_cases, none_some}

module _ {A : Type 0} (Fine : ℕ → A → Type 0) (deep : A → Option Sunk) (write : A → List ℕ) where
  abbrev Each : ℕ → List A → Type 0
  Each = EachFine Fine write

  abbrev written_each : List A → List ℕ
  written_each = each_written write

  abbrev deep_each : List A → Option Sunk
  deep_each = each_deep write deep

  module _ (FollowItem : List ℕ → Type 0) (read : Reader A) (law : Law Fine deep write FollowItem read)
      (some_bytes : (place : ℕ) (a : A) → Fine place a → 0 < length (write a))
      (chain : (place : ℕ) (b : A) (rest : List ℕ) → Fine place b → FollowItem rest → FollowItem (write b ++ rest)) where
    begins_none : (place : ℕ) (bs : List ℕ) → Begins Each deep_each written_each place bs 0
    begins_none place bs = record { front = []; rest = bs; more = []; value = []; is = refl; long = refl; fine = tt; begins = refl }

    begins_left : (place : ℕ) (bs : List ℕ) (n : ℕ) → Begins Fine deep write place bs n → Begins Each deep_each written_each place bs n
    begins_left place bs n h = record {
      front = h.front;
      rest = h.rest;
      more = h.more ++ [];
      value = h.value ∷ [];
      is = h.is;
      long = h.long;
      fine = (h.fine, tt);
      begins = ap (λ l. l ++ []) h.begins ∙ append_assoc h.front h.more [];
    }

    begins_right : (place : ℕ) (bs : List ℕ) (a : A) (size m n : ℕ) → Front Fine deep write place bs a size m → Begins Each deep_each written_each (place + size) (drop size bs) n → Begins Each deep_each written_each place bs (size + n)
    begins_right place bs a size m n f h = record {
      front = write a ++ h.front;
      rest = h.rest;
      more = h.more;
      value = a ∷ h.value;
      is = f.is ∙ ap (λ l. write a ++ l) h.is ∙ sym (append_assoc (write a) h.front h.rest);
      long = length-append (write a) h.front ∙ ap (λ k. k + length h.front) (sym f.long) ∙ ap (λ k. size + k) h.long;
      fine = (f.fine, subst (λ k. Each (place + k) h.value) f.long h.fine);
      begins = ap (λ l. write a ++ l) h.begins ∙ sym (append_assoc (write a) h.front h.more);
    }

    sinks_left : (place : ℕ) (bs : List ℕ) (at : ℕ) → Sinks Fine deep write place bs at → Sinks Each deep_each written_each place bs at
    sinks_left place bs at h = record {
      front = h.front;
      rest = h.rest;
      more = h.more ++ [];
      value = h.value ∷ [];
      sunk = h.sunk;
      is = h.is;
      at_is = h.at_is;
      first = h.first;
      long = h.long;
      fine = (h.fine, tt);
      deep_is = ap (λ d. deeper (length (write h.value)) d None) h.deep_is;
      begins = ap (λ l. l ++ []) h.begins ∙ append_assoc h.front h.more [];
    }

    sinks_right : (place : ℕ) (bs : List ℕ) (a : A) (size m at : ℕ) → Front Fine deep write place bs a size m → Sinks Each deep_each written_each (place + size) (drop size bs) at → Sinks Each deep_each written_each place bs (size + at)
    sinks_right place bs a size m at f h = record {
      front = write a ++ h.front;
      rest = h.rest;
      more = h.more;
      value = a ∷ h.value;
      sunk = moved (length (write a)) h.sunk;
      is = f.is ∙ ap (λ l. write a ++ l) h.is ∙ sym (append_assoc (write a) h.front h.rest);
      at_is = omega (arith, h.at_is, f.long);
      first = omega (arith, h.first, length-append (write a) h.front, f.long);
      long = omega (arith, h.long, length-append (write a) h.front);
      fine = (f.fine, subst (λ k. Each (place + k) h.value) f.long h.fine);
      deep_is = ap (λ d. deeper (length (write a)) d (deep_each h.value)) f.shallow ∙ ap (λ d. option_map (moved (length (write a))) d) h.deep_is;
      begins = ap (λ l. write a ++ l) h.begins ∙ sym (append_assoc (write a) h.front h.more);
    }

    told_cons : (place : ℕ) (bs : List ℕ) (a : A) (size n : ℕ) (r : Answer (List A)) → Front Fine deep write place bs a size n → Begins Fine deep write place bs n → Told Each deep_each written_each (place + size) (drop size bs) r → Told Each deep_each written_each place bs (cons_at a size n r)
    told_cons place bs a size n (Found xs more m) f h t = (
      record {
        is = f.is ∙ ap (λ l. write a ++ l) (t.0.is ∙ ap (λ l. written_each xs ++ l) (drop-drop more size bs)) ∙ sym (append_assoc (write a) (written_each xs) (drop (size + more) bs));
        long = omega (arith, f.long, t.0.long, length-append (write a) (written_each xs));
        fine = (f.fine, subst (λ k. Each (place + k) xs) f.long t.0.fine);
        shallow = ap (λ d. deeper (length (write a)) d (deep_each xs)) f.shallow ∙ ap (λ d. option_map (moved (length (write a))) d) t.0.shallow;
        told = omega (arith, f.told, t.0.told);
      },
      begins_later place bs n (size + m) (begins_left place bs n h) (begins_right place bs a size n m f t.1),
    )
    told_cons place bs a size n (Fails m) f h t = begins_later place bs n (size + m) (begins_left place bs n h) (begins_right place bs a size n m f t)
    told_cons place bs a size n (Deep at m) f h t = (sinks_right place bs a size n at f t.0, begins_later place bs n (size + m) (begins_left place bs n h) (begins_right place bs a size n m f t.1))

    told_one : (others : Reader (List A)) → ((place : ℕ) (bs : List ℕ) → Told Each deep_each written_each place bs (others place bs)) → (place : ℕ) (bs : List ℕ) (r : Answer A) → Told Fine deep write place bs r → Told Each deep_each written_each place bs (one_more others place bs r)
    told_one others h place bs (Found a size n) t = told_cons place bs a size n (others (place + size) (drop size bs)) t.0 t.1 (h (place + size) (drop size bs))
    told_one others h place bs (Fails n) t = (
      record { is = refl; long = refl; fine = tt; shallow = refl; told = omega arith },
      begins_left place bs n t,
    )
    told_one others h place bs (Deep at n) t = (sinks_left place bs at t.0, begins_left place bs n t.1)

    told_up_to : (k : ℕ) (place : ℕ) (bs : List ℕ) → Told Each deep_each written_each place bs (up_to read k place bs)
    told_up_to zero place bs = (record { is = refl; long = refl; fine = tt; shallow = refl; told = omega arith }, begins_none place bs)
    told_up_to (suc k) place bs = told_one (up_to read k) (told_up_to k) place bs (read place bs) (law.told place bs)

    again_cons : (a c : A) (xs : List A) (size n : ℕ) (r : Answer (List A)) → c ≡ a → size ≡ length (write a) → deep a ≡ None → Again Each deep_each written_each xs r → Again Each deep_each written_each (a ∷ xs) (cons_at c size n r)
    again_cons a c xs size n (Found d more m) e l s t = (
      ap (λ k. k ∷ d) e ∙ ap (λ k. a ∷ k) t.0,
      omega (arith, l, t.1, length-append (write a) (written_each xs)),
      ap (λ d. deeper (length (write a)) d (deep_each xs)) s ∙ ap (λ d. option_map (moved (length (write a))) d) t.2,
    )
    again_cons a c xs size n (Fails m) e l s t = t
    again_cons a c xs size n (Deep at m) e l s t = (
      moved (length (write a)) t.0,
      ap (λ d. deeper (length (write a)) d (deep_each xs)) s ∙ ap (λ d. option_map (moved (length (write a))) d) t.1,
      omega (arith, l, t.2),
    )

    again_one : (others : Reader (List A)) (place : ℕ) (a : A) (xs : List A) (rest : List ℕ) (r : Answer A) → Again Each deep_each written_each xs (others (place + length (write a)) (written_each xs ++ rest)) → Again Fine deep write a r → Again Each deep_each written_each (a ∷ xs) (one_more others place (write a ++ (written_each xs ++ rest)) r)
    again_one others place a xs rest (Found c size n) h t =
        let here : drop size (write a ++ (written_each xs ++ rest)) ≡ written_each xs ++ rest = drop_at (write a) (written_each xs ++ rest) size (sym t.1) in
        let same : others (place + size) (drop size (write a ++ (written_each xs ++ rest))) ≡ others (place + length (write a)) (written_each xs ++ rest) = ap (others (place + size)) here ∙ ap (λ k. others (place + k) (written_each xs ++ rest)) t.1 in
        subst (λ q. Again Each deep_each written_each (a ∷ xs) (cons_at c size n q)) (sym same) (again_cons a c xs size n (others (place + length (write a)) (written_each xs ++ rest)) t.0 t.1 t.2 h)
    again_one others place a xs rest (Fails n) h t = absurd t
    again_one others place a xs rest (Deep at n) h t = (t.0, ap (λ d. deeper (length (write a)) d (deep_each xs)) t.1, t.2)

    again_none : (others : Reader (List A)) (place : ℕ) (bs : List ℕ) (r : Answer A) → IsFailed r → Again Each deep_each written_each [] (one_more others place bs r)
    again_none others place bs (Found c size n) h = absurd h
    again_none others place bs (Fails n) h = (refl, refl, refl)
    again_none others place bs (Deep at n) h = absurd h

    follow_each : (place : ℕ) (xs : List A) (rest : List ℕ) → Each place xs → FollowItem rest → FollowItem (written_each xs ++ rest)
    follow_each place [] rest f h = h
    follow_each place (b ∷ xs) rest f h = subst FollowItem (sym (append_assoc (write b) (written_each xs) rest)) (chain place b (written_each xs ++ rest) f.0 (follow_each (place + length (write b)) xs rest f.1 h))

    again_up_to : (k place : ℕ) (xs : List A) (rest : List ℕ) → length (written_each xs ++ rest) ≤ k → Each place xs → Stops FollowItem read rest → Again Each deep_each written_each xs (up_to read k place (written_each xs ++ rest))
    again_up_to zero place [] rest le f h = (refl, refl, refl)
    again_up_to (suc k) place [] rest le f h = again_none (up_to read k) place rest (read place rest) (h.fails place)
    again_up_to zero place (a ∷ xs) rest le f h = absurd (omega (arith, le, some_bytes place a f.0, length-append (write a) (written_each xs), length-append (write a ++ written_each xs) rest))
    again_up_to (suc k) place (a ∷ xs) rest le f h =
        let shorter : length (written_each xs ++ rest) ≤ k = omega (arith, le, some_bytes place a f.0, length-append (write a) (written_each xs), length-append (write a ++ written_each xs) rest, length-append (written_each xs) rest) in
        subst (λ l. Again Each deep_each written_each (a ∷ xs) (one_more (up_to read k) place l (read place l))) (sym (append_assoc (write a) (written_each xs) rest))
        (again_one (up_to read k) place a xs rest (read place (write a ++ (written_each xs ++ rest))) (again_up_to k (place + length (write a)) xs rest shorter f.1 h)
        (law.again place a (written_each xs ++ rest) f.0 (follow_each (place + length (write a)) xs rest f.1 h.item)))

    far_cons : (a : A) (size n : ℕ) (r : Answer (List A)) → far (cons_at a size n r) ≡ later n (size + far r)
    far_cons a size n (Found b more m) = refl
    far_cons a size n (Fails m) = refl
    far_cons a size n (Deep at m) = refl

    far_one : (others : Reader (List A)) (place : ℕ) (bs : List ℕ) (r : Answer A) → far r ≤ far (one_more others place bs r)
    far_one others place bs (Found a size n) = omega (arith, far_cons a size n (others (place + size) (drop size bs)))
    far_one others place bs (Fails n) = omega arith
    far_one others place bs (Deep at n) = omega arith

    abbrev Alike : ℕ → ℕ → Type 0
    Alike k l = (place : ℕ) (p x y : List ℕ) → length (p ++ x) ≤ k → length (p ++ y) ≤ l → far (up_to read k place (p ++ x)) < length p → up_to read l place (p ++ y) ≡ up_to read k place (p ++ x)

    local_one : (k l : ℕ) → Alike k l → (place : ℕ) (p x y : List ℕ) (r : Answer A) → length (p ++ x) ≤ suc k → length (p ++ y) ≤ suc l → Told Fine deep write place (p ++ x) r → far (one_more (up_to read k) place (p ++ x) r) < length p
        → one_more (up_to read l) place (p ++ y) r ≡ one_more (up_to read k) place (p ++ x) r
    local_one k l h place p x y (Found a size n) lk ll t lt =
        let there : ℕ = place + size in
        let m : ℕ = far (up_to read k (place + size) (drop size (p ++ x))) in
        let ahead : later n (size + m) < length p = subst (λ j. j < length p) (far_cons a size n (up_to read k (place + size) (drop size (p ++ x)))) lt in
        let inside : size ≤ length p = omega (arith, ahead, t.0.told) in
        let some : 0 < size = subst (λ j. 0 < j) (sym t.0.long) (some_bytes place a t.0.fine) in
        let xs : drop size (p ++ x) ≡ drop size p ++ x = drop-append-le size p x inside in
        let ys : drop size (p ++ y) ≡ drop size p ++ y = drop-append-le size p y inside in
        let near : far (up_to read k (place + size) (drop size p ++ x)) < length (drop size p) = subst (λ l. far (up_to read k (place + size) l) < length (drop size p)) xs (omega (arith, ahead, length-drop size p)) in
        let shorter_x : length (drop size p ++ x) ≤ k = omega (arith, lk, some, inside, length-append p x, length-append (drop size p) x, length-drop size p) in
        let shorter_y : length (drop size p ++ y) ≤ l = omega (arith, ll, some, inside, length-append p y, length-append (drop size p) y, length-drop size p) in
        ap (λ q. cons_at a size n (up_to read l (place + size) q)) ys
        ∙ ap (cons_at a size n) (h (place + size) (drop size p) x y shorter_x shorter_y near)
        ∙ ap (λ q. cons_at a size n (up_to read k (place + size) q)) (sym xs)
    local_one k l h place p x y (Fails n) lk ll t lt = refl
    local_one k l h place p x y (Deep at n) lk ll t lt = refl

    local_up_to : (k l : ℕ) → Alike k l
    local_up_to zero l place p x y lk ll lt = absurd (omega (arith, lk, lt, length-append p x))
    local_up_to (suc k) zero place p x y lk ll lt = absurd (omega (arith, ll, lt, length-append p y))
    local_up_to (suc k) (suc l) place p x y lk ll lt =
        let near : far (read place (p ++ x)) < length p = omega (arith, lt, far_one (up_to read k) place (p ++ x) (read place (p ++ x))) in
        ap (one_more (up_to read l) place (p ++ y)) (law.local place p x y near) ∙ local_one k l (local_up_to k l) place p x y (read place (p ++ x)) lk ll (law.told place (p ++ x)) lt

    inside_each : (place : ℕ) (xs : List A) (s : Sunk) → Each place xs → deep_each xs ≡ Some s → (s.at < s.told) × (s.told ≤ length (written_each xs))
    inside_each place [] s f d = none_some s d
    inside_each place (a ∷ xs) s f d = cases (deeper_cases (length (write a)) s (deep a) (deep_each xs) d) (λ t. inside_each (place + length (write a)) xs t f.1)
      where
        cases : (deep a ≡ Some s) ⊎ ((deep a ≡ None) × (t : Sunk) × (deep_each xs ≡ Some t) × (moved (length (write a)) t ≡ s)) → ((t : Sunk) → deep_each xs ≡ Some t → (t.at < t.told) × (t.told ≤ length (written_each xs))) → (s.at < s.told) × (s.told ≤ length (write a ++ written_each xs))
        cases (inl e) h = let k = law.inside place a s f.0 e in (k.0, omega (arith, k.1, length-append (write a) (written_each xs)))
        cases (inr e) h =
            let k = h e.1 e.2 in
            subst (λ (j : Sunk). (j.at < j.told) × (j.told ≤ length (write a ++ written_each xs))) e.3 (omega (arith, k.0), omega (arith, k.1, length-append (write a) (written_each xs)))

    many_law_of : Law (EachFine Fine write) (each_deep write deep) (each_written write) (Stops FollowItem read) (many_at read)
    many_law_of = record {
      told = λ place bs. told_up_to (suc (length bs)) place bs;
      again = λ place xs rest f h. again_up_to (suc (length (written_each xs ++ rest))) place xs rest (omega arith) f h;
      local = λ place p x y lt. local_up_to (suc (length (p ++ x))) (suc (length (p ++ y))) place p x y (omega arith) (omega arith) lt;
      inside = inside_each;
    }

pub many_law : {A : Type 0} {Fine : ℕ → A → Type 0} {deep : A → Option Sunk} {write : A → List ℕ} {FollowItem : List ℕ → Type 0} {read : Reader A}
    → Law Fine deep write FollowItem read
    → ((place : ℕ) (a : A) → Fine place a → 0 < length (write a))
    → ((place : ℕ) (b : A) (rest : List ℕ) → Fine place b → FollowItem rest → FollowItem (write b ++ rest))
    → Law (EachFine Fine write) (each_deep write deep) (each_written write) (Stops FollowItem read) (many_at read)
many_law {Fine = Fine} {deep = deep} {write = write} {FollowItem = FollowItem} {read = read} = many_law_of Fine deep write FollowItem read
