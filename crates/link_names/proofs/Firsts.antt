-- The first of several faults.
use Rattle.std.proofs.Common.{◌≡◌, ◌<◌, ◌≤◌, append-nil, subst, arith, Bool, true, false, ◌⊎◌, inl, inr, List, [], ◌∷◌, ◌++◌, Option, Some, None, refl, sym, ◌∙◌}
use Rattle.std.specs.Prelude.{◌&&◌, ◌||◌, not, nat_eq, nat_lt, cond}
use Rattle.std.proofs.lemmas.Bool.{ltb-true, lt-ltb, eqb-true, eq-eqb, cases_order, cases_lt, or_cases, and_parts, and_from, cases_Bool, true≢false}
use Rattle.base_texts.proofs.Lists.{has_left, has_right}
use Rattle.link_names.specs.declared.places.Place.{Place}
use Rattle.link_names.specs.declared.faults.LinkingFault.{LinkingFault}
use Rattle.link_names.specs.Order.{is_before, rank_of, precedes, NonePrecedes, IsFirst, IsFirstOf, IsFirstSuch, OneHas, earlier, first_of}
use Rattle.base_texts.specs.Lists.{HasItem}

-- by files, places and reasons
abbrev pub Earlier : LinkingFault → LinkingFault → Type 0
Earlier f g =
    (f.place.file < g.place.file)
    ⊎ (((f.place.file ≡ g.place.file) × (f.place.at < g.place.at))
    ⊎ ((f.place.file ≡ g.place.file) × (f.place.at ≡ g.place.at) × (rank_of f.why < rank_of g.why)))

or_left : (p q : Bool) → p ≡ true → (p || q) ≡ true
or_left true q e = refl
or_left false q e = absurd (cc)

or_right : (p q : Bool) → q ≡ true → (p || q) ≡ true
or_right true q e = refl
or_right false q e = e

not_true : (p : Bool) → p ≡ false → not p ≡ true
not_true true e = absurd (cc)
not_true false e = refl

true_not : (p : Bool) → not p ≡ true → p ≡ false
true_not true e = absurd (cc)
true_not false e = refl

abbrev pub Before : Place → Place → Type 0
Before a b = (a.file < b.file) ⊎ ((a.file ≡ b.file) × (a.at < b.at))

pub before_true : (a b : Place) → is_before a b ≡ true → Before a b
before_true a b e =
    elim (or_cases (nat_lt a.file b.file) (nat_eq a.file b.file && nat_lt a.at b.at) e) [
      | inl l ↦ inl (ltb-true a.file b.file l)
      | inr r ↦
          let both = and_parts (nat_eq a.file b.file) (nat_lt a.at b.at) r in
          inr (eqb-true a.file b.file both.0, ltb-true a.at b.at both.1)
    ]

pub true_before : (a b : Place) → Before a b → is_before a b ≡ true
true_before a b (inl l) = or_left (nat_lt a.file b.file) (nat_eq a.file b.file && nat_lt a.at b.at) (lt-ltb a.file b.file l)
true_before a b (inr r) =
    or_right (nat_lt a.file b.file) (nat_eq a.file b.file && nat_lt a.at b.at)
    (and_from (nat_eq a.file b.file) (nat_lt a.at b.at) (eq-eqb a.file b.file r.0) (lt-ltb a.at b.at r.1))

pub false_before : (a b : Place) → (Before a b → ⊥) → is_before a b ≡ false
false_before a b n = elim (cases_Bool (is_before a b)) [ inl e ↦ absurd (n (before_true a b e)) | inr e ↦ e ]

pub before_false : (a b : Place) → is_before a b ≡ false → Before a b → ⊥
before_false a b e l = true≢false (sym (true_before a b l) ∙ e)

earlier_true : (f g : LinkingFault) → precedes f g ≡ true → Earlier f g
earlier_true f g e =
    elim (or_cases (is_before f.place g.place) (not (is_before g.place f.place) && nat_lt (rank_of f.why) (rank_of g.why)) e) [
      | inl l ↦ elim (before_true f.place g.place l) [ inl a ↦ inl a | inr b ↦ inr (inl b) ]
      | inr r ↦
          let both = and_parts (not (is_before g.place f.place)) (nat_lt (rank_of f.why) (rank_of g.why)) r in
          let never = before_false g.place f.place (true_not (is_before g.place f.place) both.0) in
          let less = ltb-true (rank_of f.why) (rank_of g.why) both.1 in
          elim (cases_order f.place.file g.place.file) [
            | inl same ↦ elim (cases_order f.place.at g.place.at) [
              | inl there ↦ inr (inr (same, there, less))
              | inr apart ↦ elim apart [ inl lt ↦ inr (inl (same, lt)) | inr gt ↦ absurd (never (inr (sym same, gt))) ]
            ]
            | inr apart ↦ elim apart [ inl lt ↦ inl lt | inr gt ↦ absurd (never (inl gt)) ]
          ]
    ]

pub true_earlier : (f g : LinkingFault) → Earlier f g → precedes f g ≡ true
true_earlier f g (inl l) = or_left (is_before f.place g.place) (not (is_before g.place f.place) && nat_lt (rank_of f.why) (rank_of g.why)) (true_before f.place g.place (inl l))
true_earlier f g (inr (inl m)) = or_left (is_before f.place g.place) (not (is_before g.place f.place) && nat_lt (rank_of f.why) (rank_of g.why)) (true_before f.place g.place (inr m))
true_earlier f g (inr (inr r)) =
    let never : Before g.place f.place → ⊥ =
    λ b. elim b [ inl a ↦ let s = r.0 in omega (arith, a, s) | inr c ↦ let d = c.1 in let t = r.1 in omega (arith, d, t) ] in
    or_right (is_before f.place g.place) (not (is_before g.place f.place) && nat_lt (rank_of f.why) (rank_of g.why))
    (and_from (not (is_before g.place f.place)) (nat_lt (rank_of f.why) (rank_of g.why)) (not_true (is_before g.place f.place) (false_before g.place f.place never)) (lt-ltb (rank_of f.why) (rank_of g.why) r.2))

never_itself : (f : LinkingFault) → Earlier f f → ⊥
never_itself f (inl l) = omega (arith, l)
never_itself f (inr (inl m)) = let l = m.1 in omega (arith, l)
never_itself f (inr (inr r)) = let l = r.2 in omega (arith, l)

chained : (f g h : LinkingFault) → Earlier f g → Earlier g h → Earlier f h
chained f g h (inl a) (inl b) = inl (omega (arith, a, b))
chained f g h (inl a) (inr (inl b)) = let s = b.0 in inl (omega (arith, a, s))
chained f g h (inl a) (inr (inr b)) = let s = b.0 in inl (omega (arith, a, s))
chained f g h (inr (inl a)) (inl b) = let s = a.0 in inl (omega (arith, b, s))
chained f g h (inr (inl a)) (inr (inl b)) = let s = a.1 in let t = b.1 in inr (inl (a.0 ∙ b.0, omega (arith, s, t)))
chained f g h (inr (inl a)) (inr (inr b)) = let s = a.1 in let t = b.1 in inr (inl (a.0 ∙ b.0, omega (arith, s, t)))
chained f g h (inr (inr a)) (inl b) = let s = a.0 in inl (omega (arith, b, s))
chained f g h (inr (inr a)) (inr (inl b)) = let s = a.1 in let t = b.1 in inr (inl (a.0 ∙ b.0, omega (arith, s, t)))
chained f g h (inr (inr a)) (inr (inr b)) = let s = a.2 in let t = b.2 in inr (inr (a.0 ∙ b.0, a.1 ∙ b.1, omega (arith, s, t)))

pub precedes_itself : (f : LinkingFault) → precedes f f ≡ false
precedes_itself f = elim (cases_Bool (precedes f f)) [ inl e ↦ absurd (never_itself f (earlier_true f f e)) | inr e ↦ e ]

-- what doesn't precede f doesn't precede one that precedes f
passed_on : (f g h : LinkingFault) → precedes g f ≡ true → precedes h f ≡ false → precedes h g ≡ false
passed_on f g h p n =
    elim (cases_Bool (precedes h g)) [
      | inl e ↦ absurd (true≢false (sym (true_earlier h f (chained h g f (earlier_true h g e) (earlier_true g f p))) ∙ n))
      | inr e ↦ e
    ]

all_passed_on : (fs : List LinkingFault) (f g : LinkingFault) → precedes g f ≡ true → NonePrecedes fs f → NonePrecedes fs g
all_passed_on [] f g p n = tt
all_passed_on (h ∷ fs) f g p n = (passed_on f g h p n.0, all_passed_on fs f g p n.1)

none_joined : (fs gs : List LinkingFault) (f : LinkingFault) → NonePrecedes fs f → NonePrecedes gs f → NonePrecedes (fs ++ gs) f
none_joined [] gs f n m = m
none_joined (g ∷ fs) gs f n m = (n.0, none_joined fs gs f n.1 m)

choose_true : (f g : LinkingFault) (b : Bool) (P : Option LinkingFault → Type 0) → b ≡ true → P (Some g) → P (cond b (Some g) (Some f))
choose_true f g true P e p = p
choose_true f g false P e p = absurd (cc)

choose_false : (f g : LinkingFault) (b : Bool) (P : Option LinkingFault → Type 0) → b ≡ false → P (Some f) → P (cond b (Some g) (Some f))
choose_false f g true P e p = absurd (cc)
choose_false f g false P e p = p

-- one fault more
pub one_more : (fs : List LinkingFault) (found : Option LinkingFault) (g : LinkingFault) → IsFirstOf fs found → IsFirstOf (fs ++ g ∷ []) (earlier found g)
one_more fs None g none = rw none (inl refl, (precedes_itself g, tt))
one_more fs (Some f) g first =
    let P : Option LinkingFault → Type 0 = λ o. IsFirstOf (fs ++ g ∷ []) o in
    elim (cases_Bool (precedes g f)) [
      | inl e ↦ choose_true f g (precedes g f) P e (has_right fs (g ∷ []) g (inl refl), none_joined fs (g ∷ []) g (all_passed_on fs f g e first.1) (precedes_itself g, tt))
      | inr e ↦ choose_false f g (precedes g f) P e (has_left fs (g ∷ []) f first.0, none_joined fs (g ∷ []) f first.1 (e, tt))
    ]

-- the only one
pub the_one : (g : LinkingFault) → IsFirst (g ∷ []) g
the_one g = (inl refl, (precedes_itself g, tt))

pub not_earlier : (f g : LinkingFault) → (Earlier f g → ⊥) → precedes f g ≡ false
not_earlier f g n = elim (cases_Bool (precedes f g)) [ inl e ↦ absurd (n (earlier_true f g e)) | inr e ↦ e ]

-- what doesn't precede g, which doesn't precede f, doesn't precede f
behind_both : (f g h : LinkingFault) → (Earlier g f → ⊥) → Earlier h f → Earlier h g
behind_both f g h n e =
    elim (cases_order f.place.file g.place.file) [
      | inl same ↦ elim (cases_order f.place.at g.place.at) [
        | inl there ↦ elim (cases_lt (rank_of g.why) (rank_of f.why)) [
          | inl lt ↦ absurd (n (inr (inr (sym same, sym there, lt))))
          | inr le ↦ at_place f g h same there le e
        ]
        | inr apart ↦ elim apart [ inl lt ↦ in_file f g h same lt e | inr gt ↦ absurd (n (inr (inl (sym same, gt)))) ]
      ]
      | inr apart ↦ elim apart [ inl lt ↦ before_file f g h lt e | inr gt ↦ absurd (n (inl gt)) ]
    ]
  where
    before_file : (f g h : LinkingFault) → f.place.file < g.place.file → Earlier h f → Earlier h g
    before_file f g h lt (inl a) = inl (omega (arith, a, lt))
    before_file f g h lt (inr (inl b)) = let s = b.0 in inl (omega (arith, s, lt))
    before_file f g h lt (inr (inr b)) = let s = b.0 in inl (omega (arith, s, lt))

    in_file : (f g h : LinkingFault) → f.place.file ≡ g.place.file → f.place.at < g.place.at → Earlier h f → Earlier h g
    in_file f g h same lt (inl a) = inl (omega (arith, a, same))
    in_file f g h same lt (inr (inl b)) = let t = b.1 in inr (inl (b.0 ∙ same, omega (arith, t, lt)))
    in_file f g h same lt (inr (inr b)) = let t = b.1 in inr (inl (b.0 ∙ same, omega (arith, t, lt)))

    at_place : (f g h : LinkingFault) → f.place.file ≡ g.place.file → f.place.at ≡ g.place.at → rank_of f.why ≤ rank_of g.why → Earlier h f → Earlier h g
    at_place f g h same there le (inl a) = inl (omega (arith, a, same))
    at_place f g h same there le (inr (inl b)) = let t = b.1 in inr (inl (b.0 ∙ same, omega (arith, t, there)))
    at_place f g h same there le (inr (inr b)) = let t = b.2 in inr (inr (b.0 ∙ same, b.1 ∙ there, omega (arith, t, le)))

pub kept_behind : (f g h : LinkingFault) → precedes g f ≡ false → precedes h g ≡ false → precedes h f ≡ false
kept_behind f g h n m =
    not_earlier h f (λ e. true≢false (sym (true_earlier h g (behind_both f g h (λ a. true≢false (sym (true_earlier g f a) ∙ n)) e)) ∙ m))

all_behind : (hs : List LinkingFault) (f g : LinkingFault) → precedes g f ≡ false → NonePrecedes hs g → NonePrecedes hs f
all_behind [] f g n m = tt
all_behind (h ∷ hs) f g n m = (kept_behind f g h n m.0, all_behind hs f g n m.1)

-- the first of two lists
pub first_joined : (fs gs : List LinkingFault) (o p : Option LinkingFault) → IsFirstOf fs o → IsFirstOf gs p → IsFirstOf (fs ++ gs) (first_of o p)
first_joined fs gs o None a b = subst (λ xs. IsFirstOf (fs ++ xs) o) (sym b) (subst (λ xs. IsFirstOf xs o) (sym (append-nil fs)) a)
first_joined fs gs None (Some g) a b = subst (λ xs. IsFirstOf (xs ++ gs) (Some g)) (sym a) b
first_joined fs gs (Some f) (Some g) a b =
    let P : Option LinkingFault → Type 0 = λ o. IsFirstOf (fs ++ gs) o in
    elim (cases_Bool (precedes g f)) [
      | inl e ↦ choose_true f g (precedes g f) P e (has_right fs gs g b.0, none_joined fs gs g (all_passed_on fs f g e a.1) b.1)
      | inr e ↦ choose_false f g (precedes g f) P e (has_left fs gs f a.0, none_joined fs gs f a.1 (all_behind gs f g e b.1))
    ]

-- the first of a list is the first of those that it has
none_of : (fs : List LinkingFault) (f g : LinkingFault) → NonePrecedes fs f → HasItem fs g → precedes g f ≡ false
none_of [] f g n h = absurd h
none_of (x ∷ fs) f g n (inl e) = subst (λ y. precedes y f ≡ false) e n.0
none_of (x ∷ fs) f g n (inr h) = none_of fs f g n.1 h

pub first_such : (fs : List LinkingFault) (o : Option LinkingFault) → IsFirstOf fs o → IsFirstSuch (HasItem fs) o
first_such fs None e = λ f h. subst (λ xs. HasItem xs f) e h
first_such fs (Some f) a = (a.0, λ g h. none_of fs f g a.1 h)

-- the first of two kinds
pub such_joined : (P Q R : LinkingFault → Type 0) → ((f : LinkingFault) → R f → P f ⊎ Q f) → ((f : LinkingFault) → P f → R f) → ((f : LinkingFault) → Q f → R f)
    → (o p : Option LinkingFault) → IsFirstSuch P o → IsFirstSuch Q p → IsFirstSuch R (first_of o p)
such_joined P Q R parts left right None None a b = λ f r. elim (parts f r) [ inl x ↦ a f x | inr y ↦ b f y ]
such_joined P Q R parts left right (Some f) None a b =
    (left f a.0, λ g r. elim (parts g r) [ inl x ↦ a.1 g x | inr y ↦ absurd (b g y) ])
such_joined P Q R parts left right None (Some g) a b =
    (right g b.0, λ h r. elim (parts h r) [ inl x ↦ absurd (a h x) | inr y ↦ b.1 h y ])
such_joined P Q R parts left right (Some f) (Some g) a b =
    let S : Option LinkingFault → Type 0 = λ o. IsFirstSuch R o in
    elim (cases_Bool (precedes g f)) [
      | inl e ↦ choose_true f g (precedes g f) S e (right g b.0, λ h r. elim (parts h r) [ inl x ↦ passed_on f g h e (a.1 h x) | inr y ↦ b.1 h y ])
      | inr e ↦ choose_false f g (precedes g f) S e (left f a.0, λ h r. elim (parts h r) [ inl x ↦ a.1 h x | inr y ↦ kept_behind f g h e (b.1 h y) ])
    ]

-- one of these has it, or the last
pub has_last : {A : Type 0} (has : A → LinkingFault → Type 0) (xs : List A) (x : A) (f : LinkingFault) → OneHas has (xs ++ x ∷ []) f → OneHas has xs f ⊎ has x f
has_last has [] x f (inl h) = inr h
has_last has [] x f (inr h) = absurd h
has_last has (y ∷ xs) x f (inl h) = inl (inl h)
has_last has (y ∷ xs) x f (inr h) = elim (has_last has xs x f h) [ inl k ↦ inl (inr k) | inr k ↦ inr k ]

pub of_front : {A : Type 0} (has : A → LinkingFault → Type 0) (xs : List A) (x : A) (f : LinkingFault) → OneHas has xs f → OneHas has (xs ++ x ∷ []) f
of_front has [] x f h = absurd h
of_front has (y ∷ xs) x f (inl h) = inl h
of_front has (y ∷ xs) x f (inr h) = inr (of_front has xs x f h)

pub of_last : {A : Type 0} (has : A → LinkingFault → Type 0) (xs : List A) (x : A) (f : LinkingFault) → has x f → OneHas has (xs ++ x ∷ []) f
of_last has [] x f h = inl h
of_last has (y ∷ xs) x f h = inr (of_last has xs x f h)

pub one_more_has : {A : Type 0} (has : A → LinkingFault → Type 0) (xs : List A) (x : A) (o p : Option LinkingFault)
    → IsFirstSuch (OneHas has xs) o → IsFirstSuch (has x) p → IsFirstSuch (OneHas has (xs ++ x ∷ [])) (first_of o p)
one_more_has has xs x o p a b =
    such_joined (OneHas has xs) (has x) (OneHas has (xs ++ x ∷ [])) (has_last has xs x) (of_front has xs x) (of_last has xs x) o p a b
