-- Attributes read from the last to the first, with a set of the names of those behind.
use Rattle.std.proofs.Common.{◌≡◌, ℕ, ◌+◌, ◌-◌, ◌<◌, ◌≤◌, arith, Bool, true, false, cond, ◌||◌, ◌&&◌, List, [], ◌∷◌, length, map, filter, drop, get_or, refl, sym, ap, ◌∙◌, Bor, add-one, drop-cons, nat_cmp}
use Rattle.std.specs.Prelude.{not}
use Rattle.std.specs.List.{list_any}
use Rattle.std.specs.Str.{bytes_eq}
use Rattle.std.specs.Cmp.{IsTotalOrder, both_ways}
use Rattle.std.specs.Cmp.Lexicographic.{slice_cmp}
use Rattle.std.specs.Ordering.{is_eq, ordering_then}
use Rattle.std.specs.BTreeSet as sorted
use Rattle.std.specs.BTreeSet.{BTreeSet}
use Rattle.std.specs.declared.cmp.Ordering.{Ordering}
use Rattle.std.specs.declared.cmp.Ordering.TheVariants.{Less, Equal, Greater}
use Rattle.std.proofs.lemmas.Cmp.{tied_itself, nat_list_cmp_total, on_total, then_total}
use Rattle.std.proofs.lemmas.Slice.Eq.{bytes_eq-Decides}
use Rattle.std.proofs.lemmas.Map.Lookups.{exact_bytes, exact_pairs}
use Rattle.std.proofs.lemmas.Map.Text.{is_eq-slice_cmp}
use Rattle.base_texts.specs.declared.texts.Name.{Name}
use Rattle.base_texts.specs.Names.{name_eq}
use Rattle.base_texts.proofs.NameLaws.{name_eq-Decides, same_names}
use Rattle.xml_pieces.specs.declared.found.Attribute.{Attribute}
use Rattle.xml_pieces.specs.Found.{attribute_of}
use Rattle.xml_pieces.specs.Namespaces.{binds, plain_of, attribute_name, attributes_of, written_twice, expanded_twice, has_name}
use Rattle.xml_pieces.proofs.Lists.{any_map, any_filter}

equal_of : (r : Ordering) → is_eq r ≡ true → r ≡ Equal
equal_of Less e = absurd (cc)
equal_of Equal e = refl
equal_of Greater e = absurd (cc)

choose : (b c : Bool) → cond b true c ≡ (b || c)
choose true c = refl
choose false c = refl

or_parts : (a b : Bool) → (a || b) ≡ false → (a ≡ false) × (b ≡ false)
or_parts true b e = absurd cc
or_parts false b e = (refl, e)

not_so : (p q : Bool) → (p ≡ true → q ≡ true) → q ≡ false → p ≡ false
not_so true q h e = let k = sym e ∙ h refl in absurd cc
not_so false q h e = refl

or_swap : (a b : Bool) → (a || b) ≡ (b || a)
or_swap true true = refl
or_swap true false = refl
or_swap false true = refl
or_swap false false = refl

not_not : (b : Bool) → not (not b) ≡ b
not_not true = refl
not_not false = refl

-- what is left from a place on: that at the place, and what is behind
cut : {A : Type 0} (xs : List A) (at : ℕ) (d : A) → at < length xs → drop at xs ≡ get_or xs at d ∷ drop (at + 1) xs
cut xs at d lt = rw add-one (drop-cons xs at d lt)

-- those that bind
abbrev pub binding : List Attribute → List (List ℕ × List ℕ)
binding attributes = filter (λ a. binds a.0) (map attribute_of attributes)

-- the set has just the names of these as written
pub record HasBound (later : BTreeSet (Bor (List ℕ))) (attributes : List Attribute) : Type 0 where
  pub just : (q : Bor (List ℕ)) → sorted.contains (λ x y. slice_cmp nat_cmp x.now y.now) later q ≡ list_any (λ a. bytes_eq a.0 q.now) (binding attributes)

-- a local name with its namespace, and their order
abbrev pub Key : Type 0
Key = Bor (List ℕ) × Bor (List ℕ)

abbrev pub key_cmp : Key → Key → Ordering
key_cmp x y = ordering_then (slice_cmp nat_cmp x.0.now y.0.now) (slice_cmp nat_cmp x.1.now y.1.now)

abbrev name_at : Key → Name
name_at key = record { space = key.1.now; local = key.0.now }

-- the set has just the expanded names
pub record HasExpanded (later : BTreeSet Key) (attributes : List (Name × List ℕ)) : Type 0 where
  pub just : (q : Key) → sorted.contains key_cmp later q ≡ has_name (name_at q) attributes

found : (twice added c : Bool) (any rest : Bool) → twice ≡ rest → added ≡ not c → c ≡ any → (twice || not added) ≡ (any || rest)
found twice added c any rest e f g = rw (e, f, not_not c, g) (or_swap rest any)

-- behind the place before n is what is left from n on
behind : (n : ℕ) → 0 < n → (n - 1) + 1 ≡ n
behind n lt = omega arith

within : (n len : ℕ) → 0 < n → n ≤ len → n - 1 < len
within n len lt le = omega arith

-- what is left from the place before n is the attribute at it, and what is behind
here_on : {A : Type 0} (xs : List A) (n : ℕ) (x : A) → 0 < n → n ≤ length xs → x ≡ get_or xs (n - 1) x → drop (n - 1) xs ≡ x ∷ drop n xs
here_on xs n x lt le here = cut xs (n - 1) x (within n (length xs) lt le) ∙ rw (behind n lt) (ap (λ y. y ∷ drop n xs) (sym here))

module _ (attributes : List Attribute) (n : ℕ) (x : Attribute) (old new : BTreeSet (Bor (List ℕ))) (twice added : Bool) where
  pub one_bound : 0 < n → n ≤ length attributes → x ≡ get_or attributes (n - 1) x → binds x.name.now ≡ true
      → HasBound old (drop n attributes) → twice ≡ written_twice (binding (drop n attributes))
      → added ≡ not (sorted.contains (λ x y. slice_cmp nat_cmp x.now y.now) old x.name)
      → sorted.Updates (λ x y. slice_cmp nat_cmp x.now y.now) old new x.name true
      → HasBound new (drop (n - 1) attributes) × ((twice || not added) ≡ written_twice (binding (drop (n - 1) attributes)))
  one_bound lt le here is_binding has so_far is up =
      let step : HasBound new (x ∷ drop n attributes) = record {
        just = λ q.
            let at : sorted.contains (λ x y. slice_cmp nat_cmp x.now y.now) new q ≡ cond (is_eq (slice_cmp nat_cmp x.name.now q.now)) true (sorted.contains (λ x y. slice_cmp nat_cmp x.now y.now) old q) = up.0 q in
            at ∙ rw (is_eq-slice_cmp x.name.now q.now, has.just q, is_binding) (choose (bytes_eq x.name.now q.now) (list_any (λ a. bytes_eq a.0 q.now) (binding (drop n attributes))));
      } in
      rw (here_on attributes n x lt le here)
      (step, rw is_binding (found twice added _ (list_any (λ a. bytes_eq a.0 x.name.now) (binding (drop n attributes))) (written_twice (binding (drop n attributes))) so_far is (has.just x.name)))

  pub one_plain : 0 < n → n ≤ length attributes → x ≡ get_or attributes (n - 1) x → binds x.name.now ≡ false
      → HasBound old (drop n attributes) → twice ≡ written_twice (binding (drop n attributes))
      → HasBound old (drop (n - 1) attributes) × (twice ≡ written_twice (binding (drop (n - 1) attributes)))
  one_plain lt le here is_plain has so_far =
      let same : binding (drop (n - 1) attributes) ≡ binding (drop n attributes) = ap binding (here_on attributes n x lt le here) ∙ rw is_plain refl in
      (record { just = λ q. has.just q ∙ ap (list_any (λ a. bytes_eq a.0 q.now)) (sym same) }, so_far ∙ ap written_twice (sym same))

-- names in the order of their local names, and of those in that of their namespaces
abbrev local_first : Name → Name → Ordering
local_first a b = ordering_then (slice_cmp nat_cmp a.local b.local) (slice_cmp nat_cmp a.space b.space)

local_first_total : IsTotalOrder local_first
local_first_total = then_total (on_total (λ (n : Name). n.local) nat_list_cmp_total) (on_total (λ (n : Name). n.space) nat_list_cmp_total)

same_at : (x y : Key) → key_cmp x y ≡ Equal → name_at x ≡ name_at y
same_at x y e =
    let same = exact_pairs (slice_cmp nat_cmp) (slice_cmp nat_cmp) exact_bytes exact_bytes (x.0.now, x.1.now) (y.0.now, y.1.now) e in
    same_names (name_at x) (name_at y) (ap (λ p. p.1) same) (ap (λ p. p.0) same)

tied : (x y : Key) → name_at x ≡ name_at y → is_eq (key_cmp x y) ≡ true
tied x y e = ap (λ z. is_eq (local_first (name_at x) z)) (sym e) ∙ ap is_eq (tied_itself local_first_total (name_at x))

is_eq-key_cmp : (x y : Key) → is_eq (key_cmp x y) ≡ name_eq (name_at x) (name_at y)
is_eq-key_cmp x y = both_ways (is_eq (key_cmp x y)) (name_eq (name_at x) (name_at y))
    (λ e. (name_eq-Decides (name_at x) (name_at y)).1 (same_at x y (equal_of (key_cmp x y) e)))
    (λ e. tied x y ((name_eq-Decides (name_at x) (name_at y)).0 e))

module _ (attributes : List (Name × List ℕ)) (n : ℕ) (x : Name × List ℕ) (key : Key) (old new : BTreeSet Key) (twice added : Bool) where
  pub one_expanded : 0 < n → n ≤ length attributes → x ≡ get_or attributes (n - 1) x → name_at key ≡ x.0
      → HasExpanded old (drop n attributes) → twice ≡ expanded_twice (drop n attributes)
      → added ≡ not (sorted.contains key_cmp old key)
      → sorted.Updates key_cmp old new key true
      → HasExpanded new (drop (n - 1) attributes) × ((twice || not added) ≡ expanded_twice (drop (n - 1) attributes))
  one_expanded lt le here named has so_far is up =
      let step : HasExpanded new (x ∷ drop n attributes) = record {
        just = λ q.
            let at : sorted.contains key_cmp new q ≡ cond (is_eq (key_cmp key q)) true (sorted.contains key_cmp old q) = up.0 q in
            at ∙ (λ i. cond ((is_eq-key_cmp key q ∙ ap (λ (m : Name). name_eq m (name_at q)) named) i) true (has.just q i)) ∙ choose (name_eq x.0 (name_at q)) (has_name (name_at q) (drop n attributes));
      } in
      rw (here_on attributes n x lt le here)
      (step, found twice added _ (has_name x.0 (drop n attributes)) (expanded_twice (drop n attributes)) so_far is (has.just key ∙ ap (λ (m : Name). has_name m (drop n attributes)) named))

-- fewer than two
pub few_expanded : (xs : List (Name × List ℕ)) → length xs < 2 → false ≡ expanded_twice xs
few_expanded [] h = refl
few_expanded (x ∷ []) h = refl
few_expanded (x ∷ y ∷ xs) h = absurd (omega (arith, h))

few_kept : (x : List ℕ × List ℕ) (b : Bool) → false ≡ written_twice (cond b (x ∷ []) [])
few_kept x true = refl
few_kept x false = refl

pub few_bound : (xs : List Attribute) → length xs < 2 → false ≡ written_twice (binding xs)
few_bound [] h = refl
few_bound (x ∷ []) h = few_kept (attribute_of x) (binds x.name.now)
few_bound (x ∷ y ∷ xs) h = absurd (omega (arith, h))

-- ---- two of one written name that bind nothing have one expanded name

implied : (c d : Bool) → (d ≡ true → c ≡ true) → (c && d) ≡ d
implied true d h = refl
implied false true h = let e = h refl in absurd cc
implied false false h = refl

any_same : {A : Type 0} (p q : A → Bool) → ((x : A) → p x ≡ q x) → (xs : List A) → list_any p xs ≡ list_any q xs
any_same p q h [] = refl
any_same p q h (x ∷ xs) = rw (h x, any_same p q h xs) refl

any_less : {A : Type 0} (p q : A → Bool) → ((x : A) → p x ≡ true → q x ≡ true) → (xs : List A) → list_any q xs ≡ false → list_any p xs ≡ false
any_less p q h [] e = refl
any_less p q h (x ∷ xs) e =
    let k = or_parts (q x) (list_any q xs) e in
    rw (not_so (p x) (q x) (h x) k.0) (any_less p q h xs k.1)

same_bytes : (a b : List ℕ) → bytes_eq a b ≡ true → a ≡ b
same_bytes a b e = (bytes_eq-Decides a b).0 e

-- what has the name of one that binds is one that binds
among : (written : List ℕ) (ws : List (List ℕ × List ℕ)) → binds written ≡ true
    → list_any (λ a. bytes_eq a.0 written) (filter (λ a. binds a.0) ws) ≡ list_any (λ a. bytes_eq a.0 written) ws
among written ws b =
    any_filter (λ (a : List ℕ × List ℕ). bytes_eq a.0 written) (λ a. binds a.0) ws
    ∙ any_same (λ (a : List ℕ × List ℕ). binds a.0 && bytes_eq a.0 written) (λ a. bytes_eq a.0 written)
    (λ a. implied (binds a.0) (bytes_eq a.0 written) (λ e. ap binds (same_bytes a.0 written e) ∙ b)) ws

-- none is written as one whose expanded name none has
absent : (scope : List (List ℕ × List ℕ)) (written : List ℕ) (ws : List (List ℕ × List ℕ)) → binds written ≡ false
    → has_name (attribute_name scope written) (attributes_of scope ws) ≡ false → list_any (λ a. bytes_eq a.0 written) ws ≡ false
absent scope written ws plain none =
    let name : List ℕ × List ℕ → Name × List ℕ = λ a. (attribute_name scope a.0, a.1) in
    let here = any_map (λ (x : Name × List ℕ). name_eq x.0 (attribute_name scope written)) name (plain_of ws)
    ∙ any_filter (λ (a : List ℕ × List ℕ). name_eq (attribute_name scope a.0) (attribute_name scope written)) (λ a. not (binds a.0)) ws in
    any_less (λ (a : List ℕ × List ℕ). bytes_eq a.0 written) (λ a. not (binds a.0) && name_eq (attribute_name scope a.0) (attribute_name scope written))
    (λ a e. rw (same_bytes a.0 written e, plain) ((name_eq-Decides (attribute_name scope written) (attribute_name scope written)).1 refl)) ws (sym here ∙ none)

covered_one : (scope : List (List ℕ × List ℕ)) (w : List ℕ × List ℕ) (ws : List (List ℕ × List ℕ)) (b : Bool) → binds w.0 ≡ b
    → expanded_twice (map (λ (a : List ℕ × List ℕ). (attribute_name scope a.0, a.1)) (cond (not b) (w ∷ plain_of ws) (plain_of ws))) ≡ false
    → (expanded_twice (attributes_of scope ws) ≡ false → written_twice (filter (λ a. binds a.0) ws) ≡ written_twice ws)
    → written_twice (cond b (w ∷ filter (λ a. binds a.0) ws) (filter (λ a. binds a.0) ws)) ≡ written_twice (w ∷ ws)
covered_one scope w ws true is none later = rw (among w.0 ws is, later none) refl
covered_one scope w ws false is none later =
    let h = or_parts (has_name (attribute_name scope w.0) (attributes_of scope ws)) (expanded_twice (attributes_of scope ws)) none in
    rw (absent scope w.0 ws is h.0) (later h.1)

covered : (scope ws : List (List ℕ × List ℕ)) → expanded_twice (attributes_of scope ws) ≡ false → written_twice (filter (λ a. binds a.0) ws) ≡ written_twice ws
covered scope [] none = refl
covered scope (w ∷ ws) none = covered_one scope w ws (binds w.0) refl none (covered scope ws)

either_way : (a b c : Bool) → (c ≡ false → a ≡ b) → (a || c) ≡ (b || c)
either_way true true c h = refl
either_way false false c h = refl
either_way a b true h = or_swap a true ∙ or_swap true b
either_way a b false h = ap (λ z. z || false) (h refl)

-- so of the names as written only those of attributes that bind need be compared
pub by_bound : (scope ws : List (List ℕ × List ℕ)) (attributes : List (Name × List ℕ)) → attributes ≡ attributes_of scope ws
    → (written_twice (filter (λ a. binds a.0) ws) || expanded_twice attributes) ≡ (written_twice ws || expanded_twice attributes)
by_bound scope ws attributes are =
    either_way (written_twice (filter (λ a. binds a.0) ws)) (written_twice ws) (expanded_twice attributes) (λ none. covered scope ws (ap expanded_twice (sym are) ∙ none))
