-- It can be told of each simple type whether it is made of itself, so there is a first one or none.
use Rattle.std.proofs.Common.{◌≡◌, ℕ, zero, suc, ◌+◌, ◌<◌, ◌≤◌, arith, Bool, true, false, ◌⊎◌, inl, inr, List, [], ◌∷◌, length, set, replicate, refl, sym, ◌∙◌, subst, None}
use Rattle.std.proofs.Math.ListN.{length-set}
use Rattle.std.proofs.lemmas.List.{length-replicate}
use Rattle.std.proofs.lemmas.Bool.{cases_Bool, cases_lt, cases_eq, true≢false}
use Rattle.link_names.specs.declared.faults.LinkWhy.TheVariants.{CircularType}
use Rattle.link_names.specs.Order.{fault, earlier}
use Rattle.link_names.specs.Cycles.{edges, IsCircularBelow, IsCircularOf}
use Rattle.link_names.specs.Graphs.{row, IsEdge, Leads, IsOnCycle}
use Rattle.base_texts.specs.Lists.{HasItem}
use Rattle.link_names.specs.Private.Searching.{mark, unseen}
use Rattle.link_names.specs.SimpleTypes.{SimpleDefinition}
use Rattle.link_names.proofs.First.{next_step, at_end, none_below}
use Rattle.link_names.proofs.Walks.{set_parts, set_less, unmarked}
use Rattle.link_simple.proofs.Uniqueness.{some_at, unseen_most}
use Rattle.link_schemas.proofs.Firsts.{SomeFirst}

row_within : (g : List (List ℕ)) (n m : ℕ) → HasItem (row g n) m → n < length g
row_within [] n m h = absurd h
row_within (r ∷ g) zero m h = omega arith
row_within (r ∷ g) (suc n) m h = let lt = row_within g n m h in omega (arith, lt)

leads_within : (g : List (List ℕ)) (a : ℕ) (rs : List ℕ) (b : ℕ) → Leads g a rs b → a < length g
leads_within g a [] b h = row_within g a b h
leads_within g a (r ∷ rs) b h = row_within g a r h.0

-- none of these is marked
abbrev Free : List Bool → List ℕ → Type 0
Free marks [] = Unit {0}
Free marks (r ∷ rs) = (mark marks r ≡ false) × Free marks rs

still_free : (marks : List Bool) (r s : ℕ) → mark marks s ≡ false → (r ≡ s → ⊥) → mark (set marks r true) s ≡ false
still_free marks r s free apart = elim (cases_Bool (mark (set marks r true) s)) [
  | inl e ↦ elim (set_parts marks r s e) [ inl old ↦ absurd (true≢false (sym old ∙ free)) | inr same ↦ absurd (apart same) ]
  | inr e ↦ e
]

module _ (g : List (List ℕ)) (b : ℕ) where
  abbrev Walk : ℕ → Type 0
  Walk r = (rs : List ℕ) × Leads g r rs b

  -- by a way that is free
  abbrev NoWay : List Bool → ℕ → Type 0
  NoWay marks r = (rs : List ℕ) → Leads g r rs b → Free marks (r ∷ rs) → ⊥

  -- the part of a walk from the last time on that it comes to a node
  record Rest (marks : List Bool) (r : ℕ) : Type 0 where
    rest : List ℕ
    leads : Leads g r rest b
    free : Free (set marks r true) rest

  cut : (marks : List Bool) (r x : ℕ) (rs : List ℕ) → Leads g x rs b → Free marks rs → Rest marks r ⊎ Free (set marks r true) rs
  cut marks r x [] l f = inr tt
  cut marks r x (s ∷ rs) l f = elim (cut marks r s rs l.1 f.1) [
    | inl found ↦ inl found
    | inr free ↦ elim (cases_eq r s) [
      | inl same ↦ inl (record { rest = rs; leads = subst (λ y. Leads g y rs b) (sym same) l.1; free = free })
      | inr apart ↦ inr (still_free marks r s f.0 apart, free)
    ]
  ]

  last_part : (marks : List Bool) (r : ℕ) (rs : List ℕ) → Leads g r rs b → Free marks rs → Rest marks r
  last_part marks r rs l f = elim (cut marks r r rs l f) [ inl found ↦ found | inr free ↦ record { rest = rs; leads = l; free = free } ]

  -- over the edges of a node
  abbrev Onward : List ℕ → Type 0
  Onward ns = (r : ℕ) × HasItem ns r × ((r ≡ b) ⊎ Walk r)

  abbrev NowhereOn : List Bool → List ℕ → Type 0
  NowhereOn marks ns = (r : ℕ) → HasItem ns r → (r ≡ b → ⊥) × NoWay marks r

  over : (marks : List Bool) → ((r : ℕ) → Walk r ⊎ NoWay marks r) → (ns : List ℕ) → Onward ns ⊎ NowhereOn marks ns
  over marks each [] = inr (λ r h. absurd h)
  over marks each (n ∷ ns) = elim (over marks each ns) [
    | inl found ↦ inl (found.0, inr found.1, found.2)
    | inr none ↦ elim (cases_eq n b) [
      | inl same ↦ inl (n, inl refl, inl same)
      | inr apart ↦ elim (each n) [
        | inl walk ↦ inl (n, inl refl, inr walk)
        | inr nowhere ↦ inr (λ r h. elim h [
          | inl e ↦ subst (λ x. (x ≡ b → ⊥) × NoWay marks x) e (apart, nowhere)
          | inr k ↦ none r k
        ])
      ]
    ]
  ]

  walk_on : (a : ℕ) → Onward (row g a) → Walk a
  walk_on a (r, edge, inl same) = ([], subst (λ x. IsEdge g a x) same edge)
  walk_on a (r, edge, inr walk) = (r ∷ walk.0, (edge, walk.1))

  nowhere_by : (marks : List Bool) (a : ℕ) → NowhereOn marks (row g a) → (rs : List ℕ) → Leads g a rs b → Free marks rs → ⊥
  nowhere_by marks a none [] l f = (none b l).0 refl
  nowhere_by marks a none (r ∷ rs) l f = (none r l.0).1 rs l.1 f

  way_from : (fuel : ℕ) (marks : List Bool) → length marks ≡ length g → unseen marks ≤ fuel → (r : ℕ) → Walk r ⊎ NoWay marks r
  way_from zero marks long few r = inr (λ rs l f.
      let lt = leads_within g r rs b l in
      let fewer = set_less marks r (omega (arith, long, lt)) f.0 in
      omega (arith, fewer, few))
  way_from (suc k) marks long few r = elim (cases_lt r (length g)) [
    | inr past ↦ inr (λ rs l f. let lt = leads_within g r rs b l in omega (arith, lt, past))
    | inl lt ↦ elim (cases_Bool (mark marks r)) [
      | inl marked ↦ inr (λ rs l f. true≢false (sym marked ∙ f.0))
      | inr free ↦
          let fewer = set_less marks r (omega (arith, long, lt)) free in
          elim (over (set marks r true) (way_from k (set marks r true) (length-set marks r true ∙ long) (omega (arith, fewer, few))) (row g r)) [
            | inl on ↦ inl (walk_on r on)
            | inr none ↦ inr (λ rs l f. let part = last_part marks r rs l f.1 in nowhere_by (set marks r true) r none part.rest part.leads part.free)
          ]
    ]
  ]

  all_free : (k : ℕ) (rs : List ℕ) → Free (replicate k false) rs
  all_free k [] = tt
  all_free k (r ∷ rs) = (elim (cases_Bool (mark (replicate k false) r)) [ inl e ↦ absurd (unmarked k r e) | inr e ↦ e ], all_free k rs)

  pub walk_or_none : (a : ℕ) → Walk a ⊎ ((rs : List ℕ) → Leads g a rs b → ⊥)
  walk_or_none a =
      let none = replicate (length g) false in
      let long = length-replicate (length g) false in
      let most = unseen_most none in
      elim (over none (way_from (length g) none long (omega (arith, most, long))) (row g a)) [
        | inl on ↦ inl (walk_on a on)
        | inr nowhere ↦ inr (λ rs l. nowhere_by none a nowhere rs l (all_free (length g) rs))
      ]

on_cycle : (g : List (List ℕ)) (a : ℕ) → IsOnCycle g a ⊎ (IsOnCycle g a → ⊥)
on_cycle g a = elim (walk_or_none g a a) [ inl walk ↦ inl walk | inr none ↦ inr (λ h. none h.0 h.1) ]

module _ (ds : List SimpleDefinition) where
  below : (n : ℕ) → n ≤ length ds → SomeFirst (IsCircularBelow ds n)
  below zero le = (None, none_below ds)
  below (suc n) le =
      let before = below n (omega (arith, le)) in
      let at = some_at ds n (omega (arith, le)) in
      let same : n + 1 ≡ suc n = omega arith in
      subst (λ k. SomeFirst (IsCircularBelow ds k)) same (elim (on_cycle (edges ds) n) [
        | inl cycle ↦
            let g = fault CircularType at.0.place in
            (earlier before.0 g, next_step ds n at.0 at.1 before.0 (earlier before.0 g) before.1 (inl (cycle, refl)))
        | inr none ↦ (before.0, next_step ds n at.0 at.1 before.0 before.0 before.1 (inr (refl, λ cycle. absurd (none cycle))))
      ])

  pub some_circular : SomeFirst (IsCircularOf ds)
  some_circular = let all = below (length ds) (omega arith) in (all.0, at_end ds (length ds) (omega arith) all.0 all.1)
