-- A walk in depth through a graph without cycles puts each node behind those that its edges lead to.
use Rattle.std.proofs.Common.{◌≡◌, ℕ, zero, suc, ◌+◌, ◌*◌, ◌-◌, ◌<◌, ◌≤◌, arith, Bool, true, false, ◌⊎◌, inl, inr, List, [], ◌∷◌, ◌++◌, length, set, take, replicate, get_or, refl, sym, ap, ◌∙◌, subst, Some}
use Rattle.std.specs.Prelude.{slice_index}
use Rattle.std.proofs.Math.ListN.{length-append, length-set, length-replicate}
use Rattle.std.proofs.lemmas.Bool.{cases_Bool, true≢false}
use Rattle.base_texts.specs.Lists.{HasItem}
use Rattle.base_texts.proofs.Lists.{in_parts, in_front, in_end}
use Rattle.link_names.specs.Graphs.{row, IsEdge}
use Rattle.link_names.specs.Private.Searching.{mark, unseen}
use Rattle.link_names.proofs.Walks.{one_step_more, set_parts, set_here, set_kept, set_less}
use Rattle.link_simple.specs.declared.orders.Step.{Step}
use Rattle.link_simple.proofs.Finishing.{all_unseen}
use Rattle.link_simple.specs.Private.Ordering.{IsAcyclic, IsInside, IsReady, Follow, Reaches, IsOpen, IsWay, all_done, Walked, IsHeld, IsFirstOpen, step}

-- marks

still_free : (done : List Bool) (n m : ℕ) → mark done m ≡ false → (n ≡ m → ⊥) → mark (set done n true) m ≡ false
still_free done n m free apart = elim (cases_Bool (mark (set done n true) m)) [
  | inl e ↦ elim (set_parts done n m e) [ inl old ↦ absurd (true≢false (sym old ∙ free)) | inr same ↦ absurd (apart same) ]
  | inr e ↦ e
]

pub all_seen : (done : List Bool) → ((n : ℕ) → n < length done → mark done n ≡ true) → unseen done ≡ 0
all_seen [] all = refl
all_seen (true ∷ done) all = all_seen done (λ n lt. all (suc n) (omega (arith, lt)))
all_seen (false ∷ done) all = absurd (true≢false (sym (all zero (omega arith))))

-- the order

all_done_more : (done : List Bool) (ns : List ℕ) (n : ℕ) → all_done done (ns ++ n ∷ []) ≡ set (all_done done ns) n true
all_done_more done [] n = refl
all_done_more done (m ∷ ns) n = all_done_more (set done m true) ns n

follow_more : (g : List (List ℕ)) (done : List Bool) (ns : List ℕ) (n : ℕ) → Follow g done ns → IsReady g (all_done done ns) n → Follow g done (ns ++ n ∷ [])
follow_more g done [] n f ready = (ready, tt)
follow_more g done (m ∷ ns) n f ready = (f.0, follow_more g (set done m true) ns n f.1 ready)

pub has_at : (ns : List ℕ) (k : ℕ) → k < length ns → HasItem ns (slice_index ns k)
has_at [] k lt = absurd (omega (arith, lt))
has_at (n ∷ ns) zero lt = inl refl
has_at (n ∷ ns) (suc k) lt = inr (has_at ns k (omega (arith, lt)))

value_at : (ns : List ℕ) (k n : ℕ) → k < length ns → n ≡ get_or ns k n → slice_index ns k ≡ n
value_at [] k n lt is = absurd (omega (arith, lt))
value_at (m ∷ ns) zero n lt is = sym is
value_at (m ∷ ns) (suc k) n lt is = value_at ns k n (omega (arith, lt)) is

-- the way

module _ (g : List (List ℕ)) where
  way_parts : (done : List Bool) (way : List Step) (s : Step) → IsWay g done (way ++ s ∷ [])
      → IsWay g done way × IsOpen g done s × ((t : Step) → HasItem way t → Reaches g t.node s.node)
  way_parts done [] s w = (tt, w.0, λ t h. absurd h)
  way_parts done (x ∷ xs) s w =
      let rest = way_parts done xs s w.2 in (
        (w.0, (λ t h. w.1 t (in_front xs s t h)), rest.0),
        rest.1,
        λ t h. elim h [
          | inl same ↦ subst (λ (y : Step). Reaches g y.node s.node) same (w.1 s (in_end xs s))
          | inr k ↦ rest.2 t k
        ],
      )

  way_more : (done : List Bool) (way : List Step) (s : Step) → IsWay g done way → IsOpen g done s → ((t : Step) → HasItem way t → Reaches g t.node s.node)
      → IsWay g done (way ++ s ∷ [])
  way_more done [] s w o lead = (o, (λ t h. absurd h), tt)
  way_more done (x ∷ xs) s w o lead = (
    w.0,
    (λ t h. elim (in_parts xs s t h) [
      | inl k ↦ w.1 t k
      | inr same ↦ subst (λ (y : Step). Reaches g x.node y.node) same (lead x (inl refl))
    ]),
    way_more done xs s w.2 o (λ t h. lead t (inr h)),
  )

  way_done : (done : List Bool) (n : ℕ) (way : List Step) → IsWay g done way → ((t : Step) → HasItem way t → n ≡ t.node → ⊥) → IsWay g (set done n true) way
  way_done done n [] w apart = tt
  way_done done n (x ∷ xs) w apart = (
    record {
      within = w.0.within;
      free = still_free done n x.node w.0.free (apart x (inl refl));
      followed = λ m h. set_kept done n m (w.0.followed m h);
    },
    w.1,
    way_done done n xs w.2 (λ t h. apart t (inr h)),
  )

-- no node stands on the way twice

pub way_few : (g : List (List ℕ)) → IsAcyclic g → (done : List Bool) (way : List Step) → length done ≡ length g → IsWay g done way → length way ≤ unseen done
way_few g acyclic done [] long w = omega arith
way_few g acyclic done (x ∷ xs) long w =
    let apart : (t : Step) → HasItem xs t → x.node ≡ t.node → ⊥ = λ t h same. acyclic x.node (subst (Reaches g x.node) (sym same) (w.1 t h)) in
    let within = w.0.within in
    let rest = way_few g acyclic (set done x.node true) xs (length-set done x.node true ∙ long) (way_done g done x.node xs w.2 apart) in
    let fewer = set_less done x.node (omega (arith, within, long)) w.0.free in
    omega (arith, rest, fewer)

-- the walk begins

pub walked_first : (g : List (List ℕ)) → Walked g [] (replicate (length g) false) []
walked_first g =
    let all = all_unseen (length g) in
    record { follow = tt; marks = refl; long = length-replicate (length g) false; count = omega (arith, all); ahead = tt }

pub walked_start : (g : List (List ℕ)) (done : List Bool) (order : List ℕ) (n : ℕ) → Walked g [] done order → n < length g → mark done n ≡ false
    → Walked g (step n 0 ∷ []) done order
walked_start g done order n h within free = record {
  follow = h.follow;
  marks = h.marks;
  long = h.long;
  count = h.count;
  ahead = (record { within = within; free = free; followed = λ m none. absurd none }, (λ t none. absurd none), tt);
}

-- and goes on

module _ (g : List (List ℕ)) (inside : IsInside g) (acyclic : IsAcyclic g) (way : List Step) (s : Step) (done : List Bool) (order : List ℕ) (h : Walked g (way ++ s ∷ []) done order) where
  pub is_node : s.node < length g
  is_node = let parts = way_parts g done way s h.ahead in parts.1.within

  pub edges_within : (m : ℕ) → HasItem (row g s.node) m → m < length done
  edges_within m edge = let lt = inside s.node m edge in let long = h.long in omega (arith, lt, long)

  pub edges_followed : (m : ℕ) → HasItem (take s.followed (row g s.node)) m → mark done m ≡ true
  edges_followed = let parts = way_parts g done way s h.ahead in parts.1.followed

  pub walked_on : (k n : ℕ) → IsEdge g s.node n → mark done n ≡ false → ((m : ℕ) → HasItem (take k (row g s.node)) m → mark done m ≡ true)
      → Walked g (way ++ step s.node k ∷ [] ++ step n 0 ∷ []) done order
  walked_on k n edge free before =
      let parts = way_parts g done way s h.ahead in
      let here : IsWay g done (way ++ step s.node k ∷ []) =
      way_more g done way (step s.node k) parts.0 (record { within = parts.1.within; free = parts.1.free; followed = before }) parts.2 in
      let lead : (t : Step) → HasItem (way ++ step s.node k ∷ []) t → Reaches g t.node n = λ t i.
      elim (in_parts way (step s.node k) t i) [
        | inl old ↦ let to = parts.2 t old in (to.0 ++ s.node ∷ [], one_step_more g t.node to.0 s.node n to.1 edge)
        | inr same ↦ subst (λ (y : Step). Reaches g y.node n) same ([], edge)
      ] in
      record {
        follow = h.follow;
        marks = h.marks;
        long = h.long;
        count = h.count;
        ahead = way_more g done (way ++ step s.node k ∷ []) (step n 0) here (record { within = inside s.node n edge; free = free; followed = λ m none. absurd none }) lead;
      }

  -- the edge that was found
  pub edge_found : (k n : ℕ) → IsFirstOpen (row g s.node) done (Some k) → n ≡ get_or (row g s.node) k n → IsEdge g s.node n × (mark done n ≡ false)
  edge_found k n found at =
      let same = value_at (row g s.node) k n found.0 at in (
        subst (HasItem (row g s.node)) same (has_at (row g s.node) k found.0),
        subst (λ x. mark done x ≡ false) same found.1,
      )

  pub walked_back : ((m : ℕ) → HasItem (row g s.node) m → mark done m ≡ true) → Walked g way (set done s.node true) (order ++ s.node ∷ [])
  walked_back all =
      let parts = way_parts g done way s h.ahead in
      let node = parts.1.within in
      let long = h.long in
      let count = h.count in
      let within : s.node < length done = omega (arith, node, long) in
      let fewer = set_less done s.node within parts.1.free in
      let longer = length-append order (s.node ∷ []) in
      let ready : IsReady g done s.node = record { within = within; free = parts.1.free; parts = all } in
      record {
        follow = follow_more g (replicate (length g) false) order s.node h.follow (subst (λ bs. IsReady g bs s.node) h.marks ready);
        marks = ap (λ bs. set bs s.node true) h.marks ∙ sym (all_done_more (replicate (length g) false) order s.node);
        long = length-set done s.node true ∙ h.long;
        count = omega (arith, count, fewer, longer);
        ahead = way_done g done s.node way parts.0 (λ t i same. acyclic s.node (subst (λ x. Reaches g x s.node) (sym same) (parts.2 t i)));
      }

  pub less_on : (k n : ℕ) → 2 * unseen done + length way + 2 ≤ 2 * unseen done + length (way ++ step s.node k ∷ [] ++ step n 0 ∷ [])
  less_on k n =
      let one = length-append way (step s.node k ∷ []) in
      let two = length-append (way ++ step s.node k ∷ []) (step n 0 ∷ []) in
      omega (arith, one, two)

  pub less_back : 2 * unseen (set done s.node true) + length way + 2 ≤ 2 * unseen done + length way
  less_back =
      let parts = way_parts g done way s h.ahead in
      let node = parts.1.within in
      let long = h.long in
      let fewer = set_less done s.node (omega (arith, node, long)) parts.1.free in
      omega (arith, fewer)

  pub held_on : (k n m : ℕ) → IsHeld (way ++ s ∷ []) done m → IsHeld (way ++ step s.node k ∷ [] ++ step n 0 ∷ []) done m
  held_on k n m (inl e) = inl e
  held_on k n m (inr on) = elim (in_parts way s on.0 on.1) [
    | inl old ↦ inr (on.0, in_front (way ++ step s.node k ∷ []) (step n 0) on.0 (in_front way (step s.node k) on.0 old), on.2)
    | inr same ↦ inr (
      step s.node k,
      in_front (way ++ step s.node k ∷ []) (step n 0) (step s.node k) (in_end way (step s.node k)),
      ap (λ (y : Step). y.node) same ∙ on.2,
    )
  ]

  pub held_back : (m : ℕ) → IsHeld (way ++ s ∷ []) done m → IsHeld way (set done s.node true) m
  held_back m (inl e) = inl (set_kept done s.node m e)
  held_back m (inr on) = elim (in_parts way s on.0 on.1) [
    | inl old ↦ inr (on.0, old, on.2)
    | inr same ↦ inl (subst (λ x. mark (set done s.node true) x ≡ true) (ap (λ (y : Step). y.node) same ∙ on.2) (set_here done s.node (edge_room)))
  ]
    where
      edge_room : s.node < length done
      edge_room = let node = is_node in let long = h.long in omega (arith, node, long)

-- at the end

pub walked_end : (g : List (List ℕ)) (done : List Bool) (order : List ℕ) → Walked g [] done order → ((n : ℕ) → n < length g → mark done n ≡ true) → length order ≡ length g
walked_end g done order h all =
    let long = h.long in
    let count = h.count in
    let none = all_seen done (λ n lt. all n (omega (arith, long, lt))) in
    omega (arith, count, none)

-- the walk from one node

pub held_first : (done : List Bool) (node n : ℕ) → (mark done n ≡ true) ⊎ (node ≡ n) → IsHeld (step node 0 ∷ []) done n
held_first done node n (inl e) = inl e
held_first done node n (inr same) = inr (step node 0, inl refl, same)

pub held_last : (done : List Bool) (n : ℕ) → IsHeld [] done n → mark done n ≡ true
held_last done n (inl e) = e
held_last done n (inr on) = absurd on.1

pub smaller : (g : List (List ℕ)) → IsAcyclic g → (way next rest : List Step) (s : Step) (done marks : List Bool) (order : List ℕ) → way ≡ rest ++ s ∷ [] → Walked g next marks order
    → 2 * unseen marks + length rest + 2 ≤ 2 * unseen done + length next → 2 * unseen marks - length next < 2 * unseen done - length way
smaller g acyclic way next rest s done marks order is h less =
    let few = way_few g acyclic marks next h.long h.ahead in
    let long = ap length is in
    let longer = length-append rest (s ∷ []) in
    omega (arith, few, long, longer, less)
