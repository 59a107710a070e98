-- The first element particle of a name, and the first with another type: what they tell of all.
use Rattle.std.proofs.Common.{◌≡◌, arith, Bool, true, false, ◌⊎◌, inl, inr, List, [], ◌∷◌, ◌++◌, Option, Some, None, refl, sym, ap, ◌∙◌, subst}
use Rattle.std.specs.Prelude.{cond}
use Rattle.std.proofs.lemmas.Bool.{cases_order, cases_lt, cases_Bool}
use Rattle.base_texts.specs.declared.texts.Name.{Name}
use Rattle.base_texts.proofs.Lists.{in_parts, in_front, in_end}
use Rattle.link_names.specs.declared.places.Place.{Place}
use Rattle.link_names.specs.Order.{is_before}
use Rattle.link_names.specs.Private.Tables.{lesser, stands_before}
use Rattle.link_names.proofs.Firsts.{Before, before_true, true_before, before_false}
use Rattle.link_complex.specs.ElementTypes.{TypeIdentity, TypedParticle, IsOther}
use Rattle.base_texts.specs.Lists.{HasItem}
use Rattle.link_complex.specs.Private.Leading.{Leader, leading, joined, has_other}

-- the order of places

itself : (a : Place) → Before a a → ⊥
itself a (inl l) = omega (arith, l)
itself a (inr r) = let l = r.1 in omega (arith, l)

through : (a b c : Place) → Before a b → Before b c → Before a c
through a b c (inl x) (inl y) = inl (omega (arith, x, y))
through a b c (inl x) (inr y) = let s = y.0 in inl (omega (arith, x, s))
through a b c (inr x) (inl y) = let s = x.0 in inl (omega (arith, y, s))
through a b c (inr x) (inr y) = let s = x.1 in let t = y.1 in inr (x.0 ∙ y.0, omega (arith, s, t))

-- b is at a or behind it
past : (a b c : Place) → (Before b a → ⊥) → Before b c → Before a c
past a b c n (inl x) = elim (cases_lt b.file a.file) [ inl lt ↦ absurd (n (inl lt)) | inr le ↦ inl (omega (arith, x, le)) ]
past a b c n (inr x) =
    let s = x.0 in
    let t = x.1 in
    elim (cases_order a.file b.file) [
      | inl same ↦ elim (cases_lt b.at a.at) [ inl lt ↦ absurd (n (inr (sym same, lt))) | inr le ↦ inr (same ∙ s, omega (arith, t, le)) ]
      | inr apart ↦ elim apart [ inl lt ↦ inl (omega (arith, lt, s)) | inr gt ↦ absurd (n (inl gt)) ]
    ]

-- what stands before b, where c isn't before b, stands before c
short : (a b c : Place) → Before a b → (Before c b → ⊥) → Before a c
short a b c x n = elim (cases_Bool (is_before a c)) [
  | inl e ↦ before_true a c e
  | inr e ↦ absurd (n (past c a b (before_false a c e) x))
]

-- what a leader tells of the particles of a name

abbrev pub OtherTold : List TypedParticle → Name → Option TypeIdentity → Option Place → Type 0
OtherTold ps a k None = (q : TypedParticle) → HasItem ps q → q.name ≡ a → q.kind ≡ k
OtherTold ps a k (Some s) =
    ((q : TypedParticle) × HasItem ps q × (q.name ≡ a) × (q.place ≡ s) × (q.kind ≡ k → ⊥))
    × ((q : TypedParticle) → HasItem ps q → q.name ≡ a → Before q.place s → q.kind ≡ k)

pub record Leads (ps : List TypedParticle) (a : Name) (l : Leader) : Type 0 where
  pub here : (q : TypedParticle) × HasItem ps q × (q.name ≡ a) × (q.place ≡ l.place) × (q.kind ≡ l.kind)
  pub least : (q : TypedParticle) → HasItem ps q → q.name ≡ a → Before q.place l.place → ⊥
  pub other : OtherTold ps a l.kind l.other

-- none has the name, or one leads
abbrev pub Told : List TypedParticle → Name → Option Leader → Type 0
Told ps a None = (q : TypedParticle) → HasItem ps q → q.name ≡ a → ⊥
Told ps a (Some l) = Leads ps a l

-- the first of a name
pub first_leads : (ps : List TypedParticle) (p : TypedParticle) (a : Name) → Told ps a None → p.name ≡ a → Leads (ps ++ p ∷ []) a (leading p)
first_leads ps p a none is = record {
  here = (p, in_end ps p, is, refl, refl);
  least = λ q h n b. elim (in_parts ps p q h) [ inl k ↦ none q k n | inr e ↦ itself p.place (subst (λ (x : TypedParticle). Before x.place p.place) (sym e) b) ];
  other = λ q h n. elim (in_parts ps p q h) [ inl k ↦ absurd (none q k n) | inr e ↦ ap (λ (x : TypedParticle). x.kind) (sym e) ];
}

-- a particle of another name
other_told : (ps : List TypedParticle) (p : TypedParticle) (a : Name) (k : Option TypeIdentity) (s : Option Place) → (p.name ≡ a → ⊥)
    → OtherTold ps a k s → OtherTold (ps ++ p ∷ []) a k s
other_told ps p a k None apart t =
    λ q h n. elim (in_parts ps p q h) [ inl x ↦ t q x n | inr e ↦ absurd (apart (ap (λ (x : TypedParticle). x.name) e ∙ n)) ]
other_told ps p a k (Some s) apart t = (
  (t.0.0, in_front ps p t.0.0 t.0.1, t.0.2, t.0.3, t.0.4),
  λ q h n b. elim (in_parts ps p q h) [ inl x ↦ t.1 q x n b | inr e ↦ absurd (apart (ap (λ (x : TypedParticle). x.name) e ∙ n)) ],
)

pub still_told : (ps : List TypedParticle) (p : TypedParticle) (a : Name) (o : Option Leader) → (p.name ≡ a → ⊥) → Told ps a o → Told (ps ++ p ∷ []) a o
still_told ps p a None apart t =
    λ q h n. elim (in_parts ps p q h) [ inl x ↦ t q x n | inr e ↦ absurd (apart (ap (λ (x : TypedParticle). x.name) e ∙ n)) ]
still_told ps p a (Some l) apart t = record {
  here = (t.here.0, in_front ps p t.here.0 t.here.1, t.here.2, t.here.3, t.here.4);
  least = λ q h n b. elim (in_parts ps p q h) [ inl x ↦ t.least q x n b | inr e ↦ absurd (apart (ap (λ (x : TypedParticle). x.name) e ∙ n)) ];
  other = other_told ps p a l.kind l.other apart t.other;
}

-- one more of the name

module _ (ps : List TypedParticle) (p : TypedParticle) (a : Name) (l : Leader) (is : p.name ≡ a) (t : Leads ps a l) where
  at_end : (q : TypedParticle) → p ≡ q → p.kind ≡ q.kind
  at_end q e = ap (λ (x : TypedParticle). x.kind) e

  place_end : (q : TypedParticle) (r : Place) → p ≡ q → Before q.place r → Before p.place r
  place_end q r e b = subst (λ (x : TypedParticle). Before x.place r) (sym e) b

  same_other : (s : Option Place) → p.kind ≡ l.kind → OtherTold ps a l.kind s → OtherTold (ps ++ p ∷ []) a l.kind s
  same_other None k o = λ q h n. elim (in_parts ps p q h) [ inl x ↦ o q x n | inr e ↦ sym (at_end q e) ∙ k ]
  same_other (Some s) k o = (
    (o.0.0, in_front ps p o.0.0 o.0.1, o.0.2, o.0.3, o.0.4),
    λ q h n b. elim (in_parts ps p q h) [ inl x ↦ o.1 q x n b | inr e ↦ sym (at_end q e) ∙ k ],
  )

  same_behind : p.kind ≡ l.kind → (Before p.place l.place → ⊥) → Leads (ps ++ p ∷ []) a (record { place = l.place; kind = l.kind; other = l.other })
  same_behind k behind = record {
    here = (t.here.0, in_front ps p t.here.0 t.here.1, t.here.2, t.here.3, t.here.4);
    least = λ q h n b. elim (in_parts ps p q h) [ inl x ↦ t.least q x n b | inr e ↦ behind (place_end q l.place e b) ];
    other = same_other l.other k t.other;
  }

  -- it has another type and stands before the first
  other_before : (l.kind ≡ p.kind → ⊥) → Before p.place l.place → Leads (ps ++ p ∷ []) a (record { place = p.place; kind = p.kind; other = Some l.place })
  other_before apart before = record {
    here = (p, in_end ps p, is, refl, refl);
    least = λ q h n b. elim (in_parts ps p q h) [ inl x ↦ t.least q x n (through q.place p.place l.place b before) | inr e ↦ itself p.place (place_end q p.place e b) ];
    other = (
      (t.here.0, in_front ps p t.here.0 t.here.1, t.here.2, t.here.3, λ e. apart (sym t.here.4 ∙ e)),
      λ q h n b. elim (in_parts ps p q h) [ inl x ↦ absurd (t.least q x n b) | inr e ↦ sym (at_end q e) ],
    );
  }

  later_other : (s : Option Place) → (l.kind ≡ p.kind → ⊥) → OtherTold ps a l.kind s → OtherTold (ps ++ p ∷ []) a l.kind (Some (lesser p.place s))
  later_other None apart o = (
    (p, in_end ps p, is, refl, λ e. apart (sym e)),
    λ q h n b. elim (in_parts ps p q h) [ inl x ↦ o q x n | inr e ↦ absurd (itself p.place (place_end q p.place e b)) ],
  )
  later_other (Some s) apart o =
      elim (cases_Bool (is_before s p.place)) [
        | inl e ↦ subst (λ (x : Place). OtherTold (ps ++ p ∷ []) a l.kind (Some x)) (sym (ap (λ c. cond c s p.place) e)) (
          (o.0.0, in_front ps p o.0.0 o.0.1, o.0.2, o.0.3, o.0.4),
          λ q h n b. elim (in_parts ps p q h) [ inl x ↦ o.1 q x n b | inr d ↦ absurd (itself s (through s p.place s (before_true s p.place e) (place_end q s d b))) ],
        )
        | inr e ↦ subst (λ (x : Place). OtherTold (ps ++ p ∷ []) a l.kind (Some x)) (sym (ap (λ c. cond c s p.place) e)) (
          (p, in_end ps p, is, refl, λ d. apart (sym d)),
          λ q h n b. elim (in_parts ps p q h) [ inl x ↦ o.1 q x n (short q.place p.place s b (before_false s p.place e)) | inr d ↦ absurd (itself p.place (place_end q p.place d b)) ],
        )
      ]

  other_behind : (l.kind ≡ p.kind → ⊥) → (Before p.place l.place → ⊥)
      → Leads (ps ++ p ∷ []) a (record { place = l.place; kind = l.kind; other = Some (lesser p.place l.other) })
  other_behind apart behind = record {
    here = (t.here.0, in_front ps p t.here.0 t.here.1, t.here.2, t.here.3, t.here.4);
    least = λ q h n b. elim (in_parts ps p q h) [ inl x ↦ t.least q x n b | inr e ↦ behind (place_end q l.place e b) ];
    other = later_other l.other apart t.other;
  }

  same_level : p.kind ≡ l.kind → (Before l.place p.place → ⊥) → Leads (ps ++ p ∷ []) a (record { place = p.place; kind = l.kind; other = l.other })
  same_level k not_behind = record {
    here = (p, in_end ps p, is, refl, k);
    least = λ q h n b. elim (in_parts ps p q h) [ inl x ↦ t.least q x n (short q.place p.place l.place b not_behind) | inr e ↦ itself p.place (place_end q p.place e b) ];
    other = same_other l.other k t.other;
  }

  pub joined_leads : (same : Bool) → (same ≡ true → l.kind ≡ p.kind) → (same ≡ false → l.kind ≡ p.kind → ⊥) → Leads (ps ++ p ∷ []) a (joined same l p)
  joined_leads true equal apart =
      elim (cases_Bool (is_before l.place p.place)) [
        | inl e ↦ subst (λ (x : Place). Leads (ps ++ p ∷ []) a (record { place = x; kind = l.kind; other = l.other })) (sym (ap (λ c. cond c l.place p.place) e))
            (same_behind (sym (equal refl)) (λ b. itself p.place (through p.place l.place p.place b (before_true l.place p.place e))))
        | inr e ↦ subst (λ (x : Place). Leads (ps ++ p ∷ []) a (record { place = x; kind = l.kind; other = l.other })) (sym (ap (λ c. cond c l.place p.place) e))
            (same_level (sym (equal refl)) (before_false l.place p.place e))
      ]
  joined_leads false equal apart =
      let earlier_one : Leader = record { place = p.place; kind = p.kind; other = Some l.place } in
      let later_one : Leader = record { place = l.place; kind = l.kind; other = Some (lesser p.place l.other) } in
      elim (cases_Bool (is_before p.place l.place)) [
        | inl e ↦ subst (Leads (ps ++ p ∷ []) a) (sym (ap (λ c. cond c earlier_one later_one) e)) (other_before (apart refl) (before_true p.place l.place e))
        | inr e ↦ subst (Leads (ps ++ p ∷ []) a) (sym (ap (λ c. cond c earlier_one later_one) e)) (other_behind (apart refl) (before_false p.place l.place e))
      ]

-- whether one of another type stands before a particle

other_true : (ps : List TypedParticle) (p : TypedParticle) (k : Option TypeIdentity) (s : Option Place) → k ≡ p.kind → OtherTold ps p.name k s
    → stands_before s p.place ≡ true → IsOther ps p
other_true ps p k None equal o e = absurd (cc)
other_true ps p k (Some s) equal o e =
    (o.0.0, o.0.1, o.0.2, ap (λ (x : Place). is_before x p.place) o.0.3 ∙ e, λ d. o.0.4 (d ∙ sym equal))

true_other : (ps : List TypedParticle) (p : TypedParticle) (k : Option TypeIdentity) (s : Option Place) → k ≡ p.kind → OtherTold ps p.name k s
    → IsOther ps p → stands_before s p.place ≡ true
true_other ps p k None equal o h = absurd (h.4 (o h.0 h.1 h.2 ∙ equal))
true_other ps p k (Some s) equal o h =
    elim (cases_Bool (is_before s p.place)) [
      | inl e ↦ e
      | inr e ↦ absurd (h.4 (o.1 h.0 h.1 h.2 (short h.0.place p.place s (before_true h.0.place p.place h.3) (before_false s p.place e)) ∙ equal))
    ]

pub other_from : (ps : List TypedParticle) (p : TypedParticle) (l : Leader) (same : Bool) → (same ≡ true → l.kind ≡ p.kind) → (same ≡ false → l.kind ≡ p.kind → ⊥)
    → Leads ps p.name l → has_other same l p.place ≡ true → IsOther ps p
other_from ps p l true equal apart t e = other_true ps p l.kind l.other (equal refl) t.other e
other_from ps p l false equal apart t e =
    (t.here.0, t.here.1, t.here.2, ap (λ (x : Place). is_before x p.place) t.here.3 ∙ e, λ d. apart refl (sym t.here.4 ∙ d))

pub from_other : (ps : List TypedParticle) (p : TypedParticle) (l : Leader) (same : Bool) → (same ≡ true → l.kind ≡ p.kind) → (same ≡ false → l.kind ≡ p.kind → ⊥)
    → Leads ps p.name l → IsOther ps p → has_other same l p.place ≡ true
from_other ps p l true equal apart t h = true_other ps p l.kind l.other (equal refl) t.other h
from_other ps p l false equal apart t h =
    true_before l.place p.place (past l.place h.0.place p.place (t.least h.0 h.1 h.2) (before_true h.0.place p.place h.3))
