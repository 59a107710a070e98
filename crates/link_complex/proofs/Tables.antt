-- Tables by names with one entry more.
use Rattle.std.proofs.Common.{◌≡◌, ℕ, ◌+◌, ◌-◌, ◌<◌, ◌≤◌, Bool, true, false, List, [], ◌∷◌, ◌++◌, length, drop, take, get_or, Option, Some, None, refl, sym, ap, ◌∙◌, subst, Bor}
use Rattle.std.specs.Prelude.{cond, ◌↔◌, IsTrue}
use Rattle.std.specs.Option.{option_map}
use Rattle.std.specs.Ordering.{is_eq}
use Rattle.std.specs.BTreeMap as tree
use Rattle.std.specs.BTreeMap.{BTreeMap, get_by}
use Rattle.std.proofs.lemmas.List.{map_more}
use Rattle.std.proofs.lemmas.Bool.{true≢false}
use Rattle.base_texts.specs.declared.texts.Name.{Name}
use Rattle.base_texts.specs.Names.{name_eq, name_cmp}
use Rattle.base_texts.proofs.NameLaws.{name_eq-Decides}
use Rattle.link_names.specs.declared.faults.LinkingFault.{LinkingFault}
use Rattle.link_names.specs.declared.faults.LinkWhy.TheVariants.{TypesDiffer}
use Rattle.link_names.specs.Order.{fault, precedes, IsFirstSuch, OneHas, earlier, first_of}
use Rattle.link_names.proofs.Firsts.{precedes_itself}
use Rattle.link_names.proofs.Placing.{name_test, cut}
use Rattle.link_complex.specs.ElementTypes.{TypeIdentity, TypedParticle, type_named, IsOther, IsOtherAt}
use Rattle.link_complex.specs.Private.Identities.{identity_of, type_of, type_in, elements_of, particle_of, particles_of, leader_of, leader_in}
use Rattle.link_complex.specs.Private.Leading.{Leader, Joins, IsBehind}
use Rattle.link_complex.specs.declared.identities.TypeIdentity.{TypeIdentity as KeptType}
use Rattle.link_complex.specs.declared.element_types.TypedElement.{TypedElement as KeptElement}
use Rattle.link_complex.specs.declared.particles.TypedParticle.{TypedParticle as KeptParticle}
use Rattle.link_complex.specs.declared.leaders.Leader.{Leader as KeptLeader}
use Rattle.link_complex.proofs.Stepping.{one_mapped}
use Rattle.link_complex.proofs.Leading.{Told, Leads, first_leads, joined_leads, still_told, other_from, from_other}

put : {V : Type 0} (old new : BTreeMap (Bor Name) V) (k : Bor Name) (v : V) → tree.Updates (λ x y. name_cmp x.now y.now) old new k (Some v)
    → (a : Name) → get_by (λ q. name_cmp a q.now) new ≡ cond (name_eq k.now a) (Some v) (get_by (λ q. name_cmp a q.now) old)
put old new k v up a =
    let q : Bor Name = record { ref_ptr = (0, 0); now = a } in
    let at : get_by (λ q. name_cmp a q.now) new ≡ cond (is_eq (name_cmp k.now a)) (Some v) (get_by (λ q. name_cmp a q.now) old) = up.0 q in
    at ∙ ap (λ b. cond b (Some v) (get_by (λ q. name_cmp a q.now) old)) (name_test k.now a)

type_either : (b : Bool) (v : KeptType) (old : Option KeptType) (rest : Option TypeIdentity) → type_of old ≡ rest
    → type_of (cond b (Some v) old) ≡ cond b (Some (identity_of v)) rest
type_either true v old rest e = refl
type_either false v old rest e = e

-- the table of types with one element more, before the others
pub one_type : (es : List KeptElement) (i : ℕ) (e : KeptElement) (old new : BTreeMap (Bor Name) KeptType)
    → 0 < i → i ≤ length es → e ≡ get_or es (i - 1) e
    → ((a : Name) → type_in old a ≡ type_named (elements_of (drop i es)) a)
    → tree.Updates (λ x y. name_cmp x.now y.now) old new e.name (Some e.kind)
    → (a : Name) → type_in new a ≡ type_named (elements_of (drop (i - 1) es)) a
one_type es i e old new lt le is so_far up a =
    ap type_of (put old new e.name e.kind up a)
    ∙ type_either (name_eq e.name.now a) e.kind (get_by (λ q. name_cmp a q.now) old) (type_named (elements_of (drop i es)) a) (so_far a)
    ∙ ap (λ xs. type_named (elements_of xs) a) (sym (cut es i e lt le is))

leader_either : (b : Bool) (l : KeptLeader) (old : Option KeptLeader) (P : Option Leader → Type 0) → (b ≡ true → P (Some (leader_of l)))
    → (b ≡ false → P (option_map leader_of old)) → P (option_map leader_of (cond b (Some l) old))
leader_either true l old P yes_ no_ = yes_ refl
leader_either false l old P yes_ no_ = no_ refl

not_false : (b : Bool) (A : Type 0) → IsTrue b ↔ A → b ≡ false → A → ⊥
not_false true A both e a = absurd (cc)
not_false false A both e a = true≢false (sym (both.1 a))

joins_told : (ps : List TypedParticle) (p : TypedParticle) (o : Option Leader) (r : Leader) → Told ps p.name o → Joins o p r → Leads (ps ++ p ∷ []) p.name r
joins_told ps p None r t j = subst (Leads (ps ++ p ∷ []) p.name) (sym j) (first_leads ps p p.name t refl)
joins_told ps p (Some l) r t j =
    subst (Leads (ps ++ p ∷ []) p.name) (sym j.2)
    (joined_leads ps p p.name l refl t j.0 (λ e. j.1.0 e) (not_false j.0 (l.kind ≡ p.kind) j.1))

-- the leaders with one particle more
pub one_leader : (ps : List KeptParticle) (i : ℕ) (p : KeptParticle) (old new : BTreeMap (Bor Name) KeptLeader) (l : KeptLeader)
    → i < length ps → p ≡ get_or ps i p
    → ((a : Name) → Told (particles_of (take i ps)) a (leader_in old a))
    → Joins (leader_in old p.name.now) (particle_of p) (leader_of l)
    → tree.Updates (λ x y. name_cmp x.now y.now) old new p.name (Some l)
    → (a : Name) → Told (particles_of (take (i + 1) ps)) a (leader_in new a)
one_leader ps i p old new l lt is so_far joins up a =
    let q = particle_of p in
    let before = particles_of (take i ps) in
    let all : particles_of (take (i + 1) ps) ≡ before ++ q ∷ [] =
    map_more particle_of ps i p lt ∙ ap (λ x. particles_of (take i ps) ++ particle_of x ∷ []) (sym is) in
    let here : Leads (before ++ q ∷ []) q.name (leader_of l) = joins_told before q (leader_in old p.name.now) (leader_of l) (so_far p.name.now) joins in
    subst (λ xs. Told xs a (leader_in new a)) (sym all)
    (subst (λ o. Told (before ++ q ∷ []) a (option_map leader_of o)) (sym (put old new p.name l up a))
    (leader_either (name_eq p.name.now a) l (get_by (λ k. name_cmp a k.now) old) (Told (before ++ q ∷ []) a)
    (λ e. subst (λ (b : Name). Leads (before ++ q ∷ []) b (leader_of l)) ((name_eq-Decides p.name.now a).0 e) here)
    (λ e. still_told before q a (leader_in old a) (λ d. true≢false (sym ((name_eq-Decides p.name.now a).1 d) ∙ e)) (so_far a))))

-- whether a particle is behind another one of its name

behind_from : (ps : List TypedParticle) (p : TypedParticle) (o : Option Leader) (r : Bool) → Told ps p.name o → IsBehind o p r → r ≡ true → IsOther ps p
behind_from ps p None r t b e = absurd (true≢false (sym e ∙ b))
behind_from ps p (Some l) r t b e = other_from ps p l b.0 (λ d. b.1.0 d) (not_false b.0 (l.kind ≡ p.kind) b.1) t (sym b.2 ∙ e)

from_behind : (ps : List TypedParticle) (p : TypedParticle) (o : Option Leader) (r : Bool) → Told ps p.name o → IsBehind o p r → IsOther ps p → r ≡ true
from_behind ps p None r t b h = absurd (t h.0 h.1 h.2)
from_behind ps p (Some l) r t b h = b.2 ∙ from_other ps p l b.0 (λ d. b.1.0 d) (not_false b.0 (l.kind ≡ p.kind) b.1) t h

module _ (ps : List KeptParticle) (i : ℕ) (p : KeptParticle) (lt : i < length ps) (is : p ≡ get_or ps i p) (o : Option Leader) (r : Bool)
    (told : Told (particles_of ps) p.name.now o) (behind : IsBehind o (particle_of p) r) (found : Option LinkingFault)
    (so_far : IsFirstSuch (OneHas (IsOtherAt (particles_of ps)) (particles_of (take i ps))) found) where
  step : (here : Option LinkingFault) → IsFirstSuch (IsOtherAt (particles_of ps) (particle_of p)) here
      → IsFirstSuch (OneHas (IsOtherAt (particles_of ps)) (particles_of (take (i + 1) ps))) (first_of found here)
  step here h = one_mapped (IsOtherAt (particles_of ps)) particle_of ps i p lt is found here so_far h

  pub with_other : r ≡ true → IsFirstSuch (OneHas (IsOtherAt (particles_of ps)) (particles_of (take (i + 1) ps))) (earlier found (fault TypesDiffer p.place))
  with_other e =
      let f = fault TypesDiffer p.place in
      step (Some f) ((refl, behind_from (particles_of ps) (particle_of p) o r told behind e), λ g h. subst (λ x. precedes x f ≡ false) (sym h.0) (precedes_itself f))

  pub without_other : r ≡ false → IsFirstSuch (OneHas (IsOtherAt (particles_of ps)) (particles_of (take (i + 1) ps))) found
  without_other e = step None (λ f h. true≢false (sym (from_behind (particles_of ps) (particle_of p) o r told behind h.1) ∙ e))
