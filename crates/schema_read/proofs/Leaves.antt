-- The element particles of content models, and the local declarations that they are.
use Rattle.std.proofs.Common.{◌≡◌, ℕ, ◌+◌, ◌≤◌, Bool, cond, List, [], ◌∷◌, ◌++◌, length, count_by, refl, append_assoc, ap, sym, ◌∙◌, subst, arith}
use Rattle.schema_read.proofs.Words.{sum_by-cons, sum_by-append, Name, Rose, node, Roses, roses_of, ParticleKind, ParticleLabel, Local, TypeDefinition, all_leaves, leaves_of_model, model_in_kind, model_in_local, model_in_type, models_in_elements, models_in_types, models_in_locals, leaves_of_models, name_of, numbered, IsFrom, EachStands, AllStand, ModelsStand, Nested, least_of, most_of, group_of}
use Rattle.base_trees.specs.Rose as rose
use Rattle.content_models.specs.Seen.{all_seen}
use Rattle.content_models.specs.declared.particles.ParticleKind.TheVariants as particle
use Rattle.schema_components.specs.Raw as raw
use Rattle.schema_read.proofs.Reading.{by_compositor}

-- ---- models one behind the other

pub in_elements : (xs ys : List raw.Element) → models_in_elements (xs ++ ys) ≡ models_in_elements xs ++ models_in_elements ys
in_elements [] ys = refl
in_elements (x ∷ xs) ys = ap (λ l. model_in_kind x.kind ++ l) (in_elements xs ys) ∙ sym (append_assoc (model_in_kind x.kind) (models_in_elements xs) (models_in_elements ys))

pub in_types : (xs ys : List TypeDefinition) → models_in_types (xs ++ ys) ≡ models_in_types xs ++ models_in_types ys
in_types [] ys = refl
in_types (x ∷ xs) ys = ap (λ l. model_in_type x ++ l) (in_types xs ys) ∙ sym (append_assoc (model_in_type x) (models_in_types xs) (models_in_types ys))

pub in_locals : (xs ys : List Local) → models_in_locals (xs ++ ys) ≡ models_in_locals xs ++ models_in_locals ys
in_locals [] ys = refl
in_locals (x ∷ xs) ys = ap (λ l. model_in_local x ++ l) (in_locals xs ys) ∙ sym (append_assoc (model_in_local x) (models_in_locals xs) (models_in_locals ys))

-- ---- counting

module _ (test : ℕ × Name → Bool) where
  pub count_append : (xs ys : List (ℕ × Name)) → count_by test (xs ++ ys) ≡ count_by test xs + count_by test ys
  count_append xs ys = sum_by-append (λ x. cond (test x) 1 0) xs ys

  -- one more at the front
  pub count_more : (x : ℕ × Name) (xs : List (ℕ × Name)) → count_by test (x ∷ xs) ≡ cond (test x) 1 0 + count_by test xs
  count_more x xs = sum_by-cons (λ x. cond (test x) 1 0) x xs

  pub count_models : (xs ys : List (Rose ParticleLabel))
      → count_by test (leaves_of_models (xs ++ ys)) ≡ count_by test (leaves_of_models xs) + count_by test (leaves_of_models ys)
  count_models [] ys = omega arith
  count_models (m ∷ ms) ys =
      let a = count_append (leaves_of_model m) (leaves_of_models (ms ++ ys)) in
      let b = count_append (leaves_of_model m) (leaves_of_models ms) in
      omega (arith, a, b, count_models ms ys)

  -- of lists that the models are of
  pub count_both : (all xs ys : List (Rose ParticleLabel)) → all ≡ xs ++ ys
      → count_by test (leaves_of_models all) ≡ count_by test (leaves_of_models xs) + count_by test (leaves_of_models ys)
  count_both all xs ys is = ap (λ l. count_by test (leaves_of_models l)) is ∙ count_models xs ys

  pub count_numbered : (n : ℕ) (ls ms : List Local) → count_by test (numbered n (ls ++ ms)) ≡ count_by test (numbered n ls) + count_by test (numbered (n + length ls) ms)
  count_numbered n [] ms =
      let e : n ≡ n + length {A = Local} [] = omega arith in
      let h : count_by test (numbered n ms) ≡ count_by test (numbered (n + length {A = Local} []) ms) = ap (λ k. count_by test (numbered k ms)) e in
      omega (arith, h)
  count_numbered n (l ∷ ls) ms =
      let e : (n + 1) + length ls ≡ n + length (l ∷ ls) = omega arith in
      let h : count_by test (numbered ((n + 1) + length ls) ms) ≡ count_by test (numbered (n + length (l ∷ ls)) ms) = ap (λ k. count_by test (numbered k ms)) e in
      let a : count_by test (numbered n ((l ∷ ls) ++ ms)) ≡ cond (test (n, name_of l)) 1 0 + count_by test (numbered (n + 1) (ls ++ ms)) = count_more (n, name_of l) (numbered (n + 1) (ls ++ ms)) in
      let b : count_by test (numbered n (l ∷ ls)) ≡ cond (test (n, name_of l)) 1 0 + count_by test (numbered (n + 1) ls) = count_more (n, name_of l) (numbered (n + 1) ls) in
      omega (arith, a, b, h, count_numbered (n + 1) ls ms)

-- ---- where particles stand

from_later : (n m : ℕ) → n ≤ m → (kind : ParticleKind) → IsFrom m kind → IsFrom n kind
from_later n m le (particle.Element decl name) h = omega (arith, le, h)
from_later n m le particle.Sequence h = tt
from_later n m le particle.Choice h = tt
from_later n m le particle.All h = tt

module _ (file : ℕ) where
  mutual
    stands_later : (n m : ℕ) → n ≤ m → (t : Rose ParticleLabel) → EachStands file m t → EachStands file n t
    stands_later n m le (node l ts) h = ((h.0.0, from_later n m le l.kind h.0.1), all_later n m le ts h.1)

    all_later : (n m : ℕ) → n ≤ m → (ts : Roses ParticleLabel) → AllStand file m ts → AllStand file n ts
    all_later n m le rose.none h = tt
    all_later n m le (rose.more t ts) h = (stands_later n m le t h.0, all_later n m le ts h.1)

  pub models_later : (n m : ℕ) → n ≤ m → (ms : List (Rose ParticleLabel)) → ModelsStand file m ms → ModelsStand file n ms
  models_later n m le [] h = tt
  models_later n m le (t ∷ ts) h = (stands_later n m le t h.0, models_later n m le ts h.1)

  pub models_append : (n : ℕ) (xs ys : List (Rose ParticleLabel)) → ModelsStand file n xs → ModelsStand file n ys → ModelsStand file n (xs ++ ys)
  models_append n [] ys h g = g
  models_append n (x ∷ xs) ys h g = (h.0, models_append n xs ys h.1 g)

  pub nested_append : (n : ℕ) (ls ms : List Local) → Nested file n ls → Nested file (n + length ls) ms → Nested file n (ls ++ ms)
  nested_append n [] ms h g =
      let e : n + length {A = Local} [] ≡ n = omega arith in
      subst (λ k. Nested file k ms) e g
  nested_append n (l ∷ ls) ms h g =
      let e : n + length (l ∷ ls) ≡ (n + 1) + length ls = omega arith in
      (h.0, nested_append (n + 1) ls ms h.1 (subst (λ k. Nested file k ms) e g))

  pub group_stands : (n : ℕ) (ts : List (Rose ParticleLabel)) → ModelsStand file n ts → AllStand file n (roses_of ts)
  group_stands n [] h = tt
  group_stands n (t ∷ ts) h = (h.0, group_stands n ts h.1)

group_leaves : (ts : List (Rose ParticleLabel)) → all_leaves (all_seen (roses_of ts)) ≡ leaves_of_models ts
group_leaves [] = refl
group_leaves (t ∷ ts) = ap (λ l. leaves_of_model t ++ l) (group_leaves ts)

-- the leaves of a group are those of its particles
pub leaves_of_group : (file at : ℕ) (name : List ℕ) (own : List (List ℕ × List ℕ)) (ts : List (Rose ParticleLabel)) → leaves_of_model (group_of file at name own ts) ≡ leaves_of_models ts
leaves_of_group file at name own ts =
    by_compositor (λ kind. leaves_of_model (node (record { kind = kind; min = least_of own; max = most_of own; file = file; at = at }) (roses_of ts)) ≡ leaves_of_models ts)
    (group_leaves ts) (group_leaves ts) (group_leaves ts) name
