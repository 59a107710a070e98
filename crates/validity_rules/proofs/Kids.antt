-- The names of valid kids, and the leaves that they are given.
use Rattle.std.proofs.Common.{◌≡◌, ℕ, List, [], ◌∷◌, ◌++◌, Bool, refl, sym, ◌∙◌, ap, subst, append_assoc}
use Rattle.base_texts.specs.declared.texts.Name.{Name}
use Rattle.base_trees.specs.Rose.{node, Roses, none, more, label_of}
use Rattle.content_models.specs.Particle.{Particle}
use Rattle.content_models.specs.Language.{Leaf, names, Lang, Viable}
use Rattle.content_models.specs.Clear.{Clear}
use Rattle.content_models.specs.Laws.{Share}
use Rattle.content_models.proofs.Opening.{names-append}
use Rattle.content_models.proofs.Beginning.{law_of_beginnings}
use Rattle.content_models.proofs.Next.{same_front}
use Rattle.xml_items.specs.declared.label.ItemLabel.{ItemLabel}
use Rattle.xml_items.specs.declared.label.ItemLabel.TheVariants.{Element, Text}
use Rattle.xml_items.specs.Plain.{Plain}
use Rattle.validity_rules.specs.Asked.{Asked}
use Rattle.validity_rules.specs.Valid.{KidsValid}
use Rattle.validity_rules.specs.Faults.{Begins}

-- leaves that begin some list are known by their names
pub begins_same : (p : Particle) → Clear p [] → (us vs : List Leaf) → Begins p us → Begins p vs → names us ≡ names vs → us ≡ vs
begins_same p c us vs (w, h) (v, k) e =
    go (law_of_beginnings p 0 [] c (us ++ w) (vs ++ v) (names us) (names w) (names v) h k (names-append us w) (names-append vs v ∙ ap (λ s. s ++ names v) (sym e)))
  where
    go : Share (us ++ w) (vs ++ v) (names us) → us ≡ vs
    go s = same_front us w s.common s.more_left s.left s.named ∙ sym (same_front vs v s.common s.more_right s.right (s.named ∙ e))

last_leaf : (us vs : List Leaf) (l k : Leaf) → us ++ l ∷ [] ≡ vs ++ k ∷ [] → l ≡ k
last_leaf [] [] l k e = cc
last_leaf [] (y ∷ []) l k e = absurd (cc)
last_leaf [] (y ∷ z ∷ vs) l k e = absurd (cc)
last_leaf (x ∷ []) [] l k e = absurd (cc)
last_leaf (x ∷ y ∷ us) [] l k e = absurd (cc)
last_leaf (x ∷ us) (y ∷ vs) l k e = last_leaf us vs l k (cc)

pub begins_front : (p : Particle) (us vs : List Leaf) → Begins p (us ++ vs) → Begins p us
begins_front p us vs (w, h) = (vs ++ w, subst (λ s. Lang p 0 [] s) (append_assoc us vs w) h)

pub begins_cons : (p : Particle) (us vs : List Leaf) (l : Leaf) → Begins p (us ++ l ∷ vs) → Begins p (us ++ l ∷ [])
begins_cons p us vs l h = begins_front p (us ++ l ∷ []) vs (subst (λ s. Begins p s) (sym (append_assoc us (l ∷ []) vs)) h)

pub names-last : (us : List Leaf) (l : Leaf) → names (us ++ l ∷ []) ≡ names us ++ l.name ∷ []
names-last us l = names-append us (l ∷ [])

pub begins_viable : (p : Particle) (us : List Leaf) → Begins p us → Viable p (names us)
begins_viable p us (w, h) = (us ++ w, names w, h, names-append us w)

-- the leaf behind leaves is known by the names
pub leaf_same : (p : Particle) → Clear p [] → (us vs : List Leaf) (l k : Leaf) → Begins p (us ++ l ∷ []) → Begins p (vs ++ k ∷ []) → names us ≡ names vs → l.name ≡ k.name → l ≡ k
leaf_same p c us vs l k h g e n =
    last_leaf us vs l k (begins_same p c (us ++ l ∷ []) (vs ++ k ∷ []) h g (names-last us l ∙ rw (e, n) (sym (names-last vs k))))

abbrev element_names : Roses ItemLabel → List Name
element_names none = []
element_names (more t ts) = elim (label_of t) [ Text words at ↦ element_names ts | Element name xs declares at ↦ name ∷ element_names ts ]

module _ (asks : ℕ → Asked) where
  kids_names : (m : Bool) (ts : Roses ItemLabel) (w : List Leaf) (us : Roses Plain) → KidsValid asks m ts w us → names w ≡ element_names ts
  kids_names m none w us h = ap names h.0
  kids_names m (more (node (Text words at) ks) ts) w us (vs, h, e) = kids_names m ts w vs h
  kids_names m (more (node (Element name xs declares at) ks) ts) w us (l, v, b, vs, e, f, q, h, k) =
      let i = kids_names m ts v vs k in
      ap names e ∙ rw (q, i) refl

  pub same_names : (m : Bool) (ts : Roses ItemLabel) (w v : List Leaf) (us vs : Roses Plain) → KidsValid asks m ts w us → KidsValid asks m ts v vs → names w ≡ names v
  same_names m ts w v us vs h k = kids_names m ts w us h ∙ sym (kids_names m ts v vs k)
