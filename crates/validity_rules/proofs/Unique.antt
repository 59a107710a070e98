-- An element has at most one of a treated form and a first fault.
use Rattle.std.proofs.Common.{◌≡◌, ℕ, zero, suc, ◌<◌, ◌⊎◌, inl, inr, List, [], ◌∷◌, ◌++◌, Option, Some, None, Bool, true, false, refl, sym, ◌∙◌, ap, subst, append_assoc, append-nil, arith}
use Rattle.std.specs.Prelude.{Ok, Err}
use Rattle.base_texts.specs.WhiteSpace.{is_blank}
use Rattle.base_trees.specs.Rose.{Rose, node, Roses, none, more, length_all}
use Rattle.simple_types.specs.Space.{Space}
use Rattle.simple_types.specs.Reading.{Reading, reads}
use Rattle.content_models.specs.Particle.{Particle}
use Rattle.content_models.specs.Language.{Leaf, names, Lang, Viable}
use Rattle.content_models.specs.Clear.{Clear}
use Rattle.xml_items.specs.declared.label.ItemLabel.{ItemLabel}
use Rattle.xml_items.specs.declared.label.ItemLabel.TheVariants.{Element, Text}
use Rattle.xml_items.specs.Plain.{Plain}
use Rattle.validity_rules.specs.Asked.{Asked, Inside, nothing, simple, children}
use Rattle.validity_rules.specs.Attributes.{Nil, not_nil, is_nil, bad_nil, nil_of, xsi_type, text_of, left, Refuses, FirstWrong, AllRight, AllStand, OneMissing}
use Rattle.validity_rules.specs.Valid.{only_text, put_before, Spells, Between, treated_element, ValidBy, KidsValid}
use Rattle.validity_rules.specs.Faults.{Begins, Unfinished, front, Then, At, IsBad, FirstKid, why_kid, FirstElement, FaultBy, KidFault}
use Rattle.validity_rules.specs.declared.why.InvalidWhy.{InvalidWhy}
use Rattle.validity_rules.specs.declared.why.InvalidWhy.TheVariants.{XsiType, BadNil, MissingAttribute, NilWithContent, BadText, MissingElement}
use Rattle.validity_rules.proofs.Attributes.{one_refusal, right_never_wrong, one_first_wrong, stand_not_missing}
use Rattle.validity_rules.proofs.Telling.{three}
use Rattle.validity_rules.proofs.Kids.{begins_same, begins_cons, begins_viable, names-last, leaf_same, same_names}

-- ---- faults in their order

abbrev pub OneOnly : (ℕ → InvalidWhy → Type 0) → Type 0
OneOnly F = (at place : ℕ) (why what : InvalidWhy) → F at why → F place what → (at ≡ place) × (why ≡ what)

abbrev pub Never : (ℕ → InvalidWhy → Type 0) → Type 0
Never F = (at : ℕ) (why : InvalidWhy) → F at why → ⊥

pub then_one : (F G : ℕ → InvalidWhy → Type 0) (W : Type 0) → OneOnly F → (W → Never F) → OneOnly G → OneOnly (Then F W G)
then_one F G W f n g b c why what (inl h) (inl k) = f b c why what h k
then_one F G W f n g b c why what (inl h) (inr k) = absurd (n k.0 b why h)
then_one F G W f n g b c why what (inr h) (inl k) = absurd (n h.0 c what k)
then_one F G W f n g b c why what (inr h) (inr k) = g b c why what h.1 k.1

pub then_never : (F G : ℕ → InvalidWhy → Type 0) (W : Type 0) → Never F → Never G → Never (Then F W G)
then_never F G W f g b why (inl h) = f b why h
then_never F G W f g b why (inr h) = g b why h.1

pub at_one : (place : ℕ) (reason : InvalidWhy) (P : Type 0) → OneOnly (At place reason P)
at_one place reason P b c why what h k = (cc (h.0, k.0), cc (h.1, k.1))

first_kid_one : (ts : Roses ItemLabel) (reason : ItemLabel → InvalidWhy) → OneOnly (FirstKid ts reason)
first_kid_one none reason b c why what h k = absurd h
first_kid_one (more t ts) reason b c why what h k = (cc (h.0, k.0), cc (h.1, k.1))

first_kid_none : (ts : Roses ItemLabel) (reason : ItemLabel → InvalidWhy) → ts ≡ none → Never (FirstKid ts reason)
first_kid_none none reason e b why h = h
first_kid_none (more t ts) reason e b why h = cc

pub front_all : {L : Type 0} (ts : Roses L) → front (length_all ts) ts ≡ ts
front_all none = refl
front_all (more t ts) = ap (λ s. more t s) (front_all ts)

-- ---- simple content

first_element_text : (ts : Roses ItemLabel) (words : List ℕ) → only_text ts ≡ Some words → Never (FirstElement ts)
first_element_text none words e b why h = h
first_element_text (more (node (Element name xs declares at) ks) ts) words e b why h = cc
first_element_text (more (node (Text front at) ks) ts) words e b why h = go (only_text ts) refl e (λ others q. first_element_text ts others q b why h)
  where
    go : (o : Option (List ℕ)) → only_text ts ≡ o → put_before front o ≡ Some words → ((others : List ℕ) → only_text ts ≡ Some others → ⊥) → ⊥
    go None q e k = cc
    go (Some others) q e k = k others q

first_element_one : (ts : Roses ItemLabel) → OneOnly (FirstElement ts)
first_element_one none b c why what h k = absurd h
first_element_one (more (node (Element name xs declares at) ks) ts) b c why what h k = (cc (h.0, k.0), cc (h.1, k.1))
first_element_one (more (node (Text words at) ks) ts) b c why what h k = first_element_one ts b c why what h k

spells_not_refused : (s : Space) (r : Reading) (vs : Roses Plain) (bad why : InvalidWhy) → Spells s r vs → Refuses r bad why → ⊥
spells_not_refused s (Ok value) vs bad why h k = k
spells_not_refused s (Err e) vs bad why h k = h

spells_one : (s : Space) (r : Reading) (us vs : Roses Plain) → Spells s r us → Spells s r vs → us ≡ vs
spells_one s (Ok value) us vs h k = cc
spells_one s (Err e) us vs h k = absurd h

-- ---- texts between child elements

between_one : (m blank : Bool) (words : List ℕ) (us vs u v : Roses Plain) → us ≡ vs → Between m blank words us u → Between m blank words vs v → u ≡ v
between_one true blank words us vs u v e h k = cc
between_one false blank words us vs u v e h k = cc (h.1, k.1)

between_blank : (m blank : Bool) (words : List ℕ) (us u : Roses Plain) → m ≡ false → blank ≡ false → Between m blank words us u → ⊥
between_blank true blank words us u e n h = cc
between_blank false blank words us u e n h = cc (h.0, n)

abbrev pub IsClear : Inside → Type 0
IsClear nothing = Unit {0}
IsClear (simple s) = Unit {0}
IsClear (children m p) = Clear p []

module _ (asks : ℕ → Asked) where
  -- ---- the content of a valid element, and of one at fault

  abbrev pub ContentValid : Inside → Roses ItemLabel → Roses Plain → Type 0
  ContentValid c ts vs = elim c as (λ _. Type 0) [
    | nothing ↦ (ts ≡ none) × (vs ≡ none)
    | simple space ↦ (words : List ℕ) × (only_text ts ≡ Some words) × Spells space (reads space words) vs
    | children m p ↦ (w : List Leaf) × Lang p 0 [] w × KidsValid asks m ts w vs
  ]

  abbrev pub KidsFault : Bool → Particle → Roses ItemLabel → ℕ → ℕ → InvalidWhy → Type 0
  KidsFault m p ts place at why = (us : List Leaf) × Begins p us × (
      ((vs : Roses Plain) × KidsValid asks m ts us vs × Unfinished p (names us) × (at ≡ place) × (why ≡ MissingElement))
      ⊎ ((i : ℕ) × (vs : Roses Plain) × KidsValid asks m (front i ts) us vs × KidFault asks m p us ts i at why)
      )

  abbrev pub ContentFault : Inside → Roses ItemLabel → ℕ → ℕ → InvalidWhy → Type 0
  ContentFault c ts place at why = elim c as (λ _. Type 0) [
    | nothing ↦ FirstKid ts why_kid at why
    | simple space ↦
        FirstElement ts at why ⊎ ((words : List ℕ) × (only_text ts ≡ Some words) × (at ≡ place) × Refuses (reads space words) BadText why)
    | children m p ↦ KidsFault m p ts place at why
  ]

  abbrev pub NilValid : Nil → Inside → Roses ItemLabel → Roses Plain → Type 0
  NilValid k c ts vs = elim k as (λ _. Type 0) [ bad_nil ↦ ⊥ | is_nil ↦ (ts ≡ none) × (vs ≡ none) | not_nil ↦ ContentValid c ts vs ]

  abbrev pub NilFault : Nil → Inside → Roses ItemLabel → ℕ → ℕ → InvalidWhy → Type 0
  NilFault k c ts place at why =
      elim k as (λ _. Type 0) [ bad_nil ↦ ⊥ | is_nil ↦ FirstKid ts (λ _. NilWithContent) at why | not_nil ↦ ContentFault c ts place at why ]

  -- ---- what holds of the kids

  abbrev NoClash : Roses ItemLabel → Type 0
  NoClash ts =
      (m : Bool) (p : Particle) → Clear p [] → (i j : ℕ) → i < j → (e f us w : List Leaf) (vs ws : Roses Plain) (b : ℕ) (why : InvalidWhy) → names e ≡ names f
      → KidsValid asks m (front i ts) us vs → KidsValid asks m (front j ts) w ws → Begins p (f ++ w) → KidFault asks m p (e ++ us) ts i b why → ⊥

  abbrev SameKids : Roses ItemLabel → Type 0
  SameKids ts = (m : Bool) (w : List Leaf) (us vs : Roses Plain) → KidsValid asks m ts w us → KidsValid asks m ts w vs → us ≡ vs

  abbrev SameFault : Roses ItemLabel → Type 0
  SameFault ts =
      (m : Bool) (p : Particle) → Clear p [] → (us : List Leaf) (i b c : ℕ) (why what : InvalidWhy)
      → KidFault asks m p us ts i b why → KidFault asks m p us ts i c what → (b ≡ c) × (why ≡ what)

  kid_below : (ts : Roses ItemLabel) (m : Bool) (p : Particle) (us : List Leaf) (i b : ℕ) (why : InvalidWhy) → KidFault asks m p us ts i b why → i < length_all ts
  kid_below none m p us i b why h = absurd h
  kid_below (more t ts) m p us zero b why h = omega arith
  kid_below (more t ts) m p us (suc i) b why h = omega (arith, kid_below ts m p us i b why h)

  content_clash : (c : Inside) → IsClear c → (ts : Roses ItemLabel) (place : ℕ) (vs : Roses Plain) → NoClash ts → ContentValid c ts vs → Never (ContentFault c ts place)
  content_clash nothing k ts place vs never h b why g = first_kid_none ts why_kid h.0 b why g
  content_clash (simple s) k ts place vs never (x, o, h) b why (inl g) = first_element_text ts x o b why g
  content_clash (simple s) k ts place vs never (x, o, h) b why (inr (y, q, e, g)) =
      let same : x ≡ y = cc in
      spells_not_refused s (reads s y) vs BadText why (subst (λ z. Spells s (reads s z) vs) same h) g
  content_clash (children m p) k ts place vs never (w, l, h) b why (us, g, inl (ws, q, u, a1, a2)) = u w l (same_names asks m ts w us vs ws h q)
  content_clash (children m p) k ts place vs never (w, l, h) b why (us, g, inr (i, ws, q, u)) =
      never m p k i (length_all ts) (kid_below ts m p us i b why u) [] [] us w ws vs b why refl q (subst (λ s. KidsValid asks m s w vs) (sym (front_all ts)) h)
      ([], subst (λ s. Lang p 0 [] s) (sym (append-nil w)) l) u

  content_same : (c : Inside) → IsClear c → (ts : Roses ItemLabel) (us vs : Roses Plain) → SameKids ts → ContentValid c ts us → ContentValid c ts vs → us ≡ vs
  content_same nothing k ts us vs same h g = cc (h.1, g.1)
  content_same (simple s) k ts us vs same (x, o, h) (y, q, g) = let e : x ≡ y = cc in spells_one s (reads s y) us vs (subst (λ z. Spells s (reads s z) us) e h) g
  content_same (children m p) k ts us vs same (w, l, h) (v, n, g) =
      let e : w ≡ v =
      begins_same p k w v ([], subst (λ s. Lang p 0 [] s) (sym (append-nil w)) l) ([], subst (λ s. Lang p 0 [] s) (sym (append-nil v)) n) (same_names asks m ts w v us vs h g)
      in
      same m v us vs (subst (λ s. KidsValid asks m ts s us) e h) g

  kids_one : (m : Bool) (p : Particle) → Clear p [] → (ts : Roses ItemLabel) (place : ℕ) → NoClash ts → SameFault ts → OneOnly (KidsFault m p ts place)
  kids_one m p k ts place never one b c why what (us, g, inl (vs, h, u, e, e1)) (ws, f, inl (xs, q, v, d, d1)) = (cc (e, d), cc (e1, d1))
  kids_one m p k ts place never one b c why what (us, g, inl (vs, h, u, e, e1)) (ws, f, inr (i, xs, q, v)) =
      absurd (never m p k i (length_all ts) (kid_below ts m p ws i c what v) [] [] ws us xs vs c what refl q (subst (λ s. KidsValid asks m s us vs) (sym (front_all ts)) h) g v)
  kids_one m p k ts place never one b c why what (us, g, inr (i, vs, h, u)) (ws, f, inl (xs, q, v, d, d1)) =
      absurd (never m p k i (length_all ts) (kid_below ts m p us i b why u) [] [] us ws vs xs b why refl h (subst (λ s. KidsValid asks m s ws xs) (sym (front_all ts)) q) f u)
  kids_one m p k ts place never one b c why what (us, g, inr (i, vs, h, u)) (ws, f, inr (j, xs, q, v)) = go (three i j)
    where
      go : (i < j) ⊎ ((i ≡ j) ⊎ (j < i)) → (b ≡ c) × (why ≡ what)
      go (inl o) = absurd (never m p k i j o [] [] us ws vs xs b why refl h q f u)
      go (inr (inr o)) = absurd (never m p k j i o [] [] ws us xs vs c what refl q h g v)
      go (inr (inl e)) =
          let q2 = subst (λ s. KidsValid asks m (front s ts) ws xs) (sym e) q in
          let same : us ≡ ws = begins_same p k us ws g f (same_names asks m (front i ts) us ws vs xs h q2) in
          one m p k ws i b c why what (subst (λ s. KidFault asks m p s ts i b why) same u) (subst (λ s. KidFault asks m p ws ts s c what) (sym e) v)

  content_one : (d : Inside) → IsClear d → (ts : Roses ItemLabel) (place : ℕ) → NoClash ts → SameFault ts → OneOnly (ContentFault d ts place)
  content_one nothing k ts place never one b c why what h g = first_kid_one ts why_kid b c why what h g
  content_one (simple s) k ts place never one b c why what (inl h) (inl g) = first_element_one ts b c why what h g
  content_one (simple s) k ts place never one b c why what (inl h) (inr (y, q, e, g)) = absurd (first_element_text ts y q b why h)
  content_one (simple s) k ts place never one b c why what (inr (y, q, e, g)) (inl h) = absurd (first_element_text ts y q c what h)
  content_one (simple s) k ts place never one b c why what (inr (x, o, e, h)) (inr (y, q, f, g)) =
      let same : x ≡ y = cc in
      (cc, one_refusal (reads s y) BadText why what (subst (λ z. Refuses (reads s z) BadText why) same h) g)
  content_one (children m p) k ts place never one b c why what h g = kids_one m p k ts place never one b c why what h g

  nil_not_bad : (k : Nil) (c : Inside) (ts : Roses ItemLabel) (vs : Roses Plain) → NilValid k c ts vs → IsBad k → ⊥
  nil_not_bad bad_nil c ts vs h b = h
  nil_not_bad is_nil c ts vs h b = b
  nil_not_bad not_nil c ts vs h b = b

  nil_clash : (n : Nil) (c : Inside) → IsClear c → (ts : Roses ItemLabel) (place : ℕ) (vs : Roses Plain) → NoClash ts → NilValid n c ts vs → Never (NilFault n c ts place)
  nil_clash bad_nil c k ts place vs never h b why f = f
  nil_clash is_nil c k ts place vs never h b why f = first_kid_none ts (λ _. NilWithContent) h.0 b why f
  nil_clash not_nil c k ts place vs never h b why f = content_clash c k ts place vs never h b why f

  nil_same : (n : Nil) (c : Inside) → IsClear c → (ts : Roses ItemLabel) (us vs : Roses Plain) → SameKids ts → NilValid n c ts us → NilValid n c ts vs → us ≡ vs
  nil_same bad_nil c k ts us vs same h g = absurd h
  nil_same is_nil c k ts us vs same h g = cc (h.1, g.1)
  nil_same not_nil c k ts us vs same h g = content_same c k ts us vs same h g

  nil_one : (n : Nil) (c : Inside) → IsClear c → (ts : Roses ItemLabel) (place : ℕ) → NoClash ts → SameFault ts → OneOnly (NilFault n c ts place)
  nil_one bad_nil c k ts place never one b d why what h g = absurd h
  nil_one is_nil c k ts place never one b d why what h g = first_kid_one ts (λ _. NilWithContent) b d why what h g
  nil_one not_nil c k ts place never one b d why what h g = content_one c k ts place never one b d why what h g

  module _ (clear : (d : ℕ) → IsClear (asks d).inside) where
    mutual
      -- no element is valid and has a fault
      pub clash : (t : Rose ItemLabel) (d : ℕ) (v : Rose Plain) → ValidBy asks d t v → Never (FaultBy asks d t)
      clash (node (Text words at) ts) d v h b why f = h
      clash (node (Element name xs declares place) ts) d v (vs, e, plain, right, stand, h) b why f =
          then_never (At place XsiType (text_of xs xsi_type ≡ None → ⊥)) _ (text_of xs xsi_type ≡ None) (λ b why h. h.2 plain)
          (then_never (At place BadNil (IsBad (nil_of (asks d).nillable xs))) _ (IsBad (nil_of (asks d).nillable xs) → ⊥)
          (λ b why g. nil_not_bad (nil_of (asks d).nillable xs) (asks d).inside ts vs h g.2)
          (then_never (λ at why. (at ≡ place) × FirstWrong (asks d).attributes why (left xs)) _ (AllRight (asks d).attributes (left xs))
          (λ b why g. right_never_wrong (asks d).attributes why (left xs) right g.1)
          (then_never (At place MissingAttribute (OneMissing (asks d).attributes (left xs))) (NilFault (nil_of (asks d).nillable xs) (asks d).inside ts place)
          (AllStand (asks d).attributes (left xs)) (λ b why g. stand_not_missing (left xs) (asks d).attributes stand g.2)
          (nil_clash (nil_of (asks d).nillable xs) (asks d).inside (clear d) ts place vs
          (λ m p c i j l e f us w vs ws b why n h k g q. no_clash ts m p c i j l e f us w vs ws b why n h k g q) h)))) b why f

      no_clash : (ts : Roses ItemLabel) → NoClash ts
      no_clash none m p c i j l e f us w vs ws b why n h k g q = q
      no_clash (more t ts) m p c i zero l e f us w vs ws b why n h k g q = omega arith
      no_clash (more (node (Text words at) ks) ts) m p c zero (suc j) l e f us w vs ws b why n h (us2, k, bt) g q =
          between_blank m (is_blank words) words us2 ws q.0 q.1 bt
      no_clash (more (node (Text words at) ks) ts) m p c (suc i) (suc j) l e f us w vs ws b why n (vs2, h, bh) (ws2, k, bk) g q =
          no_clash ts m p c i j (omega arith) e f us w vs2 ws2 b why n h k g q
      no_clash (more (node (Element a xs declares at) ks) ts) m p c zero (suc j) l e f us w vs ws b why n h (y, v, bb, ws2, ew, eu, nm, val, k) g (inl q) =
          q.0 (subst (λ s. Viable p (s ++ a ∷ [])) (sym n ∙ ap names (sym (append-nil e) ∙ ap (λ s. e ++ s) (sym h.0)))
          (subst (λ s. Viable p s) (names-last f y ∙ ap (λ s. names f ++ s ∷ []) nm) (begins_viable p (f ++ y ∷ []) (begins_cons p f v y (subst (λ s. Begins p (f ++ s)) ew g)))))
      no_clash (more (node (Element a xs declares at) ks) ts) m p c zero (suc j) l e f us w vs ws b why n h (y, v, bb, ws2, ew, eu, nm, val, k) g (inr (z, nz, bz, fz)) =
          let e0 : e ++ us ≡ e = ap (λ s. e ++ s) h.0 ∙ append-nil e in
          let same : z ≡ y = leaf_same p c e f z y (subst (λ s. Begins p (s ++ z ∷ [])) e0 bz) (begins_cons p f v y (subst (λ s. Begins p (f ++ s)) ew g)) n (nz ∙ sym nm) in
          clash (node (Element a xs declares at) ks) y.decl bb val b why (subst (λ s. FaultBy asks s.decl (node (Element a xs declares at) ks) b why) same fz)
      no_clash (more (node (Element a xs declares at) ks) ts) m p c (suc i) (suc j) l e f us w vs ws b why n
          (x1, v1, b1, vs2, ew1, eu1, nm1, val1, h) (y, v, bb, ws2, ew, eu, nm, val, k) g q =
          no_clash ts m p c i j (omega arith) (e ++ x1 ∷ []) (f ++ y ∷ []) v1 v vs2 ws2 b why
          (names-last e x1 ∙ ap (λ s. s ++ x1.name ∷ []) n ∙ ap (λ s. names f ++ s ∷ []) (nm1 ∙ sym nm) ∙ sym (names-last f y)) h k
          (subst (λ s. Begins p s) (sym (append_assoc f (y ∷ []) v)) (subst (λ s. Begins p (f ++ s)) ew g))
          (subst (λ s. KidFault asks m p s ts i b why) (sym (append_assoc e (x1 ∷ []) v1)) (subst (λ s. KidFault asks m p (e ++ s) ts i b why) ew1 q))

    mutual
      pub same : (t : Rose ItemLabel) (d : ℕ) (u v : Rose Plain) → ValidBy asks d t u → ValidBy asks d t v → u ≡ v
      same (node (Text words at) ts) d u v h g = absurd h
      same (node (Element name xs declares at) ts) d u v (us, e, plain, right, stand, h) (vs, f, plain2, right2, stand2, g) =
          let q : us ≡ vs = nil_same (nil_of (asks d).nillable xs) (asks d).inside (clear d) ts us vs (λ m w us vs h g. same_kids ts m w us vs h g) h g in
          e ∙ ap (λ ks. treated_element (asks d) name xs ks) q ∙ sym f

      same_kids : (ts : Roses ItemLabel) → SameKids ts
      same_kids none m w us vs h g = cc (h.1, g.1)
      same_kids (more (node (Text words at) ks) ts) m w us vs (u, h, b) (v, g, c) = between_one m (is_blank words) words u v us vs (same_kids ts m w u v h g) b c
      same_kids (more (node (Element a xs declares at) ks) ts) m w us vs (x1, v1, b1, u, ew1, eu1, nm1, val1, h) (y, v, bb, ws, ew, eu, nm, val, k) =
          let e : x1 ≡ y = cc in
          let d : v1 ≡ v = cc in
          let first : b1 ≡ bb = same (node (Element a xs declares at) ks) y.decl b1 bb (subst (λ s. ValidBy asks s.decl (node (Element a xs declares at) ks) b1) e val1) val in
          let rest : u ≡ ws = same_kids ts m v u ws (subst (λ s. KidsValid asks m ts s u) d h) k in
          cc

    mutual
      pub one_fault : (t : Rose ItemLabel) (d : ℕ) → OneOnly (FaultBy asks d t)
      one_fault (node (Text words at) ts) d b c why what h g = absurd h
      one_fault (node (Element name xs declares place) ts) d b c why what h g =
          then_one (At place XsiType (text_of xs xsi_type ≡ None → ⊥)) _ (text_of xs xsi_type ≡ None) (at_one place XsiType (text_of xs xsi_type ≡ None → ⊥)) (λ w b why h. h.2 w)
          (then_one (At place BadNil (IsBad (nil_of (asks d).nillable xs))) _ (IsBad (nil_of (asks d).nillable xs) → ⊥) (at_one place BadNil (IsBad (nil_of (asks d).nillable xs))) (λ w b why h. w h.2)
          (then_one (λ at why. (at ≡ place) × FirstWrong (asks d).attributes why (left xs)) _ (AllRight (asks d).attributes (left xs))
          (λ b c why what h k. (cc (h.0, k.0), one_first_wrong (asks d).attributes why what (left xs) h.1 k.1)) (λ w b why h. right_never_wrong (asks d).attributes why (left xs) w h.1)
          (then_one (At place MissingAttribute (OneMissing (asks d).attributes (left xs))) (NilFault (nil_of (asks d).nillable xs) (asks d).inside ts place)
          (AllStand (asks d).attributes (left xs)) (at_one place MissingAttribute (OneMissing (asks d).attributes (left xs)))
          (λ w b why h. stand_not_missing (left xs) (asks d).attributes w h.2)
          (nil_one (nil_of (asks d).nillable xs) (asks d).inside (clear d) ts place (no_clash ts) (λ m p k us i b c why what h g. one_fault_at ts m p k us i b c why what h g))))) b c why what h g

      one_fault_at : (ts : Roses ItemLabel) → SameFault ts
      one_fault_at none m p k us i b c why what h g = absurd h
      one_fault_at (more t ts) m p k us (suc i) b c why what h g = one_fault_at ts m p k us i b c why what h g
      one_fault_at (more (node (Text words at) ks) ts) m p k us zero b c why what h g = (cc (h.2, g.2), cc (h.3, g.3))
      one_fault_at (more (node (Element a xs declares at) ks) ts) m p k us zero b c why what (inl h) (inl g) = (cc (h.1, g.1), cc (h.2, g.2))
      one_fault_at (more (node (Element a xs declares at) ks) ts) m p k us zero b c why what (inl h) (inr (l, n, g, f)) =
          absurd (h.0 (subst (λ s. Viable p s) (names-last us l ∙ ap (λ s. names us ++ s ∷ []) n) (begins_viable p (us ++ l ∷ []) g)))
      one_fault_at (more (node (Element a xs declares at) ks) ts) m p k us zero b c why what (inr (l, n, g, f)) (inl h) =
          absurd (h.0 (subst (λ s. Viable p s) (names-last us l ∙ ap (λ s. names us ++ s ∷ []) n) (begins_viable p (us ++ l ∷ []) g)))
      one_fault_at (more (node (Element a xs declares at) ks) ts) m p k us zero b c why what (inr (l, n, g, f)) (inr (z, o, q, e)) =
          let same : l ≡ z = leaf_same p k us us l z g q refl (n ∙ sym o) in
          one_fault (node (Element a xs declares at) ks) z.decl b c why what (subst (λ s. FaultBy asks s.decl (node (Element a xs declares at) ks) b why) same f) e
