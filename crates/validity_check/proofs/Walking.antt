-- What is known behind some kids of an element, whose names a matcher took.
use Rattle.std.proofs.Common.{◌≡◌, ℕ, ◌+◌, ◌≤◌, ◌<◌, ◌⊎◌, List, [], ◌∷◌, ◌++◌, Bool, true, false, length, get_or, sym, ◌∙◌, subst, arith, length-append}
use Rattle.std.specs.Prelude.{Result, Ok, Err, MatchResult}
use Rattle.base_texts.specs.declared.texts.Name.{Name}
use Rattle.base_texts.specs.WhiteSpace.{is_blank}
use Rattle.base_trees.specs.Rose.{Rose, roses_of, label_of}
use Rattle.content_models.specs.Particle.{Particle}
use Rattle.content_models.specs.Language.{Leaf, names, Lang, Viable}
use Rattle.content_models.specs.SpotLaws.{IsNamed}
use Rattle.content_match.specs.Taking.{Matched, Took, TookMore}
use Rattle.content_match.specs.declared.places.Leaf as matched
use Rattle.xml_items.specs.declared.label.ItemLabel.{ItemLabel}
use Rattle.xml_items.specs.declared.label.ItemLabel.TheVariants.{Element, Text}
use Rattle.schema_components.specs.Components.{Set}
use Rattle.schema_components.specs.SetParts.{parts_of}
use Rattle.validity_rules.specs.Asked.{asked_at}
use Rattle.validity_rules.specs.Valid.{ValidBy}
use Rattle.validity_rules.specs.Faults.{Begins, At, front, FaultBy}
use Rattle.validity_rules.specs.declared.why.InvalidWhy.{InvalidWhy}
use Rattle.validity_rules.specs.declared.why.InvalidWhy.TheVariants.{TextNotAllowed, UnexpectedElement, MissingElement}
use Rattle.validity_rules.proofs.Reading.{Fine, all_read, more_wanted, text_fault, unexpected, own_fault, text_read, element_read}
use Rattle.validity_check.specs.declared.error.CheckError.{CheckError}
use Rattle.validity_check.specs.declared.error.CheckError.TheVariants.{Invalid, Memory}
use Rattle.validity_check.specs.Told.{AreNamed}
use Rattle.validity_check.specs.Walked.{Walked}
use Rattle.validity_check.specs.Answers.{Tells, KidsFault, AreValidKids, IsValidBy}
use Rattle.validity_check.proofs.Leaves.{last_declared}

begun_by : (k : Matched) (us : List Leaf) → Took k us → Begins k.particle us
begun_by k us h = (h.leads.rest, h.leads.forth h.leads.rest h.leads.some)

-- the declaration of one more leaf is one of the set
pub leaf_declared : (s : Set) (old new : Matched) (us : List Leaf) (n : Name) (leaf : matched.Leaf) → new.particle ≡ old.particle → TookMore old new us n leaf → AreNamed s old.particle
    → leaf.decl < length s.elements
leaf_declared s old new us n leaf same further low =
    let ahead : Begins old.particle (us ++ further.last ∷ []) =
    subst (λ q. Begins q (us ++ further.last ∷ [])) same (begun_by new (us ++ further.last ∷ []) further.took)
    in
    subst (λ d. d < length s.elements) further.decl (last_declared s old.particle us further.last low ahead)

module _ (s : Set) (m : Bool) (p : Particle) (kids : List (Rose ItemLabel)) (place : ℕ) (i : ℕ) (k : Matched) (w : Walked s m p kids i k) where
  begun : Begins p w.us
  begun = subst (λ q. Begins q w.us) w.particle (begun_by k w.us w.took)

  so_far : Fine (asked_at (parts_of s)) m (front i (roses_of kids)) w.us
  so_far = (w.vs, w.fine)

  pub all_taken : length kids ≤ i → Lang k.particle 0 [] w.us → AreValidKids (asked_at (parts_of s)) m p (roses_of kids)
  all_taken past l = all_read (asked_at (parts_of s)) m p w.us kids place begun i so_far past (subst (λ q. Lang q 0 [] w.us) w.particle l)

  moved_to : (at : ℕ) (why : InvalidWhy) (b : ℕ) (reason : InvalidWhy) → at ≡ b → why ≡ reason → KidsFault (asked_at (parts_of s)) m p (roses_of kids) place b reason
      → KidsFault (asked_at (parts_of s)) m p (roses_of kids) place at why
  moved_to at why b reason e f h =
      subst (λ a. KidsFault (asked_at (parts_of s)) m p (roses_of kids) place a why) (sym e) (subst (λ r. KidsFault (asked_at (parts_of s)) m p (roses_of kids) place b r) (sym f) h)

  pub missing : length kids ≤ i → (IsNamed k.particle (names w.us) → ⊥) → KidsFault (asked_at (parts_of s)) m p (roses_of kids) place place MissingElement
  missing past n = more_wanted (asked_at (parts_of s)) m p w.us kids place begun i so_far past (λ v l e. n (v, subst (λ q. Lang q 0 [] v) (sym w.particle) l, e))

  pub end_judged : {X : Type 0} → length kids ≤ i → (r : Result X CheckError)
      → MatchResult r (λ _. Lang k.particle 0 [] w.us) (Tells (At place MissingElement (IsNamed k.particle (names w.us) → ⊥)))
      → MatchResult r (λ _. AreValidKids (asked_at (parts_of s)) m p (roses_of kids)) (Tells (KidsFault (asked_at (parts_of s)) m p (roses_of kids) place))
  end_judged past (Ok x) h = all_taken past h
  end_judged past (Err (Invalid at why)) h = moved_to at why place MissingElement h.0 h.1 (missing past h.2)
  end_judged past (Err Memory) h = tt

  module _ (t : Rose ItemLabel) (below : i < length kids) (here : t ≡ get_or kids i t) where
    pub text_refused : (words : List ℕ) (b : ℕ) → label_of t ≡ Text words b → m ≡ false → is_blank words ≡ false → KidsFault (asked_at (parts_of s)) m p (roses_of kids) place b TextNotAllowed
    text_refused words b l e h = text_fault (asked_at (parts_of s)) m p w.us kids place begun i t so_far below here words b l e h

    pub text_kept : (words : List ℕ) (b : ℕ) → label_of t ≡ Text words b → (m ≡ true) ⊎ (is_blank words ≡ true) → Walked s m p kids (i + 1) k
    text_kept words b l a =
        let g = text_read (asked_at (parts_of s)) m p w.us kids place begun i t so_far below here words b l a in
        record { particle = w.particle; us = w.us; took = w.took; vs = g.0; fine = g.1; few = omega (arith, w.few) }

    pub text_judged : {X : Type 0} (words : List ℕ) (b : ℕ) → label_of t ≡ Text words b → (r : Result X CheckError)
        → MatchResult r (λ _. (m ≡ true) ⊎ (is_blank words ≡ true)) (Tells (At b TextNotAllowed ((m ≡ false) × (is_blank words ≡ false))))
        → MatchResult r (λ _. Walked s m p kids (i + 1) k) (Tells (KidsFault (asked_at (parts_of s)) m p (roses_of kids) place))
    text_judged words b l (Ok x) h = text_kept words b l h
    text_judged words b l (Err (Invalid at why)) h = moved_to at why b TextNotAllowed h.0 h.1 (text_refused words b l h.2.0 h.2.1)
    text_judged words b l (Err Memory) h = tt

    module _ (n : Name) (xs : List (Name × List ℕ)) (declares : List (List ℕ × List ℕ)) (c : ℕ) (is : label_of t ≡ Element n xs declares c) where
      pub name_refused : (Viable k.particle (names w.us ++ n ∷ []) → ⊥) → KidsFault (asked_at (parts_of s)) m p (roses_of kids) place c UnexpectedElement
      name_refused v = unexpected (asked_at (parts_of s)) m p w.us kids place begun i t so_far below here n xs declares c is (subst (λ q. Viable q (names w.us ++ n ∷ []) → ⊥) w.particle v)

      module _ (new : Matched) (leaf : matched.Leaf) (same : new.particle ≡ k.particle) (further : TookMore k new w.us n leaf) where
        ahead : Begins p (w.us ++ further.last ∷ [])
        ahead = subst (λ q. Begins q (w.us ++ further.last ∷ [])) (same ∙ w.particle) (begun_by new (w.us ++ further.last ∷ []) further.took)

        pub kid_refused : (b : ℕ) (why : InvalidWhy) → FaultBy (asked_at (parts_of s)) leaf.decl t b why → KidsFault (asked_at (parts_of s)) m p (roses_of kids) place b why
        kid_refused b why f =
            own_fault (asked_at (parts_of s)) m p w.us kids place begun i t so_far below here n xs declares c is b why further.last further.named ahead
            (subst (λ d. FaultBy (asked_at (parts_of s)) d t b why) (sym further.decl) f)

        pub kid_kept : IsValidBy s leaf.decl t → Walked s m p kids (i + 1) new
        kid_kept v =
            let g = element_read (asked_at (parts_of s)) m p w.us kids place begun i t so_far below here n xs declares c is further.last further.named v.0
            (subst (λ d. ValidBy (asked_at (parts_of s)) d t v.0) (sym further.decl) v.1)
            in
            record {
              particle = same ∙ w.particle;
              us = w.us ++ further.last ∷ [];
              took = further.took;
              vs = g.0;
              fine = g.1;
              few = omega (arith, w.few, length-append w.us (further.last ∷ []));
            }

        pub kid_judged : {X : Type 0} (r : Result X CheckError) → MatchResult r (λ _. IsValidBy s leaf.decl t) (Tells (FaultBy (asked_at (parts_of s)) leaf.decl t))
            → MatchResult r (λ _. Walked s m p kids (i + 1) new) (Tells (KidsFault (asked_at (parts_of s)) m p (roses_of kids) place))
        kid_judged (Ok x) h = kid_kept h
        kid_judged (Err (Invalid at why)) h = kid_refused at why h
        kid_judged (Err Memory) h = tt
