-- A matcher tells whether names go on, and whether they are enough.
use Rattle.std.proofs.Common.{◌≡◌, List, [], ◌∷◌, ◌++◌, Option, Some, None, true, refl, sym, ◌∙◌, ap, subst, append_assoc, append-nil}
use Rattle.base_texts.specs.declared.texts.Name.{Name}
use Rattle.content_models.specs.Particle.{Particle}
use Rattle.content_models.specs.Language.{Leaf, names, Lang, Viable}
use Rattle.content_models.specs.Clear.{Clear}
use Rattle.content_models.specs.Occurring.{MayOccur}
use Rattle.content_models.specs.Laws.{Share}
use Rattle.content_models.proofs.Opening.{names-append, lang_opens}
use Rattle.content_models.proofs.Beginning.{law_of_beginnings}
use Rattle.content_models.proofs.Starting.{some_list, empty_list}
use Rattle.content_models.proofs.Next.{same_front}
use Rattle.content_models.specs.Spots.{Spot, leaf_of, After}
use Rattle.content_models.specs.SpotLaws.{step_from, may_end, Onward, Leads, AreTheFirst, IsNamed, Matches, LawOfMatching}
use Rattle.content_models.proofs.Entering.{Found, enter_finds}
use Rattle.content_models.proofs.SpotSteps.{next_finds, done_finishes}
use Rattle.content_models.proofs.Given.{Gives, enter_gives, next_gives, done_after}

module _ (p : Particle) (c : Clear p []) (d : MayOccur p) where
  are_first : (o : Option Spot) (us : List Leaf) → Leads p o us → AreTheFirst p us
  are_first o us h w r l e =
      go (law_of_beginnings p 0 [] c (us ++ h.rest) w (names us) (names h.rest) r (h.forth h.rest h.some) l (names-append us h.rest) e)
    where
      go : Share (us ++ h.rest) w (names us) → (rest : List Leaf) × (w ≡ us ++ rest)
      go sh =
          let front : us ≡ sh.common = same_front us h.rest sh.common sh.more_left sh.left sh.named in
          (sh.more_right, sh.right ∙ ap (λ z. z ++ sh.more_right) (sym front))

  -- the leaf that leads on
  found : (o : Option Spot) (x : Leaf) (m : List Leaf) → Onward p o (x ∷ m) → Found (step_from p o x.name) (leaf_of p 0 []) (After p 0 []) x m
  found None x m h = enter_finds p [] 0 [] x m c d h
  found (Some s) x m h = next_finds p [] 0 [] s x m c d h

  gives : (o : Option Spot) (a : Name) (z : Spot) (w : List Leaf) → Onward p o w → step_from p o a ≡ Some z
      → Gives (leaf_of p 0 [] z) (After p 0 [] z) (Onward p o) a
  gives None a z w h e = enter_gives p [] 0 [] a z c d e
  gives (Some s) a z w h e = next_gives p [] 0 [] s a z w c d h e

  goes : (o : Option Spot) (us : List Leaf) → Leads p o us → (a : Name) (z : Spot) → step_from p o a ≡ Some z
      → (l : Leaf) × (l.name ≡ a) × Leads p (Some z) (us ++ l ∷ [])
  goes o us h a z e =
      let g = gives o a z h.rest h.some e in (
        g.l,
        g.named,
        record {
          ends = (us, g.l, refl, g.leaf_is);
          forth = λ w k. subst (λ q. Lang p 0 [] q) (sym (append_assoc us (g.l ∷ []) w)) (h.forth (g.l ∷ w) (g.back w k));
          back = λ w k. arrive g w (h.back (g.l ∷ w) (subst (λ q. Lang p 0 [] q) (append_assoc us (g.l ∷ []) w) k));
          rest = g.rest;
          some = g.some;
        },
      )
    where
      arrive : (g : Gives (leaf_of p 0 [] z) (After p 0 [] z) (Onward p o) a) (w : List Leaf) → Onward p o (g.l ∷ w) → After p 0 [] z w
      arrive g w k =
          let f = found o g.l w k in
          let q : step_from p o a ≡ Some f.spot = subst (λ y. step_from p o y ≡ Some f.spot) g.named f.found in
          let there : f.spot ≡ z = cc in
          subst (λ y. After p 0 [] y w) there f.rest

  behind : (us w m : List Leaf) (a : Name) (r : List Name) → w ≡ us ++ m → names w ≡ (names us ++ a ∷ []) ++ r → names m ≡ a ∷ r
  behind [] w m a r e n = ap names (sym e) ∙ n
  behind (x ∷ us) [] m a r e n = absurd (cc)
  behind (x ∷ us) (y ∷ w) m a r e n = behind us w m a r (cc) (cc)

  stops : (o : Option Spot) (us : List Leaf) → Leads p o us → (a : Name) → step_from p o a ≡ None → Viable p (names us ++ a ∷ []) → ⊥
  stops o us h a none (w, r, l, n) =
      let f = are_first o us h w (a ∷ r) l (n ∙ append_assoc (names us) (a ∷ []) r) in
      more f.0 f.1 (behind us w f.0 a r f.1 n)
    where
      more : (m : List Leaf) → w ≡ us ++ m → names m ≡ a ∷ r → ⊥
      more [] e q = cc
      more (x ∷ m) e q =
          let named : x.name ≡ a = cc in
          let f = found o x m (h.back (x ∷ m) (subst (λ z. Lang p 0 [] z) e l)) in
          let g : step_from p o a ≡ Some f.spot = subst (λ z. step_from p o z ≡ Some f.spot) named f.found in
          cc (g, none)

  -- nothing more is needed exactly where nothing more may come
  enough : (o : Option Spot) (w : List Leaf) → Onward p o w → may_end p o ≡ true → Onward p o []
  enough None w h e = empty_list p 0 [] d e
  enough (Some s) w h e = done_after p 0 [] s w d e h

  is_enough : (o : Option Spot) → Onward p o [] → may_end p o ≡ true
  is_enough None h = lang_opens p 0 [] [] h
  is_enough (Some s) h = done_finishes p [] 0 [] s c h

  finds : (o : Option Spot) (us : List Leaf) → Leads p o us → IsNamed p (names us) → Lang p 0 [] us
  finds o us h (w, l, n) =
      let f = are_first o us h w [] l (n ∙ sym (append-nil (names us))) in
      subst (λ z. Lang p 0 [] z) (f.1 ∙ ap (λ z. us ++ z) (no_more f.0 f.1) ∙ append-nil us) l
    where
      none_behind : (us v w m : List Leaf) → w ≡ v ++ m → names w ≡ names us → names v ≡ names us → m ≡ []
      none_behind [] [] w [] e n q = refl
      none_behind [] [] w (x ∷ m) e n q = absurd (let z : names (x ∷ m) ≡ [] = ap names (sym e) ∙ n in cc)
      none_behind [] (y ∷ v) w m e n q = absurd (cc)
      none_behind (x ∷ us) [] w m e n q = absurd (cc)
      none_behind (x ∷ us) (y ∷ v) [] m e n q = absurd (cc)
      none_behind (x ∷ us) (y ∷ v) (z ∷ w) m e n q = none_behind us v w m (cc) (cc) (cc)

      no_more : (m : List Leaf) → w ≡ us ++ m → m ≡ []
      no_more m e = none_behind us us w m e n refl

  matches : Matches p
  matches =
      record {
        start = record { ends = refl; forth = λ w h. h; back = λ w h. h; rest = (some_list p 0 [] d).0; some = (some_list p 0 [] d).1 };
        first = λ o us h. ((us ++ h.rest, names h.rest, h.forth h.rest h.some, names-append us h.rest), are_first o us h);
        goes = goes;
        stops = stops;
        ends = λ o us h. (
          λ e. subst (λ z. Lang p 0 [] z) (append-nil us) (h.forth [] (enough o h.rest h.some e)),
          λ l. is_enough o (h.back [] (subst (λ z. Lang p 0 [] z) (sym (append-nil us)) l)),
        );
        finds = finds;
      }

pub law_of_matching : LawOfMatching
law_of_matching p c d = matches p c d
