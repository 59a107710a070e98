-- Where a node would begin that lies too deep: what tells one is read, and no more of it.
use Rattle.std.proofs.Common.{◌≡◌, ℕ, ◌<◌, ◌≤◌, inl, inr, List, [], ◌∷◌, ◌++◌, length, drop, refl, sym, ap, ◌∙◌, subst, arith, Option, Some, append_assoc, append-nil, length-append}
use Rattle.module_grammar.specs.Reading.{Answer, Found, Fails, Deep, Reader, far, sunk, sunk_at}
use Rattle.module_grammar.specs.Shapes.{Sunk, AnyRest, never}
use Rattle.module_grammar.specs.Laws.{Begins, Told, Again, Law, Early}
use Rattle.module_grammar.proofs.Steps.{some_is, none_some}
use Rattle.module_grammar.proofs.Early.{split_front}

-- a node that begins at the front of its text, and is told by so many bytes
abbrev pub first_node : ℕ → Sunk
first_node n = record { at = 0; told = n }

-- each text begins with one that tells it, and each of those begins one
pub record Opens {A O : Type 0} (FineO : ℕ → O → Type 0) (writeO : O → List ℕ) (Fine : ℕ → A → Type 0) (deep : A → Option Sunk) (write : A → List ℕ) : Type 0 where
  pub some : (place : ℕ) (o : O) → FineO place o → 0 < length (writeO o)
  pub opened : (place : ℕ) (a : A) → Fine place a → (o : O) × (more : List ℕ) × FineO place o × (write a ≡ writeO o ++ more) × (deep a ≡ Some (first_node (length (writeO o))))
  pub closed : (place : ℕ) (o : O) → FineO place o → (a : A) × (more : List ℕ) × Fine place a × (write a ≡ writeO o ++ more) × (deep a ≡ Some (first_node (length (writeO o))))

module _ {A O : Type 0} {FineO : ℕ → O → Type 0} {writeO : O → List ℕ} {Fine : ℕ → A → Type 0} {deep : A → Option Sunk} {write : A → List ℕ} {opening : Reader O}
    (law : Law FineO never writeO AnyRest opening) (opens : Opens FineO writeO Fine deep write) where
  begins : (place : ℕ) (bs : List ℕ) (n : ℕ) → Begins FineO never writeO place bs n → Begins Fine deep write place bs n
  begins place bs n h =
      let a = opens.closed place h.value h.fine in
      record {
        front = h.front;
        rest = h.rest;
        more = h.more ++ a.1;
        value = a.0;
        is = h.is;
        long = h.long;
        fine = a.2;
        begins = a.3 ∙ ap (λ l. l ++ a.1) h.begins ∙ append_assoc h.front h.more a.1;
      }

  told_sunk : (place : ℕ) (bs : List ℕ) (r : Answer O) → Told FineO never writeO place bs r → Told Fine deep write place bs (sunk r)
  told_sunk place bs (Found o size n) t =
      let a = opens.closed place o t.0.fine in (
        record {
          front = writeO o;
          rest = drop size bs;
          more = a.1;
          value = a.0;
          sunk = first_node (length (writeO o));
          is = t.0.is;
          at_is = refl;
          first = opens.some place o t.0.fine;
          long = omega arith;
          fine = a.2;
          deep_is = a.4;
          begins = a.3;
        },
        begins place bs n t.1,
      )
  told_sunk place bs (Fails n) t = begins place bs n t
  told_sunk place bs (Deep at n) t = none_some t.0.sunk t.0.deep_is

  again_sunk : (a : A) (o : O) (r : Answer O) → deep a ≡ Some (first_node (length (writeO o))) → Again FineO never writeO o r → Again Fine deep write a (sunk r)
  again_sunk a o (Found b size n) d t = (first_node (length (writeO o)), d, refl)
  again_sunk a o (Fails n) d t = absurd t
  again_sunk a o (Deep at n) d t = none_some t.0 t.1

  far_sunk : (r : Answer O) → far (sunk {B = A} r) ≡ far r
  far_sunk (Found o size n) = refl
  far_sunk (Fails n) = refl
  far_sunk (Deep at n) = refl

  pub sunk_law : {Follow : List ℕ → Type 0} → Law Fine deep write Follow (sunk_at opening)
  sunk_law = record {
    told = λ place bs. told_sunk place bs (opening place bs) (law.told place bs);
    again = λ place a rest f h.
        let o = opens.opened place a f in
        subst (λ l. Again Fine deep write a (sunk (opening place l))) (sym (ap (λ l. l ++ rest) o.3 ∙ append_assoc (writeO o.0) o.1 rest))
        (again_sunk a o.0 (opening place (writeO o.0 ++ (o.1 ++ rest))) o.4 (law.again place o.0 (o.1 ++ rest) o.2 tt));
    local = λ place p x y lt. ap sunk (law.local place p x y (subst (λ n. n < length p) (far_sunk (opening place (p ++ x))) lt));
    inside = λ place a s f d.
        let o = opens.opened place a f in
        let same : first_node (length (writeO o.0)) ≡ s = some_is (first_node (length (writeO o.0))) s (sym o.4 ∙ d) in
        subst (λ (k : Sunk). (k.at < k.told) × (k.told ≤ length (write a))) same (opens.some place o.0 o.2, omega (arith, ap length o.3, length-append (writeO o.0) o.1));
  }

  deep_found : (o : O) (r : Answer O) → Again FineO never writeO o r → (n : ℕ) × (sunk {B = A} r ≡ Deep 0 n)
  deep_found o (Found b size n) t = (n, refl)
  deep_found o (Fails n) t = absurd t
  deep_found o (Deep at n) t = none_some t.0 t.1

  pub sunk_early : Early Fine deep write (sunk_at opening)
  sunk_early = record { early = early }
    where
      early : (place : ℕ) (a : A) (p more x : List ℕ) (s : Sunk) → Fine place a → deep a ≡ Some s → write a ≡ p ++ more → s.told ≤ length p → (n : ℕ) × (sunk_at {B = A} opening place (p ++ x) ≡ Deep s.at n)
      early place a p more x s f d e le =
          let o = opens.opened place a f in
          let same : first_node (length (writeO o.0)) ≡ s = some_is (first_node (length (writeO o.0))) s (sym o.4 ∙ d) in
          let told : length (writeO o.0) ≡ s.told = ap (λ (k : Sunk). k.told) same in
          elim (split_front (writeO o.0) o.1 p more (sym o.3 ∙ e)) [
            | inl h ↦
                let r = deep_found o.0 (opening place (writeO o.0 ++ (h.0 ++ x))) (law.again place o.0 (h.0 ++ x) o.2 tt) in
                (r.0, ap (λ l. sunk (opening place l)) (ap (λ l. l ++ x) h.1 ∙ append_assoc (writeO o.0) h.0 x) ∙ r.1 ∙ ap (λ (k : Sunk). Deep k.at r.0) same)
            | inr h ↦
                -- the front is all that tells it
                let whole : length h.0 ≡ 0 = omega (arith, le, told, ap length h.1, length-append p h.0) in
                let r = deep_found o.0 (opening place (writeO o.0 ++ x)) (law.again place o.0 x o.2 tt) in
                (r.0, ap (λ l. sunk (opening place (l ++ x))) (sym (h.1 ∙ none_left p h.0 whole)) ∙ r.1 ∙ ap (λ (k : Sunk). Deep k.at r.0) same)
          ]
        where
          none_left : (p q : List ℕ) → length q ≡ 0 → p ++ q ≡ p
          none_left p [] z = append-nil p
          none_left p (b ∷ q) z = absurd (omega (arith, z))
