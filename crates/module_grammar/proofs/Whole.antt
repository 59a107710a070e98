-- The bytes of a whole text.
use Rattle.std.proofs.Common.{◌≡◌, ℕ, ◌<◌, ◌≤◌, List, [], ◌++◌, length, sym, ap, ◌∙◌, subst, arith, Option, None, append-nil, length-append, drop_of_length-le, lt_of_not-le, le_of_suc-le-suc}
use Rattle.module_grammar.specs.Reading.{Answer, Found, Fails, Deep, Reader, far}
use Rattle.module_grammar.specs.Shapes.{Sunk}
use Rattle.module_grammar.specs.Laws.{Begins, Longest, Told, Again, Law}
use Rattle.module_grammar.proofs.Steps.{none_some}

le_of_not-lt : {m n : ℕ} → (n < m → ⊥) → m ≤ n
le_of_not-lt h = le_of_suc-le-suc (lt_of_not-le h)

module _ {A : Type 0} {Fine : ℕ → A → Type 0} {deep : A → Option Sunk} {write : A → List ℕ} {Follow : List ℕ → Type 0} {read : Reader A} (law : Law Fine deep write Follow read) (ends : Follow []) (place : ℕ) where
  pub again_whole : (a : A) → Fine place a → Again Fine deep write a (read place (write a))
  again_whole a f = subst (λ l. Again Fine deep write a (read place l)) (append-nil (write a)) (law.again place a [] f ends)

  -- where bytes begin a text further than told, that text is read like the bytes
  alike : (bs : List ℕ) (m : ℕ) (b : Begins Fine deep write place bs m) → far (read place bs) < m → read place (write b.value) ≡ read place bs
  alike bs m b lt =
      let near : far (read place (b.front ++ b.rest)) < length b.front = subst (λ k. far (read place (b.front ++ b.rest)) < k) (sym b.long) (subst (λ l. far (read place l) < m) b.is lt) in
      ap (read place) b.begins ∙ law.local place b.front b.rest b.more near ∙ ap (read place) (sym b.is)

  again_further : (bs : List ℕ) (m : ℕ) (b : Begins Fine deep write place bs m) → far (read place bs) < m → Again Fine deep write b.value (read place bs)
  again_further bs m b lt = subst (λ r. Again Fine deep write b.value r) (alike bs m b lt) (again_whole b.value b.fine)

  most_fails : (bs : List ℕ) (n m : ℕ) → read place bs ≡ Fails n → Begins Fine deep write place bs m → m ≤ n
  most_fails bs n m e b = le_of_not-lt (λ lt. subst (λ r. Again Fine deep write b.value r) e (again_further bs m b (subst (λ r. far r < m) (sym e) lt)))

  pub longest_fails : (bs : List ℕ) (n : ℕ) → read place bs ≡ Fails n → Longest Fine deep write place bs n
  longest_fails bs n e = record {
    begins = subst (λ r. Told Fine deep write place bs r) e (law.told place bs);
    most = λ m b. most_fails bs n m e b;
  }

  most_found : (bs : List ℕ) (a : A) (size n m : ℕ) → read place bs ≡ Found a size n → Begins Fine deep write place bs m → m ≤ n
  most_found bs a size n m e b = le_of_not-lt (λ lt.
      let h : Again Fine deep write b.value (Found a size n) = subst (λ r. Again Fine deep write b.value r) e (again_further bs m b (subst (λ r. far r < m) (sym e) lt)) in
      let t : Told Fine deep write place bs (Found a size n) = subst (λ r. Told Fine deep write place bs r) e (law.told place bs) in
      omega (arith, lt, t.0.told, h.1, b.long, ap length b.begins, length-append b.front b.more))

  -- also where more bytes stand behind a text
  pub longest_found : (bs : List ℕ) (a : A) (size n : ℕ) → read place bs ≡ Found a size n → Longest Fine deep write place bs n
  longest_found bs a size n e = record {
    begins = (subst (λ r. Told Fine deep write place bs r) e (law.told place bs)).1;
    most = λ m b. most_found bs a size n m e b;
  }

  -- a text is read whole, and no other value has it, unless a node lies too deep
  pub whole : (a : A) → Fine place a → deep a ≡ None → (n : ℕ) × (read place (write a) ≡ Found a (length (write a)) n)
  whole a f d = cases (read place (write a)) (again_whole a f)
    where
      cases : (r : Answer A) → Again Fine deep write a r → (n : ℕ) × (r ≡ Found a (length (write a)) n)
      cases (Found b size n) t = (n, ap (λ k. Found k size n) t.0 ∙ ap (λ k. Found a k n) t.1)
      cases (Fails n) t = absurd t
      cases (Deep at n) t = none_some t.0 (sym d ∙ t.1)

  -- what is read up to the end is a text
  pub is_text : (bs : List ℕ) (a : A) (n : ℕ) → read place bs ≡ Found a (length bs) n → Fine place a × (bs ≡ write a)
  is_text bs a n e =
      let t : Told Fine deep write place bs (Found a (length bs) n) = subst (λ r. Told Fine deep write place bs r) e (law.told place bs) in
      (t.0.fine, t.0.is ∙ ap (λ l. write a ++ l) (drop_of_length-le bs (omega arith)) ∙ append-nil (write a))
