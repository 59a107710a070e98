-- What whole bytes are.
use Rattle.std.proofs.Common.{◌≡◌, ◌==◌, if◌then◌else◌, ℕ, Bool, true, false, List, [], length, refl, sym, ap, ◌∙◌, subst, Option, None, eq-eqb}
use Rattle.std.proofs.lemmas.Bool.{eqb-true, eqb-false}
use Rattle.module_grammar.specs.Reading.{Answer, Found, Fails, Deep, Reader}
use Rattle.module_grammar.specs.Laws.{Sinks, Longest, Told, Again, Law, Early}
use Rattle.module_grammar.specs.Shapes.{Sunk}
use Rattle.module_grammar.specs.Verdicts.{Verdict, Read, Syntax, TooDeep, judged, Exact}
use Rattle.module_grammar.proofs.Whole.{again_whole, longest_fails, longest_found, whole, is_text}
use Rattle.module_grammar.proofs.Early.{only_deep}

-- of one kind of value
abbrev verdict_read : {A : Type 0} → A → Verdict A
verdict_read a = Read a

abbrev verdict_syntax : (A : Type 0) → ℕ → Verdict A
verdict_syntax A n = Syntax n

abbrev verdict_deep : (A : Type 0) → ℕ → Verdict A
verdict_deep A n = TooDeep n

read_is : {A : Type 0} (a b : A) → verdict_read a ≡ verdict_read b → a ≡ b
read_is a b e = cc

deep_is : (A : Type 0) (m n : ℕ) → verdict_deep A m ≡ verdict_deep A n → m ≡ n
deep_is A m n e = cc

pub syntax_is : (A : Type 0) (m n : ℕ) → verdict_syntax A m ≡ verdict_syntax A n → m ≡ n
syntax_is A m n e = cc

module _ {A : Type 0} {Fine : ℕ → A → Type 0} {deep : A → Option Sunk} {write : A → List ℕ} {Follow : List ℕ → Type 0} {read : Reader A} (law : Law Fine deep write Follow read) (ea : Early Fine deep write read) (ends : Follow []) where
  reads : (bs : List ℕ) (a : A) → Fine 0 a → deep a ≡ None → write a ≡ bs → judged (length bs) (read 0 bs) ≡ Read a
  reads bs a f d e =
      let r = whole law ends 0 a f d in
      ap (λ l. judged (length l) (read 0 l)) (sym e) ∙ ap (judged (length (write a))) r.1 ∙ ap (λ t. if t then Read a else Syntax r.0) (eq-eqb (length (write a)) (length (write a)) refl)

  -- what an answer was, by what is judged
  found_whole : (bs : List ℕ) (a b : A) (size n : ℕ) (t : Bool) → (size == length bs) ≡ t → (if t then Read b else Syntax n) ≡ Read a → read 0 bs ≡ Found b size n → read 0 bs ≡ Found a (length bs) n
  found_whole bs a b size n true h e k = k ∙ ap (λ c. Found c size n) (read_is b a e) ∙ ap (λ s. Found a s n) (eqb-true size (length bs) h)
  found_whole bs a b size n false h e k = absurd cc

  by_read : (bs : List ℕ) (a : A) (r : Answer A) → read 0 bs ≡ r → judged (length bs) r ≡ Read a → (n : ℕ) × (read 0 bs ≡ Found a (length bs) n)
  by_read bs a (Found b size n) k e = (n, found_whole bs a b size n (size == length bs) refl e k)
  by_read bs a (Fails n) k e = absurd cc
  by_read bs a (Deep at n) k e = absurd cc

  is_read : (bs : List ℕ) (a : A) → judged (length bs) (read 0 bs) ≡ Read a → Fine 0 a × (deep a ≡ None) × (write a ≡ bs)
  is_read bs a e =
      let r = by_read bs a (read 0 bs) refl e in
      let t : Told Fine deep write 0 bs (Found a (length bs) r.0) = subst (λ k. Told Fine deep write 0 bs k) r.1 (law.told 0 bs) in
      let s = is_text law ends 0 bs a r.0 r.1 in
      (s.0, t.0.shallow, sym s.1)

  -- bytes that are no text up to their end
  abbrev Short : List ℕ → ℕ → Answer A → Type 0
  Short bs n (Found b size m) = (m ≡ n) × (size ≡ length bs → ⊥)
  Short bs n (Fails m) = m ≡ n
  Short bs n (Deep at m) = ⊥

  short_found : (bs : List ℕ) (b : A) (size m n : ℕ) (t : Bool) → (size == length bs) ≡ t → (if t then Read b else Syntax m) ≡ Syntax n → (m ≡ n) × (size ≡ length bs → ⊥)
  short_found bs b size m n true h e = absurd cc
  short_found bs b size m n false h e = (syntax_is A m n e, eqb-false size (length bs) h)

  by_syntax : (bs : List ℕ) (n : ℕ) (r : Answer A) → judged (length bs) r ≡ Syntax n → Short bs n r
  by_syntax bs n (Found b size m) e = short_found bs b size m n (size == length bs) refl e
  by_syntax bs n (Fails m) e = syntax_is A m n e
  by_syntax bs n (Deep at m) e = absurd cc

  short_longest : (bs : List ℕ) (n : ℕ) (r : Answer A) → read 0 bs ≡ r → Short bs n r → Longest Fine deep write 0 bs n
  short_longest bs n (Found b size m) k s = subst (λ j. Longest Fine deep write 0 bs j) s.0 (longest_found law ends 0 bs b size m k)
  short_longest bs n (Fails m) k s = subst (λ j. Longest Fine deep write 0 bs j) s (longest_fails law ends 0 bs m k)
  short_longest bs n (Deep at m) k s = absurd s

  short_no_text : (bs : List ℕ) (n : ℕ) (a : A) (r : Answer A) → Short bs n r → write a ≡ bs → Again Fine deep write a r → ⊥
  short_no_text bs n a (Found b size m) s e h = s.1 (h.1 ∙ ap length e)
  short_no_text bs n a (Fails m) s e h = h
  short_no_text bs n a (Deep at m) s e h = s

  short_not_deep : (bs : List ℕ) (n at m : ℕ) (r : Answer A) → Short bs n r → r ≡ Deep at m → ⊥
  short_not_deep bs n at m (Found b size k) s e = cc
  short_not_deep bs n at m (Fails k) s e = cc
  short_not_deep bs n at m (Deep place k) s e = s

  by_deep : (bs : List ℕ) (at : ℕ) (r : Answer A) → Told Fine deep write 0 bs r → judged (length bs) r ≡ TooDeep at → Sinks Fine deep write 0 bs at
  by_deep bs at (Found b size n) t e = absurd (not_deep (size == length bs) b n at e)
    where
      not_deep : (t : Bool) (b : A) (n at : ℕ) → (if t then Read b else Syntax n) ≡ TooDeep at → ⊥
      not_deep true b n at e = cc
      not_deep false b n at e = cc
  by_deep bs at (Fails n) t e = absurd cc
  by_deep bs at (Deep place n) t e = subst (λ k. Sinks Fine deep write 0 bs k) (deep_is A place at e) t.0

  pub exact : Exact Fine deep write (λ bs. judged (length bs) (read 0 bs))
  exact = record {
    reads = reads;
    read = is_read;
    syntax_longest = λ bs n e. short_longest bs n (read 0 bs) refl (by_syntax bs n (read 0 bs) e);
    syntax_no_text = λ bs n a e f w. short_no_text bs n a (read 0 bs) (by_syntax bs n (read 0 bs) e) w (subst (λ l. Again Fine deep write a (read 0 l)) w (again_whole law ends 0 a f));
    syntax_shallow = λ bs n at e s. let r = only_deep ea 0 bs at s in short_not_deep bs n at r.0 (read 0 bs) (by_syntax bs n (read 0 bs) e) r.1;
    sinks = λ bs at s. let r = only_deep ea 0 bs at s in ap (judged (length bs)) r.1;
    too_deep = λ bs at e. by_deep bs at (read 0 bs) (law.told 0 bs) e;
  }
