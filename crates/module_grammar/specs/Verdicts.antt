-- What all bytes are: a text, or no text from some place on, or nested too deep.
use Rattle.std.specs.Prelude.{◌≡◌, ◌==◌, ℕ, Option, None, List, if◌then◌else◌}
use Rattle.module_grammar.specs.Reading.{Answer, Found, Fails, Deep}
use Rattle.module_grammar.specs.Shapes.{Sunk}
use Rattle.module_grammar.specs.Laws.{Longest, Sinks}

pub data Verdict (A : Type 0) : Type 0 where
  Read : A → Verdict A
  Syntax : ℕ → Verdict A
  TooDeep : ℕ → Verdict A

abbrev pub judged : {A : Type 0} → ℕ → Answer A → Verdict A
judged len (Found a size n) = if size == len then Read a else Syntax n
judged len (Fails n) = Syntax n
judged len (Deep at n) = TooDeep at

-- Exactly the texts without a node that is nested too deep are read. If the bytes begin a text up to what shows such a node, its
-- place is given. Of all others the number of bytes is given that begin a text.
pub record Exact {A : Type 0} (Fine : ℕ → A → Type 0) (deep : A → Option Sunk) (write : A → List ℕ) (verdict : List ℕ → Verdict A) : Type 0 where
  pub reads : (bs : List ℕ) (a : A) → Fine 0 a → deep a ≡ None → write a ≡ bs → verdict bs ≡ Read a
  pub read : (bs : List ℕ) (a : A) → verdict bs ≡ Read a → Fine 0 a × (deep a ≡ None) × (write a ≡ bs)
  pub syntax_longest : (bs : List ℕ) (n : ℕ) → verdict bs ≡ Syntax n → Longest Fine deep write 0 bs n
  pub syntax_no_text : (bs : List ℕ) (n : ℕ) (a : A) → verdict bs ≡ Syntax n → Fine 0 a → write a ≡ bs → ⊥
  pub syntax_shallow : (bs : List ℕ) (n at : ℕ) → verdict bs ≡ Syntax n → Sinks Fine deep write 0 bs at → ⊥
  pub sinks : (bs : List ℕ) (at : ℕ) → Sinks Fine deep write 0 bs at → verdict bs ≡ TooDeep at
  pub too_deep : (bs : List ℕ) (at : ℕ) → verdict bs ≡ TooDeep at → Sinks Fine deep write 0 bs at
