-- What it means that a reader reads exactly the texts of a grammar, and states how many bytes begin one.
use Rattle.std.specs.Prelude.{◌≡◌, ℕ, ◌<◌, ◌≤◌, Option, Some, None, List, ◌++◌, length, drop}
use Rattle.module_grammar.specs.Reading.{Answer, Found, Fails, Deep, Reader, far}
use Rattle.module_grammar.specs.Shapes.{Sunk}

-- The language: the values that are allowed at a place, the first node of each that is nested too deep, and the text of each.
module _ {A : Type 0} (Fine : ℕ → A → Type 0) (deep : A → Option Sunk) (write : A → List ℕ) where
  -- The bytes begin with the text of this value, which has `size` bytes.
  pub record Front (place : ℕ) (bs : List ℕ) (a : A) (size n : ℕ) : Type 0 where
    pub is : bs ≡ write a ++ drop size bs
    pub long : size ≡ length (write a)
    pub fine : Fine place a
    pub shallow : deep a ≡ None
    pub told : size ≤ n

  -- The first n bytes begin a text.
  pub record Begins (place : ℕ) (bs : List ℕ) (n : ℕ) : Type 0 where
    pub front : List ℕ
    pub rest : List ℕ
    pub more : List ℕ
    pub value : A
    pub is : bs ≡ front ++ rest
    pub long : length front ≡ n
    pub fine : Fine place value
    pub begins : write value ≡ front ++ more

  -- The first n bytes begin a text, and no more of them do.
  pub record Longest (place : ℕ) (bs : List ℕ) (n : ℕ) : Type 0 where
    pub begins : Begins place bs n
    pub most : (m : ℕ) → Begins place bs m → m ≤ n

  -- The bytes begin a text in which the first node that is nested too deep begins here. They agree with the text up to what shows
  -- the node, or further.
  pub record Sinks (place : ℕ) (bs : List ℕ) (at : ℕ) : Type 0 where
    pub front : List ℕ
    pub rest : List ℕ
    pub more : List ℕ
    pub value : A
    pub sunk : Sunk
    pub is : bs ≡ front ++ rest
    pub at_is : sunk.at ≡ at
    pub first : at < length front
    pub long : sunk.told ≤ length front
    pub fine : Fine place value
    pub deep_is : deep value ≡ Some sunk
    pub begins : write value ≡ front ++ more

  -- What an answer states of the bytes holds.
  abbrev pub Told : ℕ → List ℕ → Answer A → Type 0
  Told place bs (Found a size n) = Front place bs a size n × Begins place bs n
  Told place bs (Fails n) = Begins place bs n
  Told place bs (Deep at n) = Sinks place bs at × Begins place bs n

  -- The answer at the text of this value.
  abbrev pub Again : A → Answer A → Type 0
  Again a (Found b size n) = (b ≡ a) × (size ≡ length (write a)) × (deep a ≡ None)
  Again a (Fails n) = ⊥
  Again a (Deep at n) = (s : Sunk) × (deep a ≡ Some s) × (s.at ≡ at)

  -- What the reader states holds. It reads a text before anything that may follow the text. The byte after those that it says begin
  -- a text is the last that decides. What shows a node that is nested too deep is in the text.
  pub record Law (Follow : List ℕ → Type 0) (read : Reader A) : Type 0 where
    pub told : (place : ℕ) (bs : List ℕ) → Told place bs (read place bs)
    pub again : (place : ℕ) (a : A) (rest : List ℕ) → Fine place a → Follow rest → Again a (read place (write a ++ rest))
    pub local : (place : ℕ) (p x y : List ℕ) → far (read place (p ++ x)) < length p → read place (p ++ y) ≡ read place (p ++ x)
    pub inside : (place : ℕ) (a : A) (s : Sunk) → Fine place a → deep a ≡ Some s → (s.at < s.told) × (s.told ≤ length (write a))

  -- The answer at bytes that begin a text with such a node. They agree with the text up to what shows the node, or further, and
  -- anything may follow them.
  pub record Early (read : Reader A) : Type 0 where
    pub early : (place : ℕ) (a : A) (p more x : List ℕ) (s : Sunk) → Fine place a → deep a ≡ Some s → write a ≡ p ++ more → s.told ≤ length p → (n : ℕ) × (read place (p ++ x) ≡ Deep s.at n)
