-- A reader reads exactly what a writer writes. E is the type of a list's elements, A that of a value, S that of a stop.
use Rattle.std.specs.Prelude.{◌≡◌, ℕ, ◌+◌, ◌≤◌, ◌⊎◌, List, [], ◌++◌, length, drop, Ok, Err}
use Rattle.base_codecs.specs.declared.spots.Spot.{Spot}
use Rattle.base_codecs.specs.Reading.{Reader, Writer, moved}

abbrev pub most_nodes : ℕ
most_nodes = 1048576

-- `found` is the part of the list from p to q.
pub record Taken {E : Type 0} (X : List E) (p q : ℕ) (found : List E) : Type 0 where
  pub parts : drop p X ≡ found ++ drop q X
  pub end : q ≡ p + length found
  pub inside : q ≤ length X

-- `found` is at p, and `rest` follows it.
pub record Stands {E : Type 0} (X : List E) (p : ℕ) (found rest : List E) : Type 0 where
  pub inside : p ≤ length X
  pub is : drop p X ≡ found ++ rest

-- The reader consumed `found`, and counted `weight` nodes within the limit.
pub record Came {E : Type 0} (X : List E) (s r : Spot) (found : List E) (weight : ℕ) : Type 0 where
  pub taken : Taken X s.at r.at found
  pub nodes : r.nodes ≡ s.nodes + weight
  pub few : s.nodes ≤ most_nodes → r.nodes ≤ most_nodes

-- If a list has at a spot what is written of a valid value, if Rest holds of what follows it, and if its nodes are within the
-- limit, then the value is read. If a value is read of a fine list, then it is valid, what is written of it is there, and Rest
-- holds of what follows. Fine restricts the elements of a list, for example to octets.
pub record CodecBefore {E S A : Type 0} (Fine Rest : List E → Type 0) (Valid : A → Type 0) (weight : A → ℕ) (write : A → Writer E) (read : Reader E S A) : Type 0 where
  pub again : (X rest : List E) (s : Spot) (a : A) → Rest rest → Valid a → s.nodes + weight a ≤ most_nodes → Stands X s.at (write a s.at) rest
      → read X s ≡ Ok (a, moved s (length (write a s.at)) (weight a))
  pub takes : (X : List E) (s : Spot) (x : A × Spot) → Fine X → s.at ≤ length X → read X s ≡ Ok x → Came X s x.1 (write x.0 s.at) (weight x.0) × Valid x.0 × Rest (drop x.1.at X)

abbrev pub Anything : {E : Type 0} → List E → Type 0
Anything rest = Unit {0}

abbrev pub Nothing : {E : Type 0} → List E → Type 0
Nothing rest = rest ≡ []

-- Anything may follow: what is written determines where it ends.
abbrev pub Codec : {E S A : Type 0} → (List E → Type 0) → (A → Type 0) → (A → ℕ) → (A → Writer E) → Reader E S A → Type 0
Codec Fine Valid weight write read = CodecBefore Fine Anything Valid weight write read

-- Nothing may follow: the value is the rest of the list, or of a window of it.
abbrev pub Filling : {E S A : Type 0} → (List E → Type 0) → (A → Type 0) → (A → ℕ) → (A → Writer E) → Reader E S A → Type 0
Filling Fine Valid weight write read = CodecBefore Fine Nothing Valid weight write read

-- EXACTLY ONE. A spot has what is written of a valid value, and its nodes are within the limit.
module _ {E A : Type 0} (Valid : A → Type 0) (weight : A → ℕ) (write : A → Writer E) where
  pub record IsThere (X : List E) (s : Spot) (a : A) : Type 0 where
    pub valid : Valid a
    pub few : s.nodes + weight a ≤ most_nodes
    pub rest : List E
    pub stands : Stands X s.at (write a s.at) rest

-- At each spot there is either what is written of exactly one value, or exactly one stop.
pub record ExactlyOne {E S A : Type 0} (Fine : List E → Type 0) (Valid : A → Type 0) (weight : A → ℕ) (write : A → Writer E) (read : Reader E S A) : Type 0 where
  pub either : (X : List E) (s : Spot) → Fine X → s.at ≤ length X → s.nodes ≤ most_nodes → ((a : A) × IsThere Valid weight write X s a) ⊎ ((stop : S) × (read X s ≡ Err stop))
  pub not_both : (X : List E) (s : Spot) (a : A) (stop : S) → IsThere Valid weight write X s a → read X s ≡ Err stop → ⊥
  pub one_value : (X : List E) (s : Spot) (a b : A) → IsThere Valid weight write X s a → IsThere Valid weight write X s b → a ≡ b
  pub one_stop : (X : List E) (s : Spot) (r q : S) → read X s ≡ Err r → read X s ≡ Err q → r ≡ q
