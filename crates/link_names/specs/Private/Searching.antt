-- For private contracts only: what a search through a graph has seen.
use Rattle.std.specs.Prelude.{◌≡◌, ◌<◌, ◌≤◌, ℕ, zero, suc, ◌+◌, ◌*◌, Bool, true, false, ◌⊎◌, List, [], ◌∷◌, length}
use Rattle.base_texts.specs.Lists.{HasItem}

-- The mark of a node.
abbrev pub mark : List Bool → ℕ → Bool
mark [] n = false
mark (b ∷ bs) zero = b
mark (b ∷ bs) (suc n) = mark bs n

abbrev pub unseen : List Bool → ℕ
unseen [] = 0
unseen (true ∷ bs) = unseen bs
unseen (false ∷ bs) = suc (unseen bs)

-- The nodes seen and open, before and after some nodes were marked and opened.
pub record Opened (seen : List Bool) (open_ : List ℕ) (marked : List Bool) (opened : List ℕ) (nodes : List ℕ) : Type 0 where
  pub long : length marked ≡ length seen
  pub kept : (n : ℕ) → mark seen n ≡ true → mark marked n ≡ true
  pub found : (n : ℕ) → mark marked n ≡ true → (mark seen n ≡ true) ⊎ (HasItem nodes n × HasItem opened n)
  pub all : (n : ℕ) → HasItem nodes n → n < length seen → mark marked n ≡ true
  pub still : (n : ℕ) → HasItem open_ n → HasItem opened n
  pub seen_too : (n : ℕ) → HasItem opened n → HasItem open_ n ⊎ (mark marked n ≡ true)
  pub less : 2 * unseen marked + length opened ≤ 2 * unseen seen + length open_
