use Rattle.std.proofs.Common.{ℕ, Bool, true, List, IsTrue, IsUtf8, All, ◌<◌, ◌≡◌, ◌↔◌, refl}
use Rattle.std.proofs.lemmas.Str.{IsUtf8-from_ascii}
use Rattle.std.proofs.lemmas.Str.Ascii.{IsAscii-from_all}
use Rattle.base_texts.proofs.texts.Text.of_ascii.Goals as goal

-- bytes that were tested to be ASCII are UTF-8
tested : (bs : List ℕ) (r : Bool) → IsTrue r ↔ All (λ b. b < 128) bs → r ≡ true → IsUtf8 bs
tested bs r h e = IsUtf8-from_ascii bs (IsAscii-from_all bs (h.0 e))

pub invariant_of-result : goal.invariant_of-result
invariant_of-result c = (c.requires, ∣ tested _ _ c.are_ascii.ensures c.if-not-are_ascii.false ∣₁)

pub returns : goal.returns
returns c = record { some = (refl, tested _ _ c.are_ascii.ensures c.if-not-are_ascii.false) }
