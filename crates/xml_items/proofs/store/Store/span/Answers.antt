use Rattle.std.proofs.Common.{◌≡◌, ◌≤◌, ◌-◌, ◌∙◌, ℕ, List, length, take, drop, sym, ap, arith, subst, IsUtf8, length-drop}
use Rattle.std.specs.Prelude.{Some}
use Rattle.std.proofs.lemmas.List.{take_all}
use Rattle.xml_items.specs.Meaning.{LiesIn}
use Rattle.xml_items.proofs.store.Store.span.Goals as goal

-- the rest of the document
rest_lies : (document bytes : List ℕ) (at len : ℕ) → bytes ≡ document → LiesIn (Some document) at len
    → (len ≤ length (take (length bytes - at) (drop at bytes))) × ∥ IsUtf8 (take len (take (length bytes - at) (drop at bytes))) ∥₁
rest_lies document bytes at len e h =
    let whole : take (length bytes - at) (drop at bytes) ≡ drop at document = take_all (length bytes - at) (drop at bytes) (omega (arith, length-drop at bytes)) ∙ ap (drop at) e in
    subst (λ (xs : List ℕ). (len ≤ length xs) × ∥ IsUtf8 (take len xs) ∥₁) (sym whole) (omega (arith, h.0, length-drop at document), h.1)

pub invariant_of-result : goal.invariant_of-result
invariant_of-result c =
    rest_lies c.in-Some.document c.bytes.result.now c.args.at c.args.len c.bytes.ensures (subst (λ o. LiesIn o c.args.at c.args.len) c.in-Some.is c.requires)
