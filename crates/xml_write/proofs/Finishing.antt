-- The declarations of namespaces, put in behind the name of the root, make the text whole.
use Rattle.std.proofs.Common.{◌≡◌, ℕ, List, ◌∷◌, [], ◌++◌, ◌≤◌, length, take, drop, refl, sym, ap, ◌∙◌, append_assoc, length-append, arith}
use Rattle.std.specs.List.{flat_map}
use Rattle.std.proofs.lemmas.List.{take_at, drop_at}
use Rattle.base_texts.specs.declared.texts.Name.{Name}
use Rattle.base_trees.specs.Rose.{node, Roses}
use Rattle.xml_items.specs.declared.label.ItemLabel.{ItemLabel}
use Rattle.xml_items.specs.declared.label.ItemLabel.TheVariants.{Element}
use Rattle.xml_write.specs.Written.{written_name, written_declaration, xml_declaration, written}
use Rattle.xml_write.specs.declared.builder.TextBuilder.{TextBuilder}
use Rattle.xml_write.specs.Telling.{IsBegun, Told}
use Rattle.xml_write.proofs.Telling.{front-and-rest, whole-text}

-- what is put in behind the front of a text
put-in : (at : ℕ) (front rest more text out : List ℕ) → text ≡ (front ++ rest) ++ 10 ∷ [] → (length front ≤ length text → at ≡ length front) → out ≡ (take at text ++ more) ++ drop at text → out ≡ ((front ++ more) ++ rest) ++ 10 ∷ []
put-in at front rest more text out et place eo =
    let parts : text ≡ front ++ (rest ++ 10 ∷ []) = et ∙ append_assoc front rest (10 ∷ []) in
    let within : length front ≤ length text = omega (arith, ap length parts, length-append front (rest ++ 10 ∷ [])) in
    let long : length front ≡ at = sym (place within) in
    eo ∙ ap (λ t. (take at t ++ more) ++ drop at t) parts ∙ ap (λ t. (t ++ more) ++ drop at (front ++ (rest ++ 10 ∷ []))) (take_at front (rest ++ 10 ∷ []) at long)
    ∙ ap (λ t. (front ++ more) ++ t) (drop_at front (rest ++ 10 ∷ []) at long) ∙ sym (append_assoc (front ++ more) rest (10 ∷ []))

pub finished : (begun b : TextBuilder) (name : Name) (attributes : List (Name × List ℕ)) (items : Roses ItemLabel) (at : ℕ) (declarations text out : List ℕ) → IsBegun begun → Told begun b [] (node (Element name attributes [] 0) items ∷ [])
    → declarations ≡ flat_map written_declaration b.prefixes → text ≡ b.text.items ++ 10 ∷ [] → (length (xml_declaration ++ 60 ∷ written_name b.prefixes name) ≤ length text → at ≡ length (xml_declaration ++ 60 ∷ written_name b.prefixes name))
    → out ≡ (take at text ++ declarations) ++ drop at text → out ≡ written (node (Element name attributes [] 0) items)
finished begun b name attributes items at declarations text out is told ed et place eo =
    let front = xml_declaration ++ 60 ∷ written_name b.prefixes name in
    whole-text begun b name attributes items front declarations out refl is told ed
    (put-in at front _ declarations text out (et ∙ ap (λ t. t ++ 10 ∷ []) (front-and-rest begun b name attributes items front refl is told)) place eo)
