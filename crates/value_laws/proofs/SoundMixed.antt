-- Sound elements with texts between them: no two texts are neighbours, and none is empty.
use Rattle.std.proofs.Common.{◌≡◌, ℕ, ◌&&◌, false, None, List, [], ◌∷◌, refl}
use Rattle.std.specs.Prelude.{All, chars, length, nat_le}
use Rattle.std.specs.List.{list_all}
use Rattle.std.proofs.lemmas.List.Elements.{All-head, All-tail}
use Rattle.base_trees.specs.Rose.{node, Roses, none, more}
use Rattle.simple_types.specs.declared.simples.Class.TheVariants.{Any}
use Rattle.simple_types.specs.Lexical.{in_class, is_at_most}
use Rattle.base_texts.specs.Characters.{is_xml_char}
use Rattle.xml_items.specs.Plain.{Plain, element, text}
use Rattle.xml_items.specs.Mixing.{text_before, interleaved, AllElements}
use Rattle.schema_components.proofs.Truths.{both}
use Rattle.xer_items.specs.Sound.{HasCharacters, begins_with_text, AreSound}
use Rattle.value_laws.proofs.Mixed.{IsXmlText}

xml-characters : (words : List ℕ) → IsXmlText words → HasCharacters words
xml-characters words h utf8 =
    let xml = list_all is_xml_char (chars words) in
    let least = nat_le 0 (length (chars words)) in
    let most = is_at_most (length (chars words)) None in
    (both xml least (both (xml && least) most (both (xml && least && most) (in_class Any words) h).0).0).0

pub text-sound : (words : List ℕ) → HasCharacters words → (items : Roses Plain) → begins_with_text items ≡ false → AreSound items → AreSound (text_before words items)
text-sound [] fine items first sound = sound
text-sound (b ∷ bs) fine items first sound = (((refl, fine), tt), first, sound)

pub texts-sound : (texts : List (List ℕ)) → All IsXmlText texts → (items : Roses Plain) → AllElements items → AreSound items → AreSound (interleaved texts items)
texts-sound [] fine items elements sound = sound
texts-sound (words ∷ texts) fine none elements sound = text-sound words (xml-characters words (All-head IsXmlText words texts fine)) none refl tt
texts-sound (words ∷ texts) fine (more (node (text others) ks) items) elements sound = absurd elements.0
texts-sound (words ∷ texts) fine (more (node (element name xs) ks) items) elements sound =
    let rest = texts-sound texts (All-tail IsXmlText words texts fine) items elements.1 sound.2 in
    text-sound words (xml-characters words (All-head IsXmlText words texts fine)) (more (node (element name xs) ks) (interleaved texts items)) refl (sound.0, refl, rest)
