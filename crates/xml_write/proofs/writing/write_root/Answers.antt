use Rattle.std.proofs.Common.{◌≡◌, ◌++◌, ◌∷◌, [], refl, ap, map, ◌∙◌, rules}
use Rattle.std.specs.List.{flat_map}
use Rattle.xml_write.specs.Spaces.{prefixes, spaces}
use Rattle.xml_write.specs.Private.Binding.{entry_of, with_spaces}
use Rattle.xml_write.specs.Written.{written_declaration, spelled, xml_declaration}
use Rattle.xml_write.proofs.Written.{written-parts}
use Rattle.xml_write.proofs.WrittenSpaces.{with_spaces-prefixes}
use Rattle.xml_write.proofs.writing.write_root.Goals as goal

pub returns : goal.returns
returns c =
    let items = c.args.root.now in
    let table = c.bind_tree.new.self in
    let declarations = flat_map written_declaration (map entry_of c.entries.result.now) in
    let from_none : table ≡ with_spaces [] (spaces items) = search rules in
    let found : table ≡ prefixes items = from_none ∙ with_spaces-prefixes items in
    let declared : declarations ≡ flat_map written_declaration table = ap (flat_map written_declaration) c.entries.ensures in
    let tree : c.write_tree.new.out.items ≡ c.in_ok-out.out.items ++ spelled table declarations items = c.in_ok-write_tree.ensures in
    let begun : c.in_ok-out.out.items ≡ xml_declaration = c.in_ok-out.ensures.items in
    let ended : c.push.new.self.items ≡ c.write_tree.new.out.items ++ 10 ∷ [] = c.in_ok-push.ensures.items in
    ended ∙ ap (λ t. t ++ 10 ∷ []) (tree ∙ ap (λ t. t ++ spelled table declarations items) begun)
    ∙ written-parts items items table declarations refl found declared
