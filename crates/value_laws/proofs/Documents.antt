-- What is read of the document of a value is valid, since the items of the value are, and items that differ in places,
-- bindings and the order of attributes are valid alike.
use Rattle.std.proofs.Common.{◌≡◌, Some, sym, ap, subst, ◌∙◌, refl}
use Rattle.base_trees.specs.Rose.{Rose, node, Roses, none, more}
use Rattle.xml_read.proofs.Known.{laws}
use Rattle.xml_items.specs.Plain.{Plain, element, text, plain_of, plain_all}
use Rattle.xml_items.specs.Unplaced.{unplaced, all_unplaced}
use Rattle.schema_components.specs.SetParts.{parts_of}
use Rattle.validity_rules.specs.Laws.{SameValidity}
use Rattle.validity_rules.specs.Valid.{Valid}
use Rattle.value_laws.proofs.OwnDeclarations.{items-of-values}
use Rattle.value_laws.specs.SoundItems.{DocumentsOfValues}
use Rattle.value_laws.proofs.Reading.{tree_is_sound}

mutual
  plain-unplaced : (b : Rose Plain) → plain_of (unplaced b) ≡ b
  plain-unplaced (node (element name xs) items) = ap (λ s. node (element name xs) s) (plain-all items)
  plain-unplaced (node (text words) items) = ap (λ s. node (text words) s) (plain-all items)

  plain-all : (items : Roses Plain) → plain_all (all_unplaced items) ≡ items
  plain-all none = refl
  plain-all (more item items) = ap (λ s. more s (plain_all (all_unplaced items))) (plain-unplaced item) ∙ ap (λ s. more item s) (plain-all items)

same-items : (b c : Rose Plain) → Some b ≡ Some c → b ≡ c
same-items b c e = cc

pub documents-of-values : SameValidity → DocumentsOfValues
documents-of-values same_validity s M linked small is_map d below v fits b gives bytes (again, document, same) =
    let own = items-of-values s M linked small is_map d below v fits in
    let is : own.0 ≡ b = same-items own.0 b (sym own.1 ∙ gives) in
    let valid : Valid (parts_of s) d (unplaced b) b = subst (Valid (parts_of s) d (unplaced b)) is (own.2 (unplaced b) (plain-unplaced b ∙ sym is)) in
    (again, document, same_validity (parts_of s) d (unplaced b) again (tree_is_sound laws bytes again document) same b valid)
