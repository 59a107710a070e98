-- Types whose fixed values were seen.
use Rattle.std.proofs.Common.{List, [], ◌∷◌, ◌++◌, All, subst}
use Rattle.base_trees.specs.Rose.{Rose, node, roses_of, label_of, kids_of}
use Rattle.base_trees.proofs.Roses.{roses_of-list_of}
use Rattle.asn_types.specs.declared.types.Component.{Component}
use Rattle.asn_types.specs.declared.types.TypeLabel.{TypeLabel}
use Rattle.asn_types.specs.Parts.{parts_of}
use Rattle.module_print.specs.Names.{HasOctets}
use Rattle.map_printable.specs.Maps.{HasFixedOctets, HaveFixedOctets}

pub seen-push : (ts : List (Rose TypeLabel)) (t : Rose TypeLabel) → HaveFixedOctets (roses_of ts) → HasFixedOctets t → HaveFixedOctets (roses_of (ts ++ t ∷ []))
seen-push [] t h k = (k, tt)
seen-push (u ∷ us) t h k = (h.0, seen-push us t h.1 k)

pub seen-node : (t : Rose TypeLabel) → All (λ (part : Component). HasOctets part.standard) (parts_of (label_of t).form) → HaveFixedOctets (roses_of (kids_of t)) → HasFixedOctets t
seen-node (node l ts) h k = (h, subst HaveFixedOctets (roses_of-list_of ts) k)
