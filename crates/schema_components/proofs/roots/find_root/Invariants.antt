use Rattle.std.proofs.Common.{◌≡◌, false, take}
use Rattle.std.specs.List.{list_any}
use Rattle.base_texts.specs.Names.{name_eq}
use Rattle.schema_components.proofs.roots.find_root.Given as goal

-- none of those passed has the name
abbrev pub invariant-elements : goal.invariant-elements
invariant-elements l = list_any (λ e. name_eq e.name l.name) (take l.n l.elements) ≡ false
