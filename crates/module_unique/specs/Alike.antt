-- Printable modules with equal prints are equal.
use Rattle.std.specs.Prelude.{◌≡◌, ◌<◌, List, All}
use Rattle.base_trees.specs.Rose.{Rose, node, Roses, none, more}
use Rattle.simple_types.specs.declared.standards.Standard.{Standard}
use Rattle.simple_types.specs.declared.standards.Standard.TheVariants.{Free, Default, Fixed}
use Rattle.asn_types.specs.declared.types.Component.{Component}
use Rattle.asn_types.specs.declared.types.TypeLabel.{TypeLabel}
use Rattle.asn_types.specs.declared.modules.Assignment.{Assignment}
use Rattle.asn_types.specs.Parts.{parts_of}
use Rattle.module_print.specs.Printed.{printed}
use Rattle.module_text.specs.Printable.{IsPrintable}

-- A fixed value consists of octets, as each text does. Two hexadecimal digits give one octet.
abbrev pub HasOctets : Standard → Type 0
HasOctets Free = Unit {0}
HasOctets (Default text) = Unit {0}
HasOctets (Fixed text) = All (λ octet. octet < 256) text

abbrev mutual
  pub AreOfOctets : Rose TypeLabel → Type 0
  AreOfOctets (node l ts) = All (λ (part : Component). HasOctets part.standard) (parts_of l.form) × AllAreOfOctets ts

  pub AllAreOfOctets : Roses TypeLabel → Type 0
  AllAreOfOctets none = Unit {0}
  AllAreOfOctets (more t ts) = AreOfOctets t × AllAreOfOctets ts

abbrev pub IsOfOctets : List Assignment → Type 0
IsOfOctets M = All (λ a. AreOfOctets a.body) M

abbrev pub PrintsDiffer : Type 0
PrintsDiffer = (M N : List Assignment) → IsPrintable M → IsPrintable N → IsOfOctets M → IsOfOctets N → printed M ≡ printed N → M ≡ N
