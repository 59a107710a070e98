-- The widths of bounds and numbers in each module: integers have 128 bits, and sizes 32.
use Rattle.std.specs.Prelude.{◌≡◌, ◌<◌, ◌^◌, ℕ, ℤ, true, Option, Some, None, List, All}
use Rattle.base_trees.specs.Rose.{Rose, node, Roses, none, more}
use Rattle.simple_types.specs.Lexical.{is_128_bits}
use Rattle.asn_types.specs.declared.modules.Assignment.{Assignment}
use Rattle.asn_types.specs.declared.types.Form.{Form}
use Rattle.asn_types.specs.declared.types.Form.TheVariants as form
use Rattle.asn_types.specs.declared.types.TypeLabel.{TypeLabel}

-- A bound of an INTEGER, if there is one, has 128 bits.
abbrev pub IsBound : Option ℤ → Type 0
IsBound None = Unit {0}
IsBound (Some z) = is_128_bits z ≡ true

abbrev pub AreWhole : List ℤ → Type 0
AreWhole numbers = All (λ z. is_128_bits z ≡ true) numbers

-- A greatest size, if there is one, has 32 bits.
abbrev pub IsSize : Option ℕ → Type 0
IsSize None = Unit {0}
IsSize (Some n) = n < 2 ^ 32

abbrev pub HasBounds : Form → Type 0
HasBounds (form.Int least greatest) = IsBound least × IsBound greatest
HasBounds (form.Numbers numbers) = AreWhole numbers
HasBounds (form.Utf8 least most class) = (least < 2 ^ 32) × IsSize most
HasBounds (form.SequenceOf part least most) = (least < 2 ^ 32) × IsSize most
HasBounds _ = Unit {0}

abbrev mutual
  pub AreBounded : Rose TypeLabel → Type 0
  AreBounded (node l ts) = HasBounds l.form × AllBounded ts

  pub AllBounded : Roses TypeLabel → Type 0
  AllBounded none = Unit {0}
  AllBounded (more t ts) = AreBounded t × AllBounded ts

abbrev pub IsBounded : List Assignment → Type 0
IsBounded M = All (λ a. AreBounded a.body) M
