use Rattle.schema_components.proofs.TypedUses.{typed}
use Rattle.schema_components.proofs.laws.uses_are_typed.Goals as goal

pub returns : goal.returns
returns c = typed
