-- The items that are read are the same as those of the value but for places, bindings and the order of attributes.
use Rattle.value_laws.proofs.Documents.{documents-of-values}
use Rattle.value_laws.proofs.sound_laws.documents_of_values.Goals as goal

pub returns : goal.returns
returns c = documents-of-values c.same_validity.ensures
