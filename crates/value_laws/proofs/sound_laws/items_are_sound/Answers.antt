-- The law is proved by induction over the levels of elements.
use Rattle.value_laws.proofs.SoundDeclarations.{sound-items}
use Rattle.value_laws.proofs.sound_laws.items_are_sound.Goals as goal

pub returns : goal.returns
returns c = sound-items
