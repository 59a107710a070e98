-- What a reader does to a source of bits: where it leaves the source, and what it gives.
use Rattle.std.specs.Prelude.{◌≡◌, Result, OnOk, IsErrOf, IsTrue}
use Rattle.base_codecs.specs.Cursors.{IsInStep}
use Rattle.base_texts.specs.Faults.{HasRisen}
use Rattle.base_texts.specs.declared.sources.Source as sources
use Rattle.per_fields.specs.declared.variants.Variant as variants
use Rattle.per_fields.specs.Reading.{Reader}
use Rattle.per_decode.specs.declared.faults.PerEnd.{PerEnd}
use Rattle.per_decode.specs.declared.faults.PerEnd.TheVariants as fault
use Rattle.per_decode.specs.declared.run.Origin as origins
use Rattle.per_decode.specs.declared.run.Run.{Run}
use Rattle.per_decode.specs.Private.Standing.{GoesOn}
use Rattle.per_decode.specs.Private.Giving as giving
use Rattle.per_decode.specs.Private.Giving.{spot}

module _ {S K V : Type 0} {s : sources.Ghosts S} {k : origins.Ghosts K} {v : variants.Ghosts V} where
  -- Only octets with a bit before the position were read.
  abbrev pub InStep : Run S K V s k v → Type 0
  InStep run = IsInStep run.bits.position run.bits.taken

  -- A reader reads from the same source. After a value the position is no lower, and the source is in step. If the source fails, its
  -- count of faults has risen.
  pub record Reads {A : Type 0} (old new : Run S K V s k v) (result : Result A PerEnd) : Type 0 where
    pub same_reference : new.bits.source.ghost_name ≡ old.bits.source.ghost_name
    pub on : OnOk result (GoesOn old.bits.position new.bits.position new.bits.taken)
    pub failed : IsErrOf result fault.Failed → HasRisen k.faults (s.faults new.bits.source.now)

  -- From one state to another, a reader gives what this definition reads from the octets, if the source states them.
  abbrev pub Gives : {A B : Type 0} → (A → B) → Result A PerEnd → Run S K V s k v → Run S K V s k v → Reader B → Type 0
  Gives view result old new read = IsTrue k.told → giving.Gives k.limit k.whole view result (spot new.bits.position new.nodes) new.stop new.bits.taken read (spot old.bits.position old.nodes)
