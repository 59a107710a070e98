-- What a complaint states of a rejection: its line, and its place as numbers.
use Rattle.std.specs.Prelude.{◌≡◌, ℕ, zero, true, false, List, take, Option, Some, None, MatchOption}
use Rattle.transcode_words.specs.declared.outcome.Outcome.{Outcome}
use Rattle.transcode_words.specs.declared.outcome.Outcome.TheVariants.{SchemaSyntax, SchemaFault, LinkFault, DocSyntax, Invalid, PerFault, DerFault, ModuleFault, Trailing, RecordFault}
use Rattle.transcode_messages.specs.Messages.{IsLine}
use Rattle.ruvkhiska_c.specs.declared.complaint.Place.{Place}
use Rattle.ruvkhiska_c.specs.declared.complaint.Complaint.{Complaint}

-- The place of an outcome: the number of a schema file, or 0 for the input, and an offset in it from 0. The offset is in bits for a fault
-- of PER, and otherwise in bytes.
abbrev pub place_of : Outcome → Option Place
place_of (SchemaSyntax file at why) = Some (record { file = file; at = at })
place_of (SchemaFault file at why) = Some (record { file = file; at = at })
place_of (LinkFault file at why) = Some (record { file = file; at = at })
place_of (DocSyntax at why) = Some (record { file = 0; at = at })
place_of (Invalid at why) = Some (record { file = 0; at = at })
place_of (PerFault bit why) = Some (record { file = 0; at = bit })
place_of (RecordFault number bit why) = Some (record { file = 0; at = bit })
place_of (DerFault at why) = Some (record { file = 0; at = at })
place_of (ModuleFault at why) = Some (record { file = 1; at = at })
place_of (Trailing at) = Some (record { file = 0; at = at })
place_of o = None

-- the complaint states this place, or none
abbrev pub HasPlace : Option Place → Complaint → Type 0
HasPlace None complaint = (complaint.has_place ≡ false) × (complaint.file ≡ 0) × (complaint.at ≡ 0)
HasPlace (Some place) complaint = (complaint.has_place ≡ true) × (complaint.file ≡ place.file) × (complaint.at ≡ place.at)

-- the complaint has the line and the place of the outcome
abbrev pub Tells : Outcome → Complaint → Type 0
Tells o complaint = IsLine o (take complaint.count complaint.text) × HasPlace (place_of o) complaint

-- the complaint has no line and no place
abbrev pub IsQuiet : Complaint → Type 0
IsQuiet complaint = (complaint.count ≡ 0) × HasPlace None complaint
