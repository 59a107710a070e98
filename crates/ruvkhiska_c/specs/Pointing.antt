-- Where the bytes of an answer are.
use denote.RawPtr.{Ptr}
use Rattle.std.specs.Prelude.{◌≡◌, ℕ, length}
use Rattle.std.specs.Vec.{vec_ptr}
use Rattle.transcode_messages.specs.declared.converting.Message.{Message}

-- the pointer leads to the bytes of the answer, and the count is their number
abbrev pub PointsTo : Ptr → ℕ → Message → Type 0
PointsTo start count m = (start ≡ vec_ptr m.bytes) × (count ≡ length m.bytes.items)
