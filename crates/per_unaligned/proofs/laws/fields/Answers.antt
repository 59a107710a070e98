-- Each field is that of both variants.
use Rattle.per_unaligned.proofs.Plain.{number_plain, from_plain, signed_plain, last_plain, fragment_plain, sized_plain, lists_plain}
use Rattle.per_unaligned.proofs.laws.fields.Goals as goal

pub returns : goal.returns
returns c = record { numbers = number_plain; from = from_plain; signed = signed_plain; last_piece = last_plain; fragment = fragment_plain; sized = sized_plain; lists = lists_plain }
