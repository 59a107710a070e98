-- The fields of both variants, where nothing is aligned.
use Rattle.std.proofs.Common.{◌≡◌, ℕ, zero, suc, ◌-◌, ◌<◌, ◌≤◌, Bool, true, false, cond, List, [], length, refl, ap, ◌∙◌, arith, Some, None}
use Rattle.std.proofs.lemmas.Bool.{lt-ltb, le-ltb, ne_eqb}
use Rattle.base_codecs.specs.Bits.{bits}
use Rattle.per_fields.specs.Widths.{width_of, width_within}
use Rattle.per_fields.specs.Fields.{Writer, then_bits, in_turn, units_of, number_bits, from_bits, signed_bits, counted_bits, list_bits}
use Rattle.per_fields.proofs.FragmentSteps.{counted-last, counted-more}
use Rattle.per_unaligned.specs.Fields.{NumberBits, FromBits, SignedBits, LastPiece, Fragment, SizedBits, ListBits}

pub number_plain : NumberBits
unfolding number_bits bits width_within
number_plain zero x p = refl
number_plain (suc top) x p = ap (λ (b : Bool). cond b [] (bits (width_of (suc top)) x)) (ne_eqb (suc top) 0 (omega arith))

pub from_plain : FromBits
unfolding from_bits
from_plain least z p = refl

pub signed_plain : SignedBits
unfolding signed_bits
signed_plain z p = refl

pub last_plain : LastPiece
last_plain ws p short = counted-last false ws p short

pub fragment_plain : Fragment
fragment_plain ws p long = counted-more false ws p (units_of (length ws)) long refl

pub sized_plain : SizedBits
unfolding list_bits
sized_plain least most ws p small =
    ap (λ b. elim b as (λ _. List Bool) [ true ↦ then_bits (number_bits false (most - least) (length ws - least) p) (in_turn ws) p | false ↦ counted_bits false ws p ]) (lt-ltb most 65536 small)
    ∙ ap (λ bs. then_bits bs (in_turn ws) p) (number_plain (most - least) (length ws - least) p)

pub lists_plain : ListBits
unfolding list_bits
lists_plain least ws p = (
  refl,
  λ most large.
      ap (λ b. elim b as (λ _. List Bool) [ true ↦ then_bits (number_bits false (most - least) (length ws - least) p) (in_turn ws) p | false ↦ counted_bits false ws p ]) (le-ltb most 65536 large),
)
