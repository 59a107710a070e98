use Rattle.std.proofs.Common.{◌≡◌, ℕ, List, take, sym, subst}
use Rattle.base_texts.specs.WhiteSpace.{treated}
use Rattle.simple_types.proofs.Readings.{reads-Chars, reads-Whole}
use Rattle.simple_types.proofs.accepting.accept_front_into.Goals as goal

pub returns-in-Chars-clause-read : goal.returns-in-Chars-clause-read
returns-in-Chars-clause-read c =
    let text = take c.args.len c.args.bytes.now in
    let reads = reads-Chars c.args.simple.now text c.in-Chars.space c.in-Chars.min c.in-Chars.max c.in-Chars.class c.in-Chars.is in
    let stays : treated c.in-Chars.space text ≡ text =
    subst (λ (t : List ℕ). treated c.in-Chars.space t ≡ t) c.utf8_text-text.ensures (c.is_str_treated.ensures.0 c.if-is_str_treated.true) in
    rw (reads, stays) c.put_front.ensures.read

pub returns-in-Whole-clause-read : goal.returns-in-Whole-clause-read
returns-in-Whole-clause-read c =
    let text = take c.args.len c.args.bytes.now in
    let reads = reads-Whole c.args.simple.now text c.in-Whole.lo c.in-Whole.hi c.in-Whole.is in
    rw (reads, sym c.utf8_text-text.ensures) c.put_whole.ensures.read
