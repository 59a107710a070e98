use Rattle.std.proofs.Common.{◌≡◌, false, not, sym, ap, ◌∙◌}
use Rattle.asn_names.specs.ReservedWords.{reserved_words}
use Rattle.asn_names.proofs.Apart.{reserved-has}
use Rattle.module_text.specs.Faults.{has_text}
use Rattle.module_check.proofs.finding.is_free.Goals as goal

pub returns-then-not-has : goal.returns-then-not-has
returns-then-not-has c =
    let reference = c.args.reference.now in
    let reserved : c.is_reserved.result ≡ has_text reserved_words reference =
    reserved-has reference c.is_reserved.result (rw c.bytes.ensures.bytes at c.is_reserved.ensures) in
    let free : has_text c.args.seen.now reference ≡ false = sym c.has.ensures ∙ c.if-not-has.true in
    rw free (ap not reserved)
