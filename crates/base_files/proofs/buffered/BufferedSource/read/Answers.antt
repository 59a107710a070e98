use Rattle.std.proofs.Common.{◌≡◌, length, take, sym, ap, ◌∙◌, arith, take_all}
use Rattle.base_files.proofs.Front.{handed_on}
use Rattle.base_files.proofs.buffered.BufferedSource.read.Goals as goal

pub returns-then-buf-front-clause-bytes : goal.returns-then-buf-front-clause-bytes
returns-then-buf-front-clause-bytes g c =
    let filled = c.fill.new.buf in
    let front = c.buffer-front.result.now in
    let same : length filled ≡ length c.args.buf.now = c.fill.auto.buf in
    let given : take (length filled) filled ≡ take (length filled) front =
    take_all (length filled) filled (omega arith) ∙ c.fill.ensures ∙ ap (λ n. take n front) (sym same) in (
      handed_on g.R.Read.remaining c.args.self.now.inner c.consume.new.self _ (length filled) c.consume.ensures.buffer c.consume.ensures.inner c.consume.ensures.capacity (given ∙ ap (take (length filled)) c.buffer-front.ensures),
      λ zero some. absurd (omega (arith, zero, some)),
    )
