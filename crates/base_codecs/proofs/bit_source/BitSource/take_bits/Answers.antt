use Rattle.std.proofs.Common.{rules, arith, ◌≡◌, ℕ, ◌<◌, ◌+◌, ◌-◌, ◌*◌, ◌^◌, ◌/◌, length, subst, refl}
use Rattle.std.proofs.lemmas.List.{length-take}
use Rattle.base_codecs.proofs.BitSplit.{grown, below, fits_64, whole_below, reads_bits}
use Rattle.base_codecs.proofs.FewBits.{held_bits, octet_more}
use Rattle.base_codecs.proofs.bit_source.BitSource.take_bits.Goals as goal

pub returns-then-n-unread-clause-below : goal.returns-then-n-unread-clause-below
returns-then-n-unread-clause-below g c =
    let old = c.args.self.now in
    let unread = 8 * old.taken - old.position in
    below old.held unread c.args.n (unread - c.args.n) old.fits (omega arith)

pub returns-then-n-unread-clause-bits : goal.returns-then-n-unread-clause-bits
returns-then-n-unread-clause-bits g c = λ left is.
    let old = c.args.self.now in
    let unread = 8 * old.taken - old.position in
    held_bits old.position old.taken old.limit old.held c.args.n (unread - c.args.n) left (omega arith) (omega arith)

pub returns-then-n-le8-clause-below : goal.returns-then-n-le8-clause-below
returns-then-n-le8-clause-below g c =
    let unread = 8 * c.args.self.now.taken - c.args.self.now.position in
    below c.gather_octet-all.result (unread + 8) c.args.n (unread + 8 - c.args.n) c.gather_octet-all.ensures.below (omega arith)

pub returns-then-n-le8-clause-bits : goal.returns-then-n-le8-clause-bits
returns-then-n-le8-clause-bits g c = λ left is.
    let old = c.args.self.now in
    let unread = 8 * old.taken - old.position in
    let long : length c.fetch-count.new.buf ≡ 1 = c.fetch-count.auto.buf in
    let whole : c.fetch-count.result.0 ≡ length c.fetch-count.new.buf = search rules in
    let count : c.fetch-count.result.0 ≡ 1 = omega (arith, whole, long) in
    octet_more old.position old.taken old.limit old.held c.gather_octet-all.result unread c.args.n (unread + 8 - c.args.n) c.fetch-count.result.0
    c.fetch-count.new.buf left (g.S.Source.left old.source.now) (g.S.Source.left c.fetch-count.new.source)
    refl long old.behind c.gather_octet-all.ensures.below c.gather_octet-all.ensures.same
    (omega arith) (omega arith) count c.fetch-count.ensures.count.1 c.fetch-count.ensures.bytes is

pub invariant_of-self-in-Break-branch-2 : goal.invariant_of-self-in-Break-branch-2
invariant_of-self-in-Break-branch-2 g c =
    let old = c.args.self.now in
    let count = c.fetch-count-2.result.0 in
    let e : 8 * old.taken - old.position + 8 * count ≡ 8 * (old.taken + count) - old.position = omega (arith, old.behind) in
    record {
      small = search rules;
      within = search rules;
      behind = search rules;
      fits = subst (λ w. old.held < 2 ^ w) e (grown old.held (8 * old.taken - old.position) (8 * count) old.fits);
    }

pub overflow_cast-result-3 : goal.overflow_cast-result-3
overflow_cast-result-3 g c =
    let unread = 8 * c.args.self.now.taken - c.args.self.now.position in
    let m = (c.saturating_sub.result + 7) / 8 in
    let long : length c.fetch-count-2.new.buf ≡ m = omega (arith, length-take {A = ℕ}, c.fetch-count-2.auto.buf) in
    let w = whole_below unread c.gather-all.result m c.fetch-count-2.new.buf _ long c.gather-all.ensures.below in
    let b = below c.gather-all.result _ c.args.n (unread + 8 * m - c.args.n) w (omega arith) in
    omega (arith, fits_64 _ c.args.n b c.requires.few)

pub returns-clause-below : goal.returns-clause-below
returns-clause-below g c =
    let unread = 8 * c.args.self.now.taken - c.args.self.now.position in
    let m = (c.saturating_sub.result + 7) / 8 in
    let long : length c.fetch-count-2.new.buf ≡ m = omega (arith, length-take {A = ℕ}, c.fetch-count-2.auto.buf) in
    let w = whole_below unread c.gather-all.result m c.fetch-count-2.new.buf _ long c.gather-all.ensures.below in
    below c.gather-all.result _ c.args.n (unread + 8 * m - c.args.n) w (omega arith)

pub returns-clause-bits : goal.returns-clause-bits
returns-clause-bits g c = λ left is.
    let old = c.args.self.now in
    let unread = 8 * old.taken - old.position in
    let m = (c.saturating_sub.result + 7) / 8 in
    let long : length c.fetch-count-2.new.buf ≡ m = omega (arith, length-take {A = ℕ}, c.fetch-count-2.auto.buf) in
    let whole : c.fetch-count-2.result.0 ≡ length c.fetch-count-2.new.buf = search rules in
    let count : c.fetch-count-2.result.0 ≡ m = omega (arith, whole, long) in
    reads_bits old.position old.taken old.limit old.held c.gather-all.result c.args.n (unread + 8 * m - c.args.n) c.fetch-count-2.result.0 m
    c.fetch-count-2.new.buf _ left (g.S.Source.left old.source.now) (g.S.Source.left c.fetch-count-2.new.source)
    long old.behind c.gather-all.ensures.below c.gather-all.ensures.same (omega arith) (omega arith) count c.fetch-count-2.ensures.count.1 c.fetch-count-2.ensures.bytes is
