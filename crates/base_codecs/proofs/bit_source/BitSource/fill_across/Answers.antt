use Rattle.std.proofs.Common.{rules, arith, ◌≡◌, ◌<◌, ◌+◌, ◌-◌, ◌*◌, ◌^◌, length, subst}
use Rattle.base_codecs.proofs.BitSplit.{grown}
use Rattle.base_codecs.proofs.Across.{fills}
use Rattle.base_codecs.proofs.bit_source.BitSource.fill_across.Goals as goal

pub invariant_of-self : goal.invariant_of-self
invariant_of-self g c =
    let old = c.args.self.now in
    let count = c.fetch-count.result.0 in
    let e : 8 * old.taken - old.position + 8 * count ≡ 8 * (old.taken + count) - old.position = omega (arith, old.behind) in
    record {
      small = search rules;
      within = search rules;
      behind = search rules;
      fits = subst (λ w. old.held < 2 ^ w) e (grown old.held (8 * old.taken - old.position) (8 * count) old.fits);
    }

pub returns-clause-octets : goal.returns-clause-octets
returns-clause-octets g c = λ left is.
    let old = c.args.self.now in
    let came = c.fetch-count.new.buf in
    let k = c.fetch-count.result.0 in
    let count : k ≡ length came = search rules in
    fills old.position old.taken old.limit old.held c.carry-held.result k _ came c.carry-held.new.octets left (g.S.Source.left old.source.now) (g.S.Source.left c.fetch-count.new.source)
    (omega (arith, count, c.carry-held.ensures.length)) (omega (arith, c.requires.in_step)) old.behind c.carry-held.ensures.same count c.fetch-count.ensures.count.1 c.fetch-count.ensures.bytes is
