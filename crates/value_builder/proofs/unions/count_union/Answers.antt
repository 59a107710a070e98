use Rattle.std.proofs.lemmas.Result.{err_from_is_err_and}
use Rattle.std.proofs.Common.{ap, ◌∙◌}
use Rattle.simple_types.specs.Space.{UnionOf}
use Rattle.simple_types.specs.Seen.{spaces_in}
use Rattle.simple_types.proofs.Members.{count_in}
use Rattle.simple_types.specs.Reading.{reads, taken_by, spelled_by, goes_on}
use Rattle.value_builder.proofs.Summing.{refused, union_settles, union_refused}
use Rattle.value_builder.proofs.unions.count_union.Goals as goal

pub returns-in_err-member : goal.returns-in_err-member
returns-in_err-member c =
    let p = err_from_is_err_and c.from_residual.result c.from_residual.ensures.1 in
    let ss = spaces_in c.args.members.now in
    rw (p.1, p.2) (refused c.in_err-member.field-0.0 (taken_by ss c.args.text.now) (reads (UnionOf ss) c.args.text.now) (union_refused ss c.args.text.now) c.in_err-member.ensures.taken)

pub turns-init : goal.turns-init
turns-init c =
    let ss = spaces_in c.args.members.now in
    let known = c.in_ok-member.ensures.taken in
    record {
      member = c.in_ok-member.ensures.bound;
      so_far = (
        known.0,
        union_settles ss c.args.text.now (c.in_ok-member.member, known.0) known.1
            ∙ ap (λ n. goes_on (taken_by ss) (spelled_by ss) n (c.in_ok-member.member, known.0)) (count_in c.args.members.now),
        known.2,
        known.3,
      );
    }
