use Rattle.std.proofs.Common.{subst, sym}
use Rattle.der_decode.specs.Private.Leaves.{ReadsLeaf}
use Rattle.der_decode.proofs.Contents.{as_bool, as_int, as_enum, plain_enum}
use Rattle.der_decode.proofs.leaves.plain.Goals as goal

pub returns-in-Bool-clause-reads : goal.returns-in-Bool-clause-reads
returns-in-Bool-clause-reads c =
    let X = c.args.octets.now in
    subst (λ f. ReadsLeaf f X c.args.spot c.boolean.result) (sym c.in-Bool.is) (as_bool X c.args.spot c.boolean.result c.boolean.ensures.reads)

pub returns-in-Int-clause-reads : goal.returns-in-Int-clause-reads
returns-in-Int-clause-reads c =
    let X = c.args.octets.now in
    subst (λ f. ReadsLeaf f X c.args.spot c.integer.result) (sym c.in-Int.is) (as_int c.in-Int.lo c.in-Int.hi X c.args.spot c.integer.result c.integer.ensures.reads)

pub returns-in_default : goal.returns-in_default
returns-in_default c = record {
  kids = c.enumerated.ensures.kids;
  text = c.enumerated.ensures.text;
  reads =
      as_enum c.args.form.now (plain_enum c.args.form.now c.requires.plain c.in_default.not-Bool c.in_default.not-Int) c.args.octets.now c.args.spot c.enumerated.result c.enumerated.ensures.reads;
}
