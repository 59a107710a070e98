use Rattle.std.proofs.Common.{◌≡◌, ◌<◌, length, sym, refl, arith}
use Rattle.std.proofs.lemmas.Bool.{ltb-true}
use Rattle.std.proofs.lemmas.Option.{slice_get_read}
use Rattle.simple_types.proofs.Spellings.{found_at, missed_at}
use Rattle.module_pieces.proofs.Kept.{index-count, index-each}
use Rattle.module_simple.proofs.defaults.kid_at.Goals as goal

pub bounds-indexes-i : goal.bounds-indexes-i
bounds-indexes-i c =
    let long = index-count c.args.indexes.now c.args.kids.now c.requires in
    let below = ltb-true c.args.i (length c.args.kids.now) (sym c.in-Some.ensures.lookup.0) in
    omega (arith, long, below)

pub returns-in-Some : goal.returns-in-Some
returns-in-Some c =
    let got = found_at c.args.kids.now c.args.i c.in-Some.kid.now c.in-Some.ensures.lookup.0 c.in-Some.ensures.lookup.1 in
    let long = index-count c.args.indexes.now c.args.kids.now c.requires in
    let below = ltb-true c.args.i (length c.args.kids.now) (sym c.in-Some.ensures.lookup.0) in
    let within : c.args.i < length c.args.indexes.now = omega (arith, long, below) in
    let read = slice_get_read c.args.indexes.now (length c.args.indexes.now) c.args.i c.index-indexes-i.result refl within c.index-indexes-i.is in
    (got, index-each c.args.indexes.now c.args.kids.now c.requires c.args.i c.index-indexes-i.result c.in-Some.kid.now read got)

pub returns-in-None : goal.returns-in-None
returns-in-None c = missed_at c.args.kids.now c.args.i c.in-None.ensures.lookup.0
