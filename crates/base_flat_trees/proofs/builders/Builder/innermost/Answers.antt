use Rattle.std.proofs.Common.{◌<◌, length, arith}
use Rattle.base_flat_trees.proofs.Zipped.{stands, place, first_is}
use Rattle.base_flat_trees.proofs.builders.Builder.innermost.Goals as goal

pub overflow_sub-self-inside : goal.overflow_sub-self-inside
overflow_sub-self-inside g c =
    let s = stands c.self.inside.entries.items c.self.inside.inner c.self.inside.level c.args.self.now c.self.invariant c.self.view_is in
    let some : 0 < length c.args.self.now.above = omega (arith, s.level, c.if-self-eq0.false) in
    (place c.self.inside.entries.items c.self.inside.inner c.self.inside.level c.args.self.now s some).some

pub index-requires : goal.index-requires
index-requires g c =
    let s = stands c.self.inside.entries.items c.self.inside.inner c.self.inside.level c.args.self.now c.self.invariant c.self.view_is in
    let some : 0 < length c.args.self.now.above = omega (arith, s.level, c.if-self-eq0.false) in
    let p = place c.self.inside.entries.items c.self.inside.inner c.self.inside.level c.args.self.now s some in
    omega (arith, p.some, p.within)

pub returns-else-self-eq0 : goal.returns-else-self-eq0
returns-else-self-eq0 g c =
    let s = stands c.self.inside.entries.items c.self.inside.inner c.self.inside.level c.args.self.now c.self.invariant c.self.view_is in
    let some : 0 < length c.args.self.now.above = omega (arith, s.level, c.if-self-eq0.false) in
    first_is c.self.inside.entries.items c.self.inside.inner c.self.inside.level c.args.self.now c.index.result.now s some c.index.ensures
