use Rattle.std.proofs.Common.{refl}
use Rattle.link_complex.specs.Private.Identities.{leader_in, particle_of, particles_of}
use Rattle.link_complex.proofs.Leading.{Told}
use Rattle.link_complex.proofs.Stepping.{at_end}
use Rattle.link_complex.proofs.Tables.{one_leader, with_other, without_other}
use Rattle.link_complex.proofs.leaders.first_other.Goals as goal
use Rattle.link_complex.proofs.leaders.first_other.Goals.{then-is_behind_other, else-is_behind_other}

pub leaders-preserved : goal.leaders-preserved
leaders-preserved c =
    one_leader c.args.particles.now c.leaders.particle-index c.particle-item.result c.leaders.leaders c.insert.new.self c.with_particle-leader.result
    c.leaders-test.true c.particle-item.is c.leaders.invariant c.with_particle-leader.ensures c.in_ok-insert.ensures.updates

pub particles-preserved : goal.particles-preserved
particles-preserved c =
    let ps = c.args.particles.now in
    let p = c.particle-item-in-particles.result in
    let o = leader_in c.leaders.leaders p.name.now in
    let told = at_end (λ qs. Told qs p.name.now o) particle_of ps ps c.leaders.particle-index (particles_of ps) c.leaders-test.false refl refl (c.leaders.invariant p.name.now) in
    elim c.if-is_behind_other.branch [
      | then-is_behind_other w ↦
          rw (w.found-is, w.earlier-found.ensures)
          (with_other ps c.particles.particle-index p c.particles-test.true c.particle-item-in-particles.is o c.is_behind_other.result told c.is_behind_other.ensures
          c.particles.found c.particles.invariant w.if-is_behind_other.true)
      | else-is_behind_other w ↦
          rw w.found-is
          (without_other ps c.particles.particle-index p c.particles-test.true c.particle-item-in-particles.is o c.is_behind_other.result told c.is_behind_other.ensures
          c.particles.found c.particles.invariant w.if-is_behind_other.false)
    ]
