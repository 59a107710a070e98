use Rattle.std.proofs.Common.{◌≡◌, drop}
use Rattle.xer_write.specs.Private.Giving.{may_be_present}
use Rattle.xer_write.proofs.presence.may_be_present.Given as goal

abbrev pub invariant-parts : goal.invariant-parts
invariant-parts l = may_be_present (drop l.i l.parts) (drop l.i l.present) ≡ may_be_present l.parts l.present
