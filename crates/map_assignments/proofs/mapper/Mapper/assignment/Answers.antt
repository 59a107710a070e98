use Rattle.std.proofs.Common.{sym, subst}
use Rattle.asn_names.specs.declared.conversion.NameKind.TheVariants.{Reference}
use Rattle.asn_names.specs.Taking.{IsTaken}
use Rattle.map_assignments.specs.Planning.{body}
use Rattle.map_assignments.specs.Naming.{IsNamed}
use Rattle.map_assignments.specs.Private.Placing.{place_of, references_of}
use Rattle.map_assignments.proofs.Allowed.{named-allowed}
use Rattle.map_assignments.proofs.mapper.Mapper.assignment.Goals as goal

pub sealed-requires : goal.sealed-requires
sealed-requires c = named-allowed (place_of c.args.self.places.now) (body c.args.self.set.now c.args.entry.now.subject) c.in_ok-tree.tree c.in_ok-tree.ensures

pub returns-clause-mapped : goal.returns-clause-mapped
returns-clause-mapped c =
    let reference = c.in_ok-reference.reference in
    record {
      reference = subst (λ n. IsTaken Reference (references_of c.args.made.now) n reference) c.in_ok-wanted.ensures
          (subst (λ b. IsTaken Reference b c.in_ok-wanted.wanted reference) c.requires.scope c.in_ok-reference.ensures.taken);
      marks = c.in_ok-marks.ensures;
      body = subst (IsNamed (place_of c.args.self.places.now) (body c.args.self.set.now c.args.entry.now.subject)) (sym c.sealed.ensures) c.in_ok-tree.ensures;
    }
