use Rattle.schema_components.specs.declared.declarations.RawLocal.TheVariants as local
use Rattle.schema_read.proofs.Making.{map_put}
use Rattle.schema_read.proofs.particles.put_own.Goals as goal

pub returns : goal.returns
returns c = map_put c.args.locals.now.items c.args.number (local.Own c.args.element)
