-- The name and the type that a reference of the code denotes.
use Rattle.base_texts.specs.declared.texts.Name.{Name}
use Rattle.schema_syntax.specs.References.{TypeName, Known, LeftOut, Elsewhere}
use Rattle.schema_syntax.specs.declared.references.Resolved.{Resolved}
use Rattle.schema_syntax.specs.declared.references.TypeName.{TypeName as Found}
use Rattle.schema_syntax.specs.declared.references.TypeName.TheVariants as found

abbrev pub name_seen : Resolved → Name
name_seen r = record { space = r.space.now; local = r.local.now }

abbrev pub type_seen : Found → TypeName
type_seen (found.Known datatype) = Known datatype
type_seen (found.LeftOut reason) = LeftOut reason
type_seen (found.Elsewhere name) = Elsewhere (name_seen name)
