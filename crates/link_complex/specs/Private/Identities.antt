-- The types and the element particles that values of the code represent.
use Rattle.std.specs.Prelude.{ℕ, List, map, Option}
use Rattle.std.specs.Borrow.{Bor}
use Rattle.std.specs.BTreeMap.{BTreeMap, get_by}
use Rattle.std.specs.Option.{option_map}
use Rattle.base_texts.specs.declared.texts.Name.{Name}
use Rattle.base_texts.specs.Names.{name_cmp}
use Rattle.schema_components.specs.Documents.{doc_of}
use Rattle.schema_components.specs.declared.documents.RawDoc.{RawDoc}
use Rattle.link_complex.specs.ElementTypes.{TypeIdentity, BuiltIn, ByName, InPlace, TypedElement, TypedParticle, type_at}
use Rattle.link_complex.specs.Private.Leading.{Leader}
use Rattle.link_complex.specs.declared.identities.TypeIdentity.{TypeIdentity as KeptType}
use Rattle.link_complex.specs.declared.identities.TypeIdentity.TheVariants as kept
use Rattle.link_complex.specs.declared.element_types.TypedElement.{TypedElement as KeptElement}
use Rattle.link_complex.specs.declared.particles.TypedParticle.{TypedParticle as KeptParticle}
use Rattle.link_complex.specs.declared.leaders.Leader.{Leader as KeptLeader}

abbrev pub identity_of : KeptType → TypeIdentity
identity_of (kept.Builtin which) = BuiltIn which
identity_of (kept.Named name) = ByName name.now
identity_of (kept.InPlace place) = InPlace place

abbrev pub type_of : Option KeptType → Option TypeIdentity
type_of o = option_map identity_of o

-- The type that the table has for the name.
abbrev pub kept_in : BTreeMap (Bor Name) KeptType → Name → Option KeptType
kept_in table a = get_by (λ k. name_cmp a k.now) table

abbrev pub type_in : BTreeMap (Bor Name) KeptType → Name → Option TypeIdentity
type_in table a = type_of (kept_in table a)

-- The types of the local declarations.
abbrev pub types_in : BTreeMap (Bor Name) KeptType → RawDoc → ℕ → Option TypeIdentity
types_in table doc = type_at (type_in table) (doc_of doc)

abbrev pub element_of : KeptElement → TypedElement
element_of e = record { name = e.name.now; kind = identity_of e.kind }

abbrev pub elements_of : List KeptElement → List TypedElement
elements_of es = map element_of es

abbrev pub particle_of : KeptParticle → TypedParticle
particle_of p = record { name = p.name.now; place = p.place; kind = type_of p.kind }

abbrev pub particles_of : List KeptParticle → List TypedParticle
particles_of ps = map particle_of ps

abbrev pub leader_of : KeptLeader → Leader
leader_of l = record { place = l.place; kind = type_of l.kind; other = l.other }

-- The leader that the table has for the name.
abbrev pub leader_in : BTreeMap (Bor Name) KeptLeader → Name → Option Leader
leader_in table a = option_map leader_of (get_by (λ k. name_cmp a k.now) table)
