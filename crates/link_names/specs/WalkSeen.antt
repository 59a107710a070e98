-- The parts that values of the code represent.
use Rattle.std.specs.Prelude.{List, map, Option}
use Rattle.std.specs.Borrow.{Bor}
use Rattle.std.specs.Option.{option_map}
use Rattle.base_texts.specs.declared.texts.Name.{Name}
use Rattle.schema_components.specs.Seen.{simple_of, use_of, complex_of, element_of, attribute_of}
use Rattle.link_names.specs.Parts.{What, Part, GlobalElement, LocalElement, ElementReference, GlobalAttribute, AttributeUse, SimpleDefinition, ComplexDefinition, Particle, MixedGroup, TypeReference}
use Rattle.link_names.specs.declared.parts.Part.{Part as KeptPart}
use Rattle.link_names.specs.declared.parts.What.{What as KeptWhat}
use Rattle.link_names.specs.declared.parts.What.TheVariants as kept

abbrev pub name_of : Option (Bor Name) → Option Name
name_of n = option_map (λ (a : Bor Name). a.now) n

abbrev pub what_of : KeptWhat → What
what_of (kept.GlobalElement element) = GlobalElement (element_of element.now)
what_of (kept.LocalElement element) = LocalElement (element_of element.now)
what_of (kept.ElementReference name) = ElementReference name.now
what_of (kept.GlobalAttribute attribute) = GlobalAttribute (attribute_of attribute.now)
what_of (kept.AttributeUse attribute) = AttributeUse (use_of attribute.now)
what_of (kept.SimpleDefinition name body) = SimpleDefinition (name_of name) (simple_of body.now)
what_of (kept.ComplexDefinition name body) = ComplexDefinition (name_of name) (complex_of body.now)
what_of (kept.Particle label) = Particle label.now
what_of (kept.MixedGroup label) = MixedGroup label.now
what_of (kept.TypeReference r reference) = TypeReference r reference.now

abbrev pub part_of : KeptPart → Part
part_of p = record { file = p.file; within = p.within; at = p.at; what = what_of p.what }

abbrev pub parts_of : List KeptPart → List Part
parts_of ps = map part_of ps
