-- The elements and attributes that values of the code represent.
use Rattle.std.specs.Prelude.{List, map}
use Rattle.schema_components.specs.Seen.{element_of, attribute_of}
use Rattle.link_set.specs.Written.{WrittenElement, WrittenAttribute, written_element, written_attribute}
use Rattle.link_set.specs.declared.written.WrittenElement.{WrittenElement as KeptElement}
use Rattle.link_set.specs.declared.written.WrittenAttribute.{WrittenAttribute as KeptAttribute}

abbrev pub written_of : KeptElement → WrittenElement
written_of e = written_element e.file (element_of e.element.now)

abbrev pub elements_of : List KeptElement → List WrittenElement
elements_of es = map written_of es

abbrev pub told_attribute : KeptAttribute → WrittenAttribute
told_attribute a = written_attribute a.file (attribute_of a.attribute.now)

abbrev pub attributes_of : List KeptAttribute → List WrittenAttribute
attributes_of as_ = map told_attribute as_
