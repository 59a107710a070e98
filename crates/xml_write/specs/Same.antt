-- Items that differ at most in their places and bindings, and in the order of attributes.
pub use Rattle.xml_read.specs.Same.{value_of, SameAttributes, SameItems, AllSameItems}
