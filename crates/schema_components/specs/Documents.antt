-- The components of a document, given by its parts.
use Rattle.schema_components.specs.Raw.{Document}
use Rattle.schema_components.specs.declared.documents.RawDoc.{RawDoc}
pub use Rattle.schema_components.specs.Parts.{parts_of}

abbrev pub doc_of : RawDoc → Document
doc_of d = parts_of d.file d.target d.elements.items d.attributes.items d.types.items d.locals.items d.counted.items
