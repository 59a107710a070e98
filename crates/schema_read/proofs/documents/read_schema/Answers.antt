use Rattle.std.proofs.Common.{◌≡◌, true, sym, ◌∙◌, ap, subst, Some, None}
use Rattle.schema_read.proofs.Words.{label_of, is_element, first_fault, reasons, Keeps, raw_of}
use Rattle.schema_faults.proofs.ShownLaws.{shown, no_fault}
use Rattle.schema_read.proofs.KeptDocument.{document_keeps}
use Rattle.schema_read.proofs.documents.read_schema.Goals as goal

pub returns-in-Some-clause-refused : goal.returns-in-Some-clause-refused
returns-in-Some-clause-refused c =
    shown c.args.items.now 16777216 c.in-Some.field-0 c.requires (c.in-Some.ensures c.args.items.now (ap label_of (sym c.root.ensures.root) ∙ sym c.label.ensures ∙ sym c.in_ok-label.ensures))

pub returns-in-Some-2-clause-refused : goal.returns-in-Some-2-clause-refused
returns-in-Some-2-clause-refused c =
    shown c.args.items.now 16777216 c.in-Some-2.field-0 c.requires
    (subst (λ t. first_fault (reasons t) ≡ Some c.in-Some-2.field-0) c.in_ok-root.ensures.tree (sym c.in_ok-at.ensures ∙ c.in-Some-2.is))

pub components-requires-clause-element : goal.components-requires-clause-element
components-requires-clause-element c = subst (λ t. is_element t ≡ true) (sym c.in_ok-root.ensures.tree) c.in_ok-root.ensures.items.element

pub components-requires-clause-keeps : goal.components-requires-clause-keeps
components-requires-clause-keeps c =
    let none : first_fault (reasons c.args.items.now) ≡ None = subst (λ t. first_fault (reasons t) ≡ None) c.in_ok-root.ensures.tree (sym c.in_ok-at.ensures ∙ c.in_default-2.is) in
    subst (λ t. Keeps (raw_of c.args.file t)) (sym c.in_ok-root.ensures.tree)
    (document_keeps c.args.file c.args.items.now c.requires (no_fault c.args.items.now none) c.in_ok-root.ensures.items.sound c.in_ok-root.ensures.items.shallow)

pub returns-clause-schema : goal.returns-clause-schema
returns-clause-schema c = no_fault c.args.items.now (subst (λ t. first_fault (reasons t) ≡ None) c.in_ok-root.ensures.tree (sym c.in_ok-at.ensures ∙ c.in_default-2.is))
