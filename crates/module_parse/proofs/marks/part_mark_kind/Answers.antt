use Rattle.std.proofs.lemmas.Result.{err_from_is_err_and}
use Rattle.module_grammar.specs.MarkReading.{is_kind}
use Rattle.module_parse.proofs.Chaining.{as_read, as_stops}
use Rattle.module_text.specs.declared.marks.PartMarkKind.TheVariants as part_mark
use Rattle.module_parse.proofs.marks.part_mark_kind.Goals as goal

pub returns-in_err-next-in-Attribute-clause-value : goal.returns-in_err-next-in-Attribute-clause-value
returns-in_err-next-in-Attribute-clause-value c =
    let p = err_from_is_err_and c.from_residual.result c.from_residual.ensures.1 in
    rw (c.in-Attribute.is, p.1, p.2) (as_stops (is_kind part_mark.Attribute) c.in_err-next-in-Attribute.ensures.value)

pub returns-in_ok-next-in-Attribute-clause-value : goal.returns-in_ok-next-in-Attribute-clause-value
returns-in_ok-next-in-Attribute-clause-value c = rw c.in-Attribute.is (as_read (is_kind part_mark.Attribute) c.in_ok-next-in-Attribute.ensures.value)

pub returns-in_err-next-in-Untagged-clause-value : goal.returns-in_err-next-in-Untagged-clause-value
returns-in_err-next-in-Untagged-clause-value c =
    let p = err_from_is_err_and c.from_residual-in_err-next-in-Untagged.result c.from_residual-in_err-next-in-Untagged.ensures.1 in
    rw (c.in-Untagged.is, p.1, p.2) (as_stops (is_kind part_mark.Untagged) c.in_err-next-in-Untagged.ensures.value)

pub returns-in_ok-next-in-Untagged-clause-value : goal.returns-in_ok-next-in-Untagged-clause-value
returns-in_ok-next-in-Untagged-clause-value c = rw c.in-Untagged.is (as_read (is_kind part_mark.Untagged) c.in_ok-next-in-Untagged.ensures.value)

pub returns-in-Name-clause-value : goal.returns-in-Name-clause-value
returns-in-Name-clause-value c = rw c.in-Name.is c.name_mark.ensures.value

pub returns-in-Namespace-clause-value : goal.returns-in-Namespace-clause-value
returns-in-Namespace-clause-value c = rw c.in-Namespace.is c.namespace_mark.ensures.value
