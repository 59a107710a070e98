use Rattle.std.proofs.Common.{◌≡◌, ◌<◌, length, ap, sym, ◌∙◌, subst}
use Rattle.schema_components.specs.declared.simple_definitions.RawRef.TheVariants.{Other}
use Rattle.schema_read.proofs.Bases.{none_of, first_of, is_zero_len, is_positive}
use Rattle.schema_read.proofs.simple_definitions.first_or_none.Goals as goal

pub returns-then-is_empty : goal.returns-then-is_empty
returns-then-is_empty c =
    let none : length c.as_slice.result.now ≡ 0 = is_zero_len (length c.as_slice.result.now) (sym c.is_empty.ensures ∙ c.if-is_empty.true) in
    none_of c.args.inner.items (Other c.no_name.result) (sym (ap length c.as_slice.ensures.value) ∙ none) (ap (λ n. Other n) (sym c.no_name.ensures))

pub returns : goal.returns
returns c =
    let some : 0 < length c.as_slice.result.now = is_positive (length c.as_slice.result.now) (sym c.is_empty.ensures ∙ c.if-is_empty.false) in
    first_of c.args.inner.items c.remove.result (subst (λ n. 0 < n) (ap length c.as_slice.ensures.value) some) c.remove.ensures.value
