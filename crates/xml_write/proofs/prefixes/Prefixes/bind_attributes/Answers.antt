use Rattle.std.proofs.Common.{ap, ◌∙◌}
use Rattle.xml_write.specs.Private.Binding.{with_space}
use Rattle.xml_write.proofs.Written.{bind-attribute}
use Rattle.xml_write.proofs.prefixes.Prefixes.bind_attributes.Goals as goal

pub attributes-preserved : goal.attributes-preserved
attributes-preserved c =
    bind-attribute _ _ _ _ _ _ c.attributes-test.true c.attributes-item.is (c.in_ok-bind.ensures ∙ ap (with_space c.attributes.self) c.bytes.ensures.bytes) c.attributes.invariant
