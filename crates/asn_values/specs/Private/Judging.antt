-- The rules of a value of a SEQUENCE that the code tests.
use Rattle.std.specs.Prelude.{List, MatchBool}
use Rattle.base_trees.specs.Rose.{Rose}
use Rattle.simple_types.specs.declared.labels.ValueLabel.{ValueLabel}
use Rattle.asn_types.specs.declared.modules.Assignment.{Assignment}
use Rattle.asn_types.specs.declared.types.TypeLabel.{TypeLabel}
use Rattle.asn_types.specs.Marks.{has_embed_values, has_use_order}
use Rattle.asn_values.specs.Values.{HasTextCount, HasOrder}

abbrev pub HasTextsAndOrder : List Assignment → TypeLabel → Rose TypeLabel → Rose ValueLabel → Type 0
HasTextsAndOrder M l t v =
    MatchBool (has_embed_values l.marks) (HasTextCount M l t v) (Unit {0}) × MatchBool (has_use_order l.marks) (HasOrder M l t v) (Unit {0})
