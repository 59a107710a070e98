-- Two values whose items differ only in places, bindings and the order of attributes are one, where the items of a value
-- are their own treated items.
use Rattle.std.proofs.Common.{◌≡◌, Some, sym, ap, ◌∙◌}
use Rattle.base_trees.specs.Rose.{Rose}
use Rattle.xml_items.specs.Plain.{Plain, plain_of}
use Rattle.schema_components.specs.SetParts.{parts_of}
use Rattle.validity_rules.specs.Laws.{AtMostOne, SameValidity}
use Rattle.validity_rules.specs.Valid.{Valid}
use Rattle.value_laws.specs.Statements.{ItemsOfValues, OneValueOfSame}
use Rattle.value_laws.proofs.Declarations.{one-value}

some-is : (x y : Rose Plain) → Some x ≡ Some y → x ≡ y
some-is x y e = cc

pub one-value-of-same : ItemsOfValues → AtMostOne → SameValidity → OneValueOfSame
one-value-of-same own once same s M linked small is_map d below v w hv hw a b sound ev ew e =
    let x = own s M linked small is_map d below v hv in
    let y = own s M linked small is_map d below w hw in
    let va : Valid (parts_of s) d a x.0 = x.2 a (some-is (plain_of a) x.0 (sym ev ∙ x.1)) in
    let vb : Valid (parts_of s) d b y.0 = y.2 b (some-is (plain_of b) y.0 (sym ew ∙ y.1)) in
    let plain : x.0 ≡ y.0 = (once s linked d b).1 x.0 y.0 (same (parts_of s) d a b sound e x.0 va) vb in
    one-value s M linked small is_map d below v w hv hw (x.1 ∙ ap Some plain ∙ sym y.1)
