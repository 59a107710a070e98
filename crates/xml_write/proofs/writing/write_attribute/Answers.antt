use Rattle.std.proofs.Common.{◌≡◌, List, ℕ, [], ◌∷◌, ◌++◌, ap, ◌∙◌}
use Rattle.xml_write.specs.Written.{written_name, written_value}
use Rattle.xml_write.specs.Private.Binding.{before_local, named}
use Rattle.xml_write.proofs.Written.{OnOk-map}
use Rattle.xml_write.proofs.Qualified.{named-written, attribute-regroup}
use Rattle.xml_write.proofs.writing.write_attribute.Goals as goal

pub returns : goal.returns
returns c =
    let table = c.args.prefixes.now in
    let q = c.qualifier-qualifier.result in
    let name = c.args.attribute.now.0 in
    let value = c.args.attribute.now.1 in
    let old = c.args.out.now.items in
    let is : named q name ≡ written_name table name = named-written table q name (c.qualifier-qualifier.ensures ∙ ap (before_local table) c.bytes.ensures.bytes) in
    let before : c.write_name.new.out.items ≡ (old ++ 32 ∷ []) ++ written_name table name =
    c.in_ok-write_name.ensures ∙ ap (λ (o : List ℕ). o ++ named q name) c.in_ok-push.ensures.items ∙ ap (λ (n : List ℕ). (old ++ 32 ∷ []) ++ n) is in
    OnOk-map c.write_value.result _ _ (λ e. e ∙ ap (λ (v : List ℕ). c.write_name.new.out.items ++ written_value v) c.bytes-2.ensures.bytes
    ∙ ap (λ (o : List ℕ). o ++ written_value value) before ∙ attribute-regroup old (written_name table name) (written_value value)) c.write_value.ensures
