use Rattle.std.proofs.Common.{◌≡◌, ◌++◌, length, ◌∙◌, ap}
use Rattle.base_codecs.specs.Bits.{octet_bits}
use Rattle.asn_values.proofs.Counting.{if_ok}
use Rattle.per_fields.specs.Encoding.{per, completed, complete_by}
use Rattle.per_encode.proofs.Kids.{is_assigned, root_fits, complete-root}
use Rattle.per_encode.proofs.encoding.encode_by.Goals as goal

pub assignment-requires : goal.assignment-requires
assignment-requires g c = is_assigned g.V.Variant.ALIGNED c.args.module.now c.args.value.now c.args.t c.requires

pub put_node-requires : goal.put_node-requires
put_node-requires g c =
    rw (c.root-body.ensures.root, c.root-root.ensures.root) (root_fits g.V.Variant.ALIGNED c.args.module.now c.args.value.now c.args.t c.assignment.result.now c.assignment.ensures.assignment c.requires)

pub returns : goal.returns
returns g c =
    let M = c.args.module.now in
    let v = c.args.value.now in
    let a = c.assignment.result.now in
    let s = c.put_node.new.sink in
    let put : s ≡ per g.V.Variant.ALIGNED M a.body v 0 =
    c.in_ok-put_node.ensures ∙ ap (λ bs. bs ++ per g.V.Variant.ALIGNED M c.root-body.result.now c.root-root.result (length bs)) c.new-sink.ensures
    ∙ ap (λ u. per g.V.Variant.ALIGNED M u c.root-root.result 0) c.root-body.ensures.root ∙ ap (λ w. per g.V.Variant.ALIGNED M a.body w 0) c.root-root.ensures.root in
    if_ok (λ octets. octet_bits octets.items ≡ completed s) (λ octets. octet_bits octets.items ≡ complete_by g.V.Variant.ALIGNED M c.args.t v) c.whole_octets.result
    (λ octets e. e ∙ ap completed put ∙ complete-root g.V.Variant.ALIGNED M v c.args.t a c.assignment.ensures.assignment)
    c.whole_octets.ensures
