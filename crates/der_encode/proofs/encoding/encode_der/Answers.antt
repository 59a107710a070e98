use Rattle.std.proofs.Common.{◌++◌, None, reverse, ap, ◌∙◌}
use Rattle.std.proofs.lemmas.List.{reverse-reverse}
use Rattle.der_fields.specs.Encoding.{der}
use Rattle.der_encode.proofs.Kids.{is_assigned, root_fits, root_octets}
use Rattle.der_encode.proofs.encoding.encode_der.Goals as goal

pub assignment-requires : goal.assignment-requires
assignment-requires c = is_assigned c.args.module.now c.args.value.now c.args.t c.requires

pub put_node-requires : goal.put_node-requires
put_node-requires c =
    rw (c.root-body.ensures.root, c.root-root.ensures.root) (root_fits c.args.module.now c.args.value.now c.args.t c.assignment.result.now c.assignment.ensures.assignment c.requires)

pub returns : goal.returns
returns c =
    let M = c.args.module.now in
    let v = c.args.value.now in
    let a = c.assignment.result.now in
    let octets = der M None a.body v in
    let put = c.in_ok-put_node.ensures ∙ ap (λ xs. xs ++ reverse (der M None c.root-body.result.now c.root-root.result)) c.new-back.ensures.items
    ∙ ap (λ u. reverse (der M None u c.root-root.result)) c.root-body.ensures.root ∙ ap (λ w. reverse (der M None a.body w)) c.root-root.ensures.root in
    c.reverse.ensures.items ∙ ap reverse put ∙ reverse-reverse octets ∙ root_octets M v c.args.t a c.assignment.ensures.assignment
