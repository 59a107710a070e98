use Rattle.std.proofs.Common.{rules, arith, Some, ◌≡◌, ◌<◌, ap, sym, ◌∙◌, reverse, length}
use Rattle.base_texts.specs.Entries.{beside}
use Rattle.xml_pieces.specs.declared.scope.Binding.{Binding}
use Rattle.xml_pieces.proofs.InScope.{place_in, found_within, found_space, not_found}
use Rattle.xml_pieces.proofs.scope.BindingsInScope.bound_to.Goals as goal

pub returns-in_err-place : goal.returns-in_err-place
returns-in_err-place c = rw c.from_residual.ensures (not_found c.args.prefix.now c.self.inside.bindings.items c.self.inside.innermost c.self.invariant (search rules) ∙ ap (λ xs. beside c.args.prefix.now (reverse xs)) c.self.view_is)

pub prove-unreachable-requires : goal.prove-unreachable-requires
prove-unreachable-requires c =
    let at : place_in c.self.inside.innermost c.args.prefix.now ≡ Some c.in_ok-place.field-0.now = search rules in
    let lt : c.in_ok-place.field-0.now < length c.self.inside.bindings.items = found_within c.args.prefix.now c.self.inside.bindings.items c.self.inside.innermost c.in_ok-place.field-0.now c.self.invariant at in
    let same : length c.as_slice-bindings.result.now ≡ length c.self.inside.bindings.items = search rules in
    omega (arith, lt, same)

pub returns : goal.returns
returns c =
    let at : place_in c.self.inside.innermost c.args.prefix.now ≡ Some c.in_ok-place.field-0.now = search rules in
    ap (λ (b : Binding). Some b.space) (sym c.index-bindings-place.is) ∙ found_space c.args.prefix.now c.self.inside.bindings.items c.self.inside.innermost c.in_ok-place.field-0.now c.index-bindings-place.result c.self.invariant at (search rules) ∙ ap (λ xs. beside c.args.prefix.now (reverse xs)) c.self.view_is
