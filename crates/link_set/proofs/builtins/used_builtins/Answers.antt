use Rattle.std.proofs.Common.{◌≡◌, IfOk, subst}
use Rattle.std.specs.List.{filter}
use Rattle.link_set.specs.Builtins.{is_among, all_builtins}
use Rattle.link_set.proofs.builtins.used_builtins.Goals as goal

pub returns : goal.returns
returns c =
    subst (λ ns. IfOk c.those_in_order.result (λ used. used.items ≡ filter (is_among ns) all_builtins)) c.deref.ensures.value c.those_in_order.ensures
