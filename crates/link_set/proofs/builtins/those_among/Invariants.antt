use Rattle.std.proofs.Common.{◌≡◌, take}
use Rattle.std.specs.List.{filter}
use Rattle.link_set.specs.Builtins.{is_among}
use Rattle.link_set.proofs.builtins.those_among.Given as goal

-- those of the ones before this one
abbrev pub invariant-builtins : goal.invariant-builtins
invariant-builtins l = l.used.items ≡ filter (is_among l.named) (take l.which-index l.all)
