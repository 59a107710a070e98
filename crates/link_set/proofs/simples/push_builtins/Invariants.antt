use Rattle.std.proofs.Common.{◌≡◌, ◌++◌, map, take}
use Rattle.link_set.specs.Sets.{named_spaces, space_of_builtin}
use Rattle.link_set.proofs.simples.push_builtins.Given as goal

-- those of the ones before this one were put behind
abbrev pub invariant-builtins : goal.invariant-builtins
invariant-builtins l = named_spaces l.out.items ≡ named_spaces l.fn.out.items ++ map space_of_builtin (take l.which-index l.used)
