-- The greatest number of components of each kind in a set.
use Rattle.std.specs.Prelude.{◌+◌, ◌≤◌, length}
use Rattle.link_set.specs.Builtins.{used_builtins}
use Rattle.link_set.specs.Written.{Lists}

-- There are at most 65,536 of each kind, with the built-in types among the simple ones.
pub record AreFew (ls : Lists) : Type 0 where
  pub elements : length ls.globals + length ls.locals ≤ 65536
  pub simples : length ls.simples + length (used_builtins ls) ≤ 65536
  pub complexes : length ls.complexes ≤ 65536
