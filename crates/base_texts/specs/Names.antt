-- The order of names: by the bytes of the namespace, and then by those of the local name.
use Rattle.std.specs.Prelude.{Bool, ◌&&◌, bytes_eq}
use Rattle.std.specs.Ordering.{nat_cmp, ordering_then}
use Rattle.std.specs.Cmp.Lexicographic.{slice_cmp}
use Rattle.std.specs.declared.cmp.Ordering.{Ordering}
use Rattle.base_texts.specs.declared.texts.Name.{Name}

abbrev pub name_eq : Name → Name → Bool
name_eq a b = bytes_eq a.space b.space && bytes_eq a.local b.local

abbrev pub name_cmp : Name → Name → Ordering
name_cmp a b = ordering_then (slice_cmp nat_cmp a.space b.space) (slice_cmp nat_cmp a.local b.local)
