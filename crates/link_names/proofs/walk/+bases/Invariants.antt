use Rattle.std.proofs.Common.{◌≡◌, ◌+◌, ◌*◌, ◌++◌, drop}
use Rattle.schema_components.specs.Seen.{base_of, how_of, bases_in}
use Rattle.schema_components.proofs.Sizes.{base_size, how_size, bases_size}
use Rattle.link_names.specs.Parts.{in_bases}
use Rattle.link_names.specs.WalkSeen.{parts_of}
use Rattle.link_names.proofs.walk.+bases.Given as goal

abbrev pub decreases-push_base : goal.decreases-push_base
decreases-push_base l = 2 * base_size (base_of l.base.now)

abbrev pub decreases-push_simple : goal.decreases-push_simple
decreases-push_simple l = 2 * how_size (how_of l.body.now.how) + 1

abbrev pub decreases-push_how : goal.decreases-push_how
decreases-push_how l = 2 * how_size (how_of l.how.now)

abbrev pub decreases-push_bases : goal.decreases-push_bases
decreases-push_bases l = 2 * bases_size (bases_in l.bases.now) + 1

-- those so far and those of the rest are all
abbrev pub invariant-push_bases-bases : goal.invariant-push_bases-bases
invariant-push_bases-bases l =
    parts_of l.out.items ++ in_bases l.file l.at (bases_in (drop l.base-index l.bases)) ≡ parts_of l.fn.out.items ++ in_bases l.file l.at (bases_in l.bases)
