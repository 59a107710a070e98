use Rattle.std.proofs.Common.{◌≡◌, ◌+◌, ◌≤◌, length}
use Rattle.std.specs.Prelude.{count_by}
use Rattle.people_complaints.specs.Paths.{is_kid_named}
use Rattle.people_complaints.proofs.text_paths.alike.Given as goal

-- those counted, and those that come
abbrev pub invariant-kids : goal.invariant-kids
invariant-kids l = record {
  counted : l.count + count_by (is_kid_named l.name) l.kids ≡ count_by (is_kid_named l.name) l.fn.kids;
  fits : l.count + length l.kids ≤ l.most;
}

abbrev pub decreases-kids : goal.decreases-kids
decreases-kids l = length l.kids
