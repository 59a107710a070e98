use Rattle.std.proofs.Common.{ℕ, List, ap, sym, ◌∙◌}
use Rattle.xml_pieces.specs.Pieces.{Loose}
use Rattle.xml_pieces.specs.Reading.{attribute_at}
use Rattle.xml_pieces.proofs.Many.{one_more, no_more}
use Rattle.xml_pieces.proofs.Attributes.{mapped_some, mapped_none, attributes_consume, attribute_utf8}
use Rattle.xml_pieces.proofs.reason.past_loose_attributes.Goals as goal

pub all-preserved : goal.all-preserved
all-preserved c =
    let rest = c.all.rest.now in
    let found = mapped_some (attribute_at Loose rest) c.in-Some.behind.now c.in-Some.ensures in
    record {
      utf8 = attribute_utf8 Loose rest found.0 c.in-Some.behind.now found.1 c.all.invariant.utf8;
      so_far = sym (ap (λ (x : List (List ℕ × List ℕ) × List ℕ). x.1) (one_more (attribute_at Loose) (attributes_consume Loose) rest found.0 c.in-Some.behind.now found.1)) ∙ c.all.invariant.so_far;
    }

pub all-smaller : goal.all-smaller
all-smaller c =
    let found = mapped_some (attribute_at Loose c.all.rest.now) c.in-Some.behind.now c.in-Some.ensures in
    (attributes_consume Loose).less c.all.rest.now found.0 c.in-Some.behind.now found.1

pub returns : goal.returns
returns c =
    let rest = c.all.rest.now in
    let none = mapped_none (attribute_at Loose rest) c.in_default.ensures in
    sym (ap (λ (x : List (List ℕ × List ℕ) × List ℕ). x.1) (no_more (attribute_at Loose) (attributes_consume Loose) rest none)) ∙ c.all.invariant.so_far
