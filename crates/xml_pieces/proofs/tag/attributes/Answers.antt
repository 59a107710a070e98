use Rattle.std.proofs.Common.{◌≡◌, map, ◌++◌, ◌∷◌, []}
use Rattle.std.proofs.lemmas.List.{map_push}
use Rattle.xml_pieces.specs.Pieces.{Exact}
use Rattle.xml_pieces.specs.Reading.{attribute_at}
use Rattle.xml_pieces.specs.Found.{attribute_of}
use Rattle.xml_pieces.proofs.Many.{goes_on, is_done}
use Rattle.xml_pieces.proofs.Attributes.{attributes_consume, attribute_utf8}
use Rattle.xml_pieces.proofs.tag.attributes.Goals as goal

pub all-preserved : goal.all-preserved
all-preserved c =
    let found = rw c.in-Some.is at c.in_ok-attribute.ensures in
    let pushed : map attribute_of c.push.new.self.items ≡ map attribute_of c.all.list.items ++ attribute_of c.in-Some.attribute ∷ [] = rw c.in_ok-push.ensures.items (map_push attribute_of c.all.list.items c.in-Some.attribute) in
    record {
      utf8 = attribute_utf8 Exact c.all.rest.now (attribute_of c.in-Some.attribute) c.in-Some.behind.now found c.all.invariant.utf8;
      so_far = rw pushed (goes_on (attribute_at Exact) (attributes_consume Exact) (map attribute_of c.all.list.items) c.all.rest.now (attribute_of c.in-Some.attribute) c.in-Some.behind.now _ found c.all.invariant.so_far);
    }

pub all-smaller : goal.all-smaller
all-smaller c =
    let found = rw c.in-Some.is at c.in_ok-attribute.ensures in
    (attributes_consume Exact).less c.all.rest.now (attribute_of c.in-Some.attribute) c.in-Some.behind.now found

pub returns : goal.returns
returns c =
    let found = rw c.in_default.is at c.in_ok-attribute.ensures in
    is_done (attribute_at Exact) (attributes_consume Exact) (map attribute_of c.all.list.items) c.all.rest.now _ found c.all.invariant.so_far
