-- The places that the limit of components counts ascend.
use Rattle.std.proofs.Common.{ℕ, ◌+◌, ◌≤◌, Bool, true, false, cond, List, [], ◌∷◌, arith}
use Rattle.schema_read.proofs.Words.{Rose, node, Roses, ItemLabel, Element, Text, is_counted, is_looked_into, counted_here, counted_inside, counted_at, counted_among}
use Rattle.base_trees.specs.Rose as rose
use Rattle.schema_read.proofs.ItemPlaces.{Spans, SpansAll, span_le, span_all_le}
use Rattle.schema_read.proofs.RisingPlaces.{Rise, rise_append}

-- where there are these, or none
if_rise : (least end : ℕ) (b : Bool) (ps : List ℕ) → least ≤ end → Rise least end ps → Rise least end (cond b ps [])
if_rise least end true ps le h = h
if_rise least end false ps le h = le

mutual
  counted_at_rise : (least end : ℕ) (t : Rose ItemLabel) → Spans least end t → Rise least end (counted_at t)
  counted_at_rise least end (node (Text text at) kids) h =
      let k = span_le least end (node (Text text at) kids) h in
      let le : least ≤ end = omega (arith, k) in
      le
  counted_at_rise least end (node (Element name attributes declares at) kids) h =
      let le = h.0 in
      let k = span_all_le (at + 1) end kids h.1 in
      let same : at + 1 ≤ at + 1 = omega arith in
      rise_append least (at + 1) end (counted_here name at) (counted_inside name (counted_among kids))
      (if_rise least (at + 1) (is_counted name) (at ∷ []) (omega (arith, le)) (le, same))
      (if_rise (at + 1) end (is_looked_into name) (counted_among kids) k (counted_rise (at + 1) end kids h.1))

  pub counted_rise : (least end : ℕ) (ts : Roses ItemLabel) → SpansAll least end ts → Rise least end (counted_among ts)
  counted_rise least end rose.none h = h
  counted_rise least end (rose.more t ts) h = rise_append least h.0 end (counted_at t) (counted_among ts) (counted_at_rise least h.0 t h.1) (counted_rise h.0 end ts h.2)
