-- Reading nodes goes on, and ends in the bits.
use Rattle.std.proofs.Common.{◌≡◌, ℕ, zero, suc, ◌-◌, ◌≤◌, Bool, true, false, not, eqb, ltb, leb, List, length, arith, rules, Option, Some, None, Result, Ok, Err}
use Rattle.std.specs.Prelude.{ℤ, replicate, slice_get}
use Rattle.base_trees.specs.Rose.{Rose, label_of, kids_of}
use Rattle.simple_types.specs.declared.labels.ValueLabel.{ValueLabel}
use Rattle.simple_types.specs.declared.labels.ValueLabel.TheVariants as value
use Rattle.asn_types.specs.declared.modules.Assignment.{Assignment}
use Rattle.asn_types.specs.declared.types.Component.{Component}
use Rattle.asn_types.specs.declared.types.Form.{Form}
use Rattle.asn_types.specs.declared.types.Form.TheVariants as form
use Rattle.asn_types.specs.declared.types.TypeLabel.{TypeLabel}
use Rattle.asn_types.specs.Refs.{resolve}
use Rattle.asn_values.specs.Values.{ComponentPlace, place_at, present_from, alone, below}
use Rattle.base_codecs.specs.declared.spots.Spot.{Spot}
use Rattle.per_fields.specs.declared.stops.Stop.{Stop}
use Rattle.per_fields.specs.declared.stops.Why.TheVariants as why
use Rattle.per_fields.specs.Reading.{◌>>=◌, Reader, stop_at, moved, bits_at, octets_at, each_at}
use Rattle.per_fields.specs.Fields.{number_at, counted_at, list_at}
use Rattle.per_fields.specs.Nodes.{bool_at, int_at, enum_at, text_at, flag_at, kids_at, sequence_at, choice_at, items_at, content_at, enter_by, entered_at, owned_at, unkept_why, kept_at, part_at, node_at, node_read, last_by, last_at}
use Rattle.per_fields.specs.Levels.{levels_needed}
use Rattle.per_fields.specs.Owning.{keeps}
use Rattle.per_decode.specs.Private.Bodies.{kid_at}
use Rattle.per_decode.proofs.Ends.{Sits, SteadyReader, sits_then, sits_if, sits_ok, sits_err, sits-bits, sits-align, sits-octets, sits-number, sits-whole, sits-counted, sits-list, sits-each}

pub sits-bool : SteadyReader bool_at
unfolding bool_at
sits-bool X s h = search (rules, sits_then, sits_ok, sits-bits)

pub sits-int : (aligned : Bool) (least greatest : Option ℤ) → SteadyReader (int_at aligned least greatest)
unfolding int_at
sits-int aligned least greatest X s h = search (rules, sits_then, sits_ok, sits-whole)

pub sits-enum : (aligned : Bool) (items : ℕ) → SteadyReader (enum_at aligned items)
unfolding enum_at
sits-enum aligned items X s h = search (rules, sits_then, sits_ok, sits-number)

pub sits-text_octets : (aligned : Bool) → SteadyReader (counted_at aligned 0 None octets_at)
sits-text_octets aligned X s h = sits-counted aligned 0 None octets_at sits-octets X s h

pub sits-text : (aligned : Bool) → SteadyReader (text_at aligned)
unfolding text_at
sits-text aligned X s h = sits_then X s.at (counted_at aligned 0 None octets_at X s) _ (sits-text_octets aligned X s h) (λ x i. record { later = omega arith; inside = i })

pub sits-flag : (part : Component) → SteadyReader (flag_at part)
unfolding flag_at
sits-flag part X s h = by part.optional
  where
    by : (b : Bool) → Sits X s.at (elim b as (λ _. Result (Bool × Spot) Stop) [ true ↦ bits_at s.at 1 X s >>= λ b. Ok (eqb b.0 1, b.1) | false ↦ Ok (true, s) ])
    by true = sits_then X s.at (bits_at s.at 1 X s) _ (sits-bits s.at 1 X s h) (λ x i. record { later = omega arith; inside = i })
    by false = record { later = omega arith; inside = h }

pub sits-flags : (parts : List Component) → SteadyReader (each_at flag_at parts)
sits-flags parts X s h = sits-each flag_at sits-flag parts X s h

stays : {A : Type 0} (X : List Bool) (s : Spot) (w : _) → s.at ≤ length X → Sits {B = A} X s.at (Err (stop_at s.at w s.at))
stays X s w h = record { later = omega arith; inside = h }

module _ (kid : ComponentPlace → Reader (Rose ValueLabel)) (one : (p : ComponentPlace) → SteadyReader (kid p)) where
  pub sits-kids : (l : ValueLabel) (o : Option (List ComponentPlace)) → SteadyReader (kids_at kid l o)
  unfolding kids_at
  sits-kids l None X s h = stays X s why.NotAValue h
  sits-kids l (Some ps) X s h = sits_then X s.at (each_at kid ps X s) _ (sits-each kid one ps X s h) (λ vs i. record { later = omega arith; inside = i })

  pub sits-sequence : (l : TypeLabel) (ts : List (Rose TypeLabel)) (parts : List Component) → SteadyReader (sequence_at kid l ts parts)
  unfolding sequence_at
  sits-sequence l ts parts X s h =
      sits_then X s.at (each_at flag_at parts X s) _ (sits-flags parts X s h) (λ f i. sits-kids (value.Sequence f.0) (present_from l 0 parts ts f.0) X f.1 i)

  pub sits-choice : (aligned : Bool) (l : TypeLabel) (ts : List (Rose TypeLabel)) (parts : List Component) → SteadyReader (choice_at aligned kid l ts parts)
  unfolding choice_at
  sits-choice aligned l ts parts X s h =
      sits_then X s.at (number_at aligned (length parts - 1) X s) _ (sits-number aligned (length parts - 1) X s h)
      (λ i j. sits-kids (value.Choice i.0) (alone (place_at l i.0 (slice_get parts i.0) (slice_get ts i.0))) X i.1 j)

  pub sits-many : (p : ComponentPlace) (n : ℕ) → SteadyReader (each_at kid (replicate n p))
  sits-many p n X s h = sits-each kid one (replicate n p) X s h

  pub sits-items : (aligned : Bool) (least : ℕ) (most : Option ℕ) (o : Option ComponentPlace) → SteadyReader (items_at aligned kid least most o)
  unfolding items_at
  sits-items aligned least most None X s h = stays X s why.NotAValue h
  sits-items aligned least most (Some p) X s h =
      sits_then X s.at (list_at aligned least most (λ n. each_at kid (replicate n p)) X s) _ (sits-list aligned least most (λ n. each_at kid (replicate n p)) (sits-many p) X s h) (λ vs i. record { later = omega arith; inside = i })

  pub sits-content : (aligned : Bool) (l : TypeLabel) (ts : List (Rose TypeLabel)) (f : Form) → SteadyReader (content_at aligned kid l ts f)
  unfolding content_at
  sits-content aligned l ts form.Bool X s h = sits-bool X s h
  sits-content aligned l ts (form.Int least greatest) X s h = sits-int aligned least greatest X s h
  sits-content aligned l ts (form.Numbers numbers) X s h = sits-enum aligned (length numbers) X s h
  sits-content aligned l ts (form.Words identifiers words) X s h = sits-enum aligned (length words) X s h
  sits-content aligned l ts (form.Order identifiers) X s h = sits-enum aligned (length identifiers) X s h
  sits-content aligned l ts (form.Utf8 least most class) X s h = sits-text aligned X s h
  sits-content aligned l ts (form.Sequence parts) X s h = sits-sequence l ts parts X s h
  sits-content aligned l ts (form.Choice parts) X s h = sits-choice aligned l ts parts X s h
  sits-content aligned l ts (form.SequenceOf part least most) X s h = sits-items aligned least most (place_at l 0 (Some part) (slice_get ts 0)) X s h
  sits-content aligned l ts (form.Ref to) X s h = stays X s why.NotAValue h

sits-enter_by : {A : Type 0} (shallow few : Bool) (X : List Bool) (s : Spot) (k : Spot → Result (A × Spot) Stop) → s.at ≤ length X → Sits X s.at (k (moved s 0 1)) → Sits X s.at (enter_by shallow few s k)
sits-enter_by false few X s k h i = stays X s why.TooDeep h
sits-enter_by true false X s k h i = stays X s why.TooMany h
sits-enter_by true true X s k h i = i

module _ (M : List Assignment) where
  pub sits-owned : (begin : ℕ) (t : Rose TypeLabel) (X : List Bool) (v : Rose ValueLabel × Spot) → v.1.at ≤ length X → Sits X v.1.at (owned_at M begin t v)
  unfolding owned_at
  sits-owned begin t X v h = search (rules, sits_if, sits_ok, sits_err)

  pub sits-kept : (part : Component) (t : Rose TypeLabel) (begin : ℕ) (X : List Bool) (v : Rose ValueLabel × Spot) → v.1.at ≤ length X → Sits X v.1.at (kept_at M part t begin v)
  unfolding kept_at
  sits-kept part t begin X v h =
      sits_if X v.1.at (not (keeps M part t v.0)) (Err (stop_at begin (unkept_why M part t v.0) v.1.at)) (Ok v) (record { later = omega arith; inside = h }) (record { later = omega arith; inside = h })

  -- a part, where its node does
  pub sits-part : (p : ComponentPlace) (read : Reader (Rose ValueLabel)) → SteadyReader read → SteadyReader (part_at M p read)
  sits-part p read one X s h = sits_then X s.at (read X s) (kept_at M p.part p.type s.at) (one X s h) (λ v i. sits-kept p.part p.type s.at X v i)

module _ (aligned : Bool) (M : List Assignment) where
  pub sits-node_at : (levels depth : ℕ) (t : Rose TypeLabel) → SteadyReader (node_at aligned M levels depth t)
  unfolding node_at entered_at
  sits-node_at zero depth t X s h = stays X s why.TooDeep h
  sits-node_at (suc levels) depth t X s h =
      let u = resolve M t in
      let kid : ComponentPlace → Reader (Rose ValueLabel) = λ p. part_at M p (node_at aligned M levels (below p.role depth) p.type) in
      let r = moved s 0 1 in
      let at : r.at ≡ s.at = omega arith in
      let i : Sits X r.at (content_at aligned kid (label_of u) (kids_of u) (label_of u).form X r) = sits-content kid (λ p. sits-part M p (node_at aligned M levels (below p.role depth) p.type) (sits-node_at levels (below p.role depth) p.type)) aligned (label_of u) (kids_of u) (label_of u).form X r (omega arith) in
      let j = sits_then X r.at (content_at aligned kid (label_of u) (kids_of u) (label_of u).form X r) (λ v. owned_at M s.at u v) i (λ v k. sits-owned M s.at u X v k) in
      sits-enter_by (leb depth 64) (ltb s.nodes 1048576) X s (λ r. content_at aligned kid (label_of u) (kids_of u) (label_of u).form X r >>= λ v. owned_at M s.at u v) h (record { later = omega (arith, j.later, at); inside = j.inside })

  pub sits-node : (depth : ℕ) (t : Rose TypeLabel) → SteadyReader (node_read aligned M depth t)
  sits-node depth t X s h = sits-node_at (levels_needed M depth t) depth t X s h

  -- a kid of a node
  pub sits-kid : (depth : ℕ) (p : ComponentPlace) → SteadyReader (kid_at aligned M depth p)
  sits-kid depth p = sits-part M p (node_read aligned M (below p.role depth) p.type) (sits-node (below p.role depth) p.type)

pub sits-last : (X : List Bool) (s : Spot) → s.at ≤ length X → Sits X s.at (last_at X s)
unfolding last_at
sits-last X s h = by (eqb s.at 0)
  where
    by : (b : Bool) → Sits X s.at (last_by b X s)
    by true = search (rules, sits_then, sits_if, sits_ok, sits_err, sits-bits)
    by false = sits-align X s h
