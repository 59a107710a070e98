-- Where the records of octets end.
use Rattle.std.proofs.Common.{◌≡◌, ℕ, ◌+◌, ◌-◌, ◌*◌, ◌<◌, ◌≤◌, true, List, [], length, take, drop, sym, ap, ◌∙◌, subst, arith}
use Rattle.std.proofs.lemmas.List.{length-take, take-take, drop-take}
use Rattle.base_trees.specs.Rose.{Rose}
use Rattle.base_codecs.specs.Bits.{octet_bits}
use Rattle.simple_types.specs.declared.labels.ValueLabel.{ValueLabel}
use Rattle.asn_types.specs.declared.modules.Assignment.{Assignment}
use Rattle.asn_types.specs.Bounds.{IsBounded}
use Rattle.asn_types.specs.Modules.{IsModule}
use Rattle.asn_values.specs.Values.{In}
use Rattle.per_fields.specs.declared.stops.Stop.{Stop}
use Rattle.per_fields.specs.Encoding.{complete}
use Rattle.per_fields.specs.Laws.{Begins}
use Rattle.per_fields.proofs.Law.{not_both}
use Rattle.per_fields.specs.Stopping.{StopsFirst}
use Rattle.per_fields.proofs.StopLaw.{stops_as_read}
use Rattle.record_stream.specs.Cuts.{IsRecord, BeginWith, IsCut}
use Rattle.record_stream.specs.Next.{most_of}
use Rattle.record_stream.proofs.Cutting.{complete-some, front_octets, begins_within, begins_beyond, begin_front, cut_ends}

module _ (M : List Assignment) (t : ℕ) (known : IsModule M) (bounded : IsBounded M) (assigned : t < length M) where
  module _ (left : List ℕ) (values : List (Rose ValueLabel)) (count m : ℕ) (begin : BeginWith M t left values count) (below : count ≤ m) where
    behind : drop count (take m left) ≡ take (m - count) (drop count left)
    behind = let joined : m ≡ count + (m - count) = omega (arith, below) in ap (λ n. drop count (take n left)) joined ∙ drop-take count (m - count) left

    ends_where : ((v : Rose ValueLabel) → IsRecord M t v → Begins M t (octet_bits (take (m - count) (drop count left))) v → ⊥) → IsCut M t (take m left) values count
    ends_where nothing = cut_ends M t known bounded assigned (take m left) values count (begin_front M t left values count m begin below) (λ v one b. nothing v one (subst (λ xs. Begins M t (octet_bits xs) v) behind b))

    -- at the end of the octets
    pub cut_at_end : drop count left ≡ [] → IsCut M t (take m left) values count
    cut_at_end none = ends_where (λ v one b.
        let f = front_octets M t (take (m - count) (drop count left)) v b in
        omega (arith, f.1, f.2, complete-some M t v one.0, length-take (m - count) (drop count left), ap length none))

    -- at a first fault
    pub cut_at_stop : (room : ℕ) (stop : Stop) → room ≡ m - count → StopsFirst M t (octet_bits (take (most_of room) (drop count left))) stop → IsCut M t (take m left) values count
    cut_at_stop room stop same stops = ends_where (λ v one b.
        let w = begins_beyond M t (drop count left) v (m - count) b in
        let fits : length (complete M t v) ≤ 8 * most_of room = omega (arith, w.1, one.1, same) in
        not_both true M t (take (most_of room) (drop count left)) known bounded assigned v stop (begins_within M t (drop count left) v (most_of room) fits w.0)
        ((stops_as_read true M t (take (most_of room) (drop count left)) known bounded assigned stop).1 stops))

  -- where a source failed
  pub cut_at_failure : (left : List ℕ) (values : List (Rose ValueLabel)) (count k : ℕ) → BeginWith M t left values count
      → ((v : Rose ValueLabel) (n : ℕ) → n ≤ k → In M t v → octet_bits (take n (drop count left)) ≡ complete M t v → ⊥) → IsCut M t (take (count + k) left) values count
  cut_at_failure left values count k begin nothing =
      let same : (count + k) - count ≡ k = omega arith in
      ends_where left values count (count + k) begin (omega arith) (λ v one b.
      let c = subst (λ n. Begins M t (octet_bits (take n (drop count left))) v) same b in
      let f = front_octets M t (take k (drop count left)) v c in
      let few : f.0 ≤ k = omega (arith, f.2, length-take k (drop count left)) in
      nothing v f.0 few one.0 (ap octet_bits (sym (take-take f.0 k (drop count left) few)) ∙ f.3))
