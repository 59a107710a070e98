-- Of the octets of records one outcome is due, with one list of bytes.
use Rattle.std.proofs.Common.{◌≡◌, ◌⊎◌, ℕ, ◌+◌, ◌-◌, ◌<◌, true, List, [], ◌∷◌, ◌++◌, length, take, drop, refl, sym, ap, ◌∙◌, subst, inl, inr, arith, Some, Ok}
use Rattle.base_trees.specs.Rose.{Rose}
use Rattle.simple_types.specs.declared.labels.ValueLabel.{ValueLabel}
use Rattle.per_fields.specs.declared.stops.Stop.{Stop}
use Rattle.per_fields.proofs.Law.{one_stop}
use Rattle.per_fields.specs.Stopping.{StopsFirst}
use Rattle.per_fields.proofs.StopLaw.{stops_as_read}
use Rattle.record_stream.specs.Next.{within, fault_of, most_of}
use Rattle.record_stream.proofs.Cutting.{one_cut_of}
use Rattle.schema_components.specs.Components.{Set}
use Rattle.transcode_words.specs.declared.outcome.Outcome.{Outcome}
use Rattle.transcode_words.specs.declared.outcome.Outcome.TheVariants.{Done, Usage, SchemaSyntax, SchemaFault, LinkFault, UnknownRoot, Stamp, DocSyntax, Invalid, PerFault, DerFault, ModuleFault, RecordFault, Trailing, TooLong, TooManyNodes, LoadFault, ReadFault, WriteFault, OutOfMemory}
use Rattle.transcode_core.specs.Steps.{RootType, IsTypeOf}
use Rattle.transcode_core.specs.Each.{each_limit, Documents, outcome_of, EndsAs, EachDue}
use Rattle.transcode_core.proofs.Single.{Written-single, ok_inj}

module _ (type : RootType) where
  Documents-single : (vs : List (Rose ValueLabel)) (b c : List ℕ) → Documents type vs b → Documents type vs c → b ≡ c
  Documents-single [] b c h k = h ∙ sym k
  Documents-single (v ∷ vs) b c (first, rest, own, others, e) (other, more, also, further, f) =
      let one : first ≡ other = ok_inj first other (Written-single type v (Ok first) (Ok other) own also) in
      let all : rest ≡ more = Documents-single vs rest more others further in
      e ∙ ap (λ x. x ++ rest) one ∙ ap (λ x. other ++ x) all ∙ sym f

  module _ (left : List ℕ) (number count : ℕ) where
    abbrev pub Stopped : Outcome → Type 0
    Stopped o =
        (0 < length (drop count left))
        × ((stop : Stop) × StopsFirst type.assignments type.number (within type.assignments type.number (number + 1) (each_limit - count) (drop count left)) stop
        × (o ≡ outcome_of (fault_of type.assignments type.number (number + 1) (each_limit - count) (drop count left) stop)))

    abbrev pub Seen : Outcome → Type 0
    Seen o = ((o ≡ Done) × (drop count left ≡ [])) ⊎ Stopped o

    pub seen : (o : Outcome) → EndsAs type left number count o → Seen o
    seen Done h = inl (refl, h)
    seen Usage h = inr h
    seen (SchemaSyntax k at why) h = inr h
    seen (SchemaFault k at why) h = inr h
    seen (LinkFault k at why) h = inr h
    seen UnknownRoot h = inr h
    seen Stamp h = inr h
    seen (DocSyntax at why) h = inr h
    seen (Invalid at why) h = inr h
    seen (PerFault bit why) h = inr h
    seen (DerFault at why) h = inr h
    seen (ModuleFault at why) h = inr h
    seen (RecordFault n bit why) h = inr h
    seen (Trailing at) h = inr h
    seen (TooLong k) h = inr h
    seen (TooManyNodes n) h = inr h
    seen (LoadFault k) h = inr h
    seen ReadFault h = inr h
    seen WriteFault h = inr h
    seen OutOfMemory h = inr h

    module _ {s : Set} {n : ℕ} (of : IsTypeOf s n type) where
      one_end : (o p : Outcome) → Seen o → Seen p → o ≡ p
      one_end o p (inl h) (inl k) = h.0 ∙ sym k.0
      one_end o p (inl h) (inr k) = absurd (omega (arith, k.0, ap length h.1))
      one_end o p (inr h) (inl k) = absurd (omega (arith, h.0, ap length k.1))
      one_end o p (inr h) (inr k) =
          let M = type.assignments in
          let t = type.number in
          let X = take (most_of (each_limit - count)) (drop count left) in
          let same : h.1.0 ≡ k.1.0 = one_stop true M t X of.is_module of.is_bounded of.within h.1.0 k.1.0 ((stops_as_read true M t X of.is_module of.is_bounded of.within h.1.0).1 h.1.1)
          ((stops_as_read true M t X of.is_module of.is_bounded of.within k.1.0).1 k.1.1) in
          h.1.2 ∙ ap (λ x. outcome_of (fault_of M t (number + 1) (each_limit - count) (drop count left) x)) same ∙ sym k.1.2

  pub EachDue-single : {s : Set} {n : ℕ} (of : IsTypeOf s n type) (left : List ℕ) (o p : Outcome) (b c : List ℕ) → EachDue type (Some left) o b → EachDue type (Some left) p c → (o ≡ p) × (b ≡ c)
  EachDue-single of left o p b c (vs, m, cut, ends, docs) (ws, n, again, stops, more) =
      let e = one_cut_of type.assignments type.number of.is_module of.is_bounded of.within (take each_limit left) vs ws m n cut again in
      let same_ends : EndsAs type left (length vs) m p = subst (λ j. EndsAs type left (length vs) j p) (sym e.1) (subst (λ us. EndsAs type left (length us) n p) (sym e.0) stops) in (
        one_end left (length vs) m of o p (seen left (length vs) m o ends) (seen left (length vs) m p same_ends),
        Documents-single vs b c docs (subst (λ us. Documents type us c) (sym e.0) more),
      )
