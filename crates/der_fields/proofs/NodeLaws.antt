-- Nodes, by recursion on the levels.
use Rattle.std.proofs.Common.{◌≡◌, ℕ, zero, suc, ◌+◌, ◌<◌, ◌≤◌, Bool, true, false, cond, ltb, leb, not, ◌&&◌, Option, Some, None, List, [], ◌∷◌, ◌++◌, length, refl, sym, ap, ◌∙◌, subst, arith, append_assoc, Ok, Err, inl, inr, ◌⊎◌}
use Rattle.std.proofs.lemmas.Str.{is_utf8-from_IsUtf8}
use Rattle.std.proofs.lemmas.Bool.{cases_lt, lt-ltb, ltb-true, leb-true, le-leb, not-false, and_parts, and_from}
use Rattle.std.proofs.lemmas.List.{length-append}
use Rattle.base_trees.specs.Rose.{Rose, node, Roses, label_of, kids_of, node_count, count_all, length_all}
use Rattle.simple_types.specs.declared.labels.ValueLabel.{ValueLabel}
use Rattle.simple_types.specs.declared.labels.ValueLabel.TheVariants as value
use Rattle.asn_types.specs.declared.marks.Instruction.{Instruction}
use Rattle.asn_types.specs.declared.modules.Assignment.{Assignment}
use Rattle.asn_types.specs.declared.types.Component.{Component}
use Rattle.asn_types.specs.declared.types.Form.{Form}
use Rattle.asn_types.specs.declared.types.Form.TheVariants as form
use Rattle.asn_types.specs.declared.types.TypeLabel.{TypeLabel}
use Rattle.asn_types.specs.Bounds.{IsBounded}
use Rattle.asn_types.specs.Modules.{AreWellFormed, IsModule}
use Rattle.asn_types.specs.Parts.{parts_of}
use Rattle.asn_types.specs.Refs.{resolve, IsOf}
use Rattle.asn_types.proofs.Chaining.{well-formed, has-four, have-parts, resolved-of-module}
use Rattle.asn_types.proofs.Inside.{form-well_formed}
use Rattle.asn_values.specs.Values.{ComponentPlace, places_in, below, FitsAt, OwnAt, IsTextOf, Kept}
use Rattle.base_codecs.specs.declared.spots.Spot.{Spot}
use Rattle.base_codecs.specs.Reading.{◌>>=◌, Writer, stop_if, with_spot, moved, entered_at}
use Rattle.base_codecs.specs.Codec.{most_nodes, Stands, Came, CodecBefore, Anything, Codec, Filling}
use Rattle.base_codecs.specs.Sequences.{alternative_at, AlternativeFits, alternative_write, EachCodec}
use Rattle.base_codecs.proofs.Codecs.{bind_ok, stop_ok, stop_not, ok_is, check_codec, tested_codec, other_words, other_reader, entered_codec, never_codec}
use Rattle.base_codecs.proofs.Sequences.{cond_ok, cond_true, cond_false, stands_long}
use Rattle.der_fields.specs.declared.stops.Stop.{Stop}
use Rattle.der_fields.specs.declared.stops.Why.TheVariants.{Short, NotUtf8, NotAValue}
use Rattle.der_fields.specs.Octets.{begins, length_octets, octets_of}
use Rattle.der_fields.specs.FieldsReading.{stop_at, AreOctets, Octets, sized_at, tagged_at, expected_at}
use Rattle.der_fields.proofs.Heads.{begins_all}
use Rattle.der_fields.proofs.Fields.{sized_codec, tagged_codec, expected_codec}
use Rattle.per_fields.specs.Levels.{levels_needed}
use Rattle.per_fields.specs.Nodes.{is_no_text, most_deep}
use Rattle.per_fields.specs.Owning.{owns, keeps}
use Rattle.per_fields.proofs.Levels.{EachKid, each_both, NeedsFewer, levels-some, kids-need}
use Rattle.per_fields.proofs.NodeLaws.{below_of}
use Rattle.per_fields.proofs.Recursion.{bounds_of}
use Rattle.per_fields.proofs.Owns.{owns_own, own_owns, keeps_kept, kept_keeps}
use Rattle.der_fields.specs.Encoding.{TaggedPlace, identifier, is_open, headed, wrapped, der}
use Rattle.der_fields.specs.Reading.{parts_from, unexpected, is_optional, starts, choice_at, contents_at, is_over, over, headed_at, owned_at, unkept_why, kept_at, part_at, node_at, node_read, root_at}
use Rattle.der_fields.proofs.Types.{of-tall, of-bounded, kids-of}
use Rattle.der_fields.proofs.Contents.{FitKid, kid_write, IsKnown, FitPlaces, Inner, inner_octets, inner_count, alt_back, pair_of, choice_codec, chosen_count, heads_from, each_codec, contents_codec}

-- what begins where it is read
module _ {A : Type 0} (Rest : List ℕ → Type 0) (V : A → Type 0) (w : A → ℕ) (write : A → Writer ℕ) (read : Spot → Octets A) where
  here_codec : ((b : Spot) → CodecBefore AreOctets Rest V w write (read b)) → CodecBefore AreOctets Rest V w write (λ X s. read s X s)
  here_codec one = record {
    again = λ X rest s a follows v few h. (one s).again X rest s a follows v few h;
    takes = λ X s x fine inside e. (one s).takes X s x fine inside e;
  }

-- WHAT A NODE ENTERS
not_over : (depth : ℕ) (s : Spot) → is_over depth s ≡ false → (depth ≤ 64) × (s.nodes < most_nodes)
not_over depth s e = let k = and_parts (leb depth most_deep) (ltb s.nodes most_nodes) (not-false (leb depth most_deep && ltb s.nodes most_nodes) e) in (leb-true depth 64 k.0, ltb-true s.nodes most_nodes k.1)

may_enter : (depth : ℕ) (s : Spot) → depth ≤ 64 → s.nodes < most_nodes → is_over depth s ≡ false
may_enter depth s deep few = ap not (and_from (leb depth most_deep) (ltb s.nodes most_nodes) (le-leb depth 64 deep) (lt-ltb s.nodes most_nodes few))

enters : (depth : ℕ) (read : Octets (Rose ValueLabel)) (X : List ℕ) (s : Spot) (x : Rose ValueLabel × Spot) → entered_at (is_over depth) (over depth) read X s ≡ Ok x → depth ≤ 64
unfolding entered_at
enters depth read X s x e = (not_over depth s (stop_ok (is_over depth s) (over depth s) _ x e).0).0

alts_never : (M : List Assignment) (read : TaggedPlace → Octets (Rose ValueLabel)) → ((q : TaggedPlace) (X : List ℕ) (s : Spot) (x : Rose ValueLabel × Spot) → read q X s ≡ Ok x → ⊥) → (ps : List TaggedPlace) (X : List ℕ) (s : Spot)
    (x : (ℕ × Rose ValueLabel) × Spot) → alternative_at (starts M) is_optional unexpected read ps X s ≡ Ok x → ⊥
unfolding alternative_at
alts_never M read nope [] X s x e = absurd cc
alts_never M read nope (p ∷ ps) X s x e =
    elim (cond_ok _ (read p X s >>= λ a. with_spot (0, a.0) a.1) (alternative_at (starts M) is_optional unexpected read ps X s >>= λ a. with_spot (suc a.0.0, a.0.1) a.1) x e) [
      | inl g ↦ (let a = bind_ok (read p X s) (λ a. with_spot (0, a.0) a.1) x g.1 in nope p X s a.0 a.1)
      | inr g ↦ (let a = bind_ok (alternative_at (starts M) is_optional unexpected read ps X s) (λ a. with_spot (suc a.0.0, a.0.1) a.1) x g.1 in alts_never M read nope ps X s a.0 a.1)
    ]

-- WHAT IS WRITTEN HAS OCTETS
length_some : (n : ℕ) → 0 < length (length_octets n)
length_some n = by (ltb n 128)
  where
    by : (b : Bool) → 0 < length (cond b (n ∷ []) ((128 + length (octets_of 256 n)) ∷ octets_of 256 n))
    by true = omega arith
    by false = omega arith

headed_some : (head octets : List ℕ) → 0 < length (headed head octets)
headed_some head octets = omega (arith, length-append head (length_octets (length octets) ++ octets), length-append (length_octets (length octets)) octets, length_some (length octets))

-- a CHOICE alone is open
open_is : (tag : Option ℕ) (f : Form) → is_open tag f ≡ true → (parts : List Component) × (f ≡ form.Choice parts)
open_is None (form.Choice parts) e = (parts, refl)
open_is (Some i) f e = absurd cc
open_is None form.Bool e = absurd cc
open_is None (form.Int least greatest) e = absurd cc
open_is None (form.Numbers numbers) e = absurd cc
open_is None (form.Words identifiers words) e = absurd cc
open_is None (form.Order identifiers) e = absurd cc
open_is None (form.Utf8 least most class) e = absurd cc
open_is None (form.Sequence parts) e = absurd cc
open_is None (form.SequenceOf part least most) e = absurd cc
open_is None (form.Ref to) e = absurd cc

-- a text that keeps the rule of its node is UTF-8
text_kept : (M : List Assignment) (depth : ℕ) (kid : TaggedPlace → Octets (Rose ValueLabel)) (l : TypeLabel) (ts : List (Rose TypeLabel)) (f : Form) (marks : List Instruction) (v : ValueLabel) (n : ℕ) (vs : Roses ValueLabel)
    → FitPlaces M depth kid (places_in l ts f v n) vs → IsTextOf f marks v → is_no_text v ≡ false
text_kept M depth kid l ts (form.Utf8 least most class) marks (value.Utf8 text) n vs h own = ap not (is_utf8-from_IsUtf8 text own.0)
text_kept M depth kid l ts f marks (value.Utf8 text) n vs h own = absurd h
text_kept M depth kid l ts f marks v n vs h own = refl

module _ (M : List Assignment) where
  closed_some : (tag : Option ℕ) (t : Rose TypeLabel) (v : Rose ValueLabel) → is_open tag (label_of (resolve M t)).form ≡ false → 0 < length (der M tag t v)
  unfolding der
  closed_some tag t (node l vs) e = subst (λ (m : List ℕ). 0 < length m) (sym (cond_false (is_open tag (label_of (resolve M t)).form) _ _ e)) (headed_some (identifier tag (label_of (resolve M t)).form) _)

  module _ (depth : ℕ) (kid : TaggedPlace → Octets (Rose ValueLabel)) where
    alt_some : (l : TypeLabel) (i j : ℕ) (parts : List Component) (ts : List (Rose TypeLabel)) (a : Rose ValueLabel) (n : ℕ) → AlternativeFits (FitKid M depth kid) (parts_from l i parts ts) j a
        → 0 < length (alternative_write (kid_write M depth kid) (parts_from l i parts ts) j a n)
    alt_some l i j [] ts a n h = absurd h
    alt_some l i j (c ∷ cs) [] a n h = absurd h
    alt_some l i zero (c ∷ cs) (t ∷ ts) a n h = closed_some (Some i) t a refl
    alt_some l i (suc j) (c ∷ cs) (t ∷ ts) a n h = alt_some l (i + 1) j cs ts a n h

    choice_some : (l : TypeLabel) (ts : List (Rose TypeLabel)) (parts : List Component) (v : Rose ValueLabel) → Inner M depth kid l ts (form.Choice parts) v → 0 < length (inner_octets M depth kid l ts (form.Choice parts) v)
    choice_some l ts parts (node (value.Choice i) vs) h =
        let k = alt_back M depth kid l 0 i i parts ts vs (omega arith) h in subst (λ (m : List ℕ). 0 < length m) (sym (k.octets 0)) (alt_some l 0 i parts ts k.only 0 k.fits)
    choice_some l ts parts (node m vs) h = absurd h

    -- THE PARTS OF WHAT FITS
    abbrev pub In : Rose TypeLabel → Rose ValueLabel → Type 0
    In u v = Inner M depth kid (label_of u) (kids_of u) (label_of u).form v

    abbrev pub octets_in : Rose TypeLabel → Rose ValueLabel → List ℕ
    octets_in u v = inner_octets M depth kid (label_of u) (kids_of u) (label_of u).form v

    fit_parts : (t : Rose TypeLabel) (v : Rose ValueLabel) → FitsAt M depth t v → (depth ≤ 64) × In (resolve M t) v × (is_no_text (label_of v) ≡ false) × OwnAt M (label_of (resolve M t)) (resolve M t) v
    unfolding FitsAt
    fit_parts t (node l vs) h =
        (h.0, h.1, text_kept M depth kid (label_of (resolve M t)) (kids_of (resolve M t)) (label_of (resolve M t)).form (label_of (resolve M t)).marks l (length_all vs) vs h.1 h.2.0, h.2)

    parts_fit : (t : Rose TypeLabel) (v : Rose ValueLabel) → depth ≤ 64 → In (resolve M t) v → OwnAt M (label_of (resolve M t)) (resolve M t) v → FitsAt M depth t v
    unfolding FitsAt
    parts_fit t (node l vs) a b c = (a, b, c)

    pub der_is : (tag : Option ℕ) (t : Rose TypeLabel) (v : Rose ValueLabel) → der M tag t v ≡ wrapped tag (label_of (resolve M t)).form (octets_in (resolve M t) v)
    unfolding der
    der_is tag t (node l vs) = refl

    pub count_is : (v : Rose ValueLabel) → node_count v ≡ suc (count_all (below_of v))
    count_is (node l vs) = refl

    pub fit_some : (tag : Option ℕ) (t : Rose TypeLabel) (v : Rose ValueLabel) → FitsAt M depth t v → 0 < length (der M tag t v)
    fit_some tag t v h = by (is_open tag (label_of (resolve M t)).form) refl
      where
        by : (b : Bool) → is_open tag (label_of (resolve M t)).form ≡ b → 0 < length (der M tag t v)
        by false e = closed_some tag t v e
        by true e =
            let u = resolve M t in
            let c = open_is tag (label_of u).form e in
            let inner : Inner M depth kid (label_of u) (kids_of u) (form.Choice c.0) v = subst (λ f. Inner M depth kid (label_of u) (kids_of u) f v) c.1 (fit_parts t v h).1 in
            let same : der M tag t v ≡ inner_octets M depth kid (label_of u) (kids_of u) (form.Choice c.0) v =
            der_is tag t v ∙ cond_true (is_open tag (label_of u).form) (octets_in u v) _ e ∙ ap (λ f. inner_octets M depth kid (label_of u) (kids_of u) f v) c.1 in
            subst (λ (m : List ℕ). 0 < length m) (sym same) (choice_some (label_of u) (kids_of u) c.0 v inner)

    -- ONE NODE, where its kids are read
    module _ (deep : depth ≤ 64) (u : Rose TypeLabel) where
      abbrev weight : Rose ValueLabel → ℕ
      weight v = suc (inner_count M depth kid v)

      -- with an identifier
      abbrev closed_reader : Option ℕ → Octets (Rose ValueLabel)
      closed_reader tag X s =
          expected_at (identifier tag (label_of u).form) (entered_at (is_over depth) (over depth) (tagged_at (identifier tag (label_of u).form) (sized_at (contents_at M kid s.at (label_of u) (kids_of u) (label_of u).form)))) X s

      closed_codec : (tag : Option ℕ) → ((begin : ℕ) → Filling AreOctets (In u) (inner_count M depth kid) (λ v n. octets_in u v) (contents_at M kid begin (label_of u) (kids_of u) (label_of u).form))
          → Codec AreOctets (In u) weight (λ v n. headed (identifier tag (label_of u).form) (octets_in u v)) (closed_reader tag)
      closed_codec tag inner =
          here_codec Anything (In u) weight (λ v n. headed (identifier tag (label_of u).form) (octets_in u v))
          (λ b X s. expected_at (identifier tag (label_of u).form) (entered_at (is_over depth) (over depth) (tagged_at (identifier tag (label_of u).form) (sized_at (contents_at M kid b.at (label_of u) (kids_of u) (label_of u).form)))) X s)
          (λ b.
          let head = identifier tag (label_of u).form in
          let read = contents_at M kid b.at (label_of u) (kids_of u) (label_of u).form in
          let sized = sized_codec (In u) (inner_count M depth kid) (octets_in u) read (inner b.at) in
          let behind = tagged_codec Anything (In u) (inner_count M depth kid) (λ v. length_octets (length (octets_in u v)) ++ octets_in u v) head (sized_at read) sized in
          let entered = entered_codec AreOctets Anything (In u) (inner_count M depth kid) (λ v n. headed head (octets_in u v)) (tagged_at head (sized_at read)) (is_over depth) (over depth) behind
          (λ s few. may_enter depth s deep few) (λ s e. (not_over depth s e).1) in
          expected_codec Anything (In u) weight (λ v n. headed head (octets_in u v)) head (entered_at (is_over depth) (over depth) (tagged_at head (sized_at read))) entered
          (λ v n rest h. ap (begins head) (append_assoc head (length_octets (length (octets_in u v)) ++ octets_in u v) rest) ∙ begins_all head ((length_octets (length (octets_in u v)) ++ octets_in u v) ++ rest)))

      -- a CHOICE without a tag
      entered_each : (ps : List TaggedPlace) → EachCodec AreOctets Anything (FitKid M depth kid) node_count (kid_write M depth kid) kid ps
          → EachCodec AreOctets Anything (FitKid M depth kid) (λ v. suc (node_count v)) (kid_write M depth kid) (λ q. entered_at (is_over depth) (over depth) (kid q)) ps
      entered_each [] h = tt
      entered_each (q ∷ qs) h =
          (entered_codec AreOctets Anything (FitKid M depth kid q) node_count (kid_write M depth kid q) (kid q) (is_over depth) (over depth) h.0 (λ s few. may_enter depth s deep few) (λ s e. (not_over depth s e).1), entered_each qs h.1)

      abbrev open_reader : Octets (Rose ValueLabel)
      open_reader X s = choice_at M (λ q. entered_at (is_over depth) (over depth) (kid q)) (label_of u) (kids_of u) (parts_of (label_of u).form) X s

      open_codec : (parts : List Component) → (label_of u).form ≡ form.Choice parts → EachKid (IsKnown M depth kid) (label_of u) 0 (parts_of (label_of u).form) (kids_of u) → Codec AreOctets (In u) weight (λ v n. octets_in u v) open_reader
      open_codec parts is known =
          let l = label_of u in
          let ts = kids_of u in
          let each = subst (λ f. EachKid (IsKnown M depth kid) l 0 (parts_of f) ts) is known in
          let one = choice_codec M depth kid l ts parts Anything (λ v. suc (node_count v)) (λ q. entered_at (is_over depth) (over depth) (kid q)) (entered_each (parts_from l 0 parts ts) (each_codec M depth kid l 0 parts ts each)) (heads_from M depth kid l 0 parts ts) in
          other_reader AreOctets Anything (In u) weight (λ v n. octets_in u v) (choice_at M (λ q. entered_at (is_over depth) (over depth) (kid q)) l ts parts) open_reader
          (other_words AreOctets Anything (Inner M depth kid l ts (form.Choice parts)) (In u) (λ v. suc (node_count (pair_of M depth kid v).1)) weight (λ v n. inner_octets M depth kid l ts (form.Choice parts) v) (λ v n. octets_in u v)
          (choice_at M (λ q. entered_at (is_over depth) (over depth) (kid q)) l ts parts) one
          (λ v h.
          let g = subst (λ f. Inner M depth kid l ts f v) is h in
          (g, ap suc (chosen_count M depth kid l ts parts v g), λ n. ap (λ f. inner_octets M depth kid l ts f v) is))
          (λ v h. subst (λ f. Inner M depth kid l ts f v) (sym is) h))
          (λ X s. ap (λ f. choice_at M (λ q. entered_at (is_over depth) (over depth) (kid q)) l ts (parts_of f) X s) is)

      pub headed_codec : (tag : Option ℕ) → ((begin : ℕ) → Filling AreOctets (In u) (inner_count M depth kid) (λ v n. octets_in u v) (contents_at M kid begin (label_of u) (kids_of u) (label_of u).form))
          → EachKid (IsKnown M depth kid) (label_of u) 0 (parts_of (label_of u).form) (kids_of u)
          → Codec AreOctets (In u) weight (λ v n. wrapped tag (label_of u).form (octets_in u v)) (headed_at M kid depth tag (label_of u) (kids_of u))
      unfolding headed_at
      headed_codec tag inner known = by (is_open tag (label_of u).form) refl
        where
          reader : Octets (Rose ValueLabel)
          reader X s = cond (is_open tag (label_of u).form) (open_reader X s) (closed_reader tag X s)

          by : (b : Bool) → is_open tag (label_of u).form ≡ b → Codec AreOctets (In u) weight (λ v n. wrapped tag (label_of u).form (octets_in u v)) reader
          by true e =
              let c = open_is tag (label_of u).form e in
              other_reader AreOctets Anything (In u) weight (λ v n. wrapped tag (label_of u).form (octets_in u v)) open_reader reader
              (other_words AreOctets Anything (In u) (In u) weight weight (λ v n. octets_in u v) (λ v n. wrapped tag (label_of u).form (octets_in u v)) open_reader (open_codec c.0 c.1 known)
              (λ v h. (h, refl, λ n. cond_true (is_open tag (label_of u).form) (octets_in u v) (headed (identifier tag (label_of u).form) (octets_in u v)) e)) (λ v h. h))
              (λ X s. cond_true (is_open tag (label_of u).form) (open_reader X s) (closed_reader tag X s) e)
          by false e =
              other_reader AreOctets Anything (In u) weight (λ v n. wrapped tag (label_of u).form (octets_in u v)) (closed_reader tag) reader
              (other_words AreOctets Anything (In u) (In u) weight weight (λ v n. headed (identifier tag (label_of u).form) (octets_in u v)) (λ v n. wrapped tag (label_of u).form (octets_in u v)) (closed_reader tag) (closed_codec tag inner)
              (λ v h. (h, refl, λ n. cond_false (is_open tag (label_of u).form) (octets_in u v) (headed (identifier tag (label_of u).form) (octets_in u v)) e)) (λ v h. h))
              (λ X s. cond_false (is_open tag (label_of u).form) (open_reader X s) (closed_reader tag X s) e)

    -- the rule of the node, behind its contents
    owned_codec : (deep : depth ≤ 64) (tag : Option ℕ) (t : Rose TypeLabel) → AreWellFormed M (resolve M t) → (read : Octets (Rose ValueLabel))
        → Codec AreOctets (In (resolve M t)) (λ v. suc (inner_count M depth kid v)) (λ v n. wrapped tag (label_of (resolve M t)).form (octets_in (resolve M t) v)) read
        → Codec AreOctets (FitsAt M depth t) node_count (λ v n. der M tag t v) (λ X s. read X s >>= owned_at M s.at (resolve M t))
    unfolding owned_at
    owned_codec deep tag t formed read one =
        other_words AreOctets Anything (FitsAt M depth t) (FitsAt M depth t) (λ v. suc (inner_count M depth kid v)) node_count (λ v n. wrapped tag (label_of (resolve M t)).form (octets_in (resolve M t) v)) (λ v n. der M tag t v)
        (λ X s. read X s >>= owned_at M s.at (resolve M t))
        (check_codec AreOctets Anything (In (resolve M t)) (λ v. suc (inner_count M depth kid v)) (λ v n. wrapped tag (label_of (resolve M t)).form (octets_in (resolve M t) v)) read (FitsAt M depth t) (λ v. v) (λ s. owned_at M s.at (resolve M t)) one
        (λ s r v h.
        let k = fit_parts t v h in (
          k.1,
          stop_not (is_no_text (label_of v)) (stop_at s.at NotUtf8) (stop_if (not (owns M (resolve M t) v)) (stop_at s.at NotAValue) (Ok (v, r))) k.2
              ∙ stop_not (not (owns M (resolve M t) v)) (stop_at s.at NotAValue) (Ok (v, r)) (ap not (own_owns M (resolve M t) v k.3)),
        ))
        (λ s x y h e.
        let a = stop_ok (is_no_text (label_of x.0)) (stop_at s.at NotUtf8) (stop_if (not (owns M (resolve M t) x.0)) (stop_at s.at NotAValue) (Ok x)) y e in
        let b = stop_ok (not (owns M (resolve M t) x.0)) (stop_at s.at NotAValue) (Ok x) y a.1 in
        subst (λ (z : Rose ValueLabel × Spot). FitsAt M depth t z.0 × (z.0 ≡ x.0) × (z.1 ≡ x.1)) (ok_is {S = Stop} x y b.1)
        (parts_fit t x.0 deep h (owns_own M (resolve M t) x.0 formed (not-false (owns M (resolve M t) x.0) b.0)), refl, refl)))
        (λ v h. (h, count_is v, λ n. der_is tag t v))
        (λ v h. h)

-- a part: its node, whose value keeps what its default or fixed value says
pub part_codec : (M : List Assignment) (p : ComponentPlace) (depth : ℕ) (tag : Option ℕ) (read : Octets (Rose ValueLabel)) → Codec AreOctets (FitsAt M depth p.type) node_count (λ v n. der M tag p.type v) read
    → Codec AreOctets (λ v. FitsAt M depth p.type v × Kept M p.part p.type v) node_count (λ v n. der M tag p.type v) (part_at M p read)
unfolding kept_at
part_codec M p depth tag read one =
    other_words AreOctets Anything (λ v. FitsAt M depth p.type v × (not (keeps M p.part p.type v) ≡ false)) (λ v. FitsAt M depth p.type v × Kept M p.part p.type v) node_count node_count (λ v n. der M tag p.type v) (λ v n. der M tag p.type v) (part_at M p read)
    (tested_codec AreOctets Anything (FitsAt M depth p.type) node_count (λ v n. der M tag p.type v) read (λ v. not (keeps M p.part p.type v)) (λ s v. stop_at s.at (unkept_why M p.part p.type v.0)) one)
    (λ v h. ((h.0, ap not (kept_keeps M p.part p.type v h.1)), refl, λ q. refl))
    (λ v h. (h.0, keeps_kept M p.part p.type v (not-false (keeps M p.part p.type v) h.1)))

-- too many elements stand in one another
pub too_deep : (M : List Assignment) (kid : TaggedPlace → Octets (Rose ValueLabel)) (depth : ℕ) (tag : Option ℕ) (l : TypeLabel) (ts : List (Rose TypeLabel)) → 64 < depth → (X : List ℕ) (s : Spot) (x : Rose ValueLabel × Spot)
    → headed_at M kid depth tag l ts X s ≡ Ok x → ⊥
unfolding headed_at choice_at expected_at
too_deep M kid depth tag l ts past X s x e = elim (cond_ok (is_open tag l.form) _ _ x e) [
  | inl g ↦ (
      let a = bind_ok _ _ x g.1 in
      alts_never M (λ q. entered_at (is_over depth) (over depth) (kid q)) (λ q X s x e. omega (arith, past, enters depth (kid q) X s x e)) (parts_from l 0 (parts_of l.form) ts) X s a.0 a.1)
  | inr g ↦ omega (arith, past, enters depth _ X s x (stop_ok _ _ _ x g.1).1)
]

module _ (M : List Assignment) (is : IsModule M) (bounded : IsBounded M) where
  pub node_codec : (levels depth : ℕ) (tag : Option ℕ) (t : Rose TypeLabel) → IsOf M t → (depth ≤ 64 → levels_needed M depth t ≤ levels) → Codec AreOctets (FitsAt M depth t) node_count (λ v n. der M tag t v) (node_at M levels depth tag t)
  unfolding node_at
  node_codec zero depth tag t of enough =
      never_codec AreOctets Anything (FitsAt M depth t) node_count (λ v n. der M tag t v) (node_at M zero depth tag t)
      (λ v h. let k = enough (fit_parts M depth (λ p X s. Err (stop_at s.at Short)) t v h).0 in absurd (omega (arith, k, levels-some M 4 t))) (λ X s x e. absurd cc)
  node_codec (suc levels) depth tag t of enough = at_depth (cases_lt 64 depth) (node_codec levels)
    where
      kid : TaggedPlace → Octets (Rose ValueLabel)
      kid p = part_at M p.place (node_at M levels (below p.place.role depth) p.tag p.place.type)

      at_depth : (64 < depth) ⊎ (depth ≤ 64)
          → ((depth : ℕ) (tag : Option ℕ) (t : Rose TypeLabel) → IsOf M t → (depth ≤ 64 → levels_needed M depth t ≤ levels) → Codec AreOctets (FitsAt M depth t) node_count (λ v n. der M tag t v) (node_at M levels depth tag t))
          → Codec AreOctets (FitsAt M depth t) node_count (λ v n. der M tag t v) (node_at M (suc levels) depth tag t)
      at_depth (inl past) further =
          never_codec AreOctets Anything (FitsAt M depth t) node_count (λ v n. der M tag t v) (node_at M (suc levels) depth tag t) (λ v h. absurd (omega (arith, past, (fit_parts M depth kid t v h).0)))
          (λ X s x e. let a = bind_ok _ _ x e in too_deep M kid depth tag (label_of (resolve M t)) (kids_of (resolve M t)) past X s a.0 a.1)
      at_depth (inr deep) further =
          let u = resolve M t in
          let of_u : IsOf M u = resolved-of-module M t of in
          let formed : AreWellFormed M u = well-formed M u is of_u in
          let known : EachKid (IsKnown M depth kid) (label_of u) 0 (parts_of (label_of u).form) (kids_of u) =
          each_both (λ p. IsOf M p.type) (NeedsFewer M depth t) (IsKnown M depth kid)
          (λ p of_p need tag. (
            part_codec M p (below p.role depth) tag (node_at M levels (below p.role depth) tag p.type) (further (below p.role depth) tag p.type of_p (λ d. omega (arith, need.1, enough deep))),
            λ v n h. fit_some M (below p.role depth) kid tag p.type v h.0,
          ))
          (label_of u) 0 (parts_of (label_of u).form) (kids_of u) (kids-of M u of_u) (kids-need M depth t deep (has-four M t (well-formed M t is of)) (of-tall M t of)) in
          let inner : (begin : ℕ) → Filling AreOctets (In M depth kid u) (inner_count M depth kid) (λ v n. octets_in M depth kid u v) (contents_at M kid begin (label_of u) (kids_of u) (label_of u).form) =
          λ begin. contents_codec M depth kid begin (label_of u) (kids_of u) (label_of u).form (form-well_formed M u formed) (bounds_of u (of-bounded M u of_u bounded)) (have-parts M u is of_u) known in
          owned_codec M depth kid deep tag t formed (headed_at M kid depth tag (label_of u) (kids_of u)) (headed_codec M depth kid deep u tag inner known)

  pub read_codec : (depth : ℕ) (tag : Option ℕ) (t : Rose TypeLabel) → IsOf M t → Codec AreOctets (FitsAt M depth t) node_count (λ v n. der M tag t v) (node_read M depth tag t)
  read_codec depth tag t of = node_codec (levels_needed M depth t) depth tag t of (λ deep. omega arith)

  -- the root, which isn't at the end
  pub root_codec : (t : Rose TypeLabel) → IsOf M t → Codec AreOctets (FitsAt M 1 t) node_count (λ v n. der M None t v) (root_at M t)
  unfolding root_at
  root_codec t of = record { again = again; takes = takes }
    where
      one : Codec AreOctets (FitsAt M 1 t) node_count (λ v n. der M None t v) (node_read M 1 None t)
      one = read_codec 1 None t of

      again : (X rest : List ℕ) (s : Spot) (v : Rose ValueLabel) → Unit {0} → FitsAt M 1 t v → s.nodes + node_count v ≤ most_nodes → Stands X s.at (der M None t v) rest
          → cond (ltb s.at (length X)) (node_read M 1 None t X s) (Err (stop_at s.at Short)) ≡ Ok (v, moved s (length (der M None t v)) (node_count v))
      again X rest s v any f few h =
          cond_true (ltb s.at (length X)) (node_read M 1 None t X s) (Err (stop_at s.at Short))
          (lt-ltb s.at (length X) (omega (arith, stands_long X (der M None t v) rest s.at h, fit_some M 1 (λ p X s. Err (stop_at s.at Short)) None t v f)))
          ∙ one.again X rest s v tt f few h

      takes : (X : List ℕ) (s : Spot) (x : Rose ValueLabel × Spot) → AreOctets X → s.at ≤ length X → cond (ltb s.at (length X)) (node_read M 1 None t X s) (Err (stop_at s.at Short)) ≡ Ok x
          → Came X s x.1 (der M None t x.0) (node_count x.0) × FitsAt M 1 t x.0 × Unit {0}
      takes X s x fine inside e = elim (cond_ok (ltb s.at (length X)) (node_read M 1 None t X s) (Err (stop_at s.at Short)) x e) [
        | inl g ↦ one.takes X s x fine inside g.1
        | inr g ↦ absurd (let f = g.1 in cc f)
      ]
