-- A node, by what comes before its fields, its fields, and its rules.
use Rattle.std.proofs.Common.{◌≡◌, ℕ, ◌+◌, ◌*◌, ◌<◌, ◌≤◌, Bool, true, false, not, ltb, List, length, refl, sym, ap, ◌∙◌, subst, arith, Option, None, Result, Ok, Err, inl, inr, ◌⊎◌}
use Rattle.std.specs.Prelude.{IfOk, IfErr}
use Rattle.std.proofs.lemmas.Bool.{lt-ltb, le-ltb, lt-leb, le-leb}
use Rattle.base_trees.specs.Rose.{Rose, label_of, kids_of, node, none}
use Rattle.simple_types.specs.declared.labels.ValueLabel.{ValueLabel}
use Rattle.simple_types.specs.declared.labels.ValueLabel.TheVariants as value
use Rattle.asn_types.specs.declared.modules.Assignment.{Assignment}
use Rattle.asn_types.specs.declared.types.Form.TheVariants as form
use Rattle.asn_types.specs.declared.types.TypeLabel.{TypeLabel}
use Rattle.asn_types.specs.Modules.{AreWellFormed}
use Rattle.asn_types.specs.Refs.{resolve, IsOf}
use Rattle.asn_values.specs.Values.{Own}
use Rattle.asn_types.proofs.Chaining.{well-formed, resolved-of-module}
use Rattle.base_codecs.specs.declared.spots.Spot.{Spot}
use Rattle.per_fields.specs.declared.stops.Stop.{Stop}
use Rattle.per_fields.specs.declared.stops.Why.TheVariants as why
use Rattle.per_fields.specs.Reading.{◌>>=◌, stop_at, stop_if, octets_at}
use Rattle.per_fields.specs.Fields.{counted_at}
use Rattle.per_fields.specs.Nodes.{text_at, content_at, is_no_text, entered_at, enter_by, owned_at, node_read}
use Rattle.per_fields.specs.Owning.{owns}
use Rattle.per_fields.proofs.Owns.{owns_own, own_owns}
use Rattle.per_fields.proofs.Unfolding.{node_recursion}
use Rattle.per_decode.specs.declared.faults.PerEnd.{PerEnd}
use Rattle.per_decode.specs.declared.faults.PerEnd.TheVariants as fault
use Rattle.per_decode.specs.Private.Giving.{Halt, stopped, halt_of, spot, end_of, FailsAt, Shows, Gives, input}
use Rattle.per_decode.specs.Private.Bodies.{IsKnown, kid_at, fields_at, body_at, octets_kept, kept_by}
use Rattle.per_decode.proofs.Ends.{SteadyReader, fails_first}
use Rattle.per_decode.proofs.EndNodes.{sits-kid, sits-content, sits-owned}
use Rattle.per_decode.proofs.Types.{of-tall}

module _ (M : List Assignment) (known : IsKnown M) (t : Rose TypeLabel) (of : IsOf M t) where
  wf : AreWellFormed M t
  wf = well-formed M t known.0 of

  wfr : AreWellFormed M (resolve M t)
  wfr = well-formed M (resolve M t) known.0 (resolved-of-module M t of)

  -- THE RULES of a value
  module _ (begin : ℕ) (v : Rose ValueLabel) (r : Spot) (text : is_no_text (label_of v) ≡ false) where
    owned-is : owned_at M begin (resolve M t) (v, r) ≡ stop_if (not (owns M (resolve M t) v)) (stop_at begin why.NotAValue r.at) (Ok (v, r))
    unfolding owned_at
    owned-is = ap (λ b. stop_if b (stop_at begin why.NotUtf8 r.at) (stop_if (not (owns M (resolve M t) v)) (stop_at begin why.NotAValue r.at) (Ok (v, r)))) text

    pub owned-own : Own M t v → owned_at M begin (resolve M t) (v, r) ≡ Ok (v, r)
    owned-own own = owned-is ∙ ap (λ b. stop_if (not b) (stop_at begin why.NotAValue r.at) (Ok (v, r))) (own_owns M (resolve M t) v own)

    pub owned-not : (Own M t v → ⊥) → owned_at M begin (resolve M t) (v, r) ≡ Err (stop_at begin why.NotAValue r.at)
    owned-not wrong = owned-is ∙ by (owns M (resolve M t) v) (λ e. wrong (owns_own M (resolve M t) v wfr e))
      where
        by : (b : Bool) → (b ≡ true → ⊥) → stop_if {A = Rose ValueLabel × Spot} (not b) (stop_at begin why.NotAValue r.at) (Ok (v, r)) ≡ Err (stop_at begin why.NotAValue r.at)
        by true k = absurd (k refl)
        by false k = refl

    owned-end : r.at ≤ end_of (owned_at M begin (resolve M t) (v, r))
    owned-end = by (owns M (resolve M t) v) owned-is
      where
        by : (b : Bool) → owned_at M begin (resolve M t) (v, r) ≡ stop_if (not b) (stop_at begin why.NotAValue r.at) (Ok (v, r)) → r.at ≤ end_of (owned_at M begin (resolve M t) (v, r))
        by true e = omega (arith, ap end_of e)
        by false e = omega (arith, ap end_of e)

    -- what they say, where octets were taken up to its end
    pub owned_shows : {A : Type 0} (limit : ℕ) (whole : List ℕ) (stop : Stop) (taken : ℕ) (w : Rose ValueLabel) (answer : Result A PerEnd)
        → 8 * taken ≤ r.at + 7 → IfOk answer (λ _. w ≡ v) → IfOk answer (λ _. Own M t v)
        → IfErr answer (λ e. (e ≡ fault.Memory) ⊎ ((e ≡ fault.Stopped) × (stop ≡ stop_at begin why.NotAValue r.at) × (Own M t v → ⊥)))
        → Shows limit whole (λ _. w) answer r stop taken (owned_at M begin (resolve M t) (v, r))
    owned_shows limit whole stop taken w (Ok x) step is own err = owned-own own ∙ ap (λ w. Ok (w, r)) (sym is)
    owned_shows limit whole stop taken w (Err e) step is own err = by err
      where
        by : (e ≡ fault.Memory) ⊎ ((e ≡ fault.Stopped) × (stop ≡ stop_at begin why.NotAValue r.at) × (Own M t v → ⊥)) → FailsAt limit whole (halt_of e stop) taken (owned_at M begin (resolve M t) (v, r))
        by (inl m) = subst (λ f. FailsAt limit whole (halt_of f stop) taken (owned_at M begin (resolve M t) (v, r))) (sym m) (omega (arith, owned-end, step))
        by (inr n) =
            subst (λ f. FailsAt limit whole (halt_of f stop) taken (owned_at M begin (resolve M t) (v, r))) (sym n.0)
            (subst (λ u. FailsAt limit whole (stopped u) taken (owned_at M begin (resolve M t) (v, r))) (sym n.1) (owned-not n.2, step, refl))

module _ (aligned : Bool) (M : List Assignment) (known : IsKnown M) (depth : ℕ) (t : Rose TypeLabel) (of : IsOf M t) where
  -- BEFORE THE FIELDS
  module _ (X : List Bool) (s : Spot) where
    node-is : node_read aligned M depth t X s ≡ entered_at depth s (λ r. body_at aligned M depth s.at (resolve M t) X r)
    node-is = node_recursion aligned M known.0 depth t (wf M known t of) (of-tall M t of) X s

    pub node-deep : 64 < depth → node_read aligned M depth t X s ≡ Err (stop_at s.at why.TooDeep s.at)
    unfolding entered_at
    node-deep over = node-is ∙ ap (λ b. enter_by b (ltb s.nodes 1048576) s (λ r. body_at aligned M depth s.at (resolve M t) X r)) (lt-leb depth 64 over)

    -- not too deep
    pub node-shallow : depth ≤ 64 → node_read aligned M depth t X s ≡ enter_by true (ltb s.nodes 1048576) s (λ r. body_at aligned M depth s.at (resolve M t) X r)
    unfolding entered_at
    node-shallow shallow = node-is ∙ ap (λ b. enter_by b (ltb s.nodes 1048576) s (λ r. body_at aligned M depth s.at (resolve M t) X r)) (le-leb depth 64 shallow)

    pub node-many : depth ≤ 64 → 1048576 ≤ s.nodes → node_read aligned M depth t X s ≡ Err (stop_at s.at why.TooMany s.at)
    node-many shallow many = node-shallow shallow ∙ ap (λ b. enter_by true b s (λ r. body_at aligned M depth s.at (resolve M t) X r)) (le-ltb s.nodes 1048576 many)

    pub node-goes : depth ≤ 64 → s.nodes < 1048576 → node_read aligned M depth t X s ≡ body_at aligned M depth s.at (resolve M t) X (spot s.at (s.nodes + 1))
    node-goes shallow few =
        let e : s.at + 0 ≡ s.at = omega arith in
        node-shallow shallow
        ∙ ap (λ b. enter_by true b s (λ r. body_at aligned M depth s.at (resolve M t) X r)) (lt-ltb s.nodes 1048576 few)
        ∙ ap (λ p. body_at aligned M depth s.at (resolve M t) X (spot p (s.nodes + 1))) e

  -- ITS FIELDS AND RULES
  sits-fields : SteadyReader (fields_at aligned M depth (resolve M t))
  sits-fields X s h = sits-content (kid_at aligned M depth) (sits-kid aligned M depth) aligned (label_of (resolve M t)) (kids_of (resolve M t)) (label_of (resolve M t)).form X s h

  module _ (begin : ℕ) (X : List Bool) (s : Spot) where
    pub fields_fail : (limit : ℕ) (whole : List ℕ) (e : Halt) (taken : ℕ) → s.at ≤ length X → FailsAt limit whole e taken (fields_at aligned M depth (resolve M t) X s) → FailsAt limit whole e taken (body_at aligned M depth begin (resolve M t) X s)
    fields_fail limit whole e taken inside h =
        fails_first limit whole e taken X (fields_at aligned M depth (resolve M t) X s) (λ v. owned_at M begin (resolve M t) v) (sits-fields X s inside).inside (λ v i. sits-owned M begin (resolve M t) X v i) h

    -- a text
    text-is : (least : ℕ) (most : Option ℕ) (class : _) → (label_of (resolve M t)).form ≡ form.Utf8 least most class → fields_at aligned M depth (resolve M t) X s ≡ text_at aligned X s
    unfolding content_at
    text-is least most class e = rw e refl

    pub text-body : (least : ℕ) (most : Option ℕ) (class : _) → (label_of (resolve M t)).form ≡ form.Utf8 least most class → body_at aligned M depth begin (resolve M t) X s ≡ kept_by M begin (resolve M t) (counted_at aligned 0 None octets_at) X s
    unfolding text_at
    text-body least most class e = ap (λ r. r >>= λ v. owned_at M begin (resolve M t) v) (text-is least most class e) ∙ by (counted_at aligned 0 None octets_at X s)
      where
        by : (r : Result (List ℕ × Spot) Stop) → ((r >>= λ x. Ok (node (value.Utf8 x.0) none, x.1)) >>= λ v. owned_at M begin (resolve M t) v) ≡ (r >>= octets_kept M begin (resolve M t))
        by (Ok x) = refl
        by (Err e) = refl

  -- what the rules say of a value that was read, where octets were taken up to its end
  pub body_gives : {A : Type 0} (begin : ℕ) (s : Spot) (v : Rose ValueLabel) (r : Spot) (limit : ℕ) (whole : List ℕ) (stop : Stop) (taken : ℕ) (w : Rose ValueLabel) (answer : Result A PerEnd)
      → fields_at aligned M depth (resolve M t) (input limit whole) s ≡ Ok (v, r) → is_no_text (label_of v) ≡ false → 8 * taken ≤ r.at + 7
      → IfOk answer (λ _. w ≡ v) → IfOk answer (λ _. Own M t v)
      → IfErr answer (λ e. (e ≡ fault.Memory) ⊎ ((e ≡ fault.Stopped) × (stop ≡ stop_at begin why.NotAValue r.at) × (Own M t v → ⊥)))
      → Gives limit whole (λ _. w) answer r stop taken (body_at aligned M depth begin (resolve M t)) s
  body_gives begin s v r limit whole stop taken w answer read text step is own err =
      subst (Shows limit whole (λ _. w) answer r stop taken) (sym (ap (λ x. x >>= λ v. owned_at M begin (resolve M t) v) read))
      (owned_shows M known t of begin v r text limit whole stop taken w answer step is own err)

  -- where every value keeps the rules, the fields are all
  pub body_plain : {A : Type 0} (begin : ℕ) (s : Spot) (r : Spot) (limit : ℕ) (whole : List ℕ) (stop : Stop) (taken : ℕ) (w : Rose ValueLabel) (answer : Result A PerEnd)
      → s.at ≤ length (input limit whole) → ((v : Rose ValueLabel) → Own M t v) → IfOk answer (λ _. is_no_text (label_of w) ≡ false)
      → Gives limit whole (λ _. w) answer r stop taken (fields_at aligned M depth (resolve M t)) s → Gives limit whole (λ _. w) answer r stop taken (body_at aligned M depth begin (resolve M t)) s
  body_plain begin s r limit whole stop taken w (Ok x) inside own text read = ap (λ x. x >>= λ v. owned_at M begin (resolve M t) v) read ∙ owned-own M known t of begin w r text (own w)
  body_plain begin s r limit whole stop taken w (Err e) inside own text fails = fields_fail begin (input limit whole) s limit whole (halt_of e stop) taken inside fails
