-- What is walked of an element is its value.
use Rattle.std.proofs.Common.{◌≡◌, ℕ, suc, ◌≤◌, Bool, true, false, List, [], ◌∷◌, ◌++◌, Option, Some, length, length-append, refl, sym, ◌∙◌, ap, subst, arith}
use Rattle.std.specs.Prelude.{Result, Ok, Err, MatchResult, MatchBool, All}
use Rattle.base_texts.specs.declared.texts.Name.{Name}
use Rattle.base_trees.specs.Rose.{Rose, node, Roses, roses_of, label_of, kids_of, length_all}
use Rattle.base_trees.specs.Rose as rose
use Rattle.base_trees.proofs.Roses.{length_all-roses_of}
use Rattle.base_flat_trees.specs.Zips.{Zip, opened, added, closed}
use Rattle.simple_types.specs.Space.{Space}
use Rattle.simple_types.specs.declared.labels.ValueLabel.{ValueLabel}
use Rattle.simple_types.specs.declared.labels.ValueLabel.TheVariants as value
use Rattle.simple_types.specs.Reading.{spelled}
use Rattle.content_models.specs.declared.particles.ParticleLabel.{ParticleLabel}
use Rattle.content_models.specs.Particle.{Particle}
use Rattle.content_models.specs.Clear.{IsNoAll}
use Rattle.content_models.specs.Seen.{seen}
use Rattle.content_models.specs.Spots.{Spot}
use Rattle.content_models.specs.SpotLaws.{may_end}
use Rattle.xml_items.specs.declared.label.ItemLabel.{ItemLabel}
use Rattle.xml_items.specs.declared.label.ItemLabel.TheVariants.{Element, Text}
use Rattle.xml_read.specs.Sound.{is_sound, are_sound_attributes, are_sound, levels, levels_all}
use Rattle.xml_items.specs.Plain.{Plain}
use Rattle.xml_items.specs.Mixing.{interleaved}
use Rattle.schema_components.specs.Components.{Set}
use Rattle.schema_components.specs.Linked.{leaves, IsNamed, IsLinked}
use Rattle.schema_components.specs.SetParts.{parts_of}
use Rattle.xer_items.specs.Items.{given}
use Rattle.validity_rules.specs.Asked.{Asked, Inside, nothing, simple, children, asked, asked_at}
use Rattle.validity_rules.specs.Attributes.{nil_from, nil_of, left, treated_attributes, with_nil}
use Rattle.validity_rules.specs.Valid.{only_text, text_kids, Spells, treated_element, KidsValid}
use Rattle.validity_rules.specs.Faults.{IsBad, FirstKid, FaultBy}
use Rattle.validity_rules.specs.declared.why.InvalidWhy.TheVariants.{NilWithContent}
use Rattle.validity_rules.proofs.Reading.{roses_of-list_of, all_kept}
use Rattle.validity_rules.proofs.Unique.{ContentValid, NilValid}
use Rattle.validity_check.specs.declared.error.CheckError.{CheckError}
use Rattle.validity_check.specs.declared.error.CheckError.TheVariants as check
use Rattle.validity_check.specs.Answers.{Tells, IsGoodTag, TextFault, InsideFault}
use Rattle.validity_check.proofs.Tagging.{bare, nil_refused, inside_judged}
use Rattle.value_laws.proofs.Elements.{attributes-sound}
use Rattle.value_builder.specs.Built.{Built, Stands, Puts, flagged, with_parts}
use Rattle.value_builder.proofs.Parts.{part-absent, part-present}
use Rattle.xer_read.specs.Private.Held.{Beside, Held, texts_of}
use Rattle.xer_read.specs.Private.Held as held
use Rattle.xer_read.specs.Private.Given.{IsReadAs, IsElementOf, Gives, IsRead}
use Rattle.xer_read.specs.Private.Keeping.{strings_from, strings_put}
use Rattle.xer_read.specs.Private.Contents.{IsContentBy, IsContentOf, is_plain_at, IsPlainType, NothingMade, RestMade, ComplexMade, IsMadeBy, IsMade, IsFilled, IsNilFilled, ChildrenPut, InsidePut, Begins, ComplexPut}
use Rattle.xer_read.specs.Private.Putting.{ValuePut, PartsPut}
use Rattle.xer_read.proofs.Putting.{sequence-closed}
use Rattle.xer_read.proofs.Mixing.{strings-between, elements-alone}
use Rattle.xer_read.proofs.Giving.{ReadBy, made-gives}

-- where none is left, all are behind
pub all-before : {A : Type 0} (kids before left : List A) → before ++ left ≡ kids → left ≡ [] → length kids ≤ length before
all-before kids before left all e = let n = ap length all in let m = length-append before left in let none = ap length e in omega (arith, n, m, none)

pub ends-at : (p q : Particle) (from to : Option Spot) → q ≡ p → from ≡ to → may_end q to ≡ true → may_end p from ≡ true
ends-at p q from to e f h = cc

-- ---- what stands beside attributes and texts

pub nothing-inside : (s : Set) (nillable : Bool) (ts : Roses ItemLabel) (z : Zip ValueLabel) (old new : Built) → ts ≡ rose.none → PartsPut (NothingMade nillable) old new → Stands old z → InsidePut s nillable nothing ts z new
nothing-inside s nillable ts z old new e h stands = record {
  rest = held.nothing;
  vs = rose.none;
  is = (e, refl);
  flags = h.flags;
  values = h.values;
  made = h.holds;
  stands = h.puts.stands z stands;
}

pub text-inside : (s : Set) (nillable : Bool) (space : Space) (ts : Roses ItemLabel) (z : Zip ValueLabel) (old new : Built) (v : Rose ValueLabel) → IsReadAs space ts v → Puts (with_parts (true ∷ []) (v ∷ [])) old new
    → Stands old z → InsidePut s nillable (simple space) ts z new
text-inside s nillable space ts z old new v (words, only, accepts) puts stands = record {
  rest = held.text v;
  vs = text_kids (spelled space v);
  is = (words, only, accepts, refl);
  flags = true ∷ [];
  values = v ∷ [];
  made = (refl, refl);
  stands = puts.stands z stands;
}

pub children-inside : (s : Set) (nillable mixed : Bool) (model : Rose ParticleLabel) (ts : Roses ItemLabel) (z : Zip ValueLabel) (new : Built) → are_sound ts ≡ true → All (IsNamed s) (leaves (seen model)) → IsNoAll (seen model)
    → ChildrenPut s nillable mixed (seen model) ts z new → InsidePut s nillable (children mixed (seen model)) ts z new
children-inside s nillable mixed model ts z new sound named no_all h = record {
  rest = held.children model h.gs;
  vs = h.vs;
  is = (
    refl,
    no_all,
    record {
      named = named;
      leaves_are = h.leaves_are;
      lang = h.lang;
      valid = h.valid;
      items = h.items;
      kept = h.kept;
      mixed_is = λ is.
          let between = strings-between (asked_at (parts_of s)) ts h.leaves_are h.vs sound (subst (λ m. KidsValid (asked_at (parts_of s)) m ts h.leaves_are h.vs) is h.valid) in
          record {
            words = strings_from false ts;
            texts_are = refl;
            many = let m = between.1 in let n = ap length_all h.are in let long = length_all-roses_of h.items in omega (arith, m, n, long);
            is = between.0 ∙ ap (λ bs. interleaved (strings_from false ts) bs) h.are;
          };
      plain_is = λ is. sym (elements-alone (asked_at (parts_of s)) ts h.leaves_are h.vs (subst (λ m. KidsValid (asked_at (parts_of s)) m ts h.leaves_are h.vs) is h.valid)) ∙ h.are;
    },
  );
  flags = h.flags;
  values = h.values;
  made = h.made;
  stands = h.stands;
}

-- the parts of child elements as one part
pub inner-children : (s : Set) (mixed : Bool) (p : Particle) (ts : Roses ItemLabel) (z : Zip ValueLabel) (old begun before after : Built) → Puts (λ z. opened (value.Sequence []) (flagged true z)) old begun
    → Stands old z → ChildrenPut s false mixed p ts (opened (value.Sequence []) (flagged true z)) before → Puts closed before after → ChildrenPut s true mixed p ts z after
inner-children s mixed p ts z old begun before after begins stands h closes =
    let v = node (value.Sequence h.flags) (roses_of h.values) in
    record {
      leaves_are = h.leaves_are;
      lang = h.lang;
      vs = h.vs;
      valid = h.valid;
      gs = h.gs;
      items = h.items;
      kept = h.kept;
      are = h.are;
      flags = true ∷ [];
      values = v ∷ [];
      made = (h.flags, h.values, refl, refl, h.made);
      stands = subst (Stands after) (part-present v z) (closes.stands (with_parts h.flags h.values (opened (value.Sequence []) (flagged true z))) h.stands);
    }

-- what is judged so
module _ (s : Set) (nillable : Bool) (ts : Roses ItemLabel) (z : Zip ValueLabel) (old new : Built) (F : CheckError → Type 0) (stands : Stands old z) where
  pub nothing-judged : (r : Result (Unit {0}) CheckError) → MatchResult r (λ _. (ts ≡ rose.none) × PartsPut (NothingMade nillable) old new) F → MatchResult r (λ _. InsidePut s nillable nothing ts z new) F
  nothing-judged (Ok x) h = nothing-inside s nillable ts z old new h.0 h.1 stands
  nothing-judged (Err e) h = h

  pub text-judged : (space : Space) (r : Result (Unit {0}) CheckError) → MatchResult r (λ _. (v : Rose ValueLabel) × IsReadAs space ts v × Puts (with_parts (true ∷ []) (v ∷ [])) old new) F
      → MatchResult r (λ _. InsidePut s nillable (simple space) ts z new) F
  text-judged space (Ok x) (v, read, puts) = text-inside s nillable space ts z old new v read puts stands
  text-judged space (Err e) h = h

pub children-judged : (s : Set) (nillable mixed : Bool) (model : Rose ParticleLabel) (ts : Roses ItemLabel) (z : Zip ValueLabel) (new : Built) (F : CheckError → Type 0) → are_sound ts ≡ true → All (IsNamed s) (leaves (seen model)) → IsNoAll (seen model)
    → (r : Result (Unit {0}) CheckError) → MatchResult r (λ _. ChildrenPut s nillable mixed (seen model) ts z new) F → MatchResult r (λ _. InsidePut s nillable (children mixed (seen model)) ts z new) F
children-judged s nillable mixed model ts z new F sound named no_all (Ok x) h = children-inside s nillable mixed model ts z new sound named no_all h
children-judged s nillable mixed model ts z new F sound named no_all (Err e) h = h

-- ---- the value of a complex type

-- what stands behind its attributes is put down there
abbrev pub begun_at : (a : Asked) (xs : List (Name × List ℕ)) (texts : List (Rose ValueLabel)) (numbers : List ℕ) (old mid : Built) → Begins a xs texts numbers old mid → Zip ValueLabel → Zip ValueLabel
begun_at a xs texts numbers old mid h z = with_parts h.flags h.values (with_parts h.order_flags h.order_values (with_parts h.text_flags h.text_values (opened (value.Sequence []) z)))

module _ (s : Set) (a : Asked) (xs : List (Name × List ℕ)) (ts : Roses ItemLabel) (z : Zip ValueLabel) (old mid before after : Built) (numbers : List ℕ) (begins : Begins a xs (strings_put false ts) numbers old mid) where
  -- with what stands beside texts, order and attributes
  pub complex-by : (rest : Beside) (vs : Roses Plain) → IsContentOf s a.inside ts (record { texts = strings_put false ts; order = numbers; rest = rest }) vs
      → (flags : List Bool) (values : List (Rose ValueLabel)) → RestMade a.nillable rest flags values → Stands before (with_parts flags values (begun_at a xs (strings_put false ts) numbers old mid begins z))
      → Puts closed before after → ComplexPut s a xs ts z after
  complex-by rest vs is flags values others stands closes = record {
    content = record { texts = strings_put false ts; order = numbers; rest = rest };
    vs = vs;
    is = is;
    value = node (value.Sequence (begins.text_flags ++ (begins.order_flags ++ (begins.flags ++ flags)))) (roses_of (begins.text_values ++ (begins.order_values ++ (begins.values ++ values))));
    made = record {
      text_flags = begins.text_flags;
      text_values = begins.text_values;
      order_flags = begins.order_flags;
      order_values = begins.order_values;
      flags = begins.flags;
      values = begins.values;
      rest_flags = flags;
      rest_values = values;
      is = refl;
      texts = begins.texts_made;
      order = begins.order_made;
      attributes = begins.attributes_made;
      others = others;
    };
    stands = subst (Stands after) (sequence-closed begins.text_flags begins.order_flags begins.flags flags begins.text_values begins.order_values begins.values values z)
        (closes.stands (with_parts flags values (begun_at a xs (strings_put false ts) numbers old mid begins z)) stands);
  }

pub complex-put : (s : Set) (a : Asked) (xs : List (Name × List ℕ)) (ts : Roses ItemLabel) (z : Zip ValueLabel) (old mid before after : Built) (begins : Begins a xs (strings_put false ts) [] old mid)
    → InsidePut s a.nillable a.inside ts (begun_at a xs (strings_put false ts) [] old mid begins z) before → Puts closed before after → ComplexPut s a xs ts z after
complex-put s a xs ts z old mid before after begins inner closes =
    complex-by s a xs ts z old mid before after [] begins inner.rest inner.vs inner.is inner.flags inner.values inner.made inner.stands closes

-- of one that is nil
pub nil-put : (a : Asked) (xs : List (Name × List ℕ)) (old mid before after : Built) (begins : Begins a xs [] [] old mid) → Puts (flagged false) mid before → Puts closed before after
    → (v : Rose ValueLabel) × IsNilFilled a xs v × Puts (added v) old after
nil-put a xs old mid before after begins flags closes =
    let v = node (value.Sequence (begins.text_flags ++ (begins.order_flags ++ (begins.flags ++ false ∷ [])))) (roses_of (begins.text_values ++ (begins.order_values ++ (begins.values ++ [])))) in
    let content : Held = record { texts = []; order = []; rest = held.nil } in (
      v,
      (
        content,
        (refl, refl, refl),
        record {
          text_flags = begins.text_flags;
          text_values = begins.text_values;
          order_flags = begins.order_flags;
          order_values = begins.order_values;
          flags = begins.flags;
          values = begins.values;
          rest_flags = false ∷ [];
          rest_values = [];
          is = refl;
          texts = begins.texts_made;
          order = begins.order_made;
          attributes = begins.attributes_made;
          others = (refl, refl);
        },
      ),
      record {
        most = closes.most ∙ flags.most ∙ begins.puts.most;
        stands = λ z st.
            subst (Stands after)
            (ap closed (part-absent (begun_at a xs [] [] old mid begins z))
            ∙ sequence-closed begins.text_flags begins.order_flags begins.flags (false ∷ []) begins.text_values begins.order_values begins.values [] z)
            (closes.stands (flagged false (begun_at a xs [] [] old mid begins z)) (flags.stands (begun_at a xs [] [] old mid begins z) (begins.puts.stands z st)));
      },
    )

-- the value is that of a complex type, where it isn't that of a text
made-as : (s : Set) (plain : Bool) (inside : Inside) (ts : Roses ItemLabel) (texts : Rose ValueLabel) (order : List ℕ) (r : Beside) (vs : Roses Plain) (v : Rose ValueLabel) (P : Type 0) → IsContentBy s inside ts texts order r vs
    → ((space : Space) → inside ≡ simple space → plain ≡ false) → P → IsMadeBy plain r v P
made-as s plain inside ts texts order held.nil vs v P h apart p = p
made-as s plain inside ts texts order held.nothing vs v P h apart p = p
made-as s plain inside ts texts order (held.children model gs) vs v P h apart p = p
made-as s plain inside ts texts order (held.ordered model flags gs) vs v P h apart p = p
made-as s plain nothing ts texts order (held.text w) vs v P h apart p = absurd h
made-as s plain (children mixed q) ts texts order (held.text w) vs v P h apart p = absurd h
made-as s plain (simple space) ts texts order (held.text w) vs v P h apart p = subst (λ b. MatchBool b (v ≡ w) P) (sym (apart space refl)) p

pub complex-filled : (s : Set) (d : ℕ) (a : Asked) (xs : List (Name × List ℕ)) (ts : Roses ItemLabel) (z : Zip ValueLabel) (new : Built) → ((space : Space) → a.inside ≡ simple space → is_plain_at s d ≡ false)
    → ComplexPut s a xs ts z new → ValuePut (IsFilled s d a xs ts) z new
complex-filled s d a xs ts z new apart h = record {
  value = h.value;
  holds = (h.content, h.vs, h.is, made-as s (is_plain_at s d) a.inside ts (texts_of h.content) h.content.order h.content.rest h.vs h.value (ComplexMade a xs h.content h.value) h.is apart h.made);
  stands = h.stands;
}

-- and that of its text
pub plain-filled : (s : Set) (d : ℕ) (a : Asked) (xs : List (Name × List ℕ)) (ts : Roses ItemLabel) (z : Zip ValueLabel) (old new : Built) (space : Space) → a.inside ≡ simple space → is_plain_at s d ≡ true → (v : Rose ValueLabel)
    → IsReadAs space ts v → Puts (added v) old new → Stands old z → ValuePut (IsFilled s d a xs ts) z new
plain-filled s d a xs ts z old new space inside_is plain v (words, only, accepts) puts stands =
    let content : Held = record { texts = []; order = []; rest = held.text v } in
    let vs = text_kids (spelled space v) in
    record {
      value = v;
      holds = (
        content,
        vs,
        subst (λ i. IsContentOf s i ts content vs) (sym inside_is) (words, only, accepts, refl),
        subst (λ b. MatchBool b (v ≡ v) (ComplexMade a xs content v)) (sym plain) refl,
      );
      stands = puts.stands z stands;
    }

pub complex-judged : (s : Set) (d : ℕ) (a : Asked) (xs : List (Name × List ℕ)) (ts : Roses ItemLabel) (z : Zip ValueLabel) (new : Built) (F : CheckError → Type 0) → ((space : Space) → a.inside ≡ simple space → is_plain_at s d ≡ false)
    → (r : Result (Unit {0}) CheckError) → MatchResult r (λ _. ComplexPut s a xs ts z new) F → MatchResult r (λ _. ValuePut (IsFilled s d a xs ts) z new) F
complex-judged s d a xs ts z new F apart (Ok x) h = complex-filled s d a xs ts z new apart h
complex-judged s d a xs ts z new F apart (Err e) h = h

pub plain-judged : (s : Set) (d : ℕ) (a : Asked) (xs : List (Name × List ℕ)) (ts : Roses ItemLabel) (z : Zip ValueLabel) (old new : Built) (space : Space) (place : ℕ) → a.inside ≡ simple space → is_plain_at s d ≡ true → Stands old z
    → (r : Result (Unit {0}) CheckError) → MatchResult r (λ _. (v : Rose ValueLabel) × IsReadAs space ts v × Puts (added v) old new) (Tells (TextFault space ts place))
    → MatchResult r (λ _. ValuePut (IsFilled s d a xs ts) z new) (Tells (InsideFault (asked_at (parts_of s)) a.inside ts place))
plain-judged s d a xs ts z old new space place inside_is plain stands (Ok x) (v, read, puts) = plain-filled s d a xs ts z old new space inside_is plain v read puts stands
plain-judged s d a xs ts z old new space place inside_is plain stands (Err e) h = subst (λ i. Tells (InsideFault (asked_at (parts_of s)) i ts place) e) (sym inside_is) h

-- such a content is valid
content-valid : (s : Set) (inside : Inside) (ts : Roses ItemLabel) (texts : Rose ValueLabel) (order : List ℕ) (r : Beside) (vs : Roses Plain) → IsContentBy s inside ts texts order r vs → ContentValid (asked_at (parts_of s)) inside ts vs
content-valid s nothing ts texts order held.nil vs h = absurd h
content-valid s nothing ts texts order held.nothing vs h = h
content-valid s nothing ts texts order (held.text v) vs h = absurd h
content-valid s nothing ts texts order (held.children model gs) vs h = absurd h
content-valid s nothing ts texts order (held.ordered model flags gs) vs h = absurd h
content-valid s (simple space) ts texts order held.nil vs h = absurd h
content-valid s (simple space) ts texts order held.nothing vs h = absurd h
content-valid s (simple space) ts texts order (held.text v) vs (words, only, accepts, is) = (words, only, subst (λ r. Spells space r vs) (sym accepts) is)
content-valid s (simple space) ts texts order (held.children model gs) vs h = absurd h
content-valid s (simple space) ts texts order (held.ordered model flags gs) vs h = absurd h
content-valid s (children mixed p) ts texts order held.nil vs h = absurd h
content-valid s (children mixed p) ts texts order held.nothing vs h = absurd h
content-valid s (children mixed p) ts texts order (held.text v) vs h = absurd h
content-valid s (children mixed p) ts texts order (held.children model gs) vs h = (h.2.leaves_are, h.2.lang, h.2.valid)
content-valid s (children mixed p) ts texts order (held.ordered model flags gs) vs h = (h.2.leaves_are, h.2.lang, h.2.valid)

-- ---- an element

levels-element : (t : Rose ItemLabel) (n : Name) (xs : List (Name × List ℕ)) (declares : List (List ℕ × List ℕ)) (at : ℕ) → label_of t ≡ Element n xs declares at → levels t ≡ suc (levels_all (roses_of (kids_of t)))
levels-element (node (Text words b) ks) n xs declares at e = absurd (cc)
levels-element (node (Element m ys bindings b) ks) n xs declares at e = ap (λ z. suc (levels_all z)) (sym (roses_of-list_of ks))

element-sound : (t : Rose ItemLabel) (n : Name) (xs : List (Name × List ℕ)) (declares : List (List ℕ × List ℕ)) (at : ℕ) → label_of t ≡ Element n xs declares at → is_sound t ≡ true
    → (are_sound_attributes xs ≡ true) × (are_sound (roses_of (kids_of t)) ≡ true)
element-sound (node l ks) n xs declares at e h =
    let own = attributes-sound n xs declares at ks (subst (λ z. is_sound (node z ks) ≡ true) e h) in
    (own.0, ap are_sound (roses_of-list_of ks) ∙ own.1)

module _ (s : Set) (linked : IsLinked s) (d : ℕ) (n : Name) (xs : List (Name × List ℕ)) (declares : List (List ℕ × List ℕ)) (place : ℕ) (t : Rose ItemLabel) (is : label_of t ≡ Element n xs declares place)
    (sound : is_sound t ≡ true)
  where
    abbrev asks : ℕ → Asked
    asks = asked_at (parts_of s)

    not-bad : (nil : Bool) → nil_of (asks d).nillable xs ≡ nil_from (Some nil) → IsBad (nil_of (asks d).nillable xs) → ⊥
    not-bad nil e h = go nil (subst IsBad e h)
      where
        go : (b : Bool) → IsBad (nil_from (Some b)) → ⊥
        go true h = h
        go false h = h

    element-read : (nil : Bool) → IsGoodTag (asks d) xs nil → (vs : Roses Plain) → NilValid asks (nil_from (Some nil)) (asks d).inside (roses_of (kids_of t)) vs → (content : Held)
        → ReadBy s (nil_from (Some nil)) (asks d).inside (roses_of (kids_of t)) content vs → (v : Rose ValueLabel) → IsMade (is_plain_at s d) (asks d) xs content v → IsRead s d t v
    element-read nil good vs valid content here v made =
        let whole = element-sound t n xs declares place is sound in
        let inner = given (with_nil (nil_of (asks d).nillable xs) (treated_attributes (asks d).attributes (left xs))) vs in
        record {
          treated = treated_element (asks d) n xs vs;
          valid = all_kept asks d n xs declares place t is good.plain (not-bad nil good.nil_is) good.right good.stand vs
              (subst (λ k. NilValid asks k (asks d).inside (roses_of (kids_of t)) vs) (sym good.nil_is) valid);
          inner = inner;
          is = subst (λ l. IsElementOf l inner (treated_element (asks d) n xs vs)) (sym is) refl;
          gives = subst (λ high. Gives s d high v inner) (sym (levels-element t n xs declares place is))
              (made-gives s linked d (asks d) refl xs whole.0 good.stand (roses_of (kids_of t)) whole.1 (nil_of (asks d).nillable xs) refl content vs
              (subst (λ k. ReadBy s k (asks d).inside (roses_of (kids_of t)) content vs) (sym good.nil_is) here) v made);
        }

    module _ (a : Asked) (ys : List (Name × List ℕ)) (asked_is : a ≡ asks d) (same : ys ≡ xs) (kids : List (Rose ItemLabel)) (are : kids ≡ kids_of t) where
      good-tag : (nil : Bool) → IsGoodTag a ys nil → IsGoodTag (asks d) xs nil
      good-tag nil good = subst (λ b. IsGoodTag b xs nil) asked_is (subst (λ zs. IsGoodTag a zs nil) same good)

      abbrev refused : CheckError → Result (Unit {0}) CheckError
      refused e = Err e

      made-nil : (content : Held) (v : Rose ValueLabel) → content.rest ≡ held.nil → ComplexMade (asks d) xs content v → IsMade (is_plain_at s d) (asks d) xs content v
      made-nil content v e made = subst (λ r. IsMadeBy (is_plain_at s d) r v (ComplexMade (asks d) xs content v)) (sym e) made

      pub nil-read : (old new : Built) → IsGoodTag a ys true → (r : Result (Unit {0}) CheckError)
          → MatchResult r (λ _. (roses_of kids ≡ rose.none) × ((v : Rose ValueLabel) × IsNilFilled a ys v × Puts (added v) old new)) (Tells (FirstKid (roses_of kids) (λ _. NilWithContent)))
          → (z : Zip ValueLabel) → Stands old z → MatchResult r (λ _. ValuePut (IsRead s d t) z new) (Tells (FaultBy asks d t))
      nil-read old new good (Ok x) (none, (v, made, puts)) z stands =
          let (content, nil, filled) = subst (λ b. IsNilFilled b xs v) asked_is (subst (λ zs. IsNilFilled a zs v) same made) in
          let empty : roses_of (kids_of t) ≡ rose.none = ap roses_of (sym are) ∙ none in
          record {
            value = v;
            holds = element-read true (good-tag true good) rose.none (empty, refl) content (nil, refl) v (made-nil content v nil.0 filled);
            stands = puts.stands z stands;
          }
      nil-read old new good (Err (check.Invalid at why)) h z stands = nil_refused s d a ys n xs declares place t is asked_is same good kids are at why h
      nil-read old new good (Err check.Memory) h z stands = tt

      pub filled-read : (new : Built) (z : Zip ValueLabel) → IsGoodTag a ys false → (r : Result (Unit {0}) CheckError)
          → MatchResult r (λ _. ValuePut (IsFilled s d a ys (roses_of kids)) z new) (Tells (InsideFault asks a.inside (roses_of kids) place))
          → MatchResult r (λ _. ValuePut (IsRead s d t) z new) (Tells (FaultBy asks d t))
      filled-read new z good (Ok x) m =
          let (content, vs, right, filled) =
          subst (λ ks. IsFilled s d (asks d) xs (roses_of ks) m.value) are (subst (λ b. IsFilled s d b xs (roses_of kids) m.value) asked_is (subst (λ zs. IsFilled s d a zs (roses_of kids) m.value) same m.holds)) in
          record {
            value = m.value;
            holds = element-read false (good-tag false good) vs (content-valid s (asks d).inside (roses_of (kids_of t)) (texts_of content) content.order content.rest vs right) content right m.value filled;
            stands = m.stands;
          }
      filled-read new z good (Err e) h = inside_judged s d a ys n xs declares place t is asked_is same good kids are (refused e) h

-- an element without attributes whose value is that of its text
pub plain-read : (s : Set) → IsLinked s → (d : ℕ) (space : Space) → IsPlainType s d space → (n : Name) (xs : List (Name × List ℕ)) (declares : List (List ℕ × List ℕ)) (place : ℕ) (t : Rose ItemLabel) → label_of t ≡ Element n xs declares place
    → is_sound t ≡ true → xs ≡ [] → (words : List ℕ) → only_text (roses_of (kids_of t)) ≡ Some words → (old new : Built) (z : Zip ValueLabel) → Stands old z → (r : Result (Unit {0}) CheckError)
    → ((ts : Roses ItemLabel) → only_text ts ≡ Some words → MatchResult r (λ _. (v : Rose ValueLabel) × IsReadAs space ts v × Puts (added v) old new) (Tells (TextFault space ts place)))
    → MatchResult r (λ _. ValuePut (IsRead s d t) z new) (Tells (FaultBy (asked_at (parts_of s)) d t))
plain-read s linked d space plain n xs declares place t is sound none words only old new z stands r judged =
    let a = asked false [] (simple space) in
    filled-read s linked d n xs declares place t is sound a xs (sym plain.asked_is) refl (kids_of t) refl new z (bare a refl xs none) r
    (plain-judged s d a xs (roses_of (kids_of t)) z old new space place refl plain.plain stands r (judged (roses_of (kids_of t)) only))
