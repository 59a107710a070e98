-- What a value of a complex type gives is valid with itself: attributes in canonical spelling, and its kids.
use Rattle.std.proofs.Common.{◌≡◌, ℕ, suc, inl, inr, Bool, true, false, List, [], ◌∷◌, map, refl, sym, ap, subst, ◌∙◌}
use Rattle.std.specs.Prelude.{Ok}
use Rattle.base_texts.specs.declared.texts.Name.{Name}
use Rattle.base_trees.specs.Rose.{Rose, node, Roses, list_of, label_of, kids_of}
use Rattle.base_trees.specs.Rose as rose
use Rattle.simple_types.specs.Space.{Space}
use Rattle.simple_types.specs.declared.labels.ValueLabel.{ValueLabel}
use Rattle.simple_types.specs.Reading.{reads, spelled}
use Rattle.content_models.specs.declared.particles.ParticleLabel.{ParticleLabel}
use Rattle.content_models.specs.Seen.{seen}
use Rattle.xml_items.specs.declared.label.ItemLabel.{ItemLabel}
use Rattle.xml_items.specs.Plain.{Plain, plain_all}
use Rattle.xml_items.specs.Mixing.{text_before, interleaved}
use Rattle.asn_types.specs.declared.modules.Assignment.{Assignment}
use Rattle.asn_types.specs.declared.types.TypeLabel.{TypeLabel}
use Rattle.asn_values.specs.Values.{FitsAt}
use Rattle.schema_components.specs.declared.components.ComplexDef.{ComplexDef}
use Rattle.schema_components.specs.declared.components.Content.{Content}
use Rattle.schema_components.specs.declared.components.Content.TheVariants as content_
use Rattle.schema_components.specs.Components.{Set}
use Rattle.schema_components.specs.SetParts.{parts_of}
use Rattle.map_laws.specs.Children.{Child}
use Rattle.xer_items.specs.Items.{Given, inside, element_of}
use Rattle.validity_rules.specs.Asked.{Asked, asked, space_at, attribute_in, inside_of}
use Rattle.validity_rules.specs.Asked as ask
use Rattle.validity_rules.specs.Attributes.{not_nil, is_nil, bad_nil}
use Rattle.validity_rules.specs.OwnForms.{IsOwnForm}
use Rattle.validity_rules.specs.Valid.{text_kids, Spells}
use Rattle.validity_rules.proofs.Unique.{NilValid}
use Rattle.validity_rules.proofs.Again.{text_alone, IsFair}
use Rattle.value_laws.proofs.Groups.{told}
use Rattle.value_laws.proofs.Walking.{AllApart}
use Rattle.value_laws.proofs.Own.{elements-own, mixed-own}
use Rattle.value_laws.proofs.OwnComplexes.{given-is-own, nothing-valid, empty-valid}
use Rattle.value_laws.proofs.ComplexItems.{nil_as, TextOf, Stands, ContentGives, ComplexGives}

not-bad : (b : Bool) → nil_as b ≡ bad_nil → ⊥
not-bad true e = cc
not-bad false e = cc

kids-text : (words : List ℕ) → text_before words rose.none ≡ text_kids words
kids-text [] = refl
kids-text (b ∷ bs) = refl

-- a text in canonical spelling is valid simple content
module _ (asks : ℕ → Asked) where
  pub spelled-valid : (space : Space) (words : List ℕ) → (w : Rose ValueLabel) × (reads space words ≡ Ok w) × (spelled space w ≡ words) → (us : Roses ItemLabel)
      → plain_all us ≡ text_before words rose.none → NilValid asks not_nil (ask.simple space) us (text_before words rose.none)
  spelled-valid space words (w, read, same) us q = (
    words,
    text_alone us words (q ∙ kids-text words),
    subst (λ r. Spells space r (text_before words rose.none)) (sym read) (kids-text words ∙ ap text_kids (sym same)),
  )

-- ---- kids are valid with themselves

module _ (M : List Assignment) (E : ℕ → Rose TypeLabel → Type 0) (depth : ℕ) (s : Set) (asks : ℕ → Asked)
    (own : (d : ℕ) (a : Name) (t : Rose TypeLabel) (x : Rose ValueLabel) → E d t → FitsAt M (suc depth) t x → IsOwnForm asks d (element_of a (inside M t x))) where
  none-valid : (inner : ask.Inside) (nil : Bool) → nil ≡ true → (k : Roses Plain) → k ≡ rose.none → (us : Roses ItemLabel) → plain_all us ≡ k → NilValid asks (nil_as nil) inner us k
  none-valid inner nil e k f us q =
      subst (λ b. NilValid asks (nil_as b) inner us k) (sym e) (subst (NilValid asks is_nil inner us) (sym f) (nothing-valid M E depth s asks own inner us (q ∙ f)))

  bare-valid : (nil : Bool) (k : Roses Plain) → k ≡ rose.none → (us : Roses ItemLabel) → plain_all us ≡ k → NilValid asks (nil_as nil) ask.nothing us k
  bare-valid true k f us q = none-valid ask.nothing true refl k f us q
  bare-valid false k f us q = subst (NilValid asks not_nil ask.nothing us) (sym f) (empty-valid M E depth s asks own us (q ∙ f))

  text-valid : (n : ℕ) (nil : Bool) (k : Roses Plain) → TextOf s n nil k → (us : Roses ItemLabel) → plain_all us ≡ k → NilValid asks (nil_as nil) (ask.simple (space_at (parts_of s) n)) us k
  text-valid n nil k (inl (e, f)) us q = none-valid (ask.simple (space_at (parts_of s) n)) nil e k f us q
  text-valid n nil k (inr (e, words, is, f)) us q =
      subst (λ b. NilValid asks (nil_as b) (ask.simple (space_at (parts_of s) n)) us k) (sym e)
      (subst (NilValid asks not_nil (ask.simple (space_at (parts_of s) n)) us) (sym f) (spelled-valid asks (space_at (parts_of s) n) words is us (q ∙ f)))

  elements-valid : (nil : Bool) (p : Rose ParticleLabel) (ms : List Child) → Stands M E depth nil p ms → (k : Roses Plain) → k ≡ told M ms → (us : Roses ItemLabel) → plain_all us ≡ k
      → NilValid asks (nil_as nil) (ask.children false (seen p)) us k
  elements-valid nil p ms (inl (e, f)) k same us q = none-valid (ask.children false (seen p)) nil e k (same ∙ ap (told M) f) us q
  elements-valid nil p ms (inr (e, stands)) k same us q =
      let it : NilValid asks not_nil (ask.children false (seen p)) us (told M ms) = elements-own M E depth asks own (seen p) ms stands us (q ∙ same) in
      subst (λ b. NilValid asks (nil_as b) (ask.children false (seen p)) us k) (sym e)
      (subst (NilValid asks not_nil (ask.children false (seen p)) us) (sym same) it)

  mixed-valid : (nil : Bool) (p : Rose ParticleLabel) (ms : List Child) → Stands M E depth nil p ms → (texts : List (List ℕ)) → (nil ≡ true → texts ≡ []) → (k : Roses Plain) → k ≡ told M ms
      → (us : Roses ItemLabel) → plain_all us ≡ interleaved texts k → NilValid asks (nil_as nil) (ask.children true (seen p)) us (interleaved texts k)
  mixed-valid nil p ms (inl (e, f)) texts gone k same us q =
      none-valid (ask.children true (seen p)) nil e (interleaved texts k) (ap (λ ts. interleaved ts k) (gone e) ∙ same ∙ ap (told M) f) us q
  mixed-valid nil p ms (inr (e, stands)) texts gone k same us q =
      let here : interleaved texts k ≡ interleaved texts (told M ms) = ap (interleaved texts) same in
      let it : NilValid asks not_nil (ask.children true (seen p)) us (interleaved texts (told M ms)) = mixed-own M E depth asks own (seen p) ms stands texts us (q ∙ here) in
      subst (λ b. NilValid asks (nil_as b) (ask.children true (seen p)) us (interleaved texts k)) (sym e)
      (subst (NilValid asks not_nil (ask.children true (seen p)) us) (sym here) it)

  content-valid : (x : Content) (nil : Bool) (k : Roses Plain) → ContentGives M E depth s x nil k → (ws : Roses ItemLabel) → plain_all ws ≡ k → NilValid asks (nil_as nil) (inside_of (parts_of s) x) ws k
  content-valid content_.Empty nil k h ws q = bare-valid nil k h ws q
  content-valid (content_.Simple n) nil k h ws q = text-valid n nil k h ws q
  content-valid (content_.ElementOnly p) nil k (ms, stands, is) ws q = elements-valid nil p ms stands k is ws q
  content-valid (content_.Mixed p) nil k (texts, ms, stands, gone, fit, is) ws q =
      subst (NilValid asks (nil_as nil) (ask.children true (seen p)) ws) (sym is) (mixed-valid nil p ms stands texts gone (told M ms) refl ws (q ∙ is))

  -- ---- an element of a complex type

  pub complex-owns : (d : ℕ) (nillable : Bool) (c : ComplexDef) → asks d ≡ asked nillable (map (attribute_in (parts_of s)) c.uses) (inside_of (parts_of s) c.content) → AllApart c.uses → IsFair (asks d)
      → (g : Given) → ComplexGives M E depth s nillable c g → (name : Name) → IsOwnForm asks d (element_of name g)
  complex-owns d nillable c asks_is apart fair g gives name =
      let inner = inside_of (parts_of s) c.content in
      let fair_as : IsFair (asked nillable (map (attribute_in (parts_of s)) c.uses) inner) = subst IsFair asks_is fair in
      subst (λ z. IsOwnForm asks d (element_of name z)) (sym gives.is)
      (given-is-own M E depth s asks own d nillable c.uses inner asks_is apart fair_as.plain fair_as.apart (nil_as gives.nil) gives.from.0 gives.from.1 (not-bad gives.nil) gives.attributes gives.spelled gives.kids
      (content-valid c.content gives.nil gives.kids gives.content) name)
