-- What a value of a complex type gives is sound, where its child elements are.
use Rattle.std.proofs.Common.{◌≡◌, ℕ, suc, inl, inr, Bool, true, List, [], ◌∷◌, map, refl, sym, subst}
use Rattle.std.specs.Prelude.{All}
use Rattle.std.proofs.lemmas.List.Elements.{All-head, All-tail}
use Rattle.base_texts.specs.declared.texts.Name.{Name}
use Rattle.base_trees.specs.Rose.{Rose, Roses}
use Rattle.base_trees.specs.Rose as rose
use Rattle.simple_types.specs.declared.labels.ValueLabel.{ValueLabel}
use Rattle.content_models.specs.declared.particles.ParticleLabel.{ParticleLabel}
use Rattle.content_models.specs.Language.{Leaf}
use Rattle.content_models.specs.Seen.{seen}
use Rattle.xml_read.specs.Sound.{is_sound_name}
use Rattle.xml_items.specs.Plain.{Plain}
use Rattle.xml_items.specs.Mixing.{text_before, AllElements}
use Rattle.asn_types.specs.declared.modules.Assignment.{Assignment}
use Rattle.asn_types.specs.declared.types.TypeLabel.{TypeLabel}
use Rattle.asn_values.specs.Values.{FitsAt}
use Rattle.schema_components.specs.declared.components.ComplexDef.{ComplexDef}
use Rattle.schema_components.specs.declared.components.Content.{Content}
use Rattle.schema_components.specs.declared.components.Content.TheVariants as content_
use Rattle.schema_components.specs.Components.{Set}
use Rattle.schema_components.specs.Linked.{IsUse, IsNamed, IsContent, IsModel, IsLinked}
use Rattle.map_laws.specs.Children.{Child, Placed, leaf_of, child_at}
use Rattle.xer_items.specs.Items.{Given, element_of, inside}
use Rattle.xer_items.specs.Sound.{HasCharacters, IsSound, AreSound}
use Rattle.value_laws.proofs.Groups.{told}
use Rattle.value_laws.proofs.Walking.{AllApart}
use Rattle.value_laws.proofs.ComplexItems.{Stands, ContentGives, ComplexGives}
use Rattle.value_laws.proofs.Leaves.{AtLeaf, lang-holds}
use Rattle.value_laws.proofs.SoundSpelled.{spelling-characters, with-nil-sound}
use Rattle.value_laws.proofs.SoundMixed.{text-sound, texts-sound}

-- a text alone
pub alone-sound : (words : List ℕ) → HasCharacters words → AreSound (text_before words rose.none)
alone-sound words fine = text-sound words fine rose.none refl tt

module _ (s : Set) (linked : IsLinked s) (M : List Assignment) (E : ℕ → Rose TypeLabel → Type 0) (depth : ℕ)
    (own : (d : ℕ) (a : Name) → IsNamed s (d, a) → (t : Rose TypeLabel) (x : Rose ValueLabel) → E d t → FitsAt M (suc depth) t x → IsSound (element_of a (inside M t x))) where
  abbrev HasType : Placed → Type 0
  HasType x = E x.leaf.decl x.type × FitsAt M (suc depth) x.type x.value

  abbrev AtNamed : Leaf → Type 0
  AtNamed = AtLeaf (IsNamed s)

  placed-sound : (xs : List Placed) → All HasType xs → All AtNamed (map leaf_of xs) → AreSound (told M (map child_at xs)) × AllElements (told M (map child_at xs))
  placed-sound [] h k = (tt, tt)
  placed-sound (x ∷ xs) h k =
      let first = All-head HasType x xs h in
      let rest = placed-sound xs (All-tail HasType x xs h) (All-tail AtNamed x.leaf (map leaf_of xs) k) in
      ((own x.leaf.decl x.leaf.name (All-head AtNamed x.leaf (map leaf_of xs) k) x.type x.value first.0 first.1, refl, rest.0), (tt, rest.1))

  stand-sound : (p : Rose ParticleLabel) → IsModel s p → (nil : Bool) (ms : List Child) → Stands M E depth nil p ms → AreSound (told M ms) × AllElements (told M ms)
  stand-sound p model nil ms (inl (e, none)) = subst (λ xs. AreSound (told M xs) × AllElements (told M xs)) (sym none) (tt, tt)
  stand-sound p model nil ms (inr (e, h)) =
      subst (λ xs. AreSound (told M xs) × AllElements (told M xs)) (sym h.are)
      (placed-sound h.placed h.each (lang-holds (IsNamed s) (seen p) model.named 0 [] (map leaf_of h.placed) h.leaves))

  content-sound : (c : Content) → IsContent s c → (nil : Bool) (k : Roses Plain) → ContentGives M E depth s c nil k → AreSound k
  content-sound content_.Empty is nil k h = subst AreSound (sym h) tt
  content-sound (content_.Simple n) is nil k (inl (e, none)) = subst AreSound (sym none) tt
  content-sound (content_.Simple n) is nil k (inr (e, words, spelling, same)) = subst AreSound (sym same) (alone-sound words (spelling-characters s linked n words spelling))
  content-sound (content_.ElementOnly p) is nil k (ms, stands, same) = subst AreSound (sym same) (stand-sound p is nil ms stands).0
  content-sound (content_.Mixed p) is nil k (texts, ms, stands, gone, fine, same) =
      let children = stand-sound p is nil ms stands in
      subst AreSound (sym same) (texts-sound texts fine (told M ms) children.1 children.0)

  pub complex-sound : (nillable : Bool) (c : ComplexDef) → All (IsUse s) c.uses → AllApart c.uses → IsContent s c.content → (g : Given) → ComplexGives M E depth s nillable c g
      → (name : Name) → is_sound_name name ≡ true → IsSound (element_of name g)
  complex-sound nillable c uses apart is g gives name fine =
      subst (λ z. IsSound (element_of name z)) (sym gives.is)
      ((fine, with-nil-sound s linked gives.nil c.uses uses apart gives.attributes gives.spelled), content-sound c.content is gives.nil gives.kids gives.content)
