-- The type that is made of a simple type stands for it.
use Rattle.std.proofs.Common.{◌≡◌, ℕ, suc, Option, Some, None, List, [], ◌∷◌, ◌++◌, refl, sym, ap, subst, ◌∙◌}
use Rattle.std.proofs.lemmas.List.{append-nil}
use Rattle.std.proofs.lemmas.List.Elements.{filter-append}
use Rattle.base_trees.specs.Rose.{Rose, Roses}
use Rattle.asn_names.specs.declared.restoration.NameForm.{NameForm}
use Rattle.asn_names.specs.Restoring.{form_of}
use Rattle.base_texts.specs.declared.white_space.WhiteSpace.{WhiteSpace}
use Rattle.base_texts.specs.declared.white_space.WhiteSpace.TheVariants.{Preserve, Replace, Collapse}
use Rattle.simple_types.specs.Space.{Space, Spaces, none, more, Booleans, Wholes, Numbers, Words, Characters, ListOf, UnionOf}
use Rattle.asn_types.specs.declared.types.Component.{Component}
use Rattle.asn_types.specs.declared.types.TypeLabel.{TypeLabel}
use Rattle.asn_types.specs.Simples.{counts, counting, white_space_marks, ArePlain, MapsTo, MapToEach}
use Rattle.map_assignments.specs.Naming.{text_if, text_marks, list_item, IsSimpleType, AreMembers}

-- TEXT counts for nothing
one_text : (o : Option NameForm) (i : ℕ) (word : List ℕ) → counting (text_if o i word) ≡ []
one_text None i word = refl
one_text (Some f) i word = refl

all_texts : (i : ℕ) (gs words : List (List ℕ)) → counting (text_marks i gs words) ≡ []
all_texts i [] [] = refl
all_texts i [] (word ∷ words) = refl
all_texts i (g ∷ gs) [] = refl
all_texts i (g ∷ gs) (word ∷ words) =
    filter-append counts (text_if (form_of g word) i word) (text_marks (suc i) gs words)
    ∙ ap (λ ms. ms ++ counting (text_marks (suc i) gs words)) (one_text (form_of g word) i word)
    ∙ all_texts (suc i) gs words

white_space : (how : WhiteSpace) → counting (white_space_marks how) ≡ white_space_marks how
white_space Preserve = refl
white_space Replace = refl
white_space Collapse = refl

words_marks : (how : WhiteSpace) (gs words : List (List ℕ)) → counting (white_space_marks how ++ text_marks 0 gs words) ≡ white_space_marks how
words_marks how gs words =
    filter-append counts (white_space_marks how) (text_marks 0 gs words)
    ∙ ap (λ ms. ms ++ counting (text_marks 0 gs words)) (white_space how)
    ∙ ap (λ ms. white_space_marks how ++ ms) (all_texts 0 gs words)
    ∙ append-nil (white_space_marks how)

mutual
  pub simple-maps : (s : Space) (t : Rose TypeLabel) → IsSimpleType s t → MapsTo s t
  simple-maps Booleans t h = subst (MapsTo Booleans) (sym h) (refl, refl)
  simple-maps (Wholes least greatest) t h = subst (MapsTo (Wholes least greatest)) (sym h) (refl, refl)
  simple-maps (Numbers numbers) t h = subst (MapsTo (Numbers numbers)) (sym h) (refl, refl)
  simple-maps (Words how words) t h = subst (MapsTo (Words how words)) (sym h.type) (h.identifiers, (refl, words_marks how h.identifiers words))
  simple-maps (Characters how least most class) t h = subst (MapsTo (Characters how least most class)) (sym h) (refl, white_space how)
  simple-maps (ListOf s least most) t h = subst (MapsTo (ListOf s least most)) (sym h.1) (list_item, (refl, refl), (refl, refl), simple-maps s h.0 h.2)
  simple-maps (UnionOf members) t h =
      let each = members-map [] members h.0 h.1 h.3 in
      subst (MapsTo (UnionOf members)) (sym h.2) (h.0, (refl, refl), each.0, each.1)

  members-map : (before : List (List ℕ)) (ss : Spaces) (parts : List Component) (ts : Roses TypeLabel) → AreMembers before ss parts ts
      → ArePlain parts × MapToEach ss ts
  members-map before none parts ts h = (subst ArePlain (sym h.0) tt, subst (MapToEach none) (sym h.1) tt)
  members-map before (more s ss) parts ts h =
      let rest = members-map (before ++ h.0 ∷ []) ss h.1 h.3 h.8 in
      (subst ArePlain (sym h.5) ((refl, refl), rest.0), subst (MapToEach (more s ss)) (sym h.6) (simple-maps s h.2 h.7, rest.1))
