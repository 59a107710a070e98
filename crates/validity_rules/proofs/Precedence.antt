-- Elements with two faults each: which of them is the first.
use Rattle.std.proofs.Common.{◌≡◌, ℕ, inl, inr, List, [], ◌∷◌, Option, Some, None, true, false, refl, sym, ◌∙◌, ap, arith}
use Rattle.std.specs.Prelude.{codes, pos, All, bytes_eq}
use Rattle.std.proofs.lemmas.List.Elements.{All-nil, All-cons}
use Rattle.base_texts.specs.declared.texts.Name.{Name}
use Rattle.base_texts.specs.WhiteSpace.{is_white_space, words_of, treated}
use Rattle.base_trees.specs.Rose.{Rose, node, none, roses_of}
use Rattle.simple_types.specs.Space.{Wholes}
use Rattle.simple_types.specs.declared.labels.ValueLabel.TheVariants as label
use Rattle.simple_types.specs.declared.standards.Standard.TheVariants.{Free}
use Rattle.simple_types.specs.Lexical.{whole_number}
use Rattle.simple_types.specs.Reading.{leaf, reads}
use Rattle.content_models.specs.Particle.{Particle}
use Rattle.content_models.specs.Language.{Leaf, names, Lang, Viable, leaf_at, turn_of}
use Rattle.content_models.specs.Seen.{seen}
use Rattle.content_models.specs.Laws.{Opens}
use Rattle.content_models.specs.declared.particles.ParticleKind.TheVariants.{Sequence}
use Rattle.content_models.specs.declared.particles.ParticleLabel.{ParticleLabel}
use Rattle.content_models.proofs.Opening.{lang_opens}
use Rattle.xml_items.specs.declared.label.ItemLabel.{ItemLabel}
use Rattle.xml_items.specs.declared.label.ItemLabel.TheVariants.{Element, Text}
use Rattle.schema_components.specs.declared.components.TypeOf.TheVariants as kind
use Rattle.schema_components.specs.declared.components.Content.TheVariants as content
use Rattle.schema_components.specs.SetParts.{SetParts}
use Rattle.validity_rules.specs.Asked.{Attribute, asked_at}
use Rattle.validity_rules.specs.Attributes.{IsRight, Stands, xsi}
use Rattle.validity_rules.specs.Faults.{FirstFault}
use Rattle.validity_rules.specs.Private.WorkedSets.{unqualified, any_byte, element_decl, attribute_use, complex_def, unnamed_type, particle_of, element_particle}
use Rattle.validity_rules.specs.declared.why.InvalidWhy.TheVariants.{WrongRoot, XsiType, BadNil, UnknownAttribute, BadAttribute, TooWide, MissingAttribute, NilWithContent, TextNotAllowed, ElementNotAllowed, BadText, UnexpectedElement}

-- ---- a set: `a` may be nil and wants the attributes `x` and `y`, `s` is a byte, and `c` has an `f` and then a `g`

abbrev pair_model : Rose ParticleLabel
pair_model =
    particle_of Sequence 1 (Some 1)
    (element_particle 3 (unqualified (codes "f")) 1 (Some 1) ∷ element_particle 4 (unqualified (codes "g")) 1 (Some 1) ∷ [])

unfoldable parts : SetParts
parts = record {
  elements =
      element_decl (unqualified (codes "a")) true (kind.Complex 0) ∷ element_decl (unqualified (codes "s")) false (kind.Simple 0)
      ∷ element_decl (unqualified (codes "c")) false (kind.Complex 1) ∷ element_decl (unqualified (codes "f")) false (kind.Simple 0)
      ∷ element_decl (unqualified (codes "g")) false (kind.Simple 0) ∷ [];
  globals = 3;
  simples = unnamed_type any_byte ∷ unnamed_type (Wholes None None) ∷ [];
  complexes =
      complex_def None (attribute_use (unqualified (codes "x")) 0 true ∷ attribute_use (unqualified (codes "y")) 1 true ∷ []) content.Empty
      ∷ complex_def None [] (content.ElementOnly pair_model) ∷ [];
  attributes = [];
}

abbrev given : List ℕ → List ℕ → Name × List ℕ
given local text = (unqualified local, text)

abbrev typed : Name × List ℕ
typed = (xsi (codes "type"), codes "t")

abbrev nil_is : List ℕ → Name × List ℕ
nil_is text = (xsi (codes "nil"), text)

abbrev item : List ℕ → List (Name × List ℕ) → ℕ → List (Rose ItemLabel) → Rose ItemLabel
item local attributes at items = node (Element (unqualified local) attributes [] at) (roses_of items)

abbrev said : List ℕ → ℕ → Rose ItemLabel
said words at = node (Text words at) none

-- a whole number of 129 bits
abbrev wide : List ℕ
wide = codes "340282366920938463463374607431768211456"

abbrev local_of : Option Name → List ℕ
local_of None = []
local_of (Some name) = name.local

abbrev first_local : List Name → List ℕ
first_local [] = []
first_local (name ∷ names) = name.local

-- ---- the root, `xsi:type` and `xsi:nil`

-- another root, with `xsi:type`
root_before_type : FirstFault parts 1 (item (codes "b") (typed ∷ []) 7 []) 7 WrongRoot
unfolding parts
root_before_type = inl (refl, refl, λ e. let d : true ≡ false = ap (λ o. bytes_eq (codes "s") (local_of o)) e in cc)

-- `xsi:nil` where it may not stand, and behind it `xsi:type`
type_before_nil : FirstFault parts 1 (item (codes "s") (nil_is (codes "true") ∷ typed ∷ []) 7 []) 7 XsiType
unfolding parts
type_before_nil = inr (refl, inl (refl, refl, λ e. cc))

-- an attribute that isn't declared, and behind it `xsi:nil` where it may not stand, though it is false
nil_before_unknown : FirstFault parts 1 (item (codes "s") (given (codes "q") (codes "1") ∷ nil_is (codes "false") ∷ []) 7 []) 7 BadNil
unfolding parts
nil_before_unknown = inr (refl, inr (refl, inl (refl, refl, tt)))

-- the same where it may stand, with a text that is no truth value
nil_text_before_unknown : FirstFault parts 0 (item (codes "a") (given (codes "q") (codes "1") ∷ nil_is (codes "no") ∷ []) 7 []) 7 BadNil
unfolding parts treated words_of is_white_space
nil_text_before_unknown = inr (refl, inr (refl, inl (refl, refl, tt)))

-- ---- attributes

-- one that isn't declared, and behind it one with a text that isn't accepted
unknown_before_bad : FirstFault parts 0 (item (codes "a") (given (codes "q") (codes "1") ∷ given (codes "x") (codes "no") ∷ []) 7 []) 7 UnknownAttribute
unfolding parts
unknown_before_bad = inr (refl, inr (refl, inr ((λ b. b), inl (refl, inl refl))))

-- the other way round
bad_before_unknown : FirstFault parts 0 (item (codes "a") (given (codes "x") (codes "no") ∷ given (codes "q") (codes "1") ∷ []) 7 []) 7 BadAttribute
unfolding parts reads treated words_of is_white_space whole_number
bad_before_unknown = inr (refl, inr (refl, inr ((λ b. b), inl (refl, inl (inl refl)))))

-- a number that is too wide, and `x` is missing
wide_before_missing : FirstFault parts 0 (item (codes "a") (given (codes "y") wide ∷ []) 7 []) 7 TooWide
unfolding parts reads treated words_of is_white_space whole_number
wide_before_missing = inr (refl, inr (refl, inr ((λ b. b), inl (refl, inl (inl refl)))))

-- `x` is missing, and an element that is nil has a text
missing_before_nil : FirstFault parts 0 (item (codes "a") (nil_is (codes "true") ∷ []) 7 (said (codes "w") 70 ∷ [])) 7 MissingAttribute
unfolding parts treated words_of is_white_space
missing_before_nil =
    inr (refl, inr (refl, inr ((λ b. b), inr (All-nil (IsRight (asked_at parts 0).attributes), inl (refl, refl, (0, x_wanted, omega arith, refl, (refl, refl)))))))
  where
    x_wanted : Attribute
    x_wanted = record { name = unqualified (codes "x"); space = any_byte; required = true; standard = Free }

-- ---- content

abbrev both : List (Name × List ℕ)
both = given (codes "x") (codes "1") ∷ given (codes "y") (codes "2") ∷ []

abbrev wanted : List Attribute
wanted =
    record { name = unqualified (codes "x"); space = any_byte; required = true; standard = Free }
    ∷ record { name = unqualified (codes "y"); space = Wholes None None; required = true; standard = Free } ∷ []

x_right : IsRight wanted (given (codes "x") (codes "1"))
unfolding reads treated words_of is_white_space whole_number
x_right = (leaf (label.Int (pos 1)), refl, tt)

y_right : IsRight wanted (given (codes "y") (codes "2"))
unfolding reads treated words_of is_white_space whole_number
y_right = (leaf (label.Int (pos 2)), refl, tt)

both_right : All (IsRight wanted) both
both_right =
    All-cons (IsRight wanted) (given (codes "x") (codes "1")) (given (codes "y") (codes "2") ∷ []) x_right
    (All-cons (IsRight wanted) (given (codes "y") (codes "2")) [] y_right (All-nil (IsRight wanted)))

both_stand : All (Stands both) wanted
both_stand =
    All-cons (Stands both) (record { name = unqualified (codes "x"); space = any_byte; required = true; standard = Free }) (record { name = unqualified (codes "y"); space = Wholes None None; required = true; standard = Free } ∷ [])
    (λ f n. cc)
    (All-cons (Stands both) (record { name = unqualified (codes "y"); space = Wholes None None; required = true; standard = Free }) [] (λ f n. cc) (All-nil (Stands both)))

-- an element that is nil has a text, and its content is empty
nil_before_content : FirstFault parts 0 (item (codes "a") (nil_is (codes "true") ∷ both) 7 (said (codes "w") 70 ∷ [])) 70 NilWithContent
unfolding parts treated words_of is_white_space
nil_before_content = inr (refl, inr (refl, inr ((λ b. b), inr (both_right, inr (both_stand, (refl, refl))))))

-- empty content: the first child, whichever it is
element_before_text : FirstFault parts 0 (item (codes "a") both 7 (item (codes "f") [] 70 [] ∷ said (codes "w") 80 ∷ [])) 70 ElementNotAllowed
unfolding parts
element_before_text = inr (refl, inr (refl, inr ((λ b. b), inr (both_right, inr (both_stand, (refl, refl))))))

text_before_element : FirstFault parts 0 (item (codes "a") both 7 (said (codes "w") 70 ∷ item (codes "f") [] 80 [] ∷ [])) 70 TextNotAllowed
unfolding parts
text_before_element = inr (refl, inr (refl, inr ((λ b. b), inr (both_right, inr (both_stand, (refl, refl))))))

-- simple content: a text that isn't accepted, and behind it a child element
element_before_bad_text : FirstFault parts 1 (item (codes "s") [] 7 (said (codes "no") 10 ∷ item (codes "f") [] 70 [] ∷ [])) 70 ElementNotAllowed
unfolding parts
element_before_bad_text = inr (refl, inr (refl, inr ((λ b. b), inr (All-nil (IsRight []), inr (All-nil (Stands []), inl (refl, refl))))))

-- ---- child elements

abbrev pair : Particle
pair = seen pair_model

abbrev f_leaf : Leaf
f_leaf = leaf_at 1 3 (unqualified (codes "f")) (turn_of 0 0 ∷ turn_of 1 0 ∷ [])

abbrev g_leaf : Leaf
g_leaf = leaf_at 2 4 (unqualified (codes "g")) (turn_of 0 0 ∷ turn_of 2 0 ∷ [])

pair_taken : Lang pair 0 [] (f_leaf ∷ g_leaf ∷ [])
pair_taken = (
  1,
  (omega arith, omega arith),
  (
    f_leaf ∷ g_leaf ∷ [],
    [],
    refl,
    (
      f_leaf ∷ [],
      g_leaf ∷ [],
      refl,
      (1, (omega arith, omega arith), (f_leaf ∷ [], [], refl, refl, refl)),
      (g_leaf ∷ [], [], refl, (1, (omega arith, omega arith), (g_leaf ∷ [], [], refl, refl, refl)), refl),
    ),
    refl,
  ),
)

-- no pair begins with a `g`
no_g_first : Viable pair (unqualified (codes "g") ∷ []) → ⊥
no_g_first (w, r, h, n) = go (names w) (lang_opens pair 0 [] w h) n
  where
    go : (xs : List Name) → Opens (unqualified (codes "f") ∷ []) false xs → xs ≡ unqualified (codes "g") ∷ r → ⊥
    go [] o e = cc
    go (x ∷ xs) (inl o) e = let d : true ≡ false = ap (λ ys. bytes_eq (codes "f") (first_local ys)) (sym (ap (λ y. y ∷ xs) o) ∙ e) in cc
    go (x ∷ xs) (inr o) e = o

-- a text, and behind it an element that can't come first
text_before_unexpected : FirstFault parts 2 (item (codes "c") [] 7 (said (codes "w") 70 ∷ item (codes "g") [] 80 [] ∷ [])) 70 TextNotAllowed
unfolding parts is_white_space
text_before_unexpected =
    inr (refl, inr (refl, inr ((λ b. b), inr (All-nil (IsRight []), inr (All-nil (Stands []), ([], (f_leaf ∷ g_leaf ∷ [], pair_taken), inr (0, none, (refl, refl), (refl, refl, refl, refl))))))))

-- an element that can't come first, and behind it a text
unexpected_before_text : FirstFault parts 2 (item (codes "c") [] 7 (item (codes "g") [] 70 [] ∷ said (codes "w") 80 ∷ [])) 70 UnexpectedElement
unfolding parts
unexpected_before_text =
    inr (refl, inr (refl, inr ((λ b. b), inr (All-nil (IsRight []), inr (All-nil (Stands []), ([], (f_leaf ∷ g_leaf ∷ [], pair_taken), inr (0, none, (refl, refl), inl (no_g_first, refl, refl))))))))

-- an element that can't come first, with a text that isn't accepted
unexpected_before_own : FirstFault parts 2 (item (codes "c") [] 7 (item (codes "g") [] 70 (said (codes "no") 73 ∷ []) ∷ [])) 70 UnexpectedElement
unfolding parts
unexpected_before_own =
    inr (refl, inr (refl, inr ((λ b. b), inr (All-nil (IsRight []), inr (All-nil (Stands []), ([], (f_leaf ∷ g_leaf ∷ [], pair_taken), inr (0, none, (refl, refl), inl (no_g_first, refl, refl))))))))

-- an `f` with a text that isn't accepted, and behind it one that can't follow
own_before_later : FirstFault parts 2 (item (codes "c") [] 7 (item (codes "f") [] 70 (said (codes "no") 73 ∷ []) ∷ item (codes "f") [] 80 [] ∷ [])) 70 BadText
unfolding parts reads treated words_of is_white_space whole_number
own_before_later =
    inr (refl, inr (refl, inr ((λ b. b), inr (All-nil (IsRight []), inr (All-nil (Stands []), ([], (f_leaf ∷ g_leaf ∷ [], pair_taken), inr (0, none, (refl, refl), inr (f_leaf, refl, (g_leaf ∷ [], pair_taken), inr (refl, inr ((λ b. b), inr (All-nil (IsRight []), inr (All-nil (Stands []), inr (codes "no", refl, refl, refl)))))))))))))

-- the same, where the `g` is missing
own_before_end : FirstFault parts 2 (item (codes "c") [] 7 (item (codes "f") [] 70 (said (codes "no") 73 ∷ []) ∷ [])) 70 BadText
unfolding parts reads treated words_of is_white_space whole_number
own_before_end =
    inr (refl, inr (refl, inr ((λ b. b), inr (All-nil (IsRight []), inr (All-nil (Stands []), ([], (f_leaf ∷ g_leaf ∷ [], pair_taken), inr (0, none, (refl, refl), inr (f_leaf, refl, (g_leaf ∷ [], pair_taken), inr (refl, inr ((λ b. b), inr (All-nil (IsRight []), inr (All-nil (Stands []), inr (codes "no", refl, refl, refl)))))))))))))
