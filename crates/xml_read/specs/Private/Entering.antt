-- The element that a tag opens.
use Rattle.std.specs.Prelude.{◌≡◌, ℕ, Bool, true, false, ◌&&◌, List, [], ◌∷◌, nat_le, Option, Some, None}
use Rattle.std.specs.List.{list_all}
use Rattle.std.specs.Str.{is_utf8}
use Rattle.xml_pieces.specs.Pieces.{Tag}
use Rattle.base_texts.specs.declared.texts.Name.{Name}
use Rattle.xml_read.specs.declared.tags.Head.{Head}
use Rattle.xml_read.specs.declared.error.DocWhy.{DocWhy}
use Rattle.xml_read.specs.declared.error.DocWhy.TheVariants as why
use Rattle.xml_read.specs.declared.error.DocError.{DocError}
use Rattle.xml_read.specs.declared.error.DocError.TheVariants as errors
use Rattle.xml_pieces.specs.Namespaces.{is_long, is_unbound, bindings_of, attributes_of, element_name}
use Rattle.xml_pieces.specs.QNames.{prefix_of, is_qname}
use Rattle.xml_read.specs.Contexts.{tag_scope, start_reason, has_unbound, has_duplicate}

-- No reason is against a name where these bindings are in scope.
pub record IsNamed (written : List ℕ) (inside : List (List ℕ × List ℕ)) : Type 0 where
  pub qname : is_qname written ≡ true
  pub short : is_long written ≡ false
  pub bound : is_unbound inside (prefix_of written) ≡ false

-- The tests of a tag after those of its names, where these bindings are in scope within it.
abbrev pub inner_tests : Tag → List (List ℕ × List ℕ) → Bool → ℕ → List (Bool × DocWhy)
inner_tests tag inside ended depth =
    (has_unbound tag inside, why.UnboundPrefix)
    ∷ (has_duplicate tag inside, why.DuplicateAttribute)
    ∷ (ended, why.ExtraRoot)
    ∷ (nat_le 64 depth, why.TooDeep)
    ∷ []

-- The tests of the place of a tag, by whether the root has ended and by the number of open elements.
abbrev pub place_tests : Bool → ℕ → List (Bool × DocWhy)
place_tests ended depth = (ended, why.ExtraRoot) ∷ (nat_le 64 depth, why.TooDeep) ∷ []

-- No reason is against the tag, and it opens an element of this name with these attributes and bindings.
pub record EntersAs (outer : List (List ℕ × List ℕ)) (ended : Bool) (depth : ℕ) (tag : Tag) (name : Name) (attributes : List (Name × List ℕ)) (declares : List (List ℕ × List ℕ)) : Type 0 where
  pub none : start_reason tag outer ended depth ≡ None
  pub name_is : name ≡ element_name (tag_scope tag outer) tag.name
  pub attributes_are : attributes ≡ attributes_of (tag_scope tag outer) tag.attributes
  pub declares_are : declares ≡ bindings_of tag.attributes

-- No reason is against the tag, and `head` is the element that it opens.
pub record Enters (outer : List (List ℕ × List ℕ)) (ended : Bool) (depth : ℕ) (tag : Tag) (head : Head) : Type 0 where
  pub opens : EntersAs outer ended depth tag head.name head.attributes.items head.declares.items

-- The error is that reason at this place, or an allocation failure.
abbrev pub Stopped : Option DocWhy → ℕ → DocError → Type 0
Stopped reason at (errors.Syntax place why) = (place ≡ at) × (reason ≡ Some why)
Stopped reason at errors.Memory = Unit {0}

-- the values of attributes are UTF-8
abbrev pub have_utf8 : List (List ℕ × List ℕ) → Bool
have_utf8 attributes = list_all (λ a. is_utf8 a.1) attributes

-- The names of attributes are QNames.
abbrev pub are_named : List (List ℕ × List ℕ) → Bool
are_named attributes = list_all (λ a. is_qname a.0 && is_utf8 a.1) attributes
