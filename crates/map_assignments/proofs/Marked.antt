-- Which instructions stand on the types and parts of a map.
use Rattle.std.proofs.Common.{◌≡◌, ℕ, suc, ◌+◌, Bool, true, false, ◌||◌, Option, Some, None, List, [], ◌∷◌, ◌++◌, refl, ap, ◌∙◌}
use Rattle.std.specs.List.{list_any}
use Rattle.base_texts.specs.declared.texts.Name.{Name}
use Rattle.base_texts.specs.declared.white_space.WhiteSpace.{WhiteSpace}
use Rattle.base_texts.specs.declared.white_space.WhiteSpace.TheVariants.{Preserve, Replace, Collapse}
use Rattle.asn_names.specs.declared.restoration.NameForm.{NameForm}
use Rattle.asn_names.specs.Restoring.{form_of}
use Rattle.asn_types.specs.declared.marks.Instruction.{Instruction}
use Rattle.asn_types.specs.declared.marks.Instruction.TheVariants as mark
use Rattle.asn_types.specs.Marks.{is_attribute, is_untagged, is_use_nil, is_embed_values, is_use_order, is_list, is_use_union, has_attribute, has_untagged, has_use_nil, has_embed_values, has_use_order, has_list, has_use_union}
use Rattle.asn_types.specs.Modules.{one_if, nameless_parts}
use Rattle.asn_types.specs.Simples.{white_space_marks}
use Rattle.map_subjects.specs.declared.subjects.Subject.{Subject}
use Rattle.map_subjects.specs.declared.subjects.Subject.TheVariants as subject
use Rattle.map_assignments.specs.Plans.{Label, attribute, element, group, elements, groups, texts, order, item, base, content}
use Rattle.map_assignments.specs.Naming.{name_if, name_marks, namespace_marks, qualified_marks, text_if, text_marks, part_marks, sequence_marks}
use Rattle.map_assignments.specs.Mapped.{assignment_marks}
use Rattle.map_assignments.proofs.Shapes.{is_attribute_label, is_element_label}

-- an instruction of a kind that the names of XML never bring about
module _ (p : Instruction → Bool) (names : (t : List ℕ) → p (mark.Name t) ≡ false) (spaces : (t : List ℕ) → p (mark.Namespace t) ≡ false) where
  name-lacks : (o : Option NameForm) (t : List ℕ) → list_any p (name_if o t) ≡ false
  name-lacks None t = refl
  name-lacks (Some f) t = ap (λ b. b || false) (names t)

  both-lack : (o : Option NameForm) (t space : List ℕ) → list_any p (name_if o t ++ namespace_marks space) ≡ false
  both-lack None t [] = refl
  both-lack None t (b ∷ bs) = ap (λ c. c || false) (spaces (b ∷ bs))
  both-lack (Some f) t [] = ap (λ c. c || false) (names t)
  both-lack (Some f) t (b ∷ bs) = ap (λ c. c || (p (mark.Namespace (b ∷ bs)) || false)) (names t) ∙ ap (λ c. c || false) (spaces (b ∷ bs))

  pub names-lack : (generated name : List ℕ) → list_any p (name_marks generated name) ≡ false
  names-lack generated name = name-lacks (form_of generated name) name

  pub qualified-lack : (generated : List ℕ) (name : Name) → list_any p (qualified_marks generated name) ≡ false
  qualified-lack generated name = both-lack (form_of generated name.local) name.local name.space

-- or a simple type
module _ (p : Instruction → Bool) (how_lacks : (how : WhiteSpace) → p (mark.WhiteSpace how) ≡ false) (texts_lack : (i : ℕ) (t : List ℕ) → p (mark.Text i t) ≡ false) where
  one-lacks : (o : Option NameForm) (i : ℕ) (word : List ℕ) (rest : List Instruction) → list_any p rest ≡ false → list_any p (text_if o i word ++ rest) ≡ false
  one-lacks None i word rest h = h
  one-lacks (Some f) i word rest h = ap (λ b. b || list_any p rest) (texts_lack i word) ∙ h

  text-lacks : (i : ℕ) (gs words : List (List ℕ)) → list_any p (text_marks i gs words) ≡ false
  text-lacks i [] [] = refl
  text-lacks i [] (word ∷ words) = refl
  text-lacks i (g ∷ gs) [] = refl
  text-lacks i (g ∷ gs) (word ∷ words) = one-lacks (form_of g word) i word (text_marks (suc i) gs words) (text-lacks (suc i) gs words)

  space-lacks : (how : WhiteSpace) (rest : List Instruction) → list_any p rest ≡ false → list_any p (white_space_marks how ++ rest) ≡ false
  space-lacks Preserve rest h = h
  space-lacks Replace rest h = ap (λ b. b || list_any p rest) (how_lacks Replace) ∙ h
  space-lacks Collapse rest h = ap (λ b. b || list_any p rest) (how_lacks Collapse) ∙ h

  pub words-lack : (how : WhiteSpace) (gs words : List (List ℕ)) → list_any p (white_space_marks how ++ text_marks 0 gs words) ≡ false
  words-lack how gs words = space-lacks how (text_marks 0 gs words) (text-lacks 0 gs words)

  pub space-alone-lacks : (how : WhiteSpace) → list_any p (white_space_marks how) ≡ false
  space-alone-lacks Preserve = refl
  space-alone-lacks Replace = ap (λ b. b || false) (how_lacks Replace)
  space-alone-lacks Collapse = ap (λ b. b || false) (how_lacks Collapse)

-- none of the instructions of which more is asked
pub record AsksNothing (marks : List Instruction) : Type 0 where
  pub attribute : has_attribute marks ≡ false
  pub embed_values : has_embed_values marks ≡ false
  pub use_nil : has_use_nil marks ≡ false
  pub use_order : has_use_order marks ≡ false
  pub list : has_list marks ≡ false
  pub use_union : has_use_union marks ≡ false

pub nothing-asked : AsksNothing []
nothing-asked = record { attribute = refl; embed_values = refl; use_nil = refl; use_order = refl; list = refl; use_union = refl }

pub number-asks : AsksNothing (mark.UseNumber ∷ [])
number-asks = record { attribute = refl; embed_values = refl; use_nil = refl; use_order = refl; list = refl; use_union = refl }

pub words-ask : (how : WhiteSpace) (gs words : List (List ℕ)) → AsksNothing (white_space_marks how ++ text_marks 0 gs words)
words-ask how gs words = record {
  attribute = words-lack is_attribute (λ h. refl) (λ i t. refl) how gs words;
  embed_values = words-lack is_embed_values (λ h. refl) (λ i t. refl) how gs words;
  use_nil = words-lack is_use_nil (λ h. refl) (λ i t. refl) how gs words;
  use_order = words-lack is_use_order (λ h. refl) (λ i t. refl) how gs words;
  list = words-lack is_list (λ h. refl) (λ i t. refl) how gs words;
  use_union = words-lack is_use_union (λ h. refl) (λ i t. refl) how gs words;
}

pub space-asks : (how : WhiteSpace) → AsksNothing (white_space_marks how)
space-asks how = record {
  attribute = space-alone-lacks is_attribute (λ h. refl) (λ i t. refl) how;
  embed_values = space-alone-lacks is_embed_values (λ h. refl) (λ i t. refl) how;
  use_nil = space-alone-lacks is_use_nil (λ h. refl) (λ i t. refl) how;
  use_order = space-alone-lacks is_use_order (λ h. refl) (λ i t. refl) how;
  list = space-alone-lacks is_list (λ h. refl) (λ i t. refl) how;
  use_union = space-alone-lacks is_use_union (λ h. refl) (λ i t. refl) how;
}

-- parts
pub part-attribute : (l : Label) (g : List ℕ) → has_attribute (part_marks l g) ≡ is_attribute_label l
part-attribute (attribute name standard) g = refl
part-attribute (element name) g = qualified-lack is_attribute (λ t. refl) (λ t. refl) g name
part-attribute (group k) g = refl
part-attribute (elements name) g = refl
part-attribute (groups k) g = refl
part-attribute texts g = refl
part-attribute order g = refl
part-attribute item g = refl
part-attribute base g = refl
part-attribute content g = refl

-- which labels are those of groups
abbrev pub is_untagged_label : Label → Bool
is_untagged_label (group k) = true
is_untagged_label (elements name) = true
is_untagged_label (groups k) = true
is_untagged_label base = true
is_untagged_label _ = false

pub part-untagged : (l : Label) (g : List ℕ) → has_untagged (part_marks l g) ≡ is_untagged_label l
part-untagged (attribute name standard) g = qualified-lack is_untagged (λ t. refl) (λ t. refl) g name
part-untagged (element name) g = qualified-lack is_untagged (λ t. refl) (λ t. refl) g name
part-untagged (group k) g = refl
part-untagged (elements name) g = refl
part-untagged (groups k) g = refl
part-untagged texts g = refl
part-untagged order g = refl
part-untagged item g = refl
part-untagged base g = refl
part-untagged content g = refl

pub element-tagged : (l : Label) (g : List ℕ) → is_element_label l ≡ true → has_untagged (part_marks l g) ≡ false
element-tagged (attribute name standard) g e = absurd cc
element-tagged (element name) g e = qualified-lack is_untagged (λ t. refl) (λ t. refl) g name
element-tagged (group k) g e = absurd cc
element-tagged (elements name) g e = absurd cc
element-tagged (groups k) g e = absurd cc
element-tagged texts g e = absurd cc
element-tagged order g e = absurd cc
element-tagged item g e = absurd cc
element-tagged base g e = absurd cc
element-tagged content g e = absurd cc

pub element-no_attribute : (l : Label) (g : List ℕ) → is_element_label l ≡ true → has_attribute (part_marks l g) ≡ false
element-no_attribute (attribute name standard) g e = absurd cc
element-no_attribute (element name) g e = qualified-lack is_attribute (λ t. refl) (λ t. refl) g name
element-no_attribute (group k) g e = refl
element-no_attribute (elements name) g e = refl
element-no_attribute (groups k) g e = refl
element-no_attribute texts g e = refl
element-no_attribute order g e = refl
element-no_attribute item g e = refl
element-no_attribute base g e = refl
element-no_attribute content g e = refl

-- a SEQUENCE
pub sequence-no_attribute : (nillable mixed ordered : Bool) → has_attribute (sequence_marks nillable mixed ordered) ≡ false
sequence-no_attribute true true true = refl
sequence-no_attribute true true false = refl
sequence-no_attribute true false true = refl
sequence-no_attribute true false false = refl
sequence-no_attribute false true true = refl
sequence-no_attribute false true false = refl
sequence-no_attribute false false true = refl
sequence-no_attribute false false false = refl

pub sequence-no_list : (nillable mixed ordered : Bool) → has_list (sequence_marks nillable mixed ordered) ≡ false
sequence-no_list true true true = refl
sequence-no_list true true false = refl
sequence-no_list true false true = refl
sequence-no_list true false false = refl
sequence-no_list false true true = refl
sequence-no_list false true false = refl
sequence-no_list false false true = refl
sequence-no_list false false false = refl

pub sequence-no_union : (nillable mixed ordered : Bool) → has_use_union (sequence_marks nillable mixed ordered) ≡ false
sequence-no_union true true true = refl
sequence-no_union true true false = refl
sequence-no_union true false true = refl
sequence-no_union true false false = refl
sequence-no_union false true true = refl
sequence-no_union false true false = refl
sequence-no_union false false true = refl
sequence-no_union false false false = refl

pub sequence-order : (nillable mixed ordered : Bool) → has_use_order (sequence_marks nillable mixed ordered) ≡ ordered
sequence-order true true true = refl
sequence-order true true false = refl
sequence-order true false true = refl
sequence-order true false false = refl
sequence-order false true true = refl
sequence-order false true false = refl
sequence-order false false true = refl
sequence-order false false false = refl

pub sequence-nil : (nillable mixed ordered : Bool) → has_use_nil (sequence_marks nillable mixed ordered) ≡ nillable
sequence-nil true true true = refl
sequence-nil true true false = refl
sequence-nil true false true = refl
sequence-nil true false false = refl
sequence-nil false true true = refl
sequence-nil false true false = refl
sequence-nil false false true = refl
sequence-nil false false false = refl

pub sequence-embeds : (nillable mixed ordered : Bool) → has_embed_values (sequence_marks nillable mixed ordered) ≡ mixed
sequence-embeds true true true = refl
sequence-embeds true true false = refl
sequence-embeds true false true = refl
sequence-embeds true false false = refl
sequence-embeds false true true = refl
sequence-embeds false true false = refl
sequence-embeds false false true = refl
sequence-embeds false false false = refl

-- how many of its parts at the front have items without an identifier
pub sequence-nameless : (nillable mixed ordered : Bool) → nameless_parts (sequence_marks nillable mixed ordered) ≡ one_if mixed + one_if ordered
sequence-nameless true true true = refl
sequence-nameless true true false = refl
sequence-nameless true false true = refl
sequence-nameless true false false = refl
sequence-nameless false true true = refl
sequence-nameless false true false = refl
sequence-nameless false false true = refl
sequence-nameless false false false = refl

-- an assignment
pub is_attribute_subject : Subject → Bool
is_attribute_subject (subject.Attribute n) = true
is_attribute_subject _ = false

pub assignment-attribute : (w : Subject) (name : Name) (g : List ℕ) → has_attribute (assignment_marks w name g) ≡ true → (n : ℕ) × (w ≡ subject.Attribute n)
assignment-attribute (subject.Element n) name g e = let h = qualified-lack is_attribute (λ t. refl) (λ t. refl) g name in absurd cc
assignment-attribute (subject.Attribute n) name g e = (n, refl)
assignment-attribute (subject.Simple n) name g e = let h = names-lack is_attribute (λ t. refl) (λ t. refl) g name.local in absurd cc
assignment-attribute (subject.Complex n) name g e = let h = names-lack is_attribute (λ t. refl) (λ t. refl) g name.local in absurd cc
assignment-attribute (subject.Nillable n) name g e = absurd cc
