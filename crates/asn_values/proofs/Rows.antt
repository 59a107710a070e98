-- Types and values written out: what the definitions say of each computes.
use Rattle.std.proofs.Common.{◌≡◌, ℕ, Bool, true, false, pos, negsuc, Some, None, List, [], ◌∷◌, refl, arith, codes}
use Rattle.std.specs.Prelude.{map}
use Rattle.base_trees.specs.Rose.{Rose, node, none as no_kids, more as with_kid, roses_of}
use Rattle.base_texts.specs.declared.white_space.WhiteSpace.TheVariants.{Collapse}
use Rattle.simple_types.specs.declared.simples.Class.TheVariants.{Any}
use Rattle.simple_types.specs.Space.{Space, none, more, Wholes, Words, Characters, UnionOf}
use Rattle.simple_types.specs.declared.labels.ValueLabel.{ValueLabel}
use Rattle.simple_types.specs.declared.standards.Standard.{Standard}
use Rattle.simple_types.specs.declared.standards.Standard.TheVariants.{Free, Default, Fixed}
use Rattle.simple_types.specs.declared.labels.ValueLabel.TheVariants as value
use Rattle.asn_types.specs.declared.marks.Instruction.{Instruction}
use Rattle.asn_types.specs.declared.marks.Instruction.TheVariants as mark
use Rattle.asn_types.specs.declared.types.Component.{Component}
use Rattle.asn_types.specs.declared.types.Form.{Form}
use Rattle.asn_types.specs.declared.types.Form.TheVariants as form
use Rattle.asn_types.specs.declared.types.TypeLabel.{TypeLabel}
use Rattle.asn_types.specs.Refs.{follow}
use Rattle.asn_types.specs.Simples.{MapsTo}
use Rattle.simple_types.specs.Reading.{spelled}
use Rattle.asn_values.specs.Values.{child_count, count_in, HasTextCount, HasOrder, Kept}
use Rattle.asn_values.proofs.JustSet.{just_set}

abbrev part : List ℕ → List Instruction → Component
part identifier marks = record { identifier = identifier; optional = false; standard = Free; marks = marks }

abbrev type : Form → List Instruction → List (Rose TypeLabel) → Rose TypeLabel
type f marks ts = node (record { form = f; marks = marks }) (roses_of ts)

abbrev leaf : ValueLabel → Rose ValueLabel
leaf v = node v no_kids

abbrev chosen : ℕ → Rose ValueLabel → Rose ValueLabel
chosen i v = node (value.Choice i) (with_kid v no_kids)

-- INTEGER (-2147483648..2147483647)
abbrev int : Rose TypeLabel
int = type (form.Int (Some (negsuc 2147483647)) (Some (pos 2147483647))) [] []

abbrev ints : Space
ints = Wholes (Some (negsuc 2147483647)) (Some (pos 2147483647))

abbrev token : Rose TypeLabel
token = type (form.Utf8 0 None Any) (mark.WhiteSpace Collapse ∷ []) []

-- [WHITESPACE COLLAPSE] [TEXT:x7 AS "7"] ENUMERATED { x7 }
abbrev seven : Rose TypeLabel
seven = type (form.Words (codes "x7" ∷ []) (codes "7" ∷ [])) (mark.WhiteSpace Collapse ∷ mark.Text 0 (codes "7") ∷ []) []

-- [USE-UNION] CHOICE { alt INTEGER (-2147483648..2147483647), alt-1 [WHITESPACE COLLAPSE] UTF8String }
abbrev u : Rose TypeLabel
u = type (form.Choice (part (codes "alt") [] ∷ part (codes "alt-1") [] ∷ [])) (mark.UseUnion ∷ []) (int ∷ token ∷ [])

abbrev u_space : Space
u_space = UnionOf (more ints (more (Characters Collapse 0 None Any) none))

abbrev both : List Component
both = part (codes "alt") [] ∷ part (codes "alt-1") [] ∷ []

u-maps : MapsTo u_space u
u-maps = (both, (refl, refl), ((refl, refl), ((refl, refl), tt)), ((refl, refl), ((refl, refl), tt)))

-- [USE-UNION] CHOICE { alt [WHITESPACE COLLAPSE] [TEXT:x7 AS "7"] ENUMERATED { x7 }, alt-1 INTEGER (-2147483648..2147483647) }
abbrev w : Rose TypeLabel
w = type (form.Choice (part (codes "alt") [] ∷ part (codes "alt-1") [] ∷ [])) (mark.UseUnion ∷ []) (seven ∷ int ∷ [])

abbrev w_space : Space
w_space = UnionOf (more (Words Collapse (codes "7" ∷ [])) (more ints none))

w-maps : MapsTo w_space w
w-maps = (both, (refl, refl), ((refl, refl), ((refl, refl), tt)), ((codes "x7" ∷ [], (refl, refl)), ((refl, refl), tt)))

-- [EMBED-VALUES] SEQUENCE { embed-values SEQUENCE OF UTF8String, choice-list [UNTAGGED] SEQUENCE OF choice [UNTAGGED] CHOICE { b UTF8String, i UTF8String } }
abbrev text : Rose TypeLabel
text = type (form.Utf8 0 None Any) [] []

abbrev texts : Rose TypeLabel
texts = type (form.SequenceOf (part [] []) 0 None) [] (text ∷ [])

abbrev choice : Rose TypeLabel
choice = type (form.Choice (part (codes "b") [] ∷ part (codes "i") [] ∷ [])) [] (text ∷ text ∷ [])

abbrev choices : Rose TypeLabel
choices = type (form.SequenceOf (part (codes "choice") (mark.Untagged ∷ [])) 0 None) [] (choice ∷ [])

abbrev p : Rose TypeLabel
p = type (form.Sequence (part (codes "embed-values") [] ∷ part (codes "choice-list") (mark.Untagged ∷ []) ∷ [])) (mark.EmbedValues ∷ []) (texts ∷ choices ∷ [])

abbrev list : List (Rose ValueLabel) → Rose ValueLabel
list vs = node value.SequenceOf (roses_of vs)

-- a value of p with one element b and these texts
abbrev p_value : List (Rose ValueLabel) → Rose ValueLabel
p_value ts = node (value.Sequence (true ∷ true ∷ [])) (roses_of (list ts ∷ list (chosen 0 (leaf (value.Utf8 (codes "x"))) ∷ []) ∷ []))

p-children : child_count [] p (p_value []) ≡ 1
unfolding child_count count_in follow
p-children = refl

abbrev p_label : TypeLabel
p_label = record { form = form.Sequence (part (codes "embed-values") [] ∷ part (codes "choice-list") (mark.Untagged ∷ []) ∷ []); marks = mark.EmbedValues ∷ [] }

p-texts : HasTextCount [] p_label p (p_value (leaf (value.Utf8 (codes "Hi ")) ∷ leaf (value.Utf8 (codes "!")) ∷ []))
unfolding child_count count_in follow
p-texts = refl

p-refused : HasTextCount [] p_label p (p_value (leaf (value.Utf8 []) ∷ [])) → ⊥
unfolding child_count count_in follow
p-refused h = omega (arith, h)

-- [USE-ORDER] SEQUENCE { order SEQUENCE OF ENUMERATED { a, b }, a BOOLEAN, b BOOLEAN OPTIONAL }
abbrev truth : Rose TypeLabel
truth = type form.Bool [] []

abbrev order : Rose TypeLabel
order = type (form.SequenceOf (part [] []) 0 None) [] (type (form.Order (codes "a" ∷ codes "b" ∷ [])) [] [] ∷ [])

abbrev may_be : List ℕ → Standard → List Instruction → Component
may_be identifier standard marks = record { identifier = identifier; optional = true; standard = standard; marks = marks }

abbrev y_label : TypeLabel
y_label = record { form = form.Sequence (part (codes "order") [] ∷ part (codes "a") [] ∷ may_be (codes "b") Free [] ∷ []); marks = mark.UseOrder ∷ [] }

abbrev y : Rose TypeLabel
y = node y_label (roses_of (order ∷ truth ∷ truth ∷ []))

abbrev orders : List ℕ → Rose ValueLabel
orders numbers = list (map (λ i. leaf (value.Enum i)) numbers)

-- values of y with this order: with a and b, and with a alone
abbrev y_both : List ℕ → Rose ValueLabel
y_both numbers = node (value.Sequence (true ∷ true ∷ true ∷ [])) (roses_of (orders numbers ∷ leaf (value.Bool false) ∷ leaf (value.Bool true) ∷ []))

abbrev y_alone : List ℕ → Rose ValueLabel
y_alone numbers = node (value.Sequence (true ∷ true ∷ false ∷ [])) (roses_of (orders numbers ∷ leaf (value.Bool true) ∷ []))

y-turned : HasOrder [] y_label y (y_both (1 ∷ 0 ∷ []))
y-turned = (just_set (true ∷ true ∷ []) (1 ∷ 0 ∷ [])).0 refl

y-one : HasOrder [] y_label y (y_alone (0 ∷ []))
y-one = (just_set (true ∷ false ∷ []) (0 ∷ [])).0 refl

false_is_true : false ≡ true → ⊥
false_is_true e = cc

y-twice : HasOrder [] y_label y (y_both (0 ∷ 0 ∷ [])) → ⊥
y-twice h = false_is_true ((just_set (true ∷ true ∷ []) (0 ∷ 0 ∷ [])).1 h)

y-absent : HasOrder [] y_label y (y_alone (0 ∷ 1 ∷ [])) → ⊥
y-absent h = false_is_true ((just_set (true ∷ false ∷ []) (0 ∷ 1 ∷ [])).1 h)

y-left_out : HasOrder [] y_label y (y_alone []) → ⊥
y-left_out h = false_is_true ((just_set (true ∷ false ∷ []) []).1 h)

abbrev word : List ℕ → Rose ValueLabel
word text = leaf (value.Utf8 text)

-- v [ATTRIBUTE] [WHITESPACE COLLAPSE] UTF8String DEFAULT "on"
abbrev v_part : Component
v_part = may_be (codes "v") (Default (codes "on")) (mark.Attribute ∷ [])

v-other : Kept [] v_part token (word (codes "off"))
unfolding follow spelled
v-other = λ e. cc

v-default : Kept [] v_part token (word (codes "on")) → ⊥
unfolding follow spelled
v-default h = h refl

-- x [ATTRIBUTE] [WHITESPACE COLLAPSE] UTF8String, which has the value on alone: where it may be absent, and where not
abbrev fixed_part : Bool → Component
fixed_part may = record { identifier = codes "x"; optional = may; standard = Fixed (codes "on"); marks = mark.Attribute ∷ [] }

x-optional : (v : Rose ValueLabel) → Kept [] (fixed_part true) token v → ⊥
x-optional v h = let e = h.0 in cc

x-required : Kept [] (fixed_part false) token (word (codes "on"))
unfolding follow spelled
x-required = (refl, refl)

x-other : Kept [] (fixed_part false) token (word (codes "off")) → ⊥
unfolding follow spelled
x-other h = let e = h.1 in cc
