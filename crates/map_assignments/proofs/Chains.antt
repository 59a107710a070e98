-- Which references are reached from a type without passing an element.
use Rattle.std.proofs.Common.{◌≡◌, ℕ, zero, suc, ◌+◌, ◌<◌, ◌≤◌, Bool, true, false, ◌&&◌, Option, List, [], ◌∷◌, ◌++◌, length, inl, inr, true≢false, refl, sym, ap, subst, ◌∙◌, arith}
use Rattle.std.specs.Prelude.{MatchBool, IfSome, if◌then◌else◌, ◌==◌}
use Rattle.std.specs.Str.{chars}
use Rattle.std.specs.Char.{is_ascii_digit}
use Rattle.std.proofs.lemmas.Bool.Decides.{eqb_tells}
use Rattle.base_trees.specs.Rose.{Rose, Roses}
use Rattle.asn_names.specs.declared.conversion.NameKind.{NameKind}
use Rattle.asn_names.specs.declared.conversion.NameKind.TheVariants.{Identifier}
use Rattle.asn_names.specs.Conversion.{converted, begun, letter_x, cased, joined}
use Rattle.base_texts.specs.Limits.{is_empty}
use Rattle.asn_types.specs.declared.roles.Role.{Role}
use Rattle.asn_types.specs.declared.roles.Role.TheVariants.{Attribute, Element, Group, Content, Embed, Order, Item, Alternative}
use Rattle.asn_types.specs.declared.types.Component.{Component}
use Rattle.asn_types.specs.declared.types.Form.TheVariants as form
use Rattle.asn_types.specs.declared.types.TypeLabel.{TypeLabel}
use Rattle.asn_types.specs.declared.modules.Assignment.{Assignment}
use Rattle.asn_types.specs.Marks.{has_attribute, has_untagged, has_use_nil, has_use_order, has_use_union}
use Rattle.asn_types.specs.Parts.{parts_of}
use Rattle.asn_types.specs.Roles.{role_of, is_content, is_embed, order_place, is_order, is_item}
use Rattle.asn_types.specs.Refs.{body_at, is_element, NearRefs, NearRefsOf, ChainsWithin}
use Rattle.schema_components.specs.Components.{Set}
use Rattle.map_subjects.specs.declared.subjects.Subject.{Subject}
use Rattle.map_subjects.specs.declared.subjects.NamedSubject.{NamedSubject}
use Rattle.map_subjects.specs.Subjects.{place_in, AreEntries}
use Rattle.map_assignments.specs.Plans.{Label, attribute, element, group, elements, groups, texts, order, item, base, content, TypePlan, simple, sequence, choice, repeated, order_items, reference, Parts, finish, part}
use Rattle.map_assignments.specs.Planning.{body}
use Rattle.map_assignments.specs.Naming.{type_label, identifier_of, wanted, named_part, repeated_part, sequence_marks, IsNamed, AreNamed}
use Rattle.map_assignments.specs.Mapped.{AreMapped}
use Rattle.map_assignments.proofs.Shapes.{is_element_label, NoElements, IsSequence, InOrder, IsPlan, ArePlans, Refers, ReferInAll, depth_of, either-way, passed, refers-weaker}
use Rattle.map_assignments.proofs.Marked.{element-tagged, element-no_attribute}
use Rattle.map_assignments.proofs.Resolving.{simple-near}
use Rattle.map_assignments.proofs.ModulePlaces.{located}

-- ---- roles of elements

abbrev pub picked : Bool → Bool → Bool → Bool → Bool → Bool → Bool → Role
picked a u c d o e f =
    if a then Attribute
    else (if u then Group else (if c then Content else (if d then Embed else (if o then Order else (if e then Item else (if f then Alternative else Element))))))

pub picked-element : (a u c d o e f : Bool) → a ≡ false → u ≡ false → c ≡ false → d ≡ false → o ≡ false → e ≡ false → f ≡ false → picked a u c d o e f ≡ Element
picked-element a u c d o e f ha hu hc hd ho he hf =
    ap (λ b. picked b u c d o e f) ha ∙ ap (λ b. picked false b c d o e f) hu ∙ ap (λ b. picked false false b d o e f) hc
    ∙ ap (λ b. picked false false false b o e f) hd ∙ ap (λ b. picked false false false false b e f) ho
    ∙ ap (λ b. picked false false false false false b f) he ∙ ap (λ b. picked false false false false false false b) hf

pub and-false : (b : Bool) → (b && false) ≡ false
and-false true = refl
and-false false = refl

-- no part has the order of elements where there is no USE-ORDER
pub no-order : (l : TypeLabel) (i : ℕ) → has_use_order l.marks ≡ false → is_order l i ≡ false
no-order l i e = ap (λ b. (i == order_place l.marks) && b) e ∙ and-false (i == order_place l.marks)

-- such a component has the role of an element
abbrev pub MakesElement : TypeLabel → ℕ → Type 0
MakesElement l i = (c : Component) → has_attribute c.marks ≡ false → has_untagged c.marks ≡ false → is_item l.form c ≡ false → role_of l i c ≡ Element

pub makes-element : (l : TypeLabel) (i : ℕ) → has_use_nil l.marks ≡ false → has_use_order l.marks ≡ false → has_use_union l.marks ≡ false → is_embed l i ≡ false
    → MakesElement l i
makes-element l i nil untold union embed c a u it =
    picked-element (has_attribute c.marks) (has_untagged c.marks) (is_content l i) (is_embed l i) (is_order l i) (is_item l.form c) (has_use_union l.marks)
    a u (ap (λ b. b && (i + 1 == length (parts_of l.form))) nil) embed (no-order l i untold) it union

abbrev HaveRoles : TypeLabel → ℕ → Parts → Type 0
HaveRoles l i finish = Unit {0}
HaveRoles l i (part k optional p ps) = (is_element_label k ≡ true → MakesElement l i) × HaveRoles l (i + 1) ps

roles-none : (l : TypeLabel) (i : ℕ) (ps : Parts) → NoElements ps → HaveRoles l i ps
roles-none l i finish h = tt
roles-none l i (part k optional p ps) h = ((λ e. absurd (true≢false (sym e ∙ h.0))), roles-none l (i + 1) ps h.1)

roles-from : (l : TypeLabel) (i : ℕ) (ps : Parts) → has_use_nil l.marks ≡ false → has_use_order l.marks ≡ false → has_use_union l.marks ≡ false → ((j : ℕ) → i ≤ j → is_embed l j ≡ false) → HaveRoles l i ps
roles-from l i finish nil untold union embed = tt
roles-from l i (part k optional p ps) nil untold union embed =
    ((λ e. makes-element l i nil untold union (embed i (omega arith))), roles-from l (i + 1) ps nil untold union (λ j below. embed j (omega (arith, below))))

pub not-first : (j : ℕ) → 0 < j → (j == 0) ≡ false
not-first j below = elim (eqb_tells j 0) [
  | inl h ↦ absurd (omega (arith, below, h.1))
  | inr h ↦ h.0
]

pub not-same : (j n : ℕ) → n < j → (j == n) ≡ false
not-same j n below = elim (eqb_tells j n) [
  | inl h ↦ absurd (omega (arith, below, h.1))
  | inr h ↦ h.0
]

-- behind the part that has the order
pub later-elements : (l : TypeLabel) (n : ℕ) → order_place l.marks ≡ n → has_use_nil l.marks ≡ false → has_use_union l.marks ≡ false → ((j : ℕ) → n ≤ j → is_embed l j ≡ false)
    → (j : ℕ) → n < j → MakesElement l j
later-elements l n at nil union embeds j below c a u it =
    picked-element (has_attribute c.marks) (has_untagged c.marks) (is_content l j) (is_embed l j) (is_order l j) (is_item l.form c) (has_use_union l.marks)
    a u (ap (λ b. b && (j + 1 == length (parts_of l.form))) nil) (embeds j (omega (arith, below)))
    (ap (λ k. (j == k) && has_use_order l.marks) at ∙ ap (λ b. b && has_use_order l.marks) (not-same j n below)) it union

roles-later : (l : TypeLabel) (i : ℕ) (ps : Parts) → ((j : ℕ) → i ≤ j → MakesElement l j) → HaveRoles l i ps
roles-later l i finish makes = tt
roles-later l i (part k optional p ps) makes = ((λ e. makes i (omega arith)), roles-later l (i + 1) ps (λ j below. makes j (omega (arith, below))))

sequence-roles : (nillable mixed ordered : Bool) (parts : List Component) (ps : Parts) → IsSequence nillable mixed ps → (ordered ≡ true → InOrder nillable mixed ps)
    → HaveRoles (type_label (form.Sequence parts) (sequence_marks nillable mixed ordered)) 0 ps
sequence-roles true mixed ordered parts ps h o = roles-none (type_label (form.Sequence parts) (sequence_marks true mixed ordered)) 0 ps ((h.0 refl).1)
sequence-roles false false false parts ps h o =
    roles-from (type_label (form.Sequence parts) (sequence_marks false false false)) 0 ps refl refl refl (λ j below. and-false (j == 0))
sequence-roles false true false parts finish h o = tt
sequence-roles false true false parts (part k optional p ps) h o = (
  (λ e. absurd (true≢false (sym e ∙ (h.1 refl).0))),
  roles-from (type_label (form.Sequence parts) (sequence_marks false true false)) (0 + 1) ps refl refl refl
      (λ j below. ap (λ b. b && true) (not-first j (omega (arith, below)))),
)
sequence-roles false false true parts ps h o =
    let l = type_label (form.Sequence parts) (sequence_marks false false true) in
    subst (HaveRoles l 0) (sym ((o refl).is)) (
      (λ e. absurd cc),
      roles-later l (0 + 1) _ (λ j below. later-elements l 0 refl refl refl (λ i less. and-false (i == 0)) j (omega (arith, below))),
    )
sequence-roles false true true parts ps h o =
    let l = type_label (form.Sequence parts) (sequence_marks false true true) in
    subst (HaveRoles l 0) (sym ((o refl).is)) (
      (λ e. absurd cc),
      (
        (λ e. absurd cc),
        roles-later l (0 + 1 + 1) _
            (λ j below. later-elements l 1 refl refl refl (λ i less. ap (λ b. b && true) (not-first i (omega (arith, less)))) j (omega (arith, below))),
      ),
    )

choice-roles : (parts : List Component) (ps : Parts) → HaveRoles (type_label (form.Choice parts) []) 0 ps
choice-roles parts ps = roles-from (type_label (form.Choice parts) []) 0 ps refl refl refl (λ j below. and-false (j == 0))

-- ---- identifiers aren't empty

digit-filled : (b : Bool) (xs ys : List ℕ) (c d : ℕ) → is_empty (if b then c ∷ xs else (d ∷ ys)) ≡ false
digit-filled true xs ys c d = refl
digit-filled false xs ys c d = refl

begun-filled : (kind : NameKind) (cs : List ℕ) → is_empty (begun kind cs) ≡ false
begun-filled kind [] = refl
begun-filled kind (c ∷ cs) = digit-filled (is_ascii_digit c) (c ∷ cs) cs (letter_x kind) (cased kind c)

identifier-filled : (text : List ℕ) → is_empty (identifier_of text) ≡ false
unfolding converted
identifier-filled text = begun-filled Identifier (joined (chars text))

element-filled : (l : Label) → is_element_label l ≡ true → is_empty (wanted l) ≡ false
element-filled (attribute name standard) e = absurd cc
element-filled (element name) e = identifier-filled name.local
element-filled (group k) e = absurd cc
element-filled (elements name) e = absurd cc
element-filled (groups k) e = absurd cc
element-filled texts e = absurd cc
element-filled order e = absurd cc
element-filled item e = absurd cc
element-filled base e = absurd cc
element-filled content e = absurd cc

pub repeated-element : (l : Label) (least : ℕ) (most : Option ℕ) → is_element_label l ≡ true → role_of (type_label (form.SequenceOf (repeated_part l) least most) []) 0 (repeated_part l) ≡ Element
repeated-element l least most e =
    makes-element (type_label (form.SequenceOf (repeated_part l) least most) []) 0 refl refl refl refl (repeated_part l)
    (element-no_attribute l (wanted l) e) (element-tagged l (wanted l) e) (element-filled l e)

-- ---- references

module _ (s : Set) (place : Subject → ℕ) (P : ℕ → Type 0) where
  -- of a part
  at-part : (k : Label) (r : Role) (p : TypePlan) (u : Rose TypeLabel) → (is_element_label k ≡ true → r ≡ Element) → MatchBool (is_element_label k) (Unit {0}) (Refers (λ w. P (place w)) p)
      → (Refers (λ w. P (place w)) p → NearRefs P u) → MatchBool (is_element r) (Unit {0}) (NearRefs P u)
  at-part k r p u role refers f = by (is_element_label k) refl refers
    where
      by : (b : Bool) → is_element_label k ≡ b → MatchBool b (Unit {0}) (Refers (λ w. P (place w)) p) → MatchBool (is_element r) (Unit {0}) (NearRefs P u)
      by true e h = passed (is_element r) (NearRefs P u) (ap is_element (role e))
      by false e h = either-way (is_element r) (NearRefs P u) (f h)

  mutual
    unfolding NearRefs NearRefsOf

    pub named-near : (p : TypePlan) (t : Rose TypeLabel) → IsPlan s p → Refers (λ w. P (place w)) p → IsNamed place p t → NearRefs P t
    named-near (simple sp) t g r h = simple-near P sp t h
    named-near (sequence nillable mixed ordered ps) t g r h =
        subst (NearRefs P) (sym h.2)
        (tt, parts-near (type_label (form.Sequence h.0) (sequence_marks nillable mixed ordered)) 0 [] ps h.0 h.1 (λ c. refl) g.2 (sequence-roles nillable mixed ordered h.0 ps g.0 g.3) r h.3)
    named-near (choice ps) t g r h =
        subst (NearRefs P) (sym h.2) (tt, parts-near (type_label (form.Choice h.0) []) 0 [] ps h.0 h.1 (λ c. refl) g.1 (choice-roles h.0 ps) r h.3)
    named-near (repeated l p least most) t g r h =
        subst (NearRefs P) (sym h.1)
        (tt, (at-part l (role_of (type_label (form.SequenceOf (repeated_part l) least most) []) 0 (repeated_part l)) p h.0 (repeated-element l least most) r (λ q. named-near p h.0 g.2 q h.2), tt))
    named-near (order_items firsts ls) t g r h = subst (NearRefs P) (sym h.type) (tt, tt)
    named-near (reference w) t g r h = subst (NearRefs P) (sym h) (r, tt)

    parts-near : (l : TypeLabel) (i : ℕ) (before : List (List ℕ)) (ps : Parts) (parts : List Component) (ts : Roses TypeLabel) → ((c : Component) → is_item l.form c ≡ false)
        → ArePlans s ps → HaveRoles l i ps → ReferInAll (λ w. P (place w)) ps → AreNamed place before ps parts ts → NearRefsOf P l i parts ts
    parts-near l i before finish parts ts plain g roles r h = subst (NearRefsOf P l i parts) (sym h.1) tt
    parts-near l i before (part k optional p ps) parts ts plain g roles r h =
        subst (λ cs. NearRefsOf P l i cs ts) (sym h.5)
        (subst (NearRefsOf P l i (named_part k h.0 optional ∷ h.1)) (sym h.6) (
          at-part k (role_of l i (named_part k h.0 optional)) p h.2
              (λ e. roles.0 e (named_part k h.0 optional) (element-no_attribute k h.0 e) (element-tagged k h.0 e) (plain (named_part k h.0 optional)))
              r.0 (λ q. named-near p h.2 g.0 q h.7),
          parts-near l (i + 1) (before ++ h.0 ∷ []) ps h.1 h.3 plain g.2 roles.1 r.1 h.8,
        ))

-- chains of references in a map
module _ (s : Set) (es : List NamedSubject) (M : List Assignment) (entries : AreEntries s es) (mapped : AreMapped (place_in es) s [] es M)
    (plans : (w : Subject) → IsPlan s (body s w)) (depths : (w : Subject) → Refers (λ v. depth_of v < depth_of w) (body s w)) where
  pub chain : (k : ℕ) (p : TypePlan) (t : Rose TypeLabel) → IsPlan s p → Refers (λ w. depth_of w < k) p → IsNamed (place_in es) p t → ChainsWithin M k t
  unfolding ChainsWithin
  chain zero p t g r h =
      named-near s (place_in es) (λ k. ⊥) p t g (refers-weaker s (λ w. depth_of w < 0) (λ w. ⊥) (λ w n l. absurd (omega (arith, l))) p g r) h
  chain (suc k) p t g r h =
      named-near s (place_in es) (λ j. IfSome (body_at M j) (λ u. ChainsWithin M k u)) p t g
      (refers-weaker s (λ w. depth_of w < suc k) (λ w. IfSome (body_at M (place_in es w)) (λ u. ChainsWithin M k u))
      (λ w n l.
      let found = located s es M entries mapped w n in
      subst (λ o. IfSome o (λ u. ChainsWithin M k u)) (sym found.1)
      (chain k (body s w) found.0 (plans w)
      (refers-weaker s (λ v. depth_of v < depth_of w) (λ v. depth_of v < k) (λ v m below. omega (arith, l, below)) (body s w) (plans w) (depths w))
      found.2))
      p g r) h
