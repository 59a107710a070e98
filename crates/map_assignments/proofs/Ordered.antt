-- The part that has the order of the elements of a type (X.693, USE-ORDER).
use Rattle.std.proofs.Common.{◌≡◌, ℕ, zero, suc, ◌+◌, ◌-◌, ◌<◌, ◌≤◌, Bool, true, false, ◌&&◌, cond, Some, List, [], ◌∷◌, ◌++◌, length, map, inl, inr, refl, sym, ap, subst, ◌∙◌, append_assoc, not, arith}
use Rattle.std.specs.Prelude.{slice_get, if◌then◌else◌, ◌==◌}
use Rattle.std.specs.Option.{option_map}
use Rattle.std.proofs.lemmas.Bool.Decides.{eqb_tells}
use Rattle.base_trees.specs.Rose.{Rose, Roses, list_of, label_of}
use Rattle.base_trees.specs.Rose as rose
use Rattle.asn_types.specs.declared.roles.Role.TheVariants.{Order}
use Rattle.asn_types.specs.declared.types.Component.{Component}
use Rattle.asn_types.specs.declared.types.Form.TheVariants as form
use Rattle.asn_types.specs.declared.types.TypeLabel.{TypeLabel}
use Rattle.asn_types.specs.declared.modules.Assignment.{Assignment}
use Rattle.asn_types.specs.Marks.{has_attribute, has_untagged, has_use_nil, has_use_order, has_use_union}
use Rattle.asn_types.specs.Modules.{ordered, parts_from, is_group, IsOrderOf, HasOrderPart}
use Rattle.asn_types.specs.Parts.{parts_of}
use Rattle.asn_types.specs.Refs.{resolve, is_element, target}
use Rattle.asn_types.specs.Roles.{role_of, is_content, is_embed, order_place, is_order, is_item}
use Rattle.schema_components.specs.declared.components.AttributeUse.{AttributeUse}
use Rattle.schema_components.specs.Components.{Set}
use Rattle.map_subjects.specs.declared.subjects.Subject.{Subject}
use Rattle.map_assignments.specs.Plans.{Label, attribute, element, group, elements, groups, texts, order, item, base, content, TypePlan, sequence, Parts, finish, part}
use Rattle.map_assignments.specs.Planning.{attributes, labels, labels_before, order_type, with_order, with_texts}
use Rattle.map_assignments.specs.Naming.{type_label, wanted, named_part, repeated_part, sequence_marks, AreTaken, IsNamed, AreNamed}
use Rattle.map_assignments.proofs.Shapes.{is_element_label, AreElements, InOrder}
use Rattle.map_assignments.proofs.Marked.{part-attribute, part-untagged, element-tagged, element-no_attribute, is_untagged_label}
use Rattle.map_assignments.proofs.Chains.{MakesElement, makes-element, picked, later-elements, not-first, and-false}
use Rattle.map_assignments.proofs.Once.{all-taken-once}
use Rattle.map_assignments.proofs.Resolving.{follow-none}

-- ---- identifiers

module _ (place : Subject → ℕ) where
  -- those of the parts are taken one after another
  named-taken : (before : List (List ℕ)) (ps : Parts) (parts : List Component) (ts : Roses TypeLabel) → AreNamed place before ps parts ts
      → AreTaken before (map wanted (labels ps)) (map (λ (c : Component). c.identifier) parts)
  named-taken before finish parts ts h = subst (λ cs. AreTaken before [] (map (λ (c : Component). c.identifier) cs)) (sym h.0) tt
  named-taken before (part l optional p ps) parts ts h =
      subst (λ cs. AreTaken before (map wanted (labels (part l optional p ps))) (map (λ (c : Component). c.identifier) cs)) (sym h.5)
      (h.4, named-taken (before ++ h.0 ∷ []) ps h.1 h.3 h.8)

-- ---- groups

no-group : (a c d o e f : Bool) → is_group (picked a false c d o e f) ≡ false
no-group true c d o e f = refl
no-group false true d o e f = refl
no-group false false true o e f = refl
no-group false false false true e f = refl
no-group false false false false true f = refl
no-group false false false false false true = refl
no-group false false false false false false = refl

-- a part without UNTAGGED is no group
part-no_group : (l : TypeLabel) (i : ℕ) (c : Component) → has_untagged c.marks ≡ false → is_group (role_of l i c) ≡ false
part-no_group l i c u =
    ap (λ b. is_group (picked (has_attribute c.marks) b (is_content l i) (is_embed l i) (is_order l i) (is_item l.form c) (has_use_union l.marks))) u
    ∙ no-group (has_attribute c.marks) (is_content l i) (is_embed l i) (is_order l i) (is_item l.form c) (has_use_union l.marks)

abbrev NoUntagged : Parts → Type 0
NoUntagged finish = Unit {0}
NoUntagged (part l optional p ps) = (is_untagged_label l ≡ false) × NoUntagged ps

attributes-tagged : (s : Set) (us : List AttributeUse) (rest : Parts) → NoUntagged rest → NoUntagged (attributes s us rest)
attributes-tagged s [] rest h = h
attributes-tagged s (u ∷ us) rest h = (refl, attributes-tagged s us rest h)

elements-tagged : (ps : Parts) → AreElements ps → NoUntagged ps
elements-tagged finish h = tt
elements-tagged (part l optional p ps) h = (by l h.0, elements-tagged ps h.1)
  where
    by : (k : Label) → is_element_label k ≡ true → is_untagged_label k ≡ false
    by (attribute name standard) e = refl
    by (element name) e = refl
    by (group k) e = absurd cc
    by (elements name) e = absurd cc
    by (groups k) e = absurd cc
    by texts e = refl
    by order e = refl
    by item e = refl
    by base e = absurd cc
    by content e = refl

module _ (place : Subject → ℕ) (l : TypeLabel) where
  groups-none : (i : ℕ) (before : List (List ℕ)) (ps : Parts) (parts : List Component) (ts : Roses TypeLabel) → NoUntagged ps → AreNamed place before ps parts ts → parts_from l is_group i parts ≡ []
  groups-none i before finish parts ts g h = ap (parts_from l is_group i) h.0
  groups-none i before (part k optional p ps) parts ts g h =
      let c = named_part k h.0 optional in
      ap (parts_from l is_group i) h.5
      ∙ ap (λ b. cond b (c ∷ parts_from l is_group (i + 1) h.1) (parts_from l is_group (i + 1) h.1)) (part-no_group l i c (part-untagged k h.0 ∙ g.0))
      ∙ groups-none (i + 1) (before ++ h.0 ∷ []) ps h.1 h.3 g.1 h.8

  -- ---- elements

  -- where each part is an element
  all-elements : (i : ℕ) (before : List (List ℕ)) (ps : Parts) (parts : List Component) (ts : Roses TypeLabel) → ((c : Component) → is_item l.form c ≡ false)
      → ((j : ℕ) → i ≤ j → MakesElement l j) → AreElements ps → AreNamed place before ps parts ts → parts_from l is_element i parts ≡ parts
  all-elements i before finish parts ts plain makes g h = ap (parts_from l is_element i) h.0 ∙ sym h.0
  all-elements i before (part k optional p ps) parts ts plain makes g h =
      let c = named_part k h.0 optional in
      let is = makes i (omega arith) c (element-no_attribute k h.0 g.0) (element-tagged k h.0 g.0) (plain c) in
      ap (parts_from l is_element i) h.5
      ∙ ap (λ r. cond (is_element r) (c ∷ parts_from l is_element (i + 1) h.1) (parts_from l is_element (i + 1) h.1)) is
      ∙ ap (λ cs. c ∷ cs) (all-elements (i + 1) (before ++ h.0 ∷ []) ps h.1 h.3 plain (λ j below. makes j (omega (arith, below))) g.1 h.8)
      ∙ sym h.5

  -- what stands behind attributes
  record Behind (before : List (List ℕ)) (us : List AttributeUse) (i : ℕ) (rest : Parts) (parts : List Component) (ts : Roses TypeLabel) : Type 0 where
    names : List (List ℕ)
    taken : AreTaken before (map wanted (map (λ (u : AttributeUse). attribute u.name u.standard) us)) names
    later : ℕ
    is_later : i ≤ later
    components : List Component
    types : Roses TypeLabel
    named : AreNamed place (before ++ names) rest components types
    same : parts_from l is_element i parts ≡ parts_from l is_element later components
    parts_many : length parts ≡ length us + length components
    type_at : (k : ℕ) → slice_get (list_of ts) (length us + k) ≡ slice_get (list_of types) k

  behind : (s : Set) (us : List AttributeUse) (i : ℕ) (before : List (List ℕ)) (rest : Parts) (parts : List Component) (ts : Roses TypeLabel)
      → AreNamed place before (attributes s us rest) parts ts → Behind before us i rest parts ts
  behind s [] i before rest parts ts h = record {
    names = [];
    taken = tt;
    later = i;
    is_later = omega arith;
    components = parts;
    types = ts;
    named = subst (λ b. AreNamed place b rest parts ts) (sym (nil-behind before)) h;
    same = refl;
    parts_many = omega arith;
    type_at = λ k. let e : 0 + k ≡ k = omega arith in ap (slice_get (list_of ts)) e;
  }
    where
      nil-behind : (xs : List (List ℕ)) → xs ++ [] ≡ xs
      nil-behind [] = refl
      nil-behind (x ∷ xs) = ap (λ ys. x ∷ ys) (nil-behind xs)
  behind s (u ∷ us) i before rest parts ts h =
      let b = behind s us (i + 1) (before ++ h.0 ∷ []) rest h.1 h.3 h.8 in
      let k = attribute u.name u.standard in
      let c = named_part k h.0 (not u.required) in
      record {
        names = h.0 ∷ b.names;
        taken = (h.4, b.taken);
        later = b.later;
        is_later = let l = b.is_later in omega (arith, l);
        components = b.components;
        types = b.types;
        named = subst (λ x. AreNamed place x rest b.components b.types) (append_assoc before (h.0 ∷ []) b.names) b.named;
        same =
            ap (parts_from l is_element i) h.5
            ∙ ap (λ a. cond (is_element (picked a (has_untagged c.marks) (is_content l i) (is_embed l i) (is_order l i) (is_item l.form c) (has_use_union l.marks)))
            (c ∷ parts_from l is_element (i + 1) h.1) (parts_from l is_element (i + 1) h.1)) (part-attribute k h.0)
            ∙ b.same;
        parts_many = let m = b.parts_many in let e = ap length h.5 in omega (arith, m, e);
        type_at = λ n.
            let e : suc (length us) + n ≡ suc (length us + n) = omega arith in
            ap (λ vs. slice_get (list_of vs) (suc (length us) + n)) h.6 ∙ ap (slice_get (list_of (rose.more h.2 h.3))) e ∙ b.type_at n;
      }

-- ---- the order

-- its items are the identifiers that are taken
order-of : (place : Subject → ℕ) (firsts ls : List Label) (t : Rose TypeLabel) (scope names : List (List ℕ)) → IsNamed place (order_type firsts ls) t
    → AreTaken [] (map wanted firsts) scope → AreTaken scope (map wanted ls) names → IsOrderOf names t
order-of place firsts ls t scope names h a b =
    let k = h.2 in
    let e = all-taken-once [] (map wanted firsts) k.taken scope k.before_taken a in
    let f = all-taken-once scope (map wanted ls) k.identifiers names (subst (λ x. AreTaken x (map wanted ls) k.identifiers) e k.then_taken) b in
    subst (IsOrderOf names) (sym h.1) (repeated_part item, refl, ap (λ (v : Rose TypeLabel). (label_of v).form) k.type ∙ ap form.Order f)

picked-order : (a u c d o e f : Bool) → a ≡ false → u ≡ false → c ≡ false → d ≡ false → o ≡ true → picked a u c d o e f ≡ Order
picked-order a u c d o e f ha hu hc hd ho =
    ap (λ b. picked b u c d o e f) ha ∙ ap (λ b. picked false b c d o e f) hu ∙ ap (λ b. picked false false b d o e f) hc
    ∙ ap (λ b. picked false false false b o e f) hd ∙ ap (λ b. picked false false false false b e f) ho

same-number : (n : ℕ) → (n == n) ≡ true
same-number n = elim (eqb_tells n n) [
  | inl h ↦ h.0
  | inr h ↦ absurd (h.1 refl)
]

not-last : (n k : ℕ) → n + 1 < k → (n + 1 == k) ≡ false
not-last n k below = elim (eqb_tells (n + 1) k) [
  | inl h ↦ absurd (omega (arith, below, h.1))
  | inr h ↦ h.0
]

-- a type whose part with this number is the order
module _ (l : TypeLabel) (n : ℕ) (at : order_place l.marks ≡ n) (told : has_use_order l.marks ≡ true) (union : has_use_union l.marks ≡ false)
    (plain : (c : Component) → is_item l.form c ≡ false) (embeds : (j : ℕ) → n ≤ j → is_embed l j ≡ false) where
  order-role : (g : List ℕ) → is_content l n ≡ false → role_of l n (named_part order g false) ≡ Order
  order-role g c =
      let p = named_part order g false in
      picked-order (has_attribute p.marks) (has_untagged p.marks) (is_content l n) (is_embed l n) (is_order l n) (is_item l.form p) (has_use_union l.marks)
      refl refl c (embeds n (omega arith)) (ap (λ k. (n == k) && has_use_order l.marks) at ∙ ap (λ b. b && has_use_order l.marks) (same-number n) ∙ told)

module _ (place : Subject → ℕ) (s : Set) (us : List AttributeUse) (elements : Parts) (are : AreElements elements) (l : TypeLabel) (n : ℕ)
    (at : order_place l.marks ≡ n) (told : has_use_order l.marks ≡ true) (union : has_use_union l.marks ≡ false)
    (plain : (c : Component) → is_item l.form c ≡ false) (embeds : (j : ℕ) → n ≤ j → is_embed l j ≡ false) (before : List (List ℕ)) (firsts : List Label) where
  -- the order of elements that stand behind the attributes
  flat : has_use_nil l.marks ≡ false → (parts : List Component) (ts : Roses TypeLabel)
      → (h : AreNamed place before (part order false (order_type firsts (labels elements)) (attributes s us elements)) parts ts)
      → ((names : List (List ℕ)) → AreTaken (before ++ h.0 ∷ []) (map wanted (map (λ (u : AttributeUse). attribute u.name u.standard) us)) names
      → AreTaken [] (map wanted firsts) ((before ++ h.0 ∷ []) ++ names))
      → (role_of l n (named_part order h.0 false) ≡ Order) × IsOrderOf (map (λ (c : Component). c.identifier) (parts_from l is_element n parts)) h.2
  flat nil parts ts h firsts_are =
      let c = named_part order h.0 false in
      let role = order-role l n at told union plain embeds h.0 (ap (λ b. b && (n + 1 == length (parts_of l.form))) nil) in
      let b = behind place l s us (n + 1) (before ++ h.0 ∷ []) elements h.1 h.3 h.8 in
      let rest = parts_from l is_element (n + 1) h.1 in
      let later = b.is_later in
      let is : parts_from l is_element n parts ≡ b.components =
      ap (parts_from l is_element n) h.5 ∙ ap (λ r. cond (is_element r) (c ∷ rest) rest) role ∙ b.same
      ∙ all-elements place l b.later ((before ++ h.0 ∷ []) ++ b.names) elements b.components b.types plain
      (λ j below. later-elements l n at nil union embeds j (omega (arith, below, later))) are b.named in (
        role,
        subst (λ cs. IsOrderOf (map (λ (d : Component). d.identifier) cs) h.2) (sym is)
            (order-of place firsts (labels elements) h.2 ((before ++ h.0 ∷ []) ++ b.names) (map (λ (d : Component). d.identifier) b.components) h.7
            (firsts_are b.names b.taken) (named-taken place ((before ++ h.0 ∷ []) ++ b.names) elements b.components b.types b.named)),
      )

-- ---- the types of a map

module _ (place : Subject → ℕ) (M : List Assignment) (s : Set) (us : List AttributeUse) (elements : Parts) (are : AreElements elements) where
  tagged : (nillable mixed : Bool) (type : TypePlan) → NoUntagged (with_texts mixed (with_order true type (attributes s us (if nillable then part content true (sequence false false false elements) finish else elements))))
  tagged true true type = (refl, (refl, attributes-tagged s us (part content true (sequence false false false elements) finish) (refl, tt)))
  tagged true false type = (refl, attributes-tagged s us (part content true (sequence false false false elements) finish) (refl, tt))
  tagged false true type = (refl, (refl, attributes-tagged s us elements (elements-tagged elements are)))
  tagged false false type = (refl, attributes-tagged s us elements (elements-tagged elements are))

  by-case : (nillable mixed : Bool) (parts : List Component) (ts : Roses TypeLabel)
      → AreNamed place [] (with_texts mixed (with_order true (order_type (if nillable then [] else labels_before mixed us) (labels elements))
      (attributes s us (if nillable then part content true (sequence false false false elements) finish else elements)))) parts ts
      → HasOrderPart M (type_label (form.Sequence parts) (sequence_marks nillable mixed true)) ts
  by-case false false parts ts h =
      let l = type_label (form.Sequence parts) (sequence_marks false false true) in
      let f = flat place s us elements are l 0 refl refl refl (λ c. refl) (λ j below. and-false (j == 0)) [] (labels_before false us) refl parts ts h (λ names taken. (h.4, taken)) in
      let groups = groups-none place l 0 [] (with_texts false (with_order true (order_type (labels_before false us) (labels elements)) (attributes s us elements))) parts ts (tagged false false (order_type (labels_before false us) (labels elements))) h in
      record {
        sequence = tt;
        groups = groups;
        inner = l;
        inner_found = refl;
        inner_sequence = tt;
        inner_groups = groups;
        inner_alone = λ e. absurd cc;
        part = named_part order h.0 false;
        type = h.2;
        part_found = (ap (λ cs. slice_get cs 0) h.5, ap (λ vs. slice_get (list_of vs) 0) h.6);
        role = f.0;
        present = refl;
        identifiers = f.1;
      }
  by-case false true parts ts h =
      let l = type_label (form.Sequence parts) (sequence_marks false true true) in
      let k = h.8 in
      let f = flat place s us elements are l 1 refl refl refl (λ c. refl) (λ j below. ap (λ b. b && true) (not-first j (omega (arith, below)))) (h.0 ∷ []) (labels_before true us) refl h.1 h.3 k
      (λ names taken. (h.4, (k.4, taken))) in
      let groups = groups-none place l 0 [] (with_texts true (with_order true (order_type (labels_before true us) (labels elements)) (attributes s us elements))) parts ts (tagged false true (order_type (labels_before true us) (labels elements))) h in
      record {
        sequence = tt;
        groups = groups;
        inner = l;
        inner_found = refl;
        inner_sequence = tt;
        inner_groups = groups;
        inner_alone = λ e. absurd cc;
        part = named_part order k.0 false;
        type = k.2;
        part_found = (
          ap (λ cs. slice_get cs 1) h.5 ∙ ap (λ cs. slice_get (named_part texts h.0 false ∷ cs) 1) k.5,
          ap (λ vs. slice_get (list_of vs) 1) h.6 ∙ ap (λ vs. slice_get (list_of (rose.more h.2 vs)) 1) k.6,
        );
        role = f.0;
        present = refl;
        identifiers = subst (λ cs. IsOrderOf (map (λ (c : Component). c.identifier) cs) k.2) (sym (ap (parts_from l is_element 0) h.5)) f.1;
      }
  by-case true false parts ts h =
      let l = type_label (form.Sequence parts) (sequence_marks true false true) in
      let o = h in
      let b = behind place l s us (0 + 1) ([] ++ o.0 ∷ []) (part content true (sequence false false false elements) finish) o.1 o.3 o.8 in
      let k = b.named in
      let v = k.2 in
      let w = k.7 in
      let inner = type_label (form.Sequence w.0) [] in
      let many = b.parts_many in
      let last = ap length k.5 in
      let none = ap length k.8.0 in
      let first = ap length o.5 in
      let count : length parts ≡ suc (length us + 1) = omega (arith, many, last, none, first) in
      let back : length parts - 1 ≡ suc (length us + 0) = omega (arith, count) in
      let found : slice_get (list_of ts) (length parts - 1) ≡ Some v =
      ap (λ vs. slice_get (list_of vs) (length parts - 1)) h.6 ∙ ap (slice_get (list_of (rose.more h.2 h.3))) back ∙ b.type_at 0 ∙ ap (λ vs. slice_get (list_of vs) 0) k.6 in
      let alone = all-elements place inner 0 [] elements w.0 w.1 (λ c. refl) (λ j below. makes-element inner j refl refl refl (and-false (j == 0))) are w.3 in
      record {
        sequence = tt;
        groups = groups-none place l 0 [] (with_texts false (with_order true (order_type [] (labels elements)) (attributes s us (part content true (sequence false false false elements) finish)))) parts ts (tagged true false (order_type [] (labels elements))) h;
        inner = inner;
        inner_found =
            ap (option_map (λ (t : Rose TypeLabel). label_of (resolve M t))) found ∙ ap (λ (t : Rose TypeLabel). Some (label_of t)) (follow-none M 4 v (ap (λ (u : Rose TypeLabel). target (label_of u).form) w.2) ∙ w.2);
        inner_sequence = tt;
        inner_groups = groups-none place inner 0 [] elements w.0 w.1 (elements-tagged elements are) w.3;
        inner_alone = λ e. (refl, refl, refl);
        part = named_part order o.0 false;
        type = o.2;
        part_found = (ap (λ cs. slice_get cs 0) h.5, ap (λ vs. slice_get (list_of vs) 0) h.6);
        role = order-role l 0 refl refl refl (λ c. refl) (λ j below. and-false (j == 0)) o.0 (not-last 0 (length parts) (omega (arith, count)));
        present = refl;
        identifiers =
            subst (λ cs. IsOrderOf (map (λ (c : Component). c.identifier) cs) o.2) (sym alone)
            (order-of place [] (labels elements) o.2 [] (map (λ (c : Component). c.identifier) w.0) o.7 tt (named-taken place [] elements w.0 w.1 w.3));
      }
  by-case true true parts ts h =
      let l = type_label (form.Sequence parts) (sequence_marks true true true) in
      let o = h.8 in
      let b = behind place l s us (1 + 1) (([] ++ h.0 ∷ []) ++ o.0 ∷ []) (part content true (sequence false false false elements) finish) o.1 o.3 o.8 in
      let k = b.named in
      let v = k.2 in
      let w = k.7 in
      let inner = type_label (form.Sequence w.0) [] in
      let many = b.parts_many in
      let last = ap length k.5 in
      let none = ap length k.8.0 in
      let first = ap length o.5 in
      let whole = ap length h.5 in
      let count : length parts ≡ suc (suc (length us + 1)) = omega (arith, many, last, none, first, whole) in
      let back : length parts - 1 ≡ suc (suc (length us + 0)) = omega (arith, count) in
      let found : slice_get (list_of ts) (length parts - 1) ≡ Some v =
      ap (λ vs. slice_get (list_of vs) (length parts - 1)) h.6 ∙ ap (slice_get (list_of (rose.more h.2 h.3))) back ∙ ap (λ vs. slice_get (list_of vs) (suc (length us + 0))) o.6
      ∙ b.type_at 0 ∙ ap (λ vs. slice_get (list_of vs) 0) k.6 in
      let alone = all-elements place inner 0 [] elements w.0 w.1 (λ c. refl) (λ j below. makes-element inner j refl refl refl (and-false (j == 0))) are w.3 in
      record {
        sequence = tt;
        groups = groups-none place l 0 [] (with_texts true (with_order true (order_type [] (labels elements)) (attributes s us (part content true (sequence false false false elements) finish)))) parts ts (tagged true true (order_type [] (labels elements))) h;
        inner = inner;
        inner_found =
            ap (option_map (λ (t : Rose TypeLabel). label_of (resolve M t))) found ∙ ap (λ (t : Rose TypeLabel). Some (label_of t)) (follow-none M 4 v (ap (λ (u : Rose TypeLabel). target (label_of u).form) w.2) ∙ w.2);
        inner_sequence = tt;
        inner_groups = groups-none place inner 0 [] elements w.0 w.1 (elements-tagged elements are) w.3;
        inner_alone = λ e. (refl, refl, refl);
        part = named_part order o.0 false;
        type = o.2;
        part_found = (
          ap (λ cs. slice_get cs 1) h.5 ∙ ap (λ cs. slice_get (named_part texts h.0 false ∷ cs) 1) o.5,
          ap (λ vs. slice_get (list_of vs) 1) h.6 ∙ ap (λ vs. slice_get (list_of (rose.more h.2 vs)) 1) o.6,
        );
        role = order-role l 1 refl refl refl (λ c. refl) (λ j below. ap (λ b. b && true) (not-first j (omega (arith, below)))) o.0 (not-last 1 (length parts) (omega (arith, count)));
        present = refl;
        identifiers =
            subst (λ cs. IsOrderOf (map (λ (c : Component). c.identifier) cs) o.2) (sym alone)
            (order-of place [] (labels elements) o.2 [] (map (λ (c : Component). c.identifier) w.0) o.7 tt (named-taken place [] elements w.0 w.1 w.3));
      }

-- USE-ORDER of a type of a map
pub order-part : (place : Subject → ℕ) (M : List Assignment) (nillable mixed ordered : Bool) (ps : Parts) (parts : List Component) (ts : Roses TypeLabel)
    → ordered ≡ true → (ordered ≡ true → InOrder nillable mixed ps) → AreNamed place [] ps parts ts → HasOrderPart M (type_label (form.Sequence parts) (sequence_marks nillable mixed ordered)) ts
order-part place M nillable mixed ordered ps parts ts e o h =
    let plan = o e in
    subst (λ b. HasOrderPart M (type_label (form.Sequence parts) (sequence_marks nillable mixed b)) ts) (sym e)
    (by-case place M plan.set plan.uses plan.elements plan.are_elements nillable mixed parts ts (subst (λ qs. AreNamed place [] qs parts ts) plan.is h))
