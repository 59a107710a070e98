-- The items of a value keep what the items of a document keep: texts have no kids, elements stand within 64 levels, and
-- there are few nodes.
use Rattle.std.proofs.Common.{◌≡◌, ℕ, suc, ◌+◌, ◌≤◌, Bool, true, false, Option, Some, None, List, [], ◌∷◌, length, refl, sym, ◌∙◌, ap, subst, arith}
use Rattle.std.specs.Prelude.{map, slice_get, ◌&&◌, not, IsSomeAnd, IsUtf8}
use Rattle.std.specs.Option.{option_map}
use Rattle.std.proofs.lemmas.Str.{is_utf8-from_IsUtf8}
use Rattle.std.specs.List.{list_all, AllByRecursion}
use Rattle.std.specs.Str.{chars, is_utf8}
use Rattle.base_texts.specs.Characters.{is_xml_char}
use Rattle.base_texts.specs.Limits.{is_empty, is_xmlns, has_xml_chars}
use Rattle.base_texts.specs.declared.texts.Name.{Name}
use Rattle.base_trees.specs.Rose.{Rose, node, Roses, none, more, label_of, list_of, roses_of, length_all, node_count, count_all, AllowedAll}
use Rattle.simple_types.specs.declared.labels.ValueLabel.{ValueLabel}
use Rattle.simple_types.specs.Reading.{spelled}
use Rattle.xml_items.specs.declared.label.ItemLabel.{ItemLabel}
use Rattle.xml_items.specs.Labels.{MayHave}
use Rattle.xml_read.specs.Sound.{AreItems, is_sound_name, has_name, is_sound_attribute, are_sound_attributes, is_sound_label, is_sound, are_sound, levels_all}
use Rattle.xml_read.specs.Sound as document
use Rattle.xml_items.specs.Plain.{Plain, element, text}
use Rattle.xml_items.specs.Mixing.{text_before, interleaved, child_elements}
use Rattle.asn_types.specs.declared.modules.Assignment.{Assignment}
use Rattle.asn_types.specs.declared.roles.Role.{Role}
use Rattle.asn_types.specs.declared.roles.Role.TheVariants.{Attribute, Element, Group, Content, Embed, Order, Item, Alternative}
use Rattle.asn_types.specs.declared.types.Component.{Component}
use Rattle.asn_types.specs.declared.types.TypeLabel.{TypeLabel}
use Rattle.asn_types.specs.Marks.{has_embed_values, has_use_nil, has_use_order}
use Rattle.asn_types.specs.Refs.{resolve}
use Rattle.asn_types.specs.Spaces.{space_at}
use Rattle.asn_values.specs.Values.{ComponentPlace, places, is_last_absent, ordered_flags, order_of, below, FitsAt, FitEach, In}
use Rattle.xer_items.specs.Spelling.{is_textual}
use Rattle.asn_types.specs.Names.{name_told, name_of_part}
use Rattle.xer_items.specs.Items.{Given, given, nothing, joined, element_of, with_order, texts_of, with_texts, completed, placed, inside, gathered, root_of, Xer}
use Rattle.xer_write.specs.declared.contents.Contents.{Contents}
use Rattle.base_flat_trees.specs.Zips.{added_all}
use Rattle.xer_write.specs.declared.receiver.Receiver.{Receiver}
use Rattle.xer_write.specs.declared.receiver.Receiver.TheVariants as receiver
use Rattle.xer_write.specs.Private.Receiving.{IsBuilder, IsBegun, IsTree, IsWholeOf, items_built, Tells}
use Rattle.std.specs.Global.{Vec}
use Rattle.xml_write.specs.Written.{written}
use Rattle.xer_write.specs.Private.Giving.{HasTold}
use Rattle.xer_write.specs.Private.Gaining.{levels, value_text, Puts, Gains}
use Rattle.asn_values.specs.Ordering.{in_order}
use Rattle.xer_items.proofs.Ordering.{in_order-all}
use Rattle.xer_items.proofs.Sizes.{nil-kids, inside-size}
use Rattle.xer_items.specs.Sound.{HasCharacters, AreSoundAttributes, IsSoundLabel, is_text, begins_with_text, IsSound, AreSound}
use Rattle.xml_items.specs.Unplaced.{unplaced_label, unplaced, all_unplaced}
use Rattle.xer_write.specs.Private.Utf8.{AreUtf8, LabelIsUtf8, ItemIsUtf8, ItemsAreUtf8}

-- ---- how many items, which is not changed by places

mutual
  same-count : (b : Rose Plain) → node_count (unplaced b) ≡ node_count b
  same-count (node l items) = ap suc (same-size items)

  same-size : (k : Roses Plain) → count_all (all_unplaced k) ≡ count_all k
  same-size none = refl
  same-size (more item items) = omega (arith, same-count item, same-size items)

-- ---- which kids and how many levels

pub record Within (depth : ℕ) (k : Roses Plain) : Type 0 where
  pub allowed : AllowedAll MayHave (all_unplaced k)
  pub levels : levels_all (all_unplaced k) + depth ≤ 64

within-none : (depth : ℕ) → depth ≤ 64 → Within depth none
within-none depth deep = record { allowed = tt; levels = omega (arith, deep) }

within-joined : (depth : ℕ) (a b : Roses Plain) → Within depth a → Within depth b → Within depth (joined a b)
within-joined depth none b h k = k
within-joined depth (more item items) b h k =
    let rest = within-joined depth items b (record { allowed = h.allowed.1; levels = omega (arith, h.levels) }) k in
    record { allowed = (h.allowed.0, rest.allowed); levels = omega (arith, h.levels, rest.levels) }

within-before : (depth : ℕ) (words : List ℕ) (items : Roses Plain) → Within depth items → Within depth (text_before words items)
within-before depth [] items h = h
within-before depth (b ∷ bs) items h = record { allowed = ((refl, tt), h.allowed); levels = omega (arith, h.levels) }

within-interleaved : (depth : ℕ) (texts : List (List ℕ)) (items : Roses Plain) → depth ≤ 64 → Within depth items → Within depth (interleaved texts items)
within-interleaved depth [] items deep h = h
within-interleaved depth (words ∷ texts) none deep h = within-before depth words none h
within-interleaved depth (words ∷ texts) (more item items) deep h =
    let rest = within-interleaved depth texts items deep (record { allowed = h.allowed.1; levels = omega (arith, h.levels) }) in
    within-before depth words (more item (interleaved texts items)) (record { allowed = (h.allowed.0, rest.allowed); levels = omega (arith, h.levels, rest.levels) })

within-texts : (depth : ℕ) (b : Bool) (texts : List (List ℕ)) (g : Given) → depth ≤ 64 → Within depth g.kids → Within depth (with_texts b texts g).kids
within-texts depth true texts g deep h = within-interleaved depth texts g.kids deep h
within-texts depth false texts g deep h = h

within-elements : (depth : ℕ) (k : Roses Plain) → Within depth k → Within depth (child_elements k)
within-elements depth none h = h
within-elements depth (more (node (element name attributes) items) k) h =
    let rest = within-elements depth k (record { allowed = h.allowed.1; levels = omega (arith, h.levels) }) in
    record { allowed = (h.allowed.0, rest.allowed); levels = omega (arith, h.levels, rest.levels) }
within-elements depth (more (node (text words) items) k) h = within-elements depth k (record { allowed = h.allowed.1; levels = omega (arith, h.levels) })

-- each alone, and all together
within-each : (depth : ℕ) (k : Roses Plain) → Within depth k → AllByRecursion (λ item. Within depth (more item none)) (list_of k)
within-each depth none h = tt
within-each depth (more item items) h = (
  record { allowed = (h.allowed.0, tt); levels = omega (arith, h.levels) },
  within-each depth items (record { allowed = h.allowed.1; levels = omega (arith, h.levels) }),
)

within-all : (depth : ℕ) (items : List (Rose Plain)) → depth ≤ 64 → AllByRecursion (λ item. Within depth (more item none)) items → Within depth (roses_of items)
within-all depth [] deep h = within-none depth deep
within-all depth (item ∷ items) deep h = within-joined depth (more item none) (roses_of items) h.0 (within-all depth items deep h.1)

within-order : (depth : ℕ) (b : Bool) (flags : List Bool) (numbers : List ℕ) (g : Given) → depth ≤ 64 → Within depth g.kids → Within depth (with_order b flags numbers g).kids
within-order depth true flags numbers g deep h =
    let items = list_of (child_elements g.kids) in
    within-all depth (in_order flags numbers items) deep
    (in_order-all (λ item. Within depth (more item none)) flags numbers items (within-each depth (child_elements g.kids) (within-elements depth g.kids h)))
within-order depth false flags numbers g deep h = h

within-completed : (depth : ℕ) (l : TypeLabel) (v : ValueLabel) (vs : Roses ValueLabel) (g : Given) → depth ≤ 64 → Within depth g.kids → Within depth (completed l v vs g).kids
within-completed depth l v vs g deep h =
    subst (Within depth) (sym (nil-kids (has_use_nil l.marks && is_last_absent v) (with_texts (has_embed_values l.marks) (texts_of v vs) g)))
    (within-texts depth (has_embed_values l.marks) (texts_of v vs) g deep h)

within-textual : (depth : ℕ) (b : Bool) (words : List ℕ) (other : Given) → depth ≤ 64 → Within depth other.kids
    → Within depth (elim b as (λ _. Given) [ true ↦ given [] (text_before words none) | false ↦ other ]).kids
within-textual depth true words other deep h = within-before depth words none (within-none depth deep)
within-textual depth false words other deep h = h

within-element : (depth : ℕ) (name : Name) (g : Given) → Within (suc depth) g.kids → Within depth (more (element_of name g) none)
within-element depth name g h = record { allowed = ((tt, h.allowed), tt); levels = omega (arith, h.levels) }

module _ (M : List Assignment) where
  within-placed : (depth : ℕ) (r : Role) (c : Component) (t : Rose TypeLabel) (v : Rose ValueLabel) (g : Given) → depth ≤ 64 → Within (below r depth) g.kids
      → Within depth (placed M (record { role = r; part = c; type = t }) v g).kids
  within-placed depth Attribute c t v g deep h = within-none depth deep
  within-placed depth Element c t v g deep h = within-element depth (name_of_part c) g h
  within-placed depth Group c t v g deep h = h
  within-placed depth Content c t v g deep h = h
  within-placed depth Embed c t v g deep h = within-none depth deep
  within-placed depth Order c t v g deep h = within-none depth deep
  within-placed depth Item c t v g deep h = within-none depth deep
  within-placed depth Alternative c t v g deep h = within-none depth deep

  mutual
    unfolding inside gathered FitsAt FitEach

    pub inside-within : (depth : ℕ) (t : Rose TypeLabel) (v : Rose ValueLabel) → FitsAt M depth t v → Within depth (inside M t v).kids
    inside-within depth t (node v vs) fits =
        let found = resolve M t in
        let kids = elim (places found v (length_all vs)) as (λ _. Given) [ None ↦ nothing | Some ps ↦ gathered M ps vs ] in
        let parts : elim (places found v (length_all vs)) as (λ _. Type 0) [ None ↦ ⊥ | Some ps ↦ FitEach M depth ps vs ] → Within depth kids.kids =
        elim (places found v (length_all vs)) as (λ (o : Option (List ComponentPlace)). elim o as (λ _. Type 0) [ None ↦ ⊥ | Some ps ↦ FitEach M depth ps vs ]
        → Within depth (elim o as (λ _. Given) [ None ↦ nothing | Some ps ↦ gathered M ps vs ]).kids) [
          | None ↦ (λ f. absurd f)
          | Some ps ↦ (λ f. gathered-within depth ps vs fits.0 f)
        ] in
        let told = has_use_order (label_of found).marks in
        let flags = ordered_flags M (label_of found) found (node v vs) in
        let numbers = order_of found (node v vs) in
        let all = with_order told flags numbers kids in
        within-textual depth (is_textual (label_of found)) (spelled (space_at found) (node v vs)) (completed (label_of found) v vs all) fits.0
        (within-completed depth (label_of found) v vs all fits.0 (within-order depth told flags numbers kids fits.0 (parts fits.1)))

    gathered-within : (depth : ℕ) (ps : List ComponentPlace) (vs : Roses ValueLabel) → depth ≤ 64 → FitEach M depth ps vs → Within depth (gathered M ps vs).kids
    gathered-within depth ps none deep fits = within-none depth deep
    gathered-within depth [] (more v vs) deep fits = absurd fits
    gathered-within depth (p ∷ ps) (more v vs) deep fits =
        within-joined depth (placed M p v (inside M p.type v)).kids (gathered M ps vs).kids
        (within-placed depth p.role p.part p.type v (inside M p.type v) deep (inside-within (below p.role depth) p.type v fits.0.0))
        (gathered-within depth ps vs deep fits.1)

-- ---- soundness, with the UTF-8 that the code knows

and_both : (a b : Bool) → a ≡ true → b ≡ true → (a && b) ≡ true
and_both true b e f = f
and_both false b e f = absurd (cc)

negated : (a : Bool) → a ≡ false → not a ≡ true
negated true e = absurd (cc)
negated false e = refl

characters : (words : List ℕ) → IsUtf8 words → HasCharacters words → has_xml_chars words ≡ true
characters words u h = and_both (is_utf8 words) (list_all is_xml_char (chars words)) (is_utf8-from_IsUtf8 words u) (h u)

three : (a b c : Bool) → a ≡ true → b ≡ true → c ≡ true → (a && b && c) ≡ true
three true true true e f g = refl
three false b c e f g = absurd (cc)
three true false c e f g = absurd (cc)
three true true false e f g = absurd (cc)

sound-attributes : (xs : List (Name × List ℕ)) → AreUtf8 xs → AreSoundAttributes xs → are_sound_attributes xs ≡ true
sound-attributes [] u h = refl
sound-attributes (x ∷ xs) u h =
    three (is_sound_attribute x) (not (has_name x.0 xs)) (are_sound_attributes xs)
    (three (is_sound_name x.0) (not (is_xmlns x.0)) (has_xml_chars x.1) h.0.0 (negated (is_xmlns x.0) h.0.1) (characters x.1 u.0 h.0.2))
    (negated (has_name x.0 xs) h.1) (sound-attributes xs u.1 h.2)

sound-label : (l : Plain) → LabelIsUtf8 (unplaced_label l) → IsSoundLabel l → is_sound_label (unplaced_label l) ≡ true
sound-label (element name xs) u h = three (is_sound_name name) (are_sound_attributes xs) true h.0 (sound-attributes xs u h.1) refl
sound-label (text words) u h = and_both (not (is_empty words)) (has_xml_chars words) (negated (is_empty words) h.0) (characters words u h.1)

same-text : (l : Plain) → is_text l ≡ document.is_text (unplaced_label l)
same-text (element name xs) = refl
same-text (text words) = refl

same-beginning : (items : Roses Plain) → begins_with_text items ≡ document.begins_with_text (all_unplaced items)
same-beginning none = refl
same-beginning (more (node l ks) items) = same-text l

mutual
  sound-item : (b : Rose Plain) → ItemIsUtf8 (unplaced b) → IsSound b → is_sound (unplaced b) ≡ true
  sound-item (node l items) u h = and_both (is_sound_label (unplaced_label l)) (are_sound (all_unplaced items)) (sound-label l u.0 h.0) (sound-items items u.1 h.1)

  sound-items : (items : Roses Plain) → ItemsAreUtf8 (all_unplaced items) → AreSound items → are_sound (all_unplaced items) ≡ true
  sound-items none u h = refl
  sound-items (more (node l ks) items) u h =
      let apart : (document.is_text (unplaced_label l) && document.begins_with_text (all_unplaced items)) ≡ false =
      sym (ap (λ b. b && begins_with_text items) (same-text l) ∙ ap (λ b. document.is_text (unplaced_label l) && b) (same-beginning items)) ∙ h.1 in
      three (is_sound (unplaced (node l ks))) (not (document.is_text (unplaced_label l) && document.begins_with_text (all_unplaced items))) (are_sound (all_unplaced items))
      (sound-item (node l ks) u.0 h.0) (negated (document.is_text (unplaced_label l) && document.begins_with_text (all_unplaced items)) apart) (sound-items items u.1 h.2)

-- ---- the root

pub root-items : (M : List Assignment) (t : ℕ) (a : Assignment) (v : Rose ValueLabel) → slice_get M t ≡ Some a → In M t v → IsSomeAnd (Xer M t v) IsSound → ItemIsUtf8 (unplaced (root_of M a v))
    → AreItems (unplaced (root_of M a v))
root-items M t a v at value sound utf8 =
    let fits : FitsAt M 1 a.body v = subst (λ o. elim o as (λ _. Type 0) [ None ↦ ⊥ | Some a ↦ FitsAt M 1 a.body v ]) at value.0 in
    let whole : IsSound (root_of M a v) = subst (λ o. IsSomeAnd (option_map (λ (x : Assignment). root_of M x v) o) IsSound) at sound in
    let within = inside-within M 1 a.body v fits in
    let size = inside-size M a.body v in
    let same = same-size (inside M a.body v).kids in
    let few = value.1 in
    record {
      allowed = (tt, within.allowed);
      element = refl;
      sound = sound-item (root_of M a v) utf8 whole;
      shallow = omega (arith, within.levels);
      few = omega (arith, size, same, few);
    }

-- as the code tells it
pub root-told : (M : List Assignment) (a : Assignment) (v : Rose ValueLabel) (X Y : Contents) (u : Rose TypeLabel) (w : Rose ValueLabel) (name : Name)
    → u ≡ a.body → w ≡ v → X.texts.items ≡ [] → name ≡ name_told a.reference a.marks
    → Gains X Y (given [] (more (element_of name (inside M u w)) none))
    → HasTold M a v X.receiver Y
root-told M a v X Y u w name eu ew outer en gains =
    let top = unplaced (element_of name (inside M u w)) in
    let whole : top ≡ unplaced (root_of M a v) =
    ap (λ z. unplaced (element_of name (inside M z w))) eu ∙ ap (λ z. unplaced (element_of name (inside M a.body z))) ew ∙ ap (λ n. unplaced (element_of n (inside M a.body v))) en in
    let none_before : levels X ≡ [] = ap (λ (s : List (List (Rose ValueLabel))). map (λ texts. map value_text texts) s) outer in
    let puts : Puts [] (levels Y) X.receiver Y.receiver [] (top ∷ []) = subst (λ ls. Puts ls (levels Y) X.receiver Y.receiver [] (top ∷ [])) none_before gains.puts in
    (subst (λ t. Tells X.receiver Y.receiver [] (t ∷ [])) whole puts.told, subst ItemIsUtf8 whole puts.utf8.0)

-- what was told to a builder of items
pub tree-told : (before after : Receiver) (top : Rose ItemLabel) → IsBuilder before → IsBegun before → Tells before after [] (top ∷ []) → IsTree after × (items_built after ≡ top ∷ [])
tree-told (receiver.Items a) (receiver.Items b) top is begun tells =
    let made = tells.1 ∙ ap (added_all (top ∷ [])) begun.0 in
    ((ap (λ z. z.above) made, ap (λ z. length z.kids) made), ap (λ z. z.kids) made)
tree-told (receiver.Items a) (receiver.Text b) top is begun tells = absurd tells
tree-told (receiver.Text a) after top is begun tells = absurd is

-- what was written of it
pub text-told : (M : List Assignment) (a : Assignment) (v : Rose ValueLabel) (before after : Receiver) (name : Name) (out : Vec ℕ) → IsBegun before → Tells before after [] (unplaced (root_of M a v) ∷ [])
    → name ≡ name_told a.reference a.marks → IsWholeOf after name (Some out) → out.items ≡ written (unplaced (root_of M a v))
text-told M a v (receiver.Text x) (receiver.Text y) name out begun tells en whole =
    let inner = inside M a.body v in
    subst (λ n. IsWholeOf (receiver.Text y) n (Some out)) en whole x inner.attributes (all_unplaced inner.kids) begun tells
text-told M a v (receiver.Text x) (receiver.Items y) name out begun tells en whole = absurd tells
text-told M a v (receiver.Items x) (receiver.Text y) name out begun tells en whole = absurd tells
text-told M a v (receiver.Items x) (receiver.Items y) name out begun tells en whole = absurd (cc)

pub only-item : (x y : Rose ItemLabel) → x ∷ [] ≡ y ∷ [] → x ≡ y
only-item x y e = cc
