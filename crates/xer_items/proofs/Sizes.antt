-- How many items a value gives: less than three for each of its nodes.
use Rattle.std.proofs.Common.{◌≡◌, ℕ, ◌+◌, ◌-◌, ◌*◌, ◌<◌, ◌≤◌, Bool, true, false, Option, Some, None, List, [], ◌∷◌, length, refl, sym, ap, arith}
use Rattle.std.specs.Prelude.{slice_get, ◌&&◌}
use Rattle.std.specs.Option.{option_map}
use Rattle.std.proofs.lemmas.List.{length-map}
use Rattle.base_trees.specs.Rose.{Rose, node, Roses, none, more, label_of, kids_of, list_of, length_all, node_count, count_all}
use Rattle.base_trees.proofs.Roses.{length-list_of, roses_of-list_of}
use Rattle.simple_types.specs.declared.labels.ValueLabel.{ValueLabel}
use Rattle.simple_types.specs.declared.labels.ValueLabel.TheVariants as value
use Rattle.simple_types.specs.Reading.{spelled, spelled_text}
use Rattle.xml_items.specs.Plain.{Plain, element, text}
use Rattle.xml_items.specs.Mixing.{text_before, interleaved, child_elements}
use Rattle.asn_types.specs.declared.modules.Assignment.{Assignment}
use Rattle.asn_types.specs.declared.roles.Role.{Role}
use Rattle.asn_types.specs.declared.roles.Role.TheVariants.{Attribute, Element, Group, Content, Embed, Order, Item, Alternative}
use Rattle.asn_types.specs.declared.types.TypeLabel.{TypeLabel}
use Rattle.asn_types.specs.Marks.{has_embed_values, has_use_nil, has_use_order}
use Rattle.asn_types.specs.Refs.{resolve}
use Rattle.asn_types.specs.Spaces.{space_at}
use Rattle.asn_values.specs.Values.{ComponentPlace, places, is_last_absent, ordered_flags, order_of}
use Rattle.xer_items.specs.Spelling.{is_textual}
use Rattle.xer_items.specs.Items.{Given, given, nothing, joined, with_order, texts_of, with_texts, with_nil, completed, placed, inside, gathered, root_of}
use Rattle.xer_items.specs.Laws.{FewItems}
use Rattle.xer_items.proofs.Ordering.{in_order-weight}

abbrev pub size : Roses Plain → ℕ
size k = count_all k

size-joined : (a b : Roses Plain) → size (joined a b) ≡ size a + size b
size-joined none b = omega arith
size-joined (more item items) b = omega (arith, size-joined items b)

size-before : (words : List ℕ) (items : Roses Plain) → size (text_before words items) ≤ size items + 1
size-before [] items = omega arith
size-before (b ∷ bs) items = omega arith

size-interleaved : (texts : List (List ℕ)) (items : Roses Plain) → size (interleaved texts items) ≤ size items + length texts
size-interleaved [] items = omega arith
size-interleaved (words ∷ texts) none = omega (arith, size-before words none)
size-interleaved (words ∷ texts) (more item items) = omega (arith, size-before words (more item (interleaved texts items)), size-interleaved texts items)

size-texts : (b : Bool) (texts : List (List ℕ)) (g : Given) → size (with_texts b texts g).kids ≤ size g.kids + length texts
size-texts true texts g = size-interleaved texts g.kids
size-texts false texts g = omega arith

pub nil-kids : (b : Bool) (g : Given) → (with_nil b g).kids ≡ g.kids
nil-kids true g = refl
nil-kids false g = refl

size-elements : (k : Roses Plain) → size (child_elements k) ≤ size k
size-elements none = omega arith
size-elements (more (node (element name attributes) items) k) = omega (arith, size-elements k)
size-elements (more (node (text words) items) k) = omega (arith, size-elements k)

size-order : (b : Bool) (flags : List Bool) (numbers : List ℕ) (g : Given) → size (with_order b flags numbers g).kids ≤ size g.kids
size-order true flags numbers g =
    let same = ap size (roses_of-list_of (child_elements g.kids)) in
    omega (arith, same, in_order-weight flags numbers (list_of (child_elements g.kids)), size-elements g.kids)
size-order false flags numbers g = omega arith

-- how many kids the first has
abbrev first_kids : Roses ValueLabel → ℕ
first_kids none = 0
first_kids (more (node l us) vs) = length_all us

first-is : (v : Rose ValueLabel) (vs : Roses ValueLabel) → first_kids (more v vs) ≡ length (kids_of v)
first-is (node l us) vs = sym (length-list_of us)

length-count : (vs : Roses ValueLabel) → length_all vs ≤ count_all vs
length-count none = omega arith
length-count (more (node l us) vs) = omega (arith, length-count vs)

first-count : (vs : Roses ValueLabel) → first_kids vs + length_all vs ≤ count_all vs
first-count none = omega arith
first-count (more (node l us) vs) = omega (arith, length-count us, length-count vs)

text-count : (v : ValueLabel) (vs : Roses ValueLabel) → length (texts_of v vs) ≤ first_kids vs
text-count (value.Bool b) vs = omega arith
text-count (value.Int z) vs = omega arith
text-count (value.Enum i) vs = omega arith
text-count (value.Utf8 words) vs = omega arith
text-count (value.Sequence []) vs = omega arith
text-count (value.Sequence (false ∷ flags)) vs = omega arith
text-count (value.Sequence (true ∷ flags)) none = omega arith
text-count (value.Sequence (true ∷ flags)) (more (node l us) vs) =
    omega (arith, length-map (list_of us) (λ (u : Rose ValueLabel). spelled_text (label_of u)), length-list_of us)
text-count (value.Choice i) vs = omega arith
text-count value.SequenceOf vs = omega arith

module _ (M : List Assignment) where
  size-placed : (p : ComponentPlace) (v : Rose ValueLabel) (g : Given) → size (placed M p v g).kids ≤ size g.kids + 1
  size-placed p v g = by p.role
    where
      by : (r : Role) → size (placed M (record { role = r; part = p.part; type = p.type }) v g).kids ≤ size g.kids + 1
      by Attribute = omega arith
      by Element = omega arith
      by Group = omega arith
      by Content = omega arith
      by Embed = omega arith
      by Order = omega arith
      by Item = omega arith
      by Alternative = omega arith

  textual-size : (b : Bool) (words : List ℕ) (other : Given) (n : ℕ) → 1 ≤ n → size other.kids ≤ n
      → size (elim b as (λ _. Given) [ true ↦ given [] (text_before words none) | false ↦ other ]).kids ≤ n
  textual-size true words other n one h = omega (arith, one, size-before words none)
  textual-size false words other n one h = h

  completed-size : (l : TypeLabel) (v : ValueLabel) (vs : Roses ValueLabel) (g : Given) → size (completed l v vs g).kids ≤ size g.kids + first_kids vs
  completed-size l v vs g =
      let same = ap size (nil-kids (has_use_nil l.marks && is_last_absent v) (with_texts (has_embed_values l.marks) (texts_of v vs) g)) in
      omega (arith, same, size-texts (has_embed_values l.marks) (texts_of v vs) g, text-count v vs)

  mutual
    unfolding inside gathered

    pub inside-size : (t : Rose TypeLabel) (v : Rose ValueLabel) → size (inside M t v).kids + length (kids_of v) + 2 ≤ 3 * node_count v
    inside-size t (node v vs) =
        let found = resolve M t in
        let kids = elim (places found v (length_all vs)) as (λ _. Given) [ None ↦ nothing | Some ps ↦ gathered M ps vs ] in
        let parts : size kids.kids + first_kids vs + length_all vs ≤ 3 * count_all vs =
        elim (places found v (length_all vs)) as (λ (o : Option (List ComponentPlace)). size (elim o as (λ _. Given) [ None ↦ nothing | Some ps ↦ gathered M ps vs ]).kids + first_kids vs + length_all vs ≤ 3 * count_all vs) [
          | None ↦ omega (arith, first-count vs)
          | Some ps ↦ gathered-size ps vs
        ] in
        let told = has_use_order (label_of found).marks in
        let flags = ordered_flags M (label_of found) found (node v vs) in
        let numbers = order_of found (node v vs) in
        let ordered = size-order told flags numbers kids in
        let whole = completed-size (label_of found) v vs (with_order told flags numbers kids) in
        let most = textual-size (is_textual (label_of found)) (spelled (space_at found) (node v vs)) (completed (label_of found) v vs (with_order told flags numbers kids)) (3 * count_all vs + 1 - length_all vs)
        (omega (arith, length-count vs)) (omega (arith, parts, ordered, whole, length-count vs)) in
        omega (arith, most, length-count vs, length-list_of vs)

    gathered-size : (ps : List ComponentPlace) (vs : Roses ValueLabel) → size (gathered M ps vs).kids + first_kids vs + length_all vs ≤ 3 * count_all vs
    gathered-size ps none = omega arith
    gathered-size [] (more v vs) = omega (arith, first-count (more v vs))
    gathered-size (p ∷ ps) (more v vs) =
        let one = size-placed p v (inside M p.type v) in
        let here = inside-size p.type v in
        let rest = gathered-size ps vs in
        let sum = size-joined (placed M p v (inside M p.type v)).kids (gathered M ps vs).kids in
        let kids = first-is v vs in
        omega (arith, one, here, rest, sum, kids)

-- ---- of a root

pub few-items : FewItems
few-items M t v b e = by (slice_get M t) e
  where
    by : (o : Option Assignment) → option_map (λ (a : Assignment). root_of M a v) o ≡ Some b → node_count b < 3 * node_count v
    by None f = absurd (cc)
    by (Some a) f =
        let same : root_of M a v ≡ b = cc in
        let count : node_count (root_of M a v) ≡ node_count b = ap node_count same in
        let inner = inside-size M a.body v in
        omega (arith, count, inner)
