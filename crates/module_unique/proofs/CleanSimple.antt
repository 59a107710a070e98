-- The simple type for which a type of a printable module stands is told.
use Rattle.std.proofs.Common.{◌≡◌, ℕ, zero, suc, ◌+◌, ◌^◌, true, false, ◌&&◌, not, Option, Some, None, List, [], ◌∷◌, map, length, refl, sym, ap, ap₂, subst, ◌∙◌, arith, Less}
use Rattle.std.specs.Prelude.{ℤ, All, IsUtf8, bytes_eq, filter, nat_lt, int_lt}
use Rattle.std.specs.List.{list_all, AllByRecursion}
use Rattle.std.specs.List.Sorted.{IsStrictlySortedBy}
use Rattle.std.specs.Ordering.{nat_cmp, int_cmp, is_lt}
use Rattle.std.specs.Cmp.Lexicographic.{slice_cmp}
use Rattle.std.proofs.lemmas.Bool.{true≢false, lt-ltb, le-leb}
use Rattle.std.proofs.lemmas.Int.{ints}
use Rattle.base_trees.specs.Rose.{Rose, node, Roses, label_of, length_all}
use Rattle.base_trees.specs.Rose as rose
use Rattle.base_texts.specs.WhiteSpace.{treated}
use Rattle.base_texts.specs.declared.white_space.WhiteSpace.{WhiteSpace}
use Rattle.base_texts.specs.declared.white_space.WhiteSpace.TheVariants.{Preserve, Replace, Collapse}
use Rattle.simple_types.specs.declared.simples.Class.{Class}
use Rattle.simple_types.specs.Sound.{Sound, AreSound, IsCounted, AreBounds, AreSizes, AreWords, has_list}
use Rattle.simple_types.specs.Space.{Space, Spaces, none, more, Booleans, Wholes, Numbers, Words, Characters, ListOf, UnionOf, count_members}
use Rattle.asn_types.specs.declared.marks.Instruction.{Instruction}
use Rattle.asn_types.specs.declared.marks.Instruction.TheVariants as mark
use Rattle.asn_types.specs.declared.types.Component.{Component}
use Rattle.asn_types.specs.declared.types.Form.{Form}
use Rattle.asn_types.specs.declared.types.Form.TheVariants as form
use Rattle.asn_types.specs.declared.types.TypeLabel.{TypeLabel}
use Rattle.asn_types.specs.declared.modules.Assignment.{Assignment}
use Rattle.asn_types.specs.Bounds.{HasBounds}
use Rattle.asn_types.specs.Modules.{IsForm}
use Rattle.asn_types.specs.Parts.{parts_of}
use Rattle.asn_types.specs.Simples.{counting, white_space_marks, IsPlain, ArePlain, MapsTo, MapToEach}
use Rattle.module_text.specs.declared.spots.Spot.{Spot}
use Rattle.module_text.specs.declared.spots.Spot.TheVariants.{Elsewhere, Order, OrderItem}
use Rattle.module_text.specs.declared.spots.Alone.{Alone}
use Rattle.module_text.specs.declared.spots.Alone.TheVariants as alone
use Rattle.module_text.specs.Told.{range_of, sizes_of, have_names_alone, beside, alone_behind, told_alone, is_nothing, is_number_alone, is_list_alone, is_union_alone, white_space_alone, words_of}
use Rattle.module_text.specs.Simple as simple
use Rattle.module_text.specs.Simple.{if_so, simple_told, members_told, item_told, is_order_item}
use Rattle.module_text.specs.Printable.{is_of_part, is_text, texts_due, is_sequence_of, part_spot, HasNames, HasPartMarks, IsInSpot}
use Rattle.module_laws.proofs.Firsts.{bytes_same}
use Rattle.module_unique.specs.Utf8Texts.{WordsAreUtf8, TypeIsUtf8, TypesAreUtf8}
use Rattle.module_unique.proofs.Telling.{range_told, size_told, part_marks_told, type_kind, type_marks_told, name_at, numbered_told, components_told, form_told, type_told, types_told}
use Rattle.module_unique.proofs.Marked.{of_types}
use Rattle.module_unique.proofs.Words.{words_are}
use Rattle.module_unique.proofs.Goods.{Good, AllGood}
use Rattle.module_unique.proofs.Back.{range_back, sizes_back, numbers_back}
use Rattle.module_unique.proofs.CleanForms.{both-so, number_lt}
use Rattle.module_unique.proofs.CleanMarks.{xml_text}

-- ---- what the instructions say

abbrev alone_marks : Form → Alone → List Instruction → Alone
alone_marks f seen [] = seen
alone_marks f seen (m ∷ ms) = alone_marks f (beside seen (type_kind f m)) ms

alone_same : (f : Form) (marks : List Instruction) (seen : Alone) → of_types marks ≡ true → alone_behind seen (type_marks_told f marks) ≡ alone_marks f seen (counting marks)
alone_same f [] seen of = refl
alone_same f (mark.Text item text ∷ ms) seen of = alone_same f ms seen of
alone_same f (mark.Attribute ∷ ms) seen of = absurd (true≢false (sym of))
alone_same f (mark.Untagged ∷ ms) seen of = absurd (true≢false (sym of))
alone_same f (mark.Name name ∷ ms) seen of = absurd (true≢false (sym of))
alone_same f (mark.Namespace space ∷ ms) seen of = absurd (true≢false (sym of))
alone_same f (mark.UseNil ∷ ms) seen of = alone_same f ms (beside seen (type_kind f mark.UseNil)) of
alone_same f (mark.EmbedValues ∷ ms) seen of = alone_same f ms (beside seen (type_kind f mark.EmbedValues)) of
alone_same f (mark.UseOrder ∷ ms) seen of = alone_same f ms (beside seen (type_kind f mark.UseOrder)) of
alone_same f (mark.List ∷ ms) seen of = alone_same f ms (beside seen (type_kind f mark.List)) of
alone_same f (mark.UseUnion ∷ ms) seen of = alone_same f ms (beside seen (type_kind f mark.UseUnion)) of
alone_same f (mark.UseNumber ∷ ms) seen of = alone_same f ms (beside seen (type_kind f mark.UseNumber)) of
alone_same f (mark.WhiteSpace Preserve ∷ ms) seen of = alone_same f ms (beside seen (type_kind f (mark.WhiteSpace Preserve))) of
alone_same f (mark.WhiteSpace Replace ∷ ms) seen of = alone_same f ms (beside seen (type_kind f (mark.WhiteSpace Replace))) of
alone_same f (mark.WhiteSpace Collapse ∷ ms) seen of = alone_same f ms (beside seen (type_kind f (mark.WhiteSpace Collapse))) of

alone_is : (f : Form) (marks wanted : List Instruction) → of_types marks ≡ true → counting marks ≡ wanted → told_alone (type_marks_told f marks) ≡ alone_marks f alone.Nothing wanted
alone_is f marks wanted of e = alone_same f marks alone.Nothing of ∙ ap (alone_marks f alone.Nothing) e

white_is : (f : Form) (how : WhiteSpace) → white_space_alone (alone_marks f alone.Nothing (white_space_marks how)) ≡ Some how
white_is f Preserve = refl
white_is f Replace = refl
white_is f Collapse = refl

names_alone : (generated : List ℕ) (marks : List Instruction) → list_all is_of_part marks ≡ true → counting marks ≡ [] → have_names_alone (part_marks_told generated marks) ≡ true
names_alone generated [] of e = refl
names_alone generated (mark.Name name ∷ ms) of e = names_alone generated ms of e
names_alone generated (mark.Text item text ∷ ms) of e = absurd (true≢false (sym of))
names_alone generated (m ∷ ms) of e = absurd (cc)

-- ---- what is sound

counted_so : (n : ℕ) → IsCounted n → simple.is_counted n ≡ true
counted_so n is = both-so (nat_lt 0 n) (nat_lt n (2 ^ 32)) (lt-ltb 0 n is.0) (lt-ltb n (2 ^ 32) is.1)

bounds_so : (least greatest : Option ℤ) → AreBounds least greatest → simple.are_bounds (least, greatest) ≡ true
bounds_so None greatest are = refl
bounds_so (Some a) None are = refl
bounds_so (Some a) (Some b) are = grind (arith, ints)

sizes_so : (least : ℕ) (most : Option ℕ) → AreSizes least most → simple.are_sizes (least, most) ≡ true
sizes_so least None are = refl
sizes_so least (Some most) are = le-leb least most are

numbers_so : (z : ℤ) (zs : List ℤ) → AllByRecursion (λ y. int_cmp z y ≡ Less) zs → IsStrictlySortedBy int_cmp zs → simple.ascend_behind (Some z) zs ≡ true
unfolding IsStrictlySortedBy
numbers_so z [] less sorted = refl
numbers_so z (y ∷ ys) less sorted = both-so (int_lt z y) (simple.ascend_behind (Some y) ys) (number_lt z y less.0) (numbers_so y ys sorted.0 sorted.1)

ascend_so : (zs : List ℤ) → IsStrictlySortedBy int_cmp zs → simple.ascend zs ≡ true
unfolding IsStrictlySortedBy
ascend_so [] sorted = refl
ascend_so (z ∷ zs) sorted = numbers_so z zs sorted.0 sorted.1

texts_so : (w : List ℕ) (ws : List (List ℕ)) → AllByRecursion (λ v. slice_cmp nat_cmp w v ≡ Less) ws → IsStrictlySortedBy (slice_cmp nat_cmp) ws → simple.texts_behind (Some w) ws ≡ true
unfolding IsStrictlySortedBy
texts_so w [] less sorted = refl
texts_so w (v ∷ vs) less sorted = both-so (simple.text_lt w v) (simple.texts_behind (Some v) vs) (ap is_lt less.0) (texts_so v vs sorted.0 sorted.1)

words_so : (ws : List (List ℕ)) → IsStrictlySortedBy (slice_cmp nat_cmp) ws → simple.texts_ascend ws ≡ true
unfolding IsStrictlySortedBy
words_so [] sorted = refl
words_so (w ∷ ws) sorted = texts_so w ws sorted.0 sorted.1

each_word : (how : WhiteSpace) (ws : List (List ℕ)) → AreWords how ws → All IsUtf8 ws → list_all (simple.is_word how) ws ≡ true
each_word how [] are utf8 = refl
each_word how (w ∷ ws) are utf8 =
    both-so (simple.is_word how w) (list_all (simple.is_word how) ws)
    (both-so _ (bytes_eq (treated how w) w) (xml_text w (utf8 zero w (omega arith)) are.0.0) (bytes_same (treated how w) w are.0.1))
    (each_word how ws are.1 (λ k d lt. utf8 (suc k) d (omega (arith, lt))))

-- ---- where a type stands for its simple type

-- The items of an order stand for no simple type, and are told as words are.
abbrev pub StandsIn : Spot → Rose TypeLabel → Type 0
StandsIn Elsewhere t = Unit {0}
StandsIn OrderItem (node l ts) = IsInSpot OrderItem l.form
StandsIn Order (node l rose.none) = Unit {0}
StandsIn Order (node l (rose.more t ts)) = is_sequence_of l.form ≡ true → IsInSpot OrderItem (label_of t).form

module _ (M : List Assignment) where
  order_of_item : (t : Rose TypeLabel) → Good M OrderItem t → IsInSpot OrderItem (label_of t).form
  order_of_item (node l ts) good = good.0.printable.order

  pub stands_in : (spot : Spot) (t : Rose TypeLabel) → Good M spot t → StandsIn spot t
  stands_in Elsewhere t good = tt
  stands_in OrderItem (node l ts) good = good.0.printable.order
  stands_in Order (node l rose.none) good = tt
  stands_in Order (node l (rose.more t ts)) good = by (parts_of l.form) good.1
    where
      by : (parts : List Component) → AllGood M Order l 0 parts (rose.more t ts) → is_sequence_of l.form ≡ true → IsInSpot OrderItem (label_of t).form
      by [] all e = absurd all
      by (part ∷ others) all e =
          let spot_is : part_spot Order l 0 part ≡ OrderItem = rw (e, part_spot) refl in
          order_of_item t (subst (λ spot. Good M spot t) spot_is all.0)

  -- ---- simple types

  abbrev ToldAs : Spot → Form → List Instruction → Roses TypeLabel → Space → Type 0
  ToldAs spot f marks ts s = simple_told spot (node (record { at = 0; marks = type_marks_told f marks; form = form_told M f ts }) (types_told M ts)) ≡ Some s

  boolean_told : (spot : Spot) (marks : List Instruction) (ts : Roses TypeLabel) → of_types marks ≡ true → counting marks ≡ [] → ToldAs spot form.Bool marks ts Booleans
  unfolding simple_told
  boolean_told spot marks ts of e = ap (λ a. if_so (is_nothing a) (Some Booleans)) (alone_is form.Bool marks [] of e)

  whole_told : (spot : Spot) (marks : List Instruction) (ts : Roses TypeLabel) (least greatest : Option ℤ) → of_types marks ≡ true → counting marks ≡ []
      → AreBounds least greatest → HasBounds (form.Int least greatest) → ToldAs spot (form.Int least greatest) marks ts (Wholes least greatest)
  unfolding simple_told
  whole_told spot marks ts least greatest of e are bits =
      ap (λ a. if_so (is_nothing a) (simple.whole_space (range_of (range_told least greatest)))) (alone_is (form.Int least greatest) marks [] of e)
      ∙ ap simple.whole_space (range_back least greatest bits.0 bits.1)
      ∙ ap (λ b. if_so b (Some (Wholes least greatest))) (bounds_so least greatest are)

  number_told : (spot : Spot) (marks : List Instruction) (ts : Roses TypeLabel) (numbers : List ℤ) → of_types marks ≡ true → counting marks ≡ mark.UseNumber ∷ []
      → Sound (Numbers numbers) → HasBounds (form.Numbers numbers) → ToldAs spot (form.Numbers numbers) marks ts (Numbers numbers)
  unfolding simple_told
  number_told spot marks ts numbers of e sound bits =
      ap (λ a. if_so (is_number_alone a) (simple.number_space (simple.numbers_of (map numbered_told numbers)))) (alone_is (form.Numbers numbers) marks (mark.UseNumber ∷ []) of e)
      ∙ ap simple.number_space (numbers_back numbers bits)
      ∙ ap (λ b. if_so b (Some (Numbers numbers))) (both-so (simple.is_counted (length numbers)) (simple.ascend numbers) (counted_so (length numbers) sound.0) (ascend_so numbers sound.1))

  word_told : (spot : Spot) (marks : List Instruction) (ts : Roses TypeLabel) (how : WhiteSpace) (identifiers words : List (List ℕ)) → of_types marks ≡ true → counting marks ≡ white_space_marks how
      → Sound (Words how words) → IsForm M (form.Words identifiers words) → HasNames (form.Words identifiers words) → filter is_text marks ≡ texts_due (form.Words identifiers words)
      → WordsAreUtf8 (form.Words identifiers words) → is_order_item spot ≡ false → ToldAs spot (form.Words identifiers words) marks ts (Words how words)
  unfolding simple_told
  word_told spot marks ts how identifiers words of e sound is names texts utf8 other =
      let f = form.Words identifiers words in
      let told = words_of (type_marks_told f marks) (map name_at identifiers) in
      ap (λ b. if_so (not b) (simple.word_space told (white_space_alone (told_alone (type_marks_told f marks))))) other
      ∙ ap (λ a. simple.word_space told (white_space_alone a)) (alone_is f marks (white_space_marks how) of e)
      ∙ ap (simple.word_space told) (white_is f how)
      ∙ ap (λ ws. simple.word_space ws (Some how)) (words_are identifiers words marks is.2 names.1 texts)
      ∙ ap (λ b. if_so b (Some (Words how words)))
      (both-so (simple.is_counted (length words) && simple.texts_ascend words) (list_all (simple.is_word how) words)
      (both-so (simple.is_counted (length words)) (simple.texts_ascend words) (counted_so (length words) sound.0) (words_so words sound.1))
      (each_word how words sound.2 utf8))

  text_told : (spot : Spot) (marks : List Instruction) (ts : Roses TypeLabel) (how : WhiteSpace) (least : ℕ) (most : Option ℕ) (class : Class) → of_types marks ≡ true → counting marks ≡ white_space_marks how
      → AreSizes least most → HasBounds (form.Utf8 least most class) → ToldAs spot (form.Utf8 least most class) marks ts (Characters how least most class)
  unfolding simple_told
  text_told spot marks ts how least most class of e are bits =
      let f = form.Utf8 least most class in
      ap (λ a. simple.text_space (sizes_of (size_told least most)) class (white_space_alone a)) (alone_is f marks (white_space_marks how) of e)
      ∙ ap (simple.text_space (sizes_of (size_told least most)) class) (white_is f how)
      ∙ ap (λ o. simple.text_space o class (Some how)) (sizes_back least most bits.0 bits.1)
      ∙ ap (λ b. if_so b (Some (Characters how least most class))) (sizes_so least most are)

  first_told : (spot : Spot) (t : Rose TypeLabel) (ts : Roses TypeLabel) (s : Space) → simple_told spot (type_told M t) ≡ Some s → item_told spot (types_told M (rose.more t ts)) ≡ Some s
  unfolding item_told
  first_told spot t ts s e = e

  list_told : (spot : Spot) (marks : List Instruction) (t : Rose TypeLabel) (ts : Roses TypeLabel) (part : Component) (item : Space) (least : ℕ) (most : Option ℕ)
      → of_types marks ≡ true → counting marks ≡ mark.List ∷ [] → HasPartMarks part.identifier part.marks → IsPlain part
      → has_list item ≡ false → AreSizes least most → HasBounds (form.SequenceOf part least most) → simple_told (simple.item_spot spot) (type_told M t) ≡ Some item
      → ToldAs spot (form.SequenceOf part least most) marks (rose.more t ts) (ListOf item least most)
  unfolding simple_told
  list_told spot marks t ts part item least most of e has plain flat are bits told =
      let f = form.SequenceOf part least most in
      let first = item_told (simple.item_spot spot) (types_told M (rose.more t ts)) in
      let named = have_names_alone (part_marks_told part.identifier part.marks) in
      ap (λ a. if_so (is_list_alone a && named) (simple.list_space (sizes_of (size_told least most)) first)) (alone_is f marks (mark.List ∷ []) of e)
      ∙ ap (λ b. if_so b (simple.list_space (sizes_of (size_told least most)) first)) (names_alone part.identifier part.marks has.part plain.1)
      ∙ ap (λ o. simple.list_space o first) (sizes_back least most bits.0 bits.1)
      ∙ ap (λ o. simple.list_space (Some (least, most)) o) (first_told (simple.item_spot spot) t ts item told)
      ∙ ap (λ b. if_so b (Some (ListOf item least most))) (both-so (simple.are_sizes (least, most)) (not (has_list item)) (sizes_so least most are) (ap not flat))

  plain_parts : (parts : List Component) (ts : Roses TypeLabel) → ArePlain parts → All (λ (part : Component). HasPartMarks part.identifier part.marks) parts → simple.are_plain (components_told M parts ts) ≡ true
  plain_parts [] ts plain has = refl
  plain_parts (part ∷ parts) rose.none plain has = refl
  plain_parts (part ∷ parts) (rose.more t ts) plain has =
      let here = has zero part (omega arith) in
      both-so (have_names_alone (part_marks_told part.identifier part.marks)) (simple.are_plain (components_told M parts ts))
      (names_alone part.identifier part.marks here.part plain.0.1)
      (plain_parts parts ts plain.1 (λ k d lt. has (suc k) d (omega (arith, lt))))

  union_told : (spot : Spot) (marks : List Instruction) (ts : Roses TypeLabel) (parts : List Component) (members : Spaces)
      → of_types marks ≡ true → counting marks ≡ mark.UseUnion ∷ [] → ArePlain parts → All (λ (part : Component). HasPartMarks part.identifier part.marks) parts
      → IsCounted (count_members members) → members_told (types_told M ts) ≡ Some members → ToldAs spot (form.Choice parts) marks ts (UnionOf members)
  unfolding simple_told
  union_told spot marks ts parts members of e plain has count told =
      let f = form.Choice parts in
      let named = simple.are_plain (components_told M parts ts) in
      ap (λ a. if_so (is_union_alone a && named) (simple.union_space (members_told (types_told M ts)))) (alone_is f marks (mark.UseUnion ∷ []) of e)
      ∙ ap (λ b. if_so b (simple.union_space (members_told (types_told M ts)))) (plain_parts parts ts plain has)
      ∙ ap simple.union_space told
      ∙ ap (λ b. if_so b (Some (UnionOf members))) (counted_so (count_members members) count)

  abbrev TellsSimple : Space → Type 0
  TellsSimple s = (t : Rose TypeLabel) (spot there : Spot) → StandsIn spot t → Good M there t → TypeIsUtf8 t → MapsTo s t → Sound s → simple_told spot (type_told M t) ≡ Some s

  abbrev TellsMembers : Spaces → Type 0
  TellsMembers ss = (ts : Roses TypeLabel) (there : Spot) (l : TypeLabel) (i : ℕ) (parts : List Component) → AllGood M there l i parts ts → TypesAreUtf8 ts → MapToEach ss ts → AreSound ss
      → members_told (types_told M ts) ≡ Some ss

  booleans : TellsSimple Booleans
  booleans (node l ts) spot there stands good utf8 maps sound =
      subst (λ f. ToldAs spot f l.marks ts Booleans) (sym maps.0) (boolean_told spot l.marks ts good.0.printable.marks.type maps.1)

  wholes : (least greatest : Option ℤ) → TellsSimple (Wholes least greatest)
  wholes least greatest (node l ts) spot there stands good utf8 maps sound =
      subst (λ f. ToldAs spot f l.marks ts (Wholes least greatest)) (sym maps.0)
      (whole_told spot l.marks ts least greatest good.0.printable.marks.type maps.1 sound (subst HasBounds maps.0 good.0.bounds))

  numbers_ : (numbers : List ℤ) → TellsSimple (Numbers numbers)
  numbers_ numbers (node l ts) spot there stands good utf8 maps sound =
      subst (λ f. ToldAs spot f l.marks ts (Numbers numbers)) (sym maps.0)
      (number_told spot l.marks ts numbers good.0.printable.marks.type maps.1 sound (subst HasBounds maps.0 good.0.bounds))

  no_order : (spot : Spot) (l : TypeLabel) (ts : Roses TypeLabel) (identifiers words : List (List ℕ)) → l.form ≡ form.Words identifiers words → StandsIn spot (node l ts) → is_order_item spot ≡ false
  no_order Elsewhere l ts identifiers words e stands = refl
  no_order Order l ts identifiers words e stands = refl
  no_order OrderItem l ts identifiers words e stands = absurd (subst (IsInSpot OrderItem) e stands)

  words_ : (how : WhiteSpace) (words : List (List ℕ)) → TellsSimple (Words how words)
  words_ how words (node l ts) spot there stands good utf8 maps sound =
      let identifiers = maps.0 in
      let e : l.form ≡ form.Words identifiers words = maps.1.0 in
      subst (λ f. ToldAs spot f l.marks ts (Words how words)) (sym e)
      (word_told spot l.marks ts how identifiers words good.0.printable.marks.type maps.1.1 sound (subst (IsForm M) e good.0.well.form) (subst HasNames e good.0.printable.names)
      (good.0.printable.marks.texts ∙ ap texts_due e) (subst WordsAreUtf8 e utf8.0.words) (no_order spot l ts identifiers words e stands))

  characters_ : (how : WhiteSpace) (least : ℕ) (most : Option ℕ) (class : Class) → TellsSimple (Characters how least most class)
  characters_ how least most class (node l ts) spot there stands good utf8 maps sound =
      subst (λ f. ToldAs spot f l.marks ts (Characters how least most class)) (sym maps.0)
      (text_told spot l.marks ts how least most class good.0.printable.marks.type maps.1 sound (subst HasBounds maps.0 good.0.bounds))

  item_stands : (spot : Spot) (l : TypeLabel) (t : Rose TypeLabel) (ts : Roses TypeLabel) → is_sequence_of l.form ≡ true → StandsIn spot (node l (rose.more t ts)) → StandsIn (simple.item_spot spot) t
  item_stands Elsewhere l t ts e stands = tt
  item_stands OrderItem l t ts e stands = tt
  item_stands Order l (node k us) ts e stands = stands e

  lists_ : (item : Space) (least : ℕ) (most : Option ℕ) → TellsSimple item → TellsSimple (ListOf item least most)
  lists_ item least most tells (node l rose.none) spot there stands good utf8 maps sound = absurd maps.3
  lists_ item least most tells (node l (rose.more t ts)) spot there stands good utf8 maps sound =
      let part = maps.0 in
      let e : l.form ≡ form.SequenceOf part least most = maps.1.0 in
      let parts : parts_of l.form ≡ part ∷ [] = ap parts_of e in
      let kids = subst (λ ps. AllGood M there l 0 ps (rose.more t ts)) parts good.1 in
      let has = subst (λ ps. All (λ (p : Component). HasPartMarks p.identifier p.marks) ps) parts good.0.printable.parts in
      subst (λ f. ToldAs spot f l.marks (rose.more t ts) (ListOf item least most)) (sym e)
      (list_told spot l.marks t ts part item least most good.0.printable.marks.type maps.1.1 (has zero part (omega arith)) maps.2 sound.1 sound.2 (subst HasBounds e good.0.bounds)
      (tells t (simple.item_spot spot) (part_spot there l 0 part) (item_stands spot l t ts (ap is_sequence_of e) stands) kids.0 utf8.1.0 maps.3 sound.0))

  unions_ : (members : Spaces) → TellsMembers members → TellsSimple (UnionOf members)
  unions_ members tells (node l ts) spot there stands good utf8 maps sound =
      let parts = maps.0 in
      let e : l.form ≡ form.Choice parts = maps.1.0 in
      let has = subst (λ ps. All (λ (p : Component). HasPartMarks p.identifier p.marks) ps) (ap parts_of e) good.0.printable.parts in
      subst (λ f. ToldAs spot f l.marks ts (UnionOf members)) (sym e)
      (union_told spot l.marks ts parts members good.0.printable.marks.type maps.1.1 maps.2 has sound.0 (tells ts there l 0 (parts_of l.form) good.1 utf8.1 maps.3 sound.1))

  no_members : TellsMembers none
  unfolding members_told
  no_members rose.none there l i parts good utf8 maps sound = refl
  no_members (rose.more t ts) there l i parts good utf8 maps sound = absurd maps

  more_members : (s : Space) (ss : Spaces) → TellsSimple s → TellsMembers ss → TellsMembers (more s ss)
  unfolding members_told
  more_members s ss one others rose.none there l i parts good utf8 maps sound = absurd maps
  more_members s ss one others (rose.more t ts) there l i [] good utf8 maps sound = absurd good
  more_members s ss one others (rose.more t ts) there l i (part ∷ parts) good utf8 maps sound =
      ap₂ simple.with_member (one t Elsewhere (part_spot there l i part) tt good.0 utf8.0 maps.0 sound.0) (others ts there l (i + 1) parts good.1 utf8.1 maps.1 sound.2)
      ∙ ap (λ b. if_so (not b) (Some (more s ss))) sound.1

  mutual
    pub tells_simple : (s : Space) → TellsSimple s
    tells_simple Booleans = booleans
    tells_simple (Wholes least greatest) = wholes least greatest
    tells_simple (Numbers numbers) = numbers_ numbers
    tells_simple (Words how words) = words_ how words
    tells_simple (Characters how least most class) = characters_ how least most class
    tells_simple (ListOf item least most) = lists_ item least most (tells_simple item)
    tells_simple (UnionOf members) = unions_ members (tells_members members)

    tells_members : (ss : Spaces) → TellsMembers ss
    tells_members none = no_members
    tells_members (more s ss) = more_members s ss (tells_simple s) (tells_members ss)
