-- Forms without a fault: they are those of a module, printable, and printed as they are written.
use Rattle.std.proofs.Common.{◌≡◌, ◌≢◌, ℕ, suc, ◌<◌, ◌≤◌, ◌+◌, ◌^◌, Bool, true, false, ◌⊎◌, inl, inr, Option, Some, None, List, [], ◌∷◌, ◌++◌, length, map, filter, All, refl, sym, ap, ◌∙◌, subst, arith, codes, option_map, position, is_some, drop}
use Rattle.std.specs.Prelude.{ℤ, bytes_eq, unwrap_or, if◌then◌else◌}
use Rattle.std.specs.List.{flat_map, filter_map, IsDistinct}
use Rattle.std.proofs.lemmas.Bool.{true≢false}
use Rattle.std.proofs.lemmas.List.Elements.{All-nil, All-cons}
use Rattle.base_trees.specs.Rose.{Rose, node, Roses, length_all}
use Rattle.base_trees.specs.Rose as rose
use Rattle.simple_types.specs.declared.simples.Class.{Class}
use Rattle.simple_types.specs.Sound.{IsCounted}
use Rattle.asn_types.specs.declared.types.Component.{Component}
use Rattle.asn_types.specs.declared.types.Form.{Form}
use Rattle.asn_types.specs.declared.types.Form.TheVariants as meant
use Rattle.asn_types.specs.declared.modules.Assignment.{Assignment}
use Rattle.asn_types.specs.Bounds.{HasBounds}
use Rattle.asn_types.specs.Modules as modules
use Rattle.module_print.specs.Notation.{enumerated, block, class_range, new_line}
use Rattle.module_print.specs.Printed.{reference_at, type_of}
use Rattle.module_text.specs.declared.marks.TypeMark.{TypeMark}
use Rattle.module_text.specs.declared.types.NumberedItem.{NumberedItem}
use Rattle.module_text.specs.declared.types.PlainName.{PlainName}
use Rattle.module_text.specs.declared.types.PlainPart.{PlainPart}
use Rattle.module_text.specs.declared.types.PlainForm.{PlainForm}
use Rattle.module_text.specs.declared.types.PlainForm.TheVariants as form
use Rattle.module_text.specs.declared.types.PlainLabel.{PlainLabel}
use Rattle.module_text.specs.declared.modules.PlainAssignment.{PlainAssignment}
use Rattle.module_text.specs.Names.{is_identifier}
use Rattle.module_text.specs.Texts.{item_text, parts_of, level_of_parts, form_text, part_texts}
use Rattle.module_text.specs.Plain.{HasParts, IsName, IsComponent, IsAlternative, IsItem, IsForm}
use Rattle.module_text.specs.declared.spots.Spot.{Spot}
use Rattle.module_text.specs.declared.spots.Spot.TheVariants as spot_
use Rattle.module_text.specs.Told.{words_of, said}
use Rattle.module_text.specs.declared.reasons.ModuleWhy.TheVariants as why
use Rattle.module_text.specs.Resolving.{number_of}
use Rattle.module_text.specs.Simple.{is_order_item, texts_behind}
use Rattle.module_text.specs.Orders.{may_be_absent}
use Rattle.module_text.specs.Marks.{item_number}
use Rattle.module_text.specs.Faults.{type_mark_faults, form_faults, part_spot}
use Rattle.module_text.specs.Meaning.{type_marks_meant, names_of, words_meant, int_meant, utf8_meant, list_meant, components_meant, item_meant, form_meant, assignment_meant, module_meant}
use Rattle.module_text.specs.Printable.{is_text, texts_due, IsIdentifier, AreIdentifiers, IsPresent, HasNames, IsInSpot}
use Rattle.module_text.proofs.PrintedBounds.{range-printed, unless-none}
use Rattle.module_laws.proofs.Sounding.{numbers_ascend, words_ascend}
use Rattle.module_laws.proofs.SizeLaws.{range-sound, size-printed}
use Rattle.module_laws.proofs.NumberLaws.{numbers-printed}
use Rattle.module_laws.proofs.WordLaws.{words-long, words-fine}
use Rattle.module_laws.proofs.Firsts.{new-distinct, same_bytes, place-found, got-within, got-mapped}
use Rattle.module_laws.proofs.SimpleLaws.{all_head, all_tail}
use Rattle.module_laws.proofs.TypeMarkLaws.{Finds, finds-none, finds-words, texts-due, texts-none}
use Rattle.module_laws.proofs.RoleLaws.{components-long}
use Rattle.module_laws.proofs.Placed.{total, enumerated-long, block-long}

-- ---- how many there are

pub many : (k : ℕ) (ts : List (List ℕ)) → length ts ≤ total (suc k) ts
many k [] = omega arith
many k (t ∷ ts) = omega (arith, many k ts)

mapped-long : {A B : Type 0} (f : A → B) (xs : List A) → length (map f xs) ≡ length xs
mapped-long f [] = refl
mapped-long f (x ∷ xs) = ap suc (mapped-long f xs)

some_parts : {A : Type 0} (xs : List A) → HasParts xs → 0 < length xs
some_parts [] h = absurd h
some_parts (x ∷ xs) h = omega arith

-- as many as a number of 32 bits counts
counted_in : {A : Type 0} (xs : List A) (text : List ℕ) → HasParts xs → length xs ≤ length text → length text < 2 ^ 32 → IsCounted (length xs)
counted_in xs text h le small = (some_parts xs h, omega (arith, le, small))

enumerated_many : (ts : List (List ℕ)) → length ts ≤ length (enumerated ts)
enumerated_many ts = omega (arith, many 1 ts, enumerated-long ts)

block_many : (levels : ℕ) (ts : List (List ℕ)) → length ts ≤ length (block levels ts)
block_many levels ts = omega (arith, many (length (new_line (suc levels))) ts, block-long levels ts)

texts_many : (levels : ℕ) (ps : List PlainPart) (ts : Roses PlainLabel) → length_all ts ≡ length ps → length (part_texts levels ps ts) ≡ length ps
texts_many levels [] rose.none long = refl
texts_many levels [] (rose.more t ts) long = refl
texts_many levels (part ∷ ps) rose.none long = absurd (omega (arith, long))
texts_many levels (part ∷ ps) (rose.more t ts) long = ap suc (texts_many levels ps ts (omega (arith, long)))

-- ---- names

names_are : (is : List PlainName) → All IsName is → All IsIdentifier (names_of is)
names_are [] h = All-nil IsIdentifier
names_are (i ∷ is) h = All-cons IsIdentifier i.name (names_of is) (all_head IsName i is h) (names_are is (all_tail IsName i is h))

abbrev pub identifiers_of : List PlainPart → List (List ℕ)
identifiers_of ps = map (λ (part : PlainPart). part.identifier) ps

module _ (P : List PlainAssignment) where
  part_names_are : (spot : Spot) (l : PlainLabel) (i : ℕ) (ps : List PlainPart) (ts : Roses PlainLabel) → length_all ts ≡ length ps
      → map (λ (part : Component). part.identifier) (components_meant P spot l i ps ts) ≡ identifiers_of ps
  part_names_are spot l i [] ts long = refl
  part_names_are spot l i (part ∷ ps) rose.none long = absurd (omega (arith, long))
  part_names_are spot l i (part ∷ ps) (rose.more t ts) long = ap (λ names. part.identifier ∷ names) (part_names_are spot l (i + 1) ps ts (omega (arith, long)))

  present : (spot : Spot) (l : PlainLabel) (i : ℕ) (ps : List PlainPart) (ts : Roses PlainLabel) → All IsAlternative ps → All IsPresent (components_meant P spot l i ps ts)
  present spot l i [] ts h = All-nil IsPresent
  present spot l i (part ∷ ps) rose.none h = All-nil IsPresent
  present spot l i (part ∷ ps) (rose.more t ts) h =
      All-cons IsPresent _ (components_meant P spot l (i + 1) ps ts) (ap may_be_absent (all_head IsAlternative part ps h).bare.1)
      (present spot l (i + 1) ps ts (all_tail IsAlternative part ps h))

  component_names : (ps : List PlainPart) → All IsComponent ps → All IsIdentifier (identifiers_of ps)
  component_names [] h = All-nil IsIdentifier
  component_names (part ∷ ps) h = All-cons IsIdentifier part.identifier (identifiers_of ps) (all_head IsComponent part ps h).identifier (component_names ps (all_tail IsComponent part ps h))

  alternative_names : (ps : List PlainPart) → All IsAlternative ps → All IsIdentifier (identifiers_of ps)
  alternative_names [] h = All-nil IsIdentifier
  alternative_names (part ∷ ps) h = All-cons IsIdentifier part.identifier (identifiers_of ps) (all_head IsAlternative part ps h).identifier (alternative_names ps (all_tail IsAlternative part ps h))

  item_name : (part : PlainPart) → IsItem part → part.identifier ≢ [] → IsIdentifier part.identifier
  item_name part h some = by h.identifier
    where
      by : (part.identifier ≡ []) ⊎ (is_identifier part.identifier ≡ true) → IsIdentifier part.identifier
      by (inl none) = absurd (some none)
      by (inr is) = is

  -- ---- forms

  pub record FineForm (spot : Spot) (l : PlainLabel) (ts : Roses PlainLabel) : Type 0 where
    pub form : modules.IsForm (module_meant P) (form_meant P spot l ts)
    pub bounds : HasBounds (form_meant P spot l ts)
    pub names : HasNames (form_meant P spot l ts)
    pub stands : IsInSpot spot (form_meant P spot l ts)
    pub texts : filter is_text (type_marks_meant spot l.form l.marks) ≡ texts_due (form_meant P spot l ts)
    pub finds : Finds spot l.form (form_meant P spot l ts)
    pub printed : (levels : ℕ) (parts : List (List ℕ)) → type_of (module_meant P) levels (form_meant P spot l ts) parts ≡ form_text levels l.form parts

  -- the text of the form is of as many bytes as a number of 32 bits counts
  abbrev pub Short : ℕ → PlainForm → Roses PlainLabel → Type 0
  Short levels f ts = length (form_text levels f (part_texts (level_of_parts levels f) (parts_of f) ts)) < 2 ^ 32

  abbrev Fine : (at : ℕ) (ms : List TypeMark) (f : PlainForm) (ts : Roses PlainLabel) → Type 0
  Fine at ms f ts =
      let l : PlainLabel = record { at = at; marks = ms; form = f } in
      (levels : ℕ) (spot : Spot) → IsForm f → length_all ts ≡ length (parts_of f) → Short levels f ts → type_mark_faults P spot l ts None 0 ms ≡ [] → form_faults P spot ms f ≡ []
      → IsDistinct bytes_eq (identifiers_of (parts_of f)) → FineForm spot l ts

  nowhere : (spot : Spot) → IsInSpot spot meant.Bool
  nowhere spot_.OrderItem = tt
  nowhere spot_.Elsewhere = tt
  nowhere spot_.Order = tt

  nowhere_int : (spot : Spot) (least greatest : Option ℤ) → IsInSpot spot (meant.Int least greatest)
  nowhere_int spot_.OrderItem least greatest = tt
  nowhere_int spot_.Elsewhere least greatest = tt
  nowhere_int spot_.Order least greatest = tt

  nowhere_numbers : (spot : Spot) (zs : List ℤ) → IsInSpot spot (meant.Numbers zs)
  nowhere_numbers spot_.OrderItem zs = tt
  nowhere_numbers spot_.Elsewhere zs = tt
  nowhere_numbers spot_.Order zs = tt

  nowhere_utf8 : (spot : Spot) (least : ℕ) (most : Option ℕ) (class : Class) → IsInSpot spot (meant.Utf8 least most class)
  nowhere_utf8 spot_.OrderItem least most class = tt
  nowhere_utf8 spot_.Elsewhere least most class = tt
  nowhere_utf8 spot_.Order least most class = tt

  nowhere_sequence : (spot : Spot) (parts : List Component) → IsInSpot spot (meant.Sequence parts)
  nowhere_sequence spot_.OrderItem parts = tt
  nowhere_sequence spot_.Elsewhere parts = tt
  nowhere_sequence spot_.Order parts = tt

  nowhere_choice : (spot : Spot) (parts : List Component) → IsInSpot spot (meant.Choice parts)
  nowhere_choice spot_.OrderItem parts = tt
  nowhere_choice spot_.Elsewhere parts = tt
  nowhere_choice spot_.Order parts = tt

  nowhere_list : (spot : Spot) (part : Component) (least : ℕ) (most : Option ℕ) → IsInSpot spot (meant.SequenceOf part least most)
  nowhere_list spot_.OrderItem part least most = tt
  nowhere_list spot_.Elsewhere part least most = tt
  nowhere_list spot_.Order part least most = tt

  nowhere_ref : (spot : Spot) (k : ℕ) → IsInSpot spot (meant.Ref k)
  nowhere_ref spot_.OrderItem k = tt
  nowhere_ref spot_.Elsewhere k = tt
  nowhere_ref spot_.Order k = tt

  no_names : AreIdentifiers []
  unfolding IsDistinct
  no_names = (All-nil IsIdentifier, tt)

  -- a form other than an ENUMERATED of words
  abbrev Plainly : Spot → PlainLabel → Form → Type 0
  Plainly spot l to =
      modules.IsForm (module_meant P) to × HasBounds to × HasNames to × IsInSpot spot to × (texts_due to ≡ [])
      × ((levels : ℕ) (parts : List (List ℕ)) → type_of (module_meant P) levels to parts ≡ form_text levels l.form parts)

  fine_from : (spot : Spot) (l : PlainLabel) (ts : Roses PlainLabel) (to : Form) → form_meant P spot l ts ≡ to → ((least : ℕ) (identifier : List ℕ) → item_number spot l.form least identifier ≡ None)
      → type_mark_faults P spot l ts None 0 l.marks ≡ [] → Plainly spot l to → FineForm spot l ts
  fine_from spot l ts to is lacks e h =
      record {
        form = subst (λ f. modules.IsForm (module_meant P) f) (sym is) h.0;
        bounds = subst (λ f. HasBounds f) (sym is) h.1;
        names = subst (λ f. HasNames f) (sym is) h.2;
        stands = subst (λ f. IsInSpot spot f) (sym is) h.3;
        texts = texts-none P spot l ts lacks e ∙ sym (ap texts_due is ∙ h.4);
        finds = finds-none spot l.form (form_meant P spot l ts) lacks;
        printed = λ levels parts. ap (λ f. type_of (module_meant P) levels f parts) is ∙ h.5 levels parts;
      }

  bool_fine : (at : ℕ) (ms : List TypeMark) (ts : Roses PlainLabel) → Fine at ms form.Bool ts
  bool_fine at ms ts levels spot is long small marks faults apart =
      fine_from spot (record { at = at; marks = ms; form = form.Bool }) ts meant.Bool refl (λ least identifier. refl) marks
      (tt, tt, no_names, nowhere spot, refl, λ levels parts. refl)

  int_fine : (at : ℕ) (ms : List TypeMark) (r : _) (ts : Roses PlainLabel) → Fine at ms (form.Int r) ts
  int_fine at ms r ts levels spot is long small marks faults apart =
      let p = range-printed r faults in
      let b = p.bounds in
      let s = range-sound r faults b p.is in
      fine_from spot (record { at = at; marks = ms; form = form.Int r }) ts (meant.Int b.0 b.1) (ap int_meant p.is) (λ least identifier. refl) marks
      (s.bounds, (s.least, s.greatest), no_names, nowhere_int spot b.0 b.1, refl, λ levels parts. ap (λ text. codes "INTEGER" ++ text) p.printed)

  numbers_fine : (at : ℕ) (ms : List TypeMark) (items : List NumberedItem) (ts : Roses PlainLabel) → Fine at ms (form.Numbers items) ts
  numbers_fine at ms items ts levels spot is long small marks faults apart =
      let p = numbers-printed [] None items faults in
      let texts = map item_text items in
      let le : length items ≤ length (enumerated texts) = omega (arith, enumerated_many texts, mapped-long item_text items) in
      let c = counted_in items (enumerated texts) is.0 le small in
      fine_from spot (record { at = at; marks = ms; form = form.Numbers items }) ts (meant.Numbers p.numbers) (ap (λ o. meant.Numbers (unwrap_or o [])) p.is) (λ least identifier. refl) marks
      ((subst (λ n. IsCounted n) (sym p.long) c, numbers_ascend p.numbers p.ascend), p.whole, no_names, nowhere_numbers spot p.numbers, refl, λ levels parts. ap enumerated p.printed)

  utf8_fine : (at : ℕ) (ms : List TypeMark) (size : _) (class : Class) (ts : Roses PlainLabel) → Fine at ms (form.Utf8 size class) ts
  utf8_fine at ms size class ts levels spot is long small marks faults apart =
      let p = size-printed size faults in
      let s = p.sizes in
      fine_from spot (record { at = at; marks = ms; form = form.Utf8 size class }) ts (meant.Utf8 s.0 s.1 class) (ap (λ o. utf8_meant o class) p.is) (λ least identifier. refl) marks
      (p.sound, (p.least, p.most), no_names, nowhere_utf8 spot s.0 s.1 class, refl, λ levels parts. ap (λ text. codes "UTF8String" ++ text ++ class_range class) p.printed)

  sequence_fine : (at : ℕ) (ms : List TypeMark) (ps : List PlainPart) (ts : Roses PlainLabel) → Fine at ms (form.Sequence ps) ts
  sequence_fine at ms ps ts levels spot is long small marks faults apart =
      let l : PlainLabel = record { at = at; marks = ms; form = form.Sequence ps } in
      let cs = components_meant P spot l 0 ps ts in
      let texts = part_texts (suc levels) ps ts in
      let names = part_names_are spot l 0 ps ts long in
      let R : List (List ℕ) → Type 0 = λ ns. AreIdentifiers ns in
      fine_from spot l ts (meant.Sequence cs) refl (λ least identifier. refl) marks (
        omega (arith, components-long P spot l 0 ps ts long, texts_many (suc levels) ps ts long, block_many levels texts, small),
        tt,
        subst R (sym names) (component_names ps is, apart),
        nowhere_sequence spot cs,
        refl,
        λ levels parts. refl,
      )

  choice_fine : (at : ℕ) (ms : List TypeMark) (ps : List PlainPart) (ts : Roses PlainLabel) → Fine at ms (form.Choice ps) ts
  choice_fine at ms ps ts levels spot is long small marks faults apart =
      let l : PlainLabel = record { at = at; marks = ms; form = form.Choice ps } in
      let cs = components_meant P spot l 0 ps ts in
      let texts = part_texts (suc levels) ps ts in
      let names = part_names_are spot l 0 ps ts long in
      let R : List (List ℕ) → Type 0 = λ ns. AreIdentifiers ns in
      let same = components-long P spot l 0 ps ts long in
      let some = some_parts ps is.0 in
      fine_from spot l ts (meant.Choice cs) refl (λ least identifier. refl) marks (
        (omega (arith, same, some), omega (arith, same, texts_many (suc levels) ps ts long, block_many levels texts, small)),
        tt,
        (subst R (sym names) (alternative_names ps is.1, apart), present spot l 0 ps ts is.1),
        nowhere_choice spot cs,
        refl,
        λ levels parts. refl,
      )

  list_present : (spot : Spot) (item : PlainPart) (ts : Roses PlainLabel) → IsItem item → (item_meant P spot item ts).optional ≡ false
  list_present spot item rose.none h = refl
  list_present spot item (rose.more t ts) h = ap may_be_absent h.bare.1

  list_named : (spot : Spot) (item : PlainPart) (ts : Roses PlainLabel) → (item_meant P spot item ts).identifier ≡ item.identifier
  list_named spot item rose.none = refl
  list_named spot item (rose.more t ts) = refl

  list_fine : (at : ℕ) (ms : List TypeMark) (size : _) (item : PlainPart) (ts : Roses PlainLabel) → Fine at ms (form.SequenceOf size item) ts
  list_fine at ms size item ts levels spot is long small marks faults apart =
      let l : PlainLabel = record { at = at; marks = ms; form = form.SequenceOf size item } in
      let p = size-printed size faults in
      let s = p.sizes in
      let c = item_meant P (part_spot spot l 0 item) item ts in
      let same = list_named (part_spot spot l 0 item) item ts in
      let N : List ℕ → Type 0 = λ n. n ≢ [] → IsIdentifier n in
      fine_from spot l ts (meant.SequenceOf c s.0 s.1) (ap (λ o. list_meant o c) p.is) (λ least identifier. refl) marks (
        p.sound,
        (p.least, p.most),
        (subst N (sym same) (item_name item is.1), list_present (part_spot spot l 0 item) item ts is.1),
        nowhere_list spot c s.0 s.1,
        refl,
        λ levels parts. ap (λ text. codes "SEQUENCE" ++ text ++ codes " OF " ++ flat_map (λ part. part) parts) p.printed,
      )

  ref_printed : (reference : PlainName) (k : ℕ) → number_of P reference.name ≡ Some k → reference_at (module_meant P) k ≡ reference.name
  ref_printed reference k e =
      let a = place-found (λ (a : PlainAssignment). bytes_eq a.reference reference.name) P k e in
      ap (λ o. unwrap_or (option_map (λ (a : Assignment). a.reference) o) []) (got-mapped (assignment_meant P) P k ∙ ap (λ o. option_map (assignment_meant P) o) a.1)
      ∙ same_bytes a.0.reference reference.name a.2

  number-some : (o : Option ℕ) → is_some o ≡ true → (k : ℕ) × (o ≡ Some k)
  number-some None e = absurd (true≢false (sym e))
  number-some (Some k) e = (k, refl)

  ref_fine : (at : ℕ) (ms : List TypeMark) (reference : PlainName) (ts : Roses PlainLabel) → Fine at ms (form.Ref reference) ts
  ref_fine at ms reference ts levels spot is long small marks faults apart =
      let k = number-some (number_of P reference.name) (unless-none (is_some (number_of P reference.name)) reference.at why.Unresolved faults) in
      let a = place-found (λ (a : PlainAssignment). bytes_eq a.reference reference.name) P k.0 k.1 in
      let within = got-within P k.0 a.0 a.1 in
      fine_from spot (record { at = at; marks = ms; form = form.Ref reference }) ts (meant.Ref k.0) (ap (λ o. meant.Ref (unwrap_or o 0)) k.1) (λ least identifier. refl) marks
      (omega (arith, within, mapped-long (assignment_meant P) P), tt, no_names, nowhere_ref spot k.0, refl, λ levels parts. ref_printed reference k.0 k.1)

  order_stands : (spot : Spot) (names : List (List ℕ)) → is_order_item spot ≡ true → IsInSpot spot (meant.Order names)
  order_stands spot_.OrderItem names e = tt
  order_stands spot_.Elsewhere names e = absurd (true≢false (sym e))
  order_stands spot_.Order names e = absurd (true≢false (sym e))

  words_stand : (spot : Spot) (names words : List (List ℕ)) → is_order_item spot ≡ false → IsInSpot spot (meant.Words names words)
  words_stand spot_.OrderItem names words e = absurd (true≢false e)
  words_stand spot_.Elsewhere names words e = tt
  words_stand spot_.Order names words e = tt

  words_by : (at : ℕ) (ms : List TypeMark) (names : List PlainName) (ts : Roses PlainLabel) (spot : Spot) (order : Bool) → is_order_item spot ≡ order
      → let l : PlainLabel = record { at = at; marks = ms; form = form.Words names } in
      All IsName names → IsCounted (length names) → IsDistinct bytes_eq (names_of names) → (order ≡ false → texts_behind None (words_of ms names) ≡ true)
      → type_mark_faults P spot l ts None 0 ms ≡ [] → FineForm spot l ts
  words_by at ms names ts spot true o is c distinct up marks =
      let l : PlainLabel = record { at = at; marks = ms; form = form.Words names } in
      fine_from spot l ts (meant.Order (names_of names)) (ap (λ b. words_meant b ms names) o)
      (λ least identifier. ap (λ b. if b then None else option_map (λ i. least + i) (position (λ (i : PlainName). bytes_eq i.name identifier) (drop least names))) o) marks
      (subst (λ n. IsCounted n) (sym (mapped-long (λ (i : PlainName). i.name) names)) c, tt, (names_are names is, distinct), order_stands spot (names_of names) o, refl, λ levels parts. refl)
  words_by at ms names ts spot false o is c distinct up marks =
      let l : PlainLabel = record { at = at; marks = ms; form = form.Words names } in
      let words = words_of ms names in
      let to : Form = meant.Words (names_of names) words in
      let long = words-long (filter_map said ms) names in
      let as_ : form_meant P spot l ts ≡ to = ap (λ b. words_meant b ms names) o in
      let finds = finds-words spot names words o distinct in
      record {
        form = subst (λ f. modules.IsForm (module_meant P) f) (sym as_) (subst (λ n. IsCounted n) (sym long) c, words_ascend words (up refl), mapped-long (λ (i : PlainName). i.name) names ∙ sym long);
        bounds = subst (λ f. HasBounds f) (sym as_) tt;
        names = subst (λ f. HasNames f) (sym as_) (names_are names is, distinct);
        stands = subst (λ f. IsInSpot spot f) (sym as_) (words_stand spot (names_of names) words o);
        texts = texts-due P spot l ts names words o finds marks ∙ sym (ap texts_due as_);
        finds = subst (λ f. Finds spot (form.Words names) f) (sym as_) finds;
        printed = λ levels parts. ap (λ f. type_of (module_meant P) levels f parts) as_;
      }

  words_fine : (at : ℕ) (ms : List TypeMark) (names : List PlainName) (ts : Roses PlainLabel) → Fine at ms (form.Words names) ts
  words_fine at ms names ts levels spot is long small marks faults apart =
      let w = words-fine (is_order_item spot) [] None names (words_of ms names) (words-long (filter_map said ms) names) faults in
      let texts = map (λ (i : PlainName). i.name) names in
      let le : length names ≤ length (enumerated texts) = omega (arith, enumerated_many texts, mapped-long (λ (i : PlainName). i.name) names) in
      words_by at ms names ts spot (is_order_item spot) refl is.1 (counted_in names (enumerated texts) is.0 le small) (new-distinct [] (names_of names) w.new) w.ascend marks

  form_by : (at : ℕ) (ms : List TypeMark) (f : PlainForm) (ts : Roses PlainLabel) → Fine at ms f ts
  form_by at ms form.Bool ts = bool_fine at ms ts
  form_by at ms (form.Int r) ts = int_fine at ms r ts
  form_by at ms (form.Numbers items) ts = numbers_fine at ms items ts
  form_by at ms (form.Words names) ts = words_fine at ms names ts
  form_by at ms (form.Utf8 size class) ts = utf8_fine at ms size class ts
  form_by at ms (form.Sequence ps) ts = sequence_fine at ms ps ts
  form_by at ms (form.Choice ps) ts = choice_fine at ms ps ts
  form_by at ms (form.SequenceOf size item) ts = list_fine at ms size item ts
  form_by at ms (form.Ref reference) ts = ref_fine at ms reference ts

  pub form-fine : (l : PlainLabel) (ts : Roses PlainLabel) (levels : ℕ) (spot : Spot) → IsForm l.form → length_all ts ≡ length (parts_of l.form) → Short levels l.form ts
      → type_mark_faults P spot l ts None 0 l.marks ≡ [] → form_faults P spot l.marks l.form ≡ [] → IsDistinct bytes_eq (identifiers_of (parts_of l.form)) → FineForm spot l ts
  form-fine l ts levels spot is long small marks faults apart = form_by l.at l.marks l.form ts levels spot is long small marks faults apart
