-- A printable module has no fault as it is told, where its texts are UTF-8.
use Rattle.std.proofs.Common.{◌≡◌, ℕ, zero, suc, ◌≤◌, ◌+◌, ◌-◌, Bool, true, false, ◌&&◌, ◌||◌, not, None, List, [], ◌∷◌, ◌++◌, map, length, refl, ap, ap₂, ◌∙◌, arith}
use Rattle.std.specs.Prelude.{All, bytes_eq, is_some, nat_lt, if◌then◌else◌}
use Rattle.std.specs.List.{Contains, AllByRecursion, IsDistinct}
use Rattle.base_trees.specs.Rose.{Rose, node, Roses, none, more, label_of, length_all, height, depth_all}
use Rattle.base_texts.specs.Limits.{is_empty}
use Rattle.simple_types.specs.declared.standards.Standard.TheVariants.{Free}
use Rattle.asn_names.specs.ReservedWords.{reserved_words}
use Rattle.asn_names.proofs.Apart.{has-Contains}
use Rattle.asn_types.specs.declared.types.Component.{Component}
use Rattle.asn_types.specs.declared.types.TypeLabel.{TypeLabel}
use Rattle.asn_types.specs.declared.modules.Assignment.{Assignment}
use Rattle.asn_types.specs.Marks as marked
use Rattle.asn_types.specs.Modules as modules
use Rattle.asn_types.specs.Parts.{parts_of}
use Rattle.module_text.specs.declared.types.PlainLabel.{PlainLabel}
use Rattle.module_text.specs.declared.modules.PlainAssignment.{PlainAssignment}
use Rattle.module_text.specs.Plain.{limit}
use Rattle.module_text.specs.Texts as laid
use Rattle.module_text.specs.declared.spots.Spot.{Spot}
use Rattle.module_text.specs.declared.spots.Spot.TheVariants.{Elsewhere}
use Rattle.module_text.specs.declared.reasons.ModuleWhy.TheVariants as why
use Rattle.module_text.specs.declared.reasons.TextFault.{TextFault}
use Rattle.module_text.specs.Listed.{unless}
use Rattle.module_text.specs.Told as told
use Rattle.module_text.specs.Resolving as resolving
use Rattle.module_text.specs.Faults as rule
use Rattle.module_text.specs.Printable.{part_spot, IsPrintable}
use Rattle.module_unique.specs.Alike.{HasOctets, IsOfOctets}
use Rattle.module_unique.specs.Utf8Texts.{MarkIsUtf8, PartIsUtf8, TypeIsUtf8, TypesAreUtf8, HasTexts}
use Rattle.module_unique.proofs.Telling.{part_marks_told, component_told, components_told, form_told, type_told, types_told, assignment_told, module_told}
use Rattle.module_unique.proofs.Goods.{Good, AllGood, GoodBody, bodies}
use Rattle.module_unique.proofs.CleanForms.{stands-so, no-more, both-so, AreFresh, fresh_first, fresh_more}
use Rattle.module_unique.proofs.CleanRoles.{AreMarked, label_told, embed_same, order_same, list_same}
use Rattle.module_unique.proofs.CleanKnown.{Known}
use Rattle.module_unique.proofs.CleanChains.{parts_are, chains_told}
use Rattle.module_unique.proofs.CleanTypes.{not_listed, if_none, names_apart, form_clean, marks_clean, spot_told, NamedSo, named_by, standards_are, label_clean, fixed_by, absence_by, own_marks_clean}

module _ (M : List Assignment) (distinct : IsDistinct bytes_eq (map (λ (a : Assignment). a.reference) M)) (all : All (GoodBody M) M) (utf8 : All (λ (a : Assignment). TypeIsUtf8 a.body) M) where
  abbrev P : List PlainAssignment
  P = module_told M

  abbrev TypeClean : Rose TypeLabel → Type 0
  TypeClean t = (spot : Spot) (nameless : Bool) → Good M spot t → height t ≤ limit → TypeIsUtf8 t → modules.AreItemsNamed nameless t → rule.type_faults P spot nameless (type_told M t) ≡ []

  -- what is known of parts
  record PartsAre (spot : Spot) (nameless : Bool) (l : TypeLabel) (kids : Roses TypeLabel) (i : ℕ) (before : List (List ℕ)) (front : ℕ) (parts : List Component) (ts : Roses TypeLabel) : Type 0 where
    pub long : length_all kids ≡ length (parts_of l.form)
    pub good : AllGood M spot l i parts ts
    pub low : depth_all ts ≤ limit
    pub texts : TypesAreUtf8 ts
    pub own : All PartIsUtf8 parts
    pub marks : AreMarked parts
    pub octets : All (λ (part : Component). HasOctets part.standard) parts
    pub apart : IsDistinct bytes_eq (map (λ (part : Component). part.identifier) parts)
    pub fresh : AreFresh before (map (λ (part : Component). part.identifier) parts)
    pub named : NamedSo M distinct all utf8 nameless l kids parts
    pub simple : modules.AttributesAreSimple M parts ts
    pub standards : modules.AreStandards M parts ts
    pub items : modules.AllItemsNamed front ts

  abbrev PartsClean : Roses TypeLabel → Type 0
  PartsClean ts = (spot : Spot) (nameless : Bool) (l : TypeLabel) (kids : Roses TypeLabel) (i : ℕ) (before : List (List ℕ)) (front : ℕ) (parts : List Component)
      → PartsAre spot nameless l kids i before front parts ts → rule.part_faults P spot nameless (label_told M l kids) i before front (components_told M parts ts) (types_told M ts) ≡ []

  none_clean : PartsClean none
  unfolding rule.part_faults
  none_clean spot nameless l kids i before front parts are = refl

  distinct_rest : (x : List ℕ) (xs : List (List ℕ)) → IsDistinct bytes_eq (x ∷ xs) → AllByRecursion (λ y. bytes_eq x y ≡ false) xs × IsDistinct bytes_eq xs
  unfolding IsDistinct
  distinct_rest x xs apart = apart

  parts_rest : (spot : Spot) (nameless : Bool) (l : TypeLabel) (kids : Roses TypeLabel) (i : ℕ) (before : List (List ℕ)) (front : ℕ) (part : Component) (parts : List Component) (t : Rose TypeLabel) (ts : Roses TypeLabel)
      → PartsAre spot nameless l kids i before front (part ∷ parts) (more t ts) → PartsAre spot nameless l kids (i + 1) (before ++ part.identifier ∷ []) (front - 1) parts ts
  parts_rest spot nameless l kids i before front part parts t ts are =
      let low = are.low in
      let apart = distinct_rest part.identifier (map (λ (p : Component). p.identifier) parts) are.apart in
      record {
        long = are.long;
        good = are.good.1;
        low = omega (arith, low);
        texts = are.texts.1;
        own = λ k d lt. are.own (suc k) d (omega (arith, lt));
        marks = λ k d lt. are.marks (suc k) d (omega (arith, lt));
        octets = λ k d lt. are.octets (suc k) d (omega (arith, lt));
        apart = apart.1;
        fresh = fresh_more before part.identifier (map (λ (p : Component). p.identifier) parts) are.fresh.1 apart.0;
        named = are.named.1;
        simple = are.simple.1;
        standards = are.standards.1;
        items = are.items.1;
      }

  part_known : (spot : Spot) (nameless : Bool) (l : TypeLabel) (kids : Roses TypeLabel) (i : ℕ) (before : List (List ℕ)) (front : ℕ) (part : Component) (parts : List Component) (t : Rose TypeLabel) (ts : Roses TypeLabel)
      → PartsAre spot nameless l kids i before front (part ∷ parts) (more t ts) → Known M t
  part_known spot nameless l kids i before front part parts t ts are =
      let low = are.low in record { spot = part_spot spot l i part; good = are.good.0; low = omega (arith, low); utf8 = are.texts.0 }

  -- the faults of one part, where its type stands here
  abbrev own_faults : Spot → Bool → PlainLabel → List (List ℕ) → ℕ → Component → Rose TypeLabel → List TextFault
  own_faults spot nameless l before front part t =
      let p = component_told M part t in
      let u = type_told M t in
      let space = rule.space_at P spot p.marks u in
      unless (not (rule.is_listed before p.identifier)) p.at why.Duplicate
      ++ (if rule.is_bare p (label_of u) then rule.reference_faults P (label_of u).form else [])
      ++ unless (rule.is_named_so nameless l.form p) p.at why.Spelling
      ++ rule.part_mark_faults (is_some space) p.identifier None p.marks
      ++ rule.type_faults P spot (nat_lt 0 front) u
      ++ rule.fixed_faults space p.fixed
      ++ rule.absence_faults space p.fixed (resolving.resolve P u) p.absence

  own_clean : (spot : Spot) (nameless : Bool) (l : TypeLabel) (kids : Roses TypeLabel) (i : ℕ) (before : List (List ℕ)) (front : ℕ) (part : Component) (parts : List Component) (t : Rose TypeLabel) (ts : Roses TypeLabel)
      → PartsAre spot nameless l kids i before front (part ∷ parts) (more t ts) → TypeClean t
      → own_faults (part_spot spot l i part) nameless (label_told M l kids) before front part t ≡ []
  own_clean spot nameless l kids i before front part parts t ts are first =
      let here = part_spot spot l i part in
      let p = component_told M part t in
      let u = type_told M t in
      let low = are.low in
      let known = part_known spot nameless l kids i before front part parts t ts are in
      let good : Good M here t = are.good.0 in
      let own = are.own zero part (omega arith) in
      let space = rule.space_at P here p.marks u in
      let f1 = unless (not (rule.is_listed before p.identifier)) p.at why.Duplicate in
      let f2 : List TextFault = if rule.is_bare p (label_of u) then rule.reference_faults P (label_of u).form else [] in
      let f3 = unless (rule.is_named_so nameless (form_told M l.form kids) p) p.at why.Spelling in
      let f4 = rule.part_mark_faults (is_some space) p.identifier None p.marks in
      let f5 = rule.type_faults P here (nat_lt 0 front) u in
      let f6 = rule.fixed_faults space p.fixed in
      let f7 = rule.absence_faults space p.fixed (resolving.resolve P u) p.absence in
      no-more (f1 ++ f2 ++ f3 ++ f4 ++ f5 ++ f6) f7
      (no-more (f1 ++ f2 ++ f3 ++ f4 ++ f5) f6
      (no-more (f1 ++ f2 ++ f3 ++ f4) f5
      (no-more (f1 ++ f2 ++ f3) f4
      (no-more (f1 ++ f2) f3
      (no-more f1 f2
      (stands-so (not (rule.is_listed before p.identifier)) 0 why.Duplicate (not_listed (not (is_empty part.identifier)) (rule.has_text before part.identifier) are.fresh.0))
      (if_none (rule.is_bare p (label_of u)) (rule.reference_faults P (label_of u).form) (label_clean M distinct all utf8 t here good)))
      (stands-so (rule.is_named_so nameless (form_told M l.form kids) p) 0 why.Spelling (are.named.0 t)))
      (own_marks_clean M distinct all utf8 here part t known good (are.marks zero part (omega arith)) own.marks are.simple.0))
      (first here (nat_lt 0 front) good (omega (arith, low)) are.texts.0 are.items.0))
      (fixed_by M distinct all utf8 here part t known good part.standard are.standards.0 own.standard (are.octets zero part (omega arith))))
      (absence_by M distinct all utf8 here part t known good part.optional part.standard are.standards.0 own.standard (are.octets zero part (omega arith)))

  more_clean : (t : Rose TypeLabel) (ts : Roses TypeLabel) → TypeClean t → PartsClean ts → PartsClean (more t ts)
  unfolding rule.part_faults
  more_clean t ts first rest spot nameless l kids i before front [] are = absurd are.good
  more_clean t ts first rest spot nameless l kids i before front (part ∷ parts) are =
      let L = label_told M l kids in
      let others = rule.part_faults P spot nameless L (i + 1) (before ++ part.identifier ∷ []) (front - 1) (components_told M parts ts) (types_told M ts) in
      ap (λ s. own_faults s nameless L before front part t ++ others) (spot_told M distinct all utf8 spot l kids i part t are.long (are.marks zero part (omega arith)))
      ∙ no-more (own_faults (part_spot spot l i part) nameless L before front part t) others
      (own_clean spot nameless l kids i before front part parts t ts are first)
      (rest spot nameless l kids (i + 1) (before ++ part.identifier ∷ []) (front - 1) parts (parts_rest spot nameless l kids i before front part parts t ts are))

  node_clean : (l : TypeLabel) (ts : Roses TypeLabel) → PartsClean ts → TypeClean (node l ts)
  unfolding rule.type_faults
  node_clean l ts rest spot nameless good low texts items =
      let L = label_told M l ts in
      let at = good.0 in
      let marks = rule.type_mark_faults P spot L (types_told M ts) None 0 L.marks in
      let forms = rule.form_faults P spot L.marks L.form in
      no-more (marks ++ forms) (rule.part_faults P spot (told.has_list L.marks || nameless) L 0 [] (rule.nameless_parts L.marks) (laid.parts_of L.form) (types_told M ts))
      (no-more marks forms
      (marks_clean M distinct all utf8 spot l ts good (omega (arith, low)) texts)
      (form_clean M distinct all utf8 spot l.form l.marks ts at.well.form at.bounds at.printable.names at.printable.order at.printable.marks))
      (ap (λ b. rule.part_faults P spot (b || nameless) L 0 [] (rule.nameless_parts L.marks) (laid.parts_of L.form) (types_told M ts)) (list_same l.form l.marks)
      ∙ ap₂ (λ a b. rule.part_faults P spot (marked.has_list l.marks || nameless) L 0 [] (rule.one_if a + rule.one_if b) (laid.parts_of L.form) (types_told M ts)) (embed_same l.form l.marks) (order_same l.form l.marks)
      ∙ ap₂ (λ a b. rule.part_faults P spot (marked.has_list l.marks || nameless) L 0 [] (a + b) (laid.parts_of L.form) (types_told M ts)) (one_same (marked.has_embed_values l.marks)) (one_same (marked.has_use_order l.marks))
      ∙ ap (λ ps. rule.part_faults P spot (marked.has_list l.marks || nameless) L 0 [] (modules.nameless_parts l.marks) ps (types_told M ts)) (parts_are M l.form ts at.long)
      ∙ rest spot (marked.has_list l.marks || nameless) l ts 0 [] (modules.nameless_parts l.marks) (parts_of l.form) (record {
        long = at.long;
        good = good.1;
        low = omega (arith, low);
        texts = texts.1;
        own = texts.0.parts;
        marks = at.printable.parts;
        octets = at.octets;
        apart = names_apart l.form at.printable.names;
        fresh = fresh_first (map (λ (p : Component). p.identifier) (parts_of l.form));
        named = named_by M distinct all utf8 (marked.has_list l.marks || nameless) l.form ts items.0;
        simple = at.well.attributes;
        standards = standards_are M distinct all utf8 l.form ts at.well.standards;
        items = items.1;
      }))
    where
      one_same : (b : Bool) → rule.one_if b ≡ modules.one_if b
      one_same true = refl
      one_same false = refl

  mutual
    type_clean : (t : Rose TypeLabel) → TypeClean t
    type_clean (node l ts) = node_clean l ts (types_clean ts)

    types_clean : (ts : Roses TypeLabel) → PartsClean ts
    types_clean none = none_clean
    types_clean (more t ts) = more_clean t ts (type_clean t) (types_clean ts)

  -- ---- assignments

  not_reserved : (reference : List ℕ) → (Contains reserved_words reference → ⊥) → rule.has_text reserved_words reference ≡ false
  not_reserved reference free = by (rule.has_text reserved_words reference) refl
    where
      by : (has : Bool) → rule.has_text reserved_words reference ≡ has → has ≡ false
      by false e = refl
      by true e = absurd (free (has-Contains reference reserved_words e))

  assignment_clean : (before : List (List ℕ)) (a : Assignment) → GoodBody M a → modules.IsAssignment M a → TypeIsUtf8 a.body → All MarkIsUtf8 a.marks → rule.has_text before a.reference ≡ false
      → rule.assignment_faults P before (assignment_told M a) ≡ []
  assignment_clean before a good is texts own new =
      let u = type_told M a.body in
      let marks = part_marks_told a.reference a.marks in
      let known : Known M a.body = record { spot = Elsewhere; good = good.good; low = good.printable.depth; utf8 = texts } in
      let f1 = unless (not (rule.has_text before a.reference) && not (rule.has_text reserved_words a.reference)) 0 why.Duplicate in
      let f2 = unless (resolving.chains_end P u) 0 why.LongChain in
      let f3 = rule.part_mark_faults (is_some (rule.space_at P Elsewhere marks u)) a.reference None marks in
      no-more (f1 ++ f2 ++ f3) (rule.type_faults P Elsewhere false u)
      (no-more (f1 ++ f2) f3
      (no-more f1 f2
      (stands-so (not (rule.has_text before a.reference) && not (rule.has_text reserved_words a.reference)) 0 why.Duplicate
      (both-so (not (rule.has_text before a.reference)) (not (rule.has_text reserved_words a.reference)) (ap not new) (ap not (not_reserved a.reference good.printable.free))))
      (stands-so (resolving.chains_end P u) 0 why.LongChain (chains_told M distinct all utf8 a.body Elsewhere good.good)))
      (own_marks_clean M distinct all utf8 Elsewhere (record { identifier = a.reference; optional = false; standard = Free; marks = a.marks }) a.body known good.good good.printable.marks own is.attribute))
      (type_clean a.body Elsewhere false good.good good.printable.depth texts is.items)

  from_clean : (entries : List Assignment) (before : List (List ℕ)) → All (GoodBody M) entries → All (modules.IsAssignment M) entries → All (λ (a : Assignment). TypeIsUtf8 a.body) entries
      → All (λ (a : Assignment). All MarkIsUtf8 a.marks) entries → IsDistinct bytes_eq (map (λ (a : Assignment). a.reference) entries) → AreFresh before (map (λ (a : Assignment). a.reference) entries)
      → rule.faults_from P before (map (assignment_told M) entries) ≡ []
  from_clean [] before good is texts own apart fresh = refl
  from_clean (a ∷ entries) before good is texts own apart fresh =
      let rest = distinct_rest a.reference (map (λ (b : Assignment). b.reference) entries) apart in
      no-more (rule.assignment_faults P before (assignment_told M a)) (rule.faults_from P (before ++ a.reference ∷ []) (map (assignment_told M) entries))
      (assignment_clean before a (good zero a (omega arith)) (is zero a (omega arith)) (texts zero a (omega arith)) (own zero a (omega arith)) fresh.0)
      (from_clean entries (before ++ a.reference ∷ []) (λ k d lt. good (suc k) d (omega (arith, lt))) (λ k d lt. is (suc k) d (omega (arith, lt))) (λ k d lt. texts (suc k) d (omega (arith, lt)))
      (λ k d lt. own (suc k) d (omega (arith, lt))) rest.1 (fresh_more before a.reference (map (λ (b : Assignment). b.reference) entries) fresh.1 rest.0))

-- The tree that is told of a printable module has no fault.
pub module_clean : (M : List Assignment) → IsPrintable M → IsOfOctets M → HasTexts M → rule.faults (module_told M) ≡ []
module_clean M is octets utf8 =
    let all = bodies M is octets in
    from_clean M is.sound.distinct all utf8.bodies M [] all is.sound.assignments utf8.bodies utf8.marks is.sound.distinct (fresh_first (map (λ (a : Assignment). a.reference) M))
