-- Default and fixed values have no fault as they are told.
use Rattle.std.proofs.Common.{◌≡◌, ℕ, Bool, true, false, Option, Some, None, List, [], map, refl, sym, ap, subst, ◌∙◌, Ok}
use Rattle.std.specs.Prelude.{IsUtf8, All, bytes_eq, is_some, option_and_then, if◌then◌else◌}
use Rattle.std.specs.List.{IsDistinct}
use Rattle.base_trees.specs.Rose.{Rose, node, Roses, list_of}
use Rattle.simple_types.specs.declared.standards.Standard.TheVariants.{Fixed}
use Rattle.simple_types.specs.declared.labels.ValueLabel.{ValueLabel}
use Rattle.simple_types.specs.Sound.{Sound}
use Rattle.simple_types.specs.Space.{Space}
use Rattle.simple_types.specs.Reading.{Holds, reads, spelled}
use Rattle.asn_types.specs.declared.types.Form.{Form}
use Rattle.asn_types.specs.declared.types.Form.TheVariants as form
use Rattle.asn_types.specs.declared.types.TypeLabel.{TypeLabel}
use Rattle.asn_types.specs.declared.modules.Assignment.{Assignment}
use Rattle.asn_types.specs.Marks as marked
use Rattle.asn_types.specs.Modules as modules
use Rattle.asn_types.specs.Refs as refs
use Rattle.asn_types.specs.Simples.{MapsTo, IsSimple}
use Rattle.asn_types.specs.Spaces.{space_at}
use Rattle.asn_types.proofs.SimpleLaws.{maps-seen}
use Rattle.module_print.specs.Notation.{hexadecimal}
use Rattle.module_text.specs.declared.values.Absence.TheVariants as absence
use Rattle.module_text.specs.declared.values.PlainOctets.{PlainOctets}
use Rattle.module_text.specs.declared.values.PlainValueLabel.{PlainValueLabel}
use Rattle.module_text.specs.declared.types.PlainForm.{PlainForm}
use Rattle.module_text.specs.declared.types.PlainForm.TheVariants as plain
use Rattle.module_text.specs.declared.types.PlainLabel.{PlainLabel}
use Rattle.module_text.specs.declared.modules.PlainAssignment.{PlainAssignment}
use Rattle.module_text.specs.declared.spots.Spot.{Spot}
use Rattle.module_text.specs.declared.spots.Spot.TheVariants.{Elsewhere}
use Rattle.module_text.specs.declared.reasons.ModuleWhy.TheVariants as why
use Rattle.module_text.specs.Told.{is_xml_text}
use Rattle.module_text.specs.Resolving as resolving
use Rattle.module_text.specs.Simple.{simple_told}
use Rattle.module_text.specs.Defaults as defaults
use Rattle.module_text.specs.Faults as rule
use Rattle.module_laws.proofs.Firsts.{bytes_same}
use Rattle.module_unique.specs.Alike.{HasOctets}
use Rattle.module_unique.specs.Utf8Texts.{TypeIsUtf8}
use Rattle.module_unique.proofs.Telling.{reading_told, value_told, fixed_told, default_told, part_marks_told, form_told, type_told, module_told}
use Rattle.module_unique.proofs.Digits.{octets_back}
use Rattle.module_unique.proofs.Shapes.{shaped}
use Rattle.module_unique.proofs.Values.{spelling_in, is_told}
use Rattle.module_unique.proofs.Goods.{Good, GoodBody, fine}
use Rattle.module_unique.proofs.Back.{resolve_same}
use Rattle.module_unique.proofs.XmlSpelling.{IsXml, spelled_xml}
use Rattle.module_unique.proofs.CleanForms.{stands-so}
use Rattle.module_unique.proofs.CleanMarks.{xml_text}
use Rattle.module_unique.proofs.CleanSimple.{stands_in, tells_simple}
use Rattle.module_unique.proofs.CleanRoles.{attribute_same}
use Rattle.module_unique.proofs.CleanKnown.{Known, known_sits, resolve_known}
use Rattle.module_unique.proofs.CleanValues.{told_in, agrees_all}

pub xml_of : (M : List Assignment) (t : Rose TypeLabel) (text : List ℕ) → modules.IsSpellingOf M t text → IsUtf8 text → is_xml_text text ≡ true
xml_of M t text is utf8 =
    let shape = shaped is.0 (spelled is.0 is.1) is.1 is.4 in
    xml_text text utf8 (subst IsXml is.5 (spelled_xml is.0 is.1 is.2 shape (subst IsUtf8 (sym is.5) utf8)))

canonical : (s : Space) (v : Rose ValueLabel) (text : List ℕ) → Holds s v → spelled s v ≡ text → is_xml_text text ≡ true → defaults.canonical_value s text ≡ Some v
canonical s v text holds same xml =
    let read : reads s text ≡ Ok v = ap (reads s) (sym same) ∙ holds in
    ap (λ b. if b then defaults.own_value s text (reads s text) else None) xml
    ∙ ap (defaults.own_value s text) read
    ∙ ap (λ b. if b then Some v else None) (bytes_same (spelled s v) text same)

default_is : (s : Space) (u : Rose PlainLabel) (v : Rose PlainValueLabel) (w : Rose ValueLabel) (text : List ℕ) (fixed : Option PlainOctets) → spelling_in u v ≡ Some text → defaults.canonical_value s text ≡ Some w
    → told_in u v w ≡ true → rule.is_fixed fixed text ≡ true → rule.is_default (Some s) fixed u v ≡ true
default_is s (node l ts) v w text fixed spelling value told same =
    ap (λ o. elim (elim o as (λ _. Option (List ℕ)) [ None ↦ None | Some t ↦ elim (defaults.canonical_value s t) as (λ _. Option (List ℕ)) [ None ↦ None | Some x ↦ if defaults.is_told l (list_of ts) v x then Some t else None ] ])
    as (λ _. Bool) [ None ↦ false | Some t ↦ rule.is_fixed fixed t ]) spelling
    ∙ ap (λ o. elim (elim o as (λ _. Option (List ℕ)) [ None ↦ None | Some x ↦ if defaults.is_told l (list_of ts) v x then Some text else None ]) as (λ _. Bool) [ None ↦ false | Some t ↦ rule.is_fixed fixed t ]) value
    ∙ ap (λ b. elim (if b then Some text else None) as (λ _. Bool) [ None ↦ false | Some t ↦ rule.is_fixed fixed t ]) told
    ∙ same

module _ (M : List Assignment) (distinct : IsDistinct bytes_eq (map (λ (a : Assignment). a.reference) M)) (all : All (GoodBody M) M) (utf8 : All (λ (a : Assignment). TypeIsUtf8 a.body) M) where
  abbrev P : List PlainAssignment
  P = module_told M

  -- ---- the simple type, through references

  stays : (l : TypeLabel) (ts : Roses TypeLabel) → refs.target l.form ≡ None → refs.resolve M (node l ts) ≡ node l ts
  unfolding refs.follow
  stays l ts e = ap (λ o. elim (option_and_then (refs.body_at M) o) as (λ _. Rose TypeLabel) [ None ↦ node l ts | Some u ↦ refs.follow M 3 u ]) e

  abbrev through : Spot → Rose PlainLabel → PlainForm → Option Space
  through spot t f = elim f as (λ _. Option Space) [ plain.Ref reference ↦ simple_told Elsewhere (resolving.resolve P t) | _ ↦ simple_told spot t ]

  module _ (s : Space) (spot : Spot) (l : TypeLabel) (ts : Roses TypeLabel) (known : Known M (node l ts)) (good : Good M spot (node l ts)) (sound : Sound s) (maps : MapsTo s (refs.resolve M (node l ts))) where
    abbrev t : Rose TypeLabel
    t = node l ts

    far : simple_told Elsewhere (resolving.resolve P (type_told M t)) ≡ Some s
    far =
        let there = resolve_known M all utf8 t known in
        ap (simple_told Elsewhere) (resolve_same M distinct all t (known_sits M t known))
        ∙ tells_simple M s (refs.resolve M t) Elsewhere there.spot tt there.good there.utf8 maps sound

    near : refs.target l.form ≡ None → simple_told spot (type_told M t) ≡ Some s
    near e = tells_simple M s t spot spot (stands_in M spot t good) good known.utf8 (subst (MapsTo s) (stays l ts e) maps) sound

    through_by : (f : Form) → l.form ≡ f → through spot (type_told M t) (form_told M f ts) ≡ Some s
    through_by (form.Ref to) e = far
    through_by form.Bool e = near (ap refs.target e)
    through_by (form.Int least greatest) e = near (ap refs.target e)
    through_by (form.Numbers numbers) e = near (ap refs.target e)
    through_by (form.Words identifiers words) e = near (ap refs.target e)
    through_by (form.Order identifiers) e = near (ap refs.target e)
    through_by (form.Utf8 least most class) e = near (ap refs.target e)
    through_by (form.Sequence parts) e = near (ap refs.target e)
    through_by (form.Choice parts) e = near (ap refs.target e)
    through_by (form.SequenceOf part least most) e = near (ap refs.target e)

    through_is : rule.space_through P spot (type_told M t) ≡ Some s
    through_is = through_by l.form refl

  space_through_told : (s : Space) (spot : Spot) (t : Rose TypeLabel) → Known M t → Good M spot t → Sound s → MapsTo s (refs.resolve M t) → rule.space_through P spot (type_told M t) ≡ Some s
  space_through_told s spot (node l ts) known good sound maps = through_is s spot l ts known good sound maps

  space_told : (s : Space) (spot : Spot) (generated : List ℕ) (marks : _) (t : Rose TypeLabel) → Known M t → Good M spot t → marked.has_attribute marks ≡ true → Sound s → MapsTo s (refs.resolve M t)
      → rule.space_at P spot (part_marks_told generated marks) (type_told M t) ≡ Some s
  space_told s spot generated marks t known good attribute sound maps =
      ap (λ b. if b then rule.space_through P spot (type_told M t) else None) (attribute_same generated marks ∙ attribute)
      ∙ space_through_told s spot t known good sound maps

  -- a part or an assignment with ATTRIBUTE is simple
  pub attribute_told : (spot : Spot) (generated : List ℕ) (marks : _) (t : Rose TypeLabel) → Known M t → Good M spot t → marked.has_attribute marks ≡ true → IsSimple (refs.resolve M t)
      → is_some (rule.space_at P spot (part_marks_told generated marks) (type_told M t)) ≡ true
  attribute_told spot generated marks t known good attribute simple = ap is_some (space_told simple.0 spot generated marks t known good attribute simple.1 simple.2)

  -- ---- values

  module _ (spot : Spot) (generated : List ℕ) (marks : _) (t : Rose TypeLabel) (known : Known M t) (good : Good M spot t) (attribute : marked.has_attribute marks ≡ true) where
    abbrev space : Option Space
    space = rule.space_at P spot (part_marks_told generated marks) (type_told M t)

    pub default_clean : (text : List ℕ) (fixed : Option PlainOctets) → modules.IsSpellingOf M t text → is_xml_text text ≡ true → rule.is_fixed fixed text ≡ true
        → rule.absence_faults space fixed (resolving.resolve P (type_told M t)) (default_told M t text) ≡ []
    default_clean text fixed is xml same =
        let s = is.0 in
        let v = is.1 in
        let u = refs.resolve M t in
        let maps : MapsTo s u = is.3 in
        let holds : Holds s v = is.4 in
        let spelt : spelled s v ≡ text = is.5 in
        let there = resolve_known M all utf8 t known in
        let fits = fine M u there.spot there.good in
        let shape = shaped s (spelled s v) v holds in
        let read : reads (space_at u) text ≡ Ok v = ap (λ o. reads o text) (sym (maps-seen s u maps)) ∙ ap (reads s) (sym spelt) ∙ holds in
        let says = is_told M s u v maps fits shape in
        let default : rule.is_default (Some s) fixed (type_told M u) (value_told u v) ≡ true =
        default_is s (type_told M u) (value_told u v) v text fixed (says.spelling ∙ ap (λ x. Some x) spelt) (canonical s v text holds spelt xml) (agrees_all M s u v maps fits shape) same in
        ap (λ o. rule.absence_faults o fixed (resolving.resolve P (type_told M t)) (default_told M t text)) (space_told s spot generated marks t known good attribute is.2 maps)
        ∙ ap (λ w. rule.absence_faults (Some s) fixed w (default_told M t text)) (resolve_same M distinct all t (known_sits M t known))
        ∙ ap (λ w. rule.absence_faults (Some s) fixed (type_told M u) (absence.Default w)) (ap (reading_told u text) read)
        ∙ stands-so (rule.is_default (Some s) fixed (type_told M u) (value_told u v)) (rule.value_at (value_told u v)) why.Spelling default

    pub fixed_clean : (text : List ℕ) → modules.IsSpellingOf M t text → is_xml_text text ≡ true → HasOctets (Fixed text) → rule.fixed_faults space (fixed_told (Fixed text)) ≡ []
    fixed_clean text is xml octets =
        let s = is.0 in
        ap (λ o. rule.fixed_faults o (fixed_told (Fixed text))) (space_told s spot generated marks t known good attribute is.2 is.3)
        ∙ stands-so (rule.is_canonical (Some s) (defaults.octets_of (hexadecimal text))) 0 why.Spelling
        (ap (λ o. rule.is_canonical (Some s) o) (octets_back text octets) ∙ ap is_some (canonical s is.1 text is.4 is.5 xml))
