-- Each document that is read keeps what a document has to keep.
use Rattle.std.proofs.Common.{◌≡◌, ℕ, ◌+◌, ◌≤◌, Bool, true, false, List, [], ◌∷◌, ◌++◌, Some, None, refl, ap, sym, subst, arith}
use Rattle.schema_read.proofs.Words.{Rose, Roses, node, list_of, label_of, roses_of-list_of, item_place, is_sound, levels, tokens, Ascend, ItemLabel, Element, Text, own_attributes, Schema, is_schema, outside, reasons_of, NoneAtAll, IsSchema, counted_among, Keeps, ElementHeld, TypeHeld, LocalHeld, ElementsHeld, TypesHeld, LocalsHeld, Settings, settings_of, Parts, parts_among, document_with, raw_of}
use Rattle.schema_syntax.specs.declared.why.SchemaWhy.TheVariants.{NotASchema}
use Rattle.schema_read.proofs.Faultless.{passes}
use Rattle.schema_read.proofs.OwnNames.{IsSpace, own_space}
use Rattle.schema_read.proofs.ItemPlaces.{document_spans}
use Rattle.schema_read.proofs.Reading.{Reading, Around, Extent, extent, Kids, Rules, of_parts}
use Rattle.schema_read.proofs.Points.{every_as, stretch_whole, Property, Points, Each, OfEach, by_points}
use Rattle.schema_read.proofs.WalkTypes.{element_sound}
use Rattle.schema_read.proofs.Walk.{walk}
use Rattle.schema_read.proofs.Coherent.{Cohering, coherent_rules, coherent_parts}
use Rattle.schema_read.proofs.Counted.{counted_rules, AllCounted, parts_stand}
use Rattle.schema_read.proofs.Fitting.{fitting, fitting_points, fitting_parts}
use Rattle.schema_read.proofs.Held.{holding, holding_points}
use Rattle.schema_read.proofs.Inward.{inward, inward_points, inward_parts}
use Rattle.schema_read.proofs.Named.{naming, naming_points, named_parts}
use Rattle.schema_read.proofs.Rising.{Rising, rising_rules, few_locals, parts_ascend}
use Rattle.schema_read.proofs.Short.{short, short_points, short_parts}
use Rattle.schema_read.proofs.Varied.{varied, varied_points, varied_parts}
use Rattle.schema_read.proofs.RisingPlaces.{rise_ascend}
use Rattle.schema_read.proofs.CountedPlaces.{counted_rise}

no_schema : Some NotASchema ≡ None → ⊥
no_schema is = cc

by_root : (b : Bool) (root : Rose ItemLabel) → NoneAtAll (elim b [ true ↦ reasons_of Schema outside 0 root | false ↦ (item_place (label_of root), Some NotASchema) ∷ [] ])
    → NoneAtAll (reasons_of Schema outside 0 root)
by_root true root h = h
by_root false root h = absurd (no_schema h.0)

-- what is read of the children of a `schema` without a fault
module _ (said : Settings) (fine : IsSpace said.target) (around : Around) (scope : List (List ℕ × List ℕ)) (least end : ℕ) (kids : Roses ItemLabel) (inside : Kids Schema around None scope 0 least end kids)
    (p : Parts) (is : parts_among said scope 0 (list_of kids) ≡ p) where
  holds : (R : Around → Extent → ℕ → Reading → Type 0) → Rules said R → R around (extent least end (counted_among kids)) 0 (of_parts p.elements p.attributes p.types p.locals)
  holds R rules = subst (λ (q : Parts). R around (extent least end (counted_among kids)) 0 (of_parts q.elements q.attributes q.types q.locals)) is (walk said R rules around None scope 0 least end 0 kids inside)

  each : (P : Property) → Points said p.locals P → Each P around (of_parts p.elements p.attributes p.types p.locals)
  each P points = holds (OfEach p.locals P) (by_points said p.locals P points) (stretch_whole p.locals)

  parts_keep : end ≤ 16777217 → Keeps (document_with said.file said.target (counted_among kids) p)
  parts_keep within =
      let rises = holds Rising (rising_rules said) in
      let held = each holding (holding_points said p.locals) in
      let k = few_locals least end p rises in
      record {
        named = named_parts around p (each naming (naming_points said p.locals fine));
        few = omega (arith, k, within);
        fitting = fitting_parts around p (each fitting (fitting_points said p.locals));
        ascending = rise_ascend least end (counted_among kids) (counted_rise least end kids inside.spans);
        varied = varied_parts around p (each varied (varied_points said p.locals));
        ordered = parts_ascend least end p rises;
        all_counted = parts_stand p (counted_among kids) (λ test. holds (AllCounted test) (counted_rules test said));
        inward = inward_parts p.locals around p (each (inward p.locals) (inward_points p.locals said));
        short = short_parts p.locals around p refl (each (short p.locals) (short_points p.locals said));
        coherent = coherent_parts said.file said.target (counted_among kids) p (holds (Cohering said.file) (coherent_rules said));
        elements_held = every_as ElementHeld ElementsHeld tt (λ x xs a b. (a, b)) p.elements held.elements;
        types_held = every_as TypeHeld TypesHeld tt (λ x xs a b. (a, b)) p.types held.types;
        locals_held = every_as LocalHeld LocalsHeld tt (λ x xs a b. (a, b)) p.locals held.locals;
      }

-- where the places ascend, nothing stands against the document, its items are sound, and it has at most 64 levels of
-- elements
pub document_keeps : (file : ℕ) (root : Rose ItemLabel) → Ascend 0 16777216 (tokens root) → IsSchema root → is_sound root ≡ true → levels root ≤ 64 → Keeps (raw_of file root)
document_keeps file (node (Text text at) kids) h schema sound shallow = absurd (no_schema schema.0)
document_keeps file (node (Element name attributes declares at) kids) h schema sound shallow =
    let root : Rose ItemLabel = node (Element name attributes declares at) kids in
    let w = document_spans 16777216 root h in
    let said : Settings = settings_of file (own_attributes attributes) in
    let scope = declares ++ outside in
    let within = w.within in
    let whole = by_root (is_schema (Element name attributes declares at)) root schema in
    let sounds = element_sound name attributes declares at kids sound in
    let fine : IsSpace said.target = own_space Schema scope (own_attributes attributes) (passes Schema scope 0 (own_attributes attributes) (list_of kids) whole.0).good sounds.0 in
    let around : Around = record { role = Schema; level = 0; place = at; room = 65 } in
    let inside : Kids Schema around None scope 0 (at + 1) w.end kids =
    record { clean = whole.1; sound = sounds.1; spans = w.spans.1; behind = omega arith; low = omega (arith, within); deep = omega (arith, shallow); small = omega arith } in
    subst (λ ps. Keeps (document_with file said.target ps (parts_among said scope 0 (list_of kids)))) (ap counted_among (sym (roses_of-list_of kids)))
    (parts_keep said fine around scope (at + 1) w.end kids inside (parts_among said scope 0 (list_of kids)) refl (omega (arith, within)))
