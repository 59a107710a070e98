-- The first type or value of a module that lies too deep, as the grammar lists them.
use Rattle.std.proofs.Common.{◌≡◌, ℕ, zero, suc, ◌+◌, List, [], ◌∷◌, ◌++◌, length, refl, sym, ap, ap₂, ◌∙◌, subst, arith, codes, Option, option_map, append-nil}
use Rattle.base_trees.specs.Rose.{node, Roses, none, more, list_of}
use Rattle.module_print.specs.Notation.{new_line}
use Rattle.module_print.specs.Printed.{labelled, opening}
use Rattle.module_grammar.specs.Shapes.{Sunk, moved, each_deep, behind_word, shifted}
use Rattle.module_text.specs.Depth.{type_told, deep_values, deep_default, deep_types, deep_in_parts, too_deep}
use Rattle.module_text.specs.Plain.{limit, IsAbsence, IsComponent, IsAlternative, IsItem, IsAssignment, IsPlain}
use Rattle.module_text.specs.Texts
use Rattle.module_text.specs.Texts.{part_marks_text, type_marks_text, fixed_text, size_text, type_text, assignment_text}
use Rattle.module_text.specs.Places.{placed_absence, type_at, placed_from, placed_assignment}
use Rattle.module_text.specs.declared.marks.TypeMark.{TypeMark}
use Rattle.module_text.specs.declared.values.PlainOctets.{PlainOctets}
use Rattle.module_text.specs.declared.values.Absence.{Absence}
use Rattle.module_text.specs.declared.values.Absence.TheVariants as absence
use Rattle.module_text.specs.declared.types.PlainPart.{PlainPart}
use Rattle.module_text.specs.declared.types.PlainForm.{PlainForm}
use Rattle.module_text.specs.declared.types.PlainForm.TheVariants as form
use Rattle.module_text.specs.declared.types.PlainLabel.{PlainLabel}
use Rattle.module_text.specs.declared.modules.PlainAssignment.{PlainAssignment}
use Rattle.module_grammar.specs.TypeReading as reading
use Rattle.module_grammar.specs.TypeReading.{Typed, TypedPart}
use Rattle.module_grammar.specs.Depth.{listed_deep, value_deep, absence_deep}
use Rattle.module_grammar.specs.TypeDepth.{start_told, paired, typed_part_text, part_deep, form_deep, type_deep, assignment_deep, module_deep}
use Rattle.module_grammar.specs.ModulesRead.{IsModuleHere}
use Rattle.module_grammar.proofs.PartLaws.{IsTypeHere, PartHere}
use Rattle.module_grammar.proofs.BlockLaws.{PartsHere, part_then, next_is, first_is}
use Rattle.module_grammar.proofs.TreeForms.{FormHere, sequence_start, choice_start, items_start, sequence_is, choice_is, items_are, more_is}
use Rattle.module_grammar.proofs.ValueLaws.{node_is}
use Rattle.module_grammar.proofs.AbsenceLaws.{default_is}
use Rattle.module_grammar.proofs.ModuleLaws.{fine_lines, lines_fine}
use Rattle.module_grammar.proofs.DeepValues.{start, Leads, leads_at, leads_moved, leads_then, values_lead}

-- a part of a sort says of its absence what it may
abbrev SaysAbsence : (PlainPart → Type 0) → Type 0
SaysAbsence P = (p : PlainPart) → P p → IsAbsence p.fixed p.absence

component_says : SaysAbsence IsComponent
component_says p f = f.absence

never_says : (p : PlainPart) → p.absence ≡ absence.Never → IsAbsence p.fixed p.absence
never_says p e = subst (λ a. IsAbsence p.fixed a) (sym e) tt

alternative_says : SaysAbsence IsAlternative
alternative_says p f = never_says p f.bare.1

item_says : SaysAbsence IsItem
item_says p f = never_says p f.bare.1

module _ (most : ℕ) (is_limit : most ≡ limit) where
  absence_leads : (place : ℕ) (fixed : Option PlainOctets) (a : Absence) → IsAbsence fixed a → placed_absence place a ≡ a → Leads place (absence_deep most a) (deep_default a)
  absence_leads place fixed absence.Never f e = refl
  absence_leads place fixed absence.Optional f e = refl
  absence_leads place fixed (absence.Default v) f e =
      leads_moved place 9 (value_deep most v) (deep_values limit v)
      (subst (λ k. Leads (place + 9) (value_deep most v) (deep_values k v)) is_limit (values_lead most (place + 9) v (f, default_is _ v e)))

  abbrev TypesLead : ℕ → ℕ → Type 0
  TypesLead depth levels = (place : ℕ) (t : Typed) → IsTypeHere levels place t → Leads place (type_deep most depth levels t) (deep_types depth t)

  -- a part, and then what is said of its absence
  part_leads : (P : PlainPart → Type 0) → SaysAbsence P → (depth levels : ℕ) → TypesLead depth levels → (place : ℕ) (x : TypedPart) → PartHere P levels place x → Leads place (part_deep most levels (type_deep most depth levels) x) (deep_types depth x.1 ++ deep_default x.0.absence)
  part_leads P says depth levels each place x f =
      leads_moved place (length (labelled x.0.identifier)) _ _
      (leads_moved (place + length (labelled x.0.identifier)) (length (part_marks_text x.0.marks)) _ _
      (leads_then ((place + length (labelled x.0.identifier)) + length (part_marks_text x.0.marks)) (length (type_text levels x.1)) (type_deep most depth levels x.1) (option_map (moved (length (fixed_text x.0.fixed))) (absence_deep most x.0.absence)) (deep_types depth x.1) (deep_default x.0.absence)
      (each (type_at place x.0) x.1 (f.1, f.3))
      (leads_moved (((place + length (labelled x.0.identifier)) + length (part_marks_text x.0.marks)) + length (type_text levels x.1)) (length (fixed_text x.0.fixed)) (absence_deep most x.0.absence) (deep_default x.0.absence)
      (absence_leads _ x.0.fixed x.0.absence (says x.0 f.0) (ap (λ (p : PlainPart). p.absence) f.2)))))

  module _ (P : PlainPart → Type 0) (says : SaysAbsence P) (depth levels : ℕ) (each : TypesLead depth levels) where
    abbrev between_parts : List ℕ
    between_parts = codes "," ++ new_line levels

    abbrev deep_part : TypedPart → Option Sunk
    deep_part = part_deep most levels (type_deep most depth levels)

    others_lead : (q : ℕ) (parts : List PlainPart) (ts : Roses PlainLabel) → PartsHere P levels (q + length between_parts) parts ts → Leads q (each_deep (behind_word between_parts (typed_part_text levels)) (shifted between_parts deep_part) (paired parts (list_of ts))) (deep_in_parts depth parts ts)
    others_lead q [] none h = refl
    others_lead q [] (more t ts) h = refl
    others_lead q (p ∷ parts) none h = refl
    others_lead q (p ∷ parts) (more t ts) h =
        let g = part_then P levels (q + length between_parts) (p, t) parts ts h in
        leads_then q (length (between_parts ++ typed_part_text levels (p, t))) (shifted between_parts deep_part (p, t)) (each_deep (behind_word between_parts (typed_part_text levels)) (shifted between_parts deep_part) (paired parts (list_of ts))) (deep_types depth t ++ deep_default p.absence) (deep_in_parts depth parts ts)
        (leads_moved q (length between_parts) (deep_part (p, t)) (deep_types depth t ++ deep_default p.absence) (part_leads P says depth levels each (q + length between_parts) (p, t) g.0))
        (others_lead (q + length (between_parts ++ typed_part_text levels (p, t))) parts ts (subst (λ k. PartsHere P levels k parts ts) (next_is P levels q (typed_part_text levels (p, t))) g.1))

    parts_lead : (place : ℕ) (parts : List PlainPart) (ts : Roses PlainLabel) → PartsHere P levels place parts ts → Leads place (listed_deep between_parts (typed_part_text levels) deep_part (paired parts (list_of ts))) (deep_in_parts depth parts ts)
    parts_lead place [] none h = refl
    parts_lead place [] (more t ts) h = refl
    parts_lead place (p ∷ parts) none h = refl
    parts_lead place (p ∷ parts) (more t ts) h =
        let g = part_then P levels place (p, t) parts ts h in
        leads_then place (length (typed_part_text levels (p, t))) (deep_part (p, t)) (each_deep (behind_word between_parts (typed_part_text levels)) (shifted between_parts deep_part) (paired parts (list_of ts))) (deep_types depth t ++ deep_default p.absence) (deep_in_parts depth parts ts)
        (part_leads P says depth levels each place (p, t) g.0)
        (others_lead (place + length (typed_part_text levels (p, t))) parts ts (subst (λ k. PartsHere P levels k parts ts) (first_is P levels place (typed_part_text levels (p, t))) g.1))

  -- ---- forms

  no_parts : (depth : ℕ) (ts : Roses PlainLabel) → deep_in_parts depth [] ts ≡ []
  no_parts depth none = refl
  no_parts depth (more t ts) = refl

  module _ (depth levels : ℕ) (here : TypesLead depth levels) (inside : TypesLead depth (suc levels)) where
    abbrev form_sunk : PlainForm → Roses PlainLabel → Option Sunk
    form_sunk = form_deep most levels (type_deep most depth levels) (type_deep most depth (suc levels))

    sequence_leads : (place : ℕ) (parts : List PlainPart) (ts : Roses PlainLabel) → FormHere levels place (form.Sequence parts, ts) → Leads place (form_sunk (form.Sequence parts) ts) (deep_in_parts depth parts ts)
    sequence_leads place parts ts h =
        leads_moved place (length (codes "SEQUENCE")) _ _
        (leads_moved (place + length (codes "SEQUENCE")) (length (reading.opening levels)) _ _
        (leads_at (place + length (codes "SEQUENCE {" ++ new_line (suc levels))) ((place + length (codes "SEQUENCE")) + length (reading.opening levels)) _ _ (sequence_start place levels)
        (parts_lead IsComponent component_says depth (suc levels) inside (place + length (codes "SEQUENCE {" ++ new_line (suc levels))) parts ts
        (record { parts_fine = h.form_fine; types_fine = h.types; parts_places = sequence_is _ parts h.places; types_places = h.kids_places }))))

    choice_leads : (place : ℕ) (parts : List PlainPart) (ts : Roses PlainLabel) → FormHere levels place (form.Choice parts, ts) → Leads place (form_sunk (form.Choice parts) ts) (deep_in_parts depth parts ts)
    choice_leads place parts ts h =
        leads_moved place (length (codes "CHOICE")) _ _
        (leads_moved (place + length (codes "CHOICE")) (length (reading.opening levels)) _ _
        (leads_at (place + length (codes "CHOICE {" ++ new_line (suc levels))) ((place + length (codes "CHOICE")) + length (reading.opening levels)) _ _ (choice_start place levels)
        (parts_lead IsAlternative alternative_says depth (suc levels) inside (place + length (codes "CHOICE {" ++ new_line (suc levels))) parts ts
        (record { parts_fine = h.form_fine.1; types_fine = h.types; parts_places = choice_is _ parts h.places; types_places = h.kids_places }))))

    form_leads : (place : ℕ) (f : PlainForm) (ts : Roses PlainLabel) → FormHere levels place (f, ts) → Leads place (form_sunk f ts) (deep_in_parts depth (Texts.parts_of f) ts)
    form_leads place form.Bool ts h = no_parts depth ts
    form_leads place (form.Int r) ts h = no_parts depth ts
    form_leads place (form.Numbers items) ts h = no_parts depth ts
    form_leads place (form.Words names) ts h = no_parts depth ts
    form_leads place (form.Utf8 size class) ts h = no_parts depth ts
    form_leads place (form.Sequence parts) ts h = sequence_leads place parts ts h
    form_leads place (form.Choice parts) ts h = choice_leads place parts ts h
    form_leads place (form.SequenceOf size part) none h = absurd (omega (arith, h.kids))
    form_leads place (form.SequenceOf size part) (more t none) h =
        let e = items_are _ size _ part h.places in
        leads_moved place (length (codes "SEQUENCE")) _ _
        (leads_moved (place + length (codes "SEQUENCE")) (length (size_text size)) _ _
        (leads_moved ((place + length (codes "SEQUENCE")) + length (size_text size)) 4 _ _
        (leads_at (place + length (((codes "SEQUENCE" ++ size_text size) ++ codes " OF ") ++ [])) (((place + length (codes "SEQUENCE")) + length (size_text size)) + 4) _ _ (items_start place size)
        (subst (λ l. Leads (place + length (((codes "SEQUENCE" ++ size_text size) ++ codes " OF ") ++ [])) (part_deep most levels (type_deep most depth levels) (part, t)) l) (sym (append-nil (deep_types depth t ++ deep_default part.absence)))
        (part_leads IsItem item_says depth levels here (place + length (((codes "SEQUENCE" ++ size_text size) ++ codes " OF ") ++ [])) (part, t) (h.form_fine.1, h.types.0, e.1, more_is _ t h.kids_places))))))
    form_leads place (form.SequenceOf size part) (more t (more u ts)) h = absurd (omega (arith, h.kids))
    form_leads place (form.Ref r) ts h = no_parts depth ts

  -- ---- types

  told_at : (at : ℕ) (marks : List TypeMark) → type_told at marks ≡ at + start_told marks
  told_at at [] = refl
  told_at at (m ∷ ms) = refl

  -- what a type says of its form
  form_here : (levels place : ℕ) (l : PlainLabel) (ts : Roses PlainLabel) → IsTypeHere levels place (node l ts) → FormHere levels (place + length (type_marks_text l.marks)) (l.form, ts)
  form_here levels place l ts f =
      let h = node_is _ l _ ts f.1 in
      record { form_fine = f.0.1; kids = f.0.2; types = f.0.3; places = ap (λ (k : PlainLabel). k.form) h.0; kids_places = h.1 }

  types_lead : (depth levels : ℕ) → TypesLead depth levels
  types_lead zero levels place (node l ts) f =
      let e : place ≡ l.at = ap (λ (k : PlainLabel). k.at) (node_is _ l _ ts f.1).0 in
      ([], ap₂ (λ a t. start a t ∷ []) (omega (arith, e)) (told_at l.at l.marks ∙ ap (λ a. a + start_told l.marks) (sym e)))
  types_lead (suc depth) levels place (node l ts) f =
      leads_moved place (length (type_marks_text l.marks)) _ _
      (form_leads depth levels (types_lead depth levels) (types_lead depth (suc levels)) (place + length (type_marks_text l.marks)) l.form ts (form_here levels place l ts f))

  -- ---- assignments

  assignment_leads : (place : ℕ) (a : PlainAssignment) → IsAssignment a × (placed_assignment place a ≡ a) → Leads place (assignment_deep most a) (deep_types limit a.body)
  assignment_leads place a f =
      leads_moved place (length (a.reference ++ codes " ::= ")) _ _
      (leads_moved (place + length (a.reference ++ codes " ::= ")) (length (part_marks_text a.marks)) _ _
      (subst (λ k. Leads ((place + length (a.reference ++ codes " ::= ")) + length (part_marks_text a.marks)) (type_deep most most 0 a.body) (deep_types k a.body)) is_limit
      (types_lead most 0 _ a.body (f.0.body, ap (λ (k : PlainAssignment). k.body) f.1))))

  lines_lead : (place : ℕ) (ms : List PlainAssignment) → IsPlain ms × (placed_from place ms ≡ ms) → Leads place (each_deep assignment_text (assignment_deep most) ms) (too_deep ms)
  lines_lead place [] f = refl
  lines_lead place (a ∷ ms) f =
      let h = fine_lines most place (a ∷ ms) f in
      leads_then place (length (assignment_text a)) (assignment_deep most a) (each_deep assignment_text (assignment_deep most) ms) (deep_types limit a.body) (too_deep ms)
      (assignment_leads place a h.0) (lines_lead (place + length (assignment_text a)) ms (lines_fine most (place + length (assignment_text a)) ms h.1))

  pub module_leads : (place : ℕ) (ms : List PlainAssignment) → IsModuleHere place ms → Leads place (module_deep most ms) (too_deep ms)
  module_leads place ms f = leads_moved place (length opening) (each_deep assignment_text (assignment_deep most) ms) (too_deep ms) (lines_lead (place + length opening) ms f)
