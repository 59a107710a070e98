-- Numbers of assignments, in lists and by their subjects.
use Rattle.std.proofs.Common.{◌≡◌, ℕ, suc, ◌+◌, ◌<◌, ◌≤◌, Bool, true, false, if◌then◌else◌, nat_eq, List, [], ◌∷◌, ◌++◌, length, drop, get_or, inl, inr, refl, sym, ap, subst, ◌∙◌, arith, add-one}
use Rattle.std.specs.Prelude.{slice_get, unwrap_or, codes}
use Rattle.std.proofs.Math.ListN.{set, replicate}
use Rattle.std.proofs.lemmas.Bool.{cases_lt}
use Rattle.std.proofs.lemmas.Bool.Decides.{eqb_tells}
use Rattle.std.proofs.lemmas.List.{get_or-set_same, get_or-set_other, get_or-replicate, get_or_past, length-replicate}
use Rattle.std.proofs.lemmas.Option.{unwrap_or-slice_get}
use Rattle.base_trees.specs.Rose.{Rose, node, Roses}
use Rattle.base_trees.specs.Rose as rose
use Rattle.asn_types.specs.declared.types.Form.TheVariants as form
use Rattle.asn_types.specs.declared.types.Component.{Component}
use Rattle.asn_types.specs.declared.types.TypeLabel.{TypeLabel}
use Rattle.asn_types.specs.declared.modules.Assignment.{Assignment}
use Rattle.asn_names.specs.declared.conversion.NameKind.TheVariants.{Reference}
use Rattle.asn_names.specs.Taking.{IsTaken}
use Rattle.base_texts.specs.declared.texts.Name.{Name}
use Rattle.schema_components.specs.Components.{Set}
use Rattle.map_subjects.specs.declared.subjects.Subject.{Subject}
use Rattle.map_subjects.specs.declared.subjects.Subject.TheVariants.{Element, Attribute, Simple, Complex, Nillable}
use Rattle.map_subjects.specs.declared.subjects.NamedSubject.{NamedSubject}
use Rattle.map_subjects.specs.Subjects.{same_subject, place_in}
use Rattle.map_assignments.specs.Plans.{TypePlan, Parts, simple, sequence, choice, repeated, order_items, reference, finish, part}
use Rattle.map_assignments.specs.Planning.{body}
use Rattle.map_assignments.specs.Naming.{type_label, IsNamed, AreNamed}
use Rattle.map_assignments.specs.Mapped.{wanted_reference, AreMapped}
use Rattle.map_assignments.specs.Private.Placing.{number_at}
use Rattle.map_subjects.proofs.Finding.{drop-next}

pub set-number : (xs : List ℕ) (n m v c : ℕ) → n < length xs → number_at (set xs n v) m c ≡ (if nat_eq n m then v else number_at xs m c)
set-number xs n m v c below = elim (eqb_tells n m) [
  | inl h ↦
      unwrap_or-slice_get (set xs n v) m c
      ∙ ap (λ k. get_or (set xs n v) k c) (sym h.1)
      ∙ get_or-set_same xs n v c below
      ∙ sym (ap (λ b. if b then v else number_at xs m c) h.0)
  | inr h ↦
      unwrap_or-slice_get (set xs n v) m c
      ∙ get_or-set_other xs n m v c (λ e. h.1 (sym e))
      ∙ sym (unwrap_or-slice_get xs m c)
      ∙ sym (ap (λ b. if b then v else number_at xs m c) h.0)
]

pub same-number : (k n v : ℕ) → number_at (replicate k v) n v ≡ v
same-number k n v = unwrap_or-slice_get (replicate k v) n v ∙ elim (cases_lt n k) [
  | inl below ↦ get_or-replicate k n v v below
  | inr past ↦ get_or_past (replicate k v) n v (subst (λ l. l ≤ n) (sym (length-replicate k v)) past)
]

-- the number of a subject, with one entry more in front
either : (b : Bool) (below old rest : ℕ) → old ≡ suc below + rest → (if b then below else old) ≡ below + (elim b [ true ↦ 0 | false ↦ suc rest ])
either true below old rest is = omega arith
either false below old rest is = omega (arith, is)

pub place-next : (entries : List NamedSubject) (left below : ℕ) (e : NamedSubject) (w : Subject) (old new : ℕ) → left ≡ below + 1 → below < length entries → e ≡ get_or entries below e
    → old ≡ left + place_in (drop left entries) w → new ≡ (if same_subject e.subject w then below else old) → new ≡ below + place_in (drop below entries) w
place-next entries left below e w old new is at here so_far set_to =
    let rest = place_in (drop (below + 1) entries) w in
    let same : old ≡ suc below + rest = so_far ∙ ap (λ l. l + place_in (drop l entries) w) is ∙ ap (λ k. k + rest) (add-one below) in
    set_to ∙ either (same_subject e.subject w) below old rest same ∙ ap (λ es. below + place_in es w) (sym (drop-next entries below e at here))

-- equal numbers serve as well
module _ (f g : Subject → ℕ) (same : (w : Subject) → f w ≡ g w) where
  mutual
    pub named-same : (p : TypePlan) (t : Rose TypeLabel) → IsNamed f p t → IsNamed g p t
    named-same (simple s) t h = h
    named-same (sequence nillable mixed ordered ps) t h = (h.0, h.1, h.2, parts-same [] ps h.0 h.1 h.3)
    named-same (choice ps) t h = (h.0, h.1, h.2, parts-same [] ps h.0 h.1 h.3)
    named-same (repeated l p least most) t h = (h.0, h.1, named-same p h.0 h.2)
    named-same (order_items firsts ls) t h = h
    named-same (reference w) t h = subst (λ k. t ≡ node (type_label (form.Ref k) []) rose.none) (same w) h

    parts-same : (before : List (List ℕ)) (ps : Parts) (parts : List Component) (ts : Roses TypeLabel) → AreNamed f before ps parts ts → AreNamed g before ps parts ts
    parts-same before finish parts ts h = h
    parts-same before (part l optional p ps) parts ts h =
        (h.0, h.1, h.2, h.3, h.4, h.5, h.6, named-same p h.2 h.7, parts-same (before ++ h.0 ∷ []) ps h.1 h.3 h.8)

  wanted-same : (before : List (List ℕ)) (w : Subject) (name : Name) → wanted_reference f before w name ≡ wanted_reference g before w name
  wanted-same before (Element n) name = refl
  wanted-same before (Attribute n) name = refl
  wanted-same before (Simple n) name = refl
  wanted-same before (Complex n) name = refl
  wanted-same before (Nillable n) name = ap (λ k. unwrap_or (slice_get before k) [] ++ codes "-nillable") (same (Complex n))

  pub mapped-same : (s : Set) (before : List (List ℕ)) (es : List NamedSubject) (made : List Assignment) → AreMapped f s before es made → AreMapped g s before es made
  mapped-same s before [] [] h = h
  mapped-same s before [] (a ∷ made) h = h
  mapped-same s before (e ∷ es) [] h = h
  mapped-same s before (e ∷ es) (a ∷ made) h = (
    record {
      reference = subst (λ n. IsTaken Reference before n a.reference) (wanted-same before e.subject e.name) h.0.reference;
      marks = h.0.marks;
      body = named-same (body s e.subject) a.body h.0.body;
    },
    mapped-same s (before ++ a.reference ∷ []) es made h.1,
  )
