-- Parts that are made one after another.
use Rattle.std.proofs.Common.{◌≡◌, ℕ, ◌&&◌, Bool, true, false, not, if◌then◌else◌, List, [], ◌∷◌, ◌++◌, Option, Result, Ok, Err, IfOk, OnOk, refl, sym, ap, subst, ◌∙◌, append_assoc}
use Rattle.std.proofs.lemmas.List.{append-nil}
use Rattle.base_trees.specs.Rose.{Rose, node, roses_of}
use Rattle.base_trees.specs.Rose as rose
use Rattle.simple_types.specs.declared.standards.Standard.{Standard}
use Rattle.simple_types.specs.declared.standards.Standard.TheVariants.{Free}
use Rattle.asn_names.specs.declared.conversion.NameKind.TheVariants.{Identifier}
use Rattle.asn_names.specs.Taking.{IsTaken}
use Rattle.asn_types.specs.declared.marks.Instruction.{Instruction}
use Rattle.asn_types.specs.declared.marks.Instruction.TheVariants as mark
use Rattle.asn_types.specs.declared.types.Component.{Component}
use Rattle.asn_types.specs.declared.types.Form.TheVariants as form
use Rattle.content_models.specs.declared.particles.ParticleKind.{ParticleKind}
use Rattle.content_models.specs.declared.particles.ParticleKind.TheVariants.{Element, Sequence, Choice, All as AllKind}
use Rattle.content_models.specs.Particle.{Term, Particles}
use Rattle.content_models.specs.Seen.{term_seen}
use Rattle.asn_types.specs.declared.types.TypeLabel.{TypeLabel}
use Rattle.map_assignments.specs.declared.parts.PartList.{PartList}
use Rattle.map_subjects.specs.declared.subjects.Subject.{Subject}
use Rattle.map_assignments.specs.Plans.{Label, TypePlan, Parts, part, finish, sequence, choice, repeated}
use Rattle.map_assignments.specs.Planning.{label_of, list_label_of, is_once, is_optional, particle_part}
use Rattle.map_assignments.specs.Naming.{type_label, component_with, wanted, part_standard, part_marks, named_part, repeated_part, sequence_marks, IsNamed, AreNamed}
use Rattle.map_assignments.specs.Private.Building.{AddsPart, Adds, TakesPart, LeadsToNamed}

-- one part more
pub adds-next : (place : Subject → ℕ) (before after : PartList) (l : Label) (optional : Bool) (p : TypePlan) (kid : Rose TypeLabel) (rest whole : Parts)
    → Adds before after l optional kid → IsNamed place p kid
    → LeadsToNamed place before (part l optional p rest) whole → LeadsToNamed place after rest whole
adds-next place before after l optional p kid rest whole added named so_far parts ts more =
    let c = named_part l added.identifier optional in
    let next = subst (λ a. AreNamed place a rest parts (roses_of ts)) added.noted more in
    let all = so_far (c ∷ parts) (kid ∷ ts) (added.identifier, parts, kid, roses_of ts, added.taken, refl, refl, named, next) in
    subst (λ ps. AreNamed place [] whole ps (roses_of (after.kids.items ++ ts)))
    (sym (append_assoc before.components.items (c ∷ []) parts) ∙ ap (λ ps. ps ++ parts) (sym added.component))
    (subst (λ us. AreNamed place [] whole (before.components.items ++ (c ∷ parts)) (roses_of us))
    (sym (append_assoc before.kids.items (kid ∷ []) ts) ∙ ap (λ us. us ++ ts) (sym added.kid_added)) all)

-- none so far
pub leads-init : (place : Subject → ℕ) (made : PartList) (whole : Parts) → made.scope ≡ [] → made.components.items ≡ [] → made.kids.items ≡ []
    → LeadsToNamed place made whole whole
leads-init place made whole scope components kids parts ts h =
    subst (λ cs. AreNamed place [] whole (cs ++ parts) (roses_of (made.kids.items ++ ts))) (sym components)
    (subst (λ ks. AreNamed place [] whole parts (roses_of (ks ++ ts))) (sym kids)
    (subst (λ s. AreNamed place s whole parts (roses_of ts)) scope h))

-- all parts are made
pub leads-end : (place : Subject → ℕ) (made : PartList) (whole : Parts) → LeadsToNamed place made finish whole
    → AreNamed place [] whole made.components.items (roses_of made.kids.items)
leads-end place made whole h =
    subst (λ cs. AreNamed place [] whole cs (roses_of made.kids.items)) (append-nil made.components.items)
    (subst (λ ks. AreNamed place [] whole (made.components.items ++ []) (roses_of ks)) (append-nil made.kids.items) (h [] [] (refl, refl)))

-- results
pub on_ok : {X E : Type 0} (r : Result X E) (P Q : Type 0) → (P → Q) → OnOk r P → OnOk r Q
on_ok (Ok x) P Q f h = f h
on_ok (Err e) P Q f h = tt

pub on_ok_three : {X E : Type 0} (r : Result X E) (P Q R S : Type 0) → (P → Q → R → S) → OnOk r P → OnOk r Q → OnOk r R → OnOk r S
on_ok_three (Ok x) P Q R S f h k m = f h k m
on_ok_three (Err e) P Q R S f h k m = tt

pub if_ok : {X E : Type 0} (r : Result X E) (P Q : X → Type 0) → ((x : X) → P x → Q x) → IfOk r P → IfOk r Q
if_ok (Ok x) P Q f h = f x h
if_ok (Err e) P Q f h = tt

-- a part whose identifier is taken first, and which is added then
pub adds-of : (before mid after : PartList) (name : List ℕ) (standard : Standard) (marks : List ℕ → List Instruction) (optional : Bool) (made : Component) (kid : Rose TypeLabel)
    → TakesPart before mid name standard marks optional made
    → after.scope ≡ mid.scope → after.components.items ≡ mid.components.items ++ made ∷ [] → after.kids.items ≡ mid.kids.items ++ kid ∷ []
    → AddsPart before after name standard marks optional kid
adds-of before mid after name standard marks optional made kid takes scope component added = record {
  identifier = takes.identifier;
  taken = takes.taken;
  noted = scope ∙ takes.noted;
  component = component ∙ ap (λ v. v.items ++ made ∷ []) takes.components ∙ ap (λ m. before.components.items ++ m ∷ []) takes.is;
  kid_added = added ∙ ap (λ v. v.items ++ kid ∷ []) takes.kids;
}

-- a part whose instructions are known before, and which is no attribute
pub adds-marked : (before after : PartList) (l : Label) (name : List ℕ) (ms : List Instruction) (optional : Bool) (kid : Rose TypeLabel)
    → name ≡ wanted l → Free ≡ part_standard l → ((g : List ℕ) → ms ≡ part_marks l g) → AddsPart before after name Free (λ g. ms) optional kid → Adds before after l optional kid
adds-marked before after l name ms optional kid same free marks added = record {
  identifier = added.identifier;
  taken = subst (λ n. IsTaken Identifier before.scope n added.identifier) same added.taken;
  noted = added.noted;
  component = added.component ∙ ap (λ x. before.components.items ++ component_with added.identifier optional x ms ∷ []) free
      ∙ ap (λ m. before.components.items ++ component_with added.identifier optional (part_standard l) m ∷ []) (marks added.identifier);
  kid_added = added.kid_added;
}

-- a part that was added, with its name and its instructions given by equal terms
pub adds-same : (before after : PartList) (name same : List ℕ) (ms marks : List Instruction) (optional : Bool) (kid : Rose TypeLabel)
    → name ≡ same → ms ≡ marks → AddsPart before after name Free (λ g. ms) optional kid → AddsPart before after same Free (λ g. marks) optional kid
adds-same before after name same ms marks optional kid is are added = record {
  identifier = added.identifier;
  taken = subst (λ n. IsTaken Identifier before.scope n added.identifier) is added.taken;
  noted = added.noted;
  component = added.component ∙ ap (λ m. before.components.items ++ component_with added.identifier optional Free m ∷ []) are;
  kid_added = added.kid_added;
}

pub list-marks : (kind : ParticleKind) (ps : Particles) (g : List ℕ) → mark.Untagged ∷ [] ≡ part_marks (list_label_of (term_seen kind ps)) g
list-marks (Element d name) ps g = refl
list-marks Sequence ps g = refl
list-marks Choice ps g = refl
list-marks AllKind ps g = refl

pub list-free : (kind : ParticleKind) (ps : Particles) → Free ≡ part_standard (list_label_of (term_seen kind ps))
list-free (Element d name) ps = refl
list-free Sequence ps = refl
list-free Choice ps = refl
list-free AllKind ps = refl

-- the part for a particle
module _ (place : Subject → ℕ) (before after : PartList) (in_choice : Bool) (t : Term) (type : TypePlan) (least : ℕ) (most : Option ℕ) (rest whole : Parts) where
  pub particle-once : (kid : Rose TypeLabel) → is_once least most ≡ true → Adds before after (label_of t) false kid → IsNamed place type kid
      → LeadsToNamed place before (particle_part in_choice t type least most rest) whole → LeadsToNamed place after rest whole
  particle-once kid e added named lead =
      adds-next place before after (label_of t) false type kid rest whole added named
      (subst (λ ps. LeadsToNamed place before ps whole) (ap (λ b. if b then part (label_of t) false type rest else if is_optional least most && not in_choice then part (label_of t) true type rest else part (list_label_of t) false (repeated (label_of t) type least most) rest) e) lead)

  pub particle-optional : (kid : Rose TypeLabel) → is_once least most ≡ false → (is_optional least most && not in_choice) ≡ true → Adds before after (label_of t) true kid → IsNamed place type kid
      → LeadsToNamed place before (particle_part in_choice t type least most rest) whole → LeadsToNamed place after rest whole
  particle-optional kid e f added named lead =
      adds-next place before after (label_of t) true type kid rest whole added named
      (subst (λ ps. LeadsToNamed place before ps whole)
      (ap (λ b. if b then part (label_of t) false type rest else if is_optional least most && not in_choice then part (label_of t) true type rest else part (list_label_of t) false (repeated (label_of t) type least most) rest) e
      ∙ ap (λ b. if b then part (label_of t) true type rest else part (list_label_of t) false (repeated (label_of t) type least most) rest) f) lead)

  pub particle-several : (kid made : Rose TypeLabel) → is_once least most ≡ false → (is_optional least most && not in_choice) ≡ false
      → made ≡ node (type_label (form.SequenceOf (repeated_part (label_of t)) least most) []) (rose.more kid rose.none)
      → Adds before after (list_label_of t) false made → IsNamed place type kid
      → LeadsToNamed place before (particle_part in_choice t type least most rest) whole → LeadsToNamed place after rest whole
  particle-several kid made e f is added named lead =
      adds-next place before after (list_label_of t) false (repeated (label_of t) type least most) made rest whole added (kid, is, named)
      (subst (λ ps. LeadsToNamed place before ps whole)
      (ap (λ b. if b then part (label_of t) false type rest else if is_optional least most && not in_choice then part (label_of t) true type rest else part (list_label_of t) false (repeated (label_of t) type least most) rest) e
      ∙ ap (λ b. if b then part (label_of t) true type rest else part (list_label_of t) false (repeated (label_of t) type least most) rest) f) lead)

-- a SEQUENCE and a CHOICE of the parts
pub named-sequence : (place : Subject → ℕ) (made : PartList) (t : Rose TypeLabel) (marks : List Instruction) (nillable mixed ordered : Bool) (whole : Parts)
    → t ≡ node (type_label (form.Sequence made.components.items) marks) (roses_of made.kids.items) → marks ≡ sequence_marks nillable mixed ordered
    → LeadsToNamed place made finish whole → IsNamed place (sequence nillable mixed ordered whole) t
named-sequence place made t marks nillable mixed ordered whole is same lead =
    (made.components.items, roses_of made.kids.items, is ∙ ap (λ m. node (type_label (form.Sequence made.components.items) m) (roses_of made.kids.items)) same, leads-end place made whole lead)

pub named-choice : (place : Subject → ℕ) (made : PartList) (t : Rose TypeLabel) (marks : List Instruction) (whole : Parts)
    → t ≡ node (type_label (form.Choice made.components.items) marks) (roses_of made.kids.items) → marks ≡ []
    → LeadsToNamed place made finish whole → IsNamed place (choice whole) t
named-choice place made t marks whole is same lead =
    (made.components.items, roses_of made.kids.items, is ∙ ap (λ m. node (type_label (form.Choice made.components.items) m) (roses_of made.kids.items)) same, leads-end place made whole lead)
