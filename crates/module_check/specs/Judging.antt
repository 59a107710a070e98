-- What the faults of a part depend on.
use Rattle.std.specs.Prelude.{ℕ, Bool, false, Option, None, List, [], ◌++◌, is_some, if◌then◌else◌}
use Rattle.base_trees.specs.Rose.{Rose, Roses, node, label_of}
use Rattle.simple_types.specs.Space.{Space}
use Rattle.module_text.specs.declared.types.PlainPart.{PlainPart}
use Rattle.module_text.specs.declared.types.PlainForm.{PlainForm}
use Rattle.module_text.specs.declared.types.PlainLabel.{PlainLabel}
use Rattle.module_text.specs.declared.modules.PlainAssignment.{PlainAssignment}
use Rattle.module_text.specs.declared.spots.Spot.{Spot}
use Rattle.module_text.specs.declared.spots.Spot.TheVariants.{Elsewhere}
use Rattle.module_text.specs.declared.reasons.ModuleWhy.TheVariants as why
use Rattle.module_text.specs.declared.reasons.TextFault.{TextFault}
use Rattle.module_text.specs.Listed.{unless}
use Rattle.module_text.specs.Resolving.{resolve}
use Rattle.module_text.specs.Simple.{is_simple}
use Rattle.module_text.specs.Faults.{reference_faults, is_bare, is_named_so, part_mark_faults, part_spot, space_at, type_faults, fixed_faults, absence_faults}
use Rattle.module_check.specs.Known.{Knows, AreSimples, AreContents}
use Rattle.module_check.specs.declared.context.Context.{Context}

-- The tables are those of the assignments.
pub record IsKnown (c : Context) : Type 0 where
  pub references : Knows c.references.now c.assignments.now
  pub simples : AreSimples c.simples.now c.assignments.now
  pub contents : AreContents c.contents.now c.assignments.now

-- A type with this label and these parts represents a simple type.
abbrev pub is_simple_of : Spot → PlainLabel → Roses PlainLabel → Bool
is_simple_of spot l ts = is_simple spot (node l ts)

-- The faults of a part that precede those of its type, which has this label, except Duplicate.
abbrev pub front_faults : List PlainAssignment → Bool → PlainForm → PlainPart → Bool → PlainLabel → List TextFault
front_faults P nameless form part simple l =
    (if is_bare part l then reference_faults P l.form else [])
    ++ unless (is_named_so nameless form part) part.at why.Spelling
    ++ part_mark_faults simple part.identifier None part.marks

-- The faults of a part after those of its type.
abbrev pub value_faults : List PlainAssignment → Option Space → PlainPart → Rose PlainLabel → List TextFault
value_faults P space part t = fixed_faults space part.fixed ++ absence_faults space part.fixed (resolve P t) part.absence

-- All faults of a part whose type is at this spot, except Duplicate.
abbrev pub faults_there : List PlainAssignment → Spot → Bool → PlainForm → Bool → PlainPart → Rose PlainLabel → List TextFault
faults_there P spot nameless form front part t =
    front_faults P nameless form part (is_some (space_at P spot part.marks t)) (label_of t)
    ++ (type_faults P spot front t ++ value_faults P (space_at P spot part.marks t) part t)

abbrev pub own_faults : List PlainAssignment → Spot → Bool → PlainLabel → ℕ → Bool → PlainPart → Rose PlainLabel → List TextFault
own_faults P spot nameless l i front part t = faults_there P (part_spot spot l i part) nameless l.form front part t

-- The faults of an assignment except those of its reference.
abbrev pub body_faults : List PlainAssignment → PlainAssignment → List TextFault
body_faults P a = part_mark_faults (is_some (space_at P Elsewhere a.marks a.body)) a.reference None a.marks ++ type_faults P Elsewhere false a.body
