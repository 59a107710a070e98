-- Parts without a default and a fixed value: those that stand for no attribute.
use Rattle.std.proofs.Common.{◌≡◌, ℕ, false, List, [], ◌∷◌, ◌++◌, All, true≢false, refl, sym, subst}
use Rattle.std.proofs.lemmas.List.Elements.{All-nil, All-cons}
use Rattle.base_trees.specs.Rose.{Roses}
use Rattle.simple_types.specs.declared.standards.Standard.TheVariants.{Free}
use Rattle.simple_types.specs.Space.{Spaces, none, more}
use Rattle.asn_types.specs.declared.types.Component.{Component}
use Rattle.asn_types.specs.declared.types.TypeLabel.{TypeLabel}
use Rattle.map_subjects.specs.declared.subjects.Subject.{Subject}
use Rattle.map_assignments.specs.Plans.{Label, attribute, element, group, elements, groups, texts, order, item, base, content, Parts, finish, part}
use Rattle.map_assignments.specs.Naming.{component_of, named_part, part_standard, AreMembers, AreNamed}
use Rattle.map_assignments.proofs.Shapes.{is_attribute_label, NoAttributes}

abbrev pub IsFree : Component → Type 0
IsFree c = c.standard ≡ Free

abbrev pub AreFree : List Component → Type 0
AreFree cs = All IsFree cs

pub label-free : (l : Label) → is_attribute_label l ≡ false → part_standard l ≡ Free
label-free (attribute name standard) e = absurd (true≢false e)
label-free (element name) e = refl
label-free (group k) e = refl
label-free (elements name) e = refl
label-free (groups k) e = refl
label-free texts e = refl
label-free order e = refl
label-free item e = refl
label-free base e = refl
label-free content e = refl

pub members-free : (before : List (List ℕ)) (ss : Spaces) (parts : List Component) (ts : Roses TypeLabel) → AreMembers before ss parts ts → AreFree parts
members-free before none parts ts h = subst AreFree (sym h.0) (All-nil IsFree)
members-free before (more s ss) parts ts h =
    subst AreFree (sym h.5) (All-cons IsFree (component_of h.0 false []) h.1 refl (members-free (before ++ h.0 ∷ []) ss h.1 h.3 h.8))

module _ (place : Subject → ℕ) where
  pub named-free : (before : List (List ℕ)) (ps : Parts) (parts : List Component) (ts : Roses TypeLabel) → NoAttributes ps → AreNamed place before ps parts ts → AreFree parts
  named-free before finish parts ts g h = subst AreFree (sym h.0) (All-nil IsFree)
  named-free before (part k optional p ps) parts ts g h =
      subst AreFree (sym h.5) (All-cons IsFree (named_part k h.0 optional) h.1 (label-free k g.0) (named-free (before ++ h.0 ∷ []) ps h.1 h.3 g.1 h.8))
