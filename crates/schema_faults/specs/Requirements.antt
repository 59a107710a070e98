-- What an element requires, and which forms exclude each other (XML Schema Part 1, sections 3.2.3, 3.3.3, 3.4.3 and 3.14.3).
use Rattle.std.specs.Prelude.{ℕ, Bool, true, false, ◌||◌, ◌&&◌, not, List, bytes_eq, codes, Some, None}
use Rattle.base_texts.specs.Limits.{is_empty}
use Rattle.base_trees.specs.Rose.{Rose}
use Rattle.xml_items.specs.declared.label.ItemLabel.{ItemLabel}
use Rattle.base_texts.specs.Entries.{beside}
use Rattle.schema_syntax.specs.Attributes.{has}
use Rattle.schema_syntax.specs.Children.{has_child}
use Rattle.schema_syntax.specs.declared.children.ChildSet.TheVariants.{Types, SimpleTypes, Varieties, Derivations}
use Rattle.schema_syntax.specs.declared.roles.ElementRole.{ElementRole}
use Rattle.schema_syntax.specs.declared.roles.ElementRole.TheVariants.{Schema, Composition, GlobalElement, LocalElement, GlobalAttribute, LocalAttribute, GlobalSimpleType, InnerSimpleType, Restriction, List as ListRole, Union, Facet, GlobalComplexType, InnerComplexType, SimpleContent, Extension, Sequence, Choice, All, AllElement}

-- The element has a type in place, where it may name one instead.
abbrev pub has_inner_type : ElementRole → List (Rose ItemLabel) → Bool
has_inner_type GlobalElement kids = has_child Types kids
has_inner_type LocalElement kids = has_child Types kids
has_inner_type AllElement kids = has_child Types kids
has_inner_type GlobalAttribute kids = has_child SimpleTypes kids
has_inner_type LocalAttribute kids = has_child SimpleTypes kids
has_inner_type Restriction kids = has_child SimpleTypes kids
has_inner_type ListRole kids = has_child SimpleTypes kids
has_inner_type role kids = false

abbrev pub names_members : List (List ℕ × List ℕ) → Bool
names_members own = elim (beside (codes "memberTypes") own) [ None ↦ false | Some value ↦ not (is_empty value) ]

abbrev pub lacks_required : ElementRole → List (List ℕ × List ℕ) → List (Rose ItemLabel) → Bool
lacks_required GlobalElement own kids = not (has (codes "name") own)
lacks_required LocalElement own kids = not (has (codes "name") own) && not (has (codes "ref") own)
lacks_required AllElement own kids = not (has (codes "name") own) && not (has (codes "ref") own)
lacks_required GlobalAttribute own kids = not (has (codes "name") own)
lacks_required LocalAttribute own kids = not (has (codes "name") own) && not (has (codes "ref") own)
lacks_required GlobalSimpleType own kids = not (has (codes "name") own) || not (has_child Varieties kids)
lacks_required InnerSimpleType own kids = not (has_child Varieties kids)
lacks_required Restriction own kids = not (has (codes "base") own) && not (has_child SimpleTypes kids)
lacks_required ListRole own kids = not (has (codes "itemType") own) && not (has_child SimpleTypes kids)
lacks_required Union own kids = not (names_members own) && not (has_child SimpleTypes kids)
lacks_required Facet own kids = not (has (codes "value") own)
lacks_required GlobalComplexType own kids = not (has (codes "name") own)
lacks_required SimpleContent own kids = not (has_child Derivations kids)
lacks_required Extension own kids = not (has (codes "base") own)
lacks_required Schema own kids = false
lacks_required Composition own kids = false
lacks_required InnerComplexType own kids = false
lacks_required Sequence own kids = false
lacks_required Choice own kids = false
lacks_required All own kids = false

abbrev pub names_type : List (List ℕ × List ℕ) → Bool
names_type own = has (codes "type") own || has (codes "base") own || has (codes "itemType") own

-- It has an attribute that a reference may not have, because the declaration that it names determines it.
abbrev pub declares : List (List ℕ × List ℕ) → Bool
declares own = has (codes "name") own || has (codes "type") own || has (codes "nillable") own || has (codes "form") own

-- The use of the attribute is `optional`, which is the default.
abbrev pub is_optional : List (List ℕ × List ℕ) → Bool
is_optional own = elim (beside (codes "use") own) [ None ↦ true | Some value ↦ bytes_eq value (codes "optional") ]

-- It has a default value with a fixed one, or with a use that is not `optional` (Part 1, section 3.2.3, rules 1 and 2).
abbrev pub has_idle_default : List (List ℕ × List ℕ) → Bool
has_idle_default own = has (codes "default") own && (has (codes "fixed") own || not (is_optional own))

abbrev pub has_both_values : ElementRole → List (List ℕ × List ℕ) → Bool
has_both_values GlobalAttribute own = has_idle_default own
has_both_values LocalAttribute own = has_idle_default own
has_both_values role own = false

abbrev pub has_both_forms : ElementRole → List (List ℕ × List ℕ) → List (Rose ItemLabel) → Bool
has_both_forms role own kids =
    (has (codes "ref") own && (declares own || has_inner_type role kids)) || (names_type own && has_inner_type role kids) || has_both_values role own

-- It has no type: by its name, in place or by a reference.
abbrev pub is_untyped : ElementRole → List (List ℕ × List ℕ) → List (Rose ItemLabel) → Bool
is_untyped role own kids = not (has (codes "ref") own) && not (has (codes "type") own) && not (has_inner_type role kids)
