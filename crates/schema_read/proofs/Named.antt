-- The names that a document without a fault declares.
use Rattle.std.proofs.Common.{◌≡◌, ℕ, true, false, List, None, refl, ◌&&◌, not, codes}
use Rattle.schema_read.proofs.Words.{and_from, or_parts, not-false, beside, Rose, list_of, ItemLabel, Local, is_declarable, has, has_child, Varieties, ElementRole, GlobalElement, LocalElement, AllElement, GlobalAttribute, LocalAttribute, GlobalSimpleType, GlobalComplexType, lacks_required, declared_name, local_name, Settings, Parts}
use Rattle.schema_components.specs.DeclaredNames.{use_named, uses_named, kind_named, element_named, local_named, attribute_named, type_named, elements_named, attributes_named, types_named, locals_named, all_named}
use Rattle.schema_read.proofs.FaultlessRoles.{IsLocal}
use Rattle.schema_read.proofs.OwnNames.{own_name, IsSpace, local_space, may_be_declared, IsAttribute, may_be_attribute, named_or_reference}
use Rattle.schema_read.proofs.Reading.{Around, Site, own_of, scope_of, of_parts, Fact}
use Rattle.schema_read.proofs.Points.{every_true, Property, Points, Each}

abbrev pub naming : Property
naming =
    record {
      base = λ around b. Unit {0};
      how = λ around at how. Unit {0};
      declared = λ around u. use_named u ≡ true;
      particle = λ around t. Unit {0};
      kind = λ around k. kind_named k ≡ true;
      element = λ e. element_named e ≡ true;
      attribute = λ a. attribute_named a ≡ true;
      definition = λ d. type_named d ≡ true;
      local = λ l. local_named l ≡ true;
    }

attribute_has_name : (role : ElementRole) → IsAttribute role → (own : List (List ℕ × List ℕ)) (kids : List (Rose ItemLabel)) → lacks_required role own kids ≡ false → beside (codes "ref") own ≡ None → has (codes "name") own ≡ true
attribute_has_name GlobalAttribute is own kids h none = not-false (has (codes "name") own) h
attribute_has_name LocalAttribute is own kids h none = named_or_reference own h none
attribute_has_name role is own kids h none = absurd is

local_has_name : (role : ElementRole) → IsLocal role → (own : List (List ℕ × List ℕ)) (kids : List (Rose ItemLabel)) → lacks_required role own kids ≡ false → beside (codes "ref") own ≡ None → has (codes "name") own ≡ true
local_has_name LocalElement is own kids h none = named_or_reference own h none
local_has_name AllElement is own kids h none = named_or_reference own h none
local_has_name role is own kids h none = absurd is

module _ (said : Settings) (all : List Local) (fine : IsSpace said.target) where
  -- the name of a global declaration
  global_name : (role : ElementRole) (s : Site) → Fact role s → has (codes "name") (own_of s) ≡ true → is_declarable (declared_name said.target (own_of s)) ≡ true
  global_name role s fact has = may_be_declared (declared_name said.target (own_of s)) fine (own_name role (scope_of s) (own_of s) fact.passes.good fact.texts has)

  pub naming_points : Points said all naming
  naming_points =
      record {
        named = λ around reference. tt;
        restriction = λ s base fact h. tt;
        list = λ s base fact h. tt;
        union = λ s fact h. tt;
        simple = λ role s body_at how fact h. tt;
        reference_use = λ role s name fact. refl;
        declared_use = λ role s base is fact unnamed h.
            let own = own_of s in
            may_be_attribute role is (scope_of s) own fact.passes.good fact.texts (attribute_has_name role is own (list_of s.kids) fact.passes.required unnamed)
            (local_name said.target said.attributes_qualified own).space (local_space said.target said.attributes_qualified own fine);
        named_kind = λ around reference. refl;
        simple_kind = λ around body h. refl;
        complex_kind = λ role s uses ts written is fact deep by u t. every_true use_named uses_named refl (λ x xs. refl) uses u;
        reference = λ role s name fact x. (refl, tt);
        own_element = λ role s kind fact unnamed x h.
            let own = own_of s in
            let name = local_name said.target said.elements_qualified own in
            let has = local_has_name role fact.is_local own (list_of s.kids) fact.fact.passes.required unnamed in
            let declared = may_be_declared name (local_space said.target said.elements_qualified own fine) (own_name role (scope_of s) own fact.fact.passes.good fact.fact.texts has) in
            (and_from (is_declarable name) (kind_named kind) declared h, tt);
        group = λ role s ts fact some h. tt;
        element = λ s kind fact deep h.
            and_from (is_declarable (declared_name said.target (own_of s))) (kind_named kind) (global_name GlobalElement s fact (not-false (has (codes "name") (own_of s)) fact.passes.required)) h;
        attribute = λ s fact h.
            may_be_attribute GlobalAttribute tt (scope_of s) (own_of s) fact.passes.good fact.texts (not-false (has (codes "name") (own_of s)) fact.passes.required) said.target fine;
        simple_type = λ s body fact h.
            let required = (or_parts (not (has (codes "name") (own_of s))) (not (has_child Varieties (list_of s.kids))) fact.passes.required).0 in
            global_name GlobalSimpleType s fact (not-false (has (codes "name") (own_of s)) required);
        complex_type = λ s body fact small h.
            and_from (is_declarable (declared_name said.target (own_of s))) (uses_named body.uses) (global_name GlobalComplexType s fact (not-false (has (codes "name") (own_of s)) fact.passes.required)) h;
      }

pub named_parts : (around : Around) (p : Parts) → Each naming around (of_parts p.elements p.attributes p.types p.locals) → all_named p.elements p.attributes p.types p.locals ≡ true
named_parts around p h =
    let a = attributes_named p.attributes in
    let t = types_named p.types in
    let l = locals_named p.locals in
    and_from (elements_named p.elements) (a && (t && l)) (every_true element_named elements_named refl (λ x xs. refl) p.elements h.elements)
    (and_from a (t && l) (every_true attribute_named attributes_named refl (λ x xs. refl) p.attributes h.attributes)
    (and_from t l (every_true type_named types_named refl (λ x xs. refl) p.types h.types) (every_true local_named locals_named refl (λ x xs. refl) p.locals h.locals)))
