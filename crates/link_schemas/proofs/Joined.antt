-- A set whose default and fixed values aren't in canonical spelling yet: but for these it hangs together.
use Rattle.std.specs.Prelude.{◌≡◌, ℕ, ◌≤◌, ◌<◌, true, nat_eq, List, length, map, IfSome}
use Rattle.std.specs.List.{All, IsDistinct, count_by}
use Rattle.std.specs.List.Sorted.{IsStrictlySortedBy}
use Rattle.base_texts.specs.Names.{name_eq, name_cmp}
use Rattle.schema_components.specs.Components.{Set, global_elements, names_of_types, IsUnnamed}
use Rattle.schema_components.specs.Declarable.{is_declarable}
use Rattle.schema_components.specs.Linked.{IsElement, IsUse, IsAttribute, IsSimpleType, MayBeFor, IsContent, named_declarations, has_complex_type, IsJustBelow, IsChain}
use Rattle.schema_components.specs.declared.components.AttributeUse.{AttributeUse}
use Rattle.schema_components.specs.declared.components.ComplexDef.{ComplexDef}
use Rattle.schema_components.specs.declared.components.ElementDecl.{ElementDecl}
use Rattle.schema_components.specs.declared.components.GlobalAttribute.{GlobalAttribute}

pub record IsJoinedType (s : Set) (c : ComplexDef) : Type 0 where
  pub named : IfSome c.name (λ name. is_declarable name ≡ true)
  pub few : length c.uses ≤ 65536
  pub uses : All (IsUse s) c.uses
  pub fitting : All (λ (u : AttributeUse). MayBeFor u.required u.standard) c.uses
  pub ascending : IsStrictlySortedBy name_cmp (map (λ (u : AttributeUse). u.name) c.uses)
  pub content : IsContent s c.content

pub record IsJoined (s : Set) : Type 0 where
  pub few_elements : length s.elements ≤ 65536
  pub few_simples : length s.simples ≤ 65536
  pub few_complexes : length s.complexes ≤ 65536
  pub few_attributes : length s.attributes ≤ 65536
  pub globals : s.globals ≤ length s.elements
  pub elements : All (IsElement s) s.elements
  pub simples : All IsSimpleType s.simples
  pub complexes : All (IsJoinedType s) s.complexes
  pub attributes : All (IsAttribute s) s.attributes
  pub elements_apart : IsDistinct name_eq (map (λ (e : ElementDecl). e.name) (global_elements s))
  pub types_apart : IsDistinct name_eq (names_of_types s)
  pub attributes_apart : IsDistinct name_eq (map (λ (a : GlobalAttribute). a.name) s.attributes)
  pub one_particle : (n : ℕ) → s.globals ≤ n → n < length s.elements → count_by (nat_eq n) (named_declarations s) ≡ 1
  pub one_declaration : (n : ℕ) → IsUnnamed s n → count_by (has_complex_type n) s.elements ≡ 1
  pub descending : (n m : ℕ) → IsJustBelow s n m → n < m
  pub short : (ns : List ℕ) → IsChain s ns → length ns ≤ 21
