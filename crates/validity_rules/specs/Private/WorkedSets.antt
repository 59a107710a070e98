-- The parts of two linked sets, written out: an order with its lines, and elements of many types.
use Rattle.std.specs.Prelude.{ℕ, ◌^◌, ◌-◌, Bool, true, false, pos, negsuc, Option, Some, None, List, [], ◌∷◌, codes}
use Rattle.base_texts.specs.declared.texts.Name.{Name}
use Rattle.base_texts.specs.declared.white_space.WhiteSpace.TheVariants.{Preserve, Collapse}
use Rattle.base_trees.specs.Rose.{Rose, node, roses_of}
use Rattle.simple_types.specs.declared.standards.Standard.TheVariants.{Free}
use Rattle.simple_types.specs.declared.simples.Class.TheVariants.{Any}
use Rattle.simple_types.specs.Space.{Space, none, more, Wholes, Numbers, Words, Characters, ListOf, UnionOf}
use Rattle.content_models.specs.declared.particles.ParticleKind.{ParticleKind}
use Rattle.content_models.specs.declared.particles.ParticleKind.TheVariants as particle
use Rattle.content_models.specs.declared.particles.ParticleLabel.{ParticleLabel}
use Rattle.schema_components.specs.declared.components.ElementDecl.{ElementDecl}
use Rattle.schema_components.specs.declared.components.TypeOf.{TypeOf}
use Rattle.schema_components.specs.declared.components.TypeOf.TheVariants as kind
use Rattle.schema_components.specs.declared.components.AttributeUse.{AttributeUse}
use Rattle.schema_components.specs.declared.components.ComplexDef.{ComplexDef}
use Rattle.schema_components.specs.declared.components.Content.{Content}
use Rattle.schema_components.specs.declared.components.Content.TheVariants as content
use Rattle.schema_components.specs.SetParts.{SetParts, NamedSpace}

abbrev pub qualified : List ℕ → List ℕ → Name
qualified space local = record { space = space; local = local }

abbrev pub unqualified : List ℕ → Name
unqualified local = qualified [] local

abbrev pub particle_of : ParticleKind → ℕ → Option ℕ → List (Rose ParticleLabel) → Rose ParticleLabel
particle_of which least most kids = node (record { kind = which; min = least; max = most; file = 1; at = 0 }) (roses_of kids)

abbrev pub element_particle : ℕ → Name → ℕ → Option ℕ → Rose ParticleLabel
element_particle d name least most = particle_of (particle.Element d name) least most []

abbrev pub element_decl : Name → Bool → TypeOf → ElementDecl
element_decl name nillable which = record { name = name; nillable = nillable; kind = which }

abbrev pub attribute_use : Name → ℕ → Bool → AttributeUse
attribute_use name simple required = record { name = name; simple = simple; required = required; standard = Free }

abbrev pub complex_def : Option Name → List AttributeUse → Content → ComplexDef
complex_def name uses inside = record { name = name; uses = uses; content = inside }

abbrev pub named_type : List ℕ → Space → NamedSpace
named_type local space = record { name = Some (unqualified local); space = space }

abbrev pub unnamed_type : Space → NamedSpace
unnamed_type space = record { name = None; space = space }

abbrev pub any_text : Space
any_text = Characters Preserve 0 None Any

abbrev pub any_token : Space
any_token = Characters Collapse 0 None Any

abbrev pub any_int : Space
any_int = Wholes (Some (negsuc (2 ^ 31 - 1))) (Some (pos (2 ^ 31 - 1)))

abbrev pub any_byte : Space
any_byte = Wholes (Some (pos 0)) (Some (pos 255))

-- ---- orders

abbrev pub po : List ℕ → Name
po local = qualified (codes "urn:po") local

abbrev pub order_model : Rose ParticleLabel
order_model = particle_of particle.Sequence 1 (Some 1) (element_particle 1 (po (codes "line")) 1 None ∷ element_particle 2 (po (codes "note")) 0 (Some 1) ∷ [])

abbrev pub line_model : Rose ParticleLabel
line_model = particle_of particle.Sequence 1 (Some 1) (element_particle 3 (po (codes "sku")) 1 (Some 1) ∷ element_particle 4 (po (codes "qty")) 1 (Some 1) ∷ [])

unfoldable pub orders : SetParts
orders = record {
  elements =
      element_decl (po (codes "order")) false (kind.Complex 0) ∷ element_decl (po (codes "line")) false (kind.Complex 1)
      ∷ element_decl (po (codes "note")) false (kind.Simple 0) ∷ element_decl (po (codes "sku")) false (kind.Simple 1)
      ∷ element_decl (po (codes "qty")) false (kind.Simple 2) ∷ [];
  globals = 1;
  simples =
      unnamed_type any_text ∷ unnamed_type any_token ∷ record { name = Some (po (codes "Qty")); space = Wholes (Some (pos 1)) (Some (pos 100)) }
      ∷ unnamed_type (Wholes (Some (pos 0)) (Some (pos 65535))) ∷ [];
  complexes =
      complex_def (Some (po (codes "Order"))) (attribute_use (unqualified (codes "id")) 3 true ∷ []) (content.ElementOnly order_model)
      ∷ complex_def (Some (po (codes "Line"))) [] (content.ElementOnly line_model) ∷ [];
  attributes = [];
}

-- ---- elements of many types

abbrev pub repeated_model : Rose ParticleLabel
repeated_model = particle_of particle.Sequence 1 (Some 1) (element_particle 9 (unqualified (codes "e")) 0 None ∷ [])

abbrev pub nested_model : Rose ParticleLabel
nested_model = particle_of particle.Sequence 1 (Some 1) (element_particle 11 (unqualified (codes "z")) 0 (Some 1) ∷ [])

abbrev pub mixed_model : Rose ParticleLabel
mixed_model =
    particle_of particle.Choice 0 None (element_particle 14 (unqualified (codes "b")) 1 (Some 1) ∷ element_particle 15 (unqualified (codes "i")) 1 (Some 1) ∷ [])

abbrev pub simple_element : List ℕ → Bool → ℕ → ElementDecl
simple_element local nillable n = element_decl (unqualified local) nillable (kind.Simple n)

abbrev pub complex_element : List ℕ → ℕ → ElementDecl
complex_element local n = element_decl (unqualified local) false (kind.Complex n)

unfoldable pub elements : SetParts
elements = record {
  elements =
      simple_element (codes "i") false 0 ∷ simple_element (codes "n") false 1 ∷ simple_element (codes "s") false 2
      ∷ simple_element (codes "u") false 3 ∷ simple_element (codes "w") false 4 ∷ simple_element (codes "k") true 5
      ∷ simple_element (codes "v") false 6 ∷ simple_element (codes "c") false 7 ∷ simple_element (codes "m") false 8
      ∷ complex_element (codes "e") 0 ∷ complex_element (codes "r") 1 ∷ complex_element (codes "z") 2
      ∷ complex_element (codes "p") 3 ∷ complex_element (codes "q") 4
      ∷ simple_element (codes "b") false 2 ∷ simple_element (codes "i") false 2 ∷ [];
  globals = 14;
  simples =
      unnamed_type any_int ∷ unnamed_type (Wholes None None) ∷ unnamed_type any_text ∷ unnamed_type (UnionOf (more any_int (more any_token none)))
      ∷ unnamed_type (UnionOf (more (Words Collapse (codes "7" ∷ [])) (more any_int none))) ∷ unnamed_type any_byte
      ∷ named_type (codes "Few") (ListOf any_byte 1 (Some 3))
      ∷ named_type (codes "Colour") (Words Collapse (codes "Green" ∷ codes "blue" ∷ codes "red" ∷ []))
      ∷ unnamed_type (Numbers (negsuc 4 ∷ pos 5 ∷ [])) ∷ [];
  complexes =
      complex_def None [] content.Empty ∷ complex_def None [] (content.ElementOnly repeated_model)
      ∷ complex_def None [] (content.ElementOnly nested_model) ∷ complex_def None [] (content.Mixed mixed_model)
      ∷ complex_def None (attribute_use (unqualified (codes "t")) 2 false ∷ []) content.Empty ∷ [];
  attributes = [];
}
