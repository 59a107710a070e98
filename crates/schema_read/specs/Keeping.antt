-- What holds of each document that is read.
use Rattle.std.specs.Prelude.{◌≡◌, ◌<◌, ◌^◌, true, length}
use Rattle.schema_components.specs.Raw.{Document}
use Rattle.schema_components.specs.Bounds.{all_fit, ascend}
use Rattle.schema_components.specs.DeclaredNames.{all_named}
use Rattle.schema_components.specs.Varieties.{all_varied}
use Rattle.schema_components.specs.Places.{all_ascend, places_in, StandAmong}
use Rattle.schema_components.specs.Inward.{all_inward}
use Rattle.schema_components.specs.Chains.{AreShort}
use Rattle.schema_components.specs.Coherent.{IsCoherent}
use Rattle.schema_read.specs.Private.Held.{ElementsHeld, TypesHeld, LocalsHeld}

pub record Keeps (d : Document) : Type 0 where
  -- Each name that is declared may be declared.
  pub named : all_named d.elements d.attributes d.types d.locals ≡ true
  pub few : length d.locals < 2 ^ 32
  pub fitting : all_fit d.elements d.types d.locals ≡ true
  pub ascending : ascend d.counted ≡ true
  pub varied : all_varied d.elements d.attributes d.types d.locals ≡ true
  -- The components of each kind are in the order written.
  pub ordered : all_ascend d.elements d.attributes d.types d.locals ≡ true
  pub all_counted : StandAmong (places_in d.elements d.attributes d.types d.locals) d.counted
  -- Each part is after the part that contains it.
  pub inward : all_inward d.elements d.attributes d.types d.locals ≡ true
  pub short : AreShort d.elements d.types d.locals
  pub coherent : IsCoherent d
  -- The values of the code can represent the document.
  pub elements_held : ElementsHeld d.elements
  pub types_held : TypesHeld d.types
  pub locals_held : LocalsHeld d.locals
