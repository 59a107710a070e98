-- The rule of declared names, and that of items.
use Rattle.std.proofs.Common.{◌≡◌, Bool, true, false, ◌&&◌, not, refl, ◌||◌, bytes_eq}
use Rattle.schema_read.proofs.Words.{is_namespace, is_name_part, xmlns_space, xsi_space, Name}
use Rattle.xml_read.specs.Sound as items
use Rattle.schema_components.specs.Declarable as schemas

regrouped : (space part xmlns instance : Bool) → (space && part && not (xmlns || (instance || false))) ≡ (space && not xmlns && part && not instance)
regrouped false part xmlns instance = refl
regrouped true false true instance = refl
regrouped true false false instance = refl
regrouped true true true instance = refl
regrouped true true false true = refl
regrouped true true false false = refl

pub same_rule : (name : Name) → schemas.is_declarable name ≡ (items.is_sound_name name && not (bytes_eq name.space xsi_space))
same_rule name =
    regrouped (is_namespace name.space) (is_name_part name.local) (bytes_eq name.space xmlns_space) (bytes_eq name.space xsi_space)
