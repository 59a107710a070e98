-- Where the use of a name stands among uses that ascend by their names, of which those of one namespace stand together.
use Rattle.std.specs.Prelude.{◌≡◌, ℕ, ◌<◌, ◌≤◌, false, List, length, Option, Some, None, slice_index_or}
use Rattle.base_texts.specs.declared.texts.Name.{Name}
use Rattle.base_texts.specs.Names.{name_eq}
use Rattle.schema_components.specs.declared.components.AttributeUse.{AttributeUse}
use Rattle.validity_check.specs.declared.places.Run.{Run}

-- those of the run have this namespace
pub record IsRunOf (us : List AttributeUse) (space : List ℕ) (run : Run) : Type 0 where
  pub within : run.end ≤ length us
  pub same : (k : ℕ) (d : AttributeUse) → run.start ≤ k → k < run.end → (slice_index_or us k d).name.space ≡ space

-- those of the run have one namespace
abbrev pub IsRun : List AttributeUse → Run → Type 0
IsRun us run = (space : List ℕ) × IsRunOf us space run

-- the number of the use of this name, if there is one
abbrev pub IsPlace : List AttributeUse → Name → Option ℕ → Type 0
IsPlace us name None = (k : ℕ) (d : AttributeUse) → k < length us → name_eq (slice_index_or us k d).name name ≡ false
IsPlace us name (Some place) = (place < length us) × ((d : AttributeUse) → (slice_index_or us place d).name ≡ name)
