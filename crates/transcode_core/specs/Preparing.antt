-- What was prepared of schemas: a linked set and the number of its root, of which the steps see the parts.
use Rattle.std.specs.Prelude.{ℕ}
use Rattle.schema_components.specs.Components.{Set}
use Rattle.schema_components.specs.SetParts.{SetParts, parts_of}

abbrev pub prepared_seen : Set × ℕ → SetParts × ℕ
prepared_seen prepared = (parts_of prepared.0, prepared.1)
