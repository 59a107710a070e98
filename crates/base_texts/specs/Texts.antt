-- The storage of texts: in place, or shared.
use Rattle.std.specs.Prelude.{List, ℕ}
use Rattle.std.specs.Arc.{arc_str_bytes}
use Rattle.base_texts.specs.declared.texts.Storage.{Storage}
use Rattle.base_texts.specs.declared.texts.Storage.TheVariants.{Here, There}

abbrev pub kept_bytes : Storage → List ℕ
kept_bytes (Here short) = short
kept_bytes (There long) = arc_str_bytes long
