-- What a type states of the roles of its parts, read once for all of them.
use Rattle.std.specs.Prelude.{◌≡◌, length}
use Rattle.module_text.specs.declared.types.PlainLabel.{PlainLabel}
use Rattle.module_text.specs.Texts.{parts_of}
use Rattle.module_text.specs.Told.{has_use_nil, has_embed_values, has_use_order, has_use_union}
use Rattle.module_check.specs.declared.parts.Roles.{Roles}

pub record AreRoles (r : Roles) (l : PlainLabel) : Type 0 where
  pub count : r.count ≡ length (parts_of l.form)
  pub use_nil : r.use_nil ≡ has_use_nil l.marks
  pub embed_values : r.embed_values ≡ has_embed_values l.marks
  pub use_order : r.use_order ≡ has_use_order l.marks
  pub use_union : r.use_union ≡ has_use_union l.marks
