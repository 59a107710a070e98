-- Names without a prefix.
use Rattle.std.specs.Prelude.{◌≡◌, ℕ, true, false, List, []}
use Rattle.xml_pieces.specs.Namespaces.{is_long}
use Rattle.xml_pieces.specs.QNames.{prefix_of, local_of, is_qname}

-- The name has no prefix and no error.
pub record IsPlain (written : List ℕ) : Type 0 where
  pub qname : is_qname written ≡ true
  pub short : is_long written ≡ false
  pub alone : prefix_of written ≡ []
  pub whole : local_of written ≡ written
