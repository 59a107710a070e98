-- The print of a module without its marks. It has no encoding instruction and no encoding control of X.693, only the notation of
-- X.680, which other ASN.1 compilers accept. Everything else is as in the print of the module: its types, and the values after
-- DEFAULT, whose texts may have any characters.
use Rattle.std.specs.Prelude.{ℕ, List, [], ◌∷◌, ◌++◌, codes}
use Rattle.std.specs.List.{flat_map}
use Rattle.base_trees.specs.Rose.{Rose, node, Roses, none, more}
use Rattle.asn_types.specs.declared.types.Component.{Component}
use Rattle.asn_types.specs.declared.types.TypeLabel.{TypeLabel}
use Rattle.asn_types.specs.declared.modules.Assignment.{Assignment}
use Rattle.asn_types.specs.Parts.{parts_of}
use Rattle.module_print.specs.Printed.{level_of_parts, type_of, with_type}

-- ---- types without their marks

module _ (M : List Assignment) where
  abbrev mutual
    -- A type on a line of this level of indentation.
    pub plain_type : ℕ → Rose TypeLabel → List ℕ
    plain_type levels (node l ts) = type_of M levels l.form (plain_parts (level_of_parts levels l.form) (parts_of l.form) ts)

    -- The parts with these types.
    pub plain_parts : ℕ → List Component → Roses TypeLabel → List (List ℕ)
    plain_parts levels parts none = []
    plain_parts levels parts (more t ts) =
        elim parts [
          | [] ↦ []
          | part ∷ others ↦ with_type M part t (plain_type levels t) ∷ plain_parts levels others ts
        ]

  -- An assignment (clause 16.1) on lines of its own.
  abbrev pub plain_assignment : Assignment → List ℕ
  plain_assignment a = a.reference ++ codes " ::= " ++ plain_type 0 a.body ++ codes "\n"

-- ---- the module

-- The name and the defaults of the module (X.680, clause 13).
abbrev pub opening : List ℕ
opening = codes "Schema-Set DEFINITIONS AUTOMATIC TAGS ::= BEGIN\n"

abbrev pub closing : List ℕ
closing = codes "END\n"

-- The assignments of the module.
abbrev pub plain_body : List Assignment → List ℕ
plain_body M = flat_map (plain_assignment M) M

-- THE PRINT OF A MODULE WITHOUT ITS MARKS.
abbrev pub plain : List Assignment → List ℕ
plain M = opening ++ plain_body M ++ closing
