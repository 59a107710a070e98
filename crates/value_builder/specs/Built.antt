-- What is appended of a value. Up to a limit of nodes all of it is kept. After that nothing must be kept, and the nodes are only
-- counted. If no node may be kept, nothing is counted either.
use Rattle.std.specs.Prelude.{◌≡◌, ℕ, ◌-◌, ◌^◌, ◌≤◌, min, List, [], ◌∷◌, ◌++◌, Bool, refl}
use Rattle.std.specs.Coded.{Coded, code_by, coded×, coded_ℕ}
use Rattle.base_trees.specs.Rose.{Rose}
use Rattle.base_flat_trees.specs.Zips.{Above, Zip, zip_count, coded_zip}
use Rattle.simple_types.specs.contracts.labels.ValueLabel as label
use Rattle.simple_types.specs.declared.labels.ValueLabel.{ValueLabel}
use Rattle.simple_types.specs.declared.labels.ValueLabel.TheVariants as value

-- What is kept, the number of nodes counted, and the number that may be kept.
pub record Built : Type 0 where
  pub kept : Zip ValueLabel
  pub nodes : ℕ
  pub most : ℕ

abbrev pub coded_built : Coded Built
coded_built =
    code_by (Zip ValueLabel × (ℕ × ℕ)) (coded× (coded_zip label.the_row.coded) (coded× coded_ℕ coded_ℕ)) (λ b. (b.kept, (b.nodes, b.most))) (λ p. record { kept = p.0; nodes = p.1.0; most = p.1.1 }) (λ _. refl)

-- Nothing is appended yet.
abbrev pub nothing_of : ℕ → Built
nothing_of most = record { kept = record { above = []; kids = [] }; nodes = 0; most = most }

-- All that was appended is z, if anything may be kept. The greatest number of 64 bits means that number or a greater one.
pub record Stands (b : Built) (z : Zip ValueLabel) : Type 0 where
  pub nodes : 1 ≤ b.most → b.nodes ≡ min (zip_count z) (2 ^ 64 - 1)
  pub kept : 1 ≤ b.most → b.nodes ≤ b.most → b.kept ≡ z

-- What is appended changes by f, whatever it was.
pub record Puts (f : Zip ValueLabel → Zip ValueLabel) (old new : Built) : Type 0 where
  pub most : new.most ≡ old.most
  pub stands : (z : Zip ValueLabel) → Stands old z → Stands new (f z)

-- ---- flags

-- The label of a SEQUENCE with one component more, present or absent.
abbrev pub flagged_label : Bool → ValueLabel → ValueLabel
flagged_label present (value.Sequence flags) = value.Sequence (flags ++ present ∷ [])
flagged_label present l = l

abbrev pub flagged_above : Bool → List (Above ValueLabel) → List (Above ValueLabel)
flagged_above present [] = []
flagged_above present (a ∷ up) = record { label = flagged_label present a.label; before = a.before } ∷ up

-- The innermost open SEQUENCE has one component more.
abbrev pub flagged : Bool → Zip ValueLabel → Zip ValueLabel
flagged present z = record { above = flagged_above present z.above; kids = z.kids }

-- ---- several parts

abbrev pub with_flags : List Bool → ValueLabel → ValueLabel
with_flags more (value.Sequence flags) = value.Sequence (flags ++ more)
with_flags more l = l

abbrev pub with_flags_above : List Bool → List (Above ValueLabel) → List (Above ValueLabel)
with_flags_above more [] = []
with_flags_above more (a ∷ up) = record { label = with_flags more a.label; before = a.before } ∷ up

-- The innermost open SEQUENCE has these components more. Those of them that are present have these values.
abbrev pub with_parts : List Bool → List (Rose ValueLabel) → Zip ValueLabel → Zip ValueLabel
with_parts flags vs z = record { above = with_flags_above flags z.above; kids = z.kids ++ vs }
