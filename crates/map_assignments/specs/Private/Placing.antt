-- The numbers of assignments as the code represents them; for private contracts.
use Rattle.std.specs.Prelude.{◌≡◌, ℕ, ◌<◌, List, map, length, slice_get, unwrap_or}
use Rattle.asn_types.specs.declared.modules.Assignment.{Assignment}
use Rattle.schema_components.specs.Components.{Set}
use Rattle.map_assignments.specs.declared.places.Places.{Places}
use Rattle.map_subjects.specs.declared.subjects.Subject.{Subject}
use Rattle.map_subjects.specs.declared.subjects.Subject.TheVariants.{Element, Attribute, Simple, Complex, Nillable}

abbrev pub number_at : List ℕ → ℕ → ℕ → ℕ
number_at numbers n count = unwrap_or (slice_get numbers n) count

abbrev pub place_of : Places → Subject → ℕ
place_of p (Element n) = number_at p.elements.items n p.count
place_of p (Attribute n) = number_at p.attributes.items n p.count
place_of p (Simple n) = number_at p.simples.items n p.count
place_of p (Complex n) = number_at p.complexes.items n p.count
place_of p (Nillable n) = number_at p.nillables.items n p.count

abbrev pub references_of : List Assignment → List (List ℕ)
references_of made = map (λ (a : Assignment). a.reference) made

-- There is a number for each component of the set.
abbrev pub HasLists : Set → Places → Type 0
HasLists s p =
    (length p.elements.items ≡ s.globals) × (length p.attributes.items ≡ length s.attributes) × (length p.simples.items ≡ length s.simples)
    × (length p.complexes.items ≡ length s.complexes) × (length p.nillables.items ≡ length s.complexes)

-- There is a number for the subject.
abbrev pub HasPlace : Places → Subject → Type 0
HasPlace p (Element n) = n < length p.elements.items
HasPlace p (Attribute n) = n < length p.attributes.items
HasPlace p (Simple n) = n < length p.simples.items
HasPlace p (Complex n) = n < length p.complexes.items
HasPlace p (Nillable n) = n < length p.nillables.items
