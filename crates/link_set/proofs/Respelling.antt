-- The space of the simple type with a number, and value constraints in its spelling.
use Rattle.std.proofs.Common.{◌≡◌, ℕ, ◌<◌, ◌≤◌, List, length, map, All, get_or, Some, None, refl, sym, ap, ◌∙◌}
use Rattle.std.specs.Option.{option_map}
use Rattle.std.proofs.lemmas.List.Elements.{All-map, All-same}
use Rattle.std.proofs.lemmas.Option.{slice_get-map, slice_get_past, slice_get-get_or}
use Rattle.simple_types.specs.Seen.{space_of}
use Rattle.simple_types.specs.Space.{Space}
use Rattle.simple_types.specs.declared.standards.Standard.{Standard}
use Rattle.simple_types.specs.declared.standards.Standard.TheVariants.{Free, Default, Fixed}
use Rattle.schema_components.specs.declared.components.ComplexDef.{ComplexDef}
use Rattle.schema_components.specs.declared.components.SimpleDef.{SimpleDef}
use Rattle.link_simple.specs.Spellings.{in_spelling}
use Rattle.link_set.specs.Parts.{HasWholeModel}
use Rattle.link_set.specs.Sets.{NamedSpace, named_space, named_spaces, space_at, or_free, spelled_standard, spelled_complex}

abbrev space : NamedSpace → Space
space t = t.space

no_space : (ts : List SimpleDef) (n : ℕ) → length ts ≤ n → space_at (named_spaces ts) n ≡ None
no_space ts n le = ap (option_map space) (slice_get-map named_space ts n ∙ ap (option_map named_space) (slice_get_past ts n le))

the_space : (ts : List SimpleDef) (n : ℕ) (t : SimpleDef) → n < length ts → t ≡ get_or ts n t → space_at (named_spaces ts) n ≡ Some (space_of t.space)
the_space ts n t lt is =
    ap (option_map space) (slice_get-map named_space ts n ∙ ap (option_map named_space) (slice_get-get_or ts n t lt ∙ ap (λ (u : SimpleDef). Some u) (sym is)))

without_space : (standard : Standard) → or_free (in_spelling None standard) ≡ Free
without_space Free = refl
without_space (Default text) = refl
without_space (Fixed text) = refl

-- where there is no such type
pub none_spelled : (ts : List SimpleDef) (n : ℕ) (standard : Standard) → length ts ≤ n → Free ≡ spelled_standard (named_spaces ts) n standard
none_spelled ts n standard le = sym (ap (λ o. or_free (in_spelling o standard)) (no_space ts n le) ∙ without_space standard)

pub one_spelled : (ts : List SimpleDef) (n : ℕ) (t : SimpleDef) (standard : Standard) → n < length ts → t ≡ get_or ts n t
    → or_free (in_spelling (Some (space_of t.space)) standard) ≡ spelled_standard (named_spaces ts) n standard
one_spelled ts n t standard lt is = ap (λ o. or_free (in_spelling o standard)) (sym (the_space ts n t lt is))

-- content models stay as they are
pub still_whole : (ts : List NamedSpace) (cs made : List ComplexDef) → made ≡ map (spelled_complex ts) cs → All HasWholeModel cs → All HasWholeModel made
still_whole ts cs made e whole = All-same HasWholeModel made (map (spelled_complex ts) cs) e (All-map HasWholeModel (spelled_complex ts) cs whole)
