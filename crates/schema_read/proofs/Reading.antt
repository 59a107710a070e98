-- What is read of some elements of a schema document, and the rules by which a property of what is read goes from the parts of an element to the element.
--
-- A property speaks of what is read of some elements, of where they stand, and of how many local declarations stand before
-- them. `Walk` has that a property by these rules holds of a whole document without a fault.
use Rattle.std.proofs.Common.{◌≡◌, ℕ, ◌+◌, ◌<◌, ◌≤◌, ◌^◌, false, true, cond, List, [], ◌∷◌, ◌++◌, length, Option, None, bytes_eq, codes, ◌⊎◌}
use Rattle.schema_read.proofs.Words.{list_any, cond_both, Name, beside, Rose, Roses, roses_of, list_of, label_of, length_all, ItemLabel, Element, is_sound, are_sound, levels, levels_all, ParticleKind, ParticleLabel, RawRef, RawContent, Base, Named, Inner, Bases, none, more, How, Restrict, ListOf, UnionOf, Simple, Use, Complex, Kind, NamedKind, SimpleKind, ComplexKind, Local, Reference, Own, Attribute, TypeDefinition, SimpleType, ComplexType, own_attributes, never_occurs, ElementRole, Schema, GlobalElement, LocalElement, AllElement, GlobalAttribute, GlobalSimpleType, GlobalComplexType, Sequence, Choice, All, Restriction, ListRole, Union, Position, level_inside, occurs, reasons_at, reasons_among, NoneAtAll, counted_among, declared_name, local_name, use_to, own_use, attribute_by, facets_among, joined, named_members, inner_types, Settings, nothing, is_nothing, element_with, leaf_of, compositor, group_of}
use Rattle.content_models.specs.declared.particles.ParticleKind.TheVariants as particle
use Rattle.schema_components.specs.declared.declarations.RawContent.TheVariants as content
use Rattle.schema_components.specs.Raw as raw
use Rattle.schema_read.proofs.Faultless.{Passes}
use Rattle.schema_read.proofs.FaultlessRoles.{IsLocal, IsGroupRole, IsAll, HasGroup, word_of_particle}
use Rattle.schema_read.proofs.OwnNames.{Texts, IsAttribute}
use Rattle.schema_read.proofs.ItemPlaces.{Spans, SpansAll}

-- ---- what is read

pub record Reading : Type 0 where
  pub bases : Bases
  -- each with the place of its `restriction`, `list` or `union`
  pub hows : List (ℕ × How)
  pub uses : List Use
  pub particles : List (Rose ParticleLabel)
  pub kinds : List Kind
  pub elements : List raw.Element
  pub attributes : List Attribute
  pub types : List TypeDefinition
  pub locals : List Local

abbrev pub and_reading : Reading → Reading → Reading
and_reading a b =
    record {
      bases = joined a.bases b.bases;
      hows = a.hows ++ b.hows;
      uses = a.uses ++ b.uses;
      particles = a.particles ++ b.particles;
      kinds = a.kinds ++ b.kinds;
      elements = a.elements ++ b.elements;
      attributes = a.attributes ++ b.attributes;
      types = a.types ++ b.types;
      locals = a.locals ++ b.locals;
    }

abbrev pub of_bases : Bases → Reading
of_bases bases = record { bases = bases; hows = []; uses = []; particles = []; kinds = []; elements = []; attributes = []; types = []; locals = [] }

abbrev pub of_how : ℕ → How → Reading
of_how at how = record { bases = none; hows = (at, how) ∷ []; uses = []; particles = []; kinds = []; elements = []; attributes = []; types = []; locals = [] }

-- what may stand in a complex type
abbrev pub of_body : List Use → List (Rose ParticleLabel) → List Local → Reading
of_body uses particles locals =
    record { bases = none; hows = []; uses = uses; particles = particles; kinds = []; elements = []; attributes = []; types = []; locals = locals }

abbrev pub of_kinds : List Kind → List Local → Reading
of_kinds kinds locals = record { bases = none; hows = []; uses = []; particles = []; kinds = kinds; elements = []; attributes = []; types = []; locals = locals }

abbrev pub of_parts : List raw.Element → List Attribute → List TypeDefinition → List Local → Reading
of_parts elements attributes types locals =
    record { bases = none; hows = []; uses = []; particles = []; kinds = []; elements = elements; attributes = attributes; types = types; locals = locals }

-- ---- where it stands

-- what is known of the element that they stand in
pub record Around : Type 0 where
  pub role : ElementRole
  -- how many groups stand round its children, up to its complex type
  pub level : ℕ
  pub place : ℕ
  -- a bound of the levels of elements in it
  pub room : ℕ

-- between two places, with the places among them that are counted
pub record Extent : Type 0 where
  pub least : ℕ
  pub end : ℕ
  pub counted : List ℕ

abbrev pub extent : ℕ → ℕ → List ℕ → Extent
extent least end counted = record { least = least; end = end; counted = counted }

-- an element, with how many local declarations stand before it
pub record Site : Type 0 where
  pub around : Around
  pub least : ℕ
  pub end : ℕ
  pub n : ℕ
  pub outer : List (List ℕ × List ℕ)
  pub level : ℕ
  pub name : Name
  pub attributes : List (Name × List ℕ)
  pub declares : List (List ℕ × List ℕ)
  pub at : ℕ
  pub kids : Roses ItemLabel

abbrev pub own_of : Site → List (List ℕ × List ℕ)
own_of s = own_attributes s.attributes

abbrev pub scope_of : Site → List (List ℕ × List ℕ)
scope_of s = s.declares ++ s.outer

-- from the place of an element on, there are this many more levels than those of its children
abbrev pub around_in : ElementRole → ℕ → ℕ → Site → Around
around_in role level gap s = record { role = role; level = level; place = s.at; room = levels_all s.kids + gap }

-- a complex type may stand two levels below an element, a type, and one below a group
abbrev pub gap : ElementRole → ℕ
gap Schema = 2
gap GlobalElement = 2
gap LocalElement = 2
gap AllElement = 2
gap Sequence = 1
gap Choice = 1
gap All = 1
gap role = 0

-- ---- what is known of elements: nothing stands against them, and they are sound and stand here

pub record Kid (role : ElementRole) (around : Around) (before : Option Position) (outer : List (List ℕ × List ℕ)) (level least end : ℕ) (t : Rose ItemLabel) : Type 0 where
  pub clean : NoneAtAll (reasons_at role before outer level t)
  pub sound : is_sound t ≡ true
  pub spans : Spans least end t
  pub behind : around.place < least
  pub low : end < 2 ^ 64
  pub deep : levels t + gap role ≤ around.room
  pub small : around.room ≤ 65

pub record Kids (role : ElementRole) (around : Around) (before : Option Position) (scope : List (List ℕ × List ℕ)) (level least end : ℕ) (ts : Roses ItemLabel) : Type 0 where
  pub clean : NoneAtAll (reasons_among role before scope level ts)
  pub sound : are_sound ts ≡ true
  pub spans : SpansAll least end ts
  pub behind : around.place < least
  pub low : end < 2 ^ 64
  pub deep : levels_all ts + gap role ≤ around.room
  pub small : around.room ≤ 65

-- of an element by itself
pub record Fact (role : ElementRole) (s : Site) : Type 0 where
  pub passes : Passes role (scope_of s) s.level (own_of s) (list_of s.kids)
  pub clean : NoneAtAll (reasons_among role None (scope_of s) (level_inside role s.level) s.kids)
  pub texts : Texts (own_of s)
  pub behind : s.around.place < s.at
  pub from : s.least ≤ s.at
  pub upto : s.at + 1 ≤ s.end
  pub low : s.at + 1 < 2 ^ 64
  pub small : s.around.room ≤ 65

pub record LeafFact (role : ElementRole) (s : Site) : Type 0 where
  pub fact : Fact role s
  pub is_local : IsLocal role
  pub stays : never_occurs (own_of s) ≡ false
  pub high : s.around.level ≤ 16
  pub deep : levels_all s.kids + 2 ≤ s.around.room

pub record GroupFact (role : ElementRole) (s : Site) : Type 0 where
  pub fact : Fact role s
  pub group : IsGroupRole role
  pub named : s.name.local ≡ word_of_particle role
  pub lone : IsAll role → HasGroup s.around.role
  pub stays : never_occurs (own_of s) ≡ false
  pub high : s.around.level < 16
  pub deep : levels_all s.kids + 1 ≤ s.around.room

-- ---- groups

-- what holds of each kind of group
pub by_compositor : (P : ParticleKind → Type 0) → P particle.Choice → P particle.All → P particle.Sequence → (name : List ℕ) → P (compositor name)
by_compositor P choice all sequence name =
    cond_both (bytes_eq name (codes "choice")) particle.Choice (cond (bytes_eq name (codes "all")) particle.All particle.Sequence) P (λ is. choice)
    (λ is. cond_both (bytes_eq name (codes "all")) particle.All particle.Sequence P (λ is. all) (λ is. sequence))

-- ---- the content of a complex type by the particles in it

abbrev pub IsNothing : List (Rose ParticleLabel) → Type 0
IsNothing [] = Unit {0}
IsNothing (t ∷ ts) = (is_nothing t ≡ true) × (ts ≡ [])

abbrev pub IsModel : Rose ParticleLabel → List (Rose ParticleLabel) → Type 0
IsModel model ts = (ts ≡ model ∷ []) × (is_nothing model ≡ false)

abbrev pub ContentBy : ℕ → ℕ → List (Rose ParticleLabel) → RawContent → Type 0
ContentBy file at ts content.Empty = IsNothing ts
ContentBy file at ts (content.Simple base place) = (at < place) × (ts ≡ [])
ContentBy file at ts (content.ElementOnly model) = IsModel model ts
ContentBy file at ts (content.Mixed model) = ((place : ℕ) × (at < place) × (model ≡ nothing file place) × IsNothing ts) ⊎ IsModel model ts

-- ---- rules

module _ (R : Around → Extent → ℕ → Reading → Type 0) where
  -- of the children, with n local declarations before them
  abbrev pub Inside : ElementRole → ℕ → ℕ → ℕ → Site → Reading → Type 0
  Inside role level gap n s r = R (around_in role level gap s) (extent (s.at + 1) s.end (counted_among s.kids)) n r

  -- of the element, whether it is counted or not
  abbrev pub Uncounted : Site → Reading → Type 0
  Uncounted s r = R s.around (extent s.least s.end (counted_among s.kids)) s.n r

  abbrev pub Counted : Site → Reading → Type 0
  Counted s r = R s.around (extent s.least s.end (s.at ∷ counted_among s.kids)) s.n r

abbrev pub members : Site → Bases
members s = joined (named_members (scope_of s) (own_of s)) (inner_types (scope_of s) s.kids)

pub record Rules (said : Settings) (R : Around → Extent → ℕ → Reading → Type 0) : Type 0 where
  -- ---- of some elements
  pub nothing_read : (around : Around) (least end n : ℕ) (counted : List ℕ) → least ≤ end → R around (extent least end counted) n (of_bases none)
  pub both : (around : Around) (least middle end n : ℕ) (xs ys : List ℕ) (a b : Reading) → R around (extent least middle xs) n a → R around (extent middle end ys) (n + length a.locals) b
      → R around (extent least end (xs ++ ys)) n (and_reading a b)
  pub lower : (around : Around) (less least end n : ℕ) (counted : List ℕ) (a : Reading) → less ≤ least → R around (extent least end counted) n a → R around (extent less end counted) n a
  -- ---- simple types
  pub more_named : (around : Around) (e : Extent) (n : ℕ) (reference : RawRef) (bases : Bases) → R around e n (of_bases bases) → R around e n (of_bases (more (Named reference) bases))
  pub first_base : (around : Around) (e : Extent) (n : ℕ) (base : Base) (bases : Bases) → R around e n (of_bases (more base bases)) → R around e n (of_bases (more base none))
  pub restriction : (s : Site) (base : Base) → Fact Restriction s → Inside R Restriction 0 0 s.n s (of_bases (more base none))
      → Uncounted R s (of_how s.at (Restrict base (facets_among (list_of s.kids))))
  pub list : (s : Site) (base : Base) → Fact ListRole s → Inside R ListRole 0 0 s.n s (of_bases (more base none)) → Uncounted R s (of_how s.at (ListOf base))
  pub union : (s : Site) → Fact Union s → Inside R Union 0 0 s.n s (of_bases (members s)) → Uncounted R s (of_how s.at (UnionOf (members s)))
  pub simple : (role : ElementRole) (s : Site) (body_at : ℕ) (how : How) → Fact role s → Inside R role 0 0 s.n s (of_how body_at how) → Counted R s (of_bases (more (Inner s.at body_at how) none))
  -- ---- attributes
  pub reference_use : (role : ElementRole) (s : Site) (name : Name) → Fact role s → Counted R s (of_body (use_to name (own_of s) s.at ∷ []) [] [])
  pub declared_use : (role : ElementRole) (s : Site) (base : Base) → IsAttribute role → Fact role s → beside (codes "ref") (own_of s) ≡ None → Inside R role 0 0 s.n s (of_bases (more base none))
      → Counted R s (of_body (own_use (local_name said.target said.attributes_qualified (own_of s)) base (own_of s) s.at ∷ []) [] [])
  -- ---- types of elements
  pub named_kind : (around : Around) (least end n : ℕ) (counted : List ℕ) (reference : RawRef) → least ≤ end → R around (extent least end counted) n (of_kinds (NamedKind reference ∷ []) [])
  pub simple_kind : (around : Around) (e : Extent) (n : ℕ) (body : Simple) → R around e n (of_bases (more (Inner body.at body.body_at body.how) none)) → R around e n (of_kinds (SimpleKind body ∷ []) [])
  pub complex_kind : (role : ElementRole) (s : Site) (uses : List Use) (ts : List (Rose ParticleLabel)) (locals : List Local) (written : RawContent) → HasGroup role → Fact role s
      → levels_all s.kids + 3 ≤ s.around.room → ContentBy said.file s.at ts written → Inside R role 0 0 s.n s (of_body uses ts locals)
      → Counted R s (of_kinds (ComplexKind (record { at = s.at; uses = uses; content = written }) ∷ []) locals)
  -- ---- particles
  pub reference : (role : ElementRole) (s : Site) (name : Name) → LeafFact role s → Counted R s (of_body [] (leaf_of said.file s.at s.n name (own_of s) ∷ []) (Reference name s.at ∷ []))
  pub own_element : (role : ElementRole) (s : Site) (kind : Kind) (locals : List Local) → LeafFact role s → beside (codes "ref") (own_of s) ≡ None
      → Inside R role 0 2 (s.n + 1) s (of_kinds (kind ∷ []) locals)
      → Counted R s (of_body [] (leaf_of said.file s.at s.n (local_name said.target said.elements_qualified (own_of s)) (own_of s) ∷ [])
      (Own (element_with (local_name said.target said.elements_qualified (own_of s)) (own_of s) s.at kind) ∷ locals))
  -- where a particle in it may occur, it has one
  pub group : (role : ElementRole) (s : Site) (ts : List (Rose ParticleLabel)) (locals : List Local) → GroupFact role s
      → (list_any (λ (kid : Rose ItemLabel). occurs (label_of kid)) (list_of s.kids) ≡ true → 1 ≤ length_all (roses_of ts))
      → Inside R role (s.around.level + 1) 1 s.n s (of_body [] ts locals)
      → Counted R s (of_body [] (group_of said.file s.at s.name.local (own_of s) ts ∷ []) locals)
  -- ---- global declarations
  pub element : (s : Site) (kind : Kind) (locals : List Local) → Fact GlobalElement s → levels_all s.kids + 2 ≤ s.around.room → Inside R GlobalElement 0 2 s.n s (of_kinds (kind ∷ []) locals)
      → Counted R s (of_parts (element_with (declared_name said.target (own_of s)) (own_of s) s.at kind ∷ []) [] [] locals)
  pub attribute : (s : Site) → Fact GlobalAttribute s → Inside R GlobalAttribute 0 0 s.n s (of_bases (more (attribute_by said.target s.at (scope_of s) (own_of s) (list_of s.kids)).kind none))
      → Counted R s (of_parts [] (attribute_by said.target s.at (scope_of s) (own_of s) (list_of s.kids) ∷ []) [] [])
  pub simple_type : (s : Site) (body : Simple) → Fact GlobalSimpleType s → body.at ≡ s.at → Counted R s (of_bases (more (Inner body.at body.body_at body.how) none))
      → Counted R s (of_parts [] [] (SimpleType (declared_name said.target (own_of s)) body ∷ []) [])
  pub complex_type : (s : Site) (body : Complex) (locals : List Local) → Fact GlobalComplexType s → body.at ≡ s.at → Counted R s (of_kinds (ComplexKind body ∷ []) locals)
      → Counted R s (of_parts [] [] (ComplexType (declared_name said.target (own_of s)) body ∷ []) locals)
