-- The roles of the elements that are read in a document without a fault.
use Rattle.std.proofs.Common.{◌≡◌, ℕ, true, false, List, [], ◌∷◌, ◌++◌, Option, Some, None, inl, inr, refl, ap, sym, ◌∙◌, subst, bytes_eq, codes, ◌⊎◌}
use Rattle.schema_read.proofs.Words.{list_any, or_cases, and_parts, bytes_eq-Decides, Name, beside, node, Roses, list_of, ItemLabel, Element, is_schema_name, part, children, own_attributes, names_in, is_in, Particles, Attributes, Varieties, ElementRole, Schema, GlobalElement, LocalElement, GlobalAttribute, LocalAttribute, GlobalSimpleType, InnerSimpleType, GlobalComplexType, InnerComplexType, Sequence, Choice, All, AllElement, Restriction, ListRole, Union, SimpleContent, Extension, Position, Anywhere, First, Alone, Part, level_inside, LookedAt, unless_composition, reasons_at, reasons_among, NoneAtAll, is_named}
use Rattle.schema_syntax.specs.declared.children.ChildSet.{ChildSet}
use Rattle.schema_read.proofs.Faultless.{Stands, stands, Passes, passes}

-- ---- one of some names

abbrev pub Each : (List ℕ → Type 0) → List (List ℕ) → Type 0
Each P [] = Unit {0}
Each P (w ∷ ws) = P w × Each P ws

pub one_of : (P : List ℕ → Type 0) (name : List ℕ) (ws : List (List ℕ)) → list_any (bytes_eq name) ws ≡ true → Each P ws → P name
one_of P name [] is h = absurd (let e : false ≡ true = is in cc)
one_of P name (w ∷ ws) is h =
    elim (or_cases (bytes_eq name w) (list_any (bytes_eq name) ws) is) [
      | inl here ↦ subst P (sym ((bytes_eq-Decides name w).0 here)) h.0
      | inr there ↦ one_of P name ws there h.1
    ]

-- ---- an element by its role

-- nothing stands against it or what stands in it
pub record Inside (role : ElementRole) (outer : List (List ℕ × List ℕ)) (level : ℕ) (attributes : List (Name × List ℕ)) (declares : List (List ℕ × List ℕ)) (kids : Roses ItemLabel) : Type 0 where
  pub passes : Passes role (declares ++ outer) level (own_attributes attributes) (list_of kids)
  pub inside : NoneAtAll (unless_composition role (reasons_among role None (declares ++ outer) (level_inside role level) kids))

abbrev pub HasParticles : ElementRole → Type 0
HasParticles GlobalComplexType = Unit {0}
HasParticles InnerComplexType = Unit {0}
HasParticles Sequence = Unit {0}
HasParticles Choice = Unit {0}
HasParticles All = Unit {0}
HasParticles role = ⊥

abbrev pub HasTypes : ElementRole → Type 0
HasTypes Schema = Unit {0}
HasTypes GlobalElement = Unit {0}
HasTypes LocalElement = Unit {0}
HasTypes AllElement = Unit {0}
HasTypes role = ⊥

pub none_there : (p : Part) → None ≡ Some p → ⊥
none_there p is = cc

pub role_there : (role : ElementRole) (position : Position) (p : Part) → Some (part role position) ≡ Some p → p.role ≡ role
role_there role position p is = let e : part role position ≡ p = cc in ap (λ (q : Part). q.role) (sym e)

-- an element among particles
abbrev pub IsLocal : ElementRole → Type 0
IsLocal LocalElement = Unit {0}
IsLocal AllElement = Unit {0}
IsLocal role = ⊥

pub local_types : (role : ElementRole) → IsLocal role → HasTypes role
local_types LocalElement h = tt
local_types AllElement h = tt
local_types role h = absurd h

abbrev pub IsGroupRole : ElementRole → Type 0
IsGroupRole Sequence = Unit {0}
IsGroupRole Choice = Unit {0}
IsGroupRole All = Unit {0}
IsGroupRole role = ⊥

abbrev pub IsAll : ElementRole → Type 0
IsAll All = Unit {0}
IsAll role = ⊥

-- the word of a particle's role
abbrev pub word_of_particle : ElementRole → List ℕ
word_of_particle LocalElement = codes "element"
word_of_particle AllElement = codes "element"
word_of_particle Choice = codes "choice"
word_of_particle All = codes "all"
word_of_particle role = codes "sequence"

pub group_particles : (role : ElementRole) → IsGroupRole role → HasParticles role
group_particles Sequence h = tt
group_particles Choice h = tt
group_particles All h = tt
group_particles role h = absurd h

-- a complex type has a group, and no element right in it
abbrev pub HasGroup : ElementRole → Type 0
HasGroup GlobalComplexType = Unit {0}
HasGroup InnerComplexType = Unit {0}
HasGroup role = ⊥

pub type_particles : (parent : ElementRole) → HasGroup parent → HasParticles parent
type_particles GlobalComplexType h = tt
type_particles InnerComplexType h = tt
type_particles role h = absurd h

pub no_group_in_both : (parent : ElementRole) → IsGroupRole parent → HasGroup parent → ⊥
no_group_in_both Sequence g h = h
no_group_in_both Choice g h = h
no_group_in_both All g h = h
no_group_in_both role g h = absurd g

-- an element stands in a group, and an `all` right in a complex type
abbrev pub StandsIn : ElementRole → ElementRole → Type 0
StandsIn parent LocalElement = IsGroupRole parent
StandsIn parent AllElement = IsGroupRole parent
StandsIn parent Sequence = Unit {0}
StandsIn parent Choice = Unit {0}
StandsIn parent All = HasGroup parent
StandsIn parent role = ⊥

pub its_element : (parent role : ElementRole) → StandsIn parent role → bytes_eq (word_of_particle role) (codes "element") ≡ true → IsLocal role × IsGroupRole parent
its_element parent LocalElement h is = (tt, h)
its_element parent AllElement h is = (tt, h)
its_element parent Sequence h is = absurd (let e : false ≡ true = is in cc)
its_element parent Choice h is = absurd (let e : false ≡ true = is in cc)
its_element parent All h is = absurd (let e : false ≡ true = is in cc)
its_element parent role h is = absurd h

pub its_group : (parent role : ElementRole) → StandsIn parent role → bytes_eq (word_of_particle role) (codes "element") ≡ false → IsGroupRole role × (IsAll role → HasGroup parent)
its_group parent LocalElement h is = absurd (let e : true ≡ false = is in cc)
its_group parent AllElement h is = absurd (let e : true ≡ false = is in cc)
its_group parent Sequence h is = (tt, λ none. absurd none)
its_group parent Choice h is = (tt, λ none. absurd none)
its_group parent All h is = (tt, λ all. h)
its_group parent role h is = absurd h

inside_particle : (parent role : ElementRole) → StandsIn parent role → (xs : List LookedAt) → NoneAtAll (unless_composition role xs) → NoneAtAll xs
inside_particle parent LocalElement h xs none = none
inside_particle parent AllElement h xs none = none
inside_particle parent Sequence h xs none = none
inside_particle parent Choice h xs none = none
inside_particle parent All h xs none = none
inside_particle parent role h xs none = absurd h

-- what a word stands for in a parent
abbrev ByWord : ElementRole → List ℕ → Type 0
ByWord parent w = (p : Part) → beside w (children parent) ≡ Some p → (w ≡ word_of_particle p.role) × StandsIn parent p.role

absent : (parent : ElementRole) (w : List ℕ) → beside w (children parent) ≡ None → ByWord parent w
absent parent w none p is = absurd (none_there p (sym none ∙ is))

present : (parent role : ElementRole) (position : Position) → beside (word_of_particle role) (children parent) ≡ Some (part role position) → StandsIn parent role → ByWord parent (word_of_particle role)
present parent role position found h p is =
    subst (λ r. (word_of_particle role ≡ word_of_particle r) × StandsIn parent r) (sym (role_there role position p (sym found ∙ is))) (refl, h)

particle_words : (parent : ElementRole) → HasParticles parent → Each (ByWord parent) (names_in Particles)
particle_words GlobalComplexType h =
    let G = GlobalComplexType in
    (absent G (codes "element") refl, (present G Sequence First refl tt, (present G Choice First refl tt, (absent G (codes "any") refl, (absent G (codes "group") refl, (present G All First refl tt, tt))))))
particle_words InnerComplexType h =
    let G = InnerComplexType in
    (absent G (codes "element") refl, (present G Sequence First refl tt, (present G Choice First refl tt, (absent G (codes "any") refl, (absent G (codes "group") refl, (present G All First refl tt, tt))))))
particle_words Sequence h =
    let G = Sequence in
    (present G LocalElement Anywhere refl tt, (present G Sequence Anywhere refl tt, (present G Choice Anywhere refl tt, (absent G (codes "any") refl, (absent G (codes "group") refl, (absent G (codes "all") refl, tt))))))
particle_words Choice h =
    let G = Choice in
    (present G LocalElement Anywhere refl tt, (present G Sequence Anywhere refl tt, (present G Choice Anywhere refl tt, (absent G (codes "any") refl, (absent G (codes "group") refl, (absent G (codes "all") refl, tt))))))
particle_words All h =
    let G = All in
    (present G AllElement Anywhere refl tt, (absent G (codes "sequence") refl, (absent G (codes "choice") refl, (absent G (codes "any") refl, (absent G (codes "group") refl, (absent G (codes "all") refl, tt))))))
particle_words role h = absurd h

complex_role : (parent : ElementRole) → HasTypes parent → (p : Part) → beside (codes "complexType") (children parent) ≡ Some p → (p.role ≡ GlobalComplexType) ⊎ (p.role ≡ InnerComplexType)
complex_role Schema h p is = inl (role_there GlobalComplexType Anywhere p is)
complex_role GlobalElement h p is = inr (role_there InnerComplexType Alone p is)
complex_role LocalElement h p is = inr (role_there InnerComplexType Alone p is)
complex_role AllElement h p is = inr (role_there InnerComplexType Alone p is)
complex_role role h p is = absurd h

simple_role : (parent : ElementRole) (p : Part) → beside (codes "simpleType") (children parent) ≡ Some p → (p.role ≡ GlobalSimpleType) ⊎ (p.role ≡ InnerSimpleType)
simple_role Schema p is = inl (role_there GlobalSimpleType Anywhere p is)
simple_role GlobalElement p is = inr (role_there InnerSimpleType Alone p is)
simple_role LocalElement p is = inr (role_there InnerSimpleType Alone p is)
simple_role AllElement p is = inr (role_there InnerSimpleType Alone p is)
simple_role GlobalAttribute p is = inr (role_there InnerSimpleType Alone p is)
simple_role LocalAttribute p is = inr (role_there InnerSimpleType Alone p is)
simple_role Restriction p is = inr (role_there InnerSimpleType First p is)
simple_role ListRole p is = inr (role_there InnerSimpleType Alone p is)
simple_role Union p is = inr (role_there InnerSimpleType Anywhere p is)
simple_role role p is = absurd (none_there p is)

abbrev pub HasVariety : ElementRole → Type 0
HasVariety GlobalSimpleType = Unit {0}
HasVariety InnerSimpleType = Unit {0}
HasVariety role = ⊥

restriction_role : (parent : ElementRole) → HasVariety parent → (p : Part) → beside (codes "restriction") (children parent) ≡ Some p → p.role ≡ Restriction
restriction_role GlobalSimpleType h p is = role_there Restriction Alone p is
restriction_role InnerSimpleType h p is = role_there Restriction Alone p is
restriction_role role h p is = absurd h

list_role : (parent : ElementRole) → HasVariety parent → (p : Part) → beside (codes "list") (children parent) ≡ Some p → p.role ≡ ListRole
list_role GlobalSimpleType h p is = role_there ListRole Alone p is
list_role InnerSimpleType h p is = role_there ListRole Alone p is
list_role role h p is = absurd h

union_role : (parent : ElementRole) → HasVariety parent → (p : Part) → beside (codes "union") (children parent) ≡ Some p → p.role ≡ Union
union_role GlobalSimpleType h p is = role_there Union Alone p is
union_role InnerSimpleType h p is = role_there Union Alone p is
union_role role h p is = absurd h

abbrev pub IsVariety : (outer : List (List ℕ × List ℕ)) (level : ℕ) (name : Name) (attributes : List (Name × List ℕ)) (declares : List (List ℕ × List ℕ)) (kids : Roses ItemLabel) → Type 0
IsVariety outer level name attributes declares kids =
    ((name.local ≡ codes "restriction") × Inside Restriction outer level attributes declares kids)
    ⊎ (((name.local ≡ codes "list") × Inside ListRole outer level attributes declares kids)
    ⊎ ((name.local ≡ codes "union") × Inside Union outer level attributes declares kids))

attribute_role : (parent : ElementRole) (p : Part) → beside (codes "attribute") (children parent) ≡ Some p → (p.role ≡ GlobalAttribute) ⊎ (p.role ≡ LocalAttribute)
attribute_role Schema p is = inl (role_there GlobalAttribute Anywhere p is)
attribute_role GlobalComplexType p is = inr (role_there LocalAttribute Anywhere p is)
attribute_role InnerComplexType p is = inr (role_there LocalAttribute Anywhere p is)
attribute_role Extension p is = inr (role_there LocalAttribute Anywhere p is)
attribute_role role p is = absurd (none_there p is)

extension_role : (parent : ElementRole) (p : Part) → beside (codes "extension") (children parent) ≡ Some p → p.role ≡ Extension
extension_role SimpleContent p is = role_there Extension Alone p is
extension_role role p is = absurd (none_there p is)

content_role : (parent : ElementRole) (p : Part) → beside (codes "simpleContent") (children parent) ≡ Some p → p.role ≡ SimpleContent
content_role GlobalComplexType p is = role_there SimpleContent Alone p is
content_role InnerComplexType p is = role_there SimpleContent Alone p is
content_role role p is = absurd (none_there p is)

pub word_of : (w : List ℕ) (name : Name) (attributes : List (Name × List ℕ)) (declares : List (List ℕ × List ℕ)) (at : ℕ) → is_named w (Element name attributes declares at) ≡ true → name.local ≡ w
word_of w name attributes declares at is = (bytes_eq-Decides name.local w).0 (and_parts (is_schema_name name) (bytes_eq name.local w) is).1

pub attribute_word : (name : List ℕ) → list_any (bytes_eq name) (names_in Attributes) ≡ true → name ≡ codes "attribute"
attribute_word name is = one_of (λ w. w ≡ codes "attribute") name (names_in Attributes) is (refl, tt)

pub member : (s : ChildSet) (name : Name) (attributes : List (Name × List ℕ)) (declares : List (List ℕ × List ℕ)) (at : ℕ)
    → is_in s (Element name attributes declares at) ≡ true → (is_schema_name name ≡ true) × (list_any (bytes_eq name.local) (names_in s) ≡ true)
member s name attributes declares at is = and_parts (is_schema_name name) (list_any (bytes_eq name.local) (names_in s)) is

-- a particle that the profile has
pub record IsParticle (parent : ElementRole) (outer : List (List ℕ × List ℕ)) (level : ℕ) (name : Name) (attributes : List (Name × List ℕ)) (declares : List (List ℕ × List ℕ)) (kids : Roses ItemLabel) : Type 0 where
  pub role : ElementRole
  pub stands : StandsIn parent role
  pub named : name.local ≡ word_of_particle role
  pub passes : Passes role (declares ++ outer) level (own_attributes attributes) (list_of kids)
  pub inside : NoneAtAll (reasons_among role None (declares ++ outer) (level_inside role level) kids)

pub record IsComplex (outer : List (List ℕ × List ℕ)) (level : ℕ) (attributes : List (Name × List ℕ)) (declares : List (List ℕ × List ℕ)) (kids : Roses ItemLabel) : Type 0 where
  pub role : ElementRole
  pub typed : HasGroup role
  pub passes : Passes role (declares ++ outer) level (own_attributes attributes) (list_of kids)
  pub inside : NoneAtAll (reasons_among role None (declares ++ outer) (level_inside role level) kids)

pub record IsSimple (outer : List (List ℕ × List ℕ)) (level : ℕ) (attributes : List (Name × List ℕ)) (declares : List (List ℕ × List ℕ)) (kids : Roses ItemLabel) : Type 0 where
  pub role : ElementRole
  pub varied : HasVariety role
  pub passes : Passes role (declares ++ outer) level (own_attributes attributes) (list_of kids)
  pub inside : NoneAtAll (reasons_among role None (declares ++ outer) (level_inside role level) kids)

module _ (parent : ElementRole) (before : Option Position) (outer : List (List ℕ × List ℕ)) (level : ℕ) (name : Name) (attributes : List (Name × List ℕ)) (declares : List (List ℕ × List ℕ)) (at : ℕ) (kids : Roses ItemLabel)
    (h : NoneAtAll (reasons_at parent before outer level (node (Element name attributes declares at) kids))) where
  -- by the word that it has for its name
  pub standing : (w : List ℕ) → name.local ≡ w → bytes_eq w (codes "annotation") ≡ false → Stands parent outer level name attributes declares kids
  standing w is other = stands parent before outer level name attributes declares at kids (ap (λ l. bytes_eq l (codes "annotation")) is ∙ other) h

  pub as_role : (role : ElementRole) (s : Stands parent outer level name attributes declares kids) → s.part.role ≡ role → Inside role outer level attributes declares kids
  as_role role s is =
      subst (λ r. Inside r outer level attributes declares kids) is
      (record { passes = passes s.part.role (declares ++ outer) level (own_attributes attributes) (list_of kids) s.clean; inside = s.inside })

  pub there : (w : List ℕ) → name.local ≡ w → (s : Stands parent outer level name attributes declares kids) → beside w (children parent) ≡ Some s.part
  there w is s = subst (λ l. beside l (children parent) ≡ Some s.part) is s.found

  -- by a word that stands for one role there, or for one of two
  pub by_word : (w : List ℕ) (role : ElementRole) → name.local ≡ w → bytes_eq w (codes "annotation") ≡ false → ((p : Part) → beside w (children parent) ≡ Some p → p.role ≡ role)
      → Inside role outer level attributes declares kids
  by_word w role is other of = let s = standing w is other in as_role role s (of s.part (there w is s))

  pub by_either : (w : List ℕ) (a b : ElementRole) → name.local ≡ w → bytes_eq w (codes "annotation") ≡ false → ((p : Part) → beside w (children parent) ≡ Some p → (p.role ≡ a) ⊎ (p.role ≡ b))
      → Inside a outer level attributes declares kids ⊎ Inside b outer level attributes declares kids
  by_either w a b is other of =
      let s = standing w is other in
      elim (of s.part (there w is s)) [ inl one ↦ inl (as_role a s one) | inr one ↦ inr (as_role b s one) ]

  -- ---- particles

  pub particle_cases : HasParticles parent → is_in Particles (Element name attributes declares at) ≡ true → IsParticle parent outer level name attributes declares kids
  particle_cases has is =
      let word = (member Particles name attributes declares at is).1 in
      let other = one_of (λ w. bytes_eq w (codes "annotation") ≡ false) name.local (names_in Particles) word (refl, (refl, (refl, (refl, (refl, (refl, tt)))))) in
      let s = standing name.local refl other in
      let found = one_of (ByWord parent) name.local (names_in Particles) word (particle_words parent has) s.part s.found in
      record {
        role = s.part.role;
        stands = found.1;
        named = found.0;
        passes = passes s.part.role (declares ++ outer) level (own_attributes attributes) (list_of kids) s.clean;
        inside = inside_particle parent s.part.role found.1 (reasons_among s.part.role None (declares ++ outer) (level_inside s.part.role level) kids) s.inside;
      }

  -- ---- complex types

  pub complex_cases : HasTypes parent → is_named (codes "complexType") (Element name attributes declares at) ≡ true → IsComplex outer level attributes declares kids
  complex_cases has is =
      elim (by_either (codes "complexType") GlobalComplexType InnerComplexType (word_of (codes "complexType") name attributes declares at is) refl (complex_role parent has)) [
        | inl one ↦ record { role = GlobalComplexType; typed = tt; passes = one.passes; inside = one.inside }
        | inr one ↦ record { role = InnerComplexType; typed = tt; passes = one.passes; inside = one.inside }
      ]

  -- ---- simple types

  pub simple_cases : name.local ≡ codes "simpleType" → IsSimple outer level attributes declares kids
  simple_cases is =
      elim (by_either (codes "simpleType") GlobalSimpleType InnerSimpleType is refl (simple_role parent)) [
        | inl one ↦ record { role = GlobalSimpleType; varied = tt; passes = one.passes; inside = one.inside }
        | inr one ↦ record { role = InnerSimpleType; varied = tt; passes = one.passes; inside = one.inside }
      ]

  pub variety_cases : HasVariety parent → is_in Varieties (Element name attributes declares at) ≡ true → IsVariety outer level name attributes declares kids
  variety_cases has is =
      one_of (λ w. name.local ≡ w → IsVariety outer level name attributes declares kids) name.local (names_in Varieties) (member Varieties name attributes declares at is).1 (
        λ word. inl (word, by_word (codes "restriction") Restriction word refl (restriction_role parent has)),
        (λ word. inr (inl (word, by_word (codes "list") ListRole word refl (list_role parent has))), (λ word. inr (inr (word, by_word (codes "union") Union word refl (union_role parent has))), tt)),
      ) refl

  -- ---- attributes and simple content

  pub attribute_cases : name.local ≡ codes "attribute" → Inside GlobalAttribute outer level attributes declares kids ⊎ Inside LocalAttribute outer level attributes declares kids
  attribute_cases is = by_either (codes "attribute") GlobalAttribute LocalAttribute is refl (attribute_role parent)

  pub in_extension : name.local ≡ codes "extension" → Inside Extension outer level attributes declares kids
  in_extension is = by_word (codes "extension") Extension is refl (extension_role parent)

  pub in_content : name.local ≡ codes "simpleContent" → Inside SimpleContent outer level attributes declares kids
  in_content is = by_word (codes "simpleContent") SimpleContent is refl (content_role parent)
