-- Documents that are read, in which no pass finds a fault, have a linked set.
use Rattle.std.proofs.Common.{◌≡◌, Bool, true, false, List, [], ◌∷◌, map, All, Option, Some, refl, sym, ap, ◌∙◌, subst}
use Rattle.std.specs.Prelude.{if◌then◌else◌}
use Rattle.std.proofs.lemmas.List.{length-map}
use Rattle.std.proofs.lemmas.List.Elements.{All-nil, All-cons, All-head, All-tail, All-append, All-map}
use Rattle.base_texts.specs.Lists.{HasItem}
use Rattle.base_trees.specs.Rose.{Rose}
use Rattle.xml_items.specs.declared.label.ItemLabel.{ItemLabel}
use Rattle.simple_types.specs.declared.simples.Builtin.{Builtin}
use Rattle.simple_types.specs.Builtins.{builtin_space}
use Rattle.simple_types.specs.Seen.{space_of}
use Rattle.simple_types.specs.Sound.{Sound}
use Rattle.simple_types.specs.Space.{Space}
use Rattle.schema_components.specs.Components.{Set, components}
use Rattle.schema_components.specs.Linked.{IsLinked}
use Rattle.schema_components.specs.Raw.{Kind, NamedKind, SimpleKind, ComplexKind, Element, Local, Reference, Own, TypeDefinition, SimpleType, ComplexType, Document}
use Rattle.schema_components.specs.TypedUses.{InKind, InLocal, InType, InElements, InTypes, InLocals}
use Rattle.schema_components.specs.declared.components.SimpleDef.{SimpleDef}
use Rattle.schema_read.specs.Keeping.{Keeps}
use Rattle.schema_read.proofs.KeptDocument.{document_keeps}
use Rattle.link_names.specs.SimpleTypes.{SimpleDefinition, simple_types}
use Rattle.link_simple.specs.Making.{IsMaking}
use Rattle.link_simple.proofs.Existence.{some_making}
use Rattle.link_simple.proofs.Told.{are_told}
use Rattle.link_simple.proofs.Uniqueness.{not_circular}
use Rattle.link_simple.proofs.Varied.{documents_varied}
use Rattle.link_set.specs.Builtins.{used_builtins}
use Rattle.link_set.specs.Numbering.{numbers_in}
use Rattle.link_set.specs.Ordered.{inserted, in_order}
use Rattle.link_set.specs.Sets.{NamedSpace, named_space, named_spaces, parts_of, MadeType, made_type, made_types, made_before, space_of_made, space_of_builtin, simples, set_of}
use Rattle.link_set.specs.Written.{lists_of}
use Rattle.link_schemas.specs.Passes.{passes, ArePassed}
use Rattle.link_schemas.specs.Sets.{AreNumbered}
use Rattle.link_schemas.proofs.Kept as kept
use Rattle.link_schemas.proofs.LinkedSet.{faultless_of, set_of_linked}
use Rattle.map_laws.specs.Widths.{IsWide, HasWidths}
use Rattle.link_exists.specs.Reading.{IsReadAs, AreRead}
use Rattle.link_exists.proofs.Contents.{KeepsContents, all_whole, all_wide}
use Rattle.link_exists.proofs.Made.{builtin_good, all_made}
use Rattle.link_exists.proofs.Reading.{KindGood, LocalGood, TypeGood, ElementsGood, TypesGood, LocalsGood, IsGoodDocument, document_good}
use Rattle.link_exists.proofs.Restricting.{IsGood}
use Rattle.link_exists.proofs.Simples.{some_simple}

-- ---- what documents that are read keep

kind_typed : (k : Kind) → KindGood k → InKind k
kind_typed (NamedKind r) h = tt
kind_typed (SimpleKind s) h = tt
kind_typed (ComplexKind b) h = h.0

elements_typed : (es : List Element) → ElementsGood es → InElements es
elements_typed [] h = tt
elements_typed (e ∷ es) h = (kind_typed e.kind h.0, elements_typed es h.1)

type_typed : (t : TypeDefinition) → TypeGood t → InType t
type_typed (SimpleType name s) h = tt
type_typed (ComplexType name b) h = h.0

types_typed : (ts : List TypeDefinition) → TypesGood ts → InTypes ts
types_typed [] h = tt
types_typed (t ∷ ts) h = (type_typed t h.0, types_typed ts h.1)

local_typed : (l : Local) → LocalGood l → InLocal l
local_typed (Reference name at) h = tt
local_typed (Own e) h = kind_typed e.kind h

locals_typed : (ls : List Local) → LocalsGood ls → InLocals ls
locals_typed [] h = tt
locals_typed (l ∷ ls) h = (local_typed l h.0, locals_typed ls h.1)

keeps_too : (d : Document) → Keeps d → IsGoodDocument d → kept.Keeps d
keeps_too d k g = record {
  fitting = k.fitting;
  ascending = k.ascending;
  named = k.named;
  ordered = k.ordered;
  all_counted = k.all_counted;
  inward = k.inward;
  typed_uses = (elements_typed d.elements g.elements, types_typed d.types g.types, locals_typed d.locals g.locals);
  short = ∣ k.short ∣₁;
  coherent = ∣ k.coherent ∣₁;
}

read_keeps : (d : Document) (root : Rose ItemLabel) → IsReadAs d root → Keeps d × IsGoodDocument d
read_keeps d root h = subst (λ x. Keeps x × IsGoodDocument x) (sym h.raw) (document_keeps h.file root h.places h.schema h.sound h.shallow, document_good h.file root)

module _ (docs : List Document) (read : AreRead docs) where
  keeps : (d : Document) → HasItem docs d → Keeps d × IsGoodDocument d
  keeps d i = let r = read d i in read_keeps d r.0 r.1

  keeps_contents : (d : Document) → HasItem docs d → KeepsContents d
  keeps_contents d i =
      let k = keeps d i in
      record { elements_held = k.0.elements_held; types_held = k.0.types_held; locals_held = k.0.locals_held; good = k.1 }

-- ---- the simple types of a set

module _ (P : Space → Type 0) where
  abbrev OfMade : MadeType → Type 0
  OfMade t = P t.space

  abbrev OfNamed : NamedSpace → Type 0
  OfNamed t = P t.space

  made_all : (ds : List SimpleDefinition) (ss : List Space) → All P ss → All OfMade (made_types ds ss)
  made_all [] ss h = All-nil OfMade
  made_all (d ∷ ds) [] h = All-nil OfMade
  made_all (d ∷ ds) (s ∷ ss) h = All-cons OfMade (made_type d s) (made_types ds ss) (All-head P s ss h) (made_all ds ss (All-tail P s ss h))

  inserted_all : (t : MadeType) (ts : List MadeType) → OfMade t → All OfMade ts → All OfMade (inserted made_before t ts)
  inserted_all t [] one h = All-cons OfMade t [] one h
  inserted_all t (u ∷ us) one h = step (inserted_all t us one (All-tail OfMade u us h)) (made_before u t)
    where
      step : All OfMade (inserted made_before t us) → (b : Bool) → All OfMade (if b then u ∷ inserted made_before t us else t ∷ u ∷ us)
      step behind true = All-cons OfMade u (inserted made_before t us) (All-head OfMade u us h) behind
      step behind false = All-cons OfMade t (u ∷ us) one h

  in_order_all : (ts : List MadeType) → All OfMade ts → All OfMade (in_order made_before ts)
  in_order_all [] h = h
  in_order_all (t ∷ ts) h = inserted_all t (in_order made_before ts) (All-head OfMade t ts h) (in_order_all ts (All-tail OfMade t ts h))

  builtins_all : ((which : Builtin) → P (builtin_space which)) → (used : List Builtin) → All (λ which. OfNamed (space_of_builtin which)) used
  builtins_all each [] = All-nil (λ which. OfNamed (space_of_builtin which))
  builtins_all each (which ∷ used) = All-cons (λ w. OfNamed (space_of_builtin w)) which used (each which) (builtins_all each used)

  simples_all : ((which : Builtin) → P (builtin_space which)) → (ds : List SimpleDefinition) (ss : List Space) (used : List Builtin) → All P ss → All OfNamed (simples ds ss used)
  simples_all each ds ss used h =
      let made = in_order made_before (made_types ds ss) in
      All-append OfNamed (map space_of_made made) (map space_of_builtin used)
      (All-map OfNamed space_of_made made (in_order_all (made_types ds ss) (made_all ds ss h)))
      (All-map OfNamed space_of_builtin used (builtins_all each used))

-- simple types with these spaces
abbrev IsGoodNamed : NamedSpace → Type 0
IsGoodNamed t = IsGood t.space

abbrev IsGoodType : SimpleDef → Type 0
IsGoodType t = IsGood (space_of t.space)

some_simples : (ns : List NamedSpace) → All IsGoodNamed ns → (ts : List SimpleDef) × (named_spaces ts ≡ ns) × All IsGoodType ts
some_simples [] h = ([], refl, All-nil IsGoodType)
some_simples (n ∷ ns) h =
    let good = All-head IsGoodNamed n ns h in
    let x = some_simple n.space good.0 in
    let t : SimpleDef = record { name = n.name; space = x.0 } in
    let rest = some_simples ns (All-tail IsGoodNamed n ns h) in
    let same : named_space t ≡ n = λ i. record { name = n.name; space = x.1 i } in
    (t ∷ rest.0, ap (λ m. m ∷ named_spaces rest.0) same ∙ ap (λ l. n ∷ l) rest.1, All-cons IsGoodType t rest.0 (subst IsGood (sym x.1) good) rest.2)

all_weaker : {A : Type 0} (P Q : A → Type 0) → ((x : A) → P x → Q x) → (xs : List A) → All P xs → All Q xs
all_weaker P Q f [] h = All-nil Q
all_weaker P Q f (x ∷ xs) h = All-cons Q x xs (f x (All-head P x xs h)) (all_weaker P Q f xs (All-tail P x xs h))

-- ---- the set

each_of : (a b : List Space) → (let xs : List (Option Space) = map Some a in xs) ≡ map Some b → a ≡ b
each_of [] [] e = refl
each_of [] (y ∷ b) e = absurd (cc)
each_of (x ∷ a) [] e = absurd (cc)
each_of (x ∷ a) (y ∷ b) e =
    let heads : Some x ≡ Some y = cc in
    let tails : (let xs : List (Option Space) = map Some a in xs) ≡ map Some b = cc in
    let same : x ≡ y = cc in
    ap (λ z. z ∷ a) same ∙ ap (λ l. y ∷ l) (each_of a b tails)

module _ (docs : List Document) (read : AreRead docs) (passed : ArePassed docs passes) where
  good_spaces : (made : List (Option Space)) → IsMaking (simple_types docs) made → (spaces : List Space) × (made ≡ map Some spaces) × All IsGood spaces
  good_spaces made making =
      all_made (simple_types docs) made making (are_told docs passed.1.1.0) (documents_varied docs (λ d i. (keeps docs read d i).0.varied))
      (λ f no. passed.1.1.1.1.0 f no) (not_circular docs passed.1.1.1.0)

  -- all simple types are made
  pub some_spaces : (spaces : List Space) × IsMaking (simple_types docs) (map Some spaces)
  some_spaces =
      let made = some_making docs passed.1.1.1.0 in
      let all = good_spaces made.0 made.1 in
      (all.0, subst (IsMaking (simple_types docs)) all.1 made.1)

  -- the set with these spaces
  pub some_set : AreNumbered docs → (spaces : List Space) → IsMaking (simple_types docs) (map Some spaces) → (s : Set) × (parts_of s ≡ set_of docs spaces) × IsLinked s × HasWidths s
  some_set numbered spaces making =
      let parts = set_of docs spaces in
      let found = good_spaces (map Some spaces) making in
      let good : All IsGood spaces = subst (All IsGood) (sym (each_of spaces found.0 found.1)) found.2 in
      let ts = some_simples parts.simples (simples_all IsGood builtin_good (simple_types docs) spaces (used_builtins (lists_of docs)) good) in
      let s = components parts.elements parts.globals ts.0 parts.complexes parts.attributes in
      let is : parts_of s ≡ parts =
      λ i. record { elements = parts.elements; globals = parts.globals; simples = ts.1 i; complexes = parts.complexes; attributes = parts.attributes } in
      let contents = keeps_contents docs read in
      let h = faultless_of docs numbered (λ d i. let k = keeps docs read d i in keeps_too d k.0 k.1) passed in (
        s,
        is,
        set_of_linked docs h s spaces (sym (length-map spaces (λ x. Some x)) ∙ making.0) is
            (all_weaker IsGoodType (λ (t : SimpleDef). Sound (space_of t.space)) (λ t g. g.0) ts.0 ts.2) (all_whole docs contents (numbers_in (lists_of docs)) parts.simples),
        record {
          simples = all_weaker IsGoodType (λ (t : SimpleDef). IsWide (space_of t.space)) (λ t g. g.1) ts.0 ts.2;
          complexes = all_wide docs contents (numbers_in (lists_of docs)) parts.simples;
        },
      )
