-- The names of the types of the set of documents without a fault.
use Rattle.std.proofs.Common.{◌≡◌, ℕ, ◌+◌, ◌≤◌, arith, Bool, true, inl, inr, List, [], ◌∷◌, ◌++◌, length, map, Option, Some, None, refl, sym, ap, ◌∙◌, subst}
use Rattle.std.specs.Prelude.{IfSome}
use Rattle.std.specs.List.{flat_map, filter_map, cons_option, count_by, IsDistinct}
use Rattle.std.proofs.lemmas.Bool.{cases_Bool, true≢false}
use Rattle.base_texts.specs.declared.texts.Name.{Name}
use Rattle.base_texts.specs.Lists.{HasItem}
use Rattle.base_texts.specs.Names.{name_eq}
use Rattle.base_texts.proofs.NameLaws.{name_eq-Decides}
use Rattle.simple_types.specs.Space.{Space}
use Rattle.schema_components.specs.Declarable.{is_declarable}
use Rattle.schema_components.specs.Raw.{Document}
use Rattle.schema_components.specs.declared.components.SimpleDef.{SimpleDef}
use Rattle.schema_components.specs.declared.components.ComplexDef.{ComplexDef}
use Rattle.link_names.specs.Parts as what
use Rattle.link_names.specs.Parts.{What, Part, parts}
use Rattle.link_names.specs.Globals.{GlobalComponent, named_at, type_name}
use Rattle.link_names.specs.Order.{place}
use Rattle.link_names.specs.SimpleTypes as simple
use Rattle.link_names.specs.SimpleTypes.{SimpleDefinition, simple_types}
use Rattle.link_complex.specs.ComplexTypes as complex
use Rattle.link_complex.specs.ComplexTypes.{ComplexDefinition, complex_types}
use Rattle.link_set.specs.Builtins.{used_builtins}
use Rattle.link_set.specs.Numbering.{is_called}
use Rattle.link_set.specs.Ordered.{in_order}
use Rattle.link_set.specs.Sets as sets
use Rattle.link_set.specs.Sets.{NamedSpace, named_space, named_spaces, MadeType, made_type, made_types, made_before, space_of_made, space_of_builtin, simples, named_attribute}
use Rattle.link_set.specs.Written.{lists_of, complex_before}
use Rattle.link_schemas.proofs.DeclaredParts.{type_once, simple_declarable, complex_declarable}
use Rattle.link_schemas.proofs.GlobalLists.{as_type, by_documents}
use Rattle.link_schemas.proofs.InOrder.{sum_in_order, item_of_order}
use Rattle.link_schemas.proofs.Items.{as_number, in_mapped, of_mapped, in_either, count_more, count_mapped, count_flat, count_joined, no_count, sum_less, sums_joined}
use Rattle.link_schemas.proofs.Kept.{AreFaultless}
use Rattle.link_schemas.proofs.OnceNamed.{distinct_names}
use Rattle.link_schemas.proofs.TypedNumbers.{numbers}

either_way : (x y : Name) → name_eq x y ≡ name_eq y x
either_way x y = elim (cases_Bool (name_eq x y)) [
  | inl passes ↦ passes ∙ sym ((name_eq-Decides y x).1 (sym ((name_eq-Decides x y).0 passes)))
  | inr fails ↦ elim (cases_Bool (name_eq y x)) [
    | inl passes ↦ absurd (true≢false (sym ((name_eq-Decides x y).1 (sym ((name_eq-Decides y x).0 passes))) ∙ fails))
    | inr too ↦ fails ∙ sym too
  ]
]

pub count_names : {A : Type 0} (name : A → Option Name) (a : Name) (xs : List A) → count_by (name_eq a) (filter_map name xs) ≡ count_by (λ x. is_called (name x) a) xs
count_names name a [] = refl
count_names name a (x ∷ xs) = step (name x) refl (count_names name a xs)
  where
    step : (o : Option Name) → name x ≡ o → count_by (name_eq a) (filter_map name xs) ≡ count_by (λ y. is_called (name y) a) xs
        → count_by (name_eq a) (cons_option o (filter_map name xs)) ≡ count_by (λ y. is_called (name y) a) (x ∷ xs)
    step None e rest =
        let more = count_more (λ y. is_called (name y) a) x xs in
        let none : as_number (is_called (name x) a) ≡ 0 = ap (λ o. as_number (is_called o a)) e in
        omega (arith, rest, more, none)
    step (Some b) e rest =
        let more = count_more (λ y. is_called (name y) a) x xs in
        let front = count_more (name_eq a) b (filter_map name xs) in
        let one : as_number (is_called (name x) a) ≡ as_number (name_eq a b) = ap (λ o. as_number (is_called o a)) e ∙ ap as_number (either_way b a) in
        omega (arith, rest, more, front, one)

-- ---- definitions with their spaces

made_of : (t : MadeType) (ds : List SimpleDefinition) (spaces : List Space) → HasItem (made_types ds spaces) t → HasItem ds t.definition
made_of t [] spaces h = absurd h
made_of t (d ∷ ds) [] h = absurd h
made_of t (d ∷ ds) (s ∷ spaces) (inl same) = inl (ap (λ (m : MadeType). m.definition) same)
made_of t (d ∷ ds) (s ∷ spaces) (inr h) = inr (made_of t ds spaces h)

made_count : (p : SimpleDefinition → Bool) (ds : List SimpleDefinition) (spaces : List Space) → length spaces ≡ length ds
    → count_by (λ (t : MadeType). p t.definition) (made_types ds spaces) ≡ count_by p ds
made_count p [] spaces long = refl
made_count p (d ∷ ds) [] long = absurd (omega (arith, long))
made_count p (d ∷ ds) (s ∷ spaces) long =
    let a = count_more (λ (t : MadeType). p t.definition) (made_type d s) (made_types ds spaces) in
    let b = count_more p d ds in
    let rest = made_count p ds spaces (omega (arith, long)) in
    omega (arith, a, b, rest)

-- a name of a part is that of a global type, or none
names_of_part : (a : Name) (file at : ℕ) (w : What)
    → count_by (λ (d : SimpleDefinition). is_called d.name a) (simple.of_what file at w) + count_by (λ (c : ComplexDefinition). is_called c.name a) (complex.of_what file w)
    ≤ count_by (λ (g : GlobalComponent). name_eq a g.name) (named_at (type_name w) (place file at))
names_of_part a file at (what.SimpleDefinition None s) = omega arith
names_of_part a file at (what.SimpleDefinition (Some b) s) =
    let same : as_number (name_eq b a) ≡ as_number (name_eq a b) = ap as_number (either_way b a) in omega (arith, same)
names_of_part a file at (what.ComplexDefinition None c) = omega arith
names_of_part a file at (what.ComplexDefinition (Some b) c) =
    let same : as_number (name_eq b a) ≡ as_number (name_eq a b) = ap as_number (either_way b a) in omega (arith, same)
names_of_part a file at (what.GlobalElement e) = omega arith
names_of_part a file at (what.LocalElement e) = omega arith
names_of_part a file at (what.ElementReference name) = omega arith
names_of_part a file at (what.GlobalAttribute x) = omega arith
names_of_part a file at (what.AttributeUse u) = omega arith
names_of_part a file at (what.Particle l) = omega arith
names_of_part a file at (what.MixedGroup l) = omega arith
names_of_part a file at (what.TypeReference r name) = omega arith

if_named : (o : Option Name) → ((a : Name) → o ≡ Some a → is_declarable a ≡ true) → IfSome o (λ name. is_declarable name ≡ true)
if_named None f = tt
if_named (Some a) f = f a refl

module _ (docs : List Document) (h : AreFaultless docs) where
  both_once : (a : Name) → count_by (λ (d : SimpleDefinition). is_called d.name a) (simple_types docs) + count_by (λ (c : ComplexDefinition). is_called c.name a) (complex_types docs) ≤ 1
  both_once a =
      let ps = parts docs in
      let simple_named : SimpleDefinition → Bool = λ d. is_called d.name a in
      let complex_named : ComplexDefinition → Bool = λ c. is_called c.name a in
      let global_named : GlobalComponent → Bool = λ g. name_eq a g.name in
      let one = count_flat simple_named simple.of_part ps in
      let two = count_flat complex_named complex.of_part ps in
      let same : count_by complex_named (flat_map complex.of_part ps) ≡ count_by complex_named (complex_types docs) = ap (count_by complex_named) (by_documents complex.of_part docs) in
      let whole = count_flat global_named (as_type) ps in
      let sums = sums_joined (λ p. count_by simple_named (simple.of_part p)) (λ p. count_by complex_named (complex.of_part p)) ps in
      let less = sum_less (λ p. count_by simple_named (simple.of_part p) + count_by complex_named (complex.of_part p)) (λ p. count_by global_named (as_type p)) ps
      (λ p i. names_of_part a p.file p.at p.what) in
      let once = type_once docs h a in
      omega (arith, one, two, same, whole, sums, less, once)

  pub complexes_named : (c : ComplexDefinition) → HasItem (complex_types docs) c → IfSome c.name (λ name. is_declarable name ≡ true)
  complexes_named c i = if_named c.name (complex_declarable docs h c i)

module _ (docs : List Document) (h : AreFaultless docs) (spaces : List Space) (long : length spaces ≡ length (simple_types docs)) (ts : List SimpleDef)
    (named : named_spaces ts ≡ simples (simple_types docs) spaces (used_builtins (lists_of docs))) where
  simple_names : (a : Name) → count_by (λ (t : SimpleDef). is_called t.name a) ts ≡ count_by (λ (d : SimpleDefinition). is_called d.name a) (simple_types docs)
  simple_names a =
      let ds = simple_types docs in
      let used = used_builtins (lists_of docs) in
      let made = in_order made_before (made_types ds spaces) in
      let space_named : NamedSpace → Bool = λ n. is_called n.name a in
      let one = count_mapped space_named named_space ts in
      let two : count_by space_named (named_spaces ts) ≡ count_by space_named (simples ds spaces used) = ap (count_by space_named) named in
      let three = count_joined space_named (map space_of_made made) (map space_of_builtin used) in
      let four = count_mapped space_named space_of_made made in
      let five = no_count space_named (map space_of_builtin used) (λ x i. let r = of_mapped space_of_builtin used x i in ap space_named (sym r.2)) in
      let six = sum_in_order made_before (λ (t : MadeType). as_number (is_called t.definition.name a)) (made_types ds spaces) in
      let seven = made_count (λ (d : SimpleDefinition). is_called d.name a) ds spaces long in
      omega (arith, one, two, three, four, five, six, seven)

  complex_names : (a : Name) → count_by (λ (c : ComplexDef). is_called c.name a) (sets.complexes (numbers docs) docs (lists_of docs))
      ≡ count_by (λ (c : ComplexDefinition). is_called c.name a) (complex_types docs)
  complex_names a =
      let ns = numbers docs in
      let one = count_mapped (λ (c : ComplexDef). is_called c.name a) (sets.complex ns (named_attribute (sets.attributes ns (lists_of docs).attributes)) docs) (lists_of docs).complexes in
      let two = sum_in_order complex_before (λ (c : ComplexDefinition). as_number (is_called c.name a)) (complex_types docs) in
      omega (arith, one, two)

  pub types_apart : IsDistinct name_eq (filter_map (λ (t : SimpleDef). t.name) ts ++ filter_map (λ (c : ComplexDef). c.name) (sets.complexes (numbers docs) docs (lists_of docs)))
  types_apart =
      let ss = filter_map (λ (t : SimpleDef). t.name) ts in
      let cs = filter_map (λ (c : ComplexDef). c.name) (sets.complexes (numbers docs) docs (lists_of docs)) in
      distinct_names (ss ++ cs) (λ a.
      let joined = count_joined (name_eq a) ss cs in
      let one = count_names (λ (t : SimpleDef). t.name) a ts in
      let two = count_names (λ (c : ComplexDef). c.name) a (sets.complexes (numbers docs) docs (lists_of docs)) in
      let three = simple_names a in
      let four = complex_names a in
      let once = both_once docs h a in
      omega (arith, joined, one, two, three, four, once))

  -- ---- names that may be declared

  space_named : (n : NamedSpace) → HasItem (simples (simple_types docs) spaces (used_builtins (lists_of docs))) n → (a : Name) → n.name ≡ Some a → is_declarable a ≡ true
  space_named n i a e =
      let ds = simple_types docs in
      let made = in_order made_before (made_types ds spaces) in
      elim (in_either (map space_of_made made) (map space_of_builtin (used_builtins (lists_of docs))) n i) [
        | inl j ↦
            let r = of_mapped space_of_made made n j in
            simple_declarable docs h r.0.definition (made_of r.0 ds spaces (item_of_order made_before (made_types ds spaces) r.0 r.1)) a (ap (λ (x : NamedSpace). x.name) r.2 ∙ e)
        | inr j ↦
            let r = of_mapped space_of_builtin (used_builtins (lists_of docs)) n j in
            let no : None ≡ Some a = ap (λ (x : NamedSpace). x.name) r.2 ∙ e in absurd cc
      ]

  pub simples_named : (t : SimpleDef) → HasItem ts t → IfSome t.name (λ name. is_declarable name ≡ true)
  simples_named t i = if_named t.name (space_named (named_space t) (subst (λ ns. HasItem ns (named_space t)) named (in_mapped named_space ts t i)))
