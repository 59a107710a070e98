-- At most 21 complex types stand in one another in a document without a fault of 64 levels of elements.
use Rattle.std.proofs.Common.{◌≡◌, ℕ, zero, suc, ◌+◌, ◌*◌, ◌≤◌, List, [], ◌∷◌, length, Option, Some, None, inl, inr, refl, sym, subst, arith, slice_get, IfSome, IsSomeAnd}
use Rattle.std.specs.List.{All}
use Rattle.std.proofs.lemmas.Option.{slice_get_read}
use Rattle.std.proofs.lemmas.List.Elements.{All-nil, All-cons}
use Rattle.schema_read.proofs.Words.{Name, levels_all, Rose, ParticleLabel, RawContent, Complex, Local, Reference, Own, leaves_of_model, leaves_of_models, local_name, Settings, element_with, Parts}
use Rattle.schema_components.specs.declared.declarations.RawContent.TheVariants as content
use Rattle.schema_components.specs.Raw as raw
use Rattle.schema_components.specs.Chains.{leaves_of_content, complex_in_kind, complex_in_element, complex_in_local, complex_in_type, HasComplex, IsJustIn, IsChain, BeginsShort, AreShort}
use Rattle.schema_read.proofs.Leaves.{leaves_of_group}
use Rattle.schema_read.proofs.Reading.{Around, own_of, of_parts, ContentBy}
use Rattle.schema_read.proofs.Points.{Every, every_append, every_as, Property, Points, Each}

module _ (all : List Local) where
  -- three times the number of types in a chain that begins with it
  abbrev Begins : ℕ → Complex → Type 0
  Begins most c = (ds : List Complex) → IsChain all (c ∷ ds) → 3 * length (c ∷ ds) ≤ most

  abbrev IfBegins : ℕ → Option Complex → Type 0
  IfBegins most None = Unit {0}
  IfBegins most (Some c) = Begins most c

  begins_more : (less most : ℕ) (c : Complex) → less ≤ most → Begins less c → Begins most c
  begins_more less most c le h ds chain = let k = h ds chain in omega (arith, le, k)

  if_begins_more : (less most : ℕ) (o : Option Complex) → less ≤ most → IfBegins less o → IfBegins most o
  if_begins_more less most None le h = tt
  if_begins_more less most (Some c) le h = begins_more less most c le h

  short_from : (most : ℕ) (o : Option Complex) → most ≤ 65 → IfBegins most o → IfSome o (BeginsShort all)
  short_from most None le h = tt
  short_from most (Some c) le h = λ ds chain. let k = h ds chain in omega (arith, le, k)

  -- the complex type of the declaration of each leaf
  abbrev LeafBegins : ℕ → ℕ × Name → Type 0
  LeafBegins most leaf = (d : Complex) → HasComplex all d leaf.0 → Begins most d

  abbrev LeavesBegin : ℕ → List (ℕ × Name) → Type 0
  LeavesBegin most leaves = Every (LeafBegins most) leaves

  leaves_more : (less most : ℕ) (xs : List (ℕ × Name)) → less ≤ most → LeavesBegin less xs → LeavesBegin most xs
  leaves_more less most xs le h = every_as (LeafBegins less) (LeavesBegin most) tt (λ x ys a b. ((λ d has. begins_more less most d le (a d has)), b)) xs h

  leaf_at : (most : ℕ) (xs : List (ℕ × Name)) → LeavesBegin most xs → (k : ℕ) (x : ℕ × Name) → slice_get xs k ≡ Some x → LeafBegins most x
  leaf_at most [] h k x is = absurd (cc)
  leaf_at most (y ∷ ys) h zero x is = let same : y ≡ x = cc in subst (LeafBegins most) same h.0
  leaf_at most (y ∷ ys) h (suc k) x is = leaf_at most ys h.1 k x is

  -- what stands in its content model begins with one type less
  begins_from : (most : ℕ) (c : Complex) → LeavesBegin most (leaves_of_content c.content) → Begins (most + 3) c
  begins_from most c h [] chain = omega arith
  begins_from most c h (d ∷ ds) chain =
      let just : IsJustIn all c d = chain.0 in
      let here = leaf_at most (leaves_of_content c.content) h just.0 just.1 (slice_get_read (leaves_of_content c.content) (length (leaves_of_content c.content)) just.0 just.1 refl just.2 (sym just.3)) in
      let k = here d just.4 ds chain.1 in
      omega (arith, k)

  -- ---- particles

  leaf_of_reference : (n most : ℕ) (name : Name) (at : ℕ) → slice_get all n ≡ Some (Reference name at) → LeafBegins most (n, name)
  leaf_of_reference n most name at is d has =
      let none : None ≡ Some d = subst (λ o. IsSomeAnd o (λ l. complex_in_local l ≡ Some d)) is has in
      absurd (cc)

  leaf_of_own : (n most : ℕ) (e : raw.Element) → slice_get all n ≡ Some (Own e) → IfBegins most (complex_in_kind e.kind) → LeafBegins most (n, e.name)
  leaf_of_own n most e is h d has =
      let some : complex_in_kind e.kind ≡ Some d = subst (λ o. IsSomeAnd o (λ l. complex_in_local l ≡ Some d)) is has in
      subst (IfBegins most) some h

  abbrev EachBegins : ℕ → List (Rose ParticleLabel) → Type 0
  EachBegins most ts = Every (λ t. LeavesBegin most (leaves_of_model t)) ts

  each_begins : (most : ℕ) (ts : List (Rose ParticleLabel)) → EachBegins most ts → LeavesBegin most (leaves_of_models ts)
  each_begins most ts h = every_as (λ t. LeavesBegin most (leaves_of_model t)) (λ l. LeavesBegin most (leaves_of_models l)) tt (λ t l a b. every_append (LeafBegins most) (leaves_of_model t) (leaves_of_models l) a b) ts h

  -- ---- contents

  content_begins : (most file at : ℕ) (ts : List (Rose ParticleLabel)) (written : RawContent) → ContentBy file at ts written → EachBegins most ts → LeavesBegin most (leaves_of_content written)
  content_begins most file at ts content.Empty by h = tt
  content_begins most file at ts (content.Simple base place) by h = tt
  content_begins most file at ts (content.ElementOnly model) by h = (subst (EachBegins most) by.0 h).0
  content_begins most file at ts (content.Mixed model) by h =
      elim by [ inl empty ↦ subst (λ m. LeavesBegin most (leaves_of_model m)) (sym empty.2) tt | inr is ↦ (subst (EachBegins most) is.0 h).0 ]

  abbrev pub short : Property
  short =
      record {
        base = λ around b. Unit {0};
        how = λ around at how. Unit {0};
        declared = λ around u. Unit {0};
        particle = λ around t. LeavesBegin around.room (leaves_of_model t);
        kind = λ around k. IfBegins around.room (complex_in_kind k);
        element = λ e. IfSome (complex_in_element e) (BeginsShort all);
        attribute = λ a. Unit {0};
        definition = λ d. IfSome (complex_in_type d) (BeginsShort all);
        local = λ l. IfSome (complex_in_local l) (BeginsShort all);
      }

  pub short_points : (said : Settings) → Points said all short
  short_points said =
      record {
        named = λ around reference. tt;
        restriction = λ s base fact h. tt;
        list = λ s base fact h. tt;
        union = λ s fact h. tt;
        simple = λ role s body_at how fact h. tt;
        reference_use = λ role s name fact. tt;
        declared_use = λ role s base is fact unnamed h. tt;
        named_kind = λ around reference. tt;
        simple_kind = λ around body h. tt;
        complex_kind = λ role s uses ts written is fact deep by u t.
            let c : Complex = record { at = s.at; uses = uses; content = written } in
            let room = levels_all s.kids + 0 in
            let le : room + 3 ≤ s.around.room = omega (arith, deep) in
            begins_more (room + 3) s.around.room c le (begins_from room c (content_begins room said.file s.at ts written by t));
        reference = λ role s name fact x. (tt, (leaf_of_reference s.n s.around.room name s.at x, tt));
        own_element = λ role s kind fact unnamed x h.
            let e : raw.Element = element_with (local_name said.target said.elements_qualified (own_of s)) (own_of s) s.at kind in
            let deep = fact.deep in
            let small = fact.fact.small in
            let room = levels_all s.kids + 2 in
            (short_from room (complex_in_kind kind) (omega (arith, deep, small)) h, (leaf_of_own s.n s.around.room e x (if_begins_more room s.around.room (complex_in_kind kind) deep h), tt));
        group = λ role s ts fact some h.
            subst (LeavesBegin s.around.room) (sym (leaves_of_group said.file s.at s.name.local (own_of s) ts)) (leaves_more (levels_all s.kids + 1) s.around.room (leaves_of_models ts) fact.deep (each_begins (levels_all s.kids + 1) ts h));
        element = λ s kind fact deep h.
            let small = fact.small in
            short_from (levels_all s.kids + 2) (complex_in_kind kind) (omega (arith, deep, small)) h;
        attribute = λ s fact h. tt;
        simple_type = λ s body fact h. tt;
        complex_type = λ s body fact small h. short_from s.around.room (Some body) small h;
      }

  every_all : {A : Type 0} (P : A → Type 0) (xs : List A) → Every P xs → All P xs
  every_all P xs h = every_as P (All P) (All-nil P) (λ x ys a b. All-cons P x ys a b) xs h

  pub short_parts : (around : Around) (p : Parts) → p.locals ≡ all → Each short around (of_parts p.elements p.attributes p.types p.locals) → AreShort p.elements p.types all
  short_parts around p same h =
      record {
        elements = every_all (λ e. IfSome (complex_in_element e) (BeginsShort all)) p.elements h.elements;
        types = every_all (λ d. IfSome (complex_in_type d) (BeginsShort all)) p.types h.types;
        locals = every_all (λ l. IfSome (complex_in_local l) (BeginsShort all)) all (subst (Every (λ l. IfSome (complex_in_local l) (BeginsShort all))) same h.locals);
      }
