-- What is known of each type of a printable module.
use Rattle.std.proofs.Common.{◌≡◌, ℕ, zero, suc, ◌≤◌, ◌+◌, Bool, true, false, ◌||◌, Option, Some, None, List, [], ◌∷◌, length, refl, sym, ap, ap₂, subst, ◌∙◌, arith, Ok}
use Rattle.std.specs.Prelude.{All, slice_get, option_and_then, bytes_eq, codes}
use Rattle.std.specs.List.{Contains, list_any}
use Rattle.base_trees.specs.Rose.{Rose, node, Roses, none, more, label_of, length_all, height, Allowed, AllowedAll}
use Rattle.simple_types.specs.declared.labels.ValueLabel.{ValueLabel}
use Rattle.simple_types.specs.Reading.{reads, spelled, Holds}
use Rattle.asn_types.specs.declared.types.Component.{Component}
use Rattle.asn_types.specs.declared.types.TypeLabel.{TypeLabel}
use Rattle.asn_types.specs.declared.modules.Assignment.{Assignment}
use Rattle.asn_types.specs.Bounds.{HasBounds, AreBounded, AllBounded}
use Rattle.asn_types.specs.Modules.{IsWellFormed, AreWellFormed, AllWellFormed, IsSpellingOf, IsAssignment}
use Rattle.asn_types.specs.Parts.{parts_of, MayHave}
use Rattle.asn_types.specs.Refs.{target, body_at, next, follow, resolve}
use Rattle.asn_types.specs.Simples.{MapsTo}
use Rattle.asn_types.specs.Spaces.{space_at}
use Rattle.asn_types.proofs.SimpleLaws.{maps-seen}
use Rattle.asn_names.specs.ReservedWords.{reserved_words}
use Rattle.asn_names.proofs.Apart.{has-Contains}
use Rattle.module_text.specs.Names.{is_type_word}
use Rattle.module_text.specs.Plain.{limit}
use Rattle.module_text.specs.declared.spots.Spot.{Spot}
use Rattle.module_text.specs.declared.spots.Spot.TheVariants.{Elsewhere}
use Rattle.module_text.specs.Printable.{part_spot, IsPrintableType, ArePrintable, AllPrintable, IsPrintableAssignment, IsPrintable}
use Rattle.module_laws.proofs.Firsts.{same_bytes, mapped, all-at}
use Rattle.module_unique.specs.Alike.{HasOctets, AreOfOctets, AllAreOfOctets, IsOfOctets}
use Rattle.module_unique.proofs.Telling.{reading_told, value_told}
use Rattle.module_unique.proofs.Shapes.{shaped}
use Rattle.module_unique.proofs.Values.{Fine, AllFine, IsTold, is_told}

module _ (M : List Assignment) where
  pub record GoodAt (spot : Spot) (l : TypeLabel) (ts : Roses TypeLabel) : Type 0 where
    pub printable : IsPrintableType spot l
    pub well : IsWellFormed M l ts
    pub bounds : HasBounds l.form
    pub long : length_all ts ≡ length (parts_of l.form)
    pub octets : All (λ (part : Component). HasOctets part.standard) (parts_of l.form)

  abbrev mutual
    pub Good : Spot → Rose TypeLabel → Type 0
    Good spot (node l ts) = GoodAt spot l ts × AllGood spot l 0 (parts_of l.form) ts

    pub AllGood : Spot → TypeLabel → ℕ → List Component → Roses TypeLabel → Type 0
    AllGood spot l i parts none = Unit {0}
    AllGood spot l i parts (more t ts) =
        elim parts [
          | [] ↦ ⊥
          | part ∷ others ↦ Good (part_spot spot l i part) t × AllGood spot l (i + 1) others ts
        ]

  mutual
    good : (t : Rose TypeLabel) (spot : Spot) → ArePrintable spot t → AreWellFormed M t → AreBounded t → Allowed MayHave t → AreOfOctets t → Good spot t
    good (node l ts) spot p w b a o = (
      record { printable = p.0; well = w.0; bounds = b.0; long = a.0; octets = o.0 },
      all_good ts spot l 0 (parts_of l.form) a.0 p.1 w.1 b.1 a.1 o.1,
    )

    all_good : (ts : Roses TypeLabel) (spot : Spot) (l : TypeLabel) (i : ℕ) (parts : List Component) → length_all ts ≡ length parts
        → AllPrintable spot l i parts ts → AllWellFormed M ts → AllBounded ts → AllowedAll MayHave ts → AllAreOfOctets ts → AllGood spot l i parts ts
    all_good none spot l i parts long p w b a o = tt
    all_good (more t ts) spot l i [] long p w b a o = absurd (omega (arith, long))
    all_good (more t ts) spot l i (part ∷ parts) long p w b a o =
        (good t (part_spot spot l i part) p.0 w.0 b.0 a.0 o.0, all_good ts spot l (i + 1) parts (omega (arith, long)) p.1 w.1 b.1 a.1 o.1)

  mutual
    pub fine : (t : Rose TypeLabel) (spot : Spot) → Good spot t → Fine M t
    fine (node l ts) spot g = (
      record { names = g.0.printable.names; texts = g.0.printable.marks.texts; form = g.0.well.form; bounds = g.0.bounds },
      g.0.long,
      all_fine ts spot l 0 (parts_of l.form) g.1,
    )

    all_fine : (ts : Roses TypeLabel) (spot : Spot) (l : TypeLabel) (i : ℕ) (parts : List Component) → AllGood spot l i parts ts → AllFine M ts
    all_fine none spot l i parts g = tt
    all_fine (more t ts) spot l i [] g = absurd g
    all_fine (more t ts) spot l i (part ∷ parts) g = (fine t (part_spot spot l i part) g.0, all_fine ts spot l (i + 1) parts g.1)

  -- ---- bodies

  pub record GoodBody (a : Assignment) : Type 0 where
    pub printable : IsPrintableAssignment a
    pub good : Good Elsewhere a.body

  good_body : (a : Assignment) → IsPrintableAssignment a → IsAssignment M a → AreBounded a.body → AreOfOctets a.body → GoodBody a
  good_body a p w b o = record { printable = p; good = good a.body Elsewhere p.types w.types b w.allowed o }

  pub bodies : IsPrintable M → IsOfOctets M → All GoodBody M
  bodies is o k d lt = good_body _ (is.assignments k d lt) (is.sound.assignments k d lt) (is.bounded k d lt) (o k d lt)

  -- ---- types that are found through references

  pub record Sits (t : Rose TypeLabel) : Type 0 where
    pub is : Fine M t
    pub low : height t ≤ limit

  pub next_at : (o : Option ℕ) (u : Rose TypeLabel) → All GoodBody M → option_and_then (body_at M) o ≡ Some u → Sits u
  next_at None u all e = absurd (cc)
  next_at (Some k) u all e =
      let body = mapped (λ (a : Assignment). a.body) (slice_get M k) u e in
      let known = all-at GoodBody M k body.0 all body.1 in
      let here : Sits body.0.body = record { is = fine body.0.body Elsewhere known.good; low = known.printable.depth } in
      subst Sits body.2 here

  followed : (n : ℕ) (t : Rose TypeLabel) → All GoodBody M → Sits t → Sits (follow M n t)
  unfolding follow
  followed zero t all sits = sits
  followed (suc n) t all sits = by (next M t) refl (λ u there. followed n u all there)
    where
      by : (o : Option (Rose TypeLabel)) → next M t ≡ o → ((u : Rose TypeLabel) → Sits u → Sits (follow M n u)) → Sits (elim o [ None ↦ t | Some u ↦ follow M n u ])
      by None e rest = sits
      by (Some u) e rest = rest u (next_at (target (label_of t).form) u all e)

  pub resolved : (t : Rose TypeLabel) → All GoodBody M → Sits t → Sits (resolve M t)
  resolved t all sits = followed 4 t all sits

  -- ---- default and fixed values

  pub record DefaultTold (t : Rose TypeLabel) (text : List ℕ) : Type 0 where
    pub value : Rose ValueLabel
    pub reading : reading_told (resolve M t) text (reads (space_at (resolve M t)) text) ≡ value_told (resolve M t) value
    pub told : IsTold M (resolve M t) value text

  pub default_is : (t : Rose TypeLabel) (text : List ℕ) → Fine M (resolve M t) → IsSpellingOf M t text → DefaultTold t text
  default_is t text is known =
      let s = known.0 in
      let v = known.1 in
      let maps : MapsTo s (resolve M t) = known.3 in
      let holds : Holds s v = known.4 in
      let same : spelled s v ≡ text = known.5 in
      let read : reads (space_at (resolve M t)) text ≡ Ok v = ap (λ space. reads space text) (sym (maps-seen s (resolve M t) maps)) ∙ ap (reads s) (sym same) ∙ holds in
      record {
        value = v;
        reading = ap (reading_told (resolve M t) text) read;
        told = subst (IsTold M (resolve M t) v) same (is_told M s (resolve M t) v maps is (shaped s (spelled s v) v holds));
      }

-- ---- the words that are types by themselves are reserved

has_boolean : list_any (bytes_eq (codes "BOOLEAN")) reserved_words ≡ true
unfolding reserved_words
has_boolean = refl

has_integer : list_any (bytes_eq (codes "INTEGER")) reserved_words ≡ true
unfolding reserved_words
has_integer = refl

has_utf8 : list_any (bytes_eq (codes "UTF8String")) reserved_words ≡ true
unfolding reserved_words
has_utf8 = refl

no_word : (name word : List ℕ) → list_any (bytes_eq word) reserved_words ≡ true → (Contains reserved_words name → ⊥) → bytes_eq name word ≡ false
no_word name word has free = by (bytes_eq name word) refl
  where
    by : (same : Bool) → bytes_eq name word ≡ same → same ≡ false
    by false e = refl
    by true e = absurd (free (subst (Contains reserved_words) (sym (same_bytes name word e)) (has-Contains word reserved_words has)))

pub no_type_word : (name : List ℕ) → (Contains reserved_words name → ⊥) → is_type_word name ≡ false
no_type_word name free =
    ap₂ (λ a b. a || b || bytes_eq name (codes "UTF8String")) (no_word name (codes "BOOLEAN") has_boolean free) (no_word name (codes "INTEGER") has_integer free)
    ∙ no_word name (codes "UTF8String") has_utf8 free
