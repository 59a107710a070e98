-- The steps of a builder.
use Rattle.std.proofs.Common.{◌≡◌, ℕ, ◌<◌, List, [], ◌∷◌, length, map, refl, ap, ◌∙◌, sym, subst, arith}
use Rattle.std.specs.Prelude.{Some, None, Result, Ok, Err, OnOk, OnErr}
use Rattle.base_texts.specs.declared.texts.Name.{Name}
use Rattle.base_trees.specs.Rose.{Rose, node, none, roses_of}
use Rattle.base_trees.proofs.Roses.{all_allowed-append, allowed-node}
use Rattle.base_flat_trees.specs.Zips.{Above, Zip, opened, added, closed, closed_in, relabeled, relabeled_in, first_label}
use Rattle.xml_items.specs.declared.label.ItemLabel.{ItemLabel}
use Rattle.xml_items.specs.declared.label.ItemLabel.TheVariants as label
use Rattle.xml_items.specs.declared.entries.ItemEntry.{ItemEntry}
use Rattle.xml_items.specs.declared.entries.ItemEntry.TheVariants as entry
use Rattle.xml_items.specs.Growing.{Grows}
use Rattle.xml_items.specs.declared.store.Store.{Store}
use Rattle.xml_items.specs.Building.{Building, name_at, with_lists, listed_in, listed}
use Rattle.xml_items.specs.Meaning.{map_rose, map_above, map_zip, meaning, Fits, FitTree, FitAll, FitAbove, FitZip, StoreGrows}
use Rattle.xml_items.proofs.Mapped.{added-map, closed-map}
use Rattle.xml_items.proofs.Growth.{meaning-grown, zip-grown, fit_zip-grown}

-- what a builder has after a step: its items, and that they fit
pub record Stands (s : Store) (z : Zip ItemEntry) (items : Zip ItemLabel) : Type 0 where
  pub is : map_zip (meaning s) z ≡ items
  pub fit : FitZip s z

module _ (s u : Store) (z new : Zip ItemEntry) (old : Building) (view : record { zip = map_zip (meaning s) z; names = s.names.items } ≡ old) (fit : FitZip s z) (g : StoreGrows s u) where
  zip_is : map_zip (meaning u) z ≡ old.zip
  zip_is = zip-grown s u g z fit ∙ ap (λ (b : Building). b.zip) view

  pub stays : new ≡ z → Stands u new old.zip
  stays e = record { is = ap (map_zip (meaning u)) e ∙ zip_is; fit = subst (FitZip u) (sym e) (fit_zip-grown s u g z fit) }

  pub opens : (k : ItemEntry) (l : ItemLabel) → Fits u k → meaning u k ≡ l → new ≡ opened k z → Stands u new (opened l old.zip)
  opens k l here says e =
      let f = fit_zip-grown s u g z fit in
      record {
        is = ap (map_zip (meaning u)) e ∙ ap (λ m. opened m (map_zip (meaning u) z)) says ∙ ap (opened l) zip_is;
        fit = subst (FitZip u) (sym e) (record { above = (here, (f.kids, f.above)); kids = tt });
      }

  pub adds : (k : ItemEntry) (l : ItemLabel) → Fits u k → meaning u k ≡ l → new ≡ added (node k none) z → Stands u new (added (node l none) old.zip)
  adds k l here says e =
      let f = fit_zip-grown s u g z fit in
      record {
        is = ap (map_zip (meaning u)) e ∙ added-map (meaning u) (node k none) z ∙ ap (λ m. added (node m none) (map_zip (meaning u) z)) says ∙ ap (added (node l none)) zip_is;
        fit = subst (FitZip u) (sym e) (record { above = f.above; kids = all_allowed-append (λ kept _. Fits u kept) z.kids (node k none ∷ []) f.kids ((here, tt), tt) });
      }

closes_in : (s : Store) (up : List (Above ItemEntry)) (ts : List (Rose ItemEntry)) → FitAbove s up → FitAll s ts → FitZip s (closed_in up ts)
closes_in s [] ts h f = record { above = tt; kids = f }
closes_in s (a ∷ up) ts h f = record {
  above = h.1.1;
  kids = all_allowed-append (λ kept _. Fits s kept) a.before (node a.label (roses_of ts) ∷ []) h.1.0 (allowed-node (λ kept _. Fits s kept) a.label ts h.0 f, tt);
}

pub closes : (s : Store) (z new : Zip ItemEntry) (old : Building) → record { zip = map_zip (meaning s) z; names = s.names.items } ≡ old → FitZip s z → new ≡ closed z → Stands s new (closed old.zip)
closes s z new old view fit e = record {
  is = ap (map_zip (meaning s)) e ∙ closed-map (meaning s) z ∙ ap (λ (b : Building). closed b.zip) view;
  fit = subst (FitZip s) (sym e) (closes_in s z.above z.kids fit.above fit.kids);
}

-- the label of the innermost open element
first-in : (s : Store) (up : List (Above ItemEntry)) → FitAbove s up → (k : ItemEntry) → first_label up ≡ Some k → (first_label (map (map_above (meaning s)) up) ≡ Some (meaning s k)) × Fits s k
first-in s [] h k e = absurd (cc)
first-in s (a ∷ up) h k e = let same : a.label ≡ k = cc in (ap (λ l. Some (meaning s l)) same, subst (Fits s) same h.0)

pub first_is : (s : Store) (z : Zip ItemEntry) (old : Building) → record { zip = map_zip (meaning s) z; names = s.names.items } ≡ old → FitZip s z → (k : ItemEntry) → first_label z.above ≡ Some k → (first_label old.zip.above ≡ Some (meaning s k)) × Fits s k
first_is s z old view fit k e =
    let p = first-in s z.above fit.above k e in
    (ap (λ (b : Building). first_label b.zip.above) (sym view) ∙ p.0, p.1)

first_none-in : (s : Store) (up : List (Above ItemEntry)) → first_label up ≡ None → first_label (map (map_above (meaning s)) up) ≡ None
first_none-in s [] e = refl
first_none-in s (a ∷ up) e = absurd (cc)

pub first_none : (s : Store) (z : Zip ItemEntry) (old : Building) → record { zip = map_zip (meaning s) z; names = s.names.items } ≡ old → first_label z.above ≡ None → first_label old.zip.above ≡ None
first_none s z old view e = ap (λ (b : Building). first_label b.zip.above) (sym view) ∙ first_none-in s z.above e

-- an element without lists
pub known_fits : (s : Store) (z : Zip ItemEntry) (old : Building) → record { zip = map_zip (meaning s) z; names = s.names.items } ≡ old → (k : ItemEntry) (n m at : ℕ) → k ≡ entry.Element n at → n ≡ m → m < length old.names
    → Fits s k × (meaning s k ≡ label.Element (name_at old.names m) [] [] at)
known_fits s z old view k n m at e f h =
    let same : s.names.items ≡ old.names = ap (λ (b : Building). b.names) view in
    let within : n < length s.names.items = omega (arith, h, f, ap length same) in (
      subst (Fits s) (sym e) within,
      ap (meaning s) e ∙ ap (λ (i : ℕ). label.Element (name_at s.names.items i) [] [] at) f ∙ ap (λ ns. label.Element (name_at ns m) [] [] at) same,
    )

pub names_grow : (s u : Store) (z : Zip ItemEntry) (old : Building) → record { zip = map_zip (meaning s) z; names = s.names.items } ≡ old → StoreGrows s u → Grows old.names u.names.items
names_grow s u z old view g = subst (λ ns. Grows ns u.names.items) (ap (λ (b : Building). b.names) view) g.names

-- other lists
relabeled-above : (u : Store) (before after : ItemEntry) (attributes : List (Name × List ℕ)) (declares : List (List ℕ × List ℕ)) (up : List (Above ItemEntry)) → first_label up ≡ Some before → meaning u after ≡ with_lists attributes declares (meaning u before)
    → map (map_above (meaning u)) (relabeled_in after up) ≡ listed_in attributes declares (map (map_above (meaning u)) up)
relabeled-above u before after attributes declares [] e says = absurd (cc)
relabeled-above u before after attributes declares (a ∷ up) e says =
    let same : a.label ≡ before = cc in
    ap (λ l. record { label = l; before = map (map_rose (meaning u)) a.before } ∷ map (map_above (meaning u)) up) (says ∙ ap (λ k. with_lists attributes declares (meaning u k)) (sym same))

relabeled-fit : (u : Store) (after : ItemEntry) (up : List (Above ItemEntry)) → Fits u after → FitAbove u up → FitAbove u (relabeled_in after up)
relabeled-fit u after [] h f = tt
relabeled-fit u after (a ∷ up) h f = (h, (f.1.0, f.1.1))

pub relists : (s u : Store) (z new : Zip ItemEntry) (old : Building) (before after : ItemEntry) (attributes : List (Name × List ℕ)) (declares : List (List ℕ × List ℕ)) → record { zip = map_zip (meaning s) z; names = s.names.items } ≡ old → FitZip s z → StoreGrows s u
    → first_label z.above ≡ Some before → Fits u after → meaning u after ≡ with_lists attributes declares (meaning s before) → new ≡ relabeled after z → Stands u new (listed attributes declares old.zip)
relists s u z new old before after attributes declares view fit g first here says is =
    let all = fit_zip-grown s u g z fit in
    let p = first_is s z old view fit before first in
    let grown = ap (with_lists attributes declares) (sym (meaning-grown s u g before p.1)) in
    record {
      is = ap (map_zip (meaning u)) is ∙ ap (λ up. record { above = up; kids = map (map_rose (meaning u)) z.kids }) (relabeled-above u before after attributes declares z.above first (says ∙ grown))
          ∙ ap (listed attributes declares) (zip-grown s u g z fit ∙ ap (λ (b : Building). b.zip) view);
      fit = subst (FitZip u) (sym is) (record { above = relabeled-fit u after z.above here all.above; kids = all.kids });
    }

-- the root
pub root_fits : (s : Store) (z : Zip ItemEntry) (t : Rose ItemEntry) → FitZip s z → z.kids ≡ t ∷ [] → FitTree s t
root_fits s z t fit e = (subst (FitAll s) e fit.kids).0

-- a call that is returned as it is
pub on_err : {T E P : Type 0} (r : Result T E) → P → OnErr r P
on_err (Ok x) p = tt
on_err (Err e) p = p

pub either_way : {T E P Q X : Type 0} (r : Result T E) → OnOk r P → OnErr r Q → (P → X) → (Q → X) → X
either_way (Ok x) p q f g = f p
either_way (Err e) p q f g = g q
