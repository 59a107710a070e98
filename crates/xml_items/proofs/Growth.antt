-- What is in a store keeps its number, so that entries go on saying the same.
use Rattle.std.proofs.Common.{◌≡◌, ℕ, ◌<◌, List, [], ◌∷◌, ◌++◌, length, map, get_or, refl, ap, ◌∙◌, sym, subst, arith, length-append}
use Rattle.std.specs.Prelude.{slice_get, Some, IfSome}
use Rattle.std.proofs.Math.Seq.{get_or-append_seam}
use Rattle.std.proofs.lemmas.List.{get_or_append_left}
use Rattle.std.proofs.lemmas.Option.{slice_get_within, get_or_from_slice_get, slice_get-get_or}
use Rattle.base_texts.specs.declared.texts.Name.{Name}
use Rattle.base_trees.specs.Rose.{Rose, node, Roses, none, more, roses_of, AllowedAll}
use Rattle.base_trees.proofs.Roses.{all_allowed-weaker}
use Rattle.base_flat_trees.specs.Zips.{Above, Zip}
use Rattle.xml_items.specs.declared.label.ItemLabel.TheVariants as label
use Rattle.xml_items.specs.declared.entries.ItemEntry.{ItemEntry}
use Rattle.xml_items.specs.declared.entries.ItemEntry.TheVariants.{Element, Listed, Span, Text}
use Rattle.xml_items.specs.declared.store.Store.{Store}
use Rattle.xml_items.specs.declared.store.Lists.{Lists}
use Rattle.xml_items.specs.Growing.{Grows}
use Rattle.xml_items.specs.Building.{name_in}
use Rattle.xml_items.specs.Meaning.{map_rose, map_roses, map_above, map_zip, meaning, listed_in, span_in, text_in, AreListed, LiesIn, Fits, FitTree, FitAll, FitAbove, FitZip, StoreGrows}

-- ---- lists

pub grows-same : {A : Type 0} (xs ys : List A) → ys ≡ xs → Grows xs ys
grows-same xs ys e = record { kept = λ k x h. ap (λ zs. slice_get zs k) e ∙ h }

pub grows-then : {A : Type 0} (xs ys zs : List A) → Grows xs ys → Grows ys zs → Grows xs zs
grows-then xs ys zs g h = record { kept = λ k x e. h.kept k x (g.kept k x e) }

pub grows-more : {A : Type 0} (xs others ys : List A) → ys ≡ xs ++ others → Grows xs ys
grows-more xs others ys e = record {
  kept = λ k x h.
      let within : k < length xs = slice_get_within xs k x h in
      let further : k < length (xs ++ others) = omega (arith, within, length-append xs others) in
      ap (λ zs. slice_get zs k) e ∙ slice_get-get_or (xs ++ others) k x further ∙ ap Some (get_or_append_left xs others x k within ∙ get_or_from_slice_get xs k x x h);
}

-- what was added last
pub last_got : {A : Type 0} (xs ys : List A) (x : A) (k : ℕ) → ys ≡ xs ++ x ∷ [] → k ≡ length xs → slice_get ys k ≡ Some x
last_got xs ys x k e f =
    let within : k < length (xs ++ x ∷ []) = omega (arith, f, length-append xs (x ∷ [])) in
    ap (λ zs. slice_get zs k) e ∙ slice_get-get_or (xs ++ x ∷ []) k x within ∙ ap (λ (n : ℕ). Some (get_or (xs ++ x ∷ []) n x)) f ∙ ap Some (get_or-append_seam xs x [] x)

got_within : {A : Type 0} (xs : List A) (k : ℕ) → k < length xs → (x : A) × (slice_get xs k ≡ Some x)
got_within [] k h = absurd (omega (arith, h))
got_within (x ∷ xs) k h = (get_or (x ∷ xs) k x, slice_get-get_or (x ∷ xs) k x h)

same_got : {A : Type 0} (xs ys : List A) (k : ℕ) → Grows xs ys → k < length xs → slice_get ys k ≡ slice_get xs k
same_got xs ys k g h = let p = got_within xs k h in g.kept k p.0 p.1 ∙ sym p.1

still_within : {A : Type 0} (xs ys : List A) (k : ℕ) → Grows xs ys → k < length xs → k < length ys
still_within xs ys k g h = let p = got_within xs k h in slice_get_within ys k p.0 (g.kept k p.0 p.1)

same_lists : (names longer : List Name) (xs ys : List Lists) (k at : ℕ) → Grows names longer → Grows xs ys → AreListed names xs k → (listed_in longer (slice_get ys k) at ≡ listed_in names (slice_get xs k) at) × AreListed longer ys k
same_lists names longer xs ys k at n g h =
    let p = got_within xs k h.0 in
    let those = p.0 in
    let named : those.name < length names = subst (λ o. IfSome o (λ (x : Lists). x.name < length names)) p.1 h.1 in
    let there : slice_get ys k ≡ Some those = g.kept k those p.1 in (
      ap (λ o. listed_in longer o at) there ∙ ap (λ o. label.Element (name_in o) those.attributes.items those.declares.items at) (same_got names longer those.name n named) ∙ sym (ap (λ o. listed_in names o at) p.1),
      (still_within xs ys k g h.0, subst (λ o. IfSome o (λ (x : Lists). x.name < length longer)) (sym there) (still_within names longer those.name n named)),
    )

-- ---- stores

pub store-same : (s : Store) → StoreGrows s s
store-same s = record { document = refl; names = grows-same s.names.items s.names.items refl; lists = grows-same s.lists.items s.lists.items refl; texts = grows-same s.texts.items s.texts.items refl }

module _ (s u : Store) (g : StoreGrows s u) where
  pub meaning-grown : (k : ItemEntry) → Fits s k → meaning u k ≡ meaning s k
  meaning-grown (Element name at) h = ap (λ n. label.Element (name_in n) [] [] at) (same_got s.names.items u.names.items name g.names h)
  meaning-grown (Listed lists at) h = (same_lists s.names.items u.names.items s.lists.items u.lists.items lists at g.names g.lists h).0
  meaning-grown (Span len at) h = ap (λ d. label.Text (span_in d at len) at) g.document
  meaning-grown (Text text at) h = ap (λ t. label.Text (text_in t) at) (same_got s.texts.items u.texts.items text g.texts h)

  pub fits-grown : (k : ItemEntry) → Fits s k → Fits u k
  fits-grown (Element name at) h = still_within s.names.items u.names.items name g.names h
  fits-grown (Listed lists at) h = (same_lists s.names.items u.names.items s.lists.items u.lists.items lists at g.names g.lists h).1
  fits-grown (Span len at) h = subst (λ d. LiesIn d at len) (sym g.document) h
  fits-grown (Text text at) h = still_within s.texts.items u.texts.items text g.texts h

  mutual
    tree-grown : (t : Rose ItemEntry) → FitTree s t → map_rose (meaning u) t ≡ map_rose (meaning s) t
    tree-grown (node k ts) h = ap (λ l. node l (map_roses (meaning u) ts)) (meaning-grown k h.0) ∙ ap (λ us. node (meaning s k) us) (roses-grown ts h.1)

    roses-grown : (ts : Roses ItemEntry) → AllowedAll (λ kept _. Fits s kept) ts → map_roses (meaning u) ts ≡ map_roses (meaning s) ts
    roses-grown none h = refl
    roses-grown (more t ts) h = ap (λ v. more v (map_roses (meaning u) ts)) (tree-grown t h.0) ∙ ap (λ us. more (map_rose (meaning s) t) us) (roses-grown ts h.1)

  trees-grown : (ts : List (Rose ItemEntry)) → FitAll s ts → map (map_rose (meaning u)) ts ≡ map (map_rose (meaning s)) ts
  trees-grown [] h = refl
  trees-grown (t ∷ ts) h = ap (λ v. v ∷ map (map_rose (meaning u)) ts) (tree-grown t h.0) ∙ ap (λ us. map_rose (meaning s) t ∷ us) (trees-grown ts h.1)

  above-grown : (up : List (Above ItemEntry)) → FitAbove s up → map (map_above (meaning u)) up ≡ map (map_above (meaning s)) up
  above-grown [] h = refl
  above-grown (a ∷ up) h =
      ap (λ l. record { label = l; before = map (map_rose (meaning u)) a.before } ∷ map (map_above (meaning u)) up) (meaning-grown a.label h.0)
      ∙ ap (λ ts. record { label = meaning s a.label; before = ts } ∷ map (map_above (meaning u)) up) (trees-grown a.before h.1.0)
      ∙ ap (λ vs. map_above (meaning s) a ∷ vs) (above-grown up h.1.1)

  pub zip-grown : (z : Zip ItemEntry) → FitZip s z → map_zip (meaning u) z ≡ map_zip (meaning s) z
  zip-grown z h =
      ap (λ vs. record { above = vs; kids = map (map_rose (meaning u)) z.kids }) (above-grown z.above h.above)
      ∙ ap (λ ts. record { above = map (map_above (meaning s)) z.above; kids = ts }) (trees-grown z.kids h.kids)

  fit_all-grown : (ts : List (Rose ItemEntry)) → FitAll s ts → FitAll u ts
  fit_all-grown ts h = all_allowed-weaker (λ kept _. Fits s kept) (λ kept _. Fits u kept) (λ k n f. fits-grown k f) (roses_of ts) h

  fit_above-grown : (up : List (Above ItemEntry)) → FitAbove s up → FitAbove u up
  fit_above-grown [] h = tt
  fit_above-grown (a ∷ up) h = (fits-grown a.label h.0, (fit_all-grown a.before h.1.0, fit_above-grown up h.1.1))

  pub fit_zip-grown : (z : Zip ItemEntry) → FitZip s z → FitZip u z
  fit_zip-grown z h = record { above = fit_above-grown z.above h.above; kids = fit_all-grown z.kids h.kids }
