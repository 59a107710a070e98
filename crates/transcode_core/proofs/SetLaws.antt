-- The documents of the files, and the set that they are.
use Rattle.std.proofs.Common.{◌≡◌, ℕ, zero, suc, ◌+◌, List, [], ◌∷◌, length, refl, sym, ap, ◌∙◌, arith, Option, Some, Ok}
use Rattle.std.specs.Prelude.{slice_get}
use Rattle.base_trees.specs.Rose.{Rose, label_of, kids_of}
use Rattle.xml_items.specs.declared.label.ItemLabel.{ItemLabel}
use Rattle.xml_items.specs.declared.label.ItemLabel.TheVariants.{Element, Text}
use Rattle.schema_components.specs.Raw.{Document}
use Rattle.schema_read.specs.Raw.{raw_by}
use Rattle.link_schemas.specs.Sets.{AreNumbered}
use Rattle.transcode_core.specs.Steps.{Schema, Schemas}

by_label : (k : ℕ) (label : ItemLabel) (kids : List (Rose ItemLabel)) → (raw_by k label kids).file ≡ k
by_label k (Element name attributes declares at) kids = refl
by_label k (Text text at) kids = refl

-- file k has the number k
of_file : (entries : Option (List (List ℕ × List ℕ))) (k : ℕ) (name : List ℕ) (document : Document) → Schema entries k name (Ok document) → document.file ≡ k
of_file entries k name document (bytes, loaded, (items, read, (u, faultless, is))) = ap (λ (d : Document). d.file) is ∙ by_label k (label_of items) (kids_of items)

none_at : (documents : List Document) (i : ℕ) (d : Document) → documents ≡ [] → slice_get documents i ≡ Some d → ⊥
none_at [] i d is at = cc
none_at (e ∷ es) i d is at = cc

file_from : (entries : Option (List (List ℕ × List ℕ))) (k : ℕ) (names : List (List ℕ)) (documents : List Document) → Schemas entries k names (Ok documents)
    → (i : ℕ) (d : Document) → slice_get documents i ≡ Some d → d.file ≡ k + i
file_from entries k [] documents is i d at = absurd (none_at documents i d is at)
file_from entries k (name ∷ names) documents (document, first, (others, rest, is)) zero d at =
    let e : Some document ≡ Some d = ap (λ l. slice_get l 0) (sym is) ∙ at in
    let same : document ≡ d = cc in
    let n : d.file ≡ k = ap (λ (x : Document). x.file) (sym same) ∙ of_file entries k name document first in
    omega (arith, n)
file_from entries k (name ∷ names) documents (document, first, (others, rest, is)) (suc i) d at =
    let e : slice_get others i ≡ Some d = ap (λ l. slice_get l (suc i)) (sym is) ∙ at in
    let n : d.file ≡ (k + 1) + i = file_from entries (k + 1) names others rest i d e in
    omega (arith, n)

-- the files are numbered in their order
pub are_numbered : (entries : Option (List (List ℕ × List ℕ))) (names : List (List ℕ)) (documents : List Document) → Schemas entries 1 names (Ok documents) → AreNumbered documents
are_numbered entries names documents sound i d at = let n : d.file ≡ 1 + i = file_from entries 1 names documents sound i d at in omega (arith, n)

-- there is one document for each file
pub as_many : (entries : Option (List (List ℕ × List ℕ))) (k : ℕ) (names : List (List ℕ)) (documents : List Document) → Schemas entries k names (Ok documents) → length documents ≡ length names
as_many entries k [] documents is = ap length is
as_many entries k (name ∷ names) documents (document, first, (others, rest, is)) = ap length is ∙ ap suc (as_many entries (k + 1) names others rest)
