use Rattle.std.proofs.Common.{◌≡◌, ℕ, List, sym, subst}
use Rattle.std.specs.Prelude.{IfOk, bytes_eq, position}
use Rattle.indexmap.specs.IndexMap.{get}
use Rattle.module_text.specs.declared.types.NumberedItem.{NumberedItem}
use Rattle.module_text.specs.declared.types.PlainName.{PlainName}
use Rattle.module_text.specs.declared.types.PlainPart.{PlainPart}
use Rattle.module_pieces.specs.Indexed.{place_in}
use Rattle.module_pieces.proofs.places.places_of.Goals as goal

pub returns-in-Numbers : goal.returns-in-Numbers
returns-in-Numbers c =
    subst (λ f. IfOk c.number_places.result (λ places. (r : List ℕ) → get bytes_eq places r ≡ place_in f r)) (sym c.in-Numbers.is)
    (subst (λ xs. IfOk c.number_places.result (λ places. (r : List ℕ) → get bytes_eq places r ≡ position (λ (i : NumberedItem). bytes_eq i.identifier.name r) xs))
    c.items.ensures c.number_places.ensures)

pub returns-in-Words : goal.returns-in-Words
returns-in-Words c =
    subst (λ f. IfOk c.word_places.result (λ places. (r : List ℕ) → get bytes_eq places r ≡ place_in f r)) (sym c.in-Words.is)
    (subst (λ xs. IfOk c.word_places.result (λ places. (r : List ℕ) → get bytes_eq places r ≡ position (λ (i : PlainName). bytes_eq i.name r) xs))
    c.items-in-Words.ensures c.word_places.ensures)

pub returns-in-Choice : goal.returns-in-Choice
returns-in-Choice c =
    subst (λ f. IfOk c.part_places.result (λ places. (r : List ℕ) → get bytes_eq places r ≡ place_in f r)) (sym c.in-Choice.is)
    (subst (λ xs. IfOk c.part_places.result (λ places. (r : List ℕ) → get bytes_eq places r ≡ position (λ (p : PlainPart). bytes_eq p.identifier r) xs))
    c.items-in-Choice.ensures c.part_places.ensures)
