-- Whether documents are numbered from 1, found from one to the next.
use Rattle.std.proofs.Common.{◌≡◌, ◌∙◌, ℕ, ◌+◌, ◌<◌, ◌≤◌, List, length, map, Some, get_or, inl, inr, refl, sym, ap, subst, arith}
use Rattle.std.specs.Prelude.{slice_get, option_map}
use Rattle.std.proofs.lemmas.Bool.{cases_lt}
use Rattle.std.proofs.lemmas.List.{length-map}
use Rattle.std.proofs.lemmas.Option.{slice_get-map, slice_get_read, slice_get_within, get_or_from_slice_get}
use Rattle.schema_components.specs.Raw.{Document}
use Rattle.schema_components.specs.declared.documents.RawDoc.{RawDoc}
use Rattle.schema_components.specs.Documents.{doc_of}

-- those before this one have their numbers
abbrev pub NumberedBefore : List Document → ℕ → Type 0
NumberedBefore ds n = (k : ℕ) (d : Document) → k < n → slice_get ds k ≡ Some d → d.file ≡ k + 1

pub at_index : (docs : List RawDoc) (n : ℕ) (doc : RawDoc) → n < length docs → doc ≡ get_or docs n doc → slice_get (map doc_of docs) n ≡ Some (doc_of doc)
at_index docs n doc lt is = slice_get-map doc_of docs n ∙ ap (option_map doc_of) (slice_get_read docs (length docs) n doc refl lt is)

pub one_more : (ds : List Document) (n : ℕ) (one : Document) → slice_get ds n ≡ Some one → one.file ≡ n + 1 → NumberedBefore ds n → NumberedBefore ds (n + 1)
one_more ds n one at is before k d lt found = elim (cases_lt k n) [
  | inl below ↦ before k d below found
  | inr past ↦
      let same : k ≡ n = omega (arith, lt, past) in
      let here : slice_get ds n ≡ Some d = subst (λ i. slice_get ds i ≡ Some d) same found in
      let one_is : d ≡ one = sym (get_or_from_slice_get ds n d one here) ∙ get_or_from_slice_get ds n one one at in
      ap (λ (x : Document). x.file) one_is ∙ is ∙ ap (λ i. i + 1) (sym same)
]

pub all_of : (docs : List RawDoc) (n : ℕ) → length docs ≤ n → NumberedBefore (map doc_of docs) n → (k : ℕ) (d : Document)
    → slice_get (map doc_of docs) k ≡ Some d → d.file ≡ k + 1
all_of docs n end before k d found =
    let within = slice_get_within (map doc_of docs) k d found in
    let long = length-map docs doc_of in
    before k d (omega (arith, within, long, end)) found
