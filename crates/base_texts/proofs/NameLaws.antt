-- Laws of the comparisons of names, for maps and sets that have names as keys. Those of texts are std's laws of bytes:
-- `bytes_eq-Decides`, `exact_bytes` and `nat_list_cmp_total`.
use Rattle.std.proofs.Common.{◌≡◌, refl, sym, ap, ◌∙◌, true, Decides, ◌&&◌}
use Rattle.std.specs.Prelude.{bytes_eq}
use Rattle.std.specs.Cmp.{IsTotalOrder, first_so, second_so}
use Rattle.std.specs.Cmp.Lexicographic.{slice_cmp}
use Rattle.std.specs.Ordering.{nat_cmp}
use Rattle.std.proofs.lemmas.Cmp.{nat_list_cmp_total, on_total, then_total}
use Rattle.std.proofs.lemmas.Slice.Eq.{bytes_eq-Decides}
use Rattle.std.proofs.lemmas.Map.Lookups.{CmpEqualImpliesEq, exact_bytes, exact_pairs}
use Rattle.base_texts.specs.declared.texts.Name.{Name}
use Rattle.base_texts.specs.Names.{name_eq, name_cmp}

-- names of one namespace and one local name are the same
pub same_names : (a b : Name) → a.space ≡ b.space → a.local ≡ b.local → a ≡ b
same_names a b p q = λ i. record { space = p i; local = q i }

name_eq-itself : (a : Name) → name_eq a a ≡ true
name_eq-itself a = λ i. (bytes_eq-Decides a.space a.space).1 refl i && (bytes_eq-Decides a.local a.local).1 refl i

-- names are equal where they are the same, and only there
pub name_eq-Decides : (a b : Name) → Decides (name_eq a b) (a ≡ b)
name_eq-Decides a b =
    let spaces = bytes_eq a.space b.space in
    let locals = bytes_eq a.local b.local in (
      λ e. same_names a b ((bytes_eq-Decides a.space b.space).0 (first_so spaces locals e)) ((bytes_eq-Decides a.local b.local).0 (second_so spaces locals e)),
      λ e. ap (name_eq a) (sym e) ∙ name_eq-itself a,
    )

-- the order of names is total
pub name_cmp_total : IsTotalOrder name_cmp
name_cmp_total = then_total (on_total (λ (n : Name). n.space) nat_list_cmp_total) (on_total (λ (n : Name). n.local) nat_list_cmp_total)

-- names that the order doesn't tell apart are the same
pub exact_names : CmpEqualImpliesEq name_cmp
exact_names a b e =
    let same = exact_pairs (slice_cmp nat_cmp) (slice_cmp nat_cmp) exact_bytes exact_bytes (a.space, a.local) (b.space, b.local) e in
    same_names a b (ap (λ p. p.0) same) (ap (λ p. p.1) same)
