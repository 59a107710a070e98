use Rattle.std.proofs.Common.{◌≡◌, ◌∙◌, ℕ, List, ◌⊎◌, inl, inr, refl, sym, ap, subst, rules}
use Rattle.std.specs.Prelude.{Option, Some, None, slice_get}
use Rattle.base_texts.specs.declared.texts.Name.{Name}
use Rattle.base_flat_trees.specs.Zips.{first_label}
use Rattle.xml_items.specs.declared.label.ItemLabel.TheVariants as label
use Rattle.xml_items.specs.declared.entries.ItemEntry.{ItemEntry}
use Rattle.xml_items.specs.declared.entries.ItemEntry.TheVariants as entry
use Rattle.xml_items.specs.declared.store.Store.{Store}
use Rattle.xml_items.specs.declared.store.Lists.{Lists}
use Rattle.xml_items.specs.Building.{name_at, with_lists, IsNamed}
use Rattle.xml_items.specs.Meaning.{StoreGrows, meaning, listed_in}
use Rattle.xml_items.proofs.Growth.{fit_zip-grown}
use Rattle.xml_items.proofs.Steps.{stays, relists, on_err}
use Rattle.xml_items.proofs.builder.ItemBuilder.set_lists.Goals as goal

-- the element of this name, with other lists
module _ (names same : List Name) (number at : ℕ) (attributes : List (Name × List ℕ)) (declares : List (List ℕ × List ℕ)) (e : same ≡ names) where
  alike : (name : Name) → name ≡ name_at names number → label.Element (name_at same number) attributes declares at ≡ label.Element name attributes declares at
  alike name named = ap (λ ns. label.Element (name_at ns number) attributes declares at) e ∙ ap (λ n. label.Element n attributes declares at) (sym named)

  listed_alike : (o : Option Lists) → IsNamed names number (listed_in names o at) → label.Element (name_at same number) attributes declares at ≡ with_lists attributes declares (listed_in names o at)
  listed_alike None h = alike (name_at names 0) h.1
  listed_alike (Some lists) h = alike (name_at names lists.name) h.1

named_alike : (s : Store) (same : List Name) (number at : ℕ) (k : ItemEntry) (attributes : List (Name × List ℕ)) (declares : List (List ℕ × List ℕ)) → ((x : ℕ) × (k ≡ entry.Element x at)) ⊎ ((x : ℕ) × (k ≡ entry.Listed x at))
    → same ≡ s.names.items → IsNamed s.names.items number (meaning s k) → label.Element (name_at same number) attributes declares at ≡ with_lists attributes declares (meaning s k)
named_alike s same number at k attributes declares is e h =
    let there = λ (l : ItemEntry) (f : k ≡ l). subst (λ (m : ItemEntry). IsNamed s.names.items number (meaning s m)) f h in
    let back = λ (l : ItemEntry) (f : k ≡ l). ap (λ (m : ItemEntry). with_lists attributes declares (meaning s m)) (sym f) in
    elim is [
      | inl p ↦ alike s.names.items same number at attributes declares e (name_at s.names.items p.0) (there (entry.Element p.0 at) p.1).1 ∙ back (entry.Element p.0 at) p.1
      | inr p ↦ listed_alike s.names.items same number at attributes declares e (slice_get s.lists.items p.0) (there (entry.Listed p.0 at) p.1) ∙ back (entry.Listed p.0 at) p.1
    ]

pub invariant_of-self : goal.invariant_of-self
invariant_of-self c =
    let g : StoreGrows c.self.inside.store c.keep_lists.new.self = search rules in
    fit_zip-grown c.self.inside.store c.keep_lists.new.self g c.self.inside.builder c.self.invariant

pub returns-in_err-kept-in-Element-clause-err : goal.returns-in_err-kept-in-Element-clause-err
returns-in_err-kept-in-Element-clause-err c =
    let g : StoreGrows c.self.inside.store c.keep_lists.new.self = search rules in
    on_err _ (stays c.self.inside.store c.keep_lists.new.self c.self.inside.builder c.self.inside.builder c.args.self.now c.self.view_is c.self.invariant g refl).is

pub invariant_of-self-in-Element : goal.invariant_of-self-in-Element
invariant_of-self-in-Element c =
    let g : StoreGrows c.self.inside.store c.keep_lists.new.self = search rules in
    let first : first_label c.self.inside.builder.above ≡ Some c.in-Some.kept.now = search rules in
    let named = subst (λ (k : ItemEntry). IsNamed c.self.inside.store.names.items c.name_number-name.result (meaning c.self.inside.store k)) c.in-Element.kept-is c.name_number-name.ensures in
    (relists c.self.inside.store c.keep_lists.new.self c.self.inside.builder c.relabel.new.self c.args.self.now c.in-Some.kept.now c.in_ok-kept-in-Element.kept c.args.attributes.items c.args.declares.items c.self.view_is c.self.invariant g first c.in_ok-kept-in-Element.ensures.fits
    (c.in_ok-kept-in-Element.ensures.meaning ∙ named_alike c.self.inside.store c.keep_lists.new.self.names.items c.name_number-name.result c.in-Element.at c.in-Some.kept.now c.args.attributes.items c.args.declares.items c.in-Element.is c.in_ok-kept-in-Element.ensures.names named) c.relabel.ensures.relabeled).fit

pub returns-in_ok-kept-in-Element-clause-ok : goal.returns-in_ok-kept-in-Element-clause-ok
returns-in_ok-kept-in-Element-clause-ok c =
    let g : StoreGrows c.self.inside.store c.keep_lists.new.self = search rules in
    let first : first_label c.self.inside.builder.above ≡ Some c.in-Some.kept.now = search rules in
    let named = subst (λ (k : ItemEntry). IsNamed c.self.inside.store.names.items c.name_number-name.result (meaning c.self.inside.store k)) c.in-Element.kept-is c.name_number-name.ensures in
    (relists c.self.inside.store c.keep_lists.new.self c.self.inside.builder c.relabel.new.self c.args.self.now c.in-Some.kept.now c.in_ok-kept-in-Element.kept c.args.attributes.items c.args.declares.items c.self.view_is c.self.invariant g first c.in_ok-kept-in-Element.ensures.fits
    (c.in_ok-kept-in-Element.ensures.meaning ∙ named_alike c.self.inside.store c.keep_lists.new.self.names.items c.name_number-name.result c.in-Element.at c.in-Some.kept.now c.args.attributes.items c.args.declares.items c.in-Element.is c.in_ok-kept-in-Element.ensures.names named) c.relabel.ensures.relabeled).is
