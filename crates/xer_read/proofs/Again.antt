-- A value is read back from its items.
use Rattle.std.proofs.Common.{◌≡◌, ℕ, ◌<◌, ◌⊎◌, inl, inr, List, Some, refl, sym, ap, subst, ◌∙◌, arith}
use Rattle.std.specs.Prelude.{Result, Ok, Err}
use Rattle.base_trees.specs.Rose.{Rose, node_count}
use Rattle.simple_types.specs.declared.labels.ValueLabel.{ValueLabel}
use Rattle.xml_items.specs.declared.label.ItemLabel.{ItemLabel}
use Rattle.xml_items.specs.Plain.{plain_of}
use Rattle.schema_components.specs.Components.{Set}
use Rattle.schema_components.specs.Linked.{IsLinked}
use Rattle.schema_components.specs.SetParts.{parts_of}
use Rattle.asn_types.specs.declared.modules.Assignment.{Assignment}
use Rattle.asn_values.specs.Values.{In}
use Rattle.map_assignments.specs.Mapped.{IsMapOf, root_at}
use Rattle.xer_items.specs.Items.{Xer}
use Rattle.validity_rules.specs.Laws.{AtMostOne}
use Rattle.validity_rules.specs.Valid.{Valid}
use Rattle.schema_components.specs.Small.{AreSmall}
use Rattle.value_laws.specs.Statements.{ItemsOfValues, OneValue}
use Rattle.xer_read.specs.declared.error.ReadError.{ReadError}
use Rattle.xer_read.specs.declared.error.ReadError.TheVariants.{Invalid, TooManyNodes, Memory}
use Rattle.xer_read.specs.Answers.{IsValueOf, IsAnswer, ReadBack}

module _ (at_most : AtMostOne) (own : ItemsOfValues) (one : OneValue) (s : Set) (M : List Assignment) (linked : IsLinked s) (small : AreSmall s) (is_map : IsMapOf s M) (d : ℕ) (below : d < s.globals)
    (v : Rose ValueLabel) (is_in : In M (root_at s M is_map d) v) (items : Rose ItemLabel) (xer : Xer M (root_at s M is_map d) v ≡ Some (plain_of items))
  where
    valid : Valid (parts_of s) d items (plain_of items)
    valid =
        let (b, is, each) = own s M linked small is_map d below v is_in.0 in
        let same : b ≡ plain_of items = let e : Some b ≡ Some (plain_of items) = sym is ∙ xer in cc in
        subst (Valid (parts_of s) d items) same (each items (sym same))

    -- each value of these items is this one
    same-value : (w : Rose ValueLabel) → IsValueOf s d items M (root_at s M is_map d) w → w ≡ v
    same-value w (b, own_valid, fits, is) =
        let same : b ≡ plain_of items = (at_most s linked d items).1 b (plain_of items) own_valid valid in
        one s M linked small is_map d below w v fits is_in.0 (is ∙ ap (λ z. Some z) same ∙ sym xer)

    answered : (r : Result (Rose ValueLabel) ReadError) → IsAnswer s d items M (root_at s M is_map d) r → (r ≡ Ok v) ⊎ (r ≡ Err Memory)
    answered (Ok w) (value, few) = inl (ap (λ z. Ok z) (same-value w value))
    answered (Err (Invalid at why)) fault = absurd ((at_most s linked d items).0 (plain_of items) at why valid fault)
    answered (Err (TooManyNodes count)) (w, value, many, is) = absurd (let same = ap node_count (same-value w value) in let few = is_in.1 in omega (arith, same, few, many))
    answered (Err Memory) h = inr refl

pub read-back : AtMostOne → ItemsOfValues → OneValue → ReadBack
read-back at_most own one s M linked small is_map d below v is_in items xer r h = answered at_most own one s M linked small is_map d below v is_in items xer r h
