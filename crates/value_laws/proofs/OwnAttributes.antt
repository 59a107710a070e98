-- The attributes of an element made of a value, with `xsi:nil` or without it: all that validity asks of them.
use Rattle.std.proofs.Common.{◌≡◌, ℕ, Bool, Option, None, List, map, sym, ap, subst, ◌∙◌}
use Rattle.std.specs.Prelude.{All}
use Rattle.base_texts.specs.declared.texts.Name.{Name}
use Rattle.schema_components.specs.declared.components.AttributeUse.{AttributeUse}
use Rattle.schema_components.specs.SetParts.{SetParts}
use Rattle.validity_rules.specs.Asked.{Attribute, space_at, attribute_in}
use Rattle.validity_rules.specs.Attributes.{Nil, bad_nil, nil_by, nil_of, xsi_type, xsi_nil, text_of, left, AllRight, AllStand, treated_attributes, with_nil}
use Rattle.validity_rules.proofs.Treated as treated
use Rattle.validity_rules.proofs.Treated.{IsPlain, declared_each, left_treated, left_again, nil_again, type_again, no_type, no_nil}
use Rattle.value_laws.proofs.Walking.{AllApart}
use Rattle.value_laws.proofs.Spelled.{AreSpelled}
use Rattle.value_laws.proofs.Treating.{treated-itself, stand-itself, right-own}

pub record OwnAttributes (nillable : Bool) (wanted : List Attribute) (n : Nil) (xs : List (Name × List ℕ)) : Type 0 where
  pub nil : nil_of nillable xs ≡ n
  pub same : with_nil n (treated_attributes wanted (left xs)) ≡ xs
  pub type : text_of xs xsi_type ≡ None
  pub right : AllRight wanted (left xs)
  pub stand : AllStand wanted (left xs)

pub own-attributes : (s : SetParts) (nillable : Bool) (ds : List AttributeUse) (xs : List (Name × List ℕ)) → AreSpelled (space_at s) ds xs → AllApart ds
    → All IsPlain (map (attribute_in s) ds) → treated.AllApart (map (attribute_in s) ds)
    → (n : Nil) (o : Option (List ℕ)) → nil_by nillable o ≡ n → (n ≡ bad_nil → ⊥) → OwnAttributes nillable (map (attribute_in s) ds) n (with_nil n xs)
own-attributes s nillable ds xs h apart plain others n o e f =
    let wanted = map (attribute_in s) ds in
    let t : treated_attributes wanted xs ≡ xs = treated-itself s ds xs h apart in
    let behind : left (with_nil n xs) ≡ xs = left_again n xs ∙ ap left (sym t) ∙ left_treated xs wanted plain ∙ t in
    record {
      nil = nil_again n nillable o xs e (subst (λ k. text_of k xsi_nil ≡ None) t (no_nil xs wanted plain)) f;
      same = ap (λ k. with_nil n (treated_attributes wanted k)) behind ∙ ap (with_nil n) t;
      type = type_again n xs (subst (λ k. text_of k xsi_type ≡ None) t (no_type xs wanted plain));
      right = subst (AllRight wanted) (sym behind) (right-own s wanted ds xs (declared_each wanted others) h);
      stand = subst (AllStand wanted) (sym behind) (stand-itself s ds xs h apart);
    }
