-- Parts that are put down one behind the other.
use Rattle.std.proofs.Common.{◌≡◌, ℕ, Bool, true, false, List, [], ◌∷◌, ◌++◌, refl, sym, ◌∙◌, ap, subst, append_assoc, append-nil}
use Rattle.std.specs.Prelude.{Result, Ok, Err, MatchResult}
use Rattle.base_texts.specs.declared.texts.Name.{Name}
use Rattle.base_trees.specs.Rose.{Rose, node, roses_of}
use Rattle.base_flat_trees.specs.Zips.{Zip, opened, added, added_all, closed}
use Rattle.simple_types.specs.declared.labels.ValueLabel.{ValueLabel}
use Rattle.simple_types.specs.declared.labels.ValueLabel.TheVariants as value
use Rattle.value_builder.specs.Built.{Built, Stands, Puts, flagged, with_parts}
use Rattle.value_builder.proofs.Parts.{parts-none, parts-more, part-absent, part-present, items-more}
use Rattle.value_builder.proofs.Putting.{puts-both}
use Rattle.validity_rules.specs.Asked.{Asked}
use Rattle.validity_rules.specs.Attributes.{left}
use Rattle.xer_read.specs.Private.Putting.{PartsPut}
use Rattle.xer_read.specs.Private.Contents.{in_any_order, TextsMade, OrderMade, AttributesMade, Begins}

pub puts-as : (f g : Zip ValueLabel → Zip ValueLabel) (a b : Built) → ((z : Zip ValueLabel) → f z ≡ g z) → Puts f a b → Puts g a b
puts-as f g a b same h = record { most = h.most; stands = λ z s. subst (Stands b) (same z) (h.stands z s) }

-- a SEQUENCE with all its parts, which is closed
pub sequence-closed : (tf nf f rf : List Bool) (tv nv v rv : List (Rose ValueLabel)) (z : Zip ValueLabel)
    → closed (with_parts rf rv (with_parts f v (with_parts nf nv (with_parts tf tv (opened (value.Sequence []) z)))))
    ≡ added (node (value.Sequence (tf ++ (nf ++ (f ++ rf)))) (roses_of (tv ++ (nv ++ (v ++ rv))))) z
sequence-closed tf nf f rf tv nv v rv z =
    ap (λ fs. added (node (value.Sequence fs) (roses_of (((tv ++ nv) ++ v) ++ rv))) z) (four tf nf f rf)
    ∙ ap (λ vs. added (node (value.Sequence (tf ++ (nf ++ (f ++ rf)))) (roses_of vs)) z) (four tv nv v rv)
  where
    four : {A : Type 0} (a b c d : List A) → ((a ++ b) ++ c) ++ d ≡ a ++ (b ++ (c ++ d))
    four a b c d = append_assoc (a ++ b) c d ∙ append_assoc a b (c ++ d)

-- ---- parts

module _ (P : List Bool → List (Rose ValueLabel) → Type 0) where
  pub no-parts : (a : Built) → P [] [] → PartsPut P a a
  no-parts a p = record { flags = []; values = []; holds = p; puts = record { most = refl; stands = λ z s. subst (Stands a) (sym (parts-none z)) s } }

  pub one-part : (v : Rose ValueLabel) (a b c : Built) → Puts (flagged true) a b → Puts (added v) b c → P (true ∷ []) (v ∷ []) → PartsPut P a c
  one-part v a b c h k p = record {
    flags = true ∷ [];
    values = v ∷ [];
    holds = p;
    puts = puts-as (λ z. added v (flagged true z)) (with_parts (true ∷ []) (v ∷ [])) a c (part-present v) (puts-both (flagged true) (added v) a b c h k);
  }

  pub left-out : (a b : Built) → Puts (flagged false) a b → P (false ∷ []) [] → PartsPut P a b
  left-out a b h p = record { flags = false ∷ []; values = []; holds = p; puts = puts-as (flagged false) (with_parts (false ∷ []) []) a b part-absent h }

pub both-parts : (P Q R : List Bool → List (Rose ValueLabel) → Type 0) → ((f g : List Bool) (v w : List (Rose ValueLabel)) → P f v → Q g w → R (f ++ g) (v ++ w)) → (a b c : Built) → PartsPut P a b → PartsPut Q b c → PartsPut R a c
both-parts P Q R join a b c h k = record {
  flags = h.flags ++ k.flags;
  values = h.values ++ k.values;
  holds = join h.flags k.flags h.values k.values h.holds k.holds;
  puts = puts-as (λ z. with_parts k.flags k.values (with_parts h.flags h.values z)) (with_parts (h.flags ++ k.flags) (h.values ++ k.values)) a c (parts-more h.flags k.flags h.values k.values)
      (puts-both (with_parts h.flags h.values) (with_parts k.flags k.values) a b c h.puts k.puts);
}

-- ---- several nodes

added-none : (z : Zip ValueLabel) → added_all [] z ≡ z
added-none z = ap (λ ks. record { above = z.above; kids = ks }) (append-nil z.kids)

pub all-none : (a : Built) → Puts (added_all []) a a
all-none a = record { most = refl; stands = λ z s. subst (Stands a) (sym (added-none z)) s }

pub all-more : (vs : List (Rose ValueLabel)) (v : Rose ValueLabel) (a b c : Built) → Puts (added_all vs) a b → Puts (added v) b c → Puts (added_all (vs ++ v ∷ [])) a c
all-more vs v a b c h k = puts-as (λ z. added v (added_all vs z)) (added_all (vs ++ v ∷ [])) a c (items-more vs v) (puts-both (added_all vs) (added v) a b c h k)

pub all-both : (vs ws : List (Rose ValueLabel)) (a b c : Built) → Puts (added_all vs) a b → Puts (added_all ws) b c → Puts (added_all (vs ++ ws)) a c
all-both vs ws a b c h k =
    puts-as (λ z. added_all ws (added_all vs z)) (added_all (vs ++ ws)) a c (λ z. ap (λ ks. record { above = z.above; kids = ks }) (append_assoc z.kids vs ws)) (puts-both (added_all vs) (added_all ws) a b c h k)

-- ---- nodes that are closed

pub items-put : (l : ValueLabel) (vs : List (Rose ValueLabel)) (a b c d : Built) → Puts (opened l) a b → Puts (added_all vs) b c → Puts closed c d → Puts (added (node l (roses_of vs))) a d
items-put l vs a b c d h k m = record { most = m.most ∙ k.most ∙ h.most; stands = λ z s. m.stands (added_all vs (opened l z)) (k.stands (opened l z) (h.stands z s)) }

-- a value is that of a part
pub part-put : {X E : Type 0} (r : Result X E) (P : Rose ValueLabel → Type 0) (F : E → Type 0) (a b c : Built) → Puts (flagged true) a b
    → MatchResult r (λ _. (v : Rose ValueLabel) × P v × Puts (added v) b c) F → MatchResult r (λ _. (v : Rose ValueLabel) × P v × Puts (with_parts (true ∷ []) (v ∷ [])) a c) F
part-put (Ok x) P F a b c h (v, p, k) =
    (v, p, puts-as (λ z. added v (flagged true z)) (with_parts (true ∷ []) (v ∷ [])) a c (part-present v) (puts-both (flagged true) (added v) a b c h k))
part-put (Err e) P F a b c h k = k

pub begins-put : (a : Asked) (xs : List (Name × List ℕ)) (texts : List (Rose ValueLabel)) (numbers : List ℕ) (one two three four five : Built) → Puts (opened (value.Sequence [])) one two
    → PartsPut (TextsMade a.inside (node value.SequenceOf (roses_of texts))) two three → PartsPut (OrderMade (in_any_order a.inside) numbers) three four
    → PartsPut (AttributesMade a.attributes (left xs)) four five → Begins a xs texts numbers one five
begins-put a xs texts numbers one two three four five h k o m = record {
  text_flags = k.flags;
  text_values = k.values;
  order_flags = o.flags;
  order_values = o.values;
  flags = m.flags;
  values = m.values;
  texts_made = k.holds;
  order_made = o.holds;
  attributes_made = m.holds;
  puts = puts-both (λ z. with_parts o.flags o.values (with_parts k.flags k.values (opened (value.Sequence []) z))) (with_parts m.flags m.values) one four five
      (puts-both (λ z. with_parts k.flags k.values (opened (value.Sequence []) z)) (with_parts o.flags o.values) one three four
      (puts-both (opened (value.Sequence [])) (with_parts k.flags k.values) one two three h k.puts) o.puts) m.puts;
}
