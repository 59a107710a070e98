-- The rule of a node, by the form of its type.
use Rattle.std.proofs.Common.{◌≡◌, ℕ, Bool, true, false, ◌||◌, Option, List, sym, ap, ◌∙◌, subst, refl}
use Rattle.std.specs.Prelude.{◌↔◌, MatchBool}
use Rattle.base_trees.specs.Rose.{Rose, node, label_of}
use Rattle.simple_types.specs.declared.labels.ValueLabel.{ValueLabel}
use Rattle.asn_types.specs.declared.types.Component.{Component}
use Rattle.asn_types.specs.declared.types.Form.TheVariants as form
use Rattle.asn_types.specs.declared.types.TypeLabel.{TypeLabel}
use Rattle.asn_types.specs.declared.modules.Assignment.{Assignment}
use Rattle.asn_types.specs.Marks.{has_embed_values, has_list, has_use_order, has_use_union}
use Rattle.asn_types.specs.Modules.{AreWellFormed, IsChoice, IsSequence, IsSequenceOf, HasTexts}
use Rattle.asn_types.specs.Simples.{IsSimple}
use Rattle.asn_values.specs.Private.Judging.{HasTextsAndOrder}
use Rattle.asn_values.specs.Values as rule
use Rattle.asn_values.specs.Values.{IsTextOf, IsSpelled, OwnAt}

not_true : (b : Bool) → (b ≡ true → ⊥) → b ≡ false
not_true true h = absurd (h refl)
not_true false h = refl

second-true : (a b : Bool) → b ≡ true → (a || b) ≡ true
second-true true b h = refl
second-true false b h = h

module _ (M : List Assignment) where
  -- a type with LIST or USE-UNION stands for a simple type
  pub list-simple : (t : Rose TypeLabel) → AreWellFormed M t → has_list (label_of t).marks ≡ true → IsSimple t
  list-simple (node l ts) h marked = h.0.simple (ap (λ b. b || has_use_union l.marks) marked)

  pub union-simple : (t : Rose TypeLabel) → AreWellFormed M t → has_use_union (label_of t).marks ≡ true → IsSimple t
  union-simple (node l ts) h marked = h.0.simple (second-true (has_list l.marks) (has_use_union l.marks) marked)

  -- a node that is judged by its spelling alone
  spelled-own : (l : TypeLabel) (t : Rose TypeLabel) (v : Rose ValueLabel) → IsTextOf l.form l.marks (label_of v) → (has_list l.marks || has_use_union l.marks) ≡ true → has_embed_values l.marks ≡ false
      → has_use_order l.marks ≡ false → IsSpelled t v ↔ OwnAt M l t v
  spelled-own l t v text asks embeds orders = (
    (λ s. (
      text,
      subst (λ b. MatchBool b (IsSpelled t v) (Unit {0})) (sym asks) s,
      subst (λ b. MatchBool b (rule.HasTextCount M l t v) (Unit {0})) (sym embeds) tt,
      subst (λ b. MatchBool b (rule.HasOrder M l t v) (Unit {0})) (sym orders) tt,
    )),
    (λ own. subst (λ b. MatchBool b (IsSpelled t v) (Unit {0})) asks own.1),
  )

  pub list-own : (t : Rose TypeLabel) (v : Rose ValueLabel) (part : Component) (least : ℕ) (most : Option ℕ) → AreWellFormed M t → (label_of t).form ≡ form.SequenceOf part least most
      → has_list (label_of t).marks ≡ true → IsSpelled t v ↔ OwnAt M (label_of t) t v
  list-own (node l ts) v part least most h is marked =
      spelled-own l (node l ts) v (subst (λ f. IsTextOf f l.marks (label_of v)) (sym is) tt) (ap (λ b. b || has_use_union l.marks) marked)
      (not_true (has_embed_values l.marks) (λ e. subst (λ f. HasTexts f ts) is (h.0.embed_values e)))
      (not_true (has_use_order l.marks) (λ e. subst IsSequence is (h.0.use_order e).sequence))

  pub union-own : (t : Rose TypeLabel) (v : Rose ValueLabel) (parts : List Component) → AreWellFormed M t → (label_of t).form ≡ form.Choice parts → has_use_union (label_of t).marks ≡ true
      → IsSpelled t v ↔ OwnAt M (label_of t) t v
  union-own (node l ts) v parts h is marked =
      let lists = not_true (has_list l.marks) (λ e. subst IsSequenceOf is (h.0.list e)) in
      spelled-own l (node l ts) v (subst (λ f. IsTextOf f l.marks (label_of v)) (sym is) tt) (ap (λ b. b || has_use_union l.marks) lists ∙ marked)
      (not_true (has_embed_values l.marks) (λ e. subst (λ f. HasTexts f ts) is (h.0.embed_values e)))
      (not_true (has_use_order l.marks) (λ e. subst IsSequence is (h.0.use_order e).sequence))

  -- a SEQUENCE has neither LIST nor USE-UNION, so its rules are those of its texts and of its order
  pub sequence-own : (t : Rose TypeLabel) (v : Rose ValueLabel) (parts : List Component) → AreWellFormed M t → (label_of t).form ≡ form.Sequence parts
      → HasTextsAndOrder M (label_of t) t v ↔ OwnAt M (label_of t) t v
  sequence-own (node l ts) v parts h is =
      let lists = not_true (has_list l.marks) (λ e. subst IsSequenceOf is (h.0.list e)) in
      let unions = not_true (has_use_union l.marks) (λ e. subst IsChoice is (h.0.use_union e)) in
      let asks : (has_list l.marks || has_use_union l.marks) ≡ false = ap (λ b. b || has_use_union l.marks) lists ∙ unions in (
        (λ both. (
          subst (λ f. IsTextOf f l.marks (label_of v)) (sym is) tt,
          subst (λ b. MatchBool b (IsSpelled (node l ts) v) (Unit {0})) (sym asks) tt,
          both.0,
          both.1,
        )),
        (λ own. (own.2, own.3)),
      )
