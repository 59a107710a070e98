-- Global attributes by their names: of each name, the first.
use Rattle.std.proofs.Common.{◌≡◌, ℕ, zero, suc, ◌-◌, ◌<◌, ◌≤◌, arith, Bool, true, false, List, [], ◌∷◌, length, drop, get_or, map, Option, Some, refl, sym, ap, ◌∙◌, Bor}
use Rattle.std.specs.Prelude.{cond}
use Rattle.std.specs.BTreeMap as tree
use Rattle.std.specs.BTreeMap.{BTreeMap, get_by}
use Rattle.std.specs.Option.{option_map}
use Rattle.std.specs.Ordering.{is_eq}
use Rattle.base_texts.specs.declared.texts.Name.{Name}
use Rattle.base_texts.specs.Names.{name_eq, name_cmp}
use Rattle.schema_components.specs.declared.components.GlobalAttribute.{GlobalAttribute}
use Rattle.link_names.proofs.Placing.{name_test, cut}
use Rattle.link_set.specs.Numbering.{ComponentNumbers}
use Rattle.link_set.specs.Private.Seen.{attributes_of}
use Rattle.link_set.specs.Private.Told.{attribute_in}
use Rattle.link_set.specs.Sets.{attributes, written_name, named_attribute}
use Rattle.link_set.specs.Written as written
use Rattle.link_set.specs.declared.written.WrittenAttribute.{WrittenAttribute}

-- those that are made have the names that were written
pub same_names : (ns : ComponentNumbers) (ws : List written.WrittenAttribute) → map (λ (g : GlobalAttribute). g.name) (attributes ns ws) ≡ map written_name ws
same_names ns [] = refl
same_names ns (w ∷ ws) = ap (λ names. w.attribute.name ∷ names) (same_names ns ws)

pub same_name : (ws : List WrittenAttribute) (gs : List GlobalAttribute) (i : ℕ) (w : WrittenAttribute) (g : GlobalAttribute)
    → map (λ (x : GlobalAttribute). x.name) gs ≡ map written_name (attributes_of ws) → i < length gs → w ≡ get_or ws i w → g ≡ get_or gs i g
    → w.attribute.now.name ≡ g.name
same_name ws [] i w g same lt w_is g_is = absurd (omega (arith, lt))
same_name [] (h ∷ hs) i w g same lt w_is g_is = absurd (cc)
same_name (v ∷ ws) (h ∷ hs) zero w g same lt w_is g_is =
    let first : h.name ≡ v.attribute.now.name = cc in
    ap (λ (x : WrittenAttribute). x.attribute.now.name) w_is ∙ sym first ∙ ap (λ (x : GlobalAttribute). x.name) (sym g_is)
same_name (v ∷ ws) (h ∷ hs) (suc i) w g same lt w_is g_is =
    let rest : map (λ (x : GlobalAttribute). x.name) hs ≡ map written_name (attributes_of ws) = cc in
    same_name ws hs i w g rest (omega (arith, lt)) w_is g_is

-- one more in the table
through : (b : Bool) (g : Bor GlobalAttribute) (o : Option (Bor GlobalAttribute))
    → option_map (λ (x : Bor GlobalAttribute). x.now) (cond b (Some g) o) ≡ cond b (Some g.now) (option_map (λ (x : Bor GlobalAttribute). x.now) o)
through true g o = refl
through false g o = refl

pub put_attribute : (old new : BTreeMap (Bor Name) (Bor GlobalAttribute)) (k : Bor Name) (g : Bor GlobalAttribute)
    → tree.Updates (λ x y. name_cmp x.now y.now) old new k (Some g) → (a : Name) → attribute_in new a ≡ cond (name_eq k.now a) (Some g.now) (attribute_in old a)
put_attribute old new k g up a =
    let q : Bor Name = record { ref_ptr = (0, 0); now = a } in
    let found : BTreeMap (Bor Name) (Bor GlobalAttribute) → Option (Bor GlobalAttribute) = λ table. get_by (λ (x : Bor Name). name_cmp a x.now) table in
    let at : found new ≡ cond (is_eq (name_cmp k.now a)) (Some g) (found old) = up.0 q in
    ap (option_map (λ (x : Bor GlobalAttribute). x.now)) at ∙ through (is_eq (name_cmp k.now a)) g (found old)
    ∙ ap (λ b. cond b (Some g.now) (attribute_in old a)) (name_test k.now a)

pub one_more : (gs : List GlobalAttribute) (i : ℕ) (g : GlobalAttribute) → 0 < i → i ≤ length gs → g ≡ get_or gs (i - 1) g
    → (old new : BTreeMap (Bor Name) (Bor GlobalAttribute)) (n : Name) → n ≡ g.name → ((a : Name) → attribute_in old a ≡ named_attribute (drop i gs) a)
    → ((a : Name) → attribute_in new a ≡ cond (name_eq n a) (Some g) (attribute_in old a))
    → (a : Name) → attribute_in new a ≡ named_attribute (drop (i - 1) gs) a
one_more gs i g lt le is old new n own so_far up a =
    up a ∙ ap (λ m. cond (name_eq m a) (Some g) (attribute_in old a)) own ∙ ap (cond (name_eq g.name a) (Some g)) (so_far a)
    ∙ ap (λ xs. named_attribute xs a) (sym (cut gs i g lt le is))
