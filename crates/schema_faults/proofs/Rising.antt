-- The places of the nodes that are looked at ascend, since those of all nodes do.
use Rattle.std.proofs.Common.{ℕ, Bool, true, false, ◌+◌, ◌≤◌, List, [], ◌∷◌, ◌++◌, Option, None, sym, subst, arith, append_assoc}
use Rattle.std.proofs.lemmas.List.{append-nil}
use Rattle.base_trees.specs.Rose.{Rose, node, Roses, label_of, list_of}
use Rattle.base_trees.specs.Rose as rose
use Rattle.xml_items.specs.Labels.{item_place}
use Rattle.xml_read.specs.Tokens.{Token, Opens, Closes, Words, tokens, tokens_all, Ascend}
use Rattle.xml_items.specs.declared.label.ItemLabel.{ItemLabel}
use Rattle.xml_items.specs.declared.label.ItemLabel.TheVariants.{Element, Text}
use Rattle.schema_syntax.specs.Elements.{placement}
use Rattle.schema_faults.specs.Limits.{level_inside}
use Rattle.schema_faults.specs.Faults.{LookedAt, own_reason, unless_composition, placed_at, position_behind, is_schema, outside, reasons_of, reasons_at, reasons_among, reasons}
use Rattle.schema_syntax.specs.declared.roles.ElementRole.{ElementRole}
use Rattle.schema_syntax.specs.declared.roles.ElementRole.TheVariants.{Schema, Composition}
use Rattle.schema_syntax.specs.declared.roles.Position.{Position}
use Rattle.schema_syntax.specs.declared.elements.Placement.{Placement}
use Rattle.schema_syntax.specs.declared.elements.Placement.TheVariants.{Skipped, Refused, Placed}
use Rattle.schema_faults.proofs.Least.{Rising}

module _ (bound : ℕ) where
  weaker : (a b : ℕ) (ts : List Token) → a ≤ b → Ascend b bound ts → Ascend a bound ts
  weaker a b [] le h = tt
  weaker a b (Opens name attributes declares at ∷ ts) le h = (let k = h.0 in omega arith, h.1, h.2)
  weaker a b (Closes ∷ ts) le h = weaker a b ts le h
  weaker a b (Words text at ∷ ts) le h = (let k = h.0 in omega arith, h.1, h.2)

  -- what stands behind some tokens
  behind : (ts rest : List Token) (least : ℕ) → Ascend least bound (ts ++ rest) → Ascend least bound rest
  behind [] rest least h = h
  behind (Opens name attributes declares at ∷ ts) rest least h = weaker least (at + 2) rest (let k = h.0 in omega arith) (behind ts rest (at + 2) h.2)
  behind (Closes ∷ ts) rest least h = behind ts rest least h
  behind (Words text at ∷ ts) rest least h = weaker least (at + 1) rest (let k = h.0 in omega arith) (behind ts rest (at + 1) h.2)

  -- those that follow rise from wherever the tokens that follow ascend
  abbrev Follow : List Token → List LookedAt → Type 0
  Follow rest more = (least : ℕ) → Ascend least bound rest → Rising least more

  placed_rising : (at least : ℕ) (p : Placement) (inside : ElementRole → List LookedAt) (more : List LookedAt) → least ≤ at → Rising least more → Rising (at + 1) more
      → ((role : ElementRole) → Rising least (inside role ++ more)) → Rising least (placed_at at p inside ++ more)
  placed_rising at least Skipped inside more le here there each = here
  placed_rising at least (Refused why) inside more le here there each = (le, there)
  placed_rising at least (Placed part) inside more le here there each = each part.role

  inside_rising : (at : ℕ) (role : ElementRole) (inside more : List LookedAt) → Rising at more → Rising at (inside ++ more) → Rising at (unless_composition role inside ++ more)
  inside_rising at Composition inside more there all = there
  inside_rising at role inside more there all = all

  mutual
    rising_at : (t : Rose ItemLabel) (parent : ElementRole) (before : Option Position) (outer : List (List ℕ × List ℕ)) (level : ℕ) (rest : List Token) (more : List LookedAt) (least : ℕ)
        → Follow rest more → Ascend least bound (tokens t ++ rest) → Rising least (reasons_at parent before outer level t ++ more)
    rising_at (node (Text text at) ts) parent before outer level rest more least follow h =
        (h.0, follow (at + 1) (behind (tokens_all ts) rest (at + 1) h.2))
    rising_at (node (Element name attributes declares at) ts) parent before outer level rest more least follow h =
        let inner : Ascend (at + 2) bound (tokens_all ts ++ (Closes ∷ rest)) = subst (Ascend (at + 2) bound) (append_assoc (tokens_all ts) (Closes ∷ []) rest) h.2 in
        let past : Ascend (at + 2) bound rest = behind (tokens_all ts) (Closes ∷ rest) (at + 2) inner in
        let le : least ≤ at = h.0 in
        placed_rising at least (placement parent before name)
        (λ role. (at, own_reason role (declares ++ outer) level attributes (list_of ts))
        ∷ unless_composition role (reasons_among role None (declares ++ outer) (level_inside role level) ts))
        more le (follow least (weaker least (at + 2) rest (omega arith) past)) (follow (at + 1) (weaker (at + 1) (at + 2) rest (omega arith) past))
        (λ role. (
          le,
          inside_rising (at + 1) role (reasons_among role None (declares ++ outer) (level_inside role level) ts) more (follow (at + 1) (weaker (at + 1) (at + 2) rest (omega arith) past))
              (rising_among ts role None (declares ++ outer) (level_inside role level) (Closes ∷ rest) more (at + 1) follow (weaker (at + 1) (at + 2) (tokens_all ts ++ (Closes ∷ rest)) (omega arith) inner)),
        ))

    rising_among : (ts : Roses ItemLabel) (parent : ElementRole) (before : Option Position) (scope : List (List ℕ × List ℕ)) (level : ℕ) (rest : List Token) (more : List LookedAt) (least : ℕ)
        → Follow rest more → Ascend least bound (tokens_all ts ++ rest) → Rising least (reasons_among parent before scope level ts ++ more)
    rising_among rose.none parent before scope level rest more least follow h = follow least h
    rising_among (rose.more t ts) parent before scope level rest more least follow h =
        subst (Rising least) (sym (append_assoc (reasons_at parent before scope level t) (reasons_among parent (position_behind parent before (label_of t)) scope level ts) more))
        (rising_at t parent before scope level (tokens_all ts ++ rest) (reasons_among parent (position_behind parent before (label_of t)) scope level ts ++ more) least
        (λ l k. rising_among ts parent (position_behind parent before (label_of t)) scope level rest more l follow k)
        (subst (Ascend least bound) (append_assoc (tokens t) (tokens_all ts) rest) h))

-- an element by its role, at the root
of_rising : (bound : ℕ) (t : Rose ItemLabel) (role : ElementRole) (outer : List (List ℕ × List ℕ)) (level least : ℕ) → Ascend least bound (tokens t) → Rising least (reasons_of role outer level t)
of_rising bound (node (Text text at) ts) role outer level least h = tt
of_rising bound (node (Element name attributes declares at) ts) role outer level least h =
    let inside = reasons_among role None (declares ++ outer) (level_inside role level) ts in
    let inner : Ascend (at + 1) bound (tokens_all ts ++ (Closes ∷ [])) = weaker bound (at + 1) (at + 2) (tokens_all ts ++ (Closes ∷ [])) (omega arith) h.2 in
    let all : Rising (at + 1) (inside ++ []) = rising_among bound ts role None (declares ++ outer) (level_inside role level) (Closes ∷ []) [] (at + 1) (λ l k. tt) inner in
    let end : Rising (at + 1) (unless_composition role inside ++ []) = inside_rising bound (at + 1) role inside [] tt all in
    (h.0, subst (Rising (at + 1)) (append-nil (unless_composition role inside)) end)

chosen : (b : Bool) (least at : ℕ) (found other : List LookedAt) → Rising least found → Rising least other → Rising least (elim b [ true ↦ found | false ↦ other ])
chosen true least at found other h k = h
chosen false least at found other h k = k

place_within : (bound : ℕ) (t : Rose ItemLabel) (least : ℕ) → Ascend least bound (tokens t) → least ≤ item_place (label_of t)
place_within bound (node (Text text at) ts) least h = h.0
place_within bound (node (Element name attributes declares at) ts) least h = h.0

pub reasons_rise : (bound : ℕ) (root : Rose ItemLabel) (least : ℕ) → Ascend least bound (tokens root) → Rising least (reasons root)
reasons_rise bound root least h =
    chosen (is_schema (label_of root)) least 0 (reasons_of Schema outside 0 root) _ (of_rising bound root Schema outside 0 least h) (place_within bound root least h, tt)
