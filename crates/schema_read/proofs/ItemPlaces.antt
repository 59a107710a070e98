-- Where the nodes of a tree of items stand: what stands in a node stands behind it, and before what is written behind the node.
use Rattle.std.proofs.Common.{ℕ, ◌+◌, ◌<◌, ◌≤◌, List, [], ◌∷◌, ◌++◌, append_assoc, subst, sym, arith}
use Rattle.schema_read.proofs.Words.{append-nil, Rose, node, Roses, item_place, Token, Closes, tokens, tokens_all, Ascend, ItemLabel, Element, Text}
use Rattle.base_trees.specs.Rose as rose

abbrev mutual
  -- all places of the tree are from the first number on and below the second one
  pub Spans : ℕ → ℕ → Rose ItemLabel → Type 0
  Spans least end (node label kids) = (least ≤ item_place label) × SpansAll (item_place label + 1) end kids

  -- and those of each tree are below those of the next
  pub SpansAll : ℕ → ℕ → Roses ItemLabel → Type 0
  SpansAll least end rose.none = least ≤ end
  SpansAll least end (rose.more t ts) = (middle : ℕ) × Spans least middle t × SpansAll middle end ts

mutual
  pub span_le : (least end : ℕ) (t : Rose ItemLabel) → Spans least end t → least < end
  span_le least end (node label kids) h = let le = h.0 in let k = span_all_le (item_place label + 1) end kids h.1 in omega (arith, le, k)

  pub span_all_le : (least end : ℕ) (ts : Roses ItemLabel) → SpansAll least end ts → least ≤ end
  span_all_le least end rose.none h = h
  span_all_le least end (rose.more t ts) h = let k = span_le least h.0 t h.1 in let l = span_all_le h.0 end ts h.2 in omega (arith, k, l)

pub lower_span : (less least end : ℕ) (t : Rose ItemLabel) → less ≤ least → Spans least end t → Spans less end t
lower_span less least end (node label kids) le h = (let k = h.0 in omega (arith, le, k), h.1)

pub lower_span_all : (less least end : ℕ) (ts : Roses ItemLabel) → less ≤ least → SpansAll least end ts → SpansAll less end ts
lower_span_all less least end rose.none le h = omega (arith, le, h)
lower_span_all less least end (rose.more t ts) le h = (h.0, lower_span less least h.0 t le h.1, h.2)

-- ---- from ascending tokens

-- where the tokens of something end, those that follow ascend
record Spread (bound : ℕ) (rest : List Token) (S : ℕ → Type 0) : Type 0 where
  end : ℕ
  spans : S end
  behind : Ascend end bound rest
  within : end ≤ bound + 1

module _ (bound : ℕ) where
  mutual
    spread_at : (t : Rose ItemLabel) (least : ℕ) (rest : List Token) → Ascend least bound (tokens t ++ rest) → Spread bound rest (λ end. Spans least end t)
    spread_at (node (Text text at) kids) least rest h =
        let below = h.1 in
        let s = spread_all kids (at + 1) rest (omega (arith, below)) h.2 in
        record { end = s.end; spans = (h.0, s.spans); behind = s.behind; within = s.within }
    spread_at (node (Element name attributes declares at) kids) least rest h =
        let below = h.1 in
        let inner : Ascend (at + 2) bound (tokens_all kids ++ (Closes ∷ rest)) = subst (Ascend (at + 2) bound) (append_assoc (tokens_all kids) (Closes ∷ []) rest) h.2 in
        let s = spread_all kids (at + 2) (Closes ∷ rest) (omega (arith, below)) inner in
        record { end = s.end; spans = (h.0, lower_span_all (at + 1) (at + 2) s.end kids (omega arith) s.spans); behind = s.behind; within = s.within }

    spread_all : (ts : Roses ItemLabel) (least : ℕ) (rest : List Token) → least ≤ bound + 1 → Ascend least bound (tokens_all ts ++ rest)
        → Spread bound rest (λ end. SpansAll least end ts)
    spread_all rose.none least rest le h = let same : least ≤ least = omega arith in record { end = least; spans = same; behind = h; within = le }
    spread_all (rose.more t ts) least rest le h =
        let s = spread_at t least (tokens_all ts ++ rest) (subst (Ascend least bound) (append_assoc (tokens t) (tokens_all ts) rest) h) in
        let r = spread_all ts s.end rest s.within s.behind in
        record { end = r.end; spans = (s.end, s.spans, r.spans); behind = r.behind; within = r.within }

-- the places of a document
pub record Within (bound : ℕ) (S : ℕ → Type 0) : Type 0 where
  pub end : ℕ
  pub spans : S end
  pub within : end ≤ bound + 1

pub document_spans : (bound : ℕ) (t : Rose ItemLabel) → Ascend 0 bound (tokens t) → Within bound (λ end. Spans 0 end t)
document_spans bound t h =
    let s = spread_at bound t 0 [] (subst (Ascend 0 bound) (sym (append-nil (tokens t))) h) in
    record { end = s.end; spans = s.spans; within = s.within }
