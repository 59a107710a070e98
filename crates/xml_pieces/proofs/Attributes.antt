-- Attributes, one after the other.
use Rattle.std.proofs.Common.{◌≡◌, ℕ, ◌<◌, ◌≤◌, List, [], ◌∷◌, length, take, drop, Option, Some, None, refl, sym, ap, ◌∙◌, inl, inr, arith, eqb}
use Rattle.std.specs.Prelude.{IsUtf8, chars, option_map}
use Rattle.base_texts.specs.Characters.{is_name}
use Rattle.std.proofs.lemmas.List.{length-append, length-drop}
use Rattle.std.specs.List.{prefix_len}
use Rattle.base_texts.specs.WhiteSpace.{is_white_space}
use Rattle.xml_pieces.specs.Pieces.{behind, Manner}
use Rattle.xml_pieces.specs.Reading.{◌>>=◌, past_blank, space_at, is_name_byte, name_at, equals_at, quoted_at, written_at, value_of, attribute_at}
use Rattle.xml_pieces.proofs.Strips.{behind_takes}
use Rattle.xml_pieces.proofs.Tools.{bind_some, pairs, only_some, some_is, chosen, never}
use Rattle.xml_pieces.proofs.Many.{Consumes}
use Rattle.xml_pieces.proofs.Utf8.{space_utf8, equals_utf8, quoted_utf8, name_rest_utf8, quoted_takes}

abbrev some_triple : List ℕ × List ℕ × List ℕ → Option (List ℕ × List ℕ × List ℕ)
some_triple x = Some x

-- the steps of a written attribute
pub record Steps (bytes name written rest : List ℕ) : Type 0 where
  pub spaced : List ℕ
  pub named : List ℕ
  pub inner : List ℕ
  pub space_is : space_at bytes ≡ Some spaced
  pub name_is : name_at spaced ≡ Some (name, named)
  pub equals_is : equals_at named ≡ Some inner
  pub quoted_is : quoted_at inner ≡ Some (written, rest)

triples : (x y : List ℕ × List ℕ × List ℕ) → some_triple x ≡ some_triple y → (x.0 ≡ y.0) × (x.1 ≡ y.1) × (x.2 ≡ y.2)
triples x y e =
    let same : x ≡ y = some_is x y e in
    (ap (λ (p : List ℕ × List ℕ × List ℕ). p.0) same, ap (λ (p : List ℕ × List ℕ × List ℕ). p.1) same, ap (λ (p : List ℕ × List ℕ × List ℕ). p.2) same)

pub steps_of : (bytes name written rest : List ℕ) → written_at bytes ≡ Some (name, written, rest) → Steps bytes name written rest
unfolding written_at
steps_of bytes name written rest e =
    let last : List ℕ → List ℕ × List ℕ → Option (List ℕ × List ℕ × List ℕ) = λ n q. Some (n, q.0, q.1) in
    let a = bind_some (space_at bytes) (λ spaced. name_at spaced >>= λ n. equals_at n.1 >>= λ inner. quoted_at inner >>= λ q. last n.0 q) (name, written, rest) e in
    let b = bind_some (name_at a.0) (λ n. equals_at n.1 >>= λ inner. quoted_at inner >>= λ q. last n.0 q) (name, written, rest) a.2 in
    let d = bind_some (equals_at b.0.1) (λ inner. quoted_at inner >>= λ q. last b.0.0 q) (name, written, rest) b.2 in
    let f = bind_some (quoted_at d.0) (λ q. last b.0.0 q) (name, written, rest) d.2 in
    let same = triples (b.0.0, f.0.0, f.0.1) (name, written, rest) f.2 in
    record {
      spaced = a.0;
      named = b.0.1;
      inner = d.0;
      space_is = a.1;
      name_is = b.1 ∙ ap (λ (x : List ℕ). Some (x, b.0.1)) same.0;
      equals_is = d.1;
      quoted_is = f.1 ∙ (λ i. Some (same.1 i, same.2 i));
    }

pub written_utf8 : (bytes name written rest : List ℕ) → written_at bytes ≡ Some (name, written, rest) → IsUtf8 bytes → IsUtf8 name × IsUtf8 written × IsUtf8 rest
written_utf8 bytes name written rest e u =
    let s = steps_of bytes name written rest e in
    let spaced = space_utf8 bytes s.spaced s.space_is u in
    let named = name_rest_utf8 s.spaced name s.named s.name_is spaced in
    let inner = equals_utf8 s.named s.inner s.equals_is named.1 in
    let quoted = quoted_utf8 s.inner written rest s.quoted_is inner in
    (named.0, quoted.0, quoted.1)

blank_less : (bytes : List ℕ) → length (past_blank bytes) ≤ length bytes
blank_less bytes = omega (arith, length-drop (prefix_len is_white_space bytes) bytes)

space_less : (bytes rest : List ℕ) → space_at bytes ≡ Some rest → length rest ≤ length bytes
unfolding space_at
space_less bytes rest e = elim (chosen (eqb (prefix_len is_white_space bytes) 0) None (Some (past_blank bytes)) (Some rest) e) [
  | inl h ↦ absurd (never rest h.1)
  | inr h ↦ omega (arith, ap length (some_is (past_blank bytes) rest h.1), blank_less bytes)
]

equals_less : (bytes rest : List ℕ) → equals_at bytes ≡ Some rest → length rest ≤ length bytes
unfolding equals_at
equals_less bytes rest e =
    let a = bind_some (behind (61 ∷ []) (past_blank bytes)) (λ r. Some (past_blank r)) rest e in
    omega (arith, ap length (behind_takes (61 ∷ []) (past_blank bytes) a.0 a.1), ap length (some_is (past_blank a.0) rest a.2), blank_less a.0, blank_less bytes)

pub name_less : (bytes name rest : List ℕ) → name_at bytes ≡ Some (name, rest) → length rest ≤ length bytes
unfolding name_at
name_less bytes name rest e =
    let n = prefix_len is_name_byte bytes in
    let o = only_some (is_name (chars (take n bytes))) (Some (take n bytes, drop n bytes)) (name, rest) e in
    let both = pairs (take n bytes, drop n bytes) (name, rest) o.1 in
    omega (arith, ap length both.1, length-drop n bytes)

written_less : (bytes name written rest : List ℕ) → written_at bytes ≡ Some (name, written, rest) → length rest < length bytes
written_less bytes name written rest e =
    let s = steps_of bytes name written rest e in
    let q = quoted_takes s.inner written rest s.quoted_is in
    omega (arith, space_less bytes s.spaced s.space_is, name_less s.spaced name s.named s.name_is, equals_less s.named s.inner s.equals_is, ap length q.3, length-append written (q.0 ∷ rest))

abbrev Attribute : Type 0
Attribute = List ℕ × List ℕ

-- a written attribute, and its value
pub attribute_steps : (manner : Manner) (bytes : List ℕ) (a : Attribute) (rest : List ℕ) → attribute_at manner bytes ≡ Some (a, rest) → (written : List ℕ) × (written_at bytes ≡ Some (a.0, written, rest)) × (value_of manner written ≡ Some a.1)
unfolding attribute_at
attribute_steps manner bytes a rest e =
    let w = bind_some (written_at bytes) (λ w. value_of manner w.1 >>= λ value. Some ((w.0, value), w.2)) (a, rest) e in
    let v = bind_some (value_of manner w.0.1) (λ value. Some ((w.0.0, value), w.0.2)) (a, rest) w.2 in
    let both = pairs ((w.0.0, v.0), w.0.2) (a, rest) v.2 in
    let name_is : w.0.0 ≡ a.0 = ap (λ (x : Attribute). x.0) both.0 in
    let value_is : v.0 ≡ a.1 = ap (λ (x : Attribute). x.1) both.0 in
    (w.0.1, w.1 ∙ (λ i. Some (name_is i, w.0.1, both.1 i)), v.1 ∙ ap (λ (x : List ℕ). Some x) value_is)

attribute_less : (manner : Manner) (bytes : List ℕ) (a : Attribute) (rest : List ℕ) → attribute_at manner bytes ≡ Some (a, rest) → length rest < length bytes
attribute_less manner bytes a rest e = let s = attribute_steps manner bytes a rest e in written_less bytes a.0 s.0 rest s.1

pub attributes_consume : (manner : Manner) → Consumes (attribute_at manner)
attributes_consume manner = record { less = attribute_less manner }

pub attribute_utf8 : (manner : Manner) (bytes : List ℕ) (a : Attribute) (rest : List ℕ) → attribute_at manner bytes ≡ Some (a, rest) → IsUtf8 bytes → IsUtf8 rest
attribute_utf8 manner bytes a rest e u = let s = attribute_steps manner bytes a rest e in (written_utf8 bytes a.0 s.0 rest s.1 u).2

-- what stands behind an attribute
pub mapped_some : (o : Option (Attribute × List ℕ)) (rest : List ℕ) → option_map (λ (x : Attribute × List ℕ). x.1) o ≡ Some rest → (a : Attribute) × (o ≡ Some (a, rest))
mapped_some (Some x) rest e = (x.0, ap (λ (r : List ℕ). Some (x.0, r)) (some_is x.1 rest e))
mapped_some None rest e = absurd (never rest e)

pub mapped_none : (o : Option (Attribute × List ℕ)) → option_map (λ (x : Attribute × List ℕ). x.1) o ≡ None → o ≡ None
mapped_none (Some x) e = absurd (never x.1 (sym e))
mapped_none None e = refl
