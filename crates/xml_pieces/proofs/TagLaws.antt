-- What is read as a tag is one, and a tag is read.
use Rattle.std.proofs.Common.{◌≡◌, ℕ, zero, suc, true, false, List, [], ◌∷◌, ◌++◌, length, drop, Option, Some, None, refl, sym, ap, subst, ◌∙◌, append_assoc, inl, inr, arith}
use Rattle.std.specs.Prelude.{◌⊎◌, IsUtf8}
use Rattle.std.specs.List.{list_all}
use Rattle.std.proofs.lemmas.Str.{chars-nil}
use Rattle.base_texts.specs.Characters.{is_name}
use Rattle.base_texts.specs.WhiteSpace.{is_white_space, is_blank}
use Rattle.xml_pieces.specs.Pieces.{Tag, Piece, Start, Empty, End, behind, IsName, IsSpace, Manner, IsAssigned, IsAttribute, AreAttributes, IsTag, IsEnd}
use Rattle.xml_pieces.specs.Reading.{◌>>=◌, before, many, past_blank, space_at, is_name_byte, name_at, equals_at, quoted_at, written_at, value_of, attribute_at, shut_at, tag_of, tag_at, end_at}
use Rattle.xml_pieces.proofs.Strips.{behind_takes}
use Rattle.xml_pieces.proofs.Tools.{bind_some, pairs, and_true, ahead_cases}
use Rattle.xml_pieces.proofs.Many.{one_more, no_more}
use Rattle.xml_pieces.proofs.Names.{name_takes, name_again, name_bytes}
use Rattle.xml_pieces.proofs.Spaces.{blank_takes, blank_again, space_takes, space_again, equals_takes, equals_again, upto_apart, quoted_again, quote_stop, name_not_white, white_not_name, FirstOf, first_of_blank}
use Rattle.xml_pieces.proofs.Utf8.{space_utf8, name_rest_utf8, quoted_takes}
use Rattle.xml_pieces.proofs.Attributes.{steps_of, written_utf8, attribute_steps, attribute_utf8, attributes_consume}
use Rattle.xml_pieces.proofs.ValueLaws.{value_takes, value_again}

abbrev Attribute : Type 0
Attribute = List ℕ × List ℕ

-- ---- one attribute

-- the parts of an assignment, as they are read
pub assigned_parts : (name written text rest : List ℕ) (a : IsAssigned name written text) → text ++ rest ≡ a.space ++ (name ++ (a.before ++ 61 ∷ (a.after ++ a.quote ∷ (written ++ a.quote ∷ rest))))
assigned_parts name written text rest a = ap (λ (x : List ℕ). x ++ rest) a.text_is ∙ (simp append_assoc)

pub written_takes : (bytes name written rest : List ℕ) → written_at bytes ≡ Some (name, written, rest) → IsUtf8 bytes → IsName name × (text : List ℕ) × IsAssigned name written text × (bytes ≡ text ++ rest)
written_takes bytes name written rest e u =
    let s = steps_of bytes name written rest e in
    let spaced = space_utf8 bytes s.spaced s.space_is u in
    let sp = space_takes bytes s.spaced s.space_is in
    let n = name_takes s.spaced name s.named s.name_is spaced in
    let eq = equals_takes s.named s.inner s.equals_is in
    let q = quoted_takes s.inner written rest s.quoted_is in
    let text = sp.0 ++ name ++ eq.0 ++ 61 ∷ eq.1 ++ q.0 ∷ written ++ q.0 ∷ [] in
    let back : s.named ≡ eq.0 ++ 61 ∷ (eq.1 ++ q.0 ∷ (written ++ q.0 ∷ rest)) = eq.4 ∙ ap (λ (x : List ℕ). eq.0 ++ 61 ∷ (eq.1 ++ x)) q.3 in
    let whole : bytes ≡ sp.0 ++ (name ++ (eq.0 ++ 61 ∷ (eq.1 ++ q.0 ∷ (written ++ q.0 ∷ rest)))) = sp.2 ∙ ap (λ (x : List ℕ). sp.0 ++ x) (n.1 ∙ ap (λ (x : List ℕ). name ++ x) back) in
    let a : IsAssigned name written text = record {
      space = sp.0;
      before = eq.0;
      after = eq.1;
      quote = q.0;
      spaces = sp.1;
      blank_before = eq.2;
      blank_after = eq.3;
      quotes = q.1;
      inside = upto_apart q.0 (drop 1 s.inner) written rest q.2;
      text_is = refl;
    } in
    (n.0, text, a, whole ∙ sym (assigned_parts name written text rest a))

name_first : (name : List ℕ) → IsName name → (m : ℕ) × (more : List ℕ) × (name ≡ m ∷ more) × (is_white_space m ≡ false)
name_first [] n = absurd (let e : is_name [] ≡ true = subst (λ (x : List ℕ). is_name x ≡ true) chars-nil n.named in cc)
name_first (m ∷ more) n = (m, more, refl, name_not_white m (and_true (is_name_byte m) (list_all is_name_byte more) (name_bytes (m ∷ more) n)).0)

abbrev written_parts : List ℕ → List ℕ × List ℕ → Option (List ℕ × List ℕ × List ℕ)
written_parts name q = Some (name, q.0, q.1)

pub spaced_again : (space name rest : List ℕ) → IsSpace space → IsName name → space_at (space ++ (name ++ rest)) ≡ Some (name ++ rest)
spaced_again space name rest s n =
    let f = name_first name n in
    let at : name ++ rest ≡ f.0 ∷ (f.1 ++ rest) = ap (λ (x : List ℕ). x ++ rest) f.2 in
    ap (λ (x : List ℕ). space_at (space ++ x)) at ∙ space_again space (f.1 ++ rest) f.0 s f.3 ∙ ap (λ (x : List ℕ). Some x) (sym at)

equals_no_name : is_name_byte 61 ≡ false
unfolding is_name_byte
equals_no_name = refl

shut_no_name : is_name_byte 62 ≡ false
unfolding is_name_byte
shut_no_name = refl

slash_no_name : is_name_byte 47 ≡ false
unfolding is_name_byte
slash_no_name = refl

-- a name before what no name goes on with
pub named_again : (name bytes : List ℕ) → IsName name → FirstOf bytes → name_at (name ++ bytes) ≡ Some (name, bytes)
named_again name bytes n f = ap (λ (x : List ℕ). name_at (name ++ x)) f.is ∙ name_again name f.tail f.head n f.no_name ∙ ap (λ (x : List ℕ). Some (name, x)) (sym f.is)

pub written_again : (name written text rest : List ℕ) → IsName name → IsAssigned name written text → written_at (text ++ rest) ≡ Some (name, written, rest)
unfolding written_at
written_again name written text rest n a =
    let inner = a.quote ∷ (written ++ a.quote ∷ rest) in
    let named = a.before ++ 61 ∷ (a.after ++ inner) in
    ap written_at (assigned_parts name written text rest a)
    ∙ ap (λ (o : Option (List ℕ)). o >>= λ spaced. name_at spaced >>= λ m. equals_at m.1 >>= λ i. quoted_at i >>= λ q. written_parts m.0 q) (spaced_again a.space name named a.spaces n)
    ∙ ap (λ (o : Option (List ℕ × List ℕ)). o >>= λ m. equals_at m.1 >>= λ i. quoted_at i >>= λ q. written_parts m.0 q) (named_again name named n (first_of_blank a.before (a.after ++ inner) 61 a.blank_before equals_no_name))
    ∙ ap (λ (o : Option (List ℕ)). o >>= λ i. quoted_at i >>= λ q. written_parts name q) (equals_again a.before a.after (written ++ a.quote ∷ rest) a.quote a.blank_before a.blank_after (quote_stop a.quote a.quotes))
    ∙ ap (λ (o : Option (List ℕ × List ℕ)). o >>= λ q. written_parts name q) (quoted_again a.quote written rest a.quotes a.inside)

pub attribute_takes : (manner : Manner) (bytes : List ℕ) (a : Attribute) (rest : List ℕ) → attribute_at manner bytes ≡ Some (a, rest) → IsUtf8 bytes → (text : List ℕ) × IsAttribute manner a.0 a.1 text × (bytes ≡ text ++ rest)
attribute_takes manner bytes a rest e u =
    let s = attribute_steps manner bytes a rest e in
    let w = written_takes bytes a.0 s.0 rest s.1 u in
    let us = written_utf8 bytes a.0 s.0 rest s.1 u in
    (w.1, record { written = s.0; assigned = w.2; named = w.0; valued = value_takes manner s.0 a.1 s.2 us.1 }, w.3)

pub attribute_again : (manner : Manner) (a : Attribute) (text rest : List ℕ) → IsAttribute manner a.0 a.1 text → attribute_at manner (text ++ rest) ≡ Some (a, rest)
unfolding attribute_at
attribute_again manner a text rest i =
    ap (λ (o : Option (List ℕ × List ℕ × List ℕ)). o >>= λ w. value_of manner w.1 >>= λ value. Some ((w.0, value), w.2)) (written_again a.0 i.written text rest i.named i.assigned)
    ∙ ap (λ (o : Option (List ℕ)). o >>= λ value. Some ((a.0, value), rest)) (value_again manner i.written a.1 i.valued)

-- ---- attributes

attributes_takes : (manner : Manner) (n : ℕ) (bytes : List ℕ) (list : List Attribute) (rest : List ℕ) → many (attribute_at manner) n bytes ≡ (list, rest) → IsUtf8 bytes
    → (text : List ℕ) × AreAttributes manner list text × (bytes ≡ text ++ rest) × IsUtf8 rest
attributes_takes manner zero bytes list rest e u =
    let list_is : [] ≡ list = ap (λ (p : List Attribute × List ℕ). p.0) e in
    let rest_is : bytes ≡ rest = ap (λ (p : List Attribute × List ℕ). p.1) e in
    ([], subst (λ (l : List Attribute). AreAttributes manner l []) list_is refl, rest_is, subst IsUtf8 rest_is u)
attributes_takes manner (suc n) bytes list rest e u = elim (ahead_cases (attribute_at manner bytes) ([], bytes) (λ x. before x.0 (many (attribute_at manner) n x.1)) (list, rest) e) [
  | inl f ↦ (
      let r = many (attribute_at manner) n f.0.1 in
      let list_is : f.0.0 ∷ r.0 ≡ list = ap (λ (p : List Attribute × List ℕ). p.0) f.2 in
      let rest_is : r.1 ≡ rest = ap (λ (p : List Attribute × List ℕ). p.1) f.2 in
      let a = attribute_takes manner bytes f.0.0 f.0.1 f.1 u in
      let ms = attributes_takes manner n f.0.1 r.0 rest (ap (λ (x : List ℕ). (r.0, x)) rest_is) (attribute_utf8 manner bytes f.0.0 f.0.1 f.1 u) in (
        a.0 ++ ms.0,
        subst (λ (l : List Attribute). AreAttributes manner l (a.0 ++ ms.0)) list_is (a.0, ms.0, a.1, ms.1, refl),
        a.2 ∙ ap (λ (x : List ℕ). a.0 ++ x) ms.2 ∙ sym (append_assoc a.0 ms.0 rest),
        ms.3,
      ))
  | inr f ↦ (
      let list_is : [] ≡ list = ap (λ (p : List Attribute × List ℕ). p.0) f.1 in
      let rest_is : bytes ≡ rest = ap (λ (p : List Attribute × List ℕ). p.1) f.1 in
      ([], subst (λ (l : List Attribute). AreAttributes manner l []) list_is refl, rest_is, subst IsUtf8 rest_is u))
]

pub attributes_again : (manner : Manner) (list : List Attribute) (text rest : List ℕ) → AreAttributes manner list text → attribute_at manner rest ≡ None → many (attribute_at manner) (length (text ++ rest)) (text ++ rest) ≡ (list, rest)
attributes_again manner [] text rest are none = ap (λ (x : List ℕ). many (attribute_at manner) (length (x ++ rest)) (x ++ rest)) are ∙ no_more (attribute_at manner) (attributes_consume manner) rest none
attributes_again manner (a ∷ list) text rest are none =
    let whole : text ++ rest ≡ are.0 ++ (are.1 ++ rest) = ap (λ (x : List ℕ). x ++ rest) are.4 ∙ append_assoc are.0 are.1 rest in
    ap (λ (x : List ℕ). many (attribute_at manner) (length x) x) whole
    ∙ one_more (attribute_at manner) (attributes_consume manner) (are.0 ++ (are.1 ++ rest)) a (are.1 ++ rest) (attribute_again manner a are.0 (are.1 ++ rest) are.2)
    ∙ ap (before a) (attributes_again manner list are.1 rest are.3 none)

-- ---- tags

shut_takes : (tag : Tag) (bytes rest : List ℕ) (p : Piece) → shut_at tag bytes ≡ Some (p, rest) → (p ≡ Start tag) × (bytes ≡ 62 ∷ rest) ⊎ (p ≡ Empty tag) × (bytes ≡ 47 ∷ 62 ∷ rest)
unfolding shut_at
shut_takes tag bytes rest p e = elim (ahead_cases (behind (62 ∷ []) bytes) (behind (47 ∷ 62 ∷ []) bytes >>= λ r. Some (Empty tag, r)) (λ r. Some (Start tag, r)) (Some (p, rest)) e) [
  | inl f ↦ (
      let both = pairs (Start tag, f.0) (p, rest) f.2 in
      inl (sym both.0, behind_takes (62 ∷ []) bytes f.0 f.1 ∙ ap (λ (x : List ℕ). 62 ∷ x) both.1))
  | inr f ↦ (
      let b = bind_some (behind (47 ∷ 62 ∷ []) bytes) (λ r. Some (Empty tag, r)) (p, rest) f.1 in
      let both = pairs (Empty tag, b.0) (p, rest) b.2 in
      inr (sym both.0, behind_takes (47 ∷ 62 ∷ []) bytes b.0 b.1 ∙ ap (λ (x : List ℕ). 47 ∷ 62 ∷ x) both.1))
]

-- a start or empty tag with this text
abbrev pub IsEither : Manner → Piece → List ℕ → Type 0
IsEither manner p text = (tag : Tag) × ((p ≡ Start tag) × IsTag manner (62 ∷ []) tag text ⊎ (p ≡ Empty tag) × IsTag manner (47 ∷ 62 ∷ []) tag text)

pub tag_takes : (manner : Manner) (bytes rest : List ℕ) (p : Piece) → tag_at manner bytes ≡ Some (p, rest) → IsUtf8 bytes → (text : List ℕ) × IsEither manner p text × (bytes ≡ text ++ rest)
unfolding tag_at
tag_takes manner bytes rest p e u =
    let f = bind_some (name_at bytes) (λ n. let r = many (attribute_at manner) (length n.1) n.1 in shut_at (tag_of n.0 r.0) (past_blank r.1)) (p, rest) e in
    let name = f.0.0 in
    let n = name_takes bytes name f.0.1 f.1 u in
    let r = many (attribute_at manner) (length f.0.1) f.0.1 in
    let tag = tag_of name r.0 in
    let list = attributes_takes manner (length f.0.1) f.0.1 r.0 r.1 refl (name_rest_utf8 bytes name f.0.1 f.1 u).1 in
    let blank = blank_takes r.1 in
    let whole : bytes ≡ name ++ (list.0 ++ (blank.0 ++ past_blank r.1)) = n.1 ∙ ap (λ (x : List ℕ). name ++ x) (list.2 ∙ ap (λ (x : List ℕ). list.0 ++ x) blank.2) in
    elim (shut_takes tag (past_blank r.1) rest p f.2) [
      | inl h ↦ (
          let text = name ++ list.0 ++ blank.0 ++ 62 ∷ [] in
          let parts : bytes ≡ text ++ rest = whole ∙ ap (λ (x : List ℕ). name ++ (list.0 ++ (blank.0 ++ x))) h.1 ∙ sym (simp append_assoc) in
          (text, (tag, inl (h.0, record { listed = list.0; space = blank.0; named = n.0; are = list.1; blank = blank.1; text_is = refl })), parts))
      | inr h ↦ (
          let text = name ++ list.0 ++ blank.0 ++ 47 ∷ 62 ∷ [] in
          let parts : bytes ≡ text ++ rest = whole ∙ ap (λ (x : List ℕ). name ++ (list.0 ++ (blank.0 ++ x))) h.1 ∙ sym (simp append_assoc) in
          (text, (tag, inr (h.0, record { listed = list.0; space = blank.0; named = n.0; are = list.1; blank = blank.1; text_is = refl })), parts))
    ]

pub no_name : (b : ℕ) (rest : List ℕ) → is_name_byte b ≡ false → name_at (b ∷ rest) ≡ None
unfolding name_at
no_name b rest stop = rw (stop, chars-nil) refl

pub no_space : (b : ℕ) (rest : List ℕ) → is_white_space b ≡ false → space_at (b ∷ rest) ≡ None
unfolding space_at
no_space b rest stop = rw stop refl

no_written : (space rest : List ℕ) (b : ℕ) → is_blank space ≡ true → is_white_space b ≡ false → is_name_byte b ≡ false → written_at (space ++ b ∷ rest) ≡ None
unfolding written_at
no_written [] rest b blank white stop = rw (no_space b rest white) refl
no_written (s ∷ space) rest b blank white stop =
    let is_space : IsSpace (s ∷ space) = record { some = omega arith; blank = blank } in
    rw (space_again (s ∷ space) rest b is_space white, no_name b rest stop) refl

no_attribute : (manner : Manner) (space rest : List ℕ) (b : ℕ) → is_blank space ≡ true → is_white_space b ≡ false → is_name_byte b ≡ false → attribute_at manner (space ++ b ∷ rest) ≡ None
unfolding attribute_at
no_attribute manner space rest b blank white stop = rw (no_written space rest b blank white stop) refl

pub first_of_space : (space rest : List ℕ) → IsSpace space → FirstOf (space ++ rest)
first_of_space [] rest s = absurd (omega (arith, s.some))
first_of_space (b ∷ space) rest s = record { head = b; tail = space ++ rest; is = refl; no_name = white_not_name b (and_true (is_white_space b) (is_blank space) s.blank).0 }

pub first_same : (xs ys : List ℕ) → xs ≡ ys → FirstOf ys → FirstOf xs
first_same xs ys e f = record { head = f.head; tail = f.tail; is = e ∙ f.is; no_name = f.no_name }

first_of_attributes : (manner : Manner) (list : List Attribute) (text rest : List ℕ) → AreAttributes manner list text → FirstOf rest → FirstOf (text ++ rest)
first_of_attributes manner [] text rest are f = first_same (text ++ rest) rest (ap (λ (x : List ℕ). x ++ rest) are) f
first_of_attributes manner (a ∷ list) text rest are f =
    let one = are.2.assigned in
    let whole : text ++ rest ≡ are.0 ++ (are.1 ++ rest) = ap (λ (x : List ℕ). x ++ rest) are.4 ∙ append_assoc are.0 are.1 rest in
    first_same (text ++ rest) (one.space ++ (a.0 ++ (one.before ++ 61 ∷ (one.after ++ one.quote ∷ (are.2.written ++ one.quote ∷ (are.1 ++ rest)))))) (whole ∙ assigned_parts a.0 are.2.written are.0 (are.1 ++ rest) one)
    (first_of_space one.space (a.0 ++ (one.before ++ 61 ∷ (one.after ++ one.quote ∷ (are.2.written ++ one.quote ∷ (are.1 ++ rest))))) one.spaces)

-- the name, the attributes and white space of a tag are read, before what ends it
tag_reads : (manner : Manner) (tag : Tag) (listed space rest : List ℕ) (b : ℕ) → IsName tag.name → AreAttributes manner tag.attributes listed → is_blank space ≡ true → is_white_space b ≡ false → is_name_byte b ≡ false
    → tag_at manner (tag.name ++ (listed ++ (space ++ b ∷ rest))) ≡ shut_at tag (b ∷ rest)
unfolding tag_at
tag_reads manner tag listed space rest b n are blank white stop =
    let end = space ++ b ∷ rest in
    let first = first_of_attributes manner tag.attributes listed end are (first_of_blank space rest b blank stop) in
    ap (λ (o : Option (List ℕ × List ℕ)). o >>= λ m. let r = many (attribute_at manner) (length m.1) m.1 in shut_at (tag_of m.0 r.0) (past_blank r.1)) (named_again tag.name (listed ++ end) n first)
    ∙ ap (λ (r : List Attribute × List ℕ). shut_at (tag_of tag.name r.0) (past_blank r.1)) (attributes_again manner tag.attributes listed end are (no_attribute manner space rest b blank white stop))
    ∙ ap (shut_at tag) (blank_again space rest b blank white)

shut_not_white : is_white_space 62 ≡ false
unfolding is_white_space
shut_not_white = refl

slash_not_white : is_white_space 47 ≡ false
unfolding is_white_space
slash_not_white = refl

start_shuts : (tag : Tag) (rest : List ℕ) → shut_at tag (62 ∷ rest) ≡ Some (Start tag, rest)
unfolding shut_at
start_shuts tag rest = refl

empty_shuts : (tag : Tag) (rest : List ℕ) → shut_at tag (47 ∷ 62 ∷ rest) ≡ Some (Empty tag, rest)
unfolding shut_at
empty_shuts tag rest = refl

tag_parts : (manner : Manner) (shut : List ℕ) (tag : Tag) (text rest : List ℕ) (t : IsTag manner shut tag text) → text ++ rest ≡ tag.name ++ (t.listed ++ (t.space ++ (shut ++ rest)))
tag_parts manner shut tag text rest t = ap (λ (x : List ℕ). x ++ rest) t.text_is ∙ (simp append_assoc)

pub start_again : (manner : Manner) (tag : Tag) (text rest : List ℕ) → IsTag manner (62 ∷ []) tag text → tag_at manner (text ++ rest) ≡ Some (Start tag, rest)
start_again manner tag text rest t =
    ap (tag_at manner) (tag_parts manner (62 ∷ []) tag text rest t) ∙ tag_reads manner tag t.listed t.space rest 62 t.named t.are t.blank shut_not_white shut_no_name ∙ start_shuts tag rest

pub empty_again : (manner : Manner) (tag : Tag) (text rest : List ℕ) → IsTag manner (47 ∷ 62 ∷ []) tag text → tag_at manner (text ++ rest) ≡ Some (Empty tag, rest)
empty_again manner tag text rest t =
    ap (tag_at manner) (tag_parts manner (47 ∷ 62 ∷ []) tag text rest t) ∙ tag_reads manner tag t.listed t.space (62 ∷ rest) 47 t.named t.are t.blank slash_not_white slash_no_name ∙ empty_shuts tag rest

pub end_takes : (bytes rest : List ℕ) (p : Piece) → end_at bytes ≡ Some (p, rest) → IsUtf8 bytes → (name : List ℕ) × (text : List ℕ) × (p ≡ End name) × IsEnd name text × (bytes ≡ text ++ rest)
unfolding end_at
end_takes bytes rest p e u =
    let a = bind_some (name_at bytes) (λ n. behind (62 ∷ []) (past_blank n.1) >>= λ r. Some (End n.0, r)) (p, rest) e in
    let b = bind_some (behind (62 ∷ []) (past_blank a.0.1)) (λ r. Some (End a.0.0, r)) (p, rest) a.2 in
    let n = name_takes bytes a.0.0 a.0.1 a.1 u in
    let blank = blank_takes a.0.1 in
    let both = pairs (End a.0.0, b.0) (p, rest) b.2 in
    let shut : past_blank a.0.1 ≡ 62 ∷ rest = behind_takes (62 ∷ []) (past_blank a.0.1) b.0 b.1 ∙ ap (λ (x : List ℕ). 62 ∷ x) both.1 in
    let text = a.0.0 ++ blank.0 ++ 62 ∷ [] in
    let parts : bytes ≡ text ++ rest = n.1 ∙ ap (λ (x : List ℕ). a.0.0 ++ x) (blank.2 ∙ ap (λ (x : List ℕ). blank.0 ++ x) shut) ∙ sym (simp append_assoc) in
    (a.0.0, text, sym both.0, record { space = blank.0; named = n.0; blank = blank.1; text_is = refl }, parts)

pub end_again : (name text rest : List ℕ) → IsEnd name text → end_at (text ++ rest) ≡ Some (End name, rest)
unfolding end_at
end_again name text rest t =
    let whole : text ++ rest ≡ name ++ (t.space ++ 62 ∷ rest) = ap (λ (x : List ℕ). x ++ rest) t.text_is ∙ (simp append_assoc) in
    ap end_at whole
    ∙ ap (λ (o : Option (List ℕ × List ℕ)). o >>= λ n. behind (62 ∷ []) (past_blank n.1) >>= λ r. Some (End n.0, r)) (named_again name (t.space ++ 62 ∷ rest) t.named (first_of_blank t.space rest 62 t.blank shut_no_name))
    ∙ rw (blank_again t.space rest 62 t.blank shut_not_white) refl
