-- What is read as a comment, a CDATA section, an instruction or the declaration is one, and each is read.
use Rattle.std.proofs.Common.{◌≡◌, ℕ, true, false, cond, eqb, List, [], ◌∷◌, ◌++◌, Option, Some, refl, sym, ap, subst, ◌∙◌, append_assoc, inl, inr}
use Rattle.std.specs.Prelude.{◌&&◌, not, IsUtf8, chars, bytes_eq}
use Rattle.std.specs.List.{list_all}
use Rattle.std.specs.Str.{str_eq_ignore_ascii_case}
use Rattle.std.proofs.lemmas.Slice.Eq.{bytes_eq-Decides}
use Rattle.base_texts.specs.Characters.{is_name, is_ncname}
use Rattle.base_texts.specs.WhiteSpace.{is_blank}
use Rattle.xml_pieces.specs.Pieces.{Piece, Comment, Instruction, CData, behind, line_ends, IsName, IsComment, IsCData, IsInstruction, is_apart, xml_name}
use Rattle.xml_pieces.specs.Reading.{◌>>=◌, only, until, is_text, is_name_byte, comment_at, cdata_at, is_target, instruction_at, declaration_at, question_at}
use Rattle.xml_pieces.proofs.Strips.{behind_takes}
use Rattle.xml_pieces.proofs.Tools.{bind_some, pairs, only_some, and_true, not_true, tells}
use Rattle.xml_pieces.proofs.Cutting.{until_takes}
use Rattle.xml_pieces.proofs.Marks.{has_less, until_again, until_apart, question_part, cdata_part}
use Rattle.xml_pieces.proofs.Spaces.{FirstOf, first_of_blank}
use Rattle.xml_pieces.proofs.Utf8.{until_utf8}
use Rattle.xml_pieces.proofs.TagLaws.{named_again}

abbrev dashes : List ℕ
dashes = 45 ∷ 45 ∷ []

abbrev brackets : List ℕ
brackets = 93 ∷ 93 ∷ 62 ∷ []

abbrev question : List ℕ
question = 63 ∷ 62 ∷ []

-- ---- comments

pub comment_takes : (bytes rest : List ℕ) (p : Piece) → comment_at bytes ≡ Some (p, rest) → IsUtf8 bytes → (p ≡ Comment) × (text : List ℕ) × IsComment text × (bytes ≡ text ++ rest)
unfolding comment_at
comment_takes bytes rest p e u =
    let a = bind_some (until dashes bytes) (λ i. behind (62 ∷ []) i.1 >>= λ r. only (is_text i.0) (Some (Comment, r))) (p, rest) e in
    let b = bind_some (behind (62 ∷ []) a.0.1) (λ r. only (is_text a.0.0) (Some (Comment, r))) (p, rest) a.2 in
    let o = only_some (is_text a.0.0) (Some (Comment, b.0)) (p, rest) b.2 in
    let both = pairs (Comment, b.0) (p, rest) o.1 in
    let inner = a.0.0 in
    let text = inner ++ 45 ∷ 45 ∷ 62 ∷ [] in
    let end : a.0.1 ≡ 62 ∷ rest = behind_takes (62 ∷ []) a.0.1 b.0 b.1 ∙ ap (λ (x : List ℕ). 62 ∷ x) both.1 in
    let parts : bytes ≡ text ++ rest = until_takes dashes bytes inner a.0.1 a.1 ∙ ap (λ (x : List ℕ). inner ++ 45 ∷ 45 ∷ x) end ∙ sym (simp append_assoc) in (
      sym both.0,
      text,
      record { inner = inner; is_text = record { utf8 = (until_utf8 45 (45 ∷ []) bytes inner a.0.1 refl a.1 u).0; each = o.0 }; apart = until_apart (45 ∷ []) 45 bytes inner a.0.1 refl a.1; text_is = refl },
      parts,
    )

pub comment_again : (text rest : List ℕ) → IsComment text → comment_at (text ++ rest) ≡ Some (Comment, rest)
unfolding comment_at
comment_again text rest c =
    let whole : text ++ rest ≡ c.inner ++ (dashes ++ 62 ∷ rest) = ap (λ (x : List ℕ). x ++ rest) c.text_is ∙ (simp append_assoc) in
    ap comment_at whole
    ∙ ap (λ (o : Option (List ℕ × List ℕ)). o >>= λ i. behind (62 ∷ []) i.1 >>= λ r. only (is_text i.0) (Some (Comment, r))) (until_again (45 ∷ []) 45 c.inner (62 ∷ rest) c.apart)
    ∙ rw c.is_text.each refl

-- ---- CDATA

pub cdata_takes : (bytes rest : List ℕ) (p : Piece) → cdata_at bytes ≡ Some (p, rest) → IsUtf8 bytes → (value : List ℕ) × (text : List ℕ) × (p ≡ CData value) × IsCData value text × (bytes ≡ text ++ rest)
unfolding cdata_at
cdata_takes bytes rest p e u =
    let a = bind_some (until brackets bytes) (λ i. only (is_text i.0) (Some (CData (line_ends i.0), i.1))) (p, rest) e in
    let inner = a.0.0 in
    let o = only_some (is_text inner) (Some (CData (line_ends inner), a.0.1)) (p, rest) a.2 in
    let both = pairs (CData (line_ends inner), a.0.1) (p, rest) o.1 in
    let text = inner ++ brackets in
    let parts : bytes ≡ text ++ rest = until_takes brackets bytes inner a.0.1 a.1 ∙ ap (λ (x : List ℕ). inner ++ (brackets ++ x)) both.1 ∙ sym (append_assoc inner brackets rest) in
    let far = until_apart (93 ∷ 93 ∷ []) 62 bytes inner a.0.1 refl a.1 in (
      line_ends inner,
      text,
      sym both.0,
      record { inner = inner; is_text = record { utf8 = (until_utf8 93 (93 ∷ 62 ∷ []) bytes inner a.0.1 refl a.1 u).0; each = o.0 }; apart = has_less 93 (93 ∷ 62 ∷ []) inner (93 ∷ 93 ∷ []) far; value_is = refl; text_is = refl },
      parts,
    )

pub cdata_again : (value text rest : List ℕ) → IsCData value text → cdata_at (text ++ rest) ≡ Some (CData value, rest)
unfolding cdata_at
cdata_again value text rest c =
    let whole : text ++ rest ≡ c.inner ++ (brackets ++ rest) = ap (λ (x : List ℕ). x ++ rest) c.text_is ∙ append_assoc c.inner brackets rest in
    ap cdata_at whole
    ∙ ap (λ (o : Option (List ℕ × List ℕ)). o >>= λ i. only (is_text i.0) (Some (CData (line_ends i.0), i.1))) (until_again (93 ∷ 93 ∷ []) 62 c.inner rest (cdata_part c.inner c.apart))
    ∙ rw c.is_text.each (ap (λ (x : List ℕ). Some (CData x, rest)) (sym c.value_is))

-- ---- instructions

pub instruction_takes : (bytes target back rest : List ℕ) (p : Piece) → IsUtf8 target → bytes ≡ target ++ back → IsUtf8 back → instruction_at target back ≡ Some (p, rest) → (p ≡ Instruction) × (text : List ℕ) × IsInstruction text × (bytes ≡ text ++ rest)
unfolding instruction_at
instruction_takes bytes target back rest p u is v e =
    let a = bind_some (until question back) (λ i. only (is_target target && (is_apart i.0 && is_text i.0)) (Some (Instruction, i.1))) (p, rest) e in
    let inner = a.0.0 in
    let o = only_some (is_target target && (is_apart inner && is_text inner)) (Some (Instruction, a.0.1)) (p, rest) a.2 in
    let tests = and_true (is_target target) (is_apart inner && is_text inner) o.0 in
    let named = and_true (is_ncname (chars target)) (not (str_eq_ignore_ascii_case target xml_name)) tests.0 in
    let body = and_true (is_apart inner) (is_text inner) tests.1 in
    let both = pairs (Instruction, a.0.1) (p, rest) o.1 in
    let text = target ++ inner ++ question in
    let parts : bytes ≡ text ++ rest = is ∙ ap (λ (x : List ℕ). target ++ x) (until_takes question back inner a.0.1 a.1 ∙ ap (λ (x : List ℕ). inner ++ (question ++ x)) both.1) ∙ sym (simp append_assoc) in
    let far = until_apart (63 ∷ []) 62 back inner a.0.1 refl a.1 in (
      sym both.0,
      text,
      record {
        target = target;
        inner = inner;
        utf8 = u;
        named = named.0;
        not_xml = not_true (str_eq_ignore_ascii_case target xml_name) named.1;
        spaces = body.0;
        is_text = record { utf8 = (until_utf8 63 (62 ∷ []) back inner a.0.1 refl a.1 v).0; each = body.1 };
        apart = has_less 63 (62 ∷ []) inner (63 ∷ []) far;
        text_is = refl;
      },
      parts,
    )

question_no_name : is_name_byte 63 ≡ false
unfolding is_name_byte
question_no_name = refl

abbrev head_or : ℕ → List ℕ → ℕ
head_or d [] = d
head_or d (b ∷ bs) = b

white_first : (inner rest : List ℕ) → is_apart inner ≡ true → FirstOf (inner ++ 63 ∷ rest)
white_first [] rest e = first_of_blank [] rest 63 refl question_no_name
white_first (b ∷ bs) rest e =
    let blank : is_blank (b ∷ []) ≡ true = rw e refl in
    let one = first_of_blank (b ∷ []) [] 63 blank question_no_name in
    let head_is : one.head ≡ b = sym (ap (head_or 0) one.is) in
    record { head = b; tail = bs ++ 63 ∷ rest; is = refl; no_name = subst (λ (x : ℕ). is_name_byte x ≡ false) head_is one.no_name }

ncname_is_name : (cs : List ℕ) → is_ncname cs ≡ true → is_name cs ≡ true
ncname_is_name cs e = (and_true (is_name cs) (list_all (λ c. not (eqb c 0x3A)) cs) e).0

same_case : (name : List ℕ) → name ≡ xml_name → str_eq_ignore_ascii_case name xml_name ≡ true
same_case name e = rw e refl

-- a name that isn't xml in any case isn't xml
not_exactly : (name : List ℕ) → str_eq_ignore_ascii_case name xml_name ≡ false → bytes_eq name xml_name ≡ false
not_exactly name e = elim (tells (bytes_eq name xml_name)) [
  | inl h ↦ absurd (let yes_same : str_eq_ignore_ascii_case name xml_name ≡ true = same_case name ((bytes_eq-Decides name xml_name).0 h) in cc)
  | inr h ↦ h
]

pub instruction_again : (text rest : List ℕ) → IsInstruction text → question_at (text ++ rest) ≡ Some (Instruction, rest)
unfolding question_at instruction_at
instruction_again text rest i =
    let back = i.inner ++ (question ++ rest) in
    let whole : text ++ rest ≡ i.target ++ back = ap (λ (x : List ℕ). x ++ rest) i.text_is ∙ (simp append_assoc) in
    let name : IsName i.target = record { utf8 = i.utf8; named = ncname_is_name (chars i.target) i.named } in
    let other : bytes_eq i.target xml_name ≡ false = not_exactly i.target i.not_xml in
    ap question_at whole
    ∙ ap (λ (o : Option (List ℕ × List ℕ)). o >>= λ n. cond (bytes_eq n.0 xml_name) (declaration_at n.1) (instruction_at n.0 n.1)) (named_again i.target back name (white_first i.inner (62 ∷ rest) i.spaces))
    ∙ rw (other, until_again (63 ∷ []) 62 i.inner rest (question_part i.inner i.apart), i.named, i.not_xml, i.spaces, i.is_text.each) refl
