-- What is read as the declaration is one, and it is read.
use Rattle.std.proofs.Common.{◌≡◌, ℕ, true, false, cond, eqb, List, [], ◌∷◌, ◌++◌, drop, Option, Some, None, refl, sym, ap, subst, ◌∙◌, append_assoc, inl, inr, arith}
use Rattle.std.specs.Prelude.{◌⊎◌, ◌&&◌, IsUtf8, bytes_eq}
use Rattle.std.specs.Str.{chars}
use Rattle.std.proofs.Math.Utf8.{encode}
use Rattle.std.proofs.lemmas.Slice.Eq.{bytes_eq-Decides}
use Rattle.base_texts.specs.Characters.{is_name_start, is_name_char}
use Rattle.base_texts.specs.WhiteSpace.{is_white_space, is_blank}
use Rattle.xml_pieces.specs.Pieces.{Piece, Declaration, Instruction, behind, IsName, IsSpace, IsAssigned, MaybeAssigned, IsInstruction, xml_name, version_name, encoding_name, standalone_name, is_standalone, is_version, is_encoding, IsDeclaration, IsAccepted}
use Rattle.xml_pieces.specs.Reading.{◌>>=◌, ahead, only, past_blank, space_at, name_at, equals_at, quoted_at, instruction_at, assigned_at, with_some, maybe_assigned_at, declared_at, declaration_at, question_at}
use Rattle.xml_pieces.proofs.Strips.{behind_again, behind_takes}
use Rattle.xml_pieces.proofs.Tools.{bind_some, pairs, only_some, and_true, some_is, chosen}
use Rattle.xml_pieces.proofs.Names.{name_takes}
use Rattle.xml_pieces.proofs.Spaces.{blank_takes, blank_again, space_takes, space_again, equals_takes, equals_again, upto_apart, quoted_again, quote_stop}
use Rattle.xml_pieces.proofs.Utf8.{quoted_takes, name_rest_utf8}
use Rattle.xml_pieces.proofs.TagLaws.{assigned_parts, named_again, first_of_space, first_same, no_space}
use Rattle.xml_pieces.proofs.MarkupLaws.{instruction_takes}

assigned_takes : (name bytes written rest : List ℕ) → assigned_at name bytes ≡ Some (written, rest) → (text : List ℕ) × IsAssigned name written text × (bytes ≡ text ++ rest)
unfolding assigned_at
assigned_takes name bytes written rest e =
    let a = bind_some (space_at bytes) (λ spaced. behind name spaced >>= λ named. equals_at named >>= λ inner. quoted_at inner) (written, rest) e in
    let b = bind_some (behind name a.0) (λ named. equals_at named >>= λ inner. quoted_at inner) (written, rest) a.2 in
    let d = bind_some (equals_at b.0) (λ inner. quoted_at inner) (written, rest) b.2 in
    let sp = space_takes bytes a.0 a.1 in
    let eq = equals_takes b.0 d.0 d.1 in
    let q = quoted_takes d.0 written rest d.2 in
    let text = sp.0 ++ name ++ eq.0 ++ 61 ∷ eq.1 ++ q.0 ∷ written ++ q.0 ∷ [] in
    let back : b.0 ≡ eq.0 ++ 61 ∷ (eq.1 ++ q.0 ∷ (written ++ q.0 ∷ rest)) = eq.4 ∙ ap (λ (x : List ℕ). eq.0 ++ 61 ∷ (eq.1 ++ x)) q.3 in
    let whole : bytes ≡ sp.0 ++ (name ++ (eq.0 ++ 61 ∷ (eq.1 ++ q.0 ∷ (written ++ q.0 ∷ rest)))) = sp.2 ∙ ap (λ (x : List ℕ). sp.0 ++ x) (behind_takes name a.0 b.0 b.1 ∙ ap (λ (x : List ℕ). name ++ x) back) in
    let as_assigned : IsAssigned name written text = record {
      space = sp.0;
      before = eq.0;
      after = eq.1;
      quote = q.0;
      spaces = sp.1;
      blank_before = eq.2;
      blank_after = eq.3;
      quotes = q.1;
      inside = upto_apart q.0 (drop 1 d.0) written rest q.2;
      text_is = refl;
    } in
    (text, as_assigned, whole ∙ sym (assigned_parts name written text rest as_assigned))

assigned_again : (m : ℕ) (more written text rest : List ℕ) → is_white_space m ≡ false → IsAssigned (m ∷ more) written text → assigned_at (m ∷ more) (text ++ rest) ≡ Some (written, rest)
unfolding assigned_at
assigned_again m more written text rest white a =
    let inner = a.quote ∷ (written ++ a.quote ∷ rest) in
    let named = a.before ++ 61 ∷ (a.after ++ inner) in
    ap (assigned_at (m ∷ more)) (assigned_parts (m ∷ more) written text rest a)
    ∙ ap (λ (o : Option (List ℕ)). o >>= λ spaced. behind (m ∷ more) spaced >>= λ n. equals_at n >>= λ i. quoted_at i) (space_again a.space (more ++ named) m a.spaces white)
    ∙ ap (λ (o : Option (List ℕ)). o >>= λ n. equals_at n >>= λ i. quoted_at i) (behind_again (m ∷ more) named)
    ∙ ap (λ (o : Option (List ℕ)). o >>= λ i. quoted_at i) (equals_again a.before a.after (written ++ a.quote ∷ rest) a.quote a.blank_before a.blank_after (quote_stop a.quote a.quotes))
    ∙ quoted_again a.quote written rest a.quotes a.inside

-- white space and a byte with which the name doesn't begin
no_assigned : (m : ℕ) (more space rest : List ℕ) (b : ℕ) → is_blank space ≡ true → is_white_space b ≡ false → eqb b m ≡ false → assigned_at (m ∷ more) (space ++ b ∷ rest) ≡ None
unfolding assigned_at
no_assigned m more [] rest b blank white apart = rw (no_space b rest white) refl
no_assigned m more (s ∷ space) rest b blank white apart =
    let is_space : IsSpace (s ∷ space) = record { some = omega arith; blank = blank } in
    rw (space_again (s ∷ space) rest b is_space white, apart) refl

maybe_go : (name bytes : List ℕ) (o : Option (List ℕ × List ℕ)) → assigned_at name bytes ≡ o → (text : List ℕ) × MaybeAssigned name (ahead o (None, bytes) with_some).0 text × (bytes ≡ text ++ (ahead o (None, bytes) with_some).1)
maybe_go name bytes (Some r) e = assigned_takes name bytes r.0 r.1 e
maybe_go name bytes None e = ([], refl, refl)

maybe_takes : (name bytes : List ℕ) → (text : List ℕ) × MaybeAssigned name (maybe_assigned_at name bytes).0 text × (bytes ≡ text ++ (maybe_assigned_at name bytes).1)
unfolding maybe_assigned_at
maybe_takes name bytes = maybe_go name bytes (assigned_at name bytes) refl

maybe_again : (m : ℕ) (more text rest : List ℕ) (o : Option (List ℕ)) → is_white_space m ≡ false → MaybeAssigned (m ∷ more) o text → assigned_at (m ∷ more) rest ≡ None → maybe_assigned_at (m ∷ more) (text ++ rest) ≡ (o, rest)
unfolding maybe_assigned_at
maybe_again m more text rest None white is none = ap (λ (x : List ℕ). maybe_assigned_at (m ∷ more) (x ++ rest)) is ∙ rw none refl
maybe_again m more text rest (Some written) white is none = rw (assigned_again m more written text rest white is) refl

pub declared_takes : (bytes version rest : List ℕ) (encoding : Option (List ℕ)) → declared_at bytes ≡ Some (version, encoding, rest) → (text : List ℕ) × IsDeclaration version encoding text × (bytes ≡ text ++ rest)
unfolding declared_at
declared_takes bytes version rest encoding e =
    let f = bind_some (assigned_at version_name bytes) (λ v. let en = maybe_assigned_at encoding_name v.1 in let sa = maybe_assigned_at standalone_name en.1 in only (is_standalone sa.0) (behind (63 ∷ 62 ∷ []) (past_blank sa.1) >>= λ r. Some (v.0, en.0, r))) (version, encoding, rest) e in
    let v = f.0 in
    let en = maybe_assigned_at encoding_name v.1 in
    let sa = maybe_assigned_at standalone_name en.1 in
    let o = only_some (is_standalone sa.0) (behind (63 ∷ 62 ∷ []) (past_blank sa.1) >>= λ r. Some (v.0, en.0, r)) (version, encoding, rest) f.2 in
    let b = bind_some (behind (63 ∷ 62 ∷ []) (past_blank sa.1)) (λ r. Some (v.0, en.0, r)) (version, encoding, rest) o.1 in
    let same = some_is (v.0, en.0, b.0) (version, encoding, rest) b.2 in
    let version_is : v.0 ≡ version = ap (λ (t : List ℕ × Option (List ℕ) × List ℕ). t.0) same in
    let encoding_is : en.0 ≡ encoding = ap (λ (t : List ℕ × Option (List ℕ) × List ℕ). t.1) same in
    let rest_is : b.0 ≡ rest = ap (λ (t : List ℕ × Option (List ℕ) × List ℕ). t.2) same in
    let one = assigned_takes version_name bytes v.0 v.1 f.1 in
    let two = maybe_takes encoding_name v.1 in
    let three = maybe_takes standalone_name en.1 in
    let blank = blank_takes sa.1 in
    let end : past_blank sa.1 ≡ 63 ∷ 62 ∷ rest = behind_takes (63 ∷ 62 ∷ []) (past_blank sa.1) b.0 b.1 ∙ ap (λ (x : List ℕ). 63 ∷ 62 ∷ x) rest_is in
    let text = one.0 ++ two.0 ++ three.0 ++ blank.0 ++ 63 ∷ 62 ∷ [] in
    let parts : bytes ≡ text ++ rest = one.2 ∙ ap (λ (x : List ℕ). one.0 ++ x) (two.2 ∙ ap (λ (x : List ℕ). two.0 ++ x) (three.2 ∙ ap (λ (x : List ℕ). three.0 ++ x) (blank.2 ∙ ap (λ (x : List ℕ). blank.0 ++ x) end))) ∙ sym (simp append_assoc) in (
      text,
      record {
        standalone = sa.0;
        version_text = one.0;
        encoding_text = two.0;
        standalone_text = three.0;
        space = blank.0;
        versioned = subst (λ (x : List ℕ). IsAssigned version_name x one.0) version_is one.1;
        encoded = subst (λ (x : Option (List ℕ)). MaybeAssigned encoding_name x two.0) encoding_is two.1;
        alone = three.1;
        accepted = o.0;
        blank = blank.1;
        text_is = refl;
      },
      parts,
    )

abbrev IsLetter : ℕ → Type 0
IsLetter m = is_white_space m ≡ false

v_letter : IsLetter 118
unfolding is_white_space
v_letter = refl

e_letter : IsLetter 101
unfolding is_white_space
e_letter = refl

s_letter : IsLetter 115
unfolding is_white_space
s_letter = refl

question_letter : IsLetter 63
unfolding is_white_space
question_letter = refl

-- no encoding stands before the standalone declaration, nor before the end
no_encoding : (o : Option (List ℕ)) (text space rest : List ℕ) → MaybeAssigned standalone_name o text → is_blank space ≡ true → assigned_at encoding_name (text ++ (space ++ 63 ∷ rest)) ≡ None
no_encoding None text space rest is blank =
    ap (λ (x : List ℕ). assigned_at encoding_name (x ++ (space ++ 63 ∷ rest))) is ∙ no_assigned 101 (110 ∷ 99 ∷ 111 ∷ 100 ∷ 105 ∷ 110 ∷ 103 ∷ []) space rest 63 blank question_letter refl
no_encoding (Some written) text space rest is blank =
    ap (assigned_at encoding_name) (assigned_parts standalone_name written text (space ++ 63 ∷ rest) is)
    ∙ no_assigned 101 (110 ∷ 99 ∷ 111 ∷ 100 ∷ 105 ∷ 110 ∷ 103 ∷ []) is.space (drop 1 standalone_name ++ (is.before ++ 61 ∷ (is.after ++ is.quote ∷ (written ++ is.quote ∷ (space ++ 63 ∷ rest))))) 115 is.spaces.blank s_letter refl

pub declared_again : (version text rest : List ℕ) (encoding : Option (List ℕ)) → IsDeclaration version encoding text → declared_at (text ++ rest) ≡ Some (version, encoding, rest)
unfolding declared_at
declared_again version text rest encoding d =
    let end = d.space ++ 63 ∷ 62 ∷ rest in
    let third = d.standalone_text ++ end in
    let second = d.encoding_text ++ third in
    let whole : text ++ rest ≡ d.version_text ++ second = ap (λ (x : List ℕ). x ++ rest) d.text_is ∙ (simp append_assoc) in
    ap declared_at whole
    ∙ rw (
      assigned_again 118 (drop 1 version_name) version d.version_text second v_letter d.versioned,
      maybe_again 101 (drop 1 encoding_name) d.encoding_text third encoding e_letter d.encoded (no_encoding d.standalone d.standalone_text d.space (62 ∷ rest) d.alone d.blank),
      maybe_again 115 (drop 1 standalone_name) d.standalone_text end d.standalone s_letter d.alone (no_assigned 115 (drop 1 standalone_name) d.space (62 ∷ rest) 63 d.blank question_letter refl),
      d.accepted,
      blank_again d.space (62 ∷ rest) 63 d.blank question_letter,
    ) refl

declaration_takes : (bytes rest : List ℕ) (p : Piece) → declaration_at bytes ≡ Some (p, rest) → (p ≡ Declaration) × (text : List ℕ) × IsAccepted text × (bytes ≡ text ++ rest)
unfolding declaration_at
declaration_takes bytes rest p e =
    let f = bind_some (declared_at bytes) (λ d. only (is_version d.0 && is_encoding d.1) (Some (Declaration, d.2))) (p, rest) e in
    let o = only_some (is_version f.0.0 && is_encoding f.0.1) (Some (Declaration, f.0.2)) (p, rest) f.2 in
    let tests = and_true (is_version f.0.0) (is_encoding f.0.1) o.0 in
    let both = pairs (Declaration, f.0.2) (p, rest) o.1 in
    let d = declared_takes bytes f.0.0 f.0.2 f.0.1 f.1 in
    (sym both.0, d.0, record { version = f.0.0; encoding = f.0.1; declares = d.1; version_ok = tests.0; encoding_ok = tests.1 }, d.2 ∙ ap (λ (x : List ℕ). d.0 ++ x) both.1)

abbrev pub IsQuestion : List ℕ → Piece → List ℕ → Type 0
IsQuestion bytes p rest =
    ((p ≡ Declaration) × (text : List ℕ) × IsAccepted text × (bytes ≡ xml_name ++ (text ++ rest)))
    ⊎ ((p ≡ Instruction) × (text : List ℕ) × IsInstruction text × (bytes ≡ text ++ rest))

pub question_takes : (bytes rest : List ℕ) (p : Piece) → question_at bytes ≡ Some (p, rest) → IsUtf8 bytes → IsQuestion bytes p rest
unfolding question_at
question_takes bytes rest p e u =
    let f = bind_some (name_at bytes) (λ n. cond (bytes_eq n.0 xml_name) (declaration_at n.1) (instruction_at n.0 n.1)) (p, rest) e in
    let n = name_takes bytes f.0.0 f.0.1 f.1 u in
    elim (chosen (bytes_eq f.0.0 xml_name) (declaration_at f.0.1) (instruction_at f.0.0 f.0.1) (Some (p, rest)) f.2) [
      | inl h ↦ (
          let d = declaration_takes f.0.1 rest p h.1 in
          let named : f.0.0 ≡ xml_name = (bytes_eq-Decides f.0.0 xml_name).0 h.0 in
          inl (d.0, d.1, d.2, n.1 ∙ (λ i. named i ++ d.3 i)))
      | inr h ↦ inr (instruction_takes bytes f.0.0 f.0.1 rest p n.0.utf8 n.1 (name_rest_utf8 bytes f.0.0 f.0.1 f.1 u).1 h.1)
    ]

xml_is_name : IsName xml_name
unfolding chars is_name_start is_name_char encode
xml_is_name = record { utf8 = (xml_name, (refl, refl)); named = refl }

pub xml_first : (version text rest : List ℕ) (encoding : Option (List ℕ)) → IsDeclaration version encoding text → name_at (xml_name ++ (text ++ rest)) ≡ Some (xml_name, text ++ rest)
xml_first version text rest encoding d =
    let v = d.versioned in
    let more = d.encoding_text ++ (d.standalone_text ++ (d.space ++ 63 ∷ 62 ∷ rest)) in
    let whole : text ++ rest ≡ d.version_text ++ more = ap (λ (x : List ℕ). x ++ rest) d.text_is ∙ (simp append_assoc) in
    let parts = assigned_parts version_name version d.version_text more v in
    named_again xml_name (text ++ rest) xml_is_name (first_same (text ++ rest) (v.space ++ (version_name ++ (v.before ++ 61 ∷ (v.after ++ v.quote ∷ (version ++ v.quote ∷ more))))) (whole ∙ parts) (first_of_space v.space (version_name ++ (v.before ++ 61 ∷ (v.after ++ v.quote ∷ (version ++ v.quote ∷ more)))) v.spaces))

pub declaration_again : (text rest : List ℕ) → IsAccepted text → question_at (xml_name ++ (text ++ rest)) ≡ Some (Declaration, rest)
unfolding question_at declaration_at
declaration_again text rest a =
    ap (λ (o : Option (List ℕ × List ℕ)). o >>= λ n. cond (bytes_eq n.0 xml_name) (declaration_at n.1) (instruction_at n.0 n.1)) (xml_first a.version text rest a.encoding a.declares)
    ∙ ap (λ (o : Option (List ℕ × Option (List ℕ) × List ℕ)). o >>= λ d. only (is_version d.0 && is_encoding d.1) (Some (Declaration, d.2))) (declared_again a.version text rest a.encoding a.declares)
    ∙ rw (a.version_ok, a.encoding_ok) refl
