-- What is read as a value is one, and a value is read.
use Rattle.std.proofs.Common.{◌≡◌, ℕ, zero, suc, false, eqb, List, [], ◌∷◌, ◌++◌, length, take, drop, Option, Some, None, refl, sym, ap, ◌∙◌, append_assoc, inl, inr}
use Rattle.std.specs.Prelude.{◌==◌, not, IsUtf8, encode_utf8}
use Rattle.std.proofs.lemmas.List.{append-nil, take_at, drop_at, take-append-drop}
use Rattle.std.proofs.lemmas.Bool.{eqb-true}
use Rattle.xml_pieces.specs.Pieces.{behind, has_byte, spaced_ends, Mention, AreMentions, written_mentions, read_mentions, IsReplaced, IsReference, Manner, Exact, Loose, IsValue}
use Rattle.xml_pieces.specs.Reading.{◌>>=◌, before, many, is_text, is_loose, run_len, reference_at, mention_at, joined, replaced, value_of}
use Rattle.xml_pieces.proofs.Strips.{behind_takes}
use Rattle.xml_pieces.proofs.Tools.{bind_some, pairs, only_some, and_true, not_true, some_is, ahead_cases}
use Rattle.xml_pieces.proofs.Many.{one_more, no_more}
use Rattle.xml_pieces.proofs.References.{reference_takes, reference_again}
use Rattle.xml_pieces.proofs.Runs.{all_front, prefix_again, prefix_whole}
use Rattle.xml_pieces.proofs.Ends.{empty_is}
use Rattle.xml_pieces.proofs.Spaces.{apart_all, all_apart}
use Rattle.xml_pieces.proofs.Values.{mentions_consume}

-- a run of other characters before `&` or before the end
abbrev IsRun : List ℕ → Type 0
IsRun run = has_byte 0x26 run ≡ false

run_again : (run : List ℕ) (ms : List Mention) → IsRun run → run_len (run ++ written_mentions ms) ≡ length run
run_again run [] apart = ap run_len (append-nil run) ∙ prefix_whole (λ b. not (b == 0x26)) run (apart_all 0x26 run apart)
run_again run (m ∷ ms) apart =
    let at : run ++ written_mentions (m ∷ ms) ≡ run ++ 0x26 ∷ (m.text ++ m.run ++ written_mentions ms) = refl in
    prefix_again (λ b. not (b == 0x26)) run (m.text ++ m.run ++ written_mentions ms) 0x26 (apart_all 0x26 run apart) refl

abbrev gives : Mention → List ℕ
gives m = encode_utf8 m.character ++ spaced_ends m.run

-- a mention is read
mention_again : (m : Mention) (ms : List Mention) → IsReference m.character m.text → IsRun m.run → mention_at (written_mentions (m ∷ ms)) ≡ Some (gives m, written_mentions ms)
unfolding mention_at
mention_again m ms r apart =
    let rest = m.run ++ written_mentions ms in
    let at : written_mentions (m ∷ ms) ≡ 0x26 ∷ (m.text ++ rest) = ap (λ (x : List ℕ). 0x26 ∷ x) (append_assoc m.text m.run (written_mentions ms)) in
    let long = run_again m.run ms apart in
    let last : ℕ × List ℕ → Option (List ℕ × List ℕ) = λ c. Some (encode_utf8 c.0 ++ spaced_ends (take (run_len c.1) c.1), drop (run_len c.1) c.1) in
    ap mention_at at ∙ ap (λ (o : Option (ℕ × List ℕ)). o >>= last) (reference_again m.character m.text rest r)
    ∙ rw (long, take_at m.run (written_mentions ms) (length m.run) refl, drop_at m.run (written_mentions ms) (length m.run) refl) refl

abbrev all_given : List Mention → List (List ℕ)
all_given [] = []
all_given (m ∷ ms) = gives m ∷ all_given ms

none_at_end : mention_at [] ≡ None
unfolding mention_at
none_at_end = refl

mentions_again : (ms : List Mention) → AreMentions ms → many mention_at (length (written_mentions ms)) (written_mentions ms) ≡ (all_given ms, [])
mentions_again [] are = no_more mention_at mentions_consume [] none_at_end
mentions_again (m ∷ ms) are =
    one_more mention_at mentions_consume (written_mentions (m ∷ ms)) (gives m) (written_mentions ms) (mention_again m ms are.0 are.1)
    ∙ ap (before (gives m)) (mentions_again ms are.2)

joined_given : (ms : List Mention) → joined (all_given ms) ≡ read_mentions ms
joined_given [] = refl
joined_given (m ∷ ms) = rw (joined_given ms) refl

replaced_again : (written value : List ℕ) → IsReplaced written value → replaced written ≡ Some value
unfolding replaced
replaced_again written value r =
    let rest = written_mentions r.mentions in
    let long : run_len (r.first ++ rest) ≡ length r.first = run_again r.first r.mentions r.plain in
    ap replaced r.written_is
    ∙ rw (long, take_at r.first rest (length r.first) refl, drop_at r.first rest (length r.first) refl, mentions_again r.mentions r.are, joined_given r.mentions) (ap (λ (x : List ℕ). Some x) (sym r.value_is))

-- what is read as mentions is written as mentions
mention_takes : (bytes x rest : List ℕ) → mention_at bytes ≡ Some (x, rest) → (m : Mention) × IsReference m.character m.text × IsRun m.run × (x ≡ gives m) × (bytes ≡ 0x26 ∷ m.text ++ m.run ++ rest)
unfolding mention_at
mention_takes bytes x rest e =
    let value : ℕ × List ℕ → List ℕ × List ℕ = λ c. (encode_utf8 c.0 ++ spaced_ends (take (run_len c.1) c.1), drop (run_len c.1) c.1) in
    let a = bind_some (behind (0x26 ∷ []) bytes) (λ inner. reference_at inner >>= λ c. Some (value c)) (x, rest) e in
    let b = bind_some (reference_at a.0) (λ c. Some (value c)) (x, rest) a.2 in
    let both = pairs (value b.0) (x, rest) b.2 in
    let t = reference_takes a.0 b.0.1 b.0.0 b.1 in
    let run = take (run_len b.0.1) b.0.1 in
    let cut : b.0.1 ≡ run ++ rest = sym (take-append-drop (run_len b.0.1) b.0.1) ∙ ap (λ (y : List ℕ). run ++ y) both.1 in
    let whole : bytes ≡ 0x26 ∷ t.0 ++ run ++ rest = behind_takes (0x26 ∷ []) bytes a.0 a.1 ∙ ap (λ (y : List ℕ). 0x26 ∷ y) (t.2 ∙ ap (λ (y : List ℕ). t.0 ++ y) cut ∙ sym (append_assoc t.0 run rest)) in
    (record { character = b.0.0; text = t.0; run = run }, t.1, all_apart 0x26 run (all_front (λ b. not (b == 0x26)) b.0.1), sym both.0, whole)

mentions_takes : (n : ℕ) (bytes : List ℕ) (xs : List (List ℕ)) → many mention_at n bytes ≡ (xs, []) → (ms : List Mention) × AreMentions ms × (bytes ≡ written_mentions ms) × (joined xs ≡ read_mentions ms)
mentions_takes zero bytes xs e =
    let list_is : [] ≡ xs = ap (λ (p : List (List ℕ) × List ℕ). p.0) e in
    let rest_is : bytes ≡ [] = ap (λ (p : List (List ℕ) × List ℕ). p.1) e in
    ([], tt, rest_is, sym (ap joined list_is))
mentions_takes (suc n) bytes xs e = elim (ahead_cases (mention_at bytes) ([], bytes) (λ x. before x.0 (many mention_at n x.1)) (xs, []) e) [
  | inl f ↦ (
      let r = many mention_at n f.0.1 in
      let list_is : f.0.0 ∷ r.0 ≡ xs = ap (λ (p : List (List ℕ) × List ℕ). p.0) f.2 in
      let rest_is : r.1 ≡ [] = ap (λ (p : List (List ℕ) × List ℕ). p.1) f.2 in
      let ms = mentions_takes n f.0.1 r.0 (ap (λ (x : List ℕ). (r.0, x)) rest_is) in
      let m = mention_takes bytes f.0.0 f.0.1 f.1 in
      (m.0 ∷ ms.0, (m.1, m.2, ms.1), m.4 ∙ ap (λ (x : List ℕ). (0x26 ∷ m.0.text ++ m.0.run) ++ x) ms.2, sym (ap joined list_is) ∙ (λ i. m.3 i ++ ms.3 i)))
  | inr f ↦ (
      let list_is : [] ≡ xs = ap (λ (p : List (List ℕ) × List ℕ). p.0) f.1 in
      let rest_is : bytes ≡ [] = ap (λ (p : List (List ℕ) × List ℕ). p.1) f.1 in
      ([], tt, rest_is, sym (ap joined list_is)))
]

replaced_takes : (written value : List ℕ) → replaced written ≡ Some value → IsReplaced written value
unfolding replaced
replaced_takes written value e =
    let n = run_len written in
    let rest = drop n written in
    let r = many mention_at (length rest) rest in
    let o = only_some (eqb (length r.1) 0) (Some (spaced_ends (take n written) ++ joined r.0)) value e in
    let none : r.1 ≡ [] = empty_is r.1 (eqb-true (length r.1) 0 o.0) in
    let ms = mentions_takes (length rest) rest r.0 (ap (λ (x : List ℕ). (r.0, x)) none) in
    record {
      first = take n written;
      mentions = ms.0;
      plain = all_apart 0x26 (take n written) (all_front (λ b. not (b == 0x26)) written);
      are = ms.1;
      written_is = sym (take-append-drop n written) ∙ ap (λ (x : List ℕ). take n written ++ x) ms.2;
      value_is = sym (some_is (spaced_ends (take n written) ++ joined r.0) value o.1) ∙ ap (λ (x : List ℕ). spaced_ends (take n written) ++ x) ms.3;
    }

pub value_takes : (manner : Manner) (written value : List ℕ) → value_of manner written ≡ Some value → IsUtf8 written → IsValue manner written value
unfolding value_of
value_takes Exact written value e u =
    let o = only_some (is_loose written) (replaced written) value e in
    let tests = and_true (is_text written) (not (has_byte 0x3C written)) o.0 in
    record { text = record { utf8 = u; each = tests.0 }; no_tag = not_true (has_byte 0x3C written) tests.1; gives = replaced_takes written value o.1 }
value_takes Loose written value e u =
    let o = only_some (is_loose written) (Some written) value e in
    let tests = and_true (is_text written) (not (has_byte 0x3C written)) o.0 in
    record { text = record { utf8 = u; each = tests.0 }; no_tag = not_true (has_byte 0x3C written) tests.1; gives = sym (some_is written value o.1) }

pub value_again : (manner : Manner) (written value : List ℕ) → IsValue manner written value → value_of manner written ≡ Some value
unfolding value_of
value_again Exact written value v = rw (v.text.each, v.no_tag) (replaced_again written value v.gives)
value_again Loose written value v = rw (v.text.each, v.no_tag) (ap (λ (x : List ℕ). Some x) (sym v.gives))
