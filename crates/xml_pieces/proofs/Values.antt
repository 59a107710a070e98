-- References in values, one after the other.
use Rattle.std.proofs.Common.{◌≡◌, ℕ, ◌<◌, Bool, true, eqb, List, [], ◌∷◌, ◌++◌, length, take, drop, Option, Some, None, refl, sym, ap, ◌∙◌, append_assoc, arith}
use Rattle.std.specs.Prelude.{◌||◌, not, ◌==◌, encode_utf8}
use Rattle.std.specs.List.{list_all}
use Rattle.std.proofs.lemmas.List.{append-nil, length-append, length-drop}
use Rattle.xml_pieces.specs.Pieces.{behind, spaced_ends, Exact}
use Rattle.xml_pieces.specs.Reading.{◌>>=◌, before, many, only, run_len, reference_at, mention_at, joined, all_read, replaced, is_loose, value_of}
use Rattle.xml_pieces.proofs.Strips.{behind_takes}
use Rattle.xml_pieces.proofs.Tools.{bind_some, pairs, and_true}
use Rattle.xml_pieces.proofs.Many.{Consumes, one_more, no_more}
use Rattle.xml_pieces.proofs.References.{reference_takes}
use Rattle.xml_pieces.proofs.Runs.{prefix_whole}
use Rattle.xml_pieces.proofs.Ends.{is_same, take-all, drop-all, stay_spaced}

mention_less : (bytes : List ℕ) (x : List ℕ) (rest : List ℕ) → mention_at bytes ≡ Some (x, rest) → length rest < length bytes
unfolding mention_at
mention_less bytes x rest e =
    let value : ℕ × List ℕ → List ℕ × List ℕ = λ c. (encode_utf8 c.0 ++ spaced_ends (take (run_len c.1) c.1), drop (run_len c.1) c.1) in
    let a = bind_some (behind (0x26 ∷ []) bytes) (λ inner. reference_at inner >>= λ c. Some (value c)) (x, rest) e in
    let b = bind_some (reference_at a.0) (λ c. Some (value c)) (x, rest) a.2 in
    let both = pairs (value b.0) (x, rest) b.2 in
    let t = reference_takes a.0 b.0.1 b.0.0 b.1 in
    omega (arith, ap length (behind_takes (0x26 ∷ []) bytes a.0 a.1), ap length t.2, length-append t.0 b.0.1, length-drop (run_len b.0.1) b.0.1, ap length both.1)

pub mentions_consume : Consumes mention_at
mentions_consume = record { less = mention_less }

abbrev some_list : List ℕ → Option (List ℕ)
some_list l = Some l

-- the loop begins
pub mention_first : (written value new first rest : List ℕ) (n : ℕ) → n ≡ run_len written → first ≡ take n written → rest ≡ drop n written → new ≡ value ++ spaced_ends first → value ≡ [] → all_read new (many mention_at (length rest) rest) ≡ replaced written
unfolding replaced
mention_first written value new first rest n n_is first_is rest_is new_is value_is =
    let front : new ≡ spaced_ends (take (run_len written) written) = new_is ∙ ap (λ (x : List ℕ). x ++ spaced_ends first) value_is ∙ ap spaced_ends (first_is ∙ ap (λ (k : ℕ). take k written) n_is) in
    let back : rest ≡ drop (run_len written) written = rest_is ∙ ap (λ (k : ℕ). drop k written) n_is in
    λ i. all_read (front i) (many mention_at (length (back i)) (back i))

read_more : (old x : List ℕ) (r : List (List ℕ) × List ℕ) → all_read old (before x r) ≡ all_read (old ++ x) r
read_more old x r = ap (λ (l : List ℕ). only (eqb (length r.1) 0) (some_list l)) (sym (append_assoc old x (joined r.0)))

-- a reference and the run behind it
pub mention_on : (old middle new rest run behind : List ℕ) (c : ℕ) (o : Option (List ℕ)) → mention_at rest ≡ Some (encode_utf8 c ++ spaced_ends run, behind) → middle ≡ old ++ encode_utf8 c → new ≡ middle ++ spaced_ends run
    → all_read old (many mention_at (length rest) rest) ≡ o → all_read new (many mention_at (length behind) behind) ≡ o
mention_on old middle new rest run behind c o e middle_is new_is so_far =
    let x = encode_utf8 c ++ spaced_ends run in
    let more = many mention_at (length behind) behind in
    let one = one_more mention_at mentions_consume rest x behind e in
    let text : new ≡ old ++ x = new_is ∙ ap (λ (l : List ℕ). l ++ spaced_ends run) middle_is ∙ append_assoc old (encode_utf8 c) (spaced_ends run) in
    ap (λ (l : List ℕ). all_read l more) text ∙ sym (read_more old x more) ∙ ap (all_read old) (sym one) ∙ so_far

-- nothing more is read
pub mention_end : (old rest : List ℕ) (o : Option (List ℕ)) → mention_at rest ≡ None → all_read old (many mention_at (length rest) rest) ≡ o → o ≡ only (length rest == 0) (Some old)
mention_end old rest o e so_far =
    sym so_far ∙ ap (all_read old) (no_more mention_at mentions_consume rest e) ∙ ap (λ (l : List ℕ). only (eqb (length rest) 0) (some_list l)) (append-nil old)

abbrev pub is_kept : ℕ → Bool
is_kept b = not (b == 0x26 || b == 0x9 || b == 0xA || b == 0xD)

kept_runs : (b : ℕ) → is_kept b ≡ true → (not (b == 0x26) ≡ true) × (is_same b ≡ true)
kept_runs b e = (grind (arith, e), grind (arith, e))

all_runs : (bs : List ℕ) → list_all is_kept bs ≡ true → (list_all (λ b. not (b == 0x26)) bs ≡ true) × (list_all is_same bs ≡ true)
all_runs [] e = (refl, refl)
all_runs (b ∷ bs) e =
    let both = and_true (is_kept b) (list_all is_kept bs) e in
    let here = kept_runs b both.0 in
    let more = all_runs bs both.1 in
    (rw here.0 more.0, rw here.1 more.1)

stays : (written : List ℕ) → list_all is_kept written ≡ true → replaced written ≡ Some written
unfolding replaced
stays written e =
    let runs = all_runs written e in
    let long : run_len written ≡ length written = prefix_whole (λ b. not (b == 0x26)) written runs.0 in
    let front : take (run_len written) written ≡ written = ap (λ (k : ℕ). take k written) long ∙ take-all written in
    let back : drop (run_len written) written ≡ [] = ap (λ (k : ℕ). drop k written) long ∙ drop-all written in
    rw (front, back, stay_spaced written runs.1) (ap some_list (append-nil written))

pub kept_value : (written : List ℕ) → is_loose written ≡ true → list_all is_kept written ≡ true → value_of Exact written ≡ Some written
unfolding value_of
kept_value written loose e = rw loose (stays written e)
