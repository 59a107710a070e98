-- Line ends and white space, run by run.
use Rattle.std.proofs.Common.{◌≡◌, ℕ, zero, suc, ◌<◌, ◌≤◌, Bool, true, false, cond, eqb, List, [], ◌∷◌, ◌++◌, length, take, drop, get_or, refl, sym, ap, subst, ◌∙◌, append_assoc, arith}
use Rattle.std.specs.Prelude.{◌&&◌, ◌||◌, ◌==◌, not}
use Rattle.std.specs.List.{prefix_len, list_all}
use Rattle.std.proofs.lemmas.List.{append-nil}
use Rattle.std.proofs.lemmas.List.Sums.{prefix_len_stops, prefix_len-le-length}
use Rattle.base_texts.specs.WhiteSpace.{is_white_space, spaced}
use Rattle.xml_pieces.specs.Pieces.{starts, line_ends, spaced_ends}
use Rattle.xml_pieces.proofs.Tools.{and_true, not_false}
use Rattle.xml_pieces.proofs.Runs.{prefix_whole}

abbrev pub in_line : ℕ → Bool
in_line b = not (b == 0xD)

abbrev pub is_same : ℕ → Bool
is_same b = not (b == 0x9 || b == 0xA || b == 0xD)

line_go : (b : ℕ) (bs : List ℕ) (v : Bool) → eqb b 0xD ≡ v → line_ends bs ≡ take (prefix_len in_line bs) bs ++ line_ends (drop (prefix_len in_line bs) bs)
    → line_ends (b ∷ bs) ≡ take (prefix_len in_line (b ∷ bs)) (b ∷ bs) ++ line_ends (drop (prefix_len in_line (b ∷ bs)) (b ∷ bs))
line_go b bs true e more = let none : prefix_len in_line (b ∷ bs) ≡ 0 = rw e refl in rw none refl
line_go b bs false e more =
    let one : prefix_len in_line (b ∷ bs) ≡ suc (prefix_len in_line bs) = rw e (omega arith) in
    rw (one, e) (ap (λ (x : List ℕ). b ∷ x) more)

-- bytes before a CR stay
pub line_run : (bs : List ℕ) → line_ends bs ≡ take (prefix_len in_line bs) bs ++ line_ends (drop (prefix_len in_line bs) bs)
line_run [] = refl
line_run (b ∷ bs) = line_go b bs (eqb b 0xD) refl (line_run bs)

spaced_same : (b : ℕ) → is_same b ≡ true → spaced b ≡ b
unfolding is_white_space
spaced_same b e = grind (arith, e)

same_cr : (b : ℕ) → is_same b ≡ true → eqb b 0xD ≡ false
same_cr b e = grind (arith, e)

spaced_go : (b : ℕ) (bs : List ℕ) (v : Bool) → is_same b ≡ v → spaced_ends bs ≡ take (prefix_len is_same bs) bs ++ spaced_ends (drop (prefix_len is_same bs) bs)
    → spaced_ends (b ∷ bs) ≡ take (prefix_len is_same (b ∷ bs)) (b ∷ bs) ++ spaced_ends (drop (prefix_len is_same (b ∷ bs)) (b ∷ bs))
spaced_go b bs false e more = let none : prefix_len is_same (b ∷ bs) ≡ 0 = rw e refl in rw none refl
spaced_go b bs true e more =
    let one : prefix_len is_same (b ∷ bs) ≡ suc (prefix_len is_same bs) = rw e (omega arith) in
    let here : spaced_ends (b ∷ bs) ≡ b ∷ spaced_ends bs = rw (same_cr b e) (ap (λ (x : ℕ). x ∷ spaced_ends bs) (spaced_same b e)) in
    here ∙ rw one (ap (λ (x : List ℕ). b ∷ x) more)

pub spaced_run : (bs : List ℕ) → spaced_ends bs ≡ take (prefix_len is_same bs) bs ++ spaced_ends (drop (prefix_len is_same bs) bs)
spaced_run [] = refl
spaced_run (b ∷ bs) = spaced_go b bs (is_same b) refl (spaced_run bs)

-- what stands behind such a run begins with a byte that fails
fails_at : (p : ℕ → Bool) (b : ℕ) (bs after : List ℕ) (n : ℕ) → n ≤ length bs → (n < length bs → p (get_or bs n 0) ≡ false) → drop n bs ≡ b ∷ after → p b ≡ false
fails_at p b [] after zero le stops e = absurd cc
fails_at p b [] after (suc n) le stops e = absurd cc
fails_at p b (a ∷ bs) after zero le stops e = let same : a ≡ b = cc in subst (λ (x : ℕ). p x ≡ false) same (stops (omega arith))
fails_at p b (a ∷ bs) after (suc n) le stops e = fails_at p b bs after n (omega arith) (λ lt. stops (omega arith)) e

pub run_stops : (p : ℕ → Bool) (b : ℕ) (bs after : List ℕ) → drop (prefix_len p bs) bs ≡ b ∷ after → p b ≡ false
run_stops p b bs after e = fails_at p b bs after (prefix_len p bs) (prefix_len-le-length p bs) (prefix_len_stops p bs 0) e

-- ---- the steps of the loops: `old` is the text so far, `rest` what is left

pub lines_end : (old rest total : List ℕ) → drop (prefix_len in_line rest) rest ≡ [] → old ++ line_ends rest ≡ total → old ++ take (prefix_len in_line rest) rest ≡ total
lines_end old rest total e so_far =
    let is : line_ends rest ≡ take (prefix_len in_line rest) rest = line_run rest ∙ ap (λ (x : List ℕ). take (prefix_len in_line rest) rest ++ line_ends x) e ∙ append-nil (take (prefix_len in_line rest) rest) in
    ap (λ (x : List ℕ). old ++ x) (sym is) ∙ so_far

-- what a CR and the bytes behind it give
cr_gives : (b : ℕ) (after : List ℕ) (v : Bool) → eqb b 0xD ≡ true → starts (0xA ∷ []) after ≡ v → line_ends (b ∷ after) ≡ cond v (line_ends after) (0xA ∷ line_ends after)
cr_gives b after v e s = rw (e, s) refl

lines_step : (old rest after total : List ℕ) (b : ℕ) (v : Bool) → drop (prefix_len in_line rest) rest ≡ b ∷ after → starts (0xA ∷ []) after ≡ v → old ++ line_ends rest ≡ total
    → (old ++ take (prefix_len in_line rest) rest) ++ cond v (line_ends after) (0xA ∷ line_ends after) ≡ total
lines_step old rest after total b v e s so_far =
    let t = take (prefix_len in_line rest) rest in
    let cr : eqb b 0xD ≡ true = not_false (eqb b 0xD) (run_stops in_line b rest after e) in
    let is : line_ends rest ≡ t ++ cond v (line_ends after) (0xA ∷ line_ends after) = line_run rest ∙ ap (λ (x : List ℕ). t ++ line_ends x) e ∙ ap (λ (x : List ℕ). t ++ x) (cr_gives b after v cr s) in
    append_assoc old t (cond v (line_ends after) (0xA ∷ line_ends after)) ∙ ap (λ (x : List ℕ). old ++ x) (sym is) ∙ so_far

pub lines_skip : (old rest after total : List ℕ) (b : ℕ) → drop (prefix_len in_line rest) rest ≡ b ∷ after → starts (0xA ∷ []) after ≡ true → old ++ line_ends rest ≡ total
    → (old ++ take (prefix_len in_line rest) rest) ++ line_ends after ≡ total
lines_skip old rest after total b e s so_far = lines_step old rest after total b true e s so_far

pub lines_put : (old rest after total : List ℕ) (b : ℕ) → drop (prefix_len in_line rest) rest ≡ b ∷ after → starts (0xA ∷ []) after ≡ false → old ++ line_ends rest ≡ total
    → ((old ++ take (prefix_len in_line rest) rest) ++ 0xA ∷ []) ++ line_ends after ≡ total
lines_put old rest after total b e s so_far =
    append_assoc (old ++ take (prefix_len in_line rest) rest) (0xA ∷ []) (line_ends after) ∙ lines_step old rest after total b false e s so_far

pub spaced_end : (old rest total : List ℕ) → drop (prefix_len is_same rest) rest ≡ [] → old ++ spaced_ends rest ≡ total → old ++ take (prefix_len is_same rest) rest ≡ total
spaced_end old rest total e so_far =
    let is : spaced_ends rest ≡ take (prefix_len is_same rest) rest = spaced_run rest ∙ ap (λ (x : List ℕ). take (prefix_len is_same rest) rest ++ spaced_ends x) e ∙ append-nil (take (prefix_len is_same rest) rest) in
    ap (λ (x : List ℕ). old ++ x) (sym is) ∙ so_far

white_gives : (b : ℕ) → is_same b ≡ false → spaced b ≡ 0x20
unfolding is_white_space
white_gives b e = grind (arith, e)

white_of_line : spaced 0xA ≡ 0x20
unfolding is_white_space
white_of_line = refl

-- what a byte that a value doesn't keep gives with the bytes behind it
other_gives : (b : ℕ) (after : List ℕ) (cr line : Bool) → is_same b ≡ false → eqb b 0xD ≡ cr → starts (0xA ∷ []) after ≡ line → spaced_ends (b ∷ after) ≡ cond (cr && line) (spaced_ends after) (0x20 ∷ spaced_ends after)
other_gives b after true true w e s = rw (e, s) refl
other_gives b after true false w e s = rw (e, s) (ap (λ (x : ℕ). x ∷ spaced_ends after) white_of_line)
other_gives b after false line w e s = rw e (ap (λ (x : ℕ). x ∷ spaced_ends after) (white_gives b w))

spaced_step : (old rest after total : List ℕ) (b : ℕ) (cr line : Bool) → drop (prefix_len is_same rest) rest ≡ b ∷ after → eqb b 0xD ≡ cr → starts (0xA ∷ []) after ≡ line → old ++ spaced_ends rest ≡ total
    → (old ++ take (prefix_len is_same rest) rest) ++ cond (cr && line) (spaced_ends after) (0x20 ∷ spaced_ends after) ≡ total
spaced_step old rest after total b cr line e c s so_far =
    let t = take (prefix_len is_same rest) rest in
    let is : spaced_ends rest ≡ t ++ cond (cr && line) (spaced_ends after) (0x20 ∷ spaced_ends after) = spaced_run rest ∙ ap (λ (x : List ℕ). t ++ spaced_ends x) e ∙ ap (λ (x : List ℕ). t ++ x) (other_gives b after cr line (run_stops is_same b rest after e) c s) in
    append_assoc old t (cond (cr && line) (spaced_ends after) (0x20 ∷ spaced_ends after)) ∙ ap (λ (x : List ℕ). old ++ x) (sym is) ∙ so_far

pub spaced_skip : (old rest after total : List ℕ) (b : ℕ) → drop (prefix_len is_same rest) rest ≡ b ∷ after → eqb b 0xD ≡ true → starts (0xA ∷ []) after ≡ true → old ++ spaced_ends rest ≡ total
    → (old ++ take (prefix_len is_same rest) rest) ++ spaced_ends after ≡ total
spaced_skip old rest after total b e c s so_far = spaced_step old rest after total b true true e c s so_far

pub spaced_put : (old rest after total : List ℕ) (b : ℕ) (cr line : Bool) → drop (prefix_len is_same rest) rest ≡ b ∷ after → eqb b 0xD ≡ cr → starts (0xA ∷ []) after ≡ line → (cr && line) ≡ false → old ++ spaced_ends rest ≡ total
    → ((old ++ take (prefix_len is_same rest) rest) ++ 0x20 ∷ []) ++ spaced_ends after ≡ total
spaced_put old rest after total b cr line e c s apart so_far =
    append_assoc (old ++ take (prefix_len is_same rest) rest) (0x20 ∷ []) (spaced_ends after)
    ∙ (let k : (old ++ take (prefix_len is_same rest) rest) ++ (0x20 ∷ spaced_ends after) ≡ (old ++ take (prefix_len is_same rest) rest) ++ cond (cr && line) (spaced_ends after) (0x20 ∷ spaced_ends after) = rw apart refl in k)
    ∙ spaced_step old rest after total b cr line e c s so_far

-- ---- texts that stay as they are

pub take-all : (bs : List ℕ) → take (length bs) bs ≡ bs
take-all [] = refl
take-all (b ∷ bs) = ap (λ (x : List ℕ). b ∷ x) (take-all bs)

pub drop-all : (bs : List ℕ) → drop (length bs) bs ≡ []
drop-all [] = refl
drop-all (b ∷ bs) = drop-all bs

same_whole : (bs : List ℕ) → list_all is_same bs ≡ true → prefix_len is_same bs ≡ length bs
same_whole bs e = prefix_whole is_same bs e

pub stay_lines : (bs : List ℕ) → prefix_len in_line bs ≡ length bs → line_ends bs ≡ bs
stay_lines bs e = line_run bs ∙ rw e (λ i. take-all bs i ++ line_ends (drop-all bs i)) ∙ append-nil bs

pub stay_spaced : (bs : List ℕ) → list_all is_same bs ≡ true → spaced_ends bs ≡ bs
stay_spaced bs e = spaced_run bs ∙ rw (same_whole bs e) (λ i. take-all bs i ++ spaced_ends (drop-all bs i)) ∙ append-nil bs

pub empty_is : (bs : List ℕ) → length bs ≡ 0 → bs ≡ []
empty_is [] e = refl
empty_is (b ∷ bs) e = absurd (omega arith)

-- the same with the names of the loops: `front` and `back` are the parts of `rest`
pub lines_ended : (old new front back rest total : List ℕ) (n : ℕ) → n ≡ prefix_len in_line rest → front ≡ take n rest → back ≡ drop n rest → new ≡ old ++ front → length back ≡ 0 → old ++ line_ends rest ≡ total → new ≡ total
lines_ended old new front back rest total n n_is front_is back_is new_is none so_far =
    new_is ∙ ap (λ (x : List ℕ). old ++ x) (front_is ∙ ap (λ (k : ℕ). take k rest) n_is)
    ∙ lines_end old rest total (ap (λ (k : ℕ). drop k rest) (sym n_is) ∙ sym back_is ∙ empty_is back none) so_far

pub lines_skipped : (old new front back rest after total : List ℕ) (b n : ℕ) → n ≡ prefix_len in_line rest → front ≡ take n rest → back ≡ drop n rest → new ≡ old ++ front → back ≡ b ∷ after → starts (0xA ∷ []) after ≡ true → old ++ line_ends rest ≡ total
    → new ++ line_ends after ≡ total
lines_skipped old new front back rest after total b n n_is front_is back_is new_is back_has s so_far =
    ap (λ (x : List ℕ). x ++ line_ends after) (new_is ∙ ap (λ (x : List ℕ). old ++ x) (front_is ∙ ap (λ (k : ℕ). take k rest) n_is))
    ∙ lines_skip old rest after total b (ap (λ (k : ℕ). drop k rest) (sym n_is) ∙ sym back_is ∙ back_has) s so_far

pub lines_joined : (old new newer front back rest after total : List ℕ) (b n : ℕ) → n ≡ prefix_len in_line rest → front ≡ take n rest → back ≡ drop n rest → new ≡ old ++ front → back ≡ b ∷ after → newer ≡ new ++ 0xA ∷ []
    → starts (0xA ∷ []) after ≡ false → old ++ line_ends rest ≡ total → newer ++ line_ends after ≡ total
lines_joined old new newer front back rest after total b n n_is front_is back_is new_is back_has newer_is s so_far =
    ap (λ (x : List ℕ). x ++ line_ends after) (newer_is ∙ ap (λ (x : List ℕ). x ++ 0xA ∷ []) (new_is ∙ ap (λ (x : List ℕ). old ++ x) (front_is ∙ ap (λ (k : ℕ). take k rest) n_is)))
    ∙ lines_put old rest after total b (ap (λ (k : ℕ). drop k rest) (sym n_is) ∙ sym back_is ∙ back_has) s so_far

pub spaced_ended : (old new front back rest total : List ℕ) (n : ℕ) → n ≡ prefix_len is_same rest → front ≡ take n rest → back ≡ drop n rest → new ≡ old ++ front → length back ≡ 0 → old ++ spaced_ends rest ≡ total → new ≡ total
spaced_ended old new front back rest total n n_is front_is back_is new_is none so_far =
    new_is ∙ ap (λ (x : List ℕ). old ++ x) (front_is ∙ ap (λ (k : ℕ). take k rest) n_is)
    ∙ spaced_end old rest total (ap (λ (k : ℕ). drop k rest) (sym n_is) ∙ sym back_is ∙ empty_is back none) so_far

pub spaced_skipped : (old new front back rest after total : List ℕ) (b n : ℕ) → n ≡ prefix_len is_same rest → front ≡ take n rest → back ≡ drop n rest → new ≡ old ++ front → back ≡ b ∷ after → (b == 0xD && starts (0xA ∷ []) after) ≡ true → old ++ spaced_ends rest ≡ total
    → new ++ spaced_ends after ≡ total
spaced_skipped old new front back rest after total b n n_is front_is back_is new_is back_has both so_far =
    let each = and_true (eqb b 0xD) (starts (0xA ∷ []) after) both in
    ap (λ (x : List ℕ). x ++ spaced_ends after) (new_is ∙ ap (λ (x : List ℕ). old ++ x) (front_is ∙ ap (λ (k : ℕ). take k rest) n_is))
    ∙ spaced_skip old rest after total b (ap (λ (k : ℕ). drop k rest) (sym n_is) ∙ sym back_is ∙ back_has) each.0 each.1 so_far

pub spaced_joined : (old new newer front back rest after total : List ℕ) (b n : ℕ) → n ≡ prefix_len is_same rest → front ≡ take n rest → back ≡ drop n rest → new ≡ old ++ front → back ≡ b ∷ after → newer ≡ new ++ 0x20 ∷ []
    → (b == 0xD && starts (0xA ∷ []) after) ≡ false → old ++ spaced_ends rest ≡ total → newer ++ spaced_ends after ≡ total
spaced_joined old new newer front back rest after total b n n_is front_is back_is new_is back_has newer_is apart so_far =
    ap (λ (x : List ℕ). x ++ spaced_ends after) (newer_is ∙ ap (λ (x : List ℕ). x ++ 0x20 ∷ []) (new_is ∙ ap (λ (x : List ℕ). old ++ x) (front_is ∙ ap (λ (k : ℕ). take k rest) n_is)))
    ∙ spaced_put old rest after total b (eqb b 0xD) (starts (0xA ∷ []) after) (ap (λ (k : ℕ). drop k rest) (sym n_is) ∙ sym back_is ∙ back_has) refl refl apart so_far
