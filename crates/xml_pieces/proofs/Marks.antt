-- Marks that end comments, instructions and CDATA sections: the first place of one.
use Rattle.std.proofs.Common.{◌≡◌, ℕ, ◌≤◌, Bool, true, false, cond, eqb, List, [], ◌∷◌, ◌++◌, length, Option, Some, None, refl, sym, ap, subst, ◌∙◌, append_assoc, inl, inr, arith}
use Rattle.std.specs.Prelude.{◌&&◌}
use Rattle.std.proofs.lemmas.List.{length-append}
use Rattle.xml_pieces.specs.Pieces.{behind, starts, has_part}
use Rattle.xml_pieces.specs.Reading.{put, until}
use Rattle.xml_pieces.proofs.Strips.{behind_again}
use Rattle.xml_pieces.proofs.Tools.{ahead_cases, pairs, or_false, and_false}
use Rattle.xml_pieces.proofs.Cutting.{put_takes, until_takes}

abbrev none_list : Option (List ℕ)
none_list = None

-- ---- a front that doesn't stand, in a shorter and in a longer text

starts_go : (a b : ℕ) (v : Bool) (more xs ys : List ℕ) → eqb b a ≡ v → (starts more (xs ++ ys) ≡ false → starts more xs ≡ false) → starts (a ∷ more) ((b ∷ xs) ++ ys) ≡ false → starts (a ∷ more) (b ∷ xs) ≡ false
starts_go a b true more xs ys e less h = rw e (less (subst (λ (x : Bool). (x && starts more (xs ++ ys)) ≡ false) e h))
starts_go a b false more xs ys e less h = rw e refl

pub starts_less : (mark xs ys : List ℕ) → starts mark (xs ++ ys) ≡ false → starts mark xs ≡ false
starts_less [] xs ys e = e
starts_less (a ∷ more) [] ys e = refl
starts_less (a ∷ more) (b ∷ xs) ys e = starts_go a b (eqb b a) more xs ys refl (starts_less more xs ys) e

starts_grow : (a b : ℕ) (v : Bool) (more xs ys : List ℕ) → eqb b a ≡ v → (starts more xs ≡ false → starts more (xs ++ ys) ≡ false) → starts (a ∷ more) (b ∷ xs) ≡ false → starts (a ∷ more) ((b ∷ xs) ++ ys) ≡ false
starts_grow a b true more xs ys e less h = rw e (less (subst (λ (x : Bool). (x && starts more xs) ≡ false) e h))
starts_grow a b false more xs ys e less h = rw e refl

starts_more : (mark xs ys : List ℕ) → length mark ≤ length xs → starts mark xs ≡ false → starts mark (xs ++ ys) ≡ false
starts_more [] xs ys le e = e
starts_more (a ∷ more) [] ys le e = absurd (omega (arith, le))
starts_more (a ∷ more) (b ∷ xs) ys le e = starts_grow a b (eqb b a) more xs ys refl (starts_more more xs ys (omega (arith, le))) e

behind_go : (a b : ℕ) (v : Bool) (more bs : List ℕ) → eqb b a ≡ v → (starts more bs ≡ false → behind more bs ≡ None) → starts (a ∷ more) (b ∷ bs) ≡ false → behind (a ∷ more) (b ∷ bs) ≡ None
behind_go a b true more bs e less h = rw e (less (subst (λ (x : Bool). (x && starts more bs) ≡ false) e h))
behind_go a b false more bs e less h = rw e refl

pub not_behind : (mark bytes : List ℕ) → starts mark bytes ≡ false → behind mark bytes ≡ None
not_behind [] bytes e = absurd cc
not_behind (a ∷ more) [] e = refl
not_behind (a ∷ more) (b ∷ bs) e = behind_go a b (eqb b a) more bs refl (not_behind more bs) e

no_go : (a b : ℕ) (v : Bool) (more bs : List ℕ) → eqb b a ≡ v → (behind more bs ≡ None → starts more bs ≡ false) → behind (a ∷ more) (b ∷ bs) ≡ None → starts (a ∷ more) (b ∷ bs) ≡ false
no_go a b true more bs e less h = rw e (less (subst (λ (x : Bool). cond x (behind more bs) none_list ≡ None) e h))
no_go a b false more bs e less h = rw e refl

pub not_starts : (mark bytes : List ℕ) → behind mark bytes ≡ None → starts mark bytes ≡ false
not_starts [] bytes e = absurd cc
not_starts (a ∷ more) [] e = refl
not_starts (a ∷ more) (b ∷ bs) e = no_go a b (eqb b a) more bs refl (not_starts more bs) e

-- ---- a part that stands nowhere

pub has_less : (a : ℕ) (more xs ys : List ℕ) → has_part (a ∷ more) (xs ++ ys) ≡ false → has_part (a ∷ more) xs ≡ false
has_less a more [] ys e = refl
has_less a more (b ∷ xs) ys e =
    let both = or_false (starts (a ∷ more) (b ∷ xs ++ ys)) (has_part (a ∷ more) (xs ++ ys)) e in
    rw (starts_less (a ∷ more) (b ∷ xs) ys both.0, has_less a more xs ys both.1) refl

-- ---- the first place of a mark, which is `init` and a last byte

mark_last : (init rest : List ℕ) (last : ℕ) → (init ++ last ∷ []) ++ rest ≡ init ++ last ∷ rest
mark_last init rest last = simp append_assoc

pub until_again : (init : List ℕ) (last : ℕ) (t rest : List ℕ) → has_part (init ++ last ∷ []) (t ++ init) ≡ false → until (init ++ last ∷ []) (t ++ ((init ++ last ∷ []) ++ rest)) ≡ Some (t, rest)
until_again [] last [] rest apart = let here : behind (last ∷ []) (last ∷ rest) ≡ Some rest = behind_again (last ∷ []) rest in rw here refl
until_again (i ∷ init) last [] rest apart = let here : behind (i ∷ (init ++ last ∷ [])) (i ∷ ((init ++ last ∷ []) ++ rest)) ≡ Some rest = behind_again (i ∷ (init ++ last ∷ [])) rest in rw here refl
until_again init last (b ∷ t) rest apart =
    let mark = init ++ last ∷ [] in
    let both = or_false (starts mark (b ∷ t ++ init)) (has_part mark (t ++ init)) apart in
    let long : length mark ≤ length (b ∷ t ++ init) = omega (arith, length-append init (last ∷ []), length-append t init) in
    let far : starts mark ((b ∷ t ++ init) ++ last ∷ rest) ≡ false = starts_more mark (b ∷ t ++ init) (last ∷ rest) long both.0 in
    let same : (b ∷ t ++ init) ++ last ∷ rest ≡ b ∷ (t ++ (mark ++ rest)) = ap (λ (x : List ℕ). b ∷ x) (append_assoc t init (last ∷ rest) ∙ ap (λ (x : List ℕ). t ++ x) (sym (mark_last init rest last))) in
    let none : behind mark (b ∷ (t ++ (mark ++ rest))) ≡ None = not_behind mark (b ∷ (t ++ (mark ++ rest))) (ap (starts mark) (sym same) ∙ far) in
    rw none (ap (put b) (until_again init last t rest both.1))

pub until_apart : (init : List ℕ) (last : ℕ) (bytes t rest : List ℕ) → has_part (init ++ last ∷ []) init ≡ false → until (init ++ last ∷ []) bytes ≡ Some (t, rest) → has_part (init ++ last ∷ []) (t ++ init) ≡ false
until_apart init last [] t rest small e = absurd cc
until_apart init last (b ∷ bs) t rest small e =
    let mark = init ++ last ∷ [] in
    elim (ahead_cases (behind mark (b ∷ bs)) (put b (until mark bs)) (λ r. Some ([], r)) (Some (t, rest)) e) [
      | inl f ↦ (
          let both = pairs ([], f.0) (t, rest) f.2 in
          subst (λ (x : List ℕ). has_part mark (x ++ init) ≡ false) both.0 small)
      | inr f ↦ (
          let p = put_takes b (until mark bs) t rest f.1 in
          let more = until_apart init last bs p.0 rest small p.1 in
          let whole : bs ≡ p.0 ++ (mark ++ rest) = until_takes mark bs p.0 rest p.1 in
          let same : b ∷ bs ≡ (b ∷ p.0 ++ init) ++ last ∷ rest = ap (λ (x : List ℕ). b ∷ x) (whole ∙ ap (λ (x : List ℕ). p.0 ++ x) (mark_last init rest last) ∙ sym (append_assoc p.0 init (last ∷ rest))) in
          let here : starts mark (b ∷ p.0 ++ init) ≡ false = starts_less mark (b ∷ p.0 ++ init) (last ∷ rest) (ap (starts mark) (sym same) ∙ not_starts mark (b ∷ bs) f.0) in
          let shown : has_part mark ((b ∷ p.0) ++ init) ≡ false = rw (here, more) refl in
          subst (λ (x : List ℕ). has_part mark (x ++ init) ≡ false) (sym p.2) shown)
    ]

-- ---- `?>` and `]]>` can't stand across the end of a text

pub question_part : (t : List ℕ) → has_part (63 ∷ 62 ∷ []) t ≡ false → has_part (63 ∷ 62 ∷ []) (t ++ 63 ∷ []) ≡ false
question_part [] e = refl
question_part (b ∷ []) e = let no_mark : (eqb b 63 && false) ≡ false = and_false (eqb b 63) in rw no_mark refl
question_part (b ∷ c ∷ t) e =
    let both = or_false (starts (63 ∷ 62 ∷ []) (b ∷ c ∷ t)) (has_part (63 ∷ 62 ∷ []) (c ∷ t)) e in
    rw both.0 (question_part (c ∷ t) both.1)

pub cdata_part : (t : List ℕ) → has_part (93 ∷ 93 ∷ 62 ∷ []) t ≡ false → has_part (93 ∷ 93 ∷ 62 ∷ []) (t ++ 93 ∷ 93 ∷ []) ≡ false
cdata_part [] e = refl
cdata_part (b ∷ []) e = let no_mark : (eqb b 93 && false) ≡ false = and_false (eqb b 93) in rw no_mark refl
cdata_part (b ∷ c ∷ []) e =
    let one : (eqb c 93 && false) ≡ false = and_false (eqb c 93) in
    let two : (eqb b 93 && false) ≡ false = and_false (eqb b 93) in
    rw (one, two) refl
cdata_part (b ∷ c ∷ d ∷ t) e =
    let both = or_false (starts (93 ∷ 93 ∷ 62 ∷ []) (b ∷ c ∷ d ∷ t)) (has_part (93 ∷ 93 ∷ 62 ∷ []) (c ∷ d ∷ t)) e in
    rw both.0 (cdata_part (c ∷ d ∷ t) both.1)
