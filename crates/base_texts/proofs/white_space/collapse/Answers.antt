use Rattle.std.proofs.Common.{◌≡◌, ◌<◌, [], ◌∷◌, ◌++◌, arith, ap, length, sym, ◌∙◌, string_bytes}
use Rattle.std.proofs.lemmas.Bool.Decides.{nat_tests}
use Rattle.std.proofs.lemmas.Str.{encode_ascii}
use Rattle.base_texts.specs.WhiteSpace.{words_of}
use Rattle.base_texts.proofs.Joining.{joined, joined-nil, joined-start, joins_first, joins_further}
use Rattle.base_texts.proofs.WordLaws.{word_has}
use Rattle.base_texts.proofs.white_space.collapse.Goals as goal
use Rattle.base_texts.proofs.white_space.collapse.Goals.{then-not-is_empty+in_ok-push, else-not-is_empty}

pub words-init : goal.words-init
words-init c = record { text = c.utf8.text; so_far = joined-start _ _ c.in_ok-collapsed.ensures.bytes }

pub words-smaller : goal.words-smaller
words-smaller c = let fewer = ap length c.in-Some.ensures.words in omega arith

pub words-preserved : goal.words-preserved
words-preserved c =
    let out = string_bytes c.words.collapsed in
    let word = c.in-Some.word.now in
    let words = words_of c.in-Some.behind.now in
    let ok = c.words.collapsed.bytes.ok in
    let step : joined (string_bytes c.push_str.new.self) words ≡ joined out (word ∷ words) = elim c.if-not-is_empty.branch [
      | then-not-is_empty+in_ok-push w ↦
          let some : 0 < length out = grind (arith, nat_tests, ok) in
          let spaced : string_bytes c.if-not-is_empty.collapsed ≡ out ++ 32 ∷ [] = rw w.collapsed-is (w.in_ok-push.ensures.bytes ∙ ap (λ l. out ++ l) (encode_ascii 32 (omega arith))) in
          let pushed : string_bytes c.push_str.new.self ≡ (out ++ 32 ∷ []) ++ word = c.in_ok-push_str.ensures.bytes ∙ ap (λ l. l ++ word) spaced in
          rw pushed (joins_further out word words some)
      | else-not-is_empty w ↦
          let none : length out ≡ 0 = grind (arith, nat_tests, ok) in
          let pushed : string_bytes c.push_str.new.self ≡ out ++ word = c.in_ok-push_str.ensures.bytes ∙ ap (λ s. string_bytes s ++ word) w.collapsed-is in
          rw pushed (joins_first out word words none (word_has _ _ _ c.in-Some.ensures.words))
    ] in
    record { text = c.in-Some.ensures.text.1; so_far = step ∙ ap (joined out) (sym c.in-Some.ensures.words) ∙ c.words.invariant.so_far }

pub returns : goal.returns
returns c = sym (joined-nil _) ∙ ap (joined (string_bytes c.words.collapsed)) (sym c.in_default.ensures.words) ∙ c.words.invariant.so_far
