use Rattle.std.proofs.Common.{rules}
use Rattle.std.proofs.lemmas.Fn.{always_returns_same}
use Rattle.std.specs.Cmp.Lexicographic.{slice_cmp}
use Rattle.std.specs.Ordering.{nat_cmp}
use Rattle.simple_types.proofs.Places.{found_word, missed_word}
use Rattle.simple_types.proofs.reading.place_of_text.Goals as goal

pub returns-in-Ok : goal.returns-in-Ok
returns-in-Ok c =
    let x = c.args.text.now in
    found_word x c.args.words.now c.in-Ok.i c.requires.sorted c.in-Ok.ensures.bound
    (c.in-Ok.ensures.position (λ w. slice_cmp nat_cmp w x) (always_returns_same _ _ _ (λ a r f k. search rules)))

pub returns-in-Err : goal.returns-in-Err
returns-in-Err c =
    let x = c.args.text.now in
    missed_word x c.args.words.now c.in-Err.field-0 c.requires.sorted
    (c.in-Err.ensures.position (λ w. slice_cmp nat_cmp w x) (always_returns_same _ _ _ (λ a r f k. search rules)))
