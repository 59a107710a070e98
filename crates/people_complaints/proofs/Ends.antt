-- What the front of a text ends in.
use Rattle.std.proofs.Common.{◌≡◌, ℕ, ◌+◌, true, List, [], ◌∷◌, ◌++◌, refl, ap, ◌∙◌, arith}
use Rattle.people_complaints.specs.Lines.{is_line, EndsInLine}

-- a line without its end, alone
pub alone : (here : List ℕ) → is_line here ≡ true → EndsInLine here 1 here
alone here l = record { before = []; lines = refl; begun = l; split = refl; count = refl }

-- one more line before
pub one_more : (line behind here h : List ℕ) (n : ℕ) → is_line line ≡ true → here ≡ line ++ 10 ∷ behind → EndsInLine behind n h → EndsInLine here (n + 1) h
one_more line behind here h n l e at = record {
  before = line ∷ at.before;
  lines = rw (l, at.lines) refl;
  begun = at.begun;
  split = e ∙ ap (λ b. line ++ 10 ∷ b) at.split;
  count = omega (arith, at.count);
}
