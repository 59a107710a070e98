use Rattle.std.proofs.Common.{◌≡◌, true, ◌≤◌, length}
use Rattle.std.specs.List.{list_all}
use Rattle.base_texts.specs.Digits.{is_digit, number_from}
use Rattle.transcode_words.proofs.words.number_of.Given as goal

-- the number so far goes on with the rest
abbrev pub invariant-digits : goal.invariant-digits
invariant-digits l = record {
  rest : number_from l.number l.rest ≡ number_from 0 l.digits;
  digits : list_all is_digit l.rest ≡ true;
  small : l.number ≤ 100000;
}

abbrev pub decreases-digits : goal.decreases-digits
decreases-digits l = length l.rest
