use Rattle.std.proofs.Common.{◌≡◌, true}
use Rattle.base_texts.specs.Digits.{is_numeral}
use Rattle.schema_syntax.proofs.Greater.{greater_number}
use Rattle.schema_syntax.proofs.numbers.is_over.Goals.{then-is_numeral, else-is_numeral}
use Rattle.schema_syntax.proofs.numbers.is_over.Goals as goal

pub returns-then-is_numeral-2 : goal.returns-then-is_numeral-2
returns-then-is_numeral-2 c =
    elim c.if-is_numeral.branch [
      | then-is_numeral w ↦
          let first : is_numeral c.args.a.now ≡ true = cc in
          let second : is_numeral c.args.b.now ≡ true = cc in
          greater_number c.args.a.now c.args.b.now _ _ _ first second c.without_zeros.ensures c.without_zeros-then-is_numeral-2.ensures c.is_greater.ensures
      | else-is_numeral w ↦ cc
    ]
