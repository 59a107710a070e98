use Rattle.link_names.proofs.numbers.SimpleNumbers.of.Goals as goal

pub returns : goal.returns
returns c = λ i. record { named = λ a. c.in_ok-named.ensures a i; placed = λ p. c.in_ok-placed.ensures p i }
