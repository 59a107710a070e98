use Rattle.std.proofs.Common.{sym, ap, ◌∙◌}
use Rattle.simple_types.specs.Seen.{space_of}
use Rattle.simple_types.specs.Reading.{reads}
use Rattle.simple_types.proofs.Readings.{reads-Bool, reads-Whole, reads-Numbers, reads-Words, reads-Chars, sound-Numbers, sound-Words}
use Rattle.simple_types.proofs.accepting.accept_label.Goals as goal

pub read_number-requires-clause-sorted : goal.read_number-requires-clause-sorted
read_number-requires-clause-sorted c =
    let known = sound-Numbers c.args.simple.now c.in-Numbers.numbers c.in-Numbers.is c.requires in
    rw c.items.ensures known.1

pub read_number-requires-clause-count : goal.read_number-requires-clause-count
read_number-requires-clause-count c =
    let known = sound-Numbers c.args.simple.now c.in-Numbers.numbers c.in-Numbers.is c.requires in
    rw c.items.ensures known.0.1

pub read_word-requires-clause-sorted : goal.read_word-requires-clause-sorted
read_word-requires-clause-sorted c =
    let known = sound-Words c.args.simple.now c.in-Words.space c.in-Words.words c.in-Words.is c.requires in
    rw c.items-in-Words.ensures known.1

pub read_word-requires-clause-count : goal.read_word-requires-clause-count
read_word-requires-clause-count c =
    let known = sound-Words c.args.simple.now c.in-Words.space c.in-Words.words c.in-Words.is c.requires in
    rw c.items-in-Words.ensures known.0.1

pub returns-in-Bool : goal.returns-in-Bool
returns-in-Bool c = rw (ap (λ t. reads (space_of c.args.simple.now) t) (sym c.as_str-text.ensures) ∙ reads-Bool c.args.simple.now c.as_str-text.result.now c.in-Bool.is) (c.alone.ensures _ c.read_boolean.ensures)

pub returns-in-Whole : goal.returns-in-Whole
returns-in-Whole c = rw (ap (λ t. reads (space_of c.args.simple.now) t) (sym c.as_str-text.ensures) ∙ reads-Whole c.args.simple.now c.as_str-text.result.now c.in-Whole.lo c.in-Whole.hi c.in-Whole.is) (c.alone-in-Whole.ensures _ c.read_whole.ensures)

pub returns-in-Numbers : goal.returns-in-Numbers
returns-in-Numbers c = rw (ap (λ t. reads (space_of c.args.simple.now) t) (sym c.as_str-text.ensures) ∙ reads-Numbers c.args.simple.now c.as_str-text.result.now c.in-Numbers.numbers c.in-Numbers.is, sym c.items.ensures) (c.alone-in-Numbers.ensures _ c.read_number.ensures)

pub returns-in-Words : goal.returns-in-Words
returns-in-Words c = rw (ap (λ t. reads (space_of c.args.simple.now) t) (sym c.as_str-text.ensures) ∙ reads-Words c.args.simple.now c.as_str-text.result.now c.in-Words.space c.in-Words.words c.in-Words.is, sym c.items-in-Words.ensures) (c.alone-in-Words.ensures _ c.read_word.ensures)

pub returns-in-Chars : goal.returns-in-Chars
returns-in-Chars c = rw (ap (λ t. reads (space_of c.args.simple.now) t) (sym c.as_str-text.ensures) ∙ reads-Chars c.args.simple.now c.as_str-text.result.now c.in-Chars.space c.in-Chars.min c.in-Chars.max c.in-Chars.class c.in-Chars.is) (c.alone-in-Chars.ensures _ c.read_characters.ensures)
