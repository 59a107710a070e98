use Rattle.module_parse.proofs.marks.type_mark_kind.Goals as goal

pub returns-in-UseNil-clause-value : goal.returns-in-UseNil-clause-value
returns-in-UseNil-clause-value c = rw c.in-UseNil.is c.plain_mark.ensures.value

pub returns-in-EmbedValues-clause-value : goal.returns-in-EmbedValues-clause-value
returns-in-EmbedValues-clause-value c = rw c.in-EmbedValues.is c.plain_mark-in-EmbedValues.ensures.value

pub returns-in-UseOrder-clause-value : goal.returns-in-UseOrder-clause-value
returns-in-UseOrder-clause-value c = rw c.in-UseOrder.is c.plain_mark-in-UseOrder.ensures.value

pub returns-in-List-clause-value : goal.returns-in-List-clause-value
returns-in-List-clause-value c = rw c.in-List.is c.plain_mark-in-List.ensures.value

pub returns-in-UseUnion-clause-value : goal.returns-in-UseUnion-clause-value
returns-in-UseUnion-clause-value c = rw c.in-UseUnion.is c.plain_mark-in-UseUnion.ensures.value

pub returns-in-UseNumber-clause-value : goal.returns-in-UseNumber-clause-value
returns-in-UseNumber-clause-value c = rw c.in-UseNumber.is c.plain_mark-in-UseNumber.ensures.value

pub returns-in-WhiteSpace-clause-value : goal.returns-in-WhiteSpace-clause-value
returns-in-WhiteSpace-clause-value c = rw c.in-WhiteSpace.is c.white_space_mark.ensures.value

pub returns-in-Text-clause-value : goal.returns-in-Text-clause-value
returns-in-Text-clause-value c = rw c.in-Text.is c.text_mark.ensures.value
