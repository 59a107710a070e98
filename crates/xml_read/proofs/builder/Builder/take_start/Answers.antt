use Rattle.std.proofs.Common.{inl}
use Rattle.std.proofs.lemmas.Result.{err_from_is_err_and}
use Rattle.std.specs.Prelude.{reverse}
use Rattle.xml_read.proofs.KnownTags.{start_taken, start_stopped, inner_utf8, leaf_can, leaf_taken}
use Rattle.xml_read.proofs.builder.Builder.take_start.Goals as goal

pub past_leaf-requires : goal.past_leaf-requires
past_leaf-requires c =
    let known = c.in-Some.ensures (reverse c.args.self.now.scope) c.args.self.now.items.names c.requires.scoped.noted in
    inner_utf8 c.in-Some.note.written.now c.args.tag.now c.in-Some-past_tag.inner.now known.named.qname c.in-Some-past_tag.ensures c.requires.utf8

pub open_by-requires-clause-known : goal.open_by-requires-clause-known
open_by-requires-clause-known c =
    let known = c.in-Some.ensures (reverse c.args.self.now.scope) c.args.self.now.items.names c.requires.scoped.noted in
    (known, leaf_can c.in-Some.note.written.now c.args.tag.now c.in-Some-past_tag.inner.now c.in-Some-past_leaf.behind.now c.in-Some-past_leaf.len c.args.at c.in-Some-past_tag.ensures c.in-Some-past_leaf.ensures c.requires.place)

pub open_by-requires-in-None-clause-known : goal.open_by-requires-in-None-clause-known
open_by-requires-in-None-clause-known c = c.in-Some.ensures (reverse c.args.self.now.scope) c.args.self.now.items.names c.requires.scoped.noted

pub returns-in_ok-open_by-in-Some-past_leaf-clause-ok : goal.returns-in_ok-open_by-in-Some-past_leaf-clause-ok
returns-in_ok-open_by-in-Some-past_leaf-clause-ok c = leaf_taken c.in-Some.note.written.now c.args.tag.now c.in-Some-past_tag.inner.now c.in-Some-past_leaf.behind.now c.in-Some-past_leaf.len c.args.self.now c.open_by.new.self c.args.at c.in-Some-past_tag.ensures c.in-Some-past_leaf.ensures c.in_ok-open_by-in-Some-past_leaf.ensures.ok

pub returns-in_err-open_by-in-Some-past_leaf-clause-err : goal.returns-in_err-open_by-in-Some-past_leaf-clause-err
returns-in_err-open_by-in-Some-past_leaf-clause-err c =
    let known = c.in-Some.ensures (reverse c.args.self.now.scope) c.args.self.now.items.names c.requires.scoped.noted in
    let p = err_from_is_err_and c.from_residual.result c.from_residual.ensures.1 in
    rw (p.1, p.2) (start_stopped c.in-Some.note.written.now c.args.tag.now c.in-Some-past_tag.inner.now c.args.self.now c.args.at c.in_err-open_by-in-Some-past_leaf.field-0.0 known.named.qname c.in-Some-past_tag.ensures c.in_err-open_by-in-Some-past_leaf.ensures.err)

pub returns-in_ok-open_by-in-None-clause-ok : goal.returns-in_ok-open_by-in-None-clause-ok
returns-in_ok-open_by-in-None-clause-ok c = inl (start_taken c.in-Some.note.written.now c.args.tag.now c.in-Some-past_tag.inner.now c.args.self.now c.open_by-in-None.new.self c.args.at c.in-Some-past_tag.ensures c.in_ok-open_by-in-None.ensures.ok)

pub returns-in_err-open_by-in-None-clause-err : goal.returns-in_err-open_by-in-None-clause-err
returns-in_err-open_by-in-None-clause-err c =
    let known = c.in-Some.ensures (reverse c.args.self.now.scope) c.args.self.now.items.names c.requires.scoped.noted in
    let p = err_from_is_err_and c.from_residual-in_err-open_by-in-None.result c.from_residual-in_err-open_by-in-None.ensures.1 in
    rw (p.1, p.2) (start_stopped c.in-Some.note.written.now c.args.tag.now c.in-Some-past_tag.inner.now c.args.self.now c.args.at c.in_err-open_by-in-None.field-0.0 known.named.qname c.in-Some-past_tag.ensures c.in_err-open_by-in-None.ensures.err)
