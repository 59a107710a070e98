use Rattle.std.proofs.Common.{◌≡◌, ◌++◌, [], ◌∷◌, map, ap, ◌∙◌, refl, arith, rules}
use Rattle.std.proofs.lemmas.List.{map_push}
use Rattle.std.proofs.lemmas.Result.{err_from_is_err_and}
use Rattle.schema_components.specs.Documents.{doc_of}
use Rattle.transcode_core.proofs.Agendas.{after_none, next_named, one_more_loaded, loads_more}
use Rattle.transcode_core.proofs.Loading.{one_more, refused_at}
use Rattle.transcode_core.proofs.schemas.load_schemas.Goals as goal

pub loop-i-init : goal.loop-i-init
loop-i-init g c =
    let none : c.new-documents.result.items ≡ [] = search rules in
    record { sound = ap (map doc_of) none; files = (refl, refl); rest = after_none _; later = omega arith }

pub load_schema-requires : goal.load_schema-requires
load_schema-requires g c =
    next_named _ _ c.args.names.now c.loop-i.i c.index-names-i.result c.requires.named c.loop-i.invariant.rest c.loop-i-test.true c.index-names-i.is

pub returns-in_err-document-clause-named : goal.returns-in_err-document-clause-named
returns-in_err-document-clause-named g c =
    loads_more c.args.names.now _ _ _ c.loop-i.i c.loop-i-test.true c.loop-i.invariant.rest c.in_err-document.ensures.rest

pub returns-then-is_err-clause-named : goal.returns-then-is_err-clause-named
returns-then-is_err-clause-named g c =
    loads_more c.args.names.now _ _ _ c.loop-i.i c.loop-i-test.true c.loop-i.invariant.rest c.in_ok-document.ensures.rest

pub returns-in_err-document-clause-due : goal.returns-in_err-document-clause-due
returns-in_err-document-clause-due g c =
    let p = err_from_is_err_and c.from_residual.result c.from_residual.ensures.1 in
    rw (p.1, p.2) (refused_at _ _ _ c.loop-i.i c.index-names-i.result (map doc_of c.loop-i.documents.items) _ _ _ _ _ _ c.loop-i.invariant.files.0 c.loop-i.invariant.files.1
    c.loop-i.invariant.later c.loop-i-test.true c.index-names-i.is c.loop-i.invariant.sound c.in_err-document.ensures.due)

pub loop-i-preserved : goal.loop-i-preserved
loop-i-preserved g c =
    let pushed : c.push.new.self.items ≡ c.loop-i.documents.items ++ c.in_ok-document.document ∷ [] = grind arith in
    let grown : map doc_of c.push.new.self.items ≡ map doc_of c.loop-i.documents.items ++ doc_of c.in_ok-document.document ∷ [] =
    ap (map doc_of) pushed ∙ map_push doc_of c.loop-i.documents.items c.in_ok-document.document in
    record {
      sound = rw grown (one_more _ _ _ c.loop-i.i c.index-names-i.result _ _ c.loop-i.invariant.files.0 c.loop-i-test.true c.index-names-i.is c.loop-i.invariant.sound c.in_ok-document.ensures.due);
      files = (cc, cc);
      rest = one_more_loaded _ _ _ c.loop-i.i c.loop-i.invariant.rest c.in_ok-document.ensures.rest;
      later = omega arith;
    }
