use Rattle.std.proofs.Common.{◌≡◌, ◌∙◌, ◌++◌, [], true, length, List, Option, map, ap, sym, subst, rules, refl}
use Rattle.std.proofs.lemmas.Result.{err_from_is_err_and}
use Rattle.std.specs.Prelude.{reverse, nat_eq, IsUtf8}
use Rattle.xml_pieces.specs.Pieces.{Tag}
use Rattle.xml_pieces.specs.Plain.{IsPlain}
use Rattle.xml_pieces.specs.Found.{tag_seen, attribute_of}
use Rattle.xml_pieces.specs.declared.found.Attribute.{Attribute}
use Rattle.xml_read.specs.declared.error.DocWhy.{DocWhy}
use Rattle.xml_pieces.specs.Namespaces.{bindings_of}
use Rattle.xml_read.specs.Private.Entering.{Stopped}
use Rattle.xml_read.proofs.Entered.{names_stop, within, enters, plain_reason, plain_enters}
use Rattle.xml_read.proofs.Noted.{bare_is}
use Rattle.xml_read.proofs.Utf8.{all_named, local_utf8}
use Rattle.xml_read.proofs.tags.enter.Goals as goal

pub enter_scope-requires : goal.enter_scope-requires
enter_scope-requires c = rw c.deref.ensures.value (all_named (tag_seen c.args.tag.now) (search rules) c.requires)

pub enter_attributes-requires : goal.enter_attributes-requires
enter_attributes-requires c = all_named (tag_seen c.args.tag.now) (search rules) c.requires

pub returns-in_err-check_place-clause-err : goal.returns-in_err-check_place-clause-err
returns-in_err-check_place-clause-err c =
    let empty : nat_eq (length c.args.tag.now.attributes.items) 0 ≡ true = search rules in
    let none : (tag_seen c.args.tag.now).attributes ≡ [] = ap (λ (t : Tag). t.attributes) (bare_is c.args.tag.now empty) in
    let plain : IsPlain (tag_seen c.args.tag.now).name = search rules in
    let p = err_from_is_err_and c.from_residual.result c.from_residual.ensures.1 in
    rw (p.1, p.2) (subst (λ (o : Option DocWhy). Stopped o c.args.place.at c.in_err-check_place.field-0.0) (sym (plain_reason (tag_seen c.args.tag.now) (reverse c.args.scope.now) c.args.place.ended c.args.place.depth none plain)) c.in_err-check_place.ensures.err)

pub from_utf8-requires : goal.from_utf8-requires
from_utf8-requires c =
    let plain : IsPlain (tag_seen c.args.tag.now).name = search rules in
    subst IsUtf8 plain.whole (local_utf8 c.args.tag.now.name.now plain.qname)

pub returns-then-is_ascii_name_alone-clause-ok : goal.returns-then-is_ascii_name_alone-clause-ok
returns-then-is_ascii_name_alone-clause-ok c =
    let empty : nat_eq (length c.args.tag.now.attributes.items) 0 ≡ true = search rules in
    let none : (tag_seen c.args.tag.now).attributes ≡ [] = ap (λ (t : Tag). t.attributes) (bare_is c.args.tag.now empty) in
    let plain : IsPlain (tag_seen c.args.tag.now).name = search rules in
    plain_enters (tag_seen c.args.tag.now) (reverse c.args.scope.now) c.args.place.ended c.args.place.depth _ none plain c.in_ok-check_place.ensures.ok
    (search rules) (search rules) (search rules) (search rules)

pub returns-in-Some-clause-err : goal.returns-in-Some-clause-err
returns-in-Some-clause-err c = (refl, names_stop (tag_seen c.args.tag.now) (reverse c.args.scope.now) c.args.place.ended c.args.place.depth c.in-Some.why (search rules))

pub returns-in_err-attributes-clause-err : goal.returns-in_err-attributes-clause-err
returns-in_err-attributes-clause-err c =
    let inside : c.enter_scope.new.scope ≡ c.args.scope.now ++ reverse (bindings_of (tag_seen c.args.tag.now).attributes) = c.in_ok-declares.ensures.scope ∙ ap (λ (xs : List Attribute). c.args.scope.now ++ reverse (bindings_of (map attribute_of xs))) c.deref.ensures.value in
    let p = err_from_is_err_and c.from_residual-in_err-attributes.result c.from_residual-in_err-attributes.ensures.1 in
    rw (p.1, p.2) (subst (λ (o : Option DocWhy). Stopped o c.args.place.at c.in_err-attributes.field-0.0) (within (tag_seen c.args.tag.now) c.args.scope.now c.enter_scope.new.scope c.args.place.ended c.args.place.depth (search rules) inside) c.in_err-attributes.ensures.err)

pub returns-clause-ok : goal.returns-clause-ok
returns-clause-ok c =
    let inside : c.enter_scope.new.scope ≡ c.args.scope.now ++ reverse (bindings_of (tag_seen c.args.tag.now).attributes) = c.in_ok-declares.ensures.scope ∙ ap (λ (xs : List Attribute). c.args.scope.now ++ reverse (bindings_of (map attribute_of xs))) c.deref.ensures.value in
    enters (tag_seen c.args.tag.now) c.args.scope.now c.enter_scope.new.scope c.args.place.ended c.args.place.depth _
    (sym (within (tag_seen c.args.tag.now) c.args.scope.now c.enter_scope.new.scope c.args.place.ended c.args.place.depth (search rules) inside) ∙ c.in_ok-attributes.ensures.none)
    inside (search rules) c.in_ok-attributes.ensures.attributes (search rules)
