use Rattle.std.proofs.Common.{Some, sym, ◌∙◌, ap, map, subst}
use Rattle.simple_types.specs.Seen.{space_of}
use Rattle.schema_components.specs.SetParts.{parts_of}
use Rattle.validity_rules.specs.Asked.{attribute_in}
use Rattle.validity_check.specs.Uses.{IsPlace}
use Rattle.validity_check.proofs.Fixing.{space_found, unknown, refused, all_judged}
use Rattle.validity_check.proofs.Ordered.{undeclared, declared_at}
use Rattle.validity_check.proofs.attributes.fault_at.Goals as goal

pub returns-in-None : goal.returns-in-None
returns-in-None c =
    let place = subst (λ o. IsPlace c.args.uses.now c.args.found.now.0 o) c.in-None.is c.requires.place in
    unknown (map (attribute_in (parts_of c.args.set.now)) c.args.uses.now) c.args.found.now (undeclared (parts_of c.args.set.now) c.args.found.now.0 c.args.uses.now place)

pub returns-in-Some-2 : goal.returns-in-Some-2
returns-in-Some-2 c =
    let parts = parts_of c.args.set.now in
    let us = c.args.uses.now in
    let name = c.args.found.now.0 in
    let u = c.index-uses-place.result in
    let simple = c.simple-simple.result.now in
    let place = subst (λ o. IsPlace us name o) c.in-Some.is c.requires.place in
    let known = declared_at parts name us c.in-Some.place u c.requires.ascending place ∙ ap (λ d. Some (attribute_in parts d)) (sym c.index-uses-place.is) in
    refused (map (attribute_in parts) us) name c.args.found.now.1 (attribute_in parts u) known (space_of simple.space) (space_found c.args.set.now u.simple simple c.simple-simple.ensures) c.in-Some-2.why
    (rw c.in-Some-2.is at c.in_ok-why-in-Some.ensures)

pub returns-in-None-2 : goal.returns-in-None-2
returns-in-None-2 c =
    let parts = parts_of c.args.set.now in
    let us = c.args.uses.now in
    let name = c.args.found.now.0 in
    let u = c.index-uses-place.result in
    let simple = c.simple-simple.result.now in
    let place = subst (λ o. IsPlace us name o) c.in-Some.is c.requires.place in
    let known = declared_at parts name us c.in-Some.place u c.requires.ascending place ∙ ap (λ d. Some (attribute_in parts d)) (sym c.index-uses-place.is) in
    all_judged (map (attribute_in parts) us) name c.args.found.now.1 (attribute_in parts u) known
    c.fixed_fault.result (space_of simple.space) (space_found c.args.set.now u.simple simple c.simple-simple.ensures)
    (rw c.in-None-2.is at c.in_ok-why-in-Some.ensures) c.fixed_fault.ensures
