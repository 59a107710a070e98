use Rattle.std.proofs.Common.{refl, rules}
use Rattle.xml_items.specs.declared.label.ItemLabel.TheVariants as label
use Rattle.xml_items.specs.Meaning.{StoreGrows}
use Rattle.xml_items.proofs.Growth.{fit_zip-grown}
use Rattle.xml_items.proofs.Steps.{stays, opens, names_grow, on_err}
use Rattle.xml_items.proofs.builder.ItemBuilder.open_element.Goals as goal

pub invariant_of-self : goal.invariant_of-self
invariant_of-self c =
    let g : StoreGrows c.self.inside.store c.keep_element.new.self = search rules in
    fit_zip-grown c.self.inside.store c.keep_element.new.self g c.self.inside.builder c.self.invariant

pub returns-in_err-kept-clause-err : goal.returns-in_err-kept-clause-err
returns-in_err-kept-clause-err c =
    let g : StoreGrows c.self.inside.store c.keep_element.new.self = search rules in
    on_err _ (stays c.self.inside.store c.keep_element.new.self c.self.inside.builder c.self.inside.builder c.args.self.now c.self.view_is c.self.invariant g refl).is

pub returns-in_err-kept-clause-names : goal.returns-in_err-kept-clause-names
returns-in_err-kept-clause-names c =
    let g : StoreGrows c.self.inside.store c.keep_element.new.self = search rules in
    names_grow c.self.inside.store c.keep_element.new.self c.self.inside.builder c.args.self.now c.self.view_is g

pub invariant_of-self-in_err-open : goal.invariant_of-self-in_err-open
invariant_of-self-in_err-open c =
    let g : StoreGrows c.self.inside.store c.keep_element.new.self = search rules in
    (stays c.self.inside.store c.keep_element.new.self c.self.inside.builder c.open.new.self c.args.self.now c.self.view_is c.self.invariant g c.in_err-open.ensures.err).fit

pub invariant_of-self-2 : goal.invariant_of-self-2
invariant_of-self-2 c =
    let g : StoreGrows c.self.inside.store c.keep_element.new.self = search rules in
    (opens c.self.inside.store c.keep_element.new.self c.self.inside.builder c.open.new.self c.args.self.now c.self.view_is c.self.invariant g c.in_ok-kept.kept.0 (label.Element c.args.name c.args.attributes.items c.args.declares.items c.args.at) c.in_ok-kept.ensures.fits c.in_ok-kept.ensures.meaning c.in_ok-open.ensures.ok).fit

pub returns-in_err-open-clause-err : goal.returns-in_err-open-clause-err
returns-in_err-open-clause-err c =
    let g : StoreGrows c.self.inside.store c.keep_element.new.self = search rules in
    on_err _ (stays c.self.inside.store c.keep_element.new.self c.self.inside.builder c.open.new.self c.args.self.now c.self.view_is c.self.invariant g c.in_err-open.ensures.err).is

pub returns-in_err-open-clause-names : goal.returns-in_err-open-clause-names
returns-in_err-open-clause-names c =
    let g : StoreGrows c.self.inside.store c.keep_element.new.self = search rules in
    names_grow c.self.inside.store c.keep_element.new.self c.self.inside.builder c.args.self.now c.self.view_is g

pub returns-clause-ok : goal.returns-clause-ok
returns-clause-ok c =
    let g : StoreGrows c.self.inside.store c.keep_element.new.self = search rules in
    (opens c.self.inside.store c.keep_element.new.self c.self.inside.builder c.open.new.self c.args.self.now c.self.view_is c.self.invariant g c.in_ok-kept.kept.0 (label.Element c.args.name c.args.attributes.items c.args.declares.items c.args.at) c.in_ok-kept.ensures.fits c.in_ok-kept.ensures.meaning c.in_ok-open.ensures.ok).is

pub returns-clause-names : goal.returns-clause-names
returns-clause-names c =
    let g : StoreGrows c.self.inside.store c.keep_element.new.self = search rules in
    names_grow c.self.inside.store c.keep_element.new.self c.self.inside.builder c.args.self.now c.self.view_is g
