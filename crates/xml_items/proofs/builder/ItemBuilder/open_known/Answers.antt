use Rattle.std.proofs.Common.{[]}
use Rattle.std.proofs.lemmas.Result.{on_ok_weaker, on_err_weaker}
use Rattle.xml_items.specs.declared.label.ItemLabel.TheVariants as label
use Rattle.xml_items.specs.Building.{name_at}
use Rattle.xml_items.proofs.Growth.{store-same}
use Rattle.xml_items.proofs.Steps.{stays, opens, known_fits, either_way}
use Rattle.xml_items.proofs.builder.ItemBuilder.open_known.Goals as goal

pub invariant_of-self : goal.invariant_of-self
invariant_of-self c =
    let k = (known_fits c.self.inside.store c.self.inside.builder c.args.self.now c.self.view_is c.in_ok-kept.kept c.name.inside.number c.args.name c.args.at c.in_ok-kept.ensures c.name.view_is c.requires) in
    either_way c.open.result c.open.ensures.ok c.open.ensures.err
    (λ e. (opens c.self.inside.store c.self.inside.store c.self.inside.builder c.open.new.self c.args.self.now c.self.view_is c.self.invariant (store-same c.self.inside.store) c.in_ok-kept.kept (label.Element (name_at c.args.self.now.names c.args.name) [] [] c.args.at) k.0 k.1 e).fit)
    (λ e. (stays c.self.inside.store c.self.inside.store c.self.inside.builder c.open.new.self c.args.self.now c.self.view_is c.self.invariant (store-same c.self.inside.store) e).fit)

pub returns-clause-ok : goal.returns-clause-ok
returns-clause-ok c =
    let k = (known_fits c.self.inside.store c.self.inside.builder c.args.self.now c.self.view_is c.in_ok-kept.kept c.name.inside.number c.args.name c.args.at c.in_ok-kept.ensures c.name.view_is c.requires) in
    on_ok_weaker c.open.result (λ e. (opens c.self.inside.store c.self.inside.store c.self.inside.builder c.open.new.self c.args.self.now c.self.view_is c.self.invariant (store-same c.self.inside.store) c.in_ok-kept.kept (label.Element (name_at c.args.self.now.names c.args.name) [] [] c.args.at) k.0 k.1 e).is) c.open.ensures.ok

pub returns-clause-err : goal.returns-clause-err
returns-clause-err c = on_err_weaker c.open.result (λ e. (stays c.self.inside.store c.self.inside.store c.self.inside.builder c.open.new.self c.args.self.now c.self.view_is c.self.invariant (store-same c.self.inside.store) e).is) c.open.ensures.err
