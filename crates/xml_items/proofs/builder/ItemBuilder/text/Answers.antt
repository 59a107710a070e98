use Rattle.std.proofs.Common.{refl, rules}
use Rattle.std.proofs.lemmas.Result.{on_ok_weaker, on_err_weaker}
use Rattle.xml_items.specs.declared.label.ItemLabel.TheVariants as label
use Rattle.xml_items.specs.Meaning.{StoreGrows}
use Rattle.xml_items.proofs.Growth.{fit_zip-grown}
use Rattle.xml_items.proofs.Steps.{stays, adds, on_err, either_way}
use Rattle.xml_items.proofs.builder.ItemBuilder.text.Goals as goal

pub invariant_of-self : goal.invariant_of-self
invariant_of-self c =
    let g : StoreGrows c.self.inside.store c.keep_text.new.self = search rules in
    fit_zip-grown c.self.inside.store c.keep_text.new.self g c.self.inside.builder c.self.invariant

pub returns-in_err-kept-clause-err : goal.returns-in_err-kept-clause-err
returns-in_err-kept-clause-err c =
    let g : StoreGrows c.self.inside.store c.keep_text.new.self = search rules in
    on_err _ (stays c.self.inside.store c.keep_text.new.self c.self.inside.builder c.self.inside.builder c.args.self.now c.self.view_is c.self.invariant g refl).is

pub invariant_of-self-2 : goal.invariant_of-self-2
invariant_of-self-2 c =
    let g : StoreGrows c.self.inside.store c.keep_text.new.self = search rules in
    let k = c.in_ok-kept.kept in
    either_way c.leaf.result c.leaf.ensures.ok c.leaf.ensures.err
    (λ e. (adds c.self.inside.store c.keep_text.new.self c.self.inside.builder c.leaf.new.self c.args.self.now c.self.view_is c.self.invariant g k (label.Text c.args.text c.args.at) c.in_ok-kept.ensures.fits c.in_ok-kept.ensures.meaning e).fit)
    (λ e. (stays c.self.inside.store c.keep_text.new.self c.self.inside.builder c.leaf.new.self c.args.self.now c.self.view_is c.self.invariant g e).fit)

pub returns-clause-ok : goal.returns-clause-ok
returns-clause-ok c =
    let g : StoreGrows c.self.inside.store c.keep_text.new.self = search rules in
    on_ok_weaker c.leaf.result (λ e. (adds c.self.inside.store c.keep_text.new.self c.self.inside.builder c.leaf.new.self c.args.self.now c.self.view_is c.self.invariant g c.in_ok-kept.kept (label.Text c.args.text c.args.at) c.in_ok-kept.ensures.fits c.in_ok-kept.ensures.meaning e).is) c.leaf.ensures.ok

pub returns-clause-err : goal.returns-clause-err
returns-clause-err c =
    let g : StoreGrows c.self.inside.store c.keep_text.new.self = search rules in
    on_err_weaker c.leaf.result (λ e. (stays c.self.inside.store c.keep_text.new.self c.self.inside.builder c.leaf.new.self c.args.self.now c.self.view_is c.self.invariant g e).is) c.leaf.ensures.err
