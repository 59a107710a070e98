use Rattle.std.proofs.Common.{rules, refl}
use Rattle.transcode_core.proofs.typing.map_root.Goals as goal

pub returns-clause-of : goal.returns-clause-of
returns-clause-of c = record {
  linked = c.element_count.ensures.linked;
  small = c.see_simples.ensures;
  global = search rules;
  is_map = c.in-Ok.ensures.map;
  number_is = c.root_type-number.ensures.number c.in-Ok.ensures.map.entries c.in-Ok.ensures.map.are_entries;
  is_module = c.count.ensures.module;
  is_bounded = c.count.ensures.bounded;
  within = c.root_type-number.ensures.within c.in-Ok.module c.in-Ok.ensures.map;
}

pub returns-clause-due : goal.returns-clause-due
returns-clause-due c = (c.args.opened.now.set, refl, returns-clause-of c)
