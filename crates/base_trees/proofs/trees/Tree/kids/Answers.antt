-- The kids are those of the view.
use Rattle.std.proofs.Common.{◌∙◌, sym}
use Rattle.base_trees.proofs.Roses.{list_of-roses_of}
use Rattle.base_trees.proofs.trees.Tree.kids.Goals as goal

pub returns : goal.returns
returns g c = rw (← c.self.view_is) (c.deref.ensures.value ∙ sym (list_of-roses_of c.self.inside.kids.items))
