use Rattle.std.proofs.Common.{◌≡◌, Bool, List, Result, Ok, Err, IfOk, Bor}
use Rattle.base_texts.specs.declared.texts.Memory.{Memory}
use Rattle.base_texts.specs.declared.texts.Name.{Name}
use Rattle.content_models.specs.Clear.{first, empties}
use Rattle.content_models.specs.Seen.{seen}
use Rattle.content_models.specs.Private.Deciding.{Opened}
use Rattle.content_match.proofs.matcher.is_emptiable.Goals as goal

of_opened : (r : Result Bool Memory) (old new : List (Bor Name)) (firsts : List Name) (empty : Bool) → IfOk r (λ e. Opened old new e firsts empty) → IfOk r (λ e. e ≡ empty)
of_opened (Ok e) old new firsts empty h = h.1
of_opened (Err m) old new firsts empty h = tt

pub returns : goal.returns
returns c = of_opened c.push_first.result c.new-names.result.items c.push_first.new.names.items (first (seen c.args.root.now)) (empties (seen c.args.root.now)) c.push_first.ensures
