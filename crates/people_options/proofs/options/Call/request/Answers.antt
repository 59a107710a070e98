use Rattle.people_options.proofs.Few.{few_request}
use Rattle.people_options.proofs.options.Call.request.Goals as goal

pub returns-clause-within : goal.returns-clause-within
returns-clause-within c = few_request c.args.self.now.command c.args.self.now.given c.args.self.now.words.items c.asked.result c.ok_or.result c.asked.ensures c.ok_or.ensures.value
