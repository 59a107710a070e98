-- What definitions see of a request of the code.
use Rattle.transcode_words.specs.declared.asked.Root.{Root as CodeRoot}
use Rattle.transcode_words.specs.declared.asked.Root.TheVariants as root
use Rattle.transcode_words.specs.declared.asked.Asked.{Asked as CodeAsked}
use Rattle.transcode_words.specs.declared.asked.Asked.TheVariants as asked
use Rattle.transcode_words.specs.Seen.{root_seen}
use Rattle.transcode_words.specs.Asked.{Root, Named, Only, Asked, Show, ShowBack, Serve, Trial}

abbrev pub chosen_seen : CodeRoot → Root
chosen_seen (root.Named name) = Named (root_seen name)
chosen_seen root.Only = Only

abbrev pub asked_seen : CodeAsked → Asked
asked_seen (asked.Show form files) = Show form files.now
asked_seen (asked.ShowBack file) = ShowBack file.now
asked_seen (asked.Serve task root files) = Serve task (chosen_seen root) files.now
asked_seen (asked.Trial lines) = Trial lines
