-- What definitions see of a root of the code.
use Rattle.base_texts.specs.declared.texts.Name.{Name}
use Rattle.transcode_words.specs.declared.asked.RootName.{RootName}

abbrev pub root_seen : RootName → Name
root_seen root = record { space = root.space.now; local = root.local.now }
