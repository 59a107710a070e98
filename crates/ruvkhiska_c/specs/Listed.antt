-- What a `Listed` owns: what a `Box<SchemaFiles>` does, or nothing.
use base.Fml.{Fml, ftrue}
use base.Stored.{Coded}
use denote.RawPtr.{Ptr}
use Rattle.std.specs.Box.Ownership.{box_owns}
use Rattle.std.specs.Coded.{coded_option}
use Rattle.std.specs.declared.option.Option.{Option}
use Rattle.std.specs.declared.option.Option.TheVariants.{None, Some}
use Rattle.std.specs.declared.alloc.Global.{Global}
use Rattle.std.specs.contracts.impls.GlobalAllocator.TheImpl.{ghosts}
use Rattle.transcode_messages.specs.contracts.schema_files.SchemaFiles.{the_row}

abbrev pub listed_owns : Global → Ptr → Option the_row.Denot → Fml
listed_owns alloc p None = ftrue
listed_owns alloc p (Some x) = box_owns (ghosts.dealloc_token alloc) the_row p x

abbrev pub listed_coded : Coded (Option the_row.Denot)
listed_coded = coded_option the_row.coded
