use Rattle.std.proofs.Common.{◌≡◌, ◌++◌, drop, map}
use Rattle.std.specs.List.{flat_map}
use Rattle.xml_write.specs.Written.{written_declaration}
use Rattle.xml_write.specs.Private.Binding.{entry_of}
use Rattle.xml_write.proofs.writing.write_declarations.Given as goal

-- what is written, with what is still to be written
abbrev pub invariant-entries : goal.invariant-entries
invariant-entries l =
    l.out.items ++ flat_map written_declaration (map entry_of (drop l.space-index l.declared))
    ≡ l.fn.out.items ++ flat_map written_declaration (map entry_of l.declared)
