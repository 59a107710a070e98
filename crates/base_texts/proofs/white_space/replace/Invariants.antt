use Rattle.std.proofs.Common.{◌≡◌, ◌++◌, map, length, string_bytes}
use denote.Shadow.{shadow}
use denote.Text.{Utf8}
use Rattle.base_texts.specs.WhiteSpace.{spaced}
use Rattle.base_texts.proofs.white_space.replace.Given as goal

abbrev pub invariant-runs : goal.invariant-runs
invariant-runs l =
    record {
      text : shadow (Utf8 l.rest);
      so_far : string_bytes l.replaced ++ map spaced l.rest ≡ map spaced l.text;
    }

abbrev pub decreases-runs : goal.decreases-runs
decreases-runs l = length l.rest
