use Rattle.std.proofs.Common.{◌≡◌, take}
use Rattle.std.specs.List.{list_any}
use Rattle.krbls.specs.Program.{is_directory}
use Rattle.krbls.proofs.program.has_directory.Given as goal

-- the sources so far
abbrev pub invariant-loop-source : goal.invariant-loop-source
invariant-loop-source l = l.found ≡ list_any is_directory (take l.source-index l.sources)
