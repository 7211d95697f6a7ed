use Rattle.std.proofs.Common.{◌≡◌, drop, map}
use Rattle.clap.specs.Words.{app_of}
use Rattle.krb_words.specs.inner.Parts.{app_for, with_apps}
use Rattle.krb_words.proofs.commands.with_parts.Given as goal

-- the commands that are left
abbrev pub invariant-loop-part : goal.invariant-loop-part
invariant-loop-part l =
    with_apps (app_of l.initial.whole) (map app_for l.parts) ≡ with_apps (app_of l.whole) (map app_for (drop l.part-index l.parts))
