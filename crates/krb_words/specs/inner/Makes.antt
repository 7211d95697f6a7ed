-- What the steps that build a command for `clap` say of it.
use Rattle.std.specs.Prelude.{◌≡◌, false, Result, IfOk}
use Rattle.std.specs.declared.alloc.AllocError.{AllocError}
use Rattle.clap.specs.Words.{App, app_of}
use Rattle.clap.specs.declared.builder.command.Command.{Command}
use Rattle.clap.specs.declared.builder.command.Command.TheViews.{out-Command}

-- if there was memory for the command, it has this form, and no option of it is for its commands too
unfoldable pub Makes : Result Command AllocError → App → Type 0
Makes made app = IfOk made (λ c. (app_of c ≡ app) × ((out-Command c).has_globals ≡ false))
