-- Hints for what is refused at once.
use Rattle.std.proofs.Common.{◌≡◌, Option, refl, subst}
use Rattle.krb_host.specs.Around.{Around}
use Rattle.krb_input.specs.declared.hint.Hint.{Hint}
use Rattle.krb_run.specs.declared.run.RunEnd.{RunEnd}
use Rattle.krb_run.specs.declared.run.RunEnd.TheVariants as run
use Rattle.krb_words.specs.declared.sources.Source.{Source}
use Rattle.krb_words.specs.declared.words.Command.{Command}
use Rattle.krbls.specs.Program.{Hints, IsHinted}

pub hinted-after : (around : Around) (s : Source) (command : Command) (known hint : Option Hint) (end : RunEnd) → known ≡ hint → (end ≡ run.RefusedAtOnce → IsHinted around s command known) → Hints around s command hint end
hinted-after around s command known hint run.Clean same told = tt
hinted-after around s command known hint run.Refused same told = tt
hinted-after around s command known hint run.RefusedAtOnce same told = subst (IsHinted around s command) same (told refl)
