use Rattle.std.proofs.Common.{subst}
use Rattle.std.specs.Option.{option_copied}
use Rattle.krb_run.specs.Begun.{begun_remaining, first_of}
use Rattle.krb_words.specs.declared.words.Command.{Command}
use Rattle.krbls.specs.Program.{ListsBy}
use Rattle.krbls.proofs.Commands.{is_chosen}
use Rattle.krbls.proofs.lister.Lister.list_begun.Goals as goal

pub returns-in-List : goal.returns-in-List
returns-in-List g c =
    subst (λ (used : Command). ListsBy (g.H.Host.around c.args.self.now.host.now) (option_copied c.args.self.now.choice) c.args.label.now c.args.self.now.time c.args.self.now.command.now c.args.source.now used (first_of c.args.reader.now) (begun_remaining g.R.Read.remaining c.args.reader.now) (g.W.Write.contents c.args.writer.now) (g.W.Write.contents c.list_by.new.writer) c.list_by.result)
    (is_chosen _ _ _ _ _ _ c.in-List.is c.first.ensures c.kind_of.ensures c.listing-command.ensures) c.list_by.ensures
