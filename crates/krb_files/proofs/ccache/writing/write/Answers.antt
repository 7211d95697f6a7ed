use Rattle.std.proofs.Common.{rules}
use Rattle.krb_ccache.proofs.Ccaches.{spells-read}
use Rattle.krb_files.proofs.ccache.writing.write.Goals as goal

pub returns-clause-again : goal.returns-clause-again
returns-clause-again c = spells-read c.args.ccache.now c.put.new.out.items (search rules)
