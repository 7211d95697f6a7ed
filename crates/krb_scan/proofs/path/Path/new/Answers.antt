use Rattle.std.proofs.Common.{refl}
use Rattle.krb_scan.proofs.ScannerSteps.{none_at}
use Rattle.krb_scan.proofs.path.Path.new.Goals as goal

pub returns : goal.returns
returns c = λ terms shallow expected. none_at _ c.args.size shallow c.requires.some c.requires.short refl refl refl refl c.requires.known expected c.new.ensures
