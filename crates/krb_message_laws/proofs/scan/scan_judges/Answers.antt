use Rattle.krb_scan.proofs.Outcome.{scan_judges}
use Rattle.krb_message_laws.proofs.scan.scan_judges.Goals as goal

pub returns : goal.returns
returns c = scan_judges
