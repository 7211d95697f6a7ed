use Rattle.krb_scan.proofs.scanner.Scanner.looked.Goals as goal

pub returns : goal.returns
returns c = λ profile n octets at. c.looked.ensures profile n octets at.scanned
