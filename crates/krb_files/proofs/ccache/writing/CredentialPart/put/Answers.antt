use Rattle.krb_files.proofs.ccache.writing.CredentialPart.put.Goals as goal

pub returns : goal.returns
returns c = rw c.credential_layout.ensures.octets at c.put.ensures
