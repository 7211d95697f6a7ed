use Rattle.std.proofs.Common.{◌≡◌, ◌++◌, take}
use Rattle.krb_list.specs.Ccaches.{credential_lines}
use Rattle.krb_files.proofs.ccache.lines.put_credentials.Given as goal

-- the lines of the credentials so far
abbrev pub invariant-loop-credential : goal.invariant-loop-credential
invariant-loop-credential l = l.text ≡ l.initial.text ++ credential_lines l.form l.now (take l.credential-index l.credentials)
