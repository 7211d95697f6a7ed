use Rattle.std.proofs.Common.{ℕ, None, Result, [], ◌∷◌, sym, subst}
use Rattle.krb_file.specs.Fields.{Source, Fault, Agrees, version_at}
use Rattle.krb_file.proofs.FieldReaders.{known}
use Rattle.krb_keytab.specs.Reading.{items_after, after_version, keytab_of_items}
use Rattle.krb_files.proofs.keytab.reading.whole.Goals as goal

pub returns : goal.returns
returns c =
    let opens = known (version_at (2 ∷ [])) c.in_ok-version.field-0 c.new-reader.result c.version.new.self c.in_ok-version.ensures.read in
    let here = rw c.new-reader.ensures at opens in
    subst (λ (r : Result (ℕ × Source) Fault). Agrees (λ taken. taken) c.keytab.result (keytab_of_items (after_version r (items_after None)))) (sym here) c.keytab.ensures
