use Rattle.std.proofs.Common.{◌≡◌, List, ℕ, length, Ok, sym, subst}
use Rattle.krb_keytab.specs.Spelling.{KeytabSpells}
use Rattle.krb_keytab.specs.Reading.{read}
use Rattle.krb_files.proofs.KeytabWritten.{spells-written, read-written, octets_written}
use Rattle.krb_files.proofs.keytab.writing.write.Goals as goal

pub returns-clause-octets : goal.returns-clause-octets
returns-clause-octets c =
    octets_written c.args.keytab.now c.in_ok-octets.octets.items c.put_octets.new.out.items c.put_records.new.out.items c.put_octets-2.new.out.items c.in_ok-octets.ensures.items c.put_octets.ensures.items
    (rw c.as_slice.ensures at c.put_records.ensures.items)
    (rw c.stop_octets.ensures at c.put_octets-2.ensures.items)

pub returns-clause-spells : goal.returns-clause-spells
returns-clause-spells c = subst (KeytabSpells c.args.keytab.now) (sym (returns-clause-octets c)) (spells-written c.args.keytab.now c.in_ok-size.ensures.can)

pub returns-clause-again : goal.returns-clause-again
returns-clause-again c =
    let P : List ℕ → Type 0 = λ b. read b ≡ Ok (c.args.keytab.now, length b) in
    subst P (sym (returns-clause-octets c)) (read-written c.args.keytab.now c.in_ok-size.ensures.can)
