use Rattle.std.proofs.Common.{arith}
use Rattle.std.proofs.lemmas.Grind.{common_steps}
use Rattle.krb_files.proofs.KeytabSizes.{size-entry, size-hole}
use Rattle.krb_files.proofs.keytab.writing.record_size.Goals as goal
use Rattle.krb_files.proofs.keytab.writing.record_size.Goals.{in-Entry+in_ok-size-in-Entry, in-Hole}

pub returns-clause-size : goal.returns-clause-size
returns-clause-size c =
    elim c.match-record.branch [
      | in-Entry+in_ok-size-in-Entry w ↦ grind (arith, common_steps, size-entry c.args.record.now w.in-Entry.entry w.in-Entry.is, w.content_size.ensures.some, w.in_ok-size-in-Entry.ensures.value)
      | in-Hole w ↦ omega (arith, size-hole c.args.record.now w.in-Hole.hole w.in-Hole.is)
    ]
