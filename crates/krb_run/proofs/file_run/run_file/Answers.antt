use Rattle.std.proofs.Common.{refl, subst, rules}
use Rattle.std.specs.Io.KnownBytes.{Appends}
use Rattle.krb_run.specs.Records.{AppendsPrefix}
use Rattle.krb_run.specs.Files.{shown}
use Rattle.krb_run.proofs.Files.{Reads-made, decided-after, failed-write, memory-unread, write-unread}
use Rattle.krb_run.proofs.file_run.run_file.Goals as goal

pub returns-in_err-listed-clause-decided : goal.returns-in_err-listed-clause-decided
returns-in_err-listed-clause-decided g c = decided-after _ _ c.in_ok-file.ensures.state (memory-unread _ (search rules))

pub returns-in_err-write_all-clause-decided : goal.returns-in_err-write_all-clause-decided
returns-in_err-write_all-clause-decided g c = decided-after _ _ c.in_ok-file.ensures.state (write-unread _ (search rules))

pub returns-clause-listed : goal.returns-clause-listed
returns-clause-listed g c =
    let listing = shown c.in_ok-listed.listed in
    let listed = subst (λ f. g.F.FileFormat.Lists c.args.format.now f listing) c.as_slice.ensures.value c.in_ok-listed.ensures.listed in
    record {
      file = c.in_ok-file.file.items;
      listing = listing;
      read = Reads-made _ _ _ _ _ _ c.most.ensures c.in_ok-file.ensures.read listed;
      added = subst (Appends _ _) c.octets.ensures c.in_ok-write_all.ensures.all;
      ended_so = refl;
    }

pub returns-in_err-write_all-clause-fault : goal.returns-in_err-write_all-clause-fault
returns-in_err-write_all-clause-fault g c =
    let listing = shown c.in_ok-listed.listed in
    let listed = subst (λ f. g.F.FileFormat.Lists c.args.format.now f listing) c.as_slice.ensures.value c.in_ok-listed.ensures.listed in
    failed-write _ _ _ _ _ _ (search rules)
    (record {
      file = c.in_ok-file.file.items;
      listing = listing;
      read = Reads-made _ _ _ _ _ _ c.most.ensures c.in_ok-file.ensures.read listed;
      added = subst (AppendsPrefix _ _) c.octets.ensures c.in_err-write_all.ensures.prefix;
    })
