use Rattle.std.proofs.Common.{◌≡◌, ◌+◌, [], ◌∷◌, arith}
use Rattle.krb_file.specs.Fields.{called, expect}
use Rattle.krb_source.specs.declared.file_why.FileWhy.TheVariants as why
use Rattle.krb_file.specs.declared.field_name.FieldName.TheVariants as words
use Rattle.krb_file.proofs.FieldReaders.{FetchesTo-then}
use Rattle.krb_file.proofs.Reaching.{Exactly-expect, Exactly-called, goes_to}
use Rattle.krb_file.proofs.field_reader.FieldReader.version.Goals as goal

pub returns-clause-within : goal.returns-clause-within
returns-clause-within g c =
    let old = g.Self.FieldReader.cursor c.args.self.now in
    let mid = g.Self.FieldReader.cursor c.expect_field.new.self in
    let one : mid.place ≡ old.place + 1 = goes_to 1 (called words.Magic (expect (5 ∷ []) why.Magic)) c.in_ok-expect_field.field-0 old mid (Exactly-called 1 words.Magic (expect (5 ∷ []) why.Magic) (Exactly-expect (5 ∷ []) why.Magic)) c.in_ok-expect_field.ensures.read in
    FetchesTo-then (old.place + 2) old mid (g.Self.FieldReader.cursor c.expect_field-2.new.self)
    (λ more. c.expect_field.ensures.within (omega (arith, more))) (λ more. c.expect_field-2.ensures.within (omega (arith, one, more)))
