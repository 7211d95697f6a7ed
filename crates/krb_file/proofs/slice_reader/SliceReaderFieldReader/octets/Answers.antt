use Rattle.krb_file.proofs.slice_reader.SliceReaderFieldReader.octets.Goals as goal

pub returns-clause-read : goal.returns-clause-read
returns-clause-read c =
    rw (c.in_ok-extend_from_slice.ensures.items, c.reserve_exact.ensures.items, c.clear.ensures.items)
    (record { same_bounds = c.in_ok-taken.ensures.read.same_bounds; from = λ rest there. c.in_ok-taken.ensures.read.from rest there })
