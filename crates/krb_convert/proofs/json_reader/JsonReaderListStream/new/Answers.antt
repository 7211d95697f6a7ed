use Rattle.std.proofs.Common.{None, false, refl}
use Rattle.krb_convert.specs.declared.json_reader.JsonReader.{JsonReader}
use Rattle.krb_convert.specs.inner.EncodedLines.{json_reading}
use Rattle.krb_convert.proofs.EncodedLines.{goes_on-start, start-is}
use Rattle.krb_run.proofs.LineReaders.{is_new}
use Rattle.krb_convert.proofs.json_reader.JsonReaderListStream.new.Goals as goal

pub returns : goal.returns
returns c =
    let reader : JsonReader = record { alloc = c.args.alloc; request = c.args.request; scratch = c.new.result; line = c.new-2.result; text = c.new-3.result; lines = 0; came = false; fault = None } in
    is_new json_reading reader c.args.request refl c.new-3.ensures.items c.new-2.ensures.items refl (λ lines. start-is reader lines refl c.new-3.ensures.items refl refl) (goes_on-start reader refl c.new-2.ensures.items) refl
