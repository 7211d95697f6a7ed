-- What the parts of a run on one message promise each other.
use Rattle.krb_run.specs.Conversions.{Converted}
use Rattle.krb_convert.specs.Decoding.{Ending, ending_of}
use Rattle.krb_convert.specs.declared.whole_run.MessageLine.{MessageLine}

abbrev pub converted_of : MessageLine → Converted Ending
converted_of line = record { text = line.text.items; end = ending_of line.end }
