use Rattle.std.proofs.lemmas.Str.{IsUtf8-from_ascii}
use Rattle.krb_record.proofs.text_buffer.TextBuffer.push_between.Goals as goal

pub append_between-requires : goal.append_between-requires
append_between-requires c = IsUtf8-from_ascii c.args.octets.now c.requires
