use Rattle.std.proofs.lemmas.Str.{IsUtf8-from_ascii}
use Rattle.krb_record.proofs.text_buffer.TextBuffer.push_ascii.Goals as goal

pub append-requires : goal.append-requires
append-requires c = IsUtf8-from_ascii c.args.octets.now c.requires
