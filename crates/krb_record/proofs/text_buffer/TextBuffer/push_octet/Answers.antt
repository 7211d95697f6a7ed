use Rattle.std.proofs.Common.{[], ◌∷◌, refl}
use Rattle.std.proofs.lemmas.Str.{IsUtf8-from_ascii}
use Rattle.std.proofs.lemmas.Str.Ascii.{IsAscii-cons, IsAscii-nil}
use Rattle.krb_record.proofs.text_buffer.TextBuffer.push_octet.Goals as goal

pub append_sign-requires : goal.append_sign-requires
append_sign-requires c = record {
  text = IsUtf8-from_ascii (c.args.octet ∷ []) (IsAscii-cons c.args.octet [] c.requires IsAscii-nil);
  one = refl;
}
