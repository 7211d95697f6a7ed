use Rattle.std.proofs.Common.{◌≡◌, ◌++◌, ◌∙◌, ap, sym, subst}
use Rattle.std.specs.Str.{IsAscii}
use Rattle.krb_der.specs.declared.profile.Profile.TheVariants.{Lenient}
use Rattle.krb_json.specs.Lines.{message_text}
use Rattle.krb_json.proofs.Messages.{texts_are_json}
use Rattle.krb_json.proofs.Printable.{printable-ascii}
use Rattle.krb_msg.specs.Views.{message_of_der}
use Rattle.krb_decode.proofs.stream.StreamParts.put_line.Goals as goal

pub push_ascii-requires : goal.push_ascii-requires
push_ascii-requires c =
    let m = message_of_der c.args.octets.now in
    let message = c.requires.message in
    let is : c.as_slice.result.now ≡ message_text m = c.as_slice.ensures.value ∙ c.in_ok-line.ensures m message.in_profile message.form ∙ ap (λ l. l ++ message_text m) c.new.ensures.items in
    subst IsAscii (sym is) (printable-ascii (message_text m) (texts_are_json Lenient m message.in_profile).printable)
