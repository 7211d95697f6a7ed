use Rattle.std.proofs.Common.{refl, sym, ◌∙◌, ap, arith, append-nil, ◌++◌}
use Rattle.std.specs.Prelude.{◌==◌, ◌&&◌}
use Rattle.krb_tool.specs.GoingOn.{Faulty}
use Rattle.krb_tool.proofs.Listings.{at_once-one}
use Rattle.krb_decode.proofs.stream.StreamPartsReceiver.receive_refusal.Goals as goal

pub returns : goal.returns
returns c =
    let put = c.in_ok-put_refusal.ensures in
    record {
      listed = Faulty c.args.refusal.place c.args.refusal.why c.args.decoder.now.octets;
      is_entry = refl;
      decoded = (c.args.decoder.now, c.requires.refused, refl);
      line = λ few. put.line ∙ ap (λ t. c.args.self.now.text ++ t) (sym (append-nil _));
      messages = λ few. omega (arith, put.messages);
      refused = λ few. put.refused few;
      at_once = put.at_once ∙ at_once-one c.args.self.now.is_refused_at_once (c.args.self.now.messages == 0 && c.args.self.now.refused == 0);
      offset = λ few. omega (arith, few, put.offset, c.requires.size, c.saturating_add-self.ensures);
      same = put.same;
    }
