use Rattle.std.proofs.Common.{◌++◌, refl, ap, ◌∙◌, append-nil}
use Rattle.krb_decode.specs.inner.StreamParts.{stream_parts}
use Rattle.krb_tool.proofs.ListedPieces.{clears}
use Rattle.krb_decode.proofs.stream.StreamListerListStream.clear_text.Goals as goal

pub returns : goal.returns
returns c =
    let old = c.args.self.now.parts in
    clears stream_parts c.args.self.now.decoder old (record old { text = c.clear.new.self }) c.clear.ensures refl (λ profile limit. refl) (λ full. full) refl
    (λ profile frames written h. record {
      listed = h.listed;
      are = h.are;
      same_profile = h.same_profile;
      text = ap (λ l. (written ++ old.text) ++ l) c.clear.ensures ∙ append-nil (written ++ old.text) ∙ h.text;
      messages = h.messages;
      refused = h.refused;
      at_once = h.at_once;
      offset = h.offset;
    })
