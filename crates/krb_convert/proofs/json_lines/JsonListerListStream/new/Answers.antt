use Rattle.std.proofs.Common.{refl, sym, option_map}
use Rattle.std.specs.Prelude.{string_bytes}
use Rattle.krb_run.specs.Conversions.{after_text}
use Rattle.krb_convert.specs.inner.JsonLines.{json_lines, rest_by}
use Rattle.krb_convert.proofs.DecodedFrames.{json_listed, none_full}
use Rattle.krb_tool.proofs.ListedPieces.{is_new}
use Rattle.krb_convert.proofs.json_lines.JsonListerListStream.new.Goals as goal

pub returns : goal.returns
returns c =
    let lines = c.new.ensures in
    is_new json_lines json_listed (record { decoder = c.start_stream.result; lines = c.new.result }) c.args.request c.args.request.profile c.args.request.limit c.start_stream.ensures refl lines.text
    (record {
      goes_on = λ contents end. λ i. after_text (sym lines.text i) (rest_by (option_map string_bytes (sym lines.none i)) (sym lines.messages i) contents end);
      counted = λ none. lines.messages;
    })
    (none_full c.new.result lines.none) lines.messages
