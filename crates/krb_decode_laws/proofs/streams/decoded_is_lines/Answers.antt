use Rattle.krb_decode_laws.proofs.WrittenLines.{streams_are_lines}
use Rattle.krb_decode_laws.proofs.streams.decoded_is_lines.Goals as goal

pub returns : goal.returns
returns c = streams_are_lines (record {
  prefix_free = c.der_is_prefix_free.ensures;
  inside = c.refusals_are_inside.ensures;
  end_line_is = c.end_is_one_line.ensures.stream;
  counted_line_is = c.end_is_one_line.ensures.counted;
  json = c.texts_are_json.ensures;
})
