use Rattle.krb_decode_laws.proofs.StreamEnds.{streams_end_as_told}
use Rattle.krb_decode_laws.proofs.streams.streams_end_as_told.Goals as goal

pub returns : goal.returns
returns c = streams_end_as_told (record {
  prefix_free = c.der_is_prefix_free.ensures;
  inside = c.refusals_are_inside.ensures;
  end_line_is = c.end_is_one_line.ensures.stream;
  counted_line_is = c.end_is_one_line.ensures.counted;
  json = c.texts_are_json.ensures;
})
