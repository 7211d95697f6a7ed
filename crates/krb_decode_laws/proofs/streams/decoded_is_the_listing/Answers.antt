use Rattle.krb_decode_laws.proofs.StreamLines.{decoded_is_the_listing}
use Rattle.krb_decode_laws.proofs.streams.decoded_is_the_listing.Goals as goal

pub returns : goal.returns
returns c = decoded_is_the_listing (record {
  prefix_free = c.der_is_prefix_free.ensures;
  inside = c.refusals_are_inside.ensures;
  end_line_is = c.end_is_one_line.ensures.stream;
  counted_line_is = c.end_is_one_line.ensures.counted;
  json = c.texts_are_json.ensures;
})
