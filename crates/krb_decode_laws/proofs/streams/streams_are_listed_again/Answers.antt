use Rattle.krb_decode_laws.proofs.ListedAgain.{streams_are_listed_again}
use Rattle.krb_decode_laws.proofs.streams.streams_are_listed_again.Goals as goal

pub returns : goal.returns
returns c = streams_are_listed_again (record {
  prefix_free = c.der_is_prefix_free.ensures;
  inside = c.refusals_are_inside.ensures;
  end_line_is = c.end_is_one_line.ensures.stream;
  counted_line_is = c.end_is_one_line.ensures.counted;
  json = c.texts_are_json.ensures;
}) (record { json = c.texts_are_json.ensures; short = c.texts_are_short.ensures; back = c.texts_come_back.ensures })
