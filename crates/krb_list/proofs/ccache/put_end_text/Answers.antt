use Rattle.std.proofs.lemmas.Result.{on_ok_weaker}
use Rattle.krb_list.specs.Ccaches.{cache_end}
use Rattle.krb_record.specs.Forms.{record_text}
use Rattle.krb_list.proofs.Asides.{one_field_alone}
use Rattle.krb_list.proofs.ccache.put_end_text.Goals as goal

pub returns : goal.returns
unfolding cache_end record_text
returns c = on_ok_weaker c.put_closing.result (one_field_alone _ _ _ _ c.in_ok-put_opening.ensures c.in_ok-put_field.ensures) c.put_closing.ensures
