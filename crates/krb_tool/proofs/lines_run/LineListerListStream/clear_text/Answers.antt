use Rattle.std.proofs.Common.{◌++◌, refl, sym, ap, ◌∙◌, append-nil}
use Rattle.krb_run.specs.Conversions.{after_text}
use Rattle.krb_run.specs.LineReaders.{reader_kind}
use Rattle.krb_tool.specs.inner.MessageLines.{message_lines, records_from}
use Rattle.krb_run.proofs.Pieces.{Clears-made}
use Rattle.krb_tool.proofs.lines_run.LineListerListStream.clear_text.Goals as goal

pub returns : goal.returns
returns c =
    let old = c.args.self.now in
    Clears-made (reader_kind message_lines) {old = old} {new = record old { text = c.clear.new.self }} c.clear.ensures refl (λ w. (record { lines = w.0.lines; records = w.0.records }, tt, λ line held. tt)) refl
    (λ stream written h. record {
      ended = h.ended;
      last = h.last;
      all = h.all;
      holds = record { kept = h.holds.kept; size = h.holds.size };
      so_far = h.so_far ∙ sym (ap (λ l. (written ++ old.text) ++ l) c.clear.ensures ∙ append-nil (written ++ old.text));
      goes_on = λ lines may. h.goes_on lines may ∙ ap (λ t. after_text t (records_from old.request old.seen lines)) (sym (ap (λ l. (written ++ old.text) ++ l) c.clear.ensures ∙ append-nil (written ++ old.text)));
    })
