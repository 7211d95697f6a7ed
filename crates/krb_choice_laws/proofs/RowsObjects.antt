-- Rows are made of the records of which objects are made.
use Rattle.std.proofs.Common.{◌≡◌, ℕ, Option, List, refl}
use Rattle.krb_msg.specs.Stream.{Boundary, End, Refused, Within}
use Rattle.krb_ccache.specs.Tickets.{state_of}
use Rattle.krb_ccache.specs.declared.ticket.TicketState.{TicketState}
use Rattle.krb_ccache.specs.declared.ticket.TicketState.TheVariants as states
use Rattle.krb_ccache.specs.declared.value.Credential.{Credential}
use Rattle.krb_record.specs.Captures.{capture_end_record, capture_refused_record, captured, told_counts, told_in}
use Rattle.krb_record.specs.Values.{Printed}
use Rattle.krb_record.specs.declared.capture.CaptureCounts.{CaptureCounts}
use Rattle.krb_record.specs.declared.capture_origin.CaptureOrigin.{CaptureOrigin}
use Rattle.krb_record.specs.declared.extent.Extent.{Extent}
use Rattle.krb_record.specs.declared.form.Form.TheVariants.{Json, Rows}
use Rattle.krb_record.specs.declared.form.Wanted.{Wanted}
use Rattle.krb_record.specs.declared.told.ToldCounts.{ToldCounts}
use Rattle.krb_source.specs.declared.file_why.FileWhy.{FileWhy}
use Rattle.krb_text.specs.StreamEnds.{end_record}
use Rattle.krb_list.specs.Ccaches.{config_record, credential_record, state_record}
use Rattle.krb_choice_laws.specs.Says.{RowsHaveObjects}

in-stream : (wanted : Wanted) (messages : ℕ) (end : End) (path : Option (List ℕ)) (extent : Extent) → end_record (Rows wanted) messages end path extent ≡ end_record Json messages end path extent
in-stream wanted messages Boundary path extent = refl
in-stream wanted messages (Within present) path extent = refl
in-stream wanted messages (Refused place reason) path extent = refl

in-capture : (wanted : Wanted) (origin : CaptureOrigin) (r : Printed) → captured (Rows wanted) origin r ≡ captured Json origin r
unfolding told_in
in-capture wanted origin r = refl

its-end : (wanted : Wanted) (counts : CaptureCounts) (told : ToldCounts) → capture_end_record (Rows wanted) counts told ≡ capture_end_record Json counts told
unfolding told_counts
its-end wanted counts told = refl

its-refusal : (wanted : Wanted) (counts : CaptureCounts) (told : ToldCounts) (place : ℕ) (reason : FileWhy) (path : Option (List ℕ)) (extent : Extent) → capture_refused_record (Rows wanted) counts told place reason path extent ≡ capture_refused_record Json counts told place reason path extent
unfolding told_counts
its-refusal wanted counts told place reason path extent = refl

by-state : (wanted : Wanted) (now : Option ℕ) (c : Credential) (state : TicketState) → state_record (Rows wanted) now c state ≡ state_record Json now c state
unfolding config_record
by-state wanted now c states.Config = refl
by-state wanted now c other = refl

in-cache : (wanted : Wanted) (now : Option ℕ) (c : Credential) → credential_record (Rows wanted) now c ≡ credential_record Json now c
unfolding credential_record
in-cache wanted now c = by-state wanted now c (state_of c)

pub rows-have : RowsHaveObjects
rows-have = record {
  message = λ wanted refusal path extent spelling. refl;
  input = λ wanted fault place extent spelling. refl;
  file = λ wanted place reason path extent. refl;
  stream = in-stream;
  of_capture = in-capture;
  refusal = λ wanted refusal path extent. refl;
  lost = λ wanted place octets path. refl;
  end = its-end;
  refused_capture = its-refusal;
  credential = in-cache;
}
