-- What octets are listed as, and what is given to be listed, as the definitions speak of it.
use Rattle.krb_der.specs.declared.profile.Profile.{Profile}
use Rattle.krb_record.specs.Labels.{Label}
use Rattle.krb_run.specs.Files.{FileListing}
use Rattle.krb_tool.specs.Messages.{message_listing, octets_listing}
use Rattle.krb_items_run.specs.Items.{Listable}
use Rattle.krb_items_run.specs.declared.listable.Listable.{Listable as ListableOfCode}
use Rattle.krb_items_run.specs.declared.run.Given.{Given}
use Rattle.krb_items_run.specs.declared.run.Given.TheVariants as given

abbrev pub listable_of : ListableOfCode → Listable
listable_of found = record { lies = found.lies; fault = found.fault; ntlm = found.ntlm }

-- the record of the message that is given
abbrev pub message_listing_of : Label → Profile → Given → FileListing
message_listing_of label profile (given.Input input) = message_listing label profile input.now
message_listing_of label profile (given.Octets octets) = octets_listing label.form profile octets.now
