use Rattle.krb_text.proofs.Items.{map-same}
use Rattle.krb_text.proofs.list.EncryptionTypes.new.Goals as goal

pub returns : goal.returns
returns c = map-same _
