-- asn1/generate wrote this from asn1/krb5.asn1
use Rattle.krb_msg.specs.declared.message_view.MessageView.TheVariants as view
use Rattle.krb_codec.proofs.ViewValuesFit.{fits_as}
use Rattle.krb_codec.proofs.message.copy_message.Goals as goal

pub copy-requires-clause-fits : goal.copy-requires-clause-fits
copy-requires-clause-fits c = fits_as c.args.view.now (view.AsReq c.in-AsReq.req) c.in-AsReq.is c.requires.lists c.requires.in_profile

pub copy-requires-in-AsRep-clause-fits : goal.copy-requires-in-AsRep-clause-fits
copy-requires-in-AsRep-clause-fits c = fits_as c.args.view.now (view.AsRep c.in-AsRep.rep) c.in-AsRep.is c.requires.lists c.requires.in_profile

pub copy-requires-in-TgsReq-clause-fits : goal.copy-requires-in-TgsReq-clause-fits
copy-requires-in-TgsReq-clause-fits c = fits_as c.args.view.now (view.TgsReq c.in-TgsReq.req) c.in-TgsReq.is c.requires.lists c.requires.in_profile

pub copy-requires-in-TgsRep-clause-fits : goal.copy-requires-in-TgsRep-clause-fits
copy-requires-in-TgsRep-clause-fits c = fits_as c.args.view.now (view.TgsRep c.in-TgsRep.rep) c.in-TgsRep.is c.requires.lists c.requires.in_profile

pub from_view-requires-clause-fits : goal.from_view-requires-clause-fits
from_view-requires-clause-fits c = fits_as c.args.view.now (view.ApReq c.in-ApReq.req) c.in-ApReq.is c.requires.lists c.requires.in_profile

pub from_view-requires-in-ApRep-clause-fits : goal.from_view-requires-in-ApRep-clause-fits
from_view-requires-in-ApRep-clause-fits c = fits_as c.args.view.now (view.ApRep c.in-ApRep.rep) c.in-ApRep.is c.requires.lists c.requires.in_profile

pub from_view-requires-in-KrbSafe-clause-fits : goal.from_view-requires-in-KrbSafe-clause-fits
from_view-requires-in-KrbSafe-clause-fits c = fits_as c.args.view.now (view.KrbSafe c.in-KrbSafe.safe) c.in-KrbSafe.is c.requires.lists c.requires.in_profile

pub from_view-requires-in-KrbPriv-clause-fits : goal.from_view-requires-in-KrbPriv-clause-fits
from_view-requires-in-KrbPriv-clause-fits c = fits_as c.args.view.now (view.KrbPriv c.in-KrbPriv.private) c.in-KrbPriv.is c.requires.lists c.requires.in_profile

pub from_view-requires-in-KrbCred-clause-fits : goal.from_view-requires-in-KrbCred-clause-fits
from_view-requires-in-KrbCred-clause-fits c = fits_as c.args.view.now (view.KrbCred c.in-KrbCred.cred) c.in-KrbCred.is c.requires.lists c.requires.in_profile

pub from_view-requires-in-KrbError-clause-fits : goal.from_view-requires-in-KrbError-clause-fits
from_view-requires-in-KrbError-clause-fits c = fits_as c.args.view.now (view.KrbError c.in-KrbError.error) c.in-KrbError.is c.requires.lists c.requires.in_profile
