-- asn1/generate wrote this from asn1/krb5.asn1
use Rattle.krb_codec.proofs.Puts.{message_sized}
use Rattle.krb_codec.proofs.message.octets_of.Goals as goal

pub returns-in-AsReq : goal.returns-in-AsReq
returns-in-AsReq c = message_sized c.in-AsReq.is c.size.ensures

pub returns-in-AsRep : goal.returns-in-AsRep
returns-in-AsRep c = message_sized c.in-AsRep.is c.size-in-AsRep.ensures

pub returns-in-TgsReq : goal.returns-in-TgsReq
returns-in-TgsReq c = message_sized c.in-TgsReq.is c.size-in-TgsReq.ensures

pub returns-in-TgsRep : goal.returns-in-TgsRep
returns-in-TgsRep c = message_sized c.in-TgsRep.is c.size-in-TgsRep.ensures

pub returns-in-ApReq : goal.returns-in-ApReq
returns-in-ApReq c = message_sized c.in-ApReq.is c.size-in-ApReq.ensures

pub returns-in-ApRep : goal.returns-in-ApRep
returns-in-ApRep c = message_sized c.in-ApRep.is c.size-in-ApRep.ensures

pub returns-in-KrbSafe : goal.returns-in-KrbSafe
returns-in-KrbSafe c = message_sized c.in-KrbSafe.is c.size-in-KrbSafe.ensures

pub returns-in-KrbPriv : goal.returns-in-KrbPriv
returns-in-KrbPriv c = message_sized c.in-KrbPriv.is c.size-in-KrbPriv.ensures

pub returns-in-KrbCred : goal.returns-in-KrbCred
returns-in-KrbCred c = message_sized c.in-KrbCred.is c.size-in-KrbCred.ensures

pub returns-in-KrbError : goal.returns-in-KrbError
returns-in-KrbError c = message_sized c.in-KrbError.is c.size-in-KrbError.ensures
