-- asn1/generate wrote this from asn1/krb5.asn1
use Rattle.krb_codec.proofs.Puts.{message_short, message_capacity, message_put}
use Rattle.krb_codec.proofs.message.put.Goals as goal

pub put-requires-clause-short : goal.put-requires-clause-short
put-requires-clause-short c = message_short c.in-AsReq.is c.requires.short

pub put-requires-clause-capacity : goal.put-requires-clause-capacity
put-requires-clause-capacity c = message_capacity c.args.out.now c.in-AsReq.is c.requires.capacity

pub returns-in-AsReq : goal.returns-in-AsReq
returns-in-AsReq c = message_put c.in-AsReq.is c.put.ensures

pub put-requires-in-AsRep-clause-short : goal.put-requires-in-AsRep-clause-short
put-requires-in-AsRep-clause-short c = message_short c.in-AsRep.is c.requires.short

pub put-requires-in-AsRep-clause-capacity : goal.put-requires-in-AsRep-clause-capacity
put-requires-in-AsRep-clause-capacity c = message_capacity c.args.out.now c.in-AsRep.is c.requires.capacity

pub returns-in-AsRep : goal.returns-in-AsRep
returns-in-AsRep c = message_put c.in-AsRep.is c.put-in-AsRep.ensures

pub put-requires-in-TgsReq-clause-short : goal.put-requires-in-TgsReq-clause-short
put-requires-in-TgsReq-clause-short c = message_short c.in-TgsReq.is c.requires.short

pub put-requires-in-TgsReq-clause-capacity : goal.put-requires-in-TgsReq-clause-capacity
put-requires-in-TgsReq-clause-capacity c = message_capacity c.args.out.now c.in-TgsReq.is c.requires.capacity

pub returns-in-TgsReq : goal.returns-in-TgsReq
returns-in-TgsReq c = message_put c.in-TgsReq.is c.put-in-TgsReq.ensures

pub put-requires-in-TgsRep-clause-short : goal.put-requires-in-TgsRep-clause-short
put-requires-in-TgsRep-clause-short c = message_short c.in-TgsRep.is c.requires.short

pub put-requires-in-TgsRep-clause-capacity : goal.put-requires-in-TgsRep-clause-capacity
put-requires-in-TgsRep-clause-capacity c = message_capacity c.args.out.now c.in-TgsRep.is c.requires.capacity

pub returns-in-TgsRep : goal.returns-in-TgsRep
returns-in-TgsRep c = message_put c.in-TgsRep.is c.put-in-TgsRep.ensures

pub put-requires-in-ApReq-clause-short : goal.put-requires-in-ApReq-clause-short
put-requires-in-ApReq-clause-short c = message_short c.in-ApReq.is c.requires.short

pub put-requires-in-ApReq-clause-capacity : goal.put-requires-in-ApReq-clause-capacity
put-requires-in-ApReq-clause-capacity c = message_capacity c.args.out.now c.in-ApReq.is c.requires.capacity

pub returns-in-ApReq : goal.returns-in-ApReq
returns-in-ApReq c = message_put c.in-ApReq.is c.put-in-ApReq.ensures

pub put-requires-in-ApRep-clause-short : goal.put-requires-in-ApRep-clause-short
put-requires-in-ApRep-clause-short c = message_short c.in-ApRep.is c.requires.short

pub put-requires-in-ApRep-clause-capacity : goal.put-requires-in-ApRep-clause-capacity
put-requires-in-ApRep-clause-capacity c = message_capacity c.args.out.now c.in-ApRep.is c.requires.capacity

pub returns-in-ApRep : goal.returns-in-ApRep
returns-in-ApRep c = message_put c.in-ApRep.is c.put-in-ApRep.ensures

pub put-requires-in-KrbSafe-clause-short : goal.put-requires-in-KrbSafe-clause-short
put-requires-in-KrbSafe-clause-short c = message_short c.in-KrbSafe.is c.requires.short

pub put-requires-in-KrbSafe-clause-capacity : goal.put-requires-in-KrbSafe-clause-capacity
put-requires-in-KrbSafe-clause-capacity c = message_capacity c.args.out.now c.in-KrbSafe.is c.requires.capacity

pub returns-in-KrbSafe : goal.returns-in-KrbSafe
returns-in-KrbSafe c = message_put c.in-KrbSafe.is c.put-in-KrbSafe.ensures

pub put-requires-in-KrbPriv-clause-short : goal.put-requires-in-KrbPriv-clause-short
put-requires-in-KrbPriv-clause-short c = message_short c.in-KrbPriv.is c.requires.short

pub put-requires-in-KrbPriv-clause-capacity : goal.put-requires-in-KrbPriv-clause-capacity
put-requires-in-KrbPriv-clause-capacity c = message_capacity c.args.out.now c.in-KrbPriv.is c.requires.capacity

pub returns-in-KrbPriv : goal.returns-in-KrbPriv
returns-in-KrbPriv c = message_put c.in-KrbPriv.is c.put-in-KrbPriv.ensures

pub put-requires-in-KrbCred-clause-short : goal.put-requires-in-KrbCred-clause-short
put-requires-in-KrbCred-clause-short c = message_short c.in-KrbCred.is c.requires.short

pub put-requires-in-KrbCred-clause-capacity : goal.put-requires-in-KrbCred-clause-capacity
put-requires-in-KrbCred-clause-capacity c = message_capacity c.args.out.now c.in-KrbCred.is c.requires.capacity

pub returns-in-KrbCred : goal.returns-in-KrbCred
returns-in-KrbCred c = message_put c.in-KrbCred.is c.put-in-KrbCred.ensures

pub put-requires-in-KrbError-clause-short : goal.put-requires-in-KrbError-clause-short
put-requires-in-KrbError-clause-short c = message_short c.in-KrbError.is c.requires.short

pub put-requires-in-KrbError-clause-capacity : goal.put-requires-in-KrbError-clause-capacity
put-requires-in-KrbError-clause-capacity c = message_capacity c.args.out.now c.in-KrbError.is c.requires.capacity

pub returns-in-KrbError : goal.returns-in-KrbError
returns-in-KrbError c = message_put c.in-KrbError.is c.put-in-KrbError.ensures
