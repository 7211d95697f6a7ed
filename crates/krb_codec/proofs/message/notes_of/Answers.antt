-- asn1/generate wrote this from asn1/krb5.asn1
use Rattle.krb_codec.proofs.message.notes_of.Goals as goal

pub returns-in-AsReq : goal.returns-in-AsReq
returns-in-AsReq c = rw c.in-AsReq.is c.notes.ensures

pub returns-in-AsRep : goal.returns-in-AsRep
returns-in-AsRep c = rw c.in-AsRep.is c.notes-in-AsRep.ensures

pub returns-in-TgsReq : goal.returns-in-TgsReq
returns-in-TgsReq c = rw c.in-TgsReq.is c.notes-in-TgsReq.ensures

pub returns-in-TgsRep : goal.returns-in-TgsRep
returns-in-TgsRep c = rw c.in-TgsRep.is c.notes-in-TgsRep.ensures

pub returns-in-ApReq : goal.returns-in-ApReq
returns-in-ApReq c = rw c.in-ApReq.is c.notes-in-ApReq.ensures

pub returns-in-ApRep : goal.returns-in-ApRep
returns-in-ApRep c = rw c.in-ApRep.is c.notes-in-ApRep.ensures

pub returns-in-KrbSafe : goal.returns-in-KrbSafe
returns-in-KrbSafe c = rw c.in-KrbSafe.is c.notes-in-KrbSafe.ensures

pub returns-in-KrbPriv : goal.returns-in-KrbPriv
returns-in-KrbPriv c = rw c.in-KrbPriv.is c.notes-in-KrbPriv.ensures

pub returns-in-KrbCred : goal.returns-in-KrbCred
returns-in-KrbCred c = rw c.in-KrbCred.is c.notes-in-KrbCred.ensures

pub returns-in-KrbError : goal.returns-in-KrbError
returns-in-KrbError c = rw c.in-KrbError.is c.notes-in-KrbError.ensures
