-- The names of the fields of each type, in order (RFC 4120, appendix A). asn1/generate wrote this from asn1/krb5.asn1
use Rattle.std.specs.Prelude.{List, [], ◌∷◌}
use Rattle.krb_msg.specs.declared.message.Kind.{Kind}
use Rattle.krb_msg.specs.declared.message.Kind.TheVariants as kind
use Rattle.krb_judge.specs.Named.{Named, basic, field}
use Rattle.krb_judge.specs.declared.locating.names.Names.{Names}
use Rattle.krb_judge.specs.declared.locating.names.Names.TheVariants.{Basic, PrincipalName, HostAddress, PaData, EncryptedData, Checksum, Ticket, KdcReqBody, KdcReq, KdcRep, ApReq, ApRep, KrbSafeBody, KrbSafe, KrbPriv, KrbCred, KrbError}

-- the fields of a type
abbrev pub fields_of : Names → List Named
fields_of Basic = []
fields_of PrincipalName = basic "name-type" ∷ basic "name-string" ∷ []
fields_of HostAddress = basic "addr-type" ∷ basic "address" ∷ []
fields_of PaData = basic "padata-type" ∷ basic "padata-value" ∷ []
fields_of EncryptedData = basic "etype" ∷ basic "kvno" ∷ basic "cipher" ∷ []
fields_of Checksum = basic "cksumtype" ∷ basic "checksum" ∷ []
fields_of Ticket = basic "tkt-vno" ∷ basic "realm" ∷ field "sname" PrincipalName ∷ field "enc-part" EncryptedData ∷ []
fields_of KdcReqBody =
    basic "kdc-options" ∷ field "cname" PrincipalName ∷ basic "realm" ∷ field "sname" PrincipalName ∷ basic "from"
    ∷ basic "till" ∷ basic "rtime" ∷ basic "nonce" ∷ basic "etype" ∷ field "addresses" HostAddress
    ∷ field "enc-authorization-data" EncryptedData ∷ field "additional-tickets" Ticket ∷ []
fields_of KdcReq = basic "pvno" ∷ basic "msg-type" ∷ field "padata" PaData ∷ field "req-body" KdcReqBody ∷ []
fields_of KdcRep =
    basic "pvno" ∷ basic "msg-type" ∷ field "padata" PaData ∷ basic "crealm" ∷ field "cname" PrincipalName
    ∷ field "ticket" Ticket ∷ field "enc-part" EncryptedData ∷ []
fields_of ApReq = basic "pvno" ∷ basic "msg-type" ∷ basic "ap-options" ∷ field "ticket" Ticket ∷ field "authenticator" EncryptedData ∷ []
fields_of ApRep = basic "pvno" ∷ basic "msg-type" ∷ field "enc-part" EncryptedData ∷ []
fields_of KrbSafeBody =
    basic "user-data" ∷ basic "timestamp" ∷ basic "usec" ∷ basic "seq-number" ∷ field "s-address" HostAddress
    ∷ field "r-address" HostAddress ∷ []
fields_of KrbSafe = basic "pvno" ∷ basic "msg-type" ∷ field "safe-body" KrbSafeBody ∷ field "cksum" Checksum ∷ []
fields_of KrbPriv = basic "pvno" ∷ basic "msg-type" ∷ field "enc-part" EncryptedData ∷ []
fields_of KrbCred = basic "pvno" ∷ basic "msg-type" ∷ field "tickets" Ticket ∷ field "enc-part" EncryptedData ∷ []
fields_of KrbError =
    basic "pvno" ∷ basic "msg-type" ∷ basic "ctime" ∷ basic "cusec" ∷ basic "stime" ∷ basic "susec" ∷ basic "error-code"
    ∷ basic "crealm" ∷ field "cname" PrincipalName ∷ basic "realm" ∷ field "sname" PrincipalName ∷ basic "e-text"
    ∷ basic "e-data" ∷ []

-- the type of the messages of a kind
abbrev pub names_of_kind : Kind → Names
names_of_kind kind.AsReq = KdcReq
names_of_kind kind.AsRep = KdcRep
names_of_kind kind.TgsReq = KdcReq
names_of_kind kind.TgsRep = KdcRep
names_of_kind kind.ApReq = ApReq
names_of_kind kind.ApRep = ApRep
names_of_kind kind.KrbSafe = KrbSafe
names_of_kind kind.KrbPriv = KrbPriv
names_of_kind kind.KrbCred = KrbCred
names_of_kind kind.KrbError = KrbError
