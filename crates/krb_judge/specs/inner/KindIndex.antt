-- The index of a kind, in the order of the messages of a profile. asn1/generate wrote this from asn1/krb5.asn1
use Rattle.std.specs.Prelude.{ℕ}
use Rattle.krb_msg.specs.declared.message.Kind.{Kind}
use Rattle.krb_msg.specs.declared.message.Kind.TheVariants as kind

abbrev pub kind_index : Kind → ℕ
kind_index kind.AsReq = 0
kind_index kind.AsRep = 1
kind_index kind.TgsReq = 2
kind_index kind.TgsRep = 3
kind_index kind.ApReq = 4
kind_index kind.ApRep = 5
kind_index kind.KrbSafe = 6
kind_index kind.KrbPriv = 7
kind_index kind.KrbCred = 8
kind_index kind.KrbError = 9
