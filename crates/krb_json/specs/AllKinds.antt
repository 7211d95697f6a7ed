-- All kinds of messages. asn1/generate wrote this from asn1/krb5.asn1
use Rattle.std.specs.Prelude.{List, [], ◌∷◌}
use Rattle.krb_msg.specs.declared.message.Kind.{Kind}
use Rattle.krb_msg.specs.declared.message.Kind.TheVariants as kind

abbrev pub kinds : List Kind
kinds =
    kind.AsReq ∷ kind.AsRep ∷ kind.TgsReq ∷ kind.TgsRep ∷ kind.ApReq ∷ kind.ApRep ∷ kind.KrbSafe ∷ kind.KrbPriv
    ∷ kind.KrbCred ∷ kind.KrbError ∷ []
