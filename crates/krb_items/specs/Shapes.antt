-- What is in the items of messages by type: a line of a SEQUENCE is a line of RFC 4120, appendix A, or of the document of pre-authentication data, with what is shown of the field. asn1/generate wrote this from asn1/krb5.asn1 and asn1/padata.asn1
use Rattle.std.specs.Prelude.{ℕ, Bool, true, false, List, [], ◌∷◌, codes}
use Prim.Native.String.{String}
use Rattle.krb_msg.specs.declared.message.Kind.{Kind}
use Rattle.krb_msg.specs.declared.message.Kind.TheVariants as kinds
use Rattle.krb_registry.specs.declared.registry.Registry.{Registry}
use Rattle.krb_registry.specs.declared.registry.Registry.TheVariants as registries
use Rattle.krb_items.specs.declared.tag.Tag.{Tag}
use Rattle.krb_items.specs.declared.tag.Tag.TheVariants as tags
use Rattle.krb_items.specs.declared.shape.Held.{Held}
use Rattle.krb_items.specs.declared.shape.Held.TheVariants as helds
use Rattle.krb_items.specs.declared.shape.Holder.{Holder}
use Rattle.krb_items.specs.declared.shape.Holder.TheVariants as holders
use Rattle.krb_items.specs.declared.shape.Leaf.{Leaf}
use Rattle.krb_items.specs.declared.shape.Leaf.TheVariants as leaves
use Rattle.krb_items.specs.declared.shape.NegToken.{NegToken}
use Rattle.krb_items.specs.declared.shape.NegToken.TheVariants as negs
use Rattle.krb_items.specs.declared.shape.Sequence.{Sequence}
use Rattle.krb_items.specs.declared.shape.Sequence.TheVariants as sequences
use Rattle.krb_items.specs.declared.shape.List.{List as Items}
use Rattle.krb_items.specs.declared.shape.List.TheVariants as lists
use Rattle.krb_items.specs.declared.shape.Shape.{Shape}
use Rattle.krb_items.specs.declared.shape.Shape.TheVariants as shapes
use Rattle.krb_items.specs.declared.shape.Field.{Field as FieldOfCode}
use Rattle.krb_items.specs.declared.shape.ItemType.{ItemType as TypeOfCode}

-- the tags of an item, the outermost first, and what is in it
pub record ItemType : Type 0 where
  pub tags : List Tag
  pub shape : Shape

pub record Field : Type 0 where
  pub name : List ℕ
  pub required : Bool
  pub of : ItemType

abbrev pub type_of : TypeOfCode → ItemType
type_of of = record { tags = of.tags.now; shape = of.shape }

abbrev pub field_of : FieldOfCode → Field
field_of field = record { name = field.name.now; required = field.required; of = type_of field.of }

-- ---- how fields are written
abbrev pub in_tag : ℕ → ItemType → ItemType
in_tag index of = record { tags = tags.Context index ∷ of.tags; shape = of.shape }

abbrev pub field : ℕ → String → ItemType → Field
field index name of = record { name = codes name; required = true; of = in_tag index of }

abbrev pub optional : ℕ → String → ItemType → Field
optional index name of = record { name = codes name; required = false; of = in_tag index of }

abbrev pub leaf_of : Tag → Leaf → ItemType
leaf_of tag leaf = record { tags = tag ∷ []; shape = shapes.Leaf leaf }

abbrev pub number : Leaf → ItemType
number leaf = leaf_of tags.Integer leaf

abbrev pub octets : Leaf → ItemType
octets leaf = leaf_of tags.OctetString leaf

abbrev pub flags : Registry → ItemType
flags registry = leaf_of tags.BitString (leaves.Flags registry)

abbrev pub holder : Holder → ItemType
holder what = octets (leaves.Holder what)

abbrev pub text : ItemType
text = leaf_of tags.GeneralString leaves.Text

abbrev pub truth : ItemType
truth = leaf_of tags.Boolean leaves.Truth

abbrev pub time : ItemType
time = leaf_of tags.GeneralizedTime leaves.Time

abbrev pub sequence_type : Sequence → ItemType
sequence_type of = record { tags = tags.Sequence ∷ []; shape = shapes.Sequence of }

abbrev pub list_type : Items → ItemType
list_type of = record { tags = tags.SequenceOf ∷ []; shape = shapes.List of }

abbrev pub application : ℕ → Sequence → ItemType
application number of = record { tags = tags.Application number ∷ tags.Sequence ∷ []; shape = shapes.Sequence of }

abbrev pub ticket : ItemType
ticket = application 1 sequences.Ticket

abbrev pub identifier_type : ItemType
identifier_type = leaf_of tags.ObjectIdentifier leaves.Identifier

-- the token in one of SPNEGO, and what is NegHints or an OCTET STRING
abbrev pub token : ItemType
token = record { tags = tags.OctetString ∷ []; shape = shapes.Token }

abbrev pub hints : ItemType
hints = record { tags = []; shape = shapes.Hints }

-- ---- the fields of each SEQUENCE
abbrev pub fields_of : Sequence → List Field
-- RFC 4120, 5.2
fields_of sequences.PrincipalName = field 0 "name-type" (number (leaves.Numbered registries.NameTypes)) ∷ field 1 "name-string" (list_type lists.Strings) ∷ []
fields_of sequences.HostAddress = field 0 "addr-type" (number (leaves.Numbered registries.AddressTypes)) ∷ field 1 "address" (octets leaves.Octets) ∷ []
fields_of sequences.RequestPaData =
    field 1 "padata-type" (number (leaves.Numbered registries.PreAuthenticationData))
    ∷ field 2 "padata-value" (holder holders.RequestPadata)
    ∷ []
fields_of sequences.PaData =
    field 1 "padata-type" (number (leaves.Numbered registries.PreAuthenticationData))
    ∷ field 2 "padata-value" (holder holders.Padata)
    ∷ []
fields_of sequences.EncryptedData =
    field 0 "etype" (number (leaves.Numbered registries.EncryptionTypes))
    ∷ optional 1 "kvno" (number leaves.Number)
    ∷ field 2 "cipher" (octets leaves.Hidden)
    ∷ []
fields_of sequences.Checksum = field 0 "cksumtype" (number (leaves.Numbered registries.ChecksumTypes)) ∷ field 1 "checksum" (octets leaves.Hidden) ∷ []
-- RFC 4120, 5.3
fields_of sequences.Ticket =
    field 0 "tkt-vno" (number leaves.Number)
    ∷ field 1 "realm" text
    ∷ field 2 "sname" (sequence_type sequences.PrincipalName)
    ∷ field 3 "enc-part" (sequence_type sequences.EncryptedData)
    ∷ []
-- RFC 4120, 5.4.1
fields_of sequences.KdcReqBody =
    field 0 "kdc-options" (flags registries.KdcOptions)
    ∷ optional 1 "cname" (sequence_type sequences.PrincipalName)
    ∷ field 2 "realm" text
    ∷ optional 3 "sname" (sequence_type sequences.PrincipalName)
    ∷ optional 4 "from" time
    ∷ field 5 "till" time
    ∷ optional 6 "rtime" time
    ∷ field 7 "nonce" (number leaves.Number)
    ∷ field 8 "etype" (list_type lists.EncryptionTypes)
    ∷ optional 9 "addresses" (list_type lists.HostAddresses)
    ∷ optional 10 "enc-authorization-data" (sequence_type sequences.EncryptedData)
    ∷ optional 11 "additional-tickets" (list_type lists.Tickets)
    ∷ []
fields_of sequences.KdcReq =
    field 1 "pvno" (number leaves.Number)
    ∷ field 2 "msg-type" (number leaves.Number)
    ∷ optional 3 "padata" (list_type lists.RequestPaDatas)
    ∷ field 4 "req-body" (sequence_type sequences.KdcReqBody)
    ∷ []
-- RFC 4120, 5.4.2
fields_of sequences.KdcRep =
    field 0 "pvno" (number leaves.Number)
    ∷ field 1 "msg-type" (number leaves.Number)
    ∷ optional 2 "padata" (list_type lists.PaDatas)
    ∷ field 3 "crealm" text
    ∷ field 4 "cname" (sequence_type sequences.PrincipalName)
    ∷ field 5 "ticket" ticket
    ∷ field 6 "enc-part" (sequence_type sequences.EncryptedData)
    ∷ []
-- RFC 4120, 5.5
fields_of sequences.ApReq =
    field 0 "pvno" (number leaves.Number)
    ∷ field 1 "msg-type" (number leaves.Number)
    ∷ field 2 "ap-options" (flags registries.ApOptions)
    ∷ field 3 "ticket" ticket
    ∷ field 4 "authenticator" (sequence_type sequences.EncryptedData)
    ∷ []
fields_of sequences.ApRep =
    field 0 "pvno" (number leaves.Number)
    ∷ field 1 "msg-type" (number leaves.Number)
    ∷ field 2 "enc-part" (sequence_type sequences.EncryptedData)
    ∷ []
-- RFC 4120, 5.6.1
fields_of sequences.KrbSafeBody =
    field 0 "user-data" (octets leaves.Hidden)
    ∷ optional 1 "timestamp" time
    ∷ optional 2 "usec" (number leaves.Number)
    ∷ optional 3 "seq-number" (number leaves.Number)
    ∷ field 4 "s-address" (sequence_type sequences.HostAddress)
    ∷ optional 5 "r-address" (sequence_type sequences.HostAddress)
    ∷ []
fields_of sequences.KrbSafe =
    field 0 "pvno" (number leaves.Number)
    ∷ field 1 "msg-type" (number leaves.Number)
    ∷ field 2 "safe-body" (sequence_type sequences.KrbSafeBody)
    ∷ field 3 "cksum" (sequence_type sequences.Checksum)
    ∷ []
-- RFC 4120, 5.7.1
fields_of sequences.KrbPriv =
    field 0 "pvno" (number leaves.Number)
    ∷ field 1 "msg-type" (number leaves.Number)
    ∷ field 3 "enc-part" (sequence_type sequences.EncryptedData)
    ∷ []
-- RFC 4120, 5.8.1
fields_of sequences.KrbCred =
    field 0 "pvno" (number leaves.Number)
    ∷ field 1 "msg-type" (number leaves.Number)
    ∷ field 2 "tickets" (list_type lists.Tickets)
    ∷ field 3 "enc-part" (sequence_type sequences.EncryptedData)
    ∷ []
-- RFC 4120, 5.9.1
fields_of sequences.KrbError =
    field 0 "pvno" (number leaves.Number)
    ∷ field 1 "msg-type" (number leaves.Number)
    ∷ optional 2 "ctime" time
    ∷ optional 3 "cusec" (number leaves.Number)
    ∷ field 4 "stime" time
    ∷ field 5 "susec" (number leaves.Number)
    ∷ field 6 "error-code" (number leaves.ErrorCode)
    ∷ optional 7 "crealm" text
    ∷ optional 8 "cname" (sequence_type sequences.PrincipalName)
    ∷ field 9 "realm" text
    ∷ field 10 "sname" (sequence_type sequences.PrincipalName)
    ∷ optional 11 "e-text" text
    ∷ optional 12 "e-data" (holder holders.ErrorData)
    ∷ []
-- RFC 4120, 5.2.7.4
fields_of sequences.EtypeInfoEntry = field 0 "etype" (number (leaves.Numbered registries.EncryptionTypes)) ∷ optional 1 "salt" (octets leaves.Text) ∷ []
-- RFC 4120, 5.2.7.5
fields_of sequences.EtypeInfo2Entry =
    field 0 "etype" (number (leaves.Numbered registries.EncryptionTypes))
    ∷ optional 1 "salt" text
    ∷ optional 2 "s2kparams" (octets leaves.Octets)
    ∷ []
-- RFC 6113, 5.4.1
fields_of sequences.KrbFastArmor = field 0 "armor-type" (number leaves.Number) ∷ field 1 "armor-value" (holder holders.Armor) ∷ []
-- RFC 6113, 5.4.2
fields_of sequences.KrbFastArmoredReq =
    optional 0 "armor" (sequence_type sequences.KrbFastArmor)
    ∷ field 1 "req-checksum" (sequence_type sequences.Checksum)
    ∷ field 2 "enc-fast-req" (sequence_type sequences.EncryptedData)
    ∷ []
-- RFC 6113, 5.4.3
fields_of sequences.KrbFastArmoredRep = field 0 "enc-fast-rep" (sequence_type sequences.EncryptedData) ∷ []
-- MS-SFU, 2.2.1
fields_of sequences.PaForUser =
    field 0 "userName" (sequence_type sequences.PrincipalName)
    ∷ field 1 "userRealm" text
    ∷ field 2 "cksum" (sequence_type sequences.Checksum)
    ∷ field 3 "auth-package" text
    ∷ []
-- MS-KILE, 2.2.10
fields_of sequences.PaPacOptions = field 0 "flags" (flags registries.PacOptions) ∷ []
-- MS-KILE, 2.2.3
fields_of sequences.PacRequest = field 0 "include-pac" truth ∷ []
-- RFC 4178, 4.2.1 and 4.2.2, and MS-SPNG, 2.2.1
fields_of sequences.NegTokenInit =
    optional 0 "mechTypes" (list_type lists.MechTypes)
    ∷ optional 1 "reqFlags" (flags registries.ContextFlags)
    ∷ optional 2 "mechToken" token
    ∷ optional 3 "mechListMIC" hints
    ∷ optional 4 "mechListMIC" (octets leaves.Hidden)
    ∷ []
fields_of sequences.NegTokenResp =
    optional 0 "negState" (leaf_of tags.Enumerated leaves.Number)
    ∷ optional 1 "supportedMech" identifier_type
    ∷ optional 2 "responseToken" token
    ∷ optional 3 "mechListMIC" (octets leaves.Hidden)
    ∷ []
fields_of sequences.NegHints = optional 0 "hintName" text ∷ optional 1 "hintAddress" (octets leaves.Hidden) ∷ []

-- the items of each SEQUENCE OF
abbrev pub item_of : Items → ItemType
item_of lists.Strings = text
item_of lists.EncryptionTypes = number (leaves.Numbered registries.EncryptionTypes)
item_of lists.HostAddresses = sequence_type sequences.HostAddress
item_of lists.Tickets = ticket
item_of lists.RequestPaDatas = sequence_type sequences.RequestPaData
item_of lists.PaDatas = sequence_type sequences.PaData
item_of lists.EtypeInfo = sequence_type sequences.EtypeInfoEntry
item_of lists.EtypeInfo2 = sequence_type sequences.EtypeInfo2Entry
item_of lists.MechTypes = identifier_type

-- the messages of a kind
abbrev pub message_of : Kind → ItemType
message_of kinds.AsReq = application 10 sequences.KdcReq
message_of kinds.AsRep = application 11 sequences.KdcRep
message_of kinds.TgsReq = application 12 sequences.KdcReq
message_of kinds.TgsRep = application 13 sequences.KdcRep
message_of kinds.ApReq = application 14 sequences.ApReq
message_of kinds.ApRep = application 15 sequences.ApRep
message_of kinds.KrbSafe = application 20 sequences.KrbSafe
message_of kinds.KrbPriv = application 21 sequences.KrbPriv
message_of kinds.KrbCred = application 22 sequences.KrbCred
message_of kinds.KrbError = application 30 sequences.KrbError

-- what OCTET STRINGs hold; a salt holds no items
abbrev pub held_type : Held → ItemType
held_type helds.TgsReq = message_of kinds.ApReq
held_type helds.EncTimestamp = sequence_type sequences.EncryptedData
held_type helds.Salt = octets leaves.Text
held_type helds.EtypeInfo = list_type lists.EtypeInfo
held_type helds.EtypeInfo2 = list_type lists.EtypeInfo2
held_type helds.PacRequest = sequence_type sequences.PacRequest
held_type helds.ForUser = sequence_type sequences.PaForUser
held_type helds.FastRequest = in_tag 0 (sequence_type sequences.KrbFastArmoredReq)
held_type helds.FastReply = in_tag 0 (sequence_type sequences.KrbFastArmoredRep)
held_type helds.EncryptedChallenge = sequence_type sequences.EncryptedData
held_type helds.PacOptions = sequence_type sequences.PaPacOptions
held_type helds.MethodData = list_type lists.PaDatas
held_type helds.ApReq = message_of kinds.ApReq

-- ---- tokens of SPNEGO (RFC 4178, 4.2)
abbrev pub neg_type : NegToken → ItemType
neg_type negs.Init = in_tag 0 (sequence_type sequences.NegTokenInit)
neg_type negs.Response = in_tag 1 (sequence_type sequences.NegTokenResp)

-- the field with the token
abbrev pub neg_name : NegToken → List ℕ
neg_name negs.Init = codes "mechToken"
neg_name negs.Response = codes "responseToken"
