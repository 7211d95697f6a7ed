-- The tokens of SPNEGO (RFC 4178, 4.2, and NegHints of MS-SPNG, 2.2.1): three SEQUENCEs, each of whose fields may be left out. So more is taken than 4.2.1 allows, where mechTypes is not OPTIONAL.
use Rattle.std.specs.Prelude.{ℕ, ◌+◌, true, false, List, [], ◌∷◌, length, codes, Option, Some, None, Result, Ok, Err}
use Prim.Native.String.{String}
use Rattle.krb_der.specs.Octets.{when, begins_with}
use Rattle.krb_der.specs.declared.why.Why.TheVariants as why
use Rattle.krb_token.specs.Opened.{Part, Fault, fault_in, and_then}
use Rattle.krb_token.specs.Items.{entered, simple_item, simple_items}
use Rattle.krb_token.specs.declared.simple.Simple.{Simple}
use Rattle.krb_token.specs.declared.simple.Simple.TheVariants as simple
use Rattle.krb_token.specs.declared.fields.NegToken.{NegToken}
use Rattle.krb_token.specs.declared.fields.NegToken.TheVariants as neg

mutual
  -- what a field holds: a simple type, a SEQUENCE OF a simple type, the token, which is an OCTET STRING, or an OCTET STRING or a SEQUENCE
  pub data Holds : Type 0 where
    One : Simple → Holds
    Many : Simple → Holds
    Token : Holds
    OctetsOr : Fields → Holds

  -- the fields of a SEQUENCE, in order: each has an identifier octet and a path
  pub data Fields : Type 0 where
    End : Fields
    Field : (tag : ℕ) → (path : List ℕ) → Holds → Fields → Fields

abbrev pub field : ℕ → String → Holds → Fields → Fields
field index path holds fields = Field (0xA0 + index) (codes path) holds fields

abbrev pub neg_hints : Fields
neg_hints = field 0 "SPNEGO.mechListMIC.hintName" (One simple.Text) (field 1 "SPNEGO.mechListMIC.hintAddress" (One simple.Octets) End)

-- mechListMIC of a first token is NegHints under [3] where there is no MIC, and the MIC is then under [4]
abbrev pub neg_fields : NegToken → Fields
neg_fields neg.Init =
    field 0 "SPNEGO.mechTypes" (Many simple.Identifier)
    (field 1 "SPNEGO.reqFlags" (One simple.Flags)
    (field 2 "SPNEGO.mechToken" Token
    (field 3 "SPNEGO.mechListMIC" (OctetsOr neg_hints)
    (field 4 "SPNEGO.mechListMIC" (One simple.Octets) End))))
neg_fields neg.Response =
    field 0 "SPNEGO.negState" (One simple.State)
    (field 1 "SPNEGO.supportedMech" (One simple.Identifier)
    (field 2 "SPNEGO.responseToken" Token
    (field 3 "SPNEGO.mechListMIC" (One simple.Octets) End)))

-- the identifier octet of the choice, and the path of its token
abbrev pub neg_tag : NegToken → ℕ
neg_tag neg.Init = 0xA0
neg_tag neg.Response = 0xA1

abbrev pub neg_path : NegToken → List ℕ
neg_path neg.Init = codes "SPNEGO.mechToken"
neg_path neg.Response = codes "SPNEGO.responseToken"

abbrev pub spnego : List ℕ
spnego = codes "SPNEGO"

-- the last field of a SEQUENCE that has a path has been read: what is left is at fault
abbrev pub ended : List ℕ → Option Part → ℕ → List ℕ → Result (Option Part) Fault
ended path token place [] = Ok token
ended path token place (octet ∷ octets) = Err (fault_in path place why.Tag)

-- Fields are read up to the first fault. What is read is the token, if one was read before or is among them.
abbrev mutual
  pub held : Holds → List ℕ → Option Part → Part → Result (Option Part) Fault
  held (One type) path token part = and_then (simple_item type path true part) (λ item. Ok token)
  held (Many type) path token part =
      and_then (entered path 0x30 true part)
      (λ item. and_then (simple_items type path (length item.contents.octets) 0 item.contents item.contents.octets) (λ _. Ok token))
  held Token path token part = and_then (simple_item simple.Octets path true part) (λ item. Ok (Some item.contents))
  held (OctetsOr fields) path token part =
      when (begins_with 0x30 part.octets)
      (λ _. and_then (entered path 0x30 true part) (λ item. fields_read fields path token item.contents))
      (λ _. and_then (simple_item simple.Octets path true part) (λ item. Ok token))

  pub fields_read : Fields → List ℕ → Option Part → Part → Result (Option Part) Fault
  fields_read End path token part = ended path token part.place part.octets
  fields_read (Field tag own holds fields) path token part =
      when (begins_with tag part.octets)
      (λ _. and_then (entered own tag false part)
      (λ item. and_then (held holds own token item.contents) (λ found. fields_read fields path found item.rest)))
      (λ _. fields_read fields path token part)

-- the token in a token of SPNEGO, if it is not left out
abbrev pub neg_read : NegToken → Part → Result (Option Part) Fault
neg_read neg part =
    and_then (entered spnego (neg_tag neg) true part)
    (λ choice. and_then (entered spnego 0x30 true choice.contents) (λ sequence. fields_read (neg_fields neg) spnego None sequence.contents))
