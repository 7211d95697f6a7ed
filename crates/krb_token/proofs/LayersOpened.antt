-- The first layer that is opened is the one that the octets begin as.
use Rattle.std.proofs.Common.{◌≡◌, ℕ, ◌+◌, ◌==◌, Bool, true, false, List, [], ◌∷◌, ◌++◌, length, Option, Some, None, Result, Ok, Err, refl}
use Rattle.std.specs.Prelude.{codes, bytes_eq}
use Rattle.krb_der.specs.Octets.{when}
use Rattle.krb_der.specs.declared.why.Why.TheVariants as why
use Rattle.krb_token.specs.Gss.{message_in, token_of, kerberos_opened, unknown_mechanism, identified, is_kerberos, negotiation, message_tag}
use Rattle.krb_token.specs.Items.{Item}
use Rattle.krb_token.specs.Opened.{Part, Fault, Opened, Ntlm, opened_by, under, message_under, refused_in, refused_bare}
use Rattle.krb_token.specs.Spnego.{neg_read, neg_path}
use Rattle.krb_token.specs.Tokens.{is_message_tag, is_ntlm, gss_in_spnego, token_in, neg_opened, spnego_opened, spnego_in_gss, mechanism_opened, gss_opened}
use Rattle.krb_token.specs.declared.fields.NegToken.{NegToken}
use Rattle.krb_token.specs.declared.fields.NegToken.TheVariants as neg
use Rattle.krb_source.specs.declared.layer.Layer.{Layer}
use Rattle.krb_source.specs.declared.layer.Layer.TheVariants.{Gss, Spnego}

abbrev pub first_layer : List Layer → Option Layer
first_layer [] = None
first_layer (layer ∷ layers) = Some layer

pub IsUnder : Layer → Opened → Type 0
IsUnder layer it = first_layer it.layers ≡ Some layer

is_under : (layer : Layer) (it : Opened) → first_layer it.layers ≡ Some layer → IsUnder layer it
unfolding IsUnder
is_under layer it h = h

pub layer_of : (layer : Layer) (it : Opened) → IsUnder layer it → first_layer it.layers ≡ Some layer
unfolding IsUnder
layer_of layer it h = h

either : (layer : Layer) (b : Bool) (chosen other : Unit {0} → Opened) → IsUnder layer (chosen tt) → IsUnder layer (other tt) → IsUnder layer (when b chosen other)
either layer true chosen other h k = h
either layer false chosen other h k = k

read_under : {A : Type 0} (layer : Layer) (layers : List Layer) (read : Result A Fault) (next : A → Opened) → ((x : A) → IsUnder layer (next x)) → IsUnder layer (opened_by (layer ∷ layers) read next)
read_under layer layers (Ok x) next h = h x
read_under layer layers (Err fault) next h = (is_under _ _ refl)

message_under_layer : (layer : Layer) (layers : List Layer) (tag place : ℕ) (octets : List ℕ) → IsUnder layer (message_in (layer ∷ layers) tag place octets)
message_under_layer layer layers tag place [] = (is_under _ _ refl)
message_under_layer layer layers tag place (octet ∷ octets) =
    either layer (octet == tag) (λ _. message_under (layer ∷ layers) place (octet ∷ octets)) (λ _. refused_bare (layer ∷ layers) place why.Tag) (is_under _ _ refl) (is_under _ _ refl)

token_under : (layer : Layer) (layers : List Layer) (tag : Option ℕ) (place : ℕ) (octets : List ℕ) → IsUnder layer (token_of (layer ∷ layers) tag place octets)
token_under layer layers (Some tag) place (low ∷ octets) =
    either layer (low == 0) (λ _. message_in (layer ∷ layers) tag (place + 2) octets) (λ _. refused_in (layer ∷ layers) (codes "GSS.token-id") (place + 1) why.Range)
    (message_under_layer layer layers tag (place + 2) octets) (is_under _ _ refl)
token_under layer layers other place another = (is_under _ _ refl)

kerberos_under : (layer : Layer) (layers : List Layer) (place : ℕ) (octets : List ℕ) → IsUnder layer (kerberos_opened (layer ∷ layers) place octets)
kerberos_under layer layers place [] = (is_under _ _ refl)
kerberos_under layer layers place (high ∷ octets) = token_under layer layers (message_tag high) place octets

gss_in_spnego_under : (layer : Layer) (layers : List Layer) (part : Part) → IsUnder layer (gss_in_spnego (layer ∷ layers) part)
gss_in_spnego_under layer layers part =
    read_under layer layers (identified part)
    (λ item. when (is_kerberos item.contents.octets) (λ _. kerberos_opened (layer ∷ layers) item.rest.place item.rest.octets) (λ _. unknown_mechanism (layer ∷ layers) item))
    (λ item. either layer (is_kerberos item.contents.octets) (λ _. kerberos_opened (layer ∷ layers) item.rest.place item.rest.octets) (λ _. unknown_mechanism (layer ∷ layers) item)
    (kerberos_under layer layers item.rest.place item.rest.octets) (is_under _ _ refl))

token_in_under : (layer : Layer) (layers : List Layer) (path : List ℕ) (part : Part) (octets : List ℕ) → IsUnder layer (token_in (layer ∷ layers) path part octets)
token_in_under layer layers path part [] = (is_under _ _ refl)
token_in_under layer layers path part (tag ∷ octets) =
    either layer (tag == 0x60) (λ _. gss_in_spnego ((layer ∷ layers) ++ (Gss ∷ [])) part)
    (λ _. when (is_message_tag tag) (λ _. message_under (layer ∷ layers) part.place part.octets) (λ _. when (is_ntlm part.octets) (λ _. under (layer ∷ layers) (Ntlm part.place)) (λ _. refused_in (layer ∷ layers) path part.place why.Tag)))
    (gss_in_spnego_under layer (layers ++ (Gss ∷ [])) part)
    (either layer (is_message_tag tag) (λ _. message_under (layer ∷ layers) part.place part.octets)
    (λ _. when (is_ntlm part.octets) (λ _. under (layer ∷ layers) (Ntlm part.place)) (λ _. refused_in (layer ∷ layers) path part.place why.Tag))
    (is_under _ _ refl)
    (either layer (is_ntlm part.octets) (λ _. under (layer ∷ layers) (Ntlm part.place)) (λ _. refused_in (layer ∷ layers) path part.place why.Tag) (is_under _ _ refl) (is_under _ _ refl)))

neg_under : (layer : Layer) (layers : List Layer) (path : List ℕ) (end : ℕ) (token : Option Part) → IsUnder layer (neg_opened (layer ∷ layers) path end token)
neg_under layer layers path end None = (is_under _ _ refl)
neg_under layer layers path end (Some part) = token_in_under layer layers path part part.octets

pub spnego_under : (layer : Layer) (layers : List Layer) (neg : NegToken) (part : Part) → IsUnder layer (spnego_opened (layer ∷ layers) neg part)
spnego_under layer layers neg part = read_under layer layers (neg_read neg part) (neg_opened (layer ∷ layers) (neg_path neg) (part.place + length part.octets)) (neg_under layer layers (neg_path neg) (part.place + length part.octets))

spnego_in_gss_under : (part : Part) (octets : List ℕ) → IsUnder Gss (spnego_in_gss part octets)
spnego_in_gss_under part [] = (is_under _ _ refl)
spnego_in_gss_under part (tag ∷ octets) =
    either Gss (tag == 0xA0) (λ _. spnego_opened (Gss ∷ Spnego ∷ []) neg.Init part) (λ _. refused_bare (Gss ∷ Spnego ∷ []) part.place why.Tag)
    (spnego_under Gss (Spnego ∷ []) neg.Init part) (is_under _ _ refl)

mechanism_under : (item : Item) → IsUnder Gss (mechanism_opened item)
mechanism_under item =
    either Gss (is_kerberos item.contents.octets) (λ _. kerberos_opened (Gss ∷ []) item.rest.place item.rest.octets)
    (λ _. when (bytes_eq item.contents.octets negotiation) (λ _. spnego_in_gss item.rest item.rest.octets) (λ _. unknown_mechanism (Gss ∷ []) item))
    (kerberos_under Gss [] item.rest.place item.rest.octets)
    (either Gss (bytes_eq item.contents.octets negotiation) (λ _. spnego_in_gss item.rest item.rest.octets) (λ _. unknown_mechanism (Gss ∷ []) item)
    (spnego_in_gss_under item.rest item.rest.octets) (is_under _ _ refl))

pub gss_under : (part : Part) → IsUnder Gss (gss_opened part)
gss_under part = read_under Gss [] (identified part) mechanism_opened mechanism_under
