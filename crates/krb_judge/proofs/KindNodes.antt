-- The rows of the messages of a kind, and that their fields have names. asn1/generate wrote this from asn1/krb5.asn1
use Rattle.std.proofs.Common.{◌≡◌, get_or, refl}
use Rattle.krb_der.specs.declared.profile.Profile.TheVariants.{Lenient, Strict}
use Rattle.krb_msg.specs.Nodes.{nodes, term_in, term_at}
use Rattle.krb_msg.specs.Views.{kind_term_in}
use Rattle.krb_msg.specs.declared.grammar.table.TheConstants.{LENIENT, STRICT}
use Rattle.krb_msg.specs.declared.message.Kind.{Kind}
use Rattle.krb_msg.specs.declared.message.Kind.TheVariants as kind
use Rattle.krb_judge.specs.Laws.{FieldsHaveNames}
use Rattle.krb_judge.specs.inner.KindIndex.{kind_index}

pub lenient_node : (k : Kind) → term_at (get_or LENIENT (kind_index k) 0) ≡ kind_term_in Lenient k
unfolding term_in nodes
lenient_node kind.AsReq = refl
lenient_node kind.AsRep = refl
lenient_node kind.TgsReq = refl
lenient_node kind.TgsRep = refl
lenient_node kind.ApReq = refl
lenient_node kind.ApRep = refl
lenient_node kind.KrbSafe = refl
lenient_node kind.KrbPriv = refl
lenient_node kind.KrbCred = refl
lenient_node kind.KrbError = refl

pub strict_node : (k : Kind) → term_at (get_or STRICT (kind_index k) 0) ≡ kind_term_in Strict k
unfolding term_in nodes
strict_node kind.AsReq = refl
strict_node kind.AsRep = refl
strict_node kind.TgsReq = refl
strict_node kind.TgsRep = refl
strict_node kind.ApReq = refl
strict_node kind.ApRep = refl
strict_node kind.KrbSafe = refl
strict_node kind.KrbPriv = refl
strict_node kind.KrbCred = refl
strict_node kind.KrbError = refl

pub fields_have_names : FieldsHaveNames
fields_have_names kind.AsReq = refl
fields_have_names other = refl
