-- In rows of messages a cell is what the object says.
use Rattle.std.proofs.Common.{ℕ, pos, Option, Some, None, IfSome, List, [], ◌∷◌, ◌++◌, refl, codes}
use Rattle.std.proofs.lemmas.List.Elements.{All-contains, All-from_recursion}
use Rattle.std.specs.List.{AllByRecursion, Contains}
use Rattle.krb_der.specs.declared.profile.Profile.TheVariants as profiles
use Rattle.krb_msg.specs.Grammar.{kdc_req_body, krb_error, krb_safe}
use Rattle.krb_msg.specs.Notes.{notes_of}
use Rattle.krb_msg.specs.Term.{Fits, IfPresent}
use Rattle.krb_msg.specs.Types.{kdc_req_body_value, krb_error_value, krb_safe_value}
use Rattle.krb_msg.specs.Views.{IsInProfile}
use Rattle.krb_msg.specs.declared.kdc_rep.KdcRep.{KdcRep}
use Rattle.krb_msg.specs.declared.kdc_req.KdcReq.{KdcReq}
use Rattle.krb_msg.specs.declared.krb_error.KrbError.{KrbError}
use Rattle.krb_msg.specs.declared.krb_safe.KrbSafe.{KrbSafe}
use Rattle.krb_msg.specs.declared.message.Message.{Message}
use Rattle.krb_msg.specs.declared.message.Message.TheVariants as message
use Rattle.krb_msg.specs.declared.notes.Notes.{Notes}
use Rattle.krb_msg.specs.declared.principal_name.PrincipalName.{PrincipalName}
use Rattle.krb_source.specs.declared.layer.Layer.{Layer}
use Rattle.krb_record.specs.Origins.{message_origin}
use Rattle.krb_record.specs.Values.{Field, Number, Part, Quoted, count, the, with_origin}
use Rattle.krb_text.specs.Inside.{inside_of}
use Rattle.krb_text.specs.Judged.{methods_in}
use Rattle.krb_text.specs.MessageValues.{address, client, encrypted, principal}
use Rattle.krb_text.specs.Messages.{fields_of, kdc_rep_fields, kdc_req_fields, krb_error_fields, krb_safe_fields, message_record, notes, padata}
use Rattle.krb_text_laws.proofs.EachForm.{ArePlainParts, IsPlainPart}
use Rattle.krb_text_laws.proofs.EndOneLine.{origin_shown}
use Rattle.krb_text_laws.proofs.MessageOneLine.{record_is_plain}
use Rattle.krb_text_laws.proofs.Tuples.{◌&◌}
use Rattle.krb_choice_laws.specs.Cells.{NamesDiffer, Speaks}
use Rattle.krb_choice_laws.specs.Messages.{MessagesSayObjects, MessagesSayParts, PartSaysAll}
use Rattle.krb_choice_laws.proofs.InsideWords.{AreWords, IsWord, inside_words}
use Rattle.krb_choice_laws.proofs.Objects.{objects-say, parts-say}
use Rattle.krb_choice_laws.proofs.Worded.{AreSpeaking, AreWorded, IsWorded, all-speaking, optional, speaking, time, time-if}

-- ---- words of messages
its-client : (name : Option PrincipalName) (realm : Option (List ℕ)) → IsWorded (client name realm)
its-client None None = tt
its-client None (Some realm) = tt
its-client (Some name) None = tt
its-client (Some name) (Some realm) = tt

kdc-req : (m : KdcReq) → Fits kdc_req_body (kdc_req_body_value m.body) → AreWorded (kdc_req_fields m)
kdc-req m (options, (cname, (realm, (sname, (from, (till, (rtime, rest))))))) =
    tt & optional (principal m.body.realm) (λ name. tt) m.body.cname & optional (principal m.body.realm) (λ name. tt) m.body.sname & tt & time-if m.body.from from & time m.body.till till & time-if m.body.rtime rtime & tt & tt
    & optional padata (λ items. tt) m.padata & optional count (λ items. tt) m.body.addresses & optional encrypted (λ v. tt) m.body.enc_authorization_data & optional count (λ items. tt) m.body.additional_tickets & tt

kdc-rep : (m : KdcRep) → AreWorded (kdc_rep_fields m)
kdc-rep m = (tt, (tt, (optional padata (λ items. tt) m.padata, (tt, (tt, tt)))))

safe : (m : KrbSafe) → Fits krb_safe (krb_safe_value m) → AreWorded (krb_safe_fields m)
safe m (version, (type, ((user_data, (timestamp, (usec, (seq_number, (s_address, (r_address, no_more)))))), rest))) =
    tt & time-if m.body.timestamp timestamp & optional (λ n. Number (pos n)) (λ n. tt) m.body.usec & optional Number (λ n. tt) m.body.seq_number & tt & optional address (λ a. tt) m.body.r_address & tt & tt

error : (m : KrbError) → Fits krb_error (krb_error_value m) → AreWorded (krb_error_fields m)
error m (version, (type, (ctime, (cusec, (stime, rest))))) =
    tt & its-client m.cname m.crealm & tt & time-if m.ctime ctime & optional (λ n. Number (pos n)) (λ n. tt) m.cusec & time m.stime stime & tt
    & optional Quoted (λ octets. tt) m.e_text & optional count (λ octets. tt) m.e_data & optional _ (λ items. tt) (methods_in m.error_code m.e_data) & tt

and-notes : (fields : List Field) (n : Notes) → AreWorded fields → AreWorded (fields ++ the (codes "notes") (notes n) ∷ [])
and-notes [] n h = (tt, tt)
and-notes (field ∷ others) n h = (h.0, and-notes others n h.1)

fields-worded : (m : Message) → IsInProfile profiles.Lenient m → AreWorded (fields_of m)
fields-worded (message.AsReq m) good = kdc-req m good.fits.1.1.1.0
fields-worded (message.AsRep m) good = kdc-rep m
fields-worded (message.TgsReq m) good = kdc-req m good.fits.1.1.1.0
fields-worded (message.TgsRep m) good = kdc-rep m
fields-worded (message.ApReq m) good = (tt, (tt, (tt, (tt, tt))))
fields-worded (message.KrbSafe m) good = safe m good.fits
fields-worded (message.KrbCred m) good = (tt, (tt, tt))
fields-worded (message.KrbError m) good = error m good.fits
fields-worded other good = (tt, tt)

pub origin-worded : (line : Option ℕ) (layers : List Layer) → AreWorded (message_origin line layers)
origin-worded None [] = tt
origin-worded (Some line) (first ∷ others) = (tt, (tt, tt))
origin-worded other another = (tt, tt)

-- ---- names of their members
names-differ : (line : Option ℕ) (layers : List Layer) (m : Message) → NamesDiffer (with_origin (message_origin line layers) (message_record m))
unfolding message_record
names-differ None [] (message.AsReq m) = refl
names-differ None [] other = refl
names-differ None (first ∷ others) (message.AsReq m) = refl
names-differ None (first ∷ others) other = refl
names-differ (Some line) [] (message.AsReq m) = refl
names-differ (Some line) [] other = refl
names-differ (Some line) (first ∷ others) (message.AsReq m) = refl
names-differ (Some line) (first ∷ others) other = refl

-- ---- what they say
pub one-speaks : (fields : List Field) (field : Field) → AreSpeaking fields → Contains fields field → Speaks field.value
one-speaks fields field h i = All-contains (λ (f : Field). Speaks f.value) fields field (All-from_recursion (λ (f : Field). Speaks f.value) fields h) i

pub its-fields : (m : Message) → IsInProfile profiles.Lenient m → AreSpeaking (message_record m).fields
unfolding message_record
its-fields m good = speaking (message_record m).fields (record_is_plain m good).fields (and-notes (fields_of m) (notes_of m) (fields-worded m good))

all-speak : (line : Option ℕ) (layers : List Layer) (m : Message) → IsInProfile profiles.Lenient m → AreSpeaking (message_origin line layers ++ (message_record m).fields ++ (message_record m).last)
unfolding message_record
all-speak line layers m good =
    let origin = speaking (message_origin line layers) (origin_shown line layers) (origin-worded line layers) in
    all-speaking (message_origin line layers ++ (message_record m).fields) [] (all-speaking (message_origin line layers) (message_record m).fields origin (its-fields m good)) tt

pub messages-say : MessagesSayObjects
messages-say line layers m good path field i =
    let r = with_origin (message_origin line layers) (message_record m) in
    objects-say r (names-differ line layers m) path field i (one-speaks (r.origin ++ r.fields ++ r.last) field (all-speak line layers m good) i)

-- ---- what is inside
part-says : (p : Part) → IsPlainPart p → IsWord p → PartSaysAll p
part-says p h w path field i = parts-say p w.differ path field i (one-speaks p.fields field (speaking p.fields h.fields w.worded) i)

all-say : (parts : List Part) → ArePlainParts parts → AreWords parts → AllByRecursion PartSaysAll parts
all-say [] h w = tt
all-say (p ∷ others) h w = (part-says p h.0 w.0, all-say others h.1 w.1)

inside-says : (inside : Option (List Part)) → IfPresent ArePlainParts inside → IfSome inside AreWords → IfSome inside (AllByRecursion PartSaysAll)
inside-says None h w = tt
inside-says (Some parts) h w = all-say parts h w

pub parts-of-messages-say : MessagesSayParts
unfolding message_record
parts-of-messages-say m good = inside-says (inside_of m) (record_is_plain m good).inside (inside_words m)
