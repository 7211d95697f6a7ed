-- What the fields of messages show is printable.
use Rattle.std.proofs.Common.{ℕ, ℤ, pos, Option, Some, None, List, [], ◌∷◌}
use Rattle.std.specs.List.{AllByRecursion}
use Rattle.std.specs.Option.{option_map}
use Rattle.krb_der.specs.Octets.{AreOctets}
use Rattle.krb_der.specs.Scalars.{IsTimeFrom}
use Rattle.krb_msg.specs.Grammar.{kerberos_string, principal_name, host_address, kdc_req_body, ap_req, krb_safe, krb_error, ticket}
use Rattle.krb_msg.specs.Term.{Fits, IfPresent}
use Rattle.krb_msg.specs.Types.{principal_name_value, ticket_value, host_address_value, kdc_req_body_value, ap_req_value, krb_safe_value, krb_error_value}
use Rattle.krb_msg.specs.declared.principal_name.PrincipalName.{PrincipalName}
use Rattle.krb_msg.specs.declared.ticket.Ticket.{Ticket}
use Rattle.krb_msg.specs.declared.kdc_req.KdcReq.{KdcReq}
use Rattle.krb_msg.specs.declared.kdc_rep.KdcRep.{KdcRep}
use Rattle.krb_msg.specs.declared.ap_req.ApReq.{ApReq}
use Rattle.krb_msg.specs.declared.host_address.HostAddress.{HostAddress}
use Rattle.krb_msg.specs.declared.krb_safe.KrbSafe.{KrbSafe}
use Rattle.krb_msg.specs.declared.krb_error.KrbError.{KrbError}
use Rattle.krb_text.specs.Judged.{methods_in}
use Rattle.krb_text.specs.Messages.{padata, methods, kdc_req_fields, kdc_rep_fields, ap_req_fields, krb_safe_fields, krb_error_fields}
use Rattle.krb_record.specs.Text.{AllAreOctets}
use Rattle.krb_text.specs.MessageValues.{encrypted, principal, client, address}
use Rattle.krb_record.specs.Values.{Value, Number, Quoted, Word, if_there, count}
use Rattle.krb_text_laws.proofs.Printable.{time}
use Rattle.krb_text_laws.proofs.EachForm.{IsShown, AreShown}
use Rattle.krb_text_laws.proofs.Tuples.{◌&◌}

-- ---- what may be left out
pub optional : {A : Type 0} (value : A → Value) (P : A → Type 0) → ((a : A) → P a → IsShown (value a)) → (o : Option A) → IfPresent P o → IsShown (if_there value o)
optional value P shown None h = tt
optional value P shown (Some a) h = shown a h

pub always : {A : Type 0} (value : A → Value) → ((a : A) → IsShown (value a)) → (o : Option A) → IsShown (if_there value o)
always value shown None = tt
always value shown (Some a) = shown a

optional_time : (o : Option (List ℕ)) → IfPresent (IsTimeFrom 14) o → IsShown (if_there Word o)
optional_time o h = optional Word (IsTimeFrom 14) (λ octets is. (time octets is).all) o h

-- ---- principals: a string of the profile is octets
names_octets : (names : List (List ℕ)) → AllByRecursion (Fits kerberos_string) names → AllAreOctets names
names_octets [] fit = tt
names_octets (name ∷ names) fit = (fit.0.0, names_octets names fit.1)

pub named : (realm : List ℕ) (name : PrincipalName) → AreOctets realm → Fits principal_name (principal_name_value name) → IsShown (principal realm name)
named realm name h fit = (names_octets name.name fit.1.0.1, h)

optional_name : (realm : List ℕ) (name : Option PrincipalName) → AreOctets realm → IfPresent (Fits principal_name) (option_map principal_name_value name) → IsShown (if_there (principal realm) name)
optional_name realm None h fit = tt
optional_name realm (Some name) h fit = named realm name h fit

its_client : (name : Option PrincipalName) (realm : Option (List ℕ)) → IfPresent (Fits principal_name) (option_map principal_name_value name) → IfPresent (Fits kerberos_string) realm → IsShown (client name realm)
its_client None None h k = tt
its_client None (Some realm) h k = tt
its_client (Some name) None h k = tt
its_client (Some name) (Some realm) h k = named realm name k.0 h

pub of_ticket : (t : Ticket) → Fits ticket (ticket_value t) → IsShown (principal t.realm t.sname)
of_ticket t fit = named t.realm t.sname fit.1.0.0 fit.1.1.0

optional_address : (a : Option HostAddress) → IfPresent (Fits host_address) (option_map host_address_value a) → IsShown (if_there address a)
optional_address None fit = tt
optional_address (Some a) fit = fit.1.0

its_methods : (code : ℤ) (octets : Option (List ℕ)) → IsShown (methods code octets)
its_methods code octets = always _ (λ items. tt) (methods_in code octets)

-- ---- messages
pub kdc_req : (m : KdcReq) → Fits kdc_req_body (kdc_req_body_value m.body) → AreShown (kdc_req_fields m)
kdc_req m (options, (cname, (realm, (sname, (from, (till, (rtime, rest))))))) =
    realm.0 & optional_name m.body.realm m.body.cname realm.0 cname & optional_name m.body.realm m.body.sname realm.0 sname
    & options.1 & optional_time m.body.from from & (time m.body.till till).all & optional_time m.body.rtime rtime & tt & tt
    & always padata (λ items. tt) m.padata & always count (λ items. tt) m.body.addresses
    & always encrypted (λ v. tt) m.body.enc_authorization_data & always count (λ items. tt) m.body.additional_tickets & tt

pub kdc_rep : (m : KdcRep) → AreOctets m.crealm → Fits principal_name (principal_name_value m.cname) → Fits ticket (ticket_value m.ticket) → AreShown (kdc_rep_fields m)
kdc_rep m crealm cname its_ticket =
    (named m.crealm m.cname crealm cname, (of_ticket m.ticket its_ticket, (always padata (λ items. tt) m.padata, (tt, (tt, tt)))))

pub of_ap_req : (m : ApReq) → Fits ap_req (ap_req_value m) → AreShown (ap_req_fields m)
of_ap_req m (version, (type, (options, (its_ticket, rest)))) = (of_ticket m.ticket its_ticket, (options.1, (tt, (tt, tt))))

pub safe : (m : KrbSafe) → Fits krb_safe (krb_safe_value m) → AreShown (krb_safe_fields m)
safe m (version, (type, ((user_data, (timestamp, (usec, (seq_number, (s_address, (r_address, no_more)))))), rest))) =
    tt & optional_time m.body.timestamp timestamp & always (λ n. Number (pos n)) (λ n. tt) m.body.usec
    & always Number (λ n. tt) m.body.seq_number & s_address.1.0 & optional_address m.body.r_address r_address & tt & tt

pub error : (m : KrbError) → Fits krb_error (krb_error_value m) → AreShown (krb_error_fields m)
error m (version, (type, (ctime, (cusec, (stime, (susec, (error_code, (crealm, (cname, (realm, (sname, (text, rest)))))))))))) =
    tt & its_client m.cname m.crealm cname crealm & named m.realm m.sname realm.0 sname & optional_time m.ctime ctime
    & always (λ n. Number (pos n)) (λ n. tt) m.cusec & (time m.stime stime).all & tt
    & optional Quoted (Fits kerberos_string) (λ octets fit. fit.0) m.e_text text & always count (λ octets. tt) m.e_data
    & its_methods m.error_code m.e_data & tt
