-- A Ticket and METHOD-DATA that fill a slice.
use Rattle.std.proofs.Common.{◌≡◌, ℕ, ◌^◌, ◌<◌, ◌∙◌, true, false, List, map, length, None, Result, Ok, Err, IfOk, refl, ap}
use Rattle.krb_der.specs.Octets.{AreOctets}
use Rattle.krb_der.specs.declared.profile.Profile.{Profile}
use Rattle.krb_der.specs.declared.profile.Profile.TheVariants as profiles
use Rattle.krb_msg.specs.declared.ticket.Ticket.{Ticket}
use Rattle.krb_msg.specs.declared.ticket.TicketView.{TicketView}
use Rattle.krb_msg.specs.declared.pa_data.PaData.{PaData}
use Rattle.krb_msg.specs.Term.{Term, Value, Fits, der}
use Rattle.krb_msg.specs.Grammar.{ticket, method_data}
use Rattle.krb_msg.specs.Profiles.{profile_term, profile_value}
use Rattle.krb_msg.specs.Shape.{is_unambiguous}
use Rattle.krb_msg.proofs.ProfileValues.{der_profile, lenient_value, lenient_back, profile_back, lenient_fits}
use Rattle.krb_msg.specs.Nodes.{nodes, term_in, term_at}
use Rattle.krb_judge.specs.declared.reading.TheConstants.{TICKET, STRICT_TICKET, METHOD_DATA}
use Rattle.krb_msg.specs.Types.{ticket_value, ticket_of, pa_data_value, pa_data_of, ticket_of_view, ticket_view_value}
use Rattle.krb_msg.specs.inner.Backs.{map-back}
use Rattle.krb_msg.proofs.TypeValues.{ticket_value-of}
use Rattle.krb_msg.specs.Judgement.{term_judgement}
use Rattle.krb_msg.specs.Der.{IsDer}
use Rattle.krb_msg.specs.Viewed.{IsViewOf}
use Rattle.krb_judge.specs.Parses.{refusal_by, ticket_refusal, method_data_refusal, ticket_value_in, AreOfTicket, AreOfMethodData}
use Rattle.krb_judge.proofs.Slices.{whole_value, are_of_value, value_not_refused}

-- the nodes
pub ticket_node : term_at TICKET ≡ ticket
unfolding term_in nodes
ticket_node = refl

pub strict_ticket_node : term_at STRICT_TICKET ≡ profile_term profiles.Strict false ticket
unfolding term_in nodes
strict_ticket_node = refl

pub method_data_node : term_at METHOD_DATA ≡ method_data
unfolding term_in nodes
method_data_node = refl

-- ---- a Ticket
pub ticket_unambiguous : (profile : Profile) → is_unambiguous (profile_term profile false ticket) ≡ true
ticket_unambiguous profiles.Lenient = refl
ticket_unambiguous profiles.Strict = refl

-- the Ticket of a value of a profile
pub ticket_of_in : (profile : Profile) → Value (profile_term profile false ticket) → Ticket
ticket_of_in profile value = ticket_of (lenient_value profile false ticket value)

pub ticket_back : (profile : Profile) (t : Ticket) → ticket_of_in profile (ticket_value_in profile t) ≡ t
unfolding ticket_of_in
ticket_back profile t = ap ticket_of (lenient_back profile false ticket (ticket_value t))

pub ticket_onto : (profile : Profile) (value : Value (profile_term profile false ticket)) → Fits (profile_term profile false ticket) value → ticket_value_in profile (ticket_of_in profile value) ≡ value
unfolding ticket_of_in
ticket_onto profile value f =
    ap (profile_value profile false ticket) (ticket_value-of (lenient_value profile false ticket value) (lenient_fits profile false ticket value f)) ∙ profile_back profile false ticket value

pub are_of_ticket : {octets : List ℕ} (profile : Profile) (t : Ticket) → IsDer (profile_term profile false ticket) octets × (length octets < 2 ^ 31) × (der ticket (ticket_value t) ≡ octets) → AreOfTicket profile octets t
are_of_ticket profile t (f, short, e) =
    are_of_value (profile_term profile false ticket) (ticket_unambiguous profile) (ticket_value_in profile) (ticket_of_in profile) (ticket_back profile) (ticket_onto profile) t f short (der_profile profile false ticket (ticket_value t) ∙ e)

pub ticket_not_refused : {octets : List ℕ} (profile : Profile) (t : Ticket) → AreOfTicket profile octets t → ticket_refusal profile octets ≡ None
ticket_not_refused profile t f = value_not_refused (profile_term profile false ticket) (ticket_unambiguous profile) (ticket_value_in profile) (ticket_of_in profile) (ticket_back profile) (ticket_onto profile) t f

-- the value of a view of octets that are not refused
pub ticket_viewed : {t : Ticket} (profile : Profile) (octets : List ℕ) (view : TicketView) → AreOctets octets → ticket_refusal profile octets ≡ None → IsViewOf ticket octets (ticket_view_value view) → t ≡ ticket_of_view view → AreOfTicket profile octets t
ticket_viewed {t = t} profile octets view a none v e =
    let w = whole_value (profile_term profile false ticket) octets a none in
    are_of_ticket profile t (w.0, w.1, ap (λ (u : Ticket). der ticket (ticket_value u)) e ∙ ap (der ticket) (ticket_value-of (ticket_view_value view) v.fits) ∙ v.form)

-- ---- METHOD-DATA
pub values_back : (items : List PaData) → map pa_data_of (map pa_data_value items) ≡ items
values_back = map-back pa_data_value pa_data_of (λ p. refl)

pub values_onto : (values : Value method_data) → Fits method_data values → map pa_data_value (map pa_data_of values) ≡ values
values_onto values f = map-back pa_data_of pa_data_value (λ p. refl) values

pub are_of_method_data : {octets : List ℕ} (items : List PaData) → IsDer method_data octets × (length octets < 2 ^ 31) × (der method_data (map pa_data_value items) ≡ octets) → AreOfMethodData octets items
are_of_method_data items (f, short, e) = are_of_value method_data refl (map pa_data_value) (map pa_data_of) values_back values_onto items f short e

pub method_data_viewed : {values : Value method_data} {items : List PaData} (octets : List ℕ) → AreOctets octets → method_data_refusal octets ≡ None → IsViewOf method_data octets values → items ≡ map pa_data_of values → AreOfMethodData octets items
method_data_viewed {values = values} {items = items} octets a none v e =
    let w = whole_value method_data octets a none in
    are_of_method_data items (w.0, w.1, ap (λ (l : List PaData). der method_data (map pa_data_value l)) e ∙ ap (der method_data) (values_onto values v.fits) ∙ v.form)

-- refusals by a node, and by its term
pub refused_as : (term : Term) (octets : List ℕ) (node : ℕ) → term_at node ≡ term → refusal_by (term_judgement (term_at node)) octets ≡ refusal_by (term_judgement term) octets
refused_as term octets node e = ap (λ term. refusal_by (term_judgement term) octets) e

-- both facts of a value
pub if_ok_both : {A E : Type 0} (P Q : A → Type 0) (r : Result A E) → IfOk r P → IfOk r Q → IfOk r (λ a. P a × Q a)
if_ok_both P Q (Ok a) p q = (p, q)
if_ok_both P Q (Err e) p q = tt
