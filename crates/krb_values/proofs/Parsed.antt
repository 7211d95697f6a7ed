-- What octets are, if they are not refused: a message, a Ticket or METHOD-DATA.
use Rattle.std.proofs.Common.{◌≡◌, ◌≢◌, ◌↔◌, ℕ, true, false, List, [], ◌++◌, map, length, Option, Some, None, Result, Ok, Err, IfOk, IsErrAnd, IsErrOf, refl, sym, ap, ◌∙◌, subst}
use Rattle.krb_der.specs.Octets.{AreOctets}
use Rattle.krb_der.specs.declared.profile.Profile.{Profile}
use Rattle.krb_der.specs.declared.verdict.Refusal.{Refusal}
use Rattle.krb_msg.specs.declared.message.Message.{Message}
use Rattle.krb_msg.specs.declared.pa_data.PaData.{PaData}
use Rattle.krb_msg.specs.declared.ticket.Ticket.{Ticket}
use Rattle.krb_msg.specs.declared.ticket.TicketView.{TicketView}
use Rattle.krb_msg.specs.Grammar.{method_data, ticket}
use Rattle.krb_msg.specs.Judgement.{term_judgement}
use Rattle.krb_msg.specs.Laws.{AreMessage}
use Rattle.krb_msg.specs.Profiles.{profile_term}
use Rattle.krb_msg.specs.Shape.{is_unambiguous}
use Rattle.krb_msg.specs.Term.{Term, Value, Fits, der}
use Rattle.krb_msg.specs.Types.{IsValidTicket, pa_data_value, pa_data_of, ticket_of_view, ticket_value, ticket_view_value}
use Rattle.krb_msg.specs.Views.{message_der, IsInProfile}
use Rattle.krb_msg.specs.inner.Backs.{map-back}
use Rattle.krb_msg.specs.inner.Values.{same_from_der}
use Rattle.krb_msg.proofs.Judged.{der_is_prefix_free}
use Rattle.krb_msg.proofs.ProfileValues.{lenient_back, lenient_fits}
use Rattle.krb_msg.proofs.TypeValues.{ticket_value-seen}
use Rattle.krb_judge.specs.Parses.{refusal_by, refusal_of, ticket_refusal, method_data_refusal, ticket_value_in, AreOf, AreOfMethodData, AreOfTicket, AreOfValue}
use Rattle.krb_judge.proofs.Slices.{message_in, message_not_refused, value_not_refused, whole_value}
use Rattle.krb_judge.proofs.Values.{ticket_back, ticket_of_in, ticket_onto, ticket_unambiguous, values_back, values_onto}
use Rattle.krb_values.specs.Parses.{HasNoMessage}
use Rattle.krb_values.specs.declared.parsing.ParseFault.{ParseFault}
use Rattle.krb_values.specs.declared.parsing.ParseFault.TheVariants as fault

-- ---- a message
pub same_message : {octets : List ℕ} (m other : Message) → message_der m ≡ octets → message_der other ≡ octets → m ≡ other
same_message m other e f = (der_is_prefix_free m other [] [] (ap (λ l. l ++ []) (e ∙ sym f))).0

pub are_of : {octets : List ℕ} (profile : Profile) (m : Message) → AreMessage profile (length octets) octets → message_der m ≡ octets → AreOf profile octets m
are_of profile m w e = record { in_profile = subst (IsInProfile profile) (same_message w.message m w.form e) w.in_profile; form = e }

pub no_message : (profile : Profile) (octets : List ℕ) → AreOctets octets → HasNoMessage profile octets ↔ (refusal_of profile octets ≢ None)
no_message profile octets a = (λ no e. let w = message_in profile octets a e in no w.message (record { in_profile = w.in_profile; form = w.form }), λ some m f. some (message_not_refused profile m f))

-- ---- of a type whose values are those of a term that fit
module _ {A : Type 0} (term : Term) (unambiguous : is_unambiguous term ≡ true) (value_of : A → Value term) (of_value : Value term → A) (back : (a : A) → of_value (value_of a) ≡ a) (onto : (value : Value term) → Fits term value → value_of (of_value value) ≡ value) where
  pub same_of_value : {octets : List ℕ} (a b : A) → der term (value_of a) ≡ octets → der term (value_of b) ≡ octets → a ≡ b
  same_of_value a b e f =
      let same : value_of a ≡ value_of b = (same_from_der term unambiguous (value_of a) (value_of b) [] [] (ap (λ l. l ++ []) (e ∙ sym f))).0 in
      sym (back a) ∙ ap of_value same ∙ back b

  pub no_value : (octets : List ℕ) → AreOctets octets → ((a : A) → AreOfValue term value_of octets a → ⊥) ↔ (refusal_by (term_judgement term) octets ≢ None)
  no_value octets a = (
    λ no e.
        let w = whole_value term octets a e in
        let same = onto w.0.value w.0.fits in
        no (of_value w.0.value) (record { fits = subst (Fits term) (sym same) w.0.fits; short = w.1; form = ap (der term) same ∙ sym w.0.form }),
    λ some v f. some (value_not_refused term unambiguous value_of of_value back onto v f),
  )

-- ---- a Ticket
pub same_ticket : {octets : List ℕ} (profile : Profile) (t u : Ticket) → AreOfTicket profile octets t → AreOfTicket profile octets u → t ≡ u
same_ticket profile t u f g = same_of_value (profile_term profile false ticket) (ticket_unambiguous profile) (ticket_value_in profile) (ticket_of_in profile) (ticket_back profile) (ticket_onto profile) t u f.form g.form

pub no_ticket : (profile : Profile) (octets : List ℕ) → AreOctets octets → ((t : Ticket) → AreOfTicket profile octets t → ⊥) ↔ (ticket_refusal profile octets ≢ None)
no_ticket profile = no_value (profile_term profile false ticket) (ticket_unambiguous profile) (ticket_value_in profile) (ticket_of_in profile) (ticket_back profile) (ticket_onto profile)

-- its view fits
pub ticket_fits : {octets : List ℕ} (profile : Profile) (view : TicketView) → IsValidTicket view → AreOfTicket profile octets (ticket_of_view view) → Fits ticket (ticket_view_value view)
ticket_fits profile view lists are =
    let widened = lenient_fits profile false ticket (ticket_value_in profile (ticket_of_view view)) are.fits in
    subst (Fits ticket) (ticket_value-seen view lists) (subst (Fits ticket) (lenient_back profile false ticket (ticket_value (ticket_of_view view))) widened)

-- ---- METHOD-DATA
pub same_method_data : {octets : List ℕ} (items others : List PaData) → AreOfMethodData octets items → AreOfMethodData octets others → items ≡ others
same_method_data items others f g = same_of_value method_data refl (map pa_data_value) (map pa_data_of) values_back values_onto items others f.form g.form

pub method_data_not_refused : {octets : List ℕ} (items : List PaData) → AreOfMethodData octets items → method_data_refusal octets ≡ None
method_data_not_refused items f = value_not_refused method_data refl (map pa_data_value) (map pa_data_of) values_back values_onto items f

pub no_method_data : (octets : List ℕ) → AreOctets octets → ((items : List PaData) → AreOfMethodData octets items → ⊥) ↔ (method_data_refusal octets ≢ None)
no_method_data = no_value method_data refl (map pa_data_value) (map pa_data_of) values_back values_onto

-- a view of its items fits
pub method_data_fits : {octets : List ℕ} (values : Value method_data) → AreOfMethodData octets (map pa_data_of values) → Fits method_data values
method_data_fits values are = subst (Fits method_data) (map-back pa_data_of pa_data_value (λ p. refl) values) are.fits

-- ---- faults
-- an error of a result, as one of another
error_is : {A E : Type 0} (r : Result A E) {e f : E} → r ≡ Err e → r ≡ Err f → e ≡ f
error_is (Ok value) p q = absurd cc
error_is (Err e) p q = cc

refused_same : {r s : Refusal} → fault.Refused r ≡ fault.Refused s → r ≡ s
refused_same e = cc

-- a refusal, as a fault
pub as_fault : {A B : Type 0} {found : Option Refusal} (refusal : Refusal) → ((r : Refusal) → IsErrOf {T = A} (Err refusal) r ↔ (found ≡ Some r)) → (r : Refusal) → IsErrOf {T = B} (Err (fault.Refused refusal)) (fault.Refused r) ↔ (found ≡ Some r)
as_fault {A = A} {B = B} refusal h r =
    let seen : Result A Refusal = Err refusal in
    let faulted : Result B ParseFault = Err (fault.Refused refusal) in
    (λ e. (h r).0 (ap Err (refused_same (error_is faulted refl e))), λ e. ap Err (ap fault.Refused (error_is seen refl ((h r).1 e))))

-- a refusal is none of octets that are not refused
pub not_refused_here : {A P : Type 0} {found : Option Refusal} (refusal : Refusal) → ((r : Refusal) → IsErrOf {T = A} (Err refusal) r ↔ (found ≡ Some r)) → found ≡ None → P
not_refused_here refusal h none = let some = sym none ∙ (h refusal).0 refl in absurd cc

-- out of memory there is no value
pub value_of_memory : {B : Type 0} (P : B → Type 0) (result : Result B ParseFault) → IsErrAnd result (λ e. e ≡ fault.Memory) → IfOk result P
value_of_memory P (Ok value) is = absurd is
value_of_memory P (Err e) is = tt

-- of octets that are not refused no result is a refusal: not out of memory, and not a value
pub refused_of_memory : {B : Type 0} {found : Option Refusal} (result : Result B ParseFault) → IsErrAnd result (λ e. e ≡ fault.Memory) → found ≡ None → (r : Refusal) → IsErrOf result (fault.Refused r) ↔ (found ≡ Some r)
refused_of_memory (Ok value) is none r = absurd is
refused_of_memory {B = B} (Err e) is none r = (
  λ q. let no : ◌≡◌ {A = Result B ParseFault} (Err fault.Memory) (Err (fault.Refused r)) = ap Err (sym is) ∙ q in absurd cc,
  λ q. let some = sym none ∙ q in absurd cc,
)

pub refused_of_value : {B : Type 0} {found : Option Refusal} (value : B) → found ≡ None → (r : Refusal) → IsErrOf (Ok value) (fault.Refused r) ↔ (found ≡ Some r)
refused_of_value {B = B} value none r = (
  λ q. let no : ◌≡◌ {A = Result B ParseFault} (Ok value) (Err (fault.Refused r)) = q in absurd cc,
  λ q. let some = sym none ∙ q in absurd cc,
)
