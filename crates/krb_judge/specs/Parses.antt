-- The message, the Ticket and the METHOD-DATA whose DER a whole slice is, and why a slice is refused.
use Rattle.std.specs.Prelude.{ℕ, ◌≡◌, ◌<◌, ◌^◌, nat_lt, ◌==◌, if◌then◌else◌, false, List, length, map, Option, Some, None}
use Rattle.krb_der.specs.declared.profile.Profile.{Profile}
use Rattle.krb_der.specs.declared.verdict.Refusal.{Refusal}
use Rattle.krb_der.specs.declared.verdict.Verdict.{Verdict}
use Rattle.krb_der.specs.declared.verdict.Verdict.TheVariants as verdict
use Rattle.krb_der.specs.declared.why.Why.TheVariants as why
use Rattle.krb_msg.specs.declared.message.Message.{Message}
use Rattle.krb_msg.specs.declared.ticket.Ticket.{Ticket}
use Rattle.krb_msg.specs.declared.pa_data.PaData.{PaData}
use Rattle.krb_msg.specs.Profiles.{profile_term, profile_value}
use Rattle.krb_msg.specs.Term.{Term, Value, der, Fits}
use Rattle.krb_msg.specs.Grammar.{ticket, method_data}
use Rattle.krb_msg.specs.Nodes.{term_at}
use Rattle.krb_msg.specs.Table.{IsNode}
use Rattle.krb_msg.specs.Types.{ticket_value, pa_data_value}
use Rattle.krb_msg.specs.Views.{message_der, IsInProfile}
use Rattle.krb_msg.specs.Judgement.{judgement, term_judgement}
use Rattle.krb_judge.specs.declared.reading.Expected.{Expected}
use Rattle.krb_judge.specs.declared.reading.Expected.TheVariants as expected

-- the refusal of a verdict, if it is one
abbrev pub refused : Verdict → Option Refusal
refused verdict.Open = None
refused verdict.Whole = None
refused (verdict.Refused refusal) = Some refusal

-- the refusal of a slice by a judgement of its octets, if it is refused
abbrev pub refusal_by : (ℕ → List ℕ → Verdict) → List ℕ → Option Refusal
refusal_by judge octets =
    if nat_lt 2147483647 (length octets) then Some (record { place = 0; why = why.TooLong })
    else if length octets == 0 then Some (record { place = 0; why = why.Empty })
    else refused (judge (length octets) octets)

-- the refusal of a slice as a message and as a Ticket of a profile, and as METHOD-DATA
abbrev pub refusal_of : Profile → List ℕ → Option Refusal
refusal_of profile = refusal_by (judgement profile)

abbrev pub ticket_refusal : Profile → List ℕ → Option Refusal
ticket_refusal profile = refusal_by (term_judgement (profile_term profile false ticket))

abbrev pub method_data_refusal : List ℕ → Option Refusal
method_data_refusal = refusal_by (term_judgement method_data)

-- the judgement of a slice as what is expected
abbrev pub judged_as : Expected → ℕ → List ℕ → Verdict
judged_as (expected.Message profile) = judgement profile
judged_as (expected.Node node) = term_judgement (term_at node)

abbrev pub IsKnown : Expected → Type 0
IsKnown (expected.Message profile) = Unit {0}
IsKnown (expected.Node node) = IsNode node

-- the octets are those of this message of a profile
pub record AreOf (profile : Profile) (octets : List ℕ) (m : Message) : Type 0 where
  pub in_profile : IsInProfile profile m
  pub form : message_der m ≡ octets

-- the octets, fewer than 2147483648, are those of a value of a type
pub record AreOfValue {A : Type 0} (term : Term) (value_of : A → Value term) (octets : List ℕ) (a : A) : Type 0 where
  pub fits : Fits term (value_of a)
  pub short : length octets < 2 ^ 31
  pub form : der term (value_of a) ≡ octets

-- a Ticket as the value of a profile's term
abbrev pub ticket_value_in : (profile : Profile) → Ticket → Value (profile_term profile false ticket)
ticket_value_in profile t = profile_value profile false ticket (ticket_value t)

abbrev pub AreOfTicket : Profile → List ℕ → Ticket → Type 0
AreOfTicket profile = AreOfValue (profile_term profile false ticket) (ticket_value_in profile)

abbrev pub AreOfMethodData : List ℕ → List PaData → Type 0
AreOfMethodData = AreOfValue method_data (map pa_data_value)
