-- The laws of lines that may spell a Ticket.
use Rattle.std.proofs.Common.{◌≡◌, ℕ, ◌<◌, ◌⊎◌, inl, inr, Bool, true, false, List, length, Option, Some, None, Result, Ok, Err, refl, sym, ◌∙◌, ap, arith}
use Rattle.std.specs.Prelude.{nat_lt, if◌then◌else◌}
use Rattle.std.specs.Option.{option_and_then}
use Rattle.std.specs.Result.{result_unwrap_or}
use Rattle.std.specs.Str.{bytes_eq}
use Rattle.std.proofs.lemmas.Bool.{ltb-false}
use Rattle.std.proofs.lemmas.Slice.Eq.{bytes_eq-Decides}
use Rattle.json.specs.Find.{as_object}
use Rattle.json.specs.Json.{Json}
use Rattle.krb_der.specs.declared.profile.Profile.{Profile}
use Rattle.krb_der.specs.declared.profile.Profile.TheVariants as profiles
use Rattle.krb_msg.specs.Grammar.{ticket}
use Rattle.krb_msg.specs.Profiles.{profile_term}
use Rattle.krb_msg.specs.Term.{Value, der}
use Rattle.krb_msg.specs.Views.{message_der}
use Rattle.krb_msg.specs.declared.message.Message.{Message}
use Rattle.krb_judge.specs.declared.locating.names.Names.TheVariants as names
use Rattle.krb_json.specs.declared.wrong.Wrong.TheVariants.{Longer}
use Rattle.krb_json.specs.Faults.{Fault, ◌>>=◌}
use Rattle.krb_json.specs.Laws.{AreOfMessage, AreOfTicket, LinesSpellOctets, is_named}
use Rattle.krb_json.specs.Lines.{LineFault, in_line, line_spells, member_spells, named_spells, sole_member, value_of_line, value_spells}
use Rattle.krb_json.specs.Spelled.{spelled, unless}
use Rattle.krb_json.specs.Tickets.{as_octets, line_octets, member_octets, ticket_name, ticket_spelled, ticket_within, value_octets}
use Rattle.krb_json.proofs.Fit.{term-fits}
use Rattle.krb_json.proofs.Messages.{lines_spell_messages}

-- what is returned, if it is
abbrev ok : List ℕ → Result (List ℕ) LineFault
ok octets = Ok octets

same-octets : (one other : List ℕ) → ok one ≡ ok other → other ≡ one
same-octets one other e = sym (ap (λ r. result_unwrap_or r one) e)

named : (profile : Profile) → is_named (profile_term profile false ticket) names.Ticket ≡ true
named profiles.Lenient = refl
named profiles.Strict = refl

-- ---- what is spelled
module _ (profile : Profile) (limit : ℕ) (text octets : List ℕ) (small : limit < 2147483648) where
  -- a Ticket
  of-value : (j : Json) (value : Value (profile_term profile false ticket)) → spelled (profile_term profile false ticket) names.Ticket ticket_name j ≡ Ok value → (long : Bool) → nat_lt limit (length (der (profile_term profile false ticket) value)) ≡ long
      → in_line (unless long ticket_name (Longer limit) (Ok (der (profile_term profile false ticket) value))) ≡ Ok octets → AreOfTicket profile limit octets
  of-value j value is true long e = absurd cc
  of-value j value is false short e =
      let form : octets ≡ der (profile_term profile false ticket) value = same-octets (der (profile_term profile false ticket) value) octets e in
      record {
        value = value;
        fits = term-fits (profile_term profile false ticket) names.Ticket (named profile) ticket_name j value is;
        form = form;
        short = let few = ltb-false limit (length (der (profile_term profile false ticket) value)) short in omega (arith, few, ap length form);
      }

  of-spelled : (j : Json) (r : Result (Value (profile_term profile false ticket)) Fault) → spelled (profile_term profile false ticket) names.Ticket ticket_name j ≡ r → in_line (r >>= λ value. ticket_within limit (der (profile_term profile false ticket) value)) ≡ Ok octets → AreOfTicket profile limit octets
  of-spelled j (Ok value) is e = of-value j value is (nat_lt limit (length (der (profile_term profile false ticket) value))) refl e
  of-spelled j (Err fault) is e = absurd cc

  -- a message
  of-message : (spells : Result Message LineFault) → line_spells profile limit text ≡ spells → as_octets spells ≡ Ok octets → AreOfMessage profile limit octets
  of-message (Ok m) is e = record { message = m; spelled = lines_spell_messages profile limit text m small is; form = same-octets (message_der m) octets e }
  of-message (Err fault) is e = absurd cc

  -- the one or the other
  of-name : (j : Json) → value_of_line text ≡ Some j → (sole : List ℕ × Json) (is_ticket : Bool) → (if is_ticket then in_line (ticket_spelled profile limit sole.1) else as_octets (value_spells profile limit (Some j))) ≡ Ok octets → AreOfMessage profile limit octets ⊎ AreOfTicket profile limit octets
  of-name j is sole true e = inr (of-spelled sole.1 (spelled (profile_term profile false ticket) names.Ticket ticket_name sole.1) refl e)
  of-name j is sole false e = inl (of-message (value_spells profile limit (Some j)) (ap (value_spells profile limit) is) e)

  of-member : (j : Json) → value_of_line text ≡ Some j → (sole : Option (List ℕ × Json)) → member_octets profile limit j sole ≡ Ok octets → AreOfMessage profile limit octets ⊎ AreOfTicket profile limit octets
  of-member j is None e = absurd cc
  of-member j is (Some sole) e = of-name j is sole (bytes_eq sole.0 ticket_name) e

  of-line : (found : Option Json) → value_of_line text ≡ found → value_octets profile limit found ≡ Ok octets → AreOfMessage profile limit octets ⊎ AreOfTicket profile limit octets
  of-line None is e = absurd cc
  of-line (Some j) is e = of-member j is (option_and_then sole_member (as_object j)) e

-- ---- a message as before
module _ (profile : Profile) (limit : ℕ) (m : Message) where
  by-name : (j k : Json) (name : List ℕ) (is_ticket : Bool) → bytes_eq name ticket_name ≡ is_ticket → value_spells profile limit (Some j) ≡ Ok m → member_spells profile limit (Some (name, k)) ≡ Ok m → (if is_ticket then in_line (ticket_spelled profile limit k) else as_octets (value_spells profile limit (Some j))) ≡ Ok (message_der m)
  by-name j k name true is whole e =
      let none : member_spells profile limit (Some (ticket_name, k)) ≡ Ok m = ap (λ n. member_spells profile limit (Some (n, k))) (sym ((bytes_eq-Decides name ticket_name).0 is)) ∙ e in absurd cc
  by-name j k name false is whole e = ap as_octets whole

  by-member : (j : Json) (sole : Option (List ℕ × Json)) → value_spells profile limit (Some j) ≡ Ok m → member_spells profile limit sole ≡ Ok m → member_octets profile limit j sole ≡ Ok (message_der m)
  by-member j None whole e = absurd cc
  by-member j (Some sole) whole e = by-name j sole.1 sole.0 (bytes_eq sole.0 ticket_name) refl whole e

  by-line : (found : Option Json) → value_spells profile limit found ≡ Ok m → value_octets profile limit found ≡ Ok (message_der m)
  by-line None e = absurd cc
  by-line (Some j) e = by-member j (option_and_then sole_member (as_object j)) e e

pub lines_spell_octets : LinesSpellOctets
lines_spell_octets = record {
  some = λ profile limit text octets small e. of-line profile limit text octets small (value_of_line text) refl e;
  messages = λ profile limit text m e. by-line profile limit m (value_of_line text) e;
}
