-- The record of one message that an input spells is a line.
use Rattle.std.proofs.Common.{◌≡◌, ℕ, ◌+◌, ◌^◌, ◌<◌, ◌≤◌, nat_lt, false, List, [], ◌∷◌, length, take, Option, Some, None, IfSome, Ok, Err, refl, sym, ◌∙◌, ap, subst, arith}
use Rattle.std.proofs.lemmas.Bool.{cond_both}
use Rattle.krb_der.specs.Octets.{AreOctets}
use Rattle.krb_der.specs.declared.profile.Profile.{Profile}
use Rattle.krb_der.specs.declared.profile.Profile.TheVariants as profiles
use Rattle.krb_der.specs.declared.verdict.Refusal.{Refusal}
use Rattle.krb_der.specs.declared.why.Why.TheVariants as why
use Rattle.krb_source.specs.declared.spelling.Spelling.{Spelling}
use Rattle.krb_source.specs.declared.spelling.Spelling.TheVariants.{Octets}
use Rattle.krb_msg.specs.Der.{IsDer}
use Rattle.krb_msg.specs.Grammar.{ticket}
use Rattle.krb_msg.specs.Profiles.{profile_term}
use Rattle.krb_msg.specs.Laws.{AreMessage, MessageOfDerIsMessage, ValueOfDerIsValue}
use Rattle.krb_msg.specs.Term.{Fits, der}
use Rattle.krb_msg.specs.Types.{ticket_of, ticket_value}
use Rattle.krb_msg.specs.ValueOfDer.{value_of_der}
use Rattle.krb_msg.specs.Views.{IsInProfile, message_of_der}
use Rattle.krb_msg.proofs.Judged.{lenient_message}
use Rattle.krb_msg.proofs.ProfileValues.{lenient_der}
use Rattle.krb_msg.proofs.TypeValues.{ticket_value-of}
use Rattle.krb_judge.specs.Laws.{RefusalsAreInside}
use Rattle.krb_judge.specs.Parses.{refusal_of, ticket_refusal}
use Rattle.krb_judge.proofs.Slices.{message_in, whole_value}
use Rattle.krb_input.specs.Inputs.{Spells}
use Rattle.krb_laws.specs.JsonLaws.{EndsAreJson, IsExtent, IsLine, MessagesAreJson, PrintsJson}
use Rattle.krb_record.specs.Forms.{form_of, is_marked, record_line}
use Rattle.krb_record.specs.Inputs.{input_refused_record}
use Rattle.krb_record.specs.Labels.{Label, no_label}
use Rattle.krb_record.specs.Laws.{CountedStreamEndIsOneLine, InputRefusalIsOneLine, IsOneLine, MessageRefusalIsOneLine}
use Rattle.krb_record.specs.Origins.{message_origin}
use Rattle.krb_record.specs.Refusals.{message_refused_record}
use Rattle.krb_record.specs.Values.{Printed, with_origin}
use Rattle.krb_record.specs.declared.form.Base.{Base}
use Rattle.krb_record.specs.declared.form.Form.{Form}
use Rattle.krb_record.specs.declared.form.Form.TheVariants as forms
use Rattle.krb_record.specs.declared.input.InputFault.{InputFault}
use Rattle.krb_record.specs.declared.input.InputFault.TheVariants as faults
use Rattle.krb_text.specs.Laws.{MessageFromIsOneLine, TicketIsOneLine}
use Rattle.krb_text.specs.Messages.{shown_record, ticket_record}
use Rattle.krb_token.specs.Opened.{Found, Message as IsMessage, Ntlm, Refused, Ticket as IsTicket}
use Rattle.krb_token.specs.Tokens.{opened}
use Rattle.krb_tool.specs.Messages.{Layered, OneRecord, by_itself, extent_of, found_listing, input_limit, input_listing, input_octets_listing, judged_listing, listing_with, message_listing, ntlm_listing, octets_listing, refused_listing, spelled_in, spelled_listing, ticket_listing, ticket_of_der, unread_listing, whole_input}
use Rattle.krb_tool.specs.Paths.{refused_path, ticket_refused_path}
use Rattle.krb_tool_laws.specs.Listings.{AreLinesOf, AreRead, IsNamed}
use Rattle.krb_tool_laws.proofs.InForms.{base_in, is_unmarked, one_in, shown_json}
use Rattle.krb_tool_laws.proofs.Lines.{a_line}
use Rattle.krb_tool_laws.proofs.OpenedParts.{IsFound, opened_is}
use Rattle.krb_tool_laws.proofs.PathOctets.{message_octets, ticket_octets}
use Rattle.krb_tool_laws.proofs.SpelledOctets.{IsSpelled, input_spelled, line_spelled_is}

pub record Premises : Type 0 where
  pub message_of_der : MessageOfDerIsMessage
  pub value_of_der : ValueOfDerIsValue
  pub inside : RefusalsAreInside
  pub message_line_is : MessageFromIsOneLine
  pub ticket_line_is : TicketIsOneLine
  pub refusal_line_is : MessageRefusalIsOneLine
  pub input_line_is : InputRefusalIsOneLine
  pub counted_line_is : CountedStreamEndIsOneLine
  pub messages_json : MessagesAreJson
  pub ends_json : EndsAreJson

-- a record without a label
pub record IsGood (form : Form) (one : OneRecord) : Type 0 where
  pub alone : is_marked form ≡ false → IsOneLine (record_line form one.shown)
  pub json : form ≡ forms.Json → PrintsJson one.shown

pub good_line : (label : Label) (one : OneRecord) → IsNamed label → IsGood label.form one → AreLinesOf label.form (listing_with label one).text
good_line label one named good = a_line label named one.shown (good.alone named.0) good.json

-- ---- octets that are a message, and those that are not refused
pub lenient_in : MessageOfDerIsMessage → (profile : Profile) (octets : List ℕ) → AreMessage profile (length octets) octets → IsInProfile profiles.Lenient (message_of_der octets)
lenient_in message_of profile octets its =
    let same : message_of_der octets ≡ its.message = ap message_of_der (sym its.form) ∙ message_of profile its.message its.in_profile in
    subst (IsInProfile profiles.Lenient) (sym same) (lenient_message profile its.message its.in_profile)

pub its_message : MessageOfDerIsMessage → (profile : Profile) (octets : List ℕ) → AreOctets octets → refusal_of profile octets ≡ None → IsInProfile profiles.Lenient (message_of_der octets)
its_message message_of profile octets are none = lenient_in message_of profile octets (message_in profile octets are none)

pub message_place : RefusalsAreInside → (profile : Profile) (octets : List ℕ) (refusal : Refusal) → refusal_of profile octets ≡ Some refusal → refusal.place ≤ length octets
message_place inside profile [] refusal e = let first : record { place = 0; why = why.Empty } ≡ refusal = cc in omega (arith, ap (λ (r : Refusal). r.place) first)
message_place inside profile (octet ∷ octets) refusal e = omega (arith, inside.of_message profile (octet ∷ octets) refusal (omega arith) e)

module _ (p : Premises) where
  record IsTicketOf (octets : List ℕ) : Type 0 where
    fits : Fits ticket (ticket_value (ticket_of_der octets))
    short : length (der ticket (ticket_value (ticket_of_der octets))) < 2 ^ 31

  its_ticket : (profile : Profile) (octets : List ℕ) → AreOctets octets → ticket_refusal profile octets ≡ None → IsTicketOf octets
  its_ticket profile octets are none =
      let whole : IsDer (profile_term profile false ticket) octets × (length octets < 2 ^ 31) = whole_value (profile_term profile false ticket) octets are none in
      let its : IsDer ticket octets = lenient_der profile false ticket whole.0 in
      let back : value_of_der ticket octets ≡ its.value = ap (value_of_der ticket) its.form ∙ p.value_of_der ticket its.value refl (omega (arith, whole.1, ap length its.form)) in
      let same : ticket_value (ticket_of_der octets) ≡ its.value = ap (λ v. ticket_value (ticket_of v)) back ∙ ticket_value-of its.value its.fits in
      record {
        fits = subst (Fits ticket) (sym same) its.fits;
        short = omega (arith, whole.1, ap length (ap (der ticket) same ∙ sym its.form));
      }

  -- ---- refusals
  ticket_place : (profile : Profile) (octets : List ℕ) (refusal : Refusal) → ticket_refusal profile octets ≡ Some refusal → refusal.place ≤ length octets
  ticket_place profile [] refusal e = let first : record { place = 0; why = why.Empty } ≡ refusal = cc in omega (arith, ap (λ (r : Refusal). r.place) first)
  ticket_place profile (octet ∷ octets) refusal e = omega (arith, p.inside.of_ticket profile (octet ∷ octets) refusal (omega arith) e)

  refused_octets : (profile : Profile) (octets : List ℕ) (refusal : Refusal) → IfSome (refused_path profile octets refusal) AreOctets
  unfolding refused_path
  refused_octets profile octets refusal =
      cond_both {A = Option (List ℕ)} (nat_lt 2147483647 (length octets)) _ _ (λ path. IfSome path AreOctets) (λ t. tt) (λ t. message_octets profile (length octets) (take (refusal.place + 1) octets))

  refused_ticket : (profile : Profile) (octets : List ℕ) (refusal : Refusal) → IfSome (ticket_refused_path profile octets refusal) AreOctets
  unfolding ticket_refused_path
  refused_ticket profile octets refusal =
      cond_both {A = Option (List ℕ)} (nat_lt 2147483647 (length octets)) _ _ (λ path. IfSome path AreOctets) (λ t. tt) (λ t. ticket_octets profile (length octets) (take (refusal.place + 1) octets))

  refused : (input : _) (layered : Layered) (refusal : Refusal) (path : Option (List ℕ)) → IsExtent (extent_of input layered.all) → IsLine input.line → refusal.place < 10 ^ 64 → IfSome path AreOctets → IsGood input.form (refused_listing input layered refusal path)
  refused input layered refusal path extent line small are = record {
    alone = λ e. one_in (λ f. with_origin (message_origin input.line layered.layers) (message_refused_record f refusal path (extent_of input layered.all) layered.spelling)) input.form e
        (p.refusal_line_is (base_in input.form) input.line layered.layers refusal path (extent_of input layered.all) layered.spelling are);
    json = λ json. subst (λ f. PrintsJson (with_origin (message_origin input.line layered.layers) (message_refused_record f refusal path (extent_of input layered.all) layered.spelling))) (sym json)
        (p.ends_json.message input.line layered.layers refusal path (extent_of input layered.all) layered.spelling line small extent);
  }

  unread : (input : _) (fault : InputFault) (place : Option ℕ) → IsExtent (extent_of input []) → IsLine input.line → IfSome place (λ n. n < 10 ^ 64) → IsGood input.form (unread_listing input fault place)
  unread input fault place extent line small = record {
    alone = λ e. one_in (λ f. with_origin (message_origin input.line []) (input_refused_record f fault place (record { at = input.at; length = None }) None)) input.form e
        (p.input_line_is (base_in input.form) input.line [] fault place (record { at = input.at; length = None }) None);
    json = λ json. subst (λ f. PrintsJson (with_origin (message_origin input.line []) (input_refused_record f fault place (record { at = input.at; length = None }) None))) (sym json)
        (p.ends_json.input input.line [] fault place (record { at = input.at; length = None }) None line small (record { at = extent.at; length = tt }));
  }

  -- ---- octets in layers
  judged : (input : _) (layered : Layered) (place : ℕ) (octets : List ℕ) (refusal : Option Refusal) → IsExtent (extent_of input layered.all) → IsLine input.line → AreOctets octets → place + length octets < 10 ^ 64 → refusal_of input.profile octets ≡ refusal → IsGood input.form (judged_listing input layered place octets refusal)
  judged input layered place octets None extent line are small e =
      let its : IsInProfile profiles.Lenient (message_of_der octets) = its_message p.message_of_der input.profile octets are e in
      record {
        alone = λ e. one_in (λ f. with_origin (message_origin input.line layered.layers) (shown_record f (message_of_der octets))) input.form e (p.message_line_is (base_in input.form) input.line layered.layers (message_of_der octets) its);
        json = λ json. subst (λ f. PrintsJson (with_origin (message_origin input.line layered.layers) (shown_record f (message_of_der octets)))) (sym json)
            (subst (λ (r : Printed). PrintsJson (with_origin (message_origin input.line layered.layers) r)) (sym (shown_json (message_of_der octets))) (p.messages_json.from input.line layered.layers (message_of_der octets) line its));
      }
  judged input layered place octets (Some refusal) extent line are small e =
      refused input layered (record { place = place + refusal.place; why = refusal.why }) (refused_path input.profile octets refusal) extent line (omega (arith, small, message_place p.inside input.profile octets refusal e)) (refused_octets input.profile octets refusal)

  as_ticket : (input : _) (layered : Layered) (refusal : Option Refusal) → IsExtent (extent_of input layered.all) → IsLine input.line → AreOctets layered.all → ticket_refusal input.profile layered.all ≡ refusal → IsGood input.form (ticket_listing input layered refusal)
  as_ticket input layered None extent line are e =
      let its : IsTicketOf layered.all = its_ticket input.profile layered.all are e in
      record {
        alone = λ e. one_in (λ f. with_origin (message_origin input.line layered.layers) (ticket_record (ticket_of_der layered.all))) input.form e (p.ticket_line_is (base_in input.form) input.line layered.layers (ticket_of_der layered.all) its.fits);
        json = λ json. p.messages_json.ticket input.line layered.layers (ticket_of_der layered.all) line its.fits its.short;
      }
  as_ticket input layered (Some refusal) extent line are e =
      refused input layered refusal (ticket_refused_path input.profile layered.all refusal) extent line (omega (arith, extent.length, ticket_place input.profile layered.all refusal e)) (refused_ticket input.profile layered.all refusal)

  as_ntlm : (input : _) (layered : Layered) (place : ℕ) → IsExtent (extent_of input layered.all) → IsLine input.line → place < 10 ^ 64 → IsGood input.form (ntlm_listing input layered place)
  as_ntlm input layered place extent line small = record {
    alone = λ e. one_in (λ f. with_origin (message_origin input.line layered.layers) (input_refused_record f faults.Ntlm (Some place) (extent_of input layered.all) (Some layered.spelling))) input.form e
        (p.input_line_is (base_in input.form) input.line layered.layers faults.Ntlm (Some place) (extent_of input layered.all) (Some layered.spelling));
    json = λ json. subst (λ f. PrintsJson (with_origin (message_origin input.line layered.layers) (input_refused_record f faults.Ntlm (Some place) (extent_of input layered.all) (Some layered.spelling)))) (sym json)
        (p.ends_json.input input.line layered.layers faults.Ntlm (Some place) (extent_of input layered.all) (Some layered.spelling) line small extent);
  }

  found : (input : _) (layered : Layered) (it : Found) → IsExtent (extent_of input layered.all) → IsLine input.line → AreOctets layered.all → IsFound (length layered.all) it → IsGood input.form (found_listing input layered it)
  found input layered (IsMessage part) extent line are is = judged input layered part.place part.octets (refusal_of input.profile part.octets) extent line is.octets (omega (arith, is.inside, extent.length)) refl
  found input layered IsTicket extent line are is = as_ticket input layered (ticket_refusal input.profile layered.all) extent line are refl
  found input layered (Ntlm place) extent line are is = as_ntlm input layered place extent line (omega (arith, is, extent.length))
  found input layered (Refused fault) extent line are is = refused input layered (record { place = fault.place; why = fault.why }) fault.path extent line (omega (arith, is.place, extent.length)) is.path

  octets_are : (input : _) (spelling : Spelling) (octets : List ℕ) → IsExtent (extent_of input octets) → IsLine input.line → AreOctets octets → IsGood input.form (input_octets_listing input spelling octets)
  unfolding input_octets_listing
  octets_are input spelling octets extent line are =
      cond_both {A = OneRecord} (nat_lt 2147483647 (length octets)) _ _ (λ one. IsGood input.form one)
      (λ t. refused input (by_itself spelling octets) (record { place = 0; why = why.TooLong }) None extent line (omega arith) tt)
      (λ t. found input (record { all = octets; spelling = spelling; layers = (opened octets).layers }) (opened octets).found extent line are (opened_is (length octets) octets are (omega arith)))

  -- ---- inputs
  as_spelled : (input : _) (size : ℕ) (spells : Spells) → IsExtent (extent_of input []) → IsLine input.line → size < 10 ^ 64 → IsSpelled size spells → IsGood input.form (spelled_listing input spells)
  as_spelled input size (Ok made) extent line small is = octets_are input made.0 made.1 (record { at = extent.at; length = omega (arith, is.1, small) }) line is.0
  as_spelled input size (Err fault) extent line small is = unread input (faults.Misspelled fault.0) (Some fault.1) extent line (omega (arith, is, small))

  its_spelling : (line : Option ℕ) (octets : List ℕ) → AreOctets octets → IsSpelled (length octets) (spelled_in line octets)
  unfolding spelled_in
  its_spelling None octets are = input_spelled octets are
  its_spelling (Some line) octets are = line_spelled_is octets

  pub input_is : (input : _) (octets : List ℕ) → IsExtent (extent_of input octets) → IsLine input.line → AreOctets octets → IsGood input.form (input_listing input octets)
  input_is input octets extent line are =
      let at : IsExtent (extent_of input []) = record { at = extent.at; length = omega arith } in
      cond_both {A = OneRecord} (nat_lt input_limit (length octets)) _ _ (λ one. IsGood input.form one)
      (λ t. unread input faults.Length None at line tt)
      (λ t. as_spelled input (length octets) (spelled_in input.line octets) at line extent.length (its_spelling input.line octets are))

  pub message_is : (label : Label) (profile : Profile) (input : List ℕ) → IsNamed label → AreRead input → AreLinesOf label.form (message_listing label profile input).text
  unfolding message_listing
  message_is label profile input named are =
      good_line label (input_listing (whole_input label.form profile) input) named (input_is (whole_input label.form profile) input (record { at = omega arith; length = omega (arith, are.1) }) tt are.0)

  pub octets_listed : (base : Base) (profile : Profile) (octets : List ℕ) → AreRead octets → AreLinesOf (form_of base) (octets_listing (form_of base) profile octets).text
  octets_listed base profile octets are =
      good_line (no_label (form_of base)) (input_octets_listing (whole_input (form_of base) profile) Octets octets) (is_unmarked base, tt) (octets_are (whole_input (form_of base) profile) Octets octets (record { at = omega arith; length = omega (arith, are.1) }) tt are.0)
