-- The listing of the items of one message, by the input that spells its octets.
use Rattle.std.specs.Prelude.{ℕ, pos, ◌+◌, ◌-◌, ◌≡◌, false, nat_lt, ◌==◌, if◌then◌else◌, List, [], ◌∷◌, ◌++◌, length, take, drop, codes, Option, Some, None, Result, Ok, Err}
use Rattle.std.specs.Option.{option_map}
use Rattle.krb_der.specs.declared.profile.Profile.{Profile}
use Rattle.krb_der.specs.declared.verdict.Refusal.{Refusal}
use Rattle.krb_der.specs.declared.verdict.Verdict.{Verdict}
use Rattle.krb_der.specs.declared.verdict.Verdict.TheVariants as verdict
use Rattle.krb_der.specs.declared.why.Why.TheVariants as why
use Rattle.krb_source.specs.declared.spelling.Spelling.{Spelling}
use Rattle.krb_source.specs.declared.layer.Layer.{Layer}
use Rattle.krb_source.specs.declared.layer.Layer.TheVariants as layer
use Rattle.krb_input.specs.Inputs.{spelled}
use Rattle.krb_msg.specs.Grammar.{ticket}
use Rattle.krb_msg.specs.Judgement.{judgement, term_judgement}
use Rattle.krb_msg.specs.Profiles.{profile_term}
use Rattle.krb_judge.specs.Parses.{refusal_of, ticket_refusal}
use Rattle.krb_record.specs.Labels.{Label, line_of, no_label}
use Rattle.krb_record.specs.Values.{Number, Printed, the, printed}
use Rattle.krb_token.specs.Opened.{Found, Message, Ticket as IsTicket, Ntlm, Refused, Opened}
use Rattle.krb_token.specs.Tokens.{opened}
use Rattle.krb_items.specs.Fronts.{gss_verdict, spnego_verdict}
use Rattle.krb_items.specs.Reached.{believed, reached}
use Rattle.krb_items.specs.declared.listing.Listed.{Listed}
use Rattle.krb_items.specs.declared.reaching.Lies.{Lies}
use Rattle.krb_items.specs.declared.reaching.Lies.TheVariants as lies
use Rattle.krb_items.specs.declared.shape.NegToken.{NegToken}
use Rattle.krb_items.specs.declared.shape.NegToken.TheVariants as negs
use Rattle.krb_run.specs.Files.{FileListing}
use Rattle.krb_run.specs.declared.run.RunEnd.TheVariants as run
use Rattle.krb_record.specs.declared.form.Form.{Form}
use Rattle.krb_tool.specs.Messages.{input_limit, message_listing, octets_listing}

-- ---- what octets are listed as, and what is refused of them
-- where it is a message of NTLM in a token, its place, from which on nothing is listed
pub record Listable : Type 0 where
  pub lies : Lies
  pub fault : Option Refusal
  pub ntlm : Option ℕ

-- which token of SPNEGO octets begin with
abbrev pub neg_in : List ℕ → NegToken
neg_in [] = negs.Init
neg_in (octet ∷ octets) = if octet == 0xA1 then negs.Response else negs.Init

-- a message by itself, or octets in layers
abbrev pub lies_in : List Layer → List ℕ → Lies
lies_in [] octets = lies.Alone
lies_in (layer.Frame ∷ layers) octets = lies.Framed
lies_in (layer.Gss ∷ layers) octets = lies.Gss
lies_in (layer.Spnego ∷ layers) octets = lies.Spnego (neg_in octets)

-- the refusal of octets of which the first is at a place
abbrev pub at_place : ℕ → Refusal → Refusal
at_place place refusal = record { place = place + refusal.place; why = refusal.why }

-- of what is found in layers, if it lies in some
abbrev pub layer_listable : List Layer → List ℕ → Option Refusal → (ntlm : Option ℕ) → Option Listable
layer_listable [] octets fault ntlm = None
layer_listable (layer ∷ layers) octets fault ntlm = Some (record { lies = lies_in (layer ∷ layers) octets; fault = fault; ntlm = ntlm })

abbrev pub found_listable : Profile → List ℕ → List Layer → Found → Option Listable
found_listable profile octets layers (Message part) = Some (record { lies = lies_in layers octets; fault = option_map (at_place part.place) (refusal_of profile part.octets); ntlm = None })
found_listable profile octets layers IsTicket = Some (record { lies = lies.Ticket; fault = ticket_refusal profile octets; ntlm = None })
found_listable profile octets layers (Ntlm place) = layer_listable layers octets None (Some place)
found_listable profile octets layers (Refused fault) = layer_listable layers octets (Some (record { place = fault.place; why = fault.why })) None

abbrev pub opened_listable : Profile → List ℕ → Opened → Option Listable
opened_listable profile octets o = found_listable profile octets o.layers o.found

abbrev pub listable : Profile → List ℕ → Option Listable
listable profile octets = opened_listable profile octets (opened octets)

-- ---- if the first length is believed
-- what the octets decide that are there of so many
abbrev pub front_verdict : Profile → Lies → (size : ℕ) → List ℕ → Verdict
front_verdict profile lies.Framed size octets = judgement profile (size - 4) (drop 4 octets)
front_verdict profile lies.Ticket size octets = term_judgement (profile_term profile false ticket) size octets
front_verdict profile lies.Alone size octets = judgement profile size octets
front_verdict profile lies.Gss size octets = gss_verdict profile size octets
front_verdict profile (lies.Spnego neg) size octets = spnego_verdict profile neg size octets

-- the place of the first octet of a message
abbrev pub start_of : Lies → ℕ
start_of lies.Framed = 4
start_of lies.Ticket = 0
start_of lies.Alone = 0
start_of lies.Gss = 0
start_of (lies.Spnego neg) = 0

abbrev pub fault_of : (start count : ℕ) → Verdict → Option Refusal
fault_of start count verdict.Whole = None
fault_of start count verdict.Open = Some (record { place = count; why = why.Truncated })
fault_of start count (verdict.Refused refusal) = Some (at_place start refusal)

abbrev pub front_fault : Profile → Lies → (size : ℕ) → List ℕ → Option Refusal
front_fault profile lies size octets = fault_of (start_of lies) (length octets) (front_verdict profile lies size octets)

-- the first octets of that length are judged as any, unless they are fewer
abbrev pub listable_or : Listable → Option Listable → Listable
listable_or other None = other
listable_or other (Some found) = found

abbrev pub front_listable : Profile → Lies → (size : ℕ) → List ℕ → Listable
front_listable profile lies size octets =
    let cut : Listable = record { lies = lies; fault = front_fault profile lies size octets; ntlm = None } in
    if nat_lt (length octets) size then cut else listable_or cut (listable profile octets)

-- what is listed of octets after a text: the items before a message of NTLM, if one is there, or else all, up to the one at fault
abbrev pub reached_before : Option ℕ → Label → List ℕ → Listable → List ℕ → Listed
reached_before (Some place) label text found octets = reached label text found.lies (take place octets) None
reached_before None label text found octets = reached label text found.lies octets found.fault

abbrev pub reached_of : Label → List ℕ → Listable → List ℕ → Listed
reached_of label text found octets = reached_before found.ntlm label text found octets

abbrev pub believed_record : (size count : ℕ) → Printed
believed_record size count = printed (codes "believed") (the (codes "length") (Number (pos size)) ∷ the (codes "octets") (Number (pos count)) ∷ [])

-- a text, and after it what is listed of the octets of the length that is believed, if one is
unfoldable pub believed_text : Label → Profile → Lies → List ℕ → List ℕ → Option ℕ → List ℕ
believed_text label profile lies octets text None = text
believed_text label profile lies octets text (Some size) =
    (reached_of label (text ++ line_of label (believed_record size (length octets))) (front_listable profile lies size (take size octets)) (take size octets)).text

-- ---- the listing
abbrev pub items_end_record : ℕ → Printed
items_end_record count = printed (codes "end") (the (codes "items") (Number (pos count)) ∷ [])

-- the items, and the record of the end
abbrev pub whole_items : Label → Listed → FileListing
whole_items label listed = record { text = listed.text ++ line_of label (items_end_record listed.count); end = run.Clean }

-- a text, and the record of the refusal
abbrev pub refused_after : List ℕ → FileListing → FileListing
refused_after text refused = record { text = text ++ refused.text; end = refused.end }

-- what was listed, and the end, or after what is reached the record of the refusal
abbrev pub judged_items : Label → Profile → List ℕ → Lies → Listed → Option Refusal → FileListing → FileListing
judged_items label profile octets lies listed None refused = whole_items label listed
judged_items label profile octets lies listed (Some refusal) refused = refused_after (believed_text label profile lies octets listed.text (believed lies octets refusal)) refused

abbrev pub ended_items : Option ℕ → Label → Profile → List ℕ → Listable → Listed → FileListing → FileListing
ended_items (Some place) label profile octets found listed refused = refused_after listed.text refused
ended_items None label profile octets found listed refused = judged_items label profile octets found.lies listed found.fault refused

abbrev pub found_items : Label → Profile → List ℕ → Option Listable → FileListing → FileListing
found_items label profile octets None refused = refused
found_items label profile octets (Some found) refused = ended_items found.ntlm label profile octets found (reached_of label [] found octets) refused

-- the items of octets; of more than a message may have there are none
unfoldable pub octets_items : Label → Profile → List ℕ → FileListing → FileListing
octets_items label profile octets refused = if nat_lt 2147483647 (length octets) then refused else found_items label profile octets (listable profile octets) refused

-- octets that are not read as text
abbrev pub octets_items_listing : Form → Profile → List ℕ → FileListing
octets_items_listing form profile octets = octets_items (no_label form) profile octets (octets_listing form profile octets)

unfoldable pub spelled_items : Label → Profile → Result (Spelling × List ℕ) (Spelling × ℕ) → FileListing → FileListing
spelled_items label profile (Ok made) refused = octets_items label profile made.1 refused
spelled_items label profile (Err fault) refused = refused

-- what is refused is so as a message is (`message_listing`), and after what is reached of it
unfoldable pub items_listing : Label → Profile → List ℕ → FileListing
items_listing label profile input =
    if nat_lt input_limit (length input) then message_listing label profile input
    else spelled_items label profile (spelled input) (message_listing label profile input)

abbrev pub IsItemsListing : Label → Profile → List ℕ → FileListing → Type 0
IsItemsListing label profile input listing = listing ≡ items_listing label profile input
