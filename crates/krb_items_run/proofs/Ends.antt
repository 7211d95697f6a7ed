-- How a listing of items ends: as that of the message.
use Rattle.std.proofs.Common.{◌≡◌, ℕ, Bool, true, false, if◌then◌else◌, List, [], ◌∷◌, ◌++◌, length, Option, Some, None, Result, Ok, Err, refl, sym, subst}
use Rattle.std.specs.Prelude.{nat_lt}
use Rattle.std.specs.Option.{option_map}
use Rattle.krb_der.specs.declared.profile.Profile.{Profile}
use Rattle.krb_der.specs.declared.verdict.Refusal.{Refusal}
use Rattle.krb_input.specs.Inputs.{spelled}
use Rattle.krb_judge.specs.Parses.{refusal_of, ticket_refusal}
use Rattle.krb_record.specs.Labels.{Label}
use Rattle.krb_source.specs.declared.layer.Layer.{Layer}
use Rattle.krb_source.specs.declared.spelling.Spelling.{Spelling}
use Rattle.krb_token.specs.Opened.{Found, Message, Ntlm, Part, Refused, Ticket}
use Rattle.krb_token.specs.Tokens.{opened}
use Rattle.krb_items.specs.Reached.{believed}
use Rattle.krb_items.specs.declared.listing.Listed.{Listed}
use Rattle.krb_items.specs.declared.reaching.Lies.{Lies}
use Rattle.krb_items.specs.declared.reaching.Lies.TheVariants as lies
use Rattle.krb_run.specs.Files.{FileListing}
use Rattle.krb_run.specs.declared.run.RunEnd.TheVariants as run
use Rattle.krb_tool.specs.Messages.{Layered, OneRecord, found_listing, input_limit, input_octets_listing, judged_listing, listing_with, message_listing, opened_listing, spelled_in, spelled_listing, ticket_listing, too_long_listing, unread_listing, whole_input}
use Rattle.krb_items_run.specs.Items.{Listable, at_place, believed_text, found_items, found_listable, items_listing, judged_items, layer_listable, lies_in, octets_items, reached_of, refused_after, spelled_items}
use Rattle.krb_items_run.specs.Laws.{EndsAs, IsLast}
use Rattle.krb_record.specs.declared.input.InputFault.TheVariants as faults

-- a refusal ends as itself
refused-alone : (label : Label) (one : OneRecord) → one.end ≡ run.RefusedAtOnce → EndsAs label (listing_with label one) (listing_with label one)
refused-alone label one is = record {
  end = refl;
  last = subst (λ end. IsLast label (listing_with label one) end (listing_with label one).text) (sym is) ([], refl);
}

abbrev layered_by : Spelling → List Layer → List ℕ → Layered
layered_by spelling layers octets = record { all = octets; spelling = spelling; layers = layers }

-- ---- what is found
-- what is whole has its count, and what is refused follows what is reached of it
message-ends : (label : Label) (profile : Profile) (octets : List ℕ) (layered : Layered) (part : Part) (lies : Lies) (listed : Listed) (fault : Option Refusal) →
    EndsAs label (listing_with label (judged_listing (whole_input label.form profile) layered part.place part.octets fault))
    (judged_items label profile octets lies listed (option_map (at_place part.place) fault) (listing_with label (judged_listing (whole_input label.form profile) layered part.place part.octets fault)))
message-ends label profile octets layered part lies listed None = record { end = refl; last = (listed.count, (listed.text, refl)) }
message-ends label profile octets layered part lies listed (Some refusal) =
    record { end = refl; last = (believed_text label profile lies octets listed.text (believed lies octets (at_place part.place refusal)), refl) }

ticket-ends : (label : Label) (profile : Profile) (octets : List ℕ) (layered : Layered) (lies : Lies) (listed : Listed) (fault : Option Refusal) →
    EndsAs label (listing_with label (ticket_listing (whole_input label.form profile) layered fault))
    (judged_items label profile octets lies listed fault (listing_with label (ticket_listing (whole_input label.form profile) layered fault)))
ticket-ends label profile octets layered lies listed None = record { end = refl; last = (listed.count, (listed.text, refl)) }
ticket-ends label profile octets layered lies listed (Some refusal) = record { end = refl; last = (believed_text label profile lies octets listed.text (believed lies octets refusal), refl) }

after-ends : (label : Label) (text : List ℕ) (one : OneRecord) → one.end ≡ run.RefusedAtOnce → EndsAs label (listing_with label one) (refused_after text (listing_with label one))
after-ends label text one is = record {
  end = refl;
  last = subst (λ end. IsLast label (listing_with label one) end (text ++ (listing_with label one).text)) (sym is) (text, refl);
}

refused-ends : (label : Label) (profile : Profile) (octets : List ℕ) (layers : List Layer) (refusal : Refusal) (one : OneRecord) → one.end ≡ run.RefusedAtOnce →
    EndsAs label (listing_with label one) (found_items label profile octets (layer_listable layers octets (Some refusal) None) (listing_with label one))
refused-ends label profile octets [] refusal one is = refused-alone label one is
refused-ends label profile octets (layer ∷ layers) refusal one is =
    let found : Listable = record { lies = lies_in (layer ∷ layers) octets; fault = Some refusal; ntlm = None } in
    after-ends label (believed_text label profile found.lies octets (reached_of label [] found octets).text (believed found.lies octets refusal)) one is

ntlm-ends : (label : Label) (profile : Profile) (octets : List ℕ) (layers : List Layer) (place : ℕ) (one : OneRecord) → one.end ≡ run.RefusedAtOnce →
    EndsAs label (listing_with label one) (found_items label profile octets (layer_listable layers octets None (Some place)) (listing_with label one))
ntlm-ends label profile octets [] place one is = refused-alone label one is
ntlm-ends label profile octets (layer ∷ layers) place one is =
    let found : Listable = record { lies = lies_in (layer ∷ layers) octets; fault = None; ntlm = Some place } in
    after-ends label (reached_of label [] found octets).text one is

found-ends : (label : Label) (profile : Profile) (octets : List ℕ) (spelling : Spelling) (layers : List Layer) (found : Found) →
    EndsAs label (listing_with label (found_listing (whole_input label.form profile) (layered_by spelling layers octets) found))
    (found_items label profile octets (found_listable profile octets layers found) (listing_with label (found_listing (whole_input label.form profile) (layered_by spelling layers octets) found)))
found-ends label profile octets spelling layers (Message part) =
    let found : Listable = record { lies = lies_in layers octets; fault = option_map (at_place part.place) (refusal_of profile part.octets); ntlm = None } in
    message-ends label profile octets (layered_by spelling layers octets) part found.lies (reached_of label [] found octets) (refusal_of profile part.octets)
found-ends label profile octets spelling layers Ticket =
    let found : Listable = record { lies = lies.Ticket; fault = ticket_refusal profile octets; ntlm = None } in
    ticket-ends label profile octets (layered_by spelling layers octets) found.lies (reached_of label [] found octets) (ticket_refusal profile octets)
found-ends label profile octets spelling layers (Ntlm place) = ntlm-ends label profile octets layers place (found_listing (whole_input label.form profile) (layered_by spelling layers octets) (Ntlm place)) refl
found-ends label profile octets spelling layers (Refused fault) =
    refused-ends label profile octets layers (record { place = fault.place; why = fault.why }) (found_listing (whole_input label.form profile) (layered_by spelling layers octets) (Refused fault)) refl

-- ---- octets, and an input
-- where a test decides that both are one refusal, they end alike, and else if they do so
test-ends : (label : Label) (test : Bool) (refused other : OneRecord) (items : FileListing → FileListing) → refused.end ≡ run.RefusedAtOnce → EndsAs label (listing_with label other) (items (listing_with label other)) →
    EndsAs label (listing_with label (if test then refused else other)) (if test then listing_with label (if test then refused else other) else items (listing_with label (if test then refused else other)))
test-ends label true refused other items is ends = refused-alone label refused is
test-ends label false refused other items is ends = ends

octets-end : (label : Label) (profile : Profile) (spelling : Spelling) (octets : List ℕ) →
    EndsAs label (listing_with label (input_octets_listing (whole_input label.form profile) spelling octets)) (octets_items label profile octets (listing_with label (input_octets_listing (whole_input label.form profile) spelling octets)))
unfolding octets_items input_octets_listing
octets-end label profile spelling octets =
    test-ends label (nat_lt 2147483647 (length octets)) (too_long_listing (whole_input label.form profile) spelling octets) (opened_listing (whole_input label.form profile) spelling octets (opened octets))
    (found_items label profile octets (found_listable profile octets (opened octets).layers (opened octets).found)) refl
    (found-ends label profile octets spelling (opened octets).layers (opened octets).found)

spelled-ends : (label : Label) (profile : Profile) (made : Result (Spelling × List ℕ) (Spelling × ℕ)) →
    EndsAs label (listing_with label (spelled_listing (whole_input label.form profile) made)) (spelled_items label profile made (listing_with label (spelled_listing (whole_input label.form profile) made)))
unfolding spelled_items
spelled-ends label profile (Ok made) = octets-end label profile made.0 made.1
spelled-ends label profile (Err fault) = refused-alone label (unread_listing (whole_input label.form profile) (faults.Misspelled fault.0) (Some fault.1)) refl

pub items-end : (label : Label) (profile : Profile) (input : List ℕ) → EndsAs label (message_listing label profile input) (items_listing label profile input)
unfolding items_listing message_listing spelled_in
items-end label profile input =
    test-ends label (nat_lt input_limit (length input)) (unread_listing (whole_input label.form profile) faults.Length None) (spelled_listing (whole_input label.form profile) (spelled input))
    (spelled_items label profile (spelled input)) refl (spelled-ends label profile (spelled input))
