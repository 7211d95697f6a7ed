-- The record of a message, by what its octets are judged as.
use Rattle.std.proofs.Common.{◌≡◌, ℕ, ◌+◌, ◌^◌, ◌<◌, ◌≤◌, false, true, min, take, ap₂, if◌then◌else◌, List, [], ◌∷◌, ◌++◌, length, Option, Some, None, refl, sym, ◌∙◌, ap, subst, arith, length-append}
use Rattle.std.specs.Prelude.{nat_lt}
use Rattle.std.proofs.lemmas.Bool.{lt-ltb, le-ltb}
use Rattle.krb_der.specs.declared.profile.Profile.{Profile}
use Rattle.krb_der.specs.declared.verdict.Refusal.{Refusal}
use Rattle.krb_msg.specs.Judgement.{judgement}
use Rattle.krb_msg.specs.Views.{message_of_der}
use Rattle.krb_msg.specs.declared.message.Message.{Message}
use Rattle.krb_msg.specs.declared.ticket.Ticket.{Ticket}
use Rattle.krb_msg.specs.Grammar.{ticket}
use Rattle.krb_msg.specs.Term.{der}
use Rattle.krb_msg.specs.Types.{ticket_of, ticket_value}
use Rattle.krb_msg.proofs.ProfileValues.{der_profile}
use Rattle.krb_msg.proofs.ValueOfDer.{value_of_der_is_value}
use Rattle.krb_judge.specs.Laws.{RefusalsAreInside}
use Rattle.krb_judge.specs.Parses.{AreOfTicket, refusal_of, ticket_refusal}
use Rattle.krb_judge.specs.Paths.{ticket_path}
use Rattle.krb_judge.proofs.Slices.{IsWholeSlice, whole_message, whole_not_refused}
use Rattle.krb_record.specs.Origins.{message_origin}
use Rattle.krb_text.specs.Messages.{PutsMessage, message_line_from, ticket_line}
use Rattle.krb_record.specs.Refusals.{known_path, message_refused}
use Rattle.krb_record.specs.Labels.{Label}
use Rattle.krb_record.specs.declared.input.InputFault.TheVariants as faults
use Rattle.krb_source.specs.declared.spelling.Spelling.{Spelling}
use Rattle.krb_source.specs.declared.layer.Layer.{Layer}
use Rattle.krb_token.specs.Seen.{found_of, opened_of}
use Rattle.krb_token.specs.Tokens.{opened}
use Rattle.krb_token.specs.declared.opening.Found.{Found as FoundOfCode}
use Rattle.krb_token.specs.declared.opening.Opened.{Opened as OpenedOfCode}
use Rattle.krb_run.specs.Files.{FileListing}
use Rattle.krb_tool.specs.Messages.{IsMessageListing, Layered, Puts, extent_of, found_listing, input_limit, input_listing, input_octets_listing, judged_listing, listing_with, message_listing, opened_listing, refused_listing, refused_with, spelled_in, spelled_listing, ticket_listing, ticket_of_der, unread_listing, whole_input}
use Rattle.krb_tool.specs.Paths.{refused_path, ticket_refused_path}
use Rattle.krb_run.proofs.FirstOctets.{take-few}
use Rattle.krb_tool.specs.declared.message_input.MessageInput.{MessageInput}
use Rattle.krb_run.specs.declared.run.RunEnd.TheVariants as run

-- nothing is refused
pub not_refused : (found : Option Refusal) → ((r : Refusal) → found ≡ Some r → ⊥) → found ≡ None
not_refused None never = refl
not_refused (Some r) never = absurd (never r refl)

-- ---- a message
-- a record of a refusal shows a path as the form does
same-path : (input : MessageInput) (layered : Layered) (refusal : Refusal) (path other : Option (List ℕ)) → known_path input.form path ≡ known_path input.form other → refused_listing input layered refusal path ≡ refused_listing input layered refusal other
same-path input layered refusal path other same =
    ap (λ (known : Option (List ℕ)). refused_with (message_origin input.line layered.layers) (message_refused input.form refusal known (extent_of input layered.all) layered.spelling)) same

pub refused-message : (input : MessageInput) (layered : Layered) (place : ℕ) (octets : List ℕ) (refusal : Refusal) (path : Option (List ℕ)) → refusal_of input.profile octets ≡ Some refusal → known_path input.form path ≡ known_path input.form (refused_path input.profile octets refusal)
    → refused_listing input layered (record { place = place + refusal.place; why = refusal.why }) path ≡ judged_listing input layered place octets (refusal_of input.profile octets)
refused-message input layered place octets refusal path is same =
    same-path input layered (record { place = place + refusal.place; why = refusal.why }) path (refused_path input.profile octets refusal) same
    ∙ ap (judged_listing input layered place octets) (sym is)

-- octets are a message, whose record was put
pub puts-message : (input : MessageInput) (layered : Layered) (place : ℕ) (octets : List ℕ) (line : Option ℕ) (layers : List Layer) (old new : List ℕ) → line ≡ input.line → layers ≡ layered.layers → length octets < 2 ^ 31 → PutsMessage input.profile octets (message_line_from input.form (message_origin line layers)) old new true
    → Puts input.form old new (judged_listing input layered place octets (refusal_of input.profile octets)) run.Clean
puts-message input layered place octets line layers old new is_line is_layers short put =
    subst (λ (found : Option Refusal). Puts input.form old new (judged_listing input layered place octets found) run.Clean) (sym (whole_not_refused input.profile octets short put.0))
    (put.1 ∙ (λ i. old ++ message_line_from input.form (message_origin (is_line i) (is_layers i)) (message_of_der octets)), refl)

-- and none, if nothing was put
pub read_never : (profile : Profile) (octets : List ℕ) (line : Message → List ℕ) (old new : List ℕ) → PutsMessage profile octets line old new false → refusal_of profile octets ≡ None → ⊥
read_never profile octets line old new put none =
    let w : IsWholeSlice (judgement profile) octets = whole_message profile octets none in
    put.0 w.short w.whole

-- a refusal is at an octet, or at the first place if there is none
pub refusal-within : RefusalsAreInside → (profile : Profile) (octets : List ℕ) (refusal : Refusal) → refusal_of profile octets ≡ Some refusal → refusal.place ≤ length octets
refusal-within inside profile [] refusal is = let none : refusal.place ≡ 0 = place_of refusal is in omega (arith, none)
  where
    first : Option Refusal → ℕ
    first None = 0
    first (Some r) = r.place

    place_of : (refusal : Refusal) → refusal_of profile [] ≡ Some refusal → refusal.place ≡ 0
    place_of refusal is = sym (ap first is)
refusal-within inside profile (x ∷ xs) refusal is =
    let within = inside.of_message profile (x ∷ xs) refusal (omega arith) is in omega (arith, within)

-- ---- a Ticket
pub puts-ticket : (input : MessageInput) (layered : Layered) (t : Ticket) (line : Option ℕ) (layers : List Layer) (old new : List ℕ) → line ≡ input.line → layers ≡ layered.layers → ticket_refusal input.profile layered.all ≡ None → t ≡ ticket_of_der layered.all
    → new ≡ old ++ ticket_line input.form (message_origin line layers) t → Puts input.form old new (ticket_listing input layered (ticket_refusal input.profile layered.all)) run.Clean
puts-ticket input layered t line layers old new is_line is_layers none is put =
    subst (λ (found : Option Refusal). Puts input.form old new (ticket_listing input layered found) run.Clean) (sym none)
    (put ∙ (λ i. old ++ ticket_line input.form (message_origin (is_line i) (is_layers i)) (is i)), refl)

pub refused-ticket : (input : MessageInput) (layered : Layered) (refusal : Refusal) (path : Option (List ℕ)) → ticket_refusal input.profile layered.all ≡ Some refusal → known_path input.form path ≡ known_path input.form (ticket_refused_path input.profile layered.all refusal)
    → refused_listing input layered refusal path ≡ ticket_listing input layered (ticket_refusal input.profile layered.all)
refused-ticket input layered refusal path is same =
    same-path input layered refusal path (ticket_refused_path input.profile layered.all refusal) same ∙ ap (ticket_listing input layered) (sym is)

-- the Ticket whose DER octets are
pub ticket-read : (profile : Profile) (octets : List ℕ) (t : Ticket) → AreOfTicket profile octets t → t ≡ ticket_of_der octets
ticket-read profile octets t are =
    let form : der ticket (ticket_value t) ≡ octets = sym (der_profile profile false ticket (ticket_value t)) ∙ are.form in
    let short : length (der ticket (ticket_value t)) < 2 ^ 32 = subst (λ (l : List ℕ). length l < 2 ^ 32) (sym form) (let few = are.short in omega arith) in
    ap ticket_of (sym (value_of_der_is_value ticket (ticket_value t) refl short)) ∙ ap ticket_of_der form

pub short-ticket-path : (profile : Profile) (octets : List ℕ) (refusal : Refusal) (size count : ℕ) → length octets ≤ 2147483647 → size ≡ length octets → count ≡ min (refusal.place + 1) (length octets) → Some (ticket_path profile size (take count octets)) ≡ ticket_refused_path profile octets refusal
unfolding ticket_refused_path
short-ticket-path profile octets refusal size count few s c =
    ap Some (ap₂ (ticket_path profile) s (ap (λ n. take n octets) c ∙ take-few (refusal.place + 1) octets))
    ∙ rw (le-ltb 2147483647 (length octets) few) refl

-- ---- octets that are opened
pub opened-listing : (input : MessageInput) (spelling : Spelling) (octets : List ℕ) (o : OpenedOfCode) (found : FoundOfCode) → length octets ≤ 2147483647 → opened_of o ≡ opened octets → o.found ≡ found
    → found_listing input (record { all = octets; spelling = spelling; layers = o.layers.now }) (found_of found) ≡ input_octets_listing input spelling octets
unfolding input_octets_listing
opened-listing input spelling octets o found few is found_is =
    ap (λ (f : FoundOfCode). found_listing input (record { all = octets; spelling = spelling; layers = o.layers.now }) (found_of f)) (sym found_is)
    ∙ ap (opened_listing input spelling octets) is
    ∙ rw (le-ltb 2147483647 (length octets) few) refl

-- ---- an input
-- one that is too long is not read
pub too-long : (input : MessageInput) (octets : List ℕ) → nat_lt input_limit (length octets) ≡ true → input_listing input octets ≡ unread_listing input faults.Length None
too-long input octets e = ap (λ b. if b then unread_listing input faults.Length None else spelled_listing input (spelled_in input.line octets)) e

-- its first octets decide that
pub cut-long : (input : MessageInput) (kept rest : List ℕ) → length kept ≡ 16777217 → input_listing input (kept ++ rest) ≡ input_listing input kept
cut-long input kept rest size =
    too-long input (kept ++ rest) (lt-ltb 16777216 (length (kept ++ rest)) (omega (arith, size, length-append kept rest)))
    ∙ sym (too-long input kept (lt-ltb 16777216 (length kept) (omega (arith, size))))

abbrev some_number : Option ℕ → ℕ
some_number (Some n) = n
some_number None = 0

-- the listing of too much input is that of its first octets
pub cut-listed : (label : Label) (profile : Profile) (kept rest : List ℕ) (listing : FileListing) → Some 16777217 ≡ Some (length kept) → IsMessageListing label profile kept listing → IsMessageListing label profile (kept ++ rest) listing
unfolding message_listing
cut-listed label profile kept rest listing e l = l ∙ ap (listing_with label) (sym (cut-long (whole_input label.form profile) kept rest (sym (ap some_number e))))
