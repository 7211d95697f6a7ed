-- What is decoded of a credential cache is lines.
use Rattle.std.proofs.Common.{◌≡◌, ℕ, ◌+◌, ◌≤◌, inl, inr, Bool, true, false, not, cond, List, [], ◌∷◌, ◌++◌, length, map, Option, None, Some, IfSome, nat_lt, take, Result, Ok, Err, codes, refl, sym, ◌∙◌, ap, subst, append_assoc}
use Rattle.std.specs.List.{AllByRecursion, filter}
use Rattle.std.proofs.lemmas.Bool.{cond_both}
use Rattle.krb_ccache.specs.Laws.{CredentialsAreSpelled, SpellsContents}
use Rattle.krb_ccache.specs.Spelling.{Credential3Fits, CredentialFits, is_config}
use Rattle.krb_ccache.specs.Streaming.{credentials, credentials_of, file_start}
use Rattle.krb_ccache.specs.declared.reading.Start.{Start}
use Rattle.krb_ccache.specs.declared.value.Ccache.{Ccache}
use Rattle.krb_ccache.specs.declared.value.Credential.{Credential}
use Rattle.krb_ccache.specs.declared.value.Credential3.{Credential3}
use Rattle.krb_convert.specs.Encoding.{All}
use Rattle.krb_der.specs.Octets.{AreOctets, when}
use Rattle.krb_der.specs.declared.profile.Profile.TheVariants.{Lenient}
use Rattle.krb_der.specs.declared.verdict.Refusal.{Refusal}
use Rattle.krb_file.specs.Fields.{Fault, Source}
use Rattle.krb_file.specs.declared.field_path.FileItem.{FileItem}
use Rattle.krb_file.specs.declared.field_path.FileItem.TheVariants as item
use Rattle.krb_judge.specs.Parses.{ticket_refusal}
use Rattle.krb_msg.specs.Laws.{ValueOfDerIsValue}
use Rattle.krb_record.specs.Labels.{no_label}
use Rattle.krb_record.specs.Laws.{FileRefusalIsOneLine, IsOneLine, UntoldMessageRefusalIsOneLine}
use Rattle.krb_record.specs.Refusals.{file_refused_record, untold_message_refused_line}
use Rattle.krb_record.specs.Text.{line_feed}
use Rattle.krb_record.specs.declared.form.Base.TheVariants as bases
use Rattle.krb_record.specs.declared.form.Form.TheVariants.{Json as JsonForm, NamedLines}
use Rattle.krb_record.proofs.Printable.{Prints, join, word}
use Rattle.krb_run.specs.Extents.{extent_of, fault_line}
use Rattle.krb_run.specs.Paths.{file_path}
use Rattle.krb_tool.specs.Messages.{ticket_of_der}
use Rattle.krb_tool.specs.Paths.{ticket_refused_path}
use Rattle.krb_tool_laws.specs.Listings.{AreLinesOf}
use Rattle.krb_tool_laws.proofs.Lines.{a_line, no_lines}
use Rattle.krb_tool_laws.proofs.ListedFiles.{path_octets}
use Rattle.krb_tool_laws.proofs.PathOctets.{ticket_octets}
use Rattle.krb_decode.specs.Caches.{absent_field, cache_decoded, credential_opening, decoded_cache, decoded_credential, decoded_credentials, decoded_field, field_limit, judged_field, refused_field, said_last}
use Rattle.krb_decode.specs.Decoded.{both, is_sealed, nothing, said}
use Rattle.krb_decode_laws.specs.Caches.{CachesAreLines, CachesComeBack, ComesBack, fields_in, fields_of, is_sealed_by, is_sealed_ticket}
use Rattle.krb_decode_laws.specs.Inputs.{PrintsLines}
use Rattle.krb_decode_laws.proofs.FoundLines.{element-path}
use Rattle.krb_decode_laws.proofs.InputLines.{AddsLines, adds-both, adds-nothing, said-line, ticket-lines}
use Rattle.krb_decode_laws.proofs.TicketTexts.{IsTicketOf, ticket-of}

-- ---- the octets of tickets
credentials-octets : (found : List Credential) → AllByRecursion CredentialFits found → AllByRecursion (λ (c : Credential). AreOctets c.ticket) found
credentials-octets [] fit = tt
credentials-octets (c ∷ found) fit = (fit.0.ticket.are_octets, credentials-octets found fit.1)

credentials3-octets : (found : List Credential3) → AllByRecursion Credential3Fits found → AllByRecursion (λ (c : Credential). AreOctets c.ticket) (map (λ c. c.credential) found)
credentials3-octets [] fit = tt
credentials3-octets (c ∷ found) fit = (fit.0.credential.ticket.are_octets, credentials3-octets found fit.1)

contents-octets : (start : Start) (found : List Credential) (octets : List ℕ) → SpellsContents start found octets → AllByRecursion (λ (c : Credential). AreOctets c.ticket) found
contents-octets start found octets (inl (version, spelled)) = credentials-octets found spelled.fits.credentials
contents-octets start found octets (inr (version, v, spelled, same)) = subst (λ (c : Ccache). AllByRecursion (λ (c : Credential). AreOctets c.ticket) c.credentials) same (credentials3-octets v.credentials spelled.fits.credentials)

pub file-octets : CredentialsAreSpelled → (file : List ℕ) → AreOctets file → AllByRecursion (λ (c : Credential). AreOctets c.ticket) (credentials field_limit file).items
file-octets spelled file are = by (file_start field_limit file) refl
  where
    by : (r : Result (Start × Source) Fault) → file_start field_limit file ≡ r → AllByRecursion (λ (c : Credential). AreOctets c.ticket) (credentials field_limit file).items
    by (Err fault) e = subst (λ r. AllByRecursion (λ (c : Credential). AreOctets c.ticket) (credentials_of field_limit r).items) (sym e) tt
    by (Ok (start, after)) e = let all = spelled field_limit file start after are e in contents-octets start (credentials field_limit file).items _ all.1.spelled

-- ---- lines
refused_ticket : (octets : List ℕ) (refusal : Refusal) → IfSome (ticket_refused_path Lenient octets refusal) AreOctets
unfolding ticket_refused_path
refused_ticket octets refusal =
    cond_both {A = Option (List ℕ)} (nat_lt 2147483647 (length octets)) _ _ (λ path. IfSome path AreOctets) (λ t. tt) (λ t. ticket_octets Lenient (length octets) (take (refusal.place + 1) octets))

opened-line : (origin line : List ℕ) → Prints origin → IsOneLine line → IsOneLine (origin ++ line)
opened-line origin line a one = (origin ++ one.0, (join a (record { all = one.1 })).all, ap (λ l. origin ++ l) one.2 ∙ sym (append_assoc origin one.0 line_feed))

opening-prints : (index : ℕ) → Prints (credential_opening index)
opening-prints index = join (element-path (codes "credential") index (word (codes "credential") refl)) (word (codes ".ticket: ") refl)

pub record Premises : Type 0 where
  pub spelled : CredentialsAreSpelled
  pub value_of_der : ValueOfDerIsValue
  pub file_line_is : FileRefusalIsOneLine
  pub untold_line_is : UntoldMessageRefusalIsOneLine

module _ (p : Premises) where
  judged-lines : (origin octets : List ℕ) (refusal : Option Refusal) → Prints origin → AreOctets octets → ticket_refusal Lenient octets ≡ refusal → AddsLines (judged_field origin octets refusal)
  judged-lines origin octets None a are e = ticket-lines origin (codes "Ticket.enc-part") a (word (codes "Ticket.enc-part") refl) (ticket_of_der octets) (ticket-of p.value_of_der Lenient octets are e).text
  judged-lines origin octets (Some refusal) a are e =
      said-line (refused_field origin octets refusal)
      (opened-line origin (untold_message_refused_line NamedLines refusal (ticket_refused_path Lenient octets refusal)) a (p.untold_line_is bases.NamedLines refusal (ticket_refused_path Lenient octets refusal) (refused_ticket octets refusal)))

  field-lines : (origin octets : List ℕ) → Prints origin → AreOctets octets → AddsLines (decoded_field origin octets)
  field-lines origin [] a are = said-line (absent_field origin) (opened-line origin (codes "absent\n") a (codes "absent", (word (codes "absent") refl).all, refl))
  field-lines origin (octet ∷ octets) a are = judged-lines origin (octet ∷ octets) (ticket_refusal Lenient (octet ∷ octets)) a are refl

  credential-lines : (index : ℕ) (c : Credential) → AreOctets c.ticket → AddsLines (decoded_credential index c)
  unfolding decoded_credential
  credential-lines index c are = by (is_config c)
    where
      by : (config : Bool) → AddsLines (when config (λ _. nothing) (λ _. decoded_field (credential_opening index) c.ticket))
      by true = adds-nothing
      by false = field-lines (credential_opening index) c.ticket (opening-prints index) are

  credentials-lines : (index : ℕ) (all : List Credential) → AllByRecursion (λ (c : Credential). AreOctets c.ticket) all → AddsLines (decoded_credentials index all)
  credentials-lines index [] are = adds-nothing
  credentials-lines index (c ∷ all) are = adds-both (decoded_credential index c) (decoded_credentials (index + 1) all) (credential-lines index c are.0) (credentials-lines (index + 1) all are.1)

  fault-lines : (fault : Fault) (at : FileItem) → AreLinesOf NamedLines (fault_line (no_label NamedLines) fault (file_path at fault.field))
  fault-lines fault at =
      let path : Option (List ℕ) = file_path at fault.field in
      a_line (no_label NamedLines) (refl, tt) (file_refused_record NamedLines fault.place fault.why path (extent_of fault)) (p.file_line_is bases.NamedLines fault.place fault.why path (extent_of fault) (path_octets at fault.field)) (λ e. absurd cc)

  last-lines : (count : ℕ) (end : Result ℕ Fault) → AddsLines (said (said_last count end))
  last-lines count (Ok size) = adds-nothing
  last-lines count (Err fault) = record { lines = no_lines JsonForm; said = fault-lines fault (item.Credential count) }

  start-lines : (r : Result (Start × Source) Fault) → AllByRecursion (λ (c : Credential). AreOctets c.ticket) (credentials_of field_limit r).items → PrintsLines (cache_decoded r (credentials_of field_limit r))
  start-lines (Err fault) are = record { lines = no_lines JsonForm; said = fault-lines fault item.File }
  start-lines (Ok start) are =
      let found = credentials_of field_limit (Ok start) in
      let its : AddsLines (both (decoded_credentials 0 found.items) (said (said_last (length found.items) found.end))) =
      adds-both (decoded_credentials 0 found.items) (said (said_last (length found.items) found.end)) (credentials-lines 0 found.items are) (last-lines (length found.items) found.end) in
      record { lines = its.lines; said = its.said }

pub caches_are_lines : Premises → CachesAreLines
unfolding decoded_cache
caches_are_lines p file are = start-lines p (file_start field_limit file) (file-octets p.spelled file are)

-- ---- back again
one-back : ValueOfDerIsValue → (octets : List ℕ) (others : List (List ℕ)) (refusal : Option Refusal) → AreOctets octets → ticket_refusal Lenient octets ≡ refusal → AllByRecursion ComesBack others → AllByRecursion ComesBack (cond (is_sealed_by refusal octets) (octets ∷ others) others)
one-back value_of_der octets others None are none each = by (is_sealed (ticket_of_der octets).enc_part.etype)
  where
    its : IsTicketOf octets
    its = ticket-of value_of_der Lenient octets are none

    by : (sealed : Bool) → AllByRecursion ComesBack (cond sealed (octets ∷ others) others)
    by true = ((λ limit few. its.text.back limit (subst (λ (o : List ℕ). length o ≤ limit) (sym its.form) few) ∙ ap (λ text. record { text = text; end = All }) its.form), each)
    by false = each
one-back value_of_der octets others (Some refusal) are e each = each

all-back : ValueOfDerIsValue → (all : List (List ℕ)) → AllByRecursion AreOctets all → AllByRecursion ComesBack (filter is_sealed_ticket all)
all-back value_of_der [] are = tt
all-back value_of_der (octets ∷ others) are = one-back value_of_der octets (filter is_sealed_ticket others) (ticket_refusal Lenient octets) are.0 refl (all-back value_of_der others are.1)

fields-octets : (all : List Credential) → AllByRecursion (λ (c : Credential). AreOctets c.ticket) all → AllByRecursion AreOctets (fields_of all)
fields-octets [] are = tt
fields-octets (c ∷ others) are = by (is_config c) (fields-octets others are.1)
  where
    by : (config : Bool) → AllByRecursion AreOctets (fields_of others) → AllByRecursion AreOctets (map (λ c. c.ticket) (cond (not config) (c ∷ filter (λ c. not (is_config c)) others) (filter (λ c. not (is_config c)) others)))
    by true rest = rest
    by false rest = (are.0, rest)

pub caches_come_back : CredentialsAreSpelled → ValueOfDerIsValue → CachesComeBack
caches_come_back spelled value_of_der file are = all-back value_of_der (fields_in file) (fields-octets (credentials field_limit file).items (file-octets spelled file are))
