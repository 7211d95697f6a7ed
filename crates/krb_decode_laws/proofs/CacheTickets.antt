-- The tickets that are decoded of a credential cache.
use Rattle.std.proofs.Common.{◌≡◌, ℕ, ◌+◌, inl, inr, Bool, true, false, not, cond, if◌then◌else◌, List, [], ◌∷◌, ◌++◌, length, map, Option, None, Some, Result, Ok, Err, codes, refl, sym, ◌∙◌, ap, ap₂, append-nil, append_assoc, arith}
use Rattle.std.specs.List.{filter, flat_map}
use Rattle.std.proofs.lemmas.List.{length-map}
use Rattle.krb_ccache.specs.Reading.{CacheItems}
use Rattle.krb_ccache.specs.Spelling.{is_config}
use Rattle.krb_ccache.specs.Streaming.{credentials, credentials_of, file_start}
use Rattle.krb_ccache.specs.declared.reading.Start.{Start}
use Rattle.krb_ccache.specs.declared.value.Credential.{Credential}
use Rattle.krb_der.specs.Octets.{when}
use Rattle.krb_der.specs.declared.profile.Profile.TheVariants.{Lenient}
use Rattle.krb_der.specs.declared.verdict.Refusal.{Refusal}
use Rattle.krb_file.specs.Fields.{Fault, Source}
use Rattle.krb_judge.specs.Parses.{ticket_refusal}
use Rattle.krb_record.specs.Forms.{opening, record_text}
use Rattle.krb_record.specs.Labels.{no_label}
use Rattle.krb_record.specs.declared.form.Form.TheVariants.{NamedLines}
use Rattle.krb_run.specs.Extents.{fault_line}
use Rattle.krb_run.specs.Paths.{field_path}
use Rattle.krb_run.specs.declared.run.RunEnd.TheVariants as run
use Rattle.krb_tool.specs.Messages.{ticket_of_der}
use Rattle.krb_decode.specs.Caches.{cache_decoded, credential_opening, credentials_decoded, decoded_cache, decoded_credential, decoded_credentials, decoded_field, field_limit, judged_field, said_last}
use Rattle.krb_decode.specs.Decoded.{Added, accepted, both, decoded_ticket, end_of, is_sealed, not_encrypted, nothing, printed, refused, said}
use Rattle.krb_decode_laws.proofs.AlikeInputs.{tickets-alike}
use Rattle.krb_decode_laws.specs.Caches.{AreFieldsAlike, CachesAreDecoded, IsFieldAlike, TicketsAloneAreDecoded, field_line, fields_of, is_sealed_by, is_sealed_ticket, start_fault, ticket_in}

-- ---- a ticket field
sealed-lines : (origin octets : List ℕ) (sealed : Bool) → is_sealed (ticket_of_der octets).enc_part.etype ≡ sealed → (judged_field origin octets None).lines ≡ flat_map field_line (cond sealed (octets ∷ []) [])
sealed-lines origin octets true e = ap (λ b. (if b then printed (field_line octets) else said (not_encrypted origin (codes "Ticket.enc-part"))).lines) e ∙ sym (append-nil (field_line octets))
sealed-lines origin octets false e = ap (λ b. (if b then printed (field_line octets) else said (not_encrypted origin (codes "Ticket.enc-part"))).lines) e

judged-lines : (origin octets : List ℕ) (refusal : Option Refusal) → (judged_field origin octets refusal).lines ≡ flat_map field_line (cond (is_sealed_by refusal octets) (octets ∷ []) [])
judged-lines origin octets None = sealed-lines origin octets (is_sealed (ticket_of_der octets).enc_part.etype) refl
judged-lines origin octets (Some refusal) = refl

field-lines : (origin octets : List ℕ) → (decoded_field origin octets).lines ≡ flat_map field_line (cond (is_sealed_ticket octets) (octets ∷ []) [])
field-lines origin [] = refl
field-lines origin (octet ∷ octets) = judged-lines origin (octet ∷ octets) (ticket_refusal Lenient (octet ∷ octets))

-- what is said of it if it has no line
module _ (origin : List ℕ) (some : (rest : List ℕ) → origin ++ rest ≡ [] → ⊥) where
  must-be-sealed : (octets : List ℕ) (sealed : Bool) → (if sealed then printed (field_line octets) else said (not_encrypted origin (codes "Ticket.enc-part"))).said ≡ [] → sealed ≡ true
  must-be-sealed octets true e = refl
  must-be-sealed octets false e = absurd (some (codes "Ticket.enc-part: not encrypted, and so not printed\n") (sym (append_assoc origin (codes "Ticket.enc-part") (codes ": not encrypted, and so not printed\n")) ∙ e))

  judged-said : (octets : List ℕ) (refusal : Option Refusal) → (judged_field origin octets refusal).said ≡ [] → is_sealed_by refusal octets ≡ true
  judged-said octets None e = must-be-sealed octets (is_sealed (ticket_of_der octets).enc_part.etype) e
  judged-said octets (Some refusal) e = absurd (some _ e)

  some-said : (octets : List ℕ) → (decoded_field origin octets).said ≡ [] → is_sealed_ticket octets ≡ true
  some-said [] e = absurd (some _ e)
  some-said (octet ∷ octets) e = judged-said (octet ∷ octets) (ticket_refusal Lenient (octet ∷ octets)) e

opening-some : (index : ℕ) (rest : List ℕ) → credential_opening index ++ rest ≡ [] → ⊥
opening-some index rest e = cc

-- ---- credentials
one-more : (sealed : Bool) (octets : List ℕ) (others : List (List ℕ)) → flat_map field_line (cond sealed (octets ∷ []) []) ++ flat_map field_line others ≡ flat_map field_line (cond sealed (octets ∷ others) others)
one-more true octets others = ap (λ l. l ++ flat_map field_line others) (append-nil (field_line octets))
one-more false octets others = refl

credentials-lines : (index : ℕ) (all : List Credential) → (decoded_credentials index all).lines ≡ flat_map field_line (filter is_sealed_ticket (fields_of all))
unfolding decoded_credential
credentials-lines index [] = refl
credentials-lines index (c ∷ others) = ap (λ l. (decoded_credential index c).lines ++ l) (credentials-lines (index + 1) others) ∙ by (is_config c)
  where
    by : (config : Bool)
        → (when config (λ _. nothing) (λ _. decoded_field (credential_opening index) c.ticket)).lines ++ flat_map field_line (filter is_sealed_ticket (fields_of others))
        ≡ flat_map field_line (filter is_sealed_ticket (map (λ c. c.ticket) (cond (not config) (c ∷ filter (λ c. not (is_config c)) others) (filter (λ c. not (is_config c)) others))))
    by true = refl
    by false = ap (λ l. l ++ flat_map field_line (filter is_sealed_ticket (fields_of others))) (field-lines (credential_opening index) c.ticket) ∙ one-more (is_sealed_ticket c.ticket) c.ticket (filter is_sealed_ticket (fields_of others))

pub both-empty : (a b : List ℕ) → a ++ b ≡ [] → (a ≡ []) × (b ≡ [])
both-empty [] b e = (refl, e)
both-empty (x ∷ a) b e = absurd cc

all-sealed : (index : ℕ) (all : List Credential) → (decoded_credentials index all).said ≡ [] → filter is_sealed_ticket (fields_of all) ≡ fields_of all
unfolding decoded_credential
all-sealed index [] e = refl
all-sealed index (c ∷ others) e =
    let parts = both-empty (decoded_credential index c).said (decoded_credentials (index + 1) others).said e in
    by (is_config c) parts.0 (all-sealed (index + 1) others parts.1)
  where
    by : (config : Bool) → (when config (λ _. nothing) (λ _. decoded_field (credential_opening index) c.ticket)).said ≡ [] → filter is_sealed_ticket (fields_of others) ≡ fields_of others
        → filter is_sealed_ticket (map (λ c. c.ticket) (cond (not config) (c ∷ filter (λ c. not (is_config c)) others) (filter (λ c. not (is_config c)) others)))
        ≡ map (λ c. c.ticket) (cond (not config) (c ∷ filter (λ c. not (is_config c)) others) (filter (λ c. not (is_config c)) others))
    by true none rest = rest
    by false none rest = ap₂ (λ test l. cond test (c.ticket ∷ l) l) (some-said (credential_opening index) (opening-some index) c.ticket none) rest

-- ---- a cache
refusal-said : (fault : Fault) (path : Option (List ℕ)) → fault_line (no_label NamedLines) fault path ≡ [] → ⊥
unfolding record_text opening
refusal-said fault path e = cc

pub silent-end : (said : List ℕ) → end_of said ≡ run.Clean → said ≡ []
silent-end [] e = refl
silent-end (octet ∷ said) e = absurd cc

-- by the start of the file
start-lines : (r : Result (Start × Source) Fault) → (cache_decoded r (credentials_of field_limit r)).lines ≡ flat_map field_line (filter is_sealed_ticket (fields_of (credentials_of field_limit r).items))
start-lines (Err fault) = refl
start-lines (Ok start) = append-nil (decoded_credentials 0 (credentials_of field_limit (Ok start)).items).lines ∙ credentials-lines 0 (credentials_of field_limit (Ok start)).items

start-clean : (r : Result (Start × Source) Fault) → (cache_decoded r (credentials_of field_limit r)).said ≡ [] → (cache_decoded r (credentials_of field_limit r)).end ≡ run.Clean
start-clean (Err fault) e = absurd (refusal-said fault (field_path fault.field) e)
start-clean (Ok start) e = ap end_of e

start-silent : (r : Result (Start × Source) Fault) → (cache_decoded r (credentials_of field_limit r)).end ≡ run.Clean → (cache_decoded r (credentials_of field_limit r)).said ≡ []
start-silent (Err fault) e = absurd cc
start-silent (Ok start) e = silent-end (cache_decoded (Ok start) (credentials_of field_limit (Ok start))).said e

start-all : (r : Result (Start × Source) Fault) → (cache_decoded r (credentials_of field_limit r)).said ≡ [] → filter is_sealed_ticket (fields_of (credentials_of field_limit r).items) ≡ fields_of (credentials_of field_limit r).items
start-all (Err fault) e = refl
start-all (Ok start) e = all-sealed 0 (credentials_of field_limit (Ok start)).items (both-empty (decoded_credentials 0 (credentials_of field_limit (Ok start)).items).said _ e).0

pub caches_are_decoded : CachesAreDecoded
unfolding decoded_cache
caches_are_decoded file = record {
  lines = start-lines (file_start field_limit file);
  end = record { clean = start-clean (file_start field_limit file); silent = start-silent (file_start field_limit file) };
  all = start-all (file_start field_limit file);
}

-- ---- nothing else of it is decoded
decoded_if : (index : ℕ) → Option (List ℕ) → Added
decoded_if index None = nothing
decoded_if index (Some octets) = decoded_field (credential_opening index) octets

credential-if : (index : ℕ) (c : Credential) → decoded_credential index c ≡ decoded_if index (ticket_in c)
unfolding decoded_credential decoded_if
credential-if index c = by (is_config c)
  where
    by : (config : Bool) → when config (λ _. nothing) (λ _. decoded_field (credential_opening index) c.ticket) ≡ decoded_if index (if config then None else Some c.ticket)
    by true = refl
    by false = refl

-- a field that is a Ticket
field-form : (origin octets : List ℕ) → ticket_refusal Lenient octets ≡ None → decoded_field origin octets ≡ decoded_ticket origin (codes "Ticket.enc-part") (ticket_of_der octets)
field-form origin [] none = absurd cc
field-form origin (octet ∷ octets) none = ap (judged_field origin (octet ∷ octets)) none

field-alike : (index : ℕ) (one other : Option (List ℕ)) → IsFieldAlike one other → decoded_if index one ≡ decoded_if index other
unfolding decoded_if
field-alike index None None a = refl
field-alike index (Some one) (Some other) (inl e) = ap (decoded_field (credential_opening index)) e
field-alike index (Some one) (Some other) (inr a) =
    field-form (credential_opening index) one a.first
    ∙ tickets-alike (credential_opening index) (codes "Ticket.enc-part") (ticket_of_der one) (ticket_of_der other) a.alike
    ∙ sym (field-form (credential_opening index) other a.second)
field-alike index None (Some other) a = absurd a
field-alike index (Some one) None a = absurd a

same-credentials : (index : ℕ) (one other : List Credential) → AreFieldsAlike (map ticket_in one) (map ticket_in other) → decoded_credentials index one ≡ decoded_credentials index other
same-credentials index [] [] e = refl
same-credentials index [] (d ∷ other) e = absurd e
same-credentials index (c ∷ one) [] e = absurd e
same-credentials index (c ∷ one) (d ∷ other) e =
    ap₂ both (credential-if index c ∙ field-alike index (ticket_in c) (ticket_in d) e.0 ∙ sym (credential-if index d)) (same-credentials (index + 1) one other e.1)

as-many : (one other : List (Option (List ℕ))) → AreFieldsAlike one other → length one ≡ length other
as-many [] [] e = refl
as-many [] (b ∷ other) e = absurd e
as-many (a ∷ one) [] e = absurd e
as-many (a ∷ one) (b ∷ other) e = omega (arith, as-many one other e.1)

same-found : (one other : CacheItems Credential) → AreFieldsAlike (map ticket_in one.items) (map ticket_in other.items) → one.end ≡ other.end → credentials_decoded one ≡ credentials_decoded other
same-found one other e end =
    let many : length one.items ≡ length other.items = sym (length-map one.items ticket_in) ∙ as-many (map ticket_in one.items) (map ticket_in other.items) e ∙ length-map other.items ticket_in in
    ap₂ (λ added last. accepted (both added (said last))) (same-credentials 0 one.items other.items e) (ap₂ said_last many end)

same-start : (r s : Result (Start × Source) Fault) (one other : CacheItems Credential) → start_fault r ≡ start_fault s → AreFieldsAlike (map ticket_in one.items) (map ticket_in other.items) → one.end ≡ other.end → cache_decoded r one ≡ cache_decoded s other
same-start (Ok r) (Ok s) one other f e end = same-found one other e end
same-start (Ok r) (Err fault) one other f e end = absurd cc
same-start (Err fault) (Ok s) one other f e end = absurd cc
same-start (Err fault) (Err found) one other f e end = ap (λ (it : Fault). refused (fault_line (no_label NamedLines) it (field_path it.field))) (same-fault fault found f)
  where
    same-fault : (a b : Fault) → Some a ≡ Some b → a ≡ b
    same-fault a b e = cc

pub tickets_alone_are_decoded : TicketsAloneAreDecoded
unfolding decoded_cache
tickets_alone_are_decoded file other start e end = same-start (file_start field_limit file) (file_start field_limit other) (credentials field_limit file) (credentials field_limit other) start e end
