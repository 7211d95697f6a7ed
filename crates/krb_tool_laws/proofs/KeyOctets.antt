-- Files that differ in octets of a key have one listing.
use Rattle.std.proofs.Common.{◌≡◌, ℕ, ◌≤◌, Option, Result, Ok, Err, List, [], ◌∷◌, ◌++◌, length, map, refl, sym, ◌∙◌, ap, ap₂}
use Rattle.std.proofs.lemmas.List.{length-map}
use Rattle.std.specs.List.{flat_map}
use Rattle.krb_file.specs.Fields.{Source, Fault}
use Rattle.krb_keytab.specs.Reading.{Records, items as keytab_records}
use Rattle.krb_keytab.specs.Spelling.{masked_record}
use Rattle.krb_keytab.specs.Laws.{IsUpToKey, masked_items as masked_records, KeysChangeNothingElse}
use Rattle.krb_ccache.specs.declared.value.Credential.{Credential}
use Rattle.krb_ccache.specs.declared.reading.Start.{Start}
use Rattle.krb_ccache.specs.Reading.{CacheItems}
use Rattle.krb_ccache.specs.Spelling.{masked_credential}
use Rattle.krb_ccache.specs.Streaming.{file_start, credentials}
use Rattle.krb_ccache.specs.Laws.{IsUpToKey as IsUpToSessionKey, masked_items, start_alone, SessionKeysChangeNothingElse}
use Rattle.krb_record.specs.Labels.{Label, line_of}
use Rattle.krb_file.specs.declared.field_path.FileItem.TheVariants as items
use Rattle.krb_list.specs.Laws.{RecordKeyIsNotShown, CredentialKeyIsNotShown}
use Rattle.krb_file_run.specs.Lines.{record_line, cache_line, credential_line}
use Rattle.krb_run.specs.Records.{RecordListing, after_line, refused_listing, end_of}
use Rattle.krb_file_run.specs.Files.{field_limit, keytab_last, records_listing, keytab_listing, ccache_last, credentials_listing, cache_listing, ccache_listing}

-- the lines of values are those of the same values masked
lines-same : {A : Type 0} (line : A → List ℕ) (mask : A → A) → ((a : A) → line (mask a) ≡ line a) → (values : List A) → flat_map line (map mask values) ≡ flat_map line values
lines-same line mask same [] = refl
lines-same line mask same (a ∷ values) = ap₂ (λ (first others : List ℕ). first ++ others) (same a) (lines-same line mask same values)

-- ---- keytabs
records-masked : RecordKeyIsNotShown → (label : Label) (found : Records) → records_listing label (masked_records found) ≡ records_listing label found
records-masked shown label found =
    ap₂ (λ (lines : List ℕ) (count : ℕ). let it : RecordListing = record { lines = lines; last = keytab_last label count found.end; end = end_of (items.Record count) found.end } in it)
    (lines-same (λ r. record_line label r) masked_record (λ r. ap (λ printed. line_of label printed) (shown r)) found.items)
    (length-map found.items masked_record)

pub keytab-same : KeysChangeNothingElse → RecordKeyIsNotShown → (label : Label) (before key other after : List ℕ) (size : ℕ) → IsUpToKey before size → length key ≤ size → length other ≡ length key → keytab_listing label (before ++ (key ++ after)) ≡ keytab_listing label (before ++ (other ++ after))
unfolding keytab_listing
keytab-same alike shown label before key other after size up le len =
    sym (records-masked shown label (keytab_records field_limit (before ++ (key ++ after))))
    ∙ ap (records_listing label) (alike field_limit before key other after size up le len)
    ∙ records-masked shown label (keytab_records field_limit (before ++ (other ++ after)))

-- ---- caches
credentials-masked : CredentialKeyIsNotShown → (label : Label) (now : Option ℕ) (found : CacheItems Credential) → credentials_listing label now (masked_items found) ≡ credentials_listing label now found
credentials-masked shown label now found =
    ap₂ (λ (lines : List ℕ) (count : ℕ). let it : RecordListing = record { lines = lines; last = ccache_last label count found.end; end = end_of (items.Credential count) found.end } in it)
    (lines-same (λ c. credential_line label now c) masked_credential (λ c. ap (λ printed. line_of label printed) (shown label.form now c)) found.items)
    (length-map found.items masked_credential)

-- the listing by what is before the credentials, without what is left of the file
abbrev listing_by : Label → Result Start Fault → RecordListing → RecordListing
listing_by label (Err fault) others = refused_listing label fault
listing_by label (Ok start) others = after_line (cache_line label start.header start.principal) others

listing-by : (label : Label) (now : Option ℕ) (r : Result (Start × Source) Fault) (found : CacheItems Credential) → cache_listing label now r found ≡ listing_by label (start_alone r) (credentials_listing label now found)
listing-by label now (Err fault) found = refl
listing-by label now (Ok start) found = refl

pub ccache-same : SessionKeysChangeNothingElse → CredentialKeyIsNotShown → (label : Label) (now : Option ℕ) (before key other after : List ℕ) (size : ℕ) → IsUpToSessionKey before size → length key ≤ size → length other ≡ length key → ccache_listing label now (before ++ (key ++ after)) ≡ ccache_listing label now (before ++ (other ++ after))
unfolding ccache_listing
ccache-same alike shown label now before key other after size up le len =
    let one : List ℕ = before ++ (key ++ after) in
    let another : List ℕ = before ++ (other ++ after) in
    let same = alike field_limit before key other after size up le len in
    let all = sym (credentials-masked shown label now (credentials field_limit one)) ∙ ap (credentials_listing label now) same.credentials ∙ credentials-masked shown label now (credentials field_limit another) in
    listing-by label now (file_start field_limit one) (credentials field_limit one)
    ∙ ap₂ (λ (start : Result Start Fault) (others : RecordListing). listing_by label start others) same.starts all
    ∙ sym (listing-by label now (file_start field_limit another) (credentials field_limit another))
