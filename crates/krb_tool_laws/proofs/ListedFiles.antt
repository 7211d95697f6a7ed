-- Each line of the listing of a keytab or of a cache is one.
use Rattle.std.proofs.Common.{◌≡◌, ◌⊎◌, inl, inr, ℕ, zero, suc, ◌<◌, ◌≤◌, ◌^◌, Bool, true, false, arith, List, [], ◌∷◌, ◌++◌, length, map, Option, Some, None, Result, Ok, Err, IfSome, codes, refl, sym, ◌∙◌, ap₂, subst, append-nil, append_assoc}
use Rattle.std.proofs.lemmas.Grind.{flat_map-append}
use Rattle.std.specs.List.{AllByRecursion, flat_map}
use Rattle.std.specs.Int.{Width}
use Rattle.krb_der.specs.Octets.{AreOctets, when}
use Rattle.krb_der.specs.inner.Numbers.{AreOctets-append}
use Rattle.krb_file.specs.Fields.{Fault, IsCounted, Reader, Source, is_empty, limited, source_of, version_at}
use Rattle.krb_file.specs.Items.{no_items}
use Rattle.krb_file.proofs.Steps.{Moved-shorter, Steps-version}
use Rattle.krb_file.specs.Names.{field_text, in_part_text, item_text, name_text, numbered, part_text, record_text}
use Rattle.krb_file.specs.declared.field_name.FieldName.{FieldName}
use Rattle.krb_file.specs.declared.field_name.FieldName.TheVariants as fields
use Rattle.krb_file.specs.declared.field_name.FilePart.{FilePart}
use Rattle.krb_file.specs.declared.field_name.FilePart.TheVariants as parts
use Rattle.krb_file.specs.declared.field_name.FileField.{FileField}
use Rattle.krb_file.specs.declared.field_path.FileItem.{FileItem}
use Rattle.krb_file.specs.declared.field_path.FileItem.TheVariants as places
use Rattle.krb_keytab.specs.Laws.{AreBefore, AreFirst, RecordsAreSpelled}
use Rattle.krb_keytab.specs.Reading.{Records, after_version, items as keytab_records, items_after, items_from, items_within, record_at}
use Rattle.krb_keytab.specs.declared.reading.Next.{Next}
use Rattle.krb_keytab.specs.declared.reading.Next.TheVariants as nexts
use Rattle.krb_keytab.specs.Spelling.{RecordSpells, RecordsSpell}
use Rattle.krb_keytab.specs.declared.value.Record.{Record}
use Rattle.krb_keytab.specs.declared.value.Record.TheVariants as records
use Rattle.krb_keytab.specs.declared.value.Stop.{Stop}
use Rattle.krb_ccache.specs.Laws.{CredentialsAreSpelled, SpellsContents}
use Rattle.krb_ccache.specs.Reading.{CacheItems, credential_at, item_and, items_within as cache_items_within, one_enctype}
use Rattle.krb_ccache.specs.Spelling.{Credential3Fits, CredentialFits, HeaderFits, PrincipalFits, no_header}
use Rattle.krb_ccache.specs.Streaming.{credentials, credentials_of, file_start}
use Rattle.krb_ccache.proofs.Faults.{Steps-start}
use Rattle.krb_ccache.specs.declared.reading.Start.{Start}
use Rattle.krb_ccache.specs.declared.value.Ccache.{Ccache}
use Rattle.krb_ccache.specs.declared.value.Credential.{Credential}
use Rattle.krb_ccache.specs.declared.value.Credential3.{Credential3}
use Rattle.krb_ccache.specs.declared.value.FilePrincipal.{FilePrincipal}
use Rattle.krb_list.specs.Ccaches.{cache_end, cache_record, credential_record}
use Rattle.krb_list.specs.Keytabs.{keytab_end, printed_record}
use Rattle.krb_list.specs.Laws.{CacheEndIsOneLine, CacheIsOneLine, CredentialIsOfOctets, CredentialIsOneLine, KeytabEndIsOneLine, PrincipalIsOfOctets, RecordIsOfOctets, RecordIsOneLine}
use Rattle.krb_laws.specs.JsonFiles.{FilesAreJson, IsRecord}
use Rattle.krb_laws.specs.JsonLaws.{EndsAreJson, PrintsJson}
use Rattle.krb_laws.proofs.JsonStrings.{all-append}
use Rattle.krb_record.specs.Forms.{record_line as line_alone}
use Rattle.krb_record.specs.Labels.{Label, line_of}
use Rattle.krb_record.specs.Laws.{FileRefusalIsOneLine, IsOneLine}
use Rattle.krb_record.specs.Refusals.{file_refused_record}
use Rattle.krb_record.specs.Text.{AllAreOctets, IsPrintable, line_feed}
use Rattle.krb_record.specs.Values.{Printed}
use Rattle.krb_run.specs.Extents.{extent_of, fault_line}
use Rattle.krb_run.specs.Paths.{file_path}
use Rattle.krb_run.specs.Records.{RecordListing, text_of}
use Rattle.krb_file_run.specs.Files.{cache_listing, ccache_last, ccache_listing, credentials_listing, field_limit, keytab_last, keytab_listing, records_listing}
use Rattle.krb_file_run.specs.Lines.{cache_line, credential_line, record_line}
use Rattle.krb_tool_laws.specs.Listings.{AreLinesOf, ArePrintedLines, AreRead, IsNamed}
use Rattle.krb_tool_laws.proofs.FileFaults.{AreSmall, EndsSmall, cache_fault, keytab_fault}
use Rattle.krb_tool_laws.proofs.FileReaders.{IsSmallFault}
use Rattle.krb_tool_laws.proofs.Labelled.{labelled_line}
use Rattle.krb_tool_laws.proofs.InForms.{base_in, one_in}
use Rattle.krb_tool_laws.proofs.Lines.{a_line as a_line_of, and_lines as and_lines_of, each_line as each_line_of}
use Rattle.krb_tool_laws.proofs.PathOctets.{index_octets, octets_of}

-- ---- lines
pub and_lines : (one other : List ℕ) → ArePrintedLines one → ArePrintedLines other → ArePrintedLines (one ++ other)
and_lines one other a b = (
  a.0 ++ b.0,
  all-append IsPrintable a.0 b.0 a.1 b.1,
  ap₂ (λ x y. x ++ y) a.2 b.2 ∙ sym (flat_map-append (λ (line : List ℕ). line ++ line_feed) a.0 b.0),
)

a_line : (line : List ℕ) → IsOneLine line → ArePrintedLines line
a_line line one = (one.0 ∷ [], (one.1, tt), one.2 ∙ sym (append-nil (one.0 ++ line_feed)))

pub printed_line : (label : Label) → IsNamed label → (r : Printed) → IsOneLine (line_alone label.form r) → ArePrintedLines (line_of label r)
printed_line label named r one = a_line (line_of label r) (labelled_line label r named one)

each_line : {A : Type 0} (P : A → Type 0) (line : A → List ℕ) → ((a : A) → P a → IsOneLine (line a)) → (values : List A) → AllByRecursion P values → ArePrintedLines (flat_map line values)
each_line P line one [] are = ([], tt, refl)
each_line P line one (a ∷ values) are = and_lines (line a) (flat_map line values) (a_line (line a) (one a are.0)) (each_line P line one values are.1)

-- ---- the paths of fields
numbered_octets : (word : List ℕ) (index : ℕ) → AreOctets word → AreOctets (numbered word index)
numbered_octets word index are = AreOctets-append ((word ++ codes "[") ++ _) (codes "]") (AreOctets-append (word ++ codes "[") _ (AreOctets-append word (codes "[") are (octets_of (codes "[") refl)) (index_octets index)) (octets_of (codes "]") refl)

name_octets : (name : FieldName) → AreOctets (name_text name)
name_octets (fields.Component index) = numbered_octets (codes "component") index (octets_of (codes "component") refl)
name_octets fields.Magic = octets_of (name_text fields.Magic) refl
name_octets other = octets_of (name_text other) refl

part_octets : (part : FilePart) → AreOctets (part_text part)
part_octets (parts.Header index) = numbered_octets (codes "header") index (octets_of (codes "header") refl)
part_octets parts.Principal = octets_of (codes "principal") refl
part_octets parts.Client = octets_of (codes "client") refl
part_octets parts.Server = octets_of (codes "server") refl
part_octets (parts.Address index) = numbered_octets (codes "address") index (octets_of (codes "address") refl)
part_octets (parts.Authdata index) = numbered_octets (codes "authdata") index (octets_of (codes "authdata") refl)
part_octets (parts.Packet index) = numbered_octets (codes "packet") index (octets_of (codes "packet") refl)
part_octets (parts.Block index) = numbered_octets (codes "block") index (octets_of (codes "block") refl)

in_part_octets : (part : Option FilePart) (name : List ℕ) → AreOctets name → AreOctets (in_part_text part name)
in_part_octets None name are = are
in_part_octets (Some part) name are = AreOctets-append (part_text part ++ codes ".") name (AreOctets-append (part_text part) (codes ".") (part_octets part) (octets_of (codes ".") refl)) are

with_point : (word : List ℕ) (index : ℕ) → AreOctets word → AreOctets (numbered word index ++ codes ".")
with_point word index are = AreOctets-append (numbered word index) (codes ".") (numbered_octets word index are) (octets_of (codes ".") refl)

record_octets : (index : ℕ) (name : FieldName) → AreOctets (record_text index name)
record_octets index fields.Magic = tt
record_octets index fields.Version = tt
record_octets index other = with_point (codes "record") index (octets_of (codes "record") refl)

item_octets : (item : FileItem) (name : FieldName) → AreOctets (item_text item name)
item_octets places.File name = tt
item_octets (places.Record index) name = record_octets index name
item_octets (places.Credential index) name = with_point (codes "credential") index (octets_of (codes "credential") refl)

pub path_octets : (item : FileItem) (field : Option FileField) → IfSome (file_path item field) AreOctets
unfolding file_path
path_octets item None = tt
path_octets item (Some field) = AreOctets-append (item_text item field.name) (field_text field) (item_octets item field.name) (in_part_octets field.part (name_text field.name) (name_octets field.name))

refusal_line : FileRefusalIsOneLine → (label : Label) (named : IsNamed label) (fault : Fault) (item : FileItem) → ArePrintedLines (fault_line label fault (file_path item fault.field))
refusal_line refused label named fault item = printed_line label named (file_refused_record label.form fault.place fault.why (file_path item fault.field) (extent_of fault)) (one_in (λ f. file_refused_record f fault.place fault.why (file_path item fault.field) (extent_of fault)) label.form named.0 (refused (base_in label.form) fault.place fault.why (file_path item fault.field) (extent_of fault) (path_octets item fault.field)))

-- ---- names
counted_octets : (w : Width) (values : List (List ℕ)) → AllByRecursion (IsCounted w) values → AllAreOctets values
counted_octets w [] are = tt
counted_octets w (v ∷ values) are = (are.0.are_octets, counted_octets w values are.1)

-- ---- keytabs
record_is : (r : Record) (octets : List ℕ) → RecordSpells r octets → RecordIsOfOctets r
record_is (records.Entry e) octets spelled = (counted_octets _ e.components spelled.0.names.components, spelled.0.names.realm.are_octets, spelled.0.time)
record_is (records.Hole hole) octets spelled = tt

records_are : (found : List Record) (octets : List ℕ) → RecordsSpell found octets → AllByRecursion RecordIsOfOctets found
records_are [] octets spelled = tt
records_are (r ∷ found) octets spelled = (record_is r spelled.0 spelled.3, records_are found spelled.1 spelled.4)

module _ (refused : FileRefusalIsOneLine) (record_one : RecordIsOneLine) (end_one : KeytabEndIsOneLine) (label : Label) (named : IsNamed label) where
  keytab_end_line_is : (count : ℕ) (end : Result (Stop × ℕ) Fault) → ArePrintedLines (keytab_last label count end)
  keytab_end_line_is count (Ok end) = printed_line label named (keytab_end count end.0) (one_in (λ f. keytab_end count end.0) label.form named.0 (end_one (base_in label.form) count end.0))
  keytab_end_line_is count (Err fault) = refusal_line refused label named fault (places.Record count)

  found_lines : (found : Records) → AllByRecursion RecordIsOfOctets found.items → ArePrintedLines (text_of (records_listing label found))
  found_lines found are =
      and_lines (flat_map (record_line label) found.items) (keytab_last label (length found.items) found.end) (each_line RecordIsOfOctets (record_line label) (λ r is. labelled_line label (printed_record r) named (one_in (λ f. printed_record r) label.form named.0 (record_one (base_in label.form) r is))) found.items are) (keytab_end_line_is (length found.items) found.end)

  pub keytab_printed : RecordsAreSpelled → (file : List ℕ) → AreOctets file → ArePrintedLines (text_of (keytab_listing label file))
  unfolding keytab_listing
  keytab_printed spelled file are = found_lines (keytab_records field_limit file) (by (spelled field_limit file are))
    where
      by : ((keytab_records field_limit file).items ≡ []) ⊎ ((size : ℕ) × AreFirst file (keytab_records field_limit file).items size × AreBefore size (keytab_records field_limit file).end) → AllByRecursion RecordIsOfOctets (keytab_records field_limit file).items
      by (inl none) = subst (AllByRecursion RecordIsOfOctets) (sym none) tt
      by (inr some) = records_are (keytab_records field_limit file).items some.1.spelled.0 some.1.spelled.1

-- ---- caches
principal_is : (p : FilePrincipal) → PrincipalFits p → PrincipalIsOfOctets p
principal_is p fits = (counted_octets _ p.components fits.names.components, fits.names.realm.are_octets)

credential_is : (c : Credential) → CredentialFits c → CredentialIsOfOctets c
credential_is c fits = record {
  client = principal_is c.client fits.client;
  server = principal_is c.server fits.server;
  ticket = fits.ticket.are_octets;
  authtime = fits.authtime;
  starttime = fits.starttime;
  endtime = fits.endtime;
  renew_till = fits.renew_till;
  flags = fits.flags;
}

credentials_are : (found : List Credential) → AllByRecursion CredentialFits found → AllByRecursion CredentialIsOfOctets found
credentials_are [] fit = tt
credentials_are (c ∷ found) fit = (credential_is c fit.0, credentials_are found fit.1)

credentials3_are : (found : List Credential3) → AllByRecursion Credential3Fits found → AllByRecursion CredentialIsOfOctets (map (λ c. c.credential) found)
credentials3_are [] fit = tt
credentials3_are (c ∷ found) fit = (credential_is c.credential fit.0.credential, credentials3_are found fit.1)

record AreOfOctets (principal : FilePrincipal) (found : List Credential) : Type 0 where
  owner : PrincipalIsOfOctets principal
  each : AllByRecursion CredentialIsOfOctets found

contents_are : (start : Start) (found : List Credential) (octets : List ℕ) → SpellsContents start found octets → AreOfOctets start.principal found
contents_are start found octets (inl (version, spelled)) = record { owner = principal_is start.principal spelled.fits.principal; each = credentials_are found spelled.fits.credentials }
contents_are start found octets (inr (version, v, spelled, same)) =
    subst (λ (c : Ccache). AreOfOctets c.principal c.credentials) same (record { owner = principal_is v.principal spelled.fits.principal; each = credentials3_are v.credentials spelled.fits.credentials })

module _ (refused : FileRefusalIsOneLine) (cache_one : CacheIsOneLine) (credential_one : CredentialIsOneLine) (end_one : CacheEndIsOneLine) (label : Label) (named : IsNamed label) (now : Option ℕ) where
  cache_end_line_is : (count : ℕ) (end : Result ℕ Fault) → ArePrintedLines (ccache_last label count end)
  cache_end_line_is count (Ok size) = printed_line label named (cache_end count) (one_in (λ f. cache_end count) label.form named.0 (end_one (base_in label.form) count))
  cache_end_line_is count (Err fault) = refusal_line refused label named fault (places.Credential count)

  credential_lines : (found : CacheItems Credential) → AllByRecursion CredentialIsOfOctets found.items → ArePrintedLines (text_of (credentials_listing label now found))
  credential_lines found are =
      and_lines (flat_map (credential_line label now) found.items) (ccache_last label (length found.items) found.end) (each_line CredentialIsOfOctets (credential_line label now) (λ c is. labelled_line label (credential_record label.form now c) named (one_in (λ f. credential_record f now c) label.form named.0 (credential_one (base_in label.form) now c is))) found.items are) (cache_end_line_is (length found.items) found.end)

  started : (r : Result (Start × Source) Fault) (found : CacheItems Credential) → ((start : Start) (after : Source) → r ≡ Ok (start, after) → AreOfOctets start.principal found.items) → ArePrintedLines (text_of (cache_listing label now r found))
  started (Err fault) found are = refusal_line refused label named fault places.File
  started (Ok (start, after)) found are =
      let is = are start after refl in
      let line : List ℕ = cache_line label start.header start.principal in
      let others : RecordListing = credentials_listing label now found in
      subst ArePrintedLines (sym (append_assoc line others.lines others.last)) (and_lines line (text_of others) (printed_line label named (cache_record start.header start.principal) (one_in (λ f. cache_record start.header start.principal) label.form named.0 (cache_one (base_in label.form) start.header start.principal is.owner))) (credential_lines found is.each))

  pub cache_printed : CredentialsAreSpelled → (file : List ℕ) → AreOctets file → ArePrintedLines (text_of (ccache_listing label now file))
  unfolding ccache_listing
  cache_printed spelled file are =
      started (file_start field_limit file) (credentials field_limit file) (λ start after e. let all = spelled field_limit file start after are e in contents_are start (credentials field_limit file).items _ all.1.spelled)

-- ---- in the form Json, too
record_fits : (r : Record) (octets : List ℕ) → RecordSpells r octets → RecordIsOfOctets r × IsRecord r
record_fits (records.Entry e) octets spelled = (record_is (records.Entry e) octets spelled, spelled.0)
record_fits (records.Hole hole) octets spelled = (tt, spelled.1.range)

records_fit : (found : List Record) (octets : List ℕ) → RecordsSpell found octets → AllByRecursion (λ r. RecordIsOfOctets r × IsRecord r) found
records_fit [] octets spelled = tt
records_fit (r ∷ found) octets spelled = (record_fits r spelled.0 spelled.3, records_fit found spelled.1 spelled.4)

-- there are no more items than octets
one_record_more : (bound : ℕ) (others : Source → Records) (r : Result (Next × Source) Fault) → ((t : Source) → length (others t).items ≤ bound) → length (items_from r others).items ≤ suc bound
one_record_more bound others (Err f) few = omega arith
one_record_more bound others (Ok (nexts.Done stop, t)) few = omega arith
one_record_more bound others (Ok (nexts.Item item, t)) few = omega (arith, few t)

few_records : (bound : ℕ) (limit : Option ℕ) (s : Source) → length (items_within bound limit s).items ≤ bound
few_records zero limit s = omega arith
few_records (suc bound) limit s = one_record_more bound (items_within bound limit) (record_at (limited limit) s) (few_records bound limit)

few_of_version : (limit : Option ℕ) (most : ℕ) (r : Result (ℕ × Source) Fault) → ((version : ℕ) (t : Source) → r ≡ Ok (version, t) → length t.octets ≤ most) → length (after_version r (items_after limit)).items ≤ most
few_of_version limit most (Err f) shorter = omega arith
few_of_version limit most (Ok (version, t)) shorter = omega (arith, few_records (length t.octets) limit t, shorter version t refl)

few_in_keytab : (limit : Option ℕ) (file : List ℕ) → length (keytab_records limit file).items ≤ length file
few_in_keytab limit file =
    few_of_version limit (length file) (version_at (2 ∷ []) (limited limit) (source_of file)) (λ version t e. Moved-shorter (source_of file) t ((Steps-version (2 ∷ [])).moves (limited limit) (source_of file) version t e))

one_more_read : (bound : ℕ) (others : Source → CacheItems Credential) (r : Result (Credential × Source) Fault) → ((t : Source) → length (others t).items ≤ bound) → length (item_and r others).items ≤ suc bound
one_more_read bound others (Err f) few = omega arith
one_more_read bound others (Ok (c, t)) few = omega (arith, few t)

one_credential_more : (bound place : ℕ) (others : Source → CacheItems Credential) (empty : Bool) (r : Result (Credential × Source) Fault) → ((t : Source) → length (others t).items ≤ bound)
    → length (when empty (λ _. let it : CacheItems Credential = no_items (Ok place) in it) (λ _. item_and r others)).items ≤ suc bound
one_credential_more bound place others true r few = omega arith
one_credential_more bound place others false r few = one_more_read bound others r few

few_credentials : (item_at : Reader Credential) (bound : ℕ) (limit : Option ℕ) (s : Source) → length (cache_items_within bound item_at limit s).items ≤ bound
few_credentials item_at zero limit s = omega arith
few_credentials item_at (suc bound) limit s = one_credential_more bound s.place (cache_items_within bound item_at limit) (is_empty s.octets) (item_at (limited limit) s) (few_credentials item_at bound limit)

few_of_start : (limit : Option ℕ) (most : ℕ) (r : Result (Start × Source) Fault) → ((start : Start) (t : Source) → r ≡ Ok (start, t) → length t.octets ≤ most) → length (credentials_of limit r).items ≤ most
few_of_start limit most (Err f) shorter = omega arith
few_of_start limit most (Ok (start, t)) shorter = omega (arith, few_credentials (credential_at one_enctype start.version) (length t.octets) limit t, shorter start t refl)

few_in_cache : (limit : Option ℕ) (file : List ℕ) → length (credentials limit file).items ≤ length file
few_in_cache limit file =
    few_of_start limit (length file) (file_start limit file) (λ start t e. Moved-shorter (source_of file) t ((Steps-start (3 ∷ 4 ∷ [])).moves (limited limit) (source_of file) start t e))

-- the line of a refusal, whose numbers are small
module _ (ends : EndsAreJson) (refused : FileRefusalIsOneLine) (label : Label) (named : IsNamed label) where
  fault_line_of : (fault : Fault) (item : FileItem) → IsSmallFault fault → AreLinesOf label.form (fault_line label fault (file_path item fault.field))
  fault_line_of fault item small =
      a_line_of label named (file_refused_record label.form fault.place fault.why (file_path item fault.field) (extent_of fault)) (one_in (λ f. file_refused_record f fault.place fault.why (file_path item fault.field) (extent_of fault)) label.form named.0 (refused (base_in label.form) fault.place fault.why (file_path item fault.field) (extent_of fault) (path_octets item fault.field)))
      (λ json. subst (λ f. PrintsJson (file_refused_record f fault.place fault.why (file_path item fault.field) (extent_of fault))) (sym json) (ends.file fault.place fault.why (file_path item fault.field) (extent_of fault) small.place small.extent))

-- ---- keytabs
module _ (json : FilesAreJson) (ends : EndsAreJson) (refused : FileRefusalIsOneLine) (record_one : RecordIsOneLine) (end_one : KeytabEndIsOneLine) (label : Label) (named : IsNamed label) where
  fit_lines : (found : List Record) → AllByRecursion (λ r. RecordIsOfOctets r × IsRecord r) found → AreLinesOf label.form (flat_map (record_line label) found)
  fit_lines found are = each_line_of label.form (λ r. RecordIsOfOctets r × IsRecord r) (record_line label) (λ r is. a_line_of label named (printed_record r) (one_in (λ f. printed_record r) label.form named.0 (record_one (base_in label.form) r is.0)) (λ _. json.of_record r is.1)) found are

  fit_end : (count : ℕ) (end : Result (Stop × ℕ) Fault) → count < 10 ^ 64 → EndsSmall end → AreLinesOf label.form (keytab_last label count end)
  fit_end count (Ok end) few small = a_line_of label named (keytab_end count end.0) (one_in (λ f. keytab_end count end.0) label.form named.0 (end_one (base_in label.form) count end.0)) (λ _. json.end_of_keytab count end.0 few)
  fit_end count (Err fault) few small = fault_line_of ends refused label named fault (places.Record count) small

  pub keytab_lines_of : RecordsAreSpelled → (file : List ℕ) → AreRead file → AreLinesOf label.form (text_of (keytab_listing label file))
  unfolding keytab_listing
  keytab_lines_of spelled file are =
      and_lines_of label.form (flat_map (record_line label) found.items) (keytab_last label (length found.items) found.end) (fit_lines found.items (by (spelled field_limit file are.0)))
      (fit_end (length found.items) found.end (omega (arith, few_in_keytab field_limit file, are.1)) (keytab_fault field_limit file are.0 are.1))
    where
      found : Records
      found = keytab_records field_limit file

      by : (found.items ≡ []) ⊎ ((size : ℕ) × AreFirst file found.items size × AreBefore size found.end) → AllByRecursion (λ r. RecordIsOfOctets r × IsRecord r) found.items
      by (inl none) = subst (AllByRecursion (λ r. RecordIsOfOctets r × IsRecord r)) (sym none) tt
      by (inr some) = records_fit found.items some.1.spelled.0 some.1.spelled.1

-- ---- caches
-- what is read fits, and is of octets
record Fit (start : Start) (found : List Credential) : Type 0 where
  header : HeaderFits start.header
  principal : PrincipalFits start.principal
  each : AllByRecursion CredentialFits found

all3 : (found : List Credential3) → AllByRecursion Credential3Fits found → AllByRecursion CredentialFits (map (λ c. c.credential) found)
all3 [] fit = tt
all3 (c ∷ found) fit = (fit.0.credential, all3 found fit.1)

contents_fit : (start : Start) (found : List Credential) (octets : List ℕ) → SpellsContents start found octets → Fit start found
contents_fit start found octets (inl (version, spelled)) = record { header = spelled.fits.header; principal = spelled.fits.principal; each = spelled.fits.credentials }
contents_fit start found octets (inr (version, v, spelled, same)) =
    let header : HeaderFits no_header = record { each = tt; short = omega arith } in
    record {
      header = subst (λ (c : Ccache). HeaderFits c.header) same header;
      principal = subst (λ (c : Ccache). PrincipalFits c.principal) same spelled.fits.principal;
      each = subst (λ (c : Ccache). AllByRecursion CredentialFits c.credentials) same (all3 v.credentials spelled.fits.credentials);
    }

module _ (json : FilesAreJson) (ends : EndsAreJson) (refused : FileRefusalIsOneLine) (cache_one : CacheIsOneLine) (credential_one : CredentialIsOneLine) (end_one : CacheEndIsOneLine) (label : Label) (named : IsNamed label) (now : Option ℕ) where
  fit_credentials : (found : List Credential) → AllByRecursion CredentialFits found → AreLinesOf label.form (flat_map (credential_line label now) found)
  fit_credentials found fit =
      each_line_of label.form CredentialFits (credential_line label now)
      (λ c fits. a_line_of label named (credential_record label.form now c) (one_in (λ f. credential_record f now c) label.form named.0 (credential_one (base_in label.form) now c (credential_is c fits))) (λ is. subst (λ f. PrintsJson (credential_record f now c)) (sym is) (json.credential now c fits))) found fit

  fit_cache_end : (count : ℕ) (end : Result ℕ Fault) → count < 10 ^ 64 → EndsSmall end → AreLinesOf label.form (ccache_last label count end)
  fit_cache_end count (Ok size) few small = a_line_of label named (cache_end count) (one_in (λ f. cache_end count) label.form named.0 (end_one (base_in label.form) count)) (λ _. json.end_of_cache count few)
  fit_cache_end count (Err fault) few small = fault_line_of ends refused label named fault (places.Credential count) small

  started_lines : (r : Result (Start × Source) Fault) (found : CacheItems Credential) → length found.items < 10 ^ 64 → AreSmall r found → ((start : Start) (after : Source) → r ≡ Ok (start, after) → Fit start found.items) → AreLinesOf label.form (text_of (cache_listing label now r found))
  started_lines (Err fault) found few small fit = fault_line_of ends refused label named fault places.File small.start_small
  started_lines (Ok (start, after)) found few small fit =
      let its = fit start after refl in
      let line : List ℕ = cache_line label start.header start.principal in
      let others : RecordListing = credentials_listing label now found in
      let first = a_line_of label named (cache_record start.header start.principal) (one_in (λ f. cache_record start.header start.principal) label.form named.0 (cache_one (base_in label.form) start.header start.principal (principal_is start.principal its.principal))) (λ _. json.cache start.header start.principal its.header its.principal) in
      subst (AreLinesOf label.form) (sym (append_assoc line others.lines others.last))
      (and_lines_of label.form line (text_of others) first
      (and_lines_of label.form (flat_map (credential_line label now) found.items) (ccache_last label (length found.items) found.end) (fit_credentials found.items its.each) (fit_cache_end (length found.items) found.end few small.end_small)))

  pub cache_lines_of : CredentialsAreSpelled → (file : List ℕ) → AreRead file → AreLinesOf label.form (text_of (ccache_listing label now file))
  unfolding ccache_listing
  cache_lines_of spelled file are =
      started_lines (file_start field_limit file) (credentials field_limit file) (omega (arith, few_in_cache field_limit file, are.1)) (cache_fault field_limit file are.0 are.1)
      (λ start after e. let all = spelled field_limit file start after are.0 e in contents_fit start (credentials field_limit file).items _ all.1.spelled)
