-- The listing of a cache of version 3 is that of its upgrade.
use Rattle.std.proofs.Common.{◌≡◌, ℕ, Option, Result, Ok, Err, List, length, refl, sym, ◌∙◌, ap, ap₂}
use Rattle.krb_der.specs.Octets.{AreOctets}
use Rattle.krb_file.specs.Fields.{Source, Fault}
use Rattle.krb_ccache.specs.declared.reading.Start.{Start}
use Rattle.krb_ccache.specs.declared.value.Cache3.{Cache3}
use Rattle.krb_ccache.specs.declared.value.Ccache.{Ccache}
use Rattle.krb_ccache.specs.declared.value.Credential.{Credential}
use Rattle.krb_ccache.specs.declared.value.FilePrincipal.{FilePrincipal}
use Rattle.krb_ccache.specs.declared.value.Header.{Header}
use Rattle.krb_ccache.specs.Laws.{UpgradeHoldsTheSame}
use Rattle.krb_ccache.specs.Reading.{CacheItems}
use Rattle.krb_ccache.specs.Spelling.{ccache, CcacheSpells, Spells3, upgraded}
use Rattle.krb_ccache.specs.Streaming.{file_start, credentials, Holds}
use Rattle.krb_file.specs.declared.field_path.FileItem.TheVariants as items
use Rattle.krb_record.specs.Labels.{Label}
use Rattle.krb_file_run.specs.Lines.{cache_line}
use Rattle.krb_run.specs.declared.run.RunEnd.TheVariants as run
use Rattle.krb_run.specs.Records.{RecordListing, after_line, end_of}
use Rattle.krb_file_run.specs.Files.{field_limit, cache_listing, credentials_listing, ccache_listing}

-- a listing without a refusal has an end
ended : (count : ℕ) (e : Result ℕ Fault) → end_of (items.Credential count) e ≡ run.Clean → (size : ℕ) × (e ≡ Ok size)
ended count (Ok size) clean = (size, refl)
ended count (Err f) clean = absurd cc

clean-ends : (label : Label) (now : Option ℕ) (r : Result (Start × Source) Fault) (found : CacheItems Credential) → (cache_listing label now r found).end ≡ run.Clean → (size : ℕ) × (found.end ≡ Ok size)
clean-ends label now (Err f) found clean = absurd cc
clean-ends label now (Ok start) found clean = ended (length found.items) found.end clean

file-ends : (label : Label) (now : Option ℕ) (file : List ℕ) → (ccache_listing label now file).end ≡ run.Clean → (size : ℕ) × ((credentials field_limit file).end ≡ Ok size)
unfolding ccache_listing
file-ends label now file clean = clean-ends label now (file_start field_limit file) (credentials field_limit file) clean

-- what holds a cache is listed by the cache alone
abbrev listed : Label → Option ℕ → Ccache → RecordListing
listed label now cache = after_line (cache_line label cache.header cache.principal) (credentials_listing label now (record { items = cache.credentials; end = Ok 0 }))

written_after-listed : (label : Label) (now : Option ℕ) (file : List ℕ) (cache : Ccache) → Holds field_limit file cache → ccache_listing label now file ≡ listed label now cache
unfolding ccache_listing
written_after-listed label now file cache h =
    ap (λ (r : Result (Start × Source) Fault). cache_listing label now r (credentials field_limit file)) h.begins
    ∙ ap (λ (found : CacheItems Credential). cache_listing label now (Ok (h.start, h.after)) found) h.all
    ∙ ap₂ (λ (header : Header) (principal : FilePrincipal). after_line (cache_line label header principal) (credentials_listing label now (record { items = cache.credentials; end = Ok 0 }))) h.header h.principal

pub listed-alike : UpgradeHoldsTheSame → (label : Label) (now : Option ℕ) (v : Cache3) (file other : List ℕ) → AreOctets file → Spells3 v file → CcacheSpells (upgraded v) other → (ccache_listing label now file).end ≡ run.Clean → ccache_listing label now other ≡ ccache_listing label now file
listed-alike same label now v file other fits spelled written clean =
    let e = file-ends label now file clean in
    let h = same field_limit v file e.0 fits spelled e.1 in
    ap (ccache_listing label now) written.octets ∙ written_after-listed label now (ccache (upgraded v)) (upgraded v) h.1 ∙ sym (written_after-listed label now file (upgraded v) h.0)
