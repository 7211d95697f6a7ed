-- The laws of the listings of files. Each is the contract of a function of the module `runs` of krb_tool_laws.
use Rattle.std.specs.Prelude.{ℕ, ◌≡◌, ◌≤◌, List, ◌++◌, length, Option}
use Rattle.krb_der.specs.Octets.{AreOctets}
use Rattle.krb_keytab.specs.Laws.{IsUpToKey}
use Rattle.krb_ccache.specs.declared.value.Cache3.{Cache3}
use Rattle.krb_ccache.specs.Laws.{IsUpToKey as IsUpToSessionKey}
use Rattle.krb_ccache.specs.Spelling.{CcacheSpells, Spells3, upgraded}
use Rattle.krb_record.specs.Labels.{Label}
use Rattle.krb_run.specs.declared.run.RunEnd.TheVariants as run
use Rattle.krb_file_run.specs.Files.{keytab_listing, ccache_listing}

-- A cache of version 3 that is listed without a refusal has the listing of its upgrade.
abbrev pub UpgradeIsListedAlike : Type 0
UpgradeIsListedAlike = (label : Label) (now : Option ℕ) (v : Cache3) (file other : List ℕ) → AreOctets file → Spells3 v file → CcacheSpells (upgraded v) other → (ccache_listing label now file).end ≡ run.Clean → ccache_listing label now other ≡ ccache_listing label now file

-- Two keytabs that differ in octets of one key alone have one listing, up to the same end or the same refusal.
abbrev pub KeysAreNotListed : Type 0
KeysAreNotListed =
    (label : Label) (before key other after : List ℕ) (size : ℕ) → IsUpToKey before size → length key ≤ size → length other ≡ length key
    → keytab_listing label (before ++ (key ++ after)) ≡ keytab_listing label (before ++ (other ++ after))

-- So do two caches.
abbrev pub SessionKeysAreNotListed : Type 0
SessionKeysAreNotListed =
    (label : Label) (now : Option ℕ) (before key other after : List ℕ) (size : ℕ) → IsUpToSessionKey before size → length key ≤ size → length other ≡ length key
    → ccache_listing label now (before ++ (key ++ after)) ≡ ccache_listing label now (before ++ (other ++ after))
