-- Credential caches that are no files, by the types that their names begin with.
use Rattle.std.specs.Prelude.{nat_eq, if◌then◌else◌, codes, Option, Some, None}
use Rattle.std.specs.List.{starts_with}
use Rattle.clap.specs.Words.{Text}

-- what a name is, and how to get a file of it
abbrev pub other_cache : Text → Option Text
other_cache name =
    if starts_with nat_eq name (codes "KCM:") then Some (codes "a daemon keeps this cache; to copy it into a file: kvno -c NAME --out-cache FILE krbtgt/REALM (MIT), or kcc copy_cred_cache NAME FILE (Heimdal)")
    else if starts_with nat_eq name (codes "KEYRING:") then Some (codes "the kernel keeps this cache; to copy it into a file: kvno -c NAME --out-cache FILE krbtgt/REALM (MIT)")
    else if starts_with nat_eq name (codes "API:") then Some (codes "a service of the system keeps this cache; to copy it into a file: kvno -c NAME --out-cache FILE krbtgt/REALM (MIT), or kcc copy_cred_cache NAME FILE (Heimdal)")
    else if starts_with nat_eq name (codes "MEMORY:") then Some (codes "this cache is in the memory of the program that made it, and no other program reads it; to get one in a file: kinit -c FILE")
    else None
