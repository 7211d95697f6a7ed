-- The values of configuration entries that are shown.
use Rattle.std.specs.Prelude.{ℕ, Bool, false, ◌||◌, List, [], ◌∷◌, codes, if◌then◌else◌}
use Rattle.std.specs.Str.{bytes_eq}
use Rattle.krb_ccache.specs.declared.value.Credential.{Credential}
use Rattle.krb_record.specs.Values.{Value, Absent, Quoted}

-- The keys whose values are shown. Values of others may be keys, or hold what a module put there.
abbrev pub is_shown_key : List ℕ → Bool
is_shown_key key =
    bytes_eq key (codes "fast_avail")
    || bytes_eq key (codes "pa_type")
    || bytes_eq key (codes "proxy_impersonator")
    || bytes_eq key (codes "refresh_time")
    || bytes_eq key (codes "start_realm")

-- whether the value of a configuration entry is shown: its key is the second component of its server's name
abbrev pub is_shown : List (List ℕ) → Bool
is_shown [] = false
is_shown (name ∷ []) = false
is_shown (name ∷ key ∷ others) = is_shown_key key

-- the value of a configuration entry, which the ticket field holds, if it is shown
unfoldable pub config_value : Credential → Value
config_value c = if is_shown c.server.components then Quoted c.ticket else Absent
