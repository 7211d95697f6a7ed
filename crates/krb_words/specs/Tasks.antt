-- What a command says to do: the text that it prints, the kind that it lists, the time and the first octets that it needs, and what is said of a name that it cannot open.
use Rattle.std.specs.Prelude.{ℕ, Bool, true, false, List, Option, Some, None, codes, string_bytes, if◌then◌else◌}
use Rattle.std.specs.Option.{option_map}
use Rattle.krb_der.specs.declared.profile.Profile.TheVariants as profile
use Rattle.krb_input.specs.Sources.{kind_name}
use Rattle.krb_input.specs.declared.source_kind.SourceKind.{SourceKind}
use Rattle.krb_input.specs.declared.source_kind.SourceKind.TheVariants as kind
use Rattle.krb_words.specs.CacheTypes.{other_cache}
use Rattle.krb_words.specs.Names.{is_command}
use Rattle.krb_words.specs.declared.when.When.{When}
use Rattle.krb_words.specs.declared.words.AfterRefusal.TheVariants as after
use Rattle.krb_words.specs.declared.words.Framing.TheVariants as framing
use Rattle.krb_words.specs.declared.words.Inputs.TheVariants as inputs
use Rattle.krb_words.specs.declared.words.Command.{Command}
use Rattle.krb_words.specs.declared.words.Command.TheVariants as commands

-- the text that is all that a command prints
abbrev pub text_of : Command → Option (List ℕ)
text_of (commands.Help text) = Some (string_bytes text)
text_of (commands.Version text) = Some (string_bytes text)
text_of _ = None

-- messages and lines of JSON are turned into each other
abbrev pub is_conversion : Command → Bool
is_conversion (commands.Decode limit profile how refused packets) = true
is_conversion (commands.Encode limit profile how) = true
is_conversion _ = false

-- messages are written as they are, and not as text
abbrev pub writes_messages : Command → Bool
writes_messages (commands.Encode limit profile how) = true
writes_messages _ = false

-- What is said of a name that cannot be opened: if no command came before it and it is a command's, that this comes first; if it may be a cache's, how to get a file of it.
abbrev pub said_unopened : Command → (name : List ℕ) → Option (List ℕ)
said_unopened (commands.List when) name = if is_command name then Some (codes "a command comes before options: krbls COMMAND [OPTIONS] [FILE]...") else other_cache name
said_unopened (commands.Ccache when) name = other_cache name
said_unopened (commands.Decode limit profile framing.Framed refused packets) name = other_cache name
said_unopened _ name = None

-- the command that lists a source of a kind, without options but a time
abbrev pub listing_for : SourceKind → Option When → Command
listing_for kind.Keytab when = commands.Keytab
listing_for kind.Ccache when = commands.Ccache when
listing_for kind.Capture when = commands.Capture 16777216 profile.Lenient 88
listing_for kind.Message when = commands.Message profile.Lenient inputs.Whole
listing_for kind.Stream when = commands.Stream 16777216 profile.Lenient after.Ends

-- the kind of the sources that a command lists
abbrev pub kind_used : Command → Option SourceKind
kind_used commands.Keytab = Some kind.Keytab
kind_used (commands.Ccache when) = Some kind.Ccache
kind_used (commands.Capture limit chosen port) = Some kind.Capture
kind_used (commands.Message profile each) = Some kind.Message
kind_used (commands.Items profile) = Some kind.Message
kind_used (commands.Stream limit profile refused) = Some kind.Stream
kind_used _ = None

-- the name of a command that hints give again
abbrev pub name_used : Command → Option (List ℕ)
name_used (commands.Items profile) = Some (codes "items")
name_used (commands.Decode limit profile how refused packets) = Some (codes "decode")
name_used command = option_map kind_name (kind_used command)

-- the time that a command compares credentials with
abbrev pub when_of : Command → Option When
when_of (commands.List when) = when
when_of (commands.Ccache when) = when
when_of _ = None

-- how many octets of a source are awaited before its run begins: those by which a command or a hint is chosen, if one is
abbrev pub octets_awaited : Command → ℕ
octets_awaited (commands.Decode limit profile framing.Unframed refused packets) = 1
octets_awaited (commands.Encode limit profile how) = 1
octets_awaited _ = 16
