-- What the commands of the program make of a command for `clap`.
use Rattle.std.specs.Prelude.{List, [], ◌∷◌}
use Rattle.clap.specs.Words.{App, Rule, new_app, with_rule, with_subcommand}
use Rattle.krb_words.specs.Words.{now_option, limit_option, port_option, packet_option, keep_going_flag, strict_flag, lines_flag, unframed_flag, names_flag, json_flag, only_option, fields_option, header_flag, with_filename_flag, file_option, file_names, list_app, stream_app, message_app, items_app, keytab_app, ccache_app, capture_app, decode_app, encode_app}
use Rattle.krb_words.specs.declared.commands.Parameter.{Parameter}
use Rattle.krb_words.specs.declared.commands.Parameter.TheVariants as parameter
use Rattle.krb_words.specs.declared.commands.Part.{Part}

abbrev pub rule_for : Parameter → Rule
rule_for parameter.Now = now_option
rule_for parameter.Limit = limit_option
rule_for parameter.Port = port_option
rule_for parameter.Packet = packet_option
rule_for parameter.KeepGoing = keep_going_flag
rule_for parameter.Strict = strict_flag
rule_for parameter.StrictForm = strict_flag
rule_for parameter.Lines = lines_flag
rule_for parameter.Unframed = unframed_flag
rule_for parameter.Names = names_flag
rule_for parameter.Json = json_flag
rule_for parameter.Only = only_option
rule_for parameter.Fields = fields_option
rule_for parameter.Header = header_flag
rule_for parameter.WithFilename = with_filename_flag
rule_for parameter.File = file_option
rule_for parameter.FileNames = file_names

-- a command that takes parameters, too
abbrev pub with_rules : App → List Parameter → App
with_rules app [] = app
with_rules app (parameter ∷ parameters) = with_rules (with_rule app (rule_for parameter)) parameters

abbrev pub app_for : Part → App
app_for part = with_rules (new_app part.name.now) part.parameters.now

-- a command with others among its own
abbrev pub with_apps : App → List App → App
with_apps whole [] = whole
with_apps whole (app ∷ apps) = with_apps (with_subcommand whole app.top) apps

abbrev pub apps : List App
apps = list_app ∷ stream_app ∷ message_app ∷ items_app ∷ keytab_app ∷ ccache_app ∷ capture_app ∷ decode_app ∷ encode_app ∷ []
