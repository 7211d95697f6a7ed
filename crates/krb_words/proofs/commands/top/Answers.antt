use Rattle.std.proofs.Common.{◌≡◌, true, ◌∙◌, ap, codes}
use Rattle.clap.specs.Words.{App, app_of, new_app}
use Rattle.clap.specs.Simple.{Shape, app_of_fields, on_top}
use Rattle.krb_words.proofs.commands.top.Goals as goal

pub returns : goal.returns
returns c =
    let named : app_of c.no_binary_name.result ≡ on_top (λ (s : Shape). record s { no_binary_name = true }) (app_of c.new_command.result) =
    ap app_of_fields c.no_binary_name.ensures in
    let hidden : app_of c.disable_help_subcommand.result ≡ on_top (λ (s : Shape). record s { no_binary_name = true; disable_help_subcommand = true }) (new_app (codes "krbls")) =
    ap app_of_fields c.disable_help_subcommand.ensures
    ∙ ap (λ (a : App). on_top (λ (s : Shape). record s { disable_help_subcommand = true }) a) (named ∙ ap (λ (a : App). on_top (λ (s : Shape). record s { no_binary_name = true }) a) c.new_command.ensures.app) in
    let required : app_of c.subcommand_required.result ≡ on_top (λ (s : Shape). record s { no_binary_name = true; disable_help_subcommand = true; subcommand_required = true }) (new_app (codes "krbls")) =
    ap app_of_fields c.subcommand_required.ensures ∙ ap (λ (a : App). on_top (λ (s : Shape). record s { subcommand_required = true }) a) hidden in
    ap app_of_fields c.version.ensures ∙ ap (λ (a : App). on_top (λ (s : Shape). record s { has_version = true }) a) required
