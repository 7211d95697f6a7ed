-- What a command does, of a command that is known, and which one a source has.
use Rattle.std.proofs.Common.{◌≡◌, ℕ, List, Option, ap, sym, subst, ◌∙◌}
use Rattle.krb_input.specs.Sources.{command_for}
use Rattle.krb_input.specs.declared.source_kind.SourceKind.{SourceKind}
use Rattle.krb_record.specs.Labels.{Label}
use Rattle.krb_run.specs.Sources.{Outcome}
use Rattle.krb_words.specs.Tasks.{listing_for}
use Rattle.krb_words.specs.declared.when.When.{When}
use Rattle.krb_words.specs.declared.words.Command.{Command}
use Rattle.krb_words.specs.declared.words.Command.TheVariants as commands
use Rattle.krbls.specs.Commands.{Does, chosen}

pub of_job : (IsTold : List ℕ → Type 0) (label : Label) (now : Option ℕ) (command other : Command) (had left written_before written_after : Option (List ℕ)) (outcome : Outcome) → command ≡ other → Does IsTold label now other had left written_before written_after outcome → Does IsTold label now command had left written_before written_after outcome
of_job IsTold label now command other had left written_before written_after outcome is does = subst (λ (j : Command). Does IsTold label now j had left written_before written_after outcome) (sym is) does

-- without a command it is that of the first octets
pub is_chosen : (command listing : Command) (when : Option When) (lent first : List ℕ) (kind : SourceKind) → command ≡ commands.List when → lent ≡ first → kind ≡ command_for lent → listing ≡ listing_for kind when → listing ≡ chosen command first
is_chosen command listing when lent first kind is same found listed =
    listed ∙ ap (λ (k : SourceKind). listing_for k when) (found ∙ ap (λ (octets : List ℕ). command_for octets) same) ∙ sym (ap (λ (c : Command). chosen c first) is)
