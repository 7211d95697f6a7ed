-- Sources that are listed one after another, with their names or without.
use Rattle.std.proofs.Common.{◌≡◌, ℕ, Bool, true, false, cond, List, length, Option, sym, subst}
use Rattle.krb_choice.specs.Choices.{Choice}
use Rattle.krb_record.specs.declared.form.Form.{Form}
use Rattle.krb_record.specs.declared.form.Form.TheVariants as forms
use Rattle.krb_run.specs.Sources.{ListsEach, ListsOne, Named, Reports, Run, names_of, unnamed}
use Rattle.krb_run.specs.declared.naming.Naming.{Naming as Labels}
use Rattle.krb_words.specs.declared.sources.Source.{Source}
use Rattle.krb_words.specs.declared.words.CommandLine.{CommandLine}
use Rattle.krb_host.specs.Around.{Around}
use Rattle.krb_words.specs.Tasks.{is_conversion}
use Rattle.krbls.specs.Program.{DoesFrom, IsFaultReported, ListsSources, is_named, labels_of, name_of}

module _ (around : Around) (command_line : CommandLine) (now : Option ℕ) (sources : List Source) (written_before written_after : Option (List ℕ)) (status : ℕ) where
  abbrev lists : Option Choice → (is_named : Bool) → Form → Named → Source → Run
  lists choice named form how s = Reports (IsFaultReported around command_line.command s) (ListsOne form how (name_of s) (λ label. DoesFrom around choice named label now command_line.command s))

  abbrev each : Option Choice → (is_named : Bool) → Form → Named → Type 0
  each choice named form how = ListsEach (lists choice named form how) sources written_before written_after status

  abbrev are_named : Bool
  are_named = is_named (labels_of command_line) (length sources)

  by_job : (b : Bool) → is_conversion command_line.command ≡ b → each command_line.choice are_named (cond b forms.Lines command_line.form) (cond b unnamed (names_of (labels_of command_line) command_line.form (length sources))) → ListsSources around command_line now sources written_before written_after status
  by_job b command listed =
      subst (λ (c : Bool). each command_line.choice are_named (cond c forms.Lines command_line.form) (cond c unnamed (names_of (labels_of command_line) command_line.form (length sources)))) (sym command) listed

  module _ (choice : Option Choice) (chosen : choice ≡ command_line.choice) (named : Bool) (same-named : named ≡ are_named) where
    as-chosen : (form : Form) (how : Named) → each choice named form how → each command_line.choice are_named form how
    as-chosen form how listed = subst (λ (n : Bool). each command_line.choice n form how) same-named (subst (λ (c : Option Choice). each c named form how) chosen listed)

    pub each_unnamed : is_conversion command_line.command ≡ true → ListsEach (λ s. Reports (IsFaultReported around command_line.command s) (ListsOne forms.Lines unnamed (name_of s) (λ label. DoesFrom around choice named label now command_line.command s))) sources written_before written_after status → ListsSources around command_line now sources written_before written_after status
    each_unnamed command listed = by_job true command (as-chosen forms.Lines unnamed listed)

    pub each_named : (naming : Labels) → naming ≡ labels_of command_line → is_conversion command_line.command ≡ false → ListsEach (λ s. Reports (IsFaultReported around command_line.command s) (ListsOne command_line.form (names_of naming command_line.form (length sources)) (name_of s) (λ label. DoesFrom around choice named label now command_line.command s))) sources written_before written_after status → ListsSources around command_line now sources written_before written_after status
    each_named naming same command listed =
        by_job false command (subst (λ (n : Labels). each command_line.choice are_named command_line.form (names_of n command_line.form (length sources))) same (as-chosen command_line.form (names_of naming command_line.form (length sources)) listed))
