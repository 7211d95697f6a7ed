use Rattle.std.proofs.Common.{◌≡◌, ◌+◌, false, refl, sym, ◌∙◌, ap}
use Rattle.krb_convert.specs.Encoding.{SecondMessage}
use Rattle.krb_run.specs.TextLines.{is_blank_line}
use Rattle.krb_convert.proofs.EncodedLines.{second-step, takes-blank, takes-fault}
use Rattle.krb_convert.proofs.json_reader.JsonReader.take_line.Goals as goal

pub returns-then-is_blank_line-clause-taken : goal.returns-then-is_blank_line-clause-taken
returns-then-is_blank_line-clause-taken c = takes-blank c.args.self.now c.requires.open c.requires.short (ap is_blank_line (sym c.as_slice.ensures.value) ∙ sym c.is_blank_line.ensures ∙ c.if-is_blank_line.true)

pub returns-then-has_all-clause-taken : goal.returns-then-has_all-clause-taken
returns-then-has_all-clause-taken c =
    let old = c.args.self.now in
    let blank : is_blank_line old.line.items ≡ false = ap is_blank_line (sym c.as_slice.ensures.value) ∙ sym c.is_blank_line.ensures ∙ c.if-is_blank_line.false in
    takes-fault old _ (SecondMessage (old.lines + 1)) refl (λ x. x) refl refl refl
    (λ more. second-step old.request (old.lines + 1) old.came old.line.items more c.requires.short blank (sym c.has_all.ensures ∙ c.if-has_all.true))
