use Rattle.std.proofs.Common.{sym, ap, subst, ◌∙◌}
use Rattle.std.specs.Str.{IsUtf8}
use Rattle.std.proofs.lemmas.Str.{IsUtf8-from_ascii}
use Rattle.krb_der.specs.inner.Numbers.{AreOctets-slice}
use Rattle.krb_json.specs.Spelling.{shown}
use Rattle.krb_json.proofs.Printable.{printable-ascii, printable-shown}
use Rattle.krb_json.proofs.value_fault.fault_of_member.Goals as goal

pub unreachable-requires : goal.unreachable-requires
unreachable-requires c =
    absurd (c.in-Err-from_utf8.ensures.cases.0 (subst IsUtf8 (sym (c.as_slice.ensures.value ∙ c.in-Ok.ensures ∙ ap shown c.as_bytes.ensures.value))
    (IsUtf8-from_ascii (shown c.args.name.now) (printable-ascii (shown c.args.name.now) (printable-shown c.args.name.now (AreOctets-slice c.args.name.now c.type_inv.name))))))
