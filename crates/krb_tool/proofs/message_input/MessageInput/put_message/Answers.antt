use Rattle.std.proofs.Common.{rules, ◌≤◌, length, refl, subst, arith}
use Rattle.std.specs.Prelude.{IfOk, string_bytes}
use Rattle.std.specs.Option.{option_map}
use Rattle.krb_judge.specs.Parses.{refusal_of}
use Rattle.krb_record.specs.Origins.{message_origin}
use Rattle.krb_text.specs.Messages.{PutsMessage, message_line_from}
use Rattle.krb_tool.specs.Messages.{OneRecord, Puts, judged_listing, layered_of}
use Rattle.krb_tool.proofs.Messages.{puts-message, read_never, refused-message, refusal-within}
use Rattle.krb_tool.proofs.message_input.MessageInput.put_message.Goals as goal

pub returns-then-branch-clause-put : goal.returns-then-branch-clause-put
returns-then-branch-clause-put c =
    let line = message_line_from c.args.self.now.form (message_origin c.origin-origin.result.line c.origin-origin.result.layers.now) in
    let put = subst (PutsMessage c.args.self.now.profile c.args.octets.now line c.args.text.now c.put_message_from.new.text) c.if-branch.true c.in_ok-put_message_from.ensures in
    puts-message c.args.self.now (layered_of c.args.layered.now) c.args.place c.args.octets.now c.origin-origin.result.line c.origin-origin.result.layers.now c.args.text.now c.put_message_from.new.text c.origin-origin.ensures.line c.origin-origin.ensures.layers (omega (arith, c.requires.short)) put

pub unreachable-requires : goal.unreachable-requires
unreachable-requires c =
    let line = message_line_from c.args.self.now.form (message_origin c.origin-origin.result.line c.origin-origin.result.layers.now) in
    let put = subst (PutsMessage c.args.self.now.profile c.args.octets.now line c.args.text.now c.put_message_from.new.text) c.if-branch.false c.in_ok-put_message_from.ensures in
    read_never c.args.self.now.profile c.args.octets.now line c.args.text.now c.put_message_from.new.text put c.in_default.ensures.whole

pub overflow_add-place : goal.overflow_add-place
overflow_add-place c =
    let within : c.in-Err.refusal.place ≤ length c.args.octets.now = refusal-within c.refusals_are_inside.ensures c.args.self.now.profile c.args.octets.now c.in-Err.refusal ((c.in-Err.ensures.refused c.in-Err.refusal).0 refl) in
    search rules

pub returns-clause-put : goal.returns-clause-put
returns-clause-put c =
    let old = c.args.self.now in
    let line = message_line_from old.form (message_origin c.origin-origin.result.line c.origin-origin.result.layers.now) in
    let put = subst (PutsMessage old.profile c.args.octets.now line c.args.text.now c.put_message_from.new.text) c.if-branch.false c.in_ok-put_message_from.ensures in
    subst (λ text. IfOk c.put_refusal.result (Puts old.form text c.put_refusal.new.text (judged_listing old (layered_of c.args.layered.now) c.args.place c.args.octets.now (refusal_of old.profile c.args.octets.now)))) put.1
    (subst (λ (listing : OneRecord). IfOk c.put_refusal.result (Puts old.form c.put_message_from.new.text c.put_refusal.new.text listing))
    (refused-message old (layered_of c.args.layered.now) c.args.place c.args.octets.now c.in-Err.refusal (option_map string_bytes c.in_ok-path.path)
    ((c.in-Err.ensures.refused c.in-Err.refusal).0 refl) c.in_ok-path.ensures.path)
    c.put_refusal.ensures.put)
