use Rattle.std.proofs.Common.{◌≡◌, sym, ◌∙◌}
use Rattle.std.proofs.lemmas.Bool.{true≢false}
use Rattle.krb_msg.specs.Views.{kind_of}
use Rattle.krb_json.proofs.FirstOctets.{has_first, first_tells_kind}
use Rattle.krb_json.proofs.Zeros.{none-in}
use Rattle.krb_json.proofs.encryption.unencrypted_path.Goals as goal

pub returns-in_default : goal.returns-in_default
returns-in_default c m i form = absurd (has_first c.args.octets.now m form c.in_default.len_below)

pub returns-in_default-of_tag : goal.returns-in_default-of_tag
returns-in_default-of_tag c m i form = absurd (c.in_default-of_tag.not-Some (kind_of m) (c.of_tag.ensures ∙ first_tells_kind c.args.octets.now m form))

pub returns : goal.returns
returns c m i form =
    let told = sym (first_tells_kind c.args.octets.now m form) ∙ sym c.of_tag.ensures ∙ c.in-Some.is in
    let same : kind_of m ≡ c.in-Some.kind = cc in
    c.in_ok-find_in_message.ensures m i same form

pub returns-then-not-has_zero : goal.returns-then-not-has_zero
returns-then-not-has_zero c m i form = none-in c.args.octets.now m form (λ zero. true≢false (sym (c.has_zero.ensures zero) ∙ c.if-not-has_zero.true))
