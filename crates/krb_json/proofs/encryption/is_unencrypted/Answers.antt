use Rattle.std.proofs.Common.{◌&&◌, sym, ap, ap₂, ◌∙◌}
use Rattle.krb_json.specs.Unencrypted.{begin_with_zero}
use Rattle.krb_msg.specs.Nodes.{nodes}
use Rattle.krb_msg.specs.Table.{fields_from}
use Rattle.krb_json.proofs.encryption.is_unencrypted.Goals as goal

pub returns-then-is_encrypted_data : goal.returns-then-is_encrypted_data
returns-then-is_encrypted_data c values a = ap₂ (λ s t. s && t) (sym c.is_encrypted_data.ensures ∙ c.if-is_encrypted_data.true) (c.begins_with_zero.ensures values a)

pub returns-else-is_encrypted_data : goal.returns-else-is_encrypted_data
returns-else-is_encrypted_data c values a = ap (λ s. s && begin_with_zero (fields_from nodes c.args.slots.now) values) (sym c.is_encrypted_data.ensures ∙ c.if-is_encrypted_data.false) ∙ sym c.if-is_encrypted_data.false
