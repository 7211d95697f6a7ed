use Rattle.std.proofs.Common.{arith}
use Rattle.std.proofs.lemmas.Grind.{common_steps}
use Rattle.krb_token.proofs.spnego.+fields.Goals as goal

pub read_fields-loop-field-preserved-then-not-begins : goal.read_fields-loop-field-preserved-then-not-begins
read_fields-loop-field-preserved-then-not-begins t c = grind (arith, common_steps)

pub read_fields-loop-field-preserved : goal.read_fields-loop-field-preserved
read_fields-loop-field-preserved t c = grind (arith, common_steps)

pub read_fields-returns-in_err-item-clause-token : goal.read_fields-returns-in_err-item-clause-token
read_fields-returns-in_err-item-clause-token t c = grind (arith, common_steps)

pub read_fields-returns-in_err-found-clause-token : goal.read_fields-returns-in_err-found-clause-token
read_fields-returns-in_err-found-clause-token t c = grind (arith, common_steps)

pub read_fields-returns-then-is_empty-clause-token : goal.read_fields-returns-then-is_empty-clause-token
read_fields-returns-then-is_empty-clause-token t c = grind (arith, common_steps)

pub read_fields-returns-else-is_empty-clause-token : goal.read_fields-returns-else-is_empty-clause-token
read_fields-returns-else-is_empty-clause-token t c = grind (arith, common_steps)
