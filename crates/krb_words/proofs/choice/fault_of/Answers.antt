use Rattle.std.proofs.Common.{◌≡◌, string_bytes}
use Rattle.krb_words.specs.Chosen.{error_text}
use Rattle.krb_words.specs.inner.Options.{IsOkOf}
use Rattle.krb_words.proofs.Said.{ok_is, said_by}
use Rattle.krb_words.proofs.choice.fault_of.Goals as goal

pub returns : goal.returns
returns c =
    said_by c.wrong.result (λ said. IsOkOf c.error_text.result (λ string. string_bytes string ≡ said)) (λ error. error ≡ error_text c.args.text.now)
    (λ said is. ok_is c.error_text.result string_bytes (λ error. error ≡ error_text c.args.text.now) said c.error_text.ensures is) c.wrong.ensures
