use Rattle.std.proofs.Common.{ℕ, List, ◌++◌, codes, decimal, sym, ◌∙◌, ap, append_assoc}
use Rattle.krb_decode.specs.Streams.{message_opening}
use Rattle.krb_decode.specs.declared.stream.StreamParts.{StreamParts}
use Rattle.krb_decode.proofs.stream.StreamParts.put_unencrypted.Goals as goal

pub returns : goal.returns
returns c =
    let old : StreamParts = c.args.self.now in
    let number = c.args.number in
    let path : List ℕ = c.args.path.now in
    let rest = codes ": not encrypted, and so not printed\n" in
    let origin = c.as_str.ensures.value ∙ c.in_ok-origin.ensures.ok ∙ sym (append_assoc (codes "message ") (decimal number) (codes ": ")) in
    let opened = c.in_ok-push_str.ensures ∙ ap (λ (o : List ℕ). old.text ++ o) origin in
    ap (λ (t : List ℕ). record old { text = t })
    (c.in_ok-push_pair.ensures
    ∙ ap (λ (t : List ℕ). (t ++ path) ++ rest) opened
    ∙ ap (λ (t : List ℕ). t ++ rest) (append_assoc old.text (message_opening number) path)
    ∙ append_assoc old.text (message_opening number ++ path) rest)
