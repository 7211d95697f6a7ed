use Rattle.std.proofs.Common.{◌++◌, codes, sym, ◌∙◌, ap, append-nil, append_assoc}
use Rattle.krb_decode.proofs.parts.Parts.put_unencrypted.Goals as goal

pub returns : goal.returns
returns c =
    let old = c.args.self.now in
    let rest = codes ": not encrypted, and so not printed\n" in
    record {
      lines = sym (append-nil old.lines.items);
      said =
          c.in_ok-push_str-3.ensures
          ∙ ap (λ t. t ++ rest) (c.in_ok-push_str-2.ensures ∙ ap (λ t. t ++ c.args.path.now) c.in_ok-push_str.ensures ∙ append_assoc old.said c.args.origin.now c.args.path.now)
          ∙ append_assoc old.said (c.args.origin.now ++ c.args.path.now) rest;
    }
