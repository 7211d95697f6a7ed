use Rattle.std.proofs.Common.{◌++◌, codes, sym, ◌∙◌, ap, append-nil, append_assoc}
use Rattle.krb_decode.proofs.parts.Parts.put_absent.Goals as goal

pub returns : goal.returns
returns c =
    let old = c.args.self.now in
    record {
      lines = sym (append-nil old.lines.items);
      said = c.in_ok-push_str-2.ensures ∙ ap (λ t. t ++ codes "absent\n") c.in_ok-push_str.ensures ∙ append_assoc old.said c.args.origin.now (codes "absent\n");
    }
