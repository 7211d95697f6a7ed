use Rattle.std.proofs.Common.{◌≡◌, ◌∙◌, ◌++◌, ap, ap₂, append_assoc, codes, map, string_bytes}
use Rattle.std.proofs.lemmas.Result.{IfOk-weaker}
use Rattle.krb_words.specs.Chosen.{listed}
use Rattle.krb_words.proofs.choice.put_all.Goals as goal

pub returns : goal.returns
returns c =
    IfOk-weaker c.put_listed.result
    (λ _. string_bytes c.put_listed.new.text ≡ string_bytes c.push_str.new.self ++ listed (map (λ word. word.now) c.as_slice.result.now))
    (λ _. string_bytes c.put_listed.new.text ≡ string_bytes c.args.text.now ++ (codes "; there are: " ++ listed (map string_bytes c.args.all.now)))
    (λ _ is.
    is
    ∙ ap₂ (λ before words. before ++ listed words) c.in_ok-push_str.ensures.bytes (ap (map (λ word. word.now)) c.as_slice.ensures.value ∙ c.in_ok-all.ensures)
    ∙ append_assoc (string_bytes c.args.text.now) (codes "; there are: ") (listed (map string_bytes c.args.all.now)))
    c.put_listed.ensures
