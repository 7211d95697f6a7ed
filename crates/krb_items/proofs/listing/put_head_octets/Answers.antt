use Rattle.std.proofs.Common.{◌++◌, ◌∙◌, List, ap, codes, ℕ}
use denote.Ref.{Bor}
use Rattle.std.proofs.lemmas.Result.{on_ok_weaker}
use Rattle.krb_record.specs.Text.{hex}
use Rattle.krb_items.specs.Records.{words_text}
use Rattle.krb_items.proofs.Lists.{words_made}
use Rattle.krb_items.proofs.listing.put_head_octets.Goals as goal

pub returns : goal.returns
returns c =
    on_ok_weaker c.put_words.result
    (λ put. put
    ∙ ap (λ (heads : List (Bor (List ℕ))). c.args.text.now ++ words_text c.args.form (codes " heads=") (codes ",\"heads") (λ (octets : Bor (List ℕ)). hex octets.now) heads) c.as_slice.ensures.value
    ∙ ap (λ (words : List ℕ). c.args.text.now ++ words) (words_made c.args.form (codes " heads=") (codes ",\"heads") hex (λ (octets : Bor (List ℕ)). octets.now) c.args.begun.now.heads.items))
    c.put_words.ensures
