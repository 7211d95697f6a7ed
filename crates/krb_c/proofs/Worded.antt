-- What an error says, without what is before it and after it.
use Rattle.std.proofs.Common.{◌≡◌, ℕ, ◌+◌, ◌-◌, List, ◌++◌, codes, length, take, refl, ◌∙◌, ap, arith}
use Rattle.std.proofs.lemmas.List.{length-append}
use Rattle.std.proofs.Math.Seq.{take-append-add}
use Rattle.krb_record.specs.Text.{line_feed}
use Rattle.krb_words.specs.Chosen.{error_text}
use Rattle.krb_c.specs.Rows.{line_of}

abbrev help : List ℕ
help = codes "\n\nFor more information, try '--help'.\n"

pub said-line : (said : List ℕ) → line_of (error_text said) ≡ said ++ line_feed
said-line said =
    let size : length help ≡ 38 = refl in
    let few : length (said ++ help) - 37 ≡ length said + 1 = omega (arith, length-append said help, size) in
    ap (λ (n : ℕ). take n (said ++ help)) few ∙ take-append-add said help 1
