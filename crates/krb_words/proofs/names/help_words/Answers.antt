use Rattle.std.proofs.Common.{◌∷◌, [], ◌++◌, ◌∙◌, Global, Vec, ℕ, ap, codes, map, sym}
use Rattle.std.proofs.lemmas.List.{map-append}
use Rattle.krb_record.specs.FileNames.{name_text}
use Rattle.krb_words.proofs.names.help_words.Goals as goal

pub returns : goal.returns
returns c =
    c.in_ok-put_word.ensures
    ∙ ap (λ l. l ++ codes "--help" ∷ []) c.in_ok-texts.ensures
    ∙ sym (map-append name_text (map (λ (word : Vec ℕ Global). word.items) c.args.words.now) (codes "--help" ∷ []))
