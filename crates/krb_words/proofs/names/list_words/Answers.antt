use Rattle.std.proofs.Common.{◌∷◌, [], ◌++◌, ◌∙◌, Global, Vec, ℕ, ap, codes, map, string_bytes, sym}
use Rattle.std.proofs.lemmas.Simd.{map-map}
use Rattle.krb_record.specs.FileNames.{name_text}
use Rattle.krb_words.proofs.names.list_words.Goals as goal

pub returns : goal.returns
returns c =
    c.in_ok-put_shown.ensures
    ∙ ap (λ l. l ++ map (λ (word : Vec ℕ Global). name_text word.items) c.args.words.now) c.in_ok-put_word.ensures
    ∙ ap (λ l. (map string_bytes l ++ codes "list" ∷ []) ++ map (λ (word : Vec ℕ Global). name_text word.items) c.args.words.now) c.new-texts.ensures.items
    ∙ ap (λ l. codes "list" ∷ l) (sym (map-map name_text (λ (word : Vec ℕ Global). word.items) c.args.words.now))
