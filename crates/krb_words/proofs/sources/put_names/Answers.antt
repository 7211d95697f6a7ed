use Rattle.std.proofs.Common.{◌≡◌, ◌++◌, ◌∙◌, Bor, List, Option, ap, sym, subst, codes, map, OnOk, append-nil}
use Rattle.std.proofs.lemmas.Simd.{map-map}
use Rattle.clap.specs.Words.{Text, found_of}
use Rattle.clap.proofs.WalkLemmas.{raw_values-rows}
use Rattle.krb_words.specs.Sources.{Place, place_of, word_place, words_of}
use Rattle.krb_words.proofs.sources.put_names.Goals as goal

pub returns-in-Some : goal.returns-in-Some
returns-in-Some c =
    let place = word_place c.args.command.now in
    subst (λ (l : List Place). OnOk c.put_words.result (map place_of c.put_words.new.sources.items ≡ map place_of c.args.sources.now.items ++ l))
    (sym (map-map place (λ (word : Bor Text). word.now) c.in-Some.words.now) ∙ ap (λ (o : Option (List Text)). map place (words_of o)) (c.in-Some.ensures ∙ raw_values-rows (found_of c.args.found.now) (codes "file names")))
    c.put_words.ensures

pub returns-in-None : goal.returns-in-None
returns-in-None c =
    subst (λ (o : Option (List Text)). map place_of c.args.sources.now.items ≡ map place_of c.args.sources.now.items ++ map (word_place c.args.command.now) (words_of o))
    (c.in-None.ensures ∙ raw_values-rows (found_of c.args.found.now) (codes "file names"))
    (sym (append-nil (map place_of c.args.sources.now.items)))
