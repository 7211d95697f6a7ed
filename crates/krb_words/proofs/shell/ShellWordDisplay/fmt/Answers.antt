use Rattle.std.proofs.Common.{◌≡◌, ℕ, List, ◌++◌, refl, sym, ◌∙◌, ap, arith, append_assoc}
use Rattle.std.specs.List.{flat_map}
use Rattle.std.proofs.lemmas.Grind.{put_three}
use Rattle.std.proofs.lemmas.List.{take_all}
use Rattle.krb_words.specs.Shell.{closing, opening, quoting_of, shell_word, word_octet}
use Rattle.krb_words.specs.declared.shell.Quoting.{Quoting}
use Rattle.krb_words.proofs.shell.ShellWordDisplay.fmt.Goals as goal

whole : (name octets first last : List ℕ) (quoting : Quoting) → quoting ≡ quoting_of name → first ≡ opening quoting → octets ≡ name → last ≡ closing quoting → first ++ (flat_map (word_octet quoting) octets ++ last) ≡ shell_word name
whole name octets first last quoting is begins all ends =
    ap (λ (l : List ℕ). l ++ (flat_map (word_octet quoting) octets ++ last)) begins
    ∙ ap (λ (o : List ℕ). opening quoting ++ (flat_map (word_octet quoting) o ++ last)) all
    ∙ ap (λ (l : List ℕ). opening quoting ++ (flat_map (word_octet quoting) name ++ l)) ends
    ∙ ap (λ (q : Quoting). opening q ++ (flat_map (word_octet q) name ++ closing q)) is
    ∙ sym (append_assoc (opening (quoting_of name)) (flat_map (word_octet (quoting_of name)) name) (closing (quoting_of name)))

pub returns-clause-writes : goal.returns-clause-writes
returns-clause-writes g c = λ plain ok.
    let one = c.in_ok-write_str.ensures.writes plain refl in
    let two = c.loop-octet.invariant one.plain in
    let three = c.write_str-2.ensures.writes two.plain ok in
    put_three g.W.Write.write_str_gives _ _ _ _ _ _ _ _ one two three
    (whole c.args.self.now.0.now _ c.opening.result.now c.closing.result.now c.of-quoting.result c.of-quoting.ensures c.opening.ensures (take_all c.loop-octet.octet-index c.args.self.now.0.now (omega (arith, c.loop-octet-test.false))) c.closing.ensures)
