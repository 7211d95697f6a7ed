use Rattle.std.proofs.Common.{◌≡◌, ℕ, ◌/◌, ◌%◌, ◌<◌, ◌++◌, false, codes, refl, sym, ◌∙◌, arith}
use Rattle.std.specs.Fmt.{digit_glyph}
use Rattle.std.proofs.Math.Utf8.{encode}
use Rattle.std.proofs.lemmas.Bool.Decides.{nat_tests}
use Rattle.std.proofs.lemmas.Grind.{put_three}
use Rattle.std.proofs.lemmas.Str.{encode_ascii}
use Rattle.krb_words.specs.Shell.{is_itself, is_single, word_octet}
use Rattle.krb_words.specs.declared.shell.Quoting.{Quoting}
use Rattle.krb_words.proofs.shell.WordOctetDisplay.fmt.Goals as goal

one_digit : (digit number : ℕ) → number < 16 → digit ≡ digit_glyph false number → digit < 128
one_digit digit number few is = grind (arith, nat_tests)

escaped : (quoting : Quoting) (octet high low : ℕ) → octet < 256 → is_itself quoting octet ≡ false → is_single quoting ≡ false → high ≡ digit_glyph false (octet / 16) → low ≡ digit_glyph false (octet % 16) → codes "\\x" ++ (encode high ++ encode low) ≡ word_octet quoting octet
escaped quoting octet high low small hidden single first second =
    rw (encode_ascii high (one_digit high (octet / 16) (omega arith) first), encode_ascii low (one_digit low (octet % 16) (omega arith) second), first, second, hidden, single) refl

pub returns-in_ok-write_char-clause-writes : goal.returns-in_ok-write_char-clause-writes
returns-in_ok-write_char-clause-writes g c = λ plain ok.
    let one = c.in_ok-write_str.ensures.writes plain refl in
    let two = c.in_ok-write_char.ensures.writes one.plain refl in
    let three = c.write_char-else-is_single-2.ensures.writes two.plain ok in
    put_three g.W.Write.write_str_gives _ _ _ _ _ _ _ _ one two three
    (escaped c.args.self.now.quoting c.args.self.now.octet _ _ (omega arith) (sym c.is_itself.ensures ∙ c.if-is_itself.false) (sym c.is_single.ensures ∙ c.if-is_single.false) c.hex_digit.ensures c.hex_digit-else-is_single.ensures)
