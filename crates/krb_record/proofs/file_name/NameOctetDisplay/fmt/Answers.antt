use Rattle.std.proofs.Common.{◌≡◌, ℕ, ◌/◌, ◌%◌, ◌<◌, ◌++◌, true, false, codes, refl, sym, ◌∙◌, arith}
use Rattle.std.specs.Fmt.{digit_glyph}
use Rattle.std.proofs.Math.Utf8.{encode}
use Rattle.std.proofs.lemmas.Bool.Decides.{nat_tests}
use Rattle.std.proofs.lemmas.Grind.{put_three}
use Rattle.std.proofs.lemmas.Str.{encode_ascii}
use Rattle.krb_record.specs.FileNames.{is_plain_in_name, name_octet}
use Rattle.krb_record.proofs.file_name.NameOctetDisplay.fmt.Goals as goal

one_digit : (digit number : ℕ) → number < 16 → digit ≡ digit_glyph false number → digit < 128
one_digit digit number few is = grind (arith, nat_tests)

escaped : (octet high low : ℕ) → octet < 256 → is_plain_in_name octet ≡ false → high ≡ digit_glyph false (octet / 16) → low ≡ digit_glyph false (octet % 16) → codes "\\x" ++ (encode high ++ encode low) ≡ name_octet octet
escaped octet high low small hidden first second =
    rw (encode_ascii high (one_digit high (octet / 16) (omega arith) first), encode_ascii low (one_digit low (octet % 16) (omega arith) second), first, second, hidden) refl

shown : (octet : ℕ) → is_plain_in_name octet ≡ true → encode octet ≡ name_octet octet
shown octet is =
    let small : octet < 128 = grind (arith, nat_tests) in
    rw is (encode_ascii octet small)

pub returns-then-is_plain_in_name-clause-writes : goal.returns-then-is_plain_in_name-clause-writes
returns-then-is_plain_in_name-clause-writes g c = λ plain ok.
    rw (← shown c.args.self.now.0 (sym c.is_plain_in_name.ensures ∙ c.if-is_plain_in_name.true)) (rw c.from.ensures at (c.write_char.ensures.writes plain ok))

pub returns-in_ok-write_char-clause-writes : goal.returns-in_ok-write_char-clause-writes
returns-in_ok-write_char-clause-writes g c = λ plain ok.
    let one = c.in_ok-write_str.ensures.writes plain refl in
    let two = c.in_ok-write_char.ensures.writes one.plain refl in
    let three = c.write_char-else-is_plain_in_name-2.ensures.writes two.plain ok in
    put_three g.W.Write.write_str_gives _ _ _ _ _ _ _ _ one two three
    (escaped c.args.self.now.0 _ _ (omega arith) (sym c.is_plain_in_name.ensures ∙ c.if-is_plain_in_name.false) c.hex_digit.ensures c.hex_digit-else-is_plain_in_name.ensures)
