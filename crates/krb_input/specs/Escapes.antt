-- Escapes: the octets of a string of C, of Python or of a shell.
use Rattle.std.specs.Prelude.{ℕ, suc, ◌==◌, ◌&&◌, ◌||◌, Bool, false, List, [], ◌∷◌, length, Ok, Err}
use Rattle.krb_der.specs.Octets.{when, begins_with}
use Rattle.krb_input.specs.Characters.{is_blank, octet_of}
use Rattle.krb_input.specs.Readings.{Reading, then_octet}

-- whether `\x` stands anywhere in a text
abbrev pub has_escape : List ℕ → Bool
has_escape [] = false
has_escape (octet ∷ text) = octet == 0x5C && begins_with 0x78 text || has_escape text

-- between escapes are blanks and " ' , ;
abbrev pub is_between : ℕ → Bool
is_between octet = is_blank octet || octet == 0x22 || octet == 0x27 || octet == 0x2C || octet == 0x3B

abbrev mutual
  -- `\x` and two digits are an octet, and `\` at a line's end, LF or CR LF, is none.
  pub escapes : List ℕ → Reading
  escapes [] = Ok []
  escapes (octet ∷ text) =
      when (octet == 0x5C) (λ _. after_backslash (suc (length text)) text) (λ _.
      when (is_between octet) (λ _. escapes text) (λ _. Err (suc (length text))))

  -- what follows a `\`, which is at fault, with so many octets left, if no escape follows
  pub after_backslash : (left : ℕ) → List ℕ → Reading
  after_backslash left [] = Err left
  after_backslash left (octet ∷ text) =
      when (octet == 0x78) (λ _. after_x left text) (λ _.
      when (octet == 0x0A || octet == 0x0D && begins_with 0x0A text) (λ _. escapes text) (λ _. Err left))

  pub after_x : (left : ℕ) → List ℕ → Reading
  after_x left (high ∷ low ∷ text) = then_octet (octet_of high low) left (escapes text)
  after_x left text = Err left
