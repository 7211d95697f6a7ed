-- What each tool writes is laid out as dumps are that can be told from other text.
use Rattle.std.proofs.Common.{ℕ, zero, suc, nat_lt, ◌++◌, ◌+◌, ◌-◌, ◌*◌, ◌/◌, ◌≡◌, if◌then◌else◌, Bool, true, false, List, [], ◌∷◌, length, map, replicate, refl, arith}
use Rattle.std.proofs.lemmas.List.Elements.{All-append, All-cons, All-nil, All-replicate}
use Rattle.base64.specs.Tables.{is_printable}
use Rattle.krb_laws.specs.Written.{IsBeside, IsLayout, begins_column, hexdump, in_column, od, od_hexadecimal, shown, tcpdump, tshark, wireshark, xxd}
use Rattle.krb_laws.proofs.Offsets.{IsIndent}
use Rattle.krb_laws.proofs.Printed.{ArePrintable, IsPrintable}

shown_by : (octet : ℕ) (printable : Bool) → is_printable octet ≡ printable → is_printable (if printable then octet else 0x2E) ≡ true
shown_by octet true is = is
shown_by octet false is = refl

all_shown : (octets : List ℕ) → ArePrintable (map shown octets)
all_shown [] = All-nil IsPrintable
all_shown (octet ∷ octets) = All-cons IsPrintable (shown octet) (map shown octets) (shown_by octet (is_printable octet) refl) (all_shown octets)

-- blanks before a column
after_more : (blanks : ℕ) (text : List ℕ) → ArePrintable text → ArePrintable (replicate blanks 0x20 ++ text)
after_more blanks text are = All-append IsPrintable (replicate blanks 0x20) text (All-replicate IsPrintable blanks 0x20 refl) are

begins_blank : (blanks : ℕ) (text : List ℕ) → begins_column (replicate blanks 0x20 ++ (0x20 ∷ text)) ≡ true
begins_blank zero text = refl
begins_blank (suc blanks) text = refl

begins_bar : (blanks : ℕ) (text : List ℕ) → begins_column (replicate blanks 0x20 ++ (0x7C ∷ text)) ≡ true
begins_bar zero text = refl
begins_bar (suc blanks) text = refl

pub of_xxd : IsLayout xxd
of_xxd = record {
  indent = All-nil IsIndent;
  least = omega arith;
  most = omega arith;
  base = refl;
  last = λ ends. absurd (cc);
  gap = omega arith;
  some = omega arith;
  group = (omega arith, omega arith);
  narrow = λ colon number. refl;
  beside = λ octets. (refl, refl, after_more (40 - (2 * length octets + (length octets + 1) / 2)) (map shown octets) (all_shown octets), refl);
}

pub of_hexdump : IsLayout hexdump
of_hexdump = record {
  indent = All-nil IsIndent;
  least = omega arith;
  most = omega arith;
  base = refl;
  last = λ ends. refl;
  gap = omega arith;
  some = omega arith;
  group = refl;
  narrow = λ colon number. absurd (cc);
  beside = λ octets.
      let blanks : ℕ = 49 - (3 * length octets + (if nat_lt 8 (length octets) then 1 else 0)) in
      let text : List ℕ = map shown octets ++ (0x7C ∷ []) in
      let last : ArePrintable (0x7C ∷ []) = All-cons IsPrintable 0x7C [] refl (All-nil IsPrintable) in
      let printable = All-cons IsPrintable 0x7C text refl (All-append IsPrintable (map shown octets) (0x7C ∷ []) (all_shown octets) last) in
      (refl, refl, after_more blanks (0x7C ∷ text) printable, begins_bar blanks text);
}

pub of_od : IsLayout od
of_od = record {
  indent = All-nil IsIndent;
  least = omega arith;
  most = omega arith;
  base = refl;
  last = λ ends. refl;
  gap = omega arith;
  some = omega arith;
  group = refl;
  narrow = λ colon number. refl;
  beside = λ octets. tt;
}

pub of_od_hexadecimal : IsLayout od_hexadecimal
of_od_hexadecimal = record {
  indent = All-nil IsIndent;
  least = omega arith;
  most = omega arith;
  base = refl;
  last = λ ends. refl;
  gap = omega arith;
  some = omega arith;
  group = refl;
  narrow = λ colon number. refl;
  beside = λ octets. tt;
}

pub of_tcpdump : IsLayout tcpdump
of_tcpdump = record {
  indent = All-cons IsIndent 0x09 [] refl (All-nil IsIndent);
  least = omega arith;
  most = omega arith;
  base = refl;
  last = λ ends. absurd (cc);
  gap = omega arith;
  some = omega arith;
  group = (omega arith, omega arith);
  narrow = λ colon number. refl;
  beside = λ octets. tt;
}

-- a column after one blank more
in_column_of : (octets : List ℕ) → IsBeside false (in_column 48 (3 * length octets) (0x20 ∷ map shown octets))
in_column_of octets = (refl, refl, after_more (48 - 3 * length octets) (0x20 ∷ map shown octets) (All-cons IsPrintable 0x20 (map shown octets) refl (all_shown octets)), begins_blank (48 - 3 * length octets) (map shown octets))

pub of_tshark : IsLayout tshark
of_tshark = record {
  indent = All-nil IsIndent;
  least = omega arith;
  most = omega arith;
  base = refl;
  last = λ ends. absurd (cc);
  gap = omega arith;
  some = omega arith;
  group = refl;
  narrow = λ colon number. refl;
  beside = in_column_of;
}

pub of_wireshark : IsLayout wireshark
of_wireshark = record {
  indent = All-nil IsIndent;
  least = omega arith;
  most = omega arith;
  base = refl;
  last = λ ends. absurd (cc);
  gap = omega arith;
  some = omega arith;
  group = refl;
  narrow = λ colon number. refl;
  beside = in_column_of;
}
