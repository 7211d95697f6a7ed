-- What is written of octets, computed: as xxd, hexdump and base64 write it.
use Rattle.std.specs.Prelude.{ℕ, ◌≡◌, List, [], ◌∷◌, ◌++◌, codes, refl}
use Rattle.base64.specs.Rfc4648.{encode_symbols}
use Rattle.hex.specs.Hex.{encode_with}
use Rattle.krb_laws.specs.Written.{base64_text, dump_text, hexdump, od, od_hexadecimal, tcpdump, tshark, wireshark, xxd}

abbrev octets : List ℕ
octets = codes "AP-REQ" ++ (0x00 ∷ 0xFF ∷ codes " 19 octets")

dumped : dump_text xxd octets ≡ codes "00000000: 4150 2d52 4551 00ff 2031 3920 6f63 7465  AP-REQ.. 19 octe\n00000010: 7473                                     ts\n"
unfolding encode_with
dumped = refl

dumped_by_hexdump : dump_text hexdump octets ≡ codes "00000000  41 50 2d 52 45 51 00 ff  20 31 39 20 6f 63 74 65  |AP-REQ.. 19 octe|\n00000010  74 73                                             |ts|\n00000012\n"
unfolding encode_with
dumped_by_hexdump = refl

dumped_by_od : dump_text od octets ≡ codes "0000000 41 50 2d 52 45 51 00 ff 20 31 39 20 6f 63 74 65\n0000020 74 73\n0000022\n"
unfolding encode_with
dumped_by_od = refl

dumped_by_od_in_hexadecimal : dump_text od_hexadecimal octets ≡ codes "000000 41 50 2d 52 45 51 00 ff 20 31 39 20 6f 63 74 65\n000010 74 73\n000012\n"
unfolding encode_with
dumped_by_od_in_hexadecimal = refl

dumped_by_tcpdump : dump_text tcpdump octets ≡ 0x09 ∷ codes "0x0000:  4150 2d52 4551 00ff 2031 3920 6f63 7465\n" ++ (0x09 ∷ codes "0x0010:  7473\n")
unfolding encode_with
dumped_by_tcpdump = refl

dumped_by_tshark : dump_text tshark octets ≡ codes "0000  41 50 2d 52 45 51 00 ff 20 31 39 20 6f 63 74 65   AP-REQ.. 19 octe\n0010  74 73                                             ts\n"
unfolding encode_with
dumped_by_tshark = refl

dumped_by_wireshark : dump_text wireshark octets ≡ codes "0000   41 50 2d 52 45 51 00 ff 20 31 39 20 6f 63 74 65   AP-REQ.. 19 octe\n0010   74 73                                             ts\n"
unfolding encode_with
dumped_by_wireshark = refl

-- three octets are four characters; one and two at the end have `=` after theirs
in_base64 : base64_text octets ≡ codes "QVAtUkVRAP8gMTkgb2N0ZXRz"
unfolding encode_symbols
in_base64 = refl

one_left : base64_text (0xFE ∷ []) ≡ codes "/g=="
unfolding encode_symbols
one_left = refl

two_left : base64_text (0xFE ∷ 0xFD ∷ []) ≡ codes "/v0="
unfolding encode_symbols
two_left = refl
