use Rattle.krb_laws.proofs.Layouts.{of_hexdump, of_od, of_od_hexadecimal, of_tcpdump, of_tshark, of_wireshark, of_xxd}
use Rattle.krb_laws.proofs.spelled.tools_are_layouts.Goals as goal

pub returns : goal.returns
returns c = record {
  of_xxd = of_xxd;
  of_hexdump = of_hexdump;
  of_od = of_od;
  of_od_hexadecimal = of_od_hexadecimal;
  of_tcpdump = of_tcpdump;
  of_tshark = of_tshark;
  of_wireshark = of_wireshark;
}
