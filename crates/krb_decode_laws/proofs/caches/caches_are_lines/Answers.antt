use Rattle.krb_decode_laws.proofs.CacheLines.{caches_are_lines}
use Rattle.krb_decode_laws.proofs.caches.caches_are_lines.Goals as goal

pub returns : goal.returns
returns c =
    caches_are_lines record {
      spelled = c.credentials_are_spelled.ensures;
      value_of_der = c.value_of_der_is_value.ensures;
      file_line_is = c.end_is_one_line.ensures.file;
      untold_line_is = c.end_is_one_line.ensures.untold_message;
    }
