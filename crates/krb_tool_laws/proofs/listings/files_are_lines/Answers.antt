use Rattle.krb_tool_laws.proofs.ListedFiles.{cache_lines_of, keytab_lines_of}
use Rattle.krb_tool_laws.proofs.listings.files_are_lines.Goals as goal

pub returns-clause-keytab : goal.returns-clause-keytab
returns-clause-keytab c = λ label file named are.
    keytab_lines_of c.files_are_json.ensures c.ends_are_json.ensures c.end_is_one_line.ensures.file c.keytab_is_one_line_each.ensures.record c.keytab_is_one_line_each.ensures.end label named c.records_are_spelled.ensures file are

pub returns-clause-ccache : goal.returns-clause-ccache
returns-clause-ccache c = λ label now file named are.
    cache_lines_of c.files_are_json.ensures c.ends_are_json.ensures c.end_is_one_line.ensures.file c.ccache_is_one_line_each.ensures.cache c.ccache_is_one_line_each.ensures.credential c.ccache_is_one_line_each.ensures.end label named now c.credentials_are_spelled.ensures file are
