use Rattle.std.proofs.Common.{refl}
use Rattle.krb_padata.specs.Types.{etype_info_entry_of}
use Rattle.krb_text.specs.Inside.{etype_info_part}
use Rattle.krb_text.proofs.padata.put_etype_info.Goals as goal

pub returns-in-Some : goal.returns-in-Some
returns-in-Some c = rw c.in-Some.ensures.0 (c.put_each.ensures (λ v. etype_info_part (etype_info_entry_of v)) (λ seen. refl))
