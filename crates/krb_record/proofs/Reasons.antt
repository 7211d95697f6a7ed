-- The names of reasons are printable, and so ASCII.
use Rattle.std.proofs.Common.{refl}
use Rattle.std.specs.Str.{IsAscii}
use Rattle.krb_source.specs.FileReasons.{file_reason_name}
use Rattle.krb_source.specs.UnreadReasons.{unread_reason_name}
use Rattle.krb_der.specs.Reasons.{reason_name}
use Rattle.krb_source.specs.declared.file_why.FileWhy.{FileWhy}
use Rattle.krb_source.specs.declared.file_why.FileWhy.TheVariants as files
use Rattle.krb_source.specs.declared.unread_why.UnreadWhy.{UnreadWhy}
use Rattle.krb_source.specs.declared.unread_why.UnreadWhy.TheVariants as unread
use Rattle.krb_der.specs.declared.why.Why.{Why}
use Rattle.krb_der.specs.declared.why.Why.TheVariants as whys
use Rattle.krb_record.proofs.Printable.{Prints, ascii, word}

pub file_name : (reason : FileWhy) → Prints (file_reason_name reason)
file_name files.Magic = word _ refl
file_name other = word _ refl

pub name : (reason : Why) → Prints (reason_name reason)
name whys.HighBit = word _ refl
name other = word _ refl

pub reason_is_ascii : (reason : Why) → IsAscii (reason_name reason)
reason_is_ascii reason = ascii (reason_name reason) (name reason).all

pub file_reason_is_ascii : (reason : FileWhy) → IsAscii (file_reason_name reason)
file_reason_is_ascii reason = ascii (file_reason_name reason) (file_name reason).all

pub unread_name : (reason : UnreadWhy) → Prints (unread_reason_name reason)
unread_name unread.Surplus = word _ refl
unread_name other = word _ refl

pub unread_reason_is_ascii : (reason : UnreadWhy) → IsAscii (unread_reason_name reason)
unread_reason_is_ascii reason = ascii (unread_reason_name reason) (unread_name reason).all
