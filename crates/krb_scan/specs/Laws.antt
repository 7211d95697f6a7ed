-- The laws of the scan, by any messages, by any grammar and by the messages of krb_msg.
use Rattle.std.specs.Prelude.{ℕ, ◌≡◌, ◌*◌, ◌^◌, ◌≤◌, ◌<◌, List, length}
use Rattle.krb_der.specs.declared.profile.Profile.{Profile}
use Rattle.krb_der.specs.declared.verdict.Verdict.{Verdict}
use Rattle.krb_der.specs.declared.verdict.Verdict.TheVariants as verdict
use Rattle.krb_msg.specs.Term.{Term, Value, der, Fits}
use Rattle.krb_msg.specs.Shape.{IsOneOf, IsGrammar}
use Rattle.krb_msg.specs.Judgement.{judgement_by}
use Rattle.krb_msg.specs.Views.{message_der, IsInProfile}
use Rattle.krb_msg.specs.declared.message.Message.{Message}
use Rattle.krb_scan.specs.Scan.{Answer, Ongoing, Refusing, Whole, scan}
use Rattle.krb_scan.specs.ValueMarks.{value_marks, message_marks}
use Rattle.krb_scan.specs.Scanned.{Marks}

abbrev pub decided_by : Answer → Verdict
decided_by (Ongoing state) = verdict.Open
decided_by (Refusing place reason) = verdict.Refused (record { place = place; why = reason })
decided_by (Whole marks) = verdict.Whole

-- The verdict of a scan of octets is their judgement.
abbrev pub ScanJudges : Type 0
ScanJudges = (terms : List Term) (n : ℕ) (octets : List ℕ) → 0 < n → length octets ≤ n → judgement_by terms n octets ≡ decided_by (scan terms n octets)

-- The scan of the DER of a value of one of the messages is whole, with the marks of the value.
abbrev pub WholeHasMarksOfValue : Type 0
WholeHasMarksOfValue = (messages : List Term) → IsGrammar messages → (term : Term) → IsOneOf term messages → (value : Value term) → Fits term value → length (der term value) < 2 ^ 31 → scan messages (length (der term value)) (der term value) ≡ Whole (value_marks term 0 value)

-- The marks of the DER of a message of a profile are those of the message.
abbrev pub WholeHasMarksOfMessage : Type 0
WholeHasMarksOfMessage = (profile : Profile) (m : Message) → IsInProfile profile m → Marks profile (length (message_der m)) (message_der m) ≡ message_marks profile m

-- Twice the number of marks is at most the number of octets, since an item has an identifier octet and a length octet. So capacity for half as many marks as a message has octets is enough.
abbrev pub MarksAreFew : Type 0
MarksAreFew = (profile : Profile) (n : ℕ) (octets : List ℕ) → 0 < n → 2 * length (Marks profile n octets) ≤ length octets
