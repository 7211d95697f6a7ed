-- The marks of a message that a scanner took whole.
use Rattle.std.proofs.Common.{◌≡◌, ℕ, ◌≤◌, List, length, take, sym, ◌∙◌, subst, arith, length-take}
use Rattle.std.proofs.lemmas.List.{take_all}
use Rattle.krb_der.specs.declared.profile.Profile.{Profile}
use Rattle.krb_der.specs.declared.verdict.Verdict.TheVariants as verdict
use Rattle.krb_msg.specs.Grammar.{messages}
use Rattle.krb_msg.specs.Judgement.{judgement}
use Rattle.krb_msg.specs.Laws.{AreOneOf}
use Rattle.krb_msg.proofs.Grammars.{whole_is_one_of}
use Rattle.krb_scan.specs.Scanned.{AreWhole, Marks}
use Rattle.krb_scan.specs.State.{AreMarks}
use Rattle.krb_scan.specs.Scanner.{HasScanned, verdict_of, marks_of}
use Rattle.krb_scan.specs.declared.scanner.Scanner.{Scanner}

-- if octets that were scanned are a whole message, its marks are those of these octets
pub whole_marks : (profile : Profile) (scanner : Scanner) (n : ℕ) (octets : List ℕ) → HasScanned profile scanner n octets → verdict_of scanner ≡ verdict.Whole → AreWhole (marks_of scanner) octets
whole_marks profile scanner n octets h whole =
    let s = h.scanned in
    let judged : judgement profile n octets ≡ verdict.Whole = sym s.decides ∙ whole in
    let one : AreOneOf (messages profile) n octets = whole_is_one_of (messages profile) n octets s.are_octets s.fits judged in
    record {
      profile = profile;
      whole = subst (λ k. judgement profile k octets ≡ verdict.Whole) (sym one.all) judged;
      are_marks = subst (λ k. AreMarks (marks_of scanner) (Marks profile k octets)) (sym one.all) h.marks;
    }

-- and if some of some octets are one of as many octets as these, they are all of them
pub whole_taken : (profile : Profile) (scanner : Scanner) (octets : List ℕ) (used : ℕ) → HasScanned profile scanner (length octets) (take used octets) → verdict_of scanner ≡ verdict.Whole → AreWhole (marks_of scanner) octets
whole_taken profile scanner octets used h whole =
    let s = h.scanned in
    let one : AreOneOf (messages profile) (length octets) (take used octets) = whole_is_one_of (messages profile) (length octets) (take used octets) s.are_octets s.fits (sym s.decides ∙ whole) in
    let all : length octets ≤ used = omega (arith, length-take used octets, one.all) in
    subst (λ taken. AreWhole (marks_of scanner) taken) (take_all used octets all) (whole_marks profile scanner (length octets) (take used octets) h whole)
