use Rattle.std.proofs.Common.{inl, refl, sym, ◌∙◌, arith}
use Rattle.krb_msg.specs.Grammar.{messages}
use Rattle.krb_scan.specs.Machine.{profile_of}
use Rattle.krb_frame.specs.inner.Phases.{IsAccepted}
use Rattle.krb_frame.proofs.DecoderFrames.{Announces, from_be_bytes-number, refused_length}
use Rattle.krb_frame.proofs.Lengths.{no_fault}
use Rattle.krb_frame.proofs.decoder.judge_length.Goals as goal

pub returns-in-Some : goal.returns-in-Some
returns-in-Some c =
    let a : Announces c.args.announced c.from_be_bytes-size.result = record { four = c.requires; is = sym (c.from_be_bytes-size.ensures ∙ from_be_bytes-number c.args.announced c.requires) } in
    record {
      judged = record {
        at = refused_length (messages (profile_of c.args.machine.now)) c.args.limit c.args.announced c.from_be_bytes-size.result c.in-Some.why a (sym c.length_fault.ensures ∙ c.in-Some.is);
        all = refl;
      };
      scanned = inl refl;
      profile = refl;
      looks = refl;
    }

pub returns-in-None : goal.returns-in-None
returns-in-None c =
    let fine = no_fault c.args.limit c.from_be_bytes-size.result (sym c.length_fault.ensures ∙ c.in-None.is) in
    let accepted : IsAccepted c.args.limit c.args.announced c.from_be_bytes-size.result =
    record { four = c.requires; is = sym (c.from_be_bytes-size.ensures ∙ from_be_bytes-number c.args.announced c.requires); some = fine.0; short = fine.1.0; within = fine.1.1 } in
    record {
      judged = record { at = record { accepted = accepted; present = omega arith; undecided = refl }; all = refl };
      scanned = c.clear.ensures.at;
      profile = c.clear.ensures.profile;
      looks = c.clear.ensures.ledger;
    }
