use Rattle.krbls.proofs.Commands.{of_job}
use Rattle.krbls.proofs.Written.{of_all, of_decoding, of_encoding, of_file, of_lines, of_stream}
use Rattle.krbls.proofs.lister.Lister.run.Goals as goal

pub returns-in-Keytab-clause-does : goal.returns-in-Keytab-clause-does
returns-in-Keytab-clause-does g c = of_job _ _ _ _ _ _ _ _ _ _ c.in-Keytab.is c.run_keytab_in.ensures.listed

pub returns-in-Ccache-clause-does : goal.returns-in-Ccache-clause-does
returns-in-Ccache-clause-does g c = of_job _ _ _ _ _ _ _ _ _ _ c.in-Ccache.is c.run_ccache_in.ensures.listed

pub returns-in-Capture-clause-does : goal.returns-in-Capture-clause-does
returns-in-Capture-clause-does g c = of_job _ _ _ _ _ _ _ _ _ _ c.in-Capture.is c.run_capture.ensures.listed

pub returns-in-Decode-clause-does : goal.returns-in-Decode-clause-does
returns-in-Decode-clause-does g c = of_job _ _ _ _ _ _ _ _ _ _ c.in-Decode.is (c.run_decode.ensures.turned, c.run_decode.ensures.fault)

pub returns-in-Encode-clause-does : goal.returns-in-Encode-clause-does
returns-in-Encode-clause-does g c = of_job _ _ _ _ _ _ _ _ _ _ c.in-Encode.is (c.run_encode.ensures.turned, c.run_encode.ensures.fault)

pub returns-in-Items-clause-does : goal.returns-in-Items-clause-does
returns-in-Items-clause-does g c = of_job _ _ _ _ _ _ _ _ _ _ c.in-Items.is (c.run_items_in.ensures.listed, c.run_items_in.ensures.fault)

-- ---- what is written only grows
pub returns-in-Stream-default-default-Ends-clause-written : goal.returns-in-Stream-default-default-Ends-clause-written
returns-in-Stream-default-default-Ends-clause-written g c =
    let run = c.run_stream_in in of_stream _ _ _ _ _ _ _ run.result run.ensures.listed run.ensures.fault

pub returns-in-Stream-default-default-GoesOn-clause-written : goal.returns-in-Stream-default-default-GoesOn-clause-written
returns-in-Stream-default-default-GoesOn-clause-written g c =
    let run = c.run_stream_in-in-Stream-default-default-GoesOn in of_all _ _ _ _ _ _ _ run.result run.ensures.listed run.ensures.fault

pub returns-in-Message-default-Whole-clause-written : goal.returns-in-Message-default-Whole-clause-written
returns-in-Message-default-Whole-clause-written g c = let run = c.run_message_in in of_file _ _ _ _ _ run.result run.ensures.listed run.ensures.fault

pub returns-in-Message-default-EachLine-clause-written : goal.returns-in-Message-default-EachLine-clause-written
returns-in-Message-default-EachLine-clause-written g c = let run = c.run_lines_in in of_lines _ _ _ _ _ _ run.result run.ensures.listed run.ensures.fault

pub returns-in-Items-clause-written : goal.returns-in-Items-clause-written
returns-in-Items-clause-written g c = let run = c.run_items_in in of_file _ _ _ _ _ run.result run.ensures.listed run.ensures.fault

pub returns-in-Decode-clause-written : goal.returns-in-Decode-clause-written
returns-in-Decode-clause-written g c = let run = c.run_decode in of_decoding _ _ _ _ _ _ _ _ _ _ run.result run.ensures.turned run.ensures.fault

pub returns-in-Encode-clause-written : goal.returns-in-Encode-clause-written
returns-in-Encode-clause-written g c = let run = c.run_encode in of_encoding _ _ _ _ _ _ _ _ _ _ run.result run.ensures.turned run.ensures.fault
