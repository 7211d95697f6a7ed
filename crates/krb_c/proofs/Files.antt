-- The start of a keytab and of a credential cache, whose octets are added.
use Rattle.std.proofs.Common.{◌≡◌, ℕ, ◌+◌, List, [], ◌∷◌, length, Result, Ok, Err, OnOk, refl, ap, arith}
use Rattle.std.specs.Option.{is_some}
use Rattle.krb_ccache.specs.Reading.{next_at, one_enctype, start_at}
use Rattle.krb_ccache.specs.declared.reading.Start.{Start}
use Rattle.krb_file.specs.FieldReaders.{Cursor, FailsBy, HasRead}
use Rattle.krb_file.specs.Fields.{version_at}
use Rattle.krb_file.specs.declared.fault.FileFault.{FileFault}
use Rattle.krb_keytab.specs.Reading.{record_at}
use Rattle.krb_run.specs.declared.run.RunFault.{RunFault}
use Rattle.krb_c.specs.FileSpans.{after_start, after_version, ccache_spans, is_record, keytab_spans, principal_place}
use Rattle.krb_c.specs.Spans.{nothing, up_to}
use Rattle.krb_c.specs.inner.Adding.{Adds}
use Rattle.krb_c.specs.inner.Items.{AddsFault}
use Rattle.krb_c.specs.declared.spans.Spans.{Spans}
use Rattle.krb_c.proofs.Framed.{adds-none}
use Rattle.krb_c.proofs.Items.{AreAdded, at_start, start-bounds, start-fails, start-read}

module _ (file : List ℕ) (cursor : Cursor) (is : cursor ≡ at_start file) where
  pub refused-keytab : (fault : FileFault) (MayFail : Type 0) → FailsBy fault (version_at (2 ∷ [])) MayFail cursor → (result : Result (Unit {0}) RunFault) (spans spans' : Spans) → OnOk result (AddsFault fault (length file) spans spans')
      → OnOk result (Adds (keytab_spans file) spans spans')
  unfolding keytab_spans
  refused-keytab fault MayFail fails (Ok done) spans spans' adds = start-fails (version_at (2 ∷ [])) file cursor is MayFail fault (after_version (length file)) (length file) spans spans' (λ refusal. refl) fails adds
  refused-keytab fault MayFail fails (Err failed) spans spans' adds = adds

  pub first-records : (new : Cursor) (version : ℕ) → HasRead (version_at (2 ∷ [])) version cursor new → (spans : Spans) → AreAdded record_at is_record 4 (length file) (keytab_spans file) 0 new spans spans
  unfolding keytab_spans
  first-records new version has spans = record {
    bound = length file + 1;
    counted = omega arith;
    first = nothing;
    adds = adds-none spans;
    bounds = start-bounds (version_at (2 ∷ [])) file cursor is version new has;
    parts = λ rest may. ap (after_version (length file)) (start-read (version_at (2 ∷ [])) file cursor is version new has rest may);
  }

  pub refused-ccache : (fault : FileFault) (MayFail : Type 0) → FailsBy fault (start_at (3 ∷ 4 ∷ [])) MayFail cursor → (result : Result (Unit {0}) RunFault) (spans spans' : Spans) → OnOk result (AddsFault fault (length file) spans spans')
      → OnOk result (Adds (ccache_spans file) spans spans')
  unfolding ccache_spans
  refused-ccache fault MayFail fails (Ok done) spans spans' adds = start-fails (start_at (3 ∷ 4 ∷ [])) file cursor is MayFail fault (after_start file (length file)) (length file) spans spans' (λ refusal. refl) fails adds
  refused-ccache fault MayFail fails (Err failed) spans spans' adds = adds

  pub first-credentials : (new : Cursor) (start : Start) → HasRead (start_at (3 ∷ 4 ∷ [])) start cursor new → (spans spans' : Spans) → Adds (up_to (principal_place start.version file) new.place) spans spans'
      → AreAdded (next_at one_enctype start.version) is_some 0 (length file) (ccache_spans file) 0 new spans spans'
  unfolding ccache_spans
  first-credentials new start has spans spans' adds = record {
    bound = length file + 1;
    counted = omega arith;
    first = up_to (principal_place start.version file) new.place;
    adds = adds;
    bounds = start-bounds (start_at (3 ∷ 4 ∷ [])) file cursor is start new has;
    parts = λ rest may. ap (after_start file (length file)) (start-read (start_at (3 ∷ 4 ∷ [])) file cursor is start new has rest may);
  }
