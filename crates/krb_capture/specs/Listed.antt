-- What is listed of a frame of messages.
use Rattle.std.specs.Prelude.{◌≡◌, ℕ, Bool, List}
use Rattle.krb_der.specs.declared.profile.Profile.{Profile}
use Rattle.krb_frame.specs.Deliveries.{IsReceived}
use Rattle.krb_frame.specs.GoingOn.{Entry}
use Rattle.krb_record.specs.declared.capture_origin.CaptureOrigin.{CaptureOrigin}
use Rattle.krb_capture.specs.Found.{Written, with_found}
use Rattle.krb_capture.specs.Streams.{after_entry, entry_found}
use Rattle.krb_capture.specs.declared.message_frames.FrameLister.{FrameLister}

-- A message was listed, if octets are one of a profile, and else nothing: the place of a frame does not matter for it.
abbrev pub IsListed : Profile → List ℕ → CaptureOrigin → Written → Written → Bool → Type 0
IsListed profile octets origin = IsReceived (λ old entry new. new ≡ with_found origin (entry_found profile 0 entry) old) profile octets

-- the next frame was listed
pub record ListsEntry (old : FrameLister) (entry : Entry) (new : FrameLister) : Type 0 where
  pub same : new.listing.ghost_name ≡ old.listing.ghost_name
  pub origin : new.origin ≡ old.origin
  pub profile : new.profile ≡ old.profile
  pub offset : new.offset ≡ after_entry old.offset entry
  pub listed : new.listing.now ≡ with_found old.origin.now (entry_found old.profile old.offset entry) old.listing.now
