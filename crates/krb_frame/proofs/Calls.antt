-- Frames that are fed and cleared.
use Rattle.std.proofs.Common.{ℕ, List, [], ◌∷◌, ◌++◌, sym, subst, append_assoc, append-nil}
use Rattle.std.specs.List.{flat_map}
use Rattle.krb_msg.specs.Term.{Term}
use Rattle.krb_frame.specs.Calls.{Call, Feed, Next, used, delivered, IsCall, AreCalls, CallsDeliverFrames}
use Rattle.krb_frame.specs.Decoding.{Decoding}
use Rattle.krb_frame.specs.Decoded.{HasDecoded}
use Rattle.krb_frame.proofs.Ends.{found_of}

module _ (messages : List Term) where
  -- nothing is used, or delivered
  same_stream : (d : Decoding) (stream : List ℕ) (cleared : List (List ℕ)) → HasDecoded messages d stream cleared → HasDecoded messages d (stream ++ []) cleared
  same_stream d stream cleared s = subst (λ l. HasDecoded messages d l cleared) (sym (append-nil stream)) s

  same_cleared : (d : Decoding) (stream : List ℕ) (cleared : List (List ℕ)) → HasDecoded messages d stream cleared → HasDecoded messages d stream (cleared ++ [])
  same_cleared d stream cleared s = subst (HasDecoded messages d stream) (sym (append-nil cleared)) s

  HasDecoded-call : (old new : Decoding) (call : Call) (stream : List ℕ) (cleared : List (List ℕ)) → IsCall messages old call new → HasDecoded messages old stream cleared → HasDecoded messages new (stream ++ used call) (cleared ++ delivered call)
  HasDecoded-call old new (Feed piece fed) stream cleared c s = same_cleared new (stream ++ used (Feed piece fed)) cleared (c.decoded stream cleared s)
  HasDecoded-call old new (Next contents) stream cleared c s = same_stream new stream (cleared ++ contents ∷ []) (c.1.decoded stream contents cleared s c.0)

  HasDecoded-calls : (old new : Decoding) (calls : List Call) (stream : List ℕ) (cleared : List (List ℕ)) → AreCalls messages old calls new → HasDecoded messages old stream cleared → HasDecoded messages new (stream ++ flat_map used calls) (cleared ++ flat_map delivered calls)
  HasDecoded-calls old new [] stream cleared e s = subst (λ d. HasDecoded messages d (stream ++ []) (cleared ++ [])) (sym e) (same_cleared old (stream ++ []) cleared (same_stream old stream cleared s))
  HasDecoded-calls old new (call ∷ calls) stream cleared (between, first, others) s =
      let after = HasDecoded-calls between new calls (stream ++ used call) (cleared ++ delivered call) others (HasDecoded-call old between call stream cleared first s) in
      subst (λ l. HasDecoded messages new (stream ++ flat_map used (call ∷ calls)) l) (append_assoc cleared (delivered call) (flat_map delivered calls))
      (subst (λ l. HasDecoded messages new l ((cleared ++ delivered call) ++ flat_map delivered calls)) (append_assoc stream (used call) (flat_map used calls)) after)

pub calls_deliver_frames : CallsDeliverFrames
calls_deliver_frames messages old new calls stream cleared a s =
    let after = HasDecoded-calls messages old new calls stream cleared a s in
    record { decoded = after; frames_are = found_of messages new (stream ++ flat_map used calls) (cleared ++ flat_map delivered calls) after }
