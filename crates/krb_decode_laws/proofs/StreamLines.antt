-- The lines of what is decoded of a stream that goes on.
use Rattle.std.proofs.Common.{◌≡◌, ℕ, zero, suc, ◌+◌, Bool, true, false, cond, List, [], ◌∷◌, ◌++◌, length, map, Option, Some, None, codes, refl, sym, ◌∙◌, ap, subst, arith, append_assoc, append-nil}
use Rattle.std.specs.List.{AllByRecursion, Contains, filter, flat_map}
use Rattle.std.proofs.lemmas.List.Folds.{flat_map-map}
use Rattle.krb_der.specs.declared.profile.Profile.{Profile}
use Rattle.krb_der.specs.declared.why.Why.{Why}
use Rattle.krb_frame.specs.GoingOn.{entries, entry_size}
use Rattle.krb_frame.specs.Laws.{RefusalsAreInside}
use Rattle.krb_json.specs.Laws.{TextsAreJson}
use Rattle.krb_json.specs.Lines.{line_of, message_text}
use Rattle.krb_json.specs.Unencrypted.{unencrypted_in}
use Rattle.krb_msg.specs.Judgement.{verdict_of}
use Rattle.krb_msg.specs.Laws.{AreMessage, DerIsPrefixFree}
use Rattle.krb_msg.specs.Stream.{Refused}
use Rattle.krb_msg.specs.Views.{IsInProfile, message_der}
use Rattle.krb_msg.specs.declared.message.Message.{Message}
use Rattle.krb_msg.proofs.Judged.{whole_is_message}
use Rattle.krb_record.specs.Forms.{opening, record_text}
use Rattle.krb_record.specs.Laws.{CountedStreamEndIsOneLine, IsOneLine}
use Rattle.krb_record.specs.Text.{line_feed}
use Rattle.krb_record.specs.declared.extent.Extent.{Extent}
use Rattle.krb_record.specs.declared.form.Base.TheVariants as bases
use Rattle.krb_record.proofs.Printable.{Prints, join, word}
use Rattle.krb_text.specs.Laws.{StreamEndIsOneLine}
use Rattle.krb_text_laws.proofs.Printable.{number}
use Rattle.krb_tool.specs.GoingOn.{Faulty, Listed, Whole, counted_end_line, entry_of, messages_in, refused_in, refused_line}
use Rattle.krb_tool.specs.Paths.{frame_extent, frame_path}
use Rattle.krb_tool_laws.specs.Listings.{AreRead}
use Rattle.krb_tool_laws.proofs.ListedStreams.{IsGood, IsGoodEntry, good_entries}
use Rattle.krb_tool_laws.proofs.PathOctets.{frame_octets}
use Rattle.krb_decode.specs.Decoded.{not_encrypted}
use Rattle.krb_decode.specs.Sorted.{is_of_message, message_lines, told_lines}
use Rattle.krb_decode.specs.Streams.{IsDecoded, end_part, message_opening, named, part_by, part_of, parts_after}
use Rattle.krb_decode_laws.specs.Messages.{is_sealed, is_sealed_by}
use Rattle.krb_decode_laws.specs.Streams.{DecodedIsTheListing, OthersAreTold, whole_in}
use Rattle.krb_decode_laws.proofs.FoundLines.{braced, unencrypted-path}
use Rattle.krb_decode_laws.proofs.SortedTexts.{Sorted, a-message, a-told, both, it-is-told, none, sorted-messages, told-left, told-right, with_feed}

pub record Premises : Type 0 where
  pub prefix_free : DerIsPrefixFree
  pub inside : RefusalsAreInside
  pub end_line_is : StreamEndIsOneLine
  pub counted_line_is : CountedStreamEndIsOneLine
  pub json : TextsAreJson

-- ---- lines that are told
unencrypted-line : (number_is : ℕ) (path : List ℕ) → Prints path → IsOneLine (not_encrypted (message_opening number_is) path)
unencrypted-line number_is path p = (
  message_opening number_is ++ path ++ codes ": not encrypted, and so not printed",
  (join (join (join (join (word (codes "message ") refl) (number number_is)) (word (codes ": ") refl)) p) (word (codes ": not encrypted, and so not printed") refl)).all,
  sym (append_assoc (message_opening number_is ++ path) (codes ": not encrypted, and so not printed") line_feed),
)

refused-first : (before place : ℕ) (reason : Why) (path : Option (List ℕ)) (extent : Extent) → is_of_message (refused_line named before place reason path extent) ≡ false
unfolding record_text opening
refused-first before place reason path extent = refl

end-first : (count refused : ℕ) → is_of_message (counted_end_line named count refused) ≡ false
unfolding record_text opening
end-first count refused = refl

module _ (p : Premises) (profile : Profile) (limit : ℕ) where
  -- a message of a frame is one of the profile
  pub in-profile : (m : Message) → IsGood profile limit (message_der m) → IsInProfile profile m
  in-profile m good =
      let found : AreMessage profile (length (message_der m)) (message_der m) = whole_is_message profile (length (message_der m)) (message_der m) good.1.short good.0 (omega arith) (ap verdict_of good.1.whole) in
      subst (IsInProfile profile) (p.prefix_free found.message m [] [] (ap (λ d. d ++ []) found.form)).0 found.in_profile

  abbrev pub AreGood : List Listed → Type 0
  AreGood found = AllByRecursion (IsGoodEntry p.inside profile limit) (map entry_of found)

  abbrev pub texts : List Listed → List (List ℕ)
  texts found = map message_text (filter is_sealed (whole_in found))

  part-sorted : (count : ℕ) (m : Message) (unencrypted : Option (List ℕ)) → IsGood profile limit (message_der m) → unencrypted_in m ≡ unencrypted → Sorted (part_by unencrypted count m) (map message_text (cond (is_sealed_by unencrypted) (m ∷ []) []))
  part-sorted count m None good e = a-message (message_text m) (p.json profile m (in-profile m good)).printable (braced m)
  part-sorted count m (Some path) good e = a-told (not_encrypted (message_opening count) path) (unencrypted-line count path (unencrypted-path m path e)) refl

  one-more : (sealed : Bool) (m : Message) (others : List Message) → map message_text (cond sealed (m ∷ []) []) ++ map message_text others ≡ map message_text (cond sealed (m ∷ others) others)
  one-more true m others = refl
  one-more false m others = refl

  refused-sorted : (before offset place : ℕ) (reason : Why) (prefix : List ℕ) → Sorted (refused_line named before place reason (frame_path profile prefix) (frame_extent offset prefix)) []
  refused-sorted before offset place reason prefix =
      a-told (refused_line named before place reason (frame_path profile prefix) (frame_extent offset prefix)) (p.end_line_is bases.NamedLines before (Refused place reason) (frame_path profile prefix) (frame_extent offset prefix) (frame_octets profile prefix))
      (refused-first before place reason (frame_path profile prefix) (frame_extent offset prefix))

  parts-sorted : (before offset : ℕ) (found : List Listed) → AreGood found → Sorted (parts_after profile before offset found) (texts found)
  parts-sorted before offset [] good = none
  parts-sorted before offset (Whole m ∷ others) good =
      subst (Sorted (part_of (before + 1) m ++ parts_after profile (before + 1) (offset + entry_size (entry_of (Whole m))) others)) (one-more (is_sealed m) m (filter is_sealed (whole_in others)))
      (both (part-sorted (before + 1) m (unencrypted_in m) good.0 refl) (parts-sorted (before + 1) (offset + entry_size (entry_of (Whole m))) others good.1))
  parts-sorted before offset (Faulty place reason prefix ∷ others) good =
      both (refused-sorted before offset place reason prefix) (parts-sorted before (offset + entry_size (entry_of (Faulty place reason prefix))) others good.1)

  end-sorted : (count refused : ℕ) → Sorted (end_part count refused) []
  end-sorted count zero = none
  end-sorted count (suc refused) = a-told (counted_end_line named count (suc refused)) (p.counted_line_is bases.NamedLines count (suc refused)) (end-first count (suc refused))

  -- ---- what is told of frames
  told-after : {a b : List ℕ} {m n : List (List ℕ)} → Sorted a m → Sorted b n → (before offset : ℕ) (found : List Listed) → OthersAreTold profile b before offset found → OthersAreTold profile (a ++ b) before offset found
  told-after s t before offset [] told = tt
  told-after s t before offset (Whole m ∷ others) told = (λ path e. told-right s t _ (told.0 path e), told-after s t (before + 1) (offset + entry_size (entry_of (Whole m))) others told.1)
  told-after s t before offset (Faulty place reason prefix ∷ others) told = (told-right s t _ told.0, told-after s t before (offset + entry_size (entry_of (Faulty place reason prefix))) others told.1)

  told-before : {a b : List ℕ} {m n : List (List ℕ)} → Sorted a m → Sorted b n → (before offset : ℕ) (found : List Listed) → OthersAreTold profile a before offset found → OthersAreTold profile (a ++ b) before offset found
  told-before s t before offset [] told = tt
  told-before s t before offset (Whole m ∷ others) told = (λ path e. told-left s t _ (told.0 path e), told-before s t (before + 1) (offset + entry_size (entry_of (Whole m))) others told.1)
  told-before s t before offset (Faulty place reason prefix ∷ others) told = (told-left s t _ told.0, told-before s t before (offset + entry_size (entry_of (Faulty place reason prefix))) others told.1)

  each-told : (before offset : ℕ) (found : List Listed) → AreGood found → OthersAreTold profile (parts_after profile before offset found) before offset found
  each-told before offset [] good = tt
  each-told before offset (Whole m ∷ others) good =
      let after : ℕ = offset + entry_size (entry_of (Whole m)) in
      let first = part-sorted (before + 1) m (unencrypted_in m) good.0 refl in
      let rest : Sorted (parts_after profile (before + 1) after others) (texts others) = parts-sorted (before + 1) after others good.1 in (
        λ path e.
            told-left first rest (not_encrypted (message_opening (before + 1)) path)
            (subst (λ unencrypted. Contains (told_lines (part_by unencrypted (before + 1) m)) (not_encrypted (message_opening (before + 1)) path)) (sym e)
            (it-is-told (not_encrypted (message_opening (before + 1)) path) (unencrypted-line (before + 1) path (unencrypted-path m path e)) refl)),
        told-after first rest (before + 1) after others (each-told (before + 1) after others good.1),
      )
  each-told before offset (Faulty place reason prefix ∷ others) good =
      let after : ℕ = offset + entry_size (entry_of (Faulty place reason prefix)) in
      let first : Sorted (refused_line named before place reason (frame_path profile prefix) (frame_extent offset prefix)) [] = refused-sorted before offset place reason prefix in
      let rest : Sorted (parts_after profile before after others) (texts others) = parts-sorted before after others good.1 in (
        told-left first rest (refused_line named before place reason (frame_path profile prefix) (frame_extent offset prefix))
            (it-is-told (refused_line named before place reason (frame_path profile prefix) (frame_extent offset prefix)) (p.end_line_is bases.NamedLines before (Refused place reason) (frame_path profile prefix) (frame_extent offset prefix) (frame_octets profile prefix))
            (refused-first before place reason (frame_path profile prefix) (frame_extent offset prefix))),
        told-after first rest before after others (each-told before after others good.1),
      )

  -- ---- a stream
  module _ (stream text : List ℕ) (are : AreRead stream) (decoding : IsDecoded profile limit stream text) where
    pub good : AreGood decoding.found
    unfolding entries
    good = subst (AllByRecursion (IsGoodEntry p.inside profile limit)) (sym decoding.in_frames) (good_entries p.inside profile limit (length stream) stream are.0 are.1)

    its-parts : Sorted (parts_after profile 0 0 decoding.found) (texts decoding.found)
    its-parts = parts-sorted 0 0 decoding.found good

    its-end : Sorted (end_part (messages_in decoding.found) (refused_in decoding.found)) []
    its-end = end-sorted (messages_in decoding.found) (refused_in decoding.found)

    pub its-lines : Sorted text (texts decoding.found)
    its-lines = subst (λ t. Sorted t (texts decoding.found)) (sym decoding.lines) (subst (Sorted (parts_after profile 0 0 decoding.found ++ end_part (messages_in decoding.found) (refused_in decoding.found))) (append-nil (texts decoding.found)) (both its-parts its-end))

    pub its-messages : message_lines text ≡ flat_map line_of (filter is_sealed (whole_in decoding.found))
    its-messages = sorted-messages text (texts decoding.found) its-lines ∙ flat_map-map with_feed message_text (filter is_sealed (whole_in decoding.found))

    pub its-others : OthersAreTold profile text 0 0 decoding.found
    its-others = subst (λ t. OthersAreTold profile t 0 0 decoding.found) (sym decoding.lines) (told-before its-parts its-end 0 0 decoding.found (each-told 0 0 decoding.found good))

pub decoded_is_the_listing : Premises → DecodedIsTheListing
decoded_is_the_listing p profile limit stream text are decoding = record { messages = its-messages p profile limit stream text are decoding; others = its-others p profile limit stream text are decoding }
