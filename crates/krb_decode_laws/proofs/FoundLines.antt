-- The lines of what is found in a capture, as it is decoded.
use Rattle.std.proofs.Common.{◌≡◌, ℕ, ◌+◌, Bool, true, false, cond, if◌then◌else◌, List, [], ◌∷◌, ◌++◌, map, Option, Some, None, codes, refl, sym, ◌∙◌, ap, subst, append_assoc}
use Rattle.std.specs.Option.{option_and_then}
use Rattle.std.specs.List.{AllByRecursion, Contains, filter}
use Rattle.std.proofs.lemmas.Grind.{flat_map-append}
use Rattle.std.proofs.lemmas.List.{map-append}
use Rattle.std.proofs.lemmas.List.Elements.{filter-append}
use Rattle.json.specs.Print.{print_from}
use Rattle.krb_der.specs.declared.profile.Profile.TheVariants as profiles
use Rattle.krb_laws.specs.JsonLaws.{IsFlowOrigin}
use Rattle.krb_msg.specs.Term.{Term, Fields, Integer, Text, Octets, Time, Bits, Sequence, SequenceOf, Tagged, Application, End, Required, Optional, Value, Values}
use Rattle.krb_msg.specs.Views.{IsInProfile, kind_name, kind_of, kind_term, message_of_der, message_value}
use Rattle.krb_msg.specs.declared.message.Message.{Message}
use Rattle.krb_judge.specs.FieldNames.{field_at, names_of_kind}
use Rattle.krb_judge.specs.Paths.{element_path, field_path}
use Rattle.krb_judge.specs.declared.locating.names.Names.{Names}
use Rattle.krb_json.specs.Laws.{TextsAreJson}
use Rattle.krb_json.specs.Lines.{message_text}
use Rattle.krb_json.specs.Unencrypted.{first_of, unencrypted, unencrypted_fields, unencrypted_in, unencrypted_items}
use Rattle.krb_json.proofs.Printable.{printable-kind, printable-name}
use Rattle.krb_record.specs.Captures.{captured, joined_line, last_fields, lost_record, origin_fields, unread_line, unread_record}
use Rattle.krb_record.specs.Forms.{ending, heading, labelled, opening_from, origin_text, record_line, record_text}
use Rattle.krb_record.specs.Labels.{no_label}
use Rattle.krb_record.specs.Laws.{CapturedRefusalIsOneLine, IsOneLine, JoinedIsOneLine, LostIsOneLine, OriginIsInRange}
use Rattle.krb_record.specs.Refusals.{extent_in, path_in, refusal_record}
use Rattle.krb_record.specs.Text.{IsPrintable, line_feed}
use Rattle.krb_record.specs.Values.{Printed, printed}
use Rattle.krb_record.specs.declared.capture_origin.CaptureOrigin.{CaptureOrigin}
use Rattle.krb_record.specs.declared.form.Base.TheVariants as bases
use Rattle.krb_record.specs.declared.form.Form.TheVariants.{NamedLines}
use Rattle.krb_record.proofs.Printable.{Prints, join, word}
use Rattle.krb_text_laws.proofs.Printable.{number}
use Rattle.krb_source.specs.declared.unread_why.UnreadWhy.{UnreadWhy}
use Rattle.krb_capture.specs.Captures.{Finding, lines_of}
use Rattle.krb_capture.specs.Decoded.{decoded_by, not_encrypted}
use Rattle.krb_capture.specs.Found.{Begun, Failed, Faulty, Found, Joined, Missing, Password, Sent, Unread, Whole, found_line}
use Rattle.krb_capture.specs.Labels.{Label, is_wanted, of_decoding}
use Rattle.krb_tool_laws.proofs.CaptureFindings.{AreFindings}
use Rattle.krb_tool_laws.proofs.FoundParts.{IsFound}
use Rattle.krb_tool_laws.proofs.Labelled.{before}
use Rattle.krb_decode_laws.specs.Captures.{IsTold, message_in, messages_in, sealed_in}
use Rattle.krb_decode_laws.specs.Messages.{is_sealed, is_sealed_by}
use Rattle.krb_decode.specs.Sorted.{is_of_message, told_lines}
use Rattle.krb_decode_laws.proofs.SortedTexts.{Sorted, a-message, a-told, both, it-is-told, none, told-left, told-right}

-- ---- paths are printable
abbrev OfPath : Option (List ℕ) → Type 0
OfPath None = Unit {0}
OfPath (Some path) = Prints path

first-path : (one other : Option (List ℕ)) → OfPath one → OfPath other → OfPath (first_of one other)
first-path None other a b = b
first-path (Some path) other a b = a

pub field-path : (path : List ℕ) (names : Names) (index : ℕ) → Prints path → Prints (field_path path (field_at names index).name)
field-path path names index p = join (join p (word (codes ".") refl)) (record { all = printable-name names index })

pub element-path : (path : List ℕ) (index : ℕ) → Prints path → Prints (element_path path index)
element-path path index p = join (join (join p (word (codes "[") refl)) (number index)) (word (codes "]") refl)

items-path : {A : Type 0} (in_item : (path : List ℕ) → A → Option (List ℕ)) → ((path : List ℕ) (value : A) → Prints path → OfPath (in_item path value)) → (path : List ℕ) (index : ℕ) (values : List A) → Prints path → OfPath (unencrypted_items in_item path index values)
items-path in_item one path index [] p = tt
items-path in_item one path index (value ∷ values) p =
    first-path (in_item (element_path path index) value) (unencrypted_items in_item path (index + 1) values) (one (element_path path index) value (element-path path index p)) (items-path in_item one path (index + 1) values p)

optional-path : {A : Type 0} (in_item : A → Option (List ℕ)) → ((value : A) → OfPath (in_item value)) → (value : Option A) → OfPath (option_and_then in_item value)
optional-path in_item one None = tt
optional-path in_item one (Some value) = one value

either-path : (test : Bool) (path : List ℕ) (other : Option (List ℕ)) → Prints path → OfPath other → OfPath (if test then Some path else other)
either-path true path other p q = p
either-path false path other p q = q

mutual
  term-path : (term : Term) (names : Names) (path : List ℕ) (value : Value term) → Prints path → OfPath (unencrypted term names path value)
  term-path (Integer low high) names path value p = tt
  term-path (Text greatest) names path value p = tt
  term-path Octets names path value p = tt
  term-path Time names path value p = tt
  term-path (Bits least) names path value p = tt
  term-path (Sequence fields) names path values p = either-path _ path (unencrypted_fields fields names path 0 values) p (fields-path fields names path 0 values p)
  term-path (SequenceOf empty term) names path values p = items-path (unencrypted term names) (λ path value q. term-path term names path value q) path 0 values p
  term-path (Tagged index term) names path value p = term-path term names path value p
  term-path (Application number term) names path value p = term-path term names path value p

  fields-path : (fields : Fields) (names : Names) (path : List ℕ) (index : ℕ) (values : Values fields) → Prints path → OfPath (unencrypted_fields fields names path index values)
  fields-path End names path index values p = tt
  fields-path (Required term fields) names path index values p =
      first-path _ (unencrypted_fields fields names path (index + 1) values.1) (term-path term (field_at names index).inside (field_path path (field_at names index).name) values.0 (field-path path names index p)) (fields-path fields names path (index + 1) values.1 p)
  fields-path (Optional term fields) names path index values p =
      first-path _ (unencrypted_fields fields names path (index + 1) values.1)
      (optional-path (unencrypted term (field_at names index).inside (field_path path (field_at names index).name)) (λ value. term-path term (field_at names index).inside (field_path path (field_at names index).name) value (field-path path names index p)) values.0)
      (fields-path fields names path (index + 1) values.1 p)

pub unencrypted-path : (m : Message) (path : List ℕ) → unencrypted_in m ≡ Some path → Prints path
unencrypted-path m path e = subst OfPath e (term-path (kind_term (kind_of m)) (names_of_kind (kind_of m)) (kind_name (kind_of m)) (message_value m) (record { all = printable-kind (kind_of m) }))

-- ---- lines
-- what the laws of lines say of the records of captures
pub record RecordLines : Type 0 where
  pub json : TextsAreJson
  pub refusal_line_is : CapturedRefusalIsOneLine
  pub joined_line_is : JoinedIsOneLine
  pub lost_line_is : LostIsOneLine
  pub unread_line_is : (origin : CaptureOrigin) (place : Option ℕ) (octets : ℕ) (reason : UnreadWhy) → OriginIsInRange origin → IsOneLine (unread_line NamedLines origin place octets reason)

-- a text that another begins with
pub front : (text rest : List ℕ) → IsPrintable (text ++ rest) → Prints text
front [] rest h = word [] refl
front (c ∷ text) rest h = record { all = (h.0, (front text rest h.1).all) }

-- what a line has before the rest of it
pub parted : (o a b c d e : List ℕ) → ((((o ++ a) ++ b) ++ c) ++ d) ++ e ≡ o ++ (a ++ (b ++ (c ++ (d ++ e))))
parted o a b c d e = simp append_assoc refl

origin_prints : (origin : CaptureOrigin) → IsOneLine (joined_line NamedLines origin) → Prints (heading NamedLines (origin_fields NamedLines origin) [])
unfolding record_text opening_from
origin_prints origin one =
    let its : Printed = captured NamedLines origin (printed (codes "joined") []) in
    let text : one.0 ≡ record_text NamedLines its = before line_feed one.0 (record_text NamedLines its) (sym one.2) in
    let begin : List ℕ = origin_text NamedLines (origin_fields NamedLines origin) in
    join (join (front begin _ (subst IsPrintable (text ∙ parted begin (codes " ") (codes "joined") [] [] (ending NamedLines None (last_fields origin))) one.1)) (word (codes " ") refl)) (word [] refl)

unencrypted-line : (origin : CaptureOrigin) (path : List ℕ) → Prints (heading NamedLines (origin_fields NamedLines origin) []) → Prints path → IsOneLine (not_encrypted NamedLines origin path)
unencrypted-line origin path a b = (
  heading NamedLines (origin_fields NamedLines origin) [] ++ path ++ codes ": not encrypted, and so not printed",
  (join (join a b) (word (codes ": not encrypted, and so not printed") refl)).all,
  sym (append_assoc (heading NamedLines (origin_fields NamedLines origin) [] ++ path) (codes ": not encrypted, and so not printed") line_feed),
)

-- no record begins with a brace
named-line : (origin : CaptureOrigin) (r : Printed) → is_of_message (record_line NamedLines (captured NamedLines origin r)) ≡ false
unfolding record_text opening_from labelled
named-line origin r = refl

named-origin : (origin : CaptureOrigin) (path : List ℕ) → is_of_message (not_encrypted NamedLines origin path) ≡ false
unfolding opening_from labelled
named-origin origin path = refl

-- and each message does
pub braced : (m : Message) → is_of_message (message_text m) ≡ true
unfolding print_from
braced m = refl

-- how a message is decoded
abbrev pub decoding_label : (packet : Option ℕ) → Label
decoding_label packet = of_decoding (no_label NamedLines) (record { packet = packet })

abbrev pub wanted : (packet : Option ℕ) → Finding → Bool
wanted packet one = is_wanted packet one.0.packet

-- the lines of the sealed messages in what is found with a packet, or with any
abbrev pub texts : (packet : Option ℕ) → List Finding → List (List ℕ)
texts packet found = map message_text (sealed_in (filter (wanted packet) found))

pub texts-both : (packet : Option ℕ) (a b : List Finding) → texts packet (a ++ b) ≡ texts packet a ++ texts packet b
texts-both packet a b =
    ap (λ found. map message_text (sealed_in found)) (filter-append (wanted packet) a b)
    ∙ ap (λ all. map message_text (filter is_sealed all)) (flat_map-append (λ (one : Finding). message_in one.1) (filter (wanted packet) a) (filter (wanted packet) b))
    ∙ ap (map message_text) (filter-append is_sealed (messages_in (filter (wanted packet) a)) (messages_in (filter (wanted packet) b)))
    ∙ map-append message_text (sealed_in (filter (wanted packet) a)) (sealed_in (filter (wanted packet) b))

abbrev texts_if : Bool → Finding → List (List ℕ)
texts_if test one = map message_text (sealed_in (cond test (one ∷ []) []))

no-texts : (test : Bool) (one : Finding) → message_in one.1 ≡ [] → texts_if test one ≡ []
no-texts true one e = ap (λ all. map message_text (filter is_sealed (all ++ []))) e
no-texts false one e = refl

module _ (p : RecordLines) where
  not_sealed : (origin : CaptureOrigin) (m : Message) (path : List ℕ) → IsFlowOrigin origin → unencrypted_in m ≡ Some path → IsOneLine (not_encrypted NamedLines origin path)
  not_sealed origin m path range e = unencrypted-line origin path (origin_prints origin (p.joined_line_is bases.NamedLines origin range.in_range)) (unencrypted-path m path e)

  -- ---- what is found
  module _ (packet : Option ℕ) where
    message-sorted : (origin : CaptureOrigin) (m : Message) (unencrypted : Option (List ℕ)) → IsFlowOrigin origin → IsInProfile profiles.Lenient m → unencrypted_in m ≡ unencrypted → Sorted (decoded_by unencrypted NamedLines origin m) (map message_text (cond (is_sealed_by unencrypted) (m ∷ []) []))
    message-sorted origin m None range is e = a-message (message_text m) (p.json profiles.Lenient m is).printable (braced m)
    message-sorted origin m (Some path) range is e = a-told (not_encrypted NamedLines origin path) (not_sealed origin m path range e) (named-origin origin path)

    whole-sorted : (test : Bool) (origin : CaptureOrigin) (octets : List ℕ) → IsFlowOrigin origin → IsFound (Whole octets) → Sorted (if test then decoded_by (unencrypted_in (message_of_der octets)) NamedLines origin (message_of_der octets) else []) (texts_if test (origin, Whole octets))
    whole-sorted true origin octets range is = message-sorted origin (message_of_der octets) (unencrypted_in (message_of_der octets)) range is refl
    whole-sorted false origin octets range is = none

    other-sorted : (test : Bool) (one : Finding) (line : List ℕ) → message_in one.1 ≡ [] → Sorted line [] → Sorted (if test then line else []) (texts_if test one)
    other-sorted test one line e s = subst (λ all. Sorted (if test then line else []) all) (sym (no-texts test one e)) (by test)
      where
        by : (test : Bool) → Sorted (if test then line else []) []
        by true = s
        by false = none

    nothing-sorted : (test : Bool) (one : Finding) → message_in one.1 ≡ [] → Sorted [] (texts_if test one)
    nothing-sorted test one e = subst (λ all. Sorted [] all) (sym (no-texts test one e)) none

    one-sorted : (origin : CaptureOrigin) (found : Found) → IsFlowOrigin origin → IsFound found → Sorted (found_line (decoding_label packet) origin found) (texts packet ((origin, found) ∷ []))
    one-sorted origin (Whole octets) range is = whole-sorted (is_wanted packet origin.packet) origin octets range is
    one-sorted origin (Faulty refusal path extent) range is =
        other-sorted (is_wanted packet origin.packet) (origin, Faulty refusal path extent) _ refl (a-told _ (p.refusal_line_is bases.NamedLines origin refusal path extent range.in_range is.1) (named-line origin (refusal_record refusal (path_in NamedLines path ++ extent_in NamedLines extent))))
    one-sorted origin Begun range is = nothing-sorted (is_wanted packet origin.packet) (origin, Begun) refl
    one-sorted origin Joined range is = other-sorted (is_wanted packet origin.packet) (origin, Joined) [] refl none
    one-sorted origin (Missing place octets path) range is =
        other-sorted (is_wanted packet origin.packet) (origin, Missing place octets path) _ refl (a-told _ (p.lost_line_is bases.NamedLines origin place octets path range.in_range is.2) (named-line origin (lost_record NamedLines place octets path)))
    one-sorted origin (Password octets version size rest) range is = other-sorted (is_wanted packet origin.packet) (origin, Password octets version size rest) [] refl none
    one-sorted origin (Unread place octets reason) range is =
        other-sorted (is_wanted packet origin.packet) (origin, Unread place octets reason) _ refl (a-told _ (p.unread_line_is origin place octets reason range.in_range) (named-line origin (unread_record place octets reason)))
    one-sorted origin (Sent header) range is = nothing-sorted (is_wanted packet origin.packet) (origin, Sent header) refl
    one-sorted origin (Failed error) range is = nothing-sorted (is_wanted packet origin.packet) (origin, Failed error) refl

    pub each-sorted : (found : List Finding) → AreFindings found → Sorted (lines_of (decoding_label packet) None found) (texts packet found)
    each-sorted [] each = none
    each-sorted (one ∷ others) each =
        subst (λ all. Sorted (lines_of (decoding_label packet) None (one ∷ others)) all) (sym (texts-both packet (one ∷ []) others)) (both (one-sorted one.0 one.1 each.0.0 each.0.1) (each-sorted others each.1))

  -- ---- what is told of it, of any packet
  one-told : (origin : CaptureOrigin) (found : Found) → IsFlowOrigin origin → IsFound found → IsTold (found_line (decoding_label None) origin found) (origin, found)
  one-told origin (Whole octets) range is =
      λ path e. subst (λ unencrypted. Contains (told_lines (decoded_by unencrypted NamedLines origin (message_of_der octets))) (not_encrypted NamedLines origin path)) (sym e)
      (it-is-told (not_encrypted NamedLines origin path) (not_sealed origin (message_of_der octets) path range e) (named-origin origin path))
  one-told origin (Faulty refusal path extent) range is = it-is-told _ (p.refusal_line_is bases.NamedLines origin refusal path extent range.in_range is.1) (named-line origin (refusal_record refusal (path_in NamedLines path ++ extent_in NamedLines extent)))
  one-told origin Begun range is = tt
  one-told origin Joined range is = tt
  one-told origin (Missing place octets path) range is = it-is-told _ (p.lost_line_is bases.NamedLines origin place octets path range.in_range is.2) (named-line origin (lost_record NamedLines place octets path))
  one-told origin (Password octets version size rest) range is = tt
  one-told origin (Unread place octets reason) range is = it-is-told _ (p.unread_line_is origin place octets reason range.in_range) (named-line origin (unread_record place octets reason))
  one-told origin (Sent header) range is = tt
  one-told origin (Failed error) range is = tt

  pub left-told : {a b : List ℕ} {m n : List (List ℕ)} → Sorted a m → Sorted b n → (origin : CaptureOrigin) (found : Found) → IsTold a (origin, found) → IsTold (a ++ b) (origin, found)
  left-told s t origin (Whole octets) is = λ path e. told-left s t _ (is path e)
  left-told s t origin (Faulty refusal path extent) is = told-left s t _ is
  left-told s t origin (Missing place octets path) is = told-left s t _ is
  left-told s t origin (Unread place octets reason) is = told-left s t _ is
  left-told s t origin Begun is = tt
  left-told s t origin Joined is = tt
  left-told s t origin (Password octets version size rest) is = tt
  left-told s t origin (Sent header) is = tt
  left-told s t origin (Failed error) is = tt

  right-told : {a b : List ℕ} {m n : List (List ℕ)} → Sorted a m → Sorted b n → (origin : CaptureOrigin) (found : Found) → IsTold b (origin, found) → IsTold (a ++ b) (origin, found)
  right-told s t origin (Whole octets) is = λ path e. told-right s t _ (is path e)
  right-told s t origin (Faulty refusal path extent) is = told-right s t _ is
  right-told s t origin (Missing place octets path) is = told-right s t _ is
  right-told s t origin (Unread place octets reason) is = told-right s t _ is
  right-told s t origin Begun is = tt
  right-told s t origin Joined is = tt
  right-told s t origin (Password octets version size rest) is = tt
  right-told s t origin (Sent header) is = tt
  right-told s t origin (Failed error) is = tt

  all-right : {a b : List ℕ} {m n : List (List ℕ)} → Sorted a m → Sorted b n → (found : List Finding) → AllByRecursion (IsTold b) found → AllByRecursion (IsTold (a ++ b)) found
  all-right s t [] each = tt
  all-right s t (one ∷ others) each = (right-told s t one.0 one.1 each.0, all-right s t others each.1)

  pub all-left : {a b : List ℕ} {m n : List (List ℕ)} → Sorted a m → Sorted b n → (found : List Finding) → AllByRecursion (IsTold a) found → AllByRecursion (IsTold (a ++ b)) found
  all-left s t [] each = tt
  all-left s t (one ∷ others) each = (left-told s t one.0 one.1 each.0, all-left s t others each.1)

  pub each-told : (found : List Finding) → AreFindings found → AllByRecursion (IsTold (lines_of (decoding_label None) None found)) found
  each-told [] each = tt
  each-told (one ∷ others) each =
      let first : Sorted (found_line (decoding_label None) one.0 one.1) (texts None (one ∷ [])) = one-sorted None one.0 one.1 each.0.0 each.0.1 in
      let rest : Sorted (lines_of (decoding_label None) None others) (texts None others) = each-sorted None others each.1 in
      (left-told first rest one.0 one.1 (one-told one.0 one.1 each.0.0 each.0.1), all-right first rest others (each-told others each.1))
