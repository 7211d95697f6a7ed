-- What is found in a stream is none of octets that no message has.
use Rattle.std.proofs.Common.{◌≡◌, ℕ, zero, suc, ◌+◌, Bool, true, false, List, [], ◌∷◌, ◌++◌, length, take, drop, Option, Some, None, refl, ap, ap₂, ◌∙◌}
use Rattle.std.specs.Prelude.{cond, if◌then◌else◌, nat_lt, Result, Ok, Err}
use Rattle.std.specs.List.{AllByRecursion}
use Rattle.std.proofs.lemmas.List.Elements.{filter-append}
use Rattle.krb_der.specs.Octets.{number}
use Rattle.krb_der.specs.declared.profile.Profile.{Profile}
use Rattle.krb_der.specs.declared.verdict.Refusal.{Refusal}
use Rattle.krb_der.specs.declared.why.Why.{Why}
use Rattle.krb_der.specs.declared.why.Why.TheVariants as why
use Rattle.krb_msg.specs.Grammar.{messages}
use Rattle.krb_judge.specs.Parses.{refusal_of}
use Rattle.krb_frame.specs.Frame.{length_fault}
use Rattle.krb_frame.specs.GoingOn.{Entry, Contents, Fault, entries}
use Rattle.krb_flow.specs.declared.direction.Beginning.{Beginning}
use Rattle.krb_flow.specs.declared.direction.Beginning.TheVariants as beginnings
use Rattle.krb_flow.specs.declared.stream.End.{End}
use Rattle.krb_flow.specs.declared.stream.End.TheVariants as ends
use Rattle.krb_flow.specs.declared.unread.Unread.{Unread as Octets}
use Rattle.krb_flow.specs.declared.unread.Untaken.{Untaken}
use Rattle.krb_record.specs.declared.extent.Extent.{Extent}
use Rattle.krb_capture.specs.Found.{Found}
use Rattle.krb_capture.specs.Laws.{but_unread, is_read}
use Rattle.krb_capture.specs.Messages.{found_unless, message_found}
use Rattle.krb_capture.specs.Passwords.{header, part_found, parts_found, password_found}
use Rattle.krb_capture.specs.Sending.{beginning_found, end_if, unread_found, untaken_found}
use Rattle.krb_capture.specs.Streams.{Framed, after_entry, cut_refusal, end_found, entries_found, found_with, framed, known_end, messages_framed, not_cut, password_frame_by, password_frames, passwords_framed, refusal_found}
use Rattle.krb_capture.specs.declared.flow.Service.{Service}
use Rattle.krb_capture.specs.declared.flow.Service.TheVariants as services
use Rattle.krb_capture.specs.declared.password.Fault.{Fault as HeaderFault}
use Rattle.krb_capture.specs.declared.password.Header.{Header}

-- each is what was read
abbrev pub AreRead : List Found → Type 0
AreRead found = AllByRecursion (λ (one : Found). is_read one ≡ true) found

pub read_same : (found : List Found) → AreRead found → but_unread found ≡ found
read_same [] read = refl
read_same (x ∷ xs) read = ap (λ b. cond b (x ∷ but_unread xs) (but_unread xs)) read.0 ∙ ap (λ (l : List Found). x ∷ l) (read_same xs read.1)

pub unread_parts : (xs ys : List Found) → but_unread (xs ++ ys) ≡ but_unread xs ++ but_unread ys
unread_parts xs ys = filter-append is_read xs ys

both_read : (xs ys : List Found) → AreRead xs → AreRead ys → AreRead (xs ++ ys)
both_read [] ys x y = y
both_read (one ∷ xs) ys x y = (x.0, both_read xs ys x.1 y)

dropped_read : (count : ℕ) (xs : List Found) → AreRead xs → AreRead (drop count xs)
dropped_read zero xs read = read
dropped_read (suc count) [] read = tt
dropped_read (suc count) (x ∷ xs) read = dropped_read count xs read.1

-- ---- messages
message_by : (profile : Profile) (refusal : Option Refusal) (extent : Extent) (before : ℕ) (octets : List ℕ) → is_read (found_unless profile refusal extent before octets) ≡ true
message_by profile None extent before octets = refl
message_by profile (Some refusal) extent before octets = refl

message_read : (profile : Profile) (extent : Extent) (before : ℕ) (octets : List ℕ) → is_read (message_found profile extent before octets) ≡ true
unfolding message_found
message_read profile extent before octets = message_by profile (refusal_of profile octets) extent before octets

part_read : (profile : Profile) (extent : Extent) (before : ℕ) (octets : List ℕ) → AreRead (part_found profile extent before octets)
part_read profile extent before [] = tt
part_read profile extent before (octet ∷ octets) = (message_read profile extent before (octet ∷ octets), tt)

parts_read : (profile : Profile) (extent : Extent) (before : ℕ) (octets : List ℕ) (found : Result Header HeaderFault) → AreRead (parts_found profile extent before octets found)
parts_read profile extent before octets (Err fault) = (refl, tt)
parts_read profile extent before octets (Ok header) =
    (refl, both_read (part_found profile extent (before + 6) (take header.ap (drop 6 octets))) (part_found profile extent (before + (6 + header.ap)) (drop (6 + header.ap) octets)) (part_read profile extent (before + 6) (take header.ap (drop 6 octets))) (part_read profile extent (before + (6 + header.ap)) (drop (6 + header.ap) octets)))

password_read : (profile : Profile) (extent : Extent) (before : ℕ) (octets : List ℕ) → AreRead (password_found profile extent before octets)
unfolding password_found
password_read profile extent before octets = parts_read profile extent before octets (header octets)

-- ---- frames
entry_read : (profile : Profile) (offset : ℕ) (xs : List Entry) → AreRead (entries_found profile offset xs)
entry_read profile offset [] = tt
entry_read profile offset (Contents contents ∷ xs) = (refl, entry_read profile (after_entry offset (Contents contents)) xs)
entry_read profile offset (Fault place reason prefix ∷ xs) = (refl, entry_read profile (after_entry offset (Fault place reason prefix)) xs)

if_read : (b : Bool) (one other : Framed) → AreRead one.found → AreRead other.found → AreRead (if b then one else other).found
if_read true one other x y = x
if_read false one other x y = y

frame_read : (profile : Profile) (fault : Option Why) (offset n : ℕ) (octets : List ℕ) (others : Framed) → AreRead others.found → AreRead (password_frame_by profile fault offset n octets others).found
frame_read profile (Some why.HighBit) offset n octets others read = (refl, tt)
frame_read profile (Some reason) offset n octets others read = (refl, read)
frame_read profile None offset n octets others read =
    if_read (nat_lt (length octets) (4 + n)) _ _ tt (both_read (password_found profile _ 4 (take n (drop 4 octets))) others.found (password_read profile _ 4 (take n (drop 4 octets))) read)

frames_read : (profile : Profile) (bound limit offset : ℕ) (octets : List ℕ) → AreRead (password_frames profile bound limit offset octets).found
frames_read profile zero limit offset octets = tt
frames_read profile (suc bound) limit offset octets =
    if_read (nat_lt (length octets) 4) _ _ tt
    (frame_read profile (length_fault limit (number (take 4 octets))) offset (number (take 4 octets)) octets _ (frames_read profile bound limit _ (drop (4 + number (take 4 octets)) octets)))

framed_read : (service : Service) (limit : ℕ) (stream : List ℕ) → AreRead (framed service limit stream).found
unfolding messages_framed passwords_framed
framed_read (services.Kerberos profile) limit stream = entry_read profile 0 (not_cut (entries (messages profile) limit stream))
framed_read (services.Passwords profile) limit stream = frames_read profile (length stream) limit 0 stream

-- ---- all of a stream
pub with_read : (service : Service) (limit : ℕ) (stream more : List ℕ) → AreRead (found_with service limit stream more)
unfolding found_with
with_read service limit stream more = dropped_read (length (framed service limit stream).found) (framed service limit (stream ++ more)).found (framed_read service limit (stream ++ more))

refusal_read : (service : Service) (offset : ℕ) (octets : List ℕ) (refusal : Option Refusal) → AreRead (refusal_found service offset octets refusal)
refusal_read service offset octets None = tt
refusal_read service offset octets (Some refusal) = (refl, tt)

known_read : (service : Service) (end : End) (offset : ℕ) (octets : List ℕ) → AreRead (known_end service end offset octets)
known_read service (ends.Lost lost) offset octets = (refl, tt)
known_read service ends.Complete offset octets = refusal_read service offset octets (cut_refusal octets)

either_read : (b : Bool) (xs : List Found) → AreRead xs → AreRead (if b then [] else xs)
either_read true xs read = tt
either_read false xs read = read

pub end_read : (service : Service) (limit : ℕ) (stream : List ℕ) (end : Option End) → AreRead (end_if service limit stream end)
unfolding end_found
end_read service limit stream None = tt
end_read service limit stream (Some end) =
    either_read (framed service limit stream).over (known_end service end (framed service limit stream).offset (framed service limit stream).partial) (known_read service end (framed service limit stream).offset (framed service limit stream).partial)

pub beginning_read : (how : Option Beginning) → AreRead (beginning_found how)
beginning_read None = tt
beginning_read (Some beginnings.Syn) = (refl, tt)
beginning_read (Some beginnings.Joined) = (refl, (refl, tt))

-- and of octets that no message has nothing is left
none_left : (unread : Option Octets) → but_unread (unread_found unread) ≡ []
none_left None = refl
none_left (Some octets) = refl

pub none_left_of : (untaken : Untaken) → but_unread (untaken_found untaken) ≡ []
none_left_of untaken =
    unread_parts (unread_found untaken.apart) (unread_found untaken.old ++ unread_found untaken.differs)
    ∙ ap₂ (λ (x y : List Found). x ++ y) (none_left untaken.apart) (unread_parts (unread_found untaken.old) (unread_found untaken.differs) ∙ ap₂ (λ (x y : List Found). x ++ y) (none_left untaken.old) (none_left untaken.differs))
