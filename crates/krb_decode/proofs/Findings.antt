-- What is decoded of a Ticket and of a message, by a view of it, and of items.
use Rattle.std.proofs.Common.{◌≡◌, ℕ, ◌+◌, ◌-◌, ◌<◌, ◌≤◌, Bool, false, if◌then◌else◌, List, [], ◌∷◌, ◌++◌, length, take, map, codes, decimal, Option, None, Some, Result, OnOk, refl, sym, ◌∙◌, ap, ap₂, subst, arith, append-nil, append_assoc, length-append}
use Rattle.std.proofs.Math.Seq.{take-append_seam}
use Rattle.std.proofs.lemmas.Bool.{lt-ltb, le-ltb}
use Rattle.std.specs.List.{AllByRecursion, flat_map}
use Rattle.krb_der.specs.declared.profile.Profile.{Profile}
use Rattle.krb_der.specs.declared.verdict.Refusal.{Refusal}
use Rattle.krb_msg.specs.Grammar.{ticket, sequence_of}
use Rattle.krb_msg.specs.Term.{Value, Fits, der, tag_of}
use Rattle.krb_msg.specs.inner.Values.{contents, der_is}
use Rattle.krb_msg.specs.Types.{ticket_of, ticket_value}
use Rattle.krb_msg.specs.Viewed.{AreViewed, items_of}
use Rattle.krb_msg.specs.Views.{message_of_der}
use Rattle.krb_msg.specs.declared.message.Message.{Message}
use Rattle.krb_msg.specs.ViewValues.{message_of_view}
use Rattle.krb_msg.specs.declared.krb_cred.KrbCredView.{KrbCredView}
use Rattle.krb_msg.specs.declared.message_view.MessageView.{MessageView}
use Rattle.krb_msg.specs.declared.message_view.MessageView.TheVariants as view
use Rattle.krb_msg.specs.declared.ticket.Ticket.{Ticket}
use Rattle.krb_msg.proofs.FieldViews.{same_contents}
use Rattle.krb_msg.proofs.ProfileValues.{der_profile, lenient_back, lenient_fits}
use Rattle.krb_judge.specs.Parses.{AreOfTicket, refusal_of, ticket_value_in}
use Rattle.krb_judge.specs.Paths.{element_path}
use Rattle.krb_source.specs.declared.layer.Layer.{Layer}
use Rattle.krb_token.specs.Opened.{Opened}
use Rattle.krb_token.specs.Seen.{found_of, opened_of}
use Rattle.krb_token.specs.Tokens.{opened}
use Rattle.krb_token.specs.declared.opening.Found.{Found as FoundOfCode}
use Rattle.krb_token.specs.declared.opening.Opened.{Opened as OpenedOfCode}
use Rattle.krb_decode.specs.Decoded.{Added, both, decoded_found, decoded_message, decoded_octets, decoded_part, decoded_ticket, decoded_tickets, decoded_under, judged, nothing, origin_text}
use Rattle.krb_decode.specs.inner.Adding.{Adds}
use Rattle.krb_decode.specs.declared.parts.Parts.{Parts}

-- ---- what is added
pub adds-nothing : (old : Parts) → Adds nothing old old
adds-nothing old = record { lines = sym (append-nil old.lines.items); said = sym (append-nil old.said) }

pub adds-both : (one other : Added) (old between new : Parts) → Adds one old between → Adds other between new → Adds (both one other) old new
adds-both one other old between new a b = record {
  lines = b.lines ∙ ap (λ l. l ++ other.lines) a.lines ∙ append_assoc old.lines.items one.lines other.lines;
  said = b.said ∙ ap (λ l. l ++ other.said) a.said ∙ append_assoc old.said one.said other.said;
}

pub both-nothing : (one : Added) → both one nothing ≡ one
both-nothing one = ap₂ (λ l s. record { lines = l; said = s }) (append-nil one.lines) (append-nil one.said)

pub both-assoc : (a b c : Added) → both (both a b) c ≡ both a (both b c)
both-assoc a b c = ap₂ (λ l s. record { lines = l; said = s }) (append_assoc a.lines b.lines c.lines) (append_assoc a.said b.said c.said)

-- what is not refused
pub adds-judged : (refusal : Option Refusal) (added : Added) (old new : Parts) → refusal ≡ None → Adds added old new → Adds (judged refusal added) old new
adds-judged refusal added old new none a = subst (λ r. Adds (judged r added) old new) (sym none) a

-- and what is
pub adds-refused : (refusal : Option Refusal) (r : Refusal) (added : Added) (old : Parts) → refusal ≡ Some r → Adds (judged refusal added) old old
adds-refused refusal r added old is = subst (λ x. Adds (judged x added) old old) (sym is) (adds-nothing old)

-- one of two, by a test
pub adds-chosen : (test is : Bool) (one other : Added) (old new : Parts) → test ≡ is → Adds (if is then one else other) old new → Adds (if test then one else other) old new
adds-chosen test is one other old new same adds = subst (λ (b : Bool). Adds (if b then one else other) old new) (sym same) adds

-- the same, said otherwise
pub adds-as : {T E : Type 0} (r : Result T E) (one other : Added) (old new : Parts) → one ≡ other → OnOk r (Adds one old new) → OnOk r (Adds other old new)
adds-as r one other old new is adds = subst (λ (a : Added). OnOk r (Adds a old new)) is adds

-- ---- octets that are opened
pub decoded-long : (profile : Profile) (octets : List ℕ) → 2147483647 < length octets → nothing ≡ decoded_octets profile octets
unfolding decoded_octets
decoded-long profile octets long = rw (lt-ltb 2147483647 (length octets) long) refl

pub decoded-opened : (profile : Profile) (octets : List ℕ) (o : OpenedOfCode) (found : FoundOfCode) → length octets ≤ 2147483647 → opened_of o ≡ opened octets → o.found ≡ found → decoded_under profile octets o.layers.now (found_of found) ≡ decoded_octets profile octets
unfolding decoded_octets
decoded-opened profile octets o found few is found_is =
    ap (λ (f : FoundOfCode). decoded_under profile octets o.layers.now (found_of f)) (sym found_is)
    ∙ ap (λ (x : Opened). decoded_under profile octets x.layers x.found) is
    ∙ rw (le-ltb 2147483647 (length octets) few) refl

-- a message in layers
pub part-decoded : {T E : Type 0} (r : Result T E) (profile : Profile) (layers : List Layer) (octets origin : List ℕ) (m : Message) (old new : Parts) → refusal_of profile octets ≡ None → m ≡ message_of_der octets → origin ≡ origin_text layers → OnOk r (Adds (decoded_found origin m) old new) → OnOk r (Adds (decoded_part profile layers octets) old new)
part-decoded r profile layers octets origin m old new none is_m is_origin adds =
    adds-as r (decoded_found origin m) (decoded_part profile layers octets) old new
    ((λ i. decoded_found (is_origin i) (is_m i)) ∙ ap (λ (found : Option Refusal). judged found (decoded_found (origin_text layers) (message_of_der octets))) (sym none))
    adds

-- ---- a Ticket
pub ticket-fits : (profile : Profile) (octets : List ℕ) (t : Ticket) → AreOfTicket profile octets t → Fits ticket (ticket_value t)
ticket-fits profile octets t are = subst (Fits ticket) (lenient_back profile false ticket (ticket_value t)) (lenient_fits profile false ticket (ticket_value_in profile t) are.fits)

pub ticket-form : (profile : Profile) (octets : List ℕ) (t : Ticket) → AreOfTicket profile octets t → der ticket (ticket_value t) ≡ octets
ticket-form profile octets t are = sym (der_profile profile false ticket (ticket_value t)) ∙ are.form

-- ---- a message that is no KRB-CRED
pub other-found : (origin : List ℕ) (m : MessageView) → ((cred : KrbCredView) → m ≡ view.KrbCred cred → ⊥) → decoded_found origin (message_of_view m) ≡ decoded_message origin (message_of_view m)
other-found origin (view.AsReq m) other = refl
other-found origin (view.AsRep m) other = refl
other-found origin (view.TgsReq m) other = refl
other-found origin (view.TgsRep m) other = refl
other-found origin (view.ApReq m) other = refl
other-found origin (view.ApRep m) other = refl
other-found origin (view.KrbSafe m) other = refl
other-found origin (view.KrbPriv m) other = refl
other-found origin (view.KrbCred m) other = absurd (other m refl)
other-found origin (view.KrbError m) other = refl

-- ---- items
abbrev pub tickets_in : List ℕ → List Ticket
tickets_in octets = map ticket_of (items_of ticket octets)

-- their octets
pub items-octets : (octets : List ℕ) → AreViewed ticket octets → octets ≡ flat_map (der ticket) (items_of ticket octets)
items-octets octets v = same_contents (tag_of (sequence_of ticket)) octets (contents (sequence_of ticket) (items_of ticket octets)) (v.items.form ∙ der_is (sequence_of ticket) (items_of ticket octets))

-- the first of them, before the others
pub record IsFirst (octets : List ℕ) (value : Value ticket) (rest : List ℕ) : Type 0 where
  pub fits : Fits ticket value
  pub form : octets ≡ der ticket value ++ rest

pub first-item : (octets : List ℕ) (value : Value ticket) (rest : List ℕ) → AreViewed ticket octets → items_of ticket octets ≡ value ∷ items_of ticket rest → AreViewed ticket rest → IsFirst octets value rest
first-item octets value rest v items w =
    let fit : AllByRecursion (Fits ticket) (value ∷ items_of ticket rest) = subst (AllByRecursion (Fits ticket)) items v.items.fits.1 in
    record {
      fits = fit.0;
      form = items-octets octets v ∙ ap (flat_map (der ticket)) items ∙ ap (λ l. der ticket value ++ l) (sym (items-octets rest w));
    }

pub split-first : (octets : List ℕ) (value : Value ticket) (rest : List ℕ) (size : ℕ) → IsFirst octets value rest → size ≡ length octets - length rest → take size octets ≡ der ticket value
split-first octets value rest size f e =
    let n : size ≡ length (der ticket value) = omega (arith, e, ap length f.form, length-append (der ticket value) rest) in
    ap₂ take n f.form ∙ take-append_seam (der ticket value) rest

-- ---- the tickets of a KRB-CRED, one after another
-- Some are added, and others are left, of which the first has an index.
pub record AreAdded (origin all octets : List ℕ) (index : ℕ) (old new : Parts) : Type 0 where
  pub added : Added
  pub adds : Adds added old new
  pub viewed : AreViewed ticket octets
  pub parts : decoded_tickets origin 0 (tickets_in all) ≡ both added (decoded_tickets origin index (tickets_in octets))
  pub few : index + length octets ≤ length all

pub none-added : (origin all : List ℕ) (old : Parts) → AreViewed ticket all → AreAdded origin all all 0 old old
none-added origin all old v = record { added = nothing; adds = adds-nothing old; viewed = v; parts = refl; few = omega arith }

-- the path of one of them
pub ticket-path : (index : ℕ) → codes "KRB-CRED.tickets[" ++ (decimal index ++ codes "].enc-part") ≡ element_path (codes "KRB-CRED.tickets") index ++ codes ".enc-part"
ticket-path index = ap (λ l. codes "KRB-CRED.tickets[" ++ l) (sym (append_assoc (decimal index) (codes "]") (codes ".enc-part")))

pub one-added : (origin all octets : List ℕ) (index : ℕ) (old between new : Parts) (value : Value ticket) (rest path : List ℕ) → AreAdded origin all octets index old between → items_of ticket octets ≡ value ∷ items_of ticket rest → AreViewed ticket rest → length rest < length octets
    → path ≡ element_path (codes "KRB-CRED.tickets") index ++ codes ".enc-part" → Adds (decoded_ticket origin path (ticket_of value)) between new → AreAdded origin all rest (index + 1) old new
one-added origin all octets index old between new value rest path a items viewed shorter is adds = record {
  added = both a.added (decoded_ticket origin path (ticket_of value));
  adds = adds-both a.added (decoded_ticket origin path (ticket_of value)) old between new a.adds adds;
  viewed = viewed;
  parts =
      a.parts
      ∙ ap (λ vs. both a.added (decoded_tickets origin index (map ticket_of vs))) items
      ∙ ap (λ p. both a.added (both (decoded_ticket origin p (ticket_of value)) (decoded_tickets origin (index + 1) (tickets_in rest)))) (sym is)
      ∙ sym (both-assoc a.added (decoded_ticket origin path (ticket_of value)) (decoded_tickets origin (index + 1) (tickets_in rest)));
  few = omega (arith, a.few, shorter);
}

pub all-added : (origin all octets : List ℕ) (index : ℕ) (old new : Parts) → AreAdded origin all octets index old new → items_of ticket octets ≡ [] → Adds (decoded_tickets origin 0 (tickets_in all)) old new
all-added origin all octets index old new a none =
    subst (λ x. Adds x old new) (sym (a.parts ∙ ap (λ vs. both a.added (decoded_tickets origin index (map ticket_of vs))) none ∙ both-nothing a.added)) a.adds
